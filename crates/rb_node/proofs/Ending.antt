-- Whether the next busy tick ends a window of a slot before the sync slot.
use Rattle.std.proofs.{Common.{◌≡◌, ℕ, ◌+◌, ◌<◌, ◌≤◌, ◌^◌, ◌==◌, nat_lt, true, false, ap, sym, ◌∙◌, subst, arith, inl, inr, Some}, lemmas.Bool.{cases_lt, eq-eqb, eqb-true}, lemmas.Bool.Decides.nat_tests, lemmas.Option.{none-some, same_Some}}
use Rattle.rb_base.specs.{Nodes.Side, Sizes.sync_slot_of}
use Rattle.rb_rules.specs.{declared.plan.Window.Window, Core.{Core, is_last, is_tick, next_tick, state_at, window_here}, NodeState.NodeState, SyncStage.new_epoch_of}
use Rattle.rb_slot.specs.Engines.{Seated}
use Rattle.rb_node.specs.{Aheads.{LooksAhead, window_of_tick}, Ends.EndsExactWindow, declared.ahead.Ahead.Ahead}
use Rattle.rb_node.proofs.{Busy.no-turn, Cores.{next-is, next-none}}

-- Tests on numbers.

pub not-below : (a b : ℕ) → b ≤ a → nat_lt a b ≡ true → ⊥
not-below a b le lt = let below : a < b = grind (arith, nat_tests) in omega (arith, le, below)

-- What is kept.

-- the tick that is kept is the core's next
pub kept-next : (me : Side) (v : Seated) (had : ℕ) (a : Ahead) (c : Core) (k : ℕ) → LooksAhead me v had a → c.state ≡ v.state → c.had ≡ had
    → next_tick v.sizes v.plan me v.index c ≡ Some k → a.busy.tick ≡ k
kept-next me v had a c k l state had_is next =
    elim (cases_lt a.busy.tick (2 ^ 31)) [
      | inl below ↦ same_Some a.busy.tick k (sym (next-is me v c had a.busy.tick state had_is l.next below) ∙ next)
      | inr end ↦ absurd (none-some k (sym (next-none me v c had a.busy.tick state had_is l.next end) ∙ next))
    ]

-- if the core does not turn at the kept tick, the node does not
pub kept-stays : (me : Side) (v : Seated) (had : ℕ) (a : Ahead) (c : Core) (k : ℕ) → LooksAhead me v had a → c.state ≡ v.state → c.had ≡ had
    → next_tick v.sizes v.plan me v.index c ≡ Some k → is_tick (new_epoch_of v.plan me c.state) k ≡ false
    → is_tick (new_epoch_of v.plan me v.state) a.busy.tick ≡ false
kept-stays me v had a c k l state had_is next stays =
    ap (is_tick (new_epoch_of v.plan me v.state)) (kept-next me v had a c k l state had_is next)
    ∙ ap (λ (st : NodeState). is_tick (new_epoch_of v.plan me st) k) (sym state) ∙ stays

pub stays-kept : (me : Side) (v : Seated) (had : ℕ) (a : Ahead) (c : Core) (k : ℕ) → LooksAhead me v had a → c.state ≡ v.state → c.had ≡ had
    → next_tick v.sizes v.plan me v.index c ≡ Some k → is_tick (new_epoch_of v.plan me v.state) a.busy.tick ≡ false
    → is_tick (new_epoch_of v.plan me c.state) k ≡ false
stays-kept me v had a c k l state had_is next stays =
    ap (λ (st : NodeState). is_tick (new_epoch_of v.plan me st) k) state
    ∙ ap (is_tick (new_epoch_of v.plan me v.state)) (sym (kept-next me v had a c k l state had_is next)) ∙ stays

-- the window that is kept is that of the busy tick
pub window-kept : (me : Side) (v : Seated) (had : ℕ) (a : Ahead) → LooksAhead me v had a → a.window ≡ window_of_tick me v a.busy.tick
window-kept me v had a l = l.window.is ∙ sym (l.next.here a.busy.tick l.next.later (let same : a.busy.tick ≤ a.busy.tick = omega arith in same))

pub ends-kept : (me : Side) (v : Seated) (had : ℕ) (a : Ahead) (c : Core) (k : ℕ) → LooksAhead me v had a → c.state ≡ v.state → c.had ≡ had
    → next_tick v.sizes v.plan me v.index c ≡ Some k → a.window.slot < sync_slot_of v.sizes → v.state.epoch + a.window.last ≡ a.busy.tick
    → is_tick (new_epoch_of v.plan me v.state) a.busy.tick ≡ false → EndsExactWindow v.sizes v.plan me c.state k
ends-kept me v had a c k l state had_is next slot last stays =
    subst (λ (st : NodeState). EndsExactWindow v.sizes v.plan me st k) (sym state)
    (subst (EndsExactWindow v.sizes v.plan me v.state) (kept-next me v had a c k l state had_is next)
    (record {
      last = ap (λ (st : NodeState). is_last v.sizes v.plan me st a.busy.tick) (no-turn v me a.busy.tick stays)
          ∙ ap (λ (w : Window). a.busy.tick == v.state.epoch + w.last) (sym (window-kept me v had a l))
          ∙ eq-eqb a.busy.tick (v.state.epoch + a.window.last) (sym last);
      slot = subst (λ (st : NodeState). (window_here v.sizes v.plan me st a.busy.tick).slot < sync_slot_of v.sizes) (sym (no-turn v me a.busy.tick stays))
          (subst (λ (w : Window). w.slot < sync_slot_of v.sizes) (window-kept me v had a l) slot);
    }))

-- the kept tick is the last of the kept window, which is below the sync slot
pub record ShowsEnd (v : Seated) (a : Ahead) : Type 0 where
  pub slot : a.window.slot < sync_slot_of v.sizes
  pub last : v.state.epoch + a.window.last ≡ a.busy.tick

pub kept-ends : (me : Side) (v : Seated) (had : ℕ) (a : Ahead) (c : Core) (k : ℕ) → LooksAhead me v had a → c.state ≡ v.state → c.had ≡ had
    → next_tick v.sizes v.plan me v.index c ≡ Some k → is_tick (new_epoch_of v.plan me c.state) k ≡ false
    → EndsExactWindow v.sizes v.plan me c.state k → ShowsEnd v a
kept-ends me v had a c k l state had_is next stays ends =
    let no_turn : state_at v.sizes v.plan me v.state a.busy.tick ≡ v.state =
    no-turn v me a.busy.tick (kept-stays me v had a c k l state had_is next stays) in
    let here : EndsExactWindow v.sizes v.plan me v.state a.busy.tick =
    subst (EndsExactWindow v.sizes v.plan me v.state) (sym (kept-next me v had a c k l state had_is next))
    (subst (λ (st : NodeState). EndsExactWindow v.sizes v.plan me st k) state ends) in
    record {
      slot = subst (λ (w : Window). w.slot < sync_slot_of v.sizes) (sym (window-kept me v had a l))
          (subst (λ (st : NodeState). (window_here v.sizes v.plan me st a.busy.tick).slot < sync_slot_of v.sizes) no_turn here.slot);
      last = sym (eqb-true a.busy.tick (v.state.epoch + a.window.last)
          (ap (λ (w : Window). a.busy.tick == v.state.epoch + w.last) (window-kept me v had a l)
          ∙ ap (λ (st : NodeState). is_last v.sizes v.plan me st a.busy.tick) (sym no_turn) ∙ here.last));
    }
