-- The window of the next tick.
use Rattle.std.proofs.{Common.{◌≡◌, ℕ, ◌+◌, ◌-◌, ◌<◌, ◌≤◌, ◌^◌, ◌==◌, ◌%◌, ◌&&◌, is_some, Bool, true, false, ap, sym, ◌∙◌, subst, arith, inl, inr, Option, Some, None, unwrap_or, if◌then◌else◌}, lemmas.Bool.{cases_lt, eqb-true}, lemmas.Bool.Decides.nat_tests}
use Rattle.rb_base.specs.{Nodes.Side, Nodes.Side.{Biu, Rmu}, Sizes.{IsShape, sync_slot_of}, declared.values.Heard.Heard}
use Rattle.rb_rules.specs.{declared.message.Message.Message, declared.plan.Window.Window, Core.state_kept, ExactStage.says, Hearing.tail_at, Plan.IsPlan, Windows.window_at}
use Rattle.rb_rules.proofs.Slots.{few_slots}
use Rattle.rb_slot.specs.{Closable.IsOfFrame, Engines.{IsSameFrame, Seated}}
use Rattle.rb_slot.proofs.Fitting.{IsPlaced, placed}
use Rattle.rb_node.specs.Aheads.{IsEnded, IsWindowOf, following}
use Rattle.rb_node.proofs.{Numbering.{IsNumbered, follows, numbered}, Windows.{ends-soon, goes-on, has-ticks}}

-- a window that is found at a tick is that of the tick
pub found-here : (me : Side) (v : Seated) (k : ℕ) (w : Window) → IsShape v.sizes → IsPlan v.plan → v.state.epoch ≤ k → k ≤ 2 ^ 31
    → window_at v.sizes v.plan (k - v.state.epoch) ≡ Some w → IsWindowOf me v k w
found-here me v k w shape plan epoch soon found =
    let here : IsPlaced v.sizes w = placed v.sizes v.plan w shape plan (inl (k - v.state.epoch, found)) in
    let last : w.last ≤ 400000 = ends-soon v.sizes v.plan (k - v.state.epoch) w (few_slots v.sizes shape) plan found in
    record {
      is = sym (ap (λ o. unwrap_or o (tail_at v.sizes v.plan me v.state)) found);
      of_frame = inl (k - v.state.epoch, found);
      slot = here.slot;
      first = here.first;
      fits = omega arith;
    }

-- One that has ended.

-- a window that has ended below the sync slot has a number
pub ended-number : (v : Seated) (w : Window) (next : ℕ) → IsPlan v.plan → IsEnded v w next → w.slot < sync_slot_of v.sizes
    → (offset : ℕ) × IsNumbered v.sizes v.plan offset w
ended-number v w next plan ended below = elim ended.of_frame [
  | inl found ↦ (found.0, numbered v.sizes v.plan found.0 w (has-ticks v.plan plan) found.1 below)
  | inr tail ↦ let slot : w.slot ≡ sync_slot_of v.sizes = tail.slot in absurd (omega arith)
]

pub ended-soon : (v : Seated) (w : Window) (next : ℕ) → IsShape v.sizes → IsPlan v.plan → IsEnded v w next → w.slot < sync_slot_of v.sizes
    → w.last ≤ 400000
ended-soon v w next shape plan ended below = elim ended.of_frame [
  | inl found ↦ ends-soon v.sizes v.plan found.0 w (few_slots v.sizes shape) plan found.1
  | inr tail ↦ let slot : w.slot ≡ sync_slot_of v.sizes = tail.slot in absurd (omega arith)
]

pub ended-stage : (v : Seated) (w : Window) (next : ℕ) → IsPlan v.plan → IsEnded v w next → w.slot < sync_slot_of v.sizes → w.stage ≤ 3
ended-stage v w next plan ended below =
    let n = ended-number v w next plan ended below in
    let stage : w.stage ≡ n.1.number % 3 + 1 = ap (λ (x : Window). x.stage) n.1.is in
    omega arith

-- the next tick is in the window that follows the ended one
pub ended-follows : (me : Side) (v : Seated) (w x : Window) (next : ℕ) → IsShape v.sizes → IsPlan v.plan → v.state.epoch ≤ next → next ≤ 2 ^ 31
    → IsEnded v w next → w.slot < sync_slot_of v.sizes → x ≡ following v.plan w → IsWindowOf me v next x
ended-follows me v w x next shape plan epoch soon ended below is =
    let n = ended-number v w next plan ended below in
    let after : next ≡ v.state.epoch + w.last + 1 = ended.after in
    let offset : next - v.state.epoch ≡ w.last + 1 = omega arith in
    found-here me v next x shape plan epoch soon
    (ap (window_at v.sizes v.plan) offset ∙ follows v.sizes v.plan n.0 w (has-ticks v.plan plan) n.1 ∙ ap Some (sym is))

-- After a tick that says something, or nothing.

sent-window : (me : Side) (v : Seated) (k : ℕ) (w : Window) (sent : Option Heard) (b : Bool) → IsWindowOf me v k w
    → IsWindowOf me (record v { state = if b then record v.state { sent = sent } else v.state }) k w
sent-window Biu v k w sent true h = record { is = h.is; of_frame = h.of_frame; slot = h.slot; first = h.first; fits = h.fits }
sent-window Rmu v k w sent true h = record { is = h.is; of_frame = h.of_frame; slot = h.slot; first = h.first; fits = h.fits }
sent-window Biu v k w sent false h = record { is = h.is; of_frame = h.of_frame; slot = h.slot; first = h.first; fits = h.fits }
sent-window Rmu v k w sent false h = record { is = h.is; of_frame = h.of_frame; slot = h.slot; first = h.first; fits = h.fits }

kept-window : (me : Side) (v : Seated) (k word : ℕ) (w : Window) (m : Option Message) → IsWindowOf me v k w
    → IsWindowOf me (record v { state = state_kept v.sizes me v.index v.state word m }) k w
kept-window me v k word w None h = record { is = h.is; of_frame = h.of_frame; slot = h.slot; first = h.first; fits = h.fits }
kept-window me v k word w (Some m) h =
    sent-window me v k w (says v.sizes me v.index v.state m.slot m.stage word)
    ((m.stage == 1) && is_some (says v.sizes me v.index v.state m.slot m.stage word)) h

differs : (a b : ℕ) → false ≡ (a == b) → a ≡ b → ⊥
differs a b h e = let same : (a == b) ≡ true = grind (arith, nat_tests) in cc

-- if a window does not end with tick `now`, it is that of the next tick
lasts : (me : Side) (v : Seated) (now : ℕ) (w : Window) → IsPlan v.plan → v.state.epoch ≤ now → IsWindowOf me v now w
    → (now ≡ v.state.epoch + w.last → ⊥) → IsWindowOf me v (now + 1) w
lasts me v now w plan epoch h other = record {
  is = h.is
      ∙ sym (goes-on v.sizes v.plan me v.state now (now + 1) (has-ticks v.plan plan) epoch (omega arith)
      (subst (λ (x : Window). now ≤ v.state.epoch + x.last → now + 1 ≤ v.state.epoch + x.last) h.is (λ le. more (v.state.epoch + w.last) le other)));
  of_frame = h.of_frame;
  slot = h.slot;
  first = h.first;
  fits = h.fits;
}
  where
    more : (last : ℕ) → now ≤ last → (now ≡ last → ⊥) → now + 1 ≤ last
    more last le no_last = elim (cases_lt now last) [ inl lt ↦ omega arith | inr ge ↦ absurd (no_last (omega arith)) ]

-- the parts of a tick from when its window is known: the node says its message, and closes the
-- window or does not
pub record Ends (me : Side) (v1 v2 v3 : Seated) (now word : ℕ) (w : Window) (message : Option Message) (closed : Bool) : Type 0 where
  pub here : IsWindowOf me v1 now w
  pub kept : v2 ≡ record v1 { state = state_kept v1.sizes me v1.index v1.state word message }
  pub closes : closed ≡ (now == v2.state.epoch + w.last)
  pub same : IsSameFrame v2 v3
  pub stays : closed ≡ false → v3 ≡ v2

said-window : (me : Side) (v1 v2 v3 : Seated) (now word : ℕ) (w : Window) (message : Option Message) (closed : Bool)
    → Ends me v1 v2 v3 now word w message closed → IsWindowOf me v2 now w
said-window me v1 v2 v3 now word w message closed e =
    subst (λ x. IsWindowOf me x now w) (sym e.kept) (kept-window me v1 now word w message e.here)

pub going : (me : Side) (v1 v2 v3 : Seated) (now word : ℕ) (w : Window) (message : Option Message) (closed : Bool)
    → Ends me v1 v2 v3 now word w message closed → IsPlan v3.plan → v3.state.epoch ≤ now → closed ≡ false → IsWindowOf me v3 (now + 1) w
going me v1 v2 v3 now word w message closed e plan epoch not_closed =
    let is : v3 ≡ v2 = e.stays not_closed in
    let plan2 : IsPlan v2.plan = subst (λ (x : Seated). IsPlan x.plan) is plan in
    let epoch2 : v2.state.epoch ≤ now = subst (λ (x : Seated). x.state.epoch ≤ now) is epoch in
    subst (λ x. IsWindowOf me x (now + 1) w) (sym is)
    (lasts me v2 now w plan2 epoch2 (said-window me v1 v2 v3 now word w message closed e)
    (differs now (v2.state.epoch + w.last) (sym not_closed ∙ e.closes)))

-- a window that was closed has ended
pub ending : (me : Side) (v1 v2 v3 : Seated) (now word : ℕ) (w : Window) (message : Option Message) (closed : Bool)
    → Ends me v1 v2 v3 now word w message closed → closed ≡ true → IsEnded v3 w (now + 1)
ending me v1 v2 v3 now word w message closed e is_closed =
    let here : IsWindowOf me v2 now w = said-window me v1 v2 v3 now word w message closed e in
    let last : now ≡ v2.state.epoch + w.last = eqb-true now (v2.state.epoch + w.last) (sym e.closes ∙ is_closed) in
    record {
      of_frame = subst (λ s. IsOfFrame s v3.plan w) (sym e.same.sizes) (subst (λ p. IsOfFrame v2.sizes p w) (sym e.same.plan) here.of_frame);
      after = ap (λ k. k + 1) last ∙ ap (λ k. k + w.last + 1) (sym e.same.epoch);
    }
