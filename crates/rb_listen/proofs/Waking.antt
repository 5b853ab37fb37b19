-- Which tick of a follower is the next one that is not quiet, and what quiet ticks do.
use Rattle.std.proofs.{Common.{◌≡◌, ℕ, zero, suc, ◌+◌, ◌-◌, ◌<◌, ◌≤◌, ◌^◌, ◌==◌, Bool, true, false, refl, ap, sym, ◌∙◌, arith, Option, Some, None, []}, lemmas.Bool.{or_parts}}
use Rattle.rb_base.specs.{Nodes.Side.Biu, Sizes.Sizes}
use Rattle.rb_rules.specs.{declared.plan.Plan.Plan, declared.record.Epoch.Epoch, Core.{Act, Core, act_on, epoch_at, is_last, of_source, state_at, window_here}, ExactStage.Outcome, Hearing.{close_window, epoch_of}, NodeState.NodeState}
use Rattle.rb_rules.proofs.{QuietTicks.{not-spent, nothing, state-same}}
use Rattle.rb_slot.specs.Engines.{Seated}
use Rattle.rb_eligible.specs.Inboxes.{KeptArrivals}
use Rattle.rb_node.specs.{Aheads.{IsNextWake, wakes as wakes_of}, Cores.Running}
use Rattle.rb_node.proofs.{Between.{next-on, window-on}, Cores.{IsSearch, found, found-end, found-none, spent-is}}
use Rattle.rb_listen.specs.{Following.{follow, follows, next_wake, passing_end, wake_among, wakes}, Waking.{IfKnown, IsFollowing, wakes_at}, declared.ahead.Ahead.Ahead}

-- The next waking tick is found.

abbrev wake_from : Seated → ℕ → ℕ → Option ℕ
wake_from v = wake_among v.sizes v.plan v.state

wake-search : (v : Seated) → IsSearch (wakes_at v) (wake_from v)
wake-search v = record { none = λ k. refl; step = λ n k. refl }

-- the next waking tick of a core in the follower's state is found by that state
next-at : (v : Seated) (c : Core) (had : ℕ) → c.state ≡ v.state → c.had ≡ had
    → next_wake v.sizes v.plan c ≡ wake_among v.sizes v.plan v.state (2 ^ 31 - had) had
next-at v c had s h =
    ap (λ st. wake_among v.sizes v.plan st (2 ^ 31 - c.had) c.had) s
    ∙ ap (λ n. wake_among v.sizes v.plan v.state (2 ^ 31 - n) n) h

pub next-is : (v : Seated) (c : Core) (had k : ℕ) → c.state ≡ v.state → c.had ≡ had → IsNextWake Biu v had k → k < 2 ^ 31
    → next_wake v.sizes v.plan c ≡ Some k
next-is v c had k s h next below = next-at v c had s h ∙ found (wakes_at v) (wake_from v) Biu v had k (wake-search v) next below

pub next-none : (v : Seated) (c : Core) (had k : ℕ) → c.state ≡ v.state → c.had ≡ had → IsNextWake Biu v had k → 2 ^ 31 ≤ k
    → next_wake v.sizes v.plan c ≡ None
next-none v c had k s h next end = next-at v c had s h ∙ found-none (wakes_at v) (wake_from v) Biu v had k (wake-search v) next end

pub passing-is : (n : Running) (k : ℕ) → IsNextWake Biu n.seat n.had k → passing_end n ≡ k
passing-is n k next = found-end (wakes_at n.seat) (wake_from n.seat) Biu n.seat n.had k (wake-search n.seat) next

-- What is kept stays as it is up to the next waking tick.

known-on : (v : Seated) (had m : ℕ) (o : Option ℕ) → had ≤ m → IfKnown v had o → IfKnown v m o
known-on v had m None le h = tt
known-on v had m (Some k) le h = omega arith

pub runs-on : (v : Seated) (had m : ℕ) (inbox : KeptArrivals) (a : Ahead) → IsFollowing v had inbox a → had ≤ m → m ≤ a.tick
    → IsFollowing v m inbox a
runs-on v had m inbox a r lo hi =
    let most : a.tick ≤ 2 ^ 31 = r.ahead.next.most in
    let epoch : v.state.epoch ≤ had = r.epoch in
    record {
      most = omega arith;
      index = r.index;
      epoch = omega arith;
      frame = r.frame;
      known = known-on v had m v.state.k2 lo r.known;
      stamps = r.stamps;
      ahead = record {
        next = next-on (wakes_at v) Biu v had m a.tick r.ahead.next lo hi;
        window = window-on (wakes_at v) Biu v had m a.tick a.window r.ahead.next r.ahead.window lo hi;
      };
    }

-- A quiet tick is counted.

abbrev spent-act : Core → Act
spent-act c = record { core = c; epoch = None; message = None; closed = None }

pub follow-spent : (sizes : Sizes) (plan : Plan) (c : Core) → 2 ^ 31 ≤ c.had
    → follow sizes plan c ≡ record { core = c; epoch = None; message = None; closed = None }
unfolding follow
follow-spent sizes plan c h =
    ap (λ b. elim b as (λ _. Act) [ true ↦ spent-act c | false ↦ act_on sizes plan Biu 16 c (state_at sizes plan Biu c.state c.had) None (state_at sizes plan Biu c.state c.had) ])
    (spent-is c h)

pub follow-now : (sizes : Sizes) (plan : Plan) (c : Core) → c.had < 2 ^ 31
    → follow sizes plan c ≡ act_on sizes plan Biu 16 c (state_at sizes plan Biu c.state c.had) None (state_at sizes plan Biu c.state c.had)
unfolding follow
follow-now sizes plan c h =
    ap (λ b. elim b as (λ _. Act) [ true ↦ spent-act c | false ↦ act_on sizes plan Biu 16 c (state_at sizes plan Biu c.state c.had) None (state_at sizes plan Biu c.state c.had) ])
    (not-spent c h)

-- an act that closes no window and begins no frame does nothing
no-act : (sizes : Sizes) (plan : Plan) (c : Core) → (c.state.epoch == c.had) ≡ false → is_last sizes plan Biu c.state c.had ≡ false
    → act_on sizes plan Biu 16 c c.state None c.state ≡ nothing c
unfolding act_on
no-act sizes plan c begins closes =
    let x : Outcome = close_window sizes plan Biu 16 c.state (window_here sizes plan Biu c.state c.had) (of_source c.inbox) in
    let begin : Bool → Option Epoch = λ b. elim b [ true ↦ Some (epoch_of sizes Biu c.state) | false ↦ None ] in
    let act : Bool → Option Epoch → Act = λ b e. elim b [
      | true ↦ record { core = record { state = x.state; had = c.had + 1; inbox = [] }; epoch = e; message = None; closed = Some x.closed }
      | false ↦ record { core = record { state = c.state; had = c.had + 1; inbox = c.inbox }; epoch = e; message = None; closed = None }
    ] in
    ap (λ b. act b (epoch_at sizes Biu c.state c.had)) closes ∙ ap (λ b. act false (begin b)) begins

quiet-act : (sizes : Sizes) (plan : Plan) (c : Core) → wakes sizes plan c.state c.had ≡ false
    → act_on sizes plan Biu 16 c (state_at sizes plan Biu c.state c.had) None (state_at sizes plan Biu c.state c.had) ≡ nothing c
unfolding wakes_of
quiet-act sizes plan c quiet =
    let now : NodeState = state_at sizes plan Biu c.state c.had in
    let parts = or_parts (now.epoch == c.had) (is_last sizes plan Biu now c.had) quiet in
    let same : now ≡ c.state = state-same sizes plan Biu c.state c.had parts.0 in
    ap (λ st. act_on sizes plan Biu 16 c st None st) same
    ∙ no-act sizes plan c (ap (λ (s : NodeState). s.epoch == c.had) (sym same) ∙ parts.0) (ap (λ s. is_last sizes plan Biu s c.had) (sym same) ∙ parts.1)

pub quiet-tick : (sizes : Sizes) (plan : Plan) (c : Core) → wakes sizes plan c.state c.had ≡ false → c.had < 2 ^ 31
    → follow sizes plan c ≡ nothing c
quiet-tick sizes plan c quiet below = follow-now sizes plan c below ∙ quiet-act sizes plan c quiet

pub quiet-ticks : (sizes : Sizes) (plan : Plan) (n : ℕ) (c : Core) → ((k : ℕ) → c.had ≤ k → k < c.had + n → wakes sizes plan c.state k ≡ false)
    → c.had + n ≤ 2 ^ 31 → follows sizes plan n c ≡ record c { had = c.had + n }
quiet-ticks sizes plan zero c q h = let e : c.had + 0 ≡ c.had = omega arith in rw e refl
quiet-ticks sizes plan (suc n) c q h =
    let one : follow sizes plan c ≡ nothing c = quiet-tick sizes plan c (q c.had (omega arith) (omega arith)) (omega arith) in
    let e : c.had + 1 + n ≡ c.had + suc n = omega arith in
    let rest : follows sizes plan n (nothing c).core ≡ record c { had = c.had + 1 + n } =
    quiet-ticks sizes plan n (nothing c).core (λ k lo hi. q k (omega arith) (omega arith)) (omega arith) in
    ap (λ x. follows sizes plan n x.core) one ∙ rest ∙ ap (λ m. record c { had = m }) e

-- n ticks pass, up to the next busy one
pub passes : (v : Seated) (c : Core) (had k n : ℕ) → c.state ≡ v.state → c.had ≡ had → IsNextWake Biu v had k → had + n ≤ k
    → follows v.sizes v.plan n c ≡ record c { had = c.had + n }
passes v c had k n s h next le =
    let most : k ≤ 2 ^ 31 = next.most in
    quiet-ticks v.sizes v.plan n c (λ m lo hi. ap (λ st. wakes v.sizes v.plan st m) s ∙ next.quiet m (omega arith) (omega arith)) (omega arith)
