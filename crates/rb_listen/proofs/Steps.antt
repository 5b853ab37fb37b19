-- The parts of a follower's tick make the core's act.
use Rattle.std.proofs.{Common.{◌≡◌, ℕ, ◌+◌, ◌*◌, ◌<◌, ◌≤◌, ◌^◌, ◌==◌, ◌-◌, Bool, true, false, refl, ap, sym, ◌∙◌, subst, arith, Option, Some, None, List, if◌then◌else◌, unwrap_or, option_map}, lemmas.Bool.Decides.nat_tests}
use Rattle.rb_base.specs.{Nodes.Side.Biu, Sizes.{IsShape, Sizes, sync_slot_of}}
use Rattle.rb_rules.specs.{declared.closing.Closed.Closed, declared.plan.Window.Window, declared.record.Epoch.Epoch, Conviction.turn, Core.{Act, Core, act_on, is_tick, state_at}, ExactStage.{Outcome, close_exact, outcome_of}, Hearing.{tail_at}, NodeState.NodeState, Plan.IsPlan, SyncStage.{close_sync, new_epoch_of}, Windows.window_at, declared.sense.Sense.Sense}
use Rattle.rb_eligible.specs.Inboxes.{HoldsArrivals, KeptArrivals, Received}
use Rattle.rb_slot.specs.Engines.{IsSameFrame, Seated, outcome_on}
use Rattle.rb_node.specs.{Aheads.window_of_tick, Cores.{IsCore, Running, received_of}, declared.act.Step.Step}
use Rattle.rb_node.proofs.{Busy.{no-turn, turned-epoch}, Steps.{Gives, Nothing, Parts, gives-on, nothing-quiet, nothing-spent, turned-frame}, Windows.{first-is, has-ticks}}
use Rattle.rb_listen.specs.{Following.{follow, follow_at, wakes}, Waking.{IfKnown, wakes_at}}
use Rattle.rb_listen.proofs.Waking.{follow-now, follow-spent, quiet-tick}

-- the act of a core at tick `now` in the state `s`
abbrev follow-in : Seated → Core → NodeState → ℕ → Act
follow-in v c s now = act_on v.sizes v.plan Biu 16 c (state_at v.sizes v.plan Biu s now) None (state_at v.sizes v.plan Biu s now)

pub gives : (v v1 v2 : Seated) (now : ℕ) (w : Window) (epoch : Option Epoch) (closed : Bool) (before after : Closed) (inbox rest : KeptArrivals)
    → v.index ≡ 16 → Parts Biu v v1 v1 v2 now w epoch closed before after inbox rest
    → now < 2 ^ 31 → (c : Core) → c.state ≡ v.state → c.had ≡ now → HoldsArrivals inbox (received_of c.inbox)
    → Gives Biu (record { seat = v2; had = now + 1; inbox = rest; shown = after }) (record { epoch = epoch; message = None; closed = closed })
    (follow v.sizes v.plan c)
gives v v1 v2 now w epoch closed before after inbox rest index p below c state had holds =
    let st : NodeState = state_at v.sizes v.plan Biu v.state now in
    let act : follow v.sizes v.plan c ≡ act_on v.sizes v.plan Biu v.index c st None st =
    follow-now v.sizes v.plan c (omega arith) ∙ ap (λ s. follow-in v c s c.had) state ∙ ap (follow-in v c v.state) had
    ∙ ap (λ i. act_on v.sizes v.plan Biu i c st None st) (sym index) in
    let n : Running = record { seat = v2; had = now + 1; inbox = rest; shown = after } in
    subst (λ x. Gives Biu n (record { epoch = epoch; message = None; closed = closed }) x) (sym act)
    (gives-on Biu v v1 v1 v2 now w epoch None st closed before after inbox rest p p.turned refl c state had holds)

-- Ticks at which nothing happens.

pub spent-gives : (n : Running) (s : Step) (c : Core) → Nothing s → IsCore n c → 2 ^ 31 ≤ n.had → Gives Biu n s (follow_at n c)
spent-gives n s c is core spent =
    let had : c.had ≡ n.had = core.had in
    nothing-spent Biu n s c _ is core (follow-spent n.seat.sizes n.seat.plan c (omega arith))

pub quiet-gives : (n : Running) (s : Step) (c : Core) → Nothing s → IsCore n c → wakes_at n.seat n.had ≡ false → n.had < 2 ^ 31
    → Gives Biu (record n { had = n.had + 1 }) s (follow_at n c)
quiet-gives n s c is core quiet below =
    let had : c.had ≡ n.had = core.had in
    let here : wakes n.seat.sizes n.seat.plan c.state c.had ≡ false =
    ap (λ st. wakes n.seat.sizes n.seat.plan st c.had) core.state ∙ ap (wakes_at n.seat) had ∙ quiet in
    nothing-quiet Biu n s c _ is core (quiet-tick n.seat.sizes n.seat.plan c here (omega arith))

-- What does not run ahead.

-- a close below the sync slot leaves the middles
exact-middle : (sizes : Sizes) (i : ℕ) (st : NodeState) (slot stage : ℕ) (sense : ℕ → Sense) → (close_exact sizes Biu i st slot stage sense).state.k2 ≡ st.k2
unfolding close_exact outcome_of
exact-middle sizes i st slot stage sense = refl

closes-middle : (sizes : Sizes) (i : ℕ) (st : NodeState) (slot stage first : ℕ) (sense : ℕ → Sense) (b : Bool) → b ≡ false
    → (elim b as (λ _. Outcome) [ true ↦ close_sync sizes Biu st stage (st.epoch + first) sense | false ↦ close_exact sizes Biu i st slot stage sense ]).state.k2 ≡ st.k2
closes-middle sizes i st slot stage first sense true h = cc
closes-middle sizes i st slot stage first sense false h = exact-middle sizes i st slot stage sense

middle-by : (a b : Option ℕ) (closed : Bool) → a ≡ b → (if closed then a else b) ≡ b
middle-by a b true h = h
middle-by a b false h = refl

if-middle : (a b : NodeState) (closed : Bool) → a.k2 ≡ b.k2 → (if closed then a else b).k2 ≡ b.k2
if-middle a b true h = h
if-middle a b false h = refl

closed-middle : (v v2 : Seated) (w : Window) (received : List Received) (closed : Bool) → (w.slot == sync_slot_of v.sizes) ≡ false
    → v2 ≡ record v { state = if closed then (outcome_on Biu v w received).state else v.state } → v2.state.k2 ≡ v.state.k2
closed-middle v v2 w received closed below is =
    ap (λ (x : Seated). x.state.k2) is
    ∙ if-middle (outcome_on Biu v w received).state v.state closed
    (closes-middle v.sizes v.index v.state w.slot w.stage w.first _ (w.slot == sync_slot_of v.sizes) below)

-- a frame begins below the sync slot
first-below : (v : Seated) (w : Window) (k : ℕ) → IsShape v.sizes → IsPlan v.plan → v.state.epoch ≡ k → w ≡ window_of_tick Biu v k
    → (w.slot == sync_slot_of v.sizes) ≡ false
first-below v w k shape plan e is =
    let some : 1 ≤ v.sizes.bius = shape.some_biu in
    let none : k - v.state.epoch ≡ 0 = omega arith in
    let slot : w.slot ≡ 0 =
    ap (λ (x : Window). x.slot)
    (is ∙ ap (λ o. unwrap_or o (tail_at v.sizes v.plan Biu v.state)) (ap (window_at v.sizes v.plan) none ∙ first-is v.sizes v.plan (has-ticks v.plan plan) (omega arith))) in
    let zero_is : (0 == sync_slot_of v.sizes) ≡ false = grind (arith, nat_tests) in
    ap (λ s. s == sync_slot_of v.sizes) slot ∙ zero_is

-- after a turn the frame is one more, it begins with tick `k`, and no middle is known. Without a
-- turn all is as it was
pub data Turned (v v1 : Seated) (k : ℕ) : Type 0 where
  Turns : v1.state.frame ≡ v.state.frame + 1 → v1.state.epoch ≡ k → v1.state.k2 ≡ None → v.state.epoch + 2 ≤ k → Turned v v1 k
  Stays : v1.state.frame ≡ v.state.frame → v1.state.epoch ≡ v.state.epoch → v1.state.k2 ≡ v.state.k2 → Turned v v1 k

forgets : (v : Seated) (k : ℕ) (next : Option ℕ) → is_tick next k ≡ true
    → (elim next as (λ _. NodeState) [ None ↦ v.state | Some epoch ↦ turn v.sizes v.plan.probation Biu epoch v.state ]).k2 ≡ None
unfolding turn
forgets v k None h = cc
forgets v k (Some epoch) h = refl

turned-middle : (v : Seated) (k : ℕ) → is_tick (new_epoch_of v.plan Biu v.state) k ≡ true → (state_at v.sizes v.plan Biu v.state k).k2 ≡ None
unfolding state_at
turned-middle v k h = rw (h, state_at) (forgets v k (new_epoch_of v.plan Biu v.state) h)

two-ticks : (v : Seated) (k : ℕ) (k2 : Option ℕ) → IfKnown v k k2 → is_tick (option_map (λ x. x + v.plan.v + v.plan.z + v.plan.c) k2) k ≡ true
    → v.state.epoch + 2 ≤ k
two-ticks v k None known h = cc
two-ticks v k (Some x) known h = known

pub turns : (v v1 : Seated) (k : ℕ) → v1 ≡ record v { state = state_at v.sizes v.plan Biu v.state k } → IfKnown v k v.state.k2 → Turned v v1 k
turns v v1 k is known = subst (λ x. Turned v x k) (sym is) (by (is_tick (new_epoch_of v.plan Biu v.state) k) refl)
  where
    by : (b : Bool) → is_tick (new_epoch_of v.plan Biu v.state) k ≡ b → Turned v (record v { state = state_at v.sizes v.plan Biu v.state k }) k
    by true e = Turns (turned-frame v Biu k e) (turned-epoch v Biu k e) (turned-middle v k e) (two-ticks v k v.state.k2 known e)
    by false e = subst (λ s. Turned v (record v { state = s }) k) (sym (no-turn v Biu k e)) (Stays refl refl refl)

-- What holds between two calls holds after a busy tick.

pub record Kept (v v2 : Seated) (now : ℕ) : Type 0 where
  pub index : v2.index ≡ v.index
  pub epoch : v2.state.epoch ≤ now
  pub frame : 2 * v2.state.frame ≤ 131072 + v2.state.epoch
  pub known : IfKnown v2 (now + 1) v2.state.k2

pub none-known : (v : Seated) (had : ℕ) (o : Option ℕ) → o ≡ None → IfKnown v had o
none-known v had None h = tt
none-known v had (Some k) h = cc

late-known : (v : Seated) (had : ℕ) (o : Option ℕ) → v.state.epoch + 2 ≤ had → IfKnown v had o
late-known v had None h = tt
late-known v had (Some k) h = h

before-known : (v v2 : Seated) (now : ℕ) (o : Option ℕ) → v2.state.epoch ≡ v.state.epoch → IfKnown v now o → IfKnown v2 (now + 1) o
before-known v v2 now None e h = tt
before-known v v2 now (Some k) e h = omega arith

pub keeps : (v v1 v2 : Seated) (now : ℕ) (w : Window) (received : List Received) (closed : Bool) → v.state.epoch ≤ now → 2 * v.state.frame ≤ 131072 + v.state.epoch → IfKnown v now v.state.k2
    → v1 ≡ record v { state = state_at v.sizes v.plan Biu v.state now } → w ≡ window_of_tick Biu v1 now → IsShape v1.sizes → IsPlan v1.plan
    → IsSameFrame v1 v2 → v2 ≡ record v1 { state = if closed then (outcome_on Biu v1 w received).state else v1.state } → Kept v v2 now
keeps v v1 v2 now w received closed epoch frame known turned window shape plan same closes =
    let index : v2.index ≡ v.index = same.index ∙ ap (λ (x : Seated). x.index) turned in
    let f : v2.state.frame ≡ v1.state.frame = same.frame in
    let e : v2.state.epoch ≡ v1.state.epoch = same.epoch in
    let begins : v1.state.epoch ≡ now → v2.state.k2 ≡ v1.state.k2 = λ at. closed-middle v1 v2 w received closed (first-below v1 w now shape plan at window) closes in
    elim (turns v v1 now turned known) [
      | Turns f1 e1 none two ↦ record {
        index = index;
        epoch = omega arith;
        frame = omega arith;
        known = none-known v2 (now + 1) v2.state.k2 (begins e1 ∙ none);
      }
      | Stays f1 e1 k1 ↦ record {
        index = index;
        epoch = omega arith;
        frame = omega arith;
        known = by-epoch v v1 v2 now (e ∙ e1) e1 k1 epoch known begins;
      }
    ]
  where
    by-epoch : (v v1 v2 : Seated) (now : ℕ) → v2.state.epoch ≡ v.state.epoch → v1.state.epoch ≡ v.state.epoch → v1.state.k2 ≡ v.state.k2 → v.state.epoch ≤ now
        → IfKnown v now v.state.k2 → (v1.state.epoch ≡ now → v2.state.k2 ≡ v1.state.k2) → IfKnown v2 (now + 1) v2.state.k2
    by-epoch v v1 v2 now e2 e1 k1 le known begins = at (v.state.epoch == now) refl
      where
        at : (b : Bool) → (v.state.epoch == now) ≡ b → IfKnown v2 (now + 1) v2.state.k2
        at true h =
            let is : v.state.epoch ≡ now = grind (arith, nat_tests) in
            before-known v v2 now v2.state.k2 e2 (subst (IfKnown v now) (sym (begins (e1 ∙ is) ∙ k1)) known)
        at false h =
            let less : v.state.epoch + 1 ≤ now = grind (arith, nat_tests) in
            late-known v2 (now + 1) v2.state.k2 (omega arith)
