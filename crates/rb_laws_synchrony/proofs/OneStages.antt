-- One stage of the sync slot, whatever comes of the nodes that are not good.
use Rattle.std.proofs.{Common.{◌≡◌, ℕ, zero, suc, ◌+◌, ◌-◌, ◌<◌, ◌≤◌, ◌==◌, ◌&&◌, inl, inr, Bool, true, false, map, not, Option, Some, None, is_some, unwrap_or, if◌then◌else◌, refl, sym, ◌∙◌, ap, subst, arith}, lemmas.Bool.{and_from, not-true}, lemmas.Bool.Decides.nat_tests, lemmas.Option.same_Some}
use Rattle.rb_base.specs.{Counting.numbers, Nodes.has}
use Rattle.rb_base.proofs.Plain.{and_first, and_second}
use Rattle.rb_rules.specs.{declared.plan.Plan.Plan, declared.role.Role.TheVariants.Sync, Clock.{IsStamp, Timeline, stamp_of, time_of}, ExactStage.present, Middle.IsMiddle, Plan.{longest_of, shortest_of}, Sense.stamp_in, Slots.listens, Standing.{does_wrong, has_evidence}, SyncStage.{close_sync, expects_call, sync_closing_of, sync_outcome_of}}
use Rattle.rb_rules.proofs.{Drift.{HasLengths, clock_moves, has_lengths, stamp_near, times_rise_to}, Middles.{AreNear, IsBetween}, Stamps.{Moves, stamp_of-is, stamps_rise}, Standings.{expected_is_taken, others_stay, right_is_no_evidence}}
use Rattle.rb_laws_synchrony.specs.OneStage.{HearNear, HearsGoodCalls, IsCalledBetween, Listener, MiddlesAreNear, MiddlesLieAmongGoodCalls, TakeNear, middle_kept, stamp_taken, state_after}
use Rattle.rb_laws_synchrony.proofs.Middles.{BothNear, HasStamp, middle_times_near, middle_within, some_middle}

-- The clock.

lengths : {plan good low high x : _} → HearsGoodCalls plan good low high x → HasLengths (shortest_of plan) (longest_of plan) x.clock
lengths {plan} {x} c = has_lengths (shortest_of plan) (longest_of plan) x.clock c.clock

moves : {plan good low high x : _} → HearsGoodCalls plan good low high x → Moves x.clock
moves {plan} {x} c = clock_moves (shortest_of plan) (longest_of plan) x.clock c.ticks c.clock

-- a stamp past tick 0 is no earlier than its time, and no more than a tick later
pub record IsNear (plan : Plan) (clock : Timeline) (time stamp : ℕ) : Type 0 where
  pub reached : time ≤ time_of clock stamp
  pub near : 1 ≤ stamp → time_of clock stamp ≤ time + longest_of plan
  pub some : clock.start < time → 1 ≤ stamp

is-near : (plan : Plan) {clock : _} → HasLengths (shortest_of plan) (longest_of plan) clock
    → {time : ℕ} (stamp : ℕ) → IsStamp clock time stamp → IsNear plan clock time stamp
is-near plan {clock} within {time} zero is = record { reached = is.reached; near = λ some. absurd (omega arith); some = λ begun. let reached : time ≤ clock.start = is.reached in absurd (omega arith) }
is-near plan {clock} within {time} (suc tick) is = record {
  reached = is.reached;
  near = λ some. omega (arith, stamp_near clock (longest_of plan) (λ k. (within k).1) time tick is);
  some = λ begun. omega arith;
}

stamp-near : {plan good low high x : _} → HearsGoodCalls plan good low high x → (time : ℕ) → IsNear plan x.clock time (stamp_of x.clock time)
stamp-near {plan} {x} c time =
    is-near plan (lengths c) (stamp_of x.clock time) (stamp_of-is x.clock (moves c) time)

-- The middle.

pick : (l a b c : Bool) (m k1 k2 k3 : Option ℕ) → l ≡ true → (a ≡ false → b ≡ false → c ≡ true)
    → (if a then (if l && a then m else k1) else (if b then (if l && b then m else k2) else (if l && c then m else k3))) ≡ m
pick true true b c m k1 k2 k3 e h = refl
pick true false true c m k1 k2 k3 e h = refl
pick true false false c m k1 k2 k3 e h = ap (λ c. if c then m else k3) (h refl refl)
pick false a b c m k1 k2 k3 e h = cc

third : (stage : ℕ) → 1 ≤ stage → stage ≤ 3 → (stage == 1) ≡ false → (stage == 2) ≡ false → (stage == 3) ≡ true
third stage low high a b = grind (arith, nat_tests)

-- the middle that is kept is that of the close
kept-is : (x : Listener) → listens x.me Sync x.stage ≡ true → 1 ≤ x.stage → x.stage ≤ 3
    → middle_kept x ≡ Some (sync_closing_of x.state.far (expects_call x.me x.state x.stage) x.came x.first).middle
unfolding close_sync sync_outcome_of
kept-is x listening low high =
    pick (listens x.me Sync x.stage) (x.stage == 1) (x.stage == 2) (x.stage == 3)
    (Some (sync_closing_of x.state.far (expects_call x.me x.state x.stage) x.came x.first).middle) x.state.k1 x.state.k2 x.state.k3 listening
    (third x.stage low high)

-- a good source is expected and eligible, so its call is taken
expected : {plan good low high x : _} → HearsGoodCalls plan good low high x → (j : ℕ) → good j ≡ true → expects_call x.me x.state x.stage j ≡ true
expected {x} c j g =
    and_from (listens x.me Sync x.stage) (has x.state.far.trusted j) c.listening
    (and_first (has x.state.far.trusted j) (not (has x.state.far.direct j)) (c.eligible j g))

stamped : {plan good low high x : _} → HearsGoodCalls plan good low high x → (j : ℕ) → good j ≡ true
    → HasStamp (stamp_of x.clock low) (stamp_of x.clock high) (stamp_taken x j)
stamped {low} {high} {x} c j g =
    let call : IsCalledBetween x.clock low high (x.came j) = c.called j g in
    let moving : Moves x.clock = moves c in
    record {
      stamp = stamp_of x.clock call.time;
      is = expected_is_taken stamp_in x.state.far (expects_call x.me x.state x.stage) x.came j (expected c j g) (c.eligible j g) ∙ ap stamp_in call.came;
      between = record {
        least = stamps_rise x.clock low call.time (stamp_of x.clock low) (stamp_of x.clock call.time) (stamp_of-is x.clock moving low) (stamp_of-is x.clock moving call.time) call.not_early;
        most = stamps_rise x.clock call.time high (stamp_of x.clock call.time) (stamp_of x.clock high) (stamp_of-is x.clock moving call.time) (stamp_of-is x.clock moving high) call.not_late;
      };
    }

-- the middle that a node finds
pub record FindsMiddle (x : Listener) (low high : ℕ) : Type 0 where
  pub tick : ℕ
  pub kept : middle_kept x ≡ Some tick
  pub is : IsMiddle tick (present (map (stamp_taken x) (numbers 16)))
  pub between : IsBetween (stamp_of x.clock low) (stamp_of x.clock high) tick

pub finds : {plan good low high x : _} → HearsGoodCalls plan good low high x → FindsMiddle x low high
finds {good} {low} {high} {x} c =
    let some = some_middle (stamp_taken x) good (numbers 16) (λ j g. ap is_some (stamped c j g).is) c.most in
    record {
      tick = some.0;
      kept = kept-is x c.listening c.a_stage.0 c.a_stage.1 ∙ ap (λ o. Some (unwrap_or o x.first)) some.1;
      is = some.2;
      between = middle_within (stamp_taken x) good (stamp_of x.clock low) (stamp_of x.clock high) (numbers 16) (stamped c) c.most some.2;
    }

-- no good source is accused
spares : {plan good low high x : _} → HearsGoodCalls plan good low high x → (j : ℕ) → good j ≡ true
    → has (state_after x).far.direct j ≡ false
unfolding close_sync sync_outcome_of
spares {low} {high} {x} c j g =
    let call : IsCalledBetween x.clock low high (x.came j) = c.called j g in
    let right : does_wrong (expects_call x.me x.state x.stage j) (x.came j) ≡ false =
    ap (λ b. does_wrong b (x.came j)) (expected c j g) ∙ ap (does_wrong true) call.came in
    others_stay (has_evidence x.state.far (expects_call x.me x.state x.stage) x.came) x.state.far j (c.numbered j g)
    (right_is_no_evidence x.state.far (expects_call x.me x.state x.stage) x.came j right)
    ∙ not-true (has x.state.far.direct j) (and_second (has x.state.far.trusted j) (not (has x.state.far.direct j)) (c.eligible j g))

pub middles-lie-among : MiddlesLieAmongGoodCalls
middles-lie-among plan good low high x c =
    let found : FindsMiddle x low high = finds c in
    let from : IsNear plan x.clock low (stamp_of x.clock low) = stamp-near c low in
    let to : IsNear plan x.clock high (stamp_of x.clock high) = stamp-near c high in
    let first : 1 ≤ stamp_of x.clock low = from.some c.begun in
    let least : stamp_of x.clock low ≤ found.tick = found.between.least in
    let most : found.tick ≤ stamp_of x.clock high = found.between.most in
    let last : 1 ≤ stamp_of x.clock high = omega arith in
    record {
      tick = found.tick;
      kept = found.kept;
      not_early = omega (arith, from.reached, times_rise_to x.clock (stamp_of x.clock low) found.tick least);
      not_late = omega (arith, to.near last, times_rise_to x.clock found.tick (stamp_of x.clock high) most);
      accuses_none = spares c;
    }

-- Two middles.

near-pair : (eps g a b s t : ℕ) → a ≤ s → s ≤ a + g → b ≤ t → t ≤ b + g → a ≤ b + eps → b ≤ a + eps → AreNear (eps + g) s t
near-pair eps g a b s t p q r u v w = record { above = omega arith; under = omega arith }

both-near : {plan good low high x y : _} → HearNear plan good low high x y → (j : ℕ) → j < 16
    → BothNear (plan.dmax - plan.dmin + longest_of plan) (time_of x.clock) (time_of y.clock) (stamp_taken x j) (stamp_taken y j)
both-near {plan} {x} {y} c j below = go (c.near j below)
  where
    go : TakeNear (plan.dmax - plan.dmin) x y j
        → BothNear (plan.dmax - plan.dmin + longest_of plan) (time_of x.clock) (time_of y.clock) (stamp_taken x j) (stamp_taken y j)
    go (inl none) =
        subst (λ o. BothNear (plan.dmax - plan.dmin + longest_of plan) (time_of x.clock) (time_of y.clock) o (stamp_taken y j)) (sym none.0)
        (subst (λ o. BothNear (plan.dmax - plan.dmin + longest_of plan) (time_of x.clock) (time_of y.clock) None o) (sym none.1) tt)
    go (inr n) =
        let mine : IsNear plan x.clock n.mine (stamp_of x.clock n.mine) = stamp-near c.mine n.mine in
        let yours : IsNear plan y.clock n.yours (stamp_of y.clock n.yours) = stamp-near c.yours n.yours in
        subst (λ o. BothNear (plan.dmax - plan.dmin + longest_of plan) (time_of x.clock) (time_of y.clock) o (stamp_taken y j)) (sym n.mine_taken)
        (subst (λ o. BothNear (plan.dmax - plan.dmin + longest_of plan) (time_of x.clock) (time_of y.clock) (Some (stamp_of x.clock n.mine)) o) (sym n.yours_taken)
        (near-pair (plan.dmax - plan.dmin) (longest_of plan) n.mine n.yours (time_of x.clock (stamp_of x.clock n.mine)) (time_of y.clock (stamp_of y.clock n.yours))
        mine.reached (mine.near (mine.some n.mine_begun)) yours.reached (yours.near (yours.some n.yours_begun)) n.above n.under))

pub middles-are-near : MiddlesAreNear
middles-are-near plan good low high x y c k l is_k is_l =
    let mine : FindsMiddle x low high = finds c.mine in
    let yours : FindsMiddle y low high = finds c.yours in
    let same_k : mine.tick ≡ k = same_Some mine.tick k (sym mine.kept ∙ is_k) in
    let same_l : yours.tick ≡ l = same_Some yours.tick l (sym yours.kept ∙ is_l) in
    let near : AreNear (plan.dmax - plan.dmin + longest_of plan) (time_of x.clock k) (time_of y.clock l) =
    middle_times_near (plan.dmax - plan.dmin + longest_of plan) (stamp_taken x) (stamp_taken y)
    (record { keeps = λ a b le. times_rise_to x.clock a b le }) (record { keeps = λ a b le. times_rise_to y.clock a b le })
    (both-near c)
    (subst (λ m. IsMiddle m (present (map (stamp_taken x) (numbers 16)))) same_k mine.is)
    (subst (λ m. IsMiddle m (present (map (stamp_taken y) (numbers 16)))) same_l yours.is) in
    (near.above, near.under)
