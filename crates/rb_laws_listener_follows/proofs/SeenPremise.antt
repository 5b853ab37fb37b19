-- In a frame after the one that it learned, a listener sees what it takes, and the premise with it
-- is that of its windows.
use Rattle.std.proofs.{Common.{◌≡◌, ℕ, suc, ◌+◌, ◌*◌, ◌<◌, ◌≤◌, ◌==◌, if◌then◌else◌, Bool, true, false, List, Option, None, get_or, refl, sym, ◌∙◌, ap, subst, arith}, lemmas.Bool.ltb-true, lemmas.List.FromFn.get_or-map-range_with_len}
use Rattle.rb_base.specs.{Nodes.{set_of, size}, Nodes.Side.{Biu, Rmu}, Sizes.{Sizes, sync_slot_of}, declared.values.See.See, declared.values.See.TheVariants.Nothing}
use Rattle.rb_base.proofs.Plain.{less-differs, more-differs}
use Rattle.rb_rules.specs.{declared.sense.Sense.Sense, ExactStage.{Outcome, close_exact, each_node, see_value}, Goodness.Scenario, Judging.JudgedStage, Lawful.IsLawful, Moments.IsRunning, NodeState.NodeState, NodeSteps.close, Ports.HandIn, Rounds.{moment, windows_in}, SyncStage.{close_sync, sync_outcome_of}}
use Rattle.rb_laws_agreement.proofs.{ExactWindows.take_at, Exchanges.get-see, Invariant.is_good_now, JudgedWindows.judged_value, Numbers.{how_many, how_many-is, how_many-le}}
use Rattle.rb_laws_listener_near.specs.Judged.{verdict_with}
use Rattle.rb_laws_listener_near.proofs.{Tracking.{MostStay, stays_good}, WindowSteps.{closed_by, closes_parts}}
use Rattle.rb_laws_listener_learns.specs.{Ears.{Ear, HearsTheRun, is_always_good}, Receivers.{HoldsTo, call_time, seen_by, seen_closed, seen_in, seen_learned, stamp_seen, timed_see}}
use Rattle.rb_laws_listener_learns.proofs.TrustedSets.{good-at-moment}
use Rattle.rb_laws_listener_follows.proofs.{ClosesExact.exact-place, ExactRuns.{GoesOn, goes_on}}

-- ---- the premise

-- what the listener sees in a frame that it follows
abbrev pub seen_following : Scenario → Ear → ℕ → ℕ → JudgedStage → Option (ℕ → See)
seen_following sc ear frame window s = seen_closed sc ear frame (seen_by sc ear frame window ear.ticks)

following_verdict : (sc : Scenario) (ear : Ear) (learned frame : ℕ) (records : List Sense) (stages : List JudgedStage) → learned < frame → verdict_with (seen_in sc ear learned records frame) stages ≡ None
    → verdict_with (seen_following sc ear frame) stages ≡ None
following_verdict sc ear learned frame records stages later h =
    subst (λ (b : Bool). verdict_with (λ window s. if b then seen_learned sc ear learned records window s else seen_closed sc ear frame (seen_by sc ear frame window ear.ticks)) stages ≡ None)
    (more-differs frame learned later) h

-- if the premise holds up to a moment after the first of a frame, it holds for what the listener
-- closed
pub holds_following : (sc : Scenario) (hands : List HandIn) (ear : Ear) {learned : ℕ} (records : List Sense) {last : ℕ} → HoldsTo sc hands ear learned records last
    → (k : ℕ) {frame : ℕ} → k ≤ last → (moment sc hands k).frame ≡ frame → learned < frame → 1 ≤ (moment sc hands k).window
    → verdict_with (seen_following sc ear frame) (moment sc hands k).book.stages ≡ None
holds_following sc hands ear {learned} records holds k {frame} le is later some =
    following_verdict sc ear learned frame records (moment sc hands k).book.stages later
    (subst (λ f. verdict_with (seen_in sc ear learned records f) (moment sc hands k).book.stages ≡ None) is (holds k le (omega (arith, is, later)) some))

-- most RMUs stay good
pub most_stay : {sc hands ear : _} → IsLawful sc → HearsTheRun sc hands ear → (n : ℕ) → (moment sc hands n).window < windows_in sc.sizes → IsRunning (moment sc hands (suc n))
    → MostStay sc (moment sc hands n)
most_stay {sc} {hands} law run n inside running =
    let on : GoesOn sc hands n = goes_on sc hands n inside running in
    let most : sc.sizes.rmus < 2 * how_many (is_always_good sc hands) = omega (arith, ltb-true sc.sizes.rmus (2 * size (set_of (is_always_good sc hands))) run.most_good, how_many-is (is_always_good sc hands)) in
    let le : how_many (is_always_good sc hands) ≤ how_many (stays_good sc (moment sc hands n)) =
    how_many-le (is_always_good sc hands) (stays_good sc (moment sc hands n)) (λ i below good.
    subst (λ m. is_good_now sc m Rmu i ≡ true) (sym on.next_is) (good-at-moment hands law i (suc n) running good)) in
    omega (arith, most, le)

pub most_now : {sc hands ear : _} → IsLawful sc → HearsTheRun sc hands ear → (n : ℕ) → IsRunning (moment sc hands n)
    → sc.sizes.rmus < 2 * how_many (is_good_now sc (moment sc hands n) Rmu)
most_now {sc} {hands} law run n running =
    let most : sc.sizes.rmus < 2 * how_many (is_always_good sc hands) = omega (arith, ltb-true sc.sizes.rmus (2 * size (set_of (is_always_good sc hands))) run.most_good, how_many-is (is_always_good sc hands)) in
    let le : how_many (is_always_good sc hands) ≤ how_many (is_good_now sc (moment sc hands n) Rmu) =
    how_many-le (is_always_good sc hands) (is_good_now sc (moment sc hands n) Rmu) (λ i below good. good-at-moment hands law i n running good) in
    omega (arith, most, le)

-- ---- what a close shows

same_place : (j : ℕ) → 0 + j ≡ j
same_place j = omega arith

-- below the sync slot the listener sees the value that it takes
pub sees_values : (sc : Scenario) (ear : Ear) (frame slot stage first : ℕ) (st : NodeState) (sense : ℕ → Sense) → slot < sync_slot_of sc.sizes → (j : ℕ) → j < 16
    → timed_see sc ear frame j (get_or (closed_by sc slot stage first st sense).closed.sees j Nothing) ≡ see_value (take_at sc.sizes Biu st slot stage sense j)
sees_values sc ear frame slot stage first st sense below j small =
    let is : get_or (closed_by sc slot stage first st sense).closed.sees j Nothing ≡ see_value (take_at sc.sizes Biu st slot stage sense j) =
    ap (λ l. get_or l j Nothing) (closes_parts sc slot stage first st sense below).sees
    ∙ get-see (each_node (take_at sc.sizes Biu st slot stage sense)) j
    ∙ ap see_value (get_or-map-range_with_len (take_at sc.sizes Biu st slot stage sense) 0 16 j j None small (same_place j)) in
    ap (timed_see sc ear frame j) is ∙ judged_value (call_time sc ear frame j (stamp_seen (see_value (take_at sc.sizes Biu st slot stage sense j)))) (take_at sc.sizes Biu st slot stage sense j)

-- ---- its place

pub place_closed : (sizes : Sizes) (st : NodeState) (slot stage first : ℕ) (sense : ℕ → Sense) → slot < sync_slot_of sizes
    → (close sizes Biu 16 st slot stage first sense).closed.place ≡ record { frame = st.frame; slot = slot; stage = stage }
place_closed sizes st slot stage first sense below =
    ap (λ x. x.closed.place) (go (slot == sync_slot_of sizes) (less-differs slot (sync_slot_of sizes) below)) ∙ exact-place sizes st slot stage sense
  where
    go : (b : Bool) → b ≡ false
        → (elim b as (λ _. Outcome) [ true ↦ close_sync sizes Biu st stage (st.epoch + first) sense | false ↦ close_exact sizes Biu 16 st slot stage sense ])
        ≡ close_exact sizes Biu 16 st slot stage sense
    go true h = cc
    go false h = refl

pub place_synced : (sizes : Sizes) (st : NodeState) (stage first : ℕ) (sense : ℕ → Sense)
    → (close_sync sizes Biu st stage first sense).closed.place ≡ record { frame = st.frame; slot = sync_slot_of sizes; stage = stage }
unfolding close_sync sync_outcome_of
place_synced sizes st stage first sense = refl
