-- For the law that running nodes are the abstract bus: what a node holds in its slot it held when
-- the slot began, and each run of the bus for which the rounds stand holds the same.
use Rattle.std.proofs.{Common.{◌≡◌, ℕ, zero, suc, ◌+◌, ◌-◌, ◌*◌, ◌<◌, ◌≤◌, ◌⊎◌, ◌/◌, max, min, true, refl, ap, sym, ◌∙◌, subst, arith, inl, inr, List, [], ◌∷◌, slice_get, get_or}, Math.ListN.get_or-append, lemmas.Bool.cases_lt}
use Rattle.rb_base.specs.{Nodes.{Side, has, other}, Nodes.Side.{Biu, Rmu}, Sizes.sync_slot_of, declared.values.Heard.TheVariants.Fault}
use Rattle.rb_rules.specs.{declared.plan.Window.Window, AbstractBus.AbstractBus, Book.of_kind, Clock.time_of, Goodness.{Scenario, clock_of, is_good}, Lawful.IsLawful, Moments.{BeginsFrame, IsComplete, IsGoodAfter, IsGoodBefore, IsRunning, IsSettled, after_slot, before_slot, before_stage}, NodeState.{NodeState, trusted_of}, Plan.{longest_of, shortest_of, tail_start_of}, Ports.HandIn, Rounds.{Moment, windows_in}, Standing.Standing, StandsFor.{AgreesAfter, AgreesBefore, FrameTakes, HoldsVote, StandsFor, steps_to, value_on, votes_on}, WorldStep.{Choice, World, world_after}}
use Rattle.rb_laws_agreement.specs.{BusValues.{bus_before, bus_in_rounds, bus_then, value_in_rounds}, Times.KeepsTime, Values.vote_on}
use Rattle.rb_laws_agreement.proofs.{Agreement.{IsAgreed, agreement}, BusLaws.bus-slot-step, BusRuns.{IsHeld, as_placed, bus-over-slot, held_at}, Goodnesses.good_earlier, Invariant.{Holds, IsGoodNode, is_good_now, slot_numbered}, Places.{IsPlaced, complete_before, good_before_slot, placed, running_earlier}, PortHistories.slot-follows, Settings.good_state, Skews.rounds_stand, Tests.Present}
use Rattle.rb_laws_synchrony.proofs.SyncLaws.{epochs_near}
use Rattle.rb_laws_events.specs.{OwnMoments.{FollowsTheRounds, HoldsTheState, RunningNode, moment_of}, RunningNodes.{NodesAccuseNoGoodNode, NodesHoldTheBus, NodesKnowTheNextFrame, NodesVoteAsTheBus, RunningNodesAreTheBus, state_of, StandsInSlot, window_of}}
use Rattle.rb_laws_events.proofs.{CoresPast.cores-follow, NodesAlike.{HasBegun, HoldsShared, IsIn, before-is, begins-first, has-begun, holds-shared, in-slot, of-state, settled-slot, votes-shared}, RoundNodes.slot-is, SlotShared.{SharedAt, SharedIn, shared-in}}

-- The rounds stand for a run of the bus, since good nodes keep time.

pub keeps-time : {sc : _} (hands : List HandIn) → IsLawful sc → KeepsTime sc hands
keeps-time {sc} hands lawful = record { near = (epochs_near sc hands lawful).0; takes = (epochs_near sc hands lawful).1 }

pub stands-for : (sc : Scenario) (hands : List HandIn) → IsLawful sc → StandsFor sc hands
stands-for sc hands lawful = rounds_stand sc hands lawful (keeps-time hands lawful)

-- At the start of the slot.

-- the node was good before the slot, with what it holds of that state
record IsAsBegun {w : World} {me : Side} (sc : Scenario) (frame slot : ℕ) (node : RunningNode w me) : Type 0 where
  st : NodeState
  before : IsGoodBefore sc w.hands frame slot me node.index st
  epoch : (state_of sc node).epoch ≡ st.epoch
  trusted : (kind : Side) → trusted_of kind me (state_of sc node) ≡ trusted_of kind me st
  owners : (state_of sc node).owners ≡ st.owners
  votes : (voted : ℕ) → voted < slot → votes_on sc.sizes voted me ≡ true → vote_on (state_of sc node) voted ≡ vote_on st voted

as-begun : {w : World} {me : Side} {sc : Scenario} → IsLawful sc → {frame slot : ℕ} {node : RunningNode w me} → FollowsTheRounds sc w → StandsInSlot sc frame slot node
    → IsAsBegun sc frame slot node
as-begun {w} {me} {sc} lawful {frame} {slot} {node} follow at = by at.settled
  where
    a : IsIn sc frame slot node
    a = in-slot lawful follow at

    by : IsComplete sc w.hands frame slot ⊎ (BeginsFrame sc w.hands frame slot × ((window_of sc node).stage ≡ 1)) → IsAsBegun sc frame slot node
    by (inr begin) = record {
      st = a.st;
      before = before-is begin.1 a;
      epoch = a.epoch;
      trusted = a.trusted;
      owners = a.owners;
      votes = λ voted lt votes. ap (λ votes. get_or votes voted Fault) a.votes;
    }
    by (inl complete) =
        let r : SharedIn sc w.hands frame slot = shared-in lawful a.within complete in
        let h : HoldsShared sc frame slot r.shared node = holds-shared lawful follow at r in
        let x : HasBegun sc frame slot node = has-begun lawful at a in
        let first : SharedAt sc w.hands frame slot r.shared 1 = r.at 1 (omega arith) (omega arith) in
        let p : IsPlaced sc w.hands frame slot 1 =
        placed w.hands lawful frame slot 1 a.within (omega arith) (omega arith) (complete_before sc w.hands frame slot 1 (omega arith) complete) in
        let window = p.window_is in
        let le = a.within in
        let good : IsGoodNode sc (before_slot sc w.hands frame slot) me node.index x.st = good_before_slot le p x.is in
        let holds : Holds sc (before_slot sc w.hands frame slot) r.shared me x.st = first.agree.nodes me node.index x.st good in
        record {
          st = x.st;
          before = x.is;
          epoch = x.epoch;
          trusted = λ kind. h.trusted kind ∙ h.holds.trusted kind ∙ sym (holds.trusted kind);
          owners = h.owners ∙ h.holds.owners ∙ sym holds.owners;
          votes = λ voted lt votes.
              votes-shared h le voted lt votes
              ∙ sym ((first.agree.finished voted (omega (arith, lt, le)) (omega (arith, lt, window))).held me node.index x.st good votes);
        }

-- the bus agrees with a good node before each slot that is settled
agrees : {sc hands : _} (machine : StandsFor sc hands) {frame : ℕ} (slot : ℕ) → slot ≤ sync_slot_of sc.sizes → IsSettled sc hands frame slot
    → (me : Side) (i : ℕ) (st : NodeState) → IsGoodBefore sc hands frame slot me i st → AgreesBefore sc (machine.bus (steps_to sc.sizes frame slot)) me i st
agrees machine {frame} slot le (inl complete) = (machine.slots frame slot le complete).before
agrees machine {frame} zero le (inr begins) = (machine.frames frame begins).good_nodes
agrees machine (suc slot) le (inr begins) = absurd begins

-- the bus agrees with any state that has the epoch, the trusted nodes and the owners of such a one
agrees-then : {sc : Scenario} {bus : AbstractBus} {me : Side} {i : ℕ} {st : NodeState} (now : NodeState) → now.epoch ≡ st.epoch → ((kind : Side) → trusted_of kind me now ≡ trusted_of kind me st)
    → now.owners ≡ st.owners → AgreesBefore sc bus me i st → AgreesBefore sc bus me i now
agrees-then {sc} {bus} {me} {i} now epoch trusted owners a =
    let offset : ℕ = 3 * bus.slot * sc.plan.l in
    record {
      band = record {
        not_early = subst (λ e. bus.low + offset * shortest_of sc.plan ≤ time_of (clock_of sc me i) (e + offset)) (sym epoch) a.band.not_early;
        not_late = subst (λ e. time_of (clock_of sc me i) (e + offset) ≤ bus.low + sc.plan.p + offset * longest_of sc.plan) (sym epoch) a.band.not_late;
      };
      trusted = record { bius = trusted Biu ∙ a.trusted.bius; rmus = trusted Rmu ∙ a.trusted.rmus };
      owners = λ late. owners ∙ a.owners late;
    }

-- The values of finished slots.

-- the bus of the rounds keeps the value of a slot through the frame
value-stays : {sc : _} (hands : List HandIn) → IsLawful sc → (low : ℕ → ℕ) (frame voted slot : ℕ) → voted < slot → slot ≤ sync_slot_of sc.sizes
    → IsRunning (before_slot sc hands frame slot) → value_on (bus_before sc hands low frame slot) voted ≡ value_on (bus_then sc hands low frame voted) voted
value-stays hands lawful low frame voted zero lt le running = absurd (omega (arith, lt))
value-stays {sc} hands lawful low frame voted (suc slot) lt le running =
    elim (cases_lt voted slot) [
      | inl earlier ↦
          let complete : IsComplete sc hands frame slot = ap (λ (m : Moment). m.book.ended) (sym (slot-follows sc hands frame slot)) ∙ running in
          let runs : IsRunning (before_slot sc hands frame slot) = complete_before sc hands frame slot 1 (omega arith) complete in
          let h : IsHeld sc hands (low frame) frame slot (bus_before sc hands low frame slot) = held_at hands lawful low frame slot (omega (arith, le)) runs in
          let long = h.bus_is.long in
          ap (λ (bus : AbstractBus). value_on bus voted) (bus-over-slot low h (omega (arith, le)))
          ∙ get_or-append (bus_before sc hands low frame slot).values (value_in_rounds sc hands frame slot ∷ []) Fault voted (omega (arith, long, earlier))
          ∙ value-stays hands lawful low frame voted slot earlier (omega (arith, le)) runs
      | inr last ↦
          let same : suc slot ≡ suc voted = omega (arith, lt, last) in
          ap (λ k. value_on (bus_before sc hands low frame k) voted) same
          ∙ ap (λ n. value_on (bus_in_rounds sc hands low n) voted) (index (frame * (sync_slot_of sc.sizes + 1)) voted)
    ]
  where
    index : (a slot : ℕ) → a + suc slot ≡ a + slot + 1
    index a slot = omega arith

-- a good node's vote on a finished slot is the value that the bus gave it
votes-it : {sc hands : _} → IsLawful sc → (machine : StandsFor sc hands) {frame slot : ℕ} → slot ≤ sync_slot_of sc.sizes → IsComplete sc hands frame slot
    → {me i st : _} → IsGoodBefore sc hands frame slot me i st → (voted : ℕ) → voted < slot → votes_on sc.sizes voted me ≡ true
    → vote_on st voted ≡ value_on (machine.bus (steps_to sc.sizes frame voted + 1)) voted
votes-it {sc} {hands} lawful machine {frame} {slot} le complete {me} {i} {st} before voted lt votes =
    in_slot ∙ value-stays hands lawful low frame voted slot lt le running ∙ sym (votes_then below votes) ∙ agreed.vote below votes
  where
    low : ℕ → ℕ
    low n = 0

    running : IsRunning (before_slot sc hands frame slot)
    running = complete_before sc hands frame slot 1 (omega arith) complete

    h : IsHeld sc hands (low frame) frame slot (bus_before sc hands low frame slot)
    h = held_at hands lawful low frame slot le running

    in_slot : vote_on st voted ≡ value_on (bus_before sc hands low frame slot) voted
    in_slot =
        let window = h.window_is in
        let good : IsGoodNode sc (before_slot sc hands frame slot) me i st =
        good_before_slot le (as_placed h) before in
        (h.agree.finished voted (omega (arith, lt, le)) (omega (arith, lt, window))).held me i st good votes ∙ h.bus_is.values voted lt

    below : voted < sync_slot_of sc.sizes
    below = omega (arith, lt, le)

    earlier : (a voted slot : ℕ) → voted < slot → a + 3 * voted + 4 - 1 ≤ a + 3 * slot + 4 - 1
    earlier a voted slot lt = omega arith

    complete_then : IsComplete sc hands frame voted
    complete_then =
        running_earlier sc hands (frame * (windows_in sc.sizes + 1) + 3 * voted + 4 - 1) (frame * (windows_in sc.sizes + 1) + 3 * slot + 4 - 1)
        (earlier (frame * (windows_in sc.sizes + 1)) voted slot lt) complete

    p : IsPlaced sc hands frame voted 4
    p = placed hands lawful frame voted 4 (omega (arith, below)) (omega arith) (omega arith) complete_then

    next-slot : (window sync : ℕ) → voted < sync → window ≡ 3 * voted + (4 - 1) → min (window / 3) sync ≡ voted + 1
    next-slot window sync lt e = omega (arith, lt, e)

    there : Present (slice_get (of_kind me (after_slot sc hands frame voted).nodes) i)
    there =
        good_state p.agree me i
        (ap (λ f. is_good sc me i f (slot_numbered sc.sizes (after_slot sc hands frame voted).window)) p.frame_is
        ∙ ap (is_good sc me i frame) (next-slot (after_slot sc hands frame voted).window (sync_slot_of sc.sizes) below p.window_is)
        ∙ good_earlier sc me i frame (voted + 1) slot (omega (arith, lt)) before.good)

    after : IsGoodAfter sc hands frame voted me i there.value
    after = record { good = good_earlier sc me i frame voted slot (omega (arith, lt)) before.good; state = there.is }

    votes_then : HoldsVote sc voted (bus_then sc hands low frame voted) me there.value
    votes_then = (bus-slot-step lawful low frame voted below complete_then).votes me i there.value after

    agreed : AgreesAfter sc frame voted (machine.bus (steps_to sc.sizes frame voted + 1)) me there.value
    agreed = (machine.slots frame voted (omega (arith, below)) complete_then).after me i there.value after

-- Whom the node accuses.

accuse-no-good-node : {w sc : _} → IsLawful sc → FollowsTheRounds sc w → NodesAccuseNoGoodNode sc w
accuse-no-good-node {w} {sc} lawful follow me node running j good = (
  ap (λ (far : Standing). has far.direct j) same ∙ holds.spares.direct j (now (other me) j good),
  ap (λ (far : Standing). has far.mismatch j) same ∙ holds.spares.mismatch j (now (other me) j good),
)
  where
    own : Moment
    own = moment_of sc node

    h : HoldsTheState sc own me node.index node.site.core
    h = follow.cores me node running

    same : (state_of sc node).far ≡ h.st.far
    same = of-state (λ (st : NodeState). st.far) (λ st o. refl) sc own me node.index h.state

    now : (kind : Side) (i : ℕ) → is_good sc kind i (state_of sc node).frame (window_of sc node).slot ≡ true → is_good_now sc own kind i ≡ true
    now kind i here =
        ap (λ f. is_good sc kind i f (slot_numbered sc.sizes own.window)) (sym h.frame)
        ∙ ap (is_good sc kind i (state_of sc node).frame) (sym (ap (λ (w : Window). w.slot) h.window ∙ slot-is sc.sizes sc.plan me h.st own.window)) ∙ here

    a : IsAgreed sc w.hands ((state_of sc node).frame * (windows_in sc.sizes + 1) + 3 * (window_of sc node).slot + (window_of sc node).stage - 1)
    a = agreement w.hands lawful _ running

    holds : Holds sc own a.shared me h.st
    holds = a.agree.nodes me node.index h.st (record { there = h.there; good = now me node.index (ap (λ f. is_good sc me node.index f (window_of sc node).slot) h.frame ∙ h.good) })

-- The law.

hold-the-bus : {w sc : _} → IsLawful sc → FollowsTheRounds sc w → (machine : StandsFor sc w.hands) → NodesHoldTheBus sc w machine
hold-the-bus {w} {sc} lawful follow machine frame slot me node at =
    let a : IsIn sc frame slot node = in-slot lawful follow at in
    let x : IsAsBegun sc frame slot node = as-begun lawful follow at in
    agrees-then (state_of sc node) x.epoch x.trusted x.owners
    (agrees machine slot a.within (settled-slot at) me node.index x.st x.before)

vote-as-the-bus : {w sc : _} → IsLawful sc → FollowsTheRounds sc w → (machine : StandsFor sc w.hands) → NodesVoteAsTheBus sc w machine
vote-as-the-bus {w} {sc} lawful follow machine frame slot me node at voted lt below votes = x.votes voted lt votes ∙ by at.settled
  where
    a : IsIn sc frame slot node
    a = in-slot lawful follow at

    x : IsAsBegun sc frame slot node
    x = as-begun lawful follow at

    by : IsComplete sc w.hands frame slot ⊎ (BeginsFrame sc w.hands frame slot × ((window_of sc node).stage ≡ 1))
        → vote_on x.st voted ≡ value_on (machine.bus (steps_to sc.sizes frame voted + 1)) voted
    by (inl complete) = votes-it lawful machine a.within complete x.before voted lt votes
    by (inr begin) = let first : slot ≡ 0 = begins-first sc w.hands frame slot begin.0 in absurd (omega (arith, first, lt))

know-the-next : {w sc : _} → IsLawful sc → FollowsTheRounds sc w → NodesKnowTheNextFrame sc w
know-the-next {w} {sc} lawful follow frame slot me node at tail = by at.settled
  where
    a : IsIn sc frame slot node
    a = in-slot lawful follow at

    by : IsComplete sc w.hands frame slot ⊎ (BeginsFrame sc w.hands frame slot × ((window_of sc node).stage ≡ 1)) → FrameTakes sc.sizes sc.plan me (state_of sc node)
    by (inr begin) = let first = begin.1 in absurd (omega (arith, first, tail))
    by (inl complete) =
        let after : IsGoodAfter sc w.hands frame slot me node.index a.st = record {
          good = a.good;
          state = ap (λ stage. slice_get (of_kind me (before_stage sc w.hands frame slot stage).nodes) node.index) (sym tail) ∙ a.there.0;
        } in
        let takes : FrameTakes sc.sizes sc.plan me a.st = (((stands-for sc w.hands lawful).slots frame slot a.within complete).after me node.index a.st after).frame_takes (a.last tail) in
        record {
          epoch = takes.epoch;
          known = a.next_epoch ∙ takes.known;
          least = subst (λ e. e + tail_start_of sc.sizes sc.plan ≤ takes.epoch) (sym a.epoch) takes.least;
          most = subst (λ e. takes.epoch < e + tail_start_of sc.sizes sc.plan + max sc.plan.z (sc.plan.v + sc.plan.c)) (sym a.epoch) takes.most;
        }

pub nodes-are-the-bus : {sc : _} → IsLawful sc → (choices : List Choice) → RunningNodesAreTheBus sc (world_after sc choices)
nodes-are-the-bus {sc} lawful choices =
    let follow : FollowsTheRounds sc (world_after sc choices) = cores-follow sc lawful choices in
    record {
      stands = stands-for sc (world_after sc choices).hands lawful;
      before = hold-the-bus lawful follow;
      votes = vote-as-the-bus lawful follow;
      accusations = accuse-no-good-node lawful follow;
      next_frames = know-the-next lawful follow;
    }
