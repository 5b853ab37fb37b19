-- Whom a listener that learns trusts, and what it has learned when it decides.
use Rattle.std.specs.Prelude.{ℕ, ◌≡◌, ◌+◌, ◌*◌, ◌%◌, ◌<◌, ◌≤◌, true, Some, slice_get, List}
use Rattle.rb_base.specs.{Nodes.{Side, has}, Nodes.Side.{Biu, Rmu}, Sizes.sync_slot_of}
use Rattle.rb_rules.specs.{declared.sense.Sense.Sense, Book.of_kind, Clock.IsStamp, Goodness.{Scenario, is_good}, Hearing.Sending, Moments.{IsGoodBefore, IsRunning, before_stage}, NodeState.{NodeState, trusted_of}, Ports.HandIn, Rounds.windows_in, Sense.stamp_in, Slots.first_diagnosis_of}
use Rattle.rb_listen.specs.{Lessons.{middle_in, record_of, trusted_bius, trusted_rmus, trusts_biu, trusts_rmu}, declared.lesson.First.First, declared.search.Search.Search}
use Rattle.rb_laws_listener_learns.specs.{Ears.{Ear, SendsIn, coming_to, listening_at}, Receivers.call_time}
use Rattle.rb_listen.specs.Listening as now

-- in a frame of this number in messages the run comes to this stage of the slot before its end,
-- some RMU is good there, and all good nodes hold node i of a kind trusted
pub record IsTrustedIn (sc : Scenario) (hands : List HandIn) (number slot stage : ℕ) (kind : Side) (i : ℕ) : Type 0 where
  pub frame : ℕ
  pub number_is : number ≡ frame % 65536
  pub running : IsRunning (before_stage sc hands frame slot stage)
  pub some_good : (j : ℕ) × (is_good sc Rmu j frame slot ≡ true)
  pub trust : (me : Side) (j : ℕ) (st : NodeState) → is_good sc me j frame slot ≡ true
      → slice_get (of_kind me (before_stage sc hands frame slot stage).nodes) j ≡ Some st → has (trusted_of kind me st) i ≡ true

-- by the lesson of each tick the listener trusts only nodes that the bus trusts in the frame of the
-- lesson: a BIU by its schedule slot, an RMU by its diagnosis slot
abbrev pub TrustsTheTrusted : Scenario → List HandIn → Ear → ℕ → Type 0
TrustsTheTrusted sc hands ear k =
    (s : Search) → listening_at sc ear k ≡ now.Searching s → s.learns ≡ true → (i : ℕ)
    → (trusts_biu sc.sizes s.lesson.records i ≡ true → IsTrustedIn sc hands s.lesson.frame i 2 Biu i)
    × (trusts_rmu sc.sizes s.lesson.records i ≡ true → IsTrustedIn sc hands s.lesson.frame (first_diagnosis_of Rmu sc.sizes + i) 3 Rmu i)

-- The decision.

-- the call that RMU j sent in this frame is recorded with the stamp and the time with which it came
pub record HasCall (sc : Scenario) (hands : List HandIn) (ear : Ear) (frame : ℕ) (records : List Sense) (j : ℕ) : Type 0 where
  pub sending : Sending
  pub sent : SendsIn sc hands (frame * (windows_in sc.sizes + 1) + (3 * sync_slot_of sc.sizes + 1)) j sending
  pub stamp : ℕ
  pub stamped : IsStamp ear.clock (coming_to sc ear j frame sending).time stamp
  pub recorded : stamp_in (record_of records (sync_slot_of sc.sizes) j) ≡ Some stamp
  pub time : call_time sc ear frame j stamp ≡ (coming_to sc ear j frame sending).time

-- each node that is good in the slot trusts the BIUs `bius` and the RMUs `rmus`, and no others
pub record AreTrusted (sc : Scenario) (hands : List HandIn) (frame slot bius rmus : ℕ) : Type 0 where
  pub biu : (me : Side) (i : ℕ) (st : NodeState) → IsGoodBefore sc hands frame slot me i st → trusted_of Biu me st ≡ bius
  pub rmu : (me : Side) (i : ℕ) (st : NodeState) → IsGoodBefore sc hands frame slot me i st → trusted_of Rmu me st ≡ rmus

-- A listener that decides at this tick has whole what it learns from this frame. It knows whom the
-- bus trusts in that frame and in the next, has the calls of the good RMUs, and takes the first
-- tick of the next frame, which is still to come, from the middle of the calls of the trusted RMUs
pub record HasLearned (sc : Scenario) (hands : List HandIn) (ear : Ear) (learned tick : ℕ) (records : List Sense) (first : First) : Type 0 where
  pub frame : first.frame ≡ learned + 1
  pub ahead : tick < first.epoch
  pub trusted : AreTrusted sc hands learned (sync_slot_of sc.sizes) (trusted_bius sc.sizes records) (trusted_rmus sc.sizes records)
  pub trusted_next : AreTrusted sc hands (learned + 1) 0 first.bius first.rmus
  pub calls : (j : ℕ) → is_good sc Rmu j learned (sync_slot_of sc.sizes) ≡ true → HasCall sc hands ear learned records j
  pub stamped : (j stamp : ℕ) → j < sc.sizes.rmus → stamp_in (record_of records (sync_slot_of sc.sizes) j) ≡ Some stamp
      → (1 ≤ stamp) × IsStamp ear.clock (call_time sc ear learned j stamp) stamp
  pub middle : ℕ
  pub middle_is : middle_in sc.sizes records (trusted_rmus sc.sizes records) ≡ Some middle
  pub epoch_is : first.epoch ≡ middle + sc.plan.v + sc.plan.z + sc.plan.c
