-- What a listener records of good RMUs.
use Rattle.std.specs.Prelude.{⊤, ℕ, ◌≡◌, ◌≤◌, true, List}
use Rattle.rb_base.specs.{Nodes.Side.Rmu, Sizes.sync_slot_of}
use Rattle.rb_rules.specs.{declared.message.Message.Message, declared.sense.Sense.Sense, declared.sense.Sense.TheVariants.{Silent, One, Bad}, Clock.IsStamp, Goodness.{Scenario, is_good}, Hearing.{Coming, Sending}, Ports.HandIn, Rounds.moment, Slots.role_of}
use Rattle.rb_listen.specs.{Lessons.{record_of, stage_recorded}, declared.search.Search.Search}
use Rattle.rb_laws_listener_learns.specs.Ears.{Ear, IsHeard, IsOfGood, SendsIn, coming_to, is_always_good, listening_at}
use Rattle.rb_listen.specs.Listening as now

-- RMU j sent this message in the run while it was good, and the listener heard it with this stamp
pub record CameOf (sc : Scenario) (hands : List HandIn) (ear : Ear) (j at : ℕ) (m : Message) : Type 0 where
  pub coming : Coming
  pub heard : IsHeard ear at coming
  pub from : coming.from ≡ j
  pub good : IsOfGood sc hands ear coming
  pub is : good.sending.message ≡ m

-- the message is of the place in which the lesson on a frame, by its number in messages, has a
-- record of the slot
pub record IsOfPlace (sc : Scenario) (frame slot : ℕ) (m : Message) : Type 0 where
  pub frame_is : m.frame ≡ frame
  pub slot_is : m.slot ≡ slot
  pub stage_is : m.stage ≡ stage_recorded (role_of sc.sizes slot)

-- a record of RMU j in a slot is the one message of the place that it sent, or none; it is never
-- bad
abbrev pub IsTrueRecord : Scenario → List HandIn → Ear → ℕ → ℕ → ℕ → Sense → Type 0
IsTrueRecord sc hands ear frame slot j Silent = ⊤
IsTrueRecord sc hands ear frame slot j (One at m) = CameOf sc hands ear j at m × IsOfPlace sc frame slot m
IsTrueRecord sc hands ear frame slot j Bad = ⊥

-- what a listener that learns at tick k has recorded of RMUs that are good in the whole run
abbrev pub RecordsAreTrue : Scenario → List HandIn → Ear → ℕ → Type 0
RecordsAreTrue sc hands ear k =
    (s : Search) → listening_at sc ear k ≡ now.Searching s → s.learns ≡ true
    → (j : ℕ) → is_always_good sc hands j ≡ true → (slot : ℕ) → IsTrueRecord sc hands ear s.lesson.frame slot j (record_of s.lesson.records slot j)

-- what RMU j sent in window n of the run is recorded with the stamp with which it came
pub record IsRecorded (sc : Scenario) (hands : List HandIn) (ear : Ear) (records : List Sense) (n j : ℕ) (s : Sending) : Type 0 where
  pub stamp : ℕ
  pub some : 1 ≤ stamp
  pub stamped : IsStamp ear.clock (coming_to sc ear j (moment sc hands n).frame s).time stamp
  pub is : record_of records s.message.slot j ≡ One stamp s.message

-- all is recorded that an RMU, good in this frame up to its sync slot, sent in it in the places
-- that are recorded
abbrev pub RecordsAreWhole : Scenario → List HandIn → Ear → ℕ → List Sense → Type 0
RecordsAreWhole sc hands ear frame records =
    (j : ℕ) → is_good sc Rmu j frame (sync_slot_of sc.sizes) ≡ true → (n : ℕ) (s : Sending) → SendsIn sc hands n j s → (moment sc hands n).frame ≡ frame
    → s.message.stage ≡ stage_recorded (role_of sc.sizes s.message.slot) → IsRecorded sc hands ear records n j s
