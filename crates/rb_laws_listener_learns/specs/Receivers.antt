-- What a listener sees of the RMUs as one more good receiver, and how far the premise on faults
-- holds with it.
use Rattle.std.specs.{Prelude.{ℕ, zero, suc, ◌≡◌, ◌+◌, ◌*◌, ◌/◌, ◌%◌, ◌≤◌, ◌==◌, ◌&&◌, if◌then◌else◌, Bool, true, false, Option, Some, None, List, [], ◌∷◌, filter, get_or}, Option.option_or}
use Rattle.rb_base.specs.{Nodes.Side.{Biu, Rmu}, Sizes.{Sizes, sync_slot_of}, declared.values.See.See, declared.values.See.TheVariants.{Nothing, Value, Time}}
use Rattle.rb_rules.specs.{declared.closing.Closed.Closed, declared.message.Message.Message, declared.sense.Sense.Sense, ExactStage.see_value, Goodness.Scenario, Hearing.{Coming, judged_see}, Judging.JudgedStage, Moments.IsComplete, Ports.HandIn, Rounds.{moment, windows_in}, Sense.{stamp_in, value_in}, Slots.{Sender, role_of, sender_in}, Slots.Sender.{Nobody, Node, EachTrusted}, Spelling.message_in, SyncStage.see_time}
use Rattle.rb_listen.specs.{Following.follow, Lessons.{record_of, stage_recorded}, Listening.Listening, Passes.is_call}
use Rattle.rb_laws_listener_near.specs.Judged.{verdict_with}
use Rattle.rb_laws_listener_learns.specs.Ears.{Ear, listening_at}
use Rattle.rb_listen.specs.Listening as now

-- What the listener sees.

-- the message is a call of the frame by RMU j
abbrev pub is_call_of : Scenario → ℕ → ℕ → Option Message → Coming → Bool
is_call_of sc frame j None c = false
is_call_of sc frame j (Some m) c = (c.from == j) && is_call sc.sizes m && (m.frame == frame % 65536)

-- the time of the last of these
abbrev pub last_time : List Coming → ℕ
last_time [] = 0
last_time (c ∷ []) = c.time
last_time (c ∷ (d ∷ others)) = last_time (d ∷ others)

-- the time of the call of a frame that came of RMU j with a stamp
abbrev pub call_time : Scenario → Ear → ℕ → ℕ → ℕ → ℕ
call_time sc ear frame j stamp =
    last_time (filter (λ c. is_call_of sc frame j (message_in sc.plan.version c.bytes) c) (ear.heard stamp))

abbrev pub stamp_seen : See → ℕ
stamp_seen Nothing = 0
stamp_seen (Value v) = 0
stamp_seen (Time stamp) = stamp

-- a sight as it is judged, with the time in place of the stamp
abbrev pub timed_see : Scenario → Ear → ℕ → ℕ → See → See
timed_see sc ear frame j s = judged_see (call_time sc ear frame j (stamp_seen s)) s

-- While it learns the frame it sees in each place that it records what is recorded, unless the slot
-- is idle on the bus.

abbrev pub is_nobody : Sender → Bool
is_nobody Nobody = true
is_nobody (Node i) = false
is_nobody EachTrusted = false

-- the slot is idle by those whom the bus trusts. It is no data slot
abbrev pub is_idle : Sizes → JudgedStage → ℕ → Bool
is_idle sizes s slot = is_nobody (sender_in (s.trusted Biu) (s.trusted Rmu) [] (role_of sizes slot))

abbrev pub see_recorded : Sizes → List Sense → ℕ → ℕ → See
see_recorded sizes records slot j =
    if slot == sync_slot_of sizes then see_time (stamp_in (record_of records slot j)) else see_value (value_in (record_of records slot j))

abbrev pub see_learned : Scenario → Ear → ℕ → List Sense → ℕ → JudgedStage → ℕ → See
see_learned sc ear frame records slot s j =
    if is_idle sc.sizes s slot then Nothing else timed_see sc ear frame j (see_recorded sc.sizes records slot j)

abbrev pub seen_learned : Scenario → Ear → ℕ → List Sense → ℕ → JudgedStage → Option (ℕ → See)
seen_learned sc ear frame records window s =
    if window % 3 + 1 == stage_recorded (role_of sc.sizes (window / 3)) then Some (see_learned sc ear frame records (window / 3) s) else None

-- While it follows it sees what it takes.

-- what a listener closes at its next tick, if it follows
abbrev pub closing_in : Scenario → Listening → Option Closed
closing_in sc (now.Searching s) = None
closing_in sc (now.Waiting had first) = None
closing_in sc (now.Following c) = (follow sc.sizes sc.plan c).closed

abbrev pub closing_at : Scenario → Ear → ℕ → Option Closed
closing_at sc ear k = closing_in sc (listening_at sc ear k)

-- the closed window is the one with this number in the frame
abbrev pub is_window : ℕ → ℕ → Option Closed → Bool
is_window frame window None = false
is_window frame window (Some c) = (c.place.frame == frame) && (c.place.slot == window / 3) && (c.place.stage == window % 3 + 1)

abbrev pub if_window : ℕ → ℕ → Option Closed → Option Closed
if_window frame window c = elim (is_window frame window c) [ true ↦ c | false ↦ None ]

-- what the receiver saw when it closed that window, if it did so in its first k ticks
abbrev pub seen_by : Scenario → Ear → ℕ → ℕ → ℕ → Option Closed
seen_by sc ear frame window zero = None
seen_by sc ear frame window (suc k) = option_or (seen_by sc ear frame window k) (if_window frame window (closing_at sc ear k))

abbrev pub seen_closed : Scenario → Ear → ℕ → Option Closed → Option (ℕ → See)
seen_closed sc ear frame None = None
seen_closed sc ear frame (Some c) = Some (λ j. timed_see sc ear frame j (get_or c.sees j Nothing))

-- what a listener sees in a frame if it has learned by `records` of the frame `learned`
abbrev pub seen_in : Scenario → Ear → ℕ → List Sense → ℕ → ℕ → JudgedStage → Option (ℕ → See)
seen_in sc ear learned records frame window s =
    if frame == learned then seen_learned sc ear learned records window s else seen_closed sc ear frame (seen_by sc ear frame window ear.ticks)

-- The premise.

-- the fault premise holds up to moment n: on each stage of the run from the learned frame on, the
-- verdict with the listener is no breach
abbrev pub HoldsTo : Scenario → List HandIn → Ear → ℕ → List Sense → ℕ → Type 0
HoldsTo sc hands ear learned records n =
    (i : ℕ) → i ≤ n → learned ≤ (moment sc hands i).frame → 1 ≤ (moment sc hands i).window
    → verdict_with (seen_in sc ear learned records (moment sc hands i).frame) (moment sc hands i).book.stages ≡ None

-- the slot comes before the first breach of the premise with the listener
pub record IsCalm (sc : Scenario) (hands : List HandIn) (ear : Ear) (learned : ℕ) (records : List Sense) (frame slot : ℕ) : Type 0 where
  pub complete : IsComplete sc hands frame slot
  pub holds : HoldsTo sc hands ear learned records (frame * (windows_in sc.sizes + 1) + 3 * slot + 3)
