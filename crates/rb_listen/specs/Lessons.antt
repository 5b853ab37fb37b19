-- What a listener learns from one frame: whom the bus trusts, whom it convicts at the frame's end,
-- and when its next frame begins.
use Rattle.std.specs.Prelude.{ℕ, ◌+◌, ◌*◌, ◌%◌, ◌==◌, ◌&&◌, nat_lt, nat_le, Bool, if◌then◌else◌, Option, None, option_map, List, get_or, slice_set, replicate}
use Rattle.rb_base.specs.{Nodes.{has, set_of}, Nodes.Side.{Biu, Rmu}, Sizes.{Sizes, sync_slot_of}, declared.values.Heard.Heard}
use Rattle.rb_rules.specs.{declared.message.Message.Message, declared.plan.Plan.Plan, declared.role.Role.Role, declared.role.Role.TheVariants.{Schedule, Data, DiagBiu, DiagRmu, Sync}, declared.sense.Sense.Sense, declared.sense.Sense.TheVariants.{Silent, One, Bad}, Conviction.convicted_by, ExactStage.{each_node, present}, Majority.majority_of, Middle.middle_of, Sense.{is_one, stamp_in, tag_suits, value_in}, Slots.{first_diagnosis_of, role_of}, Standing.without}
use Rattle.rb_listen.specs.{Passes.are_most, declared.lesson.First.First, declared.lesson.Lesson.Lesson}

-- the number of the frame after this one, as messages have it
abbrev pub frame_after : ℕ → ℕ
frame_after frame = (frame + 1) % 65536

-- What is recorded.

-- the stage whose messages are recorded in a slot: that in which the RMUs send to the BIUs, and of
-- an RMU's own diagnosis slot the one in which they all do. In data slots none is
abbrev pub stage_recorded : Role → ℕ
stage_recorded (Schedule i) = 2
stage_recorded (Data n) = 0
stage_recorded (DiagBiu i) = 2
stage_recorded (DiagRmu i) = 3
stage_recorded Sync = 2

-- by its header the message has a place in the lesson on this frame
abbrev pub has_place : Sizes → ℕ → Message → Bool
has_place sizes frame m =
    (m.frame == frame) && nat_le m.slot (sync_slot_of sizes) && (m.stage == stage_recorded (role_of sizes m.slot))

-- at first nothing is recorded
unfoldable pub nothing_recorded : List Sense
nothing_recorded = replicate 1808 Silent

-- what is recorded of RMU j in a slot
abbrev pub place_of : ℕ → ℕ → ℕ
place_of slot j = 16 * slot + j

abbrev pub record_of : List Sense → ℕ → ℕ → Sense
record_of records slot j = get_or records (place_of slot j) Silent

-- a record with one more message: one message that suits the slot, or bad, and bad if a second one
-- comes
abbrev pub with_message : Bool → ℕ → Message → Sense → Sense
with_message in_sync at m Silent = if tag_suits in_sync m.tag then One at m else Bad
with_message in_sync at m (One before n) = Bad
with_message in_sync at m Bad = Bad

abbrev pub with_record : Sizes → ℕ → ℕ → Message → List Sense → List Sense
with_record sizes j at m records =
    slice_set records (place_of m.slot j) (with_message (m.slot == sync_slot_of sizes) at m (record_of records m.slot j))

-- a message of RMU j comes at a tick, and is recorded if it has a place, whenever it comes
abbrev pub noted : Sizes → ℕ → ℕ → Message → Lesson → Lesson
noted sizes j at m lesson =
    if has_place sizes lesson.frame m then record lesson { records = with_record sizes j at m lesson.records } else lesson

-- a lesson begins
abbrev pub lesson_on : ℕ → Lesson
lesson_on frame = record { frame = frame; decides = None; records = nothing_recorded }

-- What follows from it.

-- the RMUs from which one message is recorded in a slot
abbrev pub ones_in : List Sense → ℕ → ℕ
ones_in records slot = set_of (λ j. is_one (record_of records slot j))

-- a BIU is trusted if most RMUs relayed something from it in its schedule slot
abbrev pub trusts_biu : Sizes → List Sense → ℕ → Bool
trusts_biu sizes records i = nat_lt i sizes.bius && are_most sizes (ones_in records i)

abbrev pub trusted_bius : Sizes → List Sense → ℕ
trusted_bius sizes records = set_of (trusts_biu sizes records)

-- an RMU is trusted if most RMUs told their votes in its diagnosis slot
abbrev pub trusts_rmu : Sizes → List Sense → ℕ → Bool
trusts_rmu sizes records j = nat_lt j sizes.rmus && are_most sizes (ones_in records (first_diagnosis_of Rmu sizes + j))

abbrev pub trusted_rmus : Sizes → List Sense → ℕ
trusted_rmus sizes records = set_of (trusts_rmu sizes records)

-- what is recorded of those in a set
abbrev pub recorded_of : {X : Type 0} → (Sense → Option X) → List Sense → ℕ → ℕ → ℕ → Option X
recorded_of part records rmus slot j = if has rmus j then part (record_of records slot j) else None

-- the vote over the values of a slot that are recorded of trusted RMUs
abbrev pub vote_on : List Sense → ℕ → ℕ → Heard
vote_on records rmus slot = majority_of (present (each_node (recorded_of value_in records rmus slot)))

-- the BIUs that the votes on the vectors of trusted RMUs convict
abbrev pub convicted_bius : Sizes → List Sense → ℕ → ℕ → ℕ
convicted_bius sizes records bius rmus =
    convicted_by sizes.bius rmus bius (λ j. vote_on records rmus (first_diagnosis_of Rmu sizes + j))

-- the RMUs that those on the vectors of trusted BIUs convict
abbrev pub convicted_rmus : Sizes → List Sense → ℕ → ℕ → ℕ
convicted_rmus sizes records bius rmus =
    convicted_by sizes.rmus bius rmus (λ i. vote_on records rmus (first_diagnosis_of Biu sizes + i))

-- the middle of the stamps of the calls that are recorded of trusted RMUs
abbrev pub middle_in : Sizes → List Sense → ℕ → Option ℕ
middle_in sizes records rmus = middle_of (present (each_node (recorded_of stamp_in records rmus (sync_slot_of sizes))))

-- the first frame: the one after the frame of the lesson, with its first tick, and the trusted
-- nodes less the convicted
abbrev pub first_by : Sizes → Plan → Lesson → ℕ → ℕ → ℕ → First
first_by sizes plan lesson bius rmus k2 = record {
  frame = frame_after lesson.frame;
  epoch = k2 + plan.v + plan.z + plan.c;
  bius = without bius (convicted_bius sizes lesson.records bius rmus);
  rmus = without rmus (convicted_rmus sizes lesson.records bius rmus);
}

-- the first frame by the lesson. There is none if no call of a trusted RMU is recorded
unfoldable pub first_of : Sizes → Plan → Lesson → Option First
first_of sizes plan lesson =
    let bius = trusted_bius sizes lesson.records in
    let rmus = trusted_rmus sizes lesson.records in
    option_map (first_by sizes plan lesson bius rmus) (middle_in sizes lesson.records rmus)
