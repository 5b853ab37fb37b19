-- What one node does in a window of any slot, and what it reports about itself.
use Rattle.std.specs.Prelude.{ℕ, ◌+◌, ◌%◌, ◌==◌, ◌&&◌, not, nat_lt, true, false, if◌then◌else◌, Option, Some, None, option_map, slice_get}
use Rattle.rb_base.specs.{Nodes.{Side, has, set_of}, Sizes.{Sizes, sync_slot_of}}
use Rattle.rb_rules.specs.{declared.message.Message.Message, declared.message.Version.Version, declared.plan.Plan.Plan, declared.role.Role.Role, declared.role.Role.TheVariants.{Schedule, Data, DiagBiu, DiagRmu, Sync}, declared.sense.Expect.Expect, declared.sense.Sense.Sense, Conviction.turn, ExactStage.{Outcome, says, message_of, close_exact}, NodeState.{NodeState, trusted_of}, Slots.{count_of, role_of}, SyncStage.{calls, close_sync, new_epoch_of}}

-- the frame, the slot, the stage and the form that a message needs if it is meant for a window of
-- the node's frame
abbrev pub expect_of : Sizes → Version → NodeState → ℕ → ℕ → Expect
expect_of sizes version st slot stage =
    record { frame = st.frame % 65536; slot = slot; stage = stage; sync = slot == sync_slot_of sizes; version = version }

-- the message that node `index` of kind me sends in a stage, if any; `word` is its request or its
-- word
abbrev pub message_said : Sizes → Side → ℕ → NodeState → ℕ → ℕ → ℕ → Option Message
message_said sizes me index st slot stage word =
    if slot == sync_slot_of sizes then calls sizes me st stage
    else option_map (message_of st slot stage) (says sizes me index st slot stage word)

-- node `index` of kind me closes a window that begins at the offset `first`; `sense` says what came
-- from each source
abbrev pub close : Sizes → Side → ℕ → NodeState → ℕ → ℕ → ℕ → (ℕ → Sense) → Outcome
close sizes me index st slot stage first sense =
    elim (slot == sync_slot_of sizes) [
      | true ↦ close_sync sizes me st stage (st.epoch + first) sense
      | false ↦ close_exact sizes me index st slot stage sense
    ]

-- a node at the end of a frame turns to the next one, if it knows the tick with which that starts
abbrev pub turn_if_known : Sizes → Plan → Side → NodeState → NodeState
turn_if_known sizes plan me st =
    elim (new_epoch_of plan me st) [ None ↦ st | Some epoch ↦ turn sizes plan.probation me epoch st ]

-- the owner of a slot, if it is a data slot that has one and the schedule is known
abbrev pub owner_for : NodeState → Role → Option ℕ
owner_for st (Schedule i) = None
owner_for st (Data n) = slice_get st.owners n
owner_for st (DiagBiu i) = None
owner_for st (DiagRmu i) = None
owner_for st Sync = None

abbrev pub owner_at : Sizes → NodeState → ℕ → Option ℕ
owner_at sizes st slot = owner_for st (role_of sizes slot)

-- the convicted nodes of a kind, as a node of kind me holds them
abbrev pub convicted_of : Sizes → Side → Side → NodeState → ℕ
convicted_of sizes side me st = set_of (λ j. nat_lt j (count_of side sizes) && not (has (trusted_of me side st) j))
