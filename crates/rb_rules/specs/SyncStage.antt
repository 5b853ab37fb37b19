-- The sync slot, in which all nodes resynchronize: the BIUs call, the RMUs call a fixed time after
-- the middle of the BIUs' calls, and the BIUs call once more a fixed time after the middle of the
-- RMUs' calls.
use Rattle.std.specs.Prelude.{ℕ, ◌+◌, ◌%◌, ◌==◌, ◌&&◌, Bool, if◌then◌else◌, Option, Some, None, option_map, unwrap_or, map}
use Rattle.rb_base.specs.{Nodes.{Side, other}, Nodes.Side.{Biu, Rmu}, Sizes.{Sizes, sync_slot_of}, declared.values.See.See, declared.values.See.TheVariants.{Nothing, Time}}
use Rattle.rb_rules.specs.{declared.closing.SyncClosing.SyncClosing, declared.message.Message.Message, declared.plan.Plan.Plan, declared.role.Role.TheVariants.Sync, declared.sense.Sense.Sense, ExactStage.{Outcome, each_node, present}, Middle.middle_of, NodeState.NodeState, Plan.f0_of, Sense.stamp_in, Slots.{listens, expects}, Slots.Sender.EachTrusted, Standing.{Standing, taken_of, has_evidence, with_evidence}, Windows.send_offset_of}
use Rattle.rb_rules.specs.declared.message.Tag.TheVariants as tag

-- a call to resynchronize
abbrev pub call_of : Sizes → NodeState → ℕ → Message
call_of sizes st stage =
    record { tag = tag.Sync; frame = st.frame % 65536; slot = sync_slot_of sizes; stage = stage; value = 0 }

-- the call that a node of kind me sends in a stage
abbrev pub calls : Sizes → Side → NodeState → ℕ → Option Message
calls sizes me st stage = if listens (other me) Sync stage then Some (call_of sizes st stage) else None

-- the stamps that are accepted from each source, and the middle of them; if none is accepted, the
-- window's first tick
abbrev pub sync_closing_of : Standing → (ℕ → Bool) → (ℕ → Sense) → ℕ → SyncClosing
sync_closing_of s expected sense first =
    let taken = each_node (taken_of stamp_in s expected sense) in
    record { taken = taken; middle = unwrap_or (middle_of (present taken)) first }

-- whether a node of kind me expects source j in a stage of the sync slot; in the tail, stage 4, it
-- expects nobody
abbrev pub expects_call : Side → NodeState → ℕ → ℕ → Bool
expects_call me st stage j = expects me Sync EachTrusted st.far.trusted stage j

-- the middle of stage `of_stage` after the close of `stage`: `middle` if the two are the same stage
-- and the node listens in it, and otherwise `before`
abbrev pub middle_after : Side → ℕ → Option ℕ → ℕ → ℕ → Option ℕ
middle_after me of_stage before stage middle = if listens me Sync stage && (stage == of_stage) then Some middle else before

abbrev pub see_time : Option ℕ → See
see_time None = Nothing
see_time (Some stamp) = Time stamp

-- the outcome of closing a stage in which these stamps were accepted
unfoldable pub sync_outcome_of : Sizes → Side → NodeState → ℕ → (ℕ → Sense) → SyncClosing → Outcome
sync_outcome_of sizes me st stage sense c = record {
  state = record st {
    far = with_evidence (has_evidence st.far (expects_call me st stage) sense) st.far;
    k1 = middle_after me 1 st.k1 stage c.middle;
    k2 = middle_after me 2 st.k2 stage c.middle;
    k3 = middle_after me 3 st.k3 stage c.middle;
  };
  closed = record {
    place = record { frame = st.frame; slot = sync_slot_of sizes; stage = stage };
    sees = map see_time c.taken;
    delivered = None;
  };
}

-- a node of kind me closes a stage of the sync slot, or the tail; `first` is the window's first
-- tick
unfoldable pub close_sync : Sizes → Side → NodeState → ℕ → ℕ → (ℕ → Sense) → Outcome
close_sync sizes me st stage first sense =
    sync_outcome_of sizes me st stage sense (sync_closing_of st.far (expects_call me st stage) sense first)

-- the tick at which the call of a stage is sent. In stages 2 and 3 it follows from the middle of
-- the stage before, so there is none until the node has that middle in this frame
abbrev pub call_tick_of : Sizes → Plan → NodeState → ℕ → Option ℕ
call_tick_of sizes plan st stage =
    if stage == 1 then Some (st.epoch + f0_of sizes plan + plan.h)
    else (if stage == 2 then option_map (λ k1. k1 + plan.l) st.k1 else option_map (λ k2. k2 + plan.v) st.k2)

-- the tick at which the message of a stage of any slot is sent
abbrev pub send_tick_of : Sizes → Plan → NodeState → ℕ → ℕ → Option ℕ
send_tick_of sizes plan st slot stage =
    if slot == sync_slot_of sizes then call_tick_of sizes plan st stage else Some (st.epoch + send_offset_of plan slot stage)

-- the tick of the next epoch. There is none until the node has the middle from which it follows in
-- this frame
abbrev pub new_epoch_of : Plan → Side → NodeState → Option ℕ
new_epoch_of plan Biu st = option_map (λ k2. k2 + plan.v + plan.z + plan.c) st.k2
new_epoch_of plan Rmu st = option_map (λ k3. k3 + plan.z) st.k3
