-- The slots of a frame: what each is for, who sends in it, and which messages a node expects in it.
use Rattle.std.specs.Prelude.{ℕ, ◌+◌, ◌-◌, ◌*◌, nat_lt, ◌==◌, ◌&&◌, ◌||◌, Bool, true, false, if◌then◌else◌, Option, Some, None, List, slice_get}
use Rattle.rb_base.specs.{Nodes.{Side, has, set_of}, Nodes.Side.{Biu, Rmu}, Sizes.{Sizes, sync_slot_of}}
use Rattle.rb_rules.specs.{declared.role.Role.Role, declared.role.Role.TheVariants.{Schedule, Data, DiagBiu, DiagRmu, Sync}}

abbrev pub same_side : Side → Side → Bool
same_side Biu Biu = true
same_side Biu Rmu = false
same_side Rmu Biu = false
same_side Rmu Rmu = true

-- how many nodes of a kind there are
abbrev pub count_of : Side → Sizes → ℕ
count_of Biu sizes = sizes.bius
count_of Rmu sizes = sizes.rmus

-- the first diagnosis slot of a kind: those of the BIUs come after the data slots, and those of the
-- RMUs after the BIUs'
abbrev pub first_diagnosis_of : Side → Sizes → ℕ
first_diagnosis_of Biu sizes = sizes.bius + sizes.data_slots
first_diagnosis_of Rmu sizes = 2 * sizes.bius + sizes.data_slots

-- what a slot is for
abbrev pub role_of : Sizes → ℕ → Role
role_of sizes slot =
    if nat_lt slot sizes.bius then Schedule slot
    else (if nat_lt slot (first_diagnosis_of Biu sizes) then Data (slot - sizes.bius)
    else (if nat_lt slot (first_diagnosis_of Rmu sizes) then DiagBiu (slot - first_diagnosis_of Biu sizes)
    else (if nat_lt slot (sync_slot_of sizes) then DiagRmu (slot - first_diagnosis_of Rmu sizes) else Sync)))

-- the kind that sends in stage 1
abbrev pub sender_kind : Role → Side
sender_kind (Schedule i) = Biu
sender_kind (Data n) = Biu
sender_kind (DiagBiu i) = Biu
sender_kind (DiagRmu i) = Rmu
sender_kind Sync = Biu

-- data slots end with stage 2
abbrev pub has_third_stage : Role → Bool
has_third_stage (Schedule i) = true
has_third_stage (Data n) = false
has_third_stage (DiagBiu i) = true
has_third_stage (DiagRmu i) = true
has_third_stage Sync = true

-- the kind that sends in stage 1 listens in stage 2, and the other kind in stage 1, and in stage 3
-- if the slot has a third stage. A kind sends in the stages in which the other kind listens
abbrev pub listens : Side → Role → ℕ → Bool
listens me role stage =
    if same_side me (sender_kind role) then stage == 2 else ((stage == 1) || ((stage == 3) && has_third_stage role))

-- the sender in stage 1 of a slot: nobody, one node, or each trusted node of the kind that sends
pub data Sender : Type 0 where
  Nobody : Sender  -- the slot is idle
  Node : (index : ℕ) → Sender
  EachTrusted : Sender

-- a node sends in its own slot unless it is convicted
abbrev pub if_trusted : ℕ → ℕ → Sender
if_trusted trusted i = if has trusted i then Node i else Nobody

-- the owner of a data slot sends in it, if there is one
abbrev pub if_owned : Option ℕ → Sender
if_owned None = Nobody
if_owned (Some i) = Node i

-- the sender in stage 1 of a slot, by the trusted BIUs and RMUs and the data slots' owners in order
abbrev pub sender_in : ℕ → ℕ → List ℕ → Role → Sender
sender_in bius rmus owners (Schedule i) = if_trusted bius i
sender_in bius rmus owners (Data n) = if_owned (slice_get owners n)
sender_in bius rmus owners (DiagBiu i) = if_trusted bius i
sender_in bius rmus owners (DiagRmu i) = if_trusted rmus i
sender_in bius rmus owners Sync = EachTrusted

-- whether a node that listens in a stage expects source j: in an idle slot none; in stage 1 of a
-- slot with one sender that sender alone; in the other stages, and in each stage of the sync slot,
-- each trusted source
abbrev pub expects_of : Sender → ℕ → ℕ → ℕ → Bool
expects_of Nobody trusted stage j = false
expects_of (Node i) trusted stage j = if stage == 1 then j == i else has trusted j
expects_of EachTrusted trusted stage j = has trusted j

-- whether a node of kind me expects source j in a stage, `trusted` being the trusted nodes of the
-- other kind
abbrev pub expects : Side → Role → Sender → ℕ → ℕ → ℕ → Bool
expects me role sender trusted stage j = listens me role stage && expects_of sender trusted stage j

-- the trusted nodes of the other kind
abbrev pub far_of : Side → ℕ → ℕ → ℕ
far_of Biu bius rmus = rmus
far_of Rmu bius rmus = bius

-- the nodes that a node of kind me expects in a stage of a slot, by the owners and by the trusted
-- BIUs and RMUs
abbrev pub expected_by : Sizes → Side → ℕ → ℕ → List ℕ → ℕ → ℕ → ℕ
expected_by sizes me slot stage owners bius rmus =
    set_of (expects me (role_of sizes slot) (sender_in bius rmus owners (role_of sizes slot)) (far_of me bius rmus) stage)
