-- The bus as one machine. It has one value for each slot, one schedule and one set of trusted nodes
-- of each kind; it has no votes, no stamps, no links and no accusations.
use Rattle.std.specs.Prelude.{⊤, ℕ, suc, ◌≡◌, ◌+◌, ◌*◌, ◌<◌, ◌≤◌, nat_lt, ◌==◌, true, false, if◌then◌else◌, List, [], ◌∷◌, ◌++◌, get_or}
use Rattle.rb_base.specs.{Nodes.{Side, other, has, set_of}, Nodes.Side.{Biu, Rmu}, Sizes.{Sizes, sync_slot_of}, declared.values.Heard.Heard, declared.values.Heard.TheVariants.{Word, Fault}}
use Rattle.rb_rules.specs.{declared.role.Role.Role, declared.role.Role.TheVariants.{Schedule, Data, DiagBiu, DiagRmu, Sync}, Conviction.{is_valid, names, convicted_by}, Goodness.{Scenario, is_good}, Owners.owners_of, Plan.{shortest_of, tail_start_of}, Slots.{Sender, count_of, first_diagnosis_of, role_of, sender_in, sender_kind}, Slots.Sender.{Nobody, Node, EachTrusted}, Standing.without}

pub record AbstractBus : Type 0 where
  pub low : ℕ  -- the time before which no good node began the frame
  pub frame : ℕ
  pub slot : ℕ  -- the slot that comes next
  pub values : List Heard  -- the values of the finished slots of the frame
  pub owners : List ℕ  -- the owners of the frame's data slots, once they are known
  pub bius : ℕ  -- the BIUs that are not convicted
  pub rmus : ℕ  -- the RMUs that are not convicted

abbrev pub trusted_on : Side → AbstractBus → ℕ
trusted_on Biu bus = bus.bius
trusted_on Rmu bus = bus.rmus

-- at first all nodes are trusted
abbrev pub first_bus : Sizes → ℕ → AbstractBus
first_bus sizes low = record {
  low = low;
  frame = 0;
  slot = 0;
  values = [];
  owners = [];
  bius = set_of (λ i. nat_lt i sizes.bius);
  rmus = set_of (λ i. nat_lt i sizes.rmus);
}

-- the sender in stage 1 of the slot that comes next
abbrev pub sender_on : Sizes → AbstractBus → Sender
sender_on sizes bus = sender_in bus.bius bus.rmus bus.owners (role_of sizes bus.slot)

-- a word that is a mask of the nodes of the kind, and names none that is good
pub record SparesGood (sc : Scenario) (bus : AbstractBus) (accused : Side) (value : Heard) : Type 0 where
  pub valid : is_valid (count_of accused sc.sizes) value ≡ true
  pub spared : (j : ℕ) → is_good sc accused j bus.frame bus.slot ≡ true → names j value ≡ false

-- the value is what a good sender says: its request, the word that it is offered, or a vector that
-- spares the good
abbrev pub IsOfGood : Scenario → AbstractBus → ℕ → Role → Heard → Type 0
IsOfGood sc bus offered (Schedule i) value = value ≡ Word (get_or sc.requests i 0)
IsOfGood sc bus offered (Data n) value = value ≡ Word offered
IsOfGood sc bus offered (DiagBiu i) value = SparesGood sc bus Rmu value
IsOfGood sc bus offered (DiagRmu i) value = SparesGood sc bus Biu value
IsOfGood sc bus offered Sync value = ⊤

-- the value that a slot may have: Fault if it is idle, what the sender says if it is good, and any
-- value if the sender is not good or each trusted node sends; `offered` is the word that each BIU
-- is offered
abbrev pub MayHave : Scenario → AbstractBus → (ℕ → ℕ) → Role → Sender → Heard → Type 0
MayHave sc bus offered role Nobody value = value ≡ Fault
MayHave sc bus offered role (Node i) value =
    is_good sc (sender_kind role) i bus.frame bus.slot ≡ true → IsOfGood sc bus (offered i) role value
MayHave sc bus offered role EachTrusted value = ⊤

-- the bus after a slot with this value. It has the schedule after the last schedule slot
abbrev pub bus_after_slot : Sizes → Heard → AbstractBus → AbstractBus
bus_after_slot sizes value bus = record bus {
  slot = bus.slot + 1;
  values = bus.values ++ value ∷ [];
  owners = if bus.slot + 1 == sizes.bius then owners_of sizes bus.bius (bus.values ++ value ∷ []) else bus.owners;
}

-- one slot of the bus: it goes from `before` to `after` with this value
pub record SlotStep (sc : Scenario) (offered : ℕ → ℕ) (value : Heard) (before after : AbstractBus) : Type 0 where
  pub may_have : MayHave sc before offered (role_of sc.sizes before.slot) (sender_on sc.sizes before) value
  pub after_is : after ≡ bus_after_slot sc.sizes value before

-- the nodes of a kind that the values of the frame's diagnosis slots convict
abbrev pub convicted_on : Sizes → Side → AbstractBus → ℕ
convicted_on sizes accused bus =
    convicted_by (count_of accused sizes) (trusted_on (other accused) bus) (trusted_on accused bus)
    (λ i. get_or bus.values (first_diagnosis_of (other accused) sizes + i) Fault)

-- the bus at the start of the next frame
abbrev pub bus_after_frame : Sizes → ℕ → AbstractBus → AbstractBus
bus_after_frame sizes low bus = record {
  low = low;
  frame = bus.frame + 1;
  slot = 0;
  values = [];
  owners = [];
  bius = without bus.bius (convicted_on sizes Biu bus);
  rmus = without bus.rmus (convicted_on sizes Rmu bus);
}

-- from one frame to the next: `low` rises by at least the time of all ticks before the tail if each
-- has the shortest length, and nobody who is good at the start of the next frame is convicted
pub record FrameStep (sc : Scenario) (before after : AbstractBus) : Type 0 where
  pub later : before.low + tail_start_of sc.sizes sc.plan * shortest_of sc.plan ≤ after.low
  pub after_is : after ≡ bus_after_frame sc.sizes after.low before
  pub good_stay : (side : Side) (j : ℕ) → is_good sc side j after.frame 0 ≡ true → has (trusted_on side after) j ≡ true

-- a slot below the sync slot, or the sync slot with the step to the next frame; `offered` is the
-- word that is offered in a frame's slot to each BIU
abbrev pub IsStep : Scenario → (ℕ → ℕ → ℕ → ℕ) → AbstractBus → AbstractBus → Type 0
IsStep sc offered before after =
    elim (nat_lt before.slot (sync_slot_of sc.sizes)) [
      | true ↦ (value : Heard) × SlotStep sc (offered before.frame before.slot) value before after
      | false ↦ FrameStep sc before after
    ]

-- the first `steps` steps of the machine, of which `bus` gives the state after each
pub record IsRun (sc : Scenario) (offered : ℕ → ℕ → ℕ → ℕ) (steps : ℕ) (bus : ℕ → AbstractBus) : Type 0 where
  pub first : bus 0 ≡ first_bus sc.sizes (bus 0).low
  pub each_step : (n : ℕ) → n < steps → IsStep sc offered (bus n) (bus (suc n))
