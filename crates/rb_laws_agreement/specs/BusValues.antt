-- The run of the abstract bus that the rounds make, by their values.
use Rattle.std.specs.Prelude.{ℕ, zero, suc, ◌≡◌, ◌+◌, ◌<◌, ◌≤◌, nat_lt, Bool, true, false, if◌then◌else◌, List, [], ◌∷◌, get_or}
use Rattle.rb_base.specs.{Counting.numbers, Nodes.{Side, has}, Sizes.sync_slot_of, declared.values.Heard.Heard}
use Rattle.rb_rules.specs.{AbstractBus.{AbstractBus, trusted_on, first_bus, bus_after_slot, bus_after_frame, SlotStep}, Book.of_kind, Goodness.{Scenario, is_good}, Moments.{before_stage, IsComplete, IsSettled, IsGoodBefore, IsGoodAfter, offered_in}, NodeState.{NodeState, first_state}, Ports.HandIn, StandsFor.{steps_to, HoldsTrusted, HoldsOwners, HoldsVote, DeliversOn}}
use Rattle.rb_laws_agreement.specs.Values.{kind_in, vote_on}

-- the first number that passes
abbrev pub first_passing : (ℕ → Bool) → List ℕ → ℕ
first_passing passes [] = 0
first_passing passes (i ∷ is) = if passes i then i else first_passing passes is

-- the value of a slot in the rounds: the vote of the first good voter after stage 2
abbrev pub value_in_rounds : Scenario → List HandIn → ℕ → ℕ → Heard
value_in_rounds sc hands frame slot =
    let me = kind_in sc slot in
    let i = first_passing (λ i. is_good sc me i frame slot) (numbers 16) in
    vote_on (get_or (of_kind me (before_stage sc hands frame slot 3).nodes) i (first_state sc.sizes me)) slot

-- a step of the bus: a slot with its value, or the start of the next frame at its time
abbrev pub bus_goes : Scenario → List HandIn → (ℕ → ℕ) → AbstractBus → AbstractBus
bus_goes sc hands low bus =
    elim (nat_lt bus.slot (sync_slot_of sc.sizes)) [
      | true ↦ bus_after_slot sc.sizes (value_in_rounds sc hands bus.frame bus.slot) bus
      | false ↦ bus_after_frame sc.sizes (low (bus.frame + 1)) bus
    ]

-- the bus after a number of steps, `low` being the first time of each frame
abbrev pub bus_in_rounds : Scenario → List HandIn → (ℕ → ℕ) → ℕ → AbstractBus
bus_in_rounds sc hands low zero = first_bus sc.sizes (low 0)
bus_in_rounds sc hands low (suc n) = bus_goes sc hands low (bus_in_rounds sc hands low n)

-- the bus before a slot, and the one after its step
abbrev pub bus_before : Scenario → List HandIn → (ℕ → ℕ) → ℕ → ℕ → AbstractBus
bus_before sc hands low frame slot = bus_in_rounds sc hands low (steps_to sc.sizes frame slot)

abbrev pub bus_then : Scenario → List HandIn → (ℕ → ℕ) → ℕ → ℕ → AbstractBus
bus_then sc hands low frame slot = bus_in_rounds sc hands low (steps_to sc.sizes frame slot + 1)

-- a good node before a slot holds what the bus does
pub record HoldsBus (sc : Scenario) (bus : AbstractBus) (me : Side) (st : NodeState) : Type 0 where
  pub trusted : HoldsTrusted bus me st
  pub owners : HoldsOwners sc bus st

-- before each slot that is settled
pub record IsBusBefore (sc : Scenario) (hands : List HandIn) (frame slot : ℕ) (bus : AbstractBus) : Type 0 where
  pub frame_is : bus.frame ≡ frame
  pub slot_is : bus.slot ≡ slot
  pub good_nodes : (me : Side) (i : ℕ) (st : NodeState) → IsGoodBefore sc hands frame slot me i st → HoldsBus sc bus me st
  pub good_are_trusted : (kind : Side) (j : ℕ) → is_good sc kind j frame slot ≡ true → has (trusted_on kind bus) j ≡ true

-- in each slot below the sync slot that is complete
pub record IsBusSlot (sc : Scenario) (hands : List HandIn) (frame slot : ℕ) (bus next : AbstractBus) : Type 0 where
  pub step : SlotStep sc (offered_in sc hands frame slot) (value_in_rounds sc hands frame slot) bus next
  pub votes : (me : Side) (i : ℕ) (st : NodeState) → IsGoodAfter sc hands frame slot me i st → HoldsVote sc slot next me st
  pub deliveries : DeliversOn sc hands frame slot bus next

-- the rounds make a run of the bus, but for its times: what good nodes hold is what the bus holds,
-- each slot is a step of it, and so is the start of each frame
pub record StepsTheBus (sc : Scenario) (hands : List HandIn) (low : ℕ → ℕ) : Type 0 where
  pub before : (frame slot : ℕ) → slot ≤ sync_slot_of sc.sizes → IsSettled sc hands frame slot
      → IsBusBefore sc hands frame slot (bus_before sc hands low frame slot)
  pub slots : (frame slot : ℕ) → slot < sync_slot_of sc.sizes → IsComplete sc hands frame slot
      → IsBusSlot sc hands frame slot (bus_before sc hands low frame slot) (bus_then sc hands low frame slot)
  pub frames : (frame : ℕ) → IsComplete sc hands frame (sync_slot_of sc.sizes)
      → bus_then sc hands low frame (sync_slot_of sc.sizes)
      ≡ bus_after_frame sc.sizes (low (frame + 1)) (bus_before sc hands low frame (sync_slot_of sc.sizes))
