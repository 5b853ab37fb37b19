-- What is accepted from sources in a window, and whom that accuses, whatever list of arrivals the
-- inbox stands for.
use Rattle.std.specs.Prelude.{ℕ, ◌≡◌, ◌<◌, ◌^◌, ◌&&◌, not, Bool, true, false, if◌then◌else◌, Option, Some, None, List}
use Rattle.rb_base.specs.{Nodes.{has, set_of}, declared.values.Heard.Heard}
use Rattle.rb_rules.specs.{declared.sense.Expect.Expect, ExactStage.{at_source, each_node}, Sense.{is_one, value_in}, Standing.{Standing, has_evidence, taken_of, with_evidence}}
use Rattle.rb_eligible.specs.{Inboxes.{HoldsArrivals, KeptArrivals, Received, sense_in, sole_at}, declared.reading.Sole.Sole}

-- the sources among these from which exactly one message came that is meant for the window
abbrev pub AreOnesOf : KeptArrivals → Expect → (ℕ → Bool) → ℕ → Type 0
AreOnesOf kept e among ones = (received : List Received) → HoldsArrivals kept received → ones ≡ set_of (λ j. among j && is_one (sense_in e received j))

-- the values of the messages of the sources of a set, and nothing of the others
abbrev pub AreValuesOf : KeptArrivals → Expect → ℕ → List (Option Heard) → Type 0
AreValuesOf kept e due taken = (received : List Received) → HoldsArrivals kept received → (j : ℕ) → j < 16
    → at_source taken j ≡ (if has due j then value_in (sense_in e received j) else None)

-- the values of the messages of those that are expected and eligible
abbrev pub AreTakenOf : KeptArrivals → Standing → Expect → ℕ → List (Option Heard) → Type 0
AreTakenOf kept s e expected taken = (received : List Received) → HoldsArrivals kept received
    → taken ≡ each_node (taken_of value_in s (has expected) (sense_in e received))

-- after the window each node against which there is evidence is accused
abbrev pub AccusesBy : KeptArrivals → Standing → Expect → ℕ → Standing → Type 0
AccusesBy kept s e expected after = (received : List Received) → HoldsArrivals kept received → after ≡ with_evidence (has_evidence s (has expected) (sense_in e received)) s

-- the sources in `rest` are some of those in `left`. Each other source in `left` has the bytes of
-- `sole`, and `value` is what is accepted from it, perhaps nothing. For the sources outside of
-- `left` nothing changes
pub record IsRun (kept : KeptArrivals) (left rest : ℕ) (sole : Sole) (value : Option Heard) (before taken : List (Option Heard)) : Type 0 where
  pub within : (j : ℕ) → j < 16 → has rest j ≡ true → has left j ≡ true
  pub same : (j : ℕ) → j < 16 → has left j ≡ true → has rest j ≡ false
      → (at_source taken j ≡ value) × ((sole_at kept.soles j).low ≡ sole.low) × ((sole_at kept.soles j).tail ≡ sole.tail)
  pub others : (j : ℕ) → j < 16 → has left j ≡ false → at_source taken j ≡ at_source before j

-- what was accepted from the sources of a set, without those that are left; which of them sent one
-- message that is meant for the window; and that the same value was accepted from each of the
-- leading ones
pub record IsPartial (kept : KeptArrivals) (e : Expect) (due left ones lead : ℕ) (value : Option Heard) (taken : List (Option Heard)) : Type 0 where
  pub fits : ones < 2 ^ 16
  pub within : (j : ℕ) → j < 16 → has left j ≡ true → has due j ≡ true
  pub one : (received : List Received) → HoldsArrivals kept received → (j : ℕ) → j < 16
      → has ones j ≡ ((has due j && not (has left j)) && is_one (sense_in e received j))
  pub so_far : (received : List Received) → HoldsArrivals kept received → (j : ℕ) → j < 16 → has left j ≡ false
      → at_source taken j ≡ (if has due j then value_in (sense_in e received j) else None)
  pub blank : (j : ℕ) → j < 16 → has left j ≡ false → has ones j ≡ false → at_source taken j ≡ None
  pub held : (j : ℕ) → j < 16 → has lead j ≡ true
      → (has left j ≡ false) × ((h : Heard) × ((at_source taken j ≡ Some h) × (value ≡ Some h)))
