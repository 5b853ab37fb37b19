-- Who is good in the slots of records, and what a BIU offers in them.
use Rattle.std.specs.{Prelude.{ℕ, ◌≡◌, ◌==◌, All, Bool, true, false, if◌then◌else◌, Option, Some, None, List, [], ◌∷◌, get_or}, List.flat_map}
use Rattle.rb_base.specs.Nodes.Side.{Biu}
use Rattle.rb_rules.specs.{Book.{Record, of_kind}, Book.Record.{Frame, Slot, Ended, Breach}, Goodness.{Scenario, is_good}, Moments.{before_slot, offered_in}, NodeState.{NodeState, first_state}, NodeSteps.owner_at, Ports.HandIn}

-- BIU i is good in the slot that a record tells
abbrev pub is_good_in : Scenario → ℕ → Record → Bool
is_good_in sc i (Frame frame nodes ports) = true
is_good_in sc i (Slot frame slot lines) = is_good sc Biu i frame slot
is_good_in sc i Ended = true
is_good_in sc i (Breach place cause) = true

-- BIU i is good in all slots that `records` tell
abbrev pub IsGoodThrough : Scenario → ℕ → List Record → Type 0
IsGoodThrough sc i records = All (λ r. is_good_in sc i r ≡ true) records

-- the state of BIU i before a slot
abbrev pub state_before : Scenario → List HandIn → ℕ → ℕ → ℕ → NodeState
state_before sc hands frame slot i = get_or (of_kind Biu (before_slot sc hands frame slot).nodes) i (first_state sc.sizes Biu)

-- BIU i is the owner of a slot
abbrev pub is_owner : ℕ → Option ℕ → Bool
is_owner i None = false
is_owner i (Some owner) = owner == i

-- the word that BIU i offers in the slot of a record, if it owns that slot
abbrev pub offers : Scenario → List HandIn → ℕ → Record → List ℕ
offers sc hands i (Frame frame nodes ports) = []
offers sc hands i (Slot frame slot lines) =
    if is_owner i (owner_at sc.sizes (state_before sc hands frame slot i) slot) then offered_in sc hands frame slot i ∷ [] else []
offers sc hands i Ended = []
offers sc hands i (Breach place cause) = []

-- the words that BIU i offers in the slots of `records`, in order
abbrev pub offered_by : Scenario → List HandIn → ℕ → List Record → List ℕ
offered_by sc hands i records = flat_map (offers sc hands i) records
