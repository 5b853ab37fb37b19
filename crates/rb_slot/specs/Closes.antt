-- What the close of a window makes of an engine.
use Rattle.std.specs.Prelude.{ℕ, ◌≡◌, Bool, List}
use Rattle.rb_base.specs.{Nodes.Side, Sizes.sync_slot_of}
use Rattle.rb_rules.specs.{declared.closing.Closed.Closed, declared.sense.Sense.Sense, ExactStage.{Outcome, close_exact}, Standing.{has_evidence, with_evidence}, SyncStage.close_sync}
use Rattle.rb_eligible.specs.Inboxes.{HoldsArrivals, KeptArrivals, Received}
use Rattle.rb_slot.specs.Engines.{IsSameFrame, Seated, senses_in}

-- what the close of a stage of a slot below the sync slot makes of it
abbrev pub exact_outcome_on : Side → Seated → ℕ → ℕ → List Received → Outcome
exact_outcome_on me v slot stage received = close_exact v.sizes me v.index v.state slot stage (senses_in v slot stage received)

-- what the close of a stage of the sync slot makes of it, or that of the tail; `first` is the
-- window's first tick
abbrev pub sync_outcome_on : Side → Seated → ℕ → ℕ → List Received → Outcome
sync_outcome_on me v stage first received = close_sync v.sizes me v.state stage first (senses_in v (sync_slot_of v.sizes) stage received)

-- whatever came that the inbox stands for, the node has its outcome as state, and shows what the
-- outcome shows. It stays in its frame
pub record ClosesWith (inbox : KeptArrivals) (outcome : List Received → Outcome) (before after : Seated) (shown : Closed) : Type 0 where
  pub state : (received : List Received) → HoldsArrivals inbox received → after ≡ record before { state = (outcome received).state }
  pub closed : (received : List Received) → HoldsArrivals inbox received → shown ≡ (outcome received).closed
  pub same : IsSameFrame before after

-- whatever arrivals the inbox stands for, the node accuses the expected sources against which there
-- is direct evidence. It stays in its frame
pub record Accuses (inbox : KeptArrivals) (expected : ℕ → Bool) (senses : List Received → ℕ → Sense) (before after : Seated) : Type 0 where
  pub accused : (received : List Received) → HoldsArrivals inbox received
      → after ≡ record before { state = record before.state { far = with_evidence (has_evidence before.state.far expected (senses received)) before.state.far } }
  pub same : IsSameFrame before after
