-- What is proved of a listener beside a run of the bus, from its first frame on.
use Rattle.std.specs.Prelude.{ℕ, ◌≡◌, ◌+◌, ◌<◌, ◌≤◌, Some, List}
use Rattle.rb_base.specs.Sizes.{sync_slot_of}
use Rattle.rb_rules.specs.{Goodness.Scenario, Lawful.IsLawful, Moments.{IsRunning, before_stage}, Ports.HandIn}
use Rattle.rb_listen.specs.{Lessons.first_of, declared.lesson.First.First, declared.search.Search.Search}
use Rattle.rb_laws_listener_learns.specs.{Deciding.DecidesBy, Ears.{Ear, HearsTheRun, IsEar}, Receivers.IsCalm}
use Rattle.rb_laws_listener_follows.specs.InTime.{BeginsNear, HearsTheStage}

-- a listener that begins a frame near the good nodes hears in each window below the sync slot what
-- good RMUs send in it, and nothing else from those that are good in the next stage, too: up to the
-- first breach, and also in the stage that breaks the premise
abbrev pub RmusAreHeardInTime : Type 0
RmusAreHeardInTime =
    (sc : Scenario) (hands : List HandIn) → IsLawful sc → (ear : Ear) → IsEar sc ear → HearsTheRun sc hands ear
    → (frame epoch : ℕ) → BeginsNear sc hands ear frame epoch
    → (slot stage : ℕ) → slot < sync_slot_of sc.sizes → 1 ≤ stage → stage ≤ 3 → IsRunning (before_stage sc hands frame slot stage)
    → HearsTheStage sc hands ear frame slot stage epoch

-- If the learned frame comes to its end before the first breach of the premise with the listener,
-- the listener begins its first frame, the one after the learned one, near all good nodes
abbrev pub FirstFramesBeginNear : Type 0
FirstFramesBeginNear =
    (sc : Scenario) (hands : List HandIn) → IsLawful sc → (ear : Ear) → IsEar sc ear → HearsTheRun sc hands ear
    → (learned tick : ℕ) (s : Search) → DecidesBy sc hands ear learned tick s → IsCalm sc hands ear learned s.lesson.records learned (sync_slot_of sc.sizes)
    → (first : First) × ((first_of sc.sizes sc.plan s.lesson ≡ Some first) × BeginsNear sc hands ear (learned + 1) first.epoch)
