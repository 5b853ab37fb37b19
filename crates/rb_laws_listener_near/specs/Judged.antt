-- The fault premise with a listener as one more good receiver of the RMUs. It is no BIU, and is not
-- counted among the good nodes.
use Rattle.std.specs.{Prelude.{ℕ, ◌&&◌, ◌||◌, not, Bool, false, Option, Some, None, List, [], ◌∷◌, length}, List.list_any}
use Rattle.rb_base.specs.{Nodes.{Side, has, set_of}, Nodes.Side.{Biu, Rmu}, declared.values.See.See}
use Rattle.rb_rules.specs.{declared.cause.Cause.Cause, Judging.{ClassSets, JudgedStage, are_alike, cause_of, good_now, is_something, is_suspect, some_receiver, trusted_now, was_taken, was_unlike}}

-- a stage as it is judged, and what the listener saw in it of each RMU, if it is a receiver in that
-- stage
pub record HeardStage : Type 0 where
  pub stage : JudgedStage
  pub seen : Option (ℕ → See)

-- the listener took something of RMU j
abbrev pub took_of : Side → ℕ → Option (ℕ → See) → Bool
took_of kind j None = false
took_of Biu j (Some sight) = false
took_of Rmu j (Some sight) = is_something (sight j)

-- the listener saw RMU j unlike some good BIU
abbrev pub unlike_some : Side → ℕ → JudgedStage → Option (ℕ → See) → Bool
unlike_some kind j s None = false
unlike_some Biu j s (Some sight) = false
unlike_some Rmu j s (Some sight) = some_receiver Rmu (λ i. not (are_alike s.eps (s.sight Biu i j) (sight j))) s

abbrev pub was_taken_with : Side → ℕ → HeardStage → Bool
was_taken_with kind j h = was_taken kind j h.stage || took_of kind j h.seen

abbrev pub was_unlike_with : Side → ℕ → HeardStage → Bool
was_unlike_with kind j h = was_unlike kind j h.stage || unlike_some kind j h.stage h.seen

-- the stages of the frame so far, the newest first, with what the listener saw in each window of
-- the frame. It may depend on whom the bus trusted there
abbrev pub heard_stages : (ℕ → JudgedStage → Option (ℕ → See)) → List JudgedStage → List HeardStage
heard_stages seen [] = []
heard_stages seen (s ∷ earlier) = record { stage = s; seen = seen (length earlier) s } ∷ heard_stages seen earlier

abbrev pub is_benign_with : Side → List HeardStage → ℕ → Bool
is_benign_with kind heard j = not (list_any (was_taken_with kind j) heard)

abbrev pub is_asymmetric_with : Side → List HeardStage → ℕ → Bool
is_asymmetric_with kind heard j = list_any (was_unlike_with kind j) heard

abbrev pub classes_with : Side → (ℕ → JudgedStage → Option (ℕ → See)) → List JudgedStage → ClassSets
classes_with kind seen stages =
    let heard = heard_stages seen stages in
    record {
      good = set_of (λ j. has (trusted_now kind stages) j && has (good_now kind stages) j);
      benign = set_of (λ j. is_suspect kind stages j && is_benign_with kind heard j);
      symmetric = set_of (λ j. is_suspect kind stages j && not (is_benign_with kind heard j) && not (is_asymmetric_with kind heard j));
      asymmetric = set_of (λ j. is_suspect kind stages j && is_asymmetric_with kind heard j);
    }

-- the verdict on the newest stage
unfoldable pub verdict_with : (ℕ → JudgedStage → Option (ℕ → See)) → List JudgedStage → Option Cause
verdict_with seen stages = cause_of (classes_with Biu seen stages) (classes_with Rmu seen stages)
