-- How the fault premise is judged: what good receivers saw of each source in the stages of a frame.
use Rattle.std.specs.{Prelude.{ℕ, ◌+◌, nat_lt, nat_le, ◌==◌, ◌&&◌, not, Bool, true, false, if◌then◌else◌, Option, Some, None, List, [], ◌∷◌}, List.list_any}
use Rattle.rb_base.specs.{Counting.numbers, Nodes.{Side, other, has, set_of, size}, Nodes.Side.{Biu, Rmu}, declared.node.NodeName.NodeName, declared.values.See.See, declared.values.See.TheVariants.{Nothing, Value, Time}}
use Rattle.rb_rules.specs.{declared.cause.Cause.Cause, declared.cause.Cause.TheVariants.{FewGoodBiu, FewGoodRmu, TwoSided}, Links.{name_of, same_node}, Majority.same_heard}

-- two sights of a source are alike: both are nothing, or equal values, or times that differ by at
-- most eps
abbrev pub are_alike : ℕ → See → See → Bool
are_alike eps Nothing Nothing = true
are_alike eps Nothing (Value b) = false
are_alike eps Nothing (Time b) = false
are_alike eps (Value a) Nothing = false
are_alike eps (Value a) (Value b) = same_heard a b
are_alike eps (Value a) (Time b) = false
are_alike eps (Time a) Nothing = false
are_alike eps (Time a) (Value b) = false
are_alike eps (Time a) (Time b) = nat_le a (b + eps) && nat_le b (a + eps)

abbrev pub is_something : See → Bool
is_something Nothing = false
is_something (Value v) = true
is_something (Time t) = true

-- a stage of a slot as it is judged. The sets are by kind; a time in a sight is in reference units
pub record JudgedStage : Type 0 where
  pub good : Side → ℕ  -- the nodes that are good in the stage
  pub trusted : Side → ℕ  -- the trusted nodes
  pub eps : ℕ  -- how far apart the times of one message may be
  pub sight : Side → ℕ → ℕ → See  -- what receiver i of a kind saw of source j of the other kind

-- the first value for BIUs and the second for RMUs
abbrev pub by_kind : {X : Type 0} → X → X → Side → X
by_kind biu rmu Biu = biu
by_kind biu rmu Rmu = rmu

-- a stage in which nothing has been seen yet
abbrev pub stage_begun : (Side → ℕ) → (Side → ℕ) → ℕ → JudgedStage
stage_begun good trusted eps = record { good = good; trusted = trusted; eps = eps; sight = λ kind i j. Nothing }

-- the stage with `see` as what this receiver saw of source j
abbrev pub with_sight : NodeName → ℕ → See → JudgedStage → JudgedStage
with_sight receiver j see s = record s {
  sight = λ kind i k. if same_node (name_of kind i) receiver && (k == j) then see else s.sight kind i k;
}

-- some good node of the other kind, which receives from nodes of this kind, passes the test
abbrev pub some_receiver : Side → (ℕ → Bool) → JudgedStage → Bool
some_receiver kind passes s = list_any (λ i. has (s.good (other kind)) i && passes i) (numbers 16)

-- some good receiver accepted something from source j of this kind
abbrev pub was_taken : Side → ℕ → JudgedStage → Bool
was_taken kind j s = some_receiver kind (λ i. is_something (s.sight (other kind) i j)) s

-- two good receivers saw source j of this kind unlike
abbrev pub was_unlike : Side → ℕ → JudgedStage → Bool
was_unlike kind j s =
    some_receiver kind (λ a. some_receiver kind (λ b. not (are_alike s.eps (s.sight (other kind) a j) (s.sight (other kind) b j))) s) s

-- The stages of a frame so far, the newest first.

-- the stages with `see` as what this receiver saw of source j in the newest one
abbrev pub with_newest_sight : NodeName → ℕ → See → List JudgedStage → List JudgedStage
with_newest_sight receiver j see [] = []
with_newest_sight receiver j see (s ∷ earlier) = with_sight receiver j see s ∷ earlier

-- the sets of the newest stage; they are empty before the first stage
abbrev pub good_now : Side → List JudgedStage → ℕ
good_now kind [] = 0
good_now kind (s ∷ earlier) = s.good kind

abbrev pub trusted_now : Side → List JudgedStage → ℕ
trusted_now kind [] = 0
trusted_now kind (s ∷ earlier) = s.trusted kind

-- the trusted nodes that are not good
abbrev pub is_suspect : Side → List JudgedStage → ℕ → Bool
is_suspect kind stages j = has (trusted_now kind stages) j && not (has (good_now kind stages) j)

-- the classes of the trusted nodes of a kind
pub record ClassSets : Type 0 where
  pub good : ℕ
  pub benign : ℕ  -- not good, and nothing was taken of them
  pub symmetric : ℕ  -- not good, and always seen alike
  pub asymmetric : ℕ  -- not good, and seen unlike

-- two good receivers saw node j differently in one of the stages
abbrev pub is_asymmetric : Side → List JudgedStage → ℕ → Bool
is_asymmetric kind stages j = list_any (was_unlike kind j) stages

-- no good receiver accepted anything from node j in any of the stages. If two saw it differently,
-- one of them accepted something
abbrev pub is_benign : Side → List JudgedStage → ℕ → Bool
is_benign kind stages j = not (list_any (was_taken kind j) stages)

unfoldable pub classes_of : Side → List JudgedStage → ClassSets
classes_of kind stages = record {
  good = set_of (λ j. has (trusted_now kind stages) j && has (good_now kind stages) j);
  benign = set_of (λ j. is_suspect kind stages j && is_benign kind stages j);
  symmetric = set_of (λ j. is_suspect kind stages j && not (is_benign kind stages j) && not (is_asymmetric kind stages j));
  asymmetric = set_of (λ j. is_suspect kind stages j && is_asymmetric kind stages j);
}

-- the good nodes do not outnumber the symmetric and the asymmetric together
abbrev pub are_few_good : ClassSets → Bool
are_few_good c = not (nat_lt (size c.symmetric + size c.asymmetric) (size c.good))

abbrev pub some_asymmetric : ClassSets → Bool
some_asymmetric c = nat_lt 0 (size c.asymmetric)

-- the first cause for which the fault premise fails, by the classes of both kinds
abbrev pub cause_of : ClassSets → ClassSets → Option Cause
cause_of biu rmu =
    if are_few_good biu then Some FewGoodBiu
    else (if are_few_good rmu then Some FewGoodRmu
    else (if some_asymmetric biu && some_asymmetric rmu then Some TwoSided else None))

-- the verdict on the newest stage, by all that was seen in the frame so far: the cause for which
-- the premise fails, if it does
unfoldable pub verdict_of : List JudgedStage → Option Cause
verdict_of stages = cause_of (classes_of Biu stages) (classes_of Rmu stages)
