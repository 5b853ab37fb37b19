-- The stages that a judge records.
use Rattle.std.specs.Prelude.{ℕ, ◌≡◌, Bool, List, slice_index}
use Rattle.rb_base.specs.{Nodes.has, Nodes.Side.{Biu, Rmu}, Sizes.Sizes, declared.node.NodeName.NodeName}
use Rattle.rb_rules.specs.Judging.{JudgedStage}
use Rattle.rb_judge.specs.Kinds.{KeptKind, KnowsKind, ShowsKind, eps_now}
use Rattle.rb_base.specs.declared.node.NodeName.TheVariants as node

-- what a judge keeps: the size of its bus, how far apart the times of one message may be in the
-- newest stage, and what it keeps of the nodes of both kinds
pub record KeptJudge : Type 0 where
  pub sizes : Sizes
  pub eps : ℕ
  pub bius : KeptKind
  pub rmus : KeptKind

-- the judge stands for these stages of a frame, the newest first
pub record HoldsStages (judge : KeptJudge) (stages : List JudgedStage) : Type 0 where
  pub eps : judge.eps ≡ eps_now stages
  pub bius : ShowsKind Biu stages judge.bius
  pub rmus : ShowsKind Rmu stages judge.rmus

-- the judge knows of these stages what the classes depend on. A judge that stands for stages knows
-- it; one that knows them need not have been told who saw what in the newest one
pub record Knows (judge : KeptJudge) (stages : List JudgedStage) : Type 0 where
  pub bius : KnowsKind Biu stages judge.bius
  pub rmus : KnowsKind Rmu stages judge.rmus

-- the node is good in the newest stage
abbrev pub is_good_now : KeptJudge → NodeName → Bool
is_good_now judge (node.Biu i) = has judge.bius.good i
is_good_now judge (node.Rmu i) = has judge.rmus.good i

-- how many sources the node listens to
abbrev pub sources_of : KeptJudge → NodeName → ℕ
sources_of judge (node.Biu i) = judge.sizes.rmus
sources_of judge (node.Rmu i) = judge.sizes.bius

-- the receiver has noted something of source j in the newest stage
abbrev pub has_noted : KeptJudge → NodeName → ℕ → Bool
has_noted judge (node.Biu i) j = has (slice_index judge.rmus.by j) i
has_noted judge (node.Rmu i) j = has (slice_index judge.bius.by j) i
