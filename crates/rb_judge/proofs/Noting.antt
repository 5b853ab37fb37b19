-- What a caller of a judge knows of it: that it knows the stages that it shows, and when a sight
-- may be noted.
use Rattle.std.proofs.Common.{◌≡◌, ℕ, ◌<◌, false, List, [], ◌∷◌, refl, ap}
use Rattle.rb_base.specs.{Nodes.{Side, other, has}, Nodes.Side.{Biu, Rmu}, declared.node.NodeName.NodeName, declared.values.See.See}
use Rattle.rb_rules.specs.{Judging.{JudgedStage, good_now, is_something, stage_begun, with_newest_sight}, Links.name_of, Slots.count_of}
use Rattle.rb_judge.specs.{Kinds.sight_now, Stages.{KeptJudge, Knows, HoldsStages, has_noted, is_good_now, sources_of}}
use Rattle.rb_judge.proofs.Sides.{kind_knows}

-- a judge that shows stages knows them
pub shows_knows : (judge : KeptJudge) (stages : List JudgedStage) → HoldsStages judge stages → Knows judge stages
shows_knows judge stages is = record { bius = kind_knows Biu stages judge.bius is.bius; rmus = kind_knows Rmu stages judge.rmus is.rmus }

-- Condition `good`: a node is good in the newest stage if the stage says so.
pub good_shown : (judge : KeptJudge) (stages : List JudgedStage) (kind : Side) (i : ℕ) → HoldsStages judge stages
    → is_good_now judge (name_of kind i) ≡ has (good_now kind stages) i
good_shown judge stages Biu i is = ap (λ s. has s i) is.bius.good
good_shown judge stages Rmu i is = ap (λ s. has s i) is.rmus.good

-- a note leaves the good nodes of a kind as they are
pub good_stays : (kind : Side) (receiver : NodeName) (from : ℕ) (see : See) (stages : List JudgedStage)
    → good_now kind (with_newest_sight receiver from see stages) ≡ good_now kind stages
good_stays kind receiver from see [] = refl
good_stays kind receiver from see (s ∷ earlier) = refl

-- Condition `source`: the sources of a node are the nodes of the other kind.
pub sources_are : (judge : KeptJudge) (kind : Side) (i : ℕ) → sources_of judge (name_of kind i) ≡ count_of (other kind) judge.sizes
sources_are judge Biu i = refl
sources_are judge Rmu i = refl

-- Condition `once`: of a source of which the newest stage shows nothing at the receiver, nothing
-- was noted.
pub noted_shown : (judge : KeptJudge) (stages : List JudgedStage) (kind : Side) (i j : ℕ) → i < 16 → j < 16 → HoldsStages judge stages
    → has_noted judge (name_of kind i) j ≡ is_something (sight_now (other kind) j stages i)
noted_shown judge stages Biu i j hi hj is = (is.rmus.sights j hj).by i hi
noted_shown judge stages Rmu i j hi hj is = (is.bius.sights j hj).by i hi

-- at the start of a stage no node has noted any source
pub none_noted : (judge : KeptJudge) (good trusted : Side → ℕ) (eps : ℕ) (stages : List JudgedStage) (kind : Side) (i j : ℕ) → i < 16 → j < 16
    → HoldsStages judge (stage_begun good trusted eps ∷ stages) → has_noted judge (name_of kind i) j ≡ false
none_noted judge good trusted eps stages kind i j hi hj is = noted_shown judge (stage_begun good trusted eps ∷ stages) kind i j hi hj is
