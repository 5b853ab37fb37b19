-- How milestones are settled.
use Rattle.std.specs.Prelude.{ℕ, ◌≡◌, ◌+◌, ◌-◌, ◌^◌, ◌<◌, ◌≤◌, ◌==◌, ◌&&◌, ◌++◌, ◌∷◌, not, Bool, List, map, if◌then◌else◌}
use Rattle.rb_base.specs.{Nodes.{Side, has}, Nodes.Side.{Biu, Rmu}, Sizes.{Sizes, sync_slot_of}, declared.values.Place.Place}
use Rattle.rb_rules.specs.{Book.{Each, Milestone, Row, after_stage, judged_of}, Book.Milestone.{End, Stage}, Goodness.{Scenario, good_at}, Judging.JudgedStage, Slots.count_of, WorldStep.{Site, Way, World, row_for, settle, told_by_good}}
use Rattle.rb_judge.specs.Stages.{KeptJudge, Knows}
use Rattle.rb_world_onset.specs.Faults.{Faults, faults_of}
use Rattle.rb_world_book.specs.{declared.group.Group.Group, declared.book.Book.Book as KeptBook, declared.milestone.Milestone.Milestone as KeptMilestone, declared.milestone.Way.Way as KeptWay, declared.turn.Turn.Turn, Holding.{Holds, HoldsKind, TurnsKind, good_for, slot_record, without_lasting}, Records.{milestone_of, record_of}, Waiting.{found_of, line_of, row_at, waiting_for}}
use Rattle.rb_world_book.specs.declared.milestone.Milestone.TheVariants as kept
use Rattle.rb_world_book.specs.declared.milestone.Way.TheVariants as way

-- the rows of the good nodes that told of a stage, BIUs before RMUs
abbrev pub rows_found : {B R : Type 0} → Sizes → Place → Group B → Group R → List Row
rows_found sizes place bius rmus = found_of (row_at bius.good place) sizes.bius bius.told ++ found_of (row_at rmus.good place) sizes.rmus rmus.told

-- a judge that knows the stages so far knows this one, too, if all good nodes told of it
abbrev pub JudgesStage : {B R : Type 0} → KeptJudge → KeptJudge → Sizes → ℕ → Place → Group B → Group R → Type 0
JudgesStage before after sizes eps place bius rmus =
    (sc : Scenario) (sites : Each Site) (stages : List JudgedStage) → sizes ≡ sc.sizes → eps ≡ sc.plan.dmax - sc.plan.dmin
    → HoldsKind sc Biu (kept.Stage place) bius sites → HoldsKind sc Rmu (kept.Stage place) rmus sites → bius.waiting ≡ 0 → rmus.waiting ≡ 0
    → Knows before (map (without_lasting sc place.frame) stages)
    → Knows after (map (without_lasting sc place.frame)
    (judged_of sc place (told_by_good sc place.frame place.slot (λ s. row_for place s.row) sites) ∷ stages))

-- what comes after the start of frame `frame` of a run of `frames` frames
abbrev pub after_begin : ℕ → ℕ → Milestone
after_begin frame frames = if frame == frames then End else Stage (record { frame = frame; slot = 0; stage = 1 })

-- no node is good at the upcoming milestone
abbrev pub is_free : KeptBook → Bool
is_free l = (l.bius.good == 0) && (l.rmus.good == 0)

abbrev pub comes_when : Bool → KeptWay → Bool
comes_when free way.ByAnEvent = not free
comes_when free way.ByItself = free

-- nobody is awaited, the upcoming milestone is settled in the way w, and the run has not ended
abbrev pub is_due : KeptWay → KeptBook → Bool
is_due w l = (l.bius.waiting == 0) && ((l.rmus.waiting == 0) && (comes_when (is_free l) w && not l.ended))

-- what the nodes of a kind told stays, and the nodes that have not told of the upcoming milestone
-- are awaited
pub record GoesKind {K : Type 0} (kind : Side) (sizes : Sizes) (onsets : Faults) (place : Place) (before after : Group K) (m : KeptMilestone) : Type 0 where
  pub turns : (sc : Scenario) → sizes ≡ sc.sizes → before.good ≡ good_at sc kind place.frame place.slot
      → waiting_for (count_of kind sizes) before.good (kept.Stage place) before.told ≡ 0 → TurnsKind kind sizes before after m
  pub good : (sc : Scenario) → sizes ≡ sc.sizes → onsets ≡ faults_of sc → place.slot ≤ sync_slot_of sc.sizes → before.good ≡ good_at sc kind place.frame place.slot
      → before.lasting ≡ good_at sc kind place.frame (sync_slot_of sc.sizes) → after.good ≡ good_for sc kind m

-- what follows a stage at which the premise holds is the upcoming milestone
pub record GoesPast (before after : KeptBook) (place : Place) (turn : Turn) : Type 0 where
  pub record_is : record_of turn ≡ slot_record before.shape place before.lines.items
  pub shape : after.shape ≡ before.shape
  pub frames : after.frames ≡ before.frames
  pub eps : after.eps ≡ before.eps
  pub onsets : after.onsets ≡ before.onsets
  pub judge : after.judge ≡ before.judge
  pub ended : after.ended ≡ before.ended
  pub lines : after.lines.items ≡ (if place.stage == 2
      then found_of (λ i t. line_of place (has before.bius.good i) t) before.shape.bius before.bius.told else before.lines.items)
  pub upcoming : place.frame + 1 < 2 ^ 32 → place.slot + 1 < 2 ^ 16 → milestone_of after.upcoming ≡ after_stage before.shape place
  pub bius : GoesKind Biu before.shape before.onsets place before.bius after.bius after.upcoming
  pub rmus : GoesKind Rmu before.shape before.onsets place before.rmus after.rmus after.upcoming

-- what is due in a way is settled, and `turn` is the turn of the world after that
pub record Settles (sc : Scenario) (way : Way) (w : World) (after : KeptBook) (turn : Turn) : Type 0 where
  pub holds : Holds sc after (settle sc way 2 w)
  pub turn_is : (settle sc way 2 w).turn ≡ record_of turn
