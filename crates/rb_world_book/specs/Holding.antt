-- What is kept of a run, and the world that it stands for.
use Rattle.std.specs.Prelude.{ℕ, ◌≡◌, ◌+◌, ◌-◌, ◌^◌, ◌<◌, ◌≤◌, ◌==◌, ◌&&◌, nat_lt, false, true, Option, Some, None, List, [], ◌∷◌, get_or, length, map, take, if◌then◌else◌}
use Rattle.rb_base.specs.{Nodes.{Side, has, other}, Nodes.Side.{Biu, Rmu}, Sizes.{Sizes, IsShape, sync_slot_of}, declared.values.Place.Place, declared.values.See.See, declared.values.See.TheVariants.Nothing}
use Rattle.rb_rules.specs.{declared.record.NodeLine.NodeLine, declared.record.PortLine.PortLine, declared.record.SlotLine.SlotLine, Book.{Each, Record, after_stage, map_from, of_kind}, Goodness.{Scenario, good_at, is_good}, Judging.JudgedStage, Slots.count_of, WorldStep.{Site, World, book_with, record_since}}
use Rattle.rb_judge.specs.Stages.{Knows}
use Rattle.rb_world_onset.specs.Faults.{faults_of}
use Rattle.rb_world_book.specs.{declared.group.Group.Group, declared.book.Book.Book as KeptBook, declared.milestone.Milestone.Milestone, declared.milestone.Milestone.TheVariants.{Begin, Stage, End}, declared.turn.Turn.Turn, Grouping.AwaitsGood, Records.{milestone_of, record_of}, Telling.{begun_told, row_seeing, see_of, told_at}, Waiting.{all_but, waiting_for}}

-- Judging.

-- the stage, without what was seen of nodes that are good to the end of its frame: no verdict
-- depends on that
abbrev pub without_lasting : Scenario → ℕ → JudgedStage → JudgedStage
without_lasting sc frame s = record s {
  sight = λ kind i j. elim (is_good sc (other kind) j frame (sync_slot_of sc.sizes)) [ true ↦ Nothing | false ↦ s.sight kind i j ];
}

-- Milestones.

-- the nodes of a kind that are good at a milestone. The end needs none
abbrev pub good_for : Scenario → Side → Milestone → ℕ
good_for sc kind (Begin frame) = good_at sc kind frame 0
good_for sc kind (Stage place) = good_at sc kind place.frame place.slot
good_for sc kind End = 0

-- a stage is one of a frame of the run
pub record IsStageOf (sc : Scenario) (place : Place) : Type 0 where
  pub frame : place.frame < sc.frames
  pub slot : place.slot ≤ sync_slot_of sc.sizes

abbrev pub IsComing : Scenario → Milestone → Type 0
IsComing sc (Begin frame) = frame ≤ sc.frames
IsComing sc (Stage place) = IsStageOf sc place
IsComing sc End = Unit {0}

-- the upcoming milestone is a stage of this frame, and node j is good to the end of the frame:
-- `lasting` are the nodes that are
pub record Lasts (m : Milestone) (frame lasting j : ℕ) : Type 0 where
  pub place : Place
  pub upcoming : m ≡ Stage place
  pub of_frame : place.frame ≡ frame
  pub member : has lasting j ≡ true

-- each of the first `count` nodes that is not counted lasts
abbrev pub OthersLast : Milestone → ℕ → ℕ → ℕ → ℕ → Type 0
OthersLast m frame count lasting counted = (j : ℕ) → nat_lt j count ≡ true → has counted j ≡ false → Lasts m frame lasting j

-- What the nodes of a kind told.

pub record HoldsKind {K : Type 0} (sc : Scenario) (kind : Side) (m : Milestone) (g : Group K) (sites : Each Site) : Type 0 where
  pub all : length g.told ≡ 16
  -- what each node saw of each source in its latest stage
  pub saw : ℕ → ℕ → See
  pub rows : map (λ s. s.row) (of_kind kind sites) ≡ map_from 0 (λ i t. row_seeing (saw i) t) (take (count_of kind sc.sizes) g.told)
  -- what is kept of what node i saw of source j in its latest stage, if j is not good to the end of
  -- the frame of that stage
  pub sights : (i j : ℕ) → is_good sc (other kind) j (told_at g.told i).place.frame (sync_slot_of sc.sizes) ≡ false → saw i j ≡ see_of (told_at g.told i) j
  pub begins : map (λ s. s.begun) (of_kind kind sites) ≡ map (begun_told kind) (take (count_of kind sc.sizes) g.told)
  -- nobody sees nodes that are not on the bus
  pub within : (i j : ℕ) → count_of (other kind) sc.sizes ≤ j → get_or (told_at g.told i).sees j Nothing ≡ Nothing
  pub good : g.good ≡ good_for sc kind m
  pub waiting : g.waiting ≡ waiting_for (count_of kind sc.sizes) g.good m g.told
  pub lasting : (place : Place) → m ≡ Stage place → g.lasting ≡ good_at sc kind place.frame (sync_slot_of sc.sizes)
  pub counted : (place : Place) → m ≡ Stage place → g.counted ≡ all_but (count_of kind sc.sizes) g.lasting

-- the numbers of a scenario
pub record Fits (sc : Scenario) (l : KeptBook) : Type 0 where
  pub sizes : l.shape ≡ sc.sizes
  pub is_shape : IsShape sc.sizes
  pub frames : l.frames ≡ sc.frames
  pub few_frames : sc.frames < 2 ^ 32
  pub eps : l.eps ≡ sc.plan.dmax - sc.plan.dmin
  pub onsets : l.onsets ≡ faults_of sc

-- l is what is kept of world w: what its nodes have told, and its book but for the records given
pub record Holds (sc : Scenario) (l : KeptBook) (w : World) : Type 0 where
  pub fits : Fits sc l
  pub upcoming : w.book.upcoming ≡ milestone_of l.upcoming
  pub coming : IsComing sc l.upcoming
  pub lines : w.book.lines ≡ l.lines.items
  pub ended : w.book.ended ≡ l.ended
  pub judged : w.book.ended ≡ false → (place : Place) → l.upcoming ≡ Stage place
      → Knows l.judge (map (without_lasting sc place.frame) w.book.stages)
  pub bius : HoldsKind sc Biu l.upcoming l.bius w.sites
  pub rmus : HoldsKind sc Rmu l.upcoming l.rmus w.sites

-- Settling.

-- the world once its next milestone is settled
abbrev pub passed : Scenario → World → World
passed sc w = record w { book = book_with sc w.sites w.book w.book.upcoming }

-- the next milestone of world w is settled, and `turn` is the record that it gives, if any
pub record Passes (sc : Scenario) (w : World) (after : KeptBook) (turn : Turn) : Type 0 where
  pub holds : Holds sc after (passed sc w)
  pub record_is : record_of turn ≡ record_since w (passed sc w)

-- a milestone is the upcoming one
pub record TurnsKind {K : Type 0} (kind : Side) (sizes : Sizes) (before after : Group K) (m : Milestone) : Type 0 where
  pub told : after.told ≡ before.told
  pub lasting : after.lasting ≡ before.lasting
  pub counted : after.counted ≡ before.counted
  pub waiting : after.waiting ≡ waiting_for (count_of kind sizes) after.good m before.told

pub record TurnsTo (before after : KeptBook) (m : Milestone) : Type 0 where
  pub shape : after.shape ≡ before.shape
  pub frames : after.frames ≡ before.frames
  pub eps : after.eps ≡ before.eps
  pub onsets : after.onsets ≡ before.onsets
  pub lines : after.lines.items ≡ before.lines.items
  pub judge : after.judge ≡ before.judge
  pub ended : after.ended ≡ before.ended
  pub upcoming : after.upcoming ≡ m
  pub bius : TurnsKind Biu before.shape before.bius after.bius m
  pub rmus : TurnsKind Rmu before.shape before.rmus after.rmus m
  pub good_bius : (sc : Scenario) → before.onsets ≡ faults_of sc → after.bius.good ≡ good_for sc Biu m
  pub good_rmus : (sc : Scenario) → before.onsets ≡ faults_of sc → after.rmus.good ≡ good_for sc Rmu m

-- a stage is the upcoming one, and the same nodes are good there as at the one before
pub record StaysUntil (before after : KeptBook) (next : Place) : Type 0 where
  pub shape : after.shape ≡ before.shape
  pub frames : after.frames ≡ before.frames
  pub eps : after.eps ≡ before.eps
  pub onsets : after.onsets ≡ before.onsets
  pub lines : after.lines.items ≡ before.lines.items
  pub judge : after.judge ≡ before.judge
  pub ended : after.ended ≡ before.ended
  pub upcoming : after.upcoming ≡ Stage next
  pub bius : AwaitsGood before.bius after.bius
  pub rmus : AwaitsGood before.rmus after.rmus

-- all nodes that are good are good to the end of the frame
pub record AllStay {B R : Type 0} (bs : Group B) (rs : Group R) : Type 0 where
  pub bius : bs.good ≡ bs.lasting
  pub rmus : rs.good ≡ rs.lasting

-- if `good` are the nodes of a kind that are good at `place`, and `lasting` those that are good to
-- the end of its frame, then `good` are also the nodes that are good at `next`
abbrev pub GoodNext : Side → Sizes → ℕ → ℕ → Place → Place → Type 0
GoodNext kind sizes good lasting place next =
    (sc : Scenario) → sizes ≡ sc.sizes → place.slot ≤ sync_slot_of sc.sizes → good ≡ good_at sc kind place.frame place.slot
    → lasting ≡ good_at sc kind place.frame (sync_slot_of sc.sizes) → good ≡ good_at sc kind next.frame next.slot

-- `next` is the next stage, and the same nodes are good there
pub record IsSteady (l : KeptBook) (place next : Place) : Type 0 where
  pub after : place.slot + 1 < 2 ^ 16 → milestone_of (Stage next) ≡ after_stage l.shape place
  pub other : (place.stage == next.stage) ≡ false
  pub bius : GoodNext Biu l.shape l.bius.good l.bius.lasting place next
  pub rmus : GoodNext Rmu l.shape l.rmus.good l.rmus.lasting place next

-- Records.

-- the record of a frame that nodes with these lines begin
abbrev pub frame_record : ℕ → List NodeLine → List PortLine → Option Record
frame_record frame [] ports = None
frame_record frame (n ∷ ns) ports = Some (Record.Frame frame (n ∷ ns) ports)

-- the record of a slot, which comes with its stage 3
abbrev pub slot_record : Sizes → Place → List SlotLine → Option Record
slot_record sizes place lines =
    if (place.stage == 3) && nat_lt place.slot (sync_slot_of sizes) then Some (Record.Slot place.frame place.slot lines) else None
