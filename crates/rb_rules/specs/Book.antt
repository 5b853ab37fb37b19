-- The book of a run: what is settled so far, and the records given. The rounds and the events keep
-- the same book.
use Rattle.std.specs.Prelude.{ℕ, ◌+◌, ◌-◌, nat_lt, ◌==◌, ◌&&◌, Bool, true, false, if◌then◌else◌, Option, Some, None, option_and_then, List, [], ◌∷◌, ◌++◌, map, get_or, filter_map}
use Rattle.rb_base.specs.{Counting.numbers, Nodes.Side, Nodes.Side.{Biu, Rmu}, Sizes.{Sizes, sync_slot_of}, declared.values.Place.Place, declared.values.See.See, declared.values.See.TheVariants.Nothing}
use Rattle.rb_rules.specs.{declared.cause.Cause.Cause, declared.record.NodeLine.NodeLine, declared.record.PortLine.PortLine, declared.record.SlotLine.SlotLine, ExactStage.present, Goodness.{Scenario, good_at}, Judging.{JudgedStage, verdict_of}}

-- something of each node, by kind and number
pub record Each (X : Type 0) : Type 0 where
  pub bius : List X
  pub rmus : List X

abbrev pub of_kind : {X : Type 0} → Side → Each X → List X
of_kind Biu xs = xs.bius
of_kind Rmu xs = xs.rmus

-- BIUs before RMUs
abbrev pub in_order : {X : Type 0} → Each X → List X
in_order xs = xs.bius ++ xs.rmus

-- for each node of a bus of these sizes, the result of `make` for its kind and number
abbrev pub each_of : {X : Type 0} → Sizes → (Side → ℕ → X) → Each X
each_of sizes make = record { bius = map (make Biu) (numbers sizes.bius); rmus = map (make Rmu) (numbers sizes.rmus) }

-- the results of `make` for the items in order, numbered from `i` on
abbrev pub map_from : {X Y : Type 0} → ℕ → (ℕ → X → Y) → List X → List Y
map_from i make [] = []
map_from i make (x ∷ xs) = make i x ∷ map_from (i + 1) make xs

-- for each node of `xs`, the result of `make` for its kind, its number and its item
abbrev pub map_each : {X Y : Type 0} → (Side → ℕ → X → Y) → Each X → Each Y
map_each make xs = record { bius = map_from 0 (make Biu) xs.bius; rmus = map_from 0 (make Rmu) xs.rmus }

-- a record of a run
pub data Record : Type 0 where
  Frame : (frame : ℕ) (nodes : List NodeLine) (ports : List PortLine) → Record
  Slot : (frame slot : ℕ) (lines : List SlotLine) → Record
  Ended : Record
  Breach : (place : Place) (cause : Cause) → Record

-- what a node reports of a frame that it begins
pub record Begun : Type 0 where
  pub frame : ℕ
  pub line : NodeLine
  pub port : Option PortLine  -- at a BIU

-- what a node reports of a stage that it has closed
pub record Row : Type 0 where
  pub place : Place
  pub sees : List See  -- by source; a time is a reference time
  pub biu : ℕ  -- the trusted nodes as it holds them
  pub rmu : ℕ
  pub line : Option SlotLine  -- what it delivered

-- what is to be settled: the start of a frame, a stage of a slot, or the end
pub data Milestone : Type 0 where
  Begin : (frame : ℕ) → Milestone
  Stage : (place : Place) → Milestone
  End : Milestone

pub record Book : Type 0 where
  pub upcoming : Milestone  -- the first milestone that is not settled
  pub stages : List JudgedStage  -- the judged stages of the frame, the newest first
  pub lines : List SlotLine  -- what was delivered in the slot
  pub given : List Record
  pub ended : Bool  -- the last record is given

abbrev pub fresh_book : Book
fresh_book = record { upcoming = Begin 0; stages = []; lines = []; given = []; ended = false }

-- Stages.

abbrev pub trusted_in : Side → Row → ℕ
trusted_in Biu r = r.biu
trusted_in Rmu r = r.rmu

-- the trusted nodes of a kind, as the first of the nodes with a row held them
abbrev pub trusted_by : Side → List Row → ℕ
trusted_by kind [] = 0
trusted_by kind (r ∷ rs) = trusted_in kind r

abbrev pub see_in : Option Row → ℕ → See
see_in None j = Nothing
see_in (Some r) j = get_or r.sees j Nothing

-- a stage as it is judged. `rows` has a row for each node that is good there, and None for the
-- others
abbrev pub judged_of : Scenario → Place → Each (Option Row) → JudgedStage
judged_of sc place rows = record {
  good = λ kind. good_at sc kind place.frame place.slot;
  trusted = λ kind. trusted_by kind (present (in_order rows));
  eps = sc.plan.dmax - sc.plan.dmin;
  sight = λ kind i j. see_in (get_or (of_kind kind rows) i None) j;
}

-- what follows a stage: a slot has three, and the next frame begins after the sync slot
abbrev pub after_stage : Sizes → Place → Milestone
after_stage sizes place =
    if nat_lt place.stage 3 then Stage (record place { stage = place.stage + 1 })
    else (if place.slot == sync_slot_of sizes then Begin (place.frame + 1)
    else Stage (record { frame = place.frame; slot = place.slot + 1; stage = 1 }))

-- the delivery that a node reported in a row, if any
abbrev pub line_in : Option Row → Option SlotLine
line_in row = option_and_then (λ r. r.line) row

-- the record of a slot is made at the end of its stage 3. The sync slot has none
abbrev pub slot_records : Sizes → Place → List SlotLine → List Record
slot_records sizes place lines =
    if (place.stage == 3) && nat_lt place.slot (sync_slot_of sizes) then Slot place.frame place.slot lines ∷ [] else []

-- the book after a stage with this verdict. Deliveries are made in stage 2
abbrev pub after_verdict : Sizes → Place → Each (Option Row) → List JudgedStage → Book → Option Cause → Book
after_verdict sizes place rows stages b None = record {
  upcoming = after_stage sizes place;
  stages = stages;
  lines = if place.stage == 2 then filter_map line_in rows.bius else b.lines;
  given = b.given ++ slot_records sizes place b.lines;
  ended = false;
}
after_verdict sizes place rows stages b (Some cause) = record b { given = b.given ++ Breach place cause ∷ []; ended = true }

-- the book after a stage is settled: all nodes good there have closed it. A book that has ended
-- stays as it is
unfoldable pub with_stage : Scenario → Place → Each (Option Row) → Book → Book
with_stage sc place rows b =
    let stages : List JudgedStage = judged_of sc place rows ∷ b.stages in
    elim b.ended [ true ↦ b | false ↦ after_verdict sc.sizes place rows stages b (verdict_of stages) ]

-- Frames.

-- the record of a frame that these nodes begin. There is none if no node is good
abbrev pub frame_records : ℕ → List Begun → List Record
frame_records frame [] = []
frame_records frame (b ∷ bs) = Frame frame (map (λ x. x.line) (b ∷ bs)) (filter_map (λ x. x.port) (b ∷ bs)) ∷ []

-- the book after the start of a frame is settled: all nodes good there have begun it
unfoldable pub with_frame : Scenario → ℕ → List Begun → Book → Book
with_frame sc frame begun b =
    elim b.ended [
      | true ↦ b
      | false ↦ record {
        upcoming = if frame == sc.frames then End else Stage (record { frame = frame; slot = 0; stage = 1 });
        stages = [];
        lines = [];
        given = b.given ++ frame_records frame begun;
        ended = false;
      }
    ]

-- the book after the end is settled: the last frame of the run is over
abbrev pub with_end : Book → Book
with_end b = elim b.ended [ true ↦ b | false ↦ record b { given = b.given ++ Ended ∷ []; ended = true } ]
