-- What a node has told last.
use Rattle.std.specs.Prelude.{ℕ, Bool, true, false, Option, Some, None, option_map, is_some, List, [], get_or, slice_index, replicate, if◌then◌else◌}
use Rattle.rb_base.specs.{Nodes.{Side, has}, Nodes.Side.{Biu, Rmu}, declared.values.Place.Place, declared.values.See.See, declared.values.See.TheVariants.Nothing}
use Rattle.rb_rules.specs.{declared.closing.Closed.Closed, declared.record.PortLine.PortLine, declared.record.SlotLine.SlotLine, Book.{Begun, Row}, ExactStage.each_node, Hearing.judged_see, WorldStep.{begun_for, row_for, same_place}}
use Rattle.rb_world_book.specs.{declared.milestone.Milestone.Milestone, declared.milestone.Milestone.TheVariants.{Begin, Stage, End}, declared.told.Begin.Begin as LatestBegin, declared.told.Told.Told}

-- what a node saw of source j in its latest stage
abbrev pub see_of : Told → ℕ → See
see_of t j = get_or t.sees j Nothing

-- a node's latest row, if it saw this of each source
abbrev pub latest_seeing : (ℕ → See) → Told → Row
latest_seeing saw t = record { place = t.place; sees = each_node saw; biu = t.biu; rmu = t.rmu; line = t.line }

abbrev pub row_seeing : (ℕ → See) → Told → Option Row
row_seeing saw t = if t.has_closed then Some (latest_seeing saw t) else None

-- a node's latest row, by what is kept
abbrev pub row_told : Told → Option Row
row_told t = row_seeing (see_of t) t

-- RMUs have no port
abbrev pub port_told : Side → LatestBegin → Option PortLine
port_told Biu b = Some b.port
port_told Rmu b = None

abbrev pub begun_in : Side → LatestBegin → Begun
begun_in kind b = record { frame = b.frame; line = b.line; port = port_told kind b }

abbrev pub begun_told : Side → Told → Option Begun
begun_told kind t = option_map (begun_in kind) t.begun

-- a node has told of a milestone last
abbrev pub has_told : Milestone → Told → Bool
has_told (Begin frame) t = is_some (begun_for frame (begun_told Biu t))
has_told (Stage place) t = is_some (row_for place (row_told t))
has_told End t = false

-- a stage is the milestone
abbrev pub is_at : Milestone → Place → Bool
is_at (Begin frame) place = false
is_at (Stage stage) place = same_place place stage
is_at End place = false

-- what is kept of a node that told nothing
abbrev pub no_told : Told
no_told = record {
  has_closed = false;
  place = record { frame = 0; slot = 0; stage = 0 };
  sees = [];
  biu = 0;
  rmu = 0;
  line = None;
  begun = None;
}

-- what a node has told that told nothing
abbrev pub fresh_told : Told
fresh_told = record {
  has_closed = false;
  place = record { frame = 0; slot = 0; stage = 0 };
  sees = replicate 16 Nothing;
  biu = 0;
  rmu = 0;
  line = None;
  begun = None;
}

-- for each of the sources in `counted` what is new, and for the others what was kept before
unfoldable pub kept_of : {X : Type 0} → ℕ → X → (ℕ → X) → List X → List X
kept_of counted d new before = each_node (λ j. if has counted j then new j else get_or before j d)

-- what was seen of source j, with these reference times in place of stamps
abbrev pub timed_in : List See → List ℕ → ℕ → See
timed_in sees times j = judged_see (slice_index times j) (get_or sees j Nothing)

-- what is kept of a node that told that it has closed a stage. What it saw of a source is kept if
-- that counts
abbrev pub told_closed : ℕ → Closed → List ℕ → ℕ → ℕ → Option SlotLine → Told → Told
told_closed counted c times biu rmu line t =
    record t {
      has_closed = true;
      place = c.place;
      sees = kept_of counted Nothing (timed_in c.sees times) t.sees;
      biu = biu;
      rmu = rmu;
      line = line;
    }

-- what is kept of a node that told that it has begun a frame
abbrev pub told_begun_frame : LatestBegin → Told → Told
told_begun_frame b t = record t { begun = Some b }

-- what node i told
abbrev pub told_at : List Told → ℕ → Told
told_at told i = get_or told i no_told
