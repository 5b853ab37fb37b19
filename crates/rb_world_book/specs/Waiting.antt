-- What the nodes of a kind have told, as it is walked over.
use Rattle.std.specs.Prelude.{ℕ, ◌&&◌, nat_lt, not, Bool, true, false, Option, Some, None, option_map, option_and_then, List, [], ◌∷◌, take}
use Rattle.rb_base.specs.{Nodes.{Side, has, set_of}, Nodes.Side.Biu, declared.values.Place.Place, declared.values.See.See}
use Rattle.rb_rules.specs.{declared.record.NodeLine.NodeLine, declared.record.PortLine.PortLine, declared.record.SlotLine.SlotLine, Book.{Begun, Row, line_in, map_from}, ExactStage.present, Judging.{are_alike, is_something}, WorldStep.{begun_for, row_for}}
use Rattle.rb_judge.specs.Sights.{some_node}
use Rattle.rb_world_book.specs.{declared.milestone.Milestone.Milestone, declared.told.Told.Told, Telling.{begun_told, has_told, row_seeing, row_told, see_of, told_at}}

-- the nodes among the first `count` that are good and have not told of milestone m
unfoldable pub waiting_for : ℕ → ℕ → Milestone → List Told → ℕ
waiting_for count good m told = set_of (λ i. nat_lt i count && (has good i && not (has_told m (told_at told i))))

-- the nodes among the first `count` that are not in the set `out`
abbrev pub all_but : ℕ → ℕ → ℕ
all_but count out = set_of (λ j. nat_lt j count && not (has out j))

-- what is found of the first n nodes, in their order
unfoldable pub found_of : {X : Type 0} → (ℕ → Told → Option X) → ℕ → List Told → List X
found_of find n told = present (map_from 0 find (take n told))

-- a node's row of a stage, if it is good and told of it
abbrev pub row_if : Place → Bool → Told → Option Row
row_if place good t = elim good [ true ↦ row_for place (row_told t) | false ↦ None ]

abbrev pub row_at : ℕ → Place → ℕ → Told → Option Row
row_at good place i t = row_if place (has good i) t

-- node i's row of a stage, if it is good and told of it, each node having seen this
abbrev pub row_saw : (ℕ → ℕ → See) → ℕ → Place → ℕ → Told → Option Row
row_saw saw good place i t = elim (has good i) [ true ↦ row_for place (row_seeing (saw i) t) | false ↦ None ]

-- what node i told of the start of a frame, if it is good and told of that
abbrev pub begun_at : Side → ℕ → ℕ → ℕ → Told → Option Begun
begun_at kind good frame i t = elim (has good i) [ true ↦ begun_for frame (begun_told kind t) | false ↦ None ]

-- some good one of the first `count` nodes passes
unfoldable pub some_good : ℕ → ℕ → (ℕ → Bool) → Bool
some_good count good passes = some_node (λ i. nat_lt i count && (has good i && passes i))

-- some good receiver took something of source j
abbrev pub was_taken : ℕ → ℕ → List Told → ℕ → Bool
was_taken count good told j = some_good count good (λ i. is_something (see_of (told_at told i) j))

-- some good receiver saw source j unlike this
abbrev pub differs : ℕ → ℕ → ℕ → List Told → ℕ → ℕ → Bool
differs eps count good told j a = some_good count good (λ b. not (are_alike eps (see_of (told_at told a) j) (see_of (told_at told b) j)))

-- two good receivers saw source j unlike
abbrev pub was_unlike : ℕ → ℕ → ℕ → List Told → ℕ → Bool
was_unlike eps count good told j = some_good count good (differs eps count good told j)

-- The lines of a node.

abbrev pub node_line_of : ℕ → Bool → Told → Option NodeLine
node_line_of frame good t = elim good [ true ↦ option_map (λ b. b.line) (begun_for frame (begun_told Biu t)) | false ↦ None ]

abbrev pub port_line_of : ℕ → Bool → Told → Option PortLine
port_line_of frame good t = elim good [ true ↦ option_and_then (λ b. b.port) (begun_for frame (begun_told Biu t)) | false ↦ None ]

abbrev pub line_of : Place → Bool → Told → Option SlotLine
line_of place good t = elim good [ true ↦ line_in (row_for place (row_told t)) | false ↦ None ]

-- The trusted nodes of both kinds, as masks, in the first row.
abbrev pub first_trusted : List Row → Option (ℕ × ℕ)
first_trusted [] = None
first_trusted (r ∷ rs) = Some (r.biu, r.rmu)
