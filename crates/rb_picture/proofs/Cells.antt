-- The cells of a line: one for each delivery.
use Rattle.std.proofs.Common.{◌≡◌, ◌∙◌, ℕ, ◌==◌, Bool, true, false, if◌then◌else◌, List, [], ◌∷◌, ◌++◌, refl, ap}
use Rattle.rb_picture.specs.{declared.line.Line.Line, declared.column.Column.Column, declared.drawn.Stand.Stand, declared.extent.Facts.Facts, Picture.{Piece, head_of, no_stand, pieces_at, pieces_from, pieces_of_line, stand_at}, Picture.Piece.{Ground, Head, Tick, Cell, Break, Ending}, Laws.{OneCellEach, cells_of, deliveries_of}}
use Rattle.rb_picture.specs.declared.line.Line.TheVariants as line

cells-append : (ps qs : List Piece) → cells_of (ps ++ qs) ≡ cells_of ps ++ cells_of qs
cells-append [] qs = refl
cells-append (Ground frame before facts ∷ ps) qs = cells-append ps qs
cells-append (Head column ∷ ps) qs = cells-append ps qs
cells-append (Tick frame node after ∷ ps) qs = cells-append ps qs
cells-append (Cell l ∷ ps) qs = ap (λ ls. l ∷ ls) (cells-append ps qs)
cells-append (Break place cause ∷ ps) qs = cells-append ps qs
cells-append (Ending frames ∷ ps) qs = cells-append ps qs

no_ground : (test : Bool) (frame : ℕ) (before facts : Facts) (qs : List Piece) → cells_of ((if test then [] else Ground frame before facts ∷ []) ++ qs) ≡ cells_of qs
no_ground true frame before facts qs = refl
no_ground false frame before facts qs = refl

no_head : (test : Bool) (column : Column) (qs : List Piece) → cells_of ((if test then [] else Head column ∷ []) ++ qs) ≡ cells_of qs
no_head true column qs = refl
no_head false column qs = refl

of_line : (facts : Facts) (l : Line) (ls : List Line) → cells_of (pieces_of_line facts l) ++ deliveries_of ls ≡ deliveries_of (l ∷ ls)
of_line facts (line.Epoch l) ls = refl
of_line facts (line.Convicted l) ls = refl
of_line facts (line.Port l) ls = refl
of_line facts (line.Delivery l) ls = refl
of_line facts (line.End frames) ls = refl
of_line facts (line.Breach place cause) ls = refl

-- only the delivery that a line shows is a cell
at_line : (before after : Stand) (l : Line) → cells_of (pieces_at before after l) ≡ cells_of (pieces_of_line after.panel.facts l)
at_line before after l =
    no_ground (after.panel.mark == before.panel.mark) after.panel.frame before.panel.facts after.panel.facts (head_of before.column after.column ++ pieces_of_line after.panel.facts l)
    ∙ no_head (after.column.mark == before.column.mark) after.column (pieces_of_line after.panel.facts l)

cells_from : (stand : Stand) (lines : List Line) → cells_of (pieces_from stand lines) ≡ deliveries_of lines
cells_from stand [] = refl
cells_from stand (l ∷ ls) =
    cells-append (pieces_at stand (stand_at stand l ls) l) (pieces_from (stand_at stand l ls) ls)
    ∙ ap (λ cs. cs ++ cells_of (pieces_from (stand_at stand l ls) ls)) (at_line stand (stand_at stand l ls) l)
    ∙ ap (λ cs. cells_of (pieces_of_line (stand_at stand l ls).panel.facts l) ++ cs) (cells_from (stand_at stand l ls) ls)
    ∙ of_line (stand_at stand l ls).panel.facts l ls

pub one_cell_each : OneCellEach
one_cell_each lines = cells_from no_stand lines
