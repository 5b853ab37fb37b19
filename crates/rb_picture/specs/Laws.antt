-- What holds of every picture.
use Rattle.std.specs.Prelude.{ℕ, ◌≡◌, ◌<◌, ◌≤◌, nat_lt, true, false, List, [], ◌∷◌}
use Rattle.rb_base.specs.Nodes.{has, size}
use Rattle.rb_picture.specs.{declared.line.Line.Line, declared.line.DeliveryLine.DeliveryLine, declared.sheet.Sheet.Sheet, Content.IsDocument, Extents.least_rows, Picture.{Piece, picture_text, pieces_of}, Picture.Piece.{Ground, Head, Tick, Cell, Break, Ending}}
use Rattle.rb_picture.specs.declared.line.Line.TheVariants as line

-- the cells among parts of a picture, each by its delivery
abbrev pub cells_of : List Piece → List DeliveryLine
cells_of [] = []
cells_of (Ground frame before facts ∷ pieces) = cells_of pieces
cells_of (Head column ∷ pieces) = cells_of pieces
cells_of (Tick frame node after ∷ pieces) = cells_of pieces
cells_of (Cell l ∷ pieces) = l ∷ cells_of pieces
cells_of (Break place cause ∷ pieces) = cells_of pieces
cells_of (Ending frames ∷ pieces) = cells_of pieces

-- the deliveries among lines
abbrev pub deliveries_of : List Line → List DeliveryLine
deliveries_of [] = []
deliveries_of (line.Epoch l ∷ lines) = deliveries_of lines
deliveries_of (line.Convicted l ∷ lines) = deliveries_of lines
deliveries_of (line.Port l ∷ lines) = deliveries_of lines
deliveries_of (line.Delivery l ∷ lines) = l ∷ deliveries_of lines
deliveries_of (line.End frames ∷ lines) = deliveries_of lines
deliveries_of (line.Breach place cause ∷ lines) = deliveries_of lines

-- a picture in panels has one cell for each delivery, in order, and no other cells
abbrev pub OneCellEach : Type 0
OneCellEach = (lines : List Line) → cells_of (pieces_of lines) ≡ deliveries_of lines

-- the picture's text is one element, in which all others nest and close and all text is escaped
abbrev pub IsWellFormed : Type 0
IsWellFormed = (style : List ℕ) (sheet : Sheet) (lines : List Line) → IsDocument (picture_text style sheet lines)

-- the good nodes of a kind do not outnumber the faulty ones that were heard; nodes are below the
-- count, and no node is in two of the three sets
pub record HasLostMajority (count good faulty convicted : ℕ) : Type 0 where
  pub at_most_16 : count ≤ 16
  pub few_good : size good ≤ size faulty
  pub good_in_bus : (i : ℕ) → i < 16 → has good i ≡ true → nat_lt i count ≡ true
  pub faulty_in_bus : (i : ℕ) → i < 16 → has faulty i ≡ true → nat_lt i count ≡ true
  pub convicted_in_bus : (i : ℕ) → i < 16 → has convicted i ≡ true → nat_lt i count ≡ true
  pub faulty_not_good : (i : ℕ) → i < 16 → has good i ≡ true → has faulty i ≡ false
  pub good_trusted : (i : ℕ) → i < 16 → has good i ≡ true → has convicted i ≡ false
  pub faulty_trusted : (i : ℕ) → i < 16 → has faulty i ≡ true → has convicted i ≡ false

-- the rows that a breach in the first slot adds are of nodes that the bus has
abbrev pub RowsAreImplied : Type 0
RowsAreImplied = (count good faulty convicted : ℕ) → HasLostMajority count good faulty convicted → least_rows good convicted ≤ count
