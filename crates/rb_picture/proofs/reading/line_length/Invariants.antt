use Rattle.std.proofs.Common.{◌≡◌, ◌≤◌, ℕ, true, List, ◌∷◌, ◌++◌, length}
use Rattle.rb_picture.specs.Fields.{above}
use Rattle.rb_picture.proofs.reading.line_length.Given as goal

abbrev pub invariant-loop-index : goal.invariant-loop-index
invariant-loop-index l = (xs tail : List ℕ) → above 31 xs ≡ true → l.bytes ≡ xs ++ 10 ∷ tail → l.index ≤ length xs
