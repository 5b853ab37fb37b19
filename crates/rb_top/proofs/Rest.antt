-- The lines of a text from some line on.
use Rattle.std.proofs.Common.{◌≡◌, ℕ, zero, suc, List, [], ◌∷◌, ◌++◌, drop, Option, Some, None, slice_get, ◌+◌, ◌∙◌, arith, ap, refl}
use Rattle.std.specs.{List.flat_map, Io.KnownBytes.Appends}
use Rattle.rb_outside.specs.Bytes.{AppendsPart}
use Rattle.rb_top.proofs.Writing.{Owes, owes_less, owes_none, owes_part, owes_same}

abbrev pub rest_of : List (List ℕ) → ℕ → List ℕ
rest_of lines n = flat_map (λ line. line) (drop n lines)

pub rest_next : (lines : List (List ℕ)) (n : ℕ) (line : List ℕ) → slice_get lines n ≡ Some line → rest_of lines n ≡ line ++ rest_of lines (suc n)
rest_next [] zero line is = cc
rest_next [] (suc n) line is = cc
rest_next (first ∷ lines) zero line is =
    let same : first ≡ line = cc in
    ap (λ l. l ++ flat_map (λ x. x) lines) same
rest_next (first ∷ lines) (suc n) line is = rest_next lines n line is

pub rest_past : (lines : List (List ℕ)) (n : ℕ) → slice_get lines n ≡ None → rest_of lines n ≡ []
rest_past [] zero is = refl
rest_past [] (suc n) is = refl
rest_past (first ∷ lines) zero is = cc
rest_past (first ∷ lines) (suc n) is = rest_past lines n is

-- if line `n` is written, the lines from n + 1 on are owed
pub owes_line : (old mid new : Option (List ℕ)) (lines : List (List ℕ)) (n : ℕ) (line : List ℕ) → slice_get lines n ≡ Some line
    → Owes old mid (flat_map (λ x. x) lines) (rest_of lines n) → Appends mid new line → Owes old new (flat_map (λ x. x) lines) (rest_of lines (n + 1))
owes_line old mid new lines n line is owes written =
    let next : suc n ≡ n + 1 = omega arith in
    owes_less old mid new (flat_map (λ x. x) lines) line (rest_of lines (n + 1))
    (owes_same old mid (flat_map (λ x. x) lines) (rest_of lines n) (line ++ rest_of lines (n + 1)) (rest_next lines n line is ∙ ap (λ k. line ++ rest_of lines k) next) owes) written

-- if line `n` is written in part, the whole text is written in part
pub part_of_line : (old mid new : Option (List ℕ)) (lines : List (List ℕ)) (n : ℕ) (line : List ℕ) → slice_get lines n ≡ Some line
    → Owes old mid (flat_map (λ x. x) lines) (rest_of lines n) → AppendsPart mid new line → AppendsPart old new (flat_map (λ x. x) lines)
part_of_line old mid new lines n line is owes written =
    owes_part old mid new (flat_map (λ x. x) lines) line (rest_of lines (suc n))
    (owes_same old mid (flat_map (λ x. x) lines) (rest_of lines n) (line ++ rest_of lines (suc n)) (rest_next lines n line is) owes) written

-- if there is no line `n`, all is written
pub owes_no_line : (old now : Option (List ℕ)) (lines : List (List ℕ)) (n : ℕ) → slice_get lines n ≡ None
    → Owes old now (flat_map (λ x. x) lines) (rest_of lines n) → Appends old now (flat_map (λ x. x) lines)
owes_no_line old now lines n past owes =
    owes_none old now (flat_map (λ x. x) lines) (owes_same old now (flat_map (λ x. x) lines) (rest_of lines n) [] (rest_past lines n past) owes)
