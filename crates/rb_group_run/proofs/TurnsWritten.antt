-- Lines that are written one after another, one for each number.
use Rattle.std.proofs.{Common.{◌≡◌, ℕ, zero, suc, ◌+◌, ◌≤◌, ◌-◌, List, [], ◌∷◌, ◌++◌, Option, sym, ap, ◌∙◌, subst, arith}, lemmas.Grind.flat_map-append, lemmas.List.append-nil}
use Rattle.std.specs.{Io.KnownBytes.Appends, List.flat_map}
use Rattle.rb_base.specs.Counting.{numbers}
use Rattle.rb_base.proofs.Plain.{numbers-more}
use Rattle.rb_outside.specs.Bytes.{AppendsPart}
use Rattle.rb_outside.proofs.Known.{appends_join, part_join, part_widens}

one_line : (line : ℕ → List ℕ) (n : ℕ) → flat_map line (numbers (n + 1)) ≡ flat_map line (numbers n) ++ line n
one_line line n =
    ap (flat_map line) (numbers-more n)
    ∙ flat_map-append line (numbers n) (n ∷ [])
    ∙ ap (λ t. flat_map line (numbers n) ++ t) (append-nil (line n))

-- after the line of number `n` the lines of the first n + 1 numbers are written
pub lines_more : (line : ℕ → List ℕ) (n : ℕ) (old mid new : Option (List ℕ)) → Appends old mid (flat_map line (numbers n)) → Appends mid new (line n)
    → Appends old new (flat_map line (numbers (n + 1)))
lines_more line n old mid new before now = subst (λ t. Appends old new t) (sym (one_line line n)) (appends_join old mid new _ _ before now)

widened : (line : ℕ → List ℕ) (k d n : ℕ) (old new : Option (List ℕ)) → n ≡ k + d → AppendsPart old new (flat_map line (numbers k)) → AppendsPart old new (flat_map line (numbers n))
widened line k zero n old new is part = subst (λ m. AppendsPart old new (flat_map line (numbers m))) (omega (arith, is)) part
widened line k (suc d) n old new is part =
    let so_far : AppendsPart old new (flat_map line (numbers (k + d))) = widened line k d (k + d) old new (omega arith) part in
    let next : AppendsPart old new (flat_map line (numbers ((k + d) + 1))) =
    subst (λ t. AppendsPart old new t) (sym (one_line line (k + d))) (part_widens old new (flat_map line (numbers (k + d))) (line (k + d)) so_far) in
    subst (λ m. AppendsPart old new (flat_map line (numbers m))) (omega (arith, is)) next

pub lines_part : (line : ℕ → List ℕ) (n all : ℕ) (old mid new : Option (List ℕ)) → n + 1 ≤ all → Appends old mid (flat_map line (numbers n)) → AppendsPart mid new (line n)
    → AppendsPart old new (flat_map line (numbers all))
lines_part line n all old mid new below before now =
    widened line (n + 1) (all - (n + 1)) all old new (omega (arith, below))
    (subst (λ t. AppendsPart old new t) (sym (one_line line n)) (part_join old mid new _ _ before now))
