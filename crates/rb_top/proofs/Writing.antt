-- A text written piece by piece: what is still owed of it, and what is written if a write fails.
use Rattle.std.proofs.{Common.{◌≡◌, ℕ, suc, ◌+◌, ◌-◌, ◌<◌, ◌≤◌, List, [], ◌++◌, Option, Result, Ok, Err, OnErr, arith, sym, ◌∙◌, ap, append_assoc, subst, refl}, lemmas.List.append-nil}
use Rattle.std.specs.{List.{flat_map, range_with_len}, Io.KnownBytes.Appends}
use Rattle.rb_outside.specs.Bytes.{AppendsPart}
use Rattle.rb_outside.proofs.Known.{appends_none, appends_join, part_join, part_widens}

-- all of the whole text but the rest is written
pub record Owes (old now : Option (List ℕ)) (whole rest : List ℕ) : Type 0 where
  pub written : List ℕ
  pub appended : Appends old now written
  pub completes : written ++ rest ≡ whole

-- before the first write the whole text is owed
pub owes_all : (old : Option (List ℕ)) (whole : List ℕ) → Owes old old whole whole
owes_all old whole = record { written = []; appended = appends_none old; completes = refl }

pub owes_same : (old now : Option (List ℕ)) (whole rest other : List ℕ) → rest ≡ other → Owes old now whole rest → Owes old now whole other
owes_same old now whole rest other e o = let P : List ℕ → Type 0 = λ xs. Owes old now whole xs in subst P e o

-- if one more piece is written, only what follows it is owed
pub owes_less : (old mid new : Option (List ℕ)) (whole piece rest : List ℕ) → Owes old mid whole (piece ++ rest) → Appends mid new piece → Owes old new whole rest
owes_less old mid new whole piece rest o p = record {
  written = o.written ++ piece;
  appended = appends_join old mid new o.written piece o.appended p;
  completes = append_assoc o.written piece rest ∙ o.completes;
}

-- if a piece is written in part, the whole text is written in part
pub owes_part : (old mid new : Option (List ℕ)) (whole piece rest : List ℕ) → Owes old mid whole (piece ++ rest) → AppendsPart mid new piece → AppendsPart old new whole
owes_part old mid new whole piece rest o p =
    let P : List ℕ → Type 0 = λ xs. AppendsPart old new xs in
    subst P (append_assoc o.written piece rest ∙ o.completes) (part_widens old new (o.written ++ piece) rest (part_join old mid new o.written piece o.appended p))

-- if the rest is written, the whole text is written
pub owes_last : (old mid new : Option (List ℕ)) (whole rest : List ℕ) → Owes old mid whole rest → Appends mid new rest → Appends old new whole
owes_last old mid new whole rest o p = rw (← o.completes) (appends_join old mid new o.written rest o.appended p)

-- if nothing is owed any more, the whole text is written
pub owes_none : (old new : Option (List ℕ)) (whole : List ℕ) → Owes old new whole [] → Appends old new whole
owes_none old new whole o = owes_last old new new whole [] o (appends_none new)

-- the pieces from number i to number n - 1
abbrev pub pieces : (ℕ → List ℕ) → ℕ → ℕ → List ℕ
pieces piece i n = flat_map piece (range_with_len i (n - i))

pieces_next : (piece : ℕ → List ℕ) (i n : ℕ) → i < n → pieces piece i n ≡ piece i ++ pieces piece (i + 1) n
pieces_next piece i n h =
    let e : n - i ≡ suc (n - (i + 1)) = omega arith in
    ap (λ k. flat_map piece (range_with_len i k)) e

pieces_done : (piece : ℕ → List ℕ) (i n : ℕ) → n ≤ i → pieces piece i n ≡ []
pieces_done piece i n h = let e : n - i ≡ 0 = omega arith in ap (λ k. flat_map piece (range_with_len i k)) e

-- before piece `i` that piece, the pieces after it and the tail are owed
piece_owed : (old now : Option (List ℕ)) (whole tail : List ℕ) (piece : ℕ → List ℕ) (i n : ℕ) → i < n
    → Owes old now whole (pieces piece i n ++ tail) → Owes old now whole (piece i ++ (pieces piece (i + 1) n ++ tail))
piece_owed old now whole tail piece i n h o =
    owes_same old now whole _ _ (ap (λ rest. rest ++ tail) (pieces_next piece i n h) ∙ append_assoc (piece i) (pieces piece (i + 1) n) tail) o

-- if piece `i` is written, the pieces after it and the tail are owed
pub owes_pieces : (old mid new : Option (List ℕ)) (whole tail : List ℕ) (piece : ℕ → List ℕ) (i n : ℕ) → i < n
    → Owes old mid whole (pieces piece i n ++ tail) → Appends mid new (piece i) → Owes old new whole (pieces piece (i + 1) n ++ tail)
owes_pieces old mid new whole tail piece i n h o p = owes_less old mid new whole (piece i) _ (piece_owed old mid whole tail piece i n h o) p

-- if piece `i` is written in part, the whole text is written in part
pub part_of_pieces : (old mid new : Option (List ℕ)) (whole tail : List ℕ) (piece : ℕ → List ℕ) (i n : ℕ) → i < n
    → Owes old mid whole (pieces piece i n ++ tail) → AppendsPart mid new (piece i) → AppendsPart old new whole
part_of_pieces old mid new whole tail piece i n h o p = owes_part old mid new whole (piece i) _ (piece_owed old mid whole tail piece i n h o) p

-- after the last piece the tail is owed
pub owes_tail : (old now : Option (List ℕ)) (whole tail : List ℕ) (piece : ℕ → List ℕ) (i n : ℕ) → n ≤ i
    → Owes old now whole (pieces piece i n ++ tail) → Owes old now whole tail
owes_tail old now whole tail piece i n h o = owes_same old now whole _ _ (ap (λ rest. rest ++ tail) (pieces_done piece i n h)) o

-- if the write of the tail failed, the whole text is written in part
pub part_of_tail : {T E : Type 0} (r : Result T E) (old mid new : Option (List ℕ)) (whole tail : List ℕ) → Owes old mid whole tail
    → OnErr r (AppendsPart mid new tail) → OnErr r (AppendsPart old new whole)
part_of_tail (Ok x) old mid new whole tail o p = tt
part_of_tail (Err e) old mid new whole tail o p = owes_part old mid new whole tail [] (owes_same old mid whole _ _ (sym (append-nil tail)) o) p

-- before the first write of a text of pieces alone all pieces are owed
pub owes_pieces_alone : (old : Option (List ℕ)) (piece : ℕ → List ℕ) (n : ℕ) → Owes old old (flat_map piece (range_with_len 0 n)) (pieces piece 0 n ++ [])
owes_pieces_alone old piece n =
    let e : n - 0 ≡ n = omega arith in
    owes_same old old _ _ _ (ap (λ k. flat_map piece (range_with_len 0 k)) (sym e) ∙ sym (append-nil (pieces piece 0 n))) (owes_all old (flat_map piece (range_with_len 0 n)))

-- Four pieces, one after another.

pub four_written : (a b c d e : Option (List ℕ)) (w x y z : List ℕ) → Appends a b w → Appends b c x → Appends c d y → Appends d e z
    → Appends a e (w ++ (x ++ (y ++ z)))
four_written a b c d e w x y z first second third fourth =
    appends_join a b e w (x ++ (y ++ z)) first (appends_join b c e x (y ++ z) second (appends_join c d e y z third fourth))

pub part_of_second : (a b c : Option (List ℕ)) (w x rest : List ℕ) → Appends a b w → AppendsPart b c x → AppendsPart a c (w ++ (x ++ rest))
part_of_second a b c w x rest first p = part_join a b c w (x ++ rest) first (part_widens b c x rest p)

pub part_of_third : (a b c d : Option (List ℕ)) (w x y rest : List ℕ) → Appends a b w → Appends b c x → AppendsPart c d y
    → AppendsPart a d (w ++ (x ++ (y ++ rest)))
part_of_third a b c d w x y rest first second p =
    part_join a b d w (x ++ (y ++ rest)) first (part_of_second b c d x y rest second p)

pub part_of_fourth : (a b c d e : Option (List ℕ)) (w x y z : List ℕ) → Appends a b w → Appends b c x → Appends c d y → AppendsPart d e z
    → AppendsPart a e (w ++ (x ++ (y ++ z)))
part_of_fourth a b c d e w x y z first second third p =
    part_join a b e w (x ++ (y ++ z)) first (part_join b c e x (y ++ z) second (part_join c d e y z third p))
