-- Lines that are written one after another, one for each item of a list.
use Rattle.std.proofs.{Common.{◌≡◌, ℕ, ◌+◌, ◌<◌, ◌≤◌, List, [], ◌∷◌, ◌++◌, length, take, drop, get_or, Option, sym, ap, ◌∙◌, subst}, lemmas.Grind.flat_map-append, lemmas.List.{append-nil, take_all, take_more, take-append-drop}}
use Rattle.std.specs.{Io.KnownBytes.Appends, List.flat_map}
use Rattle.rb_outside.specs.Bytes.{AppendsPart}
use Rattle.rb_outside.proofs.Known.{appends_join, part_join, part_widens}

pub one-line : {X : Type 0} (line : X → List ℕ) (xs : List X) (i : ℕ) (d : X) → i < length xs
    → flat_map line (take (i + 1) xs) ≡ flat_map line (take i xs) ++ line (get_or xs i d)
one-line line xs i d below =
    ap (flat_map line) (take_more xs i d below)
    ∙ flat_map-append line (take i xs) (get_or xs i d ∷ [])
    ∙ ap (λ t. flat_map line (take i xs) ++ t) (append-nil (line (get_or xs i d)))

-- the line of item i is written
pub lines-more : {X : Type 0} (line : X → List ℕ) (xs : List X) (i : ℕ) (d : X) (old mid new : Option (List ℕ)) → i < length xs
    → Appends old mid (flat_map line (take i xs)) → Appends mid new (line (get_or xs i d)) → Appends old new (flat_map line (take (i + 1) xs))
lines-more line xs i d old mid new below before now =
    subst (λ t. Appends old new t) (sym (one-line line xs i d below)) (appends_join old mid new _ _ before now)

pub lines-part : {X : Type 0} (line : X → List ℕ) (xs : List X) (i : ℕ) (d : X) (old mid new : Option (List ℕ)) → i < length xs
    → Appends old mid (flat_map line (take i xs)) → AppendsPart mid new (line (get_or xs i d)) → AppendsPart old new (flat_map line xs)
lines-part line xs i d old mid new below before now =
    let some : AppendsPart old new (flat_map line (take (i + 1) xs)) =
    subst (λ t. AppendsPart old new t) (sym (one-line line xs i d below)) (part_join old mid new _ _ before now) in
    let whole : flat_map line (take (i + 1) xs) ++ flat_map line (drop (i + 1) xs) ≡ flat_map line xs =
    sym (flat_map-append line (take (i + 1) xs) (drop (i + 1) xs)) ∙ ap (flat_map line) (take-append-drop (i + 1) xs) in
    subst (λ t. AppendsPart old new t) whole (part_widens old new (flat_map line (take (i + 1) xs)) (flat_map line (drop (i + 1) xs)) some)

-- all lines are written
pub lines-all : {X : Type 0} (line : X → List ℕ) (xs : List X) (i : ℕ) (old new : Option (List ℕ)) → length xs ≤ i
    → Appends old new (flat_map line (take i xs)) → Appends old new (flat_map line xs)
lines-all line xs i old new past written = subst (λ t. Appends old new t) (ap (flat_map line) (take_all i xs past)) written
