-- What is found of the first nodes, node by node.
use Rattle.std.proofs.{Common.{◌≡◌, ℕ, zero, suc, ◌+◌, ◌<◌, ◌≤◌, true, List, [], ◌∷◌, ◌++◌, length, take, drop, Option, Some, None, refl, sym, ◌∙◌, ap, arith}, lemmas.List.{append_assoc, take_more, length-append, length-take, take-append-drop}, lemmas.List.Elements.filter_map-append}
use Rattle.std.specs.Prelude.{is_some, option_to_list}
use Rattle.rb_rules.specs.{Book.{Row, map_from}, ExactStage.present}
use Rattle.rb_world_book.specs.{declared.told.Told.Told, Telling.{no_told, told_at}, Waiting.{first_trusted, found_of}}

pub map_from-append : {X Y : Type 0} (k : ℕ) (f : ℕ → X → Y) (xs ys : List X) → map_from k f (xs ++ ys) ≡ map_from k f xs ++ map_from (k + length xs) f ys
map_from-append k f [] ys = let e : k + 0 ≡ k = omega arith in rw e refl
map_from-append k f (x ∷ xs) ys =
    let e : k + 1 + length xs ≡ k + suc (length xs) = omega arith in
    ap (λ l. f k x ∷ l) (map_from-append (k + 1) f xs ys ∙ ap (λ n. map_from (k + 1) f xs ++ map_from n f ys) e)

one_present : {X : Type 0} (o : Option X) → present (o ∷ []) ≡ option_to_list o
one_present None = refl
one_present (Some x) = refl

pub found_none : {X : Type 0} (find : ℕ → Told → Option X) (told : List Told) → found_of find 0 told ≡ []
unfolding found_of
found_none find told = refl

pub found_more : {X : Type 0} (find : ℕ → Told → Option X) (told : List Told) (i : ℕ) → i < length told
    → found_of find (i + 1) told ≡ found_of find i told ++ option_to_list (find i (told_at told i))
unfolding found_of
found_more find told i h =
    let len : 0 + length (take i told) ≡ i = omega (arith, length-take i told) in
    ap (λ l. present (map_from 0 find l)) (take_more told i no_told h)
    ∙ ap present (map_from-append 0 find (take i told) (told_at told i ∷ []))
    ∙ filter_map-append (λ v. v) (map_from 0 find (take i told)) _
    ∙ ap (λ n. present (map_from 0 find (take i told)) ++ present (find n (told_at told i) ∷ [])) len
    ∙ ap (λ l. present (map_from 0 find (take i told)) ++ l) (one_present (find i (told_at told i)))

-- what is found of the nodes from i on, below n
unfoldable found_rest : {X : Type 0} → (ℕ → Told → Option X) → List Told → ℕ → ℕ → List X
found_rest find told i n = present (map_from i find (drop i (take n told)))

found_split : {X : Type 0} (find : ℕ → Told → Option X) (told : List Told) (i n : ℕ) → i ≤ n → i ≤ length told → found_of find n told ≡ found_of find i told ++ found_rest find told i n
unfolding found_of found_rest
found_split find told i n h within =
    let len : 0 + length (take i (take n told)) ≡ i = omega (arith, length-take i (take n told), length-take n told) in
    ap (λ l. present (map_from 0 find l)) (sym (take-append-drop i (take n told)))
    ∙ ap present (map_from-append 0 find (take i (take n told)) (drop i (take n told)))
    ∙ filter_map-append (λ v. v) (map_from 0 find (take i (take n told))) _
    ∙ ap (λ k. present (map_from 0 find (take i (take n told))) ++ present (map_from k find (drop i (take n told)))) len
    ∙ ap (λ l. present (map_from 0 find l) ++ present (map_from i find (drop i (take n told)))) (take_take i n told h)
  where
    take_take : {X : Type 0} (i n : ℕ) (xs : List X) → i ≤ n → take i (take n xs) ≡ take i xs
    take_take zero n xs h = refl
    take_take (suc i) zero xs h = absurd (omega arith)
    take_take (suc i) (suc n) [] h = refl
    take_take (suc i) (suc n) (x ∷ xs) h = ap (λ l. x ∷ l) (take_take i n xs (omega arith))

-- what is found of one more node is added
pub adds_more : {X : Type 0} (find : ℕ → Told → Option X) (told : List Told) (i : ℕ) (before now after : List X) → i < length told
    → now ≡ before ++ found_of find i told → after ≡ now ++ option_to_list (find i (told_at told i)) → after ≡ before ++ found_of find (i + 1) told
adds_more find told i before now after h so_far is =
    is ∙ ap (λ l. l ++ option_to_list (find i (told_at told i))) so_far ∙ append_assoc before (found_of find i told) _
    ∙ ap (λ l. before ++ l) (sym (found_more find told i h))

-- the list has grown by what is found of the first `k` nodes
pub record HasAdded {X : Type 0} (find : ℕ → Told → Option X) (told : List Told) (k : ℕ) (before now : List X) : Type 0 where
  pub is : now ≡ before ++ found_of find k told
  pub most : length now ≤ length before + k

pub line_added : {X : Type 0} (find : ℕ → Told → Option X) (told : List Told) (i : ℕ) (before now after : List X) (o : Option X) → i < length told
    → now ≡ before ++ found_of find i told → o ≡ find i (told_at told i) → after ≡ now ++ option_to_list o → length now ≤ length before + i
    → HasAdded find told (i + 1) before after
line_added find told i before now after o h so_far is added most = record {
  is = adds_more find told i before now after h so_far (added ∙ ap (λ p. now ++ option_to_list p) is);
  most = omega (arith, ap length added, length-append now (option_to_list o), one_at_most o);
}
  where
    one_at_most : {X : Type 0} (o : Option X) → length (option_to_list o) ≤ 1
    one_at_most None = omega arith
    one_at_most (Some x) = omega arith

-- The first of what is found.

pub found_first : (find : ℕ → Told → Option Row) (told : List Told) (i n : ℕ) (trusted : Option (ℕ × ℕ)) → i < n → i < length told → found_of find i told ≡ []
    → trusted ≡ first_trusted (option_to_list (find i (told_at told i))) → is_some trusted ≡ true → trusted ≡ first_trusted (found_of find n told)
found_first find told i n trusted h within none is some =
    is ∙ sym (first_front (option_to_list (find i (told_at told i))) (found_rest find told (i + 1) n) (sym (ap is_some is) ∙ some))
    ∙ sym (ap first_trusted (found_split find told (i + 1) n (omega arith) (omega arith) ∙ ap (λ l. l ++ found_rest find told (i + 1) n) (found_more find told i within ∙ ap (λ l. l ++ option_to_list (find i (told_at told i))) none)))
  where
    first_front : (xs ys : List Row) → is_some (first_trusted xs) ≡ true → first_trusted (xs ++ ys) ≡ first_trusted xs
    first_front [] ys e = absurd (cc)
    first_front (x ∷ xs) ys e = refl
