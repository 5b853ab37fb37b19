-- The entries for a node, as their numbers are put together.
use Rattle.std.proofs.{Common.{◌≡◌, ℕ, zero, suc, ◌+◌, ◌<◌, Bool, true, false, cond, Some, List, [], ◌∷◌, ◌++◌, filter, length, take, get_or, slice_get, refl, sym, ap, ◌∙◌, subst, arith, append_assoc, length-append, inl, inr}, lemmas.List.{append-nil, take_more}, lemmas.List.Elements.{filter-append, filter_map-append}, lemmas.Option.{get_or_from_slice_get, slice_get_within}, lemmas.Bool.cases_lt}
use Rattle.std.specs.{Prelude.unwrap_or, List.{cons_option, flat_map, range_with_len}}
use Rattle.rb_base.specs.{Nodes.{Side, other}, declared.node.NodeName.NodeName}
use Rattle.rb_rules.specs.{declared.say.Say.Say, Lawful.kind_of, Links.name_of}
use Rattle.rb_world_traffic.specs.Saying.{AreFor, AreOfKind, entries_at, entries_to, is_between}

-- One sender.

-- one more entry is added if it passes
filter-more : (p : Say → Bool) (says : List Say) (n : ℕ) (s : Say) → slice_get says n ≡ Some s → filter p (take (n + 1) says) ≡ filter p (take n says) ++ cond (p s) (s ∷ []) []
filter-more p says n s at =
    ap (filter p) (take_more says n s (slice_get_within says n s at)) ∙ filter-append p (take n says) (get_or says n s ∷ [])
    ∙ ap (λ x. filter p (take n says) ++ cond (p x) (x ∷ []) []) (get_or_from_slice_get says n s s at)

entries-more : (says : List Say) (places : List ℕ) (n : ℕ) (s : Say) (b : Bool) → slice_get says n ≡ Some s
    → entries_at says (places ++ cond b (n ∷ []) []) ≡ entries_at says places ++ cond b (s ∷ []) []
entries-more says places n s true at = filter_map-append (slice_get says) places (n ∷ []) ∙ ap (λ o. entries_at says places ++ cons_option o []) at
entries-more says places n s false at = filter_map-append (slice_get says) places []

pub one-entry : (says : List Say) (old places : List ℕ) (from to : NodeName) (n : ℕ) (s : Say) (b : Bool) → slice_get says n ≡ Some s → b ≡ is_between from to s
    → entries_at says places ≡ entries_at says old ++ filter (is_between from to) (take n says)
    → entries_at says (places ++ cond b (n ∷ []) []) ≡ entries_at says old ++ filter (is_between from to) (take (n + 1) says)
one-entry says old places from to n s b at is so_far =
    entries-more says places n s b at ∙ ap (λ l. l ++ cond b (s ∷ []) []) so_far
    ∙ append_assoc (entries_at says old) (filter (is_between from to) (take n says)) (cond b (s ∷ []) [])
    ∙ ap (λ b. entries_at says old ++ (filter (is_between from to) (take n says) ++ cond b (s ∷ []) [])) is
    ∙ ap (λ l. entries_at says old ++ l) (sym (filter-more (is_between from to) says n s at))

pub one-number : (says : List Say) (old places : List ℕ) (from to : NodeName) (n : ℕ) (s : Say) (b : Bool) → slice_get says n ≡ Some s → b ≡ is_between from to s
    → length places ≡ length old + length (filter (is_between from to) (take n says))
    → length (places ++ cond b (n ∷ []) []) ≡ length old + length (filter (is_between from to) (take (n + 1) says))
one-number says old places from to n s b at is so_far =
    let more : length (filter (is_between from to) (take (n + 1) says)) ≡ length (filter (is_between from to) (take n says)) + length (cond b (s ∷ []) []) =
    ap length (filter-more (is_between from to) says n s at) ∙ length-append (filter (is_between from to) (take n says)) (cond (is_between from to s) (s ∷ []) [])
    ∙ ap (λ b. length (filter (is_between from to) (take n says)) + length (cond b (s ∷ []) [])) (sym is) in
    let as_many : (b : Bool) → length (cond b (n ∷ []) []) ≡ length (cond b (s ∷ []) []) = λ b. elim b as (λ b. length (cond b (n ∷ []) []) ≡ length (cond b (s ∷ []) [])) [ true ↦ refl | false ↦ refl ] in
    length-append places (cond b (n ∷ []) []) ∙ omega (arith, so_far, more, as_many b)

-- All senders.

-- the entries of the first `n` senders for the receiver `to`
abbrev pub entries_of : NodeName → ℕ → List Say → List Say
entries_of to n says = flat_map (λ j. filter (is_between (name_of (other (kind_of to)) j) to) says) (range_with_len 0 n)

range-more : (f : ℕ → List Say) (a n : ℕ) → flat_map f (range_with_len a (suc n)) ≡ flat_map f (range_with_len a n) ++ f (a + n)
range-more f a zero = let e : a ≡ a + zero = omega arith in append-nil (f a) ∙ ap f e
range-more f a (suc n) =
    let e : a + 1 + n ≡ a + suc n = omega arith in
    ap (λ l. f a ++ l) (range-more f (a + 1) n ∙ ap (λ m. flat_map f (range_with_len (a + 1) n) ++ f m) e)
    ∙ sym (append_assoc (f a) (flat_map f (range_with_len (a + 1) n)) (f (a + suc n)))

-- one more sender adds its entries
pub one-sender : (to : NodeName) (n : ℕ) (says : List Say)
    → entries_of to (n + 1) says ≡ entries_of to n says ++ filter (is_between (name_of (other (kind_of to)) n) to) says
one-sender to n says =
    let f : ℕ → List Say = λ j. filter (is_between (name_of (other (kind_of to)) j) to) says in
    let e : n + 1 ≡ suc n = omega arith in
    let z : 0 + n ≡ n = omega arith in
    ap (λ m. entries_of to m says) e ∙ range-more f 0 n ∙ ap (λ m. entries_of to n says ++ f m) z

-- `places` are the numbers of the entries of the first `n` senders
pub record AreSoFar (says : List Say) (to : NodeName) (n : ℕ) (places : List ℕ) : Type 0 where
  pub entries : entries_at says places ≡ entries_of to n says
  pub many : length places ≡ length (entries_of to n says)

pub so-far-more : (says : List Say) (to from : NodeName) (n : ℕ) (old new : List ℕ) → AreSoFar says to n old → from ≡ name_of (other (kind_of to)) n
    → entries_at says new ≡ entries_at says old ++ filter (is_between from to) says
    → length new ≡ length old + length (filter (is_between from to) says) → AreSoFar says to (n + 1) new
so-far-more says to from n old new so_far is entries many =
    let more = one-sender to n says in
    record {
      entries = entries ∙ ap (λ l. l ++ filter (is_between from to) says) so_far.entries
          ∙ ap (λ x. entries_of to n says ++ filter (is_between x to) says) is ∙ sym more;
      many = many ∙ ap (λ m. m + length (filter (is_between from to) says)) so_far.many
          ∙ sym (length-append (entries_of to n says) (filter (is_between from to) says)) ∙ ap (λ x. length (entries_of to n says ++ filter (is_between x to) says)) is ∙ ap length (sym more);
    }

pub are-for : (says : List Say) (to : NodeName) (n : ℕ) (places : List ℕ) → AreSoFar says to n places → AreFor says to n places
unfolding entries_to
are-for says to n places so_far = record { entries = so_far.entries; many = so_far.many }

pub so-far-none : (says : List Say) (to : NodeName) (places : List ℕ) → places ≡ [] → AreSoFar says to 0 places
so-far-none says to places none = record { entries = ap (entries_at says) none; many = ap length none }

-- All receivers of a kind.
pub kind-none : (says : List Say) (side : Side) (senders : ℕ) (lists : List (List ℕ)) → lists ≡ [] → AreOfKind says side 0 senders lists
kind-none says side senders lists none = record { many = ap length none; each = λ i h. absurd (omega arith) }

get-last : (xs : List (List ℕ)) (y : List ℕ) (n : ℕ) → n ≡ length xs → unwrap_or (slice_get (xs ++ y ∷ []) n) [] ≡ y
get-last [] y n e = ap (λ n. unwrap_or (slice_get (y ∷ []) n) []) e
get-last (x ∷ xs) y n e = ap (λ n. unwrap_or (slice_get (x ∷ (xs ++ y ∷ [])) n) []) e ∙ get-last xs y (length xs) refl

get-front : (xs : List (List ℕ)) (y : List ℕ) (n : ℕ) → n < length xs → slice_get (xs ++ y ∷ []) n ≡ slice_get xs n
get-front [] y n h = absurd (omega arith)
get-front (x ∷ xs) y zero h = refl
get-front (x ∷ xs) y (suc n) h = get-front xs y n (omega arith)

-- one more receiver adds its list
pub kind-more : (says : List Say) (side : Side) (n senders : ℕ) (lists new : List (List ℕ)) (to : NodeName) (list : List ℕ) → AreOfKind says side n senders lists
    → to ≡ name_of side n → AreFor says to senders list → new ≡ lists ++ list ∷ [] → AreOfKind says side (n + 1) senders new
kind-more says side n senders lists new to list so_far is its after =
    let many : length lists ≡ n = so_far.many in
    let long : length new ≡ length lists + length (list ∷ []) = ap length after ∙ length-append lists (list ∷ []) in
    record {
      many = omega arith;
      each = λ i h. elim (cases_lt i n) [
        | inl less ↦ subst (AreFor says (name_of side i) senders)
            (sym (ap (λ l. unwrap_or (slice_get l i) []) after ∙ ap (λ o. unwrap_or o []) (get-front lists list i (omega arith)))) (so_far.each i less)
        | inr more ↦
            let e : n ≡ i = omega arith in
            subst (AreFor says (name_of side i) senders) (sym (ap (λ l. unwrap_or (slice_get l i) []) after ∙ get-last lists list i (omega arith)))
            (subst (λ x. AreFor says x senders list) (is ∙ ap (name_of side) e) its)
      ];
    }
