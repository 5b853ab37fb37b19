-- The arrivals of which an inbox is the record, as more come, and what the node makes of them.
use Rattle.std.proofs.{Common.{◌≡◌, ◌≢◌, ℕ, ◌+◌, ◌<◌, ◌≤◌, Bool, true, false, ◌||◌, ◌==◌, List, [], ◌∷◌, ◌++◌, length, map, filter, set, inl, inr, refl, sym, ◌∙◌, ap, arith, length-append}, lemmas.Bool.cases_eq, lemmas.List.{get_or-set_other, get_or-set_same, map-append}, lemmas.List.Elements.filter-append}
use Rattle.rb_base.specs.Nodes.{has, set_of}
use Rattle.rb_base.proofs.{Plain.eq_self, Sets.{eq_other, has-set_of}}
use Rattle.rb_rules.specs.Sense.{Arrival}
use Rattle.rb_frame.specs.Spellings.{len_of}
use Rattle.rb_eligible.specs.{declared.reading.Sole.Sole, Inboxes.{IsKept, IsSpoilt, IsUpTo, KeptArrivals, Received, HoldsArrivals, StampsUpTo, arrivals_of, sole_at}, Readings.bytes_of}

arrivals_more : (j : ℕ) (received : List Received) (r : Received) → arrivals_of j (received ++ r ∷ []) ≡ arrivals_of j received ++ arrivals_of j (r ∷ [])
arrivals_more j received r =
    ap (map (λ (r : Received). r.arrival)) (filter-append (λ (r : Received). r.source == j) received (r ∷ []))
    ∙ map-append (λ (r : Received). r.arrival) (filter (λ r. r.source == j) received) (filter (λ r. r.source == j) (r ∷ []))

arrivals_here : (i : ℕ) (a : Arrival) → arrivals_of i (record { source = i; arrival = a } ∷ []) ≡ a ∷ []
arrivals_here i a = rw (eq_self i) refl

arrivals_elsewhere : (i j : ℕ) (a : Arrival) → j ≢ i → arrivals_of j (record { source = i; arrival = a } ∷ []) ≡ []
arrivals_elsewhere i j a apart = rw (eq_other i j (λ same. apart (sym same))) refl

append-none : {X : Type 0} (xs : List X) → xs ++ [] ≡ xs
append-none [] = refl
append-none (x ∷ xs) = ap (λ ys. x ∷ ys) (append-none xs)

-- an arrival from source `i` changes nothing for the other sources
same_arrivals : (i j : ℕ) (received : List Received) (a : Arrival) → j ≢ i → arrivals_of j (received ++ record { source = i; arrival = a } ∷ []) ≡ arrivals_of j received
same_arrivals i j received a apart =
    arrivals_more j received (record { source = i; arrival = a })
    ∙ ap (λ xs. arrivals_of j received ++ xs) (arrivals_elsewhere i j a apart)
    ∙ append-none (arrivals_of j received)

more_arrivals : (i : ℕ) (received : List Received) (a : Arrival) → arrivals_of i (received ++ record { source = i; arrival = a } ∷ []) ≡ arrivals_of i received ++ a ∷ []
more_arrivals i received a =
    arrivals_more i received (record { source = i; arrival = a }) ∙ ap (λ xs. arrivals_of i received ++ xs) (arrivals_here i a)

same_kept : (came spoilt came' spoilt' : Bool) (s s' : Sole) (arrivals arrivals' : List Arrival) → came' ≡ came → spoilt' ≡ spoilt → s' ≡ s → arrivals' ≡ arrivals
    → IsKept came spoilt s arrivals → IsKept came' spoilt' s' arrivals'
same_kept came spoilt came' spoilt' s s' arrivals arrivals' a b c d kept = rw (a, b, c, d) kept

-- if nothing came from a source, it has no arrivals and is not spoilt
kept_none : (spoilt : Bool) (s : Sole) (arrivals : List Arrival) → IsKept false spoilt s arrivals → (spoilt ≡ false) × (arrivals ≡ [])
kept_none false s arrivals kept = (refl, kept)
kept_none true s arrivals kept = absurd kept

-- if something came from a source, it has an arrival
kept_some : (spoilt : Bool) (s : Sole) (arrivals : List Arrival) → IsKept true spoilt s arrivals → 0 < length arrivals
kept_some false s arrivals kept = let n = ap length kept.1 in omega (arith, n)
kept_some true s arrivals kept = elim kept [ inl one ↦ (let n = ap length one.1.0 in omega (arith, n)) | inr many ↦ omega (arith, many) ]

-- the set with node `k`
abbrev pub with_node : ℕ → ℕ → ℕ
with_node set k = set_of (λ i. has set i || (i == k))

with_itself : (set k : ℕ) → k < 16 → has (with_node set k) k ≡ true
with_itself set k below =
    has-set_of k (λ i. has set i || (i == k)) below ∙ ap (λ b. has set k || b) (eq_self k) ∙ elim (has set k) as (λ b. (b || true) ≡ true) [ true ↦ refl | false ↦ refl ]

with_other : (set k j : ℕ) → j < 16 → j ≢ k → has (with_node set k) j ≡ has set j
with_other set k j within apart =
    has-set_of j (λ i. has set i || (i == k)) within ∙ ap (λ b. has set j || b) (eq_other j k apart) ∙ elim (has set j) as (λ b. (b || false) ≡ b) [ true ↦ refl | false ↦ refl ]

-- an inbox holds the first arrival of a source, if that is no longer than any message
pub shows_first : (kept : KeptArrivals) (received : List Received) (i at : ℕ) (bytes : List ℕ) (s : Sole) → i < 16 → length kept.soles ≡ 16
    → has kept.came i ≡ false → s.at ≡ at → len_of s.tail ≤ 12 → bytes_of s ≡ bytes → HoldsArrivals kept received
    → HoldsArrivals (record { came = with_node kept.came i; spoilt = kept.spoilt; soles = set kept.soles i s })
    (received ++ record { source = i; arrival = record { stamp = at; bytes = bytes } } ∷ [])
shows_first kept received i at bytes s below all first at_is short bytes_are shown = λ j h.
    let a : Arrival = record { stamp = at; bytes = bytes } in
    elim (cases_eq j i) [
      | inl same ↦
          let none = kept_none (has kept.spoilt i) (sole_at kept.soles i) (arrivals_of i received) (rw first at (shown i below)) in
          let is : IsKept true false s (a ∷ []) = (short, rw (at_is, bytes_are) refl) in
          rw same
          (same_kept true false (has (with_node kept.came i) i) (has kept.spoilt i) s (sole_at (set kept.soles i s) i) (a ∷ []) (arrivals_of i (received ++ record { source = i; arrival = a } ∷ []))
          (with_itself kept.came i below) none.0 (get_or-set_same kept.soles i s _ (omega arith))
          (more_arrivals i received a ∙ ap (λ xs. xs ++ a ∷ []) none.1) is)
      | inr apart ↦
          same_kept (has kept.came j) (has kept.spoilt j) _ _ (sole_at kept.soles j) _ (arrivals_of j received) _
          (with_other kept.came i j h apart) refl (get_or-set_other kept.soles i j s _ apart) (same_arrivals i j received a apart) (shown j h)
    ]

-- an arrival after which its source cannot be good spoils the source
pub shows_spoilt : (kept : KeptArrivals) (received : List Received) (i : ℕ) (a : Arrival) → i < 16
    → (has kept.came i ≡ false → 12 < length a.bytes) → HoldsArrivals kept received
    → HoldsArrivals (record { came = with_node kept.came i; spoilt = with_node kept.spoilt i; soles = kept.soles })
    (received ++ record { source = i; arrival = a } ∷ [])
shows_spoilt kept received i a below long shown = λ j h.
    elim (cases_eq j i) [
      | inl same ↦
          let go : (b : Bool) → has kept.came i ≡ b → IsKept b (has kept.spoilt i) (sole_at kept.soles i) (arrivals_of i received) → IsSpoilt (arrivals_of i received ++ a ∷ []) =
          λ b. elim b as (λ b. has kept.came i ≡ b → IsKept b (has kept.spoilt i) (sole_at kept.soles i) (arrivals_of i received) → IsSpoilt (arrivals_of i received ++ a ∷ [])) [
            | true ↦ λ e k.
                let some = kept_some (has kept.spoilt i) (sole_at kept.soles i) (arrivals_of i received) k in
                let n : length (arrivals_of i received ++ a ∷ []) ≡ length (arrivals_of i received) + 1 = length-append (arrivals_of i received) (a ∷ []) in
                inr (omega (arith, some, n))
            | false ↦ λ e k.
                let none = kept_none (has kept.spoilt i) (sole_at kept.soles i) (arrivals_of i received) k in
                inl (a, (ap (λ xs. xs ++ a ∷ []) none.1, long e))
          ] in
          rw same
          (same_kept true true _ _ (sole_at kept.soles i) _ (arrivals_of i received ++ a ∷ []) _
          (with_itself kept.came i below) (with_itself kept.spoilt i below) refl (more_arrivals i received a)
          (go (has kept.came i) refl (shown i below)))
      | inr apart ↦
          same_kept (has kept.came j) (has kept.spoilt j) _ _ (sole_at kept.soles j) _ (arrivals_of j received) _
          (with_other kept.came i j h apart) (with_other kept.spoilt i j h apart) refl (same_arrivals i j received a apart) (shown j h)
    ]

same_up_to : (n : ℕ) (came spoilt came' spoilt' : Bool) (s s' : Sole) → came' ≡ came → spoilt' ≡ spoilt → s' ≡ s → IsUpTo n came spoilt s → IsUpTo n came' spoilt' s'
same_up_to n came spoilt came' spoilt' s s' a b c up_to = rw (a, b, c) up_to

kept_up_to : (n : ℕ) (spoilt : Bool) (s : Sole) → s.at ≤ n → IsUpTo n true spoilt s
kept_up_to n false s most = most
kept_up_to n true s most = tt

pub up_to_first : (n : ℕ) (kept : KeptArrivals) (i at : ℕ) (s : Sole) → i < 16 → length kept.soles ≡ 16 → s.at ≡ at → at ≤ n → StampsUpTo n kept
    → StampsUpTo n (record { came = with_node kept.came i; spoilt = kept.spoilt; soles = set kept.soles i s })
up_to_first n kept i at s below all at_is most up_to = λ j h.
    elim (cases_eq j i) [
      | inl same ↦
          rw same
          (same_up_to n true (has kept.spoilt i) _ _ s _ (with_itself kept.came i below) refl (get_or-set_same kept.soles i s _ (omega arith))
          (kept_up_to n (has kept.spoilt i) s (omega arith)))
      | inr apart ↦
          same_up_to n (has kept.came j) (has kept.spoilt j) _ _ (sole_at kept.soles j) _ (with_other kept.came i j h apart) refl (get_or-set_other kept.soles i j s _ apart) (up_to j h)
    ]

pub up_to_spoilt : (n : ℕ) (kept : KeptArrivals) (i : ℕ) → i < 16 → StampsUpTo n kept
    → StampsUpTo n (record { came = with_node kept.came i; spoilt = with_node kept.spoilt i; soles = kept.soles })
up_to_spoilt n kept i below up_to = λ j h.
    elim (cases_eq j i) [
      | inl same ↦ rw same (same_up_to n true true _ _ (sole_at kept.soles i) _ (with_itself kept.came i below) (with_itself kept.spoilt i below) refl tt)
      | inr apart ↦
          same_up_to n (has kept.came j) (has kept.spoilt j) _ _ (sole_at kept.soles j) _ (with_other kept.came i j h apart) (with_other kept.spoilt i j h apart) refl (up_to j h)
    ]

-- all that is kept stays short
pub short_first : (soles : List Sole) (i : ℕ) (s : Sole) → length soles ≡ 16 → i < 16 → len_of s.tail ≤ 12 → ((j : ℕ) → j < 16 → len_of (sole_at soles j).tail ≤ 12)
    → (j : ℕ) → j < 16 → len_of (sole_at (set soles i s) j).tail ≤ 12
short_first soles i s all below short before j h =
    elim (cases_eq j i) [
      | inl same ↦ rw same (let e : sole_at (set soles i s) i ≡ s = get_or-set_same soles i s _ (omega arith) in rw e short)
      | inr apart ↦ (let e : sole_at (set soles i s) j ≡ sole_at soles j = get_or-set_other soles i j s _ apart in rw e (before j h))
    ]
