-- The first of the arrivals of a lane.
use Rattle.std.proofs.{Common.{◌≡◌, ℕ, zero, suc, ◌+◌, ◌-◌, ◌<◌, ◌≤◌, ◌==◌, ◌&&◌, ◌||◌, ◌⊎◌, min, nat_lt, Bool, true, false, cond, Option, Some, None, slice_get, List, [], ◌∷◌, ◌++◌, length, map, take, get_or, refl, sym, ap, ◌∙◌, subst, arith, length-append, inl, inr}, lemmas.Bool.cases_lt, lemmas.Bool.Decides.nat_tests, lemmas.List.take_more, lemmas.Option.{slice_get-get_or, slice_get_within}}
use Rattle.rb_base.specs.Counting.{count_if}
use Rattle.rb_base.proofs.Plain.{slice_get-back, slice_get-front}
use Rattle.rb_rules.specs.{WorldStep.least, Hearing.Coming}
use Rattle.rb_queue.specs.{Waiting.{comes, coming_at, arrivals_at}, Scanning.{IsFirst, HasFirst, StandsAt, comes_before}}
use Rattle.rb_queue.proofs.Sources.{from_on, next_source, all_left, left_here, found_here, arrivals_are, passing_from, passing_next}

-- ---- one event more

pub is_last : {X : Type 0} (xs : List X) (x y : X) (k : ℕ) → slice_get (xs ++ x ∷ []) k ≡ Some y → (slice_get xs k ≡ Some y) ⊎ ((k ≡ length xs) × (y ≡ x))
is_last {X} [] x y zero e = let same : ◌≡◌ {A = Option X} (Some x) (Some y) = e in inr (refl, cc)
is_last {X} [] x y (suc k) e = let no : ◌≡◌ {A = Option X} None (Some y) = e in absurd (cc)
is_last (z ∷ xs) x y zero e = inl e
is_last (z ∷ xs) x y (suc k) e = elim (is_last xs x y k e) [ inl old ↦ inl old | inr new ↦ inr (ap suc new.0, new.1) ]

before_so : (s t a b : ℕ) → (nat_lt s t || ((s == t) && nat_lt a b)) ≡ true → (s ≤ t) × (s ≡ t → a < b)
before_so s t a b h = (grind (arith, nat_tests), λ e. grind (arith, nat_tests))

pub not_before : (s t a b : ℕ) → (nat_lt s t || ((s == t) && nat_lt a b)) ≡ false → (t ≤ s) × (s ≡ t → b ≤ a)
not_before s t a b h = (grind (arith, nat_tests), λ e. grind (arith, nat_tests))

-- a new arrival that comes before the first one is the first
first_new : (arrivals : List Coming) (place : ℕ) (p f : Coming) → (is : IsFirst arrivals place) → is.coming ≡ f → p.from ≤ 255
    → comes_before p f ≡ true → IsFirst (arrivals ++ p ∷ []) (length arrivals)
first_new arrivals place p f is same known before =
    let so = before_so p.time f.time (p.from) (f.from) before in
    let sooner : p.time ≤ f.time = so.0 in
    let time_of : (k : ℕ) (q : Coming) → slice_get arrivals k ≡ Some q → f.time ≤ q.time = λ k q at. subst (λ (f : Coming). f.time ≤ q.time) same (is.time k q at) in
    let source_at : (k : ℕ) (q : Coming) → slice_get arrivals k ≡ Some q → q.time ≡ f.time → f.from ≤ q.from =
    λ k q at e. subst (λ (f : Coming). q.time ≡ f.time → f.from ≤ q.from) same (is.source k q at) e in
    let lower : (k : ℕ) (q : Coming) → slice_get arrivals k ≡ Some q → q.time ≡ p.time → p.from < q.from =
    λ k q at e.
    let late : f.time ≤ q.time = time_of k q at in
    let at_once : p.time ≡ f.time = omega (arith, sooner, late, e) in
    let there : q.time ≡ f.time = e ∙ at_once in
    omega (arith, so.1 at_once, source_at k q at there) in
    record {
      coming = p;
      stands = ap (slice_get (arrivals ++ p ∷ [])) (let n : length arrivals ≡ length arrivals + 0 = omega arith in n) ∙ slice_get-back arrivals (p ∷ []) 0;
      known = known;
      time = λ k q at. elim (is_last arrivals p q k at) [ inl old ↦ omega (arith, sooner, time_of k q old) | inr new ↦ subst (λ (r : Coming). p.time ≤ r.time) (sym new.1) (omega arith) ];
      source = λ k q at e. elim (is_last arrivals p q k at) [ inl old ↦ omega (arith, lower k q old e) | inr new ↦ subst (λ (r : Coming). p.from ≤ r.from) (sym new.1) (omega arith) ];
      front = λ k q at e s. elim (is_last arrivals p q k at) [ inl old ↦ absurd (omega (arith, lower k q old e, s)) | inr new ↦ omega (arith, new.0) ];
    }

-- if a new arrival does not come before the first one, the first one stays
first_stays : (arrivals : List Coming) (place : ℕ) (p f : Coming) → (is : IsFirst arrivals place) → is.coming ≡ f → comes_before p f ≡ false
    → IsFirst (arrivals ++ p ∷ []) place
first_stays arrivals place p f is same after =
    let so = not_before p.time f.time (p.from) (f.from) after in
    let later : is.coming.time ≤ p.time = subst (λ (f : Coming). f.time ≤ p.time) (sym same) so.0 in
    let above : p.time ≡ is.coming.time → is.coming.from ≤ p.from =
    subst (λ (f : Coming). p.time ≡ f.time → f.from ≤ p.from) (sym same) so.1 in
    let within : place < length arrivals = slice_get_within arrivals place is.coming is.stands in
    record {
      coming = is.coming;
      stands = slice_get-front arrivals (p ∷ []) place within ∙ is.stands;
      known = is.known;
      time = λ k q at. elim (is_last arrivals p q k at) [ inl old ↦ is.time k q old | inr new ↦ subst (λ (r : Coming). is.coming.time ≤ r.time) (sym new.1) later ];
      source = λ k q at. elim (is_last arrivals p q k at) [
        | inl old ↦ is.source k q old
        | inr new ↦ subst (λ (r : Coming). r.time ≡ is.coming.time → is.coming.from ≤ r.from) (sym new.1) above
      ];
      front = λ k q at e s. elim (is_last arrivals p q k at) [ inl old ↦ is.front k q old e s | inr new ↦ omega (arith, within, new.0) ];
    }

-- an arrival alone is the first
first_alone : (p : Coming) → p.from ≤ 255 → IsFirst (p ∷ []) 0
first_alone p known =
    let one : (k : ℕ) (q : Coming) → slice_get (p ∷ []) k ≡ Some q → (k ≡ 0) × (q ≡ p) = λ k q at. elim (is_last [] p q k at) [ inl old ↦ absurd (nothing q k old) | inr new ↦ new ] in
    record {
      coming = p;
      stands = refl;
      known = known;
      time = λ k q at. subst (λ (r : Coming). p.time ≤ r.time) (sym (one k q at).1) (omega arith);
      source = λ k q at e. subst (λ (r : Coming). p.from ≤ r.from) (sym (one k q at).1) (omega arith);
      front = λ k q at e s. omega arith;
    }
  where
    nothing : (q : Coming) (k : ℕ) → slice_get [] k ≡ Some q → ⊥
    nothing q k e = let no : ◌≡◌ {A = Option Coming} None (Some q) = e in cc

-- ---- which is ready first

-- if no event passes, none is counted
pub none_pass : (q : Coming → Bool) (arrivals : List Coming) → ((k : ℕ) (p : Coming) → slice_get arrivals k ≡ Some p → q p ≡ false) → count_if q arrivals ≡ 0
none_pass q [] none = refl
none_pass q (x ∷ xs) none = rw (none 0 x refl) (omega (arith, none_pass q xs (λ k p at. none (suc k) p at)))

not_source : (s j t u a : ℕ) → j < a → (t ≡ u → a ≤ s) → ((s == j) && (t == u)) ≡ false
not_source s j t u a below above =
    elim (cases_lt t u) [
      | inl less ↦ grind (arith, nat_tests)
      | inr most ↦ elim (cases_lt u t) [
        | inl less ↦ grind (arith, nat_tests)
        | inr least ↦ let same : t ≡ u = omega (arith, most, least) in let up : a ≤ s = above same in grind (arith, nat_tests)
      ]
    ]

-- nothing comes from a lower source at the time of the first arrival
none_lower : (arrivals : List Coming) (place : ℕ) → (is : IsFirst arrivals place) → (j : ℕ) → j < is.coming.from
    → count_if (comes is.coming.time j) arrivals ≡ 0
none_lower arrivals place is j below =
    none_pass (comes is.coming.time j) arrivals (λ k p at. not_source (p.from) j p.time is.coming.time (is.coming.from) below (is.source k p at))

-- if nothing passes in front of place `k`, it is enough to search from there
skip_to : (q : Coming → Bool) (arrivals : List Coming) (d : Coming) (k : ℕ) → k ≤ length arrivals → ((j : ℕ) → j < k → q (get_or arrivals j d) ≡ false)
    → passing_from q arrivals 0 ≡ passing_from q arrivals k
skip_to q arrivals d zero h none = refl
skip_to q arrivals d (suc k) h none =
    skip_to q arrivals d k (omega arith) (λ j less. none j (omega arith))
    ∙ passing_next q arrivals k d (omega arith)
    ∙ ap (λ b. cond b ((k, get_or arrivals k d) ∷ passing_from q arrivals (k + 1)) (passing_from q arrivals (k + 1))) (none k (omega arith))
    ∙ ap (passing_from q arrivals) (let e : k + 1 ≡ suc k = omega arith in e)

not_in_front : (s t a u : ℕ) → (t ≡ u → s ≡ a → ⊥) → ((s == a) && (t == u)) ≡ false
not_in_front s t a u never =
    elim (cases_lt t u) [
      | inl less ↦ grind (arith, nat_tests)
      | inr most ↦ elim (cases_lt u t) [
        | inl less ↦ grind (arith, nat_tests)
        | inr least ↦ elim (cases_lt s a) [
          | inl less ↦ grind (arith, nat_tests)
          | inr up ↦ elim (cases_lt a s) [
            | inl less ↦ grind (arith, nat_tests)
            | inr down ↦ absurd (never (omega (arith, most, least)) (omega (arith, up, down)))
          ]
        ]
      ]
    ]

itself : (s t : ℕ) → ((s == s) && (t == t)) ≡ true
itself s t = grind (arith, nat_tests)

-- the first arrival is the first from its source at its time
first_coming : (arrivals : List Coming) (place : ℕ) → (is : IsFirst arrivals place)
    → StandsAt (coming_at is.coming.time arrivals (is.coming.from)) 0 arrivals place
first_coming arrivals place is =
    let f = is.coming in
    let time = f.time in
    let source = f.from in
    let within : place < length arrivals = slice_get_within arrivals place f is.stands in
    let item : Some (get_or arrivals place f) ≡ Some f = sym (slice_get-get_or arrivals place f within) ∙ is.stands in
    let there : f ≡ get_or arrivals place f = cc in
    let none : (j : ℕ) → j < place → comes time source (get_or arrivals j f) ≡ false =
    λ j less.
    let q = get_or arrivals j f in
    let at : slice_get arrivals j ≡ Some q = slice_get-get_or arrivals j f (omega (arith, less, within)) in
    not_in_front (q.from) q.time source time (λ e s. let before : place ≤ j = is.front j q at e s in omega (arith, before, less)) in
    let same : slice_get (passing_from (comes time source) arrivals place) 0 ≡ slice_get (coming_at time arrivals source) 0 =
    ap (λ l. slice_get l 0) (sym (skip_to (comes time source) arrivals f place (omega (arith, within)) none)) in
    found_here time arrivals source 0 place 0 f within there (itself source time) refl same

-- something comes at the time of the first arrival
arrives_then : (arrivals : List Coming) (place : ℕ) → (is : IsFirst arrivals place) → 0 < length (arrivals_at is.coming.time arrivals)
arrives_then arrivals place is =
    let time = is.coming.time in
    let source = is.coming.from in
    let known : source ≤ 255 = is.known in
    let stands = first_coming arrivals place is in
    let here : 0 < length (coming_at time arrivals source) = slice_get_within (coming_at time arrivals source) 0 (place, stands.coming) stands.found in
    let parts = next_source time arrivals 0 source 256 (omega arith) (omega (arith, known)) (λ j low below. none_lower arrivals place is j below) in
    let all : 0 < length (from_on time arrivals 0 (256 - 0)) =
    subst (λ n. 0 < n) (sym (ap length parts ∙ length-append (coming_at time arrivals source) (from_on time arrivals (source + 1) (256 - (source + 1))))) (omega (arith, here)) in
    subst (λ l. 0 < length l) (sym (arrivals_are time arrivals)) (subst (λ n. 0 < length (from_on time arrivals 0 n)) (let n : 256 - 0 ≡ 256 = omega arith in n) all)

-- the first arrival is the first of all that come at its time
pub first_ready : (arrivals : List Coming) (place : ℕ) → (is : IsFirst arrivals place) → StandsAt (arrivals_at is.coming.time arrivals) 0 arrivals place
first_ready arrivals place is =
    let time = is.coming.time in
    left_here time arrivals 0 0 0 (is.coming.from) place (all_left time arrivals 0 (arrives_then arrivals place is)) (omega arith) (let known : is.coming.from ≤ 255 = is.known in omega (arith, known))
    (λ j low below. none_lower arrivals place is j below) (first_coming arrivals place is)

-- ---- its time is the least

abbrev IsAbove : ℕ → Option ℕ → Type 0
IsAbove t None = Unit {0}
IsAbove t (Some u) = t ≤ u

least_above : (t : ℕ) (arrivals : List Coming) → ((k : ℕ) (p : Coming) → slice_get arrivals k ≡ Some p → t ≤ p.time) → IsAbove t (least (map (λ p. p.time) arrivals))
least_above t [] above = tt
least_above t (x ∷ xs) above =
    let here : t ≤ x.time = above 0 x refl in
    let go : (o : Option ℕ) → IsAbove t o → t ≤ elim o [ None ↦ x.time | Some u ↦ min x.time u ] =
    λ o. elim o as (λ o. IsAbove t o → t ≤ elim o [ None ↦ x.time | Some u ↦ min x.time u ]) [ None ↦ λ up. here | Some u ↦ λ up. omega (arith, here, up) ] in
    go (least (map (λ p. p.time) xs)) (least_above t xs (λ k p at. above (suc k) p at))

least_there : (t : ℕ) (arrivals : List Coming) (place : ℕ) (f : Coming) → slice_get arrivals place ≡ Some f → f.time ≡ t
    → ((k : ℕ) (p : Coming) → slice_get arrivals k ≡ Some p → t ≤ p.time) → least (map (λ p. p.time) arrivals) ≡ Some t
least_there t [] place f at is above = let no : ◌≡◌ {A = Option Coming} None (Some f) = at in absurd (cc)
least_there t (x ∷ xs) zero f at is above =
    let same : ◌≡◌ {A = Option Coming} (Some x) (Some f) = at in
    let one : x ≡ f = cc in
    let now : x.time ≡ t = ap (λ (p : Coming). p.time) one ∙ is in
    let go : (o : Option ℕ) → IsAbove t o → (elim o [ None ↦ x.time | Some u ↦ min x.time u ]) ≡ t =
    λ o. elim o as (λ o. IsAbove t o → (elim o [ None ↦ x.time | Some u ↦ min x.time u ]) ≡ t) [ None ↦ λ up. now | Some u ↦ λ up. omega (arith, now, up) ] in
    ap (λ n. Some n) (go (least (map (λ p. p.time) xs)) (least_above t xs (λ k p at. above (suc k) p at)))
least_there t (x ∷ xs) (suc place) f at is above =
    let here : t ≤ x.time = above 0 x refl in
    let rest : least (map (λ p. p.time) xs) ≡ Some t = least_there t xs place f at is (λ k p at. above (suc k) p at) in
    ap (λ o. Some (elim o [ None ↦ x.time | Some u ↦ min x.time u ])) rest ∙ ap (λ n. Some n) (let e : min x.time t ≡ t = omega (arith, here) in e)

pub first_time : (arrivals : List Coming) (place : ℕ) → (is : IsFirst arrivals place) → least (map (λ p. p.time) arrivals) ≡ Some is.coming.time
first_time arrivals place is = least_there is.coming.time arrivals place is.coming is.stands refl is.time

-- ---- for the code

pub first_is : (arrivals : List Coming) (place : ℕ) → 0 < length arrivals → HasFirst arrivals place → IsFirst arrivals place
first_is [] place some first = absurd (omega arith)
first_is (x ∷ xs) place some first = first

pub first_within : (arrivals : List Coming) (place : ℕ) → 0 < length arrivals → HasFirst arrivals place → place < length arrivals
first_within arrivals place some first =
    let is = first_is arrivals place some first in
    slice_get_within arrivals place is.coming is.stands

pub some_events : (arrivals : List Coming) (place : ℕ) → place < length arrivals → 0 < length arrivals
some_events arrivals place within = omega (arith, within)

-- the arrival at the place of the first one is the first
pub same_first : (arrivals : List Coming) (place : ℕ) (f : Coming) → (is : IsFirst arrivals place) → f ≡ get_or arrivals place f → is.coming ≡ f
same_first arrivals place f is at =
    let within : place < length arrivals = slice_get_within arrivals place is.coming is.stands in
    let same : Some is.coming ≡ Some (get_or arrivals place f) = sym is.stands ∙ slice_get-get_or arrivals place f within in
    let found : is.coming ≡ get_or arrivals place f = cc in
    found ∙ sym at

-- if there was no event, the new one is the first
pub only_one : (arrivals : List Coming) (place : ℕ) (p : Coming) → HasFirst arrivals place → length arrivals ≤ place → p.from ≤ 255
    → HasFirst (arrivals ++ p ∷ []) (length arrivals)
only_one [] place p first past known = first_alone p known
only_one (x ∷ xs) place p first past known = absurd (omega (arith, past, first_within (x ∷ xs) place (omega arith) first))

-- if the new event comes before the first one, it is the first
pub before_all : (arrivals : List Coming) (place : ℕ) (p f : Coming) → HasFirst arrivals place → place < length arrivals → f ≡ get_or arrivals place f
    → p.from ≤ 255 → comes_before p f ≡ true → HasFirst (arrivals ++ p ∷ []) (length arrivals)
before_all [] place p f first within at known before = absurd (omega arith)
before_all (x ∷ xs) place p f first within at known before = first_new (x ∷ xs) place p f first (same_first (x ∷ xs) place f first at) known before

-- if a new arrival does not come before the first one, the first one stays
pub not_before_all : (arrivals : List Coming) (place : ℕ) (p f : Coming) → HasFirst arrivals place → place < length arrivals → f ≡ get_or arrivals place f
    → comes_before p f ≡ false → HasFirst (arrivals ++ p ∷ []) place
not_before_all [] place p f first within at after = absurd (omega arith)
not_before_all (x ∷ xs) place p f first within at after = first_stays (x ∷ xs) place p f first (same_first (x ∷ xs) place f first at) after

-- one more arrival was looked at
pub first_more : (arrivals : List Coming) (i first : ℕ) (x : Coming) → i < length arrivals → x ≡ get_or arrivals i x → HasFirst (take i arrivals ++ x ∷ []) first
    → HasFirst (take (i + 1) arrivals) first
first_more arrivals i first x within at has = subst (λ l. HasFirst l first) (ap (λ y. take i arrivals ++ y ∷ []) at ∙ sym (take_more arrivals i x within)) has
