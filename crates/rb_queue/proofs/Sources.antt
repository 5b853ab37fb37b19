-- The arrivals of a time by source: how many there are, and which is the i-th.
use Rattle.std.proofs.{Common.{◌≡◌, ℕ, zero, suc, ◌+◌, ◌-◌, ◌<◌, ◌≤◌, ◌==◌, ◌&&◌, nat_le, nat_lt, Bool, true, false, cond, Some, slice_get, List, [], ◌∷◌, ◌++◌, length, filter, take, drop, get_or, refl, sym, ap, ◌∙◌, subst, arith, length-append, append_assoc, drop-cons, add-one}, lemmas.Bool.Decides.nat_tests, lemmas.Option.{slice_get-get_or, slice_get_within}}
use Rattle.std.specs.List.{enumerate_from, flat_map, range_with_len}
use Rattle.rb_base.specs.Counting.{count_if}
use Rattle.rb_base.proofs.{Counts.count_if-take_more, Plain.{slice_get-back, slice_get-front}}
use Rattle.rb_rules.specs.Hearing.{Coming}
use Rattle.rb_queue.specs.{Waiting.{comes, coming_at, arrivals_at}, Scanning.{is_between, StandsAt}}

-- what comes at a time from `n` sources, the first of which is `a`
unfoldable pub from_on : ℕ → List Coming → ℕ → ℕ → List (ℕ × Coming)
from_on time arrivals a n = flat_map (coming_at time arrivals) (range_with_len a n)

-- Lists.

pub no_items : {X : Type 0} (xs : List X) → length xs ≡ 0 → xs ≡ []
no_items [] e = refl
no_items (x ∷ xs) e = absurd (omega arith)

-- How many.
length-coming : (q : Coming → Bool) (n : ℕ) (xs : List Coming) → length (filter (λ c. q c.1) (enumerate_from n xs)) ≡ count_if q xs
length-coming q n [] = refl
length-coming q n (x ∷ xs) =
    let rest : List (ℕ × Coming) = filter (λ c. q c.1) (enumerate_from (n + 1) xs) in
    let more : length rest ≡ count_if q xs = length-coming q (n + 1) xs in
    let go : (b : Bool) → length (cond b ((n, x) ∷ rest) rest) ≡ cond b 1 0 + count_if q xs =
    λ b. elim b as (λ b. length (cond b ((n, x) ∷ rest) rest) ≡ cond b 1 0 + count_if q xs) [ true ↦ omega (arith, more) | false ↦ omega (arith, more) ] in
    go (q x)

pub length-coming_at : (time : ℕ) (arrivals : List Coming) (source : ℕ) → length (coming_at time arrivals source) ≡ count_if (comes time source) arrivals
length-coming_at time arrivals source = length-coming (comes time source) 0 arrivals

pub one_or_later : (s a e : ℕ) (b : Bool) → a < e
    → cond ((s == a) && b) 1 0 + cond (nat_le (a + 1) s && nat_lt s e && b) 1 0 ≡ cond (nat_le a s && nat_lt s e && b) 1 0
one_or_later s a e b h = grind (arith, nat_tests)

pub never_both : (s a : ℕ) (b : Bool) → ◌≡◌ {A = ℕ} (cond (nat_le a s && nat_lt s a && b) 1 0) 0
never_both s a b = grind (arith, nat_tests)

count_between : (time a e : ℕ) → a < e → (xs : List Coming) → count_if (comes time a) xs + count_if (is_between time (a + 1) e) xs ≡ count_if (is_between time a e) xs
count_between time a e h [] = refl
count_between time a e h (x ∷ xs) = omega (arith, count_between time a e h xs, one_or_later (x.from) a e (x.time == time) h)

count_none : (time a : ℕ) (xs : List Coming) → count_if (is_between time a a) xs ≡ 0
count_none time a [] = refl
count_none time a (x ∷ xs) = omega (arith, count_none time a xs, never_both (x.from) a (x.time == time))

pub length-from_on : (time : ℕ) (arrivals : List Coming) (a n e : ℕ) → a + n ≡ e → length (from_on time arrivals a n) ≡ count_if (is_between time a e) arrivals
unfolding from_on
length-from_on time arrivals a zero e h = let same : a ≡ e = omega arith in subst (λ e. 0 ≡ count_if (is_between time a e) arrivals) same (sym (count_none time a arrivals))
length-from_on time arrivals a (suc n) e h =
    length-append (coming_at time arrivals a) (from_on time arrivals (a + 1) n)
    ∙ omega (arith, length-coming_at time arrivals a, length-from_on time arrivals (a + 1) n e (omega arith), count_between time a e (omega arith) arrivals)

-- Which.
pub from_on-suc : (time : ℕ) (arrivals : List Coming) (a n : ℕ) → from_on time arrivals a (suc n) ≡ coming_at time arrivals a ++ from_on time arrivals (a + 1) n
unfolding from_on
from_on-suc time arrivals a n = refl

pub from_on-zero : (time : ℕ) (arrivals : List Coming) (a : ℕ) → from_on time arrivals a 0 ≡ []
unfolding from_on
from_on-zero time arrivals a = refl

pub from_on-split : (time : ℕ) (arrivals : List Coming) (a k m : ℕ) → from_on time arrivals a (k + m) ≡ from_on time arrivals a k ++ from_on time arrivals (a + k) m
from_on-split time arrivals a zero m =
    let e : zero + m ≡ m = omega arith in
    let f : a ≡ a + zero = omega arith in
    ap (from_on time arrivals a) e ∙ ap (λ a. from_on time arrivals a m) f ∙ ap (λ l. l ++ from_on time arrivals (a + zero) m) (sym (from_on-zero time arrivals a))
from_on-split time arrivals a (suc k) m =
    let e : suc k + m ≡ suc (k + m) = omega arith in
    let f : (a + 1) + k ≡ a + suc k = omega arith in
    ap (from_on time arrivals a) e ∙ from_on-suc time arrivals a (k + m)
    ∙ ap (λ l. coming_at time arrivals a ++ l) (from_on-split time arrivals (a + 1) k m ∙ ap (λ a'. from_on time arrivals (a + 1) k ++ from_on time arrivals a' m) f)
    ∙ sym (append_assoc (coming_at time arrivals a) (from_on time arrivals (a + 1) k) (from_on time arrivals (a + suc k) m)) ∙ ap (λ l. l ++ from_on time arrivals (a + suc k) m) (sym (from_on-suc time arrivals a k))

-- sources from which nothing comes are passed over
pub from_on-skip : (time : ℕ) (arrivals : List Coming) (a k m : ℕ) → ((j : ℕ) → a ≤ j → j < a + k → count_if (comes time j) arrivals ≡ 0)
    → from_on time arrivals a (k + m) ≡ from_on time arrivals (a + k) m
from_on-skip time arrivals a zero m none =
    let e : zero + m ≡ m = omega arith in
    let f : a ≡ a + zero = omega arith in
    ap (from_on time arrivals a) e ∙ ap (λ a. from_on time arrivals a m) f
from_on-skip time arrivals a (suc k) m none =
    let e : suc k + m ≡ suc (k + m) = omega arith in
    let f : (a + 1) + k ≡ a + suc k = omega arith in
    let here : coming_at time arrivals a ≡ [] = no_items (coming_at time arrivals a) (length-coming_at time arrivals a ∙ none a (omega arith) (omega arith)) in
    ap (from_on time arrivals a) e ∙ from_on-suc time arrivals a (k + m) ∙ ap (λ l. l ++ from_on time arrivals (a + 1) (k + m)) here
    ∙ from_on-skip time arrivals (a + 1) k m (λ j low high. none j (omega arith) (omega arith)) ∙ ap (λ a. from_on time arrivals a m) f

-- if nothing comes from the sources before `s`, what comes begins with that of `s`
pub next_source : (time : ℕ) (arrivals : List Coming) (a s top : ℕ) → a ≤ s → s < top → ((j : ℕ) → a ≤ j → j < s → count_if (comes time j) arrivals ≡ 0)
    → from_on time arrivals a (top - a) ≡ coming_at time arrivals s ++ from_on time arrivals (s + 1) (top - (s + 1))
next_source time arrivals a s top low high none =
    let e : top - a ≡ (s - a) + suc (top - (s + 1)) = omega arith in
    let f : a + (s - a) ≡ s = omega arith in
    ap (from_on time arrivals a) e ∙ from_on-skip time arrivals a (s - a) (suc (top - (s + 1))) (λ j below above. none j below (omega arith))
    ∙ ap (λ a. from_on time arrivals a (suc (top - (s + 1)))) f ∙ from_on-suc time arrivals s (top - (s + 1))

some_source : (time : ℕ) (arrivals : List Coming) (a n : ℕ) → 0 < length (from_on time arrivals a n) → 0 < n
some_source time arrivals a zero h = let e : length (from_on time arrivals a zero) ≡ 0 = ap length (from_on-zero time arrivals a) in absurd (omega arith)
some_source time arrivals a (suc n) h = omega arith

pub arrivals_are : (time : ℕ) (arrivals : List Coming) → arrivals_at time arrivals ≡ from_on time arrivals 0 256
unfolding arrivals_at from_on
arrivals_are time arrivals = refl

pub count_arrivals : (time : ℕ) (arrivals : List Coming) → length (arrivals_at time arrivals) ≡ count_if (is_between time 0 256) arrivals
count_arrivals time arrivals = ap length (arrivals_are time arrivals) ∙ length-from_on time arrivals 0 256 256 (omega arith)

-- arrival `i` is arrival `left` of those from source `first` on
pub record IsLeft (time : ℕ) (arrivals : List Coming) (i first left : ℕ) : Type 0 where
  pub small : first ≤ 256
  pub some : left < length (from_on time arrivals first (257 - first))
  pub same : slice_get (from_on time arrivals first (257 - first)) left ≡ slice_get (arrivals_at time arrivals) i

-- what comes from source 256 is behind what comes from all sources of the bus
pub all_sources : (time : ℕ) (arrivals : List Coming) → from_on time arrivals 0 (257 - 0) ≡ arrivals_at time arrivals ++ from_on time arrivals 256 1
all_sources time arrivals =
    ap (from_on time arrivals 0) (let n : 257 - 0 ≡ 256 + 1 = omega arith in n) ∙ from_on-split time arrivals 0 256 1
    ∙ ap (λ l. l ++ from_on time arrivals (0 + 256) 1) (sym (arrivals_are time arrivals))
    ∙ ap (λ a. arrivals_at time arrivals ++ from_on time arrivals a 1) (let n : 0 + 256 ≡ 256 = omega arith in n)

pub all_left : (time : ℕ) (arrivals : List Coming) (i : ℕ) → i < length (arrivals_at time arrivals) → IsLeft time arrivals i 0 i
all_left time arrivals i h =
    let e = all_sources time arrivals in
    let long : length (arrivals_at time arrivals ++ from_on time arrivals 256 1) ≡ length (arrivals_at time arrivals) + length (from_on time arrivals 256 1) =
    length-append (arrivals_at time arrivals) (from_on time arrivals 256 1) in
    let some : i < length (arrivals_at time arrivals ++ from_on time arrivals 256 1) = omega (arith, h, long) in
    record {
      small = omega arith;
      some = subst (λ l. i < length l) (sym e) some;
      same = ap (λ l. slice_get l i) e ∙ slice_get-front (arrivals_at time arrivals) (from_on time arrivals 256 1) i h;
    }

-- if the arrival is not from source `s`, it is from a later one
pub left_later : (time : ℕ) (arrivals : List Coming) (i first left s others : ℕ) → IsLeft time arrivals i first left → first ≤ s → s ≤ 256
    → ((j : ℕ) → first ≤ j → j < s → count_if (comes time j) arrivals ≡ 0) → others + length (coming_at time arrivals s) ≡ left
    → IsLeft time arrivals i (s + 1) others
left_later time arrivals i first left s others is low high none many =
    let next = next_source time arrivals first s 257 low (omega arith) none in
    let later : List (ℕ × Coming) = from_on time arrivals (s + 1) (257 - (s + 1)) in
    let some : left < length (from_on time arrivals first (257 - first)) = is.some in
    let long : length (from_on time arrivals first (257 - first)) ≡ length (coming_at time arrivals s) + length later =
    ap length next ∙ length-append (coming_at time arrivals s) later in
    let there : others < length later = omega arith in
    let more : 0 < 257 - (s + 1) = some_source time arrivals (s + 1) (257 - (s + 1)) (omega arith) in
    let at : left ≡ length (coming_at time arrivals s) + others = omega arith in
    record {
      small = omega arith;
      some = there;
      same = sym (slice_get-back (coming_at time arrivals s) later others) ∙ ap (slice_get (coming_at time arrivals s ++ later)) (sym at)
          ∙ ap (λ l. slice_get l left) (sym next) ∙ is.same;
    }

-- if the arrival is from source `s`, this is its place
pub left_here : (time : ℕ) (arrivals : List Coming) (i first left s place : ℕ) → IsLeft time arrivals i first left → first ≤ s → s ≤ 256
    → ((j : ℕ) → first ≤ j → j < s → count_if (comes time j) arrivals ≡ 0) → StandsAt (coming_at time arrivals s) left arrivals place
    → StandsAt (arrivals_at time arrivals) i arrivals place
left_here time arrivals i first left s place is low high none at =
    let next = next_source time arrivals first s 257 low (omega arith) none in
    record {
      coming = at.coming;
      found = sym is.same ∙ ap (λ l. slice_get l left) next
          ∙ slice_get-front (coming_at time arrivals s) (from_on time arrivals (s + 1) (257 - (s + 1))) left (slice_get_within (coming_at time arrivals s) left (place, at.coming) at.found)
          ∙ at.found;
      stands = at.stands;
    }

-- The arrivals of one source.

-- the arrivals from place `k` on that pass, each with its place
abbrev pub passing_from : (Coming → Bool) → List Coming → ℕ → List (ℕ × Coming)
passing_from q arrivals k = filter (λ c. q c.1) (enumerate_from k (drop k arrivals))

pub passing_next : (q : Coming → Bool) (arrivals : List Coming) (k : ℕ) (d : Coming) → k < length arrivals
    → passing_from q arrivals k ≡ cond (q (get_or arrivals k d)) ((k, get_or arrivals k d) ∷ passing_from q arrivals (k + 1)) (passing_from q arrivals (k + 1))
passing_next q arrivals k d h =
    let e : drop k arrivals ≡ get_or arrivals k d ∷ drop (k + 1) arrivals = rw add-one (drop-cons arrivals k d h) in
    ap (λ l. filter (λ c. q c.1) (enumerate_from k l)) e

-- if the next arrival passes and none is left before it, it is the one that is looked for
pub found_here : (time : ℕ) (arrivals : List Coming) (source others k left : ℕ) (x : Coming) → k < length arrivals → x ≡ get_or arrivals k x
    → comes time source x ≡ true → left ≡ 0
    → slice_get (passing_from (comes time source) arrivals k) left ≡ slice_get (coming_at time arrivals source) others
    → StandsAt (coming_at time arrivals source) others arrivals k
found_here time arrivals source others k left x h is passes none same =
    let next = passing_next (comes time source) arrivals k x h in
    let item : slice_get arrivals k ≡ Some x = slice_get-get_or arrivals k x h ∙ ap (λ y. Some y) (sym is) in
    let rest : List (ℕ × Coming) = passing_from (comes time source) arrivals (k + 1) in
    let here : passing_from (comes time source) arrivals k ≡ (k, x) ∷ rest =
    next ∙ ap (λ y. cond (comes time source y) ((k, y) ∷ rest) rest) (sym is) ∙ ap (λ b. cond b ((k, x) ∷ rest) rest) passes in
    record {
      coming = x;
      found = sym same ∙ ap (λ l. slice_get l left) here ∙ ap (slice_get ((k, x) ∷ rest)) none;
      stands = item;
    }

not_there : (s j first lowest : ℕ) (b : Bool) → (nat_le first s && nat_lt s lowest && b) ≡ false → first ≤ j → j < lowest → ((s == j) && b) ≡ false
not_there s j first lowest b outside low high = grind (arith, nat_tests)

-- with one more arrival that is not from source `j` there is still none from it
none_more : (time : ℕ) (arrivals : List Coming) (i : ℕ) (x : Coming) (j : ℕ) → i < length arrivals → x ≡ get_or arrivals i x
    → count_if (comes time j) (take i arrivals) ≡ 0 → (comes time j x ≡ false) → count_if (comes time j) (take (i + 1) arrivals) ≡ 0
none_more time arrivals i x j h is none other =
    let more : count_if (comes time j) (take (i + 1) arrivals) ≡ count_if (comes time j) (take i arrivals) + cond (comes time j (get_or arrivals i x)) 1 0 =
    count_if-take_more (comes time j) arrivals i x h in
    let same : ◌≡◌ {A = ℕ} (cond (comes time j (get_or arrivals i x)) 1 0) 0 = ap (λ y. cond (comes time j y) 1 0) (sym is) ∙ ap (λ b. cond b 1 0) other in
    omega arith

-- an event from a higher source is not one from source `j`
lower_not : (time j : ℕ) (x : Coming) → j < x.from → comes time j x ≡ false
lower_not time j x h = let other : (x.from == j) ≡ false = grind (arith, nat_tests) in rw other refl

between_not : (time j first lowest : ℕ) (x : Coming) → is_between time first lowest x ≡ false → first ≤ j → j < lowest → comes time j x ≡ false
between_not time j first lowest x outside low high = not_there (x.from) j first lowest (x.time == time) outside low high

both_of : (s first lowest : ℕ) (b : Bool) → (nat_le first s && nat_lt s lowest && b) ≡ true → (first ≤ s) × (s < lowest)
both_of s first lowest b h = (grind (arith, nat_tests), grind (arith, nat_tests))

-- an event that is counted between two sources has its source between them
lowest_is : (time first lowest : ℕ) (x : Coming) → is_between time first lowest x ≡ true
    → (first ≤ x.from) × (x.from < lowest)
lowest_is time first lowest x h = both_of (x.from) first lowest (x.time == time) h

-- one more arrival is counted if it passes
pub count_more : (time first end : ℕ) (arrivals : List Coming) (i : ℕ) (x : Coming) → i < length arrivals → x ≡ get_or arrivals i x
    → count_if (is_between time first end) (take (i + 1) arrivals) ≡ count_if (is_between time first end) (take i arrivals) + cond (is_between time first end x) 1 0
count_more time first end arrivals i x h is =
    count_if-take_more (is_between time first end) arrivals i x h
    ∙ ap (λ y. count_if (is_between time first end) (take i arrivals) + cond (is_between time first end y) 1 0) (sym is)

-- `lowest` is the lowest source from `first` on of the first `i` arrivals
pub record IsLowest (time : ℕ) (arrivals : List Coming) (i first lowest : ℕ) : Type 0 where
  pub low : first ≤ lowest
  pub high : lowest ≤ 256
  pub none : (j : ℕ) → first ≤ j → j < lowest → count_if (comes time j) (take i arrivals) ≡ 0

pub lowest_new : (time : ℕ) (arrivals : List Coming) (i first lowest next : ℕ) (x : Coming) → IsLowest time arrivals i first lowest → i < length arrivals
    → x ≡ get_or arrivals i x → is_between time first lowest x ≡ true → next ≡ x.from → IsLowest time arrivals (i + 1) first next
lowest_new time arrivals i first lowest next x is h at passes new =
    let both = lowest_is time first lowest x passes in
    let high : lowest ≤ 256 = is.high in
    let above : first ≤ x.from = both.0 in
    let below : x.from < lowest = both.1 in
    record {
      low = omega arith;
      high = omega arith;
      none = λ j from upto. none_more time arrivals i x j h at (is.none j from (omega arith)) (lower_not time j x (omega arith));
    }

pub lowest_stays : (time : ℕ) (arrivals : List Coming) (i first lowest next : ℕ) (x : Coming) → IsLowest time arrivals i first lowest → i < length arrivals
    → x ≡ get_or arrivals i x → is_between time first lowest x ≡ false → next ≡ lowest → IsLowest time arrivals (i + 1) first next
lowest_stays time arrivals i first lowest next x is h at outside same =
    let low : first ≤ lowest = is.low in
    let high : lowest ≤ 256 = is.high in
    record {
      low = omega arith;
      high = omega arith;
      none = λ j from upto.
          none_more time arrivals i x j h at (is.none j from (omega arith)) (between_not time j first lowest x outside from (omega arith));
    }
