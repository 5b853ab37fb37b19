-- What a sweep brings and leaves.
use Rattle.std.proofs.{Common.{◌≡◌, ℕ, zero, suc, ◌+◌, ◌<◌, ◌≤◌, ◌^◌, ◌==◌, ◌&&◌, max, not, nat_lt, nat_le, Bool, true, false, List, [], ◌∷◌, ◌++◌, map, filter, remove, length, length-append, append_assoc, refl, sym, ◌∙◌, ap, subst, arith, cond, Some}, lemmas.Bool.Decides.nat_tests, lemmas.List.{append-nil, length-map, map-append}, lemmas.List.Elements.filter-append}
use Rattle.rb_base.specs.{Nodes.{Side, other}, Sizes.Sizes}
use Rattle.rb_base.proofs.Plain.{and-false, and-true, max-less}
use Rattle.rb_rules.specs.{Clock.stamp_of, Core.{Core, arrive, is_spent, of_source, pass_to}, Goodness.{Scenario, clock_of}, Hearing.Coming, Sense.Arrival, Slots.count_of, WorldStep.{Site, after_arrival, coming_from}}
use Rattle.rb_rules.proofs.QuietTicks.{arrive-same}
use Rattle.rb_laws_events.proofs.{PendingLists.{StandsAt, same_others}, SameHeard.Every, DueEvents.every-weaker, Receiving.{every-stands, every-without}, SayLists.{filter-all, filter-no}}
use Rattle.rb_laws_sweeps.specs.{Brought.{BringsArrivals, BringsComings, CameTogether, IsHeardIfDue, SweepsBring, due_from}, Laws.SweepsFrom, Sweeping.{first_of, swept}}
use Rattle.rb_laws_sweeps.proofs.{Firsts.first-stands, Sweeps.{all-every, sweep-of, sweep-stays, sweep-takes, sweeps-keep}}

-- Lists by a test.

head-same : (x d : Coming) (xs ys : List Coming) → x ∷ xs ≡ d ∷ ys → x ≡ d
head-same x d xs ys e = cc

tail-same : (x d : Coming) (xs ys : List Coming) → x ∷ xs ≡ d ∷ ys → xs ≡ ys
tail-same x d xs ys e = cc

is-empty : (cs : List Coming) → length cs ≡ 0 → cs ≡ []
is-empty [] e = refl
is-empty (c ∷ cs) e = absurd (omega (arith, e))

-- to take out an item that passes leaves one fewer
without-it : (q : Coming → Bool) (n : ℕ) {c : _} (cs : List Coming) → StandsAt n c cs → q c ≡ true → length (filter q cs) ≡ suc (length (filter q (remove cs n)))
without-it q n [] s h = absurd s
without-it q zero (x ∷ xs) s h = ap (λ b. length (cond b (x ∷ filter q xs) (filter q xs))) (ap q s ∙ h)
without-it q (suc n) (x ∷ xs) s h = by (q x) (without-it q n xs s h)
  where
    by : (b : Bool) → length (filter q xs) ≡ suc (length (filter q (remove xs n)))
        → length (cond b (x ∷ filter q xs) (filter q xs)) ≡ suc (length (cond b (x ∷ filter q (remove xs n)) (filter q (remove xs n))))
    by true e = ap suc e
    by false e = e

-- if only one item passes, nothing that passes is left without it
without-sole : (q : Coming → Bool) (n : ℕ) {c : _} (cs : List Coming) → StandsAt n c cs → q c ≡ true → (d : Coming) → filter q cs ≡ d ∷ []
    → (c ≡ d) × (filter q (remove cs n) ≡ [])
without-sole q n [] s h d e = absurd s
without-sole q zero (x ∷ xs) s h d e =
    let all : x ∷ filter q xs ≡ d ∷ [] = ap (λ b. cond b (x ∷ filter q xs) (filter q xs)) (sym (ap q s ∙ h)) ∙ e in
    (sym s ∙ head-same x d (filter q xs) [] all, tail-same x d (filter q xs) [] all)
without-sole q (suc n) {c} (x ∷ xs) s h d e = by (q x) e (without-sole q n xs s h d)
  where
    by : (b : Bool) → cond b (x ∷ filter q xs) (filter q xs) ≡ d ∷ [] → (filter q xs ≡ d ∷ [] → (c ≡ d) × (filter q (remove xs n) ≡ []))
        → (c ≡ d) × (cond b (x ∷ filter q (remove xs n)) (filter q (remove xs n)) ≡ [])
    by true e rest =
        let long : suc (length (filter q xs)) ≡ 1 = ap length e in
        let more = without-it q n xs s h in
        absurd (omega (arith, long, more))
    by false e rest = rest e

-- What came, each with its stamp.

abbrev come_of : ℕ → List (ℕ × Coming) → List (ℕ × Coming)
come_of j took = filter (λ (a : ℕ × Coming). a.1.from == j) took

abbrev comings : List (ℕ × Coming) → List Coming
comings took = map (λ (a : ℕ × Coming). a.1) took

abbrev arrival_in : ℕ × Coming → Arrival
arrival_in a = record { stamp = a.0; bytes = a.1.bytes }

abbrev kept_in : ℕ × Coming → ℕ × Arrival
kept_in a = (a.1.from, arrival_in a)

-- as many came as were due, and if exactly one was due, that one came
record Came (due came : List Coming) : Type 0 where
  one : (c : Coming) → due ≡ c ∷ [] → came ≡ c ∷ []
  count : length came ≡ length due

-- a node has taken all that was due, one after another, each with its stamp
record Takes (sc : Scenario) (me : Side) (i until : ℕ) (s z : Site) : Type 0 where
  took : List (ℕ × Coming)
  inbox : z.core.inbox ≡ s.core.inbox ++ map kept_in took
  got : z.got ≡ s.got ++ comings took
  left : z.coming ≡ filter (λ c. nat_le until c.time) s.coming
  each : (j : ℕ) → Came (due_from until j s.coming) (comings (come_of j took))

-- Tests.

due-is : (j until : ℕ) (c : Coming) → c.time < until → ((c.from == j) && nat_lt c.time until) ≡ (c.from == j)
due-is j until c lt =
    let soon : nat_lt c.time until ≡ true = grind (arith, nat_tests) in
    ap (λ b. (c.from == j) && b) soon ∙ and-true (c.from == j)

not-due : (j until : ℕ) (c : Coming) → until ≤ c.time → ((c.from == j) && nat_lt c.time until) ≡ false
not-due j until c le =
    let late : nat_lt c.time until ≡ false = grind (arith, nat_tests) in
    ap (λ b. (c.from == j) && b) late ∙ and-false (c.from == j)

is-late : (until : ℕ) (c : Coming) → until ≤ c.time → nat_le until c.time ≡ true
is-late until c le = grind (arith, nat_tests)

is-soon : (until : ℕ) (c : Coming) → c.time < until → nat_le until c.time ≡ false
is-soon until c lt = grind (arith, nat_tests)

-- One arrival.

came-none : {due : _} → due ≡ [] → Came due []
came-none h = record {
  one = λ c e. let long : 0 ≡ 1 = ap length (sym h ∙ e) in absurd (omega (arith, long));
  count = sym (ap length h);
}

came-one : (q : Coming → Bool) (n : ℕ) (c : Coming) (cs : List Coming) (k : ℕ) (ys : List (ℕ × Coming)) → StandsAt n c cs
    → Came (filter q (remove cs n)) (comings ys) → (b : Bool) → q c ≡ b → Came (filter q cs) (comings (cond b ((k, c) ∷ ys) ys))
came-one q n c cs k ys stands came true h = record {
  one = λ d e.
      let sole = without-sole q n cs stands h d e in
      ap (λ l. c ∷ l) (is-empty (comings ys) (came.count ∙ ap length sole.1)) ∙ ap (λ c. c ∷ []) sole.0;
  count = ap suc came.count ∙ sym (without-it q n cs stands h);
}
came-one q n c cs k ys stands came false h = record {
  one = λ d e. came.one d (same_others q n cs stands h ∙ e);
  count = came.count ∙ ap length (same_others q n cs stands h);
}

arrive-inbox : (sizes : Sizes) (me : Side) (core : Core) (from : ℕ) (bytes : List ℕ) → from < count_of (other me) sizes → core.had < 2 ^ 31
    → (arrive sizes me core from bytes).inbox ≡ core.inbox ++ (from, record { stamp = core.had; bytes = bytes }) ∷ []
unfolding arrive
arrive-inbox sizes me core from bytes known room =
    let a : nat_lt from (count_of (other me) sizes) ≡ true = grind (arith, nat_tests) in
    let b : is_spent core ≡ false = grind (arith, nat_tests) in
    let ab : (nat_lt from (count_of (other me) sizes) && not (is_spent core)) ≡ true = ap (λ x. x && not (is_spent core)) a ∙ ap not b in
    ap (λ b. let x : Core = (elim b [ true ↦ record core { inbox = core.inbox ++ (from, record { stamp = core.had; bytes = bytes }) ∷ [] } | false ↦ core ]) in x.inbox) ab

-- Takes.

-- if nothing comes before the time, nothing is taken
takes-none : (sc : Scenario) (me : Side) (i until : ℕ) (s : Site) → Every (λ c. until ≤ c.time) s.coming → Takes sc me i until s s
takes-none sc me i until s late = record {
  took = [];
  inbox = sym (append-nil s.core.inbox);
  got = sym (append-nil s.got);
  left = sym (filter-all (λ c. nat_le until c.time) s.coming (every-weaker (λ c. until ≤ c.time) (λ c. nat_le until c.time ≡ true) (is-late until) s.coming late));
  each = λ j.
      came-none
      (filter-no (λ c. (c.from == j) && nat_lt c.time until) s.coming
      (every-weaker (λ c. until ≤ c.time) (λ c. ((c.from == j) && nat_lt c.time until) ≡ false) (not-due j until) s.coming late));
}

-- if the first arrival is taken and then the rest, all are taken
takes-one : {sc me i until : _} (s : Site) {z p : _} → first_of s.coming ≡ Some p → p.coming.time < until
    → s.core.had < 2 ^ 31 → Every (IsHeardIfDue sc me i until) s.coming → Takes sc me i until (after_arrival sc me i p.place p.coming s) z → Takes sc me i until s z
unfolding after_arrival
takes-one {sc} {me} {i} {until} s {p} e lt had may t =
    let stands = first-stands s.coming p e in
    let heard = every-stands (IsHeardIfDue sc me i until) p.place s.coming stands may lt in
    let passed : Core = pass_to (stamp_of (clock_of sc me i) p.coming.time) s.core in
    let k : ℕ = max s.core.had (stamp_of (clock_of sc me i) p.coming.time) in
    let room : k < 2 ^ 31 = max-less s.core.had (stamp_of (clock_of sc me i) p.coming.time) (2 ^ 31) had heard.1 in
    record {
      took = (k, p.coming) ∷ t.took;
      inbox = t.inbox ∙ ap (λ l. l ++ map kept_in t.took) (arrive-inbox sc.sizes me passed p.coming.from p.coming.bytes heard.0 room)
          ∙ append_assoc s.core.inbox (kept_in (k, p.coming) ∷ []) (map kept_in t.took);
      got = t.got ∙ append_assoc s.got (p.coming ∷ []) (comings t.took);
      left = t.left ∙ same_others (λ c. nat_le until c.time) p.place s.coming stands (is-soon until p.coming lt);
      each = λ j.
          came-one (λ c. (c.from == j) && nat_lt c.time until) p.place p.coming s.coming k (come_of j t.took) stands (t.each j)
          (p.coming.from == j) (due-is j until p.coming lt);
    }

-- after the first arrival what is left may still be heard
heard-after : (sc : Scenario) (me : Side) (i until : ℕ) (s : Site) {p : _} → first_of s.coming ≡ Some p → p.coming.time < until
    → s.core.had < 2 ^ 31 → Every (IsHeardIfDue sc me i until) s.coming
    → ((after_arrival sc me i p.place p.coming s).core.had < 2 ^ 31) × Every (IsHeardIfDue sc me i until) (after_arrival sc me i p.place p.coming s).coming
unfolding after_arrival
heard-after sc me i until s {p} e lt had may =
    let heard = every-stands (IsHeardIfDue sc me i until) p.place s.coming (first-stands s.coming p e) may lt in
    let passed : Core = pass_to (stamp_of (clock_of sc me i) p.coming.time) s.core in (
      subst (λ n. n < 2 ^ 31) (sym (arrive-same sc.sizes me passed p.coming.from p.coming.bytes).1)
          (max-less s.core.had (stamp_of (clock_of sc me i) p.coming.time) (2 ^ 31) had heard.1),
      every-without (IsHeardIfDue sc me i until) p.place s.coming may,
    )

takes : (sc : Scenario) (me : Side) (i until : ℕ) (s : Site) → s.core.had < 2 ^ 31 → Every (IsHeardIfDue sc me i until) s.coming → Takes sc me i until s (swept sc me i until s)
takes sc me i until s =
    sweep-of sc me i until (λ s. s.core.had < 2 ^ 31 → Every (IsHeardIfDue sc me i until) s.coming → Takes sc me i until s (swept sc me i until s))
    (λ s late had may. subst (Takes sc me i until s) (sym (sweep-stays sc me i until s late)) (takes-none sc me i until s late))
    (λ s p e lt rest had may.
    let after = heard-after sc me i until s e lt had may in
    subst (Takes sc me i until s) (sym (sweep-takes sc me i until s p e lt))
    (takes-one s e lt had may (rest after.0 after.1))) s

-- What is kept, source by source.

none-of : (ys : List (ℕ × Coming)) → length (comings ys) ≡ 0 → ys ≡ []
none-of [] e = refl
none-of (y ∷ ys) e = absurd (omega (arith, e))

one-of : (ys : List (ℕ × Coming)) (c : Coming) → comings ys ≡ c ∷ [] → (k : ℕ) × (ys ≡ (k, c) ∷ [])
one-of [] c e = let long : 0 ≡ 1 = ap length e in absurd (omega (arith, long))
one-of (y ∷ ys) c e =
    let rest = none-of ys (ap length (tail-same y.1 c (comings ys) [] e)) in
    (y.0, ap (λ l. y ∷ l) rest ∙ ap (λ c. (y.0, c) ∷ []) (head-same y.1 c (comings ys) [] e))

brings-arrivals : (before : List Arrival) {due : _} (ys : List (ℕ × Coming)) → Came due (comings ys) → BringsArrivals before due (before ++ map arrival_in ys)
brings-arrivals before ys came = record {
  none = λ h. ap (λ l. before ++ map arrival_in l) (none-of ys (came.count ∙ ap length h)) ∙ append-nil before;
  one = λ c h b. let sole = one-of ys c (came.one c h) in (sole.0, ap (λ l. l ++ map arrival_in ys) b ∙ ap (map arrival_in) sole.1);
  count =
      length-append before (map arrival_in ys)
      ∙ ap (λ n. length before + n) (length-map ys arrival_in ∙ sym (length-map ys (λ (a : ℕ × Coming). a.1)) ∙ came.count);
}

brings-comings : (before : List Coming) {due : _} (ys : List (ℕ × Coming)) → Came due (comings ys) → BringsComings before due (before ++ comings ys)
brings-comings before ys came = record {
  none = λ h. ap (λ l. before ++ comings l) (none-of ys (came.count ∙ ap length h)) ∙ append-nil before;
  one = λ c h b. ap (λ l. l ++ comings ys) b ∙ came.one c h;
  count = length-append before (comings ys) ∙ ap (λ n. length before + n) came.count;
}

of-kept : (j : ℕ) (took : List (ℕ × Coming)) → of_source (map kept_in took) j ≡ map arrival_in (come_of j took)
of-kept j [] = refl
of-kept j (y ∷ ys) = by (y.1.from == j) (of-kept j ys)
  where
    by : (b : Bool) → of_source (map kept_in ys) j ≡ map arrival_in (come_of j ys)
        → map (λ (a : ℕ × Arrival). a.1) (cond b (kept_in y ∷ filter (λ a. a.0 == j) (map kept_in ys)) (filter (λ a. a.0 == j) (map kept_in ys)))
        ≡ map arrival_in (cond b (y ∷ come_of j ys) (come_of j ys))
    by true more = ap (λ l. arrival_in y ∷ l) more
    by false more = more

from-comings : (j : ℕ) (took : List (ℕ × Coming)) → coming_from (comings took) j ≡ comings (come_of j took)
from-comings j [] = refl
from-comings j (y ∷ ys) = by (y.1.from == j) (from-comings j ys)
  where
    by : (b : Bool) → coming_from (comings ys) j ≡ comings (come_of j ys)
        → cond b (y.1 ∷ coming_from (comings ys) j) (coming_from (comings ys) j) ≡ comings (cond b (y ∷ come_of j ys) (come_of j ys))
    by true more = ap (λ l. y.1 ∷ l) more
    by false more = more

inbox-of : (j : ℕ) (inbox : List (ℕ × Arrival)) {after : _} (took : List (ℕ × Coming)) → after ≡ inbox ++ map kept_in took
    → of_source after j ≡ of_source inbox j ++ map arrival_in (come_of j took)
inbox-of j inbox took h =
    ap (λ l. of_source l j) h ∙ ap (map (λ (a : ℕ × Arrival). a.1)) (filter-append (λ (a : ℕ × Arrival). a.0 == j) inbox (map kept_in took))
    ∙ map-append (λ (a : ℕ × Arrival). a.1) (filter (λ (a : ℕ × Arrival). a.0 == j) inbox) (filter (λ (a : ℕ × Arrival). a.0 == j) (map kept_in took))
    ∙ ap (λ l. of_source inbox j ++ l) (of-kept j took)

got-of : (j : ℕ) (got : List Coming) {after : _} (took : List (ℕ × Coming)) → after ≡ got ++ comings took → coming_from after j ≡ coming_from got j ++ comings (come_of j took)
got-of j got took h =
    ap (λ l. coming_from l j) h ∙ filter-append (λ (c : Coming). c.from == j) got (comings took) ∙ ap (λ l. coming_from got j ++ l) (from-comings j took)

sources-kept : (took : List (ℕ × Coming)) → map (λ (a : ℕ × Arrival). a.0) (map kept_in took) ≡ map (λ (c : Coming). c.from) (comings took)
sources-kept [] = refl
sources-kept (y ∷ ys) = ap (λ l. y.1.from ∷ l) (sources-kept ys)

still-together : {sc me i until s z : _} → Takes sc me i until s z → CameTogether s → CameTogether z
still-together {s} t h =
    ap (map (λ (a : ℕ × Arrival). a.0)) t.inbox ∙ map-append (λ (a : ℕ × Arrival). a.0) s.core.inbox (map kept_in t.took)
    ∙ ap (λ l. l ++ map (λ (a : ℕ × Arrival). a.0) (map kept_in t.took)) h ∙ ap (λ l. map (λ (c : Coming). c.from) s.got ++ l) (sources-kept t.took)
    ∙ sym (map-append (λ (c : Coming). c.from) s.got (comings t.took)) ∙ ap (map (λ (c : Coming). c.from)) (sym t.got)

pub sweeps-bring : SweepsBring
sweeps-bring sc me i until s had may =
    let z : Site = swept sc me i until s in
    let t : Takes sc me i until s z = takes sc me i until s had (all-every (IsHeardIfDue sc me i until) s.coming may) in
    let kept : SweepsFrom sc me i until s z = sweeps-keep sc me i until s in
    record {
      is = kept.is;
      state = kept.state;
      coming = t.left;
      inbox = λ j. subst (BringsArrivals (of_source s.core.inbox j) (due_from until j s.coming)) (sym (inbox-of j s.core.inbox t.took t.inbox))
          (brings-arrivals (of_source s.core.inbox j) (come_of j t.took) (t.each j));
      got = λ j. subst (BringsComings (coming_from s.got j) (due_from until j s.coming)) (sym (got-of j s.got t.took t.got))
          (brings-comings (coming_from s.got j) (come_of j t.took) (t.each j));
      together = still-together t;
    }
