-- What a node has taken in unstamped shows the same, source by source, as what a sweep brings to
-- it.
use Rattle.std.proofs.{Common.{◌≡◌, ℕ, zero, suc, ◌+◌, ◌^◌, ◌<◌, ◌==◌, ◌&&◌, Bool, true, false, cond, not, List, [], ◌∷◌, ◌++◌, filter, get_or, length, map, take, refl, sym, ap, ◌∙◌, subst, arith}, lemmas.Bool.Decides.nat_tests, lemmas.List.{append-nil, take_more}, lemmas.List.Elements.filter-append}
use Rattle.std.specs.Prelude.{nat_le, nat_lt}
use Rattle.rb_base.specs.Nodes.{Side, other}
use Rattle.rb_rules.specs.{Core.{Core, arrive, of_source}, Goodness.Scenario, Hearing.Coming, Sense.Arrival, Slots.count_of, WorldStep.{Site, coming_from}}
use Rattle.rb_rules.proofs.Slots.{source-append}
use Rattle.rb_laws_events.proofs.{SameHeard.Every, FewThere.length-mapped}
use Rattle.rb_world.specs.{Sites.taken_in, Unstamped.{due_before, taken_all}}
use Rattle.rb_laws_sweeps.specs.{Brought.{BringsArrivals, BringsComings, due_from}, Stamps.restamped}

-- an arrival with this stamp
abbrev pub stamped : ℕ → Coming → Arrival
stamped had c = record { stamp = had; bytes = c.bytes }

-- the entries that come from source `j`
abbrev pub of_node : ℕ → List Coming → List Coming
of_node j cs = filter (λ (c : Coming). c.from == j) cs

pub record Taken (s after : Site) (cs : List Coming) : Type 0 where
  pub state : after.core.state ≡ s.core.state
  pub had : after.core.had ≡ s.core.had
  pub runs : after.runs ≡ s.runs
  pub inbox : (j : ℕ) → of_source after.core.inbox j ≡ of_source s.core.inbox j ++ map (stamped s.core.had) (of_node j cs)
  pub got : (j : ℕ) → coming_from after.got j ≡ coming_from s.got j ++ of_node j cs

arrive-is : (sc : Scenario) (me : Side) (core : Core) (from : ℕ) (bytes : List ℕ) → from < count_of (other me) sc.sizes → core.had < 2 ^ 31
    → arrive sc.sizes me core from bytes ≡ record core { inbox = core.inbox ++ (from, record { stamp = core.had; bytes = bytes }) ∷ [] }
unfolding arrive
arrive-is sc me core from bytes known small =
    let test : (nat_lt from (count_of (other me) sc.sizes) && not (nat_le (2 ^ 31) core.had)) ≡ true = grind (arith, nat_tests, known, small) in
    ap (λ b. elim b as (λ _. Core) [ true ↦ record core { inbox = core.inbox ++ (from, let a : Arrival = record { stamp = core.had; bytes = bytes } in a) ∷ [] } | false ↦ core ]) test

assoc : {X : Type 0} (xs ys zs : List X) → (xs ++ ys) ++ zs ≡ xs ++ (ys ++ zs)
assoc [] ys zs = refl
assoc (x ∷ xs) ys zs = ap (λ l. x ∷ l) (assoc xs ys zs)

one-source : (had j : ℕ) (c : Coming) (cs : List Coming) → of_source ((c.from, stamped had c) ∷ []) j ++ map (stamped had) (of_node j cs) ≡ map (stamped had) (of_node j (c ∷ cs))
one-source had j c cs = by (c.from == j)
  where
    by : (b : Bool) → map (λ (a : ℕ × Arrival). a.1) (cond b ((c.from, stamped had c) ∷ []) []) ++ map (stamped had) (of_node j cs) ≡ map (stamped had) (cond b (c ∷ of_node j cs) (of_node j cs))
    by true = refl
    by false = refl

one-got : (j : ℕ) (c : Coming) (cs : List Coming) → of_node j (c ∷ []) ++ of_node j cs ≡ of_node j (c ∷ cs)
one-got j c cs = by (c.from == j)
  where
    by : (b : Bool) → cond b (c ∷ []) [] ++ of_node j cs ≡ cond b (c ∷ of_node j cs) (of_node j cs)
    by true = refl
    by false = refl

-- the core takes one arrival in
taken-one : (sc : Scenario) (me : Side) (c : Coming) (s : Site) → c.from < count_of (other me) sc.sizes → s.core.had < 2 ^ 31
    → taken_in sc me c s ≡ record s { core = record s.core { inbox = s.core.inbox ++ (c.from, stamped s.core.had c) ∷ [] }; got = s.got ++ c ∷ [] }
taken-one sc me c s known small = ap (λ core. record s { core = core; got = s.got ++ c ∷ [] }) (arrive-is sc me s.core c.from c.bytes known small)

-- the core takes all arrivals in
pub taken : (sc : Scenario) (me : Side) (cs : List Coming) (s : Site) → s.core.had < 2 ^ 31 → Every (λ (c : Coming). c.from < count_of (other me) sc.sizes) cs → Taken s (taken_all sc me cs s) cs
taken sc me [] s small known = record {
  state = refl;
  had = refl;
  runs = refl;
  inbox = λ j. sym (append-nil (of_source s.core.inbox j));
  got = λ j. sym (append-nil (coming_from s.got j));
}
taken sc me (c ∷ cs) s small known =
    let one : Site = record s { core = record s.core { inbox = s.core.inbox ++ (c.from, stamped s.core.had c) ∷ [] }; got = s.got ++ c ∷ [] } in
    let rest = taken sc me cs one small known.1 in
    subst (λ z. Taken s (taken_all sc me cs z) (c ∷ cs)) (sym (taken-one sc me c s known.0 small)) (record {
      state = rest.state;
      had = rest.had;
      runs = rest.runs;
      inbox = λ j. rest.inbox j
          ∙ ap (λ l. l ++ map (stamped s.core.had) (of_node j cs)) (source-append s.core.inbox ((c.from, stamped s.core.had c) ∷ []) j)
          ∙ assoc (of_source s.core.inbox j) (of_source ((c.from, stamped s.core.had c) ∷ []) j) (map (stamped s.core.had) (of_node j cs))
          ∙ ap (λ l. of_source s.core.inbox j ++ l) (one-source s.core.had j c cs);
      got = λ j. rest.got j
          ∙ ap (λ l. l ++ of_node j cs) (filter-append (λ (d : Coming). d.from == j) s.got (c ∷ []))
          ∙ assoc (coming_from s.got j) (of_node j (c ∷ [])) (of_node j cs)
          ∙ ap (λ l. coming_from s.got j ++ l) (one-got j c cs);
    })

-- what comes from a source of all that is due is what is due from that source
pub due-node : (until j : ℕ) (cs : List Coming) → of_node j (due_before until cs) ≡ due_from until j cs
due-node until j [] = refl
due-node until j (c ∷ cs) = by (nat_lt c.time until) (c.from == j) refl (due-node until j cs)
  where
    by : (a b : Bool) → (c.from == j) ≡ b → of_node j (due_before until cs) ≡ due_from until j cs
        → of_node j (cond a (c ∷ due_before until cs) (due_before until cs)) ≡ cond (b && a) (c ∷ due_from until j cs) (due_from until j cs)
    by true b e h = ap (λ t. cond t (c ∷ of_node j (due_before until cs)) (of_node j (due_before until cs))) e ∙ both b
      where
        both : (b : Bool) → cond b (c ∷ of_node j (due_before until cs)) (of_node j (due_before until cs)) ≡ cond (b && true) (c ∷ due_from until j cs) (due_from until j cs)
        both true = ap (λ l. c ∷ l) h
        both false = h
    by false true e h = h
    by false false e h = h

-- The stamps.

-- the stamp of the first of some arrivals
abbrev pub first_stamp : List Arrival → ℕ
first_stamp [] = 0
first_stamp (a ∷ others) = a.stamp

-- the stamp of the first arrival that the core has from source `j`
abbrev pub stamps_in : Core → ℕ → ℕ
stamps_in core j = first_stamp (of_source core.inbox j)

-- the arrival with another stamp
abbrev pub with_stamp : ℕ → Arrival → Arrival
with_stamp stamp a = record { stamp = stamp; bytes = a.bytes }

pub restamped-source : (stamps : ℕ → ℕ) (inbox : List (ℕ × Arrival)) (j : ℕ) → of_source (restamped stamps inbox) j ≡ map (with_stamp (stamps j)) (of_source inbox j)
restamped-source stamps [] j = refl
restamped-source stamps (a ∷ rest) j = by (a.0 == j) refl (restamped-source stamps rest j)
  where
    by : (b : Bool) → (a.0 == j) ≡ b → of_source (restamped stamps rest) j ≡ map (with_stamp (stamps j)) (of_source rest j)
        → map (λ (a : ℕ × Arrival). a.1) (cond b ((a.0, with_stamp (stamps a.0) a.1) ∷ filter (λ (a : ℕ × Arrival). a.0 == j) (restamped stamps rest)) (filter (λ (a : ℕ × Arrival). a.0 == j) (restamped stamps rest)))
        ≡ map (with_stamp (stamps j)) (map (λ (a : ℕ × Arrival). a.1) (cond b (a ∷ filter (λ (a : ℕ × Arrival). a.0 == j) rest) (filter (λ (a : ℕ × Arrival). a.0 == j) rest)))
    by true e h =
        let same : a.0 ≡ j = grind (arith, nat_tests, e) in
        ap (λ k. with_stamp (stamps k) a.1 ∷ of_source (restamped stamps rest) j) same ∙ ap (λ l. with_stamp (stamps j) a.1 ∷ l) h
    by false e h = h

pub restamped-sources : (stamps : ℕ → ℕ) (inbox : List (ℕ × Arrival)) → map (λ (a : ℕ × Arrival). a.0) (restamped stamps inbox) ≡ map (λ (a : ℕ × Arrival). a.0) inbox
restamped-sources stamps [] = refl
restamped-sources stamps (a ∷ rest) = ap (λ l. a.0 ∷ l) (restamped-sources stamps rest)

-- both show the same of a source: nothing, one arrival, or more
pub data ShowAlike (a b : List Arrival) : Type 0 where
  none : a ≡ [] → b ≡ [] → ShowAlike a b
  one : (x : Arrival) → a ≡ x ∷ [] → b ≡ x ∷ [] → ShowAlike a b
  many : 1 < length a → 1 < length b → ShowAlike a b

-- arrivals with the due ones show the same as those after it
pub shows-alike : (had : ℕ) (before : List Arrival) (due : List Coming) (after : List Arrival) → BringsArrivals before due after
    → ShowAlike (before ++ map (stamped had) due) (map (with_stamp (first_stamp (before ++ map (stamped had) due))) after)
shows-alike had [] [] after b = none refl (ap (map (with_stamp 0)) (b.none refl))
shows-alike had (x ∷ []) [] after b = one x refl (ap (map (with_stamp x.stamp)) (b.none refl))
shows-alike had [] (c ∷ []) after b = let only = b.one c refl refl in one (stamped had c) refl (ap (map (with_stamp had)) only.1)
shows-alike had (x ∷ (y ∷ xs)) due after b =
    let all = x ∷ (y ∷ xs) ++ map (stamped had) due in
    let two = b.count in
    let long = length-mapped (with_stamp (first_stamp all)) after in
    many (omega arith) (omega (arith, two, long))
shows-alike had [] (c ∷ (d ∷ cs)) after b =
    let two = b.count in
    let long = length-mapped (with_stamp had) after in
    many (omega arith) (omega (arith, two, long))
shows-alike had (x ∷ []) (c ∷ cs) after b =
    let two = b.count in
    let long = length-mapped (with_stamp x.stamp) after in
    many (omega arith) (omega (arith, two, long))

-- a sole arrival that a sweep brings is the sole one of those before and those that were due
pub sole-alike : (before due after : List Coming) (c : Coming) → BringsComings before due after → after ≡ c ∷ [] → before ++ due ≡ c ∷ []
sole-alike [] [] after c b e = let never : [] ≡ c ∷ [] = sym (b.none refl) ∙ e in cc
sole-alike (x ∷ xs) [] after c b e = append-nil (x ∷ xs) ∙ sym (b.none refl) ∙ e
sole-alike [] (d ∷ []) after c b e = sym (b.one d refl refl) ∙ e
sole-alike [] (d ∷ (f ∷ ds)) after c b e = let two = b.count in let one = ap length e in absurd (omega (arith, two, one))
sole-alike (x ∷ xs) (d ∷ ds) after c b e = let two = b.count in let one = ap length e in absurd (omega (arith, two, one))

-- One more of a list is taken in.

taken-both : (sc : Scenario) (me : Side) (xs ys : List Coming) (s : Site) → taken_all sc me (xs ++ ys) s ≡ taken_all sc me ys (taken_all sc me xs s)
taken-both sc me [] ys s = refl
taken-both sc me (x ∷ xs) ys s = taken-both sc me xs ys (taken_in sc me x s)

pub taken-more : (sc : Scenario) (me : Side) (until : ℕ) (cs : List Coming) (n : ℕ) (c : Coming) (s : Site) → n < length cs → c ≡ get_or cs n c
    → taken_all sc me (due_before until (take (n + 1) cs)) s ≡ taken_all sc me (due_before until (c ∷ [])) (taken_all sc me (due_before until (take n cs)) s)
taken-more sc me until cs n c s within is =
    ap (λ ds. taken_all sc me ds s)
    (ap (due_before until) (take_more cs n c within ∙ ap (λ d. take n cs ++ d ∷ []) (sym is)) ∙ filter-append (λ (d : Coming). nat_lt d.time until) (take n cs) (c ∷ []))
    ∙ taken-both sc me (due_before until (take n cs)) (due_before until (c ∷ [])) s

pub every-at : (P : Coming → Type 0) (cs : List Coming) (n : ℕ) (d : Coming) → n < length cs → Every P cs → P (get_or cs n d)
every-at P [] n d within all = absurd (omega (arith, within))
every-at P (c ∷ cs) zero d within all = all.0
every-at P (c ∷ cs) (suc n) d within all = every-at P cs n d (omega (arith, within)) all.1

pub every-filter : (P : Coming → Type 0) (q : Coming → Bool) (cs : List Coming) → Every P cs → Every P (filter q cs)
every-filter P q [] all = tt
every-filter P q (c ∷ cs) all = by (q c) (every-filter P q cs all.1)
  where
    by : (b : Bool) → Every P (filter q cs) → Every P (cond b (c ∷ filter q cs) (filter q cs))
    by true rest = (all.0, rest)
    by false rest = rest
