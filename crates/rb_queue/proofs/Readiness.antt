-- What is ready in a lane: arrivals of the least time, else the tick.
use Rattle.std.proofs.{Common.{◌≡◌, ℕ, zero, suc, ◌<◌, ◌≤◌, ◌==◌, ◌&&◌, ◌⊎◌, min, nat_le, nat_lt, Bool, true, false, Option, Some, None, slice_get, List, [], ◌∷◌, ◌++◌, length, map, get_or, refl, sym, ap, ◌∙◌, subst, arith, inl, inr}, lemmas.Bool.Decides.nat_tests, lemmas.List.length-map}
use Rattle.std.specs.Prelude.{option_to_list, unwrap_or}
use Rattle.rb_base.specs.Counting.{count_if}
use Rattle.rb_base.proofs.Plain.{eq_self}
use Rattle.rb_rules.specs.{Hearing.Coming, WorldStep.least}
use Rattle.rb_queue.specs.{Waiting.{Held, IsFirstBefore, IsReadyBefore, IsTickReady, Ready, arrivals_at, head_of, ready_from, tick_at, unless_any}, Waiting.Ready.{Comes, Ticks}, Scanning.{HasFirst, StandsAt, is_between, is_sooner}}
use Rattle.rb_queue.proofs.{First.{first_is, first_ready, first_time, first_within, none_pass, same_first, some_events}, Sources.{count_arrivals, no_items}}

-- ---- how many

pub counted : (arrivals : List (ℕ × Coming)) (ticks : List Ready) → 0 < length arrivals → length (unless_any arrivals ticks) ≡ length arrivals
counted [] ticks some = absurd (omega arith)
counted (c ∷ cs) ticks some = length-map (c ∷ cs) (λ c. Comes c.0 c.1)

pub uncounted : (arrivals : List (ℕ × Coming)) (ticks : List Ready) → length arrivals ≡ 0 → length (unless_any arrivals ticks) ≡ length ticks
uncounted [] ticks none = refl
uncounted (c ∷ cs) ticks none = absurd (omega arith)

-- ---- the least time

-- the least time of the arrivals is that of the first one
least_is : (arrivals : List Coming) (place : ℕ) (f : Coming) → HasFirst arrivals place → place < length arrivals → f ≡ get_or arrivals place f
    → least (map (λ c. c.time) arrivals) ≡ Some f.time
least_is arrivals place f first within at =
    let is = first_is arrivals place (some_events arrivals place within) first in
    first_time arrivals place is ∙ ap (λ (c : Coming). Some c.time) (same_first arrivals place f is at)

with_least : (t u : ℕ) (o : Option ℕ) → o ≡ Some u → ◌≡◌ {A = Option ℕ} (Some (elim o [ None ↦ t | Some u ↦ min t u ])) (Some (min t u))
with_least t u o is = ap (λ o. Some (elim o [ None ↦ t | Some u ↦ min t u ])) is

-- if the tick is sooner than the first arrival, it is the least
pub tick_least : (arrivals : List Coming) (place : ℕ) (f : Coming) (tick : Option ℕ) → HasFirst arrivals place → place < length arrivals
    → f ≡ get_or arrivals place f → is_sooner tick f.time ≡ true → tick ≡ least (option_to_list tick ++ map (λ c. c.time) arrivals)
tick_least arrivals place f None first within at sooner = absurd (let never : false ≡ true = sooner in cc)
tick_least arrivals place f (Some t) first within at sooner =
    let less : t < f.time = grind (arith, nat_tests) in
    let same : min t f.time ≡ t = omega (arith, less) in
    sym (with_least t f.time (least (map (λ c. c.time) arrivals)) (least_is arrivals place f first within at) ∙ ap (λ n. Some n) same)

-- if the tick is no sooner than the first arrival, the time of that is the least
pub first_least : (arrivals : List Coming) (place : ℕ) (f : Coming) (tick : Option ℕ) → HasFirst arrivals place → place < length arrivals
    → f ≡ get_or arrivals place f → is_sooner tick f.time ≡ false → Some f.time ≡ least (option_to_list tick ++ map (λ c. c.time) arrivals)
first_least arrivals place f None first within at late = sym (least_is arrivals place f first within at)
first_least arrivals place f (Some t) first within at late =
    let most : f.time ≤ t = grind (arith, nat_tests) in
    let same : min t f.time ≡ f.time = omega (arith, most) in
    sym (with_least t f.time (least (map (λ c. c.time) arrivals)) (least_is arrivals place f first within at) ∙ ap (λ n. Some n) same)

-- ---- what is ready

not_at : (t u s : ℕ) → t < u → (nat_le 0 s && nat_lt s 256 && (u == t)) ≡ false
not_at t u s less = grind (arith, nat_tests)

-- nothing comes at a time before that of all arrivals
none_at : (t : ℕ) (arrivals : List Coming) → ((k : ℕ) (c : Coming) → slice_get arrivals k ≡ Some c → t < c.time) → arrivals_at t arrivals ≡ []
none_at t arrivals later =
    no_items (arrivals_at t arrivals) (count_arrivals t arrivals ∙ none_pass (is_between t 0 256) arrivals (λ k c at. not_at t c.time c.from (later k c at)))

own_tick : (t : ℕ) → tick_at t (Some t) ≡ Ticks ∷ []
own_tick t = ap (λ b. elim b [ true ↦ Ticks ∷ [] | false ↦ [] ]) (eq_self t)

-- the tick is ready if all arrivals come later
tick_then : (arrivals : List Coming) (room t time : ℕ) → ((k : ℕ) (c : Coming) → slice_get arrivals k ≡ Some c → t < c.time)
    → head_of (record { arrivals = arrivals; tick = Some t; room = room }) ≡ Some t → t ≡ time
    → IsTickReady time (record { arrivals = arrivals; tick = Some t; room = room })
tick_then arrivals room t time later head same = record {
  ready = ap (λ o. ready_from o (record { arrivals = arrivals; tick = Some t; room = room })) head
      ∙ ap (λ l. unless_any l (tick_at t (Some t))) (none_at t arrivals later) ∙ own_tick t;
  tick = ap (λ n. Some n) same;
}

some_same : (a b : ℕ) → ◌≡◌ {A = Option ℕ} (Some a) (Some b) → a ≡ b
some_same a b e = cc

-- if the tick comes before the first arrival, it is what is ready
tick_first : (arrivals : List Coming) (room place : ℕ) (f : Coming) (tick : Option ℕ) (time : ℕ) → HasFirst arrivals place → place < length arrivals
    → f ≡ get_or arrivals place f → is_sooner tick f.time ≡ true → head_of (record { arrivals = arrivals; tick = tick; room = room }) ≡ Some time
    → IsTickReady time (record { arrivals = arrivals; tick = tick; room = room })
tick_first arrivals room place f None time first within at sooner head = absurd (let never : false ≡ true = sooner in cc)
tick_first arrivals room place f (Some t) time first within at sooner head =
    let is = first_is arrivals place (some_events arrivals place within) first in
    let same : is.coming ≡ f = same_first arrivals place f is at in
    let less : t < f.time = grind (arith, nat_tests) in
    let low : t < is.coming.time = subst (λ (c : Coming). t < c.time) (sym same) less in
    let least_one : head_of (record { arrivals = arrivals; tick = Some t; room = room }) ≡ Some t = sym (tick_least arrivals place f (Some t) first within at sooner) in
    tick_then arrivals room t time (λ k c there. let up : is.coming.time ≤ c.time = is.time k c there in omega (arith, low, up)) least_one
    (some_same t time (sym least_one ∙ head))

comes-get : (cs : List (ℕ × Coming)) (i place : ℕ) (c : Coming) → slice_get cs i ≡ Some (place, c)
    → slice_get (map (λ c. Comes c.0 c.1) cs) i ≡ Some (Comes place c)
comes-get [] i place c there = absurd (let never : ◌≡◌ {A = Option (ℕ × Coming)} None (Some (place, c)) = there in cc)
comes-get (d ∷ ds) zero place c there = ap (λ o. elim o as (λ _. Option Ready) [ None ↦ None | Some c ↦ Some (Comes c.0 c.1) ]) there
comes-get (d ∷ ds) (suc i) place c there = comes-get ds i place c there

pub ready-get : (arrivals : List (ℕ × Coming)) (ticks : List Ready) (i place : ℕ) (c : Coming) → slice_get arrivals i ≡ Some (place, c)
    → slice_get (unless_any arrivals ticks) i ≡ Some (Comes place c)
ready-get [] ticks i place c there = absurd (let never : ◌≡◌ {A = Option (ℕ × Coming)} None (Some (place, c)) = there in cc)
ready-get (d ∷ ds) ticks i place c there = comes-get (d ∷ ds) i place c there

-- ---- what is due before a time

-- without arrivals nothing is ready before the time
pub before_none : (arrivals : List Coming) (tick : Option ℕ) (room place until : ℕ) → HasFirst arrivals place → length arrivals ≤ place
    → IsFirstBefore until (record { arrivals = arrivals; tick = tick; room = room }) None
before_none [] None room place until first past = λ time head. absurd (let never : ◌≡◌ {A = Option ℕ} None (Some time) = head in cc)
before_none [] (Some t) room place until first past =
    λ time head.
    let same : ◌≡◌ {A = Option ℕ} (Some t) (Some time) = head in
    inr (tick_then [] room t time (λ k c there. absurd (let never : ◌≡◌ {A = Option Coming} None (Some c) = there in cc)) refl (some_same t time same))
before_none (x ∷ xs) tick room place until first past = absurd (omega (arith, past, first_within (x ∷ xs) place (omega arith) first))

-- if the tick comes before the first arrival, no arrival is ready first before the time
pub before_tick : (arrivals : List Coming) (tick : Option ℕ) (room place until : ℕ) (f : Coming) → HasFirst arrivals place → place < length arrivals
    → f ≡ get_or arrivals place f → is_sooner tick f.time ≡ true → IsFirstBefore until (record { arrivals = arrivals; tick = tick; room = room }) None
before_tick arrivals tick room place until f first within at sooner = λ time head. inr (tick_first arrivals room place f tick time first within at sooner head)

-- if the first arrival comes no sooner than the time, no arrival is ready first before it
pub before_late : (arrivals : List Coming) (tick : Option ℕ) (room place until : ℕ) (f : Coming) → HasFirst arrivals place → place < length arrivals
    → f ≡ get_or arrivals place f → until ≤ f.time → IsFirstBefore until (record { arrivals = arrivals; tick = tick; room = room }) None
before_late arrivals tick room place until f first within at late =
    λ time head. go time head (is_sooner tick f.time) refl
  where
    go : (time : ℕ) → head_of (record { arrivals = arrivals; tick = tick; room = room }) ≡ Some time → (b : Bool) → is_sooner tick f.time ≡ b
        → (until ≤ time) ⊎ IsTickReady time (record { arrivals = arrivals; tick = tick; room = room })
    go time head true sooner = inr (tick_first arrivals room place f tick time first within at sooner head)
    go time head false not_sooner =
        let same : f.time ≡ time = some_same f.time time (first_least arrivals place f tick first within at not_sooner ∙ head) in
        inl (omega (arith, late, same))

-- the first arrival is ready if it comes before the time and the tick is no sooner
pub before_some : (arrivals : List Coming) (tick : Option ℕ) (room place until : ℕ) (f : Coming) → HasFirst arrivals place → place < length arrivals
    → f ≡ get_or arrivals place f → f.time < until → is_sooner tick f.time ≡ false
    → IsReadyBefore until (record { arrivals = arrivals; tick = tick; room = room }) place
before_some arrivals tick room place until f first within at soon not_sooner =
    let lane : Held = record { arrivals = arrivals; tick = tick; room = room } in
    let is = first_is arrivals place (some_events arrivals place within) first in
    let same : is.coming ≡ f = same_first arrivals place f is at in
    let head : head_of lane ≡ Some f.time = sym (first_least arrivals place f tick first within at not_sooner) in
    let stands : StandsAt (arrivals_at is.coming.time arrivals) 0 arrivals place = first_ready arrivals place is in
    let there : Some stands.coming ≡ Some is.coming = sym stands.stands ∙ is.stands in
    let one : stands.coming ≡ f = (let e : stands.coming ≡ is.coming = cc in e ∙ same) in
    let found : slice_get (arrivals_at f.time arrivals) 0 ≡ Some (place, f) =
    ap (λ (c : Coming). slice_get (arrivals_at c.time arrivals) 0) (sym same) ∙ stands.found ∙ ap (λ (c : Coming). Some (place, c)) one in
    record {
      coming = f;
      ready = ap (λ o. slice_get (ready_from o lane) 0) head ∙ ready-get (arrivals_at f.time arrivals) (tick_at f.time tick) 0 place f found;
      stands = is.stands ∙ ap (λ (c : Coming). Some c) same;
      head = head;
      before = soon;
    }

-- ---- the place of one that is ready

-- what is ready of the tick alone is the tick
tick-get : (tick : Option ℕ) (t i : ℕ) → i < length (tick_at t tick) → slice_get (tick_at t tick) i ≡ Some Ticks
tick-get None t i below = absurd (omega (arith, below))
tick-get (Some u) t i below =
    let go : (b : Bool) → i < length (elim b as (λ _. List Ready) [ true ↦ Ticks ∷ [] | false ↦ [] ])
    → slice_get (elim b as (λ _. List Ready) [ true ↦ Ticks ∷ [] | false ↦ [] ]) i ≡ Some Ticks =
    λ b. elim b as (λ b. i < length (elim b as (λ _. List Ready) [ true ↦ Ticks ∷ [] | false ↦ [] ])
    → slice_get (elim b as (λ _. List Ready) [ true ↦ Ticks ∷ [] | false ↦ [] ]) i ≡ Some Ticks) [
      | true ↦ λ few. let none : i ≡ 0 = omega (arith, few) in ap (slice_get (Ticks ∷ [])) none
      | false ↦ λ few. absurd (omega (arith, few))
    ] in
    go (u == t) below

pub tick_at_place : (o : Option ℕ) (lane : Held) (i : ℕ) → i < length (ready_from o lane) → count_if (is_between (unwrap_or o 0) 0 256) lane.arrivals ≡ 0
    → slice_get (ready_from o lane) i ≡ Some Ticks
tick_at_place None lane i below none = absurd (omega (arith, below))
tick_at_place (Some t) lane i below none =
    let nothing : arrivals_at t lane.arrivals ≡ [] = no_items (arrivals_at t lane.arrivals) (count_arrivals t lane.arrivals ∙ none) in
    let same : unless_any (arrivals_at t lane.arrivals) (tick_at t lane.tick) ≡ tick_at t lane.tick = ap (λ l. unless_any l (tick_at t lane.tick)) nothing in
    ap (λ l. slice_get l i) same ∙ tick-get lane.tick t i (subst (λ l. i < length l) same below)

pub arrival_below : (o : Option ℕ) (lane : Held) (i : ℕ) → i < length (ready_from o lane) → (count_if (is_between (unwrap_or o 0) 0 256) lane.arrivals ≡ 0 → ⊥)
    → i < length (arrivals_at (unwrap_or o 0) lane.arrivals)
arrival_below None lane i below some = absurd (omega (arith, below))
arrival_below (Some t) lane i below some =
    let many : length (arrivals_at t lane.arrivals) ≡ count_if (is_between t 0 256) lane.arrivals = count_arrivals t lane.arrivals in
    go (length (arrivals_at t lane.arrivals)) refl many
  where
    go : (n : ℕ) → length (arrivals_at t lane.arrivals) ≡ n → length (arrivals_at t lane.arrivals) ≡ count_if (is_between t 0 256) lane.arrivals
        → i < length (arrivals_at t lane.arrivals)
    go zero is many = absurd (some (sym many ∙ is))
    go (suc n) is many =
        let long = counted (arrivals_at t lane.arrivals) (tick_at t lane.tick) (omega (arith, is)) in
        omega (arith, below, long)

pub comes_at_place : (o : Option ℕ) (lane : Held) (i place : ℕ) → i < length (ready_from o lane) → (at : StandsAt (arrivals_at (unwrap_or o 0) lane.arrivals) i lane.arrivals place)
    → slice_get (ready_from o lane) i ≡ Some (Comes place at.coming)
comes_at_place None lane i place below at = absurd (omega (arith, below))
comes_at_place (Some t) lane i place below at = ready-get (arrivals_at t lane.arrivals) (tick_at t lane.tick) i place at.coming at.found
