-- What is ready in the lane of a node is what may be taken at its site.
use Rattle.std.proofs.{Common.{◌≡◌, ℕ, zero, suc, ◌+◌, ◌-◌, ◌<◌, ◌≤◌, ◌==◌, ◌&&◌, Bool, true, false, Option, Some, None, List, [], ◌∷◌, ◌++◌, All, map, refl, sym, ap, ◌∙◌, arith}, lemmas.Bool.Decides.nat_tests, lemmas.List.{append-nil, map-append}, lemmas.List.Elements.{All-head, All-tail}}
use Rattle.std.specs.{Prelude.{option_map, unwrap_or}, List.{flat_map, range_with_len}}
use Rattle.rb_base.specs.{Counting.{count_if, numbers}, Nodes.{Side, other}, Sizes.Sizes}
use Rattle.rb_rules.specs.{Hearing.Coming, Slots.count_of, WorldStep.{Due, Site, Timed, arrivals_at, ready_at, tick_at, unless_any}, WorldStep.Pending.{Tick, Arrival}}
use Rattle.rb_queue.specs.{Waiting.{Held, Ready, comes, coming_at}, Waiting.{ready_at as ready_in, unless_any as unless_some, arrivals_at as arrivals_of, tick_at as tick_in}, Waiting.Ready.{Comes, Ticks}}
use Rattle.rb_queue.proofs.Sources.{arrivals_are, from_on, from_on-skip, from_on-split, from_on-suc, from_on-zero}
use Rattle.rb_world_agenda.specs.Holding.{HoldsSite, due_with}

-- Arrivals.

abbrev arrival_due : Side → ℕ → ℕ × Coming → Due
arrival_due me i c = record { side = me; node = i; pending = Arrival c.0 c.1 }

-- what is due from `n` sources, the first of which is `a`
arrivals_of_some : (me : Side) (i t : ℕ) (s : Site) (a n : ℕ)
    → map (arrival_due me i) (from_on t s.coming a n) ≡ flat_map (arrivals_at me i t s) (range_with_len a n)
arrivals_of_some me i t s a zero = ap (map (arrival_due me i)) (from_on-zero t s.coming a)
arrivals_of_some me i t s a (suc n) =
    ap (map (arrival_due me i)) (from_on-suc t s.coming a n)
    ∙ map-append (arrival_due me i) (coming_at t s.coming a) (from_on t s.coming (a + 1) n)
    ∙ ap (λ l. arrivals_at me i t s a ++ l) (arrivals_of_some me i t s (a + 1) n)

-- nothing comes from a source with a number from `top` on
none_past : (t j top : ℕ) → top ≤ j → (cs : List Coming) → All (λ c. c.from < top) cs → count_if (comes t j) cs ≡ 0
none_past t j top low [] all = refl
none_past t j top low (c ∷ cs) all =
    let small : c.from < top = All-head (λ c. c.from < top) c cs all in
    let none : ((c.from == j) && (c.time == t)) ≡ false = grind (arith, nat_tests) in
    rw none (omega (arith, none_past t j top low cs (All-tail (λ c. c.from < top) c cs all)))

few_sources : (t top : ℕ) (cs : List Coming) → top ≤ 256 → All (λ c. c.from < top) cs → arrivals_of t cs ≡ from_on t cs 0 top
few_sources t top cs h all =
    let e : 256 ≡ top + (256 - top) = omega arith in
    let f : 0 + top ≡ top = omega arith in
    let g : 256 - top ≡ (256 - top) + 0 = omega arith in
    let none : from_on t cs top (256 - top) ≡ [] =
    ap (from_on t cs top) g ∙ from_on-skip t cs top (256 - top) 0 (λ j low high. none_past t j top low cs all)
    ∙ from_on-zero t cs (top + (256 - top)) in
    arrivals_are t cs ∙ ap (from_on t cs 0) e ∙ from_on-split t cs 0 top (256 - top)
    ∙ ap (λ a. from_on t cs 0 top ++ from_on t cs a (256 - top)) f ∙ ap (λ l. from_on t cs 0 top ++ l) none
    ∙ append-nil (from_on t cs 0 top)

-- The tick.

the_tick : (me : Side) (i t : ℕ) (s : Site) (o : Option Timed) → s.ahead ≡ o
    → map (due_with me i s) (tick_in t (option_map (λ a. a.time) o)) ≡ tick_at me i t o
the_tick me i t s None is = refl
the_tick me i t s (Some a) is =
    let due : Due = record { side = me; node = i; pending = Tick a.tick } in
    let go : (b : Bool) → map (due_with me i s) (elim b as (λ _. List Ready) [ true ↦ Ticks ∷ [] | false ↦ [] ]) ≡ elim b as (λ _. List Due) [ true ↦ due ∷ [] | false ↦ [] ] =
    λ b. elim b as (λ b. map (due_with me i s) (elim b as (λ _. List Ready) [ true ↦ Ticks ∷ [] | false ↦ [] ]) ≡ elim b as (λ _. List Due) [ true ↦ due ∷ [] | false ↦ [] ]) [
      | true ↦ ap (λ (o : Option Timed). record { side = me; node = i; pending = Tick (unwrap_or (option_map (λ a. a.tick) o) 0) } ∷ []) is
      | false ↦ refl
    ] in
    go (a.time == t)

-- All together.

comes-due : (me : Side) (i : ℕ) (s : Site) (cs : List (ℕ × Coming)) → map (due_with me i s) (map (λ c. Comes c.0 c.1) cs) ≡ map (arrival_due me i) cs
comes-due me i s [] = refl
comes-due me i s (c ∷ cs) = ap (λ l. arrival_due me i c ∷ l) (comes-due me i s cs)

map-unless : (me : Side) (i : ℕ) (s : Site) (cs : List (ℕ × Coming)) (ticks : List Ready)
    → map (due_with me i s) (unless_some cs ticks) ≡ unless_any (map (arrival_due me i) cs) (map (due_with me i s) ticks)
map-unless me i s [] ticks = refl
map-unless me i s (c ∷ cs) ticks = comes-due me i s (c ∷ cs)

-- what is ready in a lane at a time is what may be taken at the site then
pub ready-is : (sizes : Sizes) (me : Side) (i t : ℕ) (lane : Held) (s : Site) → count_of (other me) sizes ≤ 256 → HoldsSite sizes me lane s
    → ready_at sizes t me i s ≡ map (due_with me i s) (ready_in t lane)
unfolding ready_at
ready-is sizes me i t lane s h holds =
    let top : ℕ = count_of (other me) sizes in
    let arrivals : map (arrival_due me i) (arrivals_of t lane.arrivals) ≡ flat_map (arrivals_at me i t s) (numbers top) =
    ap (λ cs. map (arrival_due me i) (arrivals_of t cs)) holds.coming ∙ ap (map (arrival_due me i)) (few_sources t top s.coming h holds.senders)
    ∙ arrivals_of_some me i t s 0 top in
    let ticks : map (due_with me i s) (tick_in t lane.tick) ≡ tick_at me i t s.ahead =
    ap (λ o. map (due_with me i s) (tick_in t o)) holds.ahead ∙ the_tick me i t s s.ahead refl in
    sym (map-unless me i s (arrivals_of t lane.arrivals) (tick_in t lane.tick) ∙ ap (λ l. unless_any l (map (due_with me i s) (tick_in t lane.tick))) arrivals
    ∙ ap (unless_any (flat_map (arrivals_at me i t s) (numbers top))) ticks)
