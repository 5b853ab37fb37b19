-- The first due event of a world: the first arrival, or the first tick.
use Rattle.std.proofs.{Common.{◌≡◌, ℕ, zero, suc, ◌+◌, ◌<◌, ◌≤◌, ◌==◌, ◌||◌, ◌⊎◌, Bool, true, false, List, [], ◌∷◌, ◌++◌, append_assoc, flat_map, refl, ap, sym, ◌∙◌, subst, arith, inl, inr, Option, Some, None, slice_get}, lemmas.Bool.{cases_lt, eq-eqb, ltb-true}, lemmas.Bool.Decides.nat_tests, lemmas.Option.same_Some}
use Rattle.rb_base.specs.{Nodes.Side, Nodes.Side.{Biu, Rmu}}
use Rattle.rb_base.proofs.Plain.{append-none}
use Rattle.rb_rules.specs.{Book.{in_order, map_from, of_kind}, Goodness.Scenario, WorldStep.{Due, Site, Timed, World, due_at, due_of, least, needs_no_event, ready_at, tick_at, times_of}, WorldStep.Pending.{Arrival, Tick}}
use Rattle.rb_laws_events.proofs.{DueEvents.{every-weaker, least-of, some-due}, NodeEvents.{all-after, tick-after}, OneEvent.all-pend, Progress.some-time, SameHeard.Every, WorldStands.AllPend, Behind.pend-of}
use Rattle.rb_laws_sweeps.specs.{AheadOf.{IsFirstTick, is_behind, until_tick}, Laws.NeedsEvent, Sweeping.{Placed, first_of}}
use Rattle.rb_laws_sweeps.proofs.{EachNode.{nodes-order, until-behind, until-not}, OpenWorlds.Goes, ReadyFirst.{Begins, FirstMade, ReadyFirst, first-made, head-same, ready-first}}

-- Lists.

flat-append : {X Y : Type 0} (f : X → List Y) (xs ys : List X) → flat_map f (xs ++ ys) ≡ flat_map f xs ++ flat_map f ys
flat-append f [] ys = refl
flat-append f (x ∷ xs) ys = ap (λ l. f x ++ l) (flat-append f xs ys) ∙ sym (append_assoc (f x) (flat_map f xs) (flat_map f ys))

made-none : {X Y : Type 0} (k : ℕ) (make : ℕ → X → List Y) (xs : List X) → flat_map (λ l. l) (map_from k make xs) ≡ [] → (m : ℕ) {y : X} → slice_get xs m ≡ Some y → make (k + m) y ≡ []
made-none k make [] none m there = cc
made-none k make (x ∷ xs) none zero {y} there =
    let z : k + 0 ≡ k = omega arith in
    let same : x ≡ y = same_Some x y there in
    ap (make (k + 0)) (sym same) ∙ ap (λ m. make m x) z ∙ (append-none (make k x) (flat_map (λ l. l) (map_from (k + 1) make xs)) none).0
made-none k make (x ∷ xs) none (suc m) {y} there =
    let s : k + suc m ≡ k + 1 + m = omega arith in
    ap (λ n. make n y) s ∙ made-none (k + 1) make xs (append-none (make k x) (flat_map (λ l. l) (map_from (k + 1) make xs)) none).1 m there

-- The first node that has something ready.

pub record FirstDue (sc : Scenario) (w : World) (t : ℕ) (d : Due) : Type 0 where
  pub side : Side
  pub j : ℕ
  pub s : Site
  pub there : slice_get (of_kind side w.sites) j ≡ Some s
  pub is : Begins d (ready_at sc.sizes t side j s)
  pub before : (you : Side) (n : ℕ) (z : Site) → slice_get (of_kind you w.sites) n ≡ Some z → is_behind you n side j ≡ true → ready_at sc.sizes t you n z ≡ []

first-due : (sc : Scenario) (w : World) (t : ℕ) {d : _} → Begins d (due_at sc w (Some t)) → FirstDue sc w t d
first-due sc w t {d} is = by (flat_map (λ l. l) bius) refl (is.0, sym (flat-append (λ l. l) bius rmus) ∙ is.1)
  where
    ready : Side → ℕ → Site → List Due
    ready = ready_at sc.sizes t

    bius : List (List Due)
    bius = map_from 0 (ready Biu) w.sites.bius

    rmus : List (List Due)
    rmus = map_from 0 (ready Rmu) w.sites.rmus

    by : (l : List Due) → flat_map (λ l. l) bius ≡ l → Begins d (flat_map (λ l. l) bius ++ flat_map (λ l. l) rmus) → FirstDue sc w t d
    by (y ∷ ys) e is =
        let head : y ≡ d = head-same y d (ys ++ flat_map (λ l. l) rmus) is.0 (ap (λ l. l ++ flat_map (λ l. l) rmus) (sym e) ∙ is.1) in
        let r : FirstMade 0 (ready Biu) w.sites.bius d = first-made 0 (ready Biu) w.sites.bius (ys, e ∙ ap (λ y. y ∷ ys) head) in
        let z : 0 + r.n ≡ r.n = omega arith in
        record {
          side = Biu;
          j = r.n;
          s = r.x;
          there = r.there;
          is = subst (λ k. Begins d (ready Biu k r.x)) z r.is;
          before = before r;
        }
      where
        before : (r : FirstMade 0 (ready Biu) w.sites.bius d) (you : Side) (n : ℕ) (z : Site) → slice_get (of_kind you w.sites) n ≡ Some z → is_behind you n Biu r.n ≡ true → ready you n z ≡ []
        before r Biu n z there behind = let o : 0 + n ≡ n = omega arith in ap (λ k. ready Biu k z) (sym o) ∙ r.before n z (ltb-true n r.n behind) there
        before r Rmu n z there behind = cc
    by [] e is =
        let rest : Begins d (flat_map (λ l. l) rmus) = (is.0, ap (λ l. l ++ flat_map (λ l. l) rmus) (sym e) ∙ is.1) in
        let r : FirstMade 0 (ready Rmu) w.sites.rmus d = first-made 0 (ready Rmu) w.sites.rmus rest in
        let z : 0 + r.n ≡ r.n = omega arith in
        record {
          side = Rmu;
          j = r.n;
          s = r.x;
          there = r.there;
          is = subst (λ k. Begins d (ready Rmu k r.x)) z r.is;
          before = before r;
        }
      where
        before : (r : FirstMade 0 (ready Rmu) w.sites.rmus d) (you : Side) (n : ℕ) (z : Site) → slice_get (of_kind you w.sites) n ≡ Some z → is_behind you n Rmu r.n ≡ true → ready you n z ≡ []
        before r Biu n z there behind = let o : 0 + n ≡ n = omega arith in ap (λ k. ready Biu k z) (sym o) ∙ made-none 0 (ready Biu) w.sites.bius e n there
        before r Rmu n z there behind = let o : 0 + n ≡ n = omega arith in ap (λ k. ready Rmu k z) (sym o) ∙ r.before n z (ltb-true n r.n behind) there

-- What is due.

due-is-at : {sc w t : _} → NeedsEvent sc w → least (flat_map times_of (in_order w.sites)) ≡ Some t → due_of sc w ≡ due_at sc w (Some t)
unfolding due_of
due-is-at {sc} {w} event e =
    ap (λ b. elim (b || needs_no_event sc w.book.upcoming) as (λ _. List Due) [ true ↦ [] | false ↦ due_at sc w (least (flat_map times_of (in_order w.sites))) ]) event.going
    ∙ ap (λ b. elim b as (λ _. List Due) [ true ↦ [] | false ↦ due_at sc w (least (flat_map times_of (in_order w.sites))) ]) event.needs
    ∙ ap (due_at sc w) e

pub record WhatIsDue (sc : Scenario) (w : World) : Type 0 where
  pub d : Due
  pub is : Begins d (due_of sc w)
  pub t : ℕ
  pub pend : AllPend t w.sites
  pub due : FirstDue sc w t d

pub what-is-due : {sc w : _} → Goes sc w → (me : Side) (i : ℕ) {s a : _} → slice_get (of_kind me w.sites) i ≡ Some s → s.ahead ≡ Some a → WhatIsDue sc w
what-is-due {sc} {w} h me i there pends = by (due_of sc w) refl
  where
    time : (t : ℕ) × (least (flat_map times_of (in_order w.sites)) ≡ Some t)
    time = some-time w me i there pends

    goes : (w.book.ended || needs_no_event sc w.book.upcoming) ≡ false
    goes = ap (λ b. b || needs_no_event sc w.book.upcoming) h.event.going ∙ h.event.needs

    by : (ds : List Due) → due_of sc w ≡ ds → WhatIsDue sc w
    by [] e = absurd (some-due (record { known = h.known.known }) goes time.1 e)
    by (d ∷ ds) e = record {
      d = d;
      is = (ds, e);
      t = time.0;
      pend = all-pend w time.0 (least-of (flat_map times_of (in_order w.sites)) time.0 time.1);
      due = first-due sc w time.0 (ds, sym (due-is-at h.event time.1) ∙ e);
    }

-- The first due event.

-- `d` is the first arrival at a node, and comes before the time up to which the node is swept
pub record ArrivalDue (w : World) (me : Side) (i : ℕ) (a : Timed) (d : Due) : Type 0 where
  pub side : Side
  pub j : ℕ
  pub s : Site
  pub there : slice_get (of_kind side w.sites) j ≡ Some s
  pub p : Placed
  pub first : first_of s.coming ≡ Some p
  pub early : p.coming.time < until_tick me i a.time side j
  pub is : d ≡ record { side = side; node = j; pending = Arrival p.place p.coming }

-- `d` is the first tick, and all that is pending comes later
pub record TickDue (w : World) (me : Side) (i : ℕ) (a : Timed) (d : Due) : Type 0 where
  pub is : d ≡ record { side = me; node = i; pending = Tick a.tick }
  pub late : (you : Side) (n : ℕ) (z : Site) → slice_get (of_kind you w.sites) n ≡ Some z → Every (λ c. until_tick me i a.time you n ≤ c.time) z.coming

none-begins : {X P : Type 0} (d : X) (rest : List X) → [] ≡ d ∷ rest → P
none-begins d rest e = absurd (no d rest e)
  where
    no : {X : Type 0} (d : X) (rest : List X) → [] ≡ d ∷ rest → ⊥
    no d rest e = cc

-- a tick at time `t` is among what is ready at that time
tick-there : {P : Type 0} (me : Side) (i : ℕ) {t : ℕ} {o : Option Timed} {a : Timed} → o ≡ Some a → a.time ≡ t → tick_at me i t o ≡ [] → P
tick-there me i {t} {a} e time none =
    none-begins (record { side = me; node = i; pending = Tick a.tick }) []
    (sym none ∙ ap (tick_at me i t) e
    ∙ ap (λ b. elim b as (λ _. List Due) [ true ↦ record { side = me; node = i; pending = Tick a.tick } ∷ [] | false ↦ [] ]) (eq-eqb a.time t time))

tick-is : (me : Side) (i t : ℕ) (o : Option Timed) {d : _} → Begins d (tick_at me i t o) → (b : Timed) × ((o ≡ Some b) × ((b.time ≡ t) × (d ≡ record { side = me; node = i; pending = Tick b.tick })))
tick-is me i t None {d} is = none-begins d is.0 is.1
tick-is me i t (Some b) {d} is = by (b.time == t) refl is
  where
    by : (c : Bool) → (b.time == t) ≡ c → Begins d (elim c as (λ _. List Due) [ true ↦ record { side = me; node = i; pending = Tick b.tick } ∷ [] | false ↦ [] ])
        → (b2 : Timed) × ((Some b ≡ Some b2) × ((b2.time ≡ t) × (d ≡ record { side = me; node = i; pending = Tick b2.tick })))
    by true e is = (b, (refl, (same b.time t e, sym (head-same (record { side = me; node = i; pending = Tick b.tick }) d [] is.0 is.1))))
      where
        same : (x y : ℕ) → (x == y) ≡ true → x ≡ y
        same x y e = grind (arith, nat_tests)
    by false e is = none-begins d is.0 is.1

pub which-due : {sc w : _} → Goes sc w → {me i a : _} → (first : IsFirstTick w me i a) → (it : WhatIsDue sc w) → ArrivalDue w me i a it.d ⊎ TickDue w me i a it.d
which-due {sc} {w} h {me} {i} {a} first it = by (ready it.due.side it.due.j it.due.s it.due.there)
  where
    t : ℕ
    t = it.t

    coming : (you : Side) (n : ℕ) (z : Site) → slice_get (of_kind you w.sites) n ≡ Some z → Every (λ c. t ≤ c.time) z.coming
    coming you n z there = all-after t z.ahead z.coming (pend-of t w.sites it.pend you n z there)

    ready : (you : Side) (n : ℕ) (z : Site) → slice_get (of_kind you w.sites) n ≡ Some z → ReadyFirst sc.sizes t you n z
    ready you n z there = ready-first sc.sizes t n z (h.known.known you n z there) (coming you n z there)

    -- if nothing is ready at a node, its arrivals and its tick come later
    none-ready : (you : Side) (n : ℕ) (z : Site) → slice_get (of_kind you w.sites) n ≡ Some z → ready_at sc.sizes t you n z ≡ []
        → Every (λ c. t + 1 ≤ c.time) z.coming × (tick_at you n t z.ahead ≡ [])
    none-ready you n z there none = elim (ready you n z there) [
      | inl one ↦ none-begins _ one.1.1.1.0 (sym none ∙ one.1.1.1.1)
      | inr later ↦ (later.0, sym later.1 ∙ none)
    ]

    low : t ≤ a.time
    low = tick-after t first.node.ahead first.node.coming first.pends (pend-of t w.sites it.pend me i first.node first.there)

    -- if the tick's node is behind that of the first due event, the tick is later
    tick-later : is_behind me i it.due.side it.due.j ≡ true → t < a.time
    tick-later behind = elim (cases_lt t a.time) [
      | inl lt ↦ lt
      | inr ge ↦
          let none = none-ready me i first.node first.there (it.due.before me i first.node first.there behind) in
          tick-there me i first.pends (omega (arith, low, ge)) none.1
    ]

    arrives : (b : Bool) → is_behind me i it.due.side it.due.j ≡ b → t < until_tick me i a.time it.due.side it.due.j
    arrives true e = let lt = tick-later e in let is = until-behind me it.due.side i it.due.j a.time e in omega (arith, lt, is)
    arrives false e = let is = until-not me it.due.side i it.due.j a.time e in omega (arith, low, is)

    ticks : Every (λ c. t + 1 ≤ c.time) it.due.s.coming
        → ((b : Timed) × ((it.due.s.ahead ≡ Some b) × ((b.time ≡ t) × (it.d ≡ record { side = it.due.side; node = it.due.j; pending = Tick b.tick })))) → TickDue w me i a it.d
    ticks later tick =
        let b : Timed = tick.0 in
        let le : a.time ≤ b.time = first.least it.due.side it.due.j it.due.s b it.due.there tick.1.0 in
        let at_time : b.time ≡ t = tick.1.1.0 in
        let same_time : a.time ≡ t = omega (arith, low, le, at_time) in
        elim (nodes-order me it.due.side i it.due.j) [
          | inl behind ↦ let lt = tick-later behind in absurd (omega (arith, lt, same_time))
          | inr others ↦ elim others [
            | inl before ↦ let lt = first.first it.due.side it.due.j it.due.s b it.due.there tick.1.0 before in absurd (omega (arith, lt, same_time, at_time))
            | inr same ↦ record { is = itself same tick.1.0 tick.1.1.1; late = late same same_time }
          ]
        ]
      where
        itself : (me ≡ it.due.side) × (i ≡ it.due.j) → it.due.s.ahead ≡ Some tick.0 → it.d ≡ record { side = it.due.side; node = it.due.j; pending = Tick tick.0.tick }
            → it.d ≡ record { side = me; node = i; pending = Tick a.tick }
        itself same pends is =
            let there : slice_get (of_kind me w.sites) i ≡ Some it.due.s = ap (λ side. slice_get (of_kind side w.sites) i) same.0 ∙ ap (slice_get (of_kind it.due.side w.sites)) same.1 ∙ it.due.there in
            let node : it.due.s ≡ first.node = same_Some it.due.s first.node (sym there ∙ first.there) in
            let tick_is : tick.0 ≡ a = same_Some tick.0 a (sym pends ∙ ap (λ (s : Site). s.ahead) node ∙ first.pends) in
            is ∙ ap (λ (b : Timed). record { side = it.due.side; node = it.due.j; pending = Tick b.tick }) tick_is
            ∙ ap (λ side. record { side = side; node = it.due.j; pending = Tick a.tick }) (sym same.0)
            ∙ ap (λ n. record { side = me; node = n; pending = Tick a.tick }) (sym same.1)

        late : (me ≡ it.due.side) × (i ≡ it.due.j) → a.time ≡ t → (you : Side) (n : ℕ) (z : Site) → slice_get (of_kind you w.sites) n ≡ Some z
            → Every (λ c. until_tick me i a.time you n ≤ c.time) z.coming
        late same time you n z there = elim (nodes-order me you i n) [
          | inl behind ↦
              let is = until-behind me you i n a.time behind in
              every-weaker (λ c. t ≤ c.time) (λ c. until_tick me i a.time you n ≤ c.time) (λ c le. omega (arith, is, time, le)) z.coming (coming you n z there)
          | inr others ↦ elim others [
            | inl before ↦
                let behind : is_behind you n it.due.side it.due.j ≡ true = ap (λ k. is_behind you n it.due.side k) (sym same.1) ∙ ap (λ side. is_behind you n side i) (sym same.0) ∙ before in
                from-later you n z (none-ready you n z there (it.due.before you n z there behind)).0
            | inr its ↦
                let here : slice_get (of_kind it.due.side w.sites) it.due.j ≡ Some z =
                ap (slice_get (of_kind it.due.side w.sites)) (sym same.1 ∙ its.1) ∙ ap (λ side. slice_get (of_kind side w.sites) n) (sym same.0 ∙ its.0) ∙ there in
                let node : it.due.s ≡ z = same_Some it.due.s z (sym it.due.there ∙ here) in
                from-later you n z (subst (λ (s : Site). Every (λ c. t + 1 ≤ c.time) s.coming) node later)
          ]
        ]
          where
            from-later : (you : Side) (n : ℕ) (z : Site) → Every (λ c. t + 1 ≤ c.time) z.coming → Every (λ c. until_tick me i a.time you n ≤ c.time) z.coming
            from-later you n z all =
                let most = until-up you n in
                every-weaker (λ c. t + 1 ≤ c.time) (λ c. until_tick me i a.time you n ≤ c.time) (λ c le. omega (arith, most, time, le)) z.coming all
              where
                until-up : (you : Side) (n : ℕ) → until_tick me i a.time you n ≤ a.time + 1
                until-up you n = by (is_behind me i you n) refl
                  where
                    by : (b : Bool) → is_behind me i you n ≡ b → until_tick me i a.time you n ≤ a.time + 1
                    by true e = let is = until-behind me you i n a.time e in omega (arith, is)
                    by false e = let is = until-not me you i n a.time e in omega (arith, is)

    by : ReadyFirst sc.sizes t it.due.side it.due.j it.due.s → ArrivalDue w me i a it.d ⊎ TickDue w me i a it.d
    by (inl one) =
        let p : Placed = one.0 in
        let time : p.coming.time ≡ t = one.1.1.0 in
        let lt : t < until_tick me i a.time it.due.side it.due.j = arrives (is_behind me i it.due.side it.due.j) refl in
        inl (record {
          side = it.due.side;
          j = it.due.j;
          s = it.due.s;
          there = it.due.there;
          p = p;
          first = one.1.0;
          early = omega (arith, time, lt);
          is = head-same it.d (record { side = it.due.side; node = it.due.j; pending = Arrival p.place p.coming }) it.due.is.0 one.1.1.1.0 (sym it.due.is.1 ∙ one.1.1.1.1);
        })
    by (inr later) =
        inr (ticks later.0 (tick-is it.due.side it.due.j t it.due.s.ahead (it.due.is.0, sym later.1 ∙ it.due.is.1)))
