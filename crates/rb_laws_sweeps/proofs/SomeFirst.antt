-- As long as a record needs an event some tick is pending, and so one of them is the first.
use Rattle.std.proofs.{Common.{◌≡◌, ℕ, zero, suc, ◌<◌, ◌≤◌, ◌⊎◌, true, List, [], ◌∷◌, refl, ap, sym, ◌∙◌, subst, arith, inl, inr, Option, Some, None, slice_get}, lemmas.Bool.{cases_lt, ltb-true}, lemmas.Option.same_Some}
use Rattle.rb_base.specs.{Nodes.Side, Nodes.Side.{Biu, Rmu}}
use Rattle.rb_base.proofs.Plain.{true-false}
use Rattle.rb_rules.specs.{Book.of_kind, Lawful.IsLawful, WorldStep.{Site, Timed, World, world_after}}
use Rattle.rb_laws_events.proofs.{Behind.IsBehind, BreakOff.BreakStands, BreakRuns.{WaitsYet, waits-yet}, EventsHold.{any, keeps, nodes_at}, EveryWorld.AnyWorld, OneTake.{StandsInRounds, world-waits}, Progress.SomePends, WorldStands.{IsUp, sent_by}}
use Rattle.rb_laws_sweeps.specs.{AheadOf.{IsFirstTick, is_behind}, Laws.{NeedsEvent, SomeTickIsFirst}}
use Rattle.rb_laws_sweeps.proofs.{EachNode.first-back, GoesOn.{swept-ahead, sweep_to}}

none-some : {P : Type 0} {a : Timed} → None ≡ Some a → P
none-some {a} e = absurd (no a e)
  where
    no : (a : Timed) → None ≡ Some a → ⊥
    no a e = cc

some-pends : {sc : _} → IsLawful sc → {w : _} → AnyWorld sc (nodes_at sc) w → NeedsEvent sc w → SomePends w
some-pends {sc} lawful {w} (inl run) event =
    let h : StandsInRounds sc w = run.stands in
    let waits = world-waits h.stands event.going event.needs in
    let behind : IsBehind sc w.hands h.at w.sites waits.0 = waits.1.behind in
    let up : IsUp sc w.hands (sent_by sc w.hands h.at w.sites) h.now behind.me behind.i (h.at behind.me behind.i) behind.s = h.stands.sites.up behind.me behind.i behind.s behind.there behind.runs in
    record { me = behind.me; i = behind.i; s = behind.s; a = up.a; there = behind.there; pends = up.stands.receives.pends }
some-pends {sc} lawful {w} (inr (inl off)) event =
    let k : BreakStands sc (nodes_at sc) w.hands w.sites w.book = off.stands in
    let yet : WaitsYet sc w.hands k.b w.sites = waits-yet (nodes_at sc) (keeps lawful k.q k.off.small) k.off k.nodes k.open_still in
    record { me = yet.me; i = yet.i; s = yet.s; a = yet.waits.a; there = yet.there; pends = yet.waits.pends }
some-pends lawful (inr (inr over)) event = true-false (sym over.ended ∙ event.going)

-- Among the nodes of a kind.

record FirstIn (xs : List Site) : Type 0 where
  n : ℕ
  s : Site
  a : Timed
  there : slice_get xs n ≡ Some s
  pends : s.ahead ≡ Some a
  least : (m : ℕ) (y : Site) (b : Timed) → slice_get xs m ≡ Some y → y.ahead ≡ Some b → a.time ≤ b.time
  first : (m : ℕ) (y : Site) (b : Timed) → slice_get xs m ≡ Some y → y.ahead ≡ Some b → m < n → a.time < b.time

abbrev NonePends : List Site → Type 0
NonePends xs = (m : ℕ) (y : Site) → slice_get xs m ≡ Some y → y.ahead ≡ None

at-head : (x : Site) (xs : List Site) {a : _} → x.ahead ≡ Some a → ((m : ℕ) (y : Site) (b : Timed) → slice_get xs m ≡ Some y → y.ahead ≡ Some b → a.time ≤ b.time) → FirstIn (x ∷ xs)
at-head x xs {a} pends others = record { n = 0; s = x; a = a; there = refl; pends = pends; least = least; first = λ m y b there its lt. absurd (omega (arith, lt)) }
  where
    least : (m : ℕ) (y : Site) (b : Timed) → slice_get (x ∷ xs) m ≡ Some y → y.ahead ≡ Some b → a.time ≤ b.time
    least zero y b there its =
        let same : x ≡ y = same_Some x y there in
        let time : a ≡ b = same_Some a b (sym pends ∙ ap (λ (s : Site). s.ahead) same ∙ its) in
        subst (λ (b : Timed). a.time ≤ b.time) time (omega arith)
    least (suc m) y b there its = others m y b there its

in-tail : (x : Site) {xs : _} (r : FirstIn xs) → ((b : Timed) → x.ahead ≡ Some b → r.a.time < b.time) → FirstIn (x ∷ xs)
in-tail x {xs} r later = record { n = suc r.n; s = r.s; a = r.a; there = r.there; pends = r.pends; least = least; first = first }
  where
    head : (y : Site) (b : Timed) → slice_get (x ∷ xs) 0 ≡ Some y → y.ahead ≡ Some b → r.a.time < b.time
    head y b there its = let same : x ≡ y = same_Some x y there in later b (ap (λ (s : Site). s.ahead) same ∙ its)

    least : (m : ℕ) (y : Site) (b : Timed) → slice_get (x ∷ xs) m ≡ Some y → y.ahead ≡ Some b → r.a.time ≤ b.time
    least zero y b there its = let lt = head y b there its in omega (arith, lt)
    least (suc m) y b there its = r.least m y b there its

    first : (m : ℕ) (y : Site) (b : Timed) → slice_get (x ∷ xs) m ≡ Some y → y.ahead ≡ Some b → m < suc r.n → r.a.time < b.time
    first zero y b there its lt = head y b there its
    first (suc m) y b there its lt = r.first m y b there its (omega (arith, lt))

first-in : (xs : List Site) → NonePends xs ⊎ FirstIn xs
first-in [] = inl none
  where
    none : NonePends []
    none m y e = cc
first-in (x ∷ xs) = by x.ahead refl (first-in xs)
  where
    none-all : x.ahead ≡ None → NonePends xs → NonePends (x ∷ xs)
    none-all e none zero y there = ap (λ (s : Site). s.ahead) (sym (same_Some x y there)) ∙ e
    none-all e none (suc m) y there = none m y there

    by : (o : Option Timed) → x.ahead ≡ o → NonePends xs ⊎ FirstIn xs → NonePends (x ∷ xs) ⊎ FirstIn (x ∷ xs)
    by None e (inl none) = inl (none-all e none)
    by None e (inr r) = inr (in-tail x r (λ b its. none-some (sym e ∙ its)))
    by (Some a) e (inl none) = inr (at-head x xs e (λ m y b there its. none-some (sym (none m y there) ∙ its)))
    by (Some a) e (inr r) = elim (cases_lt r.a.time a.time) [
      | inl lt ↦ inr (in-tail x r (λ b its. subst (λ (b : Timed). r.a.time < b.time) (same_Some a b (sym e ∙ its)) lt))
      | inr ge ↦ inr (at-head x xs e (λ m y b there its. let low = r.least m y b there its in omega (arith, low, ge)))
    ]

-- Among all nodes.

abbrev SomeFirst : World → Type 0
SomeFirst w = (me : Side) × ((i : ℕ) × ((a : Timed) × IsFirstTick w me i a))

of-biu : (w : World) (r : FirstIn w.sites.bius) → ((m : ℕ) (y : Site) (b : Timed) → slice_get w.sites.rmus m ≡ Some y → y.ahead ≡ Some b → r.a.time ≤ b.time) → SomeFirst w
of-biu w r rmus = (Biu, (r.n, (r.a, record { node = r.s; there = r.there; pends = r.pends; least = least; first = first })))
  where
    least : (side : Side) (j : ℕ) (s : Site) (b : Timed) → slice_get (of_kind side w.sites) j ≡ Some s → s.ahead ≡ Some b → r.a.time ≤ b.time
    least Biu j s b there its = r.least j s b there its
    least Rmu j s b there its = rmus j s b there its

    first : (side : Side) (j : ℕ) (s : Site) (b : Timed) → slice_get (of_kind side w.sites) j ≡ Some s → s.ahead ≡ Some b → is_behind side j Biu r.n ≡ true → r.a.time < b.time
    first Biu j s b there its behind = r.first j s b there its (ltb-true j r.n behind)
    first Rmu j s b there its behind = cc

of-rmu : (w : World) (r : FirstIn w.sites.rmus) → ((m : ℕ) (y : Site) (b : Timed) → slice_get w.sites.bius m ≡ Some y → y.ahead ≡ Some b → r.a.time < b.time) → SomeFirst w
of-rmu w r bius = (Rmu, (r.n, (r.a, record { node = r.s; there = r.there; pends = r.pends; least = least; first = first })))
  where
    least : (side : Side) (j : ℕ) (s : Site) (b : Timed) → slice_get (of_kind side w.sites) j ≡ Some s → s.ahead ≡ Some b → r.a.time ≤ b.time
    least Biu j s b there its = let lt = bius j s b there its in omega (arith, lt)
    least Rmu j s b there its = r.least j s b there its

    first : (side : Side) (j : ℕ) (s : Site) (b : Timed) → slice_get (of_kind side w.sites) j ≡ Some s → s.ahead ≡ Some b → is_behind side j Rmu r.n ≡ true → r.a.time < b.time
    first Biu j s b there its behind = bius j s b there its
    first Rmu j s b there its behind = r.first j s b there its (ltb-true j r.n behind)

some-first : {w : _} → SomePends w → SomeFirst w
some-first {w} some = by (first-in w.sites.bius) (first-in w.sites.rmus)
  where
    never : (me : Side) (i : ℕ) → slice_get (of_kind me w.sites) i ≡ Some some.s → NonePends w.sites.bius → NonePends w.sites.rmus → SomeFirst w
    never Biu i there bius rmus = none-some (sym (bius i some.s there) ∙ some.pends)
    never Rmu i there bius rmus = none-some (sym (rmus i some.s there) ∙ some.pends)

    by : NonePends w.sites.bius ⊎ FirstIn w.sites.bius → NonePends w.sites.rmus ⊎ FirstIn w.sites.rmus → SomeFirst w
    by (inl bius) (inl rmus) = never some.me some.i some.there bius rmus
    by (inl bius) (inr r) = of-rmu w r (λ m y b there its. none-some (sym (bius m y there) ∙ its))
    by (inr r) (inl rmus) = of-biu w r (λ m y b there its. none-some (sym (rmus m y there) ∙ its))
    by (inr r) (inr q) = elim (cases_lt q.a.time r.a.time) [
      | inl lt ↦ of-rmu w q (λ m y b there its. let low = r.least m y b there its in omega (arith, low, lt))
      | inr ge ↦ of-biu w r (λ m y b there its. let low = q.least m y b there its in omega (arith, low, ge))
    ]

pub some-tick-is-first : SomeTickIsFirst
some-tick-is-first sc lawful choices until w is event =
    let x : World = world_after sc choices in
    let needs : NeedsEvent sc x = subst (NeedsEvent sc) (sym is) (record { going = event.going; needs = event.needs }) in
    let one : SomeFirst x = some-first (some-pends lawful (any lawful choices) needs) in
    (one.0, (one.1.0, (one.1.1.0, first-back (sweep_to sc until) w (ap (λ (x : World). x.sites) is) (swept-ahead sc until) one.1.1.1)))
