-- Takes of arrivals lead to the first tick.
use Rattle.std.proofs.{Common.{◌≡◌, ℕ, zero, suc, ◌+◌, ◌<◌, ◌≤◌, Bool, true, false, [], ◌∷◌, ◌++◌, refl, ap, sym, ◌∙◌, subst, arith, inl, inr, Some, None, option_map, slice_get, if◌then◌else◌}, lemmas.Option.same_Some}
use Rattle.rb_base.specs.Nodes.{Side}
use Rattle.rb_rules.specs.{Book.{Each, of_kind}, Goodness.Scenario, Hearing.Coming, Links.{name_of, same_node}, WorldStep.{Due, Site, Timed, World, after_arrival, at_node, due_of, event_of, take}, WorldStep.Choice.Take, WorldStep.Pending.Arrival}
use Rattle.rb_laws_events.specs.Laws.{most_at_once}
use Rattle.rb_laws_events.proofs.{Takes.{all_left, arrival-left, one-less}, WorldNodes.{NodesKnown, choose-known}, WorldStands.{get-at, is_node, node-is}, EachAlike.each-alike}
use Rattle.rb_laws_sweeps.specs.{AheadOf.{ArrivalIsFirst, IsFirstTick, LeadsToTick, after_takes, ahead_of, each_swept, told_in, until_tick}, Laws.TakesLeadToTheFirstTick, Sweeping.{Placed, first_of, swept}, Told.{heard, told_next}}
use Rattle.rb_laws_sweeps.proofs.{DueFirst.{ArrivalDue, TickDue, WhatIsDue, what-is-due, which-due}, EachNode.{KeepsAhead, each-itself, first-changed}, Firsts.first-stands, Hearing.{hears-first, hears-none}, OpenWorlds.{Goes, after_one, arrival-still, arrival-told, goes-reached}, Settles.{complete-same, each-fuse}, Sweeps.{sweep-stays, sweep-takes}, Telling.{named-itself, same-named, takes-shift, told-one, told-shift}}

-- the site of node `n` after node `i` has taken the arrival
abbrev pub arrives_at : Scenario → Side → ℕ → ℕ → Coming → Side → ℕ → Site → Site
arrives_at sc me i place c side n s = elim (is_node me i side n) as (λ _. Site) [ true ↦ after_arrival sc me i place c s | false ↦ s ]

arrival-ahead : (sc : Scenario) (me : Side) (i place : ℕ) (c : Coming) → KeepsAhead (arrives_at sc me i place c)
unfolding after_arrival
arrival-ahead sc me i place c side j s = by (is_node me i side j)
  where
    by : (b : Bool) → (elim b as (λ _. Site) [ true ↦ after_arrival sc me i place c s | false ↦ s ]).ahead ≡ s.ahead
    by true = refl
    by false = refl

-- One arrival.

arrives-goes : {sc w : _} (me : Side) (i place : ℕ) (c : Coming) → take sc w 0 ≡ after_one sc me i place c w → Goes sc w → Goes sc (after_one sc me i place c w)
arrives-goes {sc} {w} me i place c is h = record {
  event = record { going = h.event.going; needs = h.event.needs };
  open_still = complete-same sc w.sites w.book.upcoming (arrival-told sc me i place c) ∙ h.open_still;
  known = subst (λ (x : World). NodesKnown sc x.sites) is (choose-known w (Take 0) h.known);
}

-- the nodes are swept to the same
arrives-swept : (sc : Scenario) (until : Side → ℕ → ℕ) (sites : Each Site) (me : Side) (i : ℕ) {s : _} (p : Placed) → slice_get (of_kind me sites) i ≡ Some s
    → swept sc me i (until me i) s ≡ swept sc me i (until me i) (after_arrival sc me i p.place p.coming s)
    → each_swept sc until (at_node me i (after_arrival sc me i p.place p.coming) sites) ≡ each_swept sc until sites
arrives-swept sc until sites me i {s} p there step =
    let f : Side → ℕ → Site → Site = λ side n x. swept sc side n (until side n) x in
    let g : Side → ℕ → Site → Site = arrives_at sc me i p.place p.coming in
    each-fuse f g (λ side n x. f side n (g side n x)) sites (λ side n x. refl)
    ∙ each-alike (λ side n x. f side n (g side n x)) f sites (λ side n x here. by side n x here (is_node me i side n) refl)
  where
    change : Site → Site
    change = after_arrival sc me i p.place p.coming

    by : (side : Side) (n : ℕ) (x : Site) → slice_get (of_kind side sites) n ≡ Some x → (b : Bool) → is_node me i side n ≡ b
        → swept sc side n (until side n) (elim b as (λ _. Site) [ true ↦ change x | false ↦ x ]) ≡ swept sc side n (until side n) x
    by side n x here false e = refl
    by side n x here true e =
        let is = node-is me side i n e in
        let its : slice_get (of_kind me sites) i ≡ Some x = sym (ap (λ k. slice_get (of_kind k sites) n) is.0 ∙ ap (slice_get (of_kind me sites)) is.1) ∙ here in
        let same : s ≡ x = same_Some s x (sym there ∙ its) in
        subst (λ x. swept sc side n (until side n) (change x) ≡ swept sc side n (until side n) x) same
        (subst (λ k. swept sc k n (until k n) (change s) ≡ swept sc k n (until k n) s) (sym is.0)
        (subst (λ m. swept sc me m (until me m) (change s) ≡ swept sc me m (until me m) s) (sym is.1) (sym step)))

-- what a node hears before a take is what the take tells it, and then what it hears after the take
abbrev pub TellsOne : Scenario → (Side → ℕ → ℕ) → World → World → Type 0
TellsOne sc until w x =
    (side : Side) (j : ℕ) (s : Site) → slice_get (of_kind side w.sites) j ≡ Some s
    → (z : Site) × ((slice_get (of_kind side x.sites) j ≡ Some z) × (heard sc side j (until side j) s ≡ told_next sc side j w ++ heard sc side j (until side j) z))

arrives-told : (sc : Scenario) (until : Side → ℕ → ℕ) (w : World) (me : Side) (i : ℕ) {s p : _} → slice_get (of_kind me w.sites) i ≡ Some s
    → first_of s.coming ≡ Some p → p.coming.time < until me i → slice_get (due_of sc w) 0 ≡ Some (record { side = me; node = i; pending = Arrival p.place p.coming })
    → TellsOne sc until w (after_one sc me i p.place p.coming w)
arrives-told sc until w me i {s} {p} there first early due side j x here =
    (arrives_at sc me i p.place p.coming side j x, (get-at me side i j change w.sites ∙ ap (option_map (arrives_at sc me i p.place p.coming side j)) here, by x here (is_node me i side j) refl))
  where
    d : Due
    d = record { side = me; node = i; pending = Arrival p.place p.coming }

    change : Site → Site
    change = after_arrival sc me i p.place p.coming

    tells : (x : Site) → slice_get (of_kind side w.sites) j ≡ Some x → (b : Bool) → same_node (name_of me i) (name_of side j) ≡ b
        → told_next sc side j w ≡ (if b then (record { frame = x.core.state.frame; event = event_of sc w.ports me i s.core d.pending }) ∷ [] else [])
    tells x here b e =
        told-one sc w due there side j here
        ∙ ap (λ b. if b then (record { frame = x.core.state.frame; event = event_of sc w.ports me i s.core d.pending }) ∷ [] else []) e

    own : heard sc me i (until me i) s ≡ told_next sc me i w ++ heard sc me i (until me i) (change s)
    own =
        hears-first sc me i (until me i) s p first early
        ∙ ap (λ l. l ++ heard sc me i (until me i) (change s))
        (sym (told-one sc w due there me i there
        ∙ ap (λ b. if b then (record { frame = s.core.state.frame; event = event_of sc w.ports me i s.core d.pending }) ∷ [] else []) (named-itself me i)))

    by : (x : Site) → slice_get (of_kind side w.sites) j ≡ Some x → (b : Bool) → is_node me i side j ≡ b
        → heard sc side j (until side j) x ≡ told_next sc side j w ++ heard sc side j (until side j) (elim b as (λ _. Site) [ true ↦ change x | false ↦ x ])
    by x here false e = ap (λ l. l ++ heard sc side j (until side j) x) (sym (tells x here false (same-named me side i j ∙ e)))
    by x here true e =
        let is = node-is me side i j e in
        let its : slice_get (of_kind me w.sites) i ≡ Some x = sym (ap (λ k. slice_get (of_kind k w.sites) j) is.0 ∙ ap (slice_get (of_kind me w.sites)) is.1) ∙ here in
        let same : s ≡ x = same_Some s x (sym there ∙ its) in
        subst (λ x. heard sc side j (until side j) x ≡ told_next sc side j w ++ heard sc side j (until side j) (change x)) same
        (subst (λ k. heard sc k j (until k j) s ≡ told_next sc k j w ++ heard sc k j (until k j) (change s)) (sym is.0)
        (subst (λ m. heard sc me m (until me m) s ≡ told_next sc me m w ++ heard sc me m (until me m) (change s)) (sym is.1) own))

-- All arrivals up to the tick.

leads-here : {sc w me i a : _} (it : WhatIsDue sc w) → TickDue w me i a it.d → LeadsToTick sc w me i a
unfolding after_takes told_in
leads-here {sc} {w} {me} {i} {a} it tick =
    let until : Side → ℕ → ℕ = until_tick me i a.time in
    let same : each_swept sc until w.sites ≡ w.sites =
    each-alike (λ side n x. swept sc side n (until side n) x) (λ side n x. x) w.sites (λ side n x there. sweep-stays sc side n (until side n) x (tick.late side n x there))
    ∙ each-itself w.sites in
    record {
      takes = 0;
      arrivals = λ n lt. absurd (omega (arith, lt));
      quiet = λ n some le. absurd (omega (arith, some, le));
      world = ap (λ sites. record w { sites = sites }) (sym same);
      tick = ap (λ ds. slice_get ds 0) it.is.1 ∙ ap Some tick.is;
      told = λ side j s there. sym (hears-none sc side j (until side j) s (tick.late side j s there));
    }

leads-on : {sc : Scenario} {w x : World} {me : Side} {i : ℕ} {a : Timed} → take sc w 0 ≡ x → ArrivalIsFirst sc w → x.turn ≡ None
    → record (ahead_of sc (until_tick me i a.time) x) { turn = None } ≡ record (ahead_of sc (until_tick me i a.time) w) { turn = None }
    → TellsOne sc (until_tick me i a.time) w x → LeadsToTick sc x me i a → LeadsToTick sc w me i a
unfolding after_takes
leads-on {sc} {w} {x} {me} {i} {a} is arrival silent same tells l = record {
  takes = suc l.takes;
  arrivals = arrivals;
  quiet = quiet;
  world = go l.takes ∙ l.world ∙ ap (λ (y : World). record y { turn = (after_takes sc l.takes x).turn }) same
      ∙ ap (λ (y : World). record (ahead_of sc (until_tick me i a.time) w) { turn = y.turn }) (sym (go l.takes));
  tick = ap (λ y. slice_get (due_of sc y) 0) (go l.takes) ∙ l.tick;
  told = told;
}
  where
    go : (n : ℕ) → after_takes sc (suc n) w ≡ after_takes sc n x
    go n = takes-shift sc n w ∙ ap (after_takes sc n) is

    told : (side : Side) (j : ℕ) (s : Site) → slice_get (of_kind side w.sites) j ≡ Some s → told_in sc side j (suc l.takes) w ≡ heard sc side j (until_tick me i a.time side j) s
    told side j s there =
        let one = tells side j s there in
        told-shift sc side j l.takes w ∙ ap (λ y. told_next sc side j w ++ told_in sc side j l.takes y) is
        ∙ ap (λ ts. told_next sc side j w ++ ts) (l.told side j one.0 one.1.0) ∙ sym one.1.1

    arrivals : (n : ℕ) → n < suc l.takes → ArrivalIsFirst sc (after_takes sc n w)
    arrivals zero lt = arrival
    arrivals (suc n) lt = subst (ArrivalIsFirst sc) (sym (go n)) (l.arrivals n (omega (arith, lt)))

    quiet : (n : ℕ) → 1 ≤ n → n ≤ suc l.takes → (after_takes sc n w).turn ≡ None
    quiet zero some le = absurd (omega (arith, some))
    quiet (suc zero) some le = ap (λ (y : World). y.turn) (go 0) ∙ silent
    quiet (suc (suc n)) some le = ap (λ (y : World). y.turn) (go (suc n)) ∙ l.quiet (suc n) (omega arith) (omega (arith, le))

-- a world after an arrival that is due first
record AfterArrival (sc : Scenario) (w : World) (me : Side) (i : ℕ) (a : Timed) : Type 0 where
  x : World
  is : take sc w 0 ≡ x
  arrival : ArrivalIsFirst sc w
  silent : x.turn ≡ None
  same : record (ahead_of sc (until_tick me i a.time) x) { turn = None } ≡ record (ahead_of sc (until_tick me i a.time) w) { turn = None }
  tells : TellsOne sc (until_tick me i a.time) w x
  goes : Goes sc x
  first : IsFirstTick x me i a
  less : all_left (most_at_once sc) x.sites + 1 ≤ all_left (most_at_once sc) w.sites

after-arrival : {sc w : _} → Goes sc w → {me i a : _} → IsFirstTick w me i a → (it : WhatIsDue sc w) → ArrivalDue w me i a it.d → AfterArrival sc w me i a
after-arrival {sc} {w} h {me} {i} {a} first it r =
    let due : slice_get (due_of sc w) 0 ≡ Some (record { side = r.side; node = r.j; pending = Arrival r.p.place r.p.coming }) = ap (λ ds. slice_get ds 0) it.is.1 ∙ ap Some r.is in
    let x : World = after_one sc r.side r.j r.p.place r.p.coming w in
    let is : take sc w 0 ≡ x = arrival-still h 0 r.side r.j r.p.place r.p.coming due in
    record {
      x = x;
      is = is;
      arrival = record { side = r.side; node = r.j; place = r.p.place; coming = r.p.coming; is = due };
      silent = refl;
      same = ap (λ sites. record w { sites = sites; turn = None })
          (arrives-swept sc (until_tick me i a.time) w.sites r.side r.j r.p r.there (sweep-takes sc r.side r.j (until_tick me i a.time r.side r.j) r.s r.p r.first r.early));
      tells = arrives-told sc (until_tick me i a.time) w r.side r.j r.there r.first r.early due;
      goes = arrives-goes r.side r.j r.p.place r.p.coming is h;
      first = first-changed (arrives_at sc r.side r.j r.p.place r.p.coming) x refl (arrival-ahead sc r.side r.j r.p.place r.p.coming) first;
      less = one-less (most_at_once sc) (after_arrival sc r.side r.j r.p.place r.p.coming) r.side r.j 1 w.sites r.there
          (arrival-left (most_at_once sc) sc r.side r.j r.p.place r.p.coming r.s (first-stands r.s.coming r.p r.first));
    }

leads-by : {sc me i a : _} (m : ℕ) {w : _} → Goes sc w → IsFirstTick w me i a → all_left (most_at_once sc) w.sites ≤ m → LeadsToTick sc w me i a
leads-by {sc} {me} {i} zero {w} h first few =
    let it : WhatIsDue sc w = what-is-due h me i first.there first.pends in
    elim (which-due h first it) [
      | inl arrival ↦ let less = (after-arrival h first it arrival).less in absurd (omega (arith, few, less))
      | inr tick ↦ leads-here it tick
    ]
leads-by {sc} {me} {i} {a} (suc m) {w} h first few =
    let it : WhatIsDue sc w = what-is-due h me i first.there first.pends in
    elim (which-due h first it) [
      | inl arrival ↦
          let r : AfterArrival sc w me i a = after-arrival h first it arrival in
          let less = r.less in
          leads-on r.is r.arrival r.silent r.same r.tells (leads-by m r.goes r.first (omega (arith, few, less)))
      | inr tick ↦ leads-here it tick
    ]

pub leads-to-tick : {sc w : _} → Goes sc w → {me i a : _} → IsFirstTick w me i a → LeadsToTick sc w me i a
leads-to-tick {sc} {w} h first = leads-by (all_left (most_at_once sc) w.sites) h first (omega arith)

pub takes-lead : TakesLeadToTheFirstTick
takes-lead sc lawful choices event me i a first = leads-to-tick (goes-reached lawful choices event) first
