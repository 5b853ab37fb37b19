-- The first tick of a world behind is in time.
use Rattle.std.proofs.{Common.{◌≡◌, ℕ, zero, suc, ◌+◌, ◌^◌, ◌<◌, ◌≤◌, true, false, List, [], ◌∷◌, ◌++◌, remove, ap, sym, ◌∙◌, subst, arith, inl, inr, Some, option_map, slice_get}, lemmas.Option.same_Some}
use Rattle.rb_base.specs.{Nodes.{Side, other}, Sizes.Sizes}
use Rattle.rb_base.proofs.Plain.{true-false}
use Rattle.rb_rules.specs.{Book.of_kind, Clock.time_of, Goodness.{Scenario, clock_of}, Hearing.Coming, Lawful.IsLawful, Rounds.moment, Slots.count_of, WorldStep.{Choice, Due, Site, Timed, World, after_arrival, due_of, world_after}, WorldStep.Pending.Tick}
use Rattle.rb_rules.proofs.WindowNumbers.{get-each}
use Rattle.rb_laws_events.proofs.{BreakNodes.KeepsNodes, BreakOff.BreakStands, BreakRooms.{HasLater, has-later}, BreakRuns.{WaitsYet, first-of, waits-yet}, DueEvents.IsDue, EventsHold.{any, keeps, nodes_at}, EveryWorld.{AnyWorld, due-going}, Invariant.is_good_at, NodeEvents.tick-after, OneEvent.all-pend, OneTake.StandsInRounds, PendingLists.StandsAt, WorldNodes.{Known, events-due, worlds-known}, WorldStands.{AllPend, IsUp, sent_by}, Behind.pend-of}
use Rattle.rb_laws_sweeps.specs.{AheadOf.{GoesOnAhead, LeadsToTick, after_takes, ahead_of, each_swept, until_tick}, Room.TicksBehindAreInTime, Sweeping.{first_of, swept}}
use Rattle.rb_laws_sweeps.proofs.{AfterTick.{TicksNow, takes-are, ticks-now}, EachNode.until-own, Firsts.first-stands, GoesOn.{each-compose, sweep_to, worlds-go-on}, GotKnown.worlds-got, Sweeps.{every-all, sweep-of, sweep-stays, sweep-takes, sweeps-keep}}

-- Ticks that nodes have.

abbrev HasTickBy : Scenario → Side → ℕ → ℕ → Type 0
HasTickBy sc side j t = (k : ℕ) × ((k < 2 ^ 31) × (t ≤ time_of (clock_of sc side j) k))

has-tick : {sc : _} → IsLawful sc → {w : _} → AnyWorld sc (nodes_at sc) w → w.book.ended ≡ false → (t : ℕ) → AllPend t w.sites → (side : Side) (j : ℕ) {s : _}
    → slice_get (of_kind side w.sites) j ≡ Some s → s.runs ≡ true → HasTickBy sc side j t
has-tick {sc} lawful {w} (inl run) going t pend side j {s} there runs =
    let h : StandsInRounds sc w = run.stands in
    let up : IsUp sc w.hands (sent_by sc w.hands h.at w.sites) h.now side j (h.at side j) s = h.stands.sites.up side j s there runs in
    let le : t ≤ up.a.time = tick-after t s.ahead s.coming up.stands.receives.pends (pend-of t w.sites pend side j s there) in
    let time : up.a.time ≡ time_of (clock_of sc side j) up.a.tick = up.stands.receives.at_time in
    (up.a.tick, (up.stands.receives.is_next.below, omega (arith, le, time)))
has-tick {sc} lawful {w} (inr (inl off)) going t pend side j {s} there runs =
    let k : BreakStands sc (nodes_at sc) w.hands w.sites w.book = off.stands in
    let its : KeepsNodes sc k.q (nodes_at sc k.q) = keeps lawful k.q k.off.small in
    let yet : WaitsYet sc w.hands k.b w.sites = waits-yet (nodes_at sc) its k.off k.nodes k.open_still in
    let good : is_good_at sc (moment sc w.hands k.b) side j ≡ true = elim (its.goes w.hands k.b k.off k.sent w.sites k.nodes.nodes side j s there) [
      | inl stopped ↦ true-false (sym runs ∙ stopped.runs)
      | inr good ↦ good
    ] in
    let more : HasLater sc t side j = has-later lawful k.off (first-of t yet pend) side j good in
    let later = more.later in
    (more.k, (more.small, omega (arith, later)))
has-tick lawful (inr (inr over)) going t pend side j there runs = true-false (sym over.ended ∙ going)

ticks-by : {sc : _} → IsLawful sc → (cs : List Choice) {w : _} → world_after sc cs ≡ w → (me : Side) (i : ℕ) {a z : _} → slice_get (of_kind me w.sites) i ≡ Some z
    → z.ahead ≡ Some a → slice_get (due_of sc w) 0 ≡ Some (record { side = me; node = i; pending = Tick a.tick }) → (side : Side) (j : ℕ) (s : Site)
    → slice_get (of_kind side w.sites) j ≡ Some s → s.runs ≡ true → HasTickBy sc side j a.time
ticks-by {sc} lawful cs {w} is me i {a} {z} = subst (λ w. By w) is by
  where
    By : World → Type 0
    By w = slice_get (of_kind me w.sites) i ≡ Some z → z.ahead ≡ Some a → slice_get (due_of sc w) 0 ≡ Some (record { side = me; node = i; pending = Tick a.tick })
        → (side : Side) (j : ℕ) (s : Site) → slice_get (of_kind side w.sites) j ≡ Some s → s.runs ≡ true → HasTickBy sc side j a.time

    by : By (world_after sc cs)
    by there pends due side j s here runs =
        let w : World = world_after sc cs in
        let d : Due = record { side = me; node = i; pending = Tick a.tick } in
        let it : IsDue w d = events-due sc cs 0 due in
        let same : it.s ≡ z = same_Some it.s z (sym it.there ∙ there) in
        let b_is : it.ready.0 ≡ a = same_Some it.ready.0 a (sym it.ready.1.0 ∙ ap (λ (s : Site). s.ahead) same ∙ pends) in
        let time : a.time ≡ it.t = ap (λ (a : Timed). a.time) (sym b_is) ∙ it.ready.1.1.1.0 in
        subst (HasTickBy sc side j) (sym time)
        (has-tick lawful (any lawful cs) (due-going sc w 0 due).0 it.t (all-pend w it.t it.first) side j here runs)

-- Senders.

known-put : (sizes : Sizes) (me : Side) (n : ℕ) (c : Coming) (cs : List Coming) → StandsAt n c cs → c.from < count_of (other me) sizes → Known sizes me (remove cs n) → Known sizes me cs
known-put sizes me n c [] s h k = absurd s
known-put sizes me zero c (x ∷ xs) s h k = (subst (λ (c : Coming). c.from < count_of (other me) sizes) (sym s) h, k)
known-put sizes me (suc n) c (x ∷ xs) s h k = (k.0, known-put sizes me n c xs s h k.1)

known-parts : (sizes : Sizes) (me : Side) (xs ys : List Coming) → Known sizes me (xs ++ ys) → Known sizes me xs × Known sizes me ys
known-parts sizes me [] ys k = (tt, k)
known-parts sizes me (x ∷ xs) ys k = let rest = known-parts sizes me xs ys k.1 in ((k.0, rest.0), rest.1)

abbrev BothKnown : Sizes → Side → Site → Type 0
BothKnown sizes me s = Known sizes me s.coming × Known sizes me s.got

before-arrival : (sc : Scenario) (me : Side) (i : ℕ) (s : Site) {p : _} → first_of s.coming ≡ Some p → BothKnown sc.sizes me (after_arrival sc me i p.place p.coming s) → BothKnown sc.sizes me s
unfolding after_arrival
before-arrival sc me i s {p} e h =
    let got = known-parts sc.sizes me s.got (p.coming ∷ []) h.1 in
    (known-put sc.sizes me p.place p.coming s.coming (first-stands s.coming p e) got.1.0 h.0, got.0)

swept-known : (sc : Scenario) (me : Side) (i until : ℕ) (s : Site) → BothKnown sc.sizes me (swept sc me i until s) → BothKnown sc.sizes me s
swept-known sc me i until s =
    sweep-of sc me i until (λ s. BothKnown sc.sizes me (swept sc me i until s) → BothKnown sc.sizes me s)
    (λ s late. subst (BothKnown sc.sizes me) (sweep-stays sc me i until s late))
    (λ s p e lt rest h. before-arrival sc me i s e (rest (subst (BothKnown sc.sizes me) (sweep-takes sc me i until s p e lt) h))) s

pub ticks-behind-in-time : TicksBehindAreInTime
ticks-behind-in-time sc lawful choices until w is event me i a first le = record {
  time = ticks.time;
  small = ticks.small;
  had = λ s here. subst (λ (s : Site). (swept sc me i (a.time + 1) s).core.had ≤ a.tick) (same_Some first.node s (sym first.there ∙ here)) ticks.had;
  others = λ side j s here runs.
      ticks-by lawful cs (sym (takes-are sc choices n).1 ∙ there-is) me i node-there pends due side j (swept sc side j (next side j) s)
      (get-each (sweep_to sc next) w.sites side j ∙ ap (option_map (sweep_to sc next side j)) here) (ap (λ (s : Site). s.runs) (sweeps-keep sc side j (next side j) s).is ∙ runs);
  senders = λ side j s here.
      let ahead : slice_get (of_kind side (world_after sc choices).sites) j ≡ Some (swept sc side j (until side j) s) =
      ap (λ (x : World). slice_get (of_kind side x.sites) j) is ∙ get-each (sweep_to sc until) w.sites side j ∙ ap (option_map (sweep_to sc until side j)) here in
      let both : BothKnown sc.sizes side s =
      swept-known sc side j (until side j) s ((worlds-known sc choices).known side j (swept sc side j (until side j) s) ahead, worlds-got sc choices side j (swept sc side j (until side j) s) ahead) in
      (every-all (λ c. c.from < count_of (other side) sc.sizes) s.coming both.0, every-all (λ c. c.from < count_of (other side) sc.sizes) s.got both.1);
}
  where
    goes : GoesOnAhead sc until w me i a
    goes = worlds-go-on sc lawful choices until w is event me i a first le

    leads : LeadsToTick sc (ahead_of sc until w) me i a
    leads = goes.leads

    next : Side → ℕ → ℕ
    next = until_tick me i a.time

    n : ℕ
    n = leads.takes

    cs : List Choice
    cs = (takes-are sc choices n).0

    there : World
    there = record w { sites = each_swept sc next w.sites; turn = (after_takes sc n (ahead_of sc until w)).turn }

    here-is : after_takes sc n (ahead_of sc until w) ≡ there
    here-is = leads.world ∙ ap (λ sites. record w { sites = sites; turn = (after_takes sc n (ahead_of sc until w)).turn }) (each-compose sc until next w.sites le)

    there-is : after_takes sc n (world_after sc choices) ≡ there
    there-is = ap (after_takes sc n) is ∙ here-is

    z : Site
    z = swept sc me i (a.time + 1) first.node

    node-there : slice_get (of_kind me there.sites) i ≡ Some z
    node-there =
        get-each (sweep_to sc next) w.sites me i ∙ ap (option_map (sweep_to sc next me i)) first.there
        ∙ ap (λ u. Some (swept sc me i u first.node)) (until-own me i a.time)

    pends : z.ahead ≡ Some a
    pends = ap (λ (s : Site). s.ahead) (sweeps-keep sc me i (a.time + 1) first.node).is ∙ first.pends

    due : slice_get (due_of sc there) 0 ≡ Some (record { side = me; node = i; pending = Tick a.tick })
    due = ap (λ y. slice_get (due_of sc y) 0) (sym here-is) ∙ leads.tick

    ticks : TicksNow sc me i a z
    ticks = ticks-now lawful choices n there-is me i a z node-there pends due
