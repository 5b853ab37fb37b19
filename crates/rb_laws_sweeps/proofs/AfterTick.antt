-- A node that takes its tick: all that comes to it afterwards comes later, and its next tick too.
use Rattle.std.proofs.{Common.{◌≡◌, ℕ, zero, suc, ◌+◌, ◌-◌, ◌^◌, ◌<◌, ◌≤◌, ◌==◌, Bool, true, false, List, [], ◌∷◌, ◌++◌, refl, ap, sym, ◌∙◌, subst, arith, inl, inr, Option, Some, None, option_map, slice_get}, lemmas.Bool.eqb-true, lemmas.Option.{same_Some, slice_get_within}}
use Rattle.rb_base.specs.{Nodes.Side, Sizes.Sizes}
use Rattle.rb_base.proofs.Plain.{true-false}
use Rattle.rb_rules.specs.{declared.plan.Plan.Plan, Book.of_kind, Clock.time_of, Core.{Act, Core, next_tick, pass_to, state_at, window_here}, Goodness.{Scenario, clock_of, is_good}, Hearing.{Coming, Span, span_of}, Lawful.IsLawful, NodeState.NodeState, Ports.PortState, Slots.count_of, WorldStep.{Choice, Due, Site, Timed, World, after_act, await, due_of, enter, pass_and_tick, proceed, says_in, span_from, stop, take, wants_in, with_close, with_epoch, word_of, world_after}, WorldStep.Choice.Take, WorldStep.Pending.Tick}
use Rattle.rb_rules.proofs.Drift.{times_rise_strictly}
use Rattle.rb_laws_events.proofs.{BreakNodes.KeepsNodes, BreakOff.BreakStands, DueEvents.{IsDue, every-append}, EventsHold.{any, keeps, nodes_at, ticks-left}, EveryWorld.{AnyWorld, after-more, due-going}, OneEvent.{all-pend, up-there}, OneTake.StandsInRounds, Receiving.passed-had, RunsEnd.HasTicksLeft, SameHeard.Every, Takes.{busy-later, close-same, epoch-same, tick-had}, WorldNodes.{NodesKnown, events-due, worlds-known}, WorldStands.{AllPend, IsUp, sent_by}}
use Rattle.rb_laws_sweeps.specs.AheadOf.{after_takes}
use Rattle.rb_laws_sweeps.proofs.SentLater.{node-moves, says-later}

-- takes of the first due event are choices
pub takes-are : (sc : Scenario) (choices : List Choice) (n : ℕ) → (cs : List Choice) × (after_takes sc n (world_after sc choices) ≡ world_after sc cs)
unfolding after_takes
takes-are sc choices zero = (choices, refl)
takes-are sc choices (suc n) =
    let before = takes-are sc choices n in
    (before.0 ++ Take 0 ∷ [], ap (λ w. take sc w 0) before.1 ∙ sym (after-more sc before.0 (Take 0)))

-- the pending tick is pending at its time
pub tick-time : {sc : _} → IsLawful sc → {w : _} → AnyWorld sc (nodes_at sc) w → w.book.ended ≡ false → (me : Side) (i : ℕ) {s a : _}
    → slice_get (of_kind me w.sites) i ≡ Some s → s.ahead ≡ Some a → a.time ≡ time_of (clock_of sc me i) a.tick
tick-time {sc} lawful {w} (inl run) going me i {s} {a} there pends =
    let h : StandsInRounds sc w = run.stands in
    let up : IsUp sc w.hands (sent_by sc w.hands h.at w.sites) h.now me i (h.at me i) s = up-there w me i h.stands.sites there pends in
    let same : up.a ≡ a = same_Some up.a a (sym up.stands.receives.pends ∙ pends) in
    subst (λ (a : Timed). a.time ≡ time_of (clock_of sc me i) a.tick) same up.stands.receives.at_time
tick-time {sc} lawful {w} (inr (inl off)) going me i {s} {a} there pends =
    let k : BreakStands sc (nodes_at sc) w.hands w.sites w.book = off.stands in
    let its : KeepsNodes sc k.q (nodes_at sc k.q) = keeps lawful k.q k.off.small in
    (its.ahead w.hands k.b k.off k.sent w.sites k.nodes.nodes me i s there a pends).1
tick-time lawful (inr (inr over)) going me i there pends = true-false (sym over.ended ∙ going)

-- what is known of a tick that is due in a world that was reached
pub record TicksNow (sc : Scenario) (me : Side) (i : ℕ) (a : Timed) (s : Site) : Type 0 where
  pub time : a.time ≡ time_of (clock_of sc me i) a.tick
  pub counted : i < count_of me sc.sizes
  pub had : s.core.had ≤ a.tick
  pub small : a.tick < 2 ^ 31

ticks-there : {sc : _} → IsLawful sc → (cs : List Choice) {w : _} → world_after sc cs ≡ w → (me : Side) (i : ℕ) (a : Timed) (s : Site) → slice_get (of_kind me w.sites) i ≡ Some s
    → s.ahead ≡ Some a → slice_get (due_of sc w) 0 ≡ Some (record { side = me; node = i; pending = Tick a.tick }) → TicksNow sc me i a s
ticks-there {sc} lawful cs {w} is me i a s there pends due = subst (λ w. Ticks w) is at there due
  where
    Ticks : World → Type 0
    Ticks w = slice_get (of_kind me w.sites) i ≡ Some s → slice_get (due_of sc w) 0 ≡ Some (record { side = me; node = i; pending = Tick a.tick }) → TicksNow sc me i a s

    at : Ticks (world_after sc cs)
    at there due =
        let w : World = world_after sc cs in
        let d : Due = record { side = me; node = i; pending = Tick a.tick } in
        let going = (due-going sc w 0 due).0 in
        let it : IsDue w d = events-due sc cs 0 due in
        let same : it.s ≡ s = same_Some it.s s (sym it.there ∙ there) in
        let b_is : it.ready.0 ≡ a = same_Some it.ready.0 a (sym it.ready.1.0 ∙ ap (λ (s : Site). s.ahead) same ∙ pends) in
        let time : a.time ≡ it.t = ap (λ (a : Timed). a.time) (sym b_is) ∙ it.ready.1.1.1.0 in
        let left : HasTicksLeft sc w = ticks-left lawful (any lawful cs) going in
        let few = left.left me i s a there pends (subst (λ t. AllPend t w.sites) (sym time) (all-pend w it.t it.first)) in
        let known : NodesKnown sc w.sites = worlds-known sc cs in
        let many = known.counts me in
        let within = slice_get_within (of_kind me w.sites) i s there in
        record {
          time = tick-time lawful (any lawful cs) going me i there pends;
          counted = omega (arith, many, within);
          had = few.0;
          small = few.1;
        }

pub ticks-now : {sc : _} → IsLawful sc → (choices : List Choice) (n : ℕ) {w : _} → after_takes sc n (world_after sc choices) ≡ w → (me : Side) (i : ℕ) (a : Timed) (s : Site)
    → slice_get (of_kind me w.sites) i ≡ Some s → s.ahead ≡ Some a → slice_get (due_of sc w) 0 ≡ Some (record { side = me; node = i; pending = Tick a.tick }) → TicksNow sc me i a s
ticks-now {sc} lawful choices n is = let were = takes-are sc choices n in ticks-there lawful were.0 (sym were.1 ∙ is)

-- The node after its tick.

-- the core has had the tick
pub act-had : {sc : _} (ports : List PortState) {me i a s : _} → TicksNow sc me i a s → (pass_and_tick sc ports me i a.tick s.core).core.had ≡ a.tick + 1
unfolding pass_and_tick
act-had {sc} ports {me} {i} {a} {s} h =
    let ready : Core = pass_to a.tick s.core in
    let had : ready.had ≡ a.tick = passed-had a.tick s.core h.had in
    let small = h.small in
    let one : (pass_and_tick sc ports me i a.tick s.core).core.had ≡ ready.had + 1 =
    tick-had sc.sizes sc.plan me i ready (word_of sc ports i (wants_in sc me i ready)) (omega (arith, had, small)) in
    omega (arith, one, had)

span-first : (sizes : Sizes) (plan : Plan) (me : Side) (st : NodeState) (k : ℕ) {span : _} → span_from sizes plan me st k ≡ Some span → span.first ≡ k
span-first sizes plan me st k {span} e = by (it.first == k) refl e
  where
    it : Span
    it = span_of (state_at sizes plan me st k) (window_here sizes plan me (state_at sizes plan me st k) k)

    by : (b : Bool) → (it.first == k) ≡ b → (elim b as (λ _. Option Span) [ true ↦ Some it | false ↦ None ]) ≡ Some span → span.first ≡ k
    by true f e = ap (λ (s : Span). s.first) (sym (same_Some it span e)) ∙ eqb-true it.first k f
    by false f e = absurd (none-some span e)
      where
        none-some : (s : Span) → None ≡ Some s → ⊥
        none-some s e = cc

-- all that comes to the node comes after time `t`, and so does its next tick
pub record Later (t : ℕ) (s : Site) : Type 0 where
  pub coming : Every (λ c. t + 1 ≤ c.time) s.coming
  pub tick : (b : Timed) → s.ahead ≡ Some b → t + 1 ≤ b.time

await-later : {sc : _} → IsLawful sc → (me : Side) (i k : ℕ) (more : List Coming) (s : Site) → i < count_of me sc.sizes → s.core.had ≡ k + 1
    → Every (λ c. time_of (clock_of sc me i) k + 1 ≤ c.time) s.coming → Every (λ c. time_of (clock_of sc me i) k + 1 ≤ c.time) more → Later (time_of (clock_of sc me i) k) (await sc me i more s)
await-later {sc} lawful me i k more s counted had late more_late = record {
  coming = every-append (λ c. time_of (clock_of sc me i) k + 1 ≤ c.time) s.coming more late more_late;
  tick = λ b e. by b (next_tick sc.sizes sc.plan me i s.core) refl e;
}
  where
    by : (b : Timed) (o : Option ℕ) → next_tick sc.sizes sc.plan me i s.core ≡ o → option_map (λ k. record { tick = k; time = time_of (clock_of sc me i) k }) o ≡ Some b
        → time_of (clock_of sc me i) k + 1 ≤ b.time
    by b None e f = absurd (none-some b f)
      where
        none-some : (b : Timed) → None ≡ Some b → ⊥
        none-some b e = cc
    by b (Some x) e f =
        let up : s.core.had ≤ x = busy-later sc.sizes sc.plan me i s.core.state (2 ^ 31 - s.core.had) s.core.had e in
        let later : time_of (clock_of sc me i) k < time_of (clock_of sc me i) x = times_rise_strictly (clock_of sc me i) (node-moves lawful me i counted) k x (omega (arith, up, had)) in
        let time : time_of (clock_of sc me i) x ≡ b.time = ap (λ (b : Timed). b.time) (same_Some (record { tick = x; time = time_of (clock_of sc me i) x }) b f) in
        omega (arith, later, time)

proceed-later : {sc : _} → IsLawful sc → (me : Side) (i k : ℕ) (s : Site) → i < count_of me sc.sizes → s.core.had ≡ k + 1
    → Every (λ c. time_of (clock_of sc me i) k + 1 ≤ c.time) s.coming → Later (time_of (clock_of sc me i) k) (proceed sc me i s)
unfolding proceed
proceed-later {sc} lawful me i k s counted had late = by (span_from sc.sizes sc.plan me s.core.state s.core.had) refl
  where
    entered : (span : Span) → span.first ≡ k + 1 → (b : Bool)
        → Later (time_of (clock_of sc me i) k) (elim b as (λ _. Site) [ true ↦ await sc me i (says_in sc me i span) s | false ↦ stop s ])
    entered span first true = await-later lawful me i k (says_in sc me i span) s counted had late (says-later sc me i k span first)
    entered span first false = record { coming = tt; tick = λ b e. absurd (none-some b e) }
      where
        none-some : (b : Timed) → None ≡ Some b → ⊥
        none-some b e = cc

    by : (o : Option Span) → span_from sc.sizes sc.plan me s.core.state s.core.had ≡ o → Later (time_of (clock_of sc me i) k) (enter sc me i o s)
    by None e = await-later lawful me i k [] s counted had late tt
    by (Some span) e =
        entered span (span-first sc.sizes sc.plan me s.core.state s.core.had e ∙ had) (is_good sc me i span.place.frame span.place.slot)

pub act-later : {sc : _} → IsLawful sc → (ports : List PortState) {me i a s : _} → TicksNow sc me i a s → Every (λ c. a.time + 1 ≤ c.time) s.coming
    → Later a.time (after_act sc ports me i (pass_and_tick sc ports me i a.tick s.core) s)
unfolding after_act
act-later {sc} lawful ports {me} {i} {a} {s} h late =
    let x : Act = pass_and_tick sc ports me i a.tick s.core in
    let closed : Site = with_close me i x.core.state x.closed (record s { core = x.core }) in
    let begun : Site = with_epoch sc ports me i x.epoch closed in
    let close = close-same me i x.core.state x.closed (record s { core = x.core }) in
    let epoch = epoch-same sc ports me i x.epoch closed in
    let had : begun.core.had ≡ a.tick + 1 = ap (λ (c : Core). c.had) (epoch.0 ∙ close.0) ∙ act-had ports h in
    let coming : begun.coming ≡ s.coming = epoch.1 ∙ close.1 in
    let time : a.time ≡ time_of (clock_of sc me i) a.tick = h.time in
    subst (λ t. Later t (proceed sc me i begun)) (sym time)
    (proceed-later lawful me i a.tick begun h.counted had
    (subst (λ cs. Every (λ c. time_of (clock_of sc me i) a.tick + 1 ≤ c.time) cs) (sym coming)
    (subst (λ t. Every (λ c. t + 1 ≤ c.time) s.coming) time late)))
