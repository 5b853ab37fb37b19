-- Room for what is pending, and for windows that start: the laws, at the worlds that some choices
-- lead to.
use Rattle.std.proofs.{Common.{◌≡◌, ℕ, ◌+◌, ◌^◌, ◌<◌, ◌≤◌, sym, ◌∙◌, ap, subst, arith, List}, lemmas.Option.same_Some}
use Rattle.rb_base.specs.Nodes.{Side}
use Rattle.rb_rules.specs.{Core.{Act, pass_to}, Entries.IsListed, Goodness.Scenario, Lawful.IsLawful, WorldStep.{Choice, Due, Site, World, pass_and_tick, world_after}, WorldStep.Pending.Tick}
use Rattle.rb_laws_events.proofs.{DueEvents.IsDue, EventsHold.{any, ticks-left}, EveryWorld.due-going, FewPending.pending-few, OneEvent.all-pend, RunsEnd.HasTicksLeft, Takes.tick-had, WorldNodes.events-due, WorldStands.AllPend}
use Rattle.rb_laws_events.specs.PendingEvents.{EventsFit, TakesTick}
use Rattle.rb_world.proofs.Spans.{spans-by}
use Rattle.rb_world.specs.{Steps.SpansFit, Worlds.IsReached}

pub fits : (sc : Scenario) → IsLawful sc → IsListed sc → (choices : List Choice) → EventsFit sc (world_after sc choices)
fits = pending-few

pub fits-reached : (sc : Scenario) (w : World) → IsLawful sc → IsListed sc → IsReached sc w → EventsFit sc w
fits-reached sc w lawful listed reached = subst (EventsFit sc) (sym reached.is) (fits sc lawful listed reached.choices)

-- The tick after one that is taken.

taken-had : (sc : Scenario) → IsLawful sc → (choices : List Choice) (me : Side) (i k : ℕ) (s : Site) (x : Act) → TakesTick sc (world_after sc choices) me i k s x → x.core.had ≤ 2 ^ 31
unfolding pass_and_tick
taken-had sc lawful choices me i k s x takes =
    let w : World = world_after sc choices in
    let d : Due = record { side = me; node = i; pending = Tick k } in
    let due : IsDue w d = events-due sc choices takes.place takes.is_due in
    let left : HasTicksLeft sc w = ticks-left lawful (any lawful choices) (due-going sc w takes.place takes.is_due).0 in
    let ready = due.ready in
    let a = ready.0 in
    let room = left.left me i due.s a due.there ready.1.0 (subst (λ t. AllPend t w.sites) (sym ready.1.1.1.0) (all-pend w due.t due.first)) in
    let same : due.s ≡ s = same_Some due.s s (sym due.there ∙ takes.there) in
    let had : s.core.had ≤ k = subst (λ (s : Site). s.core.had ≤ k) same (subst (λ k. due.s.core.had ≤ k) ready.1.1.0 room.0) in
    let small : k < 2 ^ 31 = subst (λ k. k < 2 ^ 31) ready.1.1.0 room.1 in
    let passed : (pass_to k s.core).had ≡ k = omega (arith, had) in
    let ticked : (pass_and_tick sc w.ports me i k s.core).core.had ≡ (pass_to k s.core).had + 1 = tick-had sc.sizes sc.plan me i (pass_to k s.core) _ (omega (arith, passed, small)) in
    let is : x.core.had ≡ (pass_and_tick sc w.ports me i k s.core).core.had = ap (λ (x : Act). x.core.had) takes.does in
    omega (arith, is, ticked, passed, small)

-- a window that a node enters with its next tick begins by the last tick that a node may have
pub spans : (sc : Scenario) → IsLawful sc → (choices : List Choice) (me : Side) (i k : ℕ) (s : Site) (x : Act) → TakesTick sc (world_after sc choices) me i k s x → SpansFit sc me x.core
spans sc lawful choices me i k s x takes = spans-by sc me x.core (taken-had sc lawful choices me i k s x takes)

pub spans-reached : (sc : Scenario) (w : World) → IsLawful sc → IsReached sc w → (me : Side) (i k : ℕ) (s : Site) (x : Act) → TakesTick sc w me i k s x → SpansFit sc me x.core
spans-reached sc w lawful reached =
    subst (λ w. (me : Side) (i k : ℕ) (s : Site) (x : Act) → TakesTick sc w me i k s x → SpansFit sc me x.core) (sym reached.is) (spans sc lawful reached.choices)
