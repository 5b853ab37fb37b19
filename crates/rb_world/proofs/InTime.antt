-- What is due comes while the node's clock still has a tick, in every world that choices lead to.
use Rattle.std.proofs.Common.{◌≡◌, ℕ, ◌^◌, ◌<◌, ◌≤◌, true, List, sym, ◌∙◌, subst, arith, inl, inr, Some, slice_get}
use Rattle.rb_base.specs.Nodes.{Side}
use Rattle.rb_base.proofs.Plain.{true-false}
use Rattle.rb_rules.specs.{Clock.time_of, Goodness.{Scenario, clock_of}, Lawful.IsLawful, Rounds.moment, WorldStep.{Choice, Due, World, due_of, world_after}}
use Rattle.rb_laws_events.proofs.{BreakNodes.KeepsNodes, BreakOff.BreaksOff, BreakRooms.{HasLater, has-later}, BreakRuns.{first-of, waits-yet}, DueEvents.IsDue, EventsHold.{keeps, nodes_at}, EveryWorld.{AnyWorld, InRun, any-after, due-going}, Invariant.is_good_at, NodeEvents.tick-after, OneEvent.all-pend, OneTake.StandsInRounds, TickRooms.has-room, WorldStands.{IsUp, sent_by}, Behind.pend-of}
use Rattle.rb_world.specs.Worlds.{IsReached}

-- a tick that the node may have and that comes no earlier
pub record HasTick (sc : Scenario) (t : ℕ) (me : Side) (i : ℕ) : Type 0 where
  pub k : ℕ
  pub small : k < 2 ^ 31
  pub later : t ≤ time_of (clock_of sc me i) k

in-run : (sc : Scenario) (w : World) (d : Due) → InRun sc w → (due : IsDue w d) → due.s.runs ≡ true → HasTick sc due.t d.side d.node
in-run sc w d run due runs =
    let h : StandsInRounds sc w = run.stands in
    let up : IsUp sc w.hands (sent_by sc w.hands h.at w.sites) h.now d.side d.node (h.at d.side d.node) due.s = h.stands.sites.up d.side d.node due.s due.there runs in
    let le : due.t ≤ up.a.time = tick-after due.t due.s.ahead due.s.coming up.stands.receives.pends (pend-of due.t w.sites (all-pend w due.t due.first) d.side d.node due.s due.there) in
    let time : up.a.time ≡ time_of (clock_of sc d.side d.node) up.a.tick = up.stands.receives.at_time in
    record { k = up.a.tick; small = up.stands.receives.is_next.below; later = omega (arith, le, time) }

off-run : (sc : Scenario) (w : World) (d : Due) → IsLawful sc → BreaksOff sc (nodes_at sc) w → (due : IsDue w d) → due.s.runs ≡ true → HasTick sc due.t d.side d.node
off-run sc w d lawful off due runs =
    let k = off.stands in
    let its : KeepsNodes sc k.q (nodes_at sc k.q) = keeps lawful k.q k.off.small in
    let yet = waits-yet (nodes_at sc) its k.off k.nodes k.open_still in
    let first = first-of due.t yet (all-pend w due.t due.first) in
    let good : is_good_at sc (moment sc w.hands k.b) d.side d.node ≡ true = elim (its.goes w.hands k.b k.off k.sent w.sites k.nodes.nodes d.side d.node due.s due.there) [
      | inl stopped ↦ true-false (sym runs ∙ stopped.runs)
      | inr good ↦ good
    ] in
    let more : HasLater sc due.t d.side d.node = has-later lawful k.off first d.side d.node good in
    let later = more.later in
    record { k = more.k; small = more.small; later = omega (arith, later) }

pub comes-in-time : (sc : Scenario) → IsLawful sc → (choices : List Choice) (place : ℕ) (d : Due) → slice_get (due_of sc (world_after sc choices)) place ≡ Some d
    → (due : IsDue (world_after sc choices) d) → due.s.runs ≡ true → HasTick sc due.t d.side d.node
comes-in-time sc lawful choices place d found due runs = by (any-after (nodes_at sc) lawful (has-room lawful) (keeps lawful) choices)
  where
    w : World
    w = world_after sc choices

    by : AnyWorld sc (nodes_at sc) (world_after sc choices) → HasTick sc due.t d.side d.node
    by (inl run) = in-run sc (world_after sc choices) d run due runs
    by (inr (inl off)) = off-run sc (world_after sc choices) d lawful off due runs
    by (inr (inr over)) = let going = due-going sc (world_after sc choices) place found in true-false (sym over.ended ∙ going.0)

pub reached-in-time : (sc : Scenario) (w : World) → IsLawful sc → IsReached sc w → (place : ℕ) (d : Due) → slice_get (due_of sc w) place ≡ Some d → (due : IsDue w d) → due.s.runs ≡ true
    → HasTick sc due.t d.side d.node
reached-in-time sc w lawful reached =
    subst (λ w. (place : ℕ) (d : Due) → slice_get (due_of sc w) place ≡ Some d → (due : IsDue w d) → due.s.runs ≡ true → HasTick sc due.t d.side d.node) (sym reached.is)
    (comes-in-time sc lawful reached.choices)
