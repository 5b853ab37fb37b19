-- What holds of runs event by event in every lawful scenario.
use Rattle.std.proofs.Common.{◌≡◌, ℕ, zero, suc, ◌*◌, ◌^◌, ◌<◌, ◌≤◌, Bool, true, false, List, length, sym, ◌∙◌, arith, inl, inr, Some, slice_get}
use Rattle.rb_base.specs.Nodes.{Side}
use Rattle.rb_base.proofs.Plain.{true-false}
use Rattle.rb_rules.specs.{Book.{Each, of_kind}, Goodness.Scenario, Lawful.IsLawful, Ports.HandIn, WorldStep.{Choice, Site, needs_no_event, says_in, world_after}}
use Rattle.rb_laws_events.specs.Laws.{BoundedRunsEndInLawful, EventsAreRoundsInLawful, EveryRunEndsInLawful, OneTurnARecordInLawful, SomethingIsDueInLawful, nodes_of}
use Rattle.rb_laws_events.proofs.{BreakEvents.early-tells, BreakKeeps.{TellsOn, break-keeps}, BreakNodes.KeepsNodes, BreakSites.{Course, InFrame, NodesBreak}, BreakOff.{left-off, runs-small}, BreakRuns.{WaitsYet, waits-yet}, Behind.IsBehind, EveryWorld.{AnyWorld, any-after, events-are-rounds}, FewEntered.says-few, LastEvents.last-tells, LastSites.Beyond, OneTake.{StandsInRounds, world-waits}, Progress.{SomePends, something-is-due}, RunsEnd.{HasTicksLeft, every-run-ends, in-rounds-left}, TickRooms.has-room, Turns.turns-are-next, WorldStands.{IsUp, sent_by}}

-- how nodes go on that have told their rows, if the run breaks off with stage q of a sync slot
abbrev pub course_of : Scenario → ℕ → Course
course_of sc zero = InFrame sc
course_of sc (suc zero) = InFrame sc
course_of sc (suc (suc q)) = Beyond sc

-- what the nodes keep then
abbrev pub nodes_at : Scenario → ℕ → List HandIn → ℕ → (Side → ℕ → ℕ → Bool) → Each Site → Type 0
nodes_at sc q = NodesBreak sc (course_of sc q)

pub tells-on : {sc : _} → IsLawful sc → (q : ℕ) → q < 3 → TellsOn sc q (course_of sc q)
tells-on lawful zero small = early-tells lawful (has-room lawful) 0 (omega arith)
tells-on lawful (suc zero) small = early-tells lawful (has-room lawful) 1 (omega arith)
tells-on lawful (suc (suc zero)) small = last-tells lawful (has-room lawful)
tells-on lawful (suc (suc (suc q))) small = absurd (omega (arith, small))

pub keeps : {sc : _} → IsLawful sc → (q : ℕ) → q < 3 → KeepsNodes sc q (nodes_at sc q)
keeps {sc} lawful q small = break-keeps (course_of sc q) lawful (has-room lawful) (tells-on lawful q small)

pub any : {sc : _} → IsLawful sc → (choices : List Choice) → AnyWorld sc (nodes_at sc) (world_after sc choices)
any {sc} lawful = any-after (nodes_at sc) lawful (has-room lawful) (keeps lawful)

pub events-hold : EventsAreRoundsInLawful
events-hold sc lawful = events-are-rounds sc (nodes_at sc) (any lawful)

-- if the next record needs an event, a tick is pending
some-pends : {sc : _} → IsLawful sc → {w : _} → AnyWorld sc (nodes_at sc) w → w.book.ended ≡ false → needs_no_event sc w.book.upcoming ≡ false → SomePends w
some-pends {sc} lawful {w} (inl run) going needs =
    let h : StandsInRounds sc w = run.stands in
    let waits = world-waits h.stands going needs in
    let behind : IsBehind sc w.hands h.at w.sites waits.0 = waits.1.behind in
    let up : IsUp sc w.hands (sent_by sc w.hands h.at w.sites) h.now behind.me behind.i (h.at behind.me behind.i) behind.s = h.stands.sites.up behind.me behind.i behind.s behind.there behind.runs in
    record { me = behind.me; i = behind.i; s = behind.s; a = up.a; there = behind.there; pends = up.stands.receives.pends }
some-pends {sc} lawful {w} (inr (inl off)) going needs =
    let k = off.stands in
    let yet : WaitsYet sc w.hands k.b w.sites = waits-yet (nodes_at sc) (keeps lawful k.q k.off.small) k.off k.nodes k.open_still in
    record { me = yet.me; i = yet.i; s = yet.s; a = yet.waits.a; there = yet.there; pends = yet.waits.pends }
some-pends lawful (inr (inr over)) going needs = true-false (sym over.ended ∙ going)

pub due-holds : SomethingIsDueInLawful
due-holds sc lawful = something-is-due sc (λ choices. some-pends lawful (any lawful choices))

pub turns-hold : OneTurnARecordInLawful
turns-hold sc lawful = turns-are-next (events-hold sc lawful)

-- as long as the run has not ended each tick that may be taken is one of those that its node may
-- have
pub ticks-left : {sc : _} → IsLawful sc → {w : _} → AnyWorld sc (nodes_at sc) w → w.book.ended ≡ false → HasTicksLeft sc w
ticks-left lawful (inl run) going = in-rounds-left run.stands
ticks-left {sc} lawful (inr (inl off)) going = record { counts = off.stands.nodes.counts; left = left-off (nodes_at sc) lawful (keeps lawful) off }
ticks-left lawful (inr (inr over)) going = true-false (sym over.ended ∙ going)

-- a node that runs has ticks left
runs-left : {sc : _} → IsLawful sc → {w : _} → AnyWorld sc (nodes_at sc) w → (me : Side) (i : ℕ) (s : Site) → slice_get (of_kind me w.sites) i ≡ Some s → s.runs ≡ true → s.core.had < 2 ^ 31
runs-left {sc} lawful {w} (inl run) me i s there runs =
    let h : StandsInRounds sc w = run.stands in
    let up : IsUp sc w.hands (sent_by sc w.hands h.at w.sites) h.now me i (h.at me i) s = h.stands.sites.up me i s there runs in
    let had = up.stands.receives.is_next.later in
    let below = up.stands.receives.is_next.below in
    omega (arith, had, below)
runs-left {sc} lawful (inr (inl off)) me i s there runs =
    let k = off.stands in
    runs-small (nodes_at sc) (keeps lawful k.q k.off.small) k.off k.nodes me i s there runs
runs-left lawful (inr (inr over)) me i s there runs = over.small me i s there runs

pub bounded-end : BoundedRunsEndInLawful
bounded-end sc lawful n say =
    every-run-ends say (λ choices. ticks-left lawful (any lawful choices)) (λ choices. runs-left lawful (any lawful choices))

pub ends-hold : EveryRunEndsInLawful
ends-hold sc lawful listed =
    bounded-end sc lawful (nodes_of sc.sizes * length sc.says)
    (λ me i span. at-least (nodes_of sc.sizes) (length sc.says) (length (says_in sc me i span)) (let some = lawful.sizes.some_biu in omega (arith, some)) (says-few listed me i span))
  where
    at-least : (nodes says few : ℕ) → 1 ≤ nodes → few ≤ says → few ≤ nodes * says
    at-least zero says few some le = absurd (omega (arith, some))
    at-least (suc nodes) says few some le = omega (arith, le)
