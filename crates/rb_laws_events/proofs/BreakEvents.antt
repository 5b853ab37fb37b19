-- For the law that events are rounds if the premise on faults is broken in a sync slot: how a node
-- goes on if the run breaks off with the first or the second stage of the sync slot. After its row
-- it stays in the frame, and it says nothing to those that listen.
use Rattle.std.proofs.Common.{◌≡◌, ℕ, zero, suc, ◌+◌, ◌*◌, ◌<◌, Bool, true, false, refl, ap, sym, ◌∙◌, arith, None}
use Rattle.rb_base.specs.{Nodes.{Side, other}, Nodes.Side.{Biu, Rmu}, Sizes.sync_slot_of}
use Rattle.rb_rules.specs.{declared.plan.Window.Window, declared.role.Role.TheVariants.Sync, Goodness.{Scenario}, Lawful.IsLawful, Moments.IsRunning, NodeState.NodeState, Rounds.{Moment, moment, window_in}, Slots.{listens, same_side}, WorldStep.pass_and_tick}
use Rattle.rb_rules.proofs.Slots.{same_side-is}
use Rattle.rb_laws_agreement.proofs.NodeWindows.{sync_windows_are}
use Rattle.rb_laws_events.proofs.{BreakEnters.{TickBreaks, hearing-closes}, BreakKeeps.TellsOn, BreakSites.{HasClosed, InFrame, WaitsAhead, closed-arrives}, BreakTicks.{before-next, closed-goes-on, closed-silent}, TailTicks.none-some, DeafEnds.deaf-closes, NodeActs.{HasRoom}, StageOrder.last_of}

-- the two kinds do not both listen in one stage
only-one : (q : ℕ) → q < 2 → (me : Side) → listens me Sync (q + 1) ≡ true → listens (other me) Sync (q + 1) ≡ true → ⊥
only-one zero small Biu e f = cc
only-one zero small Rmu e f = cc
only-one (suc zero) small Biu e f = cc
only-one (suc zero) small Rmu e f = cc
only-one (suc (suc q)) small me e f = omega arith

unheard-next : (q : ℕ) → q < 2 → (me : Side) → listens me Sync (q + 1) ≡ false → listens (other me) Sync (q + 2) ≡ false
unheard-next zero small Biu e = refl
unheard-next zero small Rmu e = cc
unheard-next (suc zero) small Biu e = cc
unheard-next (suc zero) small Rmu e = refl
unheard-next (suc (suc q)) small me e = absurd (omega arith)

stage-is : (sc : Scenario) (m : Moment) (q : ℕ) → q < 3 → m.window ≡ 3 * sync_slot_of sc.sizes + q → (me : Side) (st : NodeState) → (window_in sc m me st).stage ≡ q + 1
stage-is sc m q small at me st = ap (λ (w : Window). w.stage) ((sync_windows_are sc m q small at).are me st)

-- a node that has told its row says nothing with its due tick as long as another listens
closed-quiet : {sc hands : _} → IsLawful sc → HasRoom sc.plan → {sent ports p : _} (q : ℕ) → IsRunning (moment sc hands p) → q < 2
    → (moment sc hands p).window ≡ 3 * sync_slot_of sc.sizes + q → {me i s a : _} → TickBreaks sc hands sent ports p me i s a → HasClosed sc hands me i p s
    → {side n z : _} → WaitsAhead sc hands sent side n p z → same_side side (other me) ≡ true → (pass_and_tick sc ports me i a.tick s.core).message ≡ None
closed-quiet {sc} {hands} lawful room {ports} {p} q running small at {me} {i} {s} {a} t h {side} w kind = by (listens me Sync (window_in sc m me h.st).stage) refl
  where
    m : Moment
    m = moment sc hands p

    listens-there : listens (other me) Sync (q + 1) ≡ true
    listens-there =
        ap (λ k. listens k Sync (q + 1)) (sym (same_side-is side (other me) kind)) ∙ ap (listens side Sync) (sym (stage-is sc m q (omega arith) at side w.waits.st)) ∙ w.waits.hears

    by : (b : Bool) → listens me Sync (window_in sc m me h.st).stage ≡ b → (pass_and_tick sc ports me i a.tick s.core).message ≡ None
    by true e = absurd (only-one q small me (ap (listens me Sync) (sym (stage-is sc m q (omega arith) at me h.st)) ∙ e) listens-there)
    by false e =
        let is = h.course.ahead a t.pend in
        let n_is : m.window + 1 ≡ 3 * sync_slot_of sc.sizes + (q + 1) = omega (arith, at) in
        let before : a.tick < s.core.state.epoch + last_of sc.sizes sc.plan me s.core.state (m.window + 1) =
        before-next lawful room q running small at h t.you t.j t.there t.good a is.1 t.first in
        let window : last_of sc.sizes sc.plan me s.core.state (m.window + 1) ≡ last_of sc.sizes sc.plan me s.core.state (3 * sync_slot_of sc.sizes + (q + 1)) =
        ap (last_of sc.sizes sc.plan me s.core.state) n_is in
        closed-silent ports q a.tick room (omega arith) at h e
        (unheard-next q small me (ap (listens me Sync) (sym (stage-is sc m q (omega arith) at me h.st)) ∙ e)) is.0 (omega (arith, before, window))

pub early-tells : {sc : _} → IsLawful sc → HasRoom sc.plan → (q : ℕ) → q < 2 → TellsOn sc q (InFrame sc)
early-tells {sc} lawful room q early = record {
  ahead = λ hands b me i s a h e. h.course.ahead a e;
  arrives = closed-arrives;
  hears = λ hands b off sent now ports me i s h frame. hearing-closes lawful room ports q off.running off.small off.window h frame;
  deaf = λ hands b off ports me i s h. deaf-closes room ports q off.small off.window h;
  ticks = λ hands b off sent ports me i s a t h. closed-goes-on lawful room ports q off.running early off.window h t.you t.j t.there t.good t.pend t.first;
  late = λ hands b off sent ports me i s a t h frame side n z w kind msg.
      none-some (pass_and_tick sc ports me i a.tick s.core).message (closed-quiet lawful room q off.running early off.window t h w kind);
}
