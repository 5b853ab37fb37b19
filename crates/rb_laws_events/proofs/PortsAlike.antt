-- For the law that running ports agree: between two deliveries the port of a running BIU is that of
-- the rounds after the slot.
use Rattle.std.proofs.{Common.{◌≡◌, ℕ, ◌+◌, ◌<◌, true, ap, sym, ◌∙◌, arith, inl, inr, ◌⊎◌, List}, lemmas.Bool.cases_lt}
use Rattle.rb_base.specs.Nodes.Side.{Biu}
use Rattle.rb_rules.specs.{declared.plan.Window.Window, Goodness.{Scenario, is_good}, Hearing.port_at, Lawful.IsLawful, Moments.{IsRunning, after_slot, before_slot, before_stage}, Rounds.Moment, WorldStep.{Choice, World, world_after}}
use Rattle.rb_laws_agreement.proofs.{PortHistories.{begun-port, ports_alike, ports_follow}, Goodnesses.{good_counts, good_earlier}, FrameBegins.reached}
use Rattle.rb_laws_events.specs.{OwnMoments.{FollowsTheRounds, HasItsPort, HoldsItsState, HoldsTheRounds, IsBeforeTheBreak, RunningNode, moment_of}, RunningNodes.{IsAfterDelivery, RunningPortsAgreeInLawful, RunningPortsFollowTheBus, StandsAfterSlot, StandsAtBegin, window_of}}
use Rattle.rb_laws_events.proofs.{CoresHold.cores-hold, CoresPast.cores-follow, PortsBetween.{before-third, begin-stays, then-first, then-second}}

-- the BIU is good in the slot, and its port is that after the slot
record IsAfter {w : World} (sc : Scenario) (frame slot : ℕ) (node : RunningNode w Biu) : Type 0 where
  good : is_good sc Biu node.index frame slot ≡ true
  port : port_at sc w.ports node.index ≡ port_at sc (after_slot sc w.hands frame slot).ports node.index

is-after : {w : World} {sc : Scenario} → IsLawful sc → {frame slot : ℕ} {node : RunningNode w Biu} → HoldsItsState sc node → HasItsPort sc node
    → StandsAfterSlot sc frame slot node → IsAfter sc frame slot node
is-after {w} {sc} lawful {frame} {slot} {node} h in_rounds at = by at.place
  where
    i : ℕ
    i = node.index

    window : Window
    window = window_of sc node

    own : Moment
    own = moment_of sc node

    good_here : is_good sc Biu i frame window.slot ≡ true
    good_here = ap (λ f. is_good sc Biu i f window.slot) (sym at.frame_is ∙ h.frame) ∙ h.good

    counted : i < sc.sizes.bius
    counted = good_counts sc Biu i frame window.slot good_here

    port : (k stage : ℕ) → window.slot ≡ k → window.stage ≡ stage → port_at sc w.ports i ≡ port_at sc (before_stage sc w.hands frame k stage).ports i
    port k stage e f =
        in_rounds
        ∙ ap (λ n. port_at sc (before_stage sc w.hands n window.slot window.stage).ports i) at.frame_is
        ∙ ap (λ n. port_at sc (before_stage sc w.hands frame n window.stage).ports i) e
        ∙ ap (λ n. port_at sc (before_stage sc w.hands frame k n).ports i) f

    by : IsAfterDelivery slot window → IsAfter sc frame slot node
    by (inl here) =
        let low = here.1.0 in
        let high = here.1.1 in
        record {
          good = ap (is_good sc Biu i frame) (sym here.0) ∙ good_here;
          port = elim (cases_lt window.stage 4) [
            | inl lt ↦ port slot 3 here.0 (omega (arith, low, lt)) ∙ before-third w.hands lawful frame i at.within at.complete counted
            | inr ge ↦ port slot 4 here.0 (omega (arith, high, ge))
          ];
        }
    by (inr next) =
        let low = next.1.0 in
        let high = next.1.1 in
        record {
          good = good_earlier sc Biu i frame slot (slot + 1) (omega arith) (ap (is_good sc Biu i frame) (sym next.0) ∙ good_here);
          port = elim (cases_lt window.stage 2) [
            | inl lt ↦ port (slot + 1) 1 next.0 (omega (arith, low, lt)) ∙ then-first sc w.hands frame slot i
            | inr ge ↦ port (slot + 1) 2 next.0 (omega (arith, high, ge)) ∙ then-second w.hands lawful frame i at.within at.complete counted
          ];
        }

after-slot : {sc : Scenario} → IsLawful sc → (choices : List Choice) {frame slot : ℕ} {node : RunningNode (world_after sc choices) Biu} → StandsAfterSlot sc frame slot node
    → IsAfter sc frame slot node
after-slot {sc} lawful choices {frame} {slot} {node} at = by at.goes_on
  where
    by : IsBeforeTheBreak sc (world_after sc choices) ⊎ IsRunning (moment_of sc node) → IsAfter sc frame slot node
    by (inl before) =
        let h : HoldsTheRounds sc (world_after sc choices) = cores-hold sc lawful choices before in is-after lawful (h.cores Biu node) (h.ports node) at
    by (inr running) =
        let h : FollowsTheRounds sc (world_after sc choices) = cores-follow sc lawful choices in
        is-after lawful (h.cores Biu node running) (h.ports node running) at

pub ports-agree : RunningPortsAgreeInLawful
ports-agree sc lawful choices frame slot mine yours at there alike =
    let a : IsAfter sc frame slot mine = after-slot lawful choices at in
    let b : IsAfter sc frame slot yours = after-slot lawful choices there in
    a.port ∙ ports_alike sc (world_after sc choices).hands lawful frame slot at.within at.complete mine.index yours.index a.good b.good alike ∙ sym b.port

-- What the bus makes of a port.

-- the BIU is good as the frame begins, and its port is that before the first slot
record IsAtBegin {w : World} (sc : Scenario) (frame : ℕ) (node : RunningNode w Biu) : Type 0 where
  good : is_good sc Biu node.index frame 0 ≡ true
  port : port_at sc w.ports node.index ≡ port_at sc (before_slot sc w.hands frame 0).ports node.index

is-at-begin : {w : World} {sc : Scenario} → IsLawful sc → {frame : ℕ} {node : RunningNode w Biu} → HoldsItsState sc node → HasItsPort sc node
    → StandsAtBegin sc frame node → IsAtBegin sc frame node
is-at-begin {w} {sc} lawful {frame} {node} h in_rounds at =
    record {
      good = good;
      port = elim (cases_lt window.stage 2) [
        | inl lt ↦ port 1 (let low = at.stage.0 in omega (arith, low, lt))
        | inr ge ↦
            port 2 (let high = at.stage.1 in omega (arith, high, ge))
            ∙ begin-stays w.hands lawful frame i (reached w.hands lawful frame at.reached) (good_counts sc Biu i frame 0 good)
      ];
    }
  where
    i : ℕ
    i = node.index

    window : Window
    window = window_of sc node

    good : is_good sc Biu i frame 0 ≡ true
    good = ap (is_good sc Biu i frame) (sym at.slot_is) ∙ ap (λ f. is_good sc Biu i f window.slot) (sym at.frame_is ∙ h.frame) ∙ h.good

    port : (stage : ℕ) → window.stage ≡ stage → port_at sc w.ports i ≡ port_at sc (before_stage sc w.hands frame 0 stage).ports i
    port stage e =
        in_rounds
        ∙ ap (λ n. port_at sc (before_stage sc w.hands n window.slot window.stage).ports i) at.frame_is
        ∙ ap (λ n. port_at sc (before_stage sc w.hands frame n window.stage).ports i) at.slot_is
        ∙ ap (λ n. port_at sc (before_stage sc w.hands frame 0 n).ports i) e

at-begin : {sc : Scenario} → IsLawful sc → (choices : List Choice) {frame : ℕ} {node : RunningNode (world_after sc choices) Biu} → StandsAtBegin sc frame node
    → IsAtBegin sc frame node
at-begin {sc} lawful choices {frame} {node} at = by at.goes_on
  where
    by : IsBeforeTheBreak sc (world_after sc choices) ⊎ IsRunning (moment_of sc node) → IsAtBegin sc frame node
    by (inl before) =
        let h : HoldsTheRounds sc (world_after sc choices) = cores-hold sc lawful choices before in
        is-at-begin lawful (h.cores Biu node) (h.ports node) at
    by (inr running) =
        let h : FollowsTheRounds sc (world_after sc choices) = cores-follow sc lawful choices in
        is-at-begin lawful (h.cores Biu node running) (h.ports node running) at

pub ports-follow-the-bus : {sc : _} → IsLawful sc → (choices : List Choice) → RunningPortsFollowTheBus sc (world_after sc choices)
ports-follow-the-bus {sc} lawful choices = record {
  begun = λ frame node at.
      let a : IsAtBegin sc frame node = at-begin lawful choices at in
      a.port ∙ begun-port (world_after sc choices).hands lawful frame node.index at.reached a.good;
  after = λ frame slot node at.
      let a : IsAfter sc frame slot node = after-slot lawful choices at in
      a.port ∙ ports_follow sc (world_after sc choices).hands lawful frame slot at.within at.complete node.index a.good;
}
