-- For the law that events are rounds if the premise on faults is broken in a sync slot: in the
-- window in which the run breaks off a node that is good in the next frame knows when that starts,
-- whatever the verdict.
use Rattle.std.proofs.{Common.{◌≡◌, ℕ, suc, ◌+◌, ◌<◌, ◌≤◌, true, List, refl, ap, sym, ◌∙◌, subst, arith, Option, Some, None, is_some, slice_get}, lemmas.Option.same_Some}
use Rattle.rb_base.specs.{Nodes.Side, Sizes.sync_slot_of}
use Rattle.rb_rules.specs.{Book.of_kind, Goodness.{Scenario, is_good}, SyncStage.new_epoch_of, Lawful.IsLawful, NodeState.NodeState, NodeSteps.turn_if_known, Ports.HandIn, Rounds.{Moment, moment, windows_in}}
use Rattle.rb_rules.proofs.RoundStates.{Knows, state-after, state-turned}
use Rattle.rb_laws_agreement.proofs.{Goodnesses.slot_last, Invariant.IsGoodNode, NodeWindows.tail_windows, Settings.after, ExactAgrees.has_ticks, FrameAgrees.epoch-known, FrameTimes.turned-epoch}
use Rattle.rb_laws_synchrony.proofs.KeptMiddles.{Leaves, tail_leaves}
use Rattle.rb_laws_events.specs.Closing.{stages_in}
use Rattle.rb_laws_events.proofs.{CloseOrder.{IsFrameLater, IsWindowLater, frame-later, window-later}, FrameTimes.{good-node, same-next}, Invariant.is_good_at, MomentSteps.{good-back, good-state}, RoundNodes.{Stands, moments-stand}}

-- States over the turn, whatever the verdict.

-- a node that is good in the next moment, and its state before
pub record Came (sc : Scenario) (m : Moment) (me : Side) (i : ℕ) (now : NodeState) : Type 0 where
  pub st : NodeState
  pub node : IsGoodNode sc m me i st
  pub is : after sc m me i st ≡ now

pub came : {sc : _} (hands : List HandIn) → IsLawful sc → (p : ℕ) → (moment sc hands p).window < windows_in sc.sizes → {me i now : _}
    → IsGoodNode sc (moment sc hands (suc p)) me i now → Came sc (moment sc hands p) me i now
came {sc} hands lawful p inside {me} {i} {now} h =
    let m : Moment = moment sc hands p in
    let next : IsWindowLater sc m (moment sc hands (suc p)) = window-later sc hands m inside in
    let good : is_good_at sc m me i ≡ true = good-back sc hands p (suc p) me i (omega arith) h.good in
    let old = good-state sc hands p me i (has_ticks lawful) good in
    record {
      st = old.0;
      node = good-node sc m me i old.1 good;
      is = same_Some (after sc m me i old.0) now (sym (state-after sc m me i old.0 old.1) ∙ ap (λ nodes. slice_get (of_kind me nodes) i) (sym next.nodes) ∙ h.there);
    }

pub record Turned (sc : Scenario) (m : Moment) (me : Side) (i : ℕ) (now : NodeState) : Type 0 where
  pub st : NodeState
  pub node : IsGoodNode sc m me i st
  pub is : turn_if_known sc.sizes sc.plan me st ≡ now

pub turned : {sc : _} (hands : List HandIn) → IsLawful sc → (p : ℕ) → windows_in sc.sizes ≤ (moment sc hands p).window → {me i now : _}
    → IsGoodNode sc (moment sc hands (suc p)) me i now → Turned sc (moment sc hands p) me i now
turned {sc} hands lawful p over {me} {i} {now} h =
    let m : Moment = moment sc hands p in
    let next : IsFrameLater sc hands m (moment sc hands (suc p)) = frame-later sc hands m over in
    let good : is_good_at sc m me i ≡ true = good-back sc hands p (suc p) me i (omega arith) h.good in
    let old = good-state sc hands p me i (has_ticks lawful) good in
    record {
      st = old.0;
      node = good-node sc m me i old.1 good;
      is = same_Some (turn_if_known sc.sizes sc.plan me old.0) now
          (sym (state-turned sc hands m me i old.0 old.1) ∙ ap (λ nodes. slice_get (of_kind me nodes) i) (sym next.nodes) ∙ h.there);
    }

-- a node that is good in the first window of a frame knew its epoch after the last stage of the
-- frame before
pub record KnewThen (sc : Scenario) (m : Moment) (me : Side) (i epoch : ℕ) : Type 0 where
  pub st : NodeState
  pub node : IsGoodNode sc m me i st
  pub known : new_epoch_of sc.plan me (after sc m me i st) ≡ Some epoch

pub knew-then : {sc : _} (hands : List HandIn) → IsLawful sc → (p : ℕ) → (moment sc hands p).window + 1 ≡ stages_in sc.sizes → {me i now : _}
    → IsGoodNode sc (moment sc hands (suc (suc (suc p)))) me i now → KnewThen sc (moment sc hands p) me i now.epoch
knew-then {sc} hands lawful p last {me} {i} {now} h =
    let m : Moment = moment sc hands p in
    let m1 : Moment = moment sc hands (suc p) in
    let m2 : Moment = moment sc hands (suc (suc p)) in
    let w1 : IsWindowLater sc m m1 = window-later sc hands m (omega arith) in
    let e1 : m1.window ≡ m.window + 1 = w1.window in
    let w2 : IsWindowLater sc m1 m2 = window-later sc hands m1 (omega arith) in
    let e2 : m2.window ≡ m1.window + 1 = w2.window in
    let t : Turned sc m2 me i now = turned hands lawful (suc (suc p)) (omega arith) h in
    let b : Came sc m1 me i t.st = came hands lawful (suc p) (omega arith) t.node in
    let a : Came sc m me i b.st = came hands lawful p (omega arith) b.node in
    let good : is_good sc me i m1.frame (sync_slot_of sc.sizes) ≡ true = ap (is_good sc me i m1.frame) (sym (slot_last sc.sizes 3 (omega arith))) ∙ b.node.good in
    let left : Leaves b.st (after sc m1 me i b.st) = tail_leaves (tail_windows sc m1 (omega arith)) me i b.st good in
    let stood : Stands sc m2 me t.st = (moments-stand sc hands (suc (suc p)) (has_ticks lawful)).stands me i t.st t.node.there t.node.good in
    let known : Knows sc.sizes me (windows_in sc.sizes) t.st = subst (λ n. Knows sc.sizes me n t.st) (omega arith) stood.knows in
    let x = the-epoch (new_epoch_of sc.plan me t.st) (epoch-known sc.plan me known) in
    let e : x.0 ≡ now.epoch = sym (turned-epoch sc.sizes sc.plan me t.st x.1) ∙ ap (λ z. z.epoch) t.is in
    record {
      st = a.st;
      node = a.node;
      known = ap (new_epoch_of sc.plan me) a.is ∙ same-next sc.plan me left ∙ ap (new_epoch_of sc.plan me) b.is ∙ x.1 ∙ ap Some e;
    }
  where
    the-epoch : (o : Option ℕ) → is_some o ≡ true → (x : ℕ) × (o ≡ Some x)
    the-epoch None h = cc
    the-epoch (Some x) h = (x, refl)
