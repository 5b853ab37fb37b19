-- A stage of the sync slot that passes, and the start of the next frame by those that were good in
-- it.
use Rattle.std.proofs.Common.{◌≡◌, ℕ, suc, ◌+◌, ◌*◌, ◌<◌, ◌≤◌, true, false, Some, List, inl, inr, sym, ◌∙◌, ap, subst, arith}
use Rattle.rb_base.specs.{Nodes.Side, Sizes.sync_slot_of}
use Rattle.rb_rules.specs.{Goodness.{Scenario, is_good}, Lawful.IsLawful, Moments.IsRunning, NodeState.NodeState, Ports.HandIn, Rounds.{moment, next_frame, windows_in}, SyncStage.new_epoch_of}
use Rattle.rb_laws_agreement.proofs.{Agreement.step_is, FrameAgrees.{TurnedFrom, turned_from}, FrameTimes.turned-epoch, Goodnesses.slot_last, Invariant.{Agree, IsGoodNode, Shared}, JudgedWindows.{IsPassed, passed, rows_of}, NextMoments.{CameFrom, came_from, next}, NodeWindows.{sync_windows_are, tail_windows}, Places.running_earlier, SlotRuns.next-window, SyncAgrees.{SyncSetting, agree_sync, book_sync, stage_setting, tail_setting}, SyncWindows.tail_keeps_epoch}
use Rattle.rb_laws_synchrony.proofs.SyncSteps.{IsPassedStage, passed_stage}

-- moment `k` is before a stage of the sync slot that passes
pub record StageIs (sc : Scenario) (hands : List HandIn) (k : ℕ) (s : Shared) (q : ℕ) : Type 0 where
  pub next_is : next sc (moment sc hands k) ≡ moment sc hands (suc k)
  pub through : IsPassed sc (record { frame = (moment sc hands k).frame; slot = sync_slot_of sc.sizes; stage = q + 1 }) (rows_of sc (moment sc hands k)) (moment sc hands k).book
  pub passes : IsPassedStage sc hands k (moment sc hands k) s q
  pub set : SyncSetting sc hands k (moment sc hands k) s q (sync_windows_are sc (moment sc hands k) q passes.stage.small passes.stage.at)
  pub agree : Agree sc hands (suc k) (moment sc hands (suc k)) s

pub stage_is : {sc hands : _} → IsLawful sc → {k s : _} (q : ℕ) → Agree sc hands k (moment sc hands k) s → q < 3
    → (moment sc hands k).window ≡ 3 * sync_slot_of sc.sizes + q → IsRunning (moment sc hands (suc k)) → StageIs sc hands k s q
stage_is {sc} {hands} law {k} {s} q agree small at running =
    elim (step_is sc hands (moment sc hands k) running) [
      | inl window ↦ by (sym window.1)
      | inr turn ↦ let over : windows_in sc.sizes ≤ (moment sc hands k).window = turn.0 in absurd (omega (arith, over, at, small))
    ]
  where
    by : next sc (moment sc hands k) ≡ moment sc hands (suc k) → StageIs sc hands k s q
    by next_is =
        let goes : (next sc (moment sc hands k)).book.ended ≡ false = ap (λ x. x.book.ended) next_is ∙ running in
        let through : IsPassed sc (record { frame = (moment sc hands k).frame; slot = sync_slot_of sc.sizes; stage = q + 1 }) (rows_of sc (moment sc hands k)) (moment sc hands k).book =
        passed sc (record { frame = (moment sc hands k).frame; slot = sync_slot_of sc.sizes; stage = q + 1 }) (rows_of sc (moment sc hands k)) (moment sc hands k).book
        (ap (λ b. b.ended) (sym (book_sync sc (moment sc hands k) q small at)) ∙ goes) in
        let passes : IsPassedStage sc hands k (moment sc hands k) s q = passed_stage (record { law = law; agree = agree; small = small; at = at }) through in
        let set : SyncSetting sc hands k (moment sc hands k) s q (sync_windows_are sc (moment sc hands k) q passes.stage.small passes.stage.at) =
        stage_setting q passes.stage.small passes.stage.at law agree through in
        record {
          next_is = next_is;
          through = through;
          passes = passes;
          set = set;
          agree = subst (λ m. Agree sc hands (suc k) m s) next_is
              (agree_sync set next_is);
        }

-- the node was good at moment `k`, and begins its next frame with the epoch that it knew then
pub record TurnsAt (sc : Scenario) (hands : List HandIn) (k : ℕ) (me : Side) (i : ℕ) (now : NodeState) : Type 0 where
  pub st : NodeState
  pub was : IsGoodNode sc (moment sc hands k) me i st
  pub epoch : (tick : ℕ) → new_epoch_of sc.plan me st ≡ Some tick → tick ≡ now.epoch

-- if moment `k` is the end of stage 3, `TurnsAt` holds for all nodes that are good at the first
-- moment of the next frame
pub turns_at : {sc hands : _} → IsLawful sc → {k s : _} → Agree sc hands k (moment sc hands k) s → (moment sc hands k).window ≡ 3 * sync_slot_of sc.sizes + 3
    → IsRunning (moment sc hands (suc (suc k))) → {me i now : _} → IsGoodNode sc (moment sc hands (suc (suc k))) me i now → TurnsAt sc hands k me i now
turns_at {sc} {hands} law {k} {s} agree at last {me} {i} {now} node =
    elim (step_is sc hands (moment sc hands k) mid) [
      | inr turn ↦ let over : windows_in sc.sizes ≤ (moment sc hands k).window = turn.0 in absurd (omega (arith, over, at))
      | inl window ↦ elim (step_is sc hands (moment sc hands (suc k)) last) [
        | inl early ↦
            let w : (moment sc hands (suc k)).window ≡ (moment sc hands k).window + 1 = ap (λ x. x.window) window.1 ∙ next-window sc (moment sc hands k) in
            let inside : (moment sc hands (suc k)).window < windows_in sc.sizes = early.0 in absurd (omega (arith, inside, w, at))
        | inr turn ↦ ends (sym window.1) (sym turn.1)
      ]
    ]
  where
    mid : IsRunning (moment sc hands (suc k))
    mid = running_earlier sc hands (suc k) (suc (suc k)) (omega arith) last

    ends : next sc (moment sc hands k) ≡ moment sc hands (suc k) → next_frame sc hands (moment sc hands (suc k)) ≡ moment sc hands (suc (suc k)) → TurnsAt sc hands k me i now
    ends next_is turn_is = record {
      st = from.st;
      was = from.was;
      epoch = λ tick knows. sym (turned-epoch sc.sizes sc.plan me turned.st (known tick knows)) ∙ ap (λ x. x.epoch) turned.is;
    }
      where
        agree_end : Agree sc hands (suc k) (moment sc hands (suc k)) s
        agree_end =
            subst (λ x. Agree sc hands (suc k) x s) next_is
            (agree_sync (tail_setting at law agree) next_is)

        turned : TurnedFrom sc (moment sc hands (suc k)) me i now
        turned = turned_from agree_end (subst (λ x. IsGoodNode sc x me i now) (sym turn_is) node)

        from : CameFrom sc (moment sc hands k) me i turned.st
        from = came_from agree (subst (λ x. IsGoodNode sc x me i turned.st) (sym next_is) turned.was)

        good : is_good sc me i (moment sc hands k).frame (sync_slot_of sc.sizes) ≡ true
        good = ap (is_good sc me i (moment sc hands k).frame) (sym (slot_last sc.sizes 3 at)) ∙ from.was.good

        known : (tick : ℕ) → new_epoch_of sc.plan me from.st ≡ Some tick → new_epoch_of sc.plan me turned.st ≡ Some tick
        known tick knows =
            ap (new_epoch_of sc.plan me) (sym from.is) ∙ tail_keeps_epoch (tail_windows sc (moment sc hands k) at) me i from.st good ∙ knows
