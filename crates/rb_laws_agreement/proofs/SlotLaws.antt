-- What good nodes hold before a slot, and whom they accuse after it.
use Rattle.std.proofs.{Common.{◌≡◌, ℕ, suc, ◌+◌, ◌-◌, ◌*◌, ◌<◌, ◌≤◌, ◌&&◌, nat_lt, not, true, List, slice_get, inl, inr, sym, ◌∙◌, ap, subst, arith, lit<}, lemmas.Bool.{and_right, cases_lt}}
use Rattle.rb_base.specs.{Nodes.{Side, other, has}, Sizes.sync_slot_of}
use Rattle.rb_base.proofs.Sets.{has-set_of}
use Rattle.rb_rules.specs.{Book.of_kind, Goodness.{Scenario, is_good}, Headline.HoldOneSchedule, Lawful.IsLawful, Moments.{before_stage, before_slot, after_slot, IsRunning, IsComplete, IsGoodBefore, IsGoodAfter}, NodeState.{NodeState, trusted_of}, Ports.HandIn, Rounds.{Moment, step}, Slots.count_of, StandsFor.SparesAllGood}
use Rattle.rb_laws_agreement.specs.Laws.{TrustAlike, NoGoodNodeIsAccused, NoGoodNodeIsConvicted}
use Rattle.rb_laws_agreement.proofs.{Invariant.{Shared, is_good_now, slot_numbered, Holds}, Goodnesses.{good_below_16, slot_last}, JudgedWindows.{rows_of, IsPassed, passed}, Exchanges.trusted-either, NodeWindows.{Windows, sync_windows_are}, NextMoments.next, Settings.{SparesNode, all_spared, after}, ThirdStages.{carried_3, none_unlike_3}, SyncAgrees.{SyncSetting, stage_setting, leaves, spared, book_sync}, Places.{IsPlaced, placed, complete_before, good_before_slot}, SlotRuns.{IsSlot, slot_runs, good_in_stage, StateFrom, state_from, third_frame, step_through, stage_next}, FrameBegins.settled_before}

-- What is held before a slot.

-- what a good node holds before a slot that is settled
pub record HoldsBefore (sc : Scenario) (hands : List HandIn) (frame slot : ℕ) : Type 0 where
  pub shared : Shared
  pub holds : (me : Side) (i : ℕ) (st : NodeState) → IsGoodBefore sc hands frame slot me i st → Holds sc (before_slot sc hands frame slot) shared me st
  pub trusted : (kind : Side) (j : ℕ) → is_good sc kind j frame slot ≡ true → has (shared.trusted kind) j ≡ true

pub held_before : {sc : _} (hands : List HandIn) → IsLawful sc → (frame slot : ℕ) → slot ≤ sync_slot_of sc.sizes → IsRunning (before_slot sc hands frame slot)
    → HoldsBefore sc hands frame slot
held_before {sc} hands law frame slot le running =
    let p : IsPlaced sc hands frame slot 1 = placed hands law frame slot 1 le (omega arith) (omega arith) running in
    record {
      shared = p.shared;
      holds = λ me i st h. p.agree.nodes me i st (good_before_slot le p h);
      trusted = λ kind j good.
          p.agree.trusted kind j (ap (λ f. is_good sc kind j f (slot_numbered sc.sizes (before_slot sc hands frame slot).window)) p.frame_is
          ∙ ap (is_good sc kind j frame) (here (before_slot sc hands frame slot).window p.window_is) ∙ good);
    }
  where
    here : (window : ℕ) → window ≡ 3 * slot + (1 - 1) → slot_numbered sc.sizes window ≡ slot
    here window e = omega arith

pub trust-alike : {sc : _} (hands : List HandIn) → IsLawful sc → TrustAlike sc hands
trust-alike {sc} hands law frame slot le settled me you i j mine yours h k kind =
    let b : HoldsBefore sc hands frame slot = held_before hands law frame slot le (settled_before hands law frame slot settled) in
    (b.holds me i mine h).trusted kind ∙ sym ((b.holds you j yours k).trusted kind)

pub one-schedule : {sc : _} (hands : List HandIn) → IsLawful sc → HoldOneSchedule sc hands
one-schedule {sc} hands law frame slot first le complete me you i j mine yours h k =
    let b : HoldsBefore sc hands frame slot = held_before hands law frame slot le (complete_before sc hands frame slot 1 (omega arith) complete) in
    (b.holds me i mine h).owners ∙ sym (b.holds you j yours k).owners

-- no good node is convicted
pub none_convicted : NoGoodNodeIsConvicted
none_convicted sc hands law frame slot le settled me i st h kind j good =
    let b : HoldsBefore sc hands frame slot = held_before hands law frame slot le (settled_before hands law frame slot settled) in
    let trusts : has (trusted_of me kind st) j ≡ true = ap (λ t. has t j) (trusted-either me kind st ∙ (b.holds me i st h).trusted kind) ∙ b.trusted kind j good in
    has-set_of j (λ j. nat_lt j (count_of kind sc.sizes) && not (has (trusted_of me kind st) j)) (good_below_16 sc law.sizes kind j frame slot good)
    ∙ and_right (nat_lt j (count_of kind sc.sizes)) (not (has (trusted_of me kind st) j)) (ap not trusts)

-- Who is accused after a slot.

-- the last stage of a frame's sync slot, with what the good nodes share before it
pub record IsSyncEnd (sc : Scenario) (hands : List HandIn) (frame : ℕ) : Type 0 where
  pub shared : Shared
  pub steps : ℕ
  pub at : (before_stage sc hands frame (sync_slot_of sc.sizes) 3).window ≡ 3 * sync_slot_of sc.sizes + 2
  pub ws : Windows sc (before_stage sc hands frame (sync_slot_of sc.sizes) 3) (sync_slot_of sc.sizes) 3
  pub setting : SyncSetting sc hands steps (before_stage sc hands frame (sync_slot_of sc.sizes) 3) shared 2 ws
  pub frame_is : (before_stage sc hands frame (sync_slot_of sc.sizes) 3).frame ≡ frame
  pub then : next sc (before_stage sc hands frame (sync_slot_of sc.sizes) 3) ≡ after_slot sc hands frame (sync_slot_of sc.sizes)

pub sync_ends : {sc hands : _} → IsLawful sc → {frame : ℕ} → IsComplete sc hands frame (sync_slot_of sc.sizes) → IsSyncEnd sc hands frame
sync_ends {sc} {hands} law {frame} complete =
    let s : ℕ = sync_slot_of sc.sizes in
    let m : Moment = before_stage sc hands frame s 3 in
    let p : IsPlaced sc hands frame s 3 = placed hands law frame s 3 (omega arith) (omega arith) (omega arith) (complete_before sc hands frame s 3 (omega arith) complete) in
    let at : m.window ≡ 3 * s + 2 = p.window_is in
    let small : 2 < 3 = lit< tt in
    let stepped : step sc hands m ≡ after_slot sc hands frame s = stage_next sc hands frame s 3 (omega arith) in
    let then : next sc m ≡ after_slot sc hands frame s =
    sym (step_through sc hands m (omega arith) (ap (λ m. m.book.ended) stepped ∙ complete)) ∙ stepped in
    let through : IsPassed sc (record { frame = m.frame; slot = s; stage = 3 }) (rows_of sc m) m.book =
    passed sc (record { frame = m.frame; slot = s; stage = 3 }) (rows_of sc m) m.book
    (ap (λ b. b.ended) (sym (book_sync sc m 2 (omega arith) at)) ∙ ap (λ m. m.book.ended) then ∙ complete) in
    record {
      shared = p.shared;
      steps = p.steps;
      at = at;
      ws = sync_windows_are sc m 2 small at;
      setting = stage_setting 2 small at law p.agree through;
      frame_is = p.frame_is;
      then = then;
    }

-- a node that is good in the sync slot is good before its last stage
pub good_at_end : {sc hands frame : _} (e : IsSyncEnd sc hands frame) (me : Side) (i : ℕ)
    → is_good sc me i frame (sync_slot_of sc.sizes) ≡ true → is_good_now sc (before_stage sc hands frame (sync_slot_of sc.sizes) 3) me i ≡ true
good_at_end {sc} {hands} {frame} e me i good =
    let m : Moment = before_stage sc hands frame (sync_slot_of sc.sizes) 3 in
    ap (is_good sc me i m.frame) (slot_last sc.sizes 2 e.at) ∙ ap (λ f. is_good sc me i f (sync_slot_of sc.sizes)) e.frame_is ∙ good

spared-below : {sc hands : _} → IsLawful sc → {frame slot : ℕ} → slot < sync_slot_of sc.sizes → IsComplete sc hands frame slot
    → (me : Side) (i : ℕ) (st : NodeState) → IsGoodAfter sc hands frame slot me i st → SparesAllGood sc frame slot me st
spared-below {sc} {hands} law {frame} {slot} below complete me i st h j good =
    let r : IsSlot sc hands frame slot = slot_runs law below complete in
    let m : Moment = next sc (next sc (before_slot sc hands frame slot)) in
    let n : ℕ = suc (suc r.steps) in
    let frame_is : m.frame ≡ frame = third_frame r in
    let from : StateFrom sc m me i st =
    state_from r.third.agree me i (good_in_stage r.third frame_is me i h.good)
    (ap (λ m. slice_get (of_kind me m.nodes) i) r.after_third ∙ h.state) in
    let spares : SparesNode (after sc m me i from.st) j =
    all_spared r.third (carried_3 r.third) (none_unlike_3 r.third) j from.was (good_in_stage r.third frame_is (other me) j good) in (
      ap (λ x. has x.far.direct j) (sym from.is) ∙ spares.direct,
      ap (λ x. has x.far.mismatch j) (sym from.is) ∙ spares.mismatch,
    )

spared-sync : {sc hands : _} → IsLawful sc → {frame : ℕ} → IsComplete sc hands frame (sync_slot_of sc.sizes)
    → (me : Side) (i : ℕ) (st : NodeState) → IsGoodAfter sc hands frame (sync_slot_of sc.sizes) me i st → SparesAllGood sc frame (sync_slot_of sc.sizes) me st
spared-sync {sc} {hands} law {frame} complete me i st h j good =
    let s : ℕ = sync_slot_of sc.sizes in
    let m : Moment = before_stage sc hands frame s 3 in
    let e : IsSyncEnd sc hands frame = sync_ends law complete in
    let from : StateFrom sc m me i st =
    state_from e.setting.agree me i (good_at_end e me i h.good)
    (ap (λ m. slice_get (of_kind me m.nodes) i) e.then ∙ h.state) in
    let there : is_good_now sc m (other me) j ≡ true = good_at_end e (other me) j good in (
      ap (λ x. has x.far.direct j) (sym from.is) ∙ spared e.setting j from.was there,
      ap (λ x. has x.far.mismatch j) (sym from.is)
          ∙ ap (λ x. has x j) (leaves e.setting from.was).mismatch
          ∙ (e.setting.agree.nodes me i from.st from.was).spares.mismatch j there,
    )

pub none_accused : NoGoodNodeIsAccused
none_accused sc hands law frame slot le complete =
    elim (cases_lt slot (sync_slot_of sc.sizes)) [
      | inl below ↦ spared-below law below complete
      | inr late ↦
          let same : sync_slot_of sc.sizes ≡ slot = omega arith in
          let P : ℕ → Type 0 = λ slot. IsComplete sc hands frame slot → (me : Side) (i : ℕ) (st : NodeState) → IsGoodAfter sc hands frame slot me i st → SparesAllGood sc frame slot me st in
          subst P same (spared-sync law) complete
    ]
