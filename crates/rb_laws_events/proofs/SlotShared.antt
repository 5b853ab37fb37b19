-- For the law that running nodes agree: what all good nodes hold in common is the same before each
-- of the three stages of a complete slot, and in the sync slot before the tail.
use Rattle.std.proofs.{Common.{◌≡◌, ℕ, zero, suc, ◌+◌, ◌-◌, ◌*◌, ◌<◌, ◌≤◌, inl, inr, ap, sym, ◌∙◌, subst, arith, List}, lemmas.Bool.cases_lt}
use Rattle.rb_base.specs.Sizes.{sync_slot_of}
use Rattle.rb_rules.specs.{Goodness.Scenario, Lawful.IsLawful, Moments.{IsComplete, IsRunning, before_stage}, Ports.HandIn, Rounds.{Moment, step}}
use Rattle.rb_laws_agreement.proofs.{Invariant.{Agree, Shared}, JudgedWindows.{IsPassed, passed, rows_of}, NextMoments.next, Places.{IsPlaced, complete_before, placed}, SlotRuns.{IsSlot, slot_runs, stage_next, step_through}, SyncAgrees.{agree_sync, book_sync, stage_setting}}

-- what all good nodes hold in common before a stage
pub record SharedAt (sc : Scenario) (hands : List HandIn) (frame slot : ℕ) (s : Shared) (stage : ℕ) : Type 0 where
  pub steps : ℕ
  pub agree : Agree sc hands steps (before_stage sc hands frame slot stage) s

pub record SharedIn (sc : Scenario) (hands : List HandIn) (frame slot : ℕ) : Type 0 where
  pub shared : Shared
  pub at : (stage : ℕ) → 1 ≤ stage → stage ≤ 3 → SharedAt sc hands frame slot shared stage
  pub tail : slot ≡ sync_slot_of sc.sizes → SharedAt sc hands frame slot shared 4

of-three : {sc hands frame slot s : _} → SharedAt sc hands frame slot s 1 → SharedAt sc hands frame slot s 2 → SharedAt sc hands frame slot s 3
    → (stage : ℕ) → 1 ≤ stage → stage ≤ 3 → SharedAt sc hands frame slot s stage
of-three a b c zero some most = absurd (omega (arith, some))
of-three a b c (suc zero) some most = a
of-three a b c (suc (suc zero)) some most = b
of-three a b c (suc (suc (suc zero))) some most = c
of-three a b c (suc (suc (suc (suc n)))) some most = absurd (omega (arith, most))

-- `SharedIn` holds for a complete slot below the sync slot
below-sync : {sc hands : _} → IsLawful sc → {frame slot : ℕ} → slot < sync_slot_of sc.sizes → IsComplete sc hands frame slot → SharedIn sc hands frame slot
below-sync {sc} {hands} lawful {frame} {slot} below complete =
    let r : IsSlot sc hands frame slot = slot_runs lawful below complete in
    record {
      shared = r.shared;
      at = of-three
          (record { steps = r.steps; agree = r.first.agree })
          (record { steps = suc r.steps; agree = subst (λ (m : Moment). Agree sc hands (suc r.steps) m r.shared) r.after_first r.second.agree })
          (record { steps = suc (suc r.steps); agree = subst (λ (m : Moment). Agree sc hands (suc (suc r.steps)) m r.shared) r.after_second r.third.agree });
      tail = λ same. absurd (omega (arith, below, same));
    }

-- a stage of the sync slot leaves what all good nodes share
sync-on : {sc hands : _} → IsLawful sc → {frame : ℕ} (q : ℕ) {s : _} → q < 3 → IsComplete sc hands frame (sync_slot_of sc.sizes)
    → SharedAt sc hands frame (sync_slot_of sc.sizes) s (q + 1) → SharedAt sc hands frame (sync_slot_of sc.sizes) s (q + 1 + 1)
sync-on {sc} {hands} lawful {frame} q {s} small complete h =
    let slot : ℕ = sync_slot_of sc.sizes in
    let m : Moment = before_stage sc hands frame slot (q + 1) in
    let running : IsRunning m = complete_before sc hands frame slot (q + 1) (omega (arith, small)) complete in
    let p : IsPlaced sc hands frame slot (q + 1) = placed hands lawful frame slot (q + 1) (omega arith) (omega arith) (omega (arith, small)) running in
    let at : m.window ≡ 3 * slot + q = p.window_is ∙ less (3 * slot) q in
    let on : step sc hands m ≡ before_stage sc hands frame slot (q + 1 + 1) = stage_next sc hands frame slot (q + 1) (omega arith) in
    let then_runs : IsRunning (before_stage sc hands frame slot (q + 1 + 1)) = complete_before sc hands frame slot (q + 1 + 1) (omega (arith, small)) complete in
    let runs : IsRunning (step sc hands m) = ap (λ (m : Moment). m.book.ended) on ∙ then_runs in
    let through : step sc hands m ≡ next sc m = step_through sc hands m (omega (arith, at, small)) runs in
    let is_passed : IsPassed sc (record { frame = m.frame; slot = slot; stage = q + 1 }) (rows_of sc m) m.book =
    passed sc (record { frame = m.frame; slot = slot; stage = q + 1 }) (rows_of sc m) m.book
    (ap (λ b. b.ended) (sym (book_sync sc m q small at)) ∙ ap (λ (m : Moment). m.book.ended) (sym through) ∙ runs) in
    record {
      steps = suc h.steps;
      agree = subst (λ (m : Moment). Agree sc hands (suc h.steps) m s) (sym through ∙ on)
          (agree_sync (stage_setting q small at lawful h.agree is_passed)
          (sym through ∙ ap (step sc hands) h.agree.is));
    }
  where
    less : (a q : ℕ) → a + (q + 1 - 1) ≡ a + q
    less a q = omega arith

in-sync : {sc hands : _} → IsLawful sc → {frame : ℕ} → IsComplete sc hands frame (sync_slot_of sc.sizes) → SharedIn sc hands frame (sync_slot_of sc.sizes)
in-sync {sc} {hands} lawful {frame} complete =
    let slot : ℕ = sync_slot_of sc.sizes in
    let p : IsPlaced sc hands frame slot 1 =
    placed hands lawful frame slot 1 (omega arith) (omega arith) (omega arith) (complete_before sc hands frame slot 1 (omega arith) complete) in
    let a : SharedAt sc hands frame slot p.shared 1 = record { steps = p.steps; agree = p.agree } in
    let b : SharedAt sc hands frame slot p.shared 2 = sync-on lawful 0 (omega arith) complete a in
    let c : SharedAt sc hands frame slot p.shared 3 = sync-on lawful 1 (omega arith) complete b in
    record { shared = p.shared; at = of-three a b c; tail = λ same. sync-on lawful 2 (omega arith) complete c }

-- `SharedIn` holds for each complete slot
pub shared-in : {sc hands : _} → IsLawful sc → {frame slot : ℕ} → slot ≤ sync_slot_of sc.sizes → IsComplete sc hands frame slot → SharedIn sc hands frame slot
shared-in {sc} {hands} lawful {frame} {slot} le complete =
    elim (cases_lt slot (sync_slot_of sc.sizes)) [
      | inl lt ↦ below-sync lawful lt complete
      | inr ge ↦
          let same : sync_slot_of sc.sizes ≡ slot = omega (arith, le, ge) in
          subst (SharedIn sc hands frame) same (in-sync lawful (subst (IsComplete sc hands frame) (sym same) complete))
    ]
