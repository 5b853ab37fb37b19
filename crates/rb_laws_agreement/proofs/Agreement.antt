-- In every moment of a run that has not ended all good nodes agree.
use Rattle.std.proofs.{Common.{◌≡◌, ℕ, zero, suc, ◌+◌, ◌-◌, ◌*◌, ◌/◌, ◌%◌, ◌<◌, ◌≤◌, ◌==◌, nat_lt, Bool, true, false, List, [], ◌∷◌, ◌++◌, ◌⊎◌, inl, inr, refl, sym, ◌∙◌, ap, subst, arith}, lemmas.Bool.{cases_lt, false_from_ne_true, ltb-false, ltb-true}}
use Rattle.rb_base.specs.Sizes.{sync_slot_of}
use Rattle.rb_rules.specs.{Book.{Book, with_end}, Book.Record.Ended, Goodness.Scenario, Lawful.IsLawful, Moments.IsRunning, Ports.HandIn, Rounds.{Moment, next_frame, step, moment, windows_in}}
use Rattle.rb_rules.proofs.Books.{step-on, stepped}
use Rattle.rb_laws_agreement.proofs.{Invariant.{Shared, Agree}, ExactAgrees.{agree_1, agree_2, agree_3}, FrameAgrees.{first_shared, agree_first, agree_frame}, JudgedWindows.{rows_of, IsPassed, passed}, NextMoments.{next, book_exact}, Settings.Setting, SyncAgrees.{agree_sync, book_sync, stage_setting, tail_setting}}

-- What a step is while the run goes on.

pub ended-end : (b : Book) → (with_end b).ended ≡ true
ended-end b = go b.ended refl
  where
    go : (e : Bool) → b.ended ≡ e → (elim e as (λ _. Book) [ true ↦ b | false ↦ record b { given = b.given ++ Ended ∷ []; ended = true } ]).ended ≡ true
    go true h = h
    go false h = refl

-- a step goes through a window, or begins a frame
abbrev pub IsStep : Scenario → List HandIn → Moment → Type 0
IsStep sc hands m =
    ((m.window < windows_in sc.sizes) × (step sc hands m ≡ next sc m))
    ⊎ ((windows_in sc.sizes ≤ m.window) × (step sc hands m ≡ next_frame sc hands m))

stepped-is : (sc : Scenario) (hands : List HandIn) (m : Moment) (over in_frame : Bool) → nat_lt m.window (windows_in sc.sizes) ≡ in_frame
    → (stepped sc hands m over in_frame).book.ended ≡ false
    → ((m.window < windows_in sc.sizes) × (stepped sc hands m over in_frame ≡ next sc m))
    ⊎ ((windows_in sc.sizes ≤ m.window) × (stepped sc hands m over in_frame ≡ next_frame sc hands m))
stepped-is sc hands m true in_frame e h = let both : true ≡ false = sym (ended-end m.book) ∙ h in cc
stepped-is sc hands m false true e h = inl (ltb-true m.window (windows_in sc.sizes) e, refl)
stepped-is sc hands m false false e h = inr (ltb-false m.window (windows_in sc.sizes) e, refl)

pub step_is : (sc : Scenario) (hands : List HandIn) (m : Moment) → (step sc hands m).book.ended ≡ false → IsStep sc hands m
unfolding step
step_is sc hands m h = stepped-is sc hands m (m.frame == sc.frames) (nat_lt m.window (windows_in sc.sizes)) refl h

-- a run that has not ended by a moment has not ended before
pub running_before : (sc : Scenario) (hands : List HandIn) (m : Moment) → (step sc hands m).book.ended ≡ false → m.book.ended ≡ false
running_before sc hands m h =
    false_from_ne_true m.book.ended (λ ended.
    let same : (step sc hands m).book ≡ m.book = (step-on sc hands m).over ended in
    let both : true ≡ false = sym ended ∙ ap (λ b. b.ended) (sym same) ∙ h in cc)

-- The agreement of a moment.

pub record IsAgreed (sc : Scenario) (hands : List HandIn) (n : ℕ) : Type 0 where
  pub shared : Shared
  pub agree : Agree sc hands n (moment sc hands n) shared

agreed : {sc hands n m s : _} → m ≡ moment sc hands n → Agree sc hands n m s → IsAgreed sc hands n
agreed {sc} {hands} {n} {m} {s} is agree = record { shared = s; agree = subst (λ m. Agree sc hands n m s) is agree }

-- if the run does not end with stage q + 1 of a slot below the sync slot, its window is a setting
pub exact-setting : {sc hands n m s : _} (slot q : ℕ) → IsLawful sc → Agree sc hands n m s
    → slot < sync_slot_of sc.sizes → q < 3 → m.window ≡ 3 * slot + q → (next sc m).book.ended ≡ false → Setting sc hands n m s slot q
exact-setting {sc} {m} slot q law agree below small at running = record {
  law = law;
  agree = agree;
  below = below;
  small = small;
  at = at;
  passed = passed sc (record { frame = m.frame; slot = slot; stage = q + 1 }) (rows_of sc m) m.book
      (ap (λ b. b.ended) (sym (book_exact sc m slot q below small at)) ∙ running);
}

exact-step : {sc hands n m s slot : _} (q : ℕ) → Setting sc hands n m s slot q
    → next sc m ≡ moment sc hands (suc n) → IsAgreed sc hands (suc n)
exact-step zero c is = agreed is (agree_1 c is)
exact-step (suc zero) c is = agreed is (agree_2 c is)
exact-step (suc (suc zero)) c is =
    agreed is (agree_3 c is)
exact-step (suc (suc (suc q))) c is = let small : suc (suc (suc q)) < 3 = c.small in absurd (omega arith)

-- all good nodes agree after a window of the sync slot that does not end the run
sync-step : {sc hands n m s : _} (q : ℕ) → IsLawful sc → Agree sc hands n m s
    → q < 4 → m.window ≡ 3 * sync_slot_of sc.sizes + q → (next sc m).book.ended ≡ false → next sc m ≡ moment sc hands (suc n) → IsAgreed sc hands (suc n)
sync-step {sc} {m} q law agree small at running is =
    elim (cases_lt q 3) [
      | inl stage ↦
          let through : IsPassed sc (record { frame = m.frame; slot = sync_slot_of sc.sizes; stage = q + 1 }) (rows_of sc m) m.book =
          passed sc (record { frame = m.frame; slot = sync_slot_of sc.sizes; stage = q + 1 }) (rows_of sc m) m.book
          (ap (λ b. b.ended) (sym (book_sync sc m q stage at)) ∙ running) in
          agreed is
          (agree_sync (stage_setting q stage at law agree through) is)
      | inr tail ↦
          let e : m.window ≡ 3 * sync_slot_of sc.sizes + 3 = omega arith in
          agreed is (agree_sync (tail_setting e law agree) is)
    ]

window-step : {sc hands n m s : _} → IsLawful sc → Agree sc hands n m s
    → m.window < windows_in sc.sizes → (next sc m).book.ended ≡ false → next sc m ≡ moment sc hands (suc n) → IsAgreed sc hands (suc n)
window-step {sc} {m} law agree below running is =
    elim (cases_lt m.window (3 * sync_slot_of sc.sizes)) [
      | inl exact ↦
          let slot : ℕ = m.window / 3 in
          let q : ℕ = m.window % 3 in
          exact-step q (exact-setting slot q law agree (omega arith) (omega arith) (omega arith) running) is
      | inr late ↦
          let q : ℕ = m.window - 3 * sync_slot_of sc.sizes in
          sync-step q law agree (omega arith) (omega arith) running is
    ]

step-agrees : {sc hands n m s : _} → IsLawful sc → m ≡ moment sc hands n → Agree sc hands n m s
    → (step sc hands m).book.ended ≡ false → IsAgreed sc hands (suc n)
step-agrees {sc} {hands} {n} {m} law is agree running =
    elim (step_is sc hands m running) [
      | inl window ↦
          window-step law agree window.0 (ap (λ x. x.book.ended) (sym window.1) ∙ running)
          (sym window.1 ∙ ap (step sc hands) is)
      | inr turn ↦
          let bound : m.window ≤ windows_in sc.sizes = agree.window in
          let over : windows_in sc.sizes ≤ m.window = turn.0 in
          let full : m.window ≡ windows_in sc.sizes = omega arith in
          let then : next_frame sc hands m ≡ moment sc hands (suc n) = sym turn.1 ∙ ap (step sc hands) is in
          agreed then
          (agree_frame (record { law = law; agree = agree; at = full }) then)
    ]

-- in every moment up to the first breach all good nodes agree
pub agreement : {sc : _} (hands : List HandIn) → IsLawful sc → (n : ℕ) → IsRunning (moment sc hands n) → IsAgreed sc hands n
agreement {sc} hands law zero running = record { shared = first_shared sc; agree = agree_first hands law }
agreement {sc} hands law (suc n) running =
    let before : IsAgreed sc hands n = agreement hands law n (running_before sc hands (moment sc hands n) running) in
    step-agrees law refl before.agree running
