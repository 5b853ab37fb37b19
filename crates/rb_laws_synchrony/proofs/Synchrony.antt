-- In every moment of a run that has not ended good nodes are near each other.
use Rattle.std.proofs.{Common.{◌≡◌, ℕ, zero, suc, ◌+◌, ◌-◌, ◌*◌, ◌≤◌, ◌<◌, nat_lt, false, List, [], length, get_or, Some, slice_get, refl, sym, ◌∙◌, ap, subst, arith, inl, inr, lit<}, lemmas.Bool.{cases_lt, lt-ltb, ltb-true}, lemmas.Option.same_Some}
use Rattle.rb_base.specs.Sizes.{sync_slot_of}
use Rattle.rb_rules.specs.{Book.{each_of, of_kind}, Clock.{Timeline, time_of}, Conviction.turn, Goodness.{Scenario, clock_of, clock_place}, Lawful.IsLawful, Moments.IsRunning, NodeState.first_state, Ports.HandIn, Rounds.{begin_frame, first_moment, moment, next_frame, step, windows_in}, Slots.count_of}
use Rattle.rb_rules.proofs.{Middles.IsBetween, Slots.place-within, WindowNumbers.get-made}
use Rattle.rb_laws_agreement.proofs.{Agreement.{IsAgreed, agreement, running_before, step_is}, FrameAgrees.{TurnedFrom, agree_first, first_shared, turned_from}, FrameTimes.turned-epoch, Goodnesses.good_counts, Invariant.{Agree, Shared, slot_numbered}, JudgedWindows.{IsPassed, passed, rows_of}, NextMoments.next, SyncAgrees.{agree_sync, book_sync, stage_setting, tail_setting}}
use Rattle.rb_laws_synchrony.proofs.{LastStage.{near_tail, near_third}, LaterStages.near_second, Middles.{HasLeast, least_of}, StageCalls.Begun, SyncSteps.{IsPassedStage, near_exact, near_first, passed_stage}, Synchronous.{KnowNext, KnowsEpoch, Synchronous}, TakenCalls.IsStage}

-- ---- the first frame

-- the clocks start at most p apart
starts : {sc : _} → IsLawful sc → HasLeast (λ k. nat_lt k (length sc.clocks)) (λ k. (get_or sc.clocks k (record { start = 0; segments = [] })).start) sc.plan.p (length sc.clocks)
starts {sc} law =
    let none : Timeline = record { start = 0; segments = [] } in
    least_of (λ k. nat_lt k (length sc.clocks)) (λ k. (get_or sc.clocks k none).start) sc.plan.p
    (λ i j g h. law.starts i none (ltb-true i (length sc.clocks) g) j none (ltb-true j (length sc.clocks) h)) (length sc.clocks)

-- all begin frame 0 with tick 0
begun-first : {sc : _} (hands : List HandIn) (law : IsLawful sc) → Begun sc (first_moment sc hands) (starts law).least
unfolding begin_frame
begun-first {sc} hands law me i st h =
    let counted : i < count_of me sc.sizes = good_counts sc me i 0 (slot_numbered sc.sizes 0) h.good in
    let made : slice_get (of_kind me (each_of sc.sizes (λ me i. first_state sc.sizes me))) i ≡ Some (first_state sc.sizes me) =
    get-made sc.sizes (λ me i. first_state sc.sizes me) me i counted in
    let same : first_state sc.sizes me ≡ st = same_Some (first_state sc.sizes me) st (sym made ∙ h.there) in
    let within : clock_place sc.sizes me i < length sc.clocks = place-within sc.sizes me i (length sc.clocks) law.one_clock_each counted in
    subst (λ st. IsBetween (starts law).least ((starts law).least + sc.plan.p) (time_of (clock_of sc me i) st.epoch)) same
    ((starts law).at (clock_place sc.sizes me i) within (lt-ltb (clock_place sc.sizes me i) (length sc.clocks) within))

near-first : {sc : _} (hands : List HandIn) (law : IsLawful sc) → Synchronous sc (first_moment sc hands) (first_shared sc) (starts law).least
unfolding begin_frame
near-first hands law = record {
  begun = begun-first hands law;
  first = λ at. absurd (omega arith);
  first_near = λ at. absurd (omega arith);
  second = λ at. absurd (omega arith);
  second_near = λ at. absurd (omega arith);
  third = λ late. absurd (omega arith);
}

-- ---- from frame to frame

near-turned : {sc hands n m s : _} (t : Shared) {low : ℕ} → Agree sc hands n m s → m.window ≡ windows_in sc.sizes → (sync : Synchronous sc m s low)
    → (later : ℕ) × Synchronous sc (next_frame sc hands m) t later
unfolding begin_frame
near-turned {sc} {m} t agree at sync = (
  known.0,
  record {
    begun = λ me i now h.
        let from : TurnedFrom sc m me i now = turned_from agree h in
        let k : KnowsEpoch sc me i from.st known.0 = known.1 me i from.st from.was in
        let e : k.takes.epoch ≡ now.epoch = sym (turned-epoch sc.sizes sc.plan me from.st k.takes.known) ∙ ap (λ x. x.epoch) from.is in
        subst (λ x. IsBetween known.0 (known.0 + sc.plan.p) (time_of (clock_of sc me i) x)) e k.between;
    first = λ at. absurd (omega arith);
    first_near = λ at. absurd (omega arith);
    second = λ at. absurd (omega arith);
    second_near = λ at. absurd (omega arith);
    third = λ late. absurd (omega arith);
  },
)
  where
    known : KnowNext sc m
    known = sync.third (omega arith)

-- ---- the run

pub record IsSynchronous (sc : Scenario) (hands : List HandIn) (n : ℕ) : Type 0 where
  pub shared : Shared
  pub agree : Agree sc hands n (moment sc hands n) shared
  pub low : ℕ
  pub near : Synchronous sc (moment sc hands n) shared low

synchronous : {sc hands n m s low : _} → m ≡ moment sc hands n → Agree sc hands n m s → Synchronous sc m s low → IsSynchronous sc hands n
synchronous {sc} {hands} {n} {m} {s} {low} is agree near = record {
  shared = s;
  agree = subst (λ m. Agree sc hands n m s) is agree;
  low = low;
  near = subst (λ m. Synchronous sc m s low) is near;
}

-- the moment is one at which all agree already
agreed-near : {sc hands n m : _} (low : ℕ) → m ≡ moment sc hands n → IsAgreed sc hands n → ((t : Shared) → Synchronous sc m t low) → IsSynchronous sc hands n
agreed-near {sc} {m} low is a near =
    record { shared = a.shared; agree = a.agree; low = low; near = subst (λ m. Synchronous sc m a.shared low) is (near a.shared) }

stage-step : {sc hands n m s low : _} (q : ℕ) → IsLawful sc → Agree sc hands n m s → Synchronous sc m s low
    → (small : q < 3) → (at : m.window ≡ 3 * sync_slot_of sc.sizes + q) → (next sc m).book.ended ≡ false → next sc m ≡ moment sc hands (suc n)
    → (IsPassedStage sc hands n m s q → Synchronous sc (next sc m) s low) → IsSynchronous sc hands (suc n)
stage-step {sc} {hands} {n} {m} {s} q law agree sync small at running is near =
    let through : IsPassed sc (record { frame = m.frame; slot = sync_slot_of sc.sizes; stage = q + 1 }) (rows_of sc m) m.book =
    passed sc (record { frame = m.frame; slot = sync_slot_of sc.sizes; stage = q + 1 }) (rows_of sc m) m.book (ap (λ b. b.ended) (sym (book_sync sc m q small at)) ∙ running) in
    let stage : IsStage sc hands n m s q = record { law = law; agree = agree; small = small; at = at } in
    synchronous is
    (agree_sync (stage_setting q small at law agree through) is)
    (near (passed_stage stage through))

sync-step : {sc hands n m s low : _} (q : ℕ) → IsLawful sc → Agree sc hands n m s → Synchronous sc m s low
    → q < 4 → m.window ≡ 3 * sync_slot_of sc.sizes + q → (next sc m).book.ended ≡ false → next sc m ≡ moment sc hands (suc n) → IsSynchronous sc hands (suc n)
sync-step zero law agree sync small at running is =
    stage-step 0 law agree sync (lit< tt) at running is (λ c. near_first c sync)
sync-step (suc zero) law agree sync small at running is =
    stage-step 1 law agree sync (lit< tt) at running is (λ c. near_second c sync)
sync-step (suc (suc zero)) law agree sync small at running is =
    stage-step 2 law agree sync (lit< tt) at running is (λ c. near_third c sync)
sync-step (suc (suc (suc zero))) law agree sync small at running is =
    synchronous is (agree_sync (tail_setting at law agree) is)
    (near_tail agree at sync)
sync-step (suc (suc (suc (suc q)))) law agree sync small at running is = absurd (omega arith)

step-near : {sc hands n m s low : _} → IsLawful sc → m ≡ moment sc hands n → Agree sc hands n m s → Synchronous sc m s low
    → (step sc hands m).book.ended ≡ false → IsAgreed sc hands (suc n) → IsSynchronous sc hands (suc n)
step-near {sc} {hands} {n} {m} {low} law is agree sync running later =
    elim (step_is sc hands m running) [
      | inl window ↦
          let then : next sc m ≡ moment sc hands (suc n) = sym window.1 ∙ ap (step sc hands) is in
          let open_on : (next sc m).book.ended ≡ false = ap (λ x. x.book.ended) (sym window.1) ∙ running in
          let inside : m.window < windows_in sc.sizes = window.0 in
          elim (cases_lt m.window (3 * sync_slot_of sc.sizes)) [
            | inl exact ↦ agreed-near low then later (λ t. near_exact t agree sync.begun exact)
            | inr late ↦ sync-step (m.window - 3 * sync_slot_of sc.sizes) law agree sync (omega arith) (omega arith) open_on then
          ]
      | inr turn ↦
          let bound : m.window ≤ windows_in sc.sizes = agree.window in
          let over : windows_in sc.sizes ≤ m.window = turn.0 in
          let full : m.window ≡ windows_in sc.sizes = omega arith in
          let then : next_frame sc hands m ≡ moment sc hands (suc n) = sym turn.1 ∙ ap (step sc hands) is in
          let near = near-turned later.shared agree full sync in
          record { shared = later.shared; agree = later.agree; low = near.0; near = subst (λ m. Synchronous sc m later.shared near.0) then near.1 }
    ]

-- in every moment up to the first breach good nodes are near
pub synchrony : {sc : _} (hands : List HandIn) → IsLawful sc → (n : ℕ) → IsRunning (moment sc hands n) → IsSynchronous sc hands n
synchrony {sc} hands law zero running =
    record { shared = first_shared sc; agree = agree_first hands law; low = (starts law).least; near = near-first hands law }
synchrony {sc} hands law (suc n) running =
    let before : IsSynchronous sc hands n = synchrony hands law n (running_before sc hands (moment sc hands n) running) in
    step-near law refl before.agree before.near running (agreement hands law (suc n) running)
