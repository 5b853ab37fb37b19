-- In a frame a good node trusts the same nodes, and its votes on finished slots stay.
use Rattle.std.proofs.{Common.{◌≡◌, ℕ, zero, suc, ◌+◌, ◌-◌, ◌*◌, ◌/◌, ◌%◌, ◌<◌, ◌≤◌, false, List, get_or, inl, inr, refl, sym, ◌∙◌, ap, subst, arith}, lemmas.Bool.cases_lt}
use Rattle.rb_base.specs.{Nodes.Side, Sizes.sync_slot_of, declared.values.Heard.TheVariants.Fault}
use Rattle.rb_rules.specs.{Goodness.Scenario, Lawful.IsLawful, Moments.IsRunning, NodeState.{NodeState, trusted_of}, Ports.HandIn, Rounds.{moment, sent_in, step, window_in, windows_in}}
use Rattle.rb_rules.proofs.RoundStates.{through-stays}
use Rattle.rb_laws_agreement.proofs.{Agreement.{IsAgreed, agreement, exact-setting, running_before, step_is}, Invariant.IsGoodNode, JudgedWindows.{passed, rows_of, stays-trusted}, NextMoments.{CameFrom, came_from, next}, SlotRuns.{next-frame, next-window}, SyncAgrees.{book_sync, leaves, stage_setting, tail_setting}, ThirdStages.other_votes_kept}
use Rattle.rb_laws_synchrony.proofs.EpochTicks.{turned-frame}

-- the node was good at moment `n` of the frame, trusted the same nodes, and had the same votes on
-- the slots finished then
pub record LastsFrom (sc : Scenario) (hands : List HandIn) (n : ℕ) (me : Side) (i : ℕ) (now : NodeState) : Type 0 where
  pub st : NodeState
  pub was : IsGoodNode sc (moment sc hands n) me i st
  pub trusted : (kind : Side) → trusted_of kind me now ≡ trusted_of kind me st
  pub votes : (t : ℕ) → t < sync_slot_of sc.sizes → 3 * t + 3 ≤ (moment sc hands n).window → get_or now.votes t Fault ≡ get_or st.votes t Fault

pub record AllLast (sc : Scenario) (hands : List HandIn) (n k : ℕ) : Type 0 where
  pub window : (moment sc hands n).window ≤ (moment sc hands k).window
  pub last : (me : Side) (i : ℕ) (now : NodeState) → IsGoodNode sc (moment sc hands k) me i now → LastsFrom sc hands n me i now

votes-kept : {sc hands : _} → IsLawful sc → {k : ℕ} (a : IsAgreed sc hands k) → (moment sc hands k).window < windows_in sc.sizes
    → (next sc (moment sc hands k)).book.ended ≡ false → {me i now : _} (from : CameFrom sc (moment sc hands k) me i now)
    → (t : ℕ) → t < sync_slot_of sc.sizes → 3 * t + 3 ≤ (moment sc hands k).window → get_or now.votes t Fault ≡ get_or from.st.votes t Fault
votes-kept {sc} {hands} law {k} a below on {now} from t few done =
    elim (cases_lt (moment sc hands k).window (3 * sync_slot_of sc.sizes)) [
      | inl exact ↦
          let slot : ℕ = (moment sc hands k).window / 3 in
          let q : ℕ = (moment sc hands k).window % 3 in
          other_votes_kept
          (exact-setting slot q law a.agree (omega (arith, exact)) (omega arith) (omega arith) on) t from.was from.is (omega (arith, done))
      | inr late ↦ elim (cases_lt ((moment sc hands k).window - 3 * sync_slot_of sc.sizes) 3) [
        | inl small ↦ stage ((moment sc hands k).window - 3 * sync_slot_of sc.sizes) small (omega (arith, late))
        | inr tail ↦ in_tail (omega (arith, late, tail, below))
      ]
    ]
  where
    stage : (q : ℕ) → q < 3 → (moment sc hands k).window ≡ 3 * sync_slot_of sc.sizes + q → get_or now.votes t Fault ≡ get_or from.st.votes t Fault
    stage q small at =
        ap (λ x. get_or x.votes t Fault) (sym from.is)
        ∙ ap (λ v. get_or v t Fault) (leaves
        (stage_setting q small at law a.agree
        (passed sc (record { frame = (moment sc hands k).frame; slot = sync_slot_of sc.sizes; stage = q + 1 }) (rows_of sc (moment sc hands k)) (moment sc hands k).book
        (ap (λ b. b.ended) (sym (book_sync sc (moment sc hands k) q small at)) ∙ on))) from.was).votes

    in_tail : (moment sc hands k).window ≡ 3 * sync_slot_of sc.sizes + 3 → get_or now.votes t Fault ≡ get_or from.st.votes t Fault
    in_tail at =
        ap (λ x. get_or x.votes t Fault) (sym from.is)
        ∙ ap (λ v. get_or v t Fault) (leaves
        (tail_setting at law a.agree) from.was).votes

next-lasts : {sc hands : _} → IsLawful sc → {n k : ℕ} → IsRunning (moment sc hands k) → (moment sc hands k).window < windows_in sc.sizes
    → (next sc (moment sc hands k)).book.ended ≡ false → step sc hands (moment sc hands k) ≡ next sc (moment sc hands k) → AllLast sc hands n k → AllLast sc hands n (suc k)
next-lasts {sc} {hands} law {n} {k} running below on is h = record {
  window = omega (arith, h.window, ap (λ m. m.window) is, next-window sc (moment sc hands k));
  last = λ me i now good. lasts me i now (subst (λ m. IsGoodNode sc m me i now) is good);
}
  where
    a : IsAgreed sc hands k
    a = agreement hands law k running

    lasts : (me : Side) (i : ℕ) (now : NodeState) → IsGoodNode sc (next sc (moment sc hands k)) me i now → LastsFrom sc hands n me i now
    lasts me i now good =
        let from : CameFrom sc (moment sc hands k) me i now = came_from a.agree good in
        let before : LastsFrom sc hands n me i from.st = h.last me i from.st from.was in
        record {
          st = before.st;
          was = before.was;
          trusted = λ kind.
              ap (λ x. trusted_of kind me x) (sym from.is)
              ∙ stays-trusted kind me (through-stays sc (moment sc hands k) (sent_in sc (moment sc hands k)) me i from.st (window_in sc (moment sc hands k) me from.st))
              ∙ before.trusted kind;
          votes = λ t few done. votes-kept law a below on from t few (omega (arith, done, h.window)) ∙ before.votes t few done;
        }

-- the frame of a moment is no less than that of one before
frames-rise : (sc : Scenario) (hands : List HandIn) → (n d : ℕ) → IsRunning (moment sc hands (d + n)) → (moment sc hands n).frame ≤ (moment sc hands (d + n)).frame
frames-rise sc hands n zero running = let e : n ≡ 0 + n = omega arith in omega (arith, ap (λ k. (moment sc hands k).frame) e)
frames-rise sc hands n (suc d) running =
    let e : suc d + n ≡ suc (d + n) = omega arith in
    let on : IsRunning (moment sc hands (suc (d + n))) = subst (λ k. IsRunning (moment sc hands k)) e running in
    let before : (moment sc hands n).frame ≤ (moment sc hands (d + n)).frame = frames-rise sc hands n d (running_before sc hands (moment sc hands (d + n)) on) in
    let now : (moment sc hands (suc d + n)).frame ≡ (moment sc hands (suc (d + n))).frame = ap (λ k. (moment sc hands k).frame) e in
    elim (step_is sc hands (moment sc hands (d + n)) on) [
      | inl window ↦ omega (arith, before, now, ap (λ m. m.frame) window.1, next-frame sc (moment sc hands (d + n)))
      | inr turn ↦ omega (arith, before, now, ap (λ m. m.frame) turn.1, turned-frame sc hands (moment sc hands (d + n)))
    ]

pub all-last : {sc : _} (hands : List HandIn) → IsLawful sc → (n d : ℕ) → IsRunning (moment sc hands (d + n)) → (moment sc hands (d + n)).frame ≡ (moment sc hands n).frame
    → AllLast sc hands n (d + n)
all-last {sc} hands law n zero running same =
    let e : n ≡ 0 + n = omega arith in
    subst (AllLast sc hands n) e (record {
      window = omega arith;
      last = λ me i now good. record { st = now; was = good; trusted = λ kind. refl; votes = λ t few done. refl };
    })
all-last {sc} hands law n (suc d) running same =
    let e : suc d + n ≡ suc (d + n) = omega arith in
    let on : IsRunning (moment sc hands (suc (d + n))) = subst (λ k. IsRunning (moment sc hands k)) e running in
    let open_before : IsRunning (moment sc hands (d + n)) = running_before sc hands (moment sc hands (d + n)) on in
    let now : (moment sc hands (suc d + n)).frame ≡ (moment sc hands (suc (d + n))).frame = ap (λ k. (moment sc hands k).frame) e in
    subst (AllLast sc hands n) (sym e) (elim (step_is sc hands (moment sc hands (d + n)) on) [
      | inl window ↦
          next-lasts law open_before window.0 (ap (λ x. x.book.ended) (sym window.1) ∙ on) window.1
          (all-last hands law n d open_before (omega (arith, same, now, ap (λ m. m.frame) window.1, next-frame sc (moment sc hands (d + n)))))
      | inr turn ↦
          absurd (omega (arith, same, now, ap (λ m. m.frame) turn.1, turned-frame sc hands (moment sc hands (d + n)), frames-rise sc hands n d open_before))
    ])

-- `AllLast` holds from a moment of a frame to each later one of the frame
pub lasts-to : {sc : _} (hands : List HandIn) → IsLawful sc → (n k : ℕ) → n ≤ k → IsRunning (moment sc hands k) → (moment sc hands k).frame ≡ (moment sc hands n).frame → AllLast sc hands n k
lasts-to {sc} hands law n k le running same =
    let e : (k - n) + n ≡ k = omega (arith, le) in
    subst (AllLast sc hands n) e (all-last hands law n (k - n) (subst (λ t. IsRunning (moment sc hands t)) (sym e) running) (ap (λ t. (moment sc hands t).frame) e ∙ same))
