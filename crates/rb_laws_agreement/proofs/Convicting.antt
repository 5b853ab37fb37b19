-- A node of which nobody took anything has no vector.
use Rattle.std.proofs.{Common.{◌≡◌, ℕ, suc, ◌+◌, ◌*◌, ◌<◌, ◌≤◌, true, false, List, slice_get, get_or, if◌then◌else◌, inl, inr, refl, sym, ◌∙◌, ap, subst, arith}, lemmas.Bool.cases_lt}
use Rattle.rb_base.specs.{Nodes.{Side, has}, Nodes.Side.{Biu, Rmu}, Sizes.{Sizes, sync_slot_of}, declared.values.Heard.Heard, declared.values.Heard.TheVariants.Fault}
use Rattle.rb_rules.specs.{Book.{of_kind, judged_of}, Conviction.{is_valid, voted_vector}, Goodness.Scenario, Judging.is_benign, Lawful.IsLawful, Moments.{before_stage, before_slot, after_slot, IsComplete, IsGoodAfter}, NodeState.NodeState, Ports.HandIn, Rounds.Moment, Slots.{same_side, has_third_stage, sender_kind, count_of, role_of, sender_in}, Slots.Sender.Nobody, StandsFor.votes_on}
use Rattle.rb_laws_agreement.specs.Laws.{UnheardNodesHaveNoVector}
use Rattle.rb_laws_agreement.proofs.{Tests.true_or_false, Invariant.{Shared, IsValue, IsFinished, HasVoted}, JudgedWindows.rows_of, NextMoments.{next, stages_after}, SecondStages.benign-before, ThirdStages.{voted, held_3, other_votes_kept}, SyncAgrees.leaves, Vectors.{vector_slot, vector_role, vector_slot-role, vector_slot-lt}, FrameTurns.{role-votes, role-kind, role-sender}, SlotRuns.{IsSlot, slot_runs, good_in_stage, StateFrom, state_from, third_frame}, SlotLaws.{IsSyncEnd, sync_ends, good_at_end}}

-- A node that nobody heard.

role-idle : (trusted : Side → ℕ) (owners : List ℕ) (kind : Side) (i : ℕ) → has (trusted kind) i ≡ false → sender_in (trusted Biu) (trusted Rmu) owners (vector_role kind i) ≡ Nobody
role-idle trusted owners Biu i t = rw t refl
role-idle trusted owners Rmu i t = rw t refl

-- the value of its vector's slot is Fault
fault-of : {sc : Scenario} {hands : List HandIn} {m : Moment} {s : Shared} (kind : Side) (p : ℕ) {value : Heard} → p < count_of kind sc.sizes
    → IsValue sc hands m s (vector_slot sc.sizes kind p) value → is_benign kind m.book.stages p ≡ true → value ≡ Fault
fault-of {sc} {m} {s} kind p count v benign =
    let slot : ℕ = vector_slot sc.sizes kind p in
    let role : role_of sc.sizes slot ≡ vector_role kind p = vector_slot-role sc.sizes kind p count in
    elim (true_or_false (has (s.trusted kind) p)) [
      | inl t ↦
          v.unseen p (ap (sender_in (s.trusted Biu) (s.trusted Rmu) s.owners) role ∙ role-sender s.trusted s.owners kind p t)
          (ap (λ k. is_benign k m.book.stages p) (ap sender_kind role ∙ role-kind kind p) ∙ benign)
      | inr out ↦ v.idle (ap (sender_in (s.trusted Biu) (s.trusted Rmu) s.owners) role ∙ role-idle s.trusted s.owners kind p out)
    ]

pub vector-votes : (sizes : Sizes) (kind : Side) (p : ℕ) (me : Side) → p < count_of kind sizes → votes_on sizes (vector_slot sizes kind p) me ≡ true
vector-votes sizes kind p me count =
    ap (λ r. if has_third_stage r then true else same_side me Biu) (vector_slot-role sizes kind p count) ∙ role-votes kind p me

unheard-below : {sc hands : _} → IsLawful sc → {frame slot : ℕ} → slot < sync_slot_of sc.sizes → IsComplete sc hands frame slot
    → (kind : Side) (p : ℕ) → p < count_of kind sc.sizes → vector_slot sc.sizes kind p ≤ slot
    → is_benign kind (after_slot sc hands frame slot).book.stages p ≡ true
    → {me i st : _} → IsGoodAfter sc hands frame slot me i st → voted_vector sc.sizes kind st p ≡ Fault
unheard-below {sc} {hands} law {frame} {slot} below complete kind p count le benign {me} {i} {st} h =
    let r : IsSlot sc hands frame slot = slot_runs law below complete in
    let m : Moment = next sc (next sc (before_slot sc hands frame slot)) in
    let n : ℕ = suc (suc r.steps) in
    let from : StateFrom sc m me i st =
    state_from r.third.agree me i (good_in_stage r.third (third_frame r) me i h.good)
    (ap (λ m. slice_get (of_kind me m.nodes) i) r.after_third ∙ h.state) in
    let before : is_benign kind m.book.stages p ≡ true =
    benign-before kind (judged_of sc (record { frame = m.frame; slot = slot; stage = 3 }) (rows_of sc m)) m.book.stages p
    (ap (λ x. is_benign kind x p) (sym (stages_after r.third)) ∙ ap (λ m. is_benign kind m.book.stages p) r.after_third ∙ benign) in
    let t : ℕ = vector_slot sc.sizes kind p in
    let votes : votes_on sc.sizes t me ≡ true = vector-votes sc.sizes kind p me count in
    elim (cases_lt t slot) [
      | inl earlier ↦
          let at : m.window ≡ 3 * slot + 2 = r.third.at in
          let f : IsFinished sc hands m r.shared t (r.shared.values t) = r.third.agree.finished t (omega arith) (omega arith) in
          other_votes_kept r.third t from.was from.is earlier ∙ f.held me i from.st from.was votes
          ∙ fault-of kind p count f.is_value before
      | inr late ↦
          let same : slot ≡ t = omega arith in
          let v : HasVoted sc hands m r.shared slot = voted sc hands n m r.shared slot r.third in
          ap (λ x. get_or st.votes x Fault) (sym same)
          ∙ held_3 r.third from.was from.is (ap (λ x. votes_on sc.sizes x me) same ∙ votes)
          ∙ fault-of kind p count (subst (λ x. IsValue sc hands m r.shared x v.value) same v.is_value) before
    ]

unheard-sync : {sc hands : _} → IsLawful sc → {frame : ℕ} → IsComplete sc hands frame (sync_slot_of sc.sizes)
    → (kind : Side) (p : ℕ) → p < count_of kind sc.sizes
    → is_benign kind (after_slot sc hands frame (sync_slot_of sc.sizes)).book.stages p ≡ true
    → (me : Side) (i : ℕ) (st : NodeState) → IsGoodAfter sc hands frame (sync_slot_of sc.sizes) me i st → voted_vector sc.sizes kind st p ≡ Fault
unheard-sync {sc} {hands} law {frame} complete kind p count benign me i st h =
    let s : ℕ = sync_slot_of sc.sizes in
    let m : Moment = before_stage sc hands frame s 3 in
    let e : IsSyncEnd sc hands frame = sync_ends law complete in
    let from : StateFrom sc m me i st =
    state_from e.setting.agree me i (good_at_end e me i h.good)
    (ap (λ m. slice_get (of_kind me m.nodes) i) e.then ∙ h.state) in
    let t : ℕ = vector_slot sc.sizes kind p in
    let lt : t < s = vector_slot-lt sc.sizes kind p count in
    let at : m.window ≡ 3 * s + 2 = e.at in
    let f : IsFinished sc hands m e.shared t (e.shared.values t) = e.setting.agree.finished t lt (omega arith) in
    let before : is_benign kind m.book.stages p ≡ true = e.setting.benign kind p (ap (λ m. is_benign kind m.book.stages p) e.then ∙ benign) in
    ap (λ x. get_or x.votes t Fault) (sym from.is)
    ∙ ap (λ x. get_or x t Fault) (leaves e.setting from.was).votes
    ∙ f.held me i from.st from.was (vector-votes sc.sizes kind p me count)
    ∙ fault-of kind p count f.is_value before

pub unheard : UnheardNodesHaveNoVector
unheard sc hands law frame slot le complete kind p count due benign me i st h others =
    ap (is_valid others) (elim (cases_lt slot (sync_slot_of sc.sizes)) [
      | inl below ↦ unheard-below law below complete kind p count due benign h
      | inr late ↦
          let same : sync_slot_of sc.sizes ≡ slot = omega arith in
          let P : ℕ → Type 0 = λ slot. IsComplete sc hands frame slot → is_benign kind (after_slot sc hands frame slot).book.stages p ≡ true
          → (me : Side) (i : ℕ) (st : NodeState) → IsGoodAfter sc hands frame slot me i st → voted_vector sc.sizes kind st p ≡ Fault in
          subst P same (λ c b. unheard-sync law c kind p count b) complete benign me i st h
    ])
