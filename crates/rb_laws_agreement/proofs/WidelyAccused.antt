-- Whoever is accused by all nodes of the other kind that are good at a frame's end is convicted
-- there.
use Rattle.std.proofs.{Common.{◌≡◌, ℕ, zero, suc, ◌+◌, ◌-◌, ◌*◌, ◌<◌, ◌≤◌, ◌&&◌, ◌||◌, nat_lt, not, true, false, List, Some, slice_get, inl, inr, refl, sym, ◌∙◌, ap, subst, arith}, lemmas.Bool.{and_from, and_right, lt-ltb, not_from_false}}
use Rattle.rb_base.specs.{Nodes.{Side, other, has}, Nodes.Side.{Biu, Rmu}, Sizes.sync_slot_of, declared.values.Heard.TheVariants.Word}
use Rattle.rb_base.proofs.Sets.{has-set_of}
use Rattle.rb_rules.specs.{Book.of_kind, Conviction.names, ExactStage.own_value, Goodness.{Scenario, is_good}, Hearing.word_for, Lawful.IsLawful, Moments.{before_slot, after_slot, IsRunning, IsComplete, IsGoodBefore}, NodeState.{NodeState, trusted_of}, Ports.HandIn, Rounds.{Moment, moment, next_frame, step, sent_in, window_in, windows_in}, Slots.{count_of, role_of}, Standing.{vector_of, without}}
use Rattle.rb_rules.proofs.{RoundStates.{Stays, stays-refl, stays-trans, through-stays, state-after}, Slots.other_twice}
use Rattle.rb_laws_agreement.specs.Laws.{Accuses, IsAccusedByAll, AccusedByAllIsConvicted}
use Rattle.rb_laws_agreement.proofs.{Tests.{true_or_false, Present}, Goodnesses.{good_earlier, few_nodes, slot_last}, Invariant.{Shared, IsGoodNode, is_good_now, slot_numbered, IsOwn, Holds}, Exchanges.{trusted-either, far-trusted}, JudgedWindows.stays-trusted, NextMoments.next, Settings.{good_state, after}, SyncAgrees.{agree_sync, book_tail, tail_setting}, Vectors.{vector_slot, vector_role, vector_slot-role, vector_slot-lt}, FrameTurns.{AtEnd, convicted_all, VectorOf, vector_end, named_by_all}, FrameAgrees.{shared_next, next-trusted, holds-turned}, Agreement.{IsAgreed, agreement, running_before}, Places.{IsPlaced, placed, running_earlier, good_before_slot}, SlotRuns.{step_through, next-frame, next-window}, FrameBegins.{IsTurn, frame_turns}}

-- Whom a node trusts through a frame.

-- through the windows of a frame a node trusts the same nodes
pub record HasStayed (sc : Scenario) (hands : List HandIn) (n k : ℕ) (me : Side) (i : ℕ) (st : NodeState) : Type 0 where
  pub now : NodeState
  pub there : slice_get (of_kind me (moment sc hands (n + k)).nodes) i ≡ Some now
  pub stays : Stays st now
  pub window : (moment sc hands (n + k)).window ≡ (moment sc hands n).window + k

pub stays_on : (sc : Scenario) (hands : List HandIn) (n k : ℕ) (me : Side) (i : ℕ) {st : _} → IsRunning (moment sc hands (n + k))
    → (moment sc hands n).window + k ≤ windows_in sc.sizes → slice_get (of_kind me (moment sc hands n).nodes) i ≡ Some st → HasStayed sc hands n k me i st
stays_on sc hands n zero me i {st} running le there =
    let e : n ≡ n + 0 = omega arith in
    record {
      now = st;
      there = ap (λ x. slice_get (of_kind me (moment sc hands x).nodes) i) (sym e) ∙ there;
      stays = stays-refl st;
      window = ap (λ x. (moment sc hands x).window) (sym e) ∙ (let z : (moment sc hands n).window ≡ (moment sc hands n).window + 0 = omega arith in z);
    }
stays_on sc hands n (suc k) me i {st} running le there =
    let e : n + suc k ≡ suc (n + k) = omega arith in
    let m : Moment = moment sc hands (n + k) in
    let goes_on : IsRunning (step sc hands m) = ap (λ x. (moment sc hands x).book.ended) (sym e) ∙ running in
    let x : HasStayed sc hands n k me i st = stays_on sc hands n k me i (running_before sc hands m goes_on) (omega arith) there in
    let at : m.window ≡ (moment sc hands n).window + k = x.window in
    let is : step sc hands m ≡ next sc m = step_through sc hands m (omega arith) goes_on in
    let onward : moment sc hands (n + suc k) ≡ next sc m = ap (moment sc hands) e ∙ is in
    let passed : (moment sc hands (n + suc k)).window ≡ m.window + 1 = ap (λ y. y.window) onward ∙ next-window sc m in
    record {
      now = after sc m me i x.now;
      there = subst (λ (y : Moment). slice_get (of_kind me y.nodes) i ≡ Some (after sc m me i x.now)) (sym onward) (state-after sc m me i x.now x.there);
      stays = stays-trans st x.now (after sc m me i x.now) x.stays (through-stays sc m (sent_in sc m) me i x.now (window_in sc m me x.now));
      window = one_more (moment sc hands (n + suc k)).window m.window (moment sc hands n).window k passed at;
    }
  where
    one_more : (now before first k : ℕ) → now ≡ before + 1 → before ≡ first + k → now ≡ first + suc k
    one_more now before first k p q = omega arith

-- What a vector names.

-- the value of a good sender's vector slot is its vector when the slot began
own-vector : {sc : Scenario} {hands : List HandIn} {m : Moment} {s : Shared} {kind : Side} {i : ℕ} {st : NodeState} → i < count_of kind sc.sizes
    → VectorOf sc hands m s kind i → is_good_now sc m kind i ≡ true
    → slice_get (of_kind kind (before_slot sc hands m.frame (vector_slot sc.sizes kind i)).nodes) i ≡ Some st
    → s.values (vector_slot sc.sizes kind i) ≡ Word (vector_of st.far)
own-vector {sc} {hands} {m} {s} {kind} {i} {st} count v good there =
    let slot : ℕ = vector_slot sc.sizes kind i in
    let role : role_of sc.sizes slot ≡ vector_role kind i = vector_slot-role sc.sizes kind i count in
    let word : ℕ = word_for sc (before_slot sc hands m.frame slot).ports i slot (role_of sc.sizes slot) in
    let own : IsOwn sc hands m slot i (s.values slot) =
    v.finished.is_value.own i v.sender (ap (λ k. is_good_now sc m k i) v.kind_is ∙ good) in
    own.said st (ap (λ k. slice_get (of_kind k (before_slot sc hands m.frame slot).nodes) i) v.kind_is ∙ there)
    ∙ ap (λ r. own_value st r word) role ∙ vector-role-own kind i st word
  where
    vector-role-own : (kind : Side) (i : ℕ) (st : NodeState) (word : ℕ) → own_value st (vector_role kind i) word ≡ Word (vector_of st.far)
    vector-role-own Biu i st word = refl
    vector-role-own Rmu i st word = refl

names-accused : (st : NodeState) {j : ℕ} → j < 16 → has st.far.trusted j ≡ true → Accuses st.far j → has (vector_of st.far) j ≡ true
names-accused st {j} small t accuses =
    has-set_of j (λ j. has st.far.trusted j && (has st.far.direct j || has st.far.mismatch j)) small
    ∙ and_from (has st.far.trusted j) (has st.far.direct j || has st.far.mismatch j) t accuses

-- The end of the frame.

-- the moment at which a frame that is complete turns to the next one
pub record IsEnd (sc : Scenario) (hands : List HandIn) (frame : ℕ) : Type 0 where
  pub shared : Shared
  pub at_end : AtEnd sc hands (suc (frame * (windows_in sc.sizes + 1) + 3 * sync_slot_of sc.sizes + 4 - 1))
      (next sc (after_slot sc hands frame (sync_slot_of sc.sizes))) shared
  pub frame_is : (next sc (after_slot sc hands frame (sync_slot_of sc.sizes))).frame ≡ frame
  pub turn : IsTurn sc hands frame

pub frame_ends : {sc hands : _} → IsLawful sc → {frame : ℕ} → IsComplete sc hands frame (sync_slot_of sc.sizes) → IsEnd sc hands frame
frame_ends {sc} {hands} law {frame} complete =
    let s : ℕ = sync_slot_of sc.sizes in
    let a : Moment = after_slot sc hands frame s in
    let n : ℕ = frame * (windows_in sc.sizes + 1) + 3 * s + 4 - 1 in
    let t : IsTurn sc hands frame = frame_turns law complete in
    let p : IsPlaced sc hands frame s 4 = placed hands law frame s 4 (omega arith) (omega arith) (omega arith) complete in
    let at : a.window ≡ 3 * s + 3 = p.window_is in
    let agree : IsAgreed sc hands n = agreement hands law n complete in
    record {
      shared = agree.shared;
      at_end = record {
        law = law;
        agree = agree_sync (tail_setting at law agree.agree) t.tail;
        at = next-window sc a ∙ ap (λ w. w + 1) at ∙ plus (3 * s);
      };
      frame_is = next-frame sc a ∙ p.frame_is;
      turn = t;
    }
  where
    plus : (a : ℕ) → a + 3 + 1 ≡ a + 4
    plus a = omega arith

-- the number of steps before a frame's end
abbrev pub end_steps : Scenario → ℕ → ℕ
end_steps sc frame = suc (frame * (windows_in sc.sizes + 1) + 3 * sync_slot_of sc.sizes + 4 - 1)

-- the moment before a slot of a frame that is complete
begins : {sc : _} (hands : List HandIn) → IsLawful sc → (frame slot : ℕ) → slot < sync_slot_of sc.sizes → IsComplete sc hands frame (sync_slot_of sc.sizes) → IsPlaced sc hands frame slot 1
begins {sc} hands law frame slot lt complete =
    placed hands law frame slot 1 (omega arith) (omega arith) (omega arith)
    (running_earlier sc hands (frame * (windows_in sc.sizes + 1) + 3 * slot + 1 - 1) (frame * (windows_in sc.sizes + 1) + 3 * sync_slot_of sc.sizes + 4 - 1)
    (earlier (frame * (windows_in sc.sizes + 1)) slot (sync_slot_of sc.sizes) lt) complete)
  where
    earlier : (a slot s : ℕ) → slot < s → a + 3 * slot + 1 - 1 ≤ a + 3 * s + 4 - 1
    earlier a slot s lt = omega arith

-- a node that is good at the frame's end has a state before the slot
state-then : {sc hands : _} → IsLawful sc → {frame slot : ℕ} → slot < sync_slot_of sc.sizes → IsPlaced sc hands frame slot 1
    → (me : Side) (i : ℕ) → is_good sc me i frame (sync_slot_of sc.sizes) ≡ true → Present (slice_get (of_kind me (before_slot sc hands frame slot).nodes) i)
state-then {sc} {hands} law {frame} {slot} lt p me i good =
    good_state p.agree me i
    (ap (λ f. is_good sc me i f (slot_numbered sc.sizes (before_slot sc hands frame slot).window)) p.frame_is
    ∙ ap (is_good sc me i frame) (here (before_slot sc hands frame slot).window p.window_is) ∙ good_earlier sc me i frame slot (sync_slot_of sc.sizes) (omega arith) good)
  where
    here : (window : ℕ) → window ≡ 3 * slot + (1 - 1) → slot_numbered sc.sizes window ≡ slot
    here window e = omega arith

-- the run goes on after a complete sync slot
end-runs : {sc : _} (hands : List HandIn) → IsLawful sc → (frame : ℕ) → IsComplete sc hands frame (sync_slot_of sc.sizes) → IsRunning (next sc (after_slot sc hands frame (sync_slot_of sc.sizes)))
end-runs {sc} hands law frame complete =
    let p : IsPlaced sc hands frame (sync_slot_of sc.sizes) 4 = placed hands law frame (sync_slot_of sc.sizes) 4 (omega arith) (omega arith) (omega arith) complete in
    ap (λ b. b.ended) (book_tail sc (after_slot sc hands frame (sync_slot_of sc.sizes)) p.window_is) ∙ complete

-- a node trusts before the slot whom it trusts at the end of the frame
trusts-then : {sc hands : _} → IsLawful sc → {frame slot : ℕ} → slot < sync_slot_of sc.sizes → IsComplete sc hands frame (sync_slot_of sc.sizes)
    → (e : IsEnd sc hands frame) → IsPlaced sc hands frame slot 1 → (me : Side) (i : ℕ) {st : _}
    → slice_get (of_kind me (before_slot sc hands frame slot).nodes) i ≡ Some st → is_good_now sc (next sc (after_slot sc hands frame (sync_slot_of sc.sizes))) me i ≡ true
    → st.far.trusted ≡ e.shared.trusted (other me)
trusts-then {sc} {hands} law {frame} {slot} lt complete e p me i {st} there good =
    far-trusted me st ∙ sym (stays-trusted (other me) me stay.stays)
    ∙ (e.at_end.agree.nodes me i stay.now (record { there = ap (λ m. slice_get (of_kind me m.nodes) i) (sym reached) ∙ stay.there; good = good })).trusted (other me)
  where
    n : ℕ
    n = frame * (windows_in sc.sizes + 1) + 3 * slot + 1 - 1

    k : ℕ
    k = 3 * sync_slot_of sc.sizes + 4 - 3 * slot

    index : (a slot s : ℕ) → slot < s → a + 3 * slot + 1 - 1 + (3 * s + 4 - 3 * slot) ≡ suc (a + 3 * s + 4 - 1)
    index a slot s lt = omega arith

    reached : moment sc hands (n + k) ≡ next sc (after_slot sc hands frame (sync_slot_of sc.sizes))
    reached = ap (moment sc hands) (index (frame * (windows_in sc.sizes + 1)) slot (sync_slot_of sc.sizes) lt) ∙ sym e.at_end.agree.is

    within : (window : ℕ) → window ≡ 3 * slot + (1 - 1) → window + (3 * sync_slot_of sc.sizes + 4 - 3 * slot) ≤ windows_in sc.sizes
    within window at = omega arith

    stay : HasStayed sc hands n k me i st
    stay = stays_on sc hands n k me i (ap (λ m. m.book.ended) reached ∙ end-runs hands law frame complete) (within (before_slot sc hands frame slot).window p.window_is) there

-- a good node's vector names the nodes that it accused when the slot began and still trusts
vector-names : {sc hands : _} → IsLawful sc → {frame : ℕ} → IsComplete sc hands frame (sync_slot_of sc.sizes) → (e : IsEnd sc hands frame)
    → (accused : Side) (j : ℕ) → has (e.shared.trusted accused) j ≡ true → IsAccusedByAll sc hands frame accused j
    → (i : ℕ) → has (e.shared.trusted (other accused)) i ≡ true
    → is_good_now sc (next sc (after_slot sc hands frame (sync_slot_of sc.sizes))) (other accused) i ≡ true
    → names j (e.shared.values (vector_slot sc.sizes (other accused) i)) ≡ true
vector-names {sc} {hands} law {frame} complete e accused j t all i trusts good =
    ap (names j) (own-vector count v good (ap (λ f. slice_get (of_kind from (before_slot sc hands f slot).nodes) i) e.frame_is ∙ st.is))
    ∙ names-accused st.value small trusted (all i st.value last st.is)
  where
    from : Side
    from = other accused

    b : Moment
    b = next sc (after_slot sc hands frame (sync_slot_of sc.sizes))

    slot : ℕ
    slot = vector_slot sc.sizes from i

    count : i < count_of from sc.sizes
    count = e.at_end.agree.inside from i trusts

    lt : slot < sync_slot_of sc.sizes
    lt = vector_slot-lt sc.sizes from i count

    last : is_good sc from i frame (sync_slot_of sc.sizes) ≡ true
    last =
        ap (λ f. is_good sc from i f (sync_slot_of sc.sizes)) (sym e.frame_is) ∙ ap (is_good sc from i b.frame) (sym (slot_last sc.sizes 4 e.at_end.at)) ∙ good

    p : IsPlaced sc hands frame slot 1
    p = begins hands law frame slot lt complete

    st : Present (slice_get (of_kind from (before_slot sc hands frame slot).nodes) i)
    st = state-then law lt p from i last

    trusted : has st.value.far.trusted j ≡ true
    trusted =
        ap (λ x. has x j) (trusts-then law lt complete e p from i st.is good) ∙ ap (λ x. has (e.shared.trusted x) j) (other_twice accused) ∙ t

    small : j < 16
    small = omega (arith, e.at_end.agree.inside accused j t, few_nodes law.sizes accused)

    v : VectorOf sc hands b e.shared from i
    v = vector_end e.at_end from i trusts

-- a node that all good nodes of the other kind accuse is convicted at the end of the frame
convicted-then : {sc hands : _} → IsLawful sc → {frame : ℕ} → IsComplete sc hands frame (sync_slot_of sc.sizes) → (e : IsEnd sc hands frame)
    → (accused : Side) {j : ℕ} → j < 16 → IsAccusedByAll sc hands frame accused j → has (without (e.shared.trusted accused) (convicted_all sc.sizes e.shared accused)) j ≡ false
convicted-then {sc} law complete e accused {j} small all =
    has-set_of j (λ j. has (e.shared.trusted accused) j && not (has (convicted_all sc.sizes e.shared accused) j)) small
    ∙ elim (true_or_false (has (e.shared.trusted accused) j)) [
      | inl t ↦
          and_right (has (e.shared.trusted accused) j) (not (has (convicted_all sc.sizes e.shared accused) j))
          (ap not (named_by_all e.at_end accused j t (vector-names law complete e accused j t all)))
      | inr out ↦ ap (λ b. b && not (has (convicted_all sc.sizes e.shared accused) j)) out
    ]

pub accused_by_all : AccusedByAllIsConvicted
accused_by_all sc hands law frame complete accused j count all me i st h =
    let e : IsEnd sc hands frame = frame_ends law complete in
    let b : Moment = next sc (after_slot sc hands frame (sync_slot_of sc.sizes)) in
    let n : ℕ = suc (frame * (windows_in sc.sizes + 1) + 3 * sync_slot_of sc.sizes + 4 - 1) in
    let later : suc frame ≡ frame + 1 = omega arith in
    let small : j < 16 = omega (arith, few_nodes law.sizes accused) in
    let g : IsGoodBefore sc hands (suc frame) 0 me i st = subst (λ f. IsGoodBefore sc hands f 0 me i st) (sym later) h in
    let p : IsPlaced sc hands (suc frame) 0 1 = placed hands law (suc frame) 0 1 (omega arith) (omega arith) (omega arith) e.turn.running in
    let there : IsGoodNode sc (before_slot sc hands (suc frame) 0) me i st = good_before_slot (omega arith) p g in
    let node : IsGoodNode sc (next_frame sc hands b) me i st = subst (λ m. IsGoodNode sc m me i st) (sym e.turn.turn) there in
    let holds : Holds sc (next_frame sc hands b) (shared_next sc.sizes e.shared) me st = holds-turned e.at_end node in
    let out : has (trusted_of me accused st) j ≡ false =
    ap (λ x. has x j) (trusted-either me accused st ∙ holds.trusted accused ∙ next-trusted sc.sizes e.shared accused)
    ∙ convicted-then law complete e accused small all in
    has-set_of j (λ j. nat_lt j (count_of accused sc.sizes) && not (has (trusted_of me accused st) j)) small
    ∙ and_from (nat_lt j (count_of accused sc.sizes)) (not (has (trusted_of me accused st) j)) (lt-ltb j (count_of accused sc.sizes) count) (not_from_false (has (trusted_of me accused st) j) out)
