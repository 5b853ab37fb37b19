-- If a listener decides, it knows whom all good nodes trust in the learned frame.
use Rattle.std.proofs.{Common.{◌≡◌, ℕ, suc, ◌+◌, ◌-◌, ◌*◌, ◌%◌, ◌^◌, ◌<◌, ◌≤◌, ◌&&◌, not, nat_lt, Bool, true, Some, if◌then◌else◌, unwrap_or, List, get_or, slice_get, inl, inr, refl, sym, ◌∙◌, ap, subst, arith}, lemmas.Bool.{and_from, cases_lt, lt-ltb, ltb-true}, lemmas.Option.same_Some}
use Rattle.rb_base.specs.{Nodes.{Side, has, set_of, size}, Nodes.Side.{Biu, Rmu}, Sizes.{Sizes, sync_slot_of}, declared.values.Heard.Heard, declared.values.Heard.TheVariants.Fault}
use Rattle.rb_base.proofs.{Plain.{and_first, same_bool}, Sets.{has-set_of, is_set_of, set_of-lt}, SetSizes.size_within}
use Rattle.rb_rules.specs.{declared.sense.Sense.Sense, Book.of_kind, Core.is_tick, ExactStage.says, Goodness.Scenario, Lawful.IsLawful, Moments.{IsComplete, IsGoodBefore, IsRunning, before_slot, before_stage}, NodeState.{NodeState, sender_at, trusted_of}, Ports.HandIn, Rounds.{moment, windows_in}, Sense.is_one, Slots.{count_of, first_diagnosis_of, listens, role_of, sender_in, sender_kind}, Slots.Sender.{Nobody, Node}, Standing.without}
use Rattle.rb_rules.proofs.Slots.{schedule_role}
use Rattle.rb_laws_agreement.proofs.{Agreement.{IsAgreed, agreement}, FrameTurns.convicted_all, Invariant.{IsGoodNode, is_good_now, slot_numbered}, NodeWindows.word_at, Places.{IsPlaced, good_before_slot, placed, running_earlier}, Settings.good_state, Speaking.{got_is_said, vote_is_said}, Tests.Present}
use Rattle.rb_laws_synchrony.proofs.EpochTicks.{within_run}
use Rattle.rb_listen.specs.{Lessons.{ones_in, record_of, stage_recorded, trusted_bius, trusted_rmus, trusts_biu, trusts_rmu}, Passes.are_most, declared.search.Search.Search}
use Rattle.rb_laws_listener_learns.specs.{Deciding.DecidesBy, Ears.{Ear, HearsTheRun, IsEar, is_always_good}, Learned.{AreTrusted, IsTrustedIn, TrustsTheTrusted}, Records.RecordsAreWhole}
use Rattle.rb_laws_listener_learns.proofs.{Fresh.{always-good-at, always-good-in}, Lasting.{LastsFrom, lasts-to}, Moments.same-frame, PassSets.more-than, Seeks.good-set, Spoken.recorded-value, Trusting.{diagnosis-role, trusts-the-trusted}, Turning.{EndOf, end-of}, Whole.{HasLesson, has-lesson, records-whole}, Within.IsExactAt}

-- Moments of the learned frame.

-- the run comes to moment `n`, and it is of the frame
pub record IsIn (sc : Scenario) (hands : List HandIn) (frame n : ℕ) : Type 0 where
  pub running : IsRunning (moment sc hands n)
  pub frame_is : (moment sc hands n).frame ≡ frame

-- an RMU that is good in the whole run is a good node of each moment
pub record GoodThere (sc : Scenario) (hands : List HandIn) (n j : ℕ) : Type 0 where
  pub st : NodeState
  pub node : IsGoodNode sc (moment sc hands n) Rmu j st

-- a window comes no earlier than the first of its slot
slot-begun : (sizes : Sizes) (window : ℕ) → 3 * slot_numbered sizes window ≤ window
slot-begun sizes window = omega arith

-- an RMU that is good in the whole run is good in the slot of each moment of the run
pub good-at-moment : {sc : _} (hands : List HandIn) → IsLawful sc → (j n : ℕ) → IsRunning (moment sc hands n) → is_always_good sc hands j ≡ true → is_good_now sc (moment sc hands n) Rmu j ≡ true
good-at-moment {sc} hands law j n running good = always-good-at hands law j n (slot_numbered sc.sizes (moment sc hands n).window) running (slot-begun sc.sizes (moment sc hands n).window) good

pub good-there : {sc : _} (hands : List HandIn) → IsLawful sc → (n j : ℕ) → IsRunning (moment sc hands n) → is_always_good sc hands j ≡ true → GoodThere sc hands n j
good-there {sc} hands law n j running good =
    let a : IsAgreed sc hands n = agreement hands law n running in
    let here : is_good_now sc (moment sc hands n) Rmu j ≡ true = good-at-moment hands law j n running good in
    let there : Present (slice_get (of_kind Rmu (moment sc hands n).nodes) j) = good_state a.agree Rmu j here in
    record { st = there.value; node = record { there = there.is; good = here } }

one-state : {sc : _} (hands : List HandIn) (n : ℕ) {j a b : _} → IsGoodNode sc (moment sc hands n) Rmu j a → IsGoodNode sc (moment sc hands n) Rmu j b → a ≡ b
one-state hands n {a} {b} x y = same_Some a b (sym x.there ∙ y.there)

later-same : {sc hands : _} → IsLawful sc → {frame n k j a b : _} → n ≤ k → IsIn sc hands frame n → IsIn sc hands frame k
    → IsGoodNode sc (moment sc hands n) Rmu j a → IsGoodNode sc (moment sc hands k) Rmu j b → (kind : Side) → trusted_of kind Rmu b ≡ trusted_of kind Rmu a
later-same {sc} {hands} law {n} {k} {j} {b} le in_n in_k node_a node_b kind =
    let l : LastsFrom sc hands n Rmu j b = (lasts-to hands law n k le in_k.running (in_k.frame_is ∙ sym in_n.frame_is)).last Rmu j b node_b in
    l.trusted kind ∙ ap (trusted_of kind Rmu) (one-state hands n l.was node_a)

-- an RMU trusts the same nodes in the whole frame
pub same-trust : {sc hands : _} → IsLawful sc → {frame n k j a b : _} → IsIn sc hands frame n → IsIn sc hands frame k
    → IsGoodNode sc (moment sc hands n) Rmu j a → IsGoodNode sc (moment sc hands k) Rmu j b → (kind : Side) → trusted_of kind Rmu a ≡ trusted_of kind Rmu b
same-trust law {n} {k} in_n in_k node_a node_b kind =
    elim (cases_lt n k) [
      | inl less ↦ sym (later-same law (omega (arith, less)) in_n in_k node_a node_b kind)
      | inr ge ↦ later-same law ge in_k in_n node_b node_a kind
    ]

-- all good nodes of a moment trust the same
pub all-trust : {sc : _} (hands : List HandIn) → IsLawful sc → (n : ℕ) → IsRunning (moment sc hands n) → {me they i j a b : _}
    → IsGoodNode sc (moment sc hands n) me i a → IsGoodNode sc (moment sc hands n) they j b → (kind : Side) → trusted_of kind me a ≡ trusted_of kind they b
all-trust {sc} hands law n running {me} {they} {i} {j} {a} {b} x y kind =
    let g : IsAgreed sc hands n = agreement hands law n running in (g.agree.nodes me i a x).trusted kind ∙ sym ((g.agree.nodes they j b y).trusted kind)

-- The stage in which a node's trust is heard.

abbrev pub told_in : Side → Sizes → ℕ → ℕ
told_in Biu sizes i = i
told_in Rmu sizes i = first_diagnosis_of Rmu sizes + i

abbrev pub told_stage : Side → ℕ
told_stage Biu = 1
told_stage Rmu = 2

abbrev pub trusts_of : Side → Sizes → List Sense → ℕ → Bool
trusts_of Biu sizes records i = trusts_biu sizes records i
trusts_of Rmu sizes records i = trusts_rmu sizes records i

abbrev pub known_of : Side → Sizes → List Sense → ℕ
known_of Biu sizes records = trusted_bius sizes records
known_of Rmu sizes records = trusted_rmus sizes records

told-below : (kind : Side) (sizes : Sizes) (i : ℕ) → i < count_of kind sizes → told_in kind sizes i < sync_slot_of sizes
told-below Biu sizes i h = omega (arith, h)
told-below Rmu sizes i h = omega (arith, h)

told-recorded : (kind : Side) (sizes : Sizes) (i : ℕ) → i < count_of kind sizes → stage_recorded (role_of sizes (told_in kind sizes i)) ≡ told_stage kind + 1
told-recorded Biu sizes i h = ap stage_recorded (schedule_role sizes i h)
told-recorded Rmu sizes i h = ap stage_recorded (diagnosis-role sizes i h)

told-sender : (kind : Side) (sizes : Sizes) (i : ℕ) (st : NodeState) → i < count_of kind sizes → has (trusted_of kind Rmu st) i ≡ true → sender_at sizes Rmu st (told_in kind sizes i) ≡ Node i
told-sender Biu sizes i st h t =
    ap (sender_in (trusted_of Biu Rmu st) (trusted_of Rmu Rmu st) st.owners) (schedule_role sizes i h) ∙ ap (λ b. if b then Node i else Nobody) t
told-sender Rmu sizes i st h t =
    ap (sender_in (trusted_of Biu Rmu st) (trusted_of Rmu Rmu st) st.owners) (diagnosis-role sizes i h) ∙ ap (λ b. if b then Node i else Nobody) t

-- RMU `j` says some value in the stage in which the trust in node `i` is heard
pub record SaysSome (sizes : Sizes) (kind : Side) (i j : ℕ) (st : NodeState) (word : ℕ) : Type 0 where
  pub value : Heard
  pub is : says sizes Rmu j st (told_in kind sizes i) (told_stage kind + 1) word ≡ Some value

says-some : (sizes : Sizes) (kind : Side) (i j : ℕ) (st : NodeState) (word : ℕ) → i < count_of kind sizes → has (trusted_of kind Rmu st) i ≡ true → SaysSome sizes kind i j st word
says-some sizes Biu i j st word h t =
    record { value = unwrap_or st.got Fault; is = got_is_said sizes Rmu j i st i word (told-sender Biu sizes i st h t) (sym (ap sender_kind (schedule_role sizes i h))) }
says-some sizes Rmu i j st word h t =
    record {
      value = get_or st.votes (first_diagnosis_of Rmu sizes + i) Fault;
      is = vote_is_said sizes Rmu j i st (first_diagnosis_of Rmu sizes + i) word (told-sender Rmu sizes i st h t) (ap (λ r. listens Biu r 3) (diagnosis-role sizes i h));
    }

-- What is known.

-- some RMU is good in the whole run
pub record SomeGood (sc : Scenario) (hands : List HandIn) : Type 0 where
  pub j : ℕ
  pub good : is_always_good sc hands j ≡ true

pub stage-in : {sc : _} (hands : List HandIn) → IsLawful sc → (learned slot q : ℕ) → slot < sync_slot_of sc.sizes → q < 3 → IsRunning (before_stage sc hands learned (sync_slot_of sc.sizes) 2)
    → IsIn sc hands learned (learned * (windows_in sc.sizes + 1) + 3 * slot + (q + 1) - 1)
    × IsExactAt sc hands (learned * (windows_in sc.sizes + 1) + 3 * slot + (q + 1) - 1) slot q
stage-in {sc} hands law learned slot q below small called =
    let running : IsRunning (before_stage sc hands learned slot (q + 1)) =
    running_earlier sc hands (learned * (windows_in sc.sizes + 1) + 3 * slot + (q + 1) - 1) (learned * (windows_in sc.sizes + 1) + 3 * sync_slot_of sc.sizes + 2 - 1) (omega (arith, below, small)) called in
    let p : IsPlaced sc hands learned slot (q + 1) = placed hands law learned slot (q + 1) (omega (arith, below)) (omega arith) (omega (arith, small)) running in
    (record { running = running; frame_is = p.frame_is }, record { below = below; small = small; at = omega (arith, p.window_is) })

trusts-true : (kind : Side) (sizes : Sizes) (records : List Sense) (i : ℕ) → i < count_of kind sizes → are_most sizes (ones_in records (told_in kind sizes i)) ≡ true → trusts_of kind sizes records i ≡ true
trusts-true Biu sizes records i h most = and_from (nat_lt i sizes.bius) (are_most sizes (ones_in records i)) (lt-ltb i sizes.bius h) most
trusts-true Rmu sizes records i h most = and_from (nat_lt i sizes.rmus) (are_most sizes (ones_in records (first_diagnosis_of Rmu sizes + i))) (lt-ltb i sizes.rmus h) most

-- the listener trusts each node that the bus trusts
pub trusts-all : {sc hands : _} → IsLawful sc → {ear : _} → are_most sc.sizes (set_of (is_always_good sc hands)) ≡ true → {learned records : _}
    → RecordsAreWhole sc hands ear learned records → IsRunning (before_stage sc hands learned (sync_slot_of sc.sizes) 2) → {n j st : _} → IsIn sc hands learned n → is_always_good sc hands j ≡ true
    → IsGoodNode sc (moment sc hands n) Rmu j st → (kind : Side) (i : ℕ) → has (trusted_of kind Rmu st) i ≡ true → trusts_of kind sc.sizes records i ≡ true
unfolding good-set
trusts-all {sc} {hands} law most {learned} {records} whole called {n} {j} {st} here good node kind i trusted =
    trusts-true kind sc.sizes records i count
    (more-than sc.sizes.rmus (size (good-set sc hands)) (size (ones_in records (told_in kind sc.sizes i)))
    (size_within (good-set sc hands) (ones_in records (told_in kind sc.sizes i))
    (λ o below is.
    has-set_of o (λ t. is_one (record_of records (told_in kind sc.sizes i) t)) below ∙ one o (sym (has-set_of o (is_always_good sc hands) below) ∙ is))) most)
  where
    a : IsAgreed sc hands n
    a = agreement hands law n here.running

    count : i < count_of kind sc.sizes
    count = a.agree.inside kind i (ap (λ x. has x i) (sym ((a.agree.nodes Rmu j st node).trusted kind)) ∙ trusted)

    small : (k : Side) → told_stage k < 3
    small Biu = omega arith
    small Rmu = omega arith

    there : IsIn sc hands learned (learned * (windows_in sc.sizes + 1) + 3 * told_in kind sc.sizes i + (told_stage kind + 1) - 1)
        × IsExactAt sc hands (learned * (windows_in sc.sizes + 1) + 3 * told_in kind sc.sizes i + (told_stage kind + 1) - 1) (told_in kind sc.sizes i) (told_stage kind)
    there = stage-in hands law learned (told_in kind sc.sizes i) (told_stage kind) (told-below kind sc.sizes i count) (small kind) called

    sync_begun : IsRunning (before_slot sc hands learned (sync_slot_of sc.sizes))
    sync_begun =
        running_earlier sc hands (learned * (windows_in sc.sizes + 1) + 3 * sync_slot_of sc.sizes + 1 - 1) (learned * (windows_in sc.sizes + 1) + 3 * sync_slot_of sc.sizes + 2 - 1) (omega arith) called

    one : (o : ℕ) → is_always_good sc hands o ≡ true → is_one (record_of records (told_in kind sc.sizes i) o) ≡ true
    one o good_o =
        let m : ℕ = learned * (windows_in sc.sizes + 1) + 3 * told_in kind sc.sizes i + (told_stage kind + 1) - 1 in
        let mine : GoodThere sc hands (learned * (windows_in sc.sizes + 1) + 3 * told_in kind sc.sizes i + (told_stage kind + 1) - 1) j = good-there hands law m j there.0.running good in
        let their : GoodThere sc hands (learned * (windows_in sc.sizes + 1) + 3 * told_in kind sc.sizes i + (told_stage kind + 1) - 1) o = good-there hands law m o there.0.running good_o in
        let held : has (trusted_of kind Rmu their.st) i ≡ true =
        ap (λ x. has x i) (all-trust hands law m there.0.running their.node mine.node kind ∙ same-trust law there.0 here mine.node node kind) ∙ trusted in
        let said : SaysSome sc.sizes kind i o their.st (word_at sc (moment sc hands m) (told_in kind sc.sizes i) o) = says-some sc.sizes kind i o their.st (word_at sc (moment sc hands m) (told_in kind sc.sizes i) o) count held in
        (recorded-value whole there.1 there.0.running there.0.frame_is their.node
        (always-good-in hands law o learned (sync_slot_of sc.sizes) sync_begun good_o) (told-recorded kind sc.sizes i count) said.is).one

-- an RMU that is good in the whole run trusts each node that is trusted in the slot
trusted-there : {sc hands : _} → IsLawful sc → {learned slot : ℕ} (q : ℕ) → slot < sync_slot_of sc.sizes → q < 3 → learned ≤ sc.frames → {number : ℕ} → number ≡ learned % 65536
    → {n j st : _} → IsIn sc hands learned n → is_always_good sc hands j ≡ true → IsGoodNode sc (moment sc hands n) Rmu j st → {kind i : _}
    → IsTrustedIn sc hands number slot (q + 1) kind i → has (trusted_of kind Rmu st) i ≡ true
trusted-there {sc} {hands} law {learned} {slot} q below small few is {j} here good node {kind} {i} t =
    let p : IsPlaced sc hands t.frame slot (q + 1) = placed hands law t.frame slot (q + 1) (omega (arith, below)) (omega arith) (omega (arith, small)) t.running in
    let m : ℕ = t.frame * (windows_in sc.sizes + 1) + 3 * slot + (q + 1) - 1 in
    let le : t.frame ≤ sc.frames = subst (λ f. f ≤ sc.frames) p.frame_is (within_run sc hands (t.frame * (windows_in sc.sizes + 1) + 3 * slot + (q + 1) - 1) t.running) in
    let frame : t.frame ≡ learned = same-frame t.frame learned sc.frames le few law.frames.1 (sym t.number_is ∙ is) in
    let there : IsIn sc hands learned (t.frame * (windows_in sc.sizes + 1) + 3 * slot + (q + 1) - 1) = record { running = t.running; frame_is = p.frame_is ∙ frame } in
    let mine : GoodThere sc hands (t.frame * (windows_in sc.sizes + 1) + 3 * slot + (q + 1) - 1) j = good-there hands law (t.frame * (windows_in sc.sizes + 1) + 3 * slot + (q + 1) - 1) j t.running good in
    ap (λ x. has x i) (same-trust law here there node mine.node kind)
    ∙ t.trust Rmu j mine.st (always-good-in hands law j t.frame slot
    (running_earlier sc hands (t.frame * (windows_in sc.sizes + 1) + 3 * slot + 1 - 1) (t.frame * (windows_in sc.sizes + 1) + 3 * slot + (q + 1) - 1) (omega arith) t.running) good) mine.node.there

-- Sets as numbers.

-- a good RMU's mask of trusted nodes has 16 bits in each frame after the first
trusted-lt : {sc hands : _} → IsLawful sc → {f n j st : _} → IsComplete sc hands f (sync_slot_of sc.sizes) → suc f * (windows_in sc.sizes + 1) ≤ n → IsIn sc hands (suc f) n
    → is_always_good sc hands j ≡ true → IsGoodNode sc (moment sc hands n) Rmu j st → (kind : Side) → trusted_of kind Rmu st < 2 ^ 16
trusted-lt {sc} {hands} law {f} {n} {j} {st} complete le here good node kind =
    let e : EndOf sc hands f = end-of law complete in
    let o : ℕ = suc f * (windows_in sc.sizes + 1) + 3 * 0 + 1 - 1 in
    let running : IsRunning (moment sc hands (suc f * (windows_in sc.sizes + 1) + 3 * 0 + 1 - 1)) = running_earlier sc hands (suc f * (windows_in sc.sizes + 1) + 3 * 0 + 1 - 1) n (omega (arith, le)) here.running in
    let p : IsPlaced sc hands (suc f) 0 1 = placed hands law (suc f) 0 1 (omega arith) (omega arith) (omega arith) running in
    let first : GoodThere sc hands (suc f * (windows_in sc.sizes + 1) + 3 * 0 + 1 - 1) j = good-there hands law (suc f * (windows_in sc.sizes + 1) + 3 * 0 + 1 - 1) j running good in
    let after : trusted_of kind Rmu st ≡ without (e.shared.trusted kind) (convicted_all sc.sizes e.shared kind) =
    same-trust law here (record { running = running; frame_is = p.frame_is }) node first.node kind
    ∙ e.next_trusted Rmu j first.st (record { good = always-good-in hands law j (suc f) 0 running good; state = first.node.there }) kind in
    subst (λ x. x < 2 ^ 16) (sym after) (set_of-lt (λ t. has (e.shared.trusted kind) t && not (has (convicted_all sc.sizes e.shared kind) t)))

-- If a listener decides.

pub record KnowsAt (sc : Scenario) (hands : List HandIn) (ear : Ear) (learned : ℕ) (records : List Sense) : Type 0 where
  pub frame_before : ℕ
  pub learned_is : learned ≡ suc frame_before
  pub called : IsRunning (before_stage sc hands learned (sync_slot_of sc.sizes) 2)
  pub whole : RecordsAreWhole sc hands ear learned records
  pub some_good : SomeGood sc hands
  pub trust : (n : ℕ) → IsIn sc hands learned n → (me : Side) (i : ℕ) (st : NodeState) → IsGoodNode sc (moment sc hands n) me i st → (kind : Side)
      → trusted_of kind me st ≡ known_of kind sc.sizes records

pub in-run : {sc : _} (hands : List HandIn) → IsLawful sc → (learned : ℕ) → IsRunning (before_stage sc hands learned (sync_slot_of sc.sizes) 2) → learned ≤ sc.frames
in-run {sc} hands law learned called =
    let p : IsPlaced sc hands learned (sync_slot_of sc.sizes) 2 = placed hands law learned (sync_slot_of sc.sizes) 2 (omega arith) (omega arith) (omega arith) called in
    subst (λ f. f ≤ sc.frames) p.frame_is (within_run sc hands (learned * (windows_in sc.sizes + 1) + 3 * sync_slot_of sc.sizes + 2 - 1) called)

count-of : (kind : Side) (sizes : Sizes) (records : List Sense) (i : ℕ) → trusts_of kind sizes records i ≡ true → i < count_of kind sizes
count-of Biu sizes records i h = ltb-true i sizes.bius (and_first (nat_lt i sizes.bius) (are_most sizes (ones_in records i)) h)
count-of Rmu sizes records i h = ltb-true i sizes.rmus (and_first (nat_lt i sizes.rmus) (are_most sizes (ones_in records (first_diagnosis_of Rmu sizes + i))) h)

known-is : (kind : Side) (sizes : Sizes) (records : List Sense) → set_of (trusts_of kind sizes records) ≡ known_of kind sizes records
known-is Biu sizes records = refl
known-is Rmu sizes records = refl

pub knows-at : {sc hands : _} → IsLawful sc → {ear : _} → IsEar sc ear → HearsTheRun sc hands ear → {learned tick s : _} → DecidesBy sc hands ear learned tick s
    → KnowsAt sc hands ear learned s.lesson.records
knows-at {sc} {hands} law {ear} is run {learned} {tick} {s} decides = record {
  frame_before = learned - 1;
  learned_is = after_first;
  called = decides.called;
  whole = whole;
  some_good = record { j = g; good = good };
  trust = trust;
}
  where
    l : (o : ℕ) × HasLesson sc hands ear learned tick o s
    l = has-lesson law is run decides

    g : ℕ
    g = l.1.fixed.call.call.j

    good : is_always_good sc hands l.1.fixed.call.call.j ≡ true
    good = l.1.fixed.call.call.good

    after_first : learned ≡ suc (learned - 1)
    after_first = omega (arith, l.1.before)

    whole : RecordsAreWhole sc hands ear learned s.lesson.records
    whole = records-whole sc hands law ear is run learned tick s decides

    complete : IsComplete sc hands (learned - 1) (sync_slot_of sc.sizes)
    complete =
        running_earlier sc hands ((learned - 1) * (windows_in sc.sizes + 1) + 3 * sync_slot_of sc.sizes + 4 - 1) (learned * (windows_in sc.sizes + 1) + 3 * sync_slot_of sc.sizes + 2 - 1)
        (omega (arith, ap (λ f. f * (windows_in sc.sizes + 1)) after_first)) decides.called

    trust : (n : ℕ) → IsIn sc hands learned n → (me : Side) (i : ℕ) (st : NodeState) → IsGoodNode sc (moment sc hands n) me i st → (kind : Side) → trusted_of kind me st ≡ known_of kind sc.sizes s.lesson.records
    trust n here me i st node kind =
        all-trust hands law n here.running node mine.node kind
        ∙ is_set_of (trusted_of kind Rmu mine.st) (trusts_of kind sc.sizes s.lesson.records) few
        (λ k below. same_bool (has (trusted_of kind Rmu mine.st) k) (trusts_of kind sc.sizes s.lesson.records k)
        (λ t. trusts-all law run.most_good whole decides.called here good mine.node kind k t)
        (λ t. back kind k t)) ∙ known-is kind sc.sizes s.lesson.records
      where
        mine : GoodThere sc hands n l.1.fixed.call.call.j
        mine = good-there hands law n l.1.fixed.call.call.j here.running good

        place : n ≡ (moment sc hands n).frame * (windows_in sc.sizes + 1) + (moment sc hands n).window
        place = (agreement hands law n here.running).agree.place

        few : trusted_of kind Rmu mine.st < 2 ^ 16
        few =
            trusted-lt law complete
            (omega (arith, place, ap (λ f. f * (windows_in sc.sizes + 1)) (here.frame_is ∙ after_first)))
            (record { running = here.running; frame_is = here.frame_is ∙ after_first }) good mine.node kind

        learns : s.learns ≡ true
        learns = and_first s.learns (is_tick s.lesson.decides s.had) decides.deciding

        told : TrustsTheTrusted sc hands ear tick
        told = trusts-the-trusted sc hands law ear is run tick decides.in_time

        back : (k : Side) (o : ℕ) → trusts_of k sc.sizes s.lesson.records o ≡ true → has (trusted_of k Rmu mine.st) o ≡ true
        back Biu o t =
            trusted-there law 1 (told-below Biu sc.sizes o (count-of Biu sc.sizes s.lesson.records o t)) (omega arith) (in-run hands law learned decides.called) decides.lesson here good mine.node ((told s decides.searching learns o).0 t)
        back Rmu o t =
            trusted-there law 2 (told-below Rmu sc.sizes o (count-of Rmu sc.sizes s.lesson.records o t)) (omega arith)
            (in-run hands law learned decides.called) decides.lesson here good mine.node ((told s decides.searching learns o).1 t)

-- the records' trusted sets are those of the sync slot
pub trusted-in-sync : {sc hands : _} → IsLawful sc → {ear learned records : _} → KnowsAt sc hands ear learned records
    → AreTrusted sc hands learned (sync_slot_of sc.sizes) (trusted_bius sc.sizes records) (trusted_rmus sc.sizes records)
trusted-in-sync {sc} {hands} law {learned} {records} k = record { biu = λ me i st h. by me i st h Biu; rmu = λ me i st h. by me i st h Rmu }
  where
    running : IsRunning (before_slot sc hands learned (sync_slot_of sc.sizes))
    running =
        running_earlier sc hands (learned * (windows_in sc.sizes + 1) + 3 * sync_slot_of sc.sizes + 1 - 1) (learned * (windows_in sc.sizes + 1) + 3 * sync_slot_of sc.sizes + 2 - 1) (omega arith) k.called

    p : IsPlaced sc hands learned (sync_slot_of sc.sizes) 1
    p = placed hands law learned (sync_slot_of sc.sizes) 1 (omega arith) (omega arith) (omega arith) running

    by : (me : Side) (i : ℕ) (st : NodeState) → IsGoodBefore sc hands learned (sync_slot_of sc.sizes) me i st → (kind : Side) → trusted_of kind me st ≡ known_of kind sc.sizes records
    by me i st h kind =
        k.trust (learned * (windows_in sc.sizes + 1) + 3 * sync_slot_of sc.sizes + 1 - 1) (record { running = running; frame_is = p.frame_is }) me i st
        (good_before_slot (omega arith) p h) kind

pub trusts-as-the-bus : (sc : Scenario) (hands : List HandIn) → IsLawful sc → (ear : Ear) → IsEar sc ear → HearsTheRun sc hands ear → (learned tick : ℕ) (s : Search) → DecidesBy sc hands ear learned tick s
    → AreTrusted sc hands learned (sync_slot_of sc.sizes) (trusted_bius sc.sizes s.lesson.records) (trusted_rmus sc.sizes s.lesson.records)
trusts-as-the-bus sc hands law ear is run learned tick s decides =
    trusted-in-sync law (knows-at law is run decides)
