-- If good nodes are near each other before a window, the window is timely.
use Rattle.std.proofs.{Common.{◌≡◌, ℕ, zero, suc, ◌+◌, ◌-◌, ◌*◌, ◌/◌, ◌%◌, ◌≤◌, ◌<◌, ◌==◌, true, false, Some, refl, sym, ◌∙◌, ap, subst, arith, inl, inr, lit<}, lemmas.Bool.cases_lt, lemmas.Option.same_Some, Math.Nat.mul-le-mul_right}
use Rattle.rb_base.specs.{Nodes.{Side, other}, Nodes.Side.{Biu, Rmu}, Sizes.sync_slot_of}
use Rattle.rb_base.proofs.Plain.{less-differs}
use Rattle.rb_rules.specs.{declared.role.Role.TheVariants.Sync, Goodness.Scenario, Hearing.{Sending, sending}, Lawful.IsLawful, NodeState.NodeState, Plan.{f0_of, shortest_of}, Rounds.{IsTimely, Moment, windows_in}, Slots.listens, SyncStage.send_tick_of, Windows.send_offset_of}
use Rattle.rb_laws_agreement.proofs.{Goodnesses.{slot_here, slot_last}, Invariant.{Agree, IsGoodNode}, NodeWindows.{exact_windows, tail_windows, word_at}}
use Rattle.rb_laws_synchrony.proofs.{PlanNumbers.{drift_of, exact_early, exact_late, last_plus}, StageMiddles.tick_of, StageCalls.{Begun, CallWell, IsAt, clock_now, exact_at, first_about, first_at, first_calls, lie_about, second_about, second_at, second_calls, third_about, third_at, third_calls}, Synchronous.{Synchronous, at_offset}, TakenCalls.{IsStage, call_sent, is_set}, TimelyWindows.{IsSent, IsSet, LieAbout, sent_parts, timely, timely_silent}, Times.{lawful_fits, plan_fits}}

-- ---- below the sync slot

-- what a good node sends below the sync slot is sent at the offset of its stage
exact-tick : (sc : Scenario) (m : Moment) (slot q : ℕ) (me : Side) (i : ℕ) (st : NodeState) (word : ℕ) {s : _} → slot < sync_slot_of sc.sizes → m.window ≡ 3 * slot + q
    → sending sc.sizes sc.plan me i st slot (q + 1) word ≡ Some s → s.tick ≡ st.epoch + (m.window * sc.plan.l + sc.plan.h)
exact-tick sc m slot q me i st word {s} below at is =
    let parts : IsSent sc.sizes sc.plan me i st slot (q + 1) word s = sent_parts sc.sizes sc.plan me i st slot (q + 1) word is in
    let away : (slot == sync_slot_of sc.sizes) ≡ false = less-differs slot (sync_slot_of sc.sizes) below in
    let tick : send_tick_of sc.sizes sc.plan st slot (q + 1) ≡ Some (st.epoch + send_offset_of sc.plan slot (q + 1)) = rw away refl in
    let e : st.epoch + send_offset_of sc.plan slot (q + 1) ≡ s.tick = same_Some (st.epoch + send_offset_of sc.plan slot (q + 1)) s.tick (sym tick ∙ parts.tick) in
    let w : 3 * slot + (q + 1) - 1 ≡ m.window = omega arith in
    sym e ∙ ap (λ w. st.epoch + (w * sc.plan.l + sc.plan.h)) w

-- all good nodes are in the moment's frame
abbrev pub AllInFrame : Scenario → Moment → Type 0
AllInFrame sc m = (me : Side) (i : ℕ) (st : NodeState) → IsGoodNode sc m me i st → st.frame ≡ m.frame

pub timely_exact : {sc m : _} (slot q : ℕ) {low : ℕ} → IsLawful sc → AllInFrame sc m → Begun sc m low
    → slot < sync_slot_of sc.sizes → q < 3 → m.window ≡ 3 * slot + q → IsTimely sc m
timely_exact {sc} {m} slot q {low} law frames begun below small at =
    timely c (record {
      own = λ me i st h sent is.
          let e : sent.tick ≡ st.epoch + (a + sc.plan.h) = exact-tick sc m slot q me i st (word_at sc m slot i) below at is in
          within st.epoch a sc.plan.h sc.plan.l sent.tick (c.ws.first me st) (c.ws.last me st) e fit.in_l (where_at.first_is me st) (where_at.last_is me st);
      between = λ me i st h sent is.
          at_offset (clock_now law h) sc.plan.p st.epoch (a + sc.plan.h)
          (exact-tick sc m slot q me i st (word_at sc m slot i) below at is) (begun me i st h);
    }) (lie_about c where_at from to begun
    (exact_early low sc.plan.p a f sc.plan.h (shortest_of sc.plan) (drift_of sc.plan) sc.plan.dmin a_le fit.before_1)
    (exact_late low sc.plan.p a f sc.plan.h sc.plan.l (a + sc.plan.l - 1) (shortest_of sc.plan) (drift_of sc.plan) sc.plan.dmax a_le (last_plus a sc.plan.l law.plan.l.0) fit.after_1))
  where
    a : ℕ
    a = m.window * sc.plan.l

    f : ℕ
    f = f0_of sc.sizes sc.plan

    from : ℕ
    from = low + (m.window * sc.plan.l + sc.plan.h) * shortest_of sc.plan

    to : ℕ
    to = low + sc.plan.p + (m.window * sc.plan.l + sc.plan.h) * tick_of sc.plan

    fit : plan_fits sc
    fit = lawful_fits law

    c : IsSet sc m slot (q + 1)
    c = record {
      law = law;
      ws = exact_windows sc m slot q below small at;
      slot_is = slot_here sc.sizes slot q below small at;
      frames = frames;
    }

    where_at : IsAt sc m slot (q + 1) (exact_windows sc m slot q below small at) (m.window * sc.plan.l) sc.plan.l
    where_at = exact_at q (exact_windows sc m slot q below small at) below small at

    a_le : m.window * sc.plan.l ≤ f0_of sc.sizes sc.plan
    a_le = mul-le-mul_right sc.plan.l (omega arith)

    within : (e a h l tick first last : ℕ) → tick ≡ e + (a + h) → h < l → first ≡ a → last ≡ a + l - 1 → (e + first ≤ tick) × (tick ≤ e + last)
    within e a h l tick first last is less x y = (omega arith, omega arith)

-- ---- in the sync slot

-- only one kind sends in a stage
only : (kind me : Side) (stage : ℕ) → listens (other me) Sync stage ≡ true → (listens (other (other kind)) Sync stage ≡ false) → me ≡ kind
only Biu Biu stage h k = refl
only Biu Rmu stage h k = let both : true ≡ false = sym h ∙ k in absurd (cc)
only Rmu Biu stage h k = let both : true ≡ false = sym h ∙ k in absurd (cc)
only Rmu Rmu stage h k = refl

pub timely_stage : {sc m : _} (q : ℕ) (c : IsSet sc m (sync_slot_of sc.sizes) (q + 1)) {kind first ticks from to : _}
    → listens (other (other kind)) Sync (q + 1) ≡ false → 1 ≤ ticks
    → IsAt sc m (sync_slot_of sc.sizes) (q + 1) c.ws first ticks → CallWell sc m kind (q + 1) first (first + ticks) from to
    → LieAbout sc m (sync_slot_of sc.sizes) (q + 1) c.ws from to → IsTimely sc m
timely_stage {sc} {m} q c {kind} {first} {ticks} {from} {to} deaf some at calls about =
    timely c (record {
      own = λ me i st h sent is.
          let sends = call_sent sc.sizes sc.plan me i st (q + 1) (word_at sc m (sync_slot_of sc.sizes) i) is in
          let e : kind ≡ me = sym (only kind me (q + 1) sends.1 deaf) in
          let own = subst (λ k. CallWell sc m k (q + 1) first (first + ticks) from to) e calls in
          within st.epoch first ticks sent.tick (c.ws.first me st) (c.ws.last me st) some (own.own i st sent.tick h sends.0)
          (at.first_is me st) (at.last_is me st);
      between = λ me i st h sent is.
          let sends = call_sent sc.sizes sc.plan me i st (q + 1) (word_at sc m (sync_slot_of sc.sizes) i) is in
          let e : kind ≡ me = sym (only kind me (q + 1) sends.1 deaf) in
          (subst (λ k. CallWell sc m k (q + 1) first (first + ticks) from to) e calls).between i st sent.tick h sends.0;
    }) about
  where
    within : (e first ticks tick a b : ℕ) → 1 ≤ ticks → (e + first ≤ tick) × (tick < e + (first + ticks)) → a ≡ first → b ≡ first + ticks - 1 → (e + a ≤ tick) × (tick ≤ e + b)
    within e first ticks tick a b some in_it x y = (omega (arith, x, in_it.0), omega (arith, y, some, in_it.1))

stage-of : {sc hands n m s : _} (q : ℕ) → IsLawful sc → Agree sc hands n m s → q < 3 → m.window ≡ 3 * sync_slot_of sc.sizes + q
    → IsStage sc hands n m s q
stage-of q law agree small at = record { law = law; agree = agree; small = small; at = at }

timely-tail : {sc hands n m s : _} → IsLawful sc → Agree sc hands n m s → m.window ≡ 3 * sync_slot_of sc.sizes + 3 → IsTimely sc m
timely-tail {sc} {m} law agree at =
    timely_silent (record {
      law = law;
      ws = tail_windows sc m at;
      slot_is = slot_last sc.sizes 3 at;
      frames = λ me i st h. (agree.nodes me i st h).frame;
    }) (λ me i st h sent is. silent me i st sent is)
  where
    deaf : (me : Side) → listens (other me) Sync 4 ≡ false
    deaf Biu = refl
    deaf Rmu = refl

    silent : (me : Side) (i : ℕ) (st : NodeState) (sent : Sending) → sending sc.sizes sc.plan me i st (sync_slot_of sc.sizes) 4 (word_at sc m (sync_slot_of sc.sizes) i) ≡ Some sent → ⊥
    silent me i st sent is =
        let sends = call_sent sc.sizes sc.plan me i st 4 (word_at sc m (sync_slot_of sc.sizes) i) is in
        let both : true ≡ false = sym sends.1 ∙ deaf me in
        cc

pub timely_moment : {sc hands n m s low : _} → IsLawful sc → Agree sc hands n m s → Synchronous sc m s low
    → m.window < windows_in sc.sizes → IsTimely sc m
timely_moment {sc} {hands} {n} {m} {s} law agree sync inside =
    elim (cases_lt m.window (3 * sync_slot_of sc.sizes)) [
      | inl exact ↦ timely_exact (m.window / 3) (m.window % 3) law (λ me i st h. (agree.nodes me i st h).frame) sync.begun (omega arith) (omega arith) (omega arith)
      | inr late ↦ in_sync (m.window - 3 * sync_slot_of sc.sizes) (omega arith) (omega arith)
    ]
  where
    in_sync : (q : ℕ) → q < 4 → m.window ≡ 3 * sync_slot_of sc.sizes + q → IsTimely sc m
    in_sync zero small at =
        let c : IsStage sc hands n m s 0 = stage-of 0 law agree (lit< tt) at in
        timely_stage 0 (is_set c) refl law.plan.l.0
        (first_at (is_set c).ws at) (first_calls law sync.begun) (first_about (is_set c) at sync.begun)
    in_sync (suc zero) small at =
        let c : IsStage sc hands n m s 1 = stage-of 1 law agree (lit< tt) at in
        timely_stage 1 (is_set c) refl law.plan.v.0
        (second_at (is_set c).ws at) (second_calls law sync at) (second_about (is_set c) at sync.begun)
    in_sync (suc (suc zero)) small at =
        let c : IsStage sc hands n m s 2 = stage-of 2 law agree (lit< tt) at in
        timely_stage 2 (is_set c) refl law.plan.z.0
        (third_at (is_set c).ws at) (third_calls law sync at) (third_about (is_set c) at sync.begun)
    in_sync (suc (suc (suc zero))) small at = timely-tail law agree at
    in_sync (suc (suc (suc (suc q)))) small at = absurd (omega arith)
