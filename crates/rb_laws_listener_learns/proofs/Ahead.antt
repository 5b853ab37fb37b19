-- The first frame of a listener begins after the tick at which it decides.
use Rattle.std.proofs.{Common.{◌≡◌, ℕ, ◌+◌, ◌-◌, ◌*◌, ◌<◌, ◌≤◌, ◌==◌, ◌&&◌, not, nat_lt, Bool, true, false, Option, Some, None, is_some, option_map, if◌then◌else◌, List, refl, sym, ◌∙◌, ap, arith}, lemmas.Bool.{eqb-true, ltb-true}}
use Rattle.rb_base.specs.{Counting.{count_if, numbers}, Nodes.{has, set_of, size}, Nodes.Side.Rmu, Sizes.{Sizes, sync_slot_of}}
use Rattle.rb_base.proofs.{Plain.{and_first, and_second}, Sets.has-set_of}
use Rattle.rb_rules.specs.{declared.message.Message.Message, declared.plan.Plan.Plan, Clock.IsStamp, ExactStage.{each_node, present}, Goodness.{Scenario, is_good}, Hearing.Sending, Lawful.{IsDelay, IsLawful}, Plan.{f0_of, shortest_of}, Ports.HandIn, Rounds.moment, Sense.stamp_in, Slots.{first_diagnosis_of, role_of}, Middle.IsMiddle}
use Rattle.rb_rules.proofs.{Middles.IsBetween, Slots.sync_role}
use Rattle.rb_laws_agreement.proofs.{Agreement.{IsAgreed, agreement}, Numbers.{how_many, how_many-is}}
use Rattle.rb_laws_synchrony.proofs.{Middles.{HasStamp, middle_within, some_middle}, PlanNumbers.{drift_of, eps_of}, Synchronous.{from_2, to_2}, Synchrony.{IsSynchronous, synchrony}, Times.{lawful_fits, plan_fits}}
use Rattle.rb_laws_listener_near.proofs.ListenerMiddles.{others_fewer}
use Rattle.rb_listen.specs.{Lessons.{first_by, first_of, middle_in, ones_in, record_of, recorded_of, stage_recorded, trusted_bius, trusted_rmus, trusts_rmu}, Passes.{are_most, is_call, is_sync, reach_of}, declared.lesson.First.First, declared.lesson.Lesson.Lesson, declared.search.Search.Search}
use Rattle.rb_laws_listener_learns.specs.{Calling.IsHeardToCall, Deciding.DecidesBy, Ears.{Ear, HearsTheRun, IsEar, SendsIn, coming_to, is_always_good}, Records.IsRecorded}
use Rattle.rb_laws_listener_learns.proofs.{Calling.heard-to-call, Deciding.IsHeardCall, Fresh.always-good-at, Seeks.always-counts, Together.{call-time, min-either, near-stamps, steady-ear}, TrustedSets.{GoodThere, IsIn, KnowsAt, good-there, knows-at}, Whole.{HasLesson, has-lesson}}

-- Calls of one frame come with stamps less than the reach apart.

enough-ticks : (low p f h l v u d least : ℕ) {most : ℕ} (eps : ℕ) → most ≡ least + eps → p + d * (f + h) + 2 * most + (u + d) + d * l + (1 + h) * u ≤ v * u
    → low + p + (f + h) * (u + d) + most + (u + d) + l * (u + d) + most + u ≤ low + (f + h) * u + least + l * u + least + v * u
enough-ticks low p f h l v u d least eps e c4 = omega (arith, e, c4)

enough-more : (low p f h l v z u d least : ℕ) {most : ℕ} (eps : ℕ) → most ≡ least + eps → p + d * (f + h) + 3 * most + 2 * (u + d) + d * (l + v) + (1 + h) * u ≤ z * u
    → low + p + (f + h) * (u + d) + most + (u + d) + l * (u + d) + most + u ≤ low + (f + h) * u + least + l * u + least + z * u
enough-more low p f h l v z u d least eps e c6 = omega (arith, e, c6)

one-less : (r u : ℕ) → 1 ≤ r → (r - 1) * u + u ≡ r * u
one-less r u some = let e : r ≡ r - 1 + 1 = omega (arith, some) in let f : (r - 1) * u + u ≡ (r - 1 + 1) * u = omega arith in f ∙ ap (λ x. x * u) (sym e)

pub come-near : {sc hands : _} → IsLawful sc → {ear : _} → IsEar sc ear → {n i j s t : _} → (moment sc hands n).window ≡ 3 * sync_slot_of sc.sizes + 1
    → SendsIn sc hands n i s → SendsIn sc hands n j t → {a b : ℕ} → 1 ≤ a → IsStamp ear.clock (coming_to sc ear i (moment sc hands n).frame s).time a
    → IsStamp ear.clock (coming_to sc ear j (moment sc hands n).frame t).time b → b < a + reach_of sc.plan
come-near {sc} {hands} law {ear} is {n} {i} {j} {s} {t} at sends_i sends_j some is_a is_b =
    omega (arith, some_reach, near-stamps (steady-ear law is) (reach_of sc.plan - 1) ((reach_of sc.plan - 1) * u) is_a is_b some near (omega arith))
  where
    u : ℕ
    u = shortest_of sc.plan

    d : ℕ
    d = drift_of sc.plan

    fit : plan_fits sc
    fit = lawful_fits law

    some_reach : 1 ≤ reach_of sc.plan
    some_reach = omega (arith, fit.in_v, fit.in_z)

    synced : IsSynchronous sc hands n
    synced = synchrony hands law n sends_i.running

    x : ℕ
    x = (coming_to sc ear i (moment sc hands n).frame s).time

    y : ℕ
    y = (coming_to sc ear j (moment sc hands n).frame t).time

    delay : (k : ℕ) (sent : Sending) → IsDelay sc.plan (ear.delay k (record { frame = (moment sc hands n).frame; slot = sent.message.slot; stage = sent.message.stage }))
    delay k sent = is.delays k (record { frame = (moment sc hands n).frame; slot = sent.message.slot; stage = sent.message.stage })

    from : from_2 sc synced.low + sc.plan.dmin ≤ x
    from = omega (arith, (call-time law at sends_i synced).least, (delay i s).least)

    to : y ≤ to_2 sc synced.low + sc.plan.dmax
    to = omega (arith, (call-time law at sends_j synced).most, (delay j t).greatest)

    room : to_2 sc synced.low + sc.plan.dmax + u ≤ from_2 sc synced.low + sc.plan.dmin + reach_of sc.plan * u
    room =
        min-either (λ r. to_2 sc synced.low + sc.plan.dmax + shortest_of sc.plan ≤ from_2 sc synced.low + sc.plan.dmin + r * shortest_of sc.plan) sc.plan.v sc.plan.z
        (enough-ticks synced.low sc.plan.p (f0_of sc.sizes sc.plan) sc.plan.h sc.plan.l sc.plan.v u d sc.plan.dmin (eps_of sc.plan) fit.delays fit.after_2)
        (enough-more synced.low sc.plan.p (f0_of sc.sizes sc.plan) sc.plan.h sc.plan.l sc.plan.v sc.plan.z u d sc.plan.dmin (eps_of sc.plan) fit.delays fit.after_3)

    near : y ≤ x + (reach_of sc.plan - 1) * u
    near = omega (arith, from, to, room, one-less (reach_of sc.plan) u some_reach)

-- The middle.

-- a call is of stage 2 of the sync slot
pub call-place : (sizes : Sizes) (m : Message) → is_call sizes m ≡ true → (m.slot ≡ sync_slot_of sizes) × (m.stage ≡ 2)
call-place sizes m call = (
  eqb-true m.slot (sync_slot_of sizes) (and_second (is_sync m.tag) (m.slot == sync_slot_of sizes) (and_first (is_sync m.tag && (m.slot == sync_slot_of sizes)) (m.stage == 2) call)),
  eqb-true m.stage 2 (and_second (is_sync m.tag && (m.slot == sync_slot_of sizes)) (m.stage == 2) call),
)

pub record FindsFirst (sc : Scenario) (s : Search) (tick : ℕ) : Type 0 where
  pub middle : ℕ
  pub middle_is : middle_in sc.sizes s.lesson.records (trusted_rmus sc.sizes s.lesson.records) ≡ Some middle
  pub first_is : first_of sc.sizes sc.plan s.lesson
      ≡ Some (first_by sc.sizes sc.plan s.lesson (trusted_bius sc.sizes s.lesson.records) (trusted_rmus sc.sizes s.lesson.records) middle)
  pub ahead : tick < middle + sc.plan.v + sc.plan.z + sc.plan.c

if-none : (b : Bool) (o : Option ℕ) → is_some (if b then o else None) ≡ true → b ≡ true
if-none true o h = refl
if-none false o h = cc

first-is : (sizes : Sizes) (plan : Plan) (lesson : Lesson) {m : ℕ} → middle_in sizes lesson.records (trusted_rmus sizes lesson.records) ≡ Some m
    → first_of sizes plan lesson ≡ Some (first_by sizes plan lesson (trusted_bius sizes lesson.records) (trusted_rmus sizes lesson.records) m)
unfolding first_of
first-is sizes plan lesson is = ap (option_map (first_by sizes plan lesson (trusted_bius sizes lesson.records) (trusted_rmus sizes lesson.records))) is

pub finds-first : {sc hands : _} → IsLawful sc → {ear : _} → IsEar sc ear → HearsTheRun sc hands ear → {learned tick s : _} → DecidesBy sc hands ear learned tick s
    → FindsFirst sc s tick
finds-first {sc} {hands} law {ear} is run {learned} {tick} {s} decides = record {
  middle = found.0;
  middle_is = found.1;
  first_is = first-is sc.sizes sc.plan s.lesson found.1;
  ahead = omega (arith, between.least, l.1.fixed.tick_is, l.1.fixed.call.late);
}
  where
    l : (o : ℕ) × HasLesson sc hands ear learned tick o s
    l = has-lesson law is run decides

    -- the number of the RMU that called
    caller : ℕ
    caller = l.1.fixed.call.call.j

    at : ℕ
    at = l.1.fixed.call.at

    call : IsHeardCall sc hands ear l.1.fixed.call.call.j s.lesson.frame l.1.fixed.call.at
    call = l.1.fixed.call.call.call

    k : KnowsAt sc hands ear learned s.lesson.records
    k = knows-at law is run decides

    here : IsIn sc hands learned call.n
    here = record { running = call.sent.running; frame_is = l.1.frame }

    a : IsAgreed sc hands call.n
    a = agreement hands law call.n call.sent.running

    trusted : (j : ℕ) → is_always_good sc hands j ≡ true → has (trusted_rmus sc.sizes s.lesson.records) j ≡ true
    trusted j good =
        let mine : GoodThere sc hands call.n j = good-there hands law call.n j here.running good in
        ap (λ x. has x j) (sym (k.trust call.n here Rmu j mine.st mine.node Rmu) ∙ (a.agree.nodes Rmu j mine.st mine.node).trusted Rmu)
        ∙ a.agree.trusted Rmu j mine.node.good

    stamped : (j : ℕ) → is_always_good sc hands j ≡ true
        → HasStamp (at + 1 - reach_of sc.plan) (at + reach_of sc.plan)
        (recorded_of stamp_in s.lesson.records (trusted_rmus sc.sizes s.lesson.records) (sync_slot_of sc.sizes) j)
    stamped j good = record {
      stamp = r.stamp;
      is = ap (λ b. if b then stamp_in (record_of s.lesson.records (sync_slot_of sc.sizes) j) else None) (trusted j good)
          ∙ ap (λ t. stamp_in (record_of s.lesson.records t j)) (sym slot) ∙ ap stamp_in r.is;
      between = record {
        least =
            omega (
              arith,
              come-near law is call.window_is calls.sent
                  call.sent r.some r.stamped call.stamped,
            );
        most =
            omega (
              arith,
              come-near law is call.window_is
                  call.sent calls.sent call.some call.stamped r.stamped,
            );
      };
    }
      where
        in_call : is_good sc Rmu j (moment sc hands call.n).frame (sync_slot_of sc.sizes) ≡ true
        in_call = always-good-at hands law j call.n (sync_slot_of sc.sizes) here.running (omega (arith, call.window_is)) good

        good_there : is_good sc Rmu j learned (sync_slot_of sc.sizes) ≡ true
        good_there = ap (λ f. is_good sc Rmu j f (sync_slot_of sc.sizes)) (sym l.1.frame) ∙ in_call

        calls : IsHeardToCall sc hands ear call.n j
        calls =
            heard-to-call sc hands law ear run call.n j here.running call.window_is
            in_call

        parts : (calls.sending.message.slot ≡ sync_slot_of sc.sizes) × (calls.sending.message.stage ≡ 2)
        parts = call-place sc.sizes calls.sending.message calls.call

        slot : calls.sending.message.slot ≡ sync_slot_of sc.sizes
        slot = parts.0

        r : IsRecorded sc hands ear s.lesson.records call.n j calls.sending
        r =
            k.whole j good_there call.n calls.sending calls.sent l.1.frame
            (parts.1 ∙ sym (ap (λ t. stage_recorded (role_of sc.sizes t)) parts.0 ∙ ap stage_recorded (sync_role sc.sizes)))

    most : sc.sizes.rmus < 2 * how_many (is_always_good sc hands)
    most = omega (arith, ltb-true sc.sizes.rmus (2 * size (set_of (is_always_good sc hands))) run.most_good, how_many-is (is_always_good sc hands))

    fewer : count_if (λ j. not (is_always_good sc hands j) && is_some (recorded_of stamp_in s.lesson.records (trusted_rmus sc.sizes s.lesson.records) (sync_slot_of sc.sizes) j)) (numbers 16)
        < count_if (is_always_good sc hands) (numbers 16)
    fewer =
        others_fewer sc.sizes.rmus (is_always_good sc hands) (λ j. is_some (recorded_of stamp_in s.lesson.records (trusted_rmus sc.sizes s.lesson.records) (sync_slot_of sc.sizes) j)) law.sizes.most_rmus
        (λ j below good. always-counts sc hands j good)
        (λ j below some.
        let in_set : has (trusted_rmus sc.sizes s.lesson.records) j ≡ true = if-none (has (trusted_rmus sc.sizes s.lesson.records) j) (stamp_in (record_of s.lesson.records (sync_slot_of sc.sizes) j)) some in
        ltb-true j sc.sizes.rmus
        (and_first (nat_lt j sc.sizes.rmus) (are_most sc.sizes (ones_in s.lesson.records (first_diagnosis_of Rmu sc.sizes + j))) (sym (has-set_of j (trusts_rmu sc.sizes s.lesson.records) below) ∙ in_set))) most

    found : (m : ℕ) × (middle_in sc.sizes s.lesson.records (trusted_rmus sc.sizes s.lesson.records) ≡ Some m)
        × IsMiddle m (present (each_node (recorded_of stamp_in s.lesson.records (trusted_rmus sc.sizes s.lesson.records) (sync_slot_of sc.sizes))))
    found =
        some_middle (recorded_of stamp_in s.lesson.records (trusted_rmus sc.sizes s.lesson.records) (sync_slot_of sc.sizes)) (is_always_good sc hands) (numbers 16)
        (λ j good. ap is_some (stamped j good).is) fewer

    between : IsBetween (at + 1 - reach_of sc.plan) (at + reach_of sc.plan) found.0
    between =
        middle_within (recorded_of stamp_in s.lesson.records (trusted_rmus sc.sizes s.lesson.records) (sync_slot_of sc.sizes)) (is_always_good sc hands) (at + 1 - reach_of sc.plan)
        (at + reach_of sc.plan) (numbers 16) stamped fewer found.2

pub decides-in-time : (sc : Scenario) (hands : List HandIn) → IsLawful sc → (ear : Ear) → IsEar sc ear → HearsTheRun sc hands ear → (learned tick : ℕ) (s : Search) → DecidesBy sc hands ear learned tick s
    → (first : First) × ((first_of sc.sizes sc.plan s.lesson ≡ Some first) × (tick < first.epoch))
decides-in-time sc hands law ear is run learned tick s decides =
    let f : FindsFirst sc s tick = finds-first law is run decides in
    (first_by sc.sizes sc.plan s.lesson (trusted_bius sc.sizes s.lesson.records) (trusted_rmus sc.sizes s.lesson.records) f.middle, (f.first_is, f.ahead))
