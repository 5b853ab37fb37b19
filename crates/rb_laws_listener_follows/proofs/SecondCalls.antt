-- A listener in stage 2 of the sync slot takes the call of each RMU that is good there, with the
-- stamp of its time.
use Rattle.std.proofs.{Common.{◌≡◌, ℕ, ◌+◌, ◌-◌, ◌*◌, ◌%◌, ◌<◌, ◌≤◌, ◌==◌, true, false, List, [], ◌∷◌, Option, Some, slice_get, refl, sym, ◌∙◌, ap, subst, arith}, lemmas.Option.same_Some}
use Rattle.rb_base.specs.{Nodes.has, Nodes.Side.{Biu, Rmu}, Sizes.sync_slot_of}
use Rattle.rb_base.proofs.Plain.{all_four, eq_self}
use Rattle.rb_rules.specs.{declared.sense.Sense.TheVariants.One, Clock.{IsStamp, stamp_of}, Core.of_source, Goodness.{Scenario, is_good}, Hearing.{Coming, Sending}, NodeState.NodeState, NodeSteps.expect_of, Plan.{f0_of, shortest_of}, Ports.HandIn, Rounds.{moment, sending_in, window_in}, Sense.{sense_of, stamp_in, suits}, Spelling.{IsMessage, spelling_of}, Standing.taken_of, SyncStage.{call_of, call_tick_of, expects_call}}
use Rattle.rb_rules.proofs.{Senses.spelled_is_one, Slots.few_slots, Stamps.{one_stamp, stamp_of-is}}
use Rattle.rb_laws_agreement.proofs.{Goodnesses.{good_counts, slot_last}, Invariant.IsGoodNode, NodeWindows.{Windows, sync_windows_are, word_at}}
use Rattle.rb_laws_synchrony.proofs.{PlanNumbers.drift_of, Times.Steady}
use Rattle.rb_laws_listener_learns.specs.Ears.{Ear, HearsTheRun, IsEar, IsHeard, IsOfGood, SendsIn, coming_to}
use Rattle.rb_laws_listener_learns.proofs.{Calling.call-sending, Together.steady-ear}
use Rattle.rb_laws_listener_follows.proofs.{Arrivals.{none_with_stamp, one_collected, one_with_stamp}, FirstCalls.sense_span, FollowerRuns.collected, HeardExact.{Beside, IsOwn, comes}, HeardSync.{called_between, calls_in_time, only_calls}}

-- ---- a sole message

-- if all that comes from RMU `j` with the stamps of these ticks is one message that it sent while
-- it was good, this is its only arrival
pub sole_source : {sc hands ear : _} → IsEar sc ear → HearsTheRun sc hands ear → (first ticks : ℕ) {j k c : _} → IsOfGood sc hands ear c → c.from ≡ j → j < sc.sizes.rmus
    → first + ticks ≤ ear.ticks → first ≤ k → k < first + ticks → IsStamp ear.clock c.time k → IsHeard ear k c
    → ((i : ℕ) → i < ticks → (nth : ℕ) (d : Coming) → slice_get (ear.heard (first + i)) nth ≡ Some d → d.from ≡ j → d ≡ c)
    → of_source (collected sc.sizes ear.heard first ticks) j ≡ record { stamp = k; bytes = c.bytes } ∷ []
sole_source {sc} {ear} is run first ticks {j} {k} {c} good from inside in_time low high stamp heard sole =
    subst (λ t. of_source (collected sc.sizes ear.heard first ticks) j ≡ record { stamp = t; bytes = c.bytes } ∷ []) place
    (one_collected sc.sizes ear.heard first ticks j (k - first) (record { stamp = first + (k - first); bytes = c.bytes }) within
    (one_with_stamp sc.sizes (first + (k - first)) (ear.heard (first + (k - first))) heard.nth inside here from
    (λ a d at mine.
    run.once (first + (k - first)) a heard.nth c (omega (arith, within, in_time)) good (at ∙ ap (λ y. Some y) (sole (k - first) within a d at mine)) here))
    (λ i lt apart.
    none_with_stamp sc.sizes (first + i) (ear.heard (first + i)) j (λ nth d at mine.
    let stamps : first + i ≡ k =
    one_stamp ear.clock c.time (first + i) k
    (subst (λ (y : Coming). IsStamp ear.clock y.time (first + i)) (sole i lt nth d at mine) (is.stamps (first + i) d (omega (arith, lt, in_time)) (record { nth = nth; there = at }))) stamp in
    apart (omega (arith, stamps, low)))))
  where
    place : first + (k - first) ≡ k
    place = omega (arith, low)

    within : k - first < ticks
    within = omega (arith, low, high)

    here : slice_get (ear.heard (first + (k - first))) heard.nth ≡ Some c
    here = subst (λ t. slice_get (ear.heard t) heard.nth ≡ Some c) (sym place) heard.there

-- ---- a call

-- what the listener takes of each RMU in stage 2
abbrev pub taken_second : Scenario → Ear → ℕ → NodeState → ℕ → Option ℕ
taken_second sc ear epoch st =
    taken_of stamp_in st.far (expects_call Biu st 2) (sense_span sc ear (epoch + (f0_of sc.sizes sc.plan + sc.plan.l)) sc.plan.v st (sync_slot_of sc.sizes) 2)

-- the call is all that comes of RMU j
pub record TakesCall (sc : Scenario) (hands : List HandIn) (ear : Ear) (n epoch : ℕ) (st : NodeState) (j tick : ℕ) : Type 0 where
  pub sending : Sending
  pub at : sending.tick ≡ tick
  pub sent : SendsIn sc hands n j sending
  pub stamp : ℕ
  pub stamped : IsStamp ear.clock (coming_to sc ear j (moment sc hands n).frame sending).time stamp
  pub sense : sense_span sc ear (epoch + (f0_of sc.sizes sc.plan + sc.plan.l)) sc.plan.v st (sync_slot_of sc.sizes) 2 j ≡ One stamp sending.message
  pub taken : taken_second sc ear epoch st j ≡ Some stamp

pub takes_call : {sc hands ear n epoch low s : _} → Beside sc hands ear n epoch low s → (moment sc hands n).window ≡ 3 * sync_slot_of sc.sizes + 1
    → epoch + (f0_of sc.sizes sc.plan + sc.plan.l) + sc.plan.v ≤ ear.ticks → (st : NodeState) → st.frame ≡ (moment sc hands n).frame
    → {j source tick : _} → IsGoodNode sc (moment sc hands n) Rmu j source → call_tick_of sc.sizes sc.plan source 2 ≡ Some tick
    → has st.far.trusted j ≡ true → has st.far.direct j ≡ false → TakesCall sc hands ear n epoch st j tick
takes_call {sc} {hands} {ear} {n} {epoch} b at in_time st frame {j} {source} {tick} there called trusts clear = one (record { tick = tick; message = call_of sc.sizes source 2 }) refl
  where
    slot : ℕ
    slot = sync_slot_of sc.sizes

    f : ℕ
    f = f0_of sc.sizes sc.plan

    ws : Windows sc (moment sc hands n) (sync_slot_of sc.sizes) 2
    ws = sync_windows_are sc (moment sc hands n) 1 (omega arith) at

    good : is_good sc Rmu j (moment sc hands n).frame (sync_slot_of sc.sizes) ≡ true
    good = ap (is_good sc Rmu j (moment sc hands n).frame) (sym (slot_last sc.sizes 1 at)) ∙ there.good

    one : (x : Sending) → x ≡ record { tick = tick; message = call_of sc.sizes source 2 } → TakesCall sc hands ear n epoch st j tick
    one x is_x =
        let sent : SendsIn sc hands n j x = record {
          running = b.running;
          in_frame = omega (arith, at);
          state = source;
          good = (there.there, ap (is_good sc Rmu j (moment sc hands n).frame) (ap (λ w. w.slot) (ws.are Rmu source)) ∙ good);
          sends = subst (λ w. sending_in sc (moment sc hands n) Rmu j source w ≡ Some x) (sym (ws.are Rmu source))
              (call-sending sc.sizes sc.plan j source (word_at sc (moment sc hands n) slot j) called ∙ ap (λ y. Some y) (sym is_x));
        } in
        let c : Coming = coming_to sc ear j (moment sc hands n).frame x in
        let arrives = comes b.is j (moment sc hands n).frame x in
        let called_at = called_between b.law sent at b.near in
        let clock : Steady (shortest_of sc.plan) (drift_of sc.plan) ear.clock = steady-ear b.law b.is in
        let k : ℕ = stamp_of ear.clock c.time in
        let stamp : IsStamp ear.clock c.time k = stamp_of-is ear.clock clock.moves c.time in
        let inside = calls_in_time b at
        (record { least = omega (arith, arrives.least, called_at.least); most = omega (arith, arrives.most, called_at.most) }) stamp in
        let heard : IsHeard ear k c = b.run.each n j x sent k (omega (arith, inside.0, b.past)) (omega (arith, inside.1, in_time)) stamp in
        let of_good : IsOfGood sc hands ear c = record { n = n; sending = x; sent = sent; is = refl } in
        let sole : (i : ℕ) → i < sc.plan.v → (nth : ℕ) (d : Coming) → slice_get (ear.heard (epoch + (f + sc.plan.l) + i)) nth ≡ Some d → d.from ≡ j → d ≡ c =
        λ i lt nth d is from.
        let o : IsOwn sc hands ear n d =
        only_calls b at (subst (λ r. IsGoodNode sc (moment sc hands n) Rmu r source) (sym from) there)
        (subst (λ r. is_good sc Rmu r (moment sc hands n).frame (sync_slot_of sc.sizes) ≡ true) (sym from) good) (omega (arith, lt, in_time)) (record { nth = nth; there = is }) (omega arith) (omega (arith, lt)) in
        let own : SendsIn sc hands n j o.good.sending = subst (λ r. SendsIn sc hands n r o.good.sending) from (subst (λ r. SendsIn sc hands r d.from o.good.sending) o.here o.good.sent) in
        let states : own.state ≡ sent.state = same_Some own.state sent.state (sym own.good.0 ∙ sent.good.0) in
        let sending_is : o.good.sending ≡ x =
        same_Some o.good.sending x (sym own.sends ∙ ap (λ y. sending_in sc (moment sc hands n) Rmu j y (window_in sc (moment sc hands n) Rmu y)) states ∙ sent.sends) in
        o.good.is ∙ ap (λ r. coming_to sc ear r (moment sc hands o.good.n).frame o.good.sending) from
        ∙ ap (λ r. coming_to sc ear j (moment sc hands r).frame o.good.sending) o.here ∙ ap (coming_to sc ear j (moment sc hands n).frame) sending_is in
        let list : of_source (collected sc.sizes ear.heard (epoch + (f + sc.plan.l)) sc.plan.v) j ≡ record { stamp = k; bytes = c.bytes } ∷ [] =
        sole_source b.is b.run (epoch + (f + sc.plan.l)) sc.plan.v of_good refl (good_counts sc Rmu j (moment sc hands n).frame (sync_slot_of sc.sizes) good) in_time
        (omega (arith, inside.0)) (omega (arith, inside.1)) stamp heard sole in
        let message : x.message ≡ call_of sc.sizes source 2 = ap (λ y. y.message) is_x in
        let fits : IsMessage (call_of sc.sizes source 2) =
        record { frame = omega arith; slot = omega (arith, few_slots sc.sizes b.law.sizes); some_stage = omega arith; most_stages = omega arith; value = refl } in
        let frames : source.frame ≡ st.frame = (b.agree.nodes Rmu j source there).frame ∙ sym frame in
        let suited : suits (expect_of sc.sizes sc.plan.version st slot 2) (call_of sc.sizes source 2) ≡ true =
        all_four (source.frame % 65536 == st.frame % 65536) (slot == slot) (2 == 2) (slot == slot)
        (ap (λ g. g % 65536 == st.frame % 65536) frames ∙ eq_self (st.frame % 65536)) (eq_self slot) refl (eq_self slot) in
        let sense : sense_span sc ear (epoch + (f + sc.plan.l)) sc.plan.v st slot 2 j ≡ One k (call_of sc.sizes source 2) =
        ap (sense_of (expect_of sc.sizes sc.plan.version st slot 2)) list
        ∙ spelled_is_one (expect_of sc.sizes sc.plan.version st slot 2) k c.bytes (call_of sc.sizes source 2) (fits, ap (spelling_of sc.plan.version) message) suited in
        record {
          sending = x;
          at = ap (λ y. y.tick) is_x;
          sent = sent;
          stamp = k;
          stamped = stamp;
          sense = sense ∙ ap (λ y. One k y) (sym message);
          taken = rw (trusts, clear) (ap stamp_in sense);
        }
