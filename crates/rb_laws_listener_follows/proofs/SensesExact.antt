-- A follower in a window below the sync slot senses of each RMU that stays good what that one says.
use Rattle.std.proofs.{Common.{◌≡◌, ℕ, zero, suc, ◌+◌, ◌-◌, ◌*◌, ◌^◌, ◌<◌, ◌≤◌, ◌==◌, true, false, List, [], ◌∷◌, Option, Some, None, option_map, slice_get, refl, sym, ◌∙◌, ap, subst, arith}, lemmas.Option.same_Some}
use Rattle.std.specs.Prelude.{IfSome}
use Rattle.rb_base.specs.{Nodes.Side.Rmu, Sizes.sync_slot_of, declared.values.Heard.Heard}
use Rattle.rb_base.proofs.Plain.{less-differs}
use Rattle.rb_rules.specs.{declared.message.Message.Message, declared.sense.Expect.Expect, declared.sense.Sense.Sense, Clock.{IsStamp, stamp_of}, Core.of_source, ExactStage.{message_of, says}, Goodness.{Scenario, is_good}, Hearing.{Coming, Sending, sending}, NodeState.NodeState, NodeSteps.expect_of, Plan.shortest_of, Rounds.{Moment, after_window, moment, sending_in}, Sense.{Arrival, sense_of}, Spelling.spelling_of, Windows.send_offset_of}
use Rattle.rb_rules.proofs.{Senses.{IsCarried, spelled_is_one, value_is_message, value_suits}, Slots.few_slots, Stamps.{one_stamp, stamp_of-is}}
use Rattle.rb_laws_agreement.proofs.{ExactWindows.IsSenseOf, FirstStages.carried_1, Goodnesses.{good_counts, slot_here}, Invariant.{IsGoodNode, slot_numbered}, NodeWindows.{IsOne, Windows, exact_windows, sending-none, sending-some, word_at}, SecondStages.carried_2, Settings.{AllCarried, Setting}, ThirdStages.carried_3}
use Rattle.rb_laws_synchrony.proofs.{PlanNumbers.drift_of, Times.Steady}
use Rattle.rb_laws_listener_learns.specs.Ears.{Ear, IsHeard, IsOfGood, SendsIn, coming_to}
use Rattle.rb_laws_listener_learns.proofs.{CallsSent.sends-at, Moments.same-sent, Together.steady-ear}
use Rattle.rb_laws_listener_near.proofs.Tracking.{Senses}
use Rattle.rb_laws_listener_follows.proofs.{Arrivals.{none_collected, none_with_stamp, one_collected, one_with_stamp}, FollowerRuns.{arrivals, collected}, HeardExact.{Beside, IsOwn, IsTickOf, only_own, own_in_time}}

-- what good nodes say has four bytes
carried : {sc hands n m s slot : _} (q : ℕ) → Setting sc hands n m s slot q → AllCarried sc m slot (q + 1)
carried zero c = carried_1 c
carried (suc zero) c = carried_2 c
carried (suc (suc zero)) c = carried_3 c
carried (suc (suc (suc q))) c = let small : suc (suc (suc q)) < 3 = c.small in absurd (omega arith)

-- all that comes with the stamps of the window's ticks
abbrev pub inbox_of : Scenario → Ear → ℕ → ℕ → List (ℕ × Arrival)
inbox_of sc ear epoch w = collected sc.sizes ear.heard (epoch + w * sc.plan.l) sc.plan.l

-- what a node in the state `st` senses from source `j`
abbrev pub sense_heard : Scenario → Ear → ℕ → ℕ → NodeState → ℕ → ℕ → ℕ → Sense
sense_heard sc ear epoch w st slot stage j = sense_of (expect_of sc.sizes sc.plan.version st slot stage) (of_source (inbox_of sc ear epoch w) j)

pub senses_exact : {sc hands ear n epoch low s slot q : _} → Beside sc hands ear n epoch low s
    → (c : Setting sc hands n (moment sc hands n) s slot q) → (st : NodeState) → st.frame ≡ (moment sc hands n).frame
    → epoch + (moment sc hands n).window * sc.plan.l + sc.plan.l ≤ ear.ticks
    → Senses sc (moment sc hands n) slot q (sense_heard sc ear epoch (moment sc hands n).window st slot (q + 1))
unfolding after_window
senses_exact {sc} {hands} {ear} {n} {epoch} {slot} {q} b c st frame in_time j source there stays = by (says sc.sizes Rmu j source slot (q + 1) (word_at sc (moment sc hands n) slot j)) refl
  where
    m : Moment
    m = moment sc hands n

    w : ℕ
    w = (moment sc hands n).window

    below : (moment sc hands n).window < 3 * sync_slot_of sc.sizes
    below = let at : (moment sc hands n).window ≡ 3 * slot + q = c.at in let lt : slot < sync_slot_of sc.sizes = c.below in let small : q < 3 = c.small in omega arith

    ws : Windows sc (moment sc hands n) slot (q + 1)
    ws = exact_windows sc (moment sc hands n) slot q c.below c.small c.at

    away : (slot == sync_slot_of sc.sizes) ≡ false
    away = less-differs slot (sync_slot_of sc.sizes) c.below

    good : is_good sc Rmu j (moment sc hands n).frame (slot_numbered sc.sizes ((moment sc hands n).window + 1)) ≡ true
    good = stays

    inside : j < sc.sizes.rmus
    inside = good_counts sc Rmu j (moment sc hands n).frame (slot_numbered sc.sizes ((moment sc hands n).window + 1)) stays

    e : Expect
    e = expect_of sc.sizes sc.plan.version st slot (q + 1)

    first : ℕ
    first = epoch + (moment sc hands n).window * sc.plan.l

    tick_in : (i : ℕ) → i < sc.plan.l → IsTickOf sc epoch (moment sc hands n).window (epoch + (moment sc hands n).window * sc.plan.l + i)
    tick_in i lt = (omega arith, omega (arith, lt))

    -- whatever comes from RMU `j` is what it sends in this window
    own : (i : ℕ) → i < sc.plan.l → (nth : ℕ) (d : Coming) → slice_get (ear.heard (epoch + (moment sc hands n).window * sc.plan.l + i)) nth ≡ Some d → d.from ≡ j → IsOwn sc hands ear n d
    own i lt nth d is from =
        only_own b below (subst (λ k. IsGoodNode sc (moment sc hands n) Rmu k source) (sym from) there)
        (subst (λ k. is_good sc Rmu k (moment sc hands n).frame (slot_numbered sc.sizes ((moment sc hands n).window + 1)) ≡ true) (sym from) good) (omega (arith, lt, in_time)) (record { nth = nth; there = is }) (tick_in i lt)

    own_sends : (d : Coming) (o : IsOwn sc hands ear n d) → d.from ≡ j → SendsIn sc hands n j o.good.sending
    own_sends d o from = subst (λ k. SendsIn sc hands n k o.good.sending) from (subst (λ k. SendsIn sc hands k d.from o.good.sending) o.here o.good.sent)

    by : (said : Option Heard) → says sc.sizes Rmu j source slot (q + 1) (word_at sc (moment sc hands n) slot j) ≡ said
        → IsSenseOf (sense_heard sc ear epoch (moment sc hands n).window st slot (q + 1) j) source slot (q + 1) said
    by None saying =
        let silent : sending sc.sizes sc.plan Rmu j source slot (q + 1) (word_at sc (moment sc hands n) slot j) ≡ None =
        sending-none sc.sizes sc.plan Rmu j source slot (q + 1) (word_at sc (moment sc hands n) slot j) (rw away (ap (option_map (message_of source slot (q + 1))) saying)) in
        let nothing : of_source (inbox_of sc ear epoch (moment sc hands n).window) j ≡ [] =
        none_collected sc.sizes ear.heard (epoch + (moment sc hands n).window * sc.plan.l) sc.plan.l j (λ i lt.
        none_with_stamp sc.sizes (epoch + (moment sc hands n).window * sc.plan.l + i) (ear.heard (epoch + (moment sc hands n).window * sc.plan.l + i)) j (λ nth d is from.
        let o : IsOwn sc hands ear n d = own i lt nth d is from in
        let sent : SendsIn sc hands n j o.good.sending = own_sends d o from in
        let states : sent.state ≡ source = same_Some sent.state source (sym sent.good.0 ∙ there.there) in
        let both : None ≡ Some o.good.sending =
        sym silent ∙ ap (λ x. sending sc.sizes sc.plan Rmu j x slot (q + 1) (word_at sc (moment sc hands n) slot j)) (sym states)
        ∙ sends-at sent ws in
        cc)) in
        ap (sense_of (expect_of sc.sizes sc.plan.version st slot (q + 1))) nothing
    by (Some value) saying = one (record { tick = tick; message = message_of source slot (q + 1) value }) refl
      where
        tick : ℕ
        tick = source.epoch + send_offset_of sc.plan slot (q + 1)

        message : Message
        message = message_of source slot (q + 1) value

        sends : sending sc.sizes sc.plan Rmu j source slot (q + 1) (word_at sc (moment sc hands n) slot j) ≡ Some (record { tick = tick; message = message_of source slot (q + 1) value })
        sends =
            sending-some sc.sizes sc.plan Rmu j source slot (q + 1) (word_at sc (moment sc hands n) slot j)
            (rw away (ap (option_map (message_of source slot (q + 1))) saying)) (rw away refl)

        fits : IsCarried value
        fits = subst (λ o. IfSome o IsCarried) saying (carried q c Rmu j source there)

        one : (x : Sending) → x ≡ record { tick = tick; message = message_of source slot (q + 1) value }
            → IsOne (sense_heard sc ear epoch (moment sc hands n).window st slot (q + 1) j) (message_of source slot (q + 1) value)
        one x is_x =
            let sent : SendsIn sc hands n j x = record {
              running = b.running;
              in_frame = omega (arith, below);
              state = source;
              good = (there.there, ap (is_good sc Rmu j (moment sc hands n).frame) (ap (λ w. w.slot) (ws.are Rmu source) ∙ sym (slot_here sc.sizes slot q c.below c.small c.at)) ∙ there.good);
              sends = subst (λ w. sending_in sc (moment sc hands n) Rmu j source w ≡ Some x) (sym (ws.are Rmu source)) (sends ∙ ap (λ y. Some y) (sym is_x));
            } in
            let comes : Coming = coming_to sc ear j (moment sc hands n).frame x in
            let clock : Steady (shortest_of sc.plan) (drift_of sc.plan) ear.clock = steady-ear b.law b.is in
            let k : ℕ = stamp_of ear.clock comes.time in
            let stamp : IsStamp ear.clock comes.time k = stamp_of-is ear.clock clock.moves comes.time in
            let at = own_in_time b below sent stamp in
            let heard : IsHeard ear k comes = b.run.each n j x sent k (omega (arith, at.0, b.past)) (omega (arith, at.1, in_time)) stamp in
            let i : ℕ = k - first in
            let place : first + i ≡ k = omega (arith, at.0) in
            let here : slice_get (ear.heard (first + i)) heard.nth ≡ Some comes = subst (λ t. slice_get (ear.heard t) heard.nth ≡ Some comes) (sym place) heard.there in
            let within : i < sc.plan.l = omega (arith, at.1, place) in
            let same : (t : ℕ) → t < sc.plan.l → (nth : ℕ) (d : Coming) → slice_get (ear.heard (first + t)) nth ≡ Some d → d.from ≡ j → d ≡ comes =
            λ t lt nth d is from.
            let o : IsOwn sc hands ear n d = own t lt nth d is from in
            let sending_is : o.good.sending ≡ x = same-sent (own_sends d o from) sent in
            o.good.is ∙ ap (λ f. coming_to sc ear f (moment sc hands o.good.n).frame o.good.sending) from
            ∙ ap (λ p. coming_to sc ear j (moment sc hands p).frame o.good.sending) o.here ∙ ap (coming_to sc ear j (moment sc hands n).frame) sending_is in
            let of_good : IsOfGood sc hands ear comes = record { n = n; sending = x; sent = sent; is = refl } in
            let single : of_source (arrivals sc.sizes (first + i) (ear.heard (first + i))) j ≡ record { stamp = first + i; bytes = comes.bytes } ∷ [] =
            one_with_stamp sc.sizes (first + i) (ear.heard (first + i)) heard.nth inside here refl
            (λ a d is from.
            b.run.once (first + i) a heard.nth comes (omega (arith, within, in_time)) of_good
            (is ∙ ap (λ y. Some y) (same i within a d is from)) here) in
            let others : (t : ℕ) → t < sc.plan.l → (t ≡ i → ⊥) → of_source (arrivals sc.sizes (first + t) (ear.heard (first + t))) j ≡ [] =
            λ t lt apart.
            none_with_stamp sc.sizes (first + t) (ear.heard (first + t)) j (λ nth d is from.
            let stamps : first + t ≡ k =
            one_stamp ear.clock comes.time (first + t) k
            (subst (λ (y : Coming). IsStamp ear.clock y.time (first + t)) (same t lt nth d is from)
            (b.is.stamps (first + t) d (omega (arith, lt, in_time)) (record { nth = nth; there = is }))) stamp in
            apart (omega (arith, stamps, place))) in
            let list : of_source (inbox_of sc ear epoch (moment sc hands n).window) j ≡ record { stamp = first + i; bytes = comes.bytes } ∷ [] =
            one_collected sc.sizes ear.heard first sc.plan.l j i (record { stamp = first + i; bytes = comes.bytes }) within single others in
            let few : slot < 2 ^ 16 = omega (arith, few_slots sc.sizes c.law.sizes, c.below) in
            let small : q < 3 = c.small in
            let spelled : comes.bytes ≡ spelling_of sc.plan.version (message_of source slot (q + 1) value) = ap (λ y. spelling_of sc.plan.version y.message) is_x in
            record {
              stamp = first + i;
              is = ap (sense_of (expect_of sc.sizes sc.plan.version st slot (q + 1))) list
                  ∙ spelled_is_one (expect_of sc.sizes sc.plan.version st slot (q + 1)) (first + i) comes.bytes (message_of source slot (q + 1) value)
                  (value_is_message source slot (q + 1) value few (omega arith) (omega (arith, small)) fits, spelled)
                  (value_suits sc.sizes sc.plan.version source st slot (q + 1) value ((c.agree.nodes Rmu j source there).frame ∙ sym frame) away);
            }
