-- When the calls came that a listener takes in stage 2 of the sync slot: the last call of the frame
-- by that RMU with that stamp.
use Rattle.std.proofs.{Common.{◌≡◌, ℕ, zero, suc, ◌+◌, ◌%◌, ◌<◌, ◌≤◌, ◌==◌, ◌&&◌, not, nat_lt, Bool, true, false, Option, Some, None, if◌then◌else◌, List, [], ◌∷◌, ◌++◌, slice_get, refl, sym, ◌∙◌, ap, subst, arith}, lemmas.Bool.{and_from, eq-eqb, eqb-true}, lemmas.Option.same_Some}
use Rattle.rb_base.specs.{Nodes.has, Nodes.Side.{Biu, Rmu}, Sizes.{Sizes, sync_slot_of}}
use Rattle.rb_base.proofs.Plain.{and_first, and_second}
use Rattle.rb_rules.specs.{declared.message.Message.Message, declared.sense.Expect.Expect, declared.sense.Sense.Sense, declared.sense.Sense.TheVariants.{One, Bad}, Clock.IsStamp, Core.of_source, Goodness.{Scenario, is_good}, Hearing.Coming, NodeState.NodeState, NodeSteps.expect_of, Plan.f0_of, Rounds.moment, Sense.{Arrival, sense_of, sense_of_one, stamp_in, suits, tag_suits}, Spelling.message_in, Standing.{Standing, taken_of}, SyncStage.{expects_call, see_time}}
use Rattle.rb_rules.proofs.Slots.{source-append}
use Rattle.rb_laws_agreement.proofs.{Goodnesses.slot_last, Invariant.IsGoodNode}
use Rattle.rb_listen.specs.Passes.{is_call, is_sync}
use Rattle.rb_laws_listener_learns.specs.{Ears.{Ear, IsHeard, SendsIn, coming_to}, Receivers.{call_time, is_call_of, stamp_seen}}
use Rattle.rb_laws_listener_learns.proofs.{CallTimes.{LastIs, finds-call, last-is, tag-sync}, Moments.same-sent}
use Rattle.rb_laws_listener_follows.proofs.{Arrivals.{of-more, of-other}, FirstCalls.sense_span, FollowerRuns.{arrivals, collected}, HeardExact.{IsOwn, sends_then}, HeardSync.only_calls, SecondCalls.{TakesCall, taken_second}, SecondSteps.{HasTimes, StandsSecond}}

-- ---- what is kept came

-- `x` is the arrival of one of these messages from RMU `j`
record IsAmong (cs : List Coming) (k j : ℕ) (x : Arrival) : Type 0 where
  pub nth : ℕ
  pub coming : Coming
  pub there : slice_get cs nth ≡ Some coming
  pub from : coming.from ≡ j
  pub is : x ≡ record { stamp = k; bytes = coming.bytes }

same_first : {x y : Arrival} {xs ys : List Arrival} → x ∷ xs ≡ y ∷ ys → x ≡ y
same_first e = cc

came_with : (sizes : Sizes) (k : ℕ) (cs : List Coming) (j : ℕ) (x : Arrival) (xs : List Arrival) → of_source (arrivals sizes k cs) j ≡ x ∷ xs → IsAmong cs k j x
unfolding arrivals
came_with sizes k [] j x xs h = cc
came_with sizes k (c ∷ cs) j x xs h = go (nat_lt c.from sizes.rmus) h (λ e. came_with sizes k cs j x xs e)
  where
    new : ℕ × Arrival
    new = (c.from, record { stamp = k; bytes = c.bytes })

    later : IsAmong cs k j x → IsAmong (c ∷ cs) k j x
    later a = record { nth = suc a.nth; coming = a.coming; there = a.there; from = a.from; is = a.is }

    by : (b : Bool) → (c.from == j) ≡ b → of_source (new ∷ arrivals sizes k cs) j ≡ x ∷ xs → (of_source (arrivals sizes k cs) j ≡ x ∷ xs → IsAmong cs k j x) → IsAmong (c ∷ cs) k j x
    by true e h rest = record {
      nth = 0;
      coming = c;
      there = refl;
      from = eqb-true c.from j e;
      is = same_first (sym h ∙ of-more new (arrivals sizes k cs) j e);
    }
    by false e h rest = later (rest (sym (of-other new (arrivals sizes k cs) j e) ∙ h))

    go : (b : Bool) → of_source (elim b as (λ _. List (ℕ × Arrival)) [ true ↦ new ∷ arrivals sizes k cs | false ↦ arrivals sizes k cs ]) j ≡ x ∷ xs
        → (of_source (arrivals sizes k cs) j ≡ x ∷ xs → IsAmong cs k j x) → IsAmong (c ∷ cs) k j x
    go true h rest = by (c.from == j) refl h rest
    go false h rest = later (rest h)

-- x came from source j with the stamp `first + i`, one of the n stamps from `first` on
record IsIn (heard : ℕ → List Coming) (first n j : ℕ) (x : Arrival) : Type 0 where
  pub i : ℕ
  pub within : i < n
  pub among : IsAmong (heard (first + i)) (first + i) j x

first_came : (sizes : Sizes) (heard : ℕ → List Coming) (first n j : ℕ) (x : Arrival) (xs : List Arrival) → of_source (collected sizes heard first n) j ≡ x ∷ xs → IsIn heard first n j x
unfolding collected
first_came sizes heard first zero j x xs h = cc
first_came sizes heard first (suc n) j x xs h =
    by (of_source (collected sizes heard first n) j) refl (sym (source-append (collected sizes heard first n) (arrivals sizes (first + n) (heard (first + n))) j) ∙ h)
    (λ y ys e. first_came sizes heard first n j y ys e)
  where
    by : (front : List Arrival) → of_source (collected sizes heard first n) j ≡ front → front ++ of_source (arrivals sizes (first + n) (heard (first + n))) j ≡ x ∷ xs
        → ((y : Arrival) (ys : List Arrival) → of_source (collected sizes heard first n) j ≡ y ∷ ys → IsIn heard first n j y) → IsIn heard first (suc n) j x
    by [] e h rest = record { i = n; within = omega arith; among = came_with sizes (first + n) (heard (first + n)) j x xs h }
    by (y ∷ ys) e h rest =
        let same : y ≡ x = same_first h in
        let r : IsIn heard first n j y = rest y ys e in
        record { i = r.i; within = omega (arith, r.within); among = subst (IsAmong (heard (first + r.i)) (first + r.i) j) same r.among }

-- ---- a call that is taken

-- the arrivals are one message, and it is as expected
record IsSensed (e : Expect) (xs : List Arrival) (k : ℕ) : Type 0 where
  pub arrival : Arrival
  pub message : Message
  pub is : xs ≡ arrival ∷ []
  pub stamp : arrival.stamp ≡ k
  pub reads : message_in e.version arrival.bytes ≡ Some message
  pub suited : suits e message ≡ true

no_stamp : {t : ℕ} → (let o : Option ℕ = None in o) ≡ Some t → ⊥
no_stamp x = cc

sensed : (e : Expect) (xs : List Arrival) {k : ℕ} → stamp_in (sense_of e xs) ≡ Some k → IsSensed e xs k
sensed e [] h = absurd (no_stamp h)
sensed e (a ∷ []) {k} h = by (message_in e.version a.bytes) refl h
  where
    suited : (m : Message) → message_in e.version a.bytes ≡ Some m → (b : Bool) → suits e m ≡ b → stamp_in (if b then One a.stamp m else Bad) ≡ Some k → IsSensed e (a ∷ []) k
    suited m reads true s h = record { arrival = a; message = m; is = refl; stamp = same_Some a.stamp k h; reads = reads; suited = s }
    suited m reads false s h = absurd (no_stamp h)

    by : (o : Option Message) → message_in e.version a.bytes ≡ o → stamp_in (sense_of_one e a.stamp o) ≡ Some k → IsSensed e (a ∷ []) k
    by None reads h = absurd (no_stamp h)
    by (Some m) reads h = suited m reads (suits e m) refl h
sensed e (a ∷ (b ∷ others)) h = absurd (no_stamp h)

taken_is : (s : Standing) (expected : ℕ → Bool) (sense : ℕ → Sense) (j : ℕ) {k : ℕ} → taken_of stamp_in s expected sense j ≡ Some k → stamp_in (sense j) ≡ Some k
taken_is s expected sense j {k} h = go (expected j && (has s.trusted j && not (has s.direct j))) h
  where
    go : (b : Bool) → (if b then stamp_in (sense j) else None) ≡ Some k → stamp_in (sense j) ≡ Some k
    go true h = h
    go false h = absurd (no_stamp h)

-- what suits stage 2 of the sync slot is a call of the frame
is_found : (sc : Scenario) (st : NodeState) {j : ℕ} (c : Coming) {m : _} → c.from ≡ j → message_in sc.plan.version c.bytes ≡ Some m
    → suits (expect_of sc.sizes sc.plan.version st (sync_slot_of sc.sizes) 2) m ≡ true → finds-call sc st.frame j c ≡ true
is_found sc st {j} c {m} from reads h =
    let slot : ℕ = sync_slot_of sc.sizes in
    let front : ((m.frame == st.frame % 65536) && (m.slot == slot) && (m.stage == 2)) ≡ true =
    and_first ((m.frame == st.frame % 65536) && (m.slot == slot) && (m.stage == 2)) (tag_suits (slot == slot) m.tag) h in
    let tag : tag_suits (slot == slot) m.tag ≡ true = and_second ((m.frame == st.frame % 65536) && (m.slot == slot) && (m.stage == 2)) (tag_suits (slot == slot) m.tag) h in
    let place : ((m.frame == st.frame % 65536) && (m.slot == slot)) ≡ true = and_first ((m.frame == st.frame % 65536) && (m.slot == slot)) (m.stage == 2) front in
    let stage : (m.stage == 2) ≡ true = and_second ((m.frame == st.frame % 65536) && (m.slot == slot)) (m.stage == 2) front in
    let frame : (m.frame == st.frame % 65536) ≡ true = and_first (m.frame == st.frame % 65536) (m.slot == slot) place in
    let at : (m.slot == slot) ≡ true = and_second (m.frame == st.frame % 65536) (m.slot == slot) place in
    let sync : is_sync m.tag ≡ true = tag-sync m.tag (ap (λ b. tag_suits b m.tag) (sym (eq-eqb slot slot refl)) ∙ tag) in
    ap (λ o. is_call_of sc st.frame j o c) reads
    ∙ and_from ((c.from == j) && is_call sc.sizes m) (m.frame == st.frame % 65536)
    (and_from (c.from == j) (is_call sc.sizes m) (eq-eqb c.from j from) (and_from (is_sync m.tag && (m.slot == slot)) (m.stage == 2) (and_from (is_sync m.tag) (m.slot == slot) sync at) stage)) frame

-- the tick is one of stage 2, and the last call with this stamp is found
record IsFoundAt (sc : Scenario) (ear : Ear) (epoch frame j k : ℕ) : Type 0 where
  pub from : epoch + (f0_of sc.sizes sc.plan + sc.plan.l) ≤ k
  pub to : k < epoch + (f0_of sc.sizes sc.plan + sc.plan.l) + sc.plan.v
  pub last : LastIs (finds-call sc frame j) (ear.heard k)

found_at : (sc : Scenario) (ear : Ear) (epoch : ℕ) (st : NodeState) (j : ℕ) {k : ℕ} → taken_second sc ear epoch st j ≡ Some k → IsFoundAt sc ear epoch st.frame j k
found_at sc ear epoch st j {k} taken =
    let first : ℕ = epoch + (f0_of sc.sizes sc.plan + sc.plan.l) in
    let e : Expect = expect_of sc.sizes sc.plan.version st (sync_slot_of sc.sizes) 2 in
    let s : IsSensed e (of_source (collected sc.sizes ear.heard first sc.plan.v) j) k =
    sensed e (of_source (collected sc.sizes ear.heard first sc.plan.v) j)
    (taken_is st.far (expects_call Biu st 2) (sense_span sc ear (epoch + (f0_of sc.sizes sc.plan + sc.plan.l)) sc.plan.v st (sync_slot_of sc.sizes) 2) j taken) in
    let r : IsIn ear.heard first sc.plan.v j s.arrival = first_came sc.sizes ear.heard first sc.plan.v j s.arrival [] s.is in
    let at : first + r.i ≡ k = ap (λ (a : Arrival). a.stamp) (sym r.among.is) ∙ s.stamp in
    let reads : message_in sc.plan.version r.among.coming.bytes ≡ Some s.message = ap (λ (a : Arrival). message_in sc.plan.version a.bytes) (sym r.among.is) ∙ s.reads in
    let l : LastIs (finds-call sc st.frame j) (ear.heard (first + r.i)) =
    last-is (finds-call sc st.frame j) (ear.heard (first + r.i)) r.among.nth r.among.there (is_found sc st r.among.coming r.among.from reads s.suited) in
    record { from = omega (arith, at); to = omega (arith, at, r.within); last = subst (λ t. LastIs (finds-call sc st.frame j) (ear.heard t)) at l }

-- ---- the times

-- the time of the call that is taken from RMU `j`
abbrev pub time_second : Scenario → Ear → ℕ → NodeState → ℕ → ℕ
time_second sc ear epoch st j = call_time sc ear st.frame j (stamp_seen (see_time (taken_second sc ear epoch st j)))

from_found : (sc : Scenario) (frame j : ℕ) (c : Coming) → finds-call sc frame j c ≡ true → c.from ≡ j
from_found sc frame j c h = go (message_in sc.plan.version c.bytes) h
  where
    go : (o : Option Message) → is_call_of sc frame j o c ≡ true → c.from ≡ j
    go None h = cc
    go (Some m) h =
        eqb-true c.from j (and_first (c.from == j) (is_call sc.sizes m) (and_first ((c.from == j) && is_call sc.sizes m) (m.frame == frame % 65536) h))

pub has_times : {sc hands ear n epoch low s st : _} → StandsSecond sc hands ear n epoch low s st
    → HasTimes sc hands ear n epoch st (time_second sc ear epoch st)
has_times {sc} {hands} {ear} {n} {epoch} {st} a = record { stamped = stamped; of_good = of_good }
  where
    stamped : (j k : ℕ) → taken_second sc ear epoch st j ≡ Some k → (1 ≤ k) × IsStamp ear.clock (time_second sc ear epoch st j) k
    stamped j k taken =
        let f : IsFoundAt sc ear epoch st.frame j k = found_at sc ear epoch st j taken in
        let heard : IsHeard ear k f.last.coming = record { nth = f.last.at; there = f.last.there } in
        let time : time_second sc ear epoch st j ≡ f.last.coming.time = ap (λ o. call_time sc ear st.frame j (stamp_seen (see_time o))) taken ∙ f.last.time in
        (omega (arith, f.from, a.beside.past), subst (λ t. IsStamp ear.clock t k) (sym time) (a.beside.is.stamps k f.last.coming (omega (arith, f.to, a.in_time)) heard))

    of_good : (j tick : ℕ) → (t : TakesCall sc hands ear n epoch st j tick) → time_second sc ear epoch st j ≡ (coming_to sc ear j (moment sc hands n).frame t.sending).time
    of_good j tick t = time ∙ ap (λ (x : Coming). x.time) same
      where
        f : IsFoundAt sc ear epoch st.frame j t.stamp
        f = found_at sc ear epoch st j t.taken

        from : f.last.coming.from ≡ j
        from = from_found sc st.frame j f.last.coming f.last.passes

        time : time_second sc ear epoch st j ≡ f.last.coming.time
        time = ap (λ o. call_time sc ear st.frame j (stamp_seen (see_time o))) t.taken ∙ f.last.time

        node : IsGoodNode sc (moment sc hands n) Rmu j t.sent.state
        node = (sends_then a.beside.law t.sent).node

        good : is_good sc Rmu j (moment sc hands n).frame (sync_slot_of sc.sizes) ≡ true
        good = ap (is_good sc Rmu j (moment sc hands n).frame) (sym (slot_last sc.sizes 1 a.passed.stage.at)) ∙ node.good

        same : f.last.coming ≡ coming_to sc ear j (moment sc hands n).frame t.sending
        same =
            let o : IsOwn sc hands ear n f.last.coming =
            only_calls a.beside a.passed.stage.at (subst (λ r. IsGoodNode sc (moment sc hands n) Rmu r t.sent.state) (sym from) node)
            (subst (λ r. is_good sc Rmu r (moment sc hands n).frame (sync_slot_of sc.sizes) ≡ true) (sym from) good) (omega (arith, f.to, a.in_time)) (record { nth = f.last.at; there = f.last.there }) f.from (omega (arith, f.to)) in
            let own : SendsIn sc hands n j o.good.sending =
            subst (λ r. SendsIn sc hands n r o.good.sending) from (subst (λ r. SendsIn sc hands r f.last.coming.from o.good.sending) o.here o.good.sent) in
            let sending_is : o.good.sending ≡ t.sending = same-sent own t.sent in
            o.good.is ∙ ap (λ r. coming_to sc ear r (moment sc hands o.good.n).frame o.good.sending) from
            ∙ ap (λ r. coming_to sc ear j (moment sc hands r).frame o.good.sending) o.here ∙ ap (coming_to sc ear j (moment sc hands n).frame) sending_is
