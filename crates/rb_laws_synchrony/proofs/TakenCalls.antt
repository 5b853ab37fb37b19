-- A stage of the sync slot: what a good node takes of each source, and what it shows of that.
use Rattle.std.proofs.Common.{◌≡◌, ℕ, ◌+◌, ◌*◌, ◌%◌, ◌<◌, ◌==◌, ◌&&◌, Bool, true, false, List, [], ◌∷◌, map, Option, Some, None, if◌then◌else◌, refl, sym, ◌∙◌, ap, arith}
use Rattle.std.specs.Prelude.{option_to_list, option_map}
use Rattle.rb_base.specs.{Nodes.{Side, other, has}, Sizes.{Sizes, sync_slot_of}}
use Rattle.rb_base.proofs.Plain.{all_four, eq_self}
use Rattle.rb_rules.specs.{declared.message.Message.Message, declared.plan.Plan.Plan, declared.role.Role.TheVariants.Sync, declared.sense.Expect.Expect, declared.sense.Sense.Sense, declared.sense.Sense.TheVariants.{One, Bad}, Clock.{Timeline, stamp_of}, Goodness.{Scenario, clock_of, is_good}, Hearing.{Coming, Sending, arrival_of, coming_of, sending}, Lawful.IsLawful, NodeState.NodeState, NodeSteps.{expect_of, message_said}, Ports.HandIn, Rounds.Moment, Sense.{sense_of, sense_of_one, stamp_in, suits}, Slots.listens, Spelling.{IsMessage, message_in}, Standing.{is_eligible, taken_of}, SyncStage.{call_of, call_tick_of, calls, expects_call, send_tick_of}}
use Rattle.rb_rules.proofs.{RoundStates.keeping-stays, Senses.spelled_is_one, Slots.{few_slots, other_twice}}
use Rattle.rb_laws_agreement.proofs.{Exchanges.far-held, Goodnesses.slot_last, Invariant.{Agree, Holds, IsGoodNode, Shared}, NodeWindows.{Windows, heard_in, kept_in, sense_in, sync_windows_are, word_at}}
use Rattle.rb_laws_synchrony.proofs.TimelyWindows.{IsSent, IsSet, heard_good, sent_parts}

-- stage q + 1 of the sync slot, before which all good nodes agree
pub record IsStage (sc : Scenario) (hands : List HandIn) (n : ℕ) (m : Moment) (s : Shared) (q : ℕ) : Type 0 where
  pub law : IsLawful sc
  pub agree : Agree sc hands n m s
  pub small : q < 3
  pub at : m.window ≡ 3 * sync_slot_of sc.sizes + q

abbrev pub windows : {sc hands n m s q : _} → IsStage sc hands n m s q → Windows sc m (sync_slot_of sc.sizes) (q + 1)
windows {sc} {m} {q} c = sync_windows_are sc m q c.small c.at

abbrev pub is_set : {sc hands n m s q : _} → IsStage sc hands n m s q → IsSet sc m (sync_slot_of sc.sizes) (q + 1)
is_set {sc} {m} {q} c = record {
  law = c.law;
  ws = sync_windows_are sc m q c.small c.at;
  slot_is = slot_last sc.sizes q c.at;
  frames = λ me i st h. (c.agree.nodes me i st h).frame;
}

-- Calls.

-- a node calls at the tick of the stage
pub call_sent : (sizes : Sizes) (plan : Plan) (me : Side) (i : ℕ) (st : NodeState) (stage word : ℕ) {s : _}
    → sending sizes plan me i st (sync_slot_of sizes) stage word ≡ Some s
    → (call_tick_of sizes plan st stage ≡ Some s.tick) × (listens (other me) Sync stage ≡ true)
call_sent sizes plan me i st stage word {s} h =
    let parts : IsSent sizes plan me i st (sync_slot_of sizes) stage word s = sent_parts sizes plan me i st (sync_slot_of sizes) stage word h in
    let in_sync : (sync_slot_of sizes == sync_slot_of sizes) ≡ true = eq_self (sync_slot_of sizes) in
    let tick : send_tick_of sizes plan st (sync_slot_of sizes) stage ≡ call_tick_of sizes plan st stage = rw in_sync refl in
    let said : message_said sizes me i st (sync_slot_of sizes) stage word ≡ calls sizes me st stage = rw in_sync refl in
    (sym tick ∙ parts.tick, go (listens (other me) Sync stage) (sym said ∙ parts.message))
  where
    go : (b : Bool) → (if b then Some (call_of sizes st stage) else None) ≡ Some s.message → b ≡ true
    go true e = refl
    go false e = cc

sends-call : (sizes : Sizes) (plan : Plan) (me : Side) (i : ℕ) (st : NodeState) (stage word : ℕ) {tick : ℕ} → listens (other me) Sync stage ≡ true
    → call_tick_of sizes plan st stage ≡ Some tick
    → sending sizes plan me i st (sync_slot_of sizes) stage word ≡ Some (record { tick = tick; message = call_of sizes st stage })
unfolding sending
sends-call sizes plan me i st stage word speaks at =
    let in_sync : (sync_slot_of sizes == sync_slot_of sizes) ≡ true = eq_self (sync_slot_of sizes) in
    rw (in_sync, speaks, at) refl

-- What is taken.

-- what a good node takes of each source: stamps
abbrev pub took : {sc m : _} (q : ℕ) → Windows sc m (sync_slot_of sc.sizes) (q + 1) → Side → ℕ → NodeState → ℕ → Option ℕ
took q ws me i st = taken_of stamp_in st.far (expects_call me st (q + 1)) (sense_in ws me i st)

-- what is taken of a source is the stamp of the one message that came of it
pub record IsTaken (sc : Scenario) (m : Moment) (q : ℕ) (ws : Windows sc m (sync_slot_of sc.sizes) (q + 1)) (me : Side) (i : ℕ) (st : NodeState) (j k : ℕ) : Type 0 where
  pub message : Coming
  pub heard : heard_in ws me i st j ≡ message ∷ []
  pub stamp : stamp_of (clock_of sc me i) message.time ≡ k
  pub trusted : has st.far.trusted j ≡ true

one-stamp : (e : Expect) (stamp : ℕ) {k : ℕ} (o : Option Message) → stamp_in (sense_of_one e stamp o) ≡ Some k → stamp ≡ k
one-stamp e stamp None h = cc
one-stamp e stamp {k} (Some m) h = go (suits e m) h
  where
    go : (b : Bool) → stamp_in (if b then One stamp m else Bad) ≡ Some k → stamp ≡ k
    go true p = cc
    go false p = cc

sole : (e : Expect) (clock : Timeline) (l : List Coming) {k : ℕ} → stamp_in (sense_of e (map (arrival_of clock) l)) ≡ Some k
    → (c : Coming) × (l ≡ c ∷ []) × (stamp_of clock c.time ≡ k)
sole e clock [] h = cc
sole e clock (c ∷ []) h = (c, refl, one-stamp e (stamp_of clock c.time) (message_in e.version c.bytes) h)
sole e clock (c ∷ (d ∷ others)) h = cc

pub taken_from : {sc m : _} (q : ℕ) (ws : Windows sc m (sync_slot_of sc.sizes) (q + 1)) (me : Side) (i : ℕ) (st : NodeState) (j : ℕ) {k : ℕ}
    → took q ws me i st j ≡ Some k → IsTaken sc m q ws me i st j k
taken_from {sc} {m} q ws me i st j {k} h = go (listens me Sync (q + 1)) (has st.far.trusted j) refl (is_eligible st.far j) h
  where
    sense : Sense
    sense = sense_in ws me i st j

    go : (a b : Bool) → has st.far.trusted j ≡ b → (c : Bool) → (if (a && b) && c then stamp_in sense else None) ≡ Some k → IsTaken sc m q ws me i st j k
    go true true t true p =
        let l : List Coming = heard_in ws me i st j in
        let e : Expect = expect_of sc.sizes sc.plan.version (kept_in sc m (sync_slot_of sc.sizes) (q + 1) me i st) (sync_slot_of sc.sizes) (q + 1) in
        let one = sole e (clock_of sc me i) l p in
        record { message = one.0; heard = one.1; stamp = one.2; trusted = t }
    go true true t false p = cc
    go true false t c p = cc
    go false b t c p = cc

-- the call of a good source that calls is taken
pub record IsCallTaken (sc : Scenario) (m : Moment) (q : ℕ) (ws : Windows sc m (sync_slot_of sc.sizes) (q + 1)) (me : Side) (i : ℕ) (st : NodeState) (j tick : ℕ) : Type 0 where
  pub message : Message
  pub heard : heard_in ws me i st j ≡ coming_of sc me i j st.frame (record { tick = tick; message = message }) ∷ []
  pub taken : took q ws me i st j ≡ Some (stamp_of (clock_of sc me i) (coming_of sc me i j st.frame (record { tick = tick; message = message })).time)

pub takes_call : {sc hands n m s q : _} (c : IsStage sc hands n m s q) {me i j st source tick : _}
    → listens me Sync (q + 1) ≡ true → IsGoodNode sc m me i st → IsGoodNode sc m (other me) j source
    → call_tick_of sc.sizes sc.plan source (q + 1) ≡ Some tick
    → IsCallTaken sc m q (windows c) me i st j tick
takes_call {sc} {m} {s} {q} c {me} {i} {j} {st} {source} {tick} listening here there at =
    let slot : ℕ = sync_slot_of sc.sizes in
    let ws : Windows sc m slot (q + 1) = sync_windows_are sc m q c.small c.at in
    let set : IsSet sc m slot (q + 1) = is_set c in
    let holds : Holds sc m s me st = c.agree.nodes me i st here in
    let source_holds : Holds sc m s (other me) source = c.agree.nodes (other me) j source there in
    let good : is_good sc (other me) j m.frame slot ≡ true = ap (is_good sc (other me) j m.frame) (sym (slot_last sc.sizes q c.at)) ∙ there.good in
    let call : Message = call_of sc.sizes source (q + 1) in
    let sent : Sending = record { tick = tick; message = call } in
    let comes : Coming = coming_of sc me i j st.frame sent in
    let speaks : listens (other (other me)) Sync (q + 1) ≡ true = ap (λ k. listens k Sync (q + 1)) (other_twice me) ∙ listening in
    let heard : heard_in ws me i st j ≡ comes ∷ [] =
    heard_good ws me i j st holds.frame there.there good
    ∙ ap (λ o. option_to_list (option_map (coming_of sc me i j st.frame) o))
    (sends-call sc.sizes sc.plan (other me) j source (q + 1) (word_at sc m slot j) speaks at) in
    let kept : NodeState = kept_in sc m slot (q + 1) me i st in
    let e : Expect = expect_of sc.sizes sc.plan.version kept slot (q + 1) in
    let frames : source.frame ≡ kept.frame =
    source_holds.frame ∙ sym holds.frame ∙ sym (keeping-stays sc.sizes me i st slot (q + 1) (word_at sc m slot i)).frame in
    let suited : suits e call ≡ true =
    all_four (source.frame % 65536 == kept.frame % 65536) (slot == slot) (q + 1 == q + 1) (slot == slot)
    (ap (λ f. f % 65536 == kept.frame % 65536) frames ∙ eq_self (kept.frame % 65536)) (eq_self slot) (eq_self (q + 1)) (eq_self slot) in
    let fits : IsMessage call =
    let small : q < 3 = c.small in
    record { frame = omega arith; slot = omega (arith, few_slots sc.sizes c.law.sizes); some_stage = omega arith; most_stages = omega arith; value = refl } in
    let sense : sense_in ws me i st j ≡ One (stamp_of (clock_of sc me i) comes.time) call =
    ap (λ l. sense_of e (map (arrival_of (clock_of sc me i)) l)) heard
    ∙ spelled_is_one e (stamp_of (clock_of sc me i) comes.time) comes.bytes call (fits, refl) suited in
    let trusts : has st.far.trusted j ≡ true = ap (λ x. has x j) (far-held holds) ∙ c.agree.trusted (other me) j there.good in
    let clear : has st.far.direct j ≡ false = holds.spares.direct j there.good in
    record { message = call; heard = heard; taken = rw (listening, trusts, clear) (ap stamp_in sense) }
