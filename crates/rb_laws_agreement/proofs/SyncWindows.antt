-- The windows of the sync slot, the tail with them: a good node calls when it is expected, and is
-- not accused.
use Rattle.std.proofs.{Common.{◌≡◌, ℕ, zero, suc, ◌+◌, ◌-◌, ◌*◌, ◌<◌, ◌≤◌, ◌%◌, ◌==◌, ◌&&◌, nat_le, Bool, true, false, Option, Some, None, is_some, option_map, slice_get, if◌then◌else◌, refl, sym, ◌∙◌, ap, subst, arith, inl, inr}, lemmas.Bool.{leb-true, lt-ltb}}
use Rattle.rb_base.specs.{Nodes.{Side, other, has}, Nodes.Side.{Biu, Rmu}, Sizes.{Sizes, IsShape, sync_slot_of}, declared.values.Heard.Heard}
use Rattle.rb_base.proofs.Plain.{eq_self}
use Rattle.rb_rules.specs.{declared.message.Message.Message, declared.message.Version.Version, declared.plan.Plan.Plan, declared.role.Role.TheVariants.Sync, declared.sense.Sense.Sense, declared.sense.Sense.TheVariants.Silent, Book.of_kind, ExactStage.{Outcome, close_exact}, Goodness.{Scenario, is_good}, NodeState.NodeState, NodeSteps.{expect_of, message_said, close}, Rounds.{Moment, Result, window_in, sent_in, close_on, go_through}, Sense.suits, Slots.listens, Spelling.IsMessage, Standing.{does_wrong, has_evidence}, SyncStage.{calls, call_of, expects_call, close_sync, sync_outcome_of, call_tick_of, new_epoch_of}}
use Rattle.rb_rules.proofs.{RoundStates.Knows, Slots.{few_slots, other_twice}, Standings.{right_is_no_evidence, others_stay}}
use Rattle.rb_laws_agreement.proofs.{Tests.{true_or_false, Present, present_if}, Invariant.Holds, Exchanges.{far-held, kept-frame}, ExactWindows.{with_sent, sent_by, keeping-is}, NodeWindows.{Windows, own_window, word_at, kept_in, heard_in, sense_in, IsOne, good_is_silent, good_is_heard, goes, state-closed}}

-- Who calls.

-- a node expects a trusted source if and only if that source calls in the stage
expects-callers : (sizes : Sizes) (me : Side) (st source : NodeState) (stage j : ℕ) → has st.far.trusted j ≡ true
    → expects_call me st stage j ≡ is_some (calls sizes (other me) source stage)
expects-callers sizes me st source stage j t =
    subst (λ k. (listens me Sync stage && has st.far.trusted j) ≡ is_some (if listens k Sync stage then Some (call_of sizes source stage) else None)) (sym (other_twice me))
    (go (listens me Sync stage))
  where
    go : (b : Bool) → (b && has st.far.trusted j) ≡ is_some (if b then Some (call_of sizes source stage) else None)
    go true = t
    go false = refl

-- a call is meant for its stage
call-suits : (sizes : Sizes) (version : Version) (sender receiver : NodeState) (stage : ℕ) → sender.frame ≡ receiver.frame
    → suits (expect_of sizes version receiver (sync_slot_of sizes) stage) (call_of sizes sender stage) ≡ true
call-suits sizes version sender receiver stage same =
    let a : (sender.frame % 65536 == receiver.frame % 65536) ≡ true = ap (λ f. f % 65536 == receiver.frame % 65536) same ∙ eq_self (receiver.frame % 65536) in
    all_four (sender.frame % 65536 == receiver.frame % 65536) (sync_slot_of sizes == sync_slot_of sizes) (stage == stage) (sync_slot_of sizes == sync_slot_of sizes)
    a (eq_self (sync_slot_of sizes)) (eq_self stage) (eq_self (sync_slot_of sizes))
  where
    all_four : (a b c d : Bool) → a ≡ true → b ≡ true → c ≡ true → d ≡ true → (a && b && c && d) ≡ true
    all_four a b c d p q r s = rw (p, q, r, s) refl

call-is-message : {sizes : _} (sender : NodeState) (stage : ℕ) → IsShape sizes → 1 ≤ stage → stage ≤ 3 → IsMessage (call_of sizes sender stage)
call-is-message {sizes} sender stage shape some most =
    record { frame = omega arith; slot = omega (arith, few_slots sizes shape); some_stage = some; most_stages = most; value = refl }

-- whoever calls knows the tick at which it does
call-tick : {sizes : _} (plan : Plan) (me : Side) {st : _} (q : ℕ) → q < 3 → listens (other me) Sync (q + 1) ≡ true → Knows sizes me (3 * sync_slot_of sizes + q) st
    → is_some (call_tick_of sizes plan st (q + 1)) ≡ true
call-tick plan Biu zero small h knows = refl
call-tick plan Rmu zero small h knows = cc
call-tick plan Biu (suc zero) small h knows = cc
call-tick {sizes} plan Rmu {st} (suc zero) small h knows =
    mapped st.k1 plan.l (knows.k1 ∙ lt-ltb (3 * sync_slot_of sizes + 1 - 1) (3 * sync_slot_of sizes + 1) (omega arith))
  where
    mapped : (o : Option ℕ) (d : ℕ) → is_some o ≡ true → is_some (option_map (λ k. k + d) o) ≡ true
    mapped None d h = h
    mapped (Some k) d h = refl
call-tick {sizes} plan Biu {st} (suc (suc zero)) small h knows =
    mapped st.k2 plan.v (knows.k2 ∙ lt-ltb (3 * sync_slot_of sizes + 2 - 1) (3 * sync_slot_of sizes + 2) (omega arith))
  where
    mapped : (o : Option ℕ) (d : ℕ) → is_some o ≡ true → is_some (option_map (λ k. k + d) o) ≡ true
    mapped None d h = h
    mapped (Some k) d h = refl
call-tick plan Rmu (suc (suc zero)) small h knows = cc
call-tick plan me (suc (suc (suc q))) small h knows = absurd (omega arith)

-- How good sources are heard.

in-sync : (sizes : Sizes) → (sync_slot_of sizes == sync_slot_of sizes) ≡ true
in-sync sizes = eq_self (sync_slot_of sizes)

said-in-sync : (sizes : Sizes) (me : Side) (j : ℕ) (st : NodeState) (stage word : ℕ)
    → message_said sizes me j st (sync_slot_of sizes) stage word ≡ calls sizes me st stage
said-in-sync sizes me j st stage word = rw (in-sync sizes) refl

-- a stage is one in which a caller knows its tick
abbrev pub HasTicksOf : (sc : Scenario) (m : Moment) (stage : ℕ) → Type 0
HasTicksOf sc m stage =
    (me : Side) (st : NodeState) → Knows sc.sizes me m.window st → listens (other me) Sync stage ≡ true
    → (is_some (call_tick_of sc.sizes sc.plan st stage) ≡ true) × ((1 ≤ stage) × (stage ≤ 3))

pub stage_ticks : (sc : Scenario) (m : Moment) (q : ℕ) → q < 3 → m.window ≡ 3 * sync_slot_of sc.sizes + q → HasTicksOf sc m (q + 1)
stage_ticks sc m q small at me st knows h =
    (call-tick sc.plan me q small h (subst (λ n. Knows sc.sizes me n st) at knows), (omega arith, omega arith))

pub tail_ticks : (sc : Scenario) (m : Moment) → HasTicksOf sc m 4
tail_ticks sc m Biu st knows h = cc
tail_ticks sc m Rmu st knows h = cc

-- a good source does no wrong
pub sync_right : {sc m s stage : _} (ws : Windows sc m (sync_slot_of sc.sizes) stage) {me : _} (i j : ℕ) {st source : _}
    → IsShape sc.sizes → HasTicksOf sc m stage → Holds sc m s me st → Holds sc m s (other me) source
    → slice_get (of_kind (other me) m.nodes) j ≡ Some source → is_good sc (other me) j m.frame (sync_slot_of sc.sizes) ≡ true
    → has (s.trusted (other me)) j ≡ true
    → does_wrong (expects_call me st stage j) (sense_in ws me i st j) ≡ false
sync_right {sc} {m} {stage} ws {me} i j {st} {source} shape ticks here there is good t =
    let slot : ℕ = sync_slot_of sc.sizes in
    let trusts : has st.far.trusted j ≡ true = ap (λ x. has x j) (far-held here) ∙ t in
    let expected : expects_call me st stage j ≡ is_some (calls sc.sizes (other me) source stage) = expects-callers sc.sizes me st source stage j trusts in
    elim (true_or_false (listens (other (other me)) Sync stage)) [
      | inl speaks ↦
          let known = ticks (other me) source there.knows speaks in
          let tick : Present (call_tick_of sc.sizes sc.plan source stage) = present_if (call_tick_of sc.sizes sc.plan source stage) known.0 in
          let call : Message = call_of sc.sizes source stage in
          let calls_it : calls sc.sizes (other me) source stage ≡ Some call = ap (λ b. if b then Some call else None) speaks in
          let one : IsOne (sense_in ws me i st j) call =
          good_is_heard ws me i j st tick.value here.frame is good
          (said-in-sync sc.sizes (other me) j source stage (word_at sc m slot j) ∙ calls_it) (rw (in-sync sc.sizes) tick.is)
          (call-is-message source stage shape known.1.0 known.1.1)
          (call-suits sc.sizes sc.plan.version source (kept_in sc m slot stage me i st) stage (there.frame ∙ sym here.frame ∙ sym (kept-frame sc m slot stage me i st))) in
          let e : expects_call me st stage j ≡ true = expected ∙ ap is_some calls_it in
          ap (λ b. does_wrong b (sense_in ws me i st j)) e ∙ ap (does_wrong true) one.is
      | inr deaf ↦
          let silent : calls sc.sizes (other me) source stage ≡ None = ap (λ b. if b then Some (call_of sc.sizes source stage) else None) deaf in
          let none : sense_in ws me i st j ≡ Silent =
          good_is_silent ws me i j st here.frame is good (said-in-sync sc.sizes (other me) j source stage (word_at sc m slot j) ∙ silent) in
          let e : expects_call me st stage j ≡ false = expected ∙ ap is_some silent in
          ap (λ b. does_wrong b (sense_in ws me i st j)) e ∙ ap (does_wrong false) none
    ]

-- What a close makes.

-- a window of the sync slot leaves votes, owners and mismatches, and accuses only nodes that did
-- wrong
pub record IsAfterSync (st now : NodeState) (wrong : ℕ → Bool) : Type 0 where
  pub votes : now.votes ≡ st.votes
  pub owners : now.owners ≡ st.owners
  pub mismatch : now.far.mismatch ≡ st.far.mismatch
  pub direct : (j : ℕ) → j < 16 → wrong j ≡ false → has now.far.direct j ≡ has st.far.direct j

close-parts : (sizes : Sizes) (me : Side) (st : NodeState) (sent : Option Heard) (stage first : ℕ) (sense : ℕ → Sense)
    → IsAfterSync st (close_sync sizes me (with_sent st sent) stage first sense).state (λ j. does_wrong (expects_call me st stage j) (sense j))
unfolding close_sync sync_outcome_of
close-parts sizes me st sent stage first sense = record {
  votes = refl;
  owners = refl;
  mismatch = refl;
  direct = λ j below right.
      others_stay (has_evidence st.far (expects_call me st stage) sense) st.far j below
      (right_is_no_evidence st.far (expects_call me st stage) sense j right);
}

pub close-sync : (sizes : Sizes) (me : Side) (i : ℕ) (st : NodeState) (stage first : ℕ) (sense : ℕ → Sense)
    → close sizes me i st (sync_slot_of sizes) stage first sense ≡ close_sync sizes me st stage (st.epoch + first) sense
close-sync sizes me i st stage first sense = go (sync_slot_of sizes == sync_slot_of sizes) (in-sync sizes)
  where
    go : (b : Bool) → b ≡ true
        → (elim b as (λ _. Outcome) [
          | true ↦ close_sync sizes me st stage (st.epoch + first) sense
          | false ↦ close_exact sizes me i st (sync_slot_of sizes) stage sense
        ]) ≡ close_sync sizes me st stage (st.epoch + first) sense
    go true h = refl
    go false h = cc

passed-over : {sc m slot stage : _} (ws : Windows sc m slot stage) (me : Side) (i : ℕ) (st : NodeState)
    → nat_le (ws.first me st) (ws.last me st) ≡ false → (go_through sc m (sent_in sc m) me i st (window_in sc m me st)).state ≡ st
unfolding go_through
passed-over {sc} {m} {slot} {stage} ws me i st none =
    ap (λ w. (go_through sc m (sent_in sc m) me i st w).state) (ws.are me st)
    ∙ go (is_good sc me i m.frame slot) (nat_le (ws.first me st) (ws.last me st)) none
  where
    go : (b c : Bool) → c ≡ false
        → (elim (b && c) as (λ _. Result) [
          | true ↦ close_on sc me i (kept_in sc m slot stage me i st) (own_window ws me st) (heard_in ws me i st)
          | false ↦ record { state = st; row = None }
        ]).state ≡ st
    go b true h = cc
    go true false h = refl
    go false false h = refl

-- the state after the window of a node that is good there
closed-state : {sc m stage : _} (ws : Windows sc m (sync_slot_of sc.sizes) stage) (me : Side) (i : ℕ) (st : NodeState)
    → is_good sc me i m.frame (sync_slot_of sc.sizes) ≡ true → ws.first me st ≤ ws.last me st
    → (go_through sc m (sent_in sc m) me i st (window_in sc m me st)).state
    ≡ (close_sync sc.sizes me (with_sent st (sent_by sc.sizes me i st (sync_slot_of sc.sizes) stage (word_at sc m (sync_slot_of sc.sizes) i))) stage
    ((kept_in sc m (sync_slot_of sc.sizes) stage me i st).epoch + ws.first me st) (sense_in ws me i st)).state
closed-state {sc} {m} {stage} ws me i st good tick =
    let slot : ℕ = sync_slot_of sc.sizes in
    let sense : ℕ → Sense = sense_in ws me i st in
    let kept : NodeState = kept_in sc m slot stage me i st in
    ap (λ r. r.state) (goes ws me i st good tick) ∙ state-closed ws me i st
    ∙ ap (λ x. x.state) (close-sync sc.sizes me i kept stage (ws.first me st) sense)
    ∙ ap (λ k. (close_sync sc.sizes me k stage (kept.epoch + ws.first me st) sense).state) (keeping-is sc.sizes me i st slot stage (word_at sc m slot i))

-- the window of a node that is good there
pub sync_closes : {sc m stage : _} (ws : Windows sc m (sync_slot_of sc.sizes) stage) (me : Side) (i : ℕ) (st : NodeState)
    → is_good sc me i m.frame (sync_slot_of sc.sizes) ≡ true
    → IsAfterSync st (go_through sc m (sent_in sc m) me i st (window_in sc m me st)).state
    (λ j. does_wrong (expects_call me st stage j) (sense_in ws me i st j))
sync_closes {sc} {m} {stage} ws me i st good =
    let slot : ℕ = sync_slot_of sc.sizes in
    let sense : ℕ → Sense = sense_in ws me i st in
    let wrong : ℕ → Bool = λ j. does_wrong (expects_call me st stage j) (sense j) in
    elim (true_or_false (nat_le (ws.first me st) (ws.last me st))) [
      | inl tick ↦
          let sent : Option Heard = sent_by sc.sizes me i st slot stage (word_at sc m slot i) in
          subst (λ now. IsAfterSync st now wrong) (sym (closed-state ws me i st good (leb-true (ws.first me st) (ws.last me st) tick)))
          (close-parts sc.sizes me st sent stage ((kept_in sc m slot stage me i st).epoch + ws.first me st) sense)
      | inr none ↦
          subst (λ now. IsAfterSync st now wrong) (sym (passed-over ws me i st none))
          (record { votes = refl; owners = refl; mismatch = refl; direct = λ j below right. refl })
    ]

-- The tail.

epoch-kept : (sizes : Sizes) (plan : Plan) (me : Side) (st : NodeState) (sent : Option Heard) (first : ℕ) (sense : ℕ → Sense)
    → new_epoch_of plan me (close_sync sizes me (with_sent st sent) 4 first sense).state ≡ new_epoch_of plan me st
unfolding close_sync sync_outcome_of
epoch-kept sizes plan Biu st sent first sense = refl
epoch-kept sizes plan Rmu st sent first sense = refl

-- the tail leaves the next epoch as it is
pub tail_keeps_epoch : {sc m : _} (ws : Windows sc m (sync_slot_of sc.sizes) 4) (me : Side) (i : ℕ) (st : NodeState)
    → is_good sc me i m.frame (sync_slot_of sc.sizes) ≡ true
    → new_epoch_of sc.plan me (go_through sc m (sent_in sc m) me i st (window_in sc m me st)).state ≡ new_epoch_of sc.plan me st
tail_keeps_epoch {sc} {m} ws me i st good =
    let slot : ℕ = sync_slot_of sc.sizes in
    let sense : ℕ → Sense = sense_in ws me i st in
    elim (true_or_false (nat_le (ws.first me st) (ws.last me st))) [
      | inl tick ↦
          let sent : Option Heard = sent_by sc.sizes me i st slot 4 (word_at sc m slot i) in
          ap (new_epoch_of sc.plan me) (closed-state ws me i st good (leb-true (ws.first me st) (ws.last me st) tick))
          ∙ epoch-kept sc.sizes sc.plan me st sent ((kept_in sc m slot 4 me i st).epoch + ws.first me st) sense
      | inr none ↦ ap (new_epoch_of sc.plan me) (passed-over ws me i st none)
    ]
