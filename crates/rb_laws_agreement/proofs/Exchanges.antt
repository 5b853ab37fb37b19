-- What good nodes exchange in a window below the sync slot: a good receiver takes of a good source
-- just what that one says, and what it takes of any source is seen.
use Rattle.std.proofs.{Common.{◌≡◌, ℕ, zero, suc, ◌+◌, ◌<◌, ◌≤◌, ◌^◌, ◌==◌, ◌&&◌, inl, inr, not, Bool, true, false, List, [], ◌∷◌, map, Option, Some, None, is_some, option_map, slice_get, get_or, if◌then◌else◌, refl, sym, ◌∙◌, ap, subst, arith}, lemmas.Bool.or_left}
use Rattle.std.specs.{Prelude.IfSome, List.list_any}
use Rattle.rb_base.specs.{Nodes.{Side, other, has}, Nodes.Side.{Biu, Rmu}, Sizes.{IsShape, sync_slot_of}, declared.values.Heard.Heard, declared.values.Place.Place, declared.values.See.TheVariants.Nothing}
use Rattle.rb_base.proofs.Plain.{less-differs}
use Rattle.rb_rules.specs.{declared.sense.Sense.Sense, Book.{of_kind, judged_of}, ExactStage.{says_of, says, message_of, see_value, close_exact}, Goodness.{Scenario, is_good}, Hearing.{sole_time, judged_see}, Judging.{JudgedStage, are_alike, is_something, was_taken, was_unlike, is_asymmetric, is_benign}, NodeState.{NodeState, trusted_of, sender_at}, NodeSteps.close, Rounds.Moment, Sense.value_in, Slots.{Sender, expects, role_of, sender_in}, Standing.{Standing, is_eligible, taken_of, does_wrong}, Windows.send_offset_of}
use Rattle.rb_rules.proofs.{RoundStates.keeping-stays, Senses.{IsCarried, value_suits, value_is_message}, Slots.{close-exact, few_slots}, Votes.taken_at}
use Rattle.rb_laws_agreement.proofs.{Tests.{true_or_false, or_neither_first}, NodeWindows.{Windows, word_at, kept_in, heard_in, sense_in, good_is_silent, good_is_heard}, ExactWindows.{IsSingle, expects_who_speaks, expected_at, take_at, closing_at, IsSenseOf, takes_what_is_said, does_right, sent_by, with_sent, keeping-is, ExactClose, exact_close}, JudgedWindows.{rows_of, sight-is, taken_in_stage, unlike_in_stage, alike_values, some_is_something, judged_value}, Invariant.{sender_of, Holds}, Goodnesses.{exact_role, single_sender}}

-- What all good nodes hold.

pub trusted-either : (a b : Side) (st : NodeState) → trusted_of a b st ≡ trusted_of b a st
trusted-either Biu Biu st = refl
trusted-either Biu Rmu st = refl
trusted-either Rmu Biu st = refl
trusted-either Rmu Rmu st = refl

pub far-trusted : (me : Side) (st : NodeState) → st.far.trusted ≡ trusted_of (other me) me st
far-trusted Biu st = refl
far-trusted Rmu st = refl

-- a good node holds the common sender
pub sender-held : {sc m s me st : _} (slot : ℕ) → Holds sc m s me st
    → sender_at sc.sizes me st slot ≡ sender_of sc.sizes s slot
sender-held {sc} {s} {me} {st} slot h =
    ap (λ b. sender_in b (trusted_of me Rmu st) st.owners (role_of sc.sizes slot)) (trusted-either me Biu st ∙ h.trusted Biu)
    ∙ ap (λ r. sender_in (s.trusted Biu) r st.owners (role_of sc.sizes slot)) (trusted-either me Rmu st ∙ h.trusted Rmu)
    ∙ ap (λ o. sender_in (s.trusted Biu) (s.trusted Rmu) o (role_of sc.sizes slot)) h.owners

pub far-held : {sc m s me st : _} → Holds sc m s me st → st.far.trusted ≡ s.trusted (other me)
far-held {me} {st} h = far-trusted me st ∙ h.trusted (other me)

-- What is heard of a good source.

pub kept-frame : (sc : Scenario) (m : Moment) (slot stage : ℕ) (me : Side) (i : ℕ) (st : NodeState) → (kept_in sc m slot stage me i st).frame ≡ st.frame
kept-frame sc m slot stage me i st = (keeping-stays sc.sizes me i st slot stage (word_at sc m slot i)).frame

-- what a good source says is what a good node senses
pub sensed : {sc : Scenario} {m : Moment} {slot : ℕ} (q : ℕ) (ws : Windows sc m slot (q + 1)) (me : Side) (i j : ℕ) (st : NodeState) {source : NodeState} (said : Option Heard)
    → IsShape sc.sizes → slot < sync_slot_of sc.sizes → q < 3 → st.frame ≡ m.frame → source.frame ≡ m.frame
    → slice_get (of_kind (other me) m.nodes) j ≡ Some source → is_good sc (other me) j m.frame slot ≡ true
    → says sc.sizes (other me) j source slot (q + 1) (word_at sc m slot j) ≡ said → IfSome said IsCarried
    → IsSenseOf (sense_in ws me i st j) source slot (q + 1) said
sensed {sc} {slot} q ws me i j st {source} None shape below small frame_i frame_j is good saying fits =
    let away : (slot == sync_slot_of sc.sizes) ≡ false = less-differs slot (sync_slot_of sc.sizes) below in
    good_is_silent ws me i j st frame_i is good
    (rw away (ap (option_map (message_of source slot (q + 1))) saying))
sensed {sc} {m} {slot} q ws me i j st {source} (Some value) shape below small frame_i frame_j is good saying fits =
    let away : (slot == sync_slot_of sc.sizes) ≡ false = less-differs slot (sync_slot_of sc.sizes) below in
    let few : slot < 2 ^ 16 = omega (arith, few_slots sc.sizes shape) in
    good_is_heard ws me i j st (source.epoch + send_offset_of sc.plan slot (q + 1)) frame_i is good
    (rw away (ap (option_map (message_of source slot (q + 1))) saying)) (rw away refl)
    (value_is_message source slot (q + 1) value few (omega arith) (omega arith) fits)
    (value_suits sc.sizes sc.plan.version source (kept_in sc m slot (q + 1) me i st) slot (q + 1) value (frame_j ∙ sym frame_i ∙ sym (kept-frame sc m slot (q + 1) me i st)) away)

-- a good node takes what a good source says, and finds no wrong in it
pub record IsHeard (sc : Scenario) (m : Moment) (slot stage : ℕ) (ws : Windows sc m slot stage) (me : Side) (i j : ℕ) (st source : NodeState) : Type 0 where
  pub takes : take_at sc.sizes me st slot stage (sense_in ws me i st) j ≡ says sc.sizes (other me) j source slot stage (word_at sc m slot j)
  pub right : does_wrong (expected_at sc.sizes me st slot stage j) (sense_in ws me i st j) ≡ false

pub eligible : (s : Standing) (j : ℕ) → has s.trusted j ≡ true → has s.direct j ≡ false → is_eligible s j ≡ true
eligible s j t d = rw (t, d) refl

pub good_heard : {sc m s slot : _} (q : ℕ) (ws : Windows sc m slot (q + 1)) {me : _} (i j : ℕ) {st source : _}
    → IsShape sc.sizes → slot < sync_slot_of sc.sizes → q < 3 → Holds sc m s me st → Holds sc m s (other me) source
    → slice_get (of_kind (other me) m.nodes) j ≡ Some source → is_good sc (other me) j m.frame slot ≡ true
    → has (s.trusted (other me)) j ≡ true → has st.far.direct j ≡ false
    → IfSome (says sc.sizes (other me) j source slot (q + 1) (word_at sc m slot j)) IsCarried
    → IsHeard sc m slot (q + 1) ws me i j st source
good_heard {sc} {m} {s} {slot} q ws {me} i j {st} {source} shape below small here there is good t clear fits =
    let sender : Sender = sender_of sc.sizes s slot in
    let trusted : st.far.trusted ≡ s.trusted (other me) = far-held here in
    let trusts : has st.far.trusted j ≡ true = ap (λ t. has t j) trusted ∙ t in
    let single : IsSingle sender = single_sender (s.trusted Biu) (s.trusted Rmu) s.owners (role_of sc.sizes slot) (exact_role sc.sizes slot below) in
    let said : Option Heard = says sc.sizes (other me) j source slot (q + 1) (word_at sc m slot j) in
    let expected : expected_at sc.sizes me st slot (q + 1) j ≡ is_some said =
    ap (λ x. expects me (role_of sc.sizes slot) x st.far.trusted (q + 1) j) (sender-held slot here)
    ∙ expects_who_speaks me (role_of sc.sizes slot) sender st.far.trusted j source slot q (word_at sc m slot j) small single trusts
    ∙ ap (λ x. is_some (says_of (other me) j source slot (role_of sc.sizes slot) x (q + 1) (word_at sc m slot j))) (sym (sender-held slot there)) in
    let sense : IsSenseOf (sense_in ws me i st j) source slot (q + 1) said =
    sensed q ws me i j st said shape below small here.frame there.frame is good refl fits in
    record {
      takes = takes_what_is_said st.far (expected_at sc.sizes me st slot (q + 1)) (sense_in ws me i st) source slot (q + 1) j said expected
          (eligible st.far j trusts clear) sense;
      right = does_right (sense_in ws me i st j) source slot (q + 1) said expected sense;
    }

-- What is seen.

-- what a node's close of the window makes, part by part
pub closes_exactly : {sc m slot stage : _} (ws : Windows sc m slot stage) (me : Side) (i : ℕ) (st : NodeState) → slot < sync_slot_of sc.sizes
    → ExactClose sc.sizes me i st (sent_by sc.sizes me i st slot stage (word_at sc m slot i)) slot stage (sense_in ws me i st)
    (close sc.sizes me i (kept_in sc m slot stage me i st) slot stage (ws.first me st) (sense_in ws me i st))
closes_exactly {sc} {m} {slot} {stage} ws me i st below =
    let sense : ℕ → Sense = sense_in ws me i st in
    let sent : Option Heard = sent_by sc.sizes me i st slot stage (word_at sc m slot i) in
    let e : close sc.sizes me i (kept_in sc m slot stage me i st) slot stage (ws.first me st) sense ≡ close_exact sc.sizes me i (with_sent st sent) slot stage sense =
    close-exact sc.sizes me i (kept_in sc m slot stage me i st) slot stage (ws.first me st) sense (less-differs slot (sync_slot_of sc.sizes) below)
    ∙ ap (λ k. close_exact sc.sizes me i k slot stage sense) (keeping-is sc.sizes me i st slot stage (word_at sc m slot i)) in
    subst (ExactClose sc.sizes me i st sent slot stage sense) (sym e) (exact_close sc.sizes me i st sent slot stage sense)

pub get-see : (taken : List (Option Heard)) (j : ℕ) → get_or (map see_value taken) j Nothing ≡ see_value (get_or taken j None)
get-see [] j = refl
get-see (x ∷ xs) zero = refl
get-see (x ∷ xs) (suc j) = get-see xs j

-- a good node shows what it took
pub shows_taken : {sc m slot stage : _} (ws : Windows sc m slot stage) (place : Place) (me : Side) (i j : ℕ) {st : _}
    → slot < sync_slot_of sc.sizes → slice_get (of_kind me m.nodes) i ≡ Some st → is_good sc me i m.frame slot ≡ true → ws.first me st ≤ ws.last me st → j < 16
    → (judged_of sc place (rows_of sc m)).sight me i j ≡ see_value (take_at sc.sizes me st slot stage (sense_in ws me i st) j)
shows_taken {sc} {slot} {stage} ws place me i j {st} below is good tick small =
    let sense : ℕ → Sense = sense_in ws me i st in
    let time : ℕ = sole_time (heard_in ws me i st j) in
    sight-is ws place me i j is good tick small
    ∙ ap (λ sees. judged_see time (get_or sees j Nothing)) (closes_exactly ws me i st below).sees
    ∙ ap (judged_see time) (get-see (closing_at sc.sizes me st slot stage sense).taken j ∙ ap see_value (taken_at st.far (expected_at sc.sizes me st slot stage) sense j small))
    ∙ judged_value time (take_at sc.sizes me st slot stage sense j)

-- a node from which something is taken is not benign
pub taken_is_seen : {sc m slot stage : _} (ws : Windows sc m slot stage) (me : Side) (i j : ℕ) {st : _}
    → slot < sync_slot_of sc.sizes → slice_get (of_kind me m.nodes) i ≡ Some st → is_good sc me i m.frame slot ≡ true → ws.first me st ≤ ws.last me st → i < 16 → j < 16
    → is_some (take_at sc.sizes me st slot stage (sense_in ws me i st) j) ≡ true
    → is_benign (other me) (judged_of sc (record { frame = m.frame; slot = slot; stage = stage }) (rows_of sc m) ∷ m.book.stages) j ≡ false
taken_is_seen {sc} {m} {slot} {stage} ws me i j {st} below is good tick small_i small_j some =
    let place : Place = record { frame = m.frame; slot = slot; stage = stage } in
    let s : JudgedStage = judged_of sc place (rows_of sc m) in
    let taken : was_taken (other me) j s ≡ true =
    taken_in_stage sc place (rows_of sc m) me i j small_i good
    (ap is_something (shows_taken ws place me i j below is good tick small_j)
    ∙ some_is_something (take_at sc.sizes me st slot stage (sense_in ws me i st) j) some) in
    ap not (or_left (was_taken (other me) j s) (list_any (was_taken (other me) j) m.book.stages) taken)

-- all good nodes take the same from a node that is not asymmetric
pub alike_is_same : {sc m slot stage : _} (ws : Windows sc m slot stage) (me : Side) (a b j : ℕ) {sta stb : _}
    → slot < sync_slot_of sc.sizes → slice_get (of_kind me m.nodes) a ≡ Some sta → slice_get (of_kind me m.nodes) b ≡ Some stb
    → is_good sc me a m.frame slot ≡ true → is_good sc me b m.frame slot ≡ true → ws.first me sta ≤ ws.last me sta → ws.first me stb ≤ ws.last me stb
    → a < 16 → b < 16 → j < 16
    → is_asymmetric (other me) (judged_of sc (record { frame = m.frame; slot = slot; stage = stage }) (rows_of sc m) ∷ m.book.stages) j ≡ false
    → take_at sc.sizes me sta slot stage (sense_in ws me a sta) j ≡ take_at sc.sizes me stb slot stage (sense_in ws me b stb) j
alike_is_same {sc} {m} {slot} {stage} ws me a b j {sta} {stb} below is_a is_b good_a good_b tick_a tick_b small_a small_b small_j alike =
    let place : Place = record { frame = m.frame; slot = slot; stage = stage } in
    let s : JudgedStage = judged_of sc place (rows_of sc m) in
    let x : Option Heard = take_at sc.sizes me sta slot stage (sense_in ws me a sta) j in
    let y : Option Heard = take_at sc.sizes me stb slot stage (sense_in ws me b stb) j in
    let none : was_unlike (other me) j s ≡ false = or_neither_first (was_unlike (other me) j s) (list_any (was_unlike (other me) j) m.book.stages) alike in
    elim (true_or_false (are_alike s.eps (s.sight me a j) (s.sight me b j))) [
      | inl same ↦
          alike_values s.eps x y
          (ap (λ v. are_alike s.eps v (see_value y)) (sym (shows_taken ws place me a j below is_a good_a tick_a small_j))
          ∙ ap (are_alike s.eps (s.sight me a j)) (sym (shows_taken ws place me b j below is_b good_b tick_b small_j)) ∙ same)
      | inr differ ↦ let found : was_unlike (other me) j s ≡ true = unlike_in_stage sc place (rows_of sc m) me a b j small_a small_b good_a good_b differ in cc
    ]

-- nothing is taken from a node that is not trusted
pub taken_is_trusted : (s : Standing) (expected : ℕ → Bool) (sense : ℕ → Sense) (j : ℕ) → is_some (taken_of value_in s expected sense j) ≡ true → has s.trusted j ≡ true
taken_is_trusted s expected sense j h = go (expected j) (has s.trusted j) (not (has s.direct j)) refl h
  where
    go : (a b c : Bool) → has s.trusted j ≡ b → is_some (if a && (b && c) then value_in (sense j) else None) ≡ true → has s.trusted j ≡ true
    go true true c e h = e
    go true false c e h = cc
    go false b c e h = cc
