-- A window below the sync slot that is settled without a breach, before which all good nodes agree:
-- what holds of it whatever its stage.
use Rattle.std.proofs.Common.{◌≡◌, ℕ, zero, suc, ◌+◌, ◌*◌, ◌<◌, true, false, List, [], ◌∷◌, length, Option, Some, is_some, slice_get, refl, sym, ◌∙◌, ap, arith}
use Rattle.std.specs.Prelude.{IfSome}
use Rattle.rb_base.specs.{Nodes.{Side, other, has}, Sizes.sync_slot_of, declared.values.Heard.Heard}
use Rattle.rb_rules.specs.{declared.sense.Sense.Sense, Book.{of_kind, judged_of}, ExactStage.{Outcome, says, reference_value}, Goodness.{Scenario, is_good}, Judging.{JudgedStage, is_asymmetric}, Lawful.IsLawful, NodeState.{NodeState, sender_at}, NodeSteps.close, Ports.HandIn, Rounds.{Moment, window_in, sent_in, go_through}, Slots.{count_of, role_of}, Standing.is_unlike}
use Rattle.rb_rules.proofs.Senses.{IsCarried}
use Rattle.rb_laws_agreement.proofs.{Tests.Present, Premises.Premise, NodeWindows.{Windows, HasTick, word_at, kept_in, sense_in, exact_windows, exact_tick, goes, state-closed}, ExactWindows.{ExactClose, take_at, expected_at, closing_at, sent_by, with_sent, spares_right, spares_alike}, JudgedWindows.{rows_of, IsPassed, premise_after}, Invariant.{Shared, IsGoodNode, is_good_now, slot_numbered, Holds, Agree}, Goodnesses.{good_below_16, good_counts, slot_here}, Exchanges.{IsHeard, far-held, good_heard, closes_exactly, taken_is_seen, alike_is_same, taken_is_trusted}, StageVotes.IsSeen}

-- moment `m` is before stage q + 1 of `slot`, and all good nodes agree in it
pub record Setting (sc : Scenario) (hands : List HandIn) (n : ℕ) (m : Moment) (s : Shared) (slot q : ℕ) : Type 0 where
  pub law : IsLawful sc
  pub agree : Agree sc hands n m s
  pub below : slot < sync_slot_of sc.sizes
  pub small : q < 3
  pub at : m.window ≡ 3 * slot + q
  pub passed : IsPassed sc (record { frame = m.frame; slot = slot; stage = q + 1 }) (rows_of sc m) m.book

-- the judged stages of the frame with stage `stage` of `slot`
abbrev pub stages_with : Scenario → Moment → ℕ → ℕ → List JudgedStage
stages_with sc m slot stage = judged_of sc (record { frame = m.frame; slot = slot; stage = stage }) (rows_of sc m) ∷ m.book.stages

abbrev pub windows : {sc hands n m s slot q : _} → Setting sc hands n m s slot q → Windows sc m slot (q + 1)
windows {sc} {m} {slot} {q} c = exact_windows sc m slot q c.below c.small c.at

pub ticks : {sc hands n m s slot q : _} (c : Setting sc hands n m s slot q)
    → HasTick sc m slot (q + 1) (windows c)
ticks {sc} {m} {slot} {q} c = exact_tick sc m slot q c.below c.small c.at c.law.plan.l.0

-- a node is good in the moment if and only if it is good in the slot
pub good_here : {sc hands n m s slot q : _} → Setting sc hands n m s slot q → (me : Side) (i : ℕ)
    → is_good_now sc m me i ≡ is_good sc me i m.frame slot
good_here {sc} {m} {slot} {q} c me i = ap (is_good sc me i m.frame) (slot_here sc.sizes slot q c.below c.small c.at)

-- there is an item at each number below the length
pub item_at : {X : Type 0} (xs : List X) (i : ℕ) → i < length xs → Present (slice_get xs i)
item_at [] i h = absurd (omega arith)
item_at (x ∷ xs) zero h = record { value = x; is = refl }
item_at (x ∷ xs) (suc i) h = item_at xs i (omega arith)

-- each good node has a state
pub good_state : {sc hands n m s : _} → Agree sc hands n m s → (me : Side) (i : ℕ) → is_good_now sc m me i ≡ true
    → Present (slice_get (of_kind me m.nodes) i)
good_state {sc} {m} agree me i good =
    let long : length (of_kind me m.nodes) ≡ count_of me sc.sizes = agree.counts me in
    let counted : i < count_of me sc.sizes = good_counts sc me i m.frame (slot_numbered sc.sizes m.window) good in
    item_at (of_kind me m.nodes) i (omega arith)

-- the premise holds with the stage of the setting
pub premise : {sc hands n m s slot q : _} → Setting sc hands n m s slot q
    → Premise sc m.frame slot s.trusted (stages_with sc m slot (q + 1))
premise {s} c =
    premise_after (windows c) s.trusted
    (λ me i st is good kind. (c.agree.nodes me i st (record { there = is; good = good_here c me i ∙ good })).trusted kind)
    c.passed.no_cause

-- what good nodes say has four bytes
abbrev pub AllCarried : (sc : Scenario) (m : Moment) (slot stage : ℕ) → Type 0
AllCarried sc m slot stage =
    (me : Side) (i : ℕ) (st : NodeState) → IsGoodNode sc m me i st → IfSome (says sc.sizes me i st slot stage (word_at sc m slot i)) IsCarried

-- each good node hears each good source
pub all_heard : {sc hands n m s slot q : _} (c : Setting sc hands n m s slot q) → AllCarried sc m slot (q + 1)
    → {me i j st source : _} → IsGoodNode sc m me i st → IsGoodNode sc m (other me) j source
    → IsHeard sc m slot (q + 1) (windows c) me i j st source
all_heard {sc} {m} {s} {q} c fits {me} {i} {j} {st} {source} here there =
    let holds : Holds sc m s me st = c.agree.nodes me i st here in
    good_heard q (windows c) i j c.law.sizes c.below c.small holds (c.agree.nodes (other me) j source there)
    there.there (sym (good_here c (other me) j) ∙ there.good) (c.agree.trusted (other me) j there.good)
    (holds.spares.direct j there.good) (fits (other me) j source there)

-- what a good node takes of a source
abbrev pub taken : {sc hands n m s slot q : _} → Setting sc hands n m s slot q → Side → ℕ → NodeState → ℕ → Option Heard
taken {sc} {slot} {q} c me i st = take_at sc.sizes me st slot (q + 1) (sense_in (windows c) me i st)

-- a node from which something is taken is trusted and was seen
pub all_seen : {sc hands n m s slot q : _} (c : Setting sc hands n m s slot q)
    → {me i : _} (j : ℕ) {st : _} → IsGoodNode sc m me i st → j < 16 → is_some (taken c me i st j) ≡ true
    → IsSeen s.trusted (other me) (stages_with sc m slot (q + 1)) j
all_seen {sc} {m} {slot} {q} c {me} {i} j {st} here small some =
    let ws : Windows sc m slot (q + 1) = windows c in
    let good : is_good sc me i m.frame slot ≡ true = sym (good_here c me i) ∙ here.good in
    record {
      trusts = ap (λ t. has t j) (sym (far-held (c.agree.nodes me i st here)))
          ∙ taken_is_trusted st.far (expected_at sc.sizes me st slot (q + 1)) (sense_in ws me i st) j some;
      seen = taken_is_seen ws me i j c.below here.there good ((ticks c).tick me st)
          (good_below_16 sc c.law.sizes me i m.frame slot good) small some;
    }

-- all good nodes take the same from a source that is not asymmetric
pub all_alike : {sc hands n m s slot q : _} (c : Setting sc hands n m s slot q)
    → {me a b : _} (j : ℕ) {sta stb : _} → IsGoodNode sc m me a sta → IsGoodNode sc m me b stb → j < 16
    → is_asymmetric (other me) (stages_with sc m slot (q + 1)) j ≡ false
    → taken c me a sta j ≡ taken c me b stb j
all_alike {sc} {m} {slot} {q} c {me} {a} {b} j {sta} {stb} here_a here_b small alike =
    let ws : Windows sc m slot (q + 1) = windows c in
    let good_a : is_good sc me a m.frame slot ≡ true = sym (good_here c me a) ∙ here_a.good in
    let good_b : is_good sc me b m.frame slot ≡ true = sym (good_here c me b) ∙ here_b.good in
    alike_is_same ws me a b j c.below here_a.there here_b.there good_a good_b
    ((ticks c).tick me sta) ((ticks c).tick me stb)
    (good_below_16 sc c.law.sizes me a m.frame slot good_a) (good_below_16 sc c.law.sizes me b m.frame slot good_b) small alike

-- What the window makes of a good node.

abbrev pub after : Scenario → Moment → Side → ℕ → NodeState → NodeState
after sc m me i st = (go_through sc m (sent_in sc m) me i st (window_in sc m me st)).state

-- the close, part by part
pub record Closed (sc : Scenario) (hands : List HandIn) (n : ℕ) (m : Moment) (s : Shared) (slot q : ℕ) (c : Setting sc hands n m s slot q) (me : Side) (i : ℕ) (st : NodeState) : Type 0 where
  pub outcome : Outcome
  pub parts : ExactClose sc.sizes me i st (sent_by sc.sizes me i st slot (q + 1) (word_at sc m slot i)) slot (q + 1) (sense_in (windows c) me i st) outcome
  pub is : after sc m me i st ≡ outcome.state

pub closes : {sc hands n m s slot q : _} (c : Setting sc hands n m s slot q)
    → {me i st : _} → IsGoodNode sc m me i st → Closed sc hands n m s slot q c me i st
closes {sc} {m} {slot} {q} c {me} {i} {st} here =
    let ws : Windows sc m slot (q + 1) = windows c in
    let good : is_good sc me i m.frame slot ≡ true = sym (good_here c me i) ∙ here.good in
    record {
      outcome = close sc.sizes me i (kept_in sc m slot (q + 1) me i st) slot (q + 1) (ws.first me st) (sense_in ws me i st);
      parts = closes_exactly ws me i st c.below;
      is = ap (λ r. r.state) (goes ws me i st good ((ticks c).tick me st)) ∙ state-closed ws me i st;
    }

-- good nodes take nothing else from good sources than the value with which they compare
abbrev pub NoneUnlike : {sc hands n m s slot q : _} → Setting sc hands n m s slot q → Type 0
NoneUnlike {sc} {m} {slot} {q} c =
    (me : Side) (i j : ℕ) (st source : NodeState) → IsGoodNode sc m me i st → IsGoodNode sc m (other me) j source → (value : Heard)
    → reference_value me i (with_sent st (sent_by sc.sizes me i st slot (q + 1) (word_at sc m slot i))) (role_of sc.sizes slot) (sender_at sc.sizes me st slot) (q + 1)
    (closing_at sc.sizes me st slot (q + 1) (sense_in (windows c) me i st)) ≡ Some value
    → is_unlike value (taken c me i st j) ≡ false

-- node `j` is accused neither directly nor by mismatch in this state
pub record SparesNode (st : NodeState) (j : ℕ) : Type 0 where
  pub direct : has st.far.direct j ≡ false
  pub mismatch : has st.far.mismatch j ≡ false

-- no good node is accused in the window
pub all_spared : {sc hands n m s slot q : _} (c : Setting sc hands n m s slot q)
    → AllCarried sc m slot (q + 1) → NoneUnlike c
    → {me i : _} (j : ℕ) {st : _} → IsGoodNode sc m me i st → is_good_now sc m (other me) j ≡ true → SparesNode (after sc m me i st) j
all_spared {sc} {hands} {n} {m} {s} {slot} {q} c fits none {me} {i} j {st} here good =
    let there : Present (slice_get (of_kind (other me) m.nodes) j) = good_state c.agree (other me) j good in
    let source : IsGoodNode sc m (other me) j there.value = record { there = there.is; good = good } in
    let heard : IsHeard sc m slot (q + 1) (windows c) me i j st there.value = all_heard c fits here source in
    let x : Closed sc hands n m s slot q c me i st = closes c here in
    let holds : Holds sc m s me st = c.agree.nodes me i st here in
    let small : j < 16 = good_below_16 sc c.law.sizes (other me) j m.frame (slot_numbered sc.sizes m.window) good in
    let sense : ℕ → Sense = sense_in (windows c) me i st in
    record {
      direct = ap (λ t. has t.far.direct j) x.is ∙ ap (λ f. has f.direct j) x.parts.far
          ∙ spares_right (reference_value me i (with_sent st (sent_by sc.sizes me i st slot (q + 1) (word_at sc m slot i))) (role_of sc.sizes slot) (sender_at sc.sizes me st slot) (q + 1) (closing_at sc.sizes me st slot (q + 1) sense))
          st.far (expected_at sc.sizes me st slot (q + 1)) sense j small heard.right (holds.spares.direct j good);
      mismatch = ap (λ t. has t.far.mismatch j) x.is ∙ ap (λ f. has f.mismatch j) x.parts.far
          ∙ spares_alike (reference_value me i (with_sent st (sent_by sc.sizes me i st slot (q + 1) (word_at sc m slot i))) (role_of sc.sizes slot) (sender_at sc.sizes me st slot) (q + 1) (closing_at sc.sizes me st slot (q + 1) sense))
          st.far (expected_at sc.sizes me st slot (q + 1)) sense j small (none me i j st there.value here source) (holds.spares.mismatch j good);
    }
