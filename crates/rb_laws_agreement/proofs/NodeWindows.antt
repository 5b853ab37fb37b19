-- The window of a moment as the nodes go through it: all in one slot and stage. What a good node
-- says there, what it hears, and how it closes the window.
use Rattle.std.proofs.{Common.{◌≡◌, ℕ, zero, suc, ◌+◌, ◌-◌, ◌*◌, ◌/◌, ◌%◌, ◌<◌, ◌≤◌, nat_le, true, false, List, [], ◌∷◌, map, Option, Some, None, option_map, option_and_then, slice_get, unwrap_or, refl, ◌∙◌, ap, arith}, lemmas.Bool.Decides.nat_tests}
use Rattle.std.specs.Prelude.{option_to_list}
use Rattle.rb_base.specs.{Nodes.{Side, other}, Sizes.{Sizes, sync_slot_of}}
use Rattle.rb_rules.specs.{declared.message.Message.Message, declared.plan.Plan.Plan, declared.plan.Window.Window, declared.sense.Sense.Sense, declared.sense.Sense.TheVariants.{Silent, One}, Book.{of_kind, map_each}, ExactStage.{at_source, keep_sent}, Goodness.{Scenario, is_good, clock_of}, Hearing.{Sending, Coming, Span, span_of, tail_at, window_numbered, sending, coming_of, said_by, heard_from, arrival_of}, NodeState.NodeState, NodeSteps.{expect_of, message_said, close}, Rounds.{Moment, window_in, word_for_window, sending_in, sent_in, heard_at, close_on, go_through}, Sense.{suits, sense_of}, Spelling.IsMessage, SyncStage.{new_epoch_of, send_tick_of}, Plan.{f0_of, tail_start_of}, Windows.{window_of, sync_windows}}
use Rattle.rb_rules.proofs.{Senses.spelled_is_one, WindowNumbers.{get-each, exact-numbered, sync-numbered}}
use Rattle.rb_laws_agreement.proofs.Tests.{get-some}

-- the windows of a moment have one slot and one stage
pub record Windows (sc : Scenario) (m : Moment) (slot stage : ℕ) : Type 0 where
  pub first : Side → NodeState → ℕ
  pub last : Side → NodeState → ℕ
  pub are : (me : Side) (st : NodeState)
      → window_in sc m me st ≡ record { slot = slot; stage = stage; first = first me st; last = last me st }

-- the window of a node in the state `st`
abbrev pub own_window : {sc m slot stage : _} → Windows sc m slot stage → Side → NodeState → Window
own_window {slot} {stage} ws me st = record { slot = slot; stage = stage; first = ws.first me st; last = ws.last me st }

-- the windows of the nodes in stage q + 1 of a slot below the sync slot
pub exact_windows : (sc : Scenario) (m : Moment) (slot q : ℕ) → slot < sync_slot_of sc.sizes → q < 3 → m.window ≡ 3 * slot + q → Windows sc m slot (q + 1)
exact_windows sc m slot q below small at =
    let e : m.window / 3 ≡ slot = omega arith in
    let f : m.window % 3 ≡ q = omega arith in
    record {
      first = λ me st. m.window * sc.plan.l;
      last = λ me st. m.window * sc.plan.l + sc.plan.l - 1;
      are = λ me st.
          exact-numbered sc.sizes sc.plan me st m.window (omega arith)
          ∙ ap (λ s. window_of s (m.window % 3 + 1) (m.window * sc.plan.l) sc.plan.l) e
          ∙ ap (λ s. window_of slot (s + 1) (m.window * sc.plan.l) sc.plan.l) f;
    }

-- a stage of the sync slot begins with the offset `sync_first` and lasts `sync_ticks`
pub sync_first : Sizes → Plan → ℕ → ℕ
sync_first sizes plan zero = f0_of sizes plan
sync_first sizes plan (suc zero) = f0_of sizes plan + plan.l
sync_first sizes plan (suc (suc r)) = f0_of sizes plan + plan.l + plan.v

pub sync_ticks : Plan → ℕ → ℕ
sync_ticks plan zero = plan.l
sync_ticks plan (suc zero) = plan.v
sync_ticks plan (suc (suc r)) = plan.z

pub sync_window : (sizes : Sizes) (plan : Plan) (r : ℕ) → r < 3
    → slice_get (sync_windows sizes plan) r ≡ Some (window_of (sync_slot_of sizes) (r + 1) (sync_first sizes plan r) (sync_ticks plan r))
unfolding sync_first sync_ticks
sync_window sizes plan zero h = refl
sync_window sizes plan (suc zero) h = refl
sync_window sizes plan (suc (suc zero)) h = refl
sync_window sizes plan (suc (suc (suc r))) h = absurd (omega arith)

-- the windows of the nodes in stage q + 1 of the sync slot
pub sync_windows_are : (sc : Scenario) (m : Moment) (q : ℕ) → q < 3 → m.window ≡ 3 * sync_slot_of sc.sizes + q
    → Windows sc m (sync_slot_of sc.sizes) (q + 1)
sync_windows_are sc m q small at = record {
  first = λ me st. sync_first sc.sizes sc.plan q;
  last = λ me st. sync_first sc.sizes sc.plan q + sync_ticks sc.plan q - 1;
  are = λ me st.
      ap (window_numbered sc.sizes sc.plan me st) at ∙ sync-numbered sc.sizes sc.plan me st q
      ∙ ap (λ o. unwrap_or o (tail_at sc.sizes sc.plan me st)) (sync_window sc.sizes sc.plan q small);
}

-- the windows of the nodes in the tail
pub tail_windows : (sc : Scenario) (m : Moment) → m.window ≡ 3 * sync_slot_of sc.sizes + 3 → Windows sc m (sync_slot_of sc.sizes) 4
tail_windows sc m at = record {
  first = λ me st. tail_start_of sc.sizes sc.plan;
  last = λ me st. unwrap_or (new_epoch_of sc.plan me st) 0 - st.epoch - 1;
  are = λ me st. ap (window_numbered sc.sizes sc.plan me st) at ∙ sync-numbered sc.sizes sc.plan me st 3;
}

-- each window but the tail has a tick
pub record HasTick (sc : Scenario) (m : Moment) (slot stage : ℕ) (ws : Windows sc m slot stage) : Type 0 where
  pub tick : (me : Side) (st : NodeState) → ws.first me st ≤ ws.last me st

pub exact_tick : (sc : Scenario) (m : Moment) (slot q : ℕ) (below : slot < sync_slot_of sc.sizes) (small : q < 3) (at : m.window ≡ 3 * slot + q) → 1 ≤ sc.plan.l
    → HasTick sc m slot (q + 1) (exact_windows sc m slot q below small at)
unfolding exact_windows
exact_tick sc m slot q below small at some = record { tick = λ me st. omega arith }

ticks_some : (plan : Plan) (q : ℕ) → 1 ≤ plan.l → 1 ≤ plan.v → 1 ≤ plan.z → 1 ≤ sync_ticks plan q
unfolding sync_ticks
ticks_some plan zero l v z = l
ticks_some plan (suc zero) l v z = v
ticks_some plan (suc (suc r)) l v z = z

pub sync_tick : (sc : Scenario) (m : Moment) (q : ℕ) (small : q < 3) (at : m.window ≡ 3 * sync_slot_of sc.sizes + q) → 1 ≤ sc.plan.l → 1 ≤ sc.plan.v → 1 ≤ sc.plan.z
    → HasTick sc m (sync_slot_of sc.sizes) (q + 1) (sync_windows_are sc m q small at)
unfolding sync_windows_are
sync_tick sc m q small at l v z = record { tick = λ me st. omega (arith, ticks_some sc.plan q l v z) }

-- What nodes say.

-- the word that a node has for its window
abbrev pub word_at : Scenario → Moment → ℕ → ℕ → ℕ
word_at sc m slot i = word_for_window sc m i (record { slot = slot; stage = 0; first = 0; last = 0 })

-- what a node sends, by the window
pub sent-at : {sc m slot stage : _} (ws : Windows sc m slot stage) (me : Side) (j : ℕ) {st : _}
    → slice_get (of_kind me m.nodes) j ≡ Some st
    → at_source (of_kind me (sent_in sc m)) j ≡ sending sc.sizes sc.plan me j st slot stage (word_at sc m slot j)
unfolding sent_in
sent-at {sc} {m} ws me j {st} is =
    let make : Side → ℕ → NodeState → Option Sending = λ me i st. sending_in sc m me i st (window_in sc m me st) in
    get-some (of_kind me (map_each make m.nodes)) j None (get-each make m.nodes me j ∙ ap (option_map (make me j)) is)
    ∙ ap (sending_in sc m me j st) (ws.are me st)

pub sending-none : (sizes : Sizes) (plan : Plan) (me : Side) (j : ℕ) (st : NodeState) (slot stage word : ℕ)
    → message_said sizes me j st slot stage word ≡ None → sending sizes plan me j st slot stage word ≡ None
unfolding sending
sending-none sizes plan me j st slot stage word none =
    ap (option_and_then (λ m. option_map (λ tick. record { tick = tick; message = m }) (send_tick_of sizes plan st slot stage))) none

pub sending-some : (sizes : Sizes) (plan : Plan) (me : Side) (j : ℕ) (st : NodeState) (slot stage word : ℕ) {tick message : _}
    → message_said sizes me j st slot stage word ≡ Some message → send_tick_of sizes plan st slot stage ≡ Some tick
    → sending sizes plan me j st slot stage word ≡ Some (record { tick = tick; message = message })
unfolding sending
sending-some sizes plan me j st slot stage word {tick} {message} is at =
    ap (option_and_then (λ m. option_map (λ tick. record { tick = tick; message = m }) (send_tick_of sizes plan st slot stage))) is
    ∙ ap (option_map (λ tick. record { tick = tick; message = message })) at

-- What nodes hear.

-- the state in which a node closes its window
abbrev pub kept_in : (sc : Scenario) (m : Moment) (slot stage : ℕ) → Side → ℕ → NodeState → NodeState
kept_in sc m slot stage me i st = keep_sent sc.sizes me i st slot stage (word_at sc m slot i)

-- what comes to a node from a source in its window
abbrev pub heard_in : {sc m slot stage : _} → Windows sc m slot stage → Side → ℕ → NodeState → ℕ → List Coming
heard_in {sc} {m} ws me i st = heard_at sc me i st (own_window ws me st) (sent_in sc m)

-- what a node makes of what comes to it from a source
abbrev pub sense_in : {sc m slot stage : _} → Windows sc m slot stage → Side → ℕ → NodeState → ℕ → Sense
sense_in {sc} {m} {slot} {stage} ws me i st j =
    sense_of (expect_of sc.sizes sc.plan.version (kept_in sc m slot stage me i st) slot stage)
    (map (arrival_of (clock_of sc me i)) (heard_in ws me i st j))

pub from-good : (sc : Scenario) (me : Side) (i : ℕ) (span : Span) (sent : List (Option Sending)) (j : ℕ)
    → is_good sc (other me) j span.place.frame span.place.slot ≡ true
    → heard_from sc me i span sent j ≡ option_to_list (option_map (coming_of sc me i j span.place.frame) (at_source sent j))
unfolding heard_from
from-good sc me i span sent j good = rw (good, heard_from) refl

pub from-faulty : (sc : Scenario) (me : Side) (i : ℕ) (span : Span) (sent : List (Option Sending)) (j : ℕ)
    → is_good sc (other me) j span.place.frame span.place.slot ≡ false → heard_from sc me i span sent j ≡ said_by sc me i span j
unfolding heard_from
from-faulty sc me i span sent j faulty = rw (faulty, heard_from) refl

-- a good source that says nothing is silent
pub good_is_silent : {sc m slot stage : _} (ws : Windows sc m slot stage) (me : Side) (i j : ℕ) (st : NodeState) {source : _}
    → st.frame ≡ m.frame → slice_get (of_kind (other me) m.nodes) j ≡ Some source → is_good sc (other me) j m.frame slot ≡ true
    → message_said sc.sizes (other me) j source slot stage (word_at sc m slot j) ≡ None
    → sense_in ws me i st j ≡ Silent
good_is_silent {sc} {m} {slot} {stage} ws me i j st {source} frame is good says =
    let sent : at_source (of_kind (other me) (sent_in sc m)) j ≡ None =
    sent-at ws (other me) j is ∙ sending-none sc.sizes sc.plan (other me) j source slot stage (word_at sc m slot j) says in
    let heard : heard_in ws me i st j ≡ [] =
    from-good sc me i (span_of st (own_window ws me st)) (of_kind (other me) (sent_in sc m)) j (ap (λ f. is_good sc (other me) j f slot) frame ∙ good)
    ∙ ap (λ o. option_to_list (option_map (coming_of sc me i j st.frame) o)) sent in
    ap (λ l. sense_of (expect_of sc.sizes sc.plan.version (kept_in sc m slot stage me i st) slot stage) (map (arrival_of (clock_of sc me i)) l)) heard

-- a sense that is this message, with some stamp
pub record IsOne (s : Sense) (message : Message) : Type 0 where
  pub stamp : ℕ
  pub is : s ≡ One stamp message

-- a good source that says a message is heard to say it
pub good_is_heard : {sc m slot stage : _} (ws : Windows sc m slot stage) (me : Side) (i j : ℕ) (st : NodeState) {source : _} (tick : ℕ) {message : _}
    → st.frame ≡ m.frame → slice_get (of_kind (other me) m.nodes) j ≡ Some source → is_good sc (other me) j m.frame slot ≡ true
    → message_said sc.sizes (other me) j source slot stage (word_at sc m slot j) ≡ Some message → send_tick_of sc.sizes sc.plan source slot stage ≡ Some tick
    → IsMessage message → suits (expect_of sc.sizes sc.plan.version (kept_in sc m slot stage me i st) slot stage) message ≡ true
    → IsOne (sense_in ws me i st j) message
good_is_heard {sc} {m} {slot} {stage} ws me i j st {source} tick {message} frame is good says at fits suited =
    let s : Sending = record { tick = tick; message = message } in
    let sent : at_source (of_kind (other me) (sent_in sc m)) j ≡ Some s =
    sent-at ws (other me) j is ∙ sending-some sc.sizes sc.plan (other me) j source slot stage (word_at sc m slot j) says at in
    let comes : Coming = coming_of sc me i j st.frame s in
    let heard : heard_in ws me i st j ≡ comes ∷ [] =
    from-good sc me i (span_of st (own_window ws me st)) (of_kind (other me) (sent_in sc m)) j (ap (λ f. is_good sc (other me) j f slot) frame ∙ good)
    ∙ ap (λ o. option_to_list (option_map (coming_of sc me i j st.frame) o)) sent in
    record {
      stamp = (arrival_of (clock_of sc me i) comes).stamp;
      is = ap (λ l. sense_of (expect_of sc.sizes sc.plan.version (kept_in sc m slot stage me i st) slot stage) (map (arrival_of (clock_of sc me i)) l)) heard
          ∙ spelled_is_one (expect_of sc.sizes sc.plan.version (kept_in sc m slot stage me i st) slot stage) (arrival_of (clock_of sc me i) comes).stamp comes.bytes message (fits, refl) suited;
    }

-- How a node closes its window.

-- what a node does in its window that is good and has a tick
pub goes : {sc m slot stage : _} (ws : Windows sc m slot stage) (me : Side) (i : ℕ) (st : NodeState)
    → is_good sc me i m.frame slot ≡ true → ws.first me st ≤ ws.last me st
    → go_through sc m (sent_in sc m) me i st (window_in sc m me st)
    ≡ close_on sc me i (kept_in sc m slot stage me i st) (own_window ws me st) (heard_in ws me i st)
unfolding go_through
goes {sc} {m} ws me i st good tick =
    let ticks : nat_le (ws.first me st) (ws.last me st) ≡ true = grind (arith, nat_tests) in
    ap (go_through sc m (sent_in sc m) me i st) (ws.are me st) ∙ rw (good, ticks, go_through) refl

-- the state of a node after its window
pub state-closed : {sc m slot stage : _} (ws : Windows sc m slot stage) (me : Side) (i : ℕ) (st : NodeState)
    → (close_on sc me i (kept_in sc m slot stage me i st) (own_window ws me st) (heard_in ws me i st)).state
    ≡ (close sc.sizes me i (kept_in sc m slot stage me i st) slot stage (ws.first me st) (sense_in ws me i st)).state
unfolding close_on
state-closed ws me i st = refl
