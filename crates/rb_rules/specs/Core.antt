-- One node core. It takes the ticks of its clock and arrivals, one at a time.
use Rattle.std.specs.{Prelude.{ℕ, zero, suc, ◌+◌, ◌-◌, ◌^◌, max, nat_lt, nat_le, ◌==◌, ◌&&◌, ◌||◌, not, Bool, true, false, Option, Some, None, is_some, unwrap_or, List, [], ◌∷◌, ◌++◌, filter, map}, Option.option_or}
use Rattle.rb_base.specs.{Nodes.{Side, other}, Nodes.Side.Biu, Sizes.Sizes}
use Rattle.rb_rules.specs.{declared.closing.Closed.Closed, declared.message.Message.Message, declared.plan.Plan.Plan, declared.plan.Window.Window, declared.record.Epoch.Epoch, ExactStage.keep_sent, Hearing.{Sending, sending, tail_at, close_window, epoch_of}, NodeState.{NodeState, first_state}, NodeSteps.turn_if_known, Sense.Arrival, Slots.{count_of, first_diagnosis_of}, SyncStage.new_epoch_of, Windows.window_at}

pub record Core : Type 0 where
  pub state : NodeState
  pub had : ℕ  -- how many ticks it has had, which is the number of the next
  pub inbox : List (ℕ × Arrival)  -- what came since the last close, each with its source

abbrev pub first_core : Sizes → Side → Core
first_core sizes me = record { state = first_state sizes me; had = 0; inbox = [] }

-- a core that has had this many ticks is spent: nothing changes it any more
abbrev pub is_spent : Core → Bool
is_spent c = nat_le (2 ^ 31) c.had

-- the core after an arrival, which is stamped with the next tick. One from a number that no node
-- has changes nothing
unfoldable pub arrive : Sizes → Side → Core → ℕ → List ℕ → Core
arrive sizes me c from bytes =
    elim (nat_lt from (count_of (other me) sizes) && not (is_spent c)) [
      | true ↦ record c { inbox = c.inbox ++ (from, record { stamp = c.had; bytes = bytes }) ∷ [] }
      | false ↦ c
    ]

-- What there is to do at a tick.

-- there is a tick, and it is `k`
abbrev pub is_tick : Option ℕ → ℕ → Bool
is_tick None k = false
is_tick (Some tick) k = tick == k

-- the state at tick k: at the node's next epoch it has turned
unfoldable pub state_at : Sizes → Plan → Side → NodeState → ℕ → NodeState
state_at sizes plan me st k =
    elim (is_tick (new_epoch_of plan me st) k) [ true ↦ turn_if_known sizes plan me st | false ↦ st ]

-- the window of tick k; after those of the slots it is the tail
abbrev pub window_here : Sizes → Plan → Side → NodeState → ℕ → Window
window_here sizes plan me st k = unwrap_or (window_at sizes plan (k - st.epoch)) (tail_at sizes plan me st)

-- the message of the sending if it is sent at tick `k`, and nothing otherwise
abbrev pub if_at : ℕ → Option Sending → Option Message
if_at k None = None
if_at k (Some s) = elim (s.tick == k) [ true ↦ Some s.message | false ↦ None ]

-- the message that node `index` of kind me sends at tick k, in one of the stages of the slot. A
-- call whose tick does not precede the next epoch is never sent: at that epoch the node forgets the
-- middles, and with them the ticks of its calls
unfoldable pub said_at : Sizes → Plan → Side → ℕ → NodeState → ℕ → ℕ → Option Message
said_at sizes plan me index st word k =
    let slot = (window_here sizes plan me st k).slot in
    option_or (if_at k (sending sizes plan me index st slot 1 word))
    (option_or (if_at k (sending sizes plan me index st slot 2 word)) (if_at k (sending sizes plan me index st slot 3 word)))

-- tick k is the last of its window
abbrev pub is_last : Sizes → Plan → Side → NodeState → ℕ → Bool
is_last sizes plan me st k = k == st.epoch + (window_here sizes plan me st k).last

-- A tick.

-- the act of a tick: the core after it, the frame that begins with it, the message that is sent,
-- and the window that is closed
pub record Act : Type 0 where
  pub core : Core
  pub epoch : Option Epoch
  pub message : Option Message
  pub closed : Option Closed

abbrev pub epoch_at : Sizes → Side → NodeState → ℕ → Option Epoch
epoch_at sizes me st k = elim (st.epoch == k) [ true ↦ Some (epoch_of sizes me st) | false ↦ None ]

-- a sender keeps the value that it says in its own slot
abbrev pub state_kept : Sizes → Side → ℕ → NodeState → ℕ → Option Message → NodeState
state_kept sizes me index st word None = st
state_kept sizes me index st word (Some m) = keep_sent sizes me index st m.slot m.stage word

-- the arrivals from source j
abbrev pub of_source : List (ℕ × Arrival) → ℕ → List Arrival
of_source inbox j = map (λ a. a.1) (filter (λ a. a.0 == j) inbox)

-- the act of a tick: `st` is the state after the turn, if there was one, and `kept` the state after
-- the message. If the tick is the last of its window, the node closes the window
unfoldable pub act_on : Sizes → Plan → Side → ℕ → Core → NodeState → Option Message → NodeState → Act
act_on sizes plan me index c st message kept =
    let closing = close_window sizes plan me index kept (window_here sizes plan me st c.had) (of_source c.inbox) in
    elim (is_last sizes plan me st c.had) [
      | true ↦ record {
        core = record { state = closing.state; had = c.had + 1; inbox = [] };
        epoch = epoch_at sizes me st c.had;
        message = message;
        closed = Some closing.closed;
      }
      | false ↦ record {
        core = record { state = kept; had = c.had + 1; inbox = c.inbox };
        epoch = epoch_at sizes me st c.had;
        message = message;
        closed = None;
      }
    ]

-- at a tick a node first turns, then says its message, then closes the window
unfoldable pub act_at : Sizes → Plan → Side → ℕ → Core → ℕ → Act
act_at sizes plan me index c word =
    let st = state_at sizes plan me c.state c.had in
    let message = said_at sizes plan me index st word c.had in
    act_on sizes plan me index c st message (state_kept sizes me index st word message)

-- the act of the next tick; `word` is the request or the word, in case the node sends one. A spent
-- core does nothing
unfoldable pub tick : Sizes → Plan → Side → ℕ → Core → ℕ → Act
tick sizes plan me index c word =
    elim (is_spent c) [
      | true ↦ record { core = c; epoch = None; message = None; closed = None }
      | false ↦ act_at sizes plan me index c word
    ]

-- the slot for which the message carries a request or a word from outside
abbrev pub slot_wanted : Sizes → Option Message → Option ℕ
slot_wanted sizes None = None
slot_wanted sizes (Some m) =
    elim ((m.stage == 1) && nat_lt m.slot (first_diagnosis_of Biu sizes)) [ true ↦ Some m.slot | false ↦ None ]

-- the slot for which the node wants a word at its next tick
unfoldable pub wants : Sizes → Plan → Side → ℕ → Core → Option ℕ
wants sizes plan me index c = slot_wanted sizes (tick sizes plan me index c 0).message

-- Quiet ticks.

-- a tick is busy if a frame begins at it, a window is closed, or a message is sent
unfoldable pub is_busy : Sizes → Plan → Side → ℕ → NodeState → ℕ → Bool
is_busy sizes plan me index st k =
    let now = state_at sizes plan me st k in
    (now.epoch == k) || is_last sizes plan me now k || is_some (said_at sizes plan me index now 0 k)

-- the first busy tick among the `others` ticks from k on
abbrev pub busy_among : Sizes → Plan → Side → ℕ → NodeState → ℕ → ℕ → Option ℕ
busy_among sizes plan me index st zero k = None
busy_among sizes plan me index st (suc others) k =
    elim (is_busy sizes plan me index st k) [ true ↦ Some k | false ↦ busy_among sizes plan me index st others (suc k) ]

-- the first tick from the next on that is not quiet
abbrev pub next_tick : Sizes → Plan → Side → ℕ → Core → Option ℕ
next_tick sizes plan me index c = busy_among sizes plan me index c.state (2 ^ 31 - c.had) c.had

-- the quiet ticks before tick k pass: they are only counted
abbrev pub pass_to : ℕ → Core → Core
pass_to k c = record c { had = max c.had k }

-- the core after a number of ticks with word 0
abbrev pub ticks : Sizes → Plan → Side → ℕ → ℕ → Core → Core
ticks sizes plan me index zero c = c
ticks sizes plan me index (suc n) c = ticks sizes plan me index n (tick sizes plan me index c 0).core

-- Events in a row.

pub data CoreEvent : Type 0 where
  Tick : (word : ℕ) → CoreEvent
  Arrive : (from : ℕ) (bytes : List ℕ) → CoreEvent

-- the acts of all ticks among the events, in order
abbrev pub acts_of : Sizes → Plan → Side → ℕ → Core → List CoreEvent → List Act
acts_of sizes plan me index c [] = []
acts_of sizes plan me index c (Tick word ∷ events) =
    tick sizes plan me index c word ∷ acts_of sizes plan me index (tick sizes plan me index c word).core events
acts_of sizes plan me index c (Arrive from bytes ∷ events) = acts_of sizes plan me index (arrive sizes me c from bytes) events
