-- Which tick is the next one that is not quiet.
use Rattle.std.proofs.{Common.{◌≡◌, ℕ, ◌+◌, ◌<◌, ◌≤◌, ◌^◌, ◌==◌, ◌||◌, Bool, true, false, refl, ap, sym, ◌∙◌, subst, arith, inl, inr, Option, Some, None, is_some}, lemmas.Bool.{cases_lt, eqb-true, or_from, or_left, or_parts, or_right}, lemmas.Bool.Decides.nat_tests}
use Rattle.std.specs.Option.{option_or}
use Rattle.rb_base.specs.Nodes.{Side}
use Rattle.rb_base.proofs.Plain.{eq-turned, eq_self, more-differs}
use Rattle.rb_rules.specs.{declared.message.Message.Message, declared.plan.Window.Window, Conviction.turn, Core.{if_at, is_busy, is_last, is_tick, said_at, state_at}, Hearing.sending, NodeState.NodeState, NodeSteps.message_said, SyncStage.{new_epoch_of, send_tick_of}}
use Rattle.rb_rules.proofs.{QuietTicks.state-same, RoundStates.HasTicks}
use Rattle.rb_slot.specs.Engines.{Seated}
use Rattle.rb_node.specs.{Aheads.{IsChosen, IsNextBusy, IsNextWake, IsSooner, SaysIn, busy_at, tick_said, wakes, wakes_at, window_of_tick}, Aheads.SaysIn.{Silent, First, Second, Third}, declared.ahead.Busy.Busy}
use Rattle.rb_node.proofs.{Saying.{sent_at, sending-is, goes-out, stays-in, nothing-out}, Windows.goes-on}

-- The state at a tick.

pub no-turn : (v : Seated) (me : Side) (k : ℕ) → is_tick (new_epoch_of v.plan me v.state) k ≡ false → state_at v.sizes v.plan me v.state k ≡ v.state
unfolding state_at
no-turn v me k h = rw (h, state_at) refl

turns-at : (v : Seated) (me : Side) (k : ℕ) (next : Option ℕ) → is_tick next k ≡ true
    → (elim next as (λ _. NodeState) [ None ↦ v.state | Some epoch ↦ turn v.sizes v.plan.probation me epoch v.state ]).epoch ≡ k
unfolding turn
turns-at v me k None h = cc
turns-at v me k (Some epoch) h = eqb-true epoch k h

pub turned-epoch : (v : Seated) (me : Side) (k : ℕ) → is_tick (new_epoch_of v.plan me v.state) k ≡ true
    → (state_at v.sizes v.plan me v.state k).epoch ≡ k
unfolding state_at
turned-epoch v me k h = rw (h, state_at) (turns-at v me k (new_epoch_of v.plan me v.state) h)

-- What makes a tick busy.

-- if no frame begins with a tick, and no window ends, the node did not turn at it
pub wakes-same : (me : Side) (v : Seated) (k : ℕ) → wakes_at me v k ≡ false → state_at v.sizes v.plan me v.state k ≡ v.state
unfolding wakes
wakes-same me v k h =
    let now : NodeState = state_at v.sizes v.plan me v.state k in
    state-same v.sizes v.plan me v.state k (or_parts (now.epoch == k) (is_last v.sizes v.plan me now k) h).0

wakes-turn : (me : Side) (v : Seated) (k : ℕ) → is_tick (new_epoch_of v.plan me v.state) k ≡ true → wakes_at me v k ≡ true
unfolding wakes
wakes-turn me v k h = or_left ((state_at v.sizes v.plan me v.state k).epoch == k) _ (ap (λ e. e == k) (turned-epoch v me k h) ∙ eq_self k)

abbrev as-it-is : Side → Seated → ℕ → Bool
as-it-is me v k = (v.state.epoch == k) || is_last v.sizes v.plan me v.state k

-- if the node does not turn, its present state says whether a frame begins or a window ends
by-state : (me : Side) (v : Seated) (k : ℕ) → is_tick (new_epoch_of v.plan me v.state) k ≡ false → wakes_at me v k ≡ as-it-is me v k
unfolding wakes
by-state me v k h = ap (λ (st : NodeState). (st.epoch == k) || is_last v.sizes v.plan me st k) (no-turn v me k h)

-- what is so by the node's present state is so, whether the node turns or not
wakes-if : (me : Side) (v : Seated) (k : ℕ) → as-it-is me v k ≡ true → wakes_at me v k ≡ true
wakes-if me v k h = by (is_tick (new_epoch_of v.plan me v.state) k) refl
  where
    by : (b : Bool) → is_tick (new_epoch_of v.plan me v.state) k ≡ b → wakes_at me v k ≡ true
    by true e = wakes-turn me v k e
    by false e = by-state me v k e ∙ h

-- a tick is busy if a frame begins with it, a window ends with it, or something is said
busy-is : (me : Side) (v : Seated) (k : ℕ)
    → busy_at me v k ≡ (wakes_at me v k || is_some (said_at v.sizes v.plan me v.index (state_at v.sizes v.plan me v.state k) 0 k))
unfolding is_busy wakes
busy-is me v k = refl

wake-busy : (me : Side) (v : Seated) (k : ℕ) → wakes_at me v k ≡ true → busy_at me v k ≡ true
wake-busy me v k h = busy-is me v k ∙ or_left (wakes_at me v k) _ h

-- What is said at a tick, stage by stage.

abbrev said-of : Option Message → Option Message → Option Message → Option Message
said-of a b c = option_or a (option_or b c)

none-of : (a b c : Option Message) → a ≡ None → b ≡ None → c ≡ None → said-of a b c ≡ None
none-of a b c h i j = rw (h, i, j) refl

pub some-first : (a b c : Option Message) → is_some a ≡ true → is_some (said-of a b c) ≡ true
some-first None b c h = cc
some-first (Some m) b c h = refl

pub some-second : (a b c : Option Message) → is_some b ≡ true → is_some (said-of a b c) ≡ true
some-second (Some m) b c h = refl
some-second None None c h = cc
some-second None (Some m) c h = refl

pub some-third : (a b c : Option Message) → is_some c ≡ true → is_some (said-of a b c) ≡ true
some-third (Some m) b c h = refl
some-third None (Some m) c h = refl
some-third None None c h = h

-- the message of a stage at tick k
abbrev pub stage_at : Side → Seated → ℕ → ℕ → ℕ → ℕ → Option Message
stage_at me v slot stage word k = if_at k (sending v.sizes v.plan me v.index v.state slot stage word)

pub said-form : (me : Side) (v : Seated) (word k : ℕ)
    → said_at v.sizes v.plan me v.index v.state word k
    ≡ said-of (stage_at me v (window_of_tick me v k).slot 1 word k) (stage_at me v (window_of_tick me v k).slot 2 word k)
    (stage_at me v (window_of_tick me v k).slot 3 word k)
unfolding said_at
said-form me v word k = refl

-- the tick at which something is said in a stage, by what is said and when that is sent
abbrev if-said : Option Message → Option ℕ → Option ℕ
if-said m t = elim (is_some m) [ true ↦ t | false ↦ None ]

unsaid-parts : (k : ℕ) (m : Option Message) (t : Option ℕ) → is_tick (if-said m t) k ≡ false → if_at k (sent_at m t) ≡ None
unsaid-parts k None t h = nothing-out k t
unsaid-parts k (Some m) t h = stays-in k (Some m) t h

said-parts : (k : ℕ) (m : Option Message) (t : Option ℕ) → is_tick (if-said m t) k ≡ true → is_some (if_at k (sent_at m t)) ≡ true
said-parts k None t h = cc
said-parts k (Some m) t h = ap is_some (goes-out k (Some m) t h)

pub unsaid : (me : Side) (v : Seated) (slot stage k : ℕ) → is_tick (tick_said me v slot stage) k ≡ false → stage_at me v slot stage 0 k ≡ None
unsaid me v slot stage k h =
    ap (if_at k) (sending-is v.sizes v.plan me v.index v.state slot stage 0)
    ∙ unsaid-parts k (message_said v.sizes me v.index v.state slot stage 0) (send_tick_of v.sizes v.plan v.state slot stage) h

pub said : (me : Side) (v : Seated) (slot stage k : ℕ) → is_tick (tick_said me v slot stage) k ≡ true → is_some (stage_at me v slot stage 0 k) ≡ true
said me v slot stage k h =
    ap (λ s. is_some (if_at k s)) (sending-is v.sizes v.plan me v.index v.state slot stage 0)
    ∙ said-parts k (message_said v.sizes me v.index v.state slot stage 0) (send_tick_of v.sizes v.plan v.state slot stage) h

-- The ticks that may be busy in a window.

last-by : (me : Side) (v : Seated) (w : Window) (k : ℕ) (b : Bool) → window_of_tick me v k ≡ w → (v.state.epoch + w.last == k) ≡ b
    → is_last v.sizes v.plan me v.state k ≡ b
last-by me v w k b here h = ap (λ (x : Window). k == v.state.epoch + x.last) here ∙ eq-turned (v.state.epoch + w.last) k b h

wakes-last : (me : Side) (v : Seated) (w : Window) (k : ℕ) → window_of_tick me v k ≡ w → (v.state.epoch + w.last == k) ≡ true → wakes_at me v k ≡ true
wakes-last me v w k here h = wakes-if me v k (or_right (v.state.epoch == k) (is_last v.sizes v.plan me v.state k) (last-by me v w k true here h))

-- what is said in a window at a tick at which the node does not turn
said-in : (me : Side) (v : Seated) (w : Window) (k : ℕ) → window_of_tick me v k ≡ w → state_at v.sizes v.plan me v.state k ≡ v.state
    → said_at v.sizes v.plan me v.index (state_at v.sizes v.plan me v.state k) 0 k
    ≡ said-of (stage_at me v w.slot 1 0 k) (stage_at me v w.slot 2 0 k) (stage_at me v w.slot 3 0 k)
said-in me v w k here same =
    ap (λ st. said_at v.sizes v.plan me v.index st 0 k) same ∙ said-form me v 0 k
    ∙ ap (λ (x : Window). said-of (stage_at me v x.slot 1 0 k) (stage_at me v x.slot 2 0 k) (stage_at me v x.slot 3 0 k)) here

quiet-if : (me : Side) (v : Seated) (w : Window) (k : ℕ) → window_of_tick me v k ≡ w → wakes_at me v k ≡ false
    → is_tick (tick_said me v w.slot 1) k ≡ false → is_tick (tick_said me v w.slot 2) k ≡ false → is_tick (tick_said me v w.slot 3) k ≡ false
    → busy_at me v k ≡ false
quiet-if me v w k here quiet first second third =
    busy-is me v k
    ∙ or_from (wakes_at me v k) _ quiet (ap is_some (said-in me v w k here (wakes-same me v k quiet)
    ∙ none-of _ _ _ (unsaid me v w.slot 1 k first) (unsaid me v w.slot 2 k second) (unsaid me v w.slot 3 k third)))

said-here : (me : Side) (v : Seated) (w : Window) (k : ℕ) → window_of_tick me v k ≡ w
    → is_some (said-of (stage_at me v w.slot 1 0 k) (stage_at me v w.slot 2 0 k) (stage_at me v w.slot 3 0 k)) ≡ true → busy_at me v k ≡ true
said-here me v w k here h = by (wakes_at me v k) refl
  where
    by : (b : Bool) → wakes_at me v k ≡ b → busy_at me v k ≡ true
    by true e = wake-busy me v k e
    by false e = busy-is me v k ∙ or_right (wakes_at me v k) _ (ap is_some (said-in me v w k here (wakes-same me v k e)) ∙ h)

-- The soonest of them.

-- the window's last tick is not passed over
not-over : (had last before after k : ℕ) → IsSooner had (Some last) before after → k ≤ after → had ≤ last → k ≤ last
not-over had last before after k s le from =
    elim (cases_lt last k) [
      | inl lt ↦ absurd (true-false (sym (eq_self last) ∙ s.not_before last from (omega arith)))
      | inr ge ↦ ge
    ]
  where
    true-false : true ≡ false → ⊥
    true-false e = cc

-- one step to a sooner tick
comes-at : (comes : ℕ → Bool) (had : ℕ) (candidate : Option ℕ) (a b : ℕ) → IsSooner had candidate a b → (is_tick candidate b ≡ true → comes b ≡ true)
    → (a < 2 ^ 31 → comes a ≡ true) → b < 2 ^ 31 → comes b ≡ true
comes-at comes had candidate a b s chosen before below =
    elim s.either [
      | inl same ↦ let less : a < 2 ^ 31 = omega arith in subst (λ k. comes k ≡ true) (sym same) (before less)
      | inr is ↦ chosen is
    ]

-- three steps lead from 2^31 to the tick
pub soonest-wake : (me : Side) (v : Seated) (w : Window) (had b1 b2 b3 : ℕ) → HasTicks v.plan → v.state.epoch ≤ had → w ≡ window_of_tick me v had
    → IsSooner had (Some v.state.epoch) (2 ^ 31) b1 → IsSooner had (Some (v.state.epoch + w.last)) b1 b2
    → IsSooner had (new_epoch_of v.plan me v.state) b2 b3 → IsNextWake me v had b3
soonest-wake me v w had b1 b2 b3 ticks epoch is s1 s2 s3 =
    let m1 : b1 ≤ 2 ^ 31 = s1.most in
    let m2 : b2 ≤ b1 = s2.most in
    let m3 : b3 ≤ b2 = s3.most in
    let here : (k : ℕ) → had ≤ k → k ≤ b2 → window_of_tick me v k ≡ w = λ k lo hi.
    goes-on v.sizes v.plan me v.state had k ticks epoch lo
    (λ from. subst (λ (x : Window). had ≤ v.state.epoch + x.last → k ≤ v.state.epoch + x.last) is
    (not-over had (v.state.epoch + w.last) b1 b2 k s2 hi) from)
    ∙ sym is in
    record {
      later = s3.later;
      most = omega arith;
      quiet = λ k lo hi.
          by-state me v k (s3.not_before k lo hi)
          ∙ or_from (v.state.epoch == k) (is_last v.sizes v.plan me v.state k) (s1.not_before k lo (omega arith))
          (last-by me v w k false (here k lo (omega arith)) (s2.not_before k lo (omega arith)));
      busy = comes-at (wakes_at me v) had (new_epoch_of v.plan me v.state) b2 b3 s3 (wakes-turn me v b3)
          (comes-at (wakes_at me v) had (Some (v.state.epoch + w.last)) b1 b2 s2 (wakes-last me v w b2 (here b2 s2.later (omega arith)))
          (comes-at (wakes_at me v) had (Some v.state.epoch) (2 ^ 31) b1 s1
          (λ h. wakes-if me v b1 (or_left (v.state.epoch == b1) (is_last v.sizes v.plan me v.state b1) h)) (λ less. absurd (omega arith))));
      here = λ k lo hi. here k lo (omega arith) ∙ is;
    }

-- the next wake is no later than the last tick of a window that is not over
pub wake-within : (me : Side) (v : Seated) (w : Window) (had tick : ℕ) → w ≡ window_of_tick me v had → IsNextWake me v had tick
    → had ≤ v.state.epoch + w.last → tick ≤ v.state.epoch + w.last
wake-within me v w had tick is next from =
    elim (cases_lt (v.state.epoch + w.last) tick) [
      | inl lt ↦
          let here : window_of_tick me v (v.state.epoch + w.last) ≡ w = next.here (v.state.epoch + w.last) from (omega arith) ∙ sym is in
          absurd (true-false (sym (wakes-last me v w (v.state.epoch + w.last) here (eq_self (v.state.epoch + w.last)))
          ∙ next.quiet (v.state.epoch + w.last) from lt))
      | inr ge ↦ ge
    ]
  where
    true-false : true ≡ false → ⊥
    true-false e = cc

-- three more lead from it to the tick of what is said before
pub soonest-is : (me : Side) (v : Seated) (w : Window) (had b3 b4 b5 b6 : ℕ) → w ≡ window_of_tick me v had → IsNextWake me v had b3
    → IsSooner had (tick_said me v w.slot 3) b3 b4 → IsSooner had (tick_said me v w.slot 2) b4 b5 → IsSooner had (tick_said me v w.slot 1) b5 b6
    → IsNextBusy me v had b6
soonest-is me v w had b3 b4 b5 b6 is wake s4 s5 s6 =
    let m3 : b3 ≤ 2 ^ 31 = wake.most in
    let m4 : b4 ≤ b3 = s4.most in
    let m5 : b5 ≤ b4 = s5.most in
    let m6 : b6 ≤ b5 = s6.most in
    let here : (k : ℕ) → had ≤ k → k ≤ b3 → window_of_tick me v k ≡ w = λ k lo hi. wake.here k lo hi ∙ sym is in
    let says : (k : ℕ) → ℕ → Option Message = λ k stage. stage_at me v w.slot stage 0 k in
    record {
      later = s6.later;
      most = omega arith;
      quiet = λ k lo hi. quiet-if me v w k (here k lo (omega arith)) (wake.quiet k lo (omega arith))
          (s6.not_before k lo hi) (s5.not_before k lo (omega arith)) (s4.not_before k lo (omega arith));
      busy = comes-at (busy_at me v) had (tick_said me v w.slot 1) b5 b6 s6
          (λ h. said-here me v w b6 (here b6 s6.later (omega arith)) (some-first (says b6 1) (says b6 2) (says b6 3) (said me v w.slot 1 b6 h)))
          (comes-at (busy_at me v) had (tick_said me v w.slot 2) b4 b5 s5
          (λ h. said-here me v w b5 (here b5 s5.later (omega arith)) (some-second (says b5 1) (says b5 2) (says b5 3) (said me v w.slot 2 b5 h)))
          (comes-at (busy_at me v) had (tick_said me v w.slot 3) b3 b4 s4
          (λ h. said-here me v w b4 (here b4 s4.later (omega arith)) (some-third (says b4 1) (says b4 2) (says b4 3) (said me v w.slot 3 b4 h)))
          (λ below. wake-busy me v b3 (wake.busy below))));
      here = λ k lo hi. wake.here k lo (omega arith);
    }

-- If the frame has begun, and no other is to begin, it is the window's last tick, or that of a
-- message before.

over : (epoch had k : ℕ) → epoch < had → had ≤ k → (epoch == k) ≡ false
over epoch had k lt le = grind (arith, nat_tests)

pub never : (next : Option ℕ) (k : ℕ) → is_some next ≡ false → is_tick next k ≡ false
never None k h = refl
never (Some tick) k h = cc

pub soonest-on : (me : Side) (v : Seated) (w : Window) (had last b4 b5 b6 : ℕ) → HasTicks v.plan → v.state.epoch < had → had ≤ last → last < 2 ^ 31
    → last ≡ v.state.epoch + w.last → w ≡ window_of_tick me v had → is_some (new_epoch_of v.plan me v.state) ≡ false
    → IsSooner had (tick_said me v w.slot 3) last b4 → IsSooner had (tick_said me v w.slot 2) b4 b5 → IsSooner had (tick_said me v w.slot 1) b5 b6
    → IsNextBusy me v had b6
soonest-on me v w had last b4 b5 b6 ticks begun from below ends is stays s4 s5 s6 =
    let s1 : IsSooner had (Some v.state.epoch) (2 ^ 31) (2 ^ 31) = record {
      later = omega arith;
      most = omega arith;
      not_before = λ k lo hi. over v.state.epoch had k begun lo;
      either = inl refl;
    } in
    let s2 : IsSooner had (Some (v.state.epoch + w.last)) (2 ^ 31) last = subst (λ e. IsSooner had (Some e) (2 ^ 31) last) ends (record {
      later = from;
      most = omega arith;
      not_before = λ k lo hi. more-differs last k hi;
      either = inr (eq_self last);
    }) in
    let s3 : IsSooner had (new_epoch_of v.plan me v.state) last last = record {
      later = from;
      most = omega arith;
      not_before = λ k lo hi. never (new_epoch_of v.plan me v.state) k stays;
      either = inl refl;
    } in
    soonest-is me v w had last b4 b5 b6 is (soonest-wake me v w had (2 ^ 31) last last ticks (omega arith) is s1 s2 s3) s4 s5 s6

-- Which message is said at the tick that is chosen.

-- a choice is a step to a sooner tick
pub chosen-sooner : (had stage : ℕ) (candidate : Option ℕ) (before after : Busy) → IsChosen had candidate stage before after
    → IsSooner had candidate before.tick after.tick
chosen-sooner had stage candidate before after c = record {
  later = c.later;
  most = c.most;
  not_before = c.not_before;
  either = elim c.either [ inl is ↦ inr is.0 | inr other ↦ inl (ap (λ (b : Busy). b.tick) other.1) ];
}

-- the message is that of the lowest stage that is due
pub says-in : (me : Side) (v : Seated) (slot had tick : ℕ) (third second first : Busy)
    → IsChosen had (tick_said me v slot 3) 3 (record { tick = tick; stage = 0 }) third → IsChosen had (tick_said me v slot 2) 2 third second
    → IsChosen had (tick_said me v slot 1) 1 second first → SaysIn me v slot first.tick first.stage
says-in me v slot had tick third second first c3 c2 c1 =
    elim c1.either [
      | inl one ↦ First one.1 one.0
      | inr not1 ↦
          let same1 : first ≡ second = not1.1 in
          subst (λ (b : Busy). is_tick (tick_said me v slot 1) b.tick ≡ false → SaysIn me v slot b.tick b.stage) (sym same1)
          (λ none1. elim c2.either [
            | inl two ↦ Second two.1 none1 two.0
            | inr not2 ↦
                let same2 : second ≡ third = not2.1 in
                subst (λ (b : Busy). is_tick (tick_said me v slot 1) b.tick ≡ false → is_tick (tick_said me v slot 2) b.tick ≡ false → SaysIn me v slot b.tick b.stage)
                (sym same2)
                (λ n1 n2. elim c3.either [
                  | inl three ↦ Third three.1 n1 n2 three.0
                  | inr not3 ↦ Silent (ap (λ (b : Busy). b.stage) not3.1) n1 n2 not3.0
                ]) none1 not2.0
          ]) not1.0
    ]

-- if tick `k` is not that of the message, nothing is said at tick `k`
pub said-tick : (k : ℕ) (m : Option Message) (t : Option ℕ) → is_tick t k ≡ false → is_tick (if-said m t) k ≡ false
said-tick k None t h = refl
said-tick k (Some m) t h = h
