-- The parts of a tick make the core's act.
use Rattle.std.proofs.{Common.{◌≡◌, ℕ, ◌+◌, ◌<◌, ◌≤◌, ◌^◌, ◌==◌, Bool, true, false, refl, ap, sym, ◌∙◌, subst, arith, Option, Some, None, List, [], if◌then◌else◌}, Math.Path.fun_ext}
use Rattle.rb_base.specs.{Nodes.Side, Sizes.Sizes}
use Rattle.rb_rules.specs.{declared.closing.Closed.Closed, declared.message.Message.Message, declared.plan.Window.Window, declared.record.Epoch.Epoch, Conviction.turn, Core.{Core, Act, act_at, act_on, epoch_at, is_busy, is_last, is_tick, of_source, said_at, state_at, state_kept, tick, window_here}, ExactStage.Outcome, Hearing.close_window, NodeState.NodeState, Sense.Arrival, SyncStage.new_epoch_of}
use Rattle.rb_rules.proofs.{QuietTicks.nothing, RoundStates.{Stays, stays-refl, keeping-stays}}
use Rattle.rb_eligible.specs.Inboxes.{Received, HoldsArrivals, KeptArrivals}
use Rattle.rb_slot.specs.Engines.{IsSameFrame, Seated, outcome_on}
use Rattle.rb_node.specs.{Acts.IsAct, Aheads.{busy_at, window_of_tick}, Cores.{IsCore, Running, received_of, tick_of}, Saids.said_in, declared.act.Step.Step}
use Rattle.rb_node.proofs.{Busy.{no-turn, said-form, turned-epoch}, Cores.{arrivals-are, quiet-any, tick-now, tick-spent}}

pub kept-stays : (sizes : Sizes) (me : Side) (index : ℕ) (st : NodeState) (word : ℕ) (m : Option Message) → Stays st (state_kept sizes me index st word m)
kept-stays sizes me index st word None = stays-refl st
kept-stays sizes me index st word (Some m) = keeping-stays sizes me index st m.slot m.stage word

-- the parts of a tick, one after another: the node turns, tells of its frame, and closes the
-- window. Before the close it may say something
pub record Parts (me : Side) (v v1 v2 v3 : Seated) (now : ℕ) (w : Window) (epoch : Option Epoch) (closed : Bool) (before after : Closed) (inbox rest : KeptArrivals) : Type 0 where
  pub turned : v1 ≡ record v { state = state_at v.sizes v.plan me v.state now }
  pub begun : epoch ≡ epoch_at v1.sizes me v1.state now
  pub window : w ≡ window_of_tick me v1 now
  pub closes : closed ≡ (now == v2.state.epoch + w.last)
  pub state : (received : List Received) → HoldsArrivals inbox received
      → v3 ≡ record v2 { state = if closed then (outcome_on me v2 w received).state else v2.state }
  pub shown : (received : List Received) → HoldsArrivals inbox received → after ≡ (if closed then (outcome_on me v2 w received).closed else before)
  pub holds : (received : List Received) → HoldsArrivals inbox received → HoldsArrivals rest (if closed then [] else received)

-- the node says its message between the two
pub record Says (me : Side) (v1 v2 : Seated) (now word : ℕ) (w : Window) (message : Option Message) : Type 0 where
  pub said : message ≡ said_in me v1 w.slot now word
  pub kept : v2 ≡ record v1 { state = state_kept v1.sizes me v1.index v1.state word message }

-- the act, by whether the window is closed
abbrev act-by : Sizes → Side → Core → NodeState → NodeState → Option Message → Outcome → Bool → Act
act-by sizes me c st kept message o b = elim b [
  | true ↦ record {
    core = record { state = o.state; had = c.had + 1; inbox = [] };
    epoch = epoch_at sizes me st c.had;
    message = message;
    closed = Some o.closed;
  }
  | false ↦ record {
    core = record { state = kept; had = c.had + 1; inbox = c.inbox };
    epoch = epoch_at sizes me st c.had;
    message = message;
    closed = None;
  }
]

-- what the window that is closed makes of the node
abbrev closing-of : Side → Seated → NodeState → Window → List (ℕ × Arrival) → Outcome
closing-of me v kept w inbox = close_window v.sizes v.plan me v.index kept w (of_source inbox)

act-is : (me : Side) (v : Seated) (now : ℕ) (inbox : List (ℕ × Arrival)) (st kept : NodeState) (message : Option Message)
    → act_on v.sizes v.plan me v.index (record { state = v.state; had = now; inbox = inbox }) st message kept
    ≡ act-by v.sizes me (record { state = v.state; had = now; inbox = inbox }) st kept message
    (closing-of me v kept (window_here v.sizes v.plan me st now) inbox) (is_last v.sizes v.plan me st now)
unfolding act_on
act-is me v now inbox st kept message = refl

-- the core, and what is given, by whether the window is closed
pub record Gives (me : Side) (n : Running) (s : Step) (x : Act) : Type 0 where
  pub core : IsCore n x.core
  pub act : IsAct n.shown s x

by-closed : (me : Side) (v v3 : Seated) (now : ℕ) (st kept : NodeState) (message : Option Message) (o : Outcome) (inbox : List (ℕ × Arrival))
    (before after : Closed) (rest : KeptArrivals) (closed : Bool)
    → v3 ≡ record v { state = if closed then o.state else kept } → after ≡ (if closed then o.closed else before)
    → HoldsArrivals rest (if closed then [] else received_of inbox)
    → Gives me (record { seat = v3; had = now + 1; inbox = rest; shown = after })
    (record { epoch = epoch_at v.sizes me st now; message = message; closed = closed })
    (act-by v.sizes me (record { state = v.state; had = now; inbox = inbox }) st kept message o closed)
by-closed me v v3 now st kept message o inbox before after rest true is shown holds = record {
  core = record { state = sym (ap (λ (x : Seated). x.state) is); had = refl; inbox = holds };
  act = record { epoch = refl; message = refl; closed = ap (λ c. Some c) shown };
}
by-closed me v v3 now st kept message o inbox before after rest false is shown holds = record {
  core = record { state = sym (ap (λ (x : Seated). x.state) is); had = refl; inbox = holds };
  act = record { epoch = refl; message = refl; closed = refl };
}

-- the parts make the act of a core that says this message, which leaves this state
pub gives-on : (me : Side) (v v1 v2 v3 : Seated) (now : ℕ) (w : Window) (epoch : Option Epoch) (message : Option Message) (kept : NodeState) (closed : Bool)
    (before after : Closed) (inbox rest : KeptArrivals) → Parts me v v1 v2 v3 now w epoch closed before after inbox rest
    → v2 ≡ record v { state = kept } → kept.epoch ≡ (state_at v.sizes v.plan me v.state now).epoch
    → (c : Core) → c.state ≡ v.state → c.had ≡ now → HoldsArrivals inbox (received_of c.inbox)
    → Gives me (record { seat = v3; had = now + 1; inbox = rest; shown = after }) (record { epoch = epoch; message = message; closed = closed })
    (act_on v.sizes v.plan me v.index c (state_at v.sizes v.plan me v.state now) message kept)
gives-on me v v1 v2 v3 now w epoch message kept closed before after inbox rest p kept_is stays c state had holds =
    let st : NodeState = state_at v.sizes v.plan me v.state now in
    let here : Window = window_here v.sizes v.plan me st now in
    let says : Seated = record v { state = kept } in
    let o : Outcome = closing-of me v kept here c.inbox in
    let last : Bool = is_last v.sizes v.plan me st now in
    let core : Core = record { state = v.state; had = now; inbox = c.inbox } in
    let core_is : c ≡ core =
    ap (λ s. let x : Core = record { state = s; had = c.had; inbox = c.inbox } in x) state
    ∙ ap (λ n. let x : Core = record { state = v.state; had = n; inbox = c.inbox } in x) had in
    let window_is : w ≡ here = p.window ∙ ap (λ x. window_of_tick me x now) p.turned in
    let closed_is : closed ≡ last =
    p.closes ∙ ap (λ (x : Seated). now == x.state.epoch + w.last) kept_is ∙ ap (λ (y : Window). now == kept.epoch + y.last) window_is
    ∙ ap (λ e. now == e + here.last) stays in
    let epoch_is : epoch ≡ epoch_at v.sizes me st now = p.begun ∙ ap (λ (x : Seated). epoch_at x.sizes me x.state now) p.turned in
    let outcome_is : outcome_on me v2 w (received_of c.inbox) ≡ o =
    ap (λ x. outcome_on me x w (received_of c.inbox)) kept_is ∙ ap (λ y. outcome_on me says y (received_of c.inbox)) window_is
    ∙ ap (close_window v.sizes v.plan me v.index kept here) (fun_ext (λ j. arrivals-are j c.inbox)) in
    let state_is : v3 ≡ record v { state = if closed then o.state else kept } =
    p.state (received_of c.inbox) holds
    ∙ ap (λ (x : Outcome). record v2 { state = if closed then x.state else v2.state }) outcome_is
    ∙ ap (λ (x : Seated). record x { state = if closed then o.state else x.state }) kept_is in
    let shown_is : after ≡ (if closed then o.closed else before) =
    p.shown (received_of c.inbox) holds ∙ ap (λ (x : Outcome). if closed then x.closed else before) outcome_is in
    let act : act_on v.sizes v.plan me v.index c st message kept ≡ act-by v.sizes me core st kept message o closed =
    ap (λ x. act_on v.sizes v.plan me v.index x st message kept) core_is
    ∙ act-is me v now c.inbox st kept message ∙ ap (act-by v.sizes me core st kept message o) (sym closed_is) in
    let all = by-closed me v v3 now st kept message o c.inbox before after rest closed state_is shown_is (p.holds (received_of c.inbox) holds) in
    let n : Running = record { seat = v3; had = now + 1; inbox = rest; shown = after } in
    subst (λ x. Gives me n (record { epoch = epoch; message = message; closed = closed }) x) (sym act)
    (subst (λ e. Gives me n (record { epoch = e; message = message; closed = closed }) (act-by v.sizes me core st kept message o closed)) (sym epoch_is) all)

-- the act of a core at tick `now` in the state `s`
abbrev act-in : Side → Seated → ℕ → Core → NodeState → ℕ → Act
act-in me v word c s now =
    let st : NodeState = state_at v.sizes v.plan me s now in
    let message : Option Message = said_at v.sizes v.plan me v.index st word now in
    act_on v.sizes v.plan me v.index c st message (state_kept v.sizes me v.index st word message)

at-is : (me : Side) (v : Seated) (word : ℕ) (c : Core) → act_at v.sizes v.plan me v.index c word ≡ act-in me v word c c.state c.had
unfolding act_at
at-is me v word c = refl

pub gives : (me : Side) (v v1 v2 v3 : Seated) (now word : ℕ) (w : Window) (epoch : Option Epoch) (message : Option Message) (closed : Bool)
    (before after : Closed) (inbox rest : KeptArrivals) → Parts me v v1 v2 v3 now w epoch closed before after inbox rest
    → Says me v1 v2 now word w message
    → now < 2 ^ 31 → (c : Core) → c.state ≡ v.state → c.had ≡ now → HoldsArrivals inbox (received_of c.inbox)
    → Gives me (record { seat = v3; had = now + 1; inbox = rest; shown = after }) (record { epoch = epoch; message = message; closed = closed })
    (tick v.sizes v.plan me v.index c word)
gives me v v1 v2 v3 now word w epoch message closed before after inbox rest p says below c state had holds =
    let st : NodeState = state_at v.sizes v.plan me v.state now in
    let turned : Seated = record v { state = st } in
    let m : Option Message = said_at v.sizes v.plan me v.index st word now in
    let kept : NodeState = state_kept v.sizes me v.index st word m in
    let window_is : w ≡ window_here v.sizes v.plan me st now = p.window ∙ ap (λ x. window_of_tick me x now) p.turned in
    let message_is : message ≡ m =
    says.said ∙ ap (λ x. said_in me x w.slot now word) p.turned ∙ ap (λ (y : Window). said_in me turned y.slot now word) window_is
    ∙ sym (said-form me turned word now) in
    let kept_is : v2 ≡ record v { state = kept } =
    says.kept ∙ ap (λ (x : Seated). record x { state = state_kept x.sizes me x.index x.state word message }) p.turned
    ∙ ap (λ y. record turned { state = state_kept v.sizes me v.index st word y }) message_is in
    let stays : Stays st kept = kept-stays v.sizes me v.index st word m in
    let act : tick v.sizes v.plan me v.index c word ≡ act_on v.sizes v.plan me v.index c st m kept =
    tick-now v.sizes v.plan me v.index c word (omega arith) ∙ at-is me v word c
    ∙ ap (λ s. act-in me v word c s c.had) state ∙ ap (act-in me v word c v.state) had in
    let n : Running = record { seat = v3; had = now + 1; inbox = rest; shown = after } in
    subst (λ x. Gives me n (record { epoch = epoch; message = message; closed = closed }) x) (sym act)
    (subst (λ y. Gives me n (record { epoch = epoch; message = y; closed = closed }) (act_on v.sizes v.plan me v.index c st m kept)) (sym message_is)
    (gives-on me v v1 v2 v3 now w epoch m kept closed before after inbox rest p kept_is stays.epoch c state had holds))

-- What does not run ahead.

-- the frame is at most one more than before, and the epoch at most tick `k`
pub record Turned (v v1 : Seated) (k : ℕ) : Type 0 where
  pub frame : v1.state.frame ≤ v.state.frame + 1
  pub epoch : v1.state.epoch ≤ k

frame-of : (v : Seated) (me : Side) (k : ℕ) (next : Option ℕ) → is_tick next k ≡ true
    → (elim next as (λ _. NodeState) [ None ↦ v.state | Some epoch ↦ turn v.sizes v.plan.probation me epoch v.state ]).frame ≡ v.state.frame + 1
unfolding turn
frame-of v me k None h = cc
frame-of v me k (Some epoch) h = refl

pub turned-frame : (v : Seated) (me : Side) (k : ℕ) → is_tick (new_epoch_of v.plan me v.state) k ≡ true
    → (state_at v.sizes v.plan me v.state k).frame ≡ v.state.frame + 1
unfolding state_at
turned-frame v me k h = rw (h, state_at) (frame-of v me k (new_epoch_of v.plan me v.state) h)

pub turns : (me : Side) (v v1 : Seated) (k : ℕ) → v1 ≡ record v { state = state_at v.sizes v.plan me v.state k } → v.state.epoch ≤ k → Turned v v1 k
turns me v v1 k is le = subst (λ x. Turned v x k) (sym is) (by (is_tick (new_epoch_of v.plan me v.state) k) refl)
  where
    by : (b : Bool) → is_tick (new_epoch_of v.plan me v.state) k ≡ b → Turned v (record v { state = state_at v.sizes v.plan me v.state k }) k
    by true e =
        let f : (state_at v.sizes v.plan me v.state k).frame ≡ v.state.frame + 1 = turned-frame v me k e in
        let g : (state_at v.sizes v.plan me v.state k).epoch ≡ k = turned-epoch v me k e in
        record { frame = omega arith; epoch = omega arith }
    by false e = subst (λ s. Turned v (record v { state = s }) k) (sym (no-turn v me k e)) (record { frame = omega arith; epoch = le })

-- Ticks at which nothing happens.

abbrev pub Nothing : Step → Type 0
Nothing s = s ≡ (let x : Step = record { epoch = None; message = None; closed = false } in x)

pub nothing-spent : (me : Side) (n : Running) (s : Step) (c : Core) (x : Act) → Nothing s → IsCore n c
    → x ≡ record { core = c; epoch = None; message = None; closed = None } → Gives me n s x
nothing-spent me n s c x is core act =
    subst (λ x. Gives me n s x) (sym act) (subst (λ y. Gives me n y (record { core = c; epoch = None; message = None; closed = None })) (sym is)
    (record { core = core; act = record { epoch = refl; message = refl; closed = refl } }))

pub nothing-quiet : (me : Side) (n : Running) (s : Step) (c : Core) (x : Act) → Nothing s → IsCore n c → x ≡ nothing c
    → Gives me (record n { had = n.had + 1 }) s x
nothing-quiet me n s c x is core act =
    let m : Running = record n { had = n.had + 1 } in
    subst (λ x. Gives me m s x) (sym act) (subst (λ y. Gives me m y (nothing c)) (sym is)
    (record {
      core = record { state = core.state; had = ap (λ k. k + 1) core.had; inbox = core.inbox };
      act = record { epoch = refl; message = refl; closed = refl };
    }))

pub spent-gives : (me : Side) (n : Running) (s : Step) (word : ℕ) (c : Core) → Nothing s → IsCore n c → 2 ^ 31 ≤ n.had
    → Gives me n s (tick_of me n c word)
spent-gives me n s word c is core spent =
    let had : c.had ≡ n.had = core.had in
    nothing-spent me n s c _ is core (tick-spent n.seat.sizes n.seat.plan me n.seat.index c word (omega arith))

pub quiet-gives : (me : Side) (n : Running) (s : Step) (word : ℕ) (c : Core) → Nothing s → IsCore n c → busy_at me n.seat n.had ≡ false
    → n.had < 2 ^ 31 → Gives me (record n { had = n.had + 1 }) s (tick_of me n c word)
quiet-gives me n s word c is core quiet below =
    let had : c.had ≡ n.had = core.had in
    let here : is_busy n.seat.sizes n.seat.plan me n.seat.index c.state c.had ≡ false =
    ap (λ st. is_busy n.seat.sizes n.seat.plan me n.seat.index st c.had) core.state ∙ ap (busy_at me n.seat) had ∙ quiet in
    nothing-quiet me n s c _ is core (quiet-any n.seat.sizes n.seat.plan me n.seat.index c word here (omega arith))

-- What holds between two calls holds after a busy tick.

pub record Kept (v v3 : Seated) (now : ℕ) : Type 0 where
  pub index : v3.index ≡ v.index
  pub frame : v3.state.frame ≤ v.state.frame + 1
  pub epoch : v3.state.epoch ≤ now

pub keeps : (me : Side) (v v1 v2 v3 : Seated) (now word : ℕ) (message : Option Message) → v.state.epoch ≤ now
    → v1 ≡ record v { state = state_at v.sizes v.plan me v.state now }
    → v2 ≡ record v1 { state = state_kept v1.sizes me v1.index v1.state word message } → IsSameFrame v2 v3 → Kept v v3 now
keeps me v v1 v2 v3 now word message le turned kept same =
    let t : Turned v v1 now = turns me v v1 now turned le in
    let stays : Stays v1.state (state_kept v1.sizes me v1.index v1.state word message) = kept-stays v1.sizes me v1.index v1.state word message in
    let frame : v3.state.frame ≡ v1.state.frame = same.frame ∙ ap (λ (x : Seated). x.state.frame) kept ∙ stays.frame in
    let epoch : v3.state.epoch ≡ v1.state.epoch = same.epoch ∙ ap (λ (x : Seated). x.state.epoch) kept ∙ stays.epoch in
    record {
      index = same.index ∙ ap (λ (x : Seated). x.index) kept ∙ ap (λ (x : Seated). x.index) turned;
      frame = subst (λ k. k ≤ v.state.frame + 1) (sym frame) t.frame;
      epoch = subst (λ k. k ≤ now) (sym epoch) t.epoch;
    }
