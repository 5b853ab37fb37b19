-- For the law that events are rounds: the act of a core at a tick of a window, and its next busy
-- tick.
use Rattle.std.proofs.{Common.{◌≡◌, ℕ, ◌+◌, ◌^◌, ◌<◌, ◌≤◌, ◌==◌, nat_lt, Bool, true, false, refl, ap, sym, ◌∙◌, subst, arith, List, [], Option, Some, None}, lemmas.Bool.Decides.nat_tests}
use Rattle.rb_base.specs.{Nodes.Side, Sizes.{Sizes, sync_slot_of}}
use Rattle.rb_base.proofs.Plain.{less-differs}
use Rattle.rb_rules.specs.{declared.message.Message.Message, declared.plan.Plan.Plan, declared.plan.Window.Window, declared.record.Epoch.Epoch, Core.{Core, Act, if_at, is_last, is_tick, of_source, said_at, state_at, state_kept, tick, wants, window_here, act_at, act_on, epoch_at}, ExactStage.Outcome, Goodness.Scenario, Hearing.{Sending, sending, window_numbered, word_for, close_window}, NodeState.NodeState, NodeSteps.message_said, Ports.PortState, Slots.role_of, SyncStage.send_tick_of, WorldStep.{word_of, wants_in}}
use Rattle.rb_rules.proofs.{Lawfulness.SendsInside, QuietTicks.not-spent, RoundStates.HasTicks}
use Rattle.rb_laws_events.specs.Closing.{stages_in}
use Rattle.rb_laws_events.proofs.{NodeSends.{KeepsTime, sending_at, said-is, sent-in, keeps-none}, NodeTicks.{Like, like-in, like-tick, like-keeps, gone, by_said, kept_in, state_in, after-say, words-fit, sent-place}, NodeWords.{SameWords, WordFits, at_its_tick, word_wanted, from-says, said-at-tick, wanted-fits}, StageOrder.last_of, TickWindows.{IsTickIn, here-is, last-is}}

-- what the plan of a lawful scenario has
pub record HasRoom (plan : Plan) : Type 0 where
  pub ticks : HasTicks plan
  pub inside : SendsInside plan

-- tick `k` is in window `n` of a node in the state `st`, whose word there is `word`
pub record IsInWindow (sizes : Sizes) (plan : Plan) (me : Side) (i : ℕ) (st : NodeState) (n word k : ℕ) (c : NodeState) : Type 0 where
  pub window : n ≤ stages_in sizes
  pub slot : (window_numbered sizes plan me st n).slot ≤ sync_slot_of sizes
  pub keeps : KeepsTime sizes plan me st
  pub at : IsTickIn sizes plan me st n k
  pub now : state_at sizes plan me c k ≡ state_in sizes plan me i st n word k

-- Messages.

-- at a tick of the window the core says the window's message, by the word that it is given
pub said-form : {sizes plan me i st y n : _} (given : ℕ) {k : ℕ} → HasRoom plan → n ≤ stages_in sizes
    → KeepsTime sizes plan me st → IsTickIn sizes plan me st n k → Like sizes plan me i st y
    → said_at sizes plan me i y given k
    ≡ at_its_tick (is_tick (send_tick_of sizes plan y (window_numbered sizes plan me st n).slot (window_numbered sizes plan me st n).stage) k)
    (message_said sizes me i y (window_numbered sizes plan me st n).slot (window_numbered sizes plan me st n).stage given)
said-form {sizes} {plan} {me} {i} {st} {y} {n} given {k} room le keeps at like =
    said-is i given room.ticks room.inside (like-keeps like keeps) le (like-tick like at)
    ∙ ap (λ (w : Window). if_at k (sending sizes plan me i y w.slot w.stage given)) (like.windows n)
    ∙ said-at-tick sizes plan me i y (window_numbered sizes plan me st n).slot (window_numbered sizes plan me st n).stage given k

like-words : {sizes plan me i st y slot stage a b : _} → Like sizes plan me i st y
    → SameWords sizes me i st slot stage a b → SameWords sizes me i y slot stage a b
like-words {sizes} {me} {i} {y} {slot} {stage} {a} {b} like same =
    from-says sizes me i y slot stage a b (like.says slot stage a ∙ same.says ∙ sym (like.says slot stage b))

-- what is said at the tick, and the state kept with it
pub record Says (sizes : Sizes) (plan : Plan) (me : Side) (i : ℕ) (st : NodeState) (n word k : ℕ) (y : NodeState) (given : ℕ) : Type 0 where
  pub message : said_at sizes plan me i y given k ≡ if_at k (sending_at sizes plan me i st n word)
  pub kept : state_kept sizes me i y given (said_at sizes plan me i y given k) ≡ state_in sizes plan me i st n word (k + 1)

pub says-so : (sc : Scenario) (ports : List PortState) {me i st n word k : _} → HasRoom sc.plan → n ≤ stages_in sc.sizes
    → KeepsTime sc.sizes sc.plan me st → IsTickIn sc.sizes sc.plan me st n k
    → SameWords sc.sizes me i st (window_numbered sc.sizes sc.plan me st n).slot (window_numbered sc.sizes sc.plan me st n).stage
    (word_for sc ports i (window_numbered sc.sizes sc.plan me st n).slot (role_of sc.sizes (window_numbered sc.sizes sc.plan me st n).slot)) word
    → Says sc.sizes sc.plan me i st n word k (state_in sc.sizes sc.plan me i st n word k)
    (word_wanted sc ports i (said_at sc.sizes sc.plan me i (state_in sc.sizes sc.plan me i st n word k) 0 k))
says-so sc ports {me} {i} {st} {n} {word} {k} room le keeps at same =
    let sizes : Sizes = sc.sizes in
    let plan : Plan = sc.plan in
    let y : NodeState = state_in sizes plan me i st n word k in
    let like : Like sizes plan me i st y = like-in sizes plan me i st n word k in
    let slot : ℕ = (window_numbered sizes plan me st n).slot in
    let stage : ℕ = (window_numbered sizes plan me st n).stage in
    let t : Bool = is_tick (send_tick_of sizes plan y slot stage) k in
    let form : (g : ℕ) → said_at sizes plan me i y g k ≡ at_its_tick t (message_said sizes me i y slot stage g) =
    λ g. said-form g room le keeps at like in
    let given : ℕ = word_wanted sc ports i (said_at sizes plan me i y 0 k) in
    let given_is : given ≡ word_wanted sc ports i (at_its_tick t (message_said sizes me i y slot stage 0)) = ap (word_wanted sc ports i) (form 0) in
    let right : ℕ = word_for sc ports i slot (role_of sizes slot) in
    let fit : WordFits sizes me i y slot stage given right t =
    subst (λ g. WordFits sizes me i y slot stage g right t) (sym given_is) (wanted-fits sc ports me i y slot stage t) in
    let same_y : SameWords sizes me i y slot stage right word = like-words like same in
    let fit_word : WordFits sizes me i y slot stage right word t = words-fit t same_y in
    let so : Option Sending = sending_at sizes plan me i st n word in
    let said_word : at_its_tick t (message_said sizes me i y slot stage word) ≡ if_at k so =
    sym (said-at-tick sizes plan me i y slot stage word k) ∙ ap (if_at k) (like.sends slot stage word) in
    let message : said_at sizes plan me i y given k ≡ if_at k so = form given ∙ fit.message ∙ fit_word.message ∙ said_word in
    record {
      message = message;
      kept = ap (state_kept sizes me i y given) (form given) ∙ fit.kept ∙ fit_word.kept ∙ ap (state_kept sizes me i y word) said_word
          ∙ after-say sizes me i st slot stage word k so
          (λ s e. sent-place sizes plan me i st slot stage word e) refl;
    }

-- Acts.

-- a tick acts by the state that the core has with it
tick-by : (sizes : Sizes) (plan : Plan) (me : Side) (i : ℕ) (c : Core) {y : _} (given : ℕ) → c.had < 2 ^ 31 → state_at sizes plan me c.state c.had ≡ y
    → tick sizes plan me i c given
    ≡ act_on sizes plan me i c y (said_at sizes plan me i y given c.had) (state_kept sizes me i y given (said_at sizes plan me i y given c.had))
unfolding tick act_at
tick-by sizes plan me i c given below now =
    ap (λ b. elim b as (λ _. Act) [ true ↦ record { core = c; epoch = None; message = None; closed = None } | false ↦ act_at sizes plan me i c given ]) (not-spent c below)
    ∙ ap (λ st. act_on sizes plan me i c st (said_at sizes plan me i st given c.had) (state_kept sizes me i st given (said_at sizes plan me i st given c.had))) now

-- an act that closes no window
abbrev pub open_act : NodeState → ℕ → Core → Option Epoch → Option Message → Act
open_act st k c epoch message = record { core = record { state = st; had = k + 1; inbox = c.inbox }; epoch = epoch; message = message; closed = None }

abbrev pub close_act_of : Outcome → ℕ → Option Epoch → Option Message → Act
close_act_of x k epoch message = record { core = record { state = x.state; had = k + 1; inbox = [] }; epoch = epoch; message = message; closed = Some x.closed }

pub act-message : (sizes : Sizes) (plan : Plan) (me : Side) (i : ℕ) (c : Core) (y : NodeState) (m : Option Message) (kept : NodeState)
    → (act_on sizes plan me i c y m kept).message ≡ m
unfolding act_on
act-message sizes plan me i c y m kept = by (is_last sizes plan me y c.had)
  where
    x : Outcome
    x = close_window sizes plan me i kept (window_here sizes plan me y c.had) (of_source c.inbox)

    by : (b : Bool) → (elim b as (λ _. Act) [ true ↦ close_act_of x c.had (epoch_at sizes me y c.had) m | false ↦ open_act kept c.had c (epoch_at sizes me y c.had) m ]).message ≡ m
    by true = refl
    by false = refl

act-open : (sizes : Sizes) (plan : Plan) (me : Side) (i : ℕ) (c : Core) (y : NodeState) (m : Option Message) (kept : NodeState)
    → is_last sizes plan me y c.had ≡ false → act_on sizes plan me i c y m kept ≡ open_act kept c.had c (epoch_at sizes me y c.had) m
unfolding act_on
act-open sizes plan me i c y m kept h =
    ap (λ b. elim b as (λ _. Act) [
      | true ↦ close_act_of (close_window sizes plan me i kept (window_here sizes plan me y c.had) (of_source c.inbox)) c.had (epoch_at sizes me y c.had) m
      | false ↦ open_act kept c.had c (epoch_at sizes me y c.had) m
    ]) h

act-close : (sizes : Sizes) (plan : Plan) (me : Side) (i : ℕ) (c : Core) (y : NodeState) (m : Option Message) (kept : NodeState) {w : _}
    → is_last sizes plan me y c.had ≡ true → window_here sizes plan me y c.had ≡ w
    → act_on sizes plan me i c y m kept ≡ close_act_of (close_window sizes plan me i kept w (of_source c.inbox)) c.had (epoch_at sizes me y c.had) m
unfolding act_on
act-close sizes plan me i c y m kept {w} h here =
    ap (λ b. elim b as (λ _. Act) [
      | true ↦ close_act_of (close_window sizes plan me i kept (window_here sizes plan me y c.had) (of_source c.inbox)) c.had (epoch_at sizes me y c.had) m
      | false ↦ open_act kept c.had c (epoch_at sizes me y c.had) m
    ]) h
    ∙ ap (λ w. close_act_of (close_window sizes plan me i kept w (of_source c.inbox)) c.had (epoch_at sizes me y c.had) m) here

-- the word that the world gives a core is the one that is wanted for what it would say
given-is : (sc : Scenario) (ports : List PortState) (me : Side) (i : ℕ) (c : Core) {y : _} → c.had < 2 ^ 31
    → state_at sc.sizes sc.plan me c.state c.had ≡ y
    → word_of sc ports i (wants_in sc me i c) ≡ word_wanted sc ports i (said_at sc.sizes sc.plan me i y 0 c.had)
unfolding wants
given-is sc ports me i c {y} below now =
    ap (λ (x : Act). word_wanted sc ports i x.message) (tick-by sc.sizes sc.plan me i c 0 below now)
    ∙ ap (word_wanted sc ports i) (act-message sc.sizes sc.plan me i c y (said_at sc.sizes sc.plan me i y 0 c.had) (state_kept sc.sizes me i y 0 (said_at sc.sizes sc.plan me i y 0 c.had)))

-- at the last tick of its window a node has said all that it has to say there
pub all-said : {sizes plan me : _} (i : ℕ) {st : _} (n word k : ℕ) → HasRoom plan → KeepsTime sizes plan me st
    → n ≤ stages_in sizes → (window_numbered sizes plan me st n).slot ≤ sync_slot_of sizes → st.epoch + last_of sizes plan me st n ≤ k
    → state_in sizes plan me i st n word (k + 1) ≡ kept_in sizes plan me i st n word
all-said {sizes} {plan} {me} i {st} n word k room keeps le slot last = by (sending_at sizes plan me i st n word) refl
  where
    lt-is : (a b : ℕ) → a < b → nat_lt a b ≡ true
    lt-is a b h = grind (arith, nat_tests)

    by : (o : Option Sending) → sending_at sizes plan me i st n word ≡ o → by_said (gone (sending_at sizes plan me i st n word) (k + 1)) st (kept_in sizes plan me i st n word) ≡ kept_in sizes plan me i st n word
    by None e =
        ap (λ o. by_said (gone o (k + 1)) st (kept_in sizes plan me i st n word)) e
        ∙ sym (keeps-none sizes plan me i st (window_numbered sizes plan me st n).slot (window_numbered sizes plan me st n).stage word slot e)
    by (Some s) e =
        let at : IsTickIn sizes plan me st n s.tick = sent-in i n word room.inside keeps le e in
        let to : s.tick ≤ st.epoch + last_of sizes plan me st n = at.to in
        ap (λ o. by_said (gone o (k + 1)) st (kept_in sizes plan me i st n word)) e
        ∙ ap (λ b. by_said b st (kept_in sizes plan me i st n word)) (lt-is s.tick (k + 1) (omega arith))

pub record ActsOpen (sc : Scenario) (me : Side) (i : ℕ) (st : NodeState) (n word k : ℕ) (c : Core) (x : Act) : Type 0 where
  pub message : x.message ≡ if_at k (sending_at sc.sizes sc.plan me i st n word)
  pub state : x.core.state ≡ state_in sc.sizes sc.plan me i st n word (k + 1)
  pub had : x.core.had ≡ k + 1
  pub inbox : x.core.inbox ≡ c.inbox
  pub closed : x.closed ≡ None
  pub epoch : x.epoch ≡ epoch_at sc.sizes me (state_in sc.sizes sc.plan me i st n word k) k

pub record ActsClose (sc : Scenario) (me : Side) (i : ℕ) (st : NodeState) (n word k : ℕ) (c : Core) (x : Act) : Type 0 where
  pub message : x.message ≡ if_at k (sending_at sc.sizes sc.plan me i st n word)
  pub core : x.core ≡ record {
    state = (close_window sc.sizes sc.plan me i (kept_in sc.sizes sc.plan me i st n word) (window_numbered sc.sizes sc.plan me st n) (of_source c.inbox)).state;
    had = k + 1;
    inbox = [];
  }
  pub closed : x.closed ≡ Some (close_window sc.sizes sc.plan me i (kept_in sc.sizes sc.plan me i st n word) (window_numbered sc.sizes sc.plan me st n) (of_source c.inbox)).closed
  pub epoch : x.epoch ≡ epoch_at sc.sizes me (state_in sc.sizes sc.plan me i st n word k) k

-- the words of the world and of the rounds come to the same
abbrev pub HasWord : Scenario → List PortState → Side → ℕ → NodeState → ℕ → ℕ → Type 0
HasWord sc ports me i st n word =
    SameWords sc.sizes me i st (window_numbered sc.sizes sc.plan me st n).slot (window_numbered sc.sizes sc.plan me st n).stage
    (word_for sc ports i (window_numbered sc.sizes sc.plan me st n).slot (role_of sc.sizes (window_numbered sc.sizes sc.plan me st n).slot)) word

says-given : (sc : Scenario) (ports : List PortState) {me i st n word : _} (c : Core) → HasRoom sc.plan
    → IsInWindow sc.sizes sc.plan me i st n word c.had c.state → c.had < 2 ^ 31 → HasWord sc ports me i st n word
    → Says sc.sizes sc.plan me i st n word c.had (state_in sc.sizes sc.plan me i st n word c.had) (word_of sc ports i (wants_in sc me i c))
says-given sc ports {me} {i} {st} {n} {word} c room stands below words =
    subst (Says sc.sizes sc.plan me i st n word c.had (state_in sc.sizes sc.plan me i st n word c.had))
    (sym (given-is sc ports me i c below stands.now))
    (says-so sc ports room stands.window stands.keeps stands.at words)

-- a tick that is not the window's last leaves the window open
pub acts-open : {sc : Scenario} (ports : List PortState) {me : Side} {i : ℕ} {st : NodeState} {n word : ℕ} (c : Core) → HasRoom sc.plan
    → IsInWindow sc.sizes sc.plan me i st n word c.had c.state → c.had < 2 ^ 31 → HasWord sc ports me i st n word
    → c.had < st.epoch + last_of sc.sizes sc.plan me st n
    → ActsOpen sc me i st n word c.had c (tick sc.sizes sc.plan me i c (word_of sc ports i (wants_in sc me i c)))
acts-open {sc} ports {me} {i} {st} {n} {word} c room stands below words before =
    let sizes : Sizes = sc.sizes in
    let plan : Plan = sc.plan in
    let y : NodeState = state_in sizes plan me i st n word c.had in
    let given : ℕ = word_of sc ports i (wants_in sc me i c) in
    let like : Like sizes plan me i st y = like-in sizes plan me i st n word c.had in
    let says : Says sizes plan me i st n word c.had y given = says-given sc ports c room stands below words in
    let m : Option Message = said_at sizes plan me i y given c.had in
    let kept : NodeState = state_kept sizes me i y given m in
    let epoch : y.epoch ≡ st.epoch = like.epoch in
    let same_last : last_of sizes plan me y n ≡ last_of sizes plan me st n = ap (λ (w : Window). w.last) (like.windows n) in
    let not_last : is_last sizes plan me y c.had ≡ false =
    last-is me y room.ticks stands.window (like-tick like stands.at)
    ∙ less-differs c.had (y.epoch + last_of sizes plan me y n) (omega arith) in
    let is : tick sizes plan me i c given ≡ open_act kept c.had c (epoch_at sizes me y c.had) m =
    tick-by sizes plan me i c given below stands.now ∙ act-open sizes plan me i c y m kept not_last in
    record {
      message = ap (λ (x : Act). x.message) is ∙ says.message;
      state = ap (λ (x : Act). x.core.state) is ∙ says.kept;
      had = ap (λ (x : Act). x.core.had) is;
      inbox = ap (λ (x : Act). x.core.inbox) is;
      closed = ap (λ (x : Act). x.closed) is;
      epoch = ap (λ (x : Act). x.epoch) is;
    }

-- at the window's last tick the node closes the window
pub acts-close : {sc : Scenario} (ports : List PortState) {me : Side} {i : ℕ} {st : NodeState} {n word : ℕ} (c : Core) → HasRoom sc.plan
    → IsInWindow sc.sizes sc.plan me i st n word c.had c.state → c.had < 2 ^ 31 → HasWord sc ports me i st n word
    → c.had ≡ st.epoch + last_of sc.sizes sc.plan me st n
    → ActsClose sc me i st n word c.had c (tick sc.sizes sc.plan me i c (word_of sc ports i (wants_in sc me i c)))
acts-close {sc} ports {me} {i} {st} {n} {word} c room stands below words last =
    let sizes : Sizes = sc.sizes in
    let plan : Plan = sc.plan in
    let y : NodeState = state_in sizes plan me i st n word c.had in
    let given : ℕ = word_of sc ports i (wants_in sc me i c) in
    let like : Like sizes plan me i st y = like-in sizes plan me i st n word c.had in
    let says : Says sizes plan me i st n word c.had y given = says-given sc ports c room stands below words in
    let m : Option Message = said_at sizes plan me i y given c.had in
    let kept : NodeState = state_kept sizes me i y given m in
    let w : Window = window_numbered sizes plan me st n in
    let epoch : y.epoch ≡ st.epoch = like.epoch in
    let same_last : last_of sizes plan me y n ≡ last_of sizes plan me st n = ap (λ (w : Window). w.last) (like.windows n) in
    let at : IsTickIn sizes plan me y n c.had = like-tick like stands.at in
    let is_last : is_last sizes plan me y c.had ≡ true =
    last-is me y room.ticks stands.window at ∙ same-is c.had (y.epoch + last_of sizes plan me y n) (omega arith) in
    let here : window_here sizes plan me y c.had ≡ w = here-is me y room.ticks stands.window at ∙ like.windows n in
    let spoken : kept ≡ kept_in sizes plan me i st n word =
    says.kept ∙ all-said i n word c.had room stands.keeps stands.window stands.slot (omega arith) in
    let is : tick sizes plan me i c given ≡ close_act_of (close_window sizes plan me i (kept_in sizes plan me i st n word) w (of_source c.inbox)) c.had (epoch_at sizes me y c.had) m =
    tick-by sizes plan me i c given below stands.now ∙ act-close sizes plan me i c y m kept is_last here
    ∙ ap (λ st. close_act_of (close_window sizes plan me i st w (of_source c.inbox)) c.had (epoch_at sizes me y c.had) m) spoken in
    record {
      message = ap (λ (x : Act). x.message) is ∙ says.message;
      core = ap (λ (x : Act). x.core) is;
      closed = ap (λ (x : Act). x.closed) is;
      epoch = ap (λ (x : Act). x.epoch) is;
    }
  where
    same-is : (a b : ℕ) → a ≡ b → (a == b) ≡ true
    same-is a b h = grind (arith, nat_tests)
