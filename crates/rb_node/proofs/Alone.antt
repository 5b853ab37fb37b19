-- A tick at which nothing happens but the end of a window of a slot before the sync slot.
use Rattle.std.proofs.{Common.{◌≡◌, ℕ, ◌+◌, ◌-◌, ◌<◌, ◌≤◌, ◌^◌, ◌==◌, ◌&&◌, max, nat_lt, not, Bool, true, false, refl, ap, sym, ◌∙◌, subst, arith, inl, inr, Option, Some, None, is_some, List, []}, lemmas.Bool.{cases_lt, eq-eqb, eqb-true, lt-ltb, ltb-true, not-true}, lemmas.Bool.Decides.nat_tests, lemmas.Option.none-some}
use Rattle.rb_base.specs.{Nodes.Side, Sizes.{IsShape, sync_slot_of}}
use Rattle.rb_rules.specs.{declared.closing.Closed.Closed, declared.message.Message.Message, declared.plan.Window.Window, declared.record.Epoch.Epoch, Core.{Core, epoch_at, is_tick, next_tick, pass_to, said_at, state_at, tick}, Hearing.epoch_of, NodeState.NodeState, Plan.{IsFeasible, IsPlan}, SyncStage.new_epoch_of}
use Rattle.rb_rules.proofs.Lawfulness.{sends_inside_all}
use Rattle.rb_eligible.specs.Inboxes.{HoldsArrivals, KeptArrivals, Received}
use Rattle.rb_slot.specs.{Closable.IsOfFrame, Engines.{IsSameFrame, Seated, outcome_on}}
use Rattle.rb_node.specs.{Aheads.{IsEnded, IsWindowOf, LooksAhead, SaysIn, following, is_alone}, Aheads.SaysIn.{Silent, First, Second, Third}, Cores.received_of, Ends.EndsExactWindow, Saids.said_in, declared.ahead.Ahead.Ahead, declared.ahead.Busy.Busy}
use Rattle.rb_node.proofs.{Acting.says-none, Busy.{no-turn, said, said-form, some-first, some-second, some-third, stage_at}, Cores.{at-message, next-none, tick-now}, Ending.{ShowsEnd, ends-kept, kept-ends, kept-next, kept-stays, stays-kept, window-kept}, Going.{ended-follows, ended-soon, ended-stage}, Numbering.{IsNumbered, numbered-here}, Steps.{Gives, Parts, Says, gives}, Windows.has-ticks}

-- The flag, part by part.

pub record IsAlone (me : Side) (v : Seated) (w : Window) (b : Busy) : Type 0 where
  pub stage : b.stage ≡ 0
  pub slot : w.slot < sync_slot_of v.sizes
  pub last : v.state.epoch + w.last ≡ b.tick
  pub below : b.tick < 2 ^ 31
  pub stays : is_tick (new_epoch_of v.plan me v.state) b.tick ≡ false

pub record AllTrue (a b c d e : Bool) : Type 0 where
  pub first : a ≡ true
  pub second : b ≡ true
  pub third : c ≡ true
  pub fourth : d ≡ true
  pub fifth : e ≡ true

pub all-true : (a b c d e : Bool) → (a && b && c && d && e) ≡ true → AllTrue a b c d e
all-true true true true true true h = record { first = refl; second = refl; third = refl; fourth = refl; fifth = refl }
all-true true true true true false h = cc
all-true true true true false e h = cc
all-true true true false d e h = cc
all-true true false c d e h = cc
all-true false b c d e h = cc

pub true-all : (a b c d e : Bool) → a ≡ true → b ≡ true → c ≡ true → d ≡ true → e ≡ true → (a && b && c && d && e) ≡ true
true-all a b c d e h i j k l = rw (h, i, j, k, l) refl

pub alone-is : (me : Side) (v : Seated) (w : Window) (b : Busy) → is_alone me v w b ≡ true → IsAlone me v w b
alone-is me v w b h =
    let all : AllTrue (b.stage == 0) (nat_lt w.slot (sync_slot_of v.sizes)) (v.state.epoch + w.last == b.tick) (nat_lt b.tick (2 ^ 31))
    (not (is_tick (new_epoch_of v.plan me v.state) b.tick)) =
    all-true _ _ _ _ _ h in
    record {
      stage = eqb-true b.stage 0 all.first;
      slot = ltb-true w.slot (sync_slot_of v.sizes) all.second;
      last = eqb-true (v.state.epoch + w.last) b.tick all.third;
      below = ltb-true b.tick (2 ^ 31) all.fourth;
      stays = not-true (is_tick (new_epoch_of v.plan me v.state) b.tick) all.fifth;
    }

pub is-alone : (me : Side) (v : Seated) (w : Window) (b : Busy) → IsAlone me v w b → is_alone me v w b ≡ true
is-alone me v w b a =
    true-all (b.stage == 0) (nat_lt w.slot (sync_slot_of v.sizes)) (v.state.epoch + w.last == b.tick) (nat_lt b.tick (2 ^ 31))
    (not (is_tick (new_epoch_of v.plan me v.state) b.tick))
    (eq-eqb b.stage 0 a.stage) (lt-ltb w.slot (sync_slot_of v.sizes) a.slot) (eq-eqb (v.state.epoch + w.last) b.tick a.last)
    (lt-ltb b.tick (2 ^ 31) a.below) (ap not a.stays)

pub kept-alone : (me : Side) (v : Seated) (had : ℕ) (a : Ahead) → LooksAhead me v had a → a.alone ≡ true → IsAlone me v a.window a.busy
kept-alone me v had a l is = alone-is me v a.window a.busy (sym l.alone ∙ is)

-- the tick ends a window of a slot before the sync slot, and no frame begins with it

pub alone-ends : (me : Side) (v : Seated) (had : ℕ) (a : Ahead) (c : Core) (k : ℕ) → LooksAhead me v had a → a.alone ≡ true
    → c.state ≡ v.state → c.had ≡ had → next_tick v.sizes v.plan me v.index c ≡ Some k → EndsExactWindow v.sizes v.plan me c.state k
alone-ends me v had a c k l is state had_is next =
    let alone : IsAlone me v a.window a.busy = kept-alone me v had a l is in
    ends-kept me v had a c k l state had_is next alone.slot alone.last alone.stays

pub alone-stays : (me : Side) (v : Seated) (had : ℕ) (a : Ahead) (c : Core) (k : ℕ) → LooksAhead me v had a → a.alone ≡ true
    → c.state ≡ v.state → c.had ≡ had → next_tick v.sizes v.plan me v.index c ≡ Some k → is_tick (new_epoch_of v.plan me c.state) k ≡ false
alone-stays me v had a c k l is state had_is next = stays-kept me v had a c k l state had_is next (kept-alone me v had a l is).stays

-- The window has ended with it.

pub alone-ended : (me : Side) (v v3 : Seated) (had : ℕ) (a : Ahead) → LooksAhead me v had a → a.alone ≡ true → IsSameFrame v v3
    → IsEnded v3 a.window (a.busy.tick + 1)
alone-ended me v v3 had a l is same =
    let alone : IsAlone me v a.window a.busy = kept-alone me v had a l is in
    record {
      of_frame = subst (λ s. IsOfFrame s v3.plan a.window) (sym same.sizes) (subst (λ p. IsOfFrame v.sizes p a.window) (sym same.plan) l.window.of_frame);
      after = ap (λ k. k + 1) (sym alone.last) ∙ ap (λ k. k + a.window.last + 1) (sym same.epoch);
    }

same-self : (v : Seated) → IsSameFrame v v
same-self v = record { sizes = refl; plan = refl; index = refl; frame = refl; epoch = refl }

pub alone-stage : (me : Side) (v : Seated) (had : ℕ) (a : Ahead) → IsPlan v.plan → LooksAhead me v had a → a.alone ≡ true → a.window.stage ≤ 3
alone-stage me v had a plan l is =
    ended-stage v a.window (a.busy.tick + 1) plan (alone-ended me v v had a l is (same-self v)) (kept-alone me v had a l is).slot

pub alone-soon : (me : Side) (v : Seated) (had : ℕ) (a : Ahead) → IsShape v.sizes → IsPlan v.plan → LooksAhead me v had a → a.alone ≡ true
    → a.window.last ≤ 400000
alone-soon me v had a shape plan l is =
    ended-soon v a.window (a.busy.tick + 1) shape plan (alone-ended me v v had a l is (same-self v)) (kept-alone me v had a l is).slot

-- the next tick is in the window that follows
pub alone-follows : (me : Side) (v v3 : Seated) (had : ℕ) (a : Ahead) (x : Window) → IsShape v.sizes → IsPlan v.plan → v.state.epoch ≤ had
    → LooksAhead me v had a → a.alone ≡ true → IsSameFrame v v3 → x ≡ following v3.plan a.window → IsWindowOf me v3 (a.busy.tick + 1) x
alone-follows me v v3 had a x shape plan epoch l is same x_is =
    let alone : IsAlone me v a.window a.busy = kept-alone me v had a l is in
    let below : a.busy.tick < 2 ^ 31 = alone.below in
    let later : had ≤ a.busy.tick = l.next.later in
    let epoch_is : v3.state.epoch ≡ v.state.epoch = same.epoch in
    ended-follows me v3 a.window x (a.busy.tick + 1) (subst IsShape (sym same.sizes) shape) (subst IsPlan (sym same.plan) plan) (omega arith) (omega arith)
    (alone-ended me v v3 had a l is same) (subst (λ s. a.window.slot < sync_slot_of s) (sym same.sizes) alone.slot) x_is

-- What the tick gives.

-- a window has two ticks at least, so its last is not the frame's first
not-first : (epoch tick last : ℕ) → epoch + last ≡ tick → 1 ≤ last → (epoch == tick) ≡ false
not-first epoch tick last e some = grind (arith, nat_tests)

no-epoch : (me : Side) (v : Seated) (had : ℕ) (a : Ahead) → IsPlan v.plan → IsFeasible v.sizes v.plan → LooksAhead me v had a → a.alone ≡ true
    → None ≡ epoch_at v.sizes me v.state a.busy.tick
no-epoch me v had a plan feasible l is =
    let alone : IsAlone me v a.window a.busy = kept-alone me v had a l is in
    let n : IsNumbered v.sizes v.plan (had - v.state.epoch) a.window = numbered-here me v had a.window (has-ticks v.plan plan) l.window alone.slot in
    let short : v.plan.h < v.plan.l = (sends_inside_all v.sizes v.plan plan feasible).in_l in
    let some : 1 ≤ v.plan.h = plan.h.0 in
    let last : 1 ≤ a.window.last = subst (λ (x : Window). 1 ≤ x.last) (sym n.is) (omega (arith, short, some)) in
    sym (ap (λ b. elim b as (λ _. Option Epoch) [ true ↦ Some (epoch_of v.sizes me v.state) | false ↦ None ])
    (not-first v.state.epoch a.busy.tick a.window.last alone.last last))

pub alone-gives : (me : Side) (v v3 : Seated) (had word : ℕ) (a : Ahead) (before after : Closed) (inbox rest : KeptArrivals) → IsPlan v.plan
    → IsFeasible v.sizes v.plan → LooksAhead me v had a → a.alone ≡ true
    → ((received : List Received) → HoldsArrivals inbox received → v3 ≡ record v { state = (outcome_on me v a.window received).state })
    → ((received : List Received) → HoldsArrivals inbox received → after ≡ (outcome_on me v a.window received).closed)
    → HoldsArrivals rest [] → (c : Core) (k : ℕ) → c.state ≡ v.state → c.had ≡ had → HoldsArrivals inbox (received_of c.inbox)
    → next_tick v.sizes v.plan me v.index c ≡ Some k
    → Gives me (record { seat = v3; had = a.busy.tick + 1; inbox = rest; shown = after }) (record { epoch = None; message = None; closed = true })
    (tick v.sizes v.plan me v.index (pass_to k c) word)
alone-gives me v v3 had word a before after inbox rest plan feasible l is closes shows empty c k state had_is holds next =
    let alone : IsAlone me v a.window a.busy = kept-alone me v had a l is in
    let at : a.busy.tick ≡ k = kept-next me v had a c k l state had_is next in
    let later : had ≤ a.busy.tick = l.next.later in
    let passed : max c.had k ≡ a.busy.tick = omega arith in
    let parts : Parts me v v v v3 a.busy.tick a.window None true before after inbox rest = record {
      turned = ap (λ (s : NodeState). record v { state = s }) (sym (no-turn v me a.busy.tick alone.stays));
      begun = no-epoch me v had a plan feasible l is;
      window = window-kept me v had a l;
      closes = sym (eq-eqb a.busy.tick (v.state.epoch + a.window.last) (sym alone.last));
      state = closes;
      shown = shows;
      holds = λ received held. empty;
    } in
    let says : Says me v v a.busy.tick word a.window None = record {
      said = says-none me v a.window.slot a.busy.stage word a.busy.tick l.stage alone.stage;
      kept = refl;
    } in
    gives me v v v v3 a.busy.tick word a.window None None true before after inbox rest parts says alone.below (pass_to k c) state passed holds

-- If a window ends and nothing else happens, it is kept so.

some-none : (o : Option Message) → o ≡ None → is_some o ≡ true → ⊥
some-none o e h = cc

silent-stage : (me : Side) (v : Seated) (slot k stage : ℕ) → SaysIn me v slot k stage → said_in me v slot k 0 ≡ None → stage ≡ 0
silent-stage me v slot k stage (Silent z a b c) none = z
silent-stage me v slot k stage (First z a) none =
    absurd (some-none _ none (some-first (stage_at me v slot 1 0 k) (stage_at me v slot 2 0 k) (stage_at me v slot 3 0 k) (said me v slot 1 k a)))
silent-stage me v slot k stage (Second z a b) none =
    absurd (some-none _ none (some-second (stage_at me v slot 1 0 k) (stage_at me v slot 2 0 k) (stage_at me v slot 3 0 k) (said me v slot 2 k b)))
silent-stage me v slot k stage (Third z a b c) none =
    absurd (some-none _ none (some-third (stage_at me v slot 1 0 k) (stage_at me v slot 2 0 k) (stage_at me v slot 3 0 k) (said me v slot 3 k c)))

-- a tick that is a core's next is one that a node can have
kept-below : (me : Side) (v : Seated) (had : ℕ) (a : Ahead) (c : Core) (k : ℕ) → LooksAhead me v had a → c.state ≡ v.state → c.had ≡ had
    → next_tick v.sizes v.plan me v.index c ≡ Some k → a.busy.tick < 2 ^ 31
kept-below me v had a c k l state had_is next =
    elim (cases_lt a.busy.tick (2 ^ 31)) [
      | inl below ↦ below
      | inr end ↦ absurd (none-some k (sym (next-none me v c had a.busy.tick state had_is l.next end) ∙ next))
    ]

-- a core in the node's state says at the tick what the node says
message-at : (me : Side) (v : Seated) (c : Core) (k : ℕ) → c.state ≡ v.state → c.had ≡ k → k < 2 ^ 31 → is_tick (new_epoch_of v.plan me v.state) k ≡ false
    → (tick v.sizes v.plan me v.index c 0).message ≡ said_at v.sizes v.plan me v.index v.state 0 k
message-at me v c k state had below stays =
    ap (λ x. x.message) (tick-now v.sizes v.plan me v.index c 0 (omega arith))
    ∙ at-message v.sizes v.plan me v.index c 0
    ∙ ap (λ st. said_at v.sizes v.plan me v.index (state_at v.sizes v.plan me st c.had) 0 c.had) state
    ∙ ap (λ n. said_at v.sizes v.plan me v.index (state_at v.sizes v.plan me v.state n) 0 n) had
    ∙ ap (λ st. said_at v.sizes v.plan me v.index st 0 k) (no-turn v me k stays)

pub kept-otherwise : (me : Side) (v : Seated) (had : ℕ) (a : Ahead) (c : Core) (k : ℕ) → LooksAhead me v had a → c.state ≡ v.state → c.had ≡ had
    → next_tick v.sizes v.plan me v.index c ≡ Some k → is_tick (new_epoch_of v.plan me c.state) k ≡ false
    → EndsExactWindow v.sizes v.plan me c.state k → (tick v.sizes v.plan me v.index (pass_to k c) 0).message ≡ None → a.alone ≡ true
kept-otherwise me v had a c k l state had_is next stays ends none =
    let shows : ShowsEnd v a = kept-ends me v had a c k l state had_is next stays ends in
    let stays_here : is_tick (new_epoch_of v.plan me v.state) a.busy.tick ≡ false = kept-stays me v had a c k l state had_is next stays in
    let below : a.busy.tick < 2 ^ 31 = kept-below me v had a c k l state had_is next in
    let at : a.busy.tick ≡ k = kept-next me v had a c k l state had_is next in
    let later : had ≤ a.busy.tick = l.next.later in
    let passed : max c.had k ≡ a.busy.tick = omega arith in
    let message : said_at v.sizes v.plan me v.index v.state 0 a.busy.tick ≡ None =
    sym (message-at me v (pass_to k c) a.busy.tick state passed below stays_here) ∙ none in
    let said_none : said_in me v a.window.slot a.busy.tick 0 ≡ None =
    ap (λ (w : Window). said_in me v w.slot a.busy.tick 0) (window-kept me v had a l) ∙ sym (said-form me v 0 a.busy.tick) ∙ message in
    l.alone
    ∙ is-alone me v a.window a.busy (record {
      stage = silent-stage me v a.window.slot a.busy.tick a.busy.stage l.stage said_none;
      slot = shows.slot;
      last = shows.last;
      below = below;
      stays = stays_here;
    })
