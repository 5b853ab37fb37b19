-- What the core does that a node stands for: its next tick, its quiet ticks, and what it wants.
use Rattle.std.proofs.{Common.{◌≡◌, ℕ, zero, suc, ◌+◌, ◌-◌, ◌<◌, ◌≤◌, ◌^◌, ◌==◌, ◌||◌, Bool, true, false, refl, ap, sym, ◌∙◌, subst, arith, inl, inr, Option, Some, None, is_some, unwrap_or, List, [], ◌∷◌, ◌++◌, map, filter, cond}, lemmas.Bool.cases_lt, lemmas.Bool.Decides.nat_tests}
use Rattle.std.specs.Option.{option_or}
use Rattle.rb_base.specs.{Nodes.Side, Sizes.Sizes}
use Rattle.rb_base.proofs.Plain.{none-from}
use Rattle.rb_rules.specs.{declared.message.Message.Message, declared.plan.Plan.Plan, Core.{Core, Act, act_at, act_on, busy_among, is_busy, is_last, is_spent, if_at, next_tick, of_source, said_at, slot_wanted, state_at, state_kept, tick, ticks, wants}, NodeState.NodeState, NodeSteps.message_said, Sense.Arrival, SyncStage.send_tick_of}
use Rattle.rb_rules.proofs.QuietTicks.{IsQuiet, not-spent, nothing, quiet-from, quiet-tick, quiet-ticks}
use Rattle.rb_eligible.specs.Inboxes.{Received, HoldsArrivals, arrivals_of}
use Rattle.rb_slot.specs.Engines.{Seated}
use Rattle.rb_node.specs.{Aheads.{IsNextBusy, IsNextTick, busy_at, want_at}, Cores.{IsCore, Running, received_of}, Wants.want_for}
use Rattle.rb_node.proofs.{Busy.{said-form, stage_at}, Saying.{message-some, sending-is, sent_at}}
use Rattle.rb_node.specs.declared.act.Want.TheVariants as want

-- The next tick is found with which something comes.

-- `among n k` is the first of n ticks from k on with which it comes
pub record IsSearch (comes : ℕ → Bool) (among : ℕ → ℕ → Option ℕ) : Type 0 where
  pub none : (k : ℕ) → among zero k ≡ None
  pub step : (n k : ℕ) → among (suc n) k ≡ (elim (comes k) as (λ _. Option ℕ) [ true ↦ Some k | false ↦ among n (suc k) ])

abbrev if-comes : (ℕ → ℕ → Option ℕ) → ℕ → ℕ → Bool → Option ℕ
if-comes among others had b = elim b as (λ _. Option ℕ) [ true ↦ Some had | false ↦ among others (suc had) ]

finds : (comes : ℕ → Bool) (among : ℕ → ℕ → Option ℕ) (others had k : ℕ) → IsSearch comes among → had ≤ k → k < had + others
    → ((m : ℕ) → had ≤ m → m < k → comes m ≡ false) → comes k ≡ true → among others had ≡ Some k
finds comes among zero had k s lo hi quiet busy = absurd (omega arith)
finds comes among (suc others) had k s lo hi quiet busy =
    s.step others had
    ∙ elim (cases_lt had k) [
      | inl lt ↦
          ap (if-comes among others had) (quiet had (omega arith) lt)
          ∙ finds comes among others (suc had) k s (omega arith) (omega arith) (λ m a b. quiet m (omega arith) b) busy
      | inr ge ↦
          let same : k ≡ had = omega arith in
          ap (if-comes among others had) (ap comes (sym same) ∙ busy) ∙ ap (λ m. Some m) (sym same)
    ]

finds-none : (comes : ℕ → Bool) (among : ℕ → ℕ → Option ℕ) (others had : ℕ) → IsSearch comes among
    → ((m : ℕ) → had ≤ m → m < had + others → comes m ≡ false) → among others had ≡ None
finds-none comes among zero had s quiet = s.none had
finds-none comes among (suc others) had s quiet =
    s.step others had ∙ ap (if-comes among others had) (quiet had (omega arith) (omega arith))
    ∙ finds-none comes among others (suc had) s (λ m a b. quiet m (omega arith) (omega arith))

pub found : (comes : ℕ → Bool) (among : ℕ → ℕ → Option ℕ) (me : Side) (v : Seated) (had k : ℕ) → IsSearch comes among → IsNextTick comes me v had k
    → k < 2 ^ 31 → among (2 ^ 31 - had) had ≡ Some k
found comes among me v had k s next below =
    let later : had ≤ k = next.later in
    finds comes among (2 ^ 31 - had) had k s later (omega arith) next.quiet (next.busy below)

pub found-none : (comes : ℕ → Bool) (among : ℕ → ℕ → Option ℕ) (me : Side) (v : Seated) (had k : ℕ) → IsSearch comes among → IsNextTick comes me v had k
    → 2 ^ 31 ≤ k → among (2 ^ 31 - had) had ≡ None
found-none comes among me v had k s next end =
    let most : k ≤ 2 ^ 31 = next.most in
    let later : had ≤ k = next.later in
    finds-none comes among (2 ^ 31 - had) had s (λ m lo hi. next.quiet m lo (omega arith))

-- the end of all ticks stands for a tick that is not found
pub found-end : (comes : ℕ → Bool) (among : ℕ → ℕ → Option ℕ) (me : Side) (v : Seated) (had k : ℕ) → IsSearch comes among → IsNextTick comes me v had k
    → unwrap_or (among (2 ^ 31 - had) had) (2 ^ 31) ≡ k
found-end comes among me v had k s next =
    let most : k ≤ 2 ^ 31 = next.most in
    elim (cases_lt k (2 ^ 31)) [
      | inl below ↦ ap (λ o. unwrap_or o (2 ^ 31)) (found comes among me v had k s next below)
      | inr end ↦
          let e : 2 ^ 31 ≡ k = omega arith in
          ap (λ o. unwrap_or o (2 ^ 31)) (found-none comes among me v had k s next end) ∙ e
    ]

abbrev busy_from : Side → Seated → ℕ → ℕ → Option ℕ
busy_from me v = busy_among v.sizes v.plan me v.index v.state

pub busy-search : (me : Side) (v : Seated) → IsSearch (busy_at me v) (busy_from me v)
busy-search me v = record { none = λ k. refl; step = λ n k. refl }

-- the next busy tick of a core in the node's state is found by that state
next-at : (me : Side) (v : Seated) (c : Core) (had : ℕ) → c.state ≡ v.state → c.had ≡ had
    → next_tick v.sizes v.plan me v.index c ≡ busy_from me v (2 ^ 31 - had) had
next-at me v c had s h =
    ap (λ st. busy_among v.sizes v.plan me v.index st (2 ^ 31 - c.had) c.had) s
    ∙ ap (λ n. busy_from me v (2 ^ 31 - n) n) h

pub next-is : (me : Side) (v : Seated) (c : Core) (had k : ℕ) → c.state ≡ v.state → c.had ≡ had → IsNextBusy me v had k → k < 2 ^ 31
    → next_tick v.sizes v.plan me v.index c ≡ Some k
next-is me v c had k s h next below =
    next-at me v c had s h ∙ found (busy_at me v) (busy_from me v) me v had k (busy-search me v) next below

pub next-none : (me : Side) (v : Seated) (c : Core) (had k : ℕ) → c.state ≡ v.state → c.had ≡ had → IsNextBusy me v had k → 2 ^ 31 ≤ k
    → next_tick v.sizes v.plan me v.index c ≡ None
next-none me v c had k s h next end =
    next-at me v c had s h ∙ found-none (busy_at me v) (busy_from me v) me v had k (busy-search me v) next end

-- A tick, by whether the core is spent.

pub spent-is : (c : Core) → 2 ^ 31 ≤ c.had → is_spent c ≡ true
spent-is c h = grind (arith, nat_tests)

pub tick-spent : (sizes : Sizes) (plan : Plan) (me : Side) (index : ℕ) (c : Core) (word : ℕ) → 2 ^ 31 ≤ c.had
    → tick sizes plan me index c word ≡ record { core = c; epoch = None; message = None; closed = None }
unfolding tick
tick-spent sizes plan me index c word h =
    ap (λ b. elim b as (λ _. Act) [ true ↦ record { core = c; epoch = None; message = None; closed = None } | false ↦ act_at sizes plan me index c word ]) (spent-is c h)

pub tick-now : (sizes : Sizes) (plan : Plan) (me : Side) (index : ℕ) (c : Core) (word : ℕ) → c.had < 2 ^ 31
    → tick sizes plan me index c word ≡ act_at sizes plan me index c word
unfolding tick
tick-now sizes plan me index c word h =
    ap (λ b. elim b as (λ _. Act) [ true ↦ record { core = c; epoch = None; message = None; closed = None } | false ↦ act_at sizes plan me index c word ]) (not-spent c h)

-- What is said, whatever the word.

some-or : (a b : Option Message) → is_some (option_or a b) ≡ (is_some a || is_some b)
some-or None b = refl
some-or (Some m) b = refl

parts-some : (k : ℕ) (m n : Option Message) (t : Option ℕ) → is_some m ≡ is_some n → is_some (if_at k (sent_at m t)) ≡ is_some (if_at k (sent_at n t))
parts-some k None None t h = refl
parts-some k None (Some n) t h = cc
parts-some k (Some m) None t h = cc
parts-some k (Some m) (Some n) None h = refl
parts-some k (Some m) (Some n) (Some t) h = by (t == k)
  where
    by : (b : Bool) → is_some (elim b as (λ _. Option Message) [ true ↦ Some m | false ↦ None ])
        ≡ is_some (elim b as (λ _. Option Message) [ true ↦ Some n | false ↦ None ])
    by true = refl
    by false = refl

pub stage-some : (me : Side) (v : Seated) (slot stage a b k : ℕ) → is_some (stage_at me v slot stage a k) ≡ is_some (stage_at me v slot stage b k)
stage-some me v slot stage a b k =
    ap (λ s. is_some (if_at k s)) (sending-is v.sizes v.plan me v.index v.state slot stage a)
    ∙ parts-some k (message_said v.sizes me v.index v.state slot stage a) (message_said v.sizes me v.index v.state slot stage b)
    (send_tick_of v.sizes v.plan v.state slot stage) (message-some v.sizes me v.index v.state slot stage a b)
    ∙ sym (ap (λ s. is_some (if_at k s)) (sending-is v.sizes v.plan me v.index v.state slot stage b))

three-some : (a b c x y z : Option Message) → is_some a ≡ is_some x → is_some b ≡ is_some y → is_some c ≡ is_some z
    → is_some (option_or a (option_or b c)) ≡ is_some (option_or x (option_or y z))
three-some a b c x y z h i j =
    some-or a (option_or b c) ∙ ap (λ t. is_some a || t) (some-or b c)
    ∙ ap (λ t. t || (is_some b || is_some c)) h ∙ ap (λ t. is_some x || (t || is_some c)) i ∙ ap (λ t. is_some x || (is_some y || t)) j
    ∙ sym (some-or x (option_or y z) ∙ ap (λ t. is_some x || t) (some-or y z))

pub said-some : (me : Side) (v : Seated) (a b k : ℕ)
    → is_some (said_at v.sizes v.plan me v.index v.state a k) ≡ is_some (said_at v.sizes v.plan me v.index v.state b k)
said-some me v a b k =
    ap is_some (said-form me v a k)
    ∙ three-some _ _ _ _ _ _ (stage-some me v _ 1 a b k) (stage-some me v _ 2 a b k) (stage-some me v _ 3 a b k)
    ∙ sym (ap is_some (said-form me v b k))

said-none : (me : Side) (v : Seated) (word k : ℕ) → said_at v.sizes v.plan me v.index v.state 0 k ≡ None
    → said_at v.sizes v.plan me v.index v.state word k ≡ None
said-none me v word k h = none-from _ (said-some me v word 0 k ∙ ap is_some h)

-- A quiet tick is counted, whatever its word.

silent-act : (sizes : Sizes) (plan : Plan) (me : Side) (index : ℕ) (c : Core) (word : ℕ)
    → said_at sizes plan me index (state_at sizes plan me c.state c.had) word c.had ≡ None
    → act_at sizes plan me index c word
    ≡ act_on sizes plan me index c (state_at sizes plan me c.state c.had) None (state_at sizes plan me c.state c.had)
unfolding act_at
silent-act sizes plan me index c word h =
    let st : NodeState = state_at sizes plan me c.state c.had in
    ap (λ m. act_on sizes plan me index c st m (state_kept sizes me index st word m)) h

pub quiet-any : (sizes : Sizes) (plan : Plan) (me : Side) (index : ℕ) (c : Core) (word : ℕ) → is_busy sizes plan me index c.state c.had ≡ false
    → c.had < 2 ^ 31 → tick sizes plan me index c word ≡ nothing c
quiet-any sizes plan me index c word quiet below =
    let q : IsQuiet sizes plan me index c.state c.had = quiet-from sizes plan me index c.state c.had quiet in
    let turned : NodeState = state_at sizes plan me c.state c.had in
    let v : Seated = record { sizes = sizes; plan = plan; index = index; state = c.state } in
    let zero_said : said_at sizes plan me index turned 0 c.had ≡ None = ap (λ st. said_at sizes plan me index st 0 c.had) q.no_turn ∙ q.no_message in
    let word_said : said_at sizes plan me index turned word c.had ≡ None =
    ap (λ st. said_at sizes plan me index st word c.had) q.no_turn ∙ said-none me v word c.had q.no_message in
    tick-now sizes plan me index c word below
    ∙ silent-act sizes plan me index c word word_said
    ∙ sym (silent-act sizes plan me index c 0 zero_said)
    ∙ sym (tick-now sizes plan me index c 0 below)
    ∙ quiet-tick sizes plan me index c q below

-- the ticks up to the next busy one pass
pub passes : (me : Side) (v : Seated) (c : Core) (had k n : ℕ) → c.state ≡ v.state → c.had ≡ had → IsNextBusy me v had k → had + n ≤ k
    → ticks v.sizes v.plan me v.index n c ≡ record c { had = c.had + n }
passes me v c had k n s h next le =
    let most : k ≤ 2 ^ 31 = next.most in
    quiet-ticks v.sizes v.plan me v.index n c
    (λ m lo hi. quiet-from v.sizes v.plan me v.index c.state m
    (ap (λ st. is_busy v.sizes v.plan me v.index st m) s ∙ next.quiet m (omega arith) (omega arith)))
    (omega arith)

-- What is wanted.

on-message : (sizes : Sizes) (plan : Plan) (me : Side) (index : ℕ) (c : Core) (st kept : NodeState) (m : Option Message)
    → (act_on sizes plan me index c st m kept).message ≡ m
unfolding act_on
on-message sizes plan me index c st kept m = by (is_last sizes plan me st c.had) _ _ refl refl
  where
    by : (b : Bool) (x y : Act) → x.message ≡ m → y.message ≡ m → (elim b as (λ _. Act) [ true ↦ x | false ↦ y ]).message ≡ m
    by true x y h k = h
    by false x y h k = k

pub at-message : (sizes : Sizes) (plan : Plan) (me : Side) (index : ℕ) (c : Core) (word : ℕ)
    → (act_at sizes plan me index c word).message ≡ said_at sizes plan me index (state_at sizes plan me c.state c.had) word c.had
unfolding act_at
at-message sizes plan me index c word = on-message sizes plan me index c _ _ _

-- what a core in the node's state wants at tick `k` is found by that state
pub want-is : (me : Side) (v : Seated) (c : Core) (k : ℕ) → c.state ≡ v.state → c.had ≡ k → k < 2 ^ 31
    → want_for v.sizes (wants v.sizes v.plan me v.index c) ≡ want_at me v k
unfolding wants
want-is me v c k s h below =
    ap (λ x. want_for v.sizes (slot_wanted v.sizes x.message)) (tick-now v.sizes v.plan me v.index c 0 (omega arith))
    ∙ ap (λ m. want_for v.sizes (slot_wanted v.sizes m)) (at-message v.sizes v.plan me v.index c 0)
    ∙ ap (λ st. want_for v.sizes (slot_wanted v.sizes (said_at v.sizes v.plan me v.index (state_at v.sizes v.plan me st c.had) 0 c.had))) s
    ∙ ap (λ n. want_at me v n) h

pub want-spent : (me : Side) (v : Seated) (c : Core) → 2 ^ 31 ≤ c.had → want_for v.sizes (wants v.sizes v.plan me v.index c) ≡ want.Nothing
unfolding wants
want-spent me v c h = ap (λ x. want_for v.sizes (slot_wanted v.sizes x.message)) (tick-spent v.sizes v.plan me v.index c 0 h)

pub want-quiet : (me : Side) (v : Seated) (k : ℕ) → busy_at me v k ≡ false → want_at me v k ≡ want.Nothing
want-quiet me v k h =
    let q : IsQuiet v.sizes v.plan me v.index v.state k = quiet-from v.sizes v.plan me v.index v.state k h in
    ap (λ st. want_for v.sizes (slot_wanted v.sizes (said_at v.sizes v.plan me v.index st 0 k))) q.no_turn
    ∙ ap (λ m. want_for v.sizes (slot_wanted v.sizes m)) q.no_message

-- What came.

pub arrivals-are : (j : ℕ) (inbox : List (ℕ × Arrival)) → arrivals_of j (received_of inbox) ≡ of_source inbox j
arrivals-are j [] = refl
arrivals-are j (x ∷ xs) = by (arrivals-are j xs) (x.0 == j)
  where
    by : arrivals_of j (received_of xs) ≡ of_source xs j → (b : Bool)
        → map (λ (r : Received). r.arrival) (cond b (record { source = x.0; arrival = x.1 } ∷ filter (λ (r : Received). r.source == j) (received_of xs)) (filter (λ (r : Received). r.source == j) (received_of xs)))
        ≡ map (λ (a : ℕ × Arrival). a.1) (cond b (x ∷ filter (λ (a : ℕ × Arrival). a.0 == j) xs) (filter (λ (a : ℕ × Arrival). a.0 == j) xs))
    by rest true = ap (λ rest. x.1 ∷ rest) rest
    by rest false = rest

pub received-append : (xs ys : List (ℕ × Arrival)) → received_of (xs ++ ys) ≡ received_of xs ++ received_of ys
received-append [] ys = refl
received-append (x ∷ xs) ys = ap (λ rest. record { source = x.0; arrival = x.1 } ∷ rest) (received-append xs ys)

abbrev kept_of : List Received → List (ℕ × Arrival)
kept_of received = map (λ (r : Received). (r.source, r.arrival)) received

received-again : (xs : List Received) → received_of (kept_of xs) ≡ xs
received-again [] = refl
received-again (x ∷ xs) = ap (λ rest. x ∷ rest) (received-again xs)

-- a node stands for some core
pub stands : (n : Running) (received : List Received) → HoldsArrivals n.inbox received → (c : Core) × IsCore n c
stands n received holds = (
  record { state = n.seat.state; had = n.had; inbox = kept_of received },
  record {
    state = refl;
    had = refl;
    inbox = subst (HoldsArrivals n.inbox) (sym (received-again received)) holds;
  },
)
