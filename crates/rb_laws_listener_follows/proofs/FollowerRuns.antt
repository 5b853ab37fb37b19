-- A listener that follows goes through a window tick by tick: at its last tick it has all that came
-- with the stamps of its ticks, and closes.
use Rattle.std.proofs.{Common.{◌≡◌, ℕ, zero, suc, ◌+◌, ◌^◌, ◌<◌, ◌≤◌, nat_lt, ◌&&◌, not, Bool, true, false, List, [], ◌∷◌, ◌++◌, Some, None, refl, sym, ◌∙◌, ap, subst, arith}, lemmas.List.{append-nil, append_assoc}}
use Rattle.rb_base.specs.{Nodes.Side.Biu, Sizes.Sizes}
use Rattle.rb_rules.specs.{declared.plan.Plan.Plan, Core.{Act, Core, act_on, arrive, epoch_at, is_last, is_spent, of_source, state_at, window_here}, ExactStage.Outcome, Goodness.Scenario, Hearing.{Coming, close_window}, NodeState.NodeState, Sense.Arrival}
use Rattle.rb_rules.proofs.QuietTicks.{not-spent}
use Rattle.rb_listen.specs.{Following.follow, Listening.{Listening, followed, hear, heed}}
use Rattle.rb_laws_listener_learns.specs.Ears.{Ear, hears, listening_at}
use Rattle.rb_listen.specs.Listening as now

-- What is kept of what comes.

-- the messages of RMUs that come with a stamp
unfoldable pub arrivals : Sizes → ℕ → List Coming → List (ℕ × Arrival)
arrivals sizes k [] = []
arrivals sizes k (c ∷ cs) = elim (nat_lt c.from sizes.rmus) [
  | true ↦ (c.from, record { stamp = k; bytes = c.bytes }) ∷ arrivals sizes k cs
  | false ↦ arrivals sizes k cs
]

-- the arrivals with the n stamps from `first` on
unfoldable pub collected : Sizes → (ℕ → List Coming) → ℕ → ℕ → List (ℕ × Arrival)
collected sizes heard first zero = []
collected sizes heard first (suc n) = collected sizes heard first n ++ arrivals sizes (first + n) (heard (first + n))

-- a follower puts one message into its inbox
one_more : (sizes : Sizes) (c : Core) (x : Coming) → c.had < 2 ^ 31
    → arrive sizes Biu c x.from x.bytes ≡ record c { inbox = c.inbox ++ arrivals sizes c.had (x ∷ []) }
unfolding arrive arrivals
one_more sizes c x below = go (nat_lt x.from sizes.rmus) (is_spent c) (not-spent c below)
  where
    new : ℕ × Arrival
    new = (x.from, record { stamp = c.had; bytes = x.bytes })

    go : (b s : Bool) → s ≡ false
        → (elim (b && not s) as (λ _. Core) [ true ↦ record c { inbox = c.inbox ++ new ∷ [] } | false ↦ c ])
        ≡ record c { inbox = c.inbox ++ (elim b as (λ _. List (ℕ × Arrival)) [ true ↦ new ∷ [] | false ↦ [] ]) }
    go true true h = cc
    go true false h = refl
    go false s h = ap (λ l. record c { inbox = l }) (sym (append-nil c.inbox))

arrivals-cons : (sizes : Sizes) (k : ℕ) (x : Coming) (xs : List Coming) → arrivals sizes k (x ∷ []) ++ arrivals sizes k xs ≡ arrivals sizes k (x ∷ xs)
unfolding arrivals
arrivals-cons sizes k x xs = go (nat_lt x.from sizes.rmus)
  where
    new : ℕ × Arrival
    new = (x.from, record { stamp = k; bytes = x.bytes })

    go : (b : Bool)
        → (elim b as (λ _. List (ℕ × Arrival)) [ true ↦ new ∷ [] | false ↦ [] ]) ++ arrivals sizes k xs
        ≡ (elim b as (λ _. List (ℕ × Arrival)) [ true ↦ new ∷ arrivals sizes k xs | false ↦ arrivals sizes k xs ])
    go true = refl
    go false = refl

pub hears_all : (sc : Scenario) (cs : List Coming) (c : Core) → c.had < 2 ^ 31
    → hears sc cs (now.Following c) ≡ now.Following (record c { inbox = c.inbox ++ arrivals sc.sizes c.had cs })
unfolding hear arrivals
hears_all sc [] c below = ap (λ l. now.Following (record c { inbox = l })) (sym (append-nil c.inbox))
hears_all sc (x ∷ xs) c below =
    let first : Core = record c { inbox = c.inbox ++ arrivals sc.sizes c.had (x ∷ []) } in
    ap (λ d. hears sc xs (now.Following d)) (one_more sc.sizes c x below)
    ∙ hears_all sc xs first below
    ∙ ap (λ l. now.Following (record c { inbox = l }))
    (append_assoc c.inbox (arrivals sc.sizes c.had (x ∷ [])) (arrivals sc.sizes c.had xs) ∙ ap (λ l. c.inbox ++ l) (arrivals-cons sc.sizes c.had x xs))

-- Ticks.

-- the listener after tick `k`
abbrev pub after_tick : Scenario → Ear → ℕ → Listening
after_tick sc ear k = (heed sc.sizes sc.plan (listening_at sc ear k)).listening

pub heeds_core : (sc : Scenario) (ear : Ear) (k : ℕ) (c : Core) → listening_at sc ear k ≡ now.Following c → heed sc.sizes sc.plan (listening_at sc ear k) ≡ followed (follow sc.sizes sc.plan c)
unfolding heed
heeds_core sc ear k c is = ap (heed sc.sizes sc.plan) is

-- a follower acts at a tick by its state there
pub acts_by : (sizes : Sizes) (plan : Plan) (c : Core) {st : _} → c.had < 2 ^ 31 → state_at sizes plan Biu c.state c.had ≡ st
    → follow sizes plan c ≡ act_on sizes plan Biu 16 c st None st
unfolding follow
acts_by sizes plan c below is =
    ap (λ b. elim b as (λ _. Act) [
      | true ↦ record { core = c; epoch = None; message = None; closed = None }
      | false ↦ act_on sizes plan Biu 16 c (state_at sizes plan Biu c.state c.had) None (state_at sizes plan Biu c.state c.had)
    ]) (not-spent c below)
    ∙ ap (λ x. act_on sizes plan Biu 16 c x None x) is

pub goes_on : (sizes : Sizes) (plan : Plan) (c : Core) (st : NodeState) → is_last sizes plan Biu st c.had ≡ false
    → (act_on sizes plan Biu 16 c st None st).core ≡ record { state = st; had = c.had + 1; inbox = c.inbox }
unfolding act_on
goes_on sizes plan c st quiet = by (is_last sizes plan Biu st c.had) quiet
  where
    x : Outcome
    x = close_window sizes plan Biu 16 st (window_here sizes plan Biu st c.had) (of_source c.inbox)

    by : (b : Bool) → b ≡ false
        → (elim b as (λ _. Act) [
          | true ↦ record { core = record { state = x.state; had = c.had + 1; inbox = [] }; epoch = epoch_at sizes Biu st c.had; message = None; closed = Some x.closed }
          | false ↦ record { core = record { state = st; had = c.had + 1; inbox = c.inbox }; epoch = epoch_at sizes Biu st c.had; message = None; closed = None }
        ]).core ≡ record { state = st; had = c.had + 1; inbox = c.inbox }
    by true h = cc
    by false h = refl

-- the act closes the window
pub record IsClosing (sizes : Sizes) (plan : Plan) (c : Core) (st : NodeState) (a : Act) : Type 0 where
  pub core : a.core ≡ record { state = (close_window sizes plan Biu 16 st (window_here sizes plan Biu st c.had) (of_source c.inbox)).state; had = c.had + 1; inbox = [] }
  pub closed : a.closed ≡ Some (close_window sizes plan Biu 16 st (window_here sizes plan Biu st c.had) (of_source c.inbox)).closed

pub closes_it : (sizes : Sizes) (plan : Plan) (c : Core) (st : NodeState) → is_last sizes plan Biu st c.had ≡ true → IsClosing sizes plan c st (act_on sizes plan Biu 16 c st None st)
unfolding act_on
closes_it sizes plan c st last = by (is_last sizes plan Biu st c.had) last
  where
    x : Outcome
    x = close_window sizes plan Biu 16 st (window_here sizes plan Biu st c.had) (of_source c.inbox)

    by : (b : Bool) → b ≡ true
        → IsClosing sizes plan c st (elim b as (λ _. Act) [
          | true ↦ record { core = record { state = x.state; had = c.had + 1; inbox = [] }; epoch = epoch_at sizes Biu st c.had; message = None; closed = Some x.closed }
          | false ↦ record { core = record { state = st; had = c.had + 1; inbox = c.inbox }; epoch = epoch_at sizes Biu st c.had; message = None; closed = None }
        ])
    by true h = record { core = refl; closed = refl }
    by false h = cc

-- A window.

-- with tick `first` the node comes to the state `st`, and with tick first + n it closes the window
pub record IsWindow (sizes : Sizes) (plan : Plan) (before st : NodeState) (first n : ℕ) : Type 0 where
  pub turns : state_at sizes plan Biu before first ≡ st
  pub stays : (k : ℕ) → first < k → k ≤ first + n → state_at sizes plan Biu st k ≡ st
  pub quiet : (k : ℕ) → first ≤ k → k < first + n → is_last sizes plan Biu st k ≡ false
  pub last : is_last sizes plan Biu st (first + n) ≡ true
  pub in_time : first + n < 2 ^ 31

-- the state before each tick of a window
abbrev pub state_before : NodeState → NodeState → ℕ → NodeState
state_before before st zero = before
state_before before st (suc i) = st

abbrev pub core_in : Sizes → Ear → NodeState → NodeState → ℕ → ℕ → ℕ → Core
core_in sizes ear before st first i k = record { state = state_before before st i; had = k; inbox = collected sizes ear.heard first (i + 1) }

-- the listener stands before the window
pub record Stands (sc : Scenario) (ear : Ear) (before : NodeState) (first : ℕ) : Type 0 where
  pub here : listening_at sc ear first ≡ hears sc (ear.heard first) (now.Following (record { state = before; had = first; inbox = [] }))

pub state-in : {sizes plan before st first n : _} (i : ℕ) {k : ℕ} → IsWindow sizes plan before st first n → k ≡ first + i → i ≤ n
    → state_at sizes plan Biu (state_before before st i) k ≡ st
state-in {sizes} {plan} {before} {st} {first} zero {k} w e le = subst (λ k. state_at sizes plan Biu before k ≡ st) (let f : first ≡ k = omega arith in f) w.turns
state-in (suc i) {k} w e le = w.stays k (omega arith) (omega arith)

collected-one : (sizes : Sizes) (heard : ℕ → List Coming) {first k : ℕ} → k ≡ first → arrivals sizes k (heard k) ≡ collected sizes heard first (0 + 1)
unfolding collected
collected-one sizes heard {first} {k} e = ap (λ t. arrivals sizes t (heard t)) (let f : k ≡ first + 0 = omega arith in f)

collected-more : (sizes : Sizes) (heard : ℕ → List Coming) (first i : ℕ) {k : ℕ} → k ≡ first + (i + 1)
    → collected sizes heard first (i + 1) ++ arrivals sizes k (heard k) ≡ collected sizes heard first (suc i + 1)
unfolding collected
collected-more sizes heard first i e =
    ap (λ t. collected sizes heard first (i + 1) ++ arrivals sizes t (heard t)) e
    ∙ ap (collected sizes heard first) (let f : suc (i + 1) ≡ suc i + 1 = omega arith in f)

-- the listener goes on from one tick of its window to the next
follows_next : (sc : Scenario) (ear : Ear) {before st first n : _} (i : ℕ) → IsWindow sc.sizes sc.plan before st first n → suc i ≤ n
    → listening_at sc ear (first + i) ≡ now.Following (core_in sc.sizes ear before st first i (first + i))
    → listening_at sc ear (suc (first + i)) ≡ now.Following (core_in sc.sizes ear before st first (suc i) (suc (first + i)))
follows_next sc ear {before} {st} {first} i w le was =
    let c : Core = core_in sc.sizes ear before st first i (first + i) in
    let below : suc (first + i) < 2 ^ 31 = omega (arith, w.in_time) in
    let core : (follow sc.sizes sc.plan c).core ≡ record { state = st; had = suc (first + i); inbox = collected sc.sizes ear.heard first (i + 1) } =
    ap (λ a. a.core) (acts_by sc.sizes sc.plan c (omega arith) (state-in i w refl (omega arith)))
    ∙ goes_on sc.sizes sc.plan c st (w.quiet (first + i) (omega arith) (omega arith))
    ∙ ap (λ h. record { state = st; had = h; inbox = collected sc.sizes ear.heard first (i + 1) }) (let f : first + i + 1 ≡ suc (first + i) = omega arith in f) in
    ap (λ x. hears sc (ear.heard (suc (first + i))) x.listening) (heeds_core sc ear (first + i) c was)
    ∙ ap (λ d. hears sc (ear.heard (suc (first + i))) (now.Following d)) core
    ∙ hears_all sc (ear.heard (suc (first + i))) (record { state = st; had = suc (first + i); inbox = collected sc.sizes ear.heard first (i + 1) }) below
    ∙ ap (λ l. now.Following (record { state = st; had = suc (first + i); inbox = l })) (collected-more sc.sizes ear.heard first i (omega arith))

pub follows_window : {sc : Scenario} {ear : Ear} {before st : NodeState} {first n : ℕ} → IsWindow sc.sizes sc.plan before st first n → Stands sc ear before first
    → (i : ℕ) {k : ℕ} → k ≡ first + i → i ≤ n → listening_at sc ear k ≡ now.Following (core_in sc.sizes ear before st first i k)
follows_window {sc} {ear} {before} {st} {first} w s zero {k} e le =
    let same : k ≡ first = omega arith in
    let below : first < 2 ^ 31 = omega (arith, w.in_time) in
    let at_first : listening_at sc ear first ≡ now.Following (core_in sc.sizes ear before st first 0 first) =
    s.here ∙ hears_all sc (ear.heard first) (record { state = before; had = first; inbox = [] }) below
    ∙ ap (λ l. now.Following (record { state = before; had = first; inbox = l })) (collected-one sc.sizes ear.heard refl) in
    subst (λ k. listening_at sc ear k ≡ now.Following (core_in sc.sizes ear before st first 0 k)) (sym same) at_first
follows_window {sc} {ear} {before} {st} {first} w s (suc i) {k} e le =
    let next : suc (first + i) ≡ k = omega arith in
    subst (λ k. listening_at sc ear k ≡ now.Following (core_in sc.sizes ear before st first (suc i) k)) next
    (follows_next sc ear i w le (follows_window w s i refl (omega arith)))

-- With the last tick of a window a listener closes it on all that came in it.

abbrev pub closing : Scenario → Ear → NodeState → ℕ → ℕ → Outcome
closing sc ear st first n = close_window sc.sizes sc.plan Biu 16 st (window_here sc.sizes sc.plan Biu st (first + n)) (of_source (collected sc.sizes ear.heard first (n + 1)))

pub record ClosesWindow (sc : Scenario) (ear : Ear) (before st : NodeState) (first n : ℕ) : Type 0 where
  pub core : Core
  pub here : listening_at sc ear (first + n) ≡ now.Following core
  pub state : core.state ≡ state_before before st n
  pub had : core.had ≡ first + n
  pub closed : (follow sc.sizes sc.plan core).closed ≡ Some (closing sc ear st first n).closed
  pub stands : Stands sc ear (closing sc ear st first n).state (suc (first + n))

pub closes_window : {sc : Scenario} {ear : Ear} {before st : NodeState} {first n : ℕ} → IsWindow sc.sizes sc.plan before st first n → Stands sc ear before first
    → ClosesWindow sc ear before st first n
closes_window {sc} {ear} {before} {st} {first} {n} w s = record {
  core = c;
  here = is;
  state = refl;
  had = refl;
  closed = ap (λ a. a.closed) act ∙ ends.closed;
  stands = record {
    here =
        ap (λ x. hears sc (ear.heard (suc (first + n))) x.listening) (heeds_core sc ear (first + n) c is)
        ∙ ap (λ a. hears sc (ear.heard (suc (first + n))) (now.Following a.core)) act
        ∙ ap (λ d. hears sc (ear.heard (suc (first + n))) (now.Following d)) ends.core
        ∙ ap (λ h. hears sc (ear.heard (suc (first + n))) (now.Following (record { state = (closing sc ear st first n).state; had = h; inbox = [] })))
        (let f : first + n + 1 ≡ suc (first + n) = omega arith in f);
  };
}
  where
    c : Core
    c = core_in sc.sizes ear before st first n (first + n)

    is : listening_at sc ear (first + n) ≡ now.Following (core_in sc.sizes ear before st first n (first + n))
    is = follows_window w s n refl (omega arith)

    act : follow sc.sizes sc.plan (core_in sc.sizes ear before st first n (first + n)) ≡ act_on sc.sizes sc.plan Biu 16 (core_in sc.sizes ear before st first n (first + n)) st None st
    act = acts_by sc.sizes sc.plan c w.in_time (state-in n w refl (omega arith))

    ends : IsClosing sc.sizes sc.plan (core_in sc.sizes ear before st first n (first + n)) st (act_on sc.sizes sc.plan Biu 16 (core_in sc.sizes ear before st first n (first + n)) st None st)
    ends = closes_it sc.sizes sc.plan c st w.last
