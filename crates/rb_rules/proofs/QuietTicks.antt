-- Quiet ticks are only counted, and arrivals do not change which ticks are quiet.
use Rattle.std.proofs.{Common.{◌≡◌, ℕ, zero, suc, ◌+◌, ◌-◌, ◌^◌, ◌<◌, ◌≤◌, ◌==◌, ◌||◌, ◌&&◌, not, nat_lt, Bool, true, false, List, [], ◌∷◌, ◌++◌, refl, sym, ◌∙◌, ap, subst, arith, Option, Some, None, is_some}, lemmas.Bool.or_parts, lemmas.Bool.Decides.nat_tests}
use Rattle.rb_base.specs.{Nodes.{Side, other}, Sizes.Sizes}
use Rattle.rb_base.proofs.Plain.{none-from}
use Rattle.rb_rules.specs.{declared.plan.Plan.Plan, Conviction.turn, Core.{Core, Act, is_spent, arrive, is_tick, state_at, said_at, is_last, epoch_at, state_kept, act_on, act_at, window_here, of_source, tick, is_busy, busy_among, next_tick, ticks}, declared.record.Epoch.Epoch, ExactStage.Outcome, Hearing.{close_window, epoch_of}, NodeState.NodeState, Slots.count_of, SyncStage.new_epoch_of}

-- what it means that tick k is quiet for a node in this state
pub record IsQuiet (sizes : Sizes) (plan : Plan) (me : Side) (index : ℕ) (st : NodeState) (k : ℕ) : Type 0 where
  pub no_turn : state_at sizes plan me st k ≡ st
  pub no_begin : (st.epoch == k) ≡ false
  pub no_close : is_last sizes plan me st k ≡ false
  pub no_message : said_at sizes plan me index st 0 k ≡ None

-- the state at a tick, by the tick of the next epoch
abbrev turning : Sizes → Plan → Side → NodeState → ℕ → Option ℕ → NodeState
turning sizes plan me st k next =
    elim (is_tick next k) [ true ↦ elim next [ None ↦ st | Some epoch ↦ turn sizes plan.probation me epoch st ] | false ↦ st ]

-- if no frame begins with a tick, the node did not turn at it
turning-same : (sizes : Sizes) (plan : Plan) (me : Side) (st : NodeState) (k : ℕ) (next : Option ℕ)
    → ((turning sizes plan me st k next).epoch == k) ≡ false → turning sizes plan me st k next ≡ st
unfolding turn
turning-same sizes plan me st k None h = refl
turning-same sizes plan me st k (Some epoch) h = at-once (epoch == k) refl h
  where
    after : Bool → NodeState
    after b = elim b [ true ↦ turn sizes plan.probation me epoch st | false ↦ st ]

    at-once : (b : Bool) → (epoch == k) ≡ b → ((after b).epoch == k) ≡ false → after b ≡ st
    at-once true e h = cc
    at-once false e h = refl

pub state-same : (sizes : Sizes) (plan : Plan) (me : Side) (st : NodeState) (k : ℕ)
    → ((state_at sizes plan me st k).epoch == k) ≡ false → state_at sizes plan me st k ≡ st
unfolding state_at
state-same sizes plan me st k = turning-same sizes plan me st k (new_epoch_of plan me st)

pub quiet-from : (sizes : Sizes) (plan : Plan) (me : Side) (index : ℕ) (st : NodeState) (k : ℕ)
    → is_busy sizes plan me index st k ≡ false → IsQuiet sizes plan me index st k
unfolding is_busy
quiet-from sizes plan me index st k h =
    let now : NodeState = state_at sizes plan me st k in
    let last = or_parts ((now.epoch == k) || is_last sizes plan me now k) (is_some (said_at sizes plan me index now 0 k)) h in
    let parts = or_parts (now.epoch == k) (is_last sizes plan me now k) last.0 in
    let same : now ≡ st = state-same sizes plan me st k parts.0 in
    record {
      no_turn = same;
      no_begin = ap (λ s. s.epoch == k) (sym same) ∙ parts.0;
      no_close = ap (λ s. is_last sizes plan me s k) (sym same) ∙ parts.1;
      no_message = ap (λ s. said_at sizes plan me index s 0 k) (sym same) ∙ none-from (said_at sizes plan me index now 0 k) last.1;
    }

pub not-spent : (c : Core) → c.had < 2 ^ 31 → is_spent c ≡ false
not-spent c h = grind (arith, nat_tests)

-- an act in which nothing happens
abbrev pub nothing : Core → Act
nothing c = record { core = record c { had = c.had + 1 }; epoch = None; message = None; closed = None }

-- an act by whether the window is closed and whether a frame begins
no-act : (sizes : Sizes) (plan : Plan) (me : Side) (index : ℕ) (c : Core) → IsQuiet sizes plan me index c.state c.had
    → act_on sizes plan me index c c.state None c.state ≡ nothing c
unfolding act_on
no-act sizes plan me index c q =
    let x : Outcome = close_window sizes plan me index c.state (window_here sizes plan me c.state c.had) (of_source c.inbox) in
    let begin : Bool → Option Epoch = λ b. elim b [ true ↦ Some (epoch_of sizes me c.state) | false ↦ None ] in
    let act : Bool → Option Epoch → Act = λ b e. elim b [
      | true ↦ record { core = record { state = x.state; had = c.had + 1; inbox = [] }; epoch = e; message = None; closed = Some x.closed }
      | false ↦ record { core = record { state = c.state; had = c.had + 1; inbox = c.inbox }; epoch = e; message = None; closed = None }
    ] in
    ap (λ b. act b (epoch_at sizes me c.state c.had)) q.no_close ∙ ap (λ b. act false (begin b)) q.no_begin

-- a quiet tick is only counted
pub quiet-tick : (sizes : Sizes) (plan : Plan) (me : Side) (index : ℕ) (c : Core) → IsQuiet sizes plan me index c.state c.had → c.had < 2 ^ 31
    → tick sizes plan me index c 0 ≡ nothing c
unfolding tick act_at
quiet-tick sizes plan me index c q h =
    ap (λ b. elim b as (λ _. Act) [ true ↦ record { core = c; epoch = None; message = None; closed = None } | false ↦ act_at sizes plan me index c 0 ]) (not-spent c h)
    ∙ ap (λ st. act_on sizes plan me index c st (said_at sizes plan me index st 0 c.had) (state_kept sizes me index st 0 (said_at sizes plan me index st 0 c.had))) q.no_turn
    ∙ ap (λ m. act_on sizes plan me index c c.state m (state_kept sizes me index c.state 0 m)) q.no_message
    ∙ no-act sizes plan me index c q

-- n quiet ticks in a row are counted
pub quiet-ticks : (sizes : Sizes) (plan : Plan) (me : Side) (index n : ℕ) (c : Core)
    → ((k : ℕ) → c.had ≤ k → k < c.had + n → IsQuiet sizes plan me index c.state k) → c.had + n ≤ 2 ^ 31
    → ticks sizes plan me index n c ≡ record c { had = c.had + n }
quiet-ticks sizes plan me index zero c q h = let e : c.had + 0 ≡ c.had = omega arith in rw e refl
quiet-ticks sizes plan me index (suc n) c q h =
    let one : tick sizes plan me index c 0 ≡ nothing c = quiet-tick sizes plan me index c (q c.had (omega arith) (omega arith)) (omega arith) in
    let e : c.had + 1 + n ≡ c.had + suc n = omega arith in
    let rest : ticks sizes plan me index n (nothing c).core ≡ record c { had = c.had + 1 + n } =
    quiet-ticks sizes plan me index n (nothing c).core (λ k lo hi. q k (omega arith) (omega arith)) (omega arith) in
    ap (λ x. ticks sizes plan me index n x.core) one ∙ rest ∙ ap (λ m. record c { had = m }) e

-- tick k is the first from tick `had` on that is not quiet
pub record IsNext (sizes : Sizes) (plan : Plan) (me : Side) (index : ℕ) (st : NodeState) (had k : ℕ) : Type 0 where
  pub later : had ≤ k
  pub below : k < 2 ^ 31
  pub quiet_before : (m : ℕ) → had ≤ m → m < k → is_busy sizes plan me index st m ≡ false
  pub busy : is_busy sizes plan me index st k ≡ true

-- the search finds the first tick if it is busy, and else what it finds among the others
found : (sizes : Sizes) (plan : Plan) (me : Side) (index : ℕ) (st : NodeState) (had k : ℕ) (b : Bool) (others : Option ℕ)
    → had < 2 ^ 31 → is_busy sizes plan me index st had ≡ b → (others ≡ Some k → IsNext sizes plan me index st (suc had) k)
    → (elim b as (λ _. Option ℕ) [ true ↦ Some had | false ↦ others ]) ≡ Some k → IsNext sizes plan me index st had k
found sizes plan me index st had k true others room e rest h =
    let same : had ≡ k = cc in
    record {
      later = omega arith;
      below = omega arith;
      quiet_before = λ m lo hi. absurd (omega arith);
      busy = subst (λ m. is_busy sizes plan me index st m ≡ true) same e;
    }
found sizes plan me index st had k false others room e rest h =
    let n : IsNext sizes plan me index st (suc had) k = rest h in
    let later : suc had ≤ k = n.later in
    let first : (m : ℕ) (d : Bool) → (m == had) ≡ d → had ≤ m → m < k → is_busy sizes plan me index st m ≡ false =
    λ m d. elim d as (λ d. (m == had) ≡ d → had ≤ m → m < k → is_busy sizes plan me index st m ≡ false) [
      | true ↦ λ t lo hi. let same : had ≡ m = grind (arith, nat_tests) in subst (λ m. is_busy sizes plan me index st m ≡ false) same e
      | false ↦ λ t lo hi. let more : suc had ≤ m = grind (arith, nat_tests) in n.quiet_before m more hi
    ] in
    record { later = omega arith; below = n.below; quiet_before = λ m lo hi. first m (m == had) refl lo hi; busy = n.busy }

busy-is : (sizes : Sizes) (plan : Plan) (me : Side) (index : ℕ) (st : NodeState) (others had k : ℕ) → had + others ≤ 2 ^ 31
    → busy_among sizes plan me index st others had ≡ Some k → IsNext sizes plan me index st had k
busy-is sizes plan me index st zero had k room h = cc
busy-is sizes plan me index st (suc others) had k room h =
    found sizes plan me index st had k (is_busy sizes plan me index st had) (busy_among sizes plan me index st others (suc had)) (omega arith) refl
    (busy-is sizes plan me index st others (suc had) k (omega arith)) h

-- the next tick is the first that is not quiet
pub next-is : (sizes : Sizes) (plan : Plan) (me : Side) (index : ℕ) (c : Core) (k : ℕ) → c.had ≤ 2 ^ 31
    → next_tick sizes plan me index c ≡ Some k → IsNext sizes plan me index c.state c.had k
next-is sizes plan me index c k room h = busy-is sizes plan me index c.state (2 ^ 31 - c.had) c.had k (omega arith) h

-- the ticks before the next one that is not quiet are counted when they come, as `pass_to` does at
-- once
pub pass-is : (sizes : Sizes) (plan : Plan) (me : Side) (index n : ℕ) (c : Core) (k : ℕ) → c.had ≤ 2 ^ 31
    → next_tick sizes plan me index c ≡ Some k → c.had + n ≤ k → ticks sizes plan me index n c ≡ record c { had = c.had + n }
pass-is sizes plan me index n c k room h le =
    let next : IsNext sizes plan me index c.state c.had k = next-is sizes plan me index c k room h in
    let below : k < 2 ^ 31 = next.below in
    quiet-ticks sizes plan me index n c (λ m lo hi. quiet-from sizes plan me index c.state m (next.quiet_before m lo (omega arith))) (omega arith)

-- if the search finds no busy tick, all ticks that it looked at are quiet
not-found : (sizes : Sizes) (plan : Plan) (me : Side) (index : ℕ) (st : NodeState) (had end m : ℕ) (b : Bool) (others : Option ℕ)
    → is_busy sizes plan me index st had ≡ b → (others ≡ None → suc had ≤ m → m < end → is_busy sizes plan me index st m ≡ false)
    → (elim b as (λ _. Option ℕ) [ true ↦ Some had | false ↦ others ]) ≡ None → had ≤ m → m < end → is_busy sizes plan me index st m ≡ false
not-found sizes plan me index st had end m true others e rest h lo hi = cc
not-found sizes plan me index st had end m false others e rest h lo hi = split (m == had) refl
  where
    split : (d : Bool) → (m == had) ≡ d → is_busy sizes plan me index st m ≡ false
    split true t = let same : had ≡ m = grind (arith, nat_tests) in subst (λ m. is_busy sizes plan me index st m ≡ false) same e
    split false t = let more : suc had ≤ m = grind (arith, nat_tests) in rest h more hi

none-is : (sizes : Sizes) (plan : Plan) (me : Side) (index : ℕ) (st : NodeState) (others had m : ℕ)
    → busy_among sizes plan me index st others had ≡ None → had ≤ m → m < had + others → is_busy sizes plan me index st m ≡ false
none-is sizes plan me index st zero had m h lo hi = absurd (omega arith)
none-is sizes plan me index st (suc others) had m h lo hi =
    not-found sizes plan me index st had (had + suc others) m (is_busy sizes plan me index st had) (busy_among sizes plan me index st others (suc had)) refl
    (λ g more below. none-is sizes plan me index st others (suc had) m g more (omega arith)) h lo hi

-- if no busy tick is to come, all ticks are only counted, until the core is spent
pub pass-all : (sizes : Sizes) (plan : Plan) (me : Side) (index n : ℕ) (c : Core) → next_tick sizes plan me index c ≡ None
    → c.had + n ≤ 2 ^ 31 → ticks sizes plan me index n c ≡ record c { had = c.had + n }
pass-all sizes plan me index n c h le =
    quiet-ticks sizes plan me index n c
    (λ m lo hi. quiet-from sizes plan me index c.state m (none-is sizes plan me index c.state (2 ^ 31 - c.had) c.had m h lo (omega arith)))
    le

-- an arrival changes the inbox alone
arrived : (c : Core) (from : ℕ) (bytes : List ℕ) (b : Bool) → Core
arrived c from bytes b = elim b [ true ↦ record c { inbox = c.inbox ++ (from, record { stamp = c.had; bytes = bytes }) ∷ [] } | false ↦ c ]

arrived-same : (c : Core) (from : ℕ) (bytes : List ℕ) (b : Bool) → ((arrived c from bytes b).state ≡ c.state) × ((arrived c from bytes b).had ≡ c.had)
unfolding arrived
arrived-same c from bytes true = (refl, refl)
arrived-same c from bytes false = (refl, refl)

pub arrive-same : (sizes : Sizes) (me : Side) (c : Core) (from : ℕ) (bytes : List ℕ)
    → ((arrive sizes me c from bytes).state ≡ c.state) × ((arrive sizes me c from bytes).had ≡ c.had)
unfolding arrive arrived
arrive-same sizes me c from bytes = arrived-same c from bytes (nat_lt from (count_of (other me) sizes) && not (is_spent c))

pub arrive-next : (sizes : Sizes) (plan : Plan) (me : Side) (index : ℕ) (c : Core) (from : ℕ) (bytes : List ℕ)
    → next_tick sizes plan me index (arrive sizes me c from bytes) ≡ next_tick sizes plan me index c
arrive-next sizes plan me index c from bytes =
    let e = arrive-same sizes me c from bytes in
    ap (λ st. busy_among sizes plan me index st (2 ^ 31 - (arrive sizes me c from bytes).had) (arrive sizes me c from bytes).had) e.0
    ∙ ap (λ had. busy_among sizes plan me index c.state (2 ^ 31 - had) had) e.1

-- quiet ticks that pass leave the next busy tick the next
pub passed-next : (sizes : Sizes) (plan : Plan) (me : Side) (index : ℕ) (st : NodeState) (had k m : ℕ)
    → IsNext sizes plan me index st had k → had ≤ m → m ≤ k → IsNext sizes plan me index st m k
passed-next sizes plan me index st had k m n lo hi =
    record { later = hi; below = n.below; quiet_before = λ j a b. n.quiet_before j (omega arith) b; busy = n.busy }
