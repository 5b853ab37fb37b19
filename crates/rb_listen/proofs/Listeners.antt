-- What a listener's calls come to.
use Rattle.std.proofs.{Common.{◌≡◌, ℕ, zero, suc, ◌+◌, ◌<◌, ◌≤◌, ◌^◌, ◌==◌, ◌&&◌, nat_lt, Bool, true, false, refl, ap, sym, ◌∙◌, subst, arith, Option, Some, None, unwrap_or, List, if◌then◌else◌, option_and_then}, lemmas.Bool.Decides.nat_tests}
use Rattle.rb_base.specs.{Nodes.Side.Biu, Sizes.Sizes, declared.values.Delivery.Delivery}
use Rattle.rb_rules.specs.{declared.closing.Closed.Closed, declared.plan.Plan.Plan, Core.{Act, Core, arrive, is_tick}}
use Rattle.rb_node.specs.{Acts.IsAct, Cores.{IsCore, Running}, declared.act.Step.Step}
use Rattle.rb_rules.proofs.QuietTicks.{nothing}
use Rattle.rb_listen.specs.{Following.{arrive_at, follow, follow_at, follows, follows_at, wakes}, Waking.wakes_at, Lessons.first_of, Listeners.IsListeningIn, Listening.{Heeding, Listening, TellNothing, decided, decision_of, first_core, followed, frame_of, had_by, hear, heed, heeds, in_time, is_deciding, is_over, later, next_heed, search_on, searching, told, untold, wait_on}, declared.heed.Heed.Heed, declared.lesson.First.First, declared.listener.Stage.TheVariants.Following, declared.search.Search.Search}
use Rattle.rb_listen.proofs.Waking.{quiet-tick}
use Rattle.rb_listen.specs.Listening as now

over : (n : ℕ) → 2 ^ 31 ≤ n → is_over n ≡ true
over n h = grind (arith, nat_tests)

not-over : (n : ℕ) → n < 2 ^ 31 → is_over n ≡ false
not-over n h = grind (arith, nat_tests)

-- Arrivals.

pub hears-searching : (sizes : Sizes) (plan : Plan) (from : ℕ) (bytes : List ℕ) (s t : Search) (l : Listening) → t ≡ searching sizes plan from bytes s
    → l ≡ now.Searching s → hear sizes plan from bytes l ≡ now.Searching t
unfolding hear
hears-searching sizes plan from bytes s t l is at = ap (hear sizes plan from bytes) at ∙ ap (λ x. now.Searching x) (sym is)

pub hears-waiting : (sizes : Sizes) (plan : Plan) (from : ℕ) (bytes : List ℕ) (had : ℕ) (first : First) (l : Listening) → l ≡ now.Waiting had first
    → hear sizes plan from bytes l ≡ now.Waiting had first
unfolding hear
hears-waiting sizes plan from bytes had first l at = ap (hear sizes plan from bytes) at

pub hears-following : (sizes : Sizes) (plan : Plan) (from : ℕ) (bytes : List ℕ) (s : Search) (n m : Running) (l : Listening) → n.seat.sizes ≡ sizes
    → ((c : Core) → IsCore n c → IsCore m (arrive_at n c from bytes)) → IsListeningIn Following s n l
    → IsListeningIn Following s m (hear sizes plan from bytes l)
unfolding hear
hears-following sizes plan from bytes s n m l same cores (c, (is, at)) = (
  arrive_at n c from bytes,
  (cores c is, ap (hear sizes plan from bytes) at ∙ ap (λ x. now.Following (arrive x Biu c from bytes)) (sym same)),
)

-- Ticks.

pub heeds-spent : (sizes : Sizes) (plan : Plan) (s : Search) (l : Listening) → 2 ^ 31 ≤ s.had → l ≡ now.Searching s
    → heed sizes plan l ≡ untold (now.Searching s)
unfolding heed
heeds-spent sizes plan s l spent at =
    ap (heed sizes plan) at
    ∙ ap (λ b. elim b as (λ _. Heeding) [ true ↦ untold (now.Searching s) | false ↦ untold (search_on sizes plan s) ]) (over s.had spent)

pub heeds-searching : (sizes : Sizes) (plan : Plan) (s : Search) (l : Listening) → s.had < 2 ^ 31 → l ≡ now.Searching s
    → heed sizes plan l ≡ untold (search_on sizes plan s)
unfolding heed
heeds-searching sizes plan s l below at =
    ap (heed sizes plan) at
    ∙ ap (λ b. elim b as (λ _. Heeding) [ true ↦ untold (now.Searching s) | false ↦ untold (search_on sizes plan s) ]) (not-over s.had below)

pub heeds-over : (sizes : Sizes) (plan : Plan) (had : ℕ) (first : First) (l : Listening) → 2 ^ 31 ≤ had → l ≡ now.Waiting had first
    → heed sizes plan l ≡ untold (now.Waiting had first)
unfolding heed
heeds-over sizes plan had first l spent at =
    ap (heed sizes plan) at
    ∙ ap (λ b. elim b as (λ _. Heeding) [ true ↦ untold (now.Waiting had first) | false ↦ wait_on sizes plan had first (first.epoch == had) ]) (over had spent)

heeds-waiting : (sizes : Sizes) (plan : Plan) (had : ℕ) (first : First) (l : Listening) (b : Bool) → had < 2 ^ 31 → l ≡ now.Waiting had first
    → (first.epoch == had) ≡ b → heed sizes plan l ≡ wait_on sizes plan had first b
unfolding heed
heeds-waiting sizes plan had first l b below at is =
    ap (heed sizes plan) at
    ∙ ap (λ b. elim b as (λ _. Heeding) [ true ↦ untold (now.Waiting had first) | false ↦ wait_on sizes plan had first (first.epoch == had) ]) (not-over had below)
    ∙ ap (wait_on sizes plan had first) is

pub heeds-begin : (sizes : Sizes) (plan : Plan) (had : ℕ) (first : First) (l : Listening) → had < 2 ^ 31 → l ≡ now.Waiting had first → first.epoch ≡ had
    → heed sizes plan l ≡ followed (follow sizes plan (first_core sizes first))
heeds-begin sizes plan had first l below at is =
    let same : (first.epoch == had) ≡ true = grind (arith, nat_tests) in
    heeds-waiting sizes plan had first l true below at same

pub heeds-wait : (sizes : Sizes) (plan : Plan) (had : ℕ) (first : First) (l : Listening) → had < 2 ^ 31 → l ≡ now.Waiting had first
    → (first.epoch ≡ had → ⊥) → heed sizes plan l ≡ untold (now.Waiting (had + 1) first)
heeds-wait sizes plan had first l below at differs =
    let other : (first.epoch == had) ≡ false = grind (arith, nat_tests) in
    heeds-waiting sizes plan had first l false below at other

-- the first tick of the first frame, by a follower that stands for its core
pub begins-following : (sizes : Sizes) (plan : Plan) (had : ℕ) (first : First) (s : Search) (n m : Running) (l : Listening) (h : Heed)
    → had < 2 ^ 31 → l ≡ now.Waiting had first → first.epoch ≡ had → n.seat.sizes ≡ sizes → n.seat.plan ≡ plan → IsCore n (first_core sizes first)
    → ((c : Core) → IsCore n c → IsCore m (follow_at n c).core) → ((c : Core) → IsCore n c → h ≡ told (follow_at n c))
    → IsListeningIn Following s m (heed sizes plan l).listening × (h ≡ (heed sizes plan l).heed)
begins-following sizes plan had first s n m l h below at is e f core cores tells =
    let c : Core = first_core sizes first in
    let all : heed sizes plan l ≡ followed (follow sizes plan c) = heeds-begin sizes plan had first l below at is in
    let acts : follow_at n c ≡ follow sizes plan c = ap (λ x. follow x n.seat.plan c) e ∙ ap (λ p. follow sizes p c) f in (
      ((follow_at n c).core, (cores c core, ap (λ (x : Heeding). x.listening) all ∙ ap (λ (x : Act). now.Following x.core) (sym acts))),
      tells c core ∙ ap told acts ∙ sym (ap (λ (x : Heeding). x.heed) all),
    )

-- a listener that follows goes on as `follow` says
follows-now : (sizes : Sizes) (plan : Plan) (c : Core) (l : Listening) → l ≡ now.Following c → heed sizes plan l ≡ followed (follow sizes plan c)
unfolding heed
follows-now sizes plan c l at = ap (heed sizes plan) at

pub goes-on-following : (sizes : Sizes) (plan : Plan) (s : Search) (n m : Running) (l : Listening) (h : Heed) → n.seat.sizes ≡ sizes → n.seat.plan ≡ plan
    → ((c : Core) → IsCore n c → IsCore m (follow_at n c).core) → ((c : Core) → IsCore n c → h ≡ told (follow_at n c)) → IsListeningIn Following s n l
    → IsListeningIn Following s m (heed sizes plan l).listening × (h ≡ (heed sizes plan l).heed)
goes-on-following sizes plan s n m l h e f cores tells (c, (core, at)) =
    let all : heed sizes plan l ≡ followed (follow sizes plan c) = follows-now sizes plan c l at in
    let acts : follow_at n c ≡ follow sizes plan c = ap (λ x. follow x n.seat.plan c) e ∙ ap (λ p. follow sizes p c) f in (
      ((follow_at n c).core, (cores c core, ap (λ (x : Heeding). x.listening) all ∙ ap (λ (x : Act). now.Following x.core) (sym acts))),
      tells c core ∙ ap told acts ∙ sym (ap (λ (x : Heeding). x.heed) all),
    )

-- a step delivers what the window delivers that it closes, if it closes one
delivered-by : (shown : Closed) (b : Bool) → option_and_then (λ (c : Closed). c.delivered) (if b then Some shown else None) ≡ (if b then shown.delivered else None)
delivered-by shown true = refl
delivered-by shown false = refl

pub tells : (shown : Closed) (step : Step) (x : Act) (d : Option Delivery) → IsAct shown step x → d ≡ (if step.closed then shown.delivered else None)
    → (let h : Heed = record { epoch = step.epoch; delivered = d } in h) ≡ told x
tells shown step x d is e =
    ap (λ y. let h : Heed = record { epoch = step.epoch; delivered = y } in h) (e ∙ sym (delivered-by shown step.closed) ∙ ap (option_and_then (λ (c : Closed). c.delivered)) is.closed)
    ∙ ap (λ y. let h : Heed = record { epoch = y; delivered = option_and_then (λ (c : Closed). c.delivered) x.closed } in h) is.epoch

-- Quiet ticks.

-- a tick before the end of what may pass comes before the tick that is fixed
before-end : (had : ℕ) (tick : Option ℕ) → had < unwrap_or (in_time tick) (2 ^ 31) → (is_tick tick had ≡ false) × (had < 2 ^ 31)
before-end had None h = (refl, h)
before-end had (Some tick) h = by (nat_lt tick (2 ^ 31)) refl h
  where
    by : (b : Bool) → nat_lt tick (2 ^ 31) ≡ b → had < unwrap_or (elim b as (λ _. Option ℕ) [ true ↦ Some tick | false ↦ None ]) (2 ^ 31)
        → ((tick == had) ≡ false) × (had < 2 ^ 31)
    by true e below = (let first : had < tick = below in grind (arith, nat_tests), let first : had < tick = below in let most : tick < 2 ^ 31 = grind (arith, nat_tests) in omega arith)
    by false e below = (let first : had < 2 ^ 31 = below in let most : 2 ^ 31 ≤ tick = grind (arith, nat_tests) in let first2 : had < tick = omega arith in grind (arith, nat_tests), below)

deciding-by : (b : Bool) (d : Option ℕ) (had : ℕ) → is_tick (elim b as (λ _. Option ℕ) [ true ↦ d | false ↦ None ]) had ≡ false → (b && is_tick d had) ≡ false
deciding-by true d had h = h
deciding-by false d had h = refl

search-quiet : (sizes : Sizes) (plan : Plan) (s : Search) → is_deciding s ≡ false → search_on sizes plan s ≡ now.Searching (later s)
unfolding search_on
search-quiet sizes plan s h =
    ap (λ b. elim b as (λ _. Listening) [ true ↦ decided s (first_of sizes plan s.lesson) | false ↦ now.Searching (later s) ]) h

pub passes-searching : (sizes : Sizes) (plan : Plan) (n : ℕ) (s : Search) → s.had + n ≤ unwrap_or (in_time (decision_of s)) (2 ^ 31)
    → heeds sizes plan n (now.Searching s) ≡ now.Searching (record s { had = s.had + n })
passes-searching sizes plan zero s h =
    let none : s.had ≡ s.had + 0 = omega arith in ap (λ k. now.Searching (record s { had = k })) none
passes-searching sizes plan (suc n) s h =
    let quiet = before-end s.had (decision_of s) (omega arith) in
    let one : heed sizes plan (now.Searching s) ≡ untold (now.Searching (later s)) =
    heeds-searching sizes plan s (now.Searching s) quiet.1 refl
    ∙ ap untold (search-quiet sizes plan s (deciding-by s.learns s.lesson.decides s.had quiet.0)) in
    let e : s.had + 1 + n ≡ s.had + suc n = omega arith in
    ap (λ (x : Heeding). heeds sizes plan n x.listening) one ∙ passes-searching sizes plan n (later s) (omega arith)
    ∙ ap (λ k. now.Searching (record s { had = k })) e

pub passes-waiting : (sizes : Sizes) (plan : Plan) (n had : ℕ) (first : First) → had + n ≤ unwrap_or (in_time (Some first.epoch)) (2 ^ 31)
    → heeds sizes plan n (now.Waiting had first) ≡ now.Waiting (had + n) first
passes-waiting sizes plan zero had first h = let none : had ≡ had + 0 = omega arith in ap (λ k. now.Waiting k first) none
passes-waiting sizes plan (suc n) had first h =
    let quiet = before-end had (Some first.epoch) (omega arith) in
    let one : heed sizes plan (now.Waiting had first) ≡ untold (now.Waiting (had + 1) first) =
    heeds-waiting sizes plan had first (now.Waiting had first) false quiet.1 refl quiet.0 in
    let e : had + 1 + n ≡ had + suc n = omega arith in
    ap (λ (x : Heeding). heeds sizes plan n x.listening) one ∙ passes-waiting sizes plan n (had + 1) first (omega arith)
    ∙ ap (λ k. now.Waiting k first) e

follows-on : (sizes : Sizes) (plan : Plan) (n : ℕ) (c : Core) → heeds sizes plan n (now.Following c) ≡ now.Following (follows sizes plan n c)
follows-on sizes plan zero c = refl
follows-on sizes plan (suc n) c =
    ap (λ (x : Heeding). heeds sizes plan n x.listening) (follows-now sizes plan c (now.Following c) refl) ∙ follows-on sizes plan n (follow sizes plan c).core

pub passes-following : (sizes : Sizes) (plan : Plan) (ticks : ℕ) (s : Search) (n m : Running) (l : Listening) → n.seat.sizes ≡ sizes → n.seat.plan ≡ plan
    → ((c : Core) → IsCore n c → IsCore m (follows_at n ticks c)) → IsListeningIn Following s n l → IsListeningIn Following s m (heeds sizes plan ticks l)
passes-following sizes plan ticks s n m l e f cores (c, (core, at)) = (
  follows_at n ticks c,
  (
    cores c core,
    ap (heeds sizes plan ticks) at ∙ follows-on sizes plan ticks c
        ∙ ap (λ x. now.Following (follows x plan ticks c)) (sym e) ∙ ap (λ p. now.Following (follows n.seat.sizes p ticks c)) (sym f),
  ),
)

-- Ticks that tell nothing.

pub nothing-searching : (sizes : Sizes) (plan : Plan) (n : ℕ) (s : Search) → s.had + n ≤ unwrap_or (in_time (decision_of s)) (2 ^ 31)
    → TellNothing sizes plan n (now.Searching s)
nothing-searching sizes plan zero s h = tt
nothing-searching sizes plan (suc n) s h =
    let quiet = before-end s.had (decision_of s) (omega arith) in
    let one : heed sizes plan (now.Searching s) ≡ untold (now.Searching (later s)) =
    heeds-searching sizes plan s (now.Searching s) quiet.1 refl
    ∙ ap untold (search-quiet sizes plan s (deciding-by s.learns s.lesson.decides s.had quiet.0)) in (
      ap (λ (x : Heeding). x.heed) one,
      subst (λ (x : Heeding). TellNothing sizes plan n x.listening) (sym one) (nothing-searching sizes plan n (later s) (omega arith)),
    )

pub nothing-waiting : (sizes : Sizes) (plan : Plan) (n had : ℕ) (first : First) → had + n ≤ unwrap_or (in_time (Some first.epoch)) (2 ^ 31)
    → TellNothing sizes plan n (now.Waiting had first)
nothing-waiting sizes plan zero had first h = tt
nothing-waiting sizes plan (suc n) had first h =
    let quiet = before-end had (Some first.epoch) (omega arith) in
    let one : heed sizes plan (now.Waiting had first) ≡ untold (now.Waiting (had + 1) first) =
    heeds-waiting sizes plan had first (now.Waiting had first) false quiet.1 refl quiet.0 in (
      ap (λ (x : Heeding). x.heed) one,
      subst (λ (x : Heeding). TellNothing sizes plan n x.listening) (sym one) (nothing-waiting sizes plan n (had + 1) first (omega arith)),
    )

nothing-of : (sizes : Sizes) (plan : Plan) (n : ℕ) (c : Core) → ((k : ℕ) → c.had ≤ k → k < c.had + n → wakes sizes plan c.state k ≡ false)
    → c.had + n ≤ 2 ^ 31 → TellNothing sizes plan n (now.Following c)
nothing-of sizes plan zero c q h = tt
nothing-of sizes plan (suc n) c q h =
    let one : heed sizes plan (now.Following c) ≡ followed (nothing c) =
    follows-now sizes plan c (now.Following c) refl ∙ ap followed (quiet-tick sizes plan c (q c.had (omega arith) (omega arith)) (omega arith)) in (
      ap (λ (x : Heeding). x.heed) one,
      subst (λ (x : Heeding). TellNothing sizes plan n x.listening) (sym one)
          (nothing-of sizes plan n (nothing c).core (λ k lo hi. q k (omega arith) (omega arith)) (omega arith)),
    )

pub nothing-following : (sizes : Sizes) (plan : Plan) (ticks : ℕ) (s : Search) (n : Running) (l : Listening) → n.seat.sizes ≡ sizes → n.seat.plan ≡ plan
    → ((k : ℕ) → n.had ≤ k → k < n.had + ticks → wakes_at n.seat k ≡ false) → n.had + ticks ≤ 2 ^ 31 → IsListeningIn Following s n l
    → TellNothing sizes plan ticks l
nothing-following sizes plan ticks s n l e f quiet most (c, (core, at)) =
    let had : c.had ≡ n.had = core.had in
    subst (TellNothing sizes plan ticks) (sym at)
    (nothing-of sizes plan ticks c
    (λ k lo hi. ap (λ st. wakes sizes plan st k) core.state ∙ ap (λ x. wakes x plan n.seat.state k) (sym e) ∙ ap (λ p. wakes n.seat.sizes p n.seat.state k) (sym f)
    ∙ quiet k (omega arith) (omega arith)) (omega arith))
