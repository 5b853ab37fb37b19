-- For the law that every run ends: each event that is taken leaves fewer ticks before 2^31, or
-- fewer messages on their way, so their number is bounded.
use Rattle.std.proofs.{Common.{◌≡◌, ℕ, zero, suc, ◌+◌, ◌-◌, ◌*◌, ◌^◌, ◌<◌, ◌≤◌, ◌==◌, ◌&&◌, Bool, true, false, List, [], ◌∷◌, ◌++◌, length, refl, ap, sym, ◌∙◌, subst, arith, Option, Some, None, option_map, remove, slice_get}, lemmas.Bool.Decides.nat_tests, lemmas.Nat.mul-le}
use Rattle.rb_base.specs.{Nodes.{Side, other}, Nodes.Side.{Biu, Rmu}, Sizes.Sizes}
use Rattle.rb_base.proofs.Plain.{true-false}
use Rattle.rb_rules.specs.{declared.closing.Closed.Closed, declared.message.Message.Message, declared.plan.Plan.Plan, declared.record.Epoch.Epoch, Book.{Each, map_from, of_kind}, Core.{Act, Core, busy_among, is_busy, is_spent, next_tick, pass_to, said_at, state_at, state_kept, tick}, Goodness.{Scenario, is_good}, Hearing.{Coming, Sending, Span, coming_of}, NodeState.NodeState, Ports.PortState, Slots.same_side, WorldStep.{Site, Timed, after_act, after_arrival, at_node, await, enter, pass_and_tick, proceed, says_in, sent_to, span_from, stop, with_close, with_epoch, with_message}}
use Rattle.rb_laws_events.specs.Laws.{SayAtMost, most_with, nodes_of}
use Rattle.rb_laws_events.proofs.{ActCases.{act-by, tick-by}, PendingLists.StandsAt}

-- What is left of a node: its ticks, each with all that it may make pending, and what is on its way
-- to it.

abbrev pub ticks_left : Option Timed → ℕ
ticks_left None = 0
ticks_left (Some a) = 2 ^ 31 - a.tick

unfoldable pub left_of : ℕ → Site → ℕ
left_of most s = ticks_left s.ahead * (most + 1) + length s.coming

abbrev pub sum_left : ℕ → List Site → ℕ
sum_left most [] = 0
sum_left most (s ∷ ss) = left_of most s + sum_left most ss

abbrev pub all_left : ℕ → Each Site → ℕ
all_left most sites = sum_left most sites.bius + sum_left most sites.rmus

-- Sums.

sum-past : (most : ℕ) (change : Site → Site) (k j : ℕ) (xs : List Site) → j < k
    → sum_left most (map_from k (λ n s. elim (n == j) as (λ _. Site) [ true ↦ change s | false ↦ s ]) xs) ≡ sum_left most xs
sum-past most change k j [] h = refl
sum-past most change k j (x ∷ xs) h =
    ap (λ b. left_of most (elim b as (λ _. Site) [ true ↦ change x | false ↦ x ])
    + sum_left most (map_from (k + 1) (λ n s. elim (n == j) as (λ _. Site) [ true ↦ change s | false ↦ s ]) xs)) (differs k j h)
    ∙ ap (λ n. left_of most x + n) (sum-past most change (k + 1) j xs (omega (arith, h)))
  where
    differs : (a b : ℕ) → b < a → (a == b) ≡ false
    differs a b h = grind (arith, nat_tests)

-- if a change leaves one node `d` fewer, all nodes together have `d` fewer left
sum-one : (most : ℕ) (change : Site → Site) (k i j d : ℕ) (xs : List Site) {s : _} → j ≡ k + i → slice_get xs i ≡ Some s → left_of most (change s) + d ≤ left_of most s
    → sum_left most (map_from k (λ n s. elim (n == j) as (λ _. Site) [ true ↦ change s | false ↦ s ]) xs) + d ≤ sum_left most xs
sum-one most change k i j d [] is e h = cc
sum-one most change k zero j d (x ∷ xs) {s} is e h =
    let same : x ≡ s = cc in
    let here : (k == j) ≡ true = same-is k j (omega (arith, is)) in
    let head : left_of most (elim (k == j) as (λ _. Site) [ true ↦ change x | false ↦ x ]) ≡ left_of most (change x) =
    ap (λ b. left_of most (elim b as (λ _. Site) [ true ↦ change x | false ↦ x ])) here in
    let less : left_of most (change x) + d ≤ left_of most x = subst (λ s. left_of most (change s) + d ≤ left_of most s) (sym same) h in
    let rest = sum-past most change (k + 1) j xs (omega (arith, is)) in
    omega (arith, head, less, rest)
  where
    same-is : (a b : ℕ) → a ≡ b → (a == b) ≡ true
    same-is a b h = grind (arith, nat_tests)
sum-one most change k (suc i) j d (x ∷ xs) is e h =
    let rest = sum-one most change (k + 1) i j d xs (omega (arith, is)) e h in
    let head : left_of most (elim (k == j) as (λ _. Site) [ true ↦ change x | false ↦ x ]) ≡ left_of most x =
    ap (λ b. left_of most (elim b as (λ _. Site) [ true ↦ change x | false ↦ x ])) (differs k j (omega (arith, is))) in
    omega (arith, head, rest)
  where
    differs : (a b : ℕ) → a < b → (a == b) ≡ false
    differs a b h = grind (arith, nat_tests)

sum-same : (most : ℕ) (make : ℕ → Site → Site) (k : ℕ) (xs : List Site) → ((n : ℕ) (s : Site) → make n s ≡ s) → sum_left most (map_from k make xs) ≡ sum_left most xs
sum-same most make k [] same = refl
sum-same most make k (x ∷ xs) same = ap (λ s. left_of most s + sum_left most (map_from (k + 1) make xs)) (same k x) ∙ ap (λ n. left_of most x + n) (sum-same most make (k + 1) xs same)

sum-more : (most : ℕ) (make : ℕ → Site → Site) (k : ℕ) (xs : List Site) → ((n : ℕ) (s : Site) → left_of most (make n s) ≤ left_of most s + 1)
    → sum_left most (map_from k make xs) ≤ sum_left most xs + length xs
sum-more most make k [] each = omega arith
sum-more most make k (x ∷ xs) each =
    let head : left_of most (make k x) ≤ left_of most x + 1 = each k x in
    let rest = sum-more most make (k + 1) xs each in
    omega (arith, head, rest)

-- if a change leaves one node `d` fewer, all nodes together have `d` fewer left
pub one-less : (most : ℕ) (change : Site → Site) (me : Side) (i d : ℕ) (sites : Each Site) {s : _} → slice_get (of_kind me sites) i ≡ Some s → left_of most (change s) + d ≤ left_of most s
    → all_left most (at_node me i change sites) + d ≤ all_left most sites
one-less most change Biu i d sites {s} there h =
    let one = sum-one most change 0 i i d sites.bius (omega arith) there h in
    let rest = sum-same most (λ n s. s) 0 sites.rmus (λ n s. refl) in
    omega (arith, one, rest)
one-less most change Rmu i d sites {s} there h =
    let one = sum-one most change 0 i i d sites.rmus (omega arith) there h in
    let rest = sum-same most (λ n s. s) 0 sites.bius (λ n s. refl) in
    omega (arith, one, rest)

length-one : (xs : List Coming) (c : Coming) → length (xs ++ c ∷ []) ≡ length xs + 1
length-one [] c = refl
length-one (x ∷ xs) c = let rest = length-one xs c in omega (arith, rest)

sent-left : (most : ℕ) (sc : Scenario) (me : Side) (j frame : ℕ) (x : Sending) (side : Side) (i : ℕ) (s : Site) → left_of most (sent_to sc me j frame x side i s) ≤ left_of most s + 1
unfolding left_of
sent-left most sc me j frame x side i s = by (same_side side (other me) && s.runs)
  where
    by : (b : Bool) → ticks_left (elim b as (λ _. Site) [ true ↦ record s { coming = s.coming ++ coming_of sc side i j frame x ∷ [] } | false ↦ s ]).ahead * (most + 1)
        + length (elim b as (λ _. Site) [ true ↦ record s { coming = s.coming ++ coming_of sc side i j frame x ∷ [] } | false ↦ s ]).coming
        ≤ ticks_left s.ahead * (most + 1) + length s.coming + 1
    by true = let more = length-one s.coming (coming_of sc side i j frame x) in omega (arith, more)
    by false = omega arith

pub message-left : (most : ℕ) (sc : Scenario) (me : Side) (j frame k : ℕ) (m : Option Message) (sites : Each Site)
    → all_left most (with_message sc me j frame k m sites) ≤ all_left most sites + (length sites.bius + length sites.rmus)
message-left most sc me j frame k None sites = omega arith
message-left most sc me j frame k (Some m) sites =
    let x : Sending = record { tick = k; message = m } in
    let bius = sum-more most (sent_to sc me j frame x Biu) 0 sites.bius (sent-left most sc me j frame x Biu) in
    let rmus = sum-more most (sent_to sc me j frame x Rmu) 0 sites.rmus (sent-left most sc me j frame x Rmu) in
    omega (arith, bius, rmus)

-- Lists.

length-both : {X : Type 0} (xs ys : List X) → length (xs ++ ys) ≡ length xs + length ys
length-both [] ys = omega arith
length-both (x ∷ xs) ys = let rest = length-both xs ys in omega (arith, rest)

-- A tick.

pub busy-later : (sizes : Sizes) (plan : Plan) (me : Side) (i : ℕ) (st : NodeState) (n k : ℕ) {x : ℕ} → busy_among sizes plan me i st n k ≡ Some x → k ≤ x
busy-later sizes plan me i st zero k e = cc
busy-later sizes plan me i st (suc n) k {x} e = by (is_busy sizes plan me i st k) (λ h. busy-later sizes plan me i st n (suc k) h) e
  where
    by : (b : Bool) → (busy_among sizes plan me i st n (suc k) ≡ Some x → suc k ≤ x)
        → (elim b as (λ _. Option ℕ) [ true ↦ Some k | false ↦ busy_among sizes plan me i st n (suc k) ]) ≡ Some x → k ≤ x
    by true rest h = let same : k ≡ x = cc in omega (arith, same)
    by false rest h = let le : suc k ≤ x = rest h in omega (arith, le)

pub tick-had : (sizes : Sizes) (plan : Plan) (me : Side) (i : ℕ) (c : Core) (word : ℕ) → c.had < 2 ^ 31 → (tick sizes plan me i c word).core.had ≡ c.had + 1
tick-had sizes plan me i c word small =
    let st : NodeState = state_at sizes plan me c.state c.had in
    let m : Option Message = said_at sizes plan me i st word c.had in
    let Had : Act → Type 0 = λ x. x.core.had ≡ c.had + 1 in
    tick-by Had sizes plan me i c word (λ spent. true-false (sym spent ∙ not-spent c small)) (λ _. act-by Had sizes plan me i c st m (state_kept sizes me i st word m) (λ _. refl) (λ _. refl))
  where
    not-spent : (c : Core) → c.had < 2 ^ 31 → is_spent c ≡ false
    not-spent c h = grind (arith, nat_tests)

next-left : (had : ℕ) (f : ℕ → Timed) → ((k : ℕ) → (f k).tick ≡ k) → (o : Option ℕ) → ((k : ℕ) → o ≡ Some k → had ≤ k) → ticks_left (option_map f o) ≤ 2 ^ 31 - had
next-left had f its None later = omega arith
next-left had f its (Some k) later =
    let le : had ≤ k = later k refl in
    let same : (f k).tick ≡ k = its k in
    omega (arith, le, same)

-- a node that goes on has fewer ticks left, and at most what is said to it more on its way
pub record LeavesFew (n had : ℕ) (s z : Site) : Type 0 where
  pub ticks : ticks_left z.ahead ≤ 2 ^ 31 - had
  pub coming : length z.coming ≤ length s.coming + n

await-few : (sc : Scenario) (n : ℕ) (me : Side) (i : ℕ) (more : List Coming) (s : Site) → length more ≤ n → LeavesFew n s.core.had s (await sc me i more s)
await-few sc n me i more s few =
    let both = length-both s.coming more in
    record {
      ticks = next-left s.core.had _ (λ k. refl) (next_tick sc.sizes sc.plan me i s.core)
          (λ k e. busy-later sc.sizes sc.plan me i s.core.state (2 ^ 31 - s.core.had) s.core.had e);
      coming = omega (arith, both, few);
    }

pub enter-few : (sc : Scenario) {n : ℕ} → SayAtMost sc n → (me : Side) (i : ℕ) (o : Option Span) (s : Site) → LeavesFew n s.core.had s (enter sc me i o s)
enter-few sc {n} say me i None s = await-few sc n me i [] s (omega arith)
enter-few sc {n} say me i (Some span) s = by (is_good sc me i span.place.frame span.place.slot)
  where
    by : (b : Bool) → LeavesFew n s.core.had s (elim b as (λ _. Site) [ true ↦ await sc me i (says_in sc me i span) s | false ↦ stop s ])
    by true = await-few sc n me i (says_in sc me i span) s (say me i span)
    by false = record { ticks = omega arith; coming = omega arith }

pub close-same : (me : Side) (i : ℕ) (st : NodeState) (c : Option Closed) (s : Site) → ((with_close me i st c s).core ≡ s.core) × ((with_close me i st c s).coming ≡ s.coming)
close-same me i st None s = (refl, refl)
close-same me i st (Some c) s = (refl, refl)

pub epoch-same : (sc : Scenario) (ports : List PortState) (me : Side) (i : ℕ) (e : Option Epoch) (s : Site) → ((with_epoch sc ports me i e s).core ≡ s.core) × ((with_epoch sc ports me i e s).coming ≡ s.coming)
epoch-same sc ports me i None s = (refl, refl)
epoch-same sc ports me i (Some e) s = (refl, refl)

act-few : (sc : Scenario) {n : ℕ} → SayAtMost sc n → (ports : List PortState) (me : Side) (i : ℕ) (x : Act) (s : Site) → LeavesFew n x.core.had s (after_act sc ports me i x s)
unfolding after_act proceed
act-few sc {n} say ports me i x s =
    let one : Site = record s { core = x.core } in
    let two : Site = with_close me i x.core.state x.closed one in
    let three : Site = with_epoch sc ports me i x.epoch two in
    let a = close-same me i x.core.state x.closed one in
    let b = epoch-same sc ports me i x.epoch two in
    let core : three.core ≡ x.core = b.0 ∙ a.0 in
    let coming : three.coming ≡ s.coming = b.1 ∙ a.1 in
    let few : LeavesFew n three.core.had three (enter sc me i (span_from sc.sizes sc.plan me three.core.state three.core.had) three) =
    enter-few sc say me i (span_from sc.sizes sc.plan me three.core.state three.core.had) three in
    record {
      ticks = let had : three.core.had ≡ x.core.had = ap (λ (c : Core). c.had) core in let le = few.ticks in omega (arith, had, le);
      coming = let long : length three.coming ≡ length s.coming = ap length coming in let le = few.coming in omega (arith, long, le);
    }

-- the node of a tick is left with less
pub tick-left : (sc : Scenario) {n : ℕ} → SayAtMost sc n → (ports : List PortState) (me : Side) (i : ℕ) {a : _} (s : Site) → s.ahead ≡ Some a → s.core.had ≤ a.tick → a.tick < 2 ^ 31
    → left_of (most_with sc n) (after_act sc ports me i (pass_and_tick sc ports me i a.tick s.core) s) + (nodes_of sc.sizes + 1) ≤ left_of (most_with sc n) s
unfolding left_of pass_and_tick
tick-left sc {n} say ports me i {a} s pend had small =
    let x : Act = pass_and_tick sc ports me i a.tick s.core in
    let z : Site = after_act sc ports me i x s in
    let few : LeavesFew n x.core.had s z = act-few sc say ports me i x s in
    let passed : (pass_to a.tick s.core).had ≡ a.tick = omega (arith, had) in
    let ticked : x.core.had ≡ (pass_to a.tick s.core).had + 1 = tick-had sc.sizes sc.plan me i (pass_to a.tick s.core) _ (omega (arith, passed, small)) in
    let before : ticks_left s.ahead ≡ 2 ^ 31 - a.tick = ap ticks_left pend in
    let less : ticks_left z.ahead + 1 ≤ ticks_left s.ahead = let le = few.ticks in omega (arith, le, passed, ticked, before, small) in
    let up : (ticks_left z.ahead + 1) * (most_with sc n + 1) ≤ ticks_left s.ahead * (most_with sc n + 1) =
    mul-le (ticks_left z.ahead + 1) (most_with sc n + 1) (ticks_left s.ahead) (most_with sc n + 1) less (omega arith) in
    let more : (ticks_left z.ahead + 1) * (most_with sc n + 1) ≡ ticks_left z.ahead * (most_with sc n + 1) + (most_with sc n + 1) = one-more (ticks_left z.ahead) (most_with sc n + 1) in
    let coming = few.coming in
    omega (arith, up, more, coming)
  where
    one-more : (a n : ℕ) → (a + 1) * n ≡ a * n + n
    one-more a n = omega arith

-- An arrival.

pub length-without : (n : ℕ) (c : Coming) (xs : List Coming) → StandsAt n c xs → length (remove xs n) + 1 ≡ length xs
length-without n c [] h = absurd h
length-without zero c (x ∷ xs) h = omega arith
length-without (suc n) c (x ∷ xs) h = let rest = length-without n c xs h in omega (arith, rest)

pub arrival-left : (most : ℕ) (sc : Scenario) (me : Side) (i n : ℕ) (c : Coming) (s : Site) → StandsAt n c s.coming
    → left_of most (after_arrival sc me i n c s) + 1 ≤ left_of most s
unfolding left_of after_arrival
arrival-left most sc me i n c s h = let less = length-without n c s.coming h in omega (arith, less)
