-- For the law that every run ends: if each world has ticks left, the number of events that are
-- taken is bounded, whatever is chosen.
use Rattle.std.proofs.{Common.{◌≡◌, ℕ, zero, suc, ◌+◌, ◌*◌, ◌^◌, ◌<◌, ◌≤◌, ◌==◌, ◌&&◌, Bool, true, false, List, [], ◌∷◌, ◌++◌, fold, length, map, refl, sym, ◌∙◌, subst, arith, Option, Some, None, slice_get}, lemmas.Nat.mul-le, lemmas.Option.same_Some}
use Rattle.std.specs.List.{range_with_len}
use Rattle.rb_base.specs.{Nodes.Side, Nodes.Side.{Biu, Rmu}}
use Rattle.rb_rules.specs.{Book.of_kind, Core.Act, Goodness.Scenario, Slots.{count_of, same_side}, WorldStep.{Choice, Due, Pending, Site, Timed, World, after_act, after_arrival, at_node, choose, due_of, first_world, fresh_site, go_on, hand, happens, pass_and_tick, proceed, settle, span_from, take, take_if_due, with_act, with_pending, world_after}, WorldStep.Choice.{Take, GoOn, Hand}, WorldStep.Pending.{Tick, Arrival}, WorldStep.Way.{ByAnEvent, ByItself}}
use Rattle.rb_rules.proofs.WindowNumbers.{length-each}
use Rattle.rb_laws_events.specs.Laws.{EveryRunEndsBy, SayAtMost, most_with, nodes_of, taken_by, takes_from, takes_with}
use Rattle.rb_laws_events.proofs.{DueEvents.{IsDue, IsReady}, EveryWorld.{after-more, due-going}, OneEvent.{all-pend, up-there}, OneTake.StandsInRounds, Takes.{LeavesFew, all_left, arrival-left, enter-few, left_of, message-left, one-less, sum_left, tick-left, ticks_left}, WorldBooks.hand-leaves, WorldNodes.{events-due, settle-sites}, WorldStands.{AllPend, IsUp, sent_by}}

-- A take.

-- each tick that may be taken in the world is one of those that its node may have
pub record HasTicksLeft (sc : Scenario) (w : World) : Type 0 where
  pub counts : (me : Side) → length (of_kind me w.sites) ≡ count_of me sc.sizes
  pub left : (me : Side) (i : ℕ) (s : Site) (a : Timed) → slice_get (of_kind me w.sites) i ≡ Some s → s.ahead ≡ Some a → AllPend a.time w.sites → (s.core.had ≤ a.tick) × (a.tick < 2 ^ 31)

-- each world in the rounds has ticks left
pub in-rounds-left : {sc w : _} → StandsInRounds sc w → HasTicksLeft sc w
in-rounds-left {sc} {w} h = record {
  counts = h.stands.sites.counts;
  left = λ me i s a there pend first.
      let up : IsUp sc w.hands (sent_by sc w.hands h.at w.sites) h.now me i (h.at me i) s = up-there w me i h.stands.sites there pend in
      let same : up.a ≡ a = same_Some up.a a (sym up.stands.receives.pends ∙ pend) in
      subst (λ (a : Timed). (s.core.had ≤ a.tick) × (a.tick < 2 ^ 31)) same (up.stands.receives.is_next.later, up.stands.receives.is_next.below);
}

nodes-there : {sc w : _} (me : Side) (i : ℕ) (change : Site → Site) → HasTicksLeft sc w
    → length (at_node me i change w.sites).bius + length (at_node me i change w.sites).rmus ≡ nodes_of sc.sizes
nodes-there {sc} {w} me i change h =
    let make : Side → ℕ → Site → Site = λ side n s. elim (same_side side me && (n == i)) as (λ _. Site) [ true ↦ change s | false ↦ s ] in
    let bius : length (at_node me i change w.sites).bius ≡ sc.sizes.bius = length-each make w.sites Biu ∙ h.counts Biu in
    let rmus : length (at_node me i change w.sites).rmus ≡ sc.sizes.rmus = length-each make w.sites Rmu ∙ h.counts Rmu in
    omega (arith, bius, rmus)

pending-less : {sc n : _} → SayAtMost sc n → {w : _} (me : Side) (i t : ℕ) {s : _} (p : Pending) → HasTicksLeft sc w → slice_get (of_kind me w.sites) i ≡ Some s → IsReady t s p → AllPend t w.sites
    → all_left (most_with sc n) (with_pending sc w me i s p).sites + 1 ≤ all_left (most_with sc n) w.sites
unfolding with_act
pending-less {sc} {n} say {w} me i t {s} (Tick k) h there ready first =
    let most : ℕ = most_with sc n in
    let a : Timed = ready.0 in
    let room = h.left me i s a there ready.1.0 (subst (λ t. AllPend t w.sites) (sym ready.1.1.1.0) first) in
    let x : Act = pass_and_tick sc w.ports me i a.tick s.core in
    let change : Site → Site = after_act sc w.ports me i x in
    let one = one-less most change me i (nodes_of sc.sizes + 1) w.sites there (tick-left sc say w.ports me i s ready.1.0 room.0 room.1) in
    let sent = message-left most sc me i x.core.state.frame a.tick x.message (at_node me i change w.sites) in
    let many = nodes-there me i change h in
    subst (λ k. all_left most (with_act sc w me i k (pass_and_tick sc w.ports me i k s.core)).sites + 1 ≤ all_left most w.sites) ready.1.1.0 (omega (arith, one, sent, many))
pending-less {sc} {n} say {w} me i t {s} (Arrival k c) h there ready first =
    one-less (most_with sc n) (after_arrival sc me i k c) me i 1 w.sites there (arrival-left (most_with sc n) sc me i k c s ready.0)

happens-less : {sc n : _} → SayAtMost sc n → {w d : _} → HasTicksLeft sc w → IsDue w d → all_left (most_with sc n) (happens sc w d).sites + 1 ≤ all_left (most_with sc n) w.sites
unfolding happens
happens-less {sc} {n} say {w} {d} h due =
    subst (λ o. all_left (most_with sc n) (elim o as (λ _. World) [ None ↦ w | Some s ↦ with_pending sc w d.side d.node s d.pending ]).sites + 1 ≤ all_left (most_with sc n) w.sites)
    (sym due.there) (pending-less say d.side d.node due.t d.pending h due.there due.ready (all-pend w due.t due.first))

-- A choice.

choice-less : {sc n : _} → SayAtMost sc n → (choices : List Choice) (c : Choice) → ((world_after sc choices).book.ended ≡ false → HasTicksLeft sc (world_after sc choices))
    → taken_by sc (world_after sc choices) c + all_left (most_with sc n) (choose sc (world_after sc choices) c).sites ≤ all_left (most_with sc n) (world_after sc choices).sites
unfolding take go_on
choice-less {sc} {n} say choices (Take i) h = by (slice_get (due_of sc (world_after sc choices)) i) refl
  where
    by : (o : Option Due) → slice_get (due_of sc (world_after sc choices)) i ≡ o
        → (elim o as (λ _. ℕ) [ None ↦ 0 | Some d ↦ 1 ]) + all_left (most_with sc n) (take_if_due sc (world_after sc choices) o).sites
        ≤ all_left (most_with sc n) (world_after sc choices).sites
    by None e = omega arith
    by (Some d) e =
        let w : World = world_after sc choices in
        let less = happens-less say (h (due-going sc w i e).0) (events-due sc choices i e) in
        let same : (take_if_due sc w (Some d)).sites ≡ (happens sc w d).sites = settle-sites sc ByAnEvent 2 (happens sc w d) in
        subst (λ sites. 1 + all_left (most_with sc n) sites ≤ all_left (most_with sc n) w.sites) (sym same) (omega (arith, less))
choice-less {sc} {n} say choices GoOn h = by (world_after sc choices).book.ended
  where
    by : (b : Bool) → 0 + all_left (most_with sc n) (elim b as (λ _. World) [ true ↦ world_after sc choices | false ↦ settle sc ByItself 2 (world_after sc choices) ]).sites
        ≤ all_left (most_with sc n) (world_after sc choices).sites
    by true = omega arith
    by false =
        subst (λ sites. 0 + all_left (most_with sc n) sites ≤ all_left (most_with sc n) (world_after sc choices).sites)
        (sym (settle-sites sc ByItself 2 (world_after sc choices))) (omega arith)
choice-less {sc} {n} say choices (Hand biu state) h = by (world_after sc choices)
  where
    by : (w : World) → 0 + all_left (most_with sc n) (hand sc w biu state).sites ≤ all_left (most_with sc n) w.sites
    by w = hand-leaves (λ x. 0 + all_left (most_with sc n) x.sites ≤ all_left (most_with sc n) w.sites) sc w biu state (λ ports hands. omega arith) (omega arith)

-- All choices.

pub takes-append : (sc : Scenario) (w : World) (cs : List Choice) (c : Choice) → takes_from sc w (cs ++ c ∷ []) ≡ takes_from sc w cs + taken_by sc (fold (choose sc) w cs) c
takes-append sc w [] c = omega arith
takes-append sc w (x ∷ xs) c = let rest = takes-append sc (choose sc w x) xs c in omega (arith, rest)

choices-less : {sc n : _} → SayAtMost sc n → ((choices : List Choice) → (world_after sc choices).book.ended ≡ false → HasTicksLeft sc (world_after sc choices)) → (before rest : List Choice)
    → takes_from sc (world_after sc before) rest ≤ all_left (most_with sc n) (world_after sc before).sites
choices-less say stands before [] = omega arith
choices-less {sc} {n} say stands before (c ∷ rest) =
    let w : World = world_after sc before in
    let one = choice-less say before c (stands before) in
    let more = choices-less say stands (before ++ c ∷ []) rest in
    let then_more : takes_from sc (choose sc w c) rest ≤ all_left (most_with sc n) (choose sc w c).sites =
    subst (λ (w : World). takes_from sc w rest ≤ all_left (most_with sc n) w.sites) (after-more sc before c) more in
    omega (arith, one, then_more)

-- The first world.

sum-made : (most all : ℕ) (make : ℕ → Site) (a n : ℕ) → ((k : ℕ) → left_of most (make k) ≤ all) → sum_left most (map make (range_with_len a n)) ≤ n * all
sum-made most all make a zero each = omega arith
sum-made most all make a (suc n) each =
    let head : left_of most (make a) ≤ all = each a in
    let rest = sum-made most all make (a + 1) n each in
    let more : suc n * all ≡ all + n * all = omega arith in
    omega (arith, head, rest, more)

fresh-left : (sc : Scenario) {n : ℕ} → SayAtMost sc n → (me : Side) (i : ℕ) → left_of (most_with sc n) (proceed sc me i (fresh_site sc.sizes me)) ≤ 2 ^ 31 * (most_with sc n + 1) + most_with sc n
unfolding left_of proceed
fresh-left sc {n} say me i =
    let s : Site = fresh_site sc.sizes me in
    let z : Site = proceed sc me i s in
    let few : LeavesFew n 0 s z = enter-few sc say me i (span_from sc.sizes sc.plan me s.core.state s.core.had) s in
    let ticks : ticks_left z.ahead ≤ 2 ^ 31 = let le = few.ticks in omega (arith, le) in
    let up : ticks_left z.ahead * (most_with sc n + 1) ≤ 2 ^ 31 * (most_with sc n + 1) = mul-le (ticks_left z.ahead) (most_with sc n + 1) (2 ^ 31) (most_with sc n + 1) ticks (omega arith) in
    let coming = few.coming in
    omega (arith, up, coming)

first-left : (sc : Scenario) {n : ℕ} → SayAtMost sc n → all_left (most_with sc n) (first_world sc).sites ≤ takes_with sc n
unfolding first_world
first-left sc {n} say =
    let most : ℕ = most_with sc n in
    let all : ℕ = 2 ^ 31 * (most + 1) + most in
    let bius = sum-made most all (λ i. proceed sc Biu i (fresh_site sc.sizes Biu)) 0 sc.sizes.bius (fresh-left sc say Biu) in
    let rmus = sum-made most all (λ i. proceed sc Rmu i (fresh_site sc.sizes Rmu)) 0 sc.sizes.rmus (fresh-left sc say Rmu) in
    let both : nodes_of sc.sizes * all ≡ sc.sizes.bius * all + sc.sizes.rmus * all = omega arith in
    omega (arith, bius, rmus, both)

-- if each world has ticks left, the number of events that are taken is bounded
pub every-run-ends : {sc n : _} → SayAtMost sc n → ((choices : List Choice) → (world_after sc choices).book.ended ≡ false → HasTicksLeft sc (world_after sc choices))
    → ((choices : List Choice) (me : Side) (i : ℕ) (s : Site) → slice_get (of_kind me (world_after sc choices).sites) i ≡ Some s → s.runs ≡ true → s.core.had < 2 ^ 31) → EveryRunEndsBy sc (takes_with sc n)
every-run-ends {sc} say left room = record {
  few = λ choices. let less = choices-less say left [] choices in let first = first-left sc say in omega (arith, less, first);
  room = room;
}
