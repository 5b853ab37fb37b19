-- What came to a node for its open window and what is pending there are few together, if the nodes
-- stand in the rounds.
use Rattle.std.proofs.{Common.{◌≡◌, ℕ, zero, suc, ◌+◌, ◌*◌, ◌≤◌, ◌==◌, nat_lt, Bool, true, false, List, [], ◌∷◌, cond, filter, length, refl, ap, sym, subst, arith}, lemmas.Bool.ltb-true, lemmas.Bool.Decides.nat_tests}
use Rattle.rb_base.specs.{Nodes.{Side, other}, Sizes.Sizes}
use Rattle.rb_rules.specs.{Clock.time_of, Entries.{IsListed, is_said}, Goodness.clock_of, Hearing.{Coming, Span, span_of}, Rounds.{Moment, moment, window_in}, Slots.count_of, WorldStep.{Site, coming_from}}
use Rattle.rb_laws_events.proofs.{FewThere.{ahead-few, entries_of, heard-few, said-once}, Invariant.{NodeStands, ahead_so_far, heard_so_far, last_tick, next_stage}, PendingLists.Hears, SourceSums.{all-of-sources, coming_of_source, items-once, sum-larger, sum-le, sum-plus, sum-twos, sum_to}}

-- the entry is from a node of the bus
abbrev pub is_known : Sizes → Side → Coming → Bool
is_known sizes me c = nat_lt c.from (count_of (other me) sizes)

-- what came to a node that runs
abbrev pub had_of : Sizes → Side → Site → List Coming
had_of sizes me s = elim s.runs as (λ _. List Coming) [ true ↦ filter (is_known sizes me) s.got | false ↦ [] ]

-- at most as much came as came from all sources together
got-of-sources : (n : ℕ) (got : List Coming) → length (filter (λ (c : Coming). nat_lt c.from n) got) ≤ sum_to (λ j. length (coming_from got j)) n
got-of-sources n [] = omega arith
got-of-sources n (c ∷ cs) = by (nat_lt c.from n) refl (got-of-sources n cs)
  where
    longer : (j : ℕ) (b : Bool) → length (filter (λ (c : Coming). c.from == j) cs) ≤ length (cond b (c ∷ filter (λ (c : Coming). c.from == j) cs) (filter (λ (c : Coming). c.from == j) cs))
    longer j true = omega arith
    longer j false = omega arith

    each : (j : ℕ) → length (coming_from cs j) ≤ length (coming_from (c ∷ cs) j)
    each j = longer j (c.from == j)

    itself : (a : ℕ) → (a == a) ≡ true
    itself a = grind (arith, nat_tests)

    here : length (coming_from cs c.from) + 1 ≤ length (coming_from (c ∷ cs) c.from)
    here = subst (λ b. length (coming_from cs c.from) + 1 ≤ length (cond b (c ∷ coming_from cs c.from) (coming_from cs c.from))) (sym (itself c.from)) (omega arith)

    by : (b : Bool) → nat_lt c.from n ≡ b → length (filter (λ (c : Coming). nat_lt c.from n) cs) ≤ sum_to (λ j. length (coming_from cs j)) n
        → length (cond b (c ∷ filter (λ (c : Coming). nat_lt c.from n) cs) (filter (λ (c : Coming). nat_lt c.from n) cs)) ≤ sum_to (λ j. length (coming_from (c ∷ cs) j)) n
    by true e rest =
        let more = sum-larger (λ j. length (coming_from cs j)) (λ j. length (coming_from (c ∷ cs) j)) c.from 1 n (ltb-true c.from n e) each here in
        omega (arith, rest, more)
    by false e rest = let more = sum-le (λ j. length (coming_from cs j)) (λ j. length (coming_from (c ∷ cs) j)) n each in omega (arith, rest, more)

sum-both : (f g : ℕ → ℕ) (n : ℕ) → sum_to (λ j. f j + g j) n ≡ sum_to f n + sum_to g n
sum-both f g zero = omega arith
sum-both f g (suc n) = let rest = sum-both f g n in omega (arith, rest)

pub had-where-it-stands : {sc : _} → IsListed sc → {hands sent now me i p s st a : _}
    → NodeStands sc hands sent now me i p s st a → length (filter (is_known sc.sizes me) s.got) + length s.coming ≤ 2 * count_of (other me) sc.sizes + length sc.says
had-where-it-stands {sc} listed {hands} {sent} {me} {i} {p} {s} {st} h =
    let m : Moment = moment sc hands p in
    let next : Moment = moment sc hands (next_stage sc.sizes m p) in
    let span : Span = span_of st (window_in sc m me st) in
    let t : ℕ = time_of (clock_of sc me i) (last_tick sc m me st) in
    let n : ℕ = count_of (other me) sc.sizes in
    let heard : ℕ → List Coming = heard_so_far sc m me i span (λ j. sent (other me) j p) in
    let ahead : ℕ → List Coming = ahead_so_far sc next me i (λ j. sent (other me) j (next_stage sc.sizes m p)) in
    let each : (j : ℕ) → length (coming_from s.got j) + coming_of_source t s.coming j ≤ 2 + entries_of sc me i span j = λ j.
    let hears : Hears j t s.got s.coming (heard j) (ahead j) = h.receives.hears j in
    let as_many = hears.as_many in
    let later = ap length hears.later in
    let few = heard-few listed m me i span (λ j. sent (other me) j p) j in
    let one = ahead-few sc next me i (λ j. sent (other me) j (next_stage sc.sizes m p)) j in
    omega (arith, as_many, later, few, one) in
    let all = all-of-sources t n s.coming h.receives.known in
    let got = got-of-sources n s.got in
    let sums = sum-both (λ j. length (coming_from s.got j)) (coming_of_source t s.coming) n in
    let both = sum-plus (λ j. length (coming_from s.got j) + coming_of_source t s.coming j) (λ _. 2) (entries_of sc me i span) n each in
    let twos = sum-twos n in
    let said = items-once (λ j. is_said me i j span) n (said-once me i span) sc.says in
    omega (arith, all, got, sums, both, twos, said)
