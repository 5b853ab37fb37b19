-- How many steps lead to the next record.
use Rattle.std.proofs.{Common.{◌≡◌, ℕ, zero, suc, ◌+◌, ◌*◌, ◌^◌, ◌<◌, ◌≤◌, ◌≢◌, Bool, true, false, Option, Some, None, List, [], ◌∷◌, ◌++◌, length, refl, sym, ap, ◌∙◌, subst, arith}, lemmas.Nat.{mod_below, mul-le}}
use Rattle.rb_laws_events.proofs.{EventsHold.{due-holds, ends-hold}, RoundNodes.item-at, EveryWorld.after-more, GivenAlone.given-alone, RunsEnd.takes-append}
use Rattle.rb_rules.specs.{Book.Record, Entries.IsListed, Goodness.Scenario, Lawful.IsLawful, WorldStep.{Choice, World, due_of, first_world, go_on, needs_no_event, take, world_after}, WorldStep.Choice.Take}
use Rattle.rb_laws_events.specs.Laws.{EveryRunEnds, SomethingIsDue, most_at_once, most_takes, nodes_of, taken_by, takes_from}
use Rattle.rb_gen.specs.Draws.{number_of}
use Rattle.rb_world.specs.{Nexts.{Standing, after_steps, drawn, is_last, place_among, step, step_among}, declared.ties.Ties.Ties, declared.ties.Ties.TheVariants.{First, Last, Seeded}, Worlds.{IsReached, KeptWorld, NeedsEvent, Stands}}
use Rattle.rb_world.proofs.{GoingOn.ended-stays, LastTurn.reached-ends}

-- The laws of runs.

something-due : (sc : Scenario) → IsLawful sc → SomethingIsDue sc
something-due = due-holds

run-ends : (sc : Scenario) → IsLawful sc → IsListed sc → EveryRunEnds sc
run-ends = ends-hold

-- If no record comes, an event was due.

pub none-last : {P : Type 0} (o : Option Record) → o ≡ None → is_last o ≡ true → P
none-last o none last = absurd (cc)

none-some : {P : Type 0} (o : Option Record) (r : Record) → o ≡ None → o ≡ Some r → P
none-some o r none some = absurd (cc)

due-in-reached : (sc : Scenario) (w : World) → IsLawful sc → IsReached sc w → NeedsEvent sc w → 1 ≤ length (due_of sc w)
due-in-reached sc w lawful reached needs =
    subst (λ (x : World). NeedsEvent sc x → 1 ≤ length (due_of sc x)) (sym reached.is) (λ n. something-due sc lawful reached.choices n.going n.needs) needs

-- if the next record needs an event, some event is due
pub some-due : (k : KeptWorld) (w : World) (n : ℕ) → Stands k w → NeedsEvent k.bus w → n ≡ length (due_of k.bus w) → 1 ≤ n
some-due k w n is needs all = let some = due-in-reached k.bus w is.lawful is.reached needs in omega (arith, some, all)

-- if no event is due in a world that some choices lead to, it gives a record to go on without an
-- event
go-on-gives : (sc : Scenario) (w : World) → IsLawful sc → IsReached sc w → length (due_of sc w) ≡ 0 → (go_on sc w).turn ≢ None
go-on-gives sc w lawful reached none = by w.book.ended (needs_no_event sc w.book.upcoming) refl refl
  where
    by : (e n : Bool) → w.book.ended ≡ e → needs_no_event sc w.book.upcoming ≡ n → (go_on sc w).turn ≢ None
    by true n e _ = λ is. none-last w.turn (sym (ap (λ (x : World). x.turn) (ended-stays sc w e)) ∙ is) (reached-ends sc w reached e)
    by false true e needs = λ is. let r = given-alone sc lawful.sizes w e needs in none-some (go_on sc w).turn r.0 is r.1.0
    by false false e needs = λ is. let some = due-in-reached sc w lawful reached (record { going = e; needs = needs }) in absurd (omega (arith, some, none))

-- Places.

pub place-below : (ties : Ties) (state n : ℕ) → 1 ≤ n → place_among ties state n < n
place-below First state n some = omega (arith, some)
place-below Last state n some = omega (arith, some)
place-below (Seeded seed) state n some = mod_below (number_of state) n some

-- Takes.

-- some choices lead to this world, n of which took an event
record IsAfterTakes (sc : Scenario) (n : ℕ) (w : World) : Type 0 where
  choices : List Choice
  is : w ≡ world_after sc choices
  many : n ≤ takes_from sc (first_world sc) choices

one-take : (sc : Scenario) (w : World) (i : ℕ) → i < length (due_of sc w) → taken_by sc w (Take i) ≡ 1
one-take sc w i below = let at = item-at (due_of sc w) i below in ap (λ o. elim o as (λ _. ℕ) [ None ↦ 0 | Some d ↦ 1 ]) at.1

take-counts : (sc : Scenario) (n : ℕ) (w : World) (i : ℕ) → IsAfterTakes sc n w → i < length (due_of sc w) → IsAfterTakes sc (suc n) (take sc w i)
take-counts sc n w i is below =
    let one : taken_by sc (world_after sc is.choices) (Take i) ≡ 1 = subst (λ x. taken_by sc x (Take i) ≡ 1) is.is (one-take sc w i below) in
    let sum = takes-append sc (first_world sc) is.choices (Take i) in
    let many = is.many in
    record {
      choices = is.choices ++ Take i ∷ [];
      is = ap (λ x. take sc x i) is.is ∙ sym (after-more sc is.choices (Take i));
      many = omega (arith, one, sum, many);
    }

step-counts : (sc : Scenario) (ties : Ties) (n len : ℕ) (s : Standing) → IsAfterTakes sc n s.world → len ≡ length (due_of sc s.world) → 1 ≤ len
    → IsAfterTakes sc (suc n) (step_among sc ties len s).world
step-counts sc ties n zero s is same some = absurd (omega (arith, some))
step-counts sc ties n (suc k) s is same some =
    let below = place-below ties (drawn ties s.draws) (suc k) some in
    take-counts sc n s.world (place_among ties (drawn ties s.draws) (suc k)) is (subst (λ len. place_among ties (drawn ties s.draws) (suc k) < len) same below)

step-quiet : (sc : Scenario) (ties : Ties) (n len : ℕ) (s : Standing) → IsLawful sc → IsAfterTakes sc n s.world → len ≡ length (due_of sc s.world)
    → (step_among sc ties len s).world.turn ≡ None → 1 ≤ len
step-quiet sc ties n zero s lawful is same quiet = absurd (go-on-gives sc s.world lawful (record { choices = is.choices; is = is.is }) (sym same) quiet)
step-quiet sc ties n (suc k) s lawful is same quiet = omega arith

one-step : (sc : Scenario) (ties : Ties) (n : ℕ) (s : Standing) → IsLawful sc → IsAfterTakes sc n s.world → (step sc ties s).world.turn ≡ None → IsAfterTakes sc (suc n) (step sc ties s).world
unfolding step
one-step sc ties n s lawful is quiet =
    step-counts sc ties n (length (due_of sc s.world)) s is refl (step-quiet sc ties n (length (due_of sc s.world)) s lawful is refl quiet)

-- each step without a record took an event
steps-count : (sc : Scenario) (ties : Ties) (n : ℕ) (s : Standing) → IsLawful sc → IsReached sc s.world
    → ((m : ℕ) → 1 ≤ m → m ≤ n → (after_steps sc ties m s).world.turn ≡ None) → IsAfterTakes sc n (after_steps sc ties n s).world
unfolding after_steps
steps-count sc ties zero s lawful reached quiet = record { choices = reached.choices; is = reached.is; many = omega arith }
steps-count sc ties (suc n) s lawful reached quiet =
    one-step sc ties n (after_steps sc ties n s) lawful (steps-count sc ties n s lawful reached (λ m some le. quiet m some (omega (arith, le)))) (quiet (suc n) (omega arith) (omega arith))

-- Numbers.

pub few-takes : (sc : Scenario) → IsLawful sc → IsListed sc → most_takes sc < 2 ^ 63
few-takes sc lawful listed =
    let nodes : nodes_of sc.sizes ≤ 32 = let b = lawful.sizes.most_bius in let r = lawful.sizes.most_rmus in omega (arith, b, r) in
    let says = listed.few in
    let up : nodes_of sc.sizes * length sc.says ≤ 32 * 1024 = mul-le (nodes_of sc.sizes) (length sc.says) 32 1024 nodes says in
    let once : most_at_once sc ≤ 32800 = omega (arith, nodes, up) in
    let all : 2 ^ 31 * (most_at_once sc + 1) + most_at_once sc ≤ 2 ^ 31 * 32801 + 32800 = omega (arith, once) in
    let product = mul-le (nodes_of sc.sizes) (2 ^ 31 * (most_at_once sc + 1) + most_at_once sc) 32 (2 ^ 31 * 32801 + 32800) nodes all in
    omega (arith, product)

-- fewer than 2^63 steps in a row give no record
pub few-steps : (sc : Scenario) (ties : Ties) (n : ℕ) (s : Standing) → IsLawful sc → IsListed sc → IsReached sc s.world
    → ((m : ℕ) → 1 ≤ m → m ≤ n → (after_steps sc ties m s).world.turn ≡ None) → n < 2 ^ 63
few-steps sc ties n s lawful listed reached quiet =
    let is = steps-count sc ties n s lawful reached quiet in
    let many = is.many in
    let few = (run-ends sc lawful listed).few is.choices in
    let most = few-takes sc lawful listed in
    omega (arith, many, few, most)
