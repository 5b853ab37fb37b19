-- How a run ends in which each step takes the first due event.
use Rattle.std.proofs.{Common.{◌≡◌, ◌⊎◌, ℕ, zero, suc, ◌+◌, ◌-◌, ◌^◌, ◌<◌, ◌≤◌, Bool, true, false, Option, Some, None, List, [], ◌∷◌, ◌++◌, append_assoc, length, slice_get, refl, sym, ap, ◌∙◌, subst, arith, inl, inr}, lemmas.Bool.cases_lt, lemmas.List.append-nil}
use Rattle.std.specs.{Prelude.{option_and_then, option_map}, List.last_or}
use Rattle.rb_base.specs.{declared.event.Event.Event, declared.node.NodeName.NodeName}
use Rattle.rb_base.proofs.Plain.{true-false}
use Rattle.rb_rules.specs.{Book.{Record, of_kind}, Entries.IsListed, Goodness.Scenario, Lawful.IsLawful, Rounds.records_of, WorldStep.{Due, World, due_of, event_at, event_of, first_world, go_on, needs_no_event, take}}
use Rattle.rb_laws_logs.specs.Given.{AreGiven, first_run, first_step, given_in, given_next, if_given}
use Rattle.rb_laws_logs.proofs.Worlds.{no-hands}
use Rattle.rb_laws_events.proofs.{EventsHold.{due-holds, events-hold, turns-hold}, RoundNodes.item-at}
use Rattle.rb_laws_events.specs.Laws.{IsNextTurn}
use Rattle.rb_world.specs.Worlds.{IsReached}
use Rattle.rb_world.proofs.{GoingOn.ended-stays, LastTurn.reached-ends, Numbered.none-due, Steps.none-last}
use Rattle.rb_record.proofs.{Alone.alone-ends, Runs.{choices_of, few-steps, run-busy, run-idle, run-is, run-reached}}

-- Nothing is due once the run has ended.

pub over-stays : (sc : Scenario) (n : ℕ) → (first_run sc n).book.ended ≡ true → first_run sc (suc n) ≡ first_run sc n
over-stays sc n e = run-idle sc (first_run sc n) (none-due sc (first_run sc n) e) ∙ ended-stays sc (first_run sc n) e

pub still-over : (sc : Scenario) (n k : ℕ) → (first_run sc n).book.ended ≡ true → (first_run sc (n + k)).book.ended ≡ true
still-over sc n zero e = let same : n + 0 ≡ n = omega arith in subst (λ m. (first_run sc m).book.ended ≡ true) (sym same) e
still-over sc n (suc k) e =
    let same : n + suc k ≡ suc (n + k) = omega arith in
    let rest = still-over sc n k e in
    subst (λ m. (first_run sc m).book.ended ≡ true) (sym same) (ap (λ (w : World). w.book.ended) (over-stays sc (n + k) rest) ∙ rest)

-- If nothing is due, the run ends with the next step.

pub idle-ends : (sc : Scenario) (w : World) → IsLawful sc → IsReached sc w → length (due_of sc w) ≡ 0 → (go_on sc w).book.ended ≡ true
idle-ends sc w lawful reached none = by w.book.ended (needs_no_event sc w.book.upcoming) refl refl
  where
    by : (e f : Bool) → w.book.ended ≡ e → needs_no_event sc w.book.upcoming ≡ f → (go_on sc w).book.ended ≡ true
    by true f e h = ap (λ (x : World). x.book.ended) (ended-stays sc w e) ∙ e
    by false true e h = alone-ends sc w lawful.sizes e h
    by false false e h = absurd (
        let some = subst (λ (x : World). x.book.ended ≡ false → needs_no_event sc x.book.upcoming ≡ false → 1 ≤ length (due_of sc x)) (sym reached.is)
        (due-holds sc lawful reached.choices) e h in
        omega (arith, some, none))

pub run-ends : (sc : Scenario) (n : ℕ) → IsLawful sc → length (due_of sc (first_run sc n)) ≡ 0 → (first_run sc (suc n)).book.ended ≡ true
run-ends sc n lawful none = ap (λ (w : World). w.book.ended) (run-idle sc (first_run sc n) none) ∙ idle-ends sc (first_run sc n) lawful (run-reached sc n) none

-- The last record.

-- the turn is the last of the records that were given
pub record EndsWith (w : World) : Type 0 where
  pub before : List Record
  pub last : Record
  pub given : w.book.given ≡ before ++ last ∷ []
  pub turn : w.turn ≡ Some last

pub first-going : (sc : Scenario) → (first_world sc).book.ended ≡ false
unfolding first_world
first-going sc = refl

-- a call that ends the run gives the last record
one-ends : (sc : Scenario) (before after : World) → IsReached sc after → IsNextTurn sc before after → after.book.ended ≡ true → EndsWith after
one-ends sc before after reached (inl none) over = none-last after.turn none.0 (reached-ends sc after reached over)
one-ends sc before after reached (inr one) over = record { before = before.book.given; last = one.0; given = one.2; turn = one.1 }

next-turn : (sc : Scenario) (w : World) → IsLawful sc → IsReached sc w → w.book.ended ≡ false → IsNextTurn sc w (first_step sc w)
next-turn sc w lawful reached going = by (length (due_of sc w)) refl
  where
    at : ((i : ℕ) (d : Due) → slice_get (due_of sc w) i ≡ Some d → IsNextTurn sc w (take sc w i)) × (w.book.ended ≡ false → IsNextTurn sc w (go_on sc w))
    at = subst (λ (x : World). ((i : ℕ) (d : Due) → slice_get (due_of sc x) i ≡ Some d → IsNextTurn sc x (take sc x i)) × (x.book.ended ≡ false → IsNextTurn sc x (go_on sc x)))
        (sym reached.is) (turns-hold sc lawful reached.choices)

    by : (k : ℕ) → length (due_of sc w) ≡ k → IsNextTurn sc w (first_step sc w)
    by zero e = subst (IsNextTurn sc w) (sym (run-idle sc w e)) (at.1 going)
    by (suc k) e =
        let some : 0 < length (due_of sc w) = omega (arith, e) in
        let d = item-at (due_of sc w) 0 some in
        subst (IsNextTurn sc w) (sym (run-busy sc w (omega (arith, some)))) (at.0 0 d.0 d.1)

pub over-ends : (sc : Scenario) (n : ℕ) → IsLawful sc → (first_run sc n).book.ended ≡ true → EndsWith (first_run sc n)
over-ends sc zero lawful over = true-false (sym over ∙ first-going sc)
over-ends sc (suc n) lawful over = by (over-ends sc n lawful) (first_run sc n).book.ended refl
  where
    by : ((first_run sc n).book.ended ≡ true → EndsWith (first_run sc n)) → (b : Bool) → (first_run sc n).book.ended ≡ b → EndsWith (first_run sc (suc n))
    by before true e = subst EndsWith (sym (over-stays sc n e)) (before e)
    by before false e = one-ends sc (first_run sc n) (first_run sc (suc n)) (run-reached sc (suc n)) (next-turn sc (first_run sc n) lawful (run-reached sc n) e) over

last-of : (o : Option Record) (xs : List Record) (r : Record) → last_or o (xs ++ r ∷ []) ≡ Some r
last-of o [] r = refl
last-of o (x ∷ xs) r = last-of (Some x) xs r

-- the turn is the last record of the rounds
pub ends-as-rounds : (sc : Scenario) (n : ℕ) → IsLawful sc → (first_run sc n).book.ended ≡ true → (first_run sc n).turn ≡ last_or None (records_of sc [])
ends-as-rounds sc n lawful over =
    let w : World = first_run sc n in
    let is = over-ends sc n lawful over in
    let whole : w.book.given ≡ records_of sc w.hands =
    subst (λ (x : World). x.book.ended ≡ true → x.book.given ≡ records_of sc x.hands) (sym (run-is sc n)) ((events-hold sc lawful).whole (choices_of sc n)) over in
    is.turn ∙ sym (last-of None is.before is.last) ∙ ap (last_or None) (sym is.given ∙ whole ∙ ap (records_of sc) (no-hands sc n))

-- The run comes to its end.

-- n steps have been taken, and after some more the run is over
pub record IsLong (sc : Scenario) (n : ℕ) : Type 0 where
  pub more : ℕ
  pub over : (first_run sc (n + more)).book.ended ≡ true

-- if an event was due in each of `n` steps and in the next one, it was in each of n + 1 steps
pub busy-more : (sc : Scenario) (n : ℕ) → ((m : ℕ) → m < n → 1 ≤ length (due_of sc (first_run sc m))) → 1 ≤ length (due_of sc (first_run sc n))
    → (m : ℕ) → m < suc n → 1 ≤ length (due_of sc (first_run sc m))
busy-more sc n busy here m lt = elim (cases_lt m n) [
  | inl below ↦ busy m below
  | inr above ↦ let same : n ≡ m = omega (arith, lt, above) in subst (λ m. 1 ≤ length (due_of sc (first_run sc m))) same here
]

-- the run is over within `fuel` more steps, or some event is due in each of them
on-for : (sc : Scenario) (fuel n : ℕ) → IsLawful sc → ((m : ℕ) → m < n → 1 ≤ length (due_of sc (first_run sc m)))
    → IsLong sc n ⊎ ((m : ℕ) → m < n + fuel → 1 ≤ length (due_of sc (first_run sc m)))
on-for sc zero n lawful busy = inr (λ m lt. busy m (omega (arith, lt)))
on-for sc (suc fuel) n lawful busy = by (on-for sc fuel (suc n) lawful) (length (due_of sc (first_run sc n))) refl
  where
    more : IsLong sc (suc n) ⊎ ((m : ℕ) → m < suc n + fuel → 1 ≤ length (due_of sc (first_run sc m))) → IsLong sc n ⊎ ((m : ℕ) → m < n + suc fuel → 1 ≤ length (due_of sc (first_run sc m)))
    more (inl long) = inl (record { more = suc long.more; over = let s : suc n + long.more ≡ n + suc long.more = omega arith in subst (λ m. (first_run sc m).book.ended ≡ true) s long.over })
    more (inr all) = inr (λ m lt. all m (omega (arith, lt)))

    by : (((m : ℕ) → m < suc n → 1 ≤ length (due_of sc (first_run sc m))) → IsLong sc (suc n) ⊎ ((m : ℕ) → m < suc n + fuel → 1 ≤ length (due_of sc (first_run sc m))))
        → (k : ℕ) → length (due_of sc (first_run sc n)) ≡ k → IsLong sc n ⊎ ((m : ℕ) → m < n + suc fuel → 1 ≤ length (due_of sc (first_run sc m)))
    by later zero e = inl (record { more = 1; over = let one : n + 1 ≡ suc n = omega arith in subst (λ m. (first_run sc m).book.ended ≡ true) (sym one) (run-ends sc n lawful e) })
    by later (suc k) e = more (later (busy-more sc n busy (omega (arith, e))))

pub is-long : (sc : Scenario) (n : ℕ) → IsLawful sc → IsListed sc → ((m : ℕ) → m < n → 1 ≤ length (due_of sc (first_run sc m))) → IsLong sc n
is-long sc n lawful listed busy = by (2 ^ 63) refl
  where
    by : (fuel : ℕ) → 2 ^ 63 ≡ fuel → IsLong sc n
    by fuel e = elim (on-for sc fuel n lawful busy) [
      | inl long ↦ long
      | inr all ↦ absurd (let few = few-steps sc (n + fuel) lawful listed all in omega (arith, few, e))
    ]

-- What the node is given.

pub given-more : (sc : Scenario) (name : NodeName) (n k : ℕ) → (more : List Event) × (given_in sc name (n + k) ≡ given_in sc name n ++ more)
given-more sc name n zero = ([], let same : n + 0 ≡ n = omega arith in ap (given_in sc name) same ∙ sym (append-nil (given_in sc name n)))
given-more sc name n (suc k) =
    let rest = given-more sc name n k in
    let s : n + suc k ≡ suc (n + k) = omega arith in
    let next : List Event = given_next sc name (first_run sc (n + k)) in
    (rest.0 ++ next, ap (given_in sc name) s ∙ ap (λ (xs : List Event). xs ++ next) rest.1 ∙ append_assoc (given_in sc name n) rest.0 next)

-- as long as the run has not ended, some event was due in each step
going-busy : (sc : Scenario) (n : ℕ) → IsLawful sc → (first_run sc n).book.ended ≡ false → (m : ℕ) → m < n → 1 ≤ length (due_of sc (first_run sc m))
going-busy sc n lawful going m lt = by (length (due_of sc (first_run sc m))) refl
  where
    by : (k : ℕ) → length (due_of sc (first_run sc m)) ≡ k → 1 ≤ length (due_of sc (first_run sc m))
    by zero none =
        let same : suc m + (n - suc m) ≡ n = omega (arith, lt) in
        true-false (sym (subst (λ k. (first_run sc k).book.ended ≡ true) same (still-over sc (suc m) (n - suc m) (run-ends sc m lawful none))) ∙ going)
    by (suc k) e = omega (arith, e)

pub few-going : (sc : Scenario) (n : ℕ) → IsLawful sc → IsListed sc → (first_run sc n).book.ended ≡ false → n < 2 ^ 63
few-going sc n lawful listed going = few-steps sc n lawful listed (going-busy sc n lawful going)

-- whatever was given so far, all that is given begins with it
going-given : (sc : Scenario) (name : NodeName) (n : ℕ) → IsLawful sc → IsListed sc → ((m : ℕ) → m < n → 1 ≤ length (due_of sc (first_run sc m)))
    → (more : List Event) × AreGiven sc name (given_in sc name n ++ more)
going-given sc name n lawful listed busy =
    let long = is-long sc n lawful listed busy in
    let more = given-more sc name n long.more in
    (more.0, record { steps = n + long.more; over = long.over; all = sym more.1 })

pub all-given : (sc : Scenario) (name : NodeName) (n : ℕ) → IsLawful sc → IsListed sc → (more : List Event) × AreGiven sc name (given_in sc name n ++ more)
all-given sc name n lawful listed = by (first_run sc n).book.ended refl
  where
    by : (b : Bool) → (first_run sc n).book.ended ≡ b → (more : List Event) × AreGiven sc name (given_in sc name n ++ more)
    by true over = ([], record { steps = n; over = over; all = append-nil (given_in sc name n) })
    by false going = going-given sc name n lawful listed (going-busy sc n lawful going)

-- if nothing is due, no event is given
none-at : (sc : Scenario) (w : World) → length (due_of sc w) ≡ 0 → event_at sc w 0 ≡ None
unfolding event_at
none-at sc w = by (due_of sc w)
  where
    by : (ds : List Due) → length ds ≡ 0 → option_and_then (λ d. option_map (λ s. event_of sc w.ports d.side d.node s.core d.pending) (slice_get (of_kind d.side w.sites) d.node)) (slice_get ds 0) ≡ None
    by [] none = refl
    by (d ∷ ds) none = absurd (omega (arith, none))

pub none-given : (sc : Scenario) (name : NodeName) (w : World) → length (due_of sc w) ≡ 0 → given_next sc name w ≡ []
unfolding given_next
none-given sc name w none = ap (if_given sc name w) (none-at sc w none)
