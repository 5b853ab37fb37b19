-- For the law that a turn is a record: if events are rounds, each call gives no record or the next
-- of the rounds.
use Rattle.std.proofs.Common.{◌≡◌, ℕ, ◌+◌, List, [], ◌∷◌, ◌++◌, length, append_assoc, refl, ap, sym, ◌∙◌, subst, arith, inl, inr, Some, slice_get}
use Rattle.rb_base.proofs.Plain.{slice_get-back}
use Rattle.rb_rules.specs.{Book.Record, Goodness.Scenario, Rounds.records_of, WorldStep.{Choice, EventsAreRounds, IsPrefix, World, choose, due_of, go_on, take, take_if_due, world_after}, WorldStep.Choice.{Take, GoOn}}
use Rattle.rb_laws_events.specs.Laws.{IsNextTurn, OneTurnARecord}
use Rattle.rb_laws_events.proofs.{EveryWorld.after-more, WorldBooks.{IsTurn, go-on-turn, take-turn}}

-- the record after a first part of the rounds' records
next-of : (xs : List Record) {ys : _} (r : Record) → IsPrefix (xs ++ r ∷ []) ys → slice_get ys (length xs) ≡ Some r
next-of xs r more =
    let z : length xs + 0 ≡ length xs = omega arith in
    ap (λ l. slice_get l (length xs)) (more.1 ∙ append_assoc xs (r ∷ []) more.0) ∙ ap (slice_get (xs ++ r ∷ more.0)) (sym z) ∙ slice_get-back xs (r ∷ more.0) 0

next-turn : (sc : Scenario) (before after : World) → IsPrefix after.book.given (records_of sc after.hands) → IsTurn before.book.given after → IsNextTurn sc before after
next-turn sc before after first (inl none) = inl (none.1, none.0)
next-turn sc before after first (inr one) =
    inr (one.0, one.1.1, one.1.0, next-of before.book.given one.0 (subst (λ given. IsPrefix given (records_of sc after.hands)) one.1.0 first))

-- after one more choice the records are still the first ones of the rounds
first-after : {sc : _} → EventsAreRounds sc → (choices : List Choice) (c : Choice) {w : _} → choose sc (world_after sc choices) c ≡ w
    → IsPrefix w.book.given (records_of sc w.hands)
first-after {sc} rounds choices c {w} is =
    subst (λ (w : World). IsPrefix w.book.given (records_of sc w.hands)) (after-more sc choices c ∙ is) (rounds.first (choices ++ c ∷ []))

take-is : (sc : Scenario) (w : World) (i : ℕ) {d : _} → slice_get (due_of sc w) i ≡ Some d → take sc w i ≡ take_if_due sc w (Some d)
unfolding take
take-is sc w i e = ap (take_if_due sc w) e

pub turns-are-next : {sc : _} → EventsAreRounds sc → OneTurnARecord sc
turns-are-next {sc} rounds choices =
    let w : World = world_after sc choices in (
      λ i d e.
          next-turn sc w (take sc w i) (first-after rounds choices (Take i) refl)
          (subst (IsTurn w.book.given) (sym (take-is sc w i e)) (take-turn sc w d)),
      λ going. next-turn sc w (go_on sc w) (first-after rounds choices GoOn refl) (go-on-turn sc w going),
    )
