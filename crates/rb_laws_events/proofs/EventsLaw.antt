-- For the law that events are rounds: events are rounds, once the world's book is always one of the
-- rounds'.
use Rattle.std.proofs.Common.{◌≡◌, ℕ, ◌≤◌, ◌⊎◌, inl, inr, true, List, ◌++◌, sym, ◌∙◌, ap}
use Rattle.rb_rules.specs.{Book.fresh_book, Goodness.Scenario, Rounds.{moment, steps_of, records_of}, WorldStep.{World, Choice, world_after, IsPrefix, EventsAreRounds}}
use Rattle.rb_rules.proofs.Books.{given-are, all-given}

-- the book is fresh, or that of a moment
abbrev pub IsBookOfRounds : Scenario → World → Type 0
IsBookOfRounds sc w = (w.book ≡ fresh_book) ⊎ ((n : ℕ) × ((n ≤ steps_of sc) × (w.book ≡ (moment sc w.hands n).book)))

first-given : (sc : Scenario) (w : World) → IsBookOfRounds sc w → IsPrefix w.book.given (records_of sc w.hands)
first-given sc w (inl fresh) = (records_of sc w.hands, ap (λ b. b.given ++ records_of sc w.hands) (sym fresh))
first-given sc w (inr at) = given-are sc w.hands at.0 w.book at.1.1 at.1.0

whole-given : (sc : Scenario) (w : World) → IsBookOfRounds sc w → w.book.ended ≡ true → w.book.given ≡ records_of sc w.hands
whole-given sc w (inl fresh) h = cc
whole-given sc w (inr at) h =
    ap (λ b. b.given) at.1.1 ∙ all-given sc w.hands at.0 (sym (ap (λ b. b.ended) at.1.1) ∙ h) at.1.0

pub law-from : (sc : Scenario) → ((choices : List Choice) → IsBookOfRounds sc (world_after sc choices)) → EventsAreRounds sc
law-from sc books = record {
  first = λ choices. first-given sc (world_after sc choices) (books choices);
  whole = λ choices h. whole-given sc (world_after sc choices) (books choices) h;
}
