-- What is given without an event.
use Rattle.std.specs.Prelude.{◌≡◌, true, false, Some, [], ◌∷◌, ◌++◌}
use Rattle.rb_rules.specs.{Book.Record, Goodness.Scenario, Lawful.IsLawful, WorldStep.{World, go_on, needs_no_event}}

-- if the next record needs no event, the call that asks for it gives one: no run stops there
abbrev pub WhatNeedsNoEventIsGiven : Type 0
WhatNeedsNoEventIsGiven =
    (sc : Scenario) → IsLawful sc → (w : World) → w.book.ended ≡ false → needs_no_event sc w.book.upcoming ≡ true
    → (r : Record) × (((go_on sc w).turn ≡ Some r) × ((go_on sc w).book.given ≡ w.book.given ++ r ∷ []))
