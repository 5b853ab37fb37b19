-- Entries that answer as an application does, on all arguments within the ranges of their types.
use Rattle.std.specs.{Prelude.{ℕ, ◌^◌, ◌<◌, ◌≡◌, Option}, Option.ForSome}
use Rattle.rb_rules.specs.Ports.{learned_by, offered_by}

-- by what a call needs and what it may answer: each call may be made, and answers the word that the
-- application offers
abbrev pub OffersAs : ℕ → (ℕ → ℕ → Type 0) → (ℕ → ℕ → ℕ → Type 0) → Type 0
OffersAs app pre post = (state slot : ℕ) → state < 2 ^ 64 → slot < 2 ^ 16
    → pre state slot × ((word : ℕ) → post state slot word → word ≡ offered_by app state slot)

-- by what a call needs and what it may answer: each call may be made, and answers the state of the
-- application after the delivery
abbrev pub LearnsAs : ℕ → (ℕ → ℕ → ℕ → Option ℕ → Type 0) → (ℕ → ℕ → ℕ → Option ℕ → ℕ → Type 0) → Type 0
LearnsAs app pre post = (state slot sender : ℕ) (value : Option ℕ)
    → state < 2 ^ 64 → slot < 2 ^ 16 → sender < 2 ^ 8 → ForSome value (λ word. word < 2 ^ 32)
    → pre state slot sender value × ((after : ℕ) → post state slot sender value after → after ≡ learned_by app state value)
