-- The sources from which something may be accepted, among those that are expected and eligible.
use Rattle.std.proofs.{Common.{◌≡◌, ℕ, ◌<◌, true, ◌&&◌, if◌then◌else◌, Option, None, List, length, sym, ◌∙◌, ap}, lemmas.List.FromFn.fill_by_all}
use Rattle.rb_base.specs.{Nodes.has, declared.values.Heard.Heard}
use Rattle.rb_base.proofs.{Plain.and_second, Sets.same_set_of}
use Rattle.rb_rules.specs.{declared.sense.Expect.Expect, Sense.{is_one, value_in}, Standing.{Standing, is_eligible, taken_of}}
use Rattle.rb_eligible.specs.{Inboxes.{KeptArrivals, is_sole, sense_in}, Takings.{AreOnesOf, AreTakenOf, AreValuesOf}}
use Rattle.rb_eligible.proofs.Sensed.{none_but_soles, value_but_soles}

-- nothing can be taken from a source without a sole arrival, though it is expected and eligible
pub due_ones : (kept : KeptArrivals) (s : Standing) (e : Expect) (expected due ones : ℕ)
    → ((j : ℕ) → j < 16 → has due j ≡ ((has expected j && is_eligible s j) && is_sole kept j)) → AreOnesOf kept e (has due) ones
    → AreOnesOf kept e (λ j. has expected j && is_eligible s j) ones
due_ones kept s e expected due ones is are = λ received shown.
    are received shown
    ∙ same_set_of _ _ (λ j h. ap (λ b. b && is_one (sense_in e received j)) (is j h) ∙ none_but_soles e kept received (has expected j && is_eligible s j) j shown h)

pub due_taken : (kept : KeptArrivals) (s : Standing) (e : Expect) (expected due : ℕ) (taken : List (Option Heard))
    → ((j : ℕ) → j < 16 → has due j ≡ ((has expected j && is_eligible s j) && is_sole kept j)) → length taken ≡ 16 → AreValuesOf kept e due taken
    → AreTakenOf kept s e expected taken
due_taken kept s e expected due taken is all are = λ received shown.
    fill_by_all (taken_of value_in s (has expected) (sense_in e received)) taken 16 None all
    (λ j h. are received shown j h ∙ ap (λ b. if b then value_in (sense_in e received j) else None) (is j h) ∙ value_but_soles e kept received (has expected j && is_eligible s j) j shown h)

-- a due source has a sole arrival
pub due_soles : (kept : KeptArrivals) (s : Standing) (expected due : ℕ) → ((j : ℕ) → j < 16 → has due j ≡ ((has expected j && is_eligible s j) && is_sole kept j))
    → (j : ℕ) → j < 16 → has due j ≡ true → is_sole kept j ≡ true
due_soles kept s expected due is j h inside = and_second (has expected j && is_eligible s j) (is_sole kept j) (sym (is j h) ∙ inside)
