-- A window in which nothing came, and no trusted source is expected.
use Rattle.std.proofs.Common.{◌≡◌, ℕ, ◌<◌, ◌^◌, Bool, true, false, not, ◌&&◌, ◌||◌, if◌then◌else◌, None, List, refl, sym, ◌∙◌, ap}
use Rattle.rb_base.specs.Nodes.{has, set_of}
use Rattle.rb_base.proofs.Sets.{has-is, has_none, same_set_of, set_of-has}
use Rattle.rb_rules.specs.{declared.sense.Expect.Expect, declared.sense.Sense.Sense, Sense.{is_silent, value_in}, Standing.{Standing, does_wrong, has_evidence, taken_of, with_evidence}}
use Rattle.rb_eligible.specs.Inboxes.{KeptArrivals, HoldsArrivals, Received, sense_in}
use Rattle.rb_eligible.proofs.Sensed.{came_is}

-- no source is trusted and expected
apart : (s : Standing) (expected j : ℕ) → set_of (λ j. has s.trusted j && has expected j) ≡ 0 → j < 16 → (has s.trusted j && has expected j) ≡ false
apart s expected j none h = sym (has-is (set_of (λ j. has s.trusted j && has expected j)) j (λ j. has s.trusted j && has expected j) refl h) ∙ ap (λ t. has t j) none ∙ has_none j

takes_none : (t d e : Bool) (s : Sense) → (t && e) ≡ false → (if e && (t && not d) then value_in s else None) ≡ None
takes_none true d false s none = refl
takes_none true d true s none = absurd cc
takes_none false d false s none = refl
takes_none false d true s none = refl

-- if no source is trusted and expected, nothing is taken from any source
pub quiet_takes : (s : Standing) (expected : ℕ) (sense : ℕ → Sense) → set_of (λ j. has s.trusted j && has expected j) ≡ 0 → (j : ℕ) → j < 16 → taken_of value_in s (has expected) sense j ≡ None
quiet_takes s expected sense none j h = takes_none (has s.trusted j) (has s.direct j) (has expected j) (sense j) (apart s expected j none h)

does_none : (t e : Bool) (s : Sense) → (t && e) ≡ false → not (is_silent s) ≡ false → (t && does_wrong e s) ≡ false
does_none true true s none silent = absurd cc
does_none true false s none silent = silent
does_none false e s none silent = refl

or_none : (a b : Bool) → b ≡ false → (a || b) ≡ a
or_none true b none = refl
or_none false b none = none

same_but : (set : ℕ) (p : ℕ → Bool) → set < 2 ^ 16 → ((j : ℕ) → j < 16 → p j ≡ false) → set_of (λ j. has set j || p j) ≡ set
same_but set p fits none = same_set_of _ _ (λ j h. or_none (has set j) (p j) (none j h)) ∙ set_of-has set fits

-- nobody is accused
pub quiet_accuses : (s : Standing) (expected : ℕ) (e : Expect) (kept : KeptArrivals) (received : List Received) → s.direct < 2 ^ 16 → s.fresh < 2 ^ 16 → kept.came ≡ 0
    → set_of (λ j. has s.trusted j && has expected j) ≡ 0 → HoldsArrivals kept received
    → with_evidence (has_evidence s (has expected) (sense_in e received)) s ≡ s
quiet_accuses s expected e kept received direct fresh came none shown =
    let sense = sense_in e received in
    let p : ℕ → Bool = has_evidence s (has expected) sense in
    let nobody : (j : ℕ) → j < 16 → p j ≡ false =
    λ j h. does_none (has s.trusted j) (has expected j) (sense j) (apart s expected j none h) (sym (came_is e kept received j shown h) ∙ ap (λ t. has t j) came ∙ has_none j) in
    let one : set_of (λ j. has s.direct j || p j) ≡ s.direct = same_but s.direct p direct nobody in
    let two : set_of (λ j. has s.fresh j || p j) ≡ s.fresh = same_but s.fresh p fresh nobody in
    rw (one, two) refl
