-- An input says one bridge, or is refused by a rule that has a line.
use Rattle.std.proofs.Common.{◌≡◌, ◌≢◌, ℕ, Bool, true, false, List, IsSome, is_some, codes, refl, sym, ◌∙◌, ap, subst, lit≤}
use Rattle.toml.specs.Data.{Members}
use Rattle.rb_scenario_entries.specs.{Codes.code_of as scenario_code_of, declared.refusal.Refusal.Refusal}
use Rattle.rb_scenario.specs.{Acceptance.{IsAccepted, IsDocument, IsRefused, as_scenario}, declared.scenario.Scenario.Scenario as Accepted}
use Rattle.rb_scenario.proofs.Documents.{accepted_alike, accepted_is_toml, accepted_is_unbroken, same_document}
use Rattle.rb_rules_bridge.specs.Bridges.{Bridge}
use Rattle.rb_bridge_document.specs.{declared.refusal.BridgeRefusal.BridgeRefusal, declared.refusal.BridgeRefusal.TheVariants.{BridgeToml, BridgeForm, LeftRefused, RightRefused, BridgeRange, OutOfMemory}, Acceptance.{IsBridgeAccepted, IsBridgeRefused, SaysBridge, SaysBuses}, Codes.code_of, Documents.{bridge_of, has_bridge_form, is_in_range, text_at}}
use Rattle.rb_bridge_top.specs.Inputs.{HasLine}
use Rattle.rb_scenario_entries.specs.declared.refusal.Refusal.TheVariants as rule

true-false : (a : Bool) → a ≡ true → a ≡ false → ⊥
true-false a sure gone = cc

-- Both buses.

same-buses : (t : Members) (left right left' right' : Accepted) → SaysBuses t left right → SaysBuses t left' right'
    → (as_scenario left ≡ as_scenario left') × (as_scenario right ≡ as_scenario right')
same-buses t left right left' right' a b =
    (accepted_alike (text_at (codes "left") t) left left' a.left_text b.left_text, accepted_alike (text_at (codes "right") t) right right' a.right_text b.right_text)

same-bridge : (t : Members) (a b : Bridge) → SaysBridge t a → SaysBridge t b → a ≡ b
same-bridge t a b is_a is_b =
    let same = same-buses t is_a.left is_a.right is_b.left is_b.right is_a.buses is_b.buses in
    is_a.is ∙ ap (λ l. bridge_of l (as_scenario is_a.right) t) same.0 ∙ ap (λ r. bridge_of (as_scenario is_b.left) r t) same.1 ∙ sym is_b.is

-- an accepted input says one bridge
pub one-bridge : (input : List ℕ) (a b : Bridge) → IsBridgeAccepted input a → IsBridgeAccepted input b → a ≡ b
one-bridge input a b is_a is_b =
    let same : is_b.document ≡ is_a.document = same_document input is_b.document is_a.document is_b.text is_a.text in
    same-bridge is_a.document a b is_a.says (subst (λ t. SaysBridge t b) same is_b.says)

-- Refusals.

-- an accepted scenario has no refusal but out of memory
not-refused : (input : List ℕ) (scenario : Accepted) (why : Refusal) → IsAccepted input scenario → why ≢ rule.OutOfMemory → ¬ IsRefused input why
not-refused input scenario rule.NotToml accepted other refused = accepted_is_toml input scenario accepted refused
not-refused input scenario rule.MissingKey accepted other refused = accepted_is_unbroken input scenario rule.MissingKey accepted refused
not-refused input scenario rule.UnknownKey accepted other refused = accepted_is_unbroken input scenario rule.UnknownKey accepted refused
not-refused input scenario rule.WrongType accepted other refused = accepted_is_unbroken input scenario rule.WrongType accepted refused
not-refused input scenario rule.OutOfRange accepted other refused = accepted_is_unbroken input scenario rule.OutOfRange accepted refused
not-refused input scenario (rule.PlanFails n) accepted other refused = accepted_is_unbroken input scenario (rule.PlanFails n) accepted refused
not-refused input scenario rule.ClockBounds accepted other refused = accepted_is_unbroken input scenario rule.ClockBounds accepted refused
not-refused input scenario rule.DelayBounds accepted other refused = accepted_is_unbroken input scenario rule.DelayBounds accepted refused
not-refused input scenario rule.StartApart accepted other refused = accepted_is_unbroken input scenario rule.StartApart accepted refused
not-refused input scenario rule.SayOfGood accepted other refused = accepted_is_unbroken input scenario rule.SayOfGood accepted refused
not-refused input scenario rule.TooMany accepted other refused = accepted_is_unbroken input scenario rule.TooMany accepted refused
not-refused input scenario rule.NoSuchNode accepted other refused = refused
not-refused input scenario rule.OutOfMemory accepted other refused = other refl

-- a document that says a bridge breaks no rule
unbroken : (t : Members) (b : Bridge) (why : BridgeRefusal) → SaysBridge t b → IsSome (code_of why) → (bytes : List ℕ) → IsDocument bytes t → ¬ IsBridgeRefused bytes why
unbroken t b BridgeToml says coded bytes text refused = refused t text
unbroken t b BridgeForm says coded bytes text refused =
    let same : refused.document ≡ t = same_document bytes refused.document t refused.text text in
    true-false (has_bridge_form t) says.buses.form (subst (λ u. has_bridge_form u ≡ false) same refused.broken)
unbroken t b (LeftRefused why) says coded bytes text refused =
    let same : refused.document ≡ t = same_document bytes refused.document t refused.text text in
    not-refused (text_at (codes "left") t) says.left why says.buses.left_text refused.broken.1.0 (subst (λ u. IsRefused (text_at (codes "left") u) why) same refused.broken.1.1)
unbroken t b (RightRefused why) says coded bytes text refused =
    let same : refused.document ≡ t = same_document bytes refused.document t refused.text text in
    not-refused (text_at (codes "right") t) says.right why says.buses.right_text refused.broken.1.1.1.0 (subst (λ u. IsRefused (text_at (codes "right") u) why) same refused.broken.1.1.1.1)
unbroken t b BridgeRange says coded bytes text refused =
    let same : refused.document ≡ t = same_document bytes refused.document t refused.text text in
    let left : Accepted = refused.broken.0 in
    let right : Accepted = refused.broken.1.0 in
    let buses : SaysBuses t left right = subst (λ u. SaysBuses u left right) same refused.broken.1.1.0 in
    let alike = same-buses t left right says.left says.right buses says.buses in
    let none : is_in_range (as_scenario left) (as_scenario right) t ≡ false = subst (λ u. is_in_range (as_scenario left) (as_scenario right) u ≡ false) same refused.broken.1.1.1 in
    true-false (is_in_range (as_scenario says.left) (as_scenario says.right) t) says.range
    (ap (λ l. is_in_range l (as_scenario says.right) t) (sym alike.0) ∙ ap (λ r. is_in_range (as_scenario left) r t) (sym alike.1) ∙ none)
unbroken t b OutOfMemory says coded bytes text refused = let never : false ≡ true = coded in cc

-- an accepted input is not refused
pub not-both : (input : List ℕ) (b : Bridge) (why : BridgeRefusal) → IsBridgeAccepted input b → IsSome (code_of why) → ¬ IsBridgeRefused input why
not-both input b why accepted coded refused = unbroken accepted.document b why accepted.says coded input accepted.text refused

some-code : (why : Refusal) → why ≢ rule.OutOfMemory → is_some (scenario_code_of why) ≡ true
some-code rule.NotToml other = refl
some-code rule.MissingKey other = refl
some-code rule.UnknownKey other = refl
some-code rule.WrongType other = refl
some-code rule.OutOfRange other = refl
some-code (rule.PlanFails n) other = refl
some-code rule.ClockBounds other = refl
some-code rule.DelayBounds other = refl
some-code rule.StartApart other = refl
some-code rule.SayOfGood other = refl
some-code rule.TooMany other = refl
some-code rule.NoSuchNode other = refl
some-code rule.OutOfMemory other = absurd (other refl)

pub coded-unless : (why : BridgeRefusal) → why ≢ OutOfMemory → IsSome (code_of why)
coded-unless BridgeToml other = refl
coded-unless BridgeForm other = refl
coded-unless (LeftRefused why) other = refl
coded-unless (RightRefused why) other = refl
coded-unless BridgeRange other = refl
coded-unless OutOfMemory other = absurd (other refl)

-- the rule that an input breaks has a line
pub has-line : (input : List ℕ) (why : BridgeRefusal) → why ≢ OutOfMemory → IsBridgeRefused input why → HasLine why
has-line input BridgeToml other refused = (refl, record { least = lit≤ tt; most = lit≤ tt; number = refl })
has-line input BridgeForm other refused = (refl, record { least = lit≤ tt; most = lit≤ tt; number = refl })
has-line input (LeftRefused why) other refused = (refl, record { least = lit≤ tt; most = lit≤ tt; number = some-code why refused.broken.1.0 })
has-line input (RightRefused why) other refused = (refl, record { least = lit≤ tt; most = lit≤ tt; number = some-code why refused.broken.1.1.1.0 })
has-line input BridgeRange other refused = (refl, record { least = lit≤ tt; most = lit≤ tt; number = refl })
has-line input OutOfMemory other refused = absurd (other refl)
