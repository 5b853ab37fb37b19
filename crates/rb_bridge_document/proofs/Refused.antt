-- The first rule that a document breaks, if the text at its second key says no scenario.
use Rattle.std.proofs.Common.{◌≡◌, ◌≢◌, ◌⊎◌, true, codes, inl, inr, refl}
use Rattle.toml.specs.Data.{Members}
use Rattle.rb_scenario_entries.specs.declared.refusal.Refusal.{Refusal}
use Rattle.rb_scenario.specs.{declared.scenario.Scenario.Scenario as Accepted, Acceptance.{IsAccepted, IsRefused}}
use Rattle.rb_bridge_document.specs.{declared.refusal.BridgeRefusal.TheVariants.{OutOfMemory, RightRefused}, Acceptance.{IsFirstBroken, right_refusal}, Documents.{has_bridge_form, text_at}}
use Rattle.rb_scenario_entries.specs.declared.refusal.Refusal.TheVariants as rule

named : (t : Members) (left : Accepted) (why : Refusal) → has_bridge_form t ≡ true → IsAccepted (text_at (codes "left") t) left → IsRefused (text_at (codes "right") t) why
    → why ≢ rule.OutOfMemory → IsFirstBroken t (RightRefused why)
named t left why form accepted refused other = (form, (left, (accepted, (other, refused))))

pub right-broken : (t : Members) (left : Accepted) (why : Refusal) → has_bridge_form t ≡ true → IsAccepted (text_at (codes "left") t) left → IsRefused (text_at (codes "right") t) why
    → (right_refusal why ≡ OutOfMemory) ⊎ IsFirstBroken t (right_refusal why)
right-broken t left rule.OutOfMemory form accepted refused = inl refl
right-broken t left rule.NotToml form accepted refused = inr (named t left rule.NotToml form accepted refused (λ e. cc))
right-broken t left rule.MissingKey form accepted refused = inr (named t left rule.MissingKey form accepted refused (λ e. cc))
right-broken t left rule.UnknownKey form accepted refused = inr (named t left rule.UnknownKey form accepted refused (λ e. cc))
right-broken t left rule.WrongType form accepted refused = inr (named t left rule.WrongType form accepted refused (λ e. cc))
right-broken t left rule.OutOfRange form accepted refused = inr (named t left rule.OutOfRange form accepted refused (λ e. cc))
right-broken t left (rule.PlanFails n) form accepted refused = inr (named t left (rule.PlanFails n) form accepted refused (λ e. cc))
right-broken t left rule.ClockBounds form accepted refused = inr (named t left rule.ClockBounds form accepted refused (λ e. cc))
right-broken t left rule.DelayBounds form accepted refused = inr (named t left rule.DelayBounds form accepted refused (λ e. cc))
right-broken t left rule.StartApart form accepted refused = inr (named t left rule.StartApart form accepted refused (λ e. cc))
right-broken t left rule.SayOfGood form accepted refused = inr (named t left rule.SayOfGood form accepted refused (λ e. cc))
right-broken t left rule.TooMany form accepted refused = inr (named t left rule.TooMany form accepted refused (λ e. cc))
right-broken t left rule.NoSuchNode form accepted refused = inr (named t left rule.NoSuchNode form accepted refused (λ e. cc))
