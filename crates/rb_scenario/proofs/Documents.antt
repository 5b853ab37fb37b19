-- An accepted input says one scenario, and breaks no rule.
use Rattle.std.proofs.Common.{◌≡◌, ℕ, List, Some, None, ap, sym, ◌∙◌}
use Rattle.toml.specs.Data.{Members}
use Rattle.rb_scenario.specs.{Acceptance.{IsAccepted, IsBroken, IsDocument, IsRefused, first_broken, as_scenario}, Reading.scenario_of, declared.scenario.Scenario.Scenario}
use Rattle.rb_scenario_entries.specs.{declared.refusal.Refusal.Refusal, declared.refusal.Refusal.TheVariants.NotToml}

-- bytes are the text of one document at most
pub same_document : (bytes : List ℕ) (s t : Members) → IsDocument bytes s → IsDocument bytes t → s ≡ t
same_document bytes s t is_s is_t = ap (λ o. elim o as (λ _. Members) [ None ↦ s | Some x ↦ x ]) (sym is_s.1 ∙ is_t.1)

-- an accepted input is TOML
pub accepted_is_toml : (input : List ℕ) (scenario : Scenario) → IsAccepted input scenario → ¬ IsRefused input NotToml
accepted_is_toml input scenario accepted refused = refused accepted.document accepted.text

pub accepted_is_unbroken : (input : List ℕ) (scenario : Scenario) (why : Refusal) → IsAccepted input scenario → ¬ IsBroken input why
accepted_is_unbroken input scenario why accepted broken =
    let same : accepted.document ≡ broken.document = same_document input accepted.document broken.document accepted.text broken.text in
    let e : None ≡ Some why = sym accepted.says.unbroken ∙ ap first_broken same ∙ broken.broken in
    cc

-- an accepted input says one scenario
pub accepted_alike : (input : List ℕ) (a b : Scenario) → IsAccepted input a → IsAccepted input b → as_scenario a ≡ as_scenario b
accepted_alike input a b is_a is_b =
    let same : is_a.document ≡ is_b.document = same_document input is_a.document is_b.document is_a.text is_b.text in
    is_a.says.scenario ∙ ap scenario_of same ∙ sym is_b.says.scenario
