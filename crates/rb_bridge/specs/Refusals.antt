-- The lines of a bridge by their arguments, and the refusals of a bridge.
use Rattle.std.specs.{Prelude.{ℕ, ◌≡◌, ◌-◌, ◌≤◌, Bool, true, false, List, [], ◌∷◌, Option, codes, is_some, slice_index_or}, Fmt.decimal}
use Rattle.rb_report.specs.Report.{Refusal, last_field, line_of, rule, rule_with_number}
use Rattle.rb_rules_bridge.specs.{declared.bank.Bank.Bank, declared.bank.Bank.TheVariants.{Left, Right}}

-- the bank that an argument names
abbrev pub bank_of : Bool → Bank
bank_of true = Right
bank_of false = Left

-- the refusals of a bridge, by code from 21. Those of a scenario have its own code as their number
abbrev pub bridge_refusals : List Refusal
bridge_refusals =
    rule (codes "BridgeToml")
    ∷ rule (codes "BridgeForm")
    ∷ rule_with_number (codes "LeftRefused")
    ∷ rule_with_number (codes "RightRefused")
    ∷ rule (codes "BridgeRange")
    ∷ []

-- the refusal with this code
abbrev pub bridge_refusal_of : ℕ → Refusal
bridge_refusal_of code = slice_index_or bridge_refusals (code - 21) (rule [])

-- a refusal has the code, and a number is given if and only if that refusal has one
pub record IsBridgeRefusal (code : ℕ) (detail : Option ℕ) : Type 0 where
  pub least : 21 ≤ code
  pub most : code ≤ 25
  pub number : is_some detail ≡ (bridge_refusal_of code).has_number

-- the line refused CODE NAME, and the number if there is one
abbrev pub bridge_refused_text : ℕ → Option ℕ → List ℕ
bridge_refused_text code detail = line_of (codes "refused") (decimal code ∷ (bridge_refusal_of code).name ∷ last_field detail)
