-- Which texts say a bridge, and why one is refused: by the first rule that it breaks.
use Rattle.std.specs.Prelude.{⊤, ℕ, ◌≡◌, ◌≢◌, true, false, List, codes}
use Rattle.toml.specs.Data.{Members}
use Rattle.rb_rules.specs.Entries.{IsListed}
use Rattle.rb_scenario_entries.specs.declared.refusal.Refusal.{Refusal}
use Rattle.rb_scenario.specs.{declared.scenario.Scenario.Scenario as Accepted, Acceptance.{IsAccepted, IsDocument, IsRefused, as_scenario}}
use Rattle.rb_rules_bridge.specs.{declared.bank.Bank.Bank, Bridges.{Bridge, bus_on}}
use Rattle.rb_bridge_document.specs.{declared.bridge.Bridge.Bridge as Kept, declared.refusal.BridgeRefusal.BridgeRefusal, declared.refusal.BridgeRefusal.TheVariants.{BridgeToml, BridgeForm, LeftRefused, RightRefused, BridgeRange, OutOfMemory}, Documents.{bridge_of, has_bridge_form, is_in_range, text_at}}
use Rattle.rb_scenario_entries.specs.declared.refusal.Refusal.TheVariants as scenario

-- the texts at both keys are those of scenarios that are accepted
pub record SaysBuses (t : Members) (left right : Accepted) : Type 0 where
  pub form : has_bridge_form t ≡ true
  pub left_text : IsAccepted (text_at (codes "left") t) left
  pub right_text : IsAccepted (text_at (codes "right") t) right

-- a refusal names the first rule that document t breaks. BridgeToml and OutOfMemory name none
abbrev pub IsFirstBroken : Members → BridgeRefusal → Type 0
IsFirstBroken t BridgeToml = ⊥
IsFirstBroken t BridgeForm = has_bridge_form t ≡ false
IsFirstBroken t (LeftRefused why) = (has_bridge_form t ≡ true) × ((why ≢ scenario.OutOfMemory) × IsRefused (text_at (codes "left") t) why)
IsFirstBroken t (RightRefused why) =
    (has_bridge_form t ≡ true) × ((left : Accepted) × (IsAccepted (text_at (codes "left") t) left
    × ((why ≢ scenario.OutOfMemory) × IsRefused (text_at (codes "right") t) why)))
IsFirstBroken t BridgeRange =
    (left : Accepted) × ((right : Accepted) × (SaysBuses t left right × (is_in_range (as_scenario left) (as_scenario right) t ≡ false)))
IsFirstBroken t OutOfMemory = ⊥

-- the bytes are the text of a document, and `why` names the first rule that this document breaks
pub record IsBridgeBroken (bytes : List ℕ) (why : BridgeRefusal) : Type 0 where
  pub document : Members
  pub text : IsDocument bytes document
  pub broken : IsFirstBroken document why

-- why the bytes are refused. Out of memory may be the answer at any time
abbrev pub IsBridgeRefused : List ℕ → BridgeRefusal → Type 0
IsBridgeRefused bytes BridgeToml = (t : Members) → ¬ IsDocument bytes t
IsBridgeRefused bytes OutOfMemory = ⊤
IsBridgeRefused bytes why = IsBridgeBroken bytes why

-- on both buses faulty nodes do what the entries of a document list
abbrev pub AreListed : Bridge → Type 0
AreListed b = (bank : Bank) → IsListed (bus_on b bank)

-- the bridge of the definitions that bridge b of the code stands for
abbrev pub as_bridge : Kept → Bridge
as_bridge b = record {
  left = as_scenario b.left;
  right = as_scenario b.right;
  pairs = b.pairs.items;
  left_slot = b.left_slot;
  right_slot = b.right_slot;
}

-- the document breaks no rule, and says bridge b
pub record SaysBridge (document : Members) (b : Bridge) : Type 0 where
  pub left : Accepted
  pub right : Accepted
  pub buses : SaysBuses document left right
  pub range : is_in_range (as_scenario left) (as_scenario right) document ≡ true
  pub is : b ≡ bridge_of (as_scenario left) (as_scenario right) document

-- the bytes are the text of a document that breaks no rule and says bridge b
pub record IsBridgeAccepted (bytes : List ℕ) (b : Bridge) : Type 0 where
  pub document : Members
  pub text : IsDocument bytes document
  pub says : SaysBridge document b

-- The refusal of a bridge for a refusal of one of its scenarios.

abbrev pub left_refusal : Refusal → BridgeRefusal
left_refusal scenario.OutOfMemory = OutOfMemory
left_refusal why = LeftRefused why

abbrev pub right_refusal : Refusal → BridgeRefusal
right_refusal scenario.OutOfMemory = OutOfMemory
right_refusal why = RightRefused why
