-- A side before its first frame.
use Rattle.std.proofs.Common.{◌≡◌, ℕ, ◌+◌, Option, None, List, [], refl, ◌∙◌, ap}
use Rattle.rb_base.specs.{Sizes.Sizes, declared.values.Heard.Heard}
use Rattle.rb_rules.specs.{Goodness.Scenario, WorldStep.first_world}
use Rattle.rb_run.proofs.Opened.{just-opened}
use Rattle.rb_world.specs.Worlds.{KeptWorld, Stands}
use Rattle.rb_group.specs.declared.voters.Which.TheVariants.{Most}
use Rattle.rb_group_run.specs.{declared.asked.Scope.Scope, declared.ports.Ports.Ports, Holding.{HoldsFrame, IsScopeOf}}
use Rattle.rb_bridge.specs.{Holding.HoldValues, declared.passing.Terms.Terms, Sides.HasOpened}
use Rattle.rb_world_book.specs.declared.turn.Turn.TheVariants as shown

pub has-opened : (sc : Scenario) (members slot : ℕ) (world : KeptWorld) (ports : Ports) (values : List (Option Heard)) (scope : Scope) (terms : Terms) → Stands world (first_world sc) → world.bus ≡ sc
    → IsScopeOf sc scope → terms ≡ record { asked = record { which = Most; members = members }; slot = scope.shape.bius + slot; frames = scope.frames }
    → ((frames : ℕ) → HoldsFrame frames terms.asked [] ports) → HoldValues (λ i. None) values
    → HasOpened sc members slot (record { world = world; passage = record { ports = ports; values = values }; terms = terms; scope = scope; turn = shown.Quiet })
has-opened sc members slot world ports values scope terms stands bus is asked first none = record {
  begun = just-opened world sc stands;
  bus_is = bus;
  terms_are =
      asked ∙ ap (λ (sizes : Sizes). record { asked = record { which = Most; members = members }; slot = sizes.bius + slot; frames = scope.frames }) is.sizes_are
      ∙ ap (λ (frames : ℕ). record { asked = record { which = Most; members = members }; slot = sc.sizes.bius + slot; frames = frames }) is.frames_are;
  scope_is = is;
  quiet = refl;
  holds = record { frame_is = (first sc.frames).frame_is; ports = first terms.frames; values = none };
}
