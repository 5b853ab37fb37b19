-- The scope of a run that has been opened.
use Rattle.std.proofs.Common.{◌≡◌, List, ◌++◌, Option, sym, subst}
use Rattle.std.specs.Option.{option_to_list}
use Rattle.rb_rules.specs.{Book.Record, Goodness.Scenario}
use Rattle.rb_group_run.specs.{Holding.{HoldsFrame, IsScopeOf}, declared.asked.Asked.Asked, declared.asked.Scope.Scope, declared.ports.Ports.Ports}

pub scope_same : (bus sc : Scenario) (scope : Scope) → bus ≡ sc → IsScopeOf sc scope → IsScopeOf bus scope
scope_same bus sc scope same is = subst (λ (s : Scenario). IsScopeOf s scope) (sym same) is

-- the ports hold one more record, if the scope is that of the scenario
pub frame_next : (sc : Scenario) (scope : Scope) (asked : Asked) (records : List Record) (o : Option Record) (ports next : Ports) → IsScopeOf sc scope → HoldsFrame sc.frames asked records ports
    → ((rs : List Record) → HoldsFrame scope.frames asked rs ports → HoldsFrame scope.frames asked (rs ++ option_to_list o) next)
    → HoldsFrame sc.frames asked (records ++ option_to_list o) next
frame_next sc scope asked records o ports next is hold step =
    subst (λ n. HoldsFrame n asked (records ++ option_to_list o) next) is.frames_are
    (step records (subst (λ n. HoldsFrame n asked records ports) (sym is.frames_are) hold))
