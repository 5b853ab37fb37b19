use Rattle.std.proofs.Common.{◌≡◌, ◌∙◌, ap}
use Rattle.rb_base.specs.{Nodes.Side.{Biu as biu, Rmu as rmu}, Sizes.Sizes}
use Rattle.rb_rules.specs.{declared.plan.Plan.Plan, Goodness.Scenario}
use Rattle.rb_world_onset.specs.Faults.{faults_of}
use Rattle.rb_scenario.specs.Acceptance.{as_scenario}
use Rattle.rb_world_traffic.specs.Saying.{kept_of}
use Rattle.rb_world.specs.Buses.{bus_of, scenario_of}
use Rattle.rb_world.proofs.Calmness.{found-restless, keeps-bus}
use Rattle.rb_world.proofs.bus.Bus.new.Goals as goal

pub invariant_of-result : goal.invariant_of-result
invariant_of-result c =
    let sc : Scenario = as_scenario c.args.scenario in
    let s = c.args.scenario in
    let faults : c.new-onsets.result ≡ faults_of sc =
    c.new-onsets.ensures ∙ ap (λ sizes. record { sizes = sizes; biu_onsets = s.biu_onset; rmu_onsets = s.rmu_onset }) c.shape.ensures in
    let kept : c.in_ok-sayings.sayings ≡ kept_of sc =
    c.in_ok-sayings.ensures ∙ ap (λ f. record { faults = f; version = c.plan.result.now.version; says = s.says }) faults
    ∙ ap (λ (p : Plan). record { faults = faults_of sc; version = p.version; says = s.says }) c.plan.ensures.value in
    let delays : c.in_ok-delays.delays ≡ s.delays =
    c.in_ok-delays.ensures ∙ ap (λ base. record { base = base; rules = c.rules.result.now }) c.base.ensures
    ∙ ap (λ rules. record { base = s.delays.base; rules = rules }) c.rules.ensures in
    let whole = ap (λ d. scenario_of (bus_of s.plan s.frames s.requests s.words s.apps s.clocks d (faults_of sc) (kept_of sc))) delays in
    keeps-bus sc s.plan s.frames s.requests s.words s.apps s.clocks c.in_ok-delays.delays c.new-onsets.result c.in_ok-sayings.sayings c.len-says.result c.restless_nodes-restless_biu.result
    c.restless_nodes-restless_rmu.result c.requires.lawful c.requires.listed whole faults kept c.len-says.ensures
    (found-restless sc biu c.biu.result c.restless_nodes-restless_biu.result c.in_ok-sayings.sayings (c.biu.ensures.value ∙ ap (λ (z : Sizes). z.bius) c.shape.ensures) kept
    c.restless_nodes-restless_biu.ensures.each)
    (found-restless sc rmu c.rmu.result c.restless_nodes-restless_rmu.result c.in_ok-sayings.sayings (c.rmu.ensures.value ∙ ap (λ (z : Sizes). z.rmus) c.shape.ensures) kept
    c.restless_nodes-restless_rmu.ensures.each)
