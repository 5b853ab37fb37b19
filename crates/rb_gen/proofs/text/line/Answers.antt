use Rattle.std.proofs.{Common.{◌-◌, ◌/◌, ◌%◌, [], get_or, sym, ap, ◌∙◌, arith}, lemmas.Option.get_or_from_slice_get}
use Rattle.rb_base.specs.declared.node.NodeName.{NodeName}
use Rattle.rb_rules.specs.{Clock.Timeline}
use Rattle.rb_scenario.specs.Acceptance.{as_scenario}
use Rattle.rb_gen.specs.Text.{clock_lines, node_at}
use Rattle.rb_gen.proofs.Places.{at_biu_fault, at_clock, at_link, at_rmu_fault, at_root, at_say, counts, found_line, no_line}
use Rattle.rb_gen.proofs.text.line.Goals as goal

pub get-clock-requires : goal.get-clock-requires
get-clock-requires c =
    let e = (counts (as_scenario c.args.scenario.now) c.requires).clocks in omega (arith, e, c.if-n-lt58.true)

pub bounds-rules-n : goal.bounds-rules-n
bounds-rules-n c =
    let e = (counts (as_scenario c.args.scenario.now) c.requires).rules in rw c.rules.ensures (omega (arith, e, c.if-n-lt378.true))

pub get-say-requires : goal.get-say-requires
get-say-requires c =
    let e = (counts (as_scenario c.args.scenario.now) c.requires).says in omega (arith, e, c.if-n-lt414.true)

pub returns-then-n-lt6-clause-text : goal.returns-then-n-lt6-clause-text
returns-then-n-lt6-clause-text c =
    let sc = as_scenario c.args.scenario.now in
    let n = c.args.n in
    found_line sc c.requires n c.root_line.result.bytes (omega (arith, c.if-n-lt6.true)) (c.root_line.ensures.bytes ∙ at_root sc n c.if-n-lt6.true)

pub returns-then-n-lt58-clause-text : goal.returns-then-n-lt58-clause-text
returns-then-n-lt58-clause-text c =
    let sc = as_scenario c.args.scenario.now in
    let n = c.args.n in
    let clock = get_or_from_slice_get sc.clocks ((n - 6) / 4) c.get-clock.result.now (record { start = 0; segments = [] }) c.get-clock.ensures in
    found_line sc c.requires n c.clock_line.result.bytes (omega (arith, c.if-n-lt58.true))
    (c.clock_line.ensures.bytes
    ∙ ap (λ (x : NodeName). get_or (clock_lines x c.get-clock.result.now) ((n - 6) % 4) []) c.node_at.ensures
    ∙ ap (λ (x : Timeline). get_or (clock_lines (node_at ((n - 6) / 4)) x) ((n - 6) % 4) []) (sym clock)
    ∙ at_clock sc c.requires n c.if-n-lt6.false c.if-n-lt58.true)

pub returns-then-n-lt378-clause-text : goal.returns-then-n-lt378-clause-text
returns-then-n-lt378-clause-text c =
    let sc = as_scenario c.args.scenario.now in
    let n = c.args.n in
    found_line sc c.requires n c.rule_line.result.bytes (omega (arith, c.if-n-lt378.true))
    ((rw c.rules.ensures at c.rule_line.ensures.bytes)
    ∙ at_link sc c.requires n _ c.if-n-lt58.false c.if-n-lt378.true)

pub returns-then-n-lt382-clause-text : goal.returns-then-n-lt382-clause-text
returns-then-n-lt382-clause-text c =
    let sc = as_scenario c.args.scenario.now in
    let n = c.args.n in
    found_line sc c.requires n c.fault_line.result.bytes (omega (arith, c.if-n-lt382.true))
    (c.fault_line.ensures.bytes ∙ at_biu_fault sc c.requires n c.if-n-lt378.false c.if-n-lt382.true)

pub returns-then-n-lt386-clause-text : goal.returns-then-n-lt386-clause-text
returns-then-n-lt386-clause-text c =
    let sc = as_scenario c.args.scenario.now in
    let n = c.args.n in
    found_line sc c.requires n c.fault_line-then-n-lt386.result.bytes (omega (arith, c.if-n-lt386.true))
    (c.fault_line-then-n-lt386.ensures.bytes ∙ at_rmu_fault sc c.requires n c.if-n-lt382.false c.if-n-lt386.true)

pub returns-then-n-lt414-clause-text : goal.returns-then-n-lt414-clause-text
returns-then-n-lt414-clause-text c =
    let sc = as_scenario c.args.scenario.now in
    let n = c.args.n in
    found_line sc c.requires n c.say_line.result.bytes c.if-n-lt414.true
    (c.say_line.ensures.bytes ∙ at_say sc c.requires n c.get-say.result.now c.if-n-lt386.false c.if-n-lt414.true c.get-say.ensures)

pub returns-else-n-lt414-clause-text : goal.returns-else-n-lt414-clause-text
returns-else-n-lt414-clause-text c = no_line (as_scenario c.args.scenario.now) c.requires c.args.n (omega (arith, c.if-n-lt414.false))
