use Rattle.std.proofs.Common.{◌||◌, eqb, ap, ◌∙◌}
use Rattle.rb_base.specs.Nodes.{has, set_of}
use Rattle.rb_scenario_entries.proofs.Distinct.{noted_biu, noted_rmu}
use Rattle.rb_scenario_entries.proofs.entries.note_node.Goals as goal

pub returns-in-Some-clause-noted : goal.returns-in-Some-clause-noted
returns-in-Some-clause-noted c =
    let s = c.args.seen.now in
    noted_biu s c.insert.new.self c.in-Biu.index c.args.name c.in-Biu.is (c.insert.ensures ∙ ap (λ k. set_of (λ i. has s.biu i || eqb i k)) c.in-Some.ensures.value)

pub returns-in-Some-new-clause-noted : goal.returns-in-Some-new-clause-noted
returns-in-Some-new-clause-noted c =
    let s = c.args.seen.now in
    noted_rmu s c.insert-in-Some-new.new.self c.in-Rmu.index c.args.name c.in-Rmu.is (c.insert-in-Some-new.ensures ∙ ap (λ k. set_of (λ i. has s.rmu i || eqb i k)) c.in-Some-new.ensures.value)
