use Rattle.std.proofs.{Common.{arith, None}, lemmas.List.FromFn.fill_by_all}
use Rattle.toml.specs.View.{table_view}
use Rattle.rb_base.specs.Nodes.{side_of}
use Rattle.rb_rules.specs.Links.{name_of}
use Rattle.rb_scenario_entries.specs.Faults.{onset_for, onsets_of}
use Rattle.rb_scenario_entries.proofs.faults.onsets_of.Goals as goal

pub returns : goal.returns
unfolding onsets_of
returns g c =
    fill_by_all (λ i. onset_for c.args.bus.now (table_view c.args.table.now) (name_of (side_of g.K.Kind.CODE) i)) c.loop-index.onsets 16 None
    c.loop-index.invariant.sixteen (λ k h. c.loop-index.invariant.filled k (omega arith))
