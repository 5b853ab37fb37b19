use Rattle.std.proofs.{Common.arith, lemmas.List.FromFn.fill_by_all}
use Rattle.toml.specs.View.{table_view}
use Rattle.rb_scenario.specs.Hosts.{apps_of, app_at}
use Rattle.rb_scenario.proofs.hosts.apps_of.Goals as goal

pub returns : goal.returns
unfolding apps_of
returns c = fill_by_all (λ i. app_at (table_view c.args.table.now) i) c.loop-index.apps 16 0 c.loop-index.invariant.sixteen (λ k h. c.loop-index.invariant.filled k (omega arith))
