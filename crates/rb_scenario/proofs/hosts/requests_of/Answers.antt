use Rattle.std.proofs.{Common.arith, lemmas.List.FromFn.fill_by_all}
use Rattle.toml.specs.View.{table_view}
use Rattle.rb_scenario.specs.Hosts.{requests_of, request_at}
use Rattle.rb_scenario.proofs.hosts.requests_of.Goals as goal

pub returns : goal.returns
unfolding requests_of
returns c = fill_by_all (λ i. request_at c.args.bius (table_view c.args.table.now) i) c.loop-index.requests 16 0 c.loop-index.invariant.sixteen (λ k h. c.loop-index.invariant.filled k (omega arith))
