use Rattle.std.proofs.{Common.arith, lemmas.List.FromFn.fill_by_all}
use Rattle.toml.specs.View.{table_view}
use Rattle.rb_scenario.specs.Hosts.{words_of, word_at}
use Rattle.rb_scenario.proofs.hosts.words_of.Goals as goal

pub returns : goal.returns
unfolding words_of
returns c = fill_by_all (λ i. word_at (table_view c.args.table.now) i) c.loop-index.words 16 0 c.loop-index.invariant.sixteen (λ k h. c.loop-index.invariant.filled k (omega arith))
