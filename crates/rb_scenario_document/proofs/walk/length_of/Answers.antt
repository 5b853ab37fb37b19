use Rattle.std.proofs.Common.{arith}
use Rattle.rb_scenario_document.proofs.Walks.{length_of-view}
use Rattle.rb_scenario_document.proofs.walk.length_of.Goals as goal

pub returns : goal.returns
returns c = omega (arith, length_of-view c.args.values.now.items, c.args.values.now.ok)
