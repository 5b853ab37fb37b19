use Rattle.rb_laws_groups.proofs.Rightness.{records-right}
use Rattle.rb_laws_groups.proofs.records_are_right.Goals as goal

pub returns : goal.returns
returns c = records-right
