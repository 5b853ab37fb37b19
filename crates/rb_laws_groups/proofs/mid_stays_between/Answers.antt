use Rattle.rb_laws_groups.proofs.Voted.{mid-stays}
use Rattle.rb_laws_groups.proofs.mid_stays_between.Goals as goal

pub returns : goal.returns
returns c = mid-stays
