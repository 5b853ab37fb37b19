use Rattle.rb_laws_groups.proofs.Alike.{groups-agree}
use Rattle.rb_laws_groups.proofs.groups_agree.Goals as goal

pub returns : goal.returns
returns c = groups-agree
