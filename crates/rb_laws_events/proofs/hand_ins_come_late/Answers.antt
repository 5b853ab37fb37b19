use Rattle.rb_rules.proofs.HandIns.{moments-more}
use Rattle.rb_laws_events.proofs.hand_ins_come_late.Goals as goal

pub returns : goal.returns
returns c = moments-more
