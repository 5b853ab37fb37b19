use Rattle.rb_laws_synchrony.proofs.SyncLaws.{slots_near}
use Rattle.rb_laws_synchrony.proofs.slots_begin_near.Goals as goal

pub returns : goal.returns
returns c = slots_near
