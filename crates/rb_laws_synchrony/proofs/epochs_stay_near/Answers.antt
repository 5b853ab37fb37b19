use Rattle.rb_laws_synchrony.proofs.SyncLaws.{epochs_near}
use Rattle.rb_laws_synchrony.proofs.epochs_stay_near.Goals as goal

pub returns : goal.returns
returns c = epochs_near
