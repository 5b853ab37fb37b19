use Rattle.rb_laws_synchrony.proofs.SyncLaws.{all_timely}
use Rattle.rb_laws_synchrony.proofs.windows_are_timely.Goals as goal

pub returns : goal.returns
returns c = all_timely
