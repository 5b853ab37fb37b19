use Rattle.rb_run.proofs.Histories.{mem-drives-keep}
use Rattle.rb_run.proofs.mem_drives_keep_the_run.Goals as goal

pub returns : goal.returns
returns c = mem-drives-keep
