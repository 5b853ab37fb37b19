use Rattle.rb_laws_sweeps.proofs.Hearing.{nothing-is-heard}
use Rattle.rb_laws_sweeps.proofs.nothing_is_heard.Goals as goal

pub returns : goal.returns
returns c = nothing-is-heard
