use Rattle.rb_laws_logs.proofs.FirstRuns.{one-list-is-given}
use Rattle.rb_laws_logs.proofs.one_list_is_given.Goals as goal

pub returns : goal.returns
returns c = one-list-is-given
