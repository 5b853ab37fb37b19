use Rattle.rb_run.proofs.Opened.{just-opened}
use Rattle.rb_test_documents.proofs.choices.opened.Goals as goal

pub returns : goal.returns
returns c = just-opened c.in-Ok-open.world _ c.in-Ok-open.ensures.stands
