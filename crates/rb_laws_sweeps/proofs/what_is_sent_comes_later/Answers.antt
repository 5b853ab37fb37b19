use Rattle.rb_laws_sweeps.proofs.SentLater.{sent-later}
use Rattle.rb_laws_sweeps.proofs.what_is_sent_comes_later.Goals as goal

pub returns : goal.returns
returns c = sent-later
