use Rattle.std.proofs.Common.{refl}
use Rattle.rb_base.specs.Nodes.{set_below, set_of}
use Rattle.rb_rules.specs.{Book.with_frame, Rounds.begin_frame}
use Rattle.rb_test_rules.proofs.premises.good_sender.Goals as goal

pub returns : goal.returns
unfolding set_below set_of with_frame begin_frame
returns c = record { before = record { good = refl; state = refl }; sends = refl }
