use Rattle.std.proofs.Common.{lit<, lit≤, refl}
use Rattle.rb_base.specs.Nodes.Side.{Biu}
use Rattle.rb_rules.specs.{Book.with_frame, Rounds.begin_frame}
use Rattle.rb_test_rules.specs.Parts.{biu}
use Rattle.rb_test_rules.proofs.abstract_bus.votes_and_epochs_of_the_bus.Goals as goal

pub returns-clause-next_epoch_of_a_biu : goal.returns-clause-next_epoch_of_a_biu
returns-clause-next_epoch_of_a_biu c = record { epoch = 917; known = refl; least = lit≤ tt; most = lit< tt }

pub returns-clause-next_epoch_of_an_rmu : goal.returns-clause-next_epoch_of_an_rmu
returns-clause-next_epoch_of_an_rmu c = record { epoch = 917; known = refl; least = lit≤ tt; most = lit< tt }

pub returns-clause-low : goal.returns-clause-low
unfolding begin_frame with_frame
returns-clause-low c = record { me = Biu; i = 0; st = biu; begins = record { good = refl; state = refl }; time = refl }
