use Rattle.std.proofs.Common.{refl}
use Rattle.rb_base.specs.Nodes.{set_below, set_of, size}
use Rattle.rb_rules.specs.{Book.{with_frame, with_stage}, Judging.{classes_of, verdict_of}, WorldStep.{first_world, hand, happens}}
use Rattle.rb_test_rules.proofs.steps.settled_and_handed.Goals as goal

pub returns-clause-stage_and_frame : goal.returns-clause-stage_and_frame
unfolding set_below set_of size with_frame with_stage classes_of verdict_of first_world happens
returns-clause-stage_and_frame c = refl

pub returns-clause-handed : goal.returns-clause-handed
unfolding first_world hand
returns-clause-handed c = refl
