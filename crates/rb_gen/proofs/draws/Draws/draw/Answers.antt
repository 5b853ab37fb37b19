use Rattle.std.proofs.{Common.{◌*◌, refl}, Math.Nat.mod-add-mod}
use Rattle.rb_gen.specs.Draws.{next_state, number_of}
use Rattle.rb_gen.proofs.draws.Draws.draw.Goals as goal

pub returns-clause-state : goal.returns-clause-state
unfolding next_state
returns-clause-state c = mod-add-mod (c.args.self.now.state * 6364136223846793005) 18446744073709551616 1442695040888963407

pub returns-clause-number : goal.returns-clause-number
unfolding number_of
returns-clause-number c = refl
