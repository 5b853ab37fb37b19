-- Text that is written one piece after another.
use Rattle.rb_outside.proofs.Known.{appends_join, part_join, part_widens}
use Rattle.rb_base.proofs.Plain.{on_err}

pub ruleset in_turn = (appends_join, part_join, part_widens, on_err)
