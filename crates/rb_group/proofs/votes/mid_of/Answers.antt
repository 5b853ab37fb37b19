use Rattle.std.proofs.Common.{◌^◌}
use Rattle.rb_group.proofs.Smalls.{found_below}
use Rattle.rb_group.proofs.votes.mid_of.Goals as goal

pub heard_of-requires : goal.heard_of-requires
heard_of-requires c = found_below (2 ^ 32) c.words_in-words.result.items c.middle.result c.words_in-words.ensures.small c.middle.ensures.counted
