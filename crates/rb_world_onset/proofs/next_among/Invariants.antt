use Rattle.rb_world_onset.specs.Search.{IsNextAmong}
use Rattle.rb_world_onset.proofs.next_among.Given as goal

abbrev pub invariant-loop-index : goal.invariant-loop-index
invariant-loop-index l = IsNextAmong l.index l.onsets l.frame l.slot l.fn.change l.next
