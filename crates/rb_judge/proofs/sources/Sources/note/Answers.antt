use Rattle.std.proofs.Common.{arith}
use Rattle.rb_judge.proofs.Sides.{member_below}
use Rattle.rb_judge.proofs.sources.Sources.note.Goals as goal

pub returns-clause-here : goal.returns-clause-here
returns-clause-here g c = λ sight is. rw c.put.ensures.here (c.noted-seen.ensures sight (rw c.seen.ensures is))

pub noted-seen-requires-clause-number : goal.noted-seen-requires-clause-number
noted-seen-requires-clause-number g c = member_below c.args.good c.args.receiver (omega arith) c.requires.good
