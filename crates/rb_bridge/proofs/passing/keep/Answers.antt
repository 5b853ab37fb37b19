use Rattle.rb_bridge.proofs.Passed.{kept-more}
use Rattle.rb_bridge.proofs.passing.keep.Goals as goal

pub returns : goal.returns
returns c = λ frame turns within hold.
    kept-more c.args.terms.now frame turns c.args.turn.now c.args.passage.now c.advance.new.ports c.note.new.kept within hold c.advance.ensures c.note.ensures
