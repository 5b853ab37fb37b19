use Rattle.rb_bridge.proofs.Exchanged.{frame-begins}
use Rattle.rb_bridge.proofs.exchanging.begin_frame.Goals as goal

pub returns : goal.returns
returns c = λ turns going over hold.
    frame-begins c.args.terms.now turns c.args.turn.now c.args.passage.now c.advance.new.ports c.no_values-passage.result c.note.new.kept c.advance.ensures c.no_values-passage.ensures c.note.ensures
    going over hold
