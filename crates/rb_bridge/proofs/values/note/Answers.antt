use Rattle.rb_world_book.specs.Records.{record_of}
use Rattle.rb_bridge.proofs.Noted.{hold-same, value-more}
use Rattle.rb_bridge.proofs.values.note.Goals as goal

pub returns : goal.returns
returns c = λ records hold.
    hold-same _ _ c.note_turn.new.kept (λ i. value-more c.args.frame c.args.slot i records (record_of c.args.turn.now)) (c.note_turn.ensures _ hold)
