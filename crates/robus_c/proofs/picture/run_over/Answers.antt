use Rattle.robus_c.proofs.PictureOverBytes.{over_bytes}
use Rattle.robus_c.proofs.picture.run_over.Goals as goal

pub returns : goal.returns
returns c ok = record {
  status = c.draw-status.result;
  is = c.number_of.ensures;
  answers = over_bytes c.args.words.now c.draw-status.result c.args.input.now c.new-source.result c.draw-status.new.input c.args.sink.now c.draw-status.new.output
      c.new-source.ensures c.requires ok c.draw-status.ensures.usage c.draw-status.ensures.untouched c.draw-status.ensures.done c.draw-status.ensures.refused
      c.draw-status.ensures.write_fault c.draw-status.ensures.too_long c.draw-status.ensures.read_fault c.draw-status.ensures.complete;
}
