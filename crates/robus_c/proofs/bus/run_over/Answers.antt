use Rattle.robus_c.proofs.BusOverBytes.{over_bytes}
use Rattle.robus_c.proofs.bus.run_over.Goals as goal

pub returns : goal.returns
returns g c ok = record {
  status = c.run_robus-status.result;
  is = c.number.ensures;
  answers = over_bytes c.args.words.now c.run_robus-status.result c.args.input.now c.new-source.result c.run_robus-status.new.input c.args.sink.now c.run_robus-status.new.output _ _
      c.new-source.ensures c.requires ok c.run_robus-status.ensures.usage c.run_robus-status.ensures.untouched c.run_robus-status.ensures.ended c.run_robus-status.ensures.promise
      c.run_robus-status.ensures.refused c.run_robus-status.ensures.unread c.run_robus-status.ensures.write_fault c.run_robus-status.ensures.complete;
}
