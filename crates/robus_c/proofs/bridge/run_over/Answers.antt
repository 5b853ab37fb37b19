use Rattle.robus_c.proofs.BridgeOverBytes.{over_bytes}
use Rattle.robus_c.proofs.bridge.run_over.Goals as goal

pub returns : goal.returns
returns g c ok = record {
  status = c.run_bridge-status.result;
  is = c.number.ensures;
  answers = over_bytes c.args.words.now c.run_bridge-status.result c.args.input.now c.new-source.result c.run_bridge-status.new.input c.args.sink.now c.run_bridge-status.new.output _ _ _ _
      c.new-source.ensures c.requires ok c.run_bridge-status.ensures.usage c.run_bridge-status.ensures.untouched c.run_bridge-status.ensures.shown c.run_bridge-status.ensures.promise
      c.run_bridge-status.ensures.refused c.run_bridge-status.ensures.unread c.run_bridge-status.ensures.write_fault c.run_bridge-status.ensures.complete;
}
