use Rattle.std.proofs.Common.{rules}
use Rattle.rb_node.proofs.Acting.{closes-same}
use Rattle.rb_node.proofs.parts.close_at.Goals as goal

pub returns : goal.returns
returns g c =
    let received = c.came-came.ensures.stands in
    record {
      closes = search rules;
      state = search rules;
      shown = search rules;
      stays = search rules;
      keeps = search rules;
      inbox = search rules;
      stamps = search rules;
      same = closes-same _ _ _ c.args.window.now received.0 (c.close_into.ensures.state received.0 received.1);
    }
