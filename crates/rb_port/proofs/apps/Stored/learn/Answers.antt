use Rattle.std.proofs.Common.{rules}
use Rattle.rb_port.proofs.apps.Stored.learn.Goals as goal

pub returns : goal.returns
returns g c = (c.args.self.now.learns c.args.state c.args.slot c.args.sender c.args.value c.ranges.state.fits c.ranges.slot.fits c.ranges.sender.fits (search rules)).1 _ c.call_learn.ensures
