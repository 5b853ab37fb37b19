use Rattle.rb_port.proofs.apps.Stored.offer.Goals as goal

pub returns : goal.returns
returns g c = (c.args.self.now.offers c.args.state c.args.slot c.ranges.state.fits c.ranges.slot.fits).1 _ c.call_offer.ensures
