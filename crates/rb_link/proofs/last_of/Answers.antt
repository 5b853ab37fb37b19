use Rattle.std.proofs.Common.{◌∙◌}
use Rattle.rb_link.proofs.PairIndex.{latest_by_index}
use Rattle.rb_link.proofs.last_of.Goals as goal

pub returns-in-Some : goal.returns-in-Some
returns-in-Some c =
    c.last_among.ensures
    ∙ latest_by_index c.args.pair c.args.rules.now c.args.starts.now _ _ c.requires.index c.in-Some.ensures.starts c.in-Some.ensures.places
