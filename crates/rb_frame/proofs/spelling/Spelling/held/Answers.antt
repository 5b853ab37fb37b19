use Rattle.std.proofs.Common.{◌∙◌, ap, take, ◌/◌}
use Rattle.rb_frame.specs.Spellings.{bytes_in}
use Rattle.rb_frame.proofs.spelling.Spelling.held.Goals as goal

pub returns : goal.returns
unfolding bytes_in
returns c = c.truncate.ensures.items ∙ ap (take (c.self.inside.tail / 4294967296)) (c.from-held.ensures.0 ∙ c.all_of.ensures) ∙ c.self.view_is
