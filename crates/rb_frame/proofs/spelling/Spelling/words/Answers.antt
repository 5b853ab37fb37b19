use Rattle.std.proofs.Common.{sym, ◌∙◌, ap, length, arith}
use Rattle.rb_frame.proofs.Keeping.{length_bytes, short_bytes}
use Rattle.rb_frame.proofs.spelling.Spelling.words.Goals as goal

pub returns-clause-len : goal.returns-clause-len
returns-clause-len c =
    sym (length_bytes c.self.inside.low c.self.inside.tail c.self.inside.rest c.self.invariant.few c.self.invariant.others) ∙ ap length c.self.view_is

pub returns-clause-short : goal.returns-clause-short
returns-clause-short c short =
    let count = length_bytes c.self.inside.low c.self.inside.tail c.self.inside.rest c.self.invariant.few c.self.invariant.others in
    sym c.self.view_is ∙ short_bytes c.self.inside.low c.self.inside.tail c.self.inside.rest (omega (arith, count, ap length c.self.view_is, short))
