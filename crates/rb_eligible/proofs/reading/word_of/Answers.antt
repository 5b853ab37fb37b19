use Rattle.std.proofs.Common.{sym, ◌∙◌}
use Rattle.rb_frame.specs.Spellings.{high_of, len_of}
use Rattle.rb_eligible.proofs.Starts.{says_word}
use Rattle.rb_eligible.proofs.reading.word_of.Goals as goal

pub returns-then-has_form : goal.returns-then-has_form
returns-then-has_form c =
    says_word c.args.expect.now c.args.low (high_of c.args.tail) (len_of c.args.tail) c.value_in.result c.requires (c.starts_as_word.ensures c.if-starts_as_word.true)
    (sym c.has_form.ensures ∙ c.if-has_form.true) c.value_in.ensures
