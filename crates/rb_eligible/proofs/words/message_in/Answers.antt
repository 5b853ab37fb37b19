use Rattle.std.proofs.Common.{◌/◌, ◌%◌, sym, ◌∙◌}
use Rattle.rb_rules.specs.Spelling.{message_with}
use Rattle.rb_eligible.proofs.Forms.{message_from, no_message}
use Rattle.rb_frame.specs.Spellings.{spelled}
use Rattle.rb_eligible.proofs.words.message_in.Goals as goal

pub returns-then-not-has_form : goal.returns-then-not-has_form
returns-then-not-has_form c = sym (no_message c.args.version (spelled c.args.low c.args.high c.args.len) (sym c.has_form.ensures ∙ c.if-not-has_form.true))

pub returns : goal.returns
returns c =
    let stage = c.args.low / 1099511627776 % 256 in
    c.message_with.ensures
    ∙ (λ i. message_with (c.tag_in.ensures i) (c.frame_in.ensures i) (c.slot_in.ensures i) stage (c.value_in.ensures i))
    ∙ sym (message_from c.args.version c.args.low c.args.high c.args.len c.requires (sym c.has_form.ensures ∙ c.if-not-has_form.false))
