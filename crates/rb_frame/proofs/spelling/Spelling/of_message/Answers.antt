use Rattle.std.proofs.Common.{sym, ◌∙◌}
use Rattle.rb_frame.proofs.Sending.{sent, sent_one, sent_two}
use Rattle.rb_frame.proofs.spelling.Spelling.of_message.Goals as goal

pub returns-in-One-clause-value : goal.returns-in-One-clause-value
returns-in-One-clause-value c =
    sent_one c.args.version c.args.message.now c.tag_byte.result c.first_word-low.result c.next_two-high.result c.eleven.result c.in-One.is c.tag_byte.ensures
    c.first_word-low.ensures.bytes c.next_two-high.ensures.bytes c.eleven.ensures

pub returns-in-One-clause-spelled : goal.returns-in-One-clause-spelled
returns-in-One-clause-spelled c =
    let in_range = c.first_word-low.ensures in
    sent c.args.version c.args.message.now c.eleven.result (returns-in-One-clause-value c) in_range.frame in_range.slot c.requires.some_stage c.requires.most_stages in_range.value c.requires.value

pub returns-in-One-clause-only : goal.returns-in-One-clause-only
returns-in-One-clause-only c bytes spells = spells.1 ∙ sym (returns-in-One-clause-value c)

pub returns-in-Two-clause-value : goal.returns-in-Two-clause-value
returns-in-Two-clause-value c =
    sent_two c.args.version c.in-Two.bus c.args.message.now c.tag_byte.result c.first_word-low.result c.next_two-high.result c.twelve.result c.in-Two.is c.tag_byte.ensures
    c.first_word-low.ensures.bytes c.next_two-high.ensures.bytes c.twelve.ensures

pub returns-in-Two-clause-spelled : goal.returns-in-Two-clause-spelled
returns-in-Two-clause-spelled c =
    let in_range = c.first_word-low.ensures in
    sent c.args.version c.args.message.now c.twelve.result (returns-in-Two-clause-value c) in_range.frame in_range.slot c.requires.some_stage c.requires.most_stages in_range.value c.requires.value

pub returns-in-Two-clause-only : goal.returns-in-Two-clause-only
returns-in-Two-clause-only c bytes spells = spells.1 ∙ sym (returns-in-Two-clause-value c)
