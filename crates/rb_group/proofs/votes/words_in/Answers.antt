use Rattle.std.proofs.Common.{arith}
use Rattle.rb_rules.specs.Ports.{word_in}
use Rattle.rb_group.proofs.Picked.{few_more, picked_more}
use Rattle.rb_group.proofs.votes.words_in.Goals as goal

pub loop-value-preserved : goal.loop-value-preserved
loop-value-preserved c = record {
  few = few_more word_in _ c.loop-value.words.items c.add_word.new.words.items c.loop-value.value-index c.loop-value.invariant.few c.add_word.ensures.word;
  small = c.add_word.ensures.small c.loop-value.invariant.small;
  held = picked_more word_in c.args.values.now c.loop-value.value-index _ c.loop-value.words.items c.add_word.new.words.items (omega arith) c.loop-value.invariant.held c.add_word.ensures.word;
}
