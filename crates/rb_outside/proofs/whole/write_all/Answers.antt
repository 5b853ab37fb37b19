-- the bytes of one more write come next
use Rattle.std.proofs.{Common.rules, lemmas.List.take_rest}
use Rattle.rb_outside.proofs.Known.{appends_next}
use Rattle.rb_outside.proofs.whole.write_all.Goals as goal

pub loop-at-preserved : goal.loop-at-preserved
loop-at-preserved g c = record {
  within = search rules;
  written = appends_next _ _ _ _ _ _ c.loop-at.invariant.written
      (rw (take_rest c.args.bytes.now c.loop-at.at) at c.in_ok-at.ensures.bytes);
  later = search rules;
}
