use Rattle.std.proofs.Common.{◌+◌, sym, subst}
use Rattle.rb_world_onset.specs.Search.{IsNextAmong}
use Rattle.rb_world_onset.proofs.Changes.{next_none, next_more}
use Rattle.rb_world_onset.proofs.next_among.Goals as goal

pub loop-index-init : goal.loop-index-init
loop-index-init c = next_none c.args.onsets.now c.args.frame c.args.slot c.args.change

pub loop-index-preserved : goal.loop-index-preserved
loop-index-preserved c =
    subst (IsNextAmong (c.loop-index.index + 1) c.args.onsets.now c.args.frame c.args.slot c.args.change) (sym c.earlier_after-next.ensures)
    (next_more c.args.onsets.now c.args.frame c.args.slot c.loop-index.index c.args.change c.loop-index.next c.onset_at.result c.loop-index.invariant c.onset_at.ensures)
