-- The set grows by each node that is good.
use Rattle.std.proofs.Common.{ℕ, Bool, sym, ◌∙◌, arith}
use Rattle.rb_base.proofs.SetLoops.{passing_none, passing_more, passing_same, passing_all}
use Rattle.rb_world_onset.specs.Faults.{is_good_among}
use Rattle.rb_world_onset.proofs.good_among.Goals.{then-is_good_among, else-is_good_among}
use Rattle.rb_world_onset.proofs.good_among.Goals as goal

pub loop-index-init : goal.loop-index-init
loop-index-init g c = c.empty-good.ensures.value ∙ passing_none (is_good_among c.args.count c.args.onsets.now c.args.frame c.args.slot)

pub loop-index-preserved : goal.loop-index-preserved
loop-index-preserved g c =
    let p : ℕ → Bool = is_good_among c.args.count c.args.onsets.now c.args.frame c.args.slot in
    let good = c.loop-index.good in
    let index = c.loop-index.index in
    elim c.if-is_good_among.branch [
      | then-is_good_among w ↦
          w.good-is ∙ w.insert.ensures ∙ passing_more p good index w.of.result c.loop-index.invariant w.of.ensures (sym c.is_good_among.ensures ∙ w.if-is_good_among.true)
      | else-is_good_among w ↦ w.good-is ∙ passing_same p good index c.loop-index.invariant (sym c.is_good_among.ensures ∙ w.if-is_good_among.false)
    ]

pub returns : goal.returns
returns g c =
    passing_all (is_good_among c.args.count c.args.onsets.now c.args.frame c.args.slot) c.loop-index.good c.loop-index.index c.loop-index.invariant (omega arith)
