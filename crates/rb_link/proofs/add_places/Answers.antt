use Rattle.std.proofs.Common.{ap, arith, length, slice_get, ◌<◌, ◌∙◌}
use Rattle.rb_link.specs.Pairs.{is_to}
use Rattle.rb_link.proofs.PairIndex.{one_kept}
use Rattle.rb_link.proofs.add_places.Goals as goal

pub loop-number-preserved : goal.loop-number-preserved
loop-number-preserved c =
    let within : c.loop-number.number-index < length c.args.sent.now = omega arith in
    c.in_ok-add_if.ensures
    ∙ one_kept c.args.places.now.items c.loop-number.places.items (λ n. is_to c.args.to (slice_get c.args.rules.now n)) c.args.sent.now c.loop-number.number-index
    c.is_to.result within c.loop-number.invariant (c.is_to.ensures ∙ ap (is_to c.args.to) c.rule_at.ensures)
