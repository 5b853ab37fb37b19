use Rattle.std.proofs.Common.{ap, arith, length, ◌<◌, ◌∙◌, ◌∷◌, ◌++◌, [], cond}
use Rattle.rb_link.specs.Pairs.{is_from}
use Rattle.rb_link.proofs.PairIndex.{one_more}
use Rattle.rb_link.proofs.places_from.Goals as goal

pub loop-rule-preserved : goal.loop-rule-preserved
loop-rule-preserved c =
    let is = c.loop-rule.invariant in
    let within : c.loop-rule.rule-index < length c.args.rules.now = omega arith in
    record {
      number = omega (arith, is.number);
      sent = c.in_ok-add_if.ensures
          ∙ ap (λ n. c.loop-rule.sent.items ++ cond c.stands_for.result (n ∷ []) []) is.number
          ∙ one_more c.loop-rule.sent.items (is_from c.args.from) c.args.rules.now c.loop-rule.rule-index _ c.stands_for.result within is.sent c.stands_for.ensures;
    }
