use Rattle.std.proofs.Common.{◌≡◌, ◌∙◌, ◌+◌, ◌∷◌, [], ap, arith, length, length-append, refl, subst, sym}
use Rattle.rb_link.specs.Pairs.{AreLatest, receiver_of, rule_or_base, sender_of}
use Rattle.rb_link.proofs.Latest.{latest_at_none, latest_more}
use Rattle.rb_link.proofs.latest_rules.Goals as goal

pub loop-pair-init : goal.loop-pair-init
loop-pair-init c = record {
  latest_are = subst (AreLatest c.args.base c.args.rules.now) (sym c.in_ok-latest.ensures.items) (latest_at_none c.args.base c.args.rules.now);
  many = ap length c.in_ok-latest.ensures.items;
}

pub loop-pair-preserved : goal.loop-pair-preserved
loop-pair-preserved c =
    let is = c.loop-pair.invariant in
    let long : length c.add.new.list.items ≡ length c.loop-pair.latest.items + 1 =
    ap length c.in_ok-add.ensures ∙ length-append c.loop-pair.latest.items (c.latest_rule-rule.result ∷ []) in
    record {
      latest_are = subst (AreLatest c.args.base c.args.rules.now) (sym c.in_ok-add.ensures)
          (latest_more c.args.base c.loop-pair.pair c.args.rules.now c.loop-pair.latest.items _ _ _ is.latest_are is.many refl refl
          (c.latest_rule-rule.ensures ∙ ap (rule_or_base c.args.base (sender_of c.loop-pair.pair) (receiver_of c.loop-pair.pair)) c.last_of-found.ensures));
      many = omega (arith, long, is.many);
    }
