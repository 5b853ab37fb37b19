use Rattle.rb_link.proofs.NodeRows.{no_rule_yet, one_rule_more}
use Rattle.rb_link.proofs.rows.shared_by.Goals as goal

pub loop-i-init : goal.loop-i-init
loop-i-init c = record { shared = no_rule_yet c.args.latest.now c.args.sender }

pub loop-i-preserved : goal.loop-i-preserved
loop-i-preserved c = record {
  shared = one_rule_more c.args.latest.now c.args.sender c.loop-i.i c.loop-i.ranges c.narrowed-ranges.result c.rule_at.result c.rule_at.ensures
      c.loop-i.invariant.shared c.narrowed-ranges.ensures;
}
