use Rattle.std.proofs.Common.{◌≡◌, arith, map, get_or}
use Rattle.toml.specs.View.{items_view}
use Rattle.rb_scenario_document.specs.Walk.{tables_in}
use Rattle.rb_scenario_document.proofs.Collecting.{gather_more, left_more}
use Rattle.rb_scenario_entries.specs.Links.{is_link, rule_of}
use Rattle.rb_scenario_entries.proofs.links.rules_among.Goals as goal

pub loop-value-preserved : goal.loop-value-preserved
loop-value-preserved c =
    let bus = c.args.bus.now in
    let vs = c.args.values.now.items in
    let i = c.loop-value.value-index in
    let v = c.value-item.result in
    let is : v ≡ get_or vs i v = rw c.deref-value-items.ensures.value at c.value-item.is in
    record {
      taken = gather_more (rule_of bus) vs i v c.loop-value.rules.items c.take_rule.new.rules.items (map (rule_of bus) (tables_in (items_view vs)))
          (omega arith) is c.in_ok-take_rule.ensures c.loop-value.invariant.taken;
      left = (left_more (is_link bus) vs i v (omega arith) is c.loop-value.invariant.left).1;
    }
