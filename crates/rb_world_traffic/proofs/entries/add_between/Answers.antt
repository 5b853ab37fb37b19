use Rattle.std.proofs.Common.{◌+◌, ◌++◌, arith, ap, filter, length, ◌∙◌}
use Rattle.rb_base.proofs.Plain.{take-all}
use Rattle.rb_world_traffic.specs.Saying.{entries_at, is_between}
use Rattle.rb_world_traffic.proofs.EntryLists.{one-entry, one-number}
use Rattle.rb_world_traffic.proofs.entries.add_between.Goals as goal

pub loop-number-preserved : goal.loop-number-preserved
loop-number-preserved c =
    let says = c.args.says.now in
    let n = c.loop-number.number in
    record {
      entries = ap (entries_at says) c.in_ok-add_if.ensures
          ∙ one-entry says c.args.places.now.items c.loop-number.places.items c.args.from c.args.to n c.get.result.now c.is_between.result c.get.ensures c.is_between.ensures
          c.loop-number.invariant.entries;
      many = ap length c.in_ok-add_if.ensures
          ∙ one-number says c.args.places.now.items c.loop-number.places.items c.args.from c.args.to n c.get.result.now c.is_between.result c.get.ensures c.is_between.ensures
          c.loop-number.invariant.many;
    }

pub returns-clause-entries : goal.returns-clause-entries
returns-clause-entries c =
    let says = c.args.says.now in
    let all = take-all says c.loop-number.number (omega (arith, c.len-number-end.ensures)) in
    c.loop-number.invariant.entries ∙ ap (λ l. entries_at says c.args.places.now.items ++ filter (is_between c.args.from c.args.to) l) all

pub returns-clause-many : goal.returns-clause-many
returns-clause-many c =
    let says = c.args.says.now in
    let all = take-all says c.loop-number.number (omega (arith, c.len-number-end.ensures)) in
    c.loop-number.invariant.many ∙ ap (λ l. length c.args.places.now.items + length (filter (is_between c.args.from c.args.to) l)) all
