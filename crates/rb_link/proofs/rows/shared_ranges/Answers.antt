use Rattle.std.proofs.Common.{◌≡◌, ◌∙◌, ◌+◌, ◌∷◌, [], ap, arith, length, length-append, subst, sym}
use Rattle.rb_link.specs.Rows.{AreShared, IsShared}
use Rattle.rb_link.proofs.NodeRows.{one_more_shared}
use Rattle.rb_link.proofs.rows.shared_ranges.Goals as goal

pub loop-sender-preserved : goal.loop-sender-preserved
loop-sender-preserved c =
    let is = c.loop-sender.invariant in
    let ranges = c.shared_by-ranges.result in
    let long : length c.add.new.list.items ≡ length c.loop-sender.shared.items + 1 =
    ap length c.in_ok-add.ensures ∙ length-append c.loop-sender.shared.items (ranges ∷ []) in
    record {
      shared_are = subst (AreShared c.args.latest.now) (sym c.in_ok-add.ensures)
          (one_more_shared c.args.latest.now c.loop-sender.shared.items ranges is.shared_are
          (subst (λ n. IsShared c.args.latest.now n 16 ranges) (sym is.many) c.shared_by-ranges.ensures));
      many = omega (arith, long, is.many);
    }
