-- If the sender's ranges have the place, its sixteen delays are those of its messages.
use Rattle.std.proofs.Common.{sym, ◌∙◌}
use Rattle.rb_link.proofs.NodeRows.{row_of_sixteen, sixteen_there}
use Rattle.rb_link.proofs.rows.row_at.Goals as goal

pub returns-in-Some-sixteen_from : goal.returns-in-Some-sixteen_from
returns-in-Some-sixteen_from c = record {
  delays = λ base rules are.
      row_of_sixteen base rules c.args.shared.now c.args.flat.now c.in-Some-sixteen_from.row.now c.args.sender c.args.place c.in-Some.ranges are
      c.has_place.ensures.fits c.in-Some.ensures (sym c.has_place.ensures.is ∙ c.if-has_place.true) c.in-Some-sixteen_from.ensures.found;
  there = λ base rules are.
      sixteen_there base rules c.args.shared.now c.args.flat.now c.in-Some-sixteen_from.row.now c.args.sender c.args.place c.in-Some.ranges are
      c.has_place.ensures.fits c.requires c.in-Some.ensures (sym c.has_place.ensures.is ∙ c.if-has_place.true) c.in-Some-sixteen_from.ensures.found;
}
