use Rattle.std.proofs.Common.{rules, arith, []}
use Rattle.rb_base.proofs.Plain.{on_err}
use Rattle.rb_top.specs.CheckText.{text_after}
use Rattle.rb_top.proofs.Writing.{owes_none, owes_pieces, owes_pieces_alone, owes_tail, part_of_pieces}
use Rattle.rb_top.proofs.checking.write_check.Goals as goal

pub loop-before-init : goal.loop-before-init
loop-before-init g c = record { owes = owes_pieces_alone _ (text_after c.args.plan.now.sizes c.args.plan.now.plan) 7; later = search rules }

pub loop-before-preserved : goal.loop-before-preserved
loop-before-preserved g c = record {
  owes = owes_pieces _ _ _ _ [] (text_after c.args.plan.now.sizes c.args.plan.now.plan) c.loop-before.before 7 (omega arith) c.loop-before.invariant.owes (search rules);
  later = search rules;
}

pub returns-in_err-write_line : goal.returns-in_err-write_line
returns-in_err-write_line g c = record {
  all = search rules;
  part = on_err _ (part_of_pieces _ _ _ _ [] (text_after c.args.plan.now.sizes c.args.plan.now.plan) c.loop-before.before 7 (omega arith) c.loop-before.invariant.owes (search rules));
  cause = search rules;
}

pub returns : goal.returns
returns g c = record {
  all = owes_none _ _ _ (owes_tail _ _ _ [] (text_after c.args.plan.now.sizes c.args.plan.now.plan) c.loop-before.before 7 (omega arith) c.loop-before.invariant.owes);
  part = search rules;
  cause = search rules;
}
