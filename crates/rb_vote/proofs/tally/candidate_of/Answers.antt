use Rattle.std.proofs.{Common.{take, subst, arith}, lemmas.List.{take_all, take_more}}
use Rattle.rb_base.specs.declared.values.Heard.TheVariants.{Word}
use Rattle.rb_vote.specs.Tallies.{IsTally}
use Rattle.rb_vote.proofs.Leading.{leader_is}
use Rattle.rb_vote.proofs.tally.candidate_of.Goals as goal

pub loop-value-preserved : goal.loop-value-preserved
loop-value-preserved c = record {
  few = omega (arith, c.with_value-tally.ensures.all);
  leads = c.with_value-tally.ensures.leads;
  so_far =
      rw (take_more c.args.values.now c.loop-value.value-index (Word 0) c.loop-value-test.true)
      (c.with_value-tally.ensures.tally (take c.loop-value.value-index c.args.values.now) c.loop-value.invariant.so_far);
}

pub returns : goal.returns
returns c = λ v most.
    let tally = c.loop-value.tally in
    let all : IsTally tally c.args.values.now = subst (IsTally tally) (take_all c.loop-value.value-index c.args.values.now (omega arith)) c.loop-value.invariant.so_far in
    leader_is tally.candidate tally.lead c.args.values.now all.leads v most
