use Rattle.std.proofs.Common.{◌≤◌, take}
use Rattle.rb_vote.specs.Tallies.{IsTally}
use Rattle.rb_vote.proofs.tally.candidate_of.Given as goal

abbrev pub invariant-loop-value : goal.invariant-loop-value
invariant-loop-value l = record {
  few : l.tally.all ≤ l.value-index;
  leads : l.tally.lead ≤ l.tally.all;
  so_far : IsTally l.tally (take l.value-index l.values);
}
