use Rattle.std.proofs.Common.{◌∙◌, refl, subst, sym, rules}
use Rattle.rb_rules.specs.{Entries.IsListed, Lawful.IsLawful}
use Rattle.rb_scenario.specs.Acceptance.{as_scenario}
use Rattle.rb_run.proofs.Opened.{just-opened}
use Rattle.rb_top.proofs.{Promised.summed_headline, Summing.{not_summed, summed, summed_in_part}}
use Rattle.rb_top.proofs.running.stress.Goals as goal

pub tally-ending-requires : goal.tally-ending-requires
tally-ending-requires g c = just-opened c.in-Ok-open.world (as_scenario c.in-Ok.scenario) c.in-Ok-open.ensures.stands

pub returns-in-Ok-write_summary-clause-sums : goal.returns-in-Ok-write_summary-clause-sums
returns-in-Ok-write_summary-clause-sums g c = record {
  ended = λ _. summed c.args.seed c.args.frames c.in-Ok-open.world.bus c.tally-ending.result.0 _ c.tally-ending.result.1 _ c.in-Ended.is
      (record {
        generates = c.in-Ok-open.ensures.bus ∙ c.in-Ok.ensures.scenario;
        lawful = subst IsLawful (sym c.in-Ok-open.ensures.bus) c.in-Ok.ensures.lawful;
        listed = subst IsListed (sym c.in-Ok-open.ensures.bus) c.in-Ok.ensures.listed;
        tallies = c.tally-ending.ensures.totals;
        ends = c.tally-ending.ensures.ending;
      })
      c.in-Ok-write_summary.ensures.all;
  part = search rules;
  cause = search rules;
  one_of = tt;
}

pub returns-in-Ended-clause-sums : goal.returns-in-Ended-clause-sums
returns-in-Ended-clause-sums g c = record {
  ended = λ h. absurd h;
  part = λ _. summed_in_part c.args.seed c.args.frames c.in-Ok-open.world.bus c.tally-ending.result.0 _ c.tally-ending.result.1 _ c.in-Ended.is
      (record {
        generates = c.in-Ok-open.ensures.bus ∙ c.in-Ok.ensures.scenario;
        lawful = subst IsLawful (sym c.in-Ok-open.ensures.bus) c.in-Ok.ensures.lawful;
        listed = subst IsListed (sym c.in-Ok-open.ensures.bus) c.in-Ok.ensures.listed;
        tallies = c.tally-ending.ensures.totals;
        ends = c.tally-ending.ensures.ending;
      })
      c.in-Err-write_summary.ensures.part;
  cause = search rules;
  one_of = tt;
}

pub returns-clause-sums : goal.returns-clause-sums
returns-clause-sums g c = record {
  ended = λ _. not_summed c.args.seed c.args.frames c.in-Ok-open.world.bus c.tally-ending.result.0 _ c.tally-ending.result.1 _ c.in-Breach.is
      (record {
        generates = c.in-Ok-open.ensures.bus ∙ c.in-Ok.ensures.scenario;
        lawful = subst IsLawful (sym c.in-Ok-open.ensures.bus) c.in-Ok.ensures.lawful;
        listed = subst IsListed (sym c.in-Ok-open.ensures.bus) c.in-Ok.ensures.listed;
        tallies = c.tally-ending.ensures.totals;
        ends = c.tally-ending.ensures.ending;
      })
      refl;
  part = search rules;
  cause = search rules;
  one_of = tt;
}

pub returns-in-Ok-write_summary-clause-promise : goal.returns-in-Ok-write_summary-clause-promise
returns-in-Ok-write_summary-clause-promise g c plain h =
    let all = (returns-in-Ok-write_summary-clause-sums g c).ended h in
    summed_headline c.args.seed c.args.frames _ _ _ all.text plain all.due all.written

pub returns-clause-promise : goal.returns-clause-promise
returns-clause-promise g c plain h =
    let all = (returns-clause-sums g c).ended h in
    summed_headline c.args.seed c.args.frames _ _ _ all.text plain all.due all.written
