-- What is due of a generated run, from its numbers.
use Rattle.std.proofs.Common.{◌≡◌, ℕ, [], ap, refl, subst, sym}
use Rattle.std.specs.Io.KnownBytes.{Appends}
use Rattle.rb_outside.specs.Bytes.{AppendsPart}
use Rattle.rb_outside.proofs.Known.{appends_none}
use Rattle.rb_rules.specs.{Entries.IsListed, Goodness.Scenario, Lawful.IsLawful}
use Rattle.rb_gen.specs.Generated.{generated}
use Rattle.rb_run.specs.{Runs.{EndsWith, TalliesAll}, declared.ending.Ending.Ending, declared.totals.Totals.Totals, Seen.{SeenDrive, SeenSink}}
use Rattle.rb_program.specs.declared.status.Status.TheVariants.{Breach, Done}
use Rattle.rb_top.specs.{Commands.IsSummary, Serving.{FailsToSum, IsSummed}, Texts.summary_of}
use Rattle.rb_run.specs.declared.ending.Ending.TheVariants as ending

-- the generated run has been told
pub record IsToldOf (seed frames : ℕ) (sc : Scenario) (ended : Ending) (drive : SeenDrive) (totals : Totals) : Type 0 where
  pub generates : sc ≡ generated seed frames
  pub lawful : IsLawful sc
  pub listed : IsListed sc
  pub tallies : TalliesAll sc drive totals
  pub ends : EndsWith sc ended

due : (seed frames : ℕ) (sc : Scenario) (ended : Ending) (drive : SeenDrive) (totals : Totals)
    → ended ≡ ending.Ended → IsToldOf seed frames sc ended drive totals → IsSummary seed frames drive Done (summary_of totals)
due seed frames sc ended drive totals is t =
    let P : Scenario → Type 0 = λ s. TalliesAll s drive totals in
    let all = subst P t.generates t.tallies in
    let Q : Scenario → Type 0 = λ s. EndsWith s ended in
    let R : Ending → Type 0 = λ e. EndsWith (generated seed frames) e in
    record {
      turns = all.turns;
      lawful = subst IsLawful t.generates t.lawful;
      listed = subst IsListed t.generates t.listed;
      given = all.given;
      all = all.all;
      ends = record { ending = ending.Ended; ends = subst R is (subst Q t.generates t.ends); is = refl };
      text_is = ap summary_of all.are;
    }

pub summed : (seed frames : ℕ) (sc : Scenario) (ended : Ending) (drive : SeenDrive) (totals : Totals) (sink : SeenSink)
    → ended ≡ ending.Ended → IsToldOf seed frames sc ended drive totals → Appends sink.held sink.held' (summary_of totals)
    → IsSummed seed frames Done drive sink
summed seed frames sc ended drive totals sink is t written =
    record { text = summary_of totals; due = due seed frames sc ended drive totals is t; written = written }

pub summed_in_part : (seed frames : ℕ) (sc : Scenario) (ended : Ending) (drive : SeenDrive) (totals : Totals) (sink : SeenSink)
    → ended ≡ ending.Ended → IsToldOf seed frames sc ended drive totals → AppendsPart sink.held sink.held' (summary_of totals)
    → FailsToSum seed frames drive sink
summed_in_part seed frames sc ended drive totals sink is t written =
    record { text = summary_of totals; due = due seed frames sc ended drive totals is t; written = written }

-- after a breach no numbers are due
pub not_summed : (seed frames : ℕ) (sc : Scenario) (ended : Ending) (drive : SeenDrive) (totals : Totals) (sink : SeenSink)
    → ended ≡ ending.Breach → IsToldOf seed frames sc ended drive totals → sink.held' ≡ sink.held → IsSummed seed frames Breach drive sink
not_summed seed frames sc ended drive totals sink is t unwritten =
    let P : Scenario → Type 0 = λ s. TalliesAll s drive totals in
    let all = subst P t.generates t.tallies in
    let Q : Scenario → Type 0 = λ s. EndsWith s ended in
    let R : Ending → Type 0 = λ e. EndsWith (generated seed frames) e in
    record {
      text = [];
      due = record {
        turns = all.turns;
        lawful = subst IsLawful t.generates t.lawful;
        listed = subst IsListed t.generates t.listed;
        given = all.given;
        all = all.all;
        ends = record { ending = ending.Breach; ends = subst R is (subst Q t.generates t.ends); is = refl };
        text_is = refl;
      };
      written = subst (λ h. Appends sink.held h []) (sym unwritten) (appends_none sink.held);
    }
