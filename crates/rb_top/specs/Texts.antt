-- What is written of a run, and of a generated scenario.
use Rattle.std.specs.{Prelude.{ℕ, List, [], ◌++◌}, List.flat_map}
use Rattle.rb_rules.specs.{Book.Record, Goodness.Scenario}
use Rattle.rb_report.specs.{Report.summary_text, Texts.report_of}
use Rattle.rb_group.specs.declared.voters.Which.{Which}
use Rattle.rb_long_run.specs.Reports.{letters_report}
use Rattle.rb_group_run.specs.Replies.{groups_text}
use Rattle.rb_gen.specs.{Generated.generated, Text.lines_of}
use Rattle.rb_run.specs.{Tallies.tally_of, declared.ending.Ending.Ending, declared.ending.Ending.TheVariants.{Ended, Breach}, declared.totals.Totals.Totals}

-- what is told of a run's records
abbrev pub Telling : Type 0
Telling = Scenario → List Record → List ℕ

-- `run` tells all that they say
abbrev pub told_by_run : Telling
told_by_run sc records = report_of records

-- `letters` the letters that ports receive whole, and how the run ends
abbrev pub told_by_letters : Telling
told_by_letters sc records = letters_report records

-- `group` what the good BIUs find for the group in each frame, and how the run ends
abbrev pub told_by_group : Which → ℕ → Telling
told_by_group which members sc records = groups_text sc (record { which = which; members = members }) records

-- the four numbers of a run, a line each
unfoldable pub summary_of : Totals → List ℕ
summary_of totals =
    summary_text 0 totals.frames ++ (summary_text 1 totals.deliveries ++ (summary_text 2 totals.convicted ++ summary_text 3 totals.spread))

-- the summary of these records, if they end so: there is none with a breach
abbrev pub summary_with : Ending → List Record → List ℕ
summary_with Ended records = summary_of (tally_of records)
summary_with Breach records = []

-- the text of the generated scenario: its lines, one after another
unfoldable pub generated_text : ℕ → ℕ → List ℕ
generated_text seed frames = flat_map (λ line. line) (lines_of (generated seed frames))
