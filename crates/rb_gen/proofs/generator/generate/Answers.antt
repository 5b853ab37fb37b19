use Rattle.std.proofs.Common.{◌≡◌, ℕ, List, map, ap, sym, subst, ◌∙◌}
use Rattle.rb_base.specs.Counting.{numbers}
use Rattle.rb_plan.specs.Timetable.{Timetable}
use Rattle.rb_rules.specs.{declared.link.Rule.Rule, declared.say.Say.Say, Clock.Timeline, Entries.{IsListed, listed}, Goodness.{Scenario, clock_among}, Lawful.IsLawful, Links.DelayRules}
use Rattle.rb_gen.specs.Generated.{clock_of, drawn_from, plan, rule_of, say_to, scenario_of, sizes}
use Rattle.rb_gen.proofs.{Accepted.said_by_its_table, GeneratedIsLawful.{generated_is_lawful, generated_is_listed}}
use Rattle.rb_gen.proofs.generator.generate.Goals as goal

-- the generated scenario with other parts in place of its own
abbrev with_parts : List ℕ → ℕ → Timetable → List Timeline → DelayRules → List Say → Scenario
with_parts drawn frames timetable clocks delays says =
    record (scenario_of drawn frames) {
      sizes = timetable.sizes;
      plan = timetable.plan;
      clocks = clocks;
      delays = delays;
      behavior = listed timetable.plan.version (clock_among timetable.sizes clocks) says;
      says = says;
    }

with_its_own : (drawn : List ℕ) (frames : ℕ) (timetable : Timetable) (clocks : List Timeline) (delays : DelayRules) (says : List Say)
    → timetable ≡ record { sizes = sizes; plan = plan } → clocks ≡ map (clock_of drawn) (numbers 13)
    → delays ≡ record { base = 10000; rules = map (rule_of drawn frames) (numbers 80) } → says ≡ map (say_to frames) (numbers 4)
    → with_parts drawn frames timetable clocks delays says ≡ scenario_of drawn frames
unfolding scenario_of
with_its_own drawn frames timetable clocks delays says t c d s =
    ap (λ x. with_parts drawn frames x clocks delays says) t
    ∙ ap (λ x. with_parts drawn frames (record { sizes = sizes; plan = plan }) x delays says) c
    ∙ ap (λ x. with_parts drawn frames (record { sizes = sizes; plan = plan }) (map (clock_of drawn) (numbers 13)) x says) d
    ∙ ap (λ x. with_parts drawn frames (record { sizes = sizes; plan = plan }) (map (clock_of drawn) (numbers 13)) (record { base = 10000; rules = map (rule_of drawn frames) (numbers 80) }) x) s

with_rules : List Rule → DelayRules
with_rules rules = record { base = 10000; rules = rules }

pub returns-clause-scenario : goal.returns-clause-scenario
unfolding scenario_of with_rules
returns-clause-scenario c =
    let drawn = c.drawn_from-drawn.result in
    let delays = c.new-2.ensures ∙ ap with_rules c.in_ok-rules.ensures in
    with_its_own drawn c.args.frames c.plan.result c.new.result c.new-2.result c.new-3.result
    c.plan.ensures (c.new.ensures ∙ c.in_ok-clocks.ensures) delays (c.new-3.ensures ∙ c.in_ok-says.ensures)
    ∙ ap (λ d. scenario_of d c.args.frames) c.drawn_from-drawn.ensures

pub returns-clause-lawful : goal.returns-clause-lawful
returns-clause-lawful c =
    subst IsLawful (sym (returns-clause-scenario c)) (generated_is_lawful (drawn_from c.args.seed) c.args.frames c.requires.least c.requires.most)

pub returns-clause-listed : goal.returns-clause-listed
returns-clause-listed c =
    subst IsListed (sym (returns-clause-scenario c)) (generated_is_listed (drawn_from c.args.seed) c.args.frames c.requires.least)

pub returns-clause-said : goal.returns-clause-said
returns-clause-said c =
    said_by_its_table _ (drawn_from c.args.seed) c.args.frames (returns-clause-scenario c) c.requires.least c.requires.most
