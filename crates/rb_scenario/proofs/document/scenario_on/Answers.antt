use Rattle.std.proofs.Common.{◌≡◌, ℕ, List, Option, true, false, not, length, sym, ap, ◌∙◌, subst}
use Rattle.std.specs.List.{list_all}
use Rattle.toml.specs.View.{table_view}
use Rattle.rb_scenario.specs.{Onsets.is_good_by, Reading.scenario_on, Rules.{are_few, are_sayers_faulty, start_together}}
use Rattle.rb_scenario_entries.specs.{Outcome.IsRefusalBy, declared.refusal.Refusal.TheVariants.SayOfGood}
use Rattle.rb_scenario.proofs.{Chain.{clocks_break, delays_break, few_break, none_breaks, plan_breaks, says_break, starts_break}, FitParts.fit_parts}
use Rattle.rb_scenario.proofs.document.scenario_on.Goals as goal

pub clocks_of-requires-clause-entries : goal.clocks_of-requires-clause-entries
clocks_of-requires-clause-entries c = (fit_parts c.args.bus.now (table_view c.args.table.now) c.requires.fits).clocks

pub delays_of-requires-clause-delay : goal.delays_of-requires-clause-delay
delays_of-requires-clause-delay c = (fit_parts c.args.bus.now (table_view c.args.table.now) c.requires.fits).delay

pub delays_of-requires-clause-links : goal.delays_of-requires-clause-links
delays_of-requires-clause-links c = (fit_parts c.args.bus.now (table_view c.args.table.now) c.requires.fits).links

pub onsets_of-biu_onset-requires : goal.onsets_of-biu_onset-requires
onsets_of-biu_onset-requires c = (fit_parts c.args.bus.now (table_view c.args.table.now) c.requires.fits).faults

pub onsets_of-rmu_onset-requires : goal.onsets_of-rmu_onset-requires
onsets_of-rmu_onset-requires c = (fit_parts c.args.bus.now (table_view c.args.table.now) c.requires.fits).faults

pub returns-in-Err-sayings_of-clause-refused : goal.returns-in-Err-sayings_of-clause-refused
returns-in-Err-sayings_of-clause-refused c =
    let sc = scenario_on c.args.bus.now (table_view c.args.table.now) in
    let starts : start_together sc.plan.p sc.clocks ≡ true =
    ap (start_together sc.plan.p) (sym (c.deref.ensures.value ∙ c.in-Ok-clocks_of.ensures.clocks)) ∙ sym c.start_together.ensures ∙ c.if-not-start_together.false in
    let P : List (Option (ℕ × ℕ)) → List (Option (ℕ × ℕ)) → Type 0 =
    λ b r. IsRefusalBy SayOfGood (list_all (λ say. not (is_good_by sc.sizes b r say.from say.frames.0 say.slots.0)) sc.says) c.in-Err-sayings_of.refusal in
    let refused : IsRefusalBy SayOfGood (are_sayers_faulty sc) c.in-Err-sayings_of.refusal =
    subst (λ r. P sc.biu_onsets r) c.onsets_of-rmu_onset.ensures (subst (λ b. P b c.onsets_of-rmu_onset.result) c.onsets_of-biu_onset.ensures c.in-Err-sayings_of.ensures.refused) in
    says_break sc c.in-Err-sayings_of.refusal
    (record { plan = c.in-Ok.ensures.feasible; clocks = c.in-Ok-clocks_of.ensures.kept; delays = c.in-Ok-delays_of.ensures.kept; starts = starts })
    refused

pub returns-then-not-are_few-clause-refused : goal.returns-then-not-are_few-clause-refused
returns-then-not-are_few-clause-refused c =
    let sc = scenario_on c.args.bus.now (table_view c.args.table.now) in
    let starts : start_together sc.plan.p sc.clocks ≡ true =
    ap (start_together sc.plan.p) (sym (c.deref.ensures.value ∙ c.in-Ok-clocks_of.ensures.clocks)) ∙ sym c.start_together.ensures ∙ c.if-not-start_together.false in
    let P : List (Option (ℕ × ℕ)) → List (Option (ℕ × ℕ)) → Type 0 =
    λ b r. list_all (λ say. not (is_good_by sc.sizes b r say.from say.frames.0 say.slots.0)) sc.says ≡ true in
    let says : are_sayers_faulty sc ≡ true =
    subst (λ r. P sc.biu_onsets r) c.onsets_of-rmu_onset.ensures (subst (λ b. P b c.onsets_of-rmu_onset.result) c.onsets_of-biu_onset.ensures c.in-Ok-sayings_of.ensures.kept) in
    let few : are_few (length sc.says) (length sc.delays.rules) sc.clocks ≡ false =
    ap (λ says. are_few (length says) (length sc.delays.rules) sc.clocks) (sym (c.deref-2.ensures.value ∙ c.in-Ok-sayings_of.ensures.says))
    ∙ ap (λ d. are_few (length c.deref-2.result.now) (length d.rules) sc.clocks) (sym c.in-Ok-delays_of.ensures.delays)
    ∙ ap (λ rules. are_few (length c.deref-2.result.now) (length rules) sc.clocks) (sym c.deref-3.ensures.value)
    ∙ ap (are_few (length c.deref-2.result.now) (length c.deref-3.result.now)) (sym (c.deref-4.ensures.value ∙ c.in-Ok-clocks_of.ensures.clocks))
    ∙ sym c.are_few.ensures ∙ c.if-not-are_few.true in
    few_break sc
    (record { plan = c.in-Ok.ensures.feasible; clocks = c.in-Ok-clocks_of.ensures.kept; delays = c.in-Ok-delays_of.ensures.kept; starts = starts; says = says })
    few

pub returns-clause-unbroken : goal.returns-clause-unbroken
returns-clause-unbroken c =
    let sc = scenario_on c.args.bus.now (table_view c.args.table.now) in
    let starts : start_together sc.plan.p sc.clocks ≡ true =
    ap (start_together sc.plan.p) (sym (c.deref.ensures.value ∙ c.in-Ok-clocks_of.ensures.clocks)) ∙ sym c.start_together.ensures ∙ c.if-not-start_together.false in
    let P : List (Option (ℕ × ℕ)) → List (Option (ℕ × ℕ)) → Type 0 =
    λ b r. list_all (λ say. not (is_good_by sc.sizes b r say.from say.frames.0 say.slots.0)) sc.says ≡ true in
    let says : are_sayers_faulty sc ≡ true =
    subst (λ r. P sc.biu_onsets r) c.onsets_of-rmu_onset.ensures (subst (λ b. P b c.onsets_of-rmu_onset.result) c.onsets_of-biu_onset.ensures c.in-Ok-sayings_of.ensures.kept) in
    let few : are_few (length sc.says) (length sc.delays.rules) sc.clocks ≡ true =
    ap (λ says. are_few (length says) (length sc.delays.rules) sc.clocks) (sym (c.deref-2.ensures.value ∙ c.in-Ok-sayings_of.ensures.says))
    ∙ ap (λ d. are_few (length c.deref-2.result.now) (length d.rules) sc.clocks) (sym c.in-Ok-delays_of.ensures.delays)
    ∙ ap (λ rules. are_few (length c.deref-2.result.now) (length rules) sc.clocks) (sym c.deref-3.ensures.value)
    ∙ ap (are_few (length c.deref-2.result.now) (length c.deref-3.result.now)) (sym (c.deref-4.ensures.value ∙ c.in-Ok-clocks_of.ensures.clocks))
    ∙ sym c.are_few.ensures ∙ c.if-not-are_few.false in
    none_breaks sc
    (record { plan = c.in-Ok.ensures.feasible; clocks = c.in-Ok-clocks_of.ensures.kept; delays = c.in-Ok-delays_of.ensures.kept; starts = starts; says = says; few = few })

pub returns-in-Err-clause-refused : goal.returns-in-Err-clause-refused
returns-in-Err-clause-refused c = plan_breaks (scenario_on c.args.bus.now (table_view c.args.table.now)) c.in-Err.n c.in-Err.ensures.first

pub returns-in-Err-clocks_of-clause-refused : goal.returns-in-Err-clocks_of-clause-refused
returns-in-Err-clocks_of-clause-refused c =
    clocks_break (scenario_on c.args.bus.now (table_view c.args.table.now)) c.in-Err-clocks_of.refusal
    (record { plan = c.in-Ok.ensures.feasible }) c.in-Err-clocks_of.ensures.refused

pub returns-in-Err-delays_of-clause-refused : goal.returns-in-Err-delays_of-clause-refused
returns-in-Err-delays_of-clause-refused c =
    delays_break (scenario_on c.args.bus.now (table_view c.args.table.now)) c.in-Err-delays_of.refusal
    (record { plan = c.in-Ok.ensures.feasible; clocks = c.in-Ok-clocks_of.ensures.kept }) c.in-Err-delays_of.ensures.refused

pub returns-then-not-start_together-clause-refused : goal.returns-then-not-start_together-clause-refused
returns-then-not-start_together-clause-refused c =
    let sc = scenario_on c.args.bus.now (table_view c.args.table.now) in
    starts_break sc
    (record { plan = c.in-Ok.ensures.feasible; clocks = c.in-Ok-clocks_of.ensures.kept; delays = c.in-Ok-delays_of.ensures.kept })
    (ap (start_together sc.plan.p) (sym (c.deref.ensures.value ∙ c.in-Ok-clocks_of.ensures.clocks)) ∙ sym c.start_together.ensures ∙ c.if-not-start_together.true)

pub sayings_of-requires-clause-says : goal.sayings_of-requires-clause-says
sayings_of-requires-clause-says c = (fit_parts c.args.bus.now (table_view c.args.table.now) c.requires.fits).says

pub requests_of-requires : goal.requests_of-requires
requests_of-requires c = rw c.biu.ensures.value (fit_parts c.args.bus.now (table_view c.args.table.now) c.requires.fits).lists

pub words_of-requires : goal.words_of-requires
words_of-requires c = rw c.biu-2.ensures.value (fit_parts c.args.bus.now (table_view c.args.table.now) c.requires.fits).lists
