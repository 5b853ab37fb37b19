-- The table of a generated scenario's text says that scenario: by computing.
use Rattle.std.proofs.Common.{◌≡◌, ℕ, List, Option, refl, ap, ◌∙◌}
use Rattle.std.specs.Fmt.{digits}
use Rattle.rb_base.specs.Nodes.Side.{Biu, Rmu}
use Rattle.rb_rules.specs.{declared.link.Rule.Rule, declared.say.Say.Say, Clock.Timeline, Entries.listed, Goodness.{Scenario, clock_among}}
use Rattle.rb_scenario_document.specs.Names.{named}
use Rattle.rb_scenario_entries.specs.{declared.bus.Bus.Bus, Bus.{bus_of, plan_of, sizes_of, version_of}, Clocks.clocks_of, Faults.onsets_of, Links.{rule_of, rules_of}, Says.{content_in, say_of, says_of}}
use Rattle.rb_scenario.specs.{Hosts.{apps_of, requests_of, words_of}, Reading.{scenario_of as scenario_said, scenario_on}}
use Rattle.rb_gen.specs.{Generated.{plan, scenario_of, sizes}, Table.table_of}

-- the bus of a generated scenario of `frames` frames
abbrev pub bus_in : ℕ → Bus
bus_in frames = record { shape = sizes; frames = frames; plan = plan }

pub same_bus : (drawn : List ℕ) (frames : ℕ) → bus_of (table_of (scenario_of drawn frames)) ≡ bus_in frames
unfolding sizes_of plan_of version_of table_of scenario_of plan
same_bus drawn frames = refl

same_requests : (drawn : List ℕ) (frames : ℕ) → requests_of 8 (table_of (scenario_of drawn frames)) ≡ (scenario_of drawn frames).requests
unfolding requests_of table_of scenario_of
same_requests drawn frames = refl

same_words : (drawn : List ℕ) (frames : ℕ) → words_of (table_of (scenario_of drawn frames)) ≡ (scenario_of drawn frames).words
unfolding words_of table_of scenario_of
same_words drawn frames = refl

same_apps : (drawn : List ℕ) (frames : ℕ) → apps_of (table_of (scenario_of drawn frames)) ≡ (scenario_of drawn frames).apps
unfolding apps_of table_of scenario_of
same_apps drawn frames = refl

same_clocks : (drawn : List ℕ) (frames : ℕ) → clocks_of (bus_in frames) (table_of (scenario_of drawn frames)) ≡ (scenario_of drawn frames).clocks
unfolding clocks_of table_of scenario_of plan named digits
same_clocks drawn frames = refl

same_rules : (drawn : List ℕ) (frames : ℕ) → rules_of (bus_in frames) (table_of (scenario_of drawn frames)) ≡ (scenario_of drawn frames).delays.rules
unfolding rule_of table_of scenario_of plan named digits
same_rules drawn frames = refl

same_biu_onsets : (drawn : List ℕ) (frames : ℕ) → onsets_of Biu (bus_in frames) (table_of (scenario_of drawn frames)) ≡ (scenario_of drawn frames).biu_onsets
unfolding onsets_of table_of scenario_of plan named digits
same_biu_onsets drawn frames = refl

same_rmu_onsets : (drawn : List ℕ) (frames : ℕ) → onsets_of Rmu (bus_in frames) (table_of (scenario_of drawn frames)) ≡ (scenario_of drawn frames).rmu_onsets
unfolding onsets_of table_of scenario_of plan named digits
same_rmu_onsets drawn frames = refl

same_says : (drawn : List ℕ) (frames : ℕ) → says_of (bus_in frames) (table_of (scenario_of drawn frames)) ≡ (scenario_of drawn frames).says
unfolding say_of content_in table_of scenario_of plan named digits
same_says drawn frames = refl

-- the scenario with these parts
abbrev of_parts : ℕ → List ℕ → List ℕ → List ℕ → List Timeline → List Rule → List (Option (ℕ × ℕ)) → List (Option (ℕ × ℕ)) → List Say → Scenario
of_parts frames requests words apps clocks rules biu rmu says = record {
  sizes = sizes;
  plan = plan;
  frames = frames;
  requests = requests;
  words = words;
  apps = apps;
  clocks = clocks;
  delays = record { base = 10000; rules = rules };
  biu_onsets = biu;
  rmu_onsets = rmu;
  behavior = listed plan.version (clock_among sizes clocks) says;
  says = says;
}

alike : (frames : ℕ) (r r' w w' a a' : List ℕ) (c c' : List Timeline) (l l' : List Rule) (b b' m m' : List (Option (ℕ × ℕ))) (s s' : List Say)
    → r ≡ r' → w ≡ w' → a ≡ a' → c ≡ c' → l ≡ l' → b ≡ b' → m ≡ m' → s ≡ s' → of_parts frames r w a c l b m s ≡ of_parts frames r' w' a' c' l' b' m' s'
alike frames r r' w w' a a' c c' l l' b b' m m' s s' er ew ea ec el eb em es =
    ap (λ x. of_parts frames x w a c l b m s) er ∙ ap (λ x. of_parts frames r' x a c l b m s) ew
    ∙ ap (λ x. of_parts frames r' w' x c l b m s) ea ∙ ap (λ x. of_parts frames r' w' a' x l b m s) ec
    ∙ ap (λ x. of_parts frames r' w' a' c' x b m s) el ∙ ap (λ x. of_parts frames r' w' a' c' l' x m s) eb
    ∙ ap (λ x. of_parts frames r' w' a' c' l' b' x s) em ∙ ap (λ x. of_parts frames r' w' a' c' l' b' m' x) es

pub same_scenario : (drawn : List ℕ) (frames : ℕ) → scenario_said (table_of (scenario_of drawn frames)) ≡ scenario_of drawn frames
unfolding scenario_of plan table_of
same_scenario drawn frames =
    let t = table_of (scenario_of drawn frames) in
    ap (λ bus. scenario_on bus t) (same_bus drawn frames)
    ∙ alike frames _ _ _ _ _ _ _ _ _ _ _ _ _ _ _ _ (same_requests drawn frames) (same_words drawn frames) (same_apps drawn frames) (same_clocks drawn frames)
    (same_rules drawn frames) (same_biu_onsets drawn frames) (same_rmu_onsets drawn frames) (same_says drawn frames)
