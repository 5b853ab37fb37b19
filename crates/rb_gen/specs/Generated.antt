-- The generated scenario: 8 BIUs and 5 RMUs with 16 data slots, of which RMU 4 falls silent and BIU
-- 7 says unlike words. Starts and tick lengths of clocks, delays of links, and the frame in which
-- RMU 4 falls silent are drawn.
use Rattle.std.specs.Prelude.{ℕ, ◌≡◌, suc, ◌+◌, ◌-◌, ◌/◌, ◌%◌, ◌≤◌, ◌==◌, nat_lt, if◌then◌else◌, List, [], ◌∷◌, ◌++◌, map, replicate, get_or, Some, None}
use Rattle.rb_base.specs.{Counting.numbers, Sizes.Sizes, declared.node.NodeName.NodeName, declared.node.NodeName.TheVariants.{Biu, Rmu}}
use Rattle.rb_rules.specs.{declared.link.Pattern.TheVariants.One, declared.link.Rule.Rule, declared.plan.Plan.Plan, declared.say.Content.TheVariants.Word, declared.say.Say.Say, Clock.Timeline, Entries.listed, Goodness.{Scenario, clock_among}}
use Rattle.rb_gen.specs.Draws.{numbers_drawn}
use Rattle.rb_rules.specs.declared.message.Version.TheVariants as version

-- The bus.

abbrev pub sizes : Sizes
sizes = record { bius = 8; rmus = 5; data_slots = 16 }

-- the plan that a document has if it names none
unfoldable pub plan : Plan
plan = record {
  u = 10000;
  r = 1;
  dmin = 5000;
  dmax = 15000;
  l = 15;
  h = 6;
  v = 18;
  z = 20;
  c = 1;
  p = 60200;
  version = version.One;
  probation = 0;
}

-- The numbers drawn, in order: number 0 for the silence of RMU 4, 1 to 11 for starts, 12 to 24 for
-- lengths of ticks, and 25 to 104 for delays.

abbrev pub drawn_from : ℕ → List ℕ
drawn_from seed = numbers_drawn 105 seed

-- Clocks. Their nodes are numbered, the BIUs 0 to 7, then the RMUs 8 to 12.

-- BIU 0 starts last of all and RMU 0 first. The others' starts are drawn: numbers 1 to 7 for BIUs,
-- 8 to 11 for RMUs
abbrev pub start_of : List ℕ → ℕ → ℕ
start_of drawn node =
    if node == 0 then 60200
    else (if nat_lt node 8 then get_or drawn node 0 % 60201
    else (if node == 8 then 0 else get_or drawn (node - 1) 0 % 60201))

-- a node's ticks have one length, at most one unit off the nominal one
abbrev pub tick_of : List ℕ → ℕ → ℕ
tick_of drawn node = 9999 + get_or drawn (12 + node) 0 % 3

abbrev pub clock_of : List ℕ → ℕ → Timeline
clock_of drawn node = record { start = start_of drawn node; segments = (0, tick_of drawn node) ∷ [] }

-- Links. They are numbered, 0 to 39 from BIU 0 to each RMU, then from BIU 1, and so on, and 40 to
-- 79 from RMU 0 to each BIU, then from RMU 1, and so on.

abbrev pub sender_of : ℕ → NodeName
sender_of link = if nat_lt link 40 then Biu (link / 5) else Rmu ((link - 40) / 8)

abbrev pub receiver_of : ℕ → NodeName
receiver_of link = if nat_lt link 40 then Rmu (link % 5) else Biu ((link - 40) % 8)

-- the delay of a link, within the plan's bounds
abbrev pub delay_on : List ℕ → ℕ → ℕ
delay_on drawn link = 5000 + get_or drawn (25 + link) 0 % 10001

-- a rule for the link, in all places
abbrev pub rule_of : List ℕ → ℕ → ℕ → Rule
rule_of drawn frames link = record {
  from = One (sender_of link);
  to = One (receiver_of link);
  frames = (0, frames - 1);
  slots = (0, 37);
  stages = (1, 3);
  delay = delay_on drawn link;
}

-- Faults.

-- BIU 7 is not good from slot 15 of the frame halfway
abbrev pub biu_onset : ℕ → ℕ × ℕ
biu_onset frames = (frames / 2, 15)

-- RMU 4 is not good from a frame on that is drawn
abbrev pub rmu_onset : List ℕ → ℕ → ℕ × ℕ
rmu_onset drawn frames = (get_or drawn 0 0 % frames, 0)

-- there and then BIU 7 says the word 1 to RMU 0 and RMU 1, and 2 to RMU 2 and RMU 3
abbrev pub say_to : ℕ → ℕ → Say
say_to frames rmu = record {
  from = Biu 7;
  to = One (Rmu rmu);
  frames = (frames / 2, frames / 2);
  slots = (15, 15);
  stages = (1, 1);
  offset = 6;
  early = 0;
  content = Word (1 + rmu / 2);
}

-- The scenario.

-- the generated scenario of these numbers. Each BIU asks for two data slots, and has its number,
-- from 1, as its word
unfoldable pub scenario_of : List ℕ → ℕ → Scenario
scenario_of drawn frames = record {
  sizes = sizes;
  plan = plan;
  frames = frames;
  requests = replicate 8 2 ++ replicate 8 0;
  words = map suc (numbers 8) ++ replicate 8 0;
  apps = replicate 16 0;
  clocks = map (clock_of drawn) (numbers 13);
  delays = record { base = 10000; rules = map (rule_of drawn frames) (numbers 80) };
  biu_onsets = replicate 7 None ++ Some (biu_onset frames) ∷ replicate 8 None;
  rmu_onsets = replicate 4 None ++ Some (rmu_onset drawn frames) ∷ replicate 11 None;
  behavior = listed plan.version (clock_among sizes (map (clock_of drawn) (numbers 13))) (map (say_to frames) (numbers 4));
  says = map (say_to frames) (numbers 4);
}

-- the generated scenario of a seed and a number of frames
abbrev pub generated : ℕ → ℕ → Scenario
generated seed frames = scenario_of (drawn_from seed) frames

-- the scenario is the generated one of some seed and some number of frames
pub record IsGenerated (sc : Scenario) : Type 0 where
  pub seed : ℕ
  pub frames : ℕ
  pub least : 1 ≤ frames
  pub most : frames ≤ 4096
  pub scenario : sc ≡ generated seed frames
