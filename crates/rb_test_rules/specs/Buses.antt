-- Words in which the scenarios of the worked cases are said.
use Rattle.std.specs.Prelude.{ℕ, List, [], ◌∷◌}
use Rattle.rb_base.specs.{declared.node.NodeName.NodeName, declared.node.NodeName.TheVariants.{Biu, Rmu}}
use Rattle.rb_rules.specs.{declared.link.Pattern.Pattern, declared.message.Version.TheVariants.One, declared.plan.Plan.Plan, declared.say.Content.Content, declared.say.Content.TheVariants.Raw, declared.say.Say.Say, Clock.Timeline, Entries.listed, Goodness.{Scenario, clock_of}}

-- the BIU and the RMU with this number
abbrev pub b : ℕ → NodeName
b i = Biu i

abbrev pub r : ℕ → NodeName
r i = Rmu i

-- ticks of 10000 units, give or take one; calls are sent at offset 6 of windows of 15, 18 and 20
-- ticks
abbrev pub plan : Plan
plan = record {
  u = 10000;
  r = 1;
  dmin = 5000;
  dmax = 15000;
  l = 15;
  h = 6;
  v = 18;
  z = 20;
  c = 1;
  p = 60200;
  version = One;
  probation = 0;
}

-- a clock that starts at a time and has ticks of one length
abbrev pub ticking : ℕ → ℕ → Timeline
ticking start length = record { start = start; segments = (0, length) ∷ [] }

abbrev pub steady : Timeline
steady = ticking 0 10000

-- what a node says to others in these frames, slots and stages, at the offset at which a good node
-- sends
abbrev pub says : NodeName → Pattern → ℕ × ℕ → ℕ × ℕ → ℕ × ℕ → Content → Say
says from to frames slots stages content = record {
  from = from;
  to = to;
  frames = frames;
  slots = slots;
  stages = stages;
  offset = 6;
  early = 0;
  content = content;
}

-- the scenario whose faulty nodes do what its entries list
abbrev pub listing : Scenario → Scenario
listing sc = record sc { behavior = listed sc.plan.version (clock_of sc) sc.says }

-- bytes as they are
abbrev pub raw : List ℕ → Content
raw bytes = Raw (record { items = bytes })
