-- A good node's message on its way.
use Rattle.std.specs.Prelude.{◌≡◌, ℕ, ◌<◌, ◌≤◌, ◌^◌, Some}
use Rattle.rb_base.specs.{Nodes.{has, other}, declared.values.Place.Place}
use Rattle.rb_rules.specs.{declared.message.Version.Version, Book.Each, Clock.{Timeline, time_of}, Goodness.{Scenario, clock_of}, Lawful.kind_of, Links.DelayRules, Slots.count_of, Spelling.{IsZeroUnlessWord, spelling_of}, WorldStep.{Site, with_message}}
use Rattle.rb_queue.specs.Waiting.{Held}
use Rattle.rb_world_agenda.specs.Holding.{HoldsSites}
use Rattle.rb_world_traffic.specs.{declared.sending.Departure.Departure, Arriving.{AreRunning, coming_to, lanes_with, number_of}}

-- the place that a message's header names, in the frame of its sender
abbrev pub place_of : Departure → Place
place_of d = record { frame = d.frame; slot = d.message.slot; stage = d.message.stage }

-- the tick has a time, and the message can be spelled
pub record CanDepart (d : Departure) : Type 0 where
  pub tick : d.tick ≤ 2 ^ 31
  pub some_stage : 1 ≤ d.message.stage
  pub most_stages : d.message.stage ≤ 3
  pub value : IsZeroUnlessWord d.message.tag d.message.value

-- the lanes once a message is on its way to these nodes
abbrev pub with_departure : Timeline → DelayRules → Version → Departure → ℕ → Each Held → Each Held
with_departure clock delays version d running lanes =
    lanes_with (other (kind_of d.from))
    (coming_to delays (record { from = d.from; time = time_of clock d.tick; place = place_of d }) (spelling_of version d.message)) (has running) lanes

-- the clock is the sender's, the delays and the version are those of the bus, and the sender is one
-- of its nodes
pub record IsOfScenario (sc : Scenario) (clock : Timeline) (delays : DelayRules) (version : Version) (d : Departure) : Type 0 where
  pub clock_is : clock ≡ clock_of sc (kind_of d.from) (number_of d.from)
  pub delays_are : delays ≡ sc.delays
  pub version_is : version ≡ sc.plan.version
  pub sender : number_of d.from < count_of (kind_of d.from) sc.sizes

-- the sites of the world once the message is sent
abbrev pub with_sent : Scenario → Departure → Each Site → Each Site
with_sent sc d sites = with_message sc (kind_of d.from) (number_of d.from) d.frame d.tick (Some d.message) sites

-- the message is on its way to these nodes, in the lanes and at the sites of the world
pub record Sends (clock : Timeline) (delays : DelayRules) (version : Version) (d : Departure) (running : ℕ) (before after : Each Held) : Type 0 where
  pub lanes : after ≡ with_departure clock delays version d running before
  pub world : (sc : Scenario) (sites : Each Site) → IsOfScenario sc clock delays version d → AreRunning (other (kind_of d.from)) running sites
      → HoldsSites sc.sizes before sites → HoldsSites sc.sizes after (with_sent sc d sites)
