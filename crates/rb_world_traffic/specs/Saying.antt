-- What nodes that are not good say, receiver by receiver.
use Rattle.std.specs.Prelude.{◌≡◌, ℕ, ◌+◌, ◌-◌, ◌<◌, ◌&&◌, not, nat_le, Bool, List, [], ◌++◌, filter, filter_map, flat_map, fold, length, map, max, min, slice_get, unwrap_or}
use Rattle.rb_base.specs.{Counting.numbers, Nodes.{Side, other}, Nodes.Side.{Biu, Rmu}, Sizes.Sizes, declared.node.NodeName.NodeName, declared.values.Place.Place}
use Rattle.rb_rules.specs.{declared.message.Version.Version, declared.say.Say.Say, Clock.{Timeline, time_of}, Book.Each, Entries.{IsListed, bytes_of}, Goodness.{Scenario, clock_of}, Hearing.{Coming, Span}, Lawful.{IsLawful, is_node_good, kind_of}, Links.{covers, name_of, same_node, stands_for}, Slots.count_of, WorldStep.{Site, at_node, says_in}}
use Rattle.rb_queue.specs.Waiting.{Held, lane_of, with_lane}
use Rattle.rb_world_agenda.specs.Holding.{HoldsSites}
use Rattle.rb_world_onset.specs.Faults.{faults_of}
use Rattle.rb_world_traffic.specs.{declared.saying.Said.Said, Arriving.number_of}

-- what is kept of a scenario: who is good in which slot, how messages are spelled, and what is said
abbrev pub KeptSayings : Type 0
KeptSayings = Said

abbrev pub kept_of : Scenario → KeptSayings
kept_of sc = record { faults = faults_of sc; version = sc.plan.version; says = sc.says }

-- By receiver.

-- the entry is for what node `from` says to node `to`
abbrev pub is_between : NodeName → NodeName → Say → Bool
is_between from to s = same_node s.from from && stands_for s.to to

-- the entries for a node from the first `senders` nodes of the other kind: by sender, and then in
-- the order of the scenario
unfoldable pub entries_to : NodeName → ℕ → List Say → List Say
entries_to to senders says = flat_map (λ j. filter (is_between (name_of (other (kind_of to)) j) to) says) (numbers senders)

-- how many nodes of the other kind there are
abbrev pub senders_to : Sizes → NodeName → ℕ
senders_to sizes to = count_of (other (kind_of to)) sizes

-- the most that is said to a node in a window: its entries
abbrev pub most_to : KeptSayings → NodeName → ℕ
most_to k to = length (entries_to to (senders_to k.faults.sizes to) k.says)

-- the entries for the node, of what is kept
abbrev pub entries_for : KeptSayings → NodeName → List Say
entries_for k to = entries_to to (senders_to k.faults.sizes to) k.says

-- the first frame of which one of the entries speaks, below 2^32
abbrev pub sooner_frame : ℕ → Say → ℕ
sooner_frame first s = min first s.frames.0

abbrev pub first_frame : List Say → ℕ
first_frame says = fold sooner_frame 4294967296 says

-- the last frame of which one of the entries speaks
abbrev pub later_frame : ℕ → Say → ℕ
later_frame last s = max last s.frames.1

abbrev pub last_frame : List Say → ℕ
last_frame says = fold later_frame 0 says

-- the entries with the numbers `places`
abbrev pub entries_at : List Say → List ℕ → List Say
entries_at says places = filter_map (slice_get says) places

-- `places` are the numbers of the entries for `to` from the first `senders` nodes of the other kind
pub record AreFor (says : List Say) (to : NodeName) (senders : ℕ) (places : List ℕ) : Type 0 where
  pub entries : entries_at says places ≡ entries_to to senders says
  pub many : length places ≡ length (entries_to to senders says)

-- there is a list for each node of a kind, with the numbers of the entries for it
pub record AreOfKind (says : List Say) (side : Side) (count senders : ℕ) (lists : List (List ℕ)) : Type 0 where
  pub many : length lists ≡ count
  pub each : (i : ℕ) → i < count → AreFor says (name_of side i) senders (unwrap_or (slice_get lists i) [])

-- the numbers of the entries for each node of both kinds
pub record AreIndexed (sizes : Sizes) (says : List Say) (bius rmus : List (List ℕ)) : Type 0 where
  pub to_bius : AreOfKind says Biu sizes.bius sizes.rmus bius
  pub to_rmus : AreOfKind says Rmu sizes.rmus sizes.bius rmus

-- In a window.

-- the entry is for a place
abbrev pub is_for : Place → Say → Bool
is_for place s = covers s.frames s.slots s.stages place

-- the entry is said by its sender in a window: it is for the place, comes inside of the window, and
-- the sender is not good there
abbrev pub is_said_in : Scenario → Span → Say → Bool
is_said_in sc span s =
    covers s.frames s.slots s.stages span.place && nat_le (span.first + s.offset) span.last && not (is_node_good sc s.from span.place.frame span.place.slot)

-- the entry as it comes in a window to a node with a clock
abbrev pub brought : Version → Timeline → Span → Say → Coming
brought version clock span s =
    record { time = time_of clock (span.first + s.offset) - s.early; from = number_of s.from; bytes = bytes_of version span.place s.content }

-- what of these entries comes in a window
abbrev pub all_brought : Scenario → Timeline → Span → List Say → List Coming
all_brought sc clock span says = map (brought sc.plan.version clock span) (filter (is_said_in sc span) says)

-- a lane with more arrivals
abbrev pub with_arrivals : List Coming → Held → Held
with_arrivals more lane = record lane { arrivals = lane.arrivals ++ more }

-- what is said to a node in a window comes to it
abbrev pub hears : Scenario → NodeName → Span → Site → Site
hears sc name span s = record s { coming = s.coming ++ says_in sc (kind_of name) (number_of name) span }

-- what these entries bring in a window has come to the node, by this clock of it, in each scenario
-- of which this is kept
abbrev pub Brings : KeptSayings → List Say → Timeline → NodeName → Span → Each Held → Each Held → Type 0
Brings kept says clock to span before after =
    (sc : Scenario) → kept ≡ kept_of sc → after ≡ with_lane to (with_arrivals (all_brought sc clock span says) (lane_of before to)) before

-- what is said to a node in a window has come to it, in its lane and at its site, in each scenario
-- of which this is kept, whose faulty nodes do what its entries list, and in which this is the
-- node's clock
pub record SaysTo (kept : KeptSayings) (clock : Timeline) (to : NodeName) (span : Span) (before after : Each Held) : Type 0 where
  pub lanes : (sc : Scenario) → IsLawful sc → IsListed sc → kept ≡ kept_of sc → clock ≡ clock_of sc (kind_of to) (number_of to)
      → after ≡ with_lane to (with_arrivals (says_in sc (kind_of to) (number_of to) span) (lane_of before to)) before
  pub world : (sc : Scenario) (sites : Each Site) → IsLawful sc → IsListed sc → kept ≡ kept_of sc → clock ≡ clock_of sc (kind_of to) (number_of to)
      → HoldsSites sc.sizes before sites → HoldsSites sc.sizes after (at_node (kind_of to) (number_of to) (hears sc to span) sites)
