-- What an observer of one node is told while a run goes on by first choices.
use Rattle.std.specs.Prelude.{ℕ, zero, suc, ◌≡◌, ◌&&◌, nat_lt, if◌then◌else◌, Option, Some, None, List, [], ◌∷◌, ◌++◌, slice_get}
use Rattle.rb_base.specs.{Nodes.Side, declared.node.NodeName.NodeName}
use Rattle.rb_rules.specs.{Book.{Each, of_kind}, Goodness.Scenario, Hearing.Coming, Lawful.{kind_of, IsNodeOf}, Slots.{same_side, count_of}, WorldStep.{Site, Timed, World}, Links.{same_node}, Ports.PortState, WorldStep.Pending.{Arrival, Tick}}
use Rattle.rb_world_book.specs.declared.turn.Turn.{Turn}
use Rattle.rb_world.specs.{Sites.{KeptSite, Stands as StandsFor, number_of}, Buses.{KeptBus, scenario_of}, Steps.CanHear, declared.scene.Scene.Scene, declared.ties.Ties.TheVariants.First, Nexts.{GoesToNext, RunsOn, Standing, after_steps, begun_with}, Trailing.{Along, Comes, ComesToRecord, BehindTick, MayCatchUp, MayRun, MaySweepAt, MayTakeFirst, Trails, until_from}, Worlds.{KeptWorld, Stands}, Runs.nodes_of, Showing.MayShowTick, declared.run.Run.Run}
use Rattle.rb_laws_sweeps.specs.Told.{Told, heard, told_alone, told_next, telling}
use Rattle.rb_world_traffic.specs.Arriving.{number_of as number_in}
use Rattle.rb_port.specs.Keeping.{KeptPort}
use Rattle.rb_queue.specs.Waiting.{Held}

-- Observers.

-- A step relates an observer, what it is told, and the observer then. The observer was told this
-- list, in as many steps
abbrev pub WasTold : (S : Type 0) → (S → Told → S → Type 0) → S → List Told → S → Type 0
WasTold S step a [] b = b ≡ a
WasTold S step a (t ∷ ts) b = (c : S) × (step a t c × WasTold S step c ts b)

-- The run.

-- what node j of a kind is told in a number of steps of first choices
abbrev pub told_by : Scenario → Side → ℕ → ℕ → Standing → List Told
told_by sc side j zero s = []
told_by sc side j (suc n) s = told_by sc side j n s ++ told_next sc side j (after_steps sc First n s).world

-- the node of this name
abbrev pub told_to : Scenario → NodeName → ℕ → Standing → List Told
told_to sc name = told_by sc (kind_of name) (number_in name)

-- A call that goes to the next record: all that the node is told in its steps was told
pub record TellsToNext (S : Type 0) (step : S → Told → S → Type 0) (name : NodeName) (a b : S) (before after : KeptWorld) (turn : Turn) (w : World) : Type 0 where
  pub goes : GoesToNext First before after turn w
  pub told : WasTold S step a (told_to before.bus name (suc goes.is.others) (record { world = w; draws = (begun_with First before.seeding).draws.state })) b

-- the observer was told all steps to the turn, the draws being in this state
pub record RunsTold (S : Type 0) (step : S → Told → S → Type 0) (name : NodeName) (a b : S) (state : ℕ) (before after : KeptWorld) (turn : Turn) (w : World) : Type 0 where
  pub runs : RunsOn First state state before after turn w
  pub told : WasTold S step a (told_to before.bus name (suc runs.is.others) (record { world = w; draws = state })) b

-- Behind the run.

-- what node j of a kind, if it is there, hears of what is left behind at each node before a time
abbrev pub left_at : Scenario → (Side → ℕ → ℕ) → Side → ℕ → Option Site → List Told
left_at sc until side j None = []
left_at sc until side j (Some s) = heard sc side j (until side j) s

-- what is left behind of the node with this name
abbrev pub left_for : Scenario → (Side → ℕ → ℕ) → Each Site → NodeName → List Told
left_for sc until sites name = left_at sc until (kind_of name) (number_in name) (slice_get (of_kind (kind_of name) sites) (number_in name))

-- what is left behind of the node with this name, if it is one of the first n nodes of kind me
abbrev pub left_below : Scenario → (Side → ℕ → ℕ) → Side → ℕ → Each Site → NodeName → List Told
left_below sc until me n sites name = if same_side (kind_of name) me && nat_lt (number_in name) n then left_for sc until sites name else []

-- what the node is told if this tick is taken alone
abbrev pub alone_at : Scenario → World → Side → ℕ → Timed → Side → ℕ → Option Site → List Told
alone_at sc w me i a side j None = []
alone_at sc w me i a side j (Some s) = told_alone sc w me i a side j s

abbrev pub alone_for : Scenario → World → Side → ℕ → Timed → NodeName → List Told
alone_for sc w me i a name = alone_at sc w me i a (kind_of name) (number_in name) (slice_get (of_kind (kind_of name) w.sites) (number_in name))

-- n steps or more gave no record, and what the node was told in them was told but for what is left
-- behind
pub record AlongTold (S : Type 0) (step : S → Told → S → Type 0) (name : NodeName) (a b : S) (sc : Scenario) (kept : Each KeptSite) (scene : Scene) (until : Side → ℕ → ℕ) (n : ℕ) (w0 : World) (d : ℕ) : Type 0 where
  pub on : Along sc kept scene until n w0 d
  pub held : List Told
  pub was : WasTold S step a held b
  pub all : told_to sc name on.steps (record { world = w0; draws = d }) ≡ held ++ left_for sc until on.back.sites name

-- The observer was told all steps, of which the last may have given a record, but for what is left
-- behind
pub record ComesTold (S : Type 0) (step : S → Told → S → Type 0) (name : NodeName) (a b : S) (sc : Scenario) (kept : Each KeptSite) (scene : Scene) (until : Side → ℕ → ℕ) (n : ℕ) (w0 : World) (d : ℕ) (turn : Turn) : Type 0 where
  pub on : Comes sc kept scene until n w0 d turn
  pub held : List Told
  pub was : WasTold S step a held b
  pub all : told_to sc name (suc on.others) (record { world = w0; draws = d }) ≡ held ++ left_for sc until on.back.sites name

-- all was told up to the next record
pub record ToldToRecord (S : Type 0) (step : S → Told → S → Type 0) (name : NodeName) (a b : S) (sc : Scenario) (kept : Each KeptSite) (scene : Scene) (turn : Turn) (w : World) (d : ℕ) : Type 0 where
  pub comes : ComesToRecord sc kept scene turn w d
  pub told : WasTold S step a (told_to sc name (suc comes.is.others) (record { world = w; draws = d })) b

-- What calls tell: what is given to the node that is observed, and nothing of other nodes.

-- the arrival at this place of the node's lane is told
abbrev pub TellsArrival : {S : Type 0} → (S → Told → S → Type 0) → KeptBus → Side → NodeName → ℕ → KeptSite → Each Held → S → S → Type 0
TellsArrival {S} step bus me node place site lanes a b = (c : Coming) (at : ℕ) (s : Site) → CanHear (scenario_of bus) me (number_of site) node place site lanes c
    → StandsFor (scenario_of bus) me site s → step a (telling (scenario_of bus) [] me (number_of site) s (Arrival at c)) b

-- the node's next tick is told, if it is the one that is observed
abbrev pub TellsTickFor : {S : Type 0} → (S → Told → S → Type 0) → KeptBus → Option NodeName → Side → NodeName → KeptSite → List KeptPort → S → S → Type 0
TellsTickFor {S} step bus observed me node site ports a b = (name : NodeName) → observed ≡ Some name
    → (k : ℕ) (states : List PortState) (s : Site) → MayShowTick (scenario_of bus) me (number_of site) k site ports node states s
    → WasTold S step a (if same_node node name then telling (scenario_of bus) states me (number_of site) s (Tick k) ∷ [] else []) b

-- the node is swept, and each arrival is told
abbrev pub TellsSweep : {S : Type 0} → (S → Told → S → Type 0) → KeptBus → Side → ℕ → KeptSite → Each Held → S → S → Type 0
TellsSweep {S} step bus me until site lanes a b = (sites : Each Site) (s : Site)
    → MaySweepAt (scenario_of bus) me until site lanes sites s → WasTold S step a (heard (scenario_of bus) me (number_of site) until s) b

-- the observer is told the sweep of a node, if it is the node that is observed
abbrev pub TellsSweepFor : {S : Type 0} → (S → Told → S → Type 0) → KeptBus → Option NodeName → Side → NodeName → ℕ → KeptSite → Each Held → S → S → Type 0
TellsSweepFor {S} step bus observed me node until site lanes a b = (name : NodeName) → observed ≡ Some name
    → (sites : Each Site) (s : Site) → MaySweepAt (scenario_of bus) me until site lanes sites s
    → WasTold S step a (if same_node node name then heard (scenario_of bus) me (number_of site) until s else []) b

-- Catching up with the last tick.

-- all nodes of the kind are swept
abbrev pub TellsCatchUpAll : {S : Type 0} → (S → Told → S → Type 0) → KeptBus → Option NodeName → (NodeName × ℕ) → Side → List KeptSite → Each Held → S → S → Type 0
TellsCatchUpAll {S} step bus observed tick me kept lanes a b = (name : NodeName) → observed ≡ Some name
    → (nodes : Each Site) → MayCatchUp (scenario_of bus) (until_from (Some tick)) me kept lanes nodes
    → WasTold S step a (left_below (scenario_of bus) (until_from (Some tick)) me (count_of me bus.sizes) nodes name) b

-- all nodes are
abbrev pub TellsCatchUp : {S : Type 0} → (S → Told → S → Type 0) → KeptBus → Option NodeName → Option (NodeName × ℕ) → Run → S → S → Type 0
TellsCatchUp {S} step bus observed tick run a b = (name : NodeName) → observed ≡ Some name → IsNodeOf bus.sizes name
    → (w v : World) → Trails (scenario_of bus) (nodes_of run) run.scene (until_from tick) w v → WasTold S step a (left_for (scenario_of bus) (until_from tick) v.sites name) b

-- Ticks and runs.

-- the first tick of all is taken, which is this node's
abbrev pub TellsOwn : {S : Type 0} → (S → Told → S → Type 0) → KeptBus → Option NodeName → Side → ℕ → ℕ → List KeptSite → Scene → S → S → Type 0
TellsOwn {S} step bus observed me i time own scene a b = (name : NodeName) → observed ≡ Some name
    → (kept : Each KeptSite) (until : Side → ℕ → ℕ) (w v : World) (x : Timed) → MayTakeFirst (scenario_of bus) kept scene until w v me i x time own
    → WasTold S step a (alone_for (scenario_of bus) v me i x name) b

-- the first tick of all is taken
abbrev pub TellsFirst : {S : Type 0} → (S → Told → S → Type 0) → KeptBus → Option NodeName → Run → S → S → Type 0
TellsFirst {S} step bus observed run a b = (name : NodeName) → observed ≡ Some name
    → (until : Side → ℕ → ℕ) (w v : World) (me : Side) (i : ℕ) (x : Timed) → BehindTick (scenario_of bus) (nodes_of run) run.scene until w v me i x
    → WasTold S step a (alone_for (scenario_of bus) v me i x name) b

-- the run goes a step on
abbrev pub TellsStep : {S : Type 0} → (S → Told → S → Type 0) → KeptBus → Option NodeName → Option (NodeName × ℕ) → Option (NodeName × ℕ) → Run → Run → Turn → S → S → Type 0
TellsStep {S} step bus observed tick next before after turn a b = (name : NodeName) → observed ≡ Some name → IsNodeOf bus.sizes name
    → (first : S) (n : ℕ) (w : World) (d : ℕ) → AlongTold S step name first a (scenario_of bus) (nodes_of before) before.scene (until_from tick) n w d
    → ComesTold S step name first b (scenario_of bus) (nodes_of after) after.scene (until_from next) n w d turn

-- the run comes to its next record
abbrev pub TellsRun : {S : Type 0} → (S → Told → S → Type 0) → KeptBus → Option NodeName → Run → Run → Turn → S → S → Type 0
TellsRun {S} step bus observed before after turn a b = (name : NodeName) → observed ≡ Some name → IsNodeOf bus.sizes name
    → (w : World) (d : ℕ) → MayRun (scenario_of bus) (nodes_of before) before.scene w
    → ToldToRecord S step name a b (scenario_of bus) (nodes_of after) after.scene turn w d

-- the observer is told how a run goes on, as the world is kept
abbrev pub TellsRunOn : {S : Type 0} → (S → Told → S → Type 0) → Option NodeName → KeptWorld → KeptWorld → Turn → S → S → Type 0
TellsRunOn {S} step observed before after turn a b = (name : NodeName) → observed ≡ Some name → IsNodeOf before.bus.sizes name
    → (w : World) (state : ℕ) → Stands before w → RunsTold S step name a b state before after turn w
