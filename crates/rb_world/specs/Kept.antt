-- What callers see of a world.
use Rattle.std.specs.Prelude.{◌≡◌, refl}
use Rattle.rb_rules.specs.{Behavior.Behavior, Book.Each}
use Rattle.rb_world.specs.{Buses.{KeptBus, listed_by, scenario_of}, Runs.nodes_of, Sites.KeptSite, Worlds.KeptWorld, declared.last.Last.Last, declared.scene.Scene.Scene, declared.ties.Seeding.Seeding, declared.world.World.TheInside.Inside}
use mathlib.Core.Path.{path_j}

-- the bus, the nodes and what surrounds them, the draws, and which turn came last
abbrev pub kept_of : Inside → KeptWorld
kept_of w = record {
  bus = scenario_of w.bus;
  lists = refl;
  nodes = nodes_of w.run;
  scene = w.run.scene;
  seeding = w.seeding;
  last = w.last;
}

-- By its data alone, without what faulty nodes do, a world is told from others.
pub record KeptParts : Type 0 where
  pub bus : KeptBus
  pub nodes : Each KeptSite
  pub scene : Scene
  pub seeding : Seeding
  pub last : Last

abbrev pub parts_of : KeptWorld → KeptParts
parts_of k = record {
  bus = record {
    sizes = k.bus.sizes;
    plan = k.bus.plan;
    frames = k.bus.frames;
    requests = k.bus.requests;
    words = k.bus.words;
    apps = k.bus.apps;
    clocks = k.bus.clocks;
    delays = k.bus.delays;
    biu_onsets = k.bus.biu_onsets;
    rmu_onsets = k.bus.rmu_onsets;
    says = k.bus.says;
  };
  nodes = k.nodes;
  scene = k.scene;
  seeding = k.seeding;
  last = k.last;
}

abbrev pub world_of : KeptParts → KeptWorld
world_of p = record { bus = scenario_of p.bus; lists = refl; nodes = p.nodes; scene = p.scene; seeding = p.seeding; last = p.last }

pub world-again : (k : KeptWorld) → world_of (parts_of k) ≡ k
world-again k =
    path_j (λ (b : Behavior) (e : listed_by k.bus ≡ b). world_of (parts_of k) ≡ record k { bus = record k.bus { behavior = b }; lists = e }) refl k.lists
