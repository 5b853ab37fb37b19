-- The running nodes of a world that is stood for keep the promise.
use Rattle.std.proofs.Common.{sym, subst}
use Rattle.rb_rules.specs.WorldStep.{World}
use Rattle.rb_laws_events.specs.Promise.{NodesKeepThePromise}
use Rattle.rb_laws_events.proofs.NodesPromise.{keep-the-promise}
use Rattle.rb_world.specs.Worlds.{KeptWorld, Stands}

pub nodes-keep : (k : KeptWorld) (w : World) → Stands k w → NodesKeepThePromise k.bus w
nodes-keep k w is = subst (NodesKeepThePromise k.bus) (sym is.reached.is) ((keep-the-promise k.bus is.lawful).nodes is.reached.choices)
