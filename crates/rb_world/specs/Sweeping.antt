-- What is pending at a node.
use Rattle.std.specs.Prelude.{ℕ, ◌≡◌, Some, slice_get}
use Rattle.rb_base.specs.{Nodes.Side, Sizes.Sizes, declared.node.NodeName.NodeName}
use Rattle.rb_rules.specs.{Book.{Each, of_kind}, Links.name_of, WorldStep.Site}
use Rattle.rb_queue.specs.Waiting.{Held}
use Rattle.rb_world_agenda.specs.Holding.{HoldsSites}

-- the lanes hold what is pending at sites, of which this is the node's
pub record IsPending (sizes : Sizes) (me : Side) (i : ℕ) (lanes : Each Held) (sites : Each Site) (s : Site) (name : NodeName) : Type 0 where
  pub named : name ≡ name_of me i
  pub there : slice_get (of_kind me sites) i ≡ Some s
  pub holds : HoldsSites sizes lanes sites
