-- What a host's handle holds.
use Rattle.std.specs.Prelude.{Option}
use Rattle.rb_host.specs.{declared.any_node.AnyNode.AnyNode, declared.handle.Handle.Handle}

-- the node, if there is one
abbrev pub node_in : Handle → Option AnyNode
node_in h = h.held.node
