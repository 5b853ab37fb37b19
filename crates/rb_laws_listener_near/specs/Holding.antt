-- What a listener that follows has in common with the good BIUs.
use Rattle.std.specs.Prelude.{◌≡◌}
use Rattle.rb_rules.specs.NodeState.{NodeState}

-- two nodes of one kind hold the same: the frame, whom they trust, their votes and the schedule
pub record HoldAlike (a b : NodeState) : Type 0 where
  pub frame : a.frame ≡ b.frame
  pub near : a.near ≡ b.near
  pub far : a.far.trusted ≡ b.far.trusted
  pub votes : a.votes ≡ b.votes
  pub owners : a.owners ≡ b.owners
