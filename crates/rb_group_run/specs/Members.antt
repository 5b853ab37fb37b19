-- The members of a group.
use Rattle.std.specs.Prelude.{ℕ, ◌≡◌, ◌<◌, true}
use Rattle.rb_base.specs.{Nodes.has, Sizes.Sizes}

-- each is a BIU of a bus of these sizes
abbrev pub AreMembers : Sizes → ℕ → Type 0
AreMembers sizes members = (i : ℕ) → has members i ≡ true → i < sizes.bius
