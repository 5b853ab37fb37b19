-- What changes in a group of nodes when one of them tells something.
use Rattle.std.specs.Prelude.{ℕ, ◌≡◌, ◌&&◌, ◌==◌, not, if◌then◌else◌, slice_set}
use Rattle.rb_base.specs.Nodes.{has, set_of}
use Rattle.rb_world_book.specs.{declared.group.Group.Group, declared.milestone.Milestone.Milestone, declared.told.Told.Told, Telling.has_told}

-- t is now what a node told last, and the node is awaited if and only if it is good and t does not
-- tell of milestone m. Nothing else has changed
pub record IsNoted {K : Type 0} (before after : Group K) (node : ℕ) (m : Milestone) (t : Told) : Type 0 where
  pub told : after.told ≡ slice_set before.told node t
  pub good : after.good ≡ before.good
  pub lasting : after.lasting ≡ before.lasting
  pub counted : after.counted ≡ before.counted
  pub waiting : after.waiting ≡ set_of (λ i. if i == node then has before.good node && not (has_told m t) else has before.waiting i)

-- all good nodes are awaited, and nothing else has changed
pub record AwaitsGood {K : Type 0} (before after : Group K) : Type 0 where
  pub told : after.told ≡ before.told
  pub good : after.good ≡ before.good
  pub lasting : after.lasting ≡ before.lasting
  pub counted : after.counted ≡ before.counted
  pub waiting : after.waiting ≡ before.good
