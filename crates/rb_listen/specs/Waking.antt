-- What a follower keeps at hand of what is ahead of it.
use Rattle.std.specs.Prelude.{ℕ, ◌≡◌, ◌≤◌, ◌^◌, ◌+◌, ◌*◌, Bool, Option, Some, None}
use Rattle.rb_base.specs.Nodes.Side.{Biu}
use Rattle.rb_eligible.specs.Inboxes.{KeptArrivals, StampsUpTo}
use Rattle.rb_slot.specs.Engines.{Seated}
use Rattle.rb_node.specs.Aheads.{IsNextWake, IsWindowOf}
use Rattle.rb_listen.specs.{declared.ahead.Ahead.Ahead, Following.wakes}

abbrev pub wakes_at : Seated → ℕ → Bool
wakes_at v k = wakes v.sizes v.plan v.state k

-- what is kept is so for a follower that has had `had` ticks
pub record LooksAhead (v : Seated) (had : ℕ) (a : Ahead) : Type 0 where
  pub next : IsNextWake Biu v had a.tick
  pub window : IsWindowOf Biu v had a.window

-- if the middle that fixes the next epoch is known, the frame has had two ticks
abbrev pub IfKnown : Seated → ℕ → Option ℕ → Type 0
IfKnown v had None = Unit {0}
IfKnown v had (Some k2) = v.state.epoch + 2 ≤ had

-- what holds of a follower between two calls. Its frame and its stamps do not run ahead of its
-- ticks: a frame has two ticks at least, since the middle that fixes the next epoch is not known at
-- the first
pub record IsFollowing (v : Seated) (had : ℕ) (inbox : KeptArrivals) (a : Ahead) : Type 0 where
  pub most : had ≤ 2 ^ 31
  pub index : v.index ≡ 16
  pub epoch : v.state.epoch ≤ had
  pub frame : 2 * v.state.frame ≤ 131072 + v.state.epoch
  pub known : IfKnown v had v.state.k2
  pub stamps : StampsUpTo (2 ^ 32) inbox
  pub ahead : LooksAhead v had a
