-- Nodes to which nothing new comes for some frames.
use Rattle.std.specs.Prelude.{ℕ, ◌≡◌, ◌+◌, ◌<◌, ◌||◌, min, nat_lt, Bool, List, Option, Some, None, get_or}
use Rattle.rb_base.specs.Nodes.{Side}
use Rattle.rb_rules.specs.{Goodness.{Scenario, onsets_of}, Links.name_of}
use Rattle.rb_world_traffic.specs.Saying.{KeptSayings, entries_for, first_frame, kept_of, last_frame}
use Rattle.rb_world.specs.declared.calm.Restless.{Restless}

-- the first frame in which a node with this onset may not be good, or something may be said to it,
-- `first` being the first of which an entry for it speaks
abbrev pub first_restless : Option (ℕ × ℕ) → ℕ → ℕ
first_restless None first = first
first_restless (Some onset) first = min first onset.0

-- the last frame in which a node with this onset may not be good, or something may be said to it;
-- with an onset there is none
abbrev pub last_restless : Option (ℕ × ℕ) → ℕ → ℕ
last_restless None last = last
last_restless (Some onset) last = 18446744073709551615

-- neither a frame nor the next lies between two frames
abbrev pub is_outside : ℕ → ℕ → ℕ → Bool
is_outside first last frame = nat_lt (frame + 1) first || nat_lt last frame

-- what is kept of node i of kind me: the first and the last frame in which it is restless
pub record IsRestless (onsets : List (Option (ℕ × ℕ))) (sayings : KeptSayings) (me : Side) (i : ℕ) (r : Restless) : Type 0 where
  pub first : r.first ≡ first_restless (get_or onsets i None) (first_frame (entries_for sayings (name_of me i)))
  pub last : r.last ≡ last_restless (get_or onsets i None) (last_frame (entries_for sayings (name_of me i)))

-- for each of the first `count` nodes of kind me, the first and the last frame are kept in which it
-- is restless
abbrev pub AreRestless : List (Option (ℕ × ℕ)) → KeptSayings → Side → ℕ → List Restless → Type 0
AreRestless onsets sayings me count nodes =
    (i : ℕ) → i < count → IsRestless onsets sayings me i (get_or nodes i (record { first = 0; last = 0 }))

-- a frame and the next both come before all frames in which node i of kind me may not be good or an
-- entry for it may speak, or both come after them. Therefore in both the node is good in every
-- slot, and nothing is said to it
abbrev pub is_calm : Scenario → Side → ℕ → ℕ → Bool
is_calm sc me i frame =
    is_outside (first_restless (get_or (onsets_of me sc) i None) (first_frame (entries_for (kept_of sc) (name_of me i))))
    (last_restless (get_or (onsets_of me sc) i None) (last_frame (entries_for (kept_of sc) (name_of me i)))) frame
