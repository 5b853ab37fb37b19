-- How long a direct accusation lasts: by the frame of the newest direct evidence against each node.
use Rattle.std.specs.Prelude.{◌≡◌, ℕ, ◌+◌, ◌-◌, ◌<◌, min, nat_le, nat_lt, not, ◌&&◌, Bool, true, false, if◌then◌else◌, slice_index}
use Rattle.rb_base.specs.Nodes.{has}
use Rattle.rb_rules.specs.Standing.{Standing}

-- an accusation has lapsed if its newest evidence is older than the frame by more than the
-- probation. If the probation is 0, none lapses
abbrev pub has_lapsed : ℕ → ℕ → ℕ → Bool
has_lapsed probation newest frame = nat_le 1 probation && nat_lt (newest + probation) frame

-- the frames of the newest evidence after frame `frame` gave evidence against some nodes
abbrev pub newest_with : (ℕ → Bool) → ℕ → (ℕ → ℕ) → ℕ → ℕ
newest_with evidence frame newest j = if evidence j then frame else newest j

-- the standing says in frame `frame` that the newest evidence against node `j` is of frame `e`: if
-- node `j` is in `fresh`, `e` is this frame; otherwise `e` is earlier, and `calm` counts the frames
-- between, up to 4096
pub record StandsForNewest (s : Standing) (frame j e : ℕ) : Type 0 where
  pub fresh : has s.fresh j ≡ true → e ≡ frame
  pub earlier : has s.fresh j ≡ false → e < frame
  pub calm : has s.fresh j ≡ false → slice_index s.calm j ≡ min (frame - (e + 1)) 4096

-- for each node `j` that is accused directly the standing says in this frame that the newest
-- evidence against it is of frame `newest j`
abbrev pub HasNewest : Standing → ℕ → (ℕ → ℕ) → Type 0
HasNewest s frame newest = (j : ℕ) → j < 16 → has s.direct j ≡ true → StandsForNewest s frame j (newest j)

-- when a frame begins, the nodes whose accusation has not lapsed stay accused, and the newest
-- evidence is as it was
pub record LapsesByFrames (probation frame : ℕ) (newest : ℕ → ℕ) (before after : Standing) : Type 0 where
  pub accused : (j : ℕ) → j < 16 → has after.direct j ≡ (has before.direct j && not (has_lapsed probation (newest j) frame))
  pub newest_stays : HasNewest after frame newest
