-- What a node holds of the nodes of the other kind: whom it trusts, whom it accuses, and from whom
-- it accepts messages.
use Rattle.std.specs.Prelude.{ℕ, ◌+◌, min, nat_lt, nat_le, ◌&&◌, ◌||◌, not, Bool, if◌then◌else◌, Option, None, Some, false, List, map, replicate, slice_index}
use Rattle.rb_base.specs.{Counting.numbers, Nodes.{has, set_of}, declared.values.Heard.Heard}
use Rattle.rb_rules.specs.{declared.sense.Sense.Sense, Majority.same_heard, Sense.{is_one, is_silent}}

pub record Standing : Type 0 where
  pub trusted : ℕ  -- the nodes that are not convicted
  pub direct : ℕ  -- the nodes accused for what came from them, or did not come
  pub mismatch : ℕ  -- the nodes accused for a value that differed
  pub fresh : ℕ  -- the nodes with direct evidence against them in the frame
  pub calm : List ℕ  -- for each accused node the frames in a row that ended without direct evidence

-- at first the nodes below `count` are trusted, and nobody is accused
abbrev pub first_standing : ℕ → Standing
first_standing count =
    record { trusted = set_of (λ j. nat_lt j count); direct = 0; mismatch = 0; fresh = 0; calm = replicate 16 0 }

-- a node is eligible if it is trusted and not accused directly. A mismatch accusation changes
-- nothing here
abbrev pub is_eligible : Standing → ℕ → Bool
is_eligible s j = has s.trusted j && not (has s.direct j)

-- what a node accepts from source `j`: the result of `part` for its sense if the source is expected
-- and eligible, and nothing otherwise
abbrev pub taken_of : {X : Type 0} → (Sense → Option X) → Standing → (ℕ → Bool) → (ℕ → Sense) → ℕ → Option X
taken_of part s expected sense j = if expected j && is_eligible s j then part (sense j) else None

-- a source does wrong in a window if it was expected and anything but its one message arrived, or
-- if it was not expected and something arrived
abbrev pub does_wrong : Bool → Sense → Bool
does_wrong expected sense = if expected then not (is_one sense) else not (is_silent sense)

-- there is direct evidence against each trusted source that did wrong
abbrev pub has_evidence : Standing → (ℕ → Bool) → (ℕ → Sense) → ℕ → Bool
has_evidence s expected sense j = has s.trusted j && does_wrong (expected j) (sense j)

-- the standing after direct evidence against some nodes: they are accused, and the evidence is of
-- this frame
abbrev pub with_evidence : (ℕ → Bool) → Standing → Standing
with_evidence evidence s = record s {
  direct = set_of (λ j. has s.direct j || evidence j);
  fresh = set_of (λ j. has s.fresh j || evidence j);
}

-- something was accepted, and it is not the value
abbrev pub is_unlike : Heard → Option Heard → Bool
is_unlike value None = false
is_unlike value (Some taken) = not (same_heard value taken)

-- the standing after mismatch accusations of the nodes that differ
abbrev pub with_mismatch : (ℕ → Bool) → Standing → Standing
with_mismatch differs s = record s { mismatch = set_of (λ j. has s.mismatch j || differs j) }

-- the vector that a node sends: the trusted nodes that it accuses, directly or by mismatch
abbrev pub vector_of : Standing → ℕ
vector_of s = set_of (λ j. has s.trusted j && (has s.direct j || has s.mismatch j))

-- a node's calm when a frame ends: 0 if there was evidence in the frame, and otherwise one frame
-- more, counted up to 4096
abbrev pub calm_after : Standing → ℕ → ℕ
calm_after s j = if has s.fresh j then 0 else min (slice_index s.calm j + 1) 4096

-- the direct accusation of node j lapses after `probation` frames without evidence against it; if
-- `probation` is 0, none lapses
abbrev pub lapses : ℕ → Standing → ℕ → Bool
lapses probation s j =
    has s.direct j && not (has s.fresh j) && nat_le 1 probation && nat_le probation (calm_after s j)

-- the calm with which a node's next frame begins
abbrev pub next_calm : ℕ → Standing → ℕ → ℕ
next_calm probation s j =
    if not (has s.direct j) then slice_index s.calm j else (if lapses probation s j then 0 else calm_after s j)

-- the standing at the end of a frame. Mismatch accusations and convictions stay
abbrev pub standing_at_end : ℕ → Standing → Standing
standing_at_end probation s = record s {
  direct = set_of (λ j. has s.direct j && not (lapses probation s j));
  fresh = 0;
  calm = map (next_calm probation s) (numbers 16);
}

-- the trusted nodes without those that are convicted
abbrev pub without : ℕ → ℕ → ℕ
without trusted convicted = set_of (λ j. has trusted j && not (has convicted j))
