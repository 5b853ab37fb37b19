-- What faulty nodes do.
use Rattle.std.specs.{Prelude.{ℕ, zero, suc, ◌&&◌, nat_le, nat_lt, Bool, true, List}, List.list_all}
use Rattle.rb_base.specs.{Nodes.Side, declared.values.Place.Place}
use Rattle.rb_rules.specs.Clock.{Timeline, time_of}

-- a window of a node: its place, and its first and last tick
pub record Span : Type 0 where
  pub place : Place
  pub first : ℕ
  pub last : ℕ

-- what comes from a faulty node: when, in reference units, and the bytes
pub record Said : Type 0 where
  pub time : ℕ
  pub bytes : List ℕ

-- What faulty nodes do in a run: for node i of a kind, a window of that node and a source of the
-- other kind, a list of what comes from the source to the node. What of it is not in the window is
-- not heard. It may be any function
abbrev pub Behavior : Type 0
Behavior = Side → ℕ → Span → ℕ → List Said

-- the time is later than the tick before this one, if there is one
abbrev pub is_after_previous : Timeline → ℕ → ℕ → Bool
is_after_previous clock zero time = true
is_after_previous clock (suc previous) time = nat_lt (time_of clock previous) time

-- by the receiver's clock the stamp of the time is a tick of the window
abbrev pub is_within : Timeline → Span → ℕ → Bool
is_within clock span time = is_after_previous clock span.first time && nat_le time (time_of clock span.last)

-- every number of the list is a byte
abbrev pub are_bytes : List ℕ → Bool
are_bytes bytes = list_all (λ byte. nat_lt byte 256) bytes
