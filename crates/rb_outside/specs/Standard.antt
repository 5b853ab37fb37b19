-- What contracts see of a reader or a writer of the standard library at the edge.
use Rattle.std.specs.Prelude.{ℕ}

-- the reader or writer itself, and how many calls failed
pub record Edge (T : Type 0) : Type 0 where
  pub inner : T
  pub faults : ℕ
