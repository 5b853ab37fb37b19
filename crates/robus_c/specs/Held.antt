-- A sink that holds what it was given.
use Rattle.std.specs.Prelude.{ℕ, Bool, List, if◌then◌else◌}
use Rattle.rb_outside.specs.Causes.{last_count}

-- the bytes taken, and whether a call has failed
pub record Held : Type 0 where
  pub bytes : List ℕ
  pub failed : Bool

-- the sink's count of faults: 0 before the first of them, and from then on the last count that
-- there is
abbrev pub faults_of : Held → ℕ
faults_of sink = if sink.failed then last_count else 0
