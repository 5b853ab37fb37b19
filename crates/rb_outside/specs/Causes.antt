-- When a call to the outside may fail, and when it may take nothing.
use Rattle.std.specs.Prelude.{ℕ, ◌+◌, ◌-◌, ◌^◌, ◌<◌, ◌≤◌, min, Bool, if◌then◌else◌, List, length, Result, IfOk, OnErr}

-- a count stops here
abbrev pub last_count : ℕ
last_count = 2 ^ 64 - 1

-- the count after one more
abbrev pub next_count : ℕ → ℕ
next_count count = min (count + 1) last_count

-- the count of faults after a call that failed or did not
abbrev pub faults_after : Bool → ℕ → ℕ
faults_after failed faults = if failed then next_count faults else faults

-- the count rose, or it is where counts stop
abbrev pub Rose : ℕ → ℕ → Type 0
Rose before after = next_count before ≤ after

-- the count of faults did not fall, and it rose if the call failed
pub record HasCause {T E : Type 0} (before after : ℕ) (result : Result T E) : Type 0 where
  pub later : before ≤ after
  pub rose : OnErr result (Rose before after)

-- if the call did not fail and there is a byte to take, at least one is taken
abbrev pub TakesSome : {E : Type 0} → Result ℕ E → List ℕ → Type 0
TakesSome result bytes = IfOk result (λ n. 0 < length bytes → 0 < n)
