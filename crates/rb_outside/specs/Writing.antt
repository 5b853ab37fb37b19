-- What a call that writes did to a sink.
use Rattle.std.specs.{Prelude.{ℕ, List, Option, Result, OnErr, OnOk}, Io.KnownBytes.Appends}
use Rattle.rb_outside.specs.{Bytes.AppendsPart, Causes.HasCause}

-- Ok: all of these bytes were appended to what the sink holds. Err: a first part of them, and a
-- call of the sink failed
pub record Writes {K T E : Type 0} (held : K → Option (List ℕ)) (faults : K → ℕ) (before after : K) (result : Result T E) (bytes : List ℕ) : Type 0 where
  pub all : OnOk result (Appends (held before) (held after) bytes)
  pub part : OnErr result (AppendsPart (held before) (held after) bytes)
  pub cause : HasCause (faults before) (faults after) result
