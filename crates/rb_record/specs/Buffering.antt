-- Bytes on their way to a sink, of which some wait.
use Rattle.std.specs.{Prelude.{ℕ, ◌≡◌, Option, List, ◌++◌}, Io.KnownBytes.Appends}

-- bytes were put behind those that waited; of all these the first were written, and the rest waits
pub record PassesOn (before after bytes : List ℕ) (held since : Option (List ℕ)) : Type 0 where
  pub out : List ℕ
  pub split : before ++ bytes ≡ out ++ after
  pub text : Appends held since out
