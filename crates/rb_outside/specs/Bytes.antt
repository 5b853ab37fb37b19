-- What several calls together did to the bytes that a source has left and a sink holds.
use Rattle.std.specs.{Prelude.{◌≡◌, ℕ, List, ◌++◌, length, Option}, Io.KnownBytes.{Appends, Consumes, IsAtEnd}}

-- a first part of `bytes` was appended, perhaps none and perhaps all
pub record AppendsPart (before after : Option (List ℕ)) (bytes : List ℕ) : Type 0 where
  pub part : List ℕ
  pub rest : List ℕ
  pub whole : bytes ≡ part ++ rest
  pub appended : Appends before after part

-- some bytes were given, and P holds of their number
pub record Gave (before after : Option (List ℕ)) (P : ℕ → Type 0) : Type 0 where
  pub given : List ℕ
  pub consumed : Consumes before after given
  pub number : P (length given)

-- `bytes` were given, and they are all that was left
pub record ReadsToEnd (before after : Option (List ℕ)) (bytes : List ℕ) : Type 0 where
  pub consumed : Consumes before after bytes
  pub at_end : IsAtEnd after
