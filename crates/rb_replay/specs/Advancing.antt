-- A text that is written part by part.
use Rattle.std.specs.{Prelude.{ℕ, ◌≡◌, Option, List, ◌++◌, Result, IfOk, OnErr}, Io.KnownBytes.Appends}
use Rattle.rb_outside.specs.Bytes.{AppendsPart}

-- a first part of the text that was due was appended, and the rest is still due
pub record Advances (IsStillDue : List ℕ → Type 0) (due : List ℕ) (before after : Option (List ℕ)) : Type 0 where
  pub part : List ℕ
  pub rest : List ℕ
  pub whole : due ≡ part ++ rest
  pub appended : Appends before after part
  pub goes_on : IsStillDue rest

-- Ok: a first part was appended, and what is due with this number of frames is still due. Err: a
-- first part was appended, and a write failed
pub record AdvancesBy {S E : Type 0} (held : S → Option (List ℕ)) (IsStillDue : ℕ → List ℕ → Type 0) (due : List ℕ) (before after : S) (result : Result ℕ E) : Type 0 where
  pub advances : IfOk result (λ n. Advances (IsStillDue n) due (held before) (held after))
  pub part : OnErr result (AppendsPart (held before) (held after) due)
