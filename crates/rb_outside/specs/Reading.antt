-- What reading a source to its end did to it.
use Rattle.std.specs.{Prelude.{◌≡◌, ◌≢◌, ◌<◌, ◌≤◌, ◌⊎◌, ℕ, List, length, Option, Result, Err, IsOk, IfOk, IsSomeAnd, Vec}, Global.Global}
use Rattle.rb_outside.specs.{Bytes.{Gave, ReadsToEnd}, Causes.Rose, declared.whole.Unread.Unread, declared.whole.Unread.TheVariants.{TooLong, Fault, OutOfMemory}}

-- Ok: these are all the bytes that the source had left, and they are within the limit. Err: it gave
-- more, or a call of it failed, or memory ran out
pub record ReadsWithin {S : Type 0} (left : S → Option (List ℕ)) (faults : S → ℕ) (limit : ℕ) (before after : S) (result : Result (Vec ℕ Global) Unread) : Type 0 where
  pub whole : IfOk result (λ v. ReadsToEnd (left before) (left after) v.items)
  pub within : IfOk result (λ v. length v.items ≤ limit)
  -- TooLong is the answer if and only if more bytes than the limit were given
  pub too_long : result ≡ Err TooLong → Gave (left before) (left after) (λ n. limit < n)
  pub not_long : result ≢ Err TooLong → Gave (left before) (left after) (λ n. n ≤ limit)
  pub later : faults before ≤ faults after
  pub fault : result ≡ Err Fault → Rose (faults before) (faults after)
  -- a source that tells few enough bytes and has no fault is read to its end, if memory lasts
  pub complete : IsSomeAnd (left before) (λ xs. length xs ≤ limit) → ¬ Rose (faults before) (faults after)
      → IsOk result ⊎ (result ≡ Err OutOfMemory)
