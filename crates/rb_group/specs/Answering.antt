-- Entries that answer as a voter does, on every list.
use Rattle.std.specs.{Prelude.{◌≡◌, ◌≤◌, length}, Borrow.Bor}
use Rattle.arrayvec.specs.ArrayVec.{ArrayVec}
use Rattle.rb_base.specs.declared.values.Heard.{Heard}
use Rattle.rb_group.specs.{declared.voters.Which.Which, Groups.voted_by}

-- by what a call needs and what it may answer: each call on at most 16 values may be made, and
-- answers what the voter does
abbrev pub AnswersAs : Which → (Bor (ArrayVec Heard) → Type 0) → (Bor (ArrayVec Heard) → Heard → Type 0) → Type 0
AnswersAs which pre post = (values : Bor (ArrayVec Heard)) → length values.now.items ≤ 16
    → pre values × ((answer : Heard) → post values answer → answer ≡ voted_by which values.now.items)
