-- What is seen of a source, of a sink and of a drive before a call and after it.
use Rattle.std.specs.Prelude.{ℕ, Bool, List, Option}
use Rattle.rb_world_book.specs.declared.turn.Turn.{Turn}

-- what is seen of a source is the bytes that it has left, if they are known, and how often it has
-- failed
pub record SeenSource : Type 0 where
  pub left : Option (List ℕ)
  pub left' : Option (List ℕ)
  pub faults : ℕ
  pub faults' : ℕ

abbrev pub source_over : {S : Type 0} → (S → Option (List ℕ)) → (S → ℕ) → S → S → SeenSource
source_over left faults before after = record { left = left before; left' = left after; faults = faults before; faults' = faults after }

-- what is seen of a sink is the bytes that it holds, if they are known, and how often it has failed
pub record SeenSink : Type 0 where
  pub held : Option (List ℕ)
  pub held' : Option (List ℕ)
  pub faults : ℕ
  pub faults' : ℕ

abbrev pub sink_over : {K : Type 0} → (K → Option (List ℕ)) → (K → ℕ) → K → K → SeenSink
sink_over held faults before after = record { held = held before; held' = held after; faults = faults before; faults' = faults after }

-- what is seen of a drive is whether it is plain, what it had told before the call, and what it has
-- told since
pub record SeenDrive : Type 0 where
  pub is_plain : Bool
  pub told : Option (List Turn)
  pub since : Option (List Turn)

abbrev pub drive_of : Bool → Option (List Turn) → Option (List Turn) → SeenDrive
drive_of is_plain told since = record { is_plain = is_plain; told = told; since = since }

abbrev pub drive_over : {D : Type 0} → (D → Bool) → (D → Option (List Turn)) → D → D → SeenDrive
drive_over is_plain told before after = drive_of (is_plain before) (told before) (told after)
