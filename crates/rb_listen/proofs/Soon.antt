-- The stamps of a lesson do not run ahead.
use Rattle.std.proofs.Common.{ℕ, zero, suc, ◌≤◌, ◌^◌, Bool, true, false, ◌==◌, if◌then◌else◌, [], ◌∷◌, Option, Some, None, IfSome, List, All, get_or, slice_set, replicate}
use Rattle.rb_base.specs.{Nodes.has, Sizes.{Sizes, sync_slot_of}}
use Rattle.rb_resync.proofs.Closings.{TakenUpTo, middle_up_to}
use Rattle.rb_rules.specs.{declared.message.Message.Message, declared.sense.Sense.Sense, declared.sense.Sense.TheVariants.{Silent, One, Bad}, Middle.IsMiddle, Sense.{stamp_in, tag_suits}}
use Rattle.rb_listen.specs.{Lessons.{has_place, noted, nothing_recorded, place_of, record_of, recorded_of, with_message, with_record}, declared.lesson.Lesson.Lesson, Stamps.{AreSoon, IsSoonSense}}

stamp-soon : (s : Sense) → IsSoonSense s → TakenUpTo (2 ^ 31) (stamp_in s)
stamp-soon Silent h = tt
stamp-soon (One at m) h = h
stamp-soon Bad h = tt

pub recorded-soon : (records : List Sense) (rmus slot j : ℕ) → AreSoon records → TakenUpTo (2 ^ 31) (recorded_of stamp_in records rmus slot j)
unfolding AreSoon
recorded-soon records rmus slot j soon = by (has rmus j)
  where
    by : (b : Bool) → TakenUpTo (2 ^ 31) (if b then stamp_in (record_of records slot j) else None)
    by true = stamp-soon (record_of records slot j) (soon (place_of slot j))
    by false = tt

pub middle-soon : (m : Option ℕ) (stamps : List ℕ) → All (λ s. s ≤ 2 ^ 31) stamps → IfSome m (λ k. IsMiddle k stamps) → IfSome m (λ k. k ≤ 2 ^ 31)
middle-soon None stamps soon is = tt
middle-soon (Some k) stamps soon is = middle_up_to (2 ^ 31) k stamps soon is

message-soon : (in_sync : Bool) (at : ℕ) (m : Message) (s : Sense) → at ≤ 2 ^ 31 → IsSoonSense (with_message in_sync at m s)
message-soon in_sync at m Silent h = by (tag_suits in_sync m.tag)
  where
    by : (b : Bool) → IsSoonSense (if b then One at m else Bad)
    by true = h
    by false = tt
message-soon in_sync at m (One before n) h = tt
message-soon in_sync at m Bad h = tt

set-soon : (records : List Sense) (place : ℕ) (s : Sense) → IsSoonSense s → ((k : ℕ) → IsSoonSense (get_or records k Silent))
    → (k : ℕ) → IsSoonSense (get_or (slice_set records place s) k Silent)
set-soon [] place s h soon k = tt
set-soon (x ∷ xs) zero s h soon zero = h
set-soon (x ∷ xs) zero s h soon (suc k) = soon (suc k)
set-soon (x ∷ xs) (suc place) s h soon zero = soon zero
set-soon (x ∷ xs) (suc place) s h soon (suc k) = set-soon xs place s h (λ j. soon (suc j)) k

pub noted-soon : (sizes : Sizes) (j at : ℕ) (m : Message) (lesson : Lesson) → at ≤ 2 ^ 31 → AreSoon lesson.records
    → AreSoon (noted sizes j at m lesson).records
unfolding AreSoon
noted-soon sizes j at m lesson h soon = by (has_place sizes lesson.frame m)
  where
    by : (b : Bool) → AreSoon (if b then record lesson { records = with_record sizes j at m lesson.records } else lesson).records
    by true =
        set-soon lesson.records (place_of m.slot j) (with_message (m.slot == sync_slot_of sizes) at m (record_of lesson.records m.slot j))
        (message-soon (m.slot == sync_slot_of sizes) at m (record_of lesson.records m.slot j) h) soon
    by false = soon

-- `IsSoonSense` holds if nothing is recorded
silent-soon : (n k : ℕ) → IsSoonSense (get_or (replicate n Silent) k Silent)
silent-soon zero k = tt
silent-soon (suc n) zero = tt
silent-soon (suc n) (suc k) = silent-soon n k

pub none-soon : AreSoon nothing_recorded
unfolding AreSoon nothing_recorded
none-soon = silent-soon 1808
