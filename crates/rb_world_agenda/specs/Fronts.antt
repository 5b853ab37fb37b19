-- At which place the least of the keys stands.
use Rattle.std.specs.Prelude.{ℕ, ◌≡◌, ◌<◌, length, List, get_or}
use Rattle.rb_world_agenda.specs.{declared.scan.Front.Front, Agenda.least_key}

-- `front.least` is the least of the keys. If it is not the last time that there is, it is at place
-- `front.first`. No key before that place is as low
pub record IsFront (keys : List ℕ) (front : Front) : Type 0 where
  pub least_is : front.least ≡ least_key keys
  pub there : front.least < 18446744073709551615 → (front.first < length keys) × (get_or keys front.first 0 ≡ front.least)
  pub before : (k : ℕ) → k < front.first → front.least < get_or keys k 0
