-- The numbers of nodes and of data slots of a bus.
use Rattle.std.specs.Prelude.{ℕ, ◌+◌, ◌*◌, ◌≤◌}

pub record Sizes : Type 0 where
  pub bius : ℕ
  pub rmus : ℕ
  pub data_slots : ℕ

-- a bus has 1 to 16 nodes of each kind and 1 to 64 data slots
pub record IsShape (s : Sizes) : Type 0 where
  pub some_biu : 1 ≤ s.bius
  pub most_bius : s.bius ≤ 16
  pub some_rmu : 1 ≤ s.rmus
  pub most_rmus : s.rmus ≤ 16
  pub some_slot : 1 ≤ s.data_slots
  pub most_slots : s.data_slots ≤ 64

-- the number of the sync slot
abbrev pub sync_slot_of : Sizes → ℕ
sync_slot_of s = 2 * s.bius + s.rmus + s.data_slots
