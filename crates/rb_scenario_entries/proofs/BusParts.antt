-- The parts of what is tested at the root.
use Rattle.std.proofs.{Common.{◌≡◌, ◌-◌, true, nat_le, codes}, lemmas.Bool.and_parts}
use Rattle.toml.specs.Data.{Members}
use Rattle.rb_scenario_document.specs.Values.{has_number, may_have_number}
use Rattle.rb_scenario_entries.specs.Bus.{has_bus, has_plan, has_sizes, has_units, has_version, has_windows, may_plan, planned}

pub record UnitParts (t : Members) : Type 0 where
  pub u : may_plan (codes "u") 2 1000000 t ≡ true
  pub r : may_plan (codes "r") 0 (planned (codes "u") 10000 t - 1) t ≡ true
  pub dmin : may_plan (codes "dmin") 1 1000000000 t ≡ true
  pub dmax : may_plan (codes "dmax") 1 1000000000 t ≡ true
  pub order : nat_le (planned (codes "dmin") 5000 t) (planned (codes "dmax") 15000 t) ≡ true

pub unit_parts : (t : Members) → has_units t ≡ true → UnitParts t
unit_parts t h =
    let h4 = and_parts _ _ h in
    let h3 = and_parts _ _ h4.0 in
    let h2 = and_parts _ _ h3.0 in
    let h1 = and_parts _ _ h2.0 in
    record { u = h1.0; r = h1.1; dmin = h2.1; dmax = h3.1; order = h4.1 }

pub record WindowParts (t : Members) : Type 0 where
  pub l : may_plan (codes "l") 1 1000 t ≡ true
  pub h : may_plan (codes "h") 1 1000 t ≡ true
  pub v : may_plan (codes "v") 1 1000 t ≡ true
  pub z : may_plan (codes "z") 1 1000 t ≡ true
  pub c : may_plan (codes "c") 0 1000 t ≡ true
  pub p : may_plan (codes "p") 0 1000000000 t ≡ true

pub window_parts : (t : Members) → has_windows t ≡ true → WindowParts t
window_parts t h =
    let h5 = and_parts _ _ h in
    let h4 = and_parts _ _ h5.0 in
    let h3 = and_parts _ _ h4.0 in
    let h2 = and_parts _ _ h3.0 in
    let h1 = and_parts _ _ h2.0 in
    record { l = h1.0; h = h1.1; v = h2.1; z = h3.1; c = h4.1; p = h5.1 }

pub record PlanParts (t : Members) : Type 0 where
  pub units : has_units t ≡ true
  pub windows : has_windows t ≡ true
  pub version : has_version t ≡ true
  pub probation : may_have_number (codes "probation") 0 4096 t ≡ true

pub plan_parts : (t : Members) → has_plan t ≡ true → PlanParts t
plan_parts t h =
    let h3 = and_parts _ _ h in
    let h2 = and_parts _ _ h3.0 in
    let h1 = and_parts _ _ h2.0 in
    record { units = h1.0; windows = h1.1; version = h2.1; probation = h3.1 }

pub record BusParts (t : Members) : Type 0 where
  pub sizes : has_sizes t ≡ true
  pub frames : has_number (codes "frames") 1 4096 t ≡ true
  pub plan : has_plan t ≡ true

pub bus_parts : (t : Members) → has_bus t ≡ true → BusParts t
unfolding has_bus
bus_parts t h =
    let h2 = and_parts _ _ h in
    let h1 = and_parts _ _ h2.0 in
    record { sizes = h1.0; frames = h1.1; plan = h2.1 }
