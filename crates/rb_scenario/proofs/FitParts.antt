-- The parts of what is tested over a document whose bus is known.
use Rattle.std.proofs.{Common.{◌≡◌, true, codes}, lemmas.Bool.and_parts}
use Rattle.std.specs.List.{list_all}
use Rattle.toml.specs.Data.{Members}
use Rattle.rb_scenario_document.specs.{Values.may_have_number, Walk.entries_at}
use Rattle.rb_scenario_entries.specs.{declared.bus.Bus.Bus, Clocks.is_clock, Faults.is_fault, Links.is_link, Says.is_say}
use Rattle.rb_scenario.specs.{Hosts.has_lists, Reading.fits_bus}

pub record FitParts (bus : Bus) (t : Members) : Type 0 where
  pub lists : has_lists bus.shape.bius t ≡ true
  pub delay : may_have_number (codes "delay") 1 1000000000 t ≡ true
  pub clocks : list_all (is_clock bus.shape) (entries_at (codes "clock") t) ≡ true
  pub links : list_all (is_link bus) (entries_at (codes "link") t) ≡ true
  pub faults : list_all (is_fault bus) (entries_at (codes "fault") t) ≡ true
  pub says : list_all (is_say bus) (entries_at (codes "say") t) ≡ true

pub fit_parts : (bus : Bus) (t : Members) → fits_bus bus t ≡ true → FitParts bus t
unfolding fits_bus
fit_parts bus t h =
    let h5 = and_parts _ _ h in
    let h4 = and_parts _ _ h5.0 in
    let h3 = and_parts _ _ h4.0 in
    let h2 = and_parts _ _ h3.0 in
    let h1 = and_parts _ _ h2.0 in
    record {
      lists = h1.0;
      delay = h1.1;
      clocks = (and_parts _ _ h2.1).0;
      links = h3.1;
      faults = (and_parts _ _ h4.1).0;
      says = h5.1;
    }
