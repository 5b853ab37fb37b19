use Rattle.std.proofs.Common.{◌∙◌, ap, refl, subst, sym}
use Rattle.rb_base.specs.Sizes.{Sizes}
use Rattle.rb_rules.specs.{Entries.IsListed, Goodness.Scenario, Lawful.IsLawful, WorldStep.first_world}
use Rattle.rb_world.specs.{Openings.before_all, Worlds.Stands, Buses.scenario_of}
use Rattle.rb_world.proofs.FirstStands.{bius-may, opened, rmus-next}
use Rattle.rb_world.specs.declared.last.Last.TheVariants as last
use Rattle.rb_world.proofs.world.World.open.Goals as goal

pub begin_all-requires-clause-may : goal.begin_all-requires-clause-may
begin_all-requires-clause-may c = (
  before_all (scenario_of c.in_ok-bus.bus),
  bius-may (scenario_of c.in_ok-bus.bus) c.in_ok-scene.scene (subst IsLawful (sym c.in_ok-bus.ensures) c.requires.lawful) (subst IsListed (sym c.in_ok-bus.ensures) c.requires.listed)
      c.in_ok-scene.ensures,
)

pub begin_all-requires-2-clause-may : goal.begin_all-requires-2-clause-may
begin_all-requires-2-clause-may c =
    let lawful = subst IsLawful (sym c.in_ok-bus.ensures) c.requires.lawful in
    let listed = subst IsListed (sym c.in_ok-bus.ensures) c.requires.listed in
    rmus-next (scenario_of c.in_ok-bus.bus) c.begin_all.new.sites.items c.begin_all.new.scene c.biu-2.result lawful listed
    (c.begin_all.ensures (before_all (scenario_of c.in_ok-bus.bus)) (bius-may (scenario_of c.in_ok-bus.bus) c.in_ok-scene.scene lawful listed c.in_ok-scene.ensures))

pub invariant_of-result : goal.invariant_of-result
invariant_of-result c =
    let lawful = subst IsLawful (sym c.in_ok-bus.ensures) c.requires.lawful in
    let listed = subst IsListed (sym c.in_ok-bus.ensures) c.requires.listed in (
      first_world (scenario_of c.in_ok-bus.bus),
      opened (scenario_of c.in_ok-bus.bus) refl c.begin_all.new.sites.items c.begin_all-2.new.sites.items c.begin_all.new.scene c.begin_all-2.new.scene c.new-2.result c.biu-2.result c.rmu-2.result lawful listed
          (c.biu-2.ensures.value ∙ ap (λ (s : Sizes). s.bius) c.shape-3.ensures) (c.rmu-2.ensures.value ∙ ap (λ (s : Sizes). s.rmus) c.shape-4.ensures)
          (c.begin_all.ensures (before_all (scenario_of c.in_ok-bus.bus)) (bius-may (scenario_of c.in_ok-bus.bus) c.in_ok-scene.scene lawful listed c.in_ok-scene.ensures)) c.begin_all-2.ensures,
    )

pub returns-clause-stands : goal.returns-clause-stands
returns-clause-stands c =
    let lawful = subst IsLawful (sym c.in_ok-bus.ensures) c.requires.lawful in
    let listed = subst IsListed (sym c.in_ok-bus.ensures) c.requires.listed in
    subst (λ (sc : Scenario). Stands (record {
      bus = scenario_of c.in_ok-bus.bus;
      lists = refl;
      nodes = record { bius = c.begin_all.new.sites.items; rmus = c.begin_all-2.new.sites.items };
      scene = c.begin_all-2.new.scene;
      seeding = c.new-2.result;
      last = last.Quiet;
    }) (first_world sc)) c.in_ok-bus.ensures
    (opened (scenario_of c.in_ok-bus.bus) refl c.begin_all.new.sites.items c.begin_all-2.new.sites.items c.begin_all.new.scene c.begin_all-2.new.scene c.new-2.result c.biu-2.result c.rmu-2.result lawful listed
    (c.biu-2.ensures.value ∙ ap (λ (s : Sizes). s.bius) c.shape-3.ensures) (c.rmu-2.ensures.value ∙ ap (λ (s : Sizes). s.rmus) c.shape-4.ensures)
    (c.begin_all.ensures (before_all (scenario_of c.in_ok-bus.bus)) (bius-may (scenario_of c.in_ok-bus.bus) c.in_ok-scene.scene lawful listed c.in_ok-scene.ensures)) c.begin_all-2.ensures)
