use Rattle.std.proofs.Common.{◌≡◌, ◌∙◌, ap, arith}
use Rattle.rb_base.specs.Nodes.{side_of}
use Rattle.rb_world.proofs.Openings.{all-sites, no-sites-yet, one-site}
use Rattle.rb_world.specs.Buses.{scenario_of}
use Rattle.rb_world.proofs.opening.open_sites.Goals as goal

pub loop-i-init : goal.loop-i-init
loop-i-init g c = no-sites-yet (scenario_of c.args.bus.now) (side_of g.K.Kind.CODE) c.in_ok-sites.sites.items c.in_ok-sites.ensures.items

pub loop-i-preserved : goal.loop-i-preserved
loop-i-preserved g c =
    one-site (scenario_of c.args.bus.now) (side_of g.K.Kind.CODE) c.loop-i.i c.loop-i.sites.items c.add_site.new.sites.items c.new-site.result c.in_ok-add_site.ensures
    (record { number = c.new-site.ensures.number; stands = c.new-site.ensures.stands (scenario_of c.args.bus.now) (ap (λ t. t.sizes) c.plan.ensures) (ap (λ t. t.plan) c.plan.ensures) }) c.loop-i.invariant

pub returns : goal.returns
returns g c =
    let ge = c.loop-i-test.false in
    let le = c.loop-i.auto.i-end in
    let same : c.loop-i.i ≡ c.args.count = omega (arith, ge, le) in
    all-sites (scenario_of c.args.bus.now) (side_of g.K.Kind.CODE) c.loop-i.i c.loop-i.sites.items (same ∙ c.requires) c.loop-i.invariant
