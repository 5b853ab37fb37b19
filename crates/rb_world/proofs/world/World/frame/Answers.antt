use Rattle.std.proofs.Common.{◌≡◌, get_or, sym, ap, ◌∙◌, subst, arith}
use Rattle.rb_base.specs.Nodes.Side.{Biu, Rmu}
use Rattle.rb_rules.specs.Lawful.{IsNodeOf}
use Rattle.rb_node.specs.Cores.{Running}
use Rattle.rb_slot.specs.Engines.{Seated}
use Rattle.rb_world.specs.{Kept.kept_of, Worlds.{KeptWorld, Stands}}
use Rattle.rb_world.proofs.Asked.{frame-named, node-within}
use Rattle.rb_world.proofs.world.World.frame.Goals as goal

pub index-requires : goal.index-requires
index-requires c =
    let k : KeptWorld = kept_of c.self.inside in
    let node : IsNodeOf k.bus.sizes c.args.node = subst (λ (k : KeptWorld). IsNodeOf k.bus.sizes c.args.node) (sym c.self.view_is) c.requires.node in
    let within = node-within k c.self.invariant.0 c.args.node Biu c.in-Biu.i c.self.invariant.1 node c.in-Biu.is in
    omega (arith, within, c.from.ensures)

pub index-requires-in-Rmu : goal.index-requires-in-Rmu
index-requires-in-Rmu c =
    let k : KeptWorld = kept_of c.self.inside in
    let node : IsNodeOf k.bus.sizes c.args.node = subst (λ (k : KeptWorld). IsNodeOf k.bus.sizes c.args.node) (sym c.self.view_is) c.requires.node in
    let within = node-within k c.self.invariant.0 c.args.node Rmu c.in-Rmu.i c.self.invariant.1 node c.in-Rmu.is in
    omega (arith, within, c.from-in-Rmu.ensures)

pub returns-in-Biu : goal.returns-in-Biu
returns-in-Biu c = record {
  world = λ w stands s there.
      let k : KeptWorld = kept_of c.self.inside in
      let node : IsNodeOf k.bus.sizes c.args.node = subst (λ (k : KeptWorld). IsNodeOf k.bus.sizes c.args.node) (sym c.self.view_is) c.requires.node in
      let is : Stands k w = subst (λ (k : KeptWorld). Stands k w) (sym c.self.view_is) stands in
      let site_is : c.index.result.now ≡ get_or c.self.inside.run.bius.items c.in-Biu.i c.index.result.now =
      c.index.ensures ∙ ap (λ n. get_or c.self.inside.run.bius.items n c.index.result.now) c.from.ensures in
      let frame_is : c.frame.result ≡ c.index.result.now.node.seat.state.frame =
      c.frame.ensures ∙ ap (λ (e : Seated). e.state.frame) (c.engine.ensures ∙ ap (λ (n : Running). n.seat) c.node.ensures) in
      frame-named k w c.args.node Biu c.in-Biu.i c.frame.result c.index.result.now s is node c.in-Biu.is site_is frame_is there;
}

pub returns-in-Rmu : goal.returns-in-Rmu
returns-in-Rmu c = record {
  world = λ w stands s there.
      let k : KeptWorld = kept_of c.self.inside in
      let node : IsNodeOf k.bus.sizes c.args.node = subst (λ (k : KeptWorld). IsNodeOf k.bus.sizes c.args.node) (sym c.self.view_is) c.requires.node in
      let is : Stands k w = subst (λ (k : KeptWorld). Stands k w) (sym c.self.view_is) stands in
      let site_is : c.index-in-Rmu.result.now ≡ get_or c.self.inside.run.rmus.items c.in-Rmu.i c.index-in-Rmu.result.now =
      c.index-in-Rmu.ensures ∙ ap (λ n. get_or c.self.inside.run.rmus.items n c.index-in-Rmu.result.now) c.from-in-Rmu.ensures in
      let frame_is : c.frame-in-Rmu.result ≡ c.index-in-Rmu.result.now.node.seat.state.frame =
      c.frame-in-Rmu.ensures ∙ ap (λ (e : Seated). e.state.frame) (c.engine-in-Rmu.ensures ∙ ap (λ (n : Running). n.seat) c.node-in-Rmu.ensures) in
      frame-named k w c.args.node Rmu c.in-Rmu.i c.frame-in-Rmu.result c.index-in-Rmu.result.now s is node c.in-Rmu.is site_is frame_is there;
}
