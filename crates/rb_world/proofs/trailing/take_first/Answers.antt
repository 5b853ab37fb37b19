use Rattle.std.proofs.Common.{refl, sym, ◌∙◌, subst}
use Rattle.rb_base.specs.Nodes.Side.{Biu, Rmu}
use Rattle.rb_rules.specs.Book.{Each}
use Rattle.rb_world.specs.{Runs.nodes_of, Sites.KeptSite, Buses.scenario_of}
use Rattle.rb_world.proofs.{Running.{FirstHere, may-same, biu-may, biu-named, biu-taken, first-here, rmu-may, rmu-named, rmu-taken}, ToldOn.alone-moved}
use Rattle.rb_base.specs.declared.node.NodeName.TheVariants as node
use Rattle.rb_world.proofs.trailing.take_first.Goals as goal

pub take_tick-requires : goal.take_tick-requires
take_tick-requires g c =
    let until = c.requires.may.0 in
    let w = c.requires.may.1 in
    let v = c.requires.may.2 in
    let me = c.requires.may.3 in
    let i = c.requires.may.4 in
    let a = c.requires.may.5 in
    let h = c.requires.may.6 in record {
      may = (
        (nodes_of c.args.run.now),
        until,
        w,
        v,
        a,
        may-same c.args.run.now.scene c.first_tick-node.new.self c.first_tick-node.ensures.lanes (biu-may (scenario_of c.args.setup.now.bus.now) (nodes_of c.args.run.now) c.args.run.now.scene until w v me i a c.first_tick-node.result.0 c.first_tick-node.result.1 c.in-Biu.i h (first-here (scenario_of c.args.setup.now.bus.now) (nodes_of c.args.run.now) c.args.run.now.scene until w v me i a c.first_tick-node.result.0 c.first_tick-node.result.1 h c.first_tick-node.ensures.world) c.in-Biu.is),
      );
    }

pub returns-in-Biu : goal.returns-in-Biu
returns-in-Biu g c = record {
  happens = λ until w v me i a h.
      let sc = scenario_of c.args.setup.now.bus.now in
      let here = first-here (scenario_of c.args.setup.now.bus.now) (nodes_of c.args.run.now) c.args.run.now.scene until w v me i a c.first_tick-node.result.0 c.first_tick-node.result.1 h c.first_tick-node.ensures.world in
      let may = may-same c.args.run.now.scene c.first_tick-node.new.self c.first_tick-node.ensures.lanes (biu-may sc (nodes_of c.args.run.now) c.args.run.now.scene until w v me i a c.first_tick-node.result.0 c.first_tick-node.result.1 c.in-Biu.i h here c.in-Biu.is) in
      biu-taken sc c.take_tick.new.scene v me i a (node.Biu c.in-Biu.i) c.first_tick-node.result.1 c.in-Biu.i c.take_tick.new.sites.items c.args.run.now.rmus.items
      (subst (λ n. FirstHere sc me i a n c.first_tick-node.result.1) c.in-Biu.is here) refl (c.take_tick.ensures.takes (nodes_of c.args.run.now) until w v a may);
  told = λ name is until w v me i a h.
      let sc = scenario_of c.args.setup.now.bus.now in
      let kept : Each KeptSite = nodes_of c.args.run.now in
      let here = first-here sc kept c.args.run.now.scene until w v me i a c.first_tick-node.result.0 c.first_tick-node.result.1 h c.first_tick-node.ensures.world in
      let may = may-same c.args.run.now.scene c.first_tick-node.new.self c.first_tick-node.ensures.lanes (biu-may sc kept c.args.run.now.scene until w v me i a c.first_tick-node.result.0 c.first_tick-node.result.1 c.in-Biu.i h here c.in-Biu.is) in
      alone-moved _ g.T.Observer.observes c.args.observer.now c.take_tick.new.observer sc v me Biu i c.in-Biu.i a name (biu-named me i c.in-Biu.i (sym here.named ∙ c.in-Biu.is))
      (c.take_tick.ensures.told name is kept until w v a may);
}

pub take_tick-requires-in-Rmu : goal.take_tick-requires-in-Rmu
take_tick-requires-in-Rmu g c =
    let until = c.requires.may.0 in
    let w = c.requires.may.1 in
    let v = c.requires.may.2 in
    let me = c.requires.may.3 in
    let i = c.requires.may.4 in
    let a = c.requires.may.5 in
    let h = c.requires.may.6 in record {
      may = (
        (nodes_of c.args.run.now),
        until,
        w,
        v,
        a,
        may-same c.args.run.now.scene c.first_tick-node.new.self c.first_tick-node.ensures.lanes (rmu-may (scenario_of c.args.setup.now.bus.now) (nodes_of c.args.run.now) c.args.run.now.scene until w v me i a c.first_tick-node.result.0 c.first_tick-node.result.1 c.in-Rmu.i h (first-here (scenario_of c.args.setup.now.bus.now) (nodes_of c.args.run.now) c.args.run.now.scene until w v me i a c.first_tick-node.result.0 c.first_tick-node.result.1 h c.first_tick-node.ensures.world) c.in-Rmu.is),
      );
    }

pub returns-in-Rmu : goal.returns-in-Rmu
returns-in-Rmu g c = record {
  happens = λ until w v me i a h.
      let sc = scenario_of c.args.setup.now.bus.now in
      let here = first-here (scenario_of c.args.setup.now.bus.now) (nodes_of c.args.run.now) c.args.run.now.scene until w v me i a c.first_tick-node.result.0 c.first_tick-node.result.1 h c.first_tick-node.ensures.world in
      let may = may-same c.args.run.now.scene c.first_tick-node.new.self c.first_tick-node.ensures.lanes (rmu-may sc (nodes_of c.args.run.now) c.args.run.now.scene until w v me i a c.first_tick-node.result.0 c.first_tick-node.result.1 c.in-Rmu.i h here c.in-Rmu.is) in
      rmu-taken sc c.take_tick-in-Rmu.new.scene v me i a (node.Rmu c.in-Rmu.i) c.first_tick-node.result.1 c.in-Rmu.i c.args.run.now.bius.items c.take_tick-in-Rmu.new.sites.items
      (subst (λ n. FirstHere sc me i a n c.first_tick-node.result.1) c.in-Rmu.is here) refl (c.take_tick-in-Rmu.ensures.takes (nodes_of c.args.run.now) until w v a may);
  told = λ name is until w v me i a h.
      let sc = scenario_of c.args.setup.now.bus.now in
      let kept : Each KeptSite = nodes_of c.args.run.now in
      let here = first-here sc kept c.args.run.now.scene until w v me i a c.first_tick-node.result.0 c.first_tick-node.result.1 h c.first_tick-node.ensures.world in
      let may = may-same c.args.run.now.scene c.first_tick-node.new.self c.first_tick-node.ensures.lanes (rmu-may sc kept c.args.run.now.scene until w v me i a c.first_tick-node.result.0 c.first_tick-node.result.1 c.in-Rmu.i h here c.in-Rmu.is) in
      alone-moved _ g.T.Observer.observes c.args.observer.now c.take_tick-in-Rmu.new.observer sc v me Rmu i c.in-Rmu.i a name (rmu-named me i c.in-Rmu.i (sym here.named ∙ c.in-Rmu.is))
      (c.take_tick-in-Rmu.ensures.told name is kept until w v a may);
}
