use Rattle.std.proofs.{Common.{◌≡◌, ◌<◌, sym, ap, ◌∙◌, subst, arith}, lemmas.Option.get_or_from_slice_get}
use Rattle.std.specs.Prelude.{Some, get_or}
use Rattle.rb_base.specs.Nodes.Side.{Biu, Rmu}
use Rattle.rb_rules.specs.WorldStep.{World as RunWorld, event_at}
use Rattle.rb_world.specs.{Kept.kept_of, Worlds.{KeptWorld, Stands, due_in}}
use Rattle.rb_world.proofs.Showing.{event-shown, may-show, show-ready}
use Rattle.rb_world.proofs.world.World.event.Goals as goal

pub show-requires : goal.show-requires
show-requires g c =
    let k : KeptWorld = kept_of c.self.inside in
    let below : c.args.i < due_in k = subst (λ (k : KeptWorld). c.args.i < due_in k) (sym c.self.view_is) c.requires.below in
    let w : RunWorld = c.self.invariant.0 in
    let is : Stands k w = c.self.invariant.1 in
    let r = show-ready k w c.args.i c.locate-node.result.1 Biu c.in-Biu.k c.locate-node.result.0 c.event-event.result is below c.locate-node.ensures.stands
    (c.locate-node.ensures.world k.bus w is.scene.lanes) c.event-event.ensures.value c.in-Biu.is in
    let site_is : r.site ≡ c.index.result.now =
    sym (c.index.ensures ∙ ap (λ n. get_or c.self.inside.run.bius.items n c.index.result.now) c.from.ensures ∙ get_or_from_slice_get c.self.inside.run.bius.items c.in-Biu.k r.site c.index.result.now r.kept_there) in
    record {
      may = (
        r.waits,
        w.ports,
        r.s,
        may-show k w c.args.i Biu c.in-Biu.k c.first_time-time.result c.event-event.result c.index.result.now c.deref.result.now r site_is
            c.deref.ensures.value c.first_time-time.ensures.value,
      );
    }

pub index-requires-in-Rmu : goal.index-requires-in-Rmu
index-requires-in-Rmu g c =
    let k : KeptWorld = kept_of c.self.inside in
    let below : c.args.i < due_in k = subst (λ (k : KeptWorld). c.args.i < due_in k) (sym c.self.view_is) c.requires.below in
    let w : RunWorld = c.self.invariant.0 in
    let is : Stands k w = c.self.invariant.1 in
    let r = show-ready k w c.args.i c.locate-node.result.1 Rmu c.in-Rmu.k c.locate-node.result.0 c.event-event.result is below c.locate-node.ensures.stands
    (c.locate-node.ensures.world k.bus w is.scene.lanes) c.event-event.ensures.value c.in-Rmu.is in
    omega (arith, r.inside, c.from-in-Rmu.ensures)

pub show-requires-in-Rmu : goal.show-requires-in-Rmu
show-requires-in-Rmu g c =
    let k : KeptWorld = kept_of c.self.inside in
    let below : c.args.i < due_in k = subst (λ (k : KeptWorld). c.args.i < due_in k) (sym c.self.view_is) c.requires.below in
    let w : RunWorld = c.self.invariant.0 in
    let is : Stands k w = c.self.invariant.1 in
    let r = show-ready k w c.args.i c.locate-node.result.1 Rmu c.in-Rmu.k c.locate-node.result.0 c.event-event.result is below c.locate-node.ensures.stands
    (c.locate-node.ensures.world k.bus w is.scene.lanes) c.event-event.ensures.value c.in-Rmu.is in
    let site_is : r.site ≡ c.index-in-Rmu.result.now =
    sym (c.index-in-Rmu.ensures ∙ ap (λ n. get_or c.self.inside.run.rmus.items n c.index-in-Rmu.result.now) c.from-in-Rmu.ensures ∙ get_or_from_slice_get c.self.inside.run.rmus.items c.in-Rmu.k r.site c.index-in-Rmu.result.now r.kept_there) in
    record {
      may = (
        r.waits,
        w.ports,
        r.s,
        may-show k w c.args.i Rmu c.in-Rmu.k c.first_time-time.result c.event-event.result c.index-in-Rmu.result.now c.deref-in-Rmu.result.now r site_is
            c.deref-in-Rmu.ensures.value c.first_time-time.ensures.value,
      );
    }

pub returns-in-Biu : goal.returns-in-Biu
returns-in-Biu g c = record {
  world = λ w stands.
      let k : KeptWorld = kept_of c.self.inside in
      let below : c.args.i < due_in k = subst (λ (k : KeptWorld). c.args.i < due_in k) (sym c.self.view_is) c.requires.below in
      let is : Stands k w = subst (λ (k : KeptWorld). Stands k w) (sym c.self.view_is) stands in
      let r = show-ready k w c.args.i c.locate-node.result.1 Biu c.in-Biu.k c.locate-node.result.0 c.event-event.result is below c.locate-node.ensures.stands
      (c.locate-node.ensures.world k.bus w is.scene.lanes) c.event-event.ensures.value c.in-Biu.is in
      let site_is : r.site ≡ c.index.result.now =
      sym (c.index.ensures ∙ ap (λ n. get_or c.self.inside.run.bius.items n c.index.result.now) c.from.ensures ∙ get_or_from_slice_get c.self.inside.run.bius.items c.in-Biu.k r.site c.index.result.now r.kept_there) in
      subst (λ (k : KeptWorld). event_at k.bus w c.args.i ≡ Some c.show.result) c.self.view_is
      (event-shown k w c.args.i Biu c.in-Biu.k c.event-event.result c.show.result c.index.result.now r site_is
      (c.show.ensures r.waits w.ports r.s (may-show k w c.args.i Biu c.in-Biu.k c.first_time-time.result c.event-event.result c.index.result.now c.deref.result.now r site_is
      c.deref.ensures.value c.first_time-time.ensures.value)));
}

pub returns-in-Rmu : goal.returns-in-Rmu
returns-in-Rmu g c = record {
  world = λ w stands.
      let k : KeptWorld = kept_of c.self.inside in
      let below : c.args.i < due_in k = subst (λ (k : KeptWorld). c.args.i < due_in k) (sym c.self.view_is) c.requires.below in
      let is : Stands k w = subst (λ (k : KeptWorld). Stands k w) (sym c.self.view_is) stands in
      let r = show-ready k w c.args.i c.locate-node.result.1 Rmu c.in-Rmu.k c.locate-node.result.0 c.event-event.result is below c.locate-node.ensures.stands
      (c.locate-node.ensures.world k.bus w is.scene.lanes) c.event-event.ensures.value c.in-Rmu.is in
      let site_is : r.site ≡ c.index-in-Rmu.result.now =
      sym (c.index-in-Rmu.ensures ∙ ap (λ n. get_or c.self.inside.run.rmus.items n c.index-in-Rmu.result.now) c.from-in-Rmu.ensures ∙ get_or_from_slice_get c.self.inside.run.rmus.items c.in-Rmu.k r.site c.index-in-Rmu.result.now r.kept_there) in
      subst (λ (k : KeptWorld). event_at k.bus w c.args.i ≡ Some c.show-in-Rmu.result) c.self.view_is
      (event-shown k w c.args.i Rmu c.in-Rmu.k c.event-event.result c.show-in-Rmu.result c.index-in-Rmu.result.now r site_is
      (c.show-in-Rmu.ensures r.waits w.ports r.s (may-show k w c.args.i Rmu c.in-Rmu.k c.first_time-time.result c.event-event.result c.index-in-Rmu.result.now c.deref-in-Rmu.result.now r site_is
      c.deref-in-Rmu.ensures.value c.first_time-time.ensures.value)));
}
