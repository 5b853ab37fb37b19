use Rattle.std.proofs.Common.{◌≡◌, ◌<◌, true, false, refl, sym, ◌∙◌, subst}
use Rattle.rb_base.specs.Nodes.Side.{Biu}
use Rattle.rb_rules.specs.{Goodness.is_good, WorldStep.{World as RunWorld, hand}}
use Rattle.rb_laws_events.proofs.WorldBooks.{hand-book}
use Rattle.rb_world.specs.{Kept.kept_of, declared.scene.Scene.Scene, Worlds.{KeptWorld, Stands}}
use Rattle.rb_world.proofs.Handed.{good-within, hand-at-good, hand-at-other, hand-elsewhere, surrounds-handed}
use Rattle.rb_world.proofs.world.World.hand.Goals as goal

pub returns-in_default : goal.returns-in_default
returns-in_default c =
    let k : KeptWorld = kept_of c.self.inside in
    record {
      world = subst (λ (x : KeptWorld). (w : RunWorld) → Stands x w → Stands x (hand x.bus w c.args.biu c.args.state)) c.self.view_is (λ w is.
          hand-elsewhere k w c.args.biu c.args.state is c.in_default.not-Frame);
      bus = refl;
      seeding = refl;
      rounds = λ w is. hand-book c.args.self.now.bus w c.args.biu c.args.state;
    }

pub set_state-requires : goal.set_state-requires
set_state-requires c =
    let k : KeptWorld = kept_of c.self.inside in
    let good : is_good k.bus Biu c.args.biu c.in-Frame.frame 0 ≡ true = sym c.is_good_at_begin.ensures ∙ c.if-is_good_at_begin.true in
    subst (λ n. c.args.biu < n) (sym c.self.invariant.1.scene.ports.many) (good-within k.bus c.args.biu c.in-Frame.frame 0 good)

pub invariant_of-self : goal.invariant_of-self
invariant_of-self c =
    let k : KeptWorld = kept_of c.self.inside in
    let scene : Scene = record k.scene { ports = c.set_state.new.ports } in
    let good : is_good k.bus Biu c.args.biu c.in-Frame.frame 0 ≡ true = sym c.is_good_at_begin.ensures ∙ c.if-is_good_at_begin.true in
    let w : RunWorld = c.self.invariant.0 in
    let is : Stands k w = c.self.invariant.1 in (
      hand k.bus w c.args.biu c.args.state,
      hand-at-good k scene w c.args.biu c.args.state c.in-Frame.frame is c.in-Frame.is good
          (surrounds-handed k.bus k.scene scene w c.args.biu c.args.state c.in-Frame.frame is.scene refl refl refl refl (c.set_state.ensures k.bus w.ports is.scene.ports)),
    )

pub returns-then-is_good_at_begin-clause-world : goal.returns-then-is_good_at_begin-clause-world
returns-then-is_good_at_begin-clause-world c =
    let k : KeptWorld = kept_of c.self.inside in
    let scene : Scene = record k.scene { ports = c.set_state.new.ports } in
    let good : is_good k.bus Biu c.args.biu c.in-Frame.frame 0 ≡ true = sym c.is_good_at_begin.ensures ∙ c.if-is_good_at_begin.true in
    subst (λ (x : KeptWorld). (w : RunWorld) → Stands x w → Stands (record k { scene = scene }) (hand x.bus w c.args.biu c.args.state)) c.self.view_is (λ w is.
    hand-at-good k scene w c.args.biu c.args.state c.in-Frame.frame is c.in-Frame.is good
    (surrounds-handed k.bus k.scene scene w c.args.biu c.args.state c.in-Frame.frame is.scene refl refl refl refl (c.set_state.ensures k.bus w.ports is.scene.ports)))

pub returns-else-is_good_at_begin-clause-world : goal.returns-else-is_good_at_begin-clause-world
returns-else-is_good_at_begin-clause-world c =
    let k : KeptWorld = kept_of c.self.inside in
    let bad : is_good k.bus Biu c.args.biu c.in-Frame.frame 0 ≡ false = sym c.is_good_at_begin.ensures ∙ c.if-is_good_at_begin.false in
    subst (λ (x : KeptWorld). (w : RunWorld) → Stands x w → Stands x (hand x.bus w c.args.biu c.args.state)) c.self.view_is (λ w is.
    hand-at-other k w c.args.biu c.args.state c.in-Frame.frame is c.in-Frame.is bad)

pub returns-then-is_good_at_begin-clause-rounds : goal.returns-then-is_good_at_begin-clause-rounds
returns-then-is_good_at_begin-clause-rounds c = λ w is. hand-book c.args.self.now.bus w c.args.biu c.args.state

pub returns-else-is_good_at_begin-clause-rounds : goal.returns-else-is_good_at_begin-clause-rounds
returns-else-is_good_at_begin-clause-rounds c = λ w is. hand-book c.args.self.now.bus w c.args.biu c.args.state
