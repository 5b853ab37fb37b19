use Rattle.std.proofs.Common.{◌<◌, ◌≤◌, ◌^◌, sym, subst, ap, arith}
use Rattle.rb_base.specs.{Nodes.side_of, Sizes.IsShape}
use Rattle.rb_rules.specs.Slots.{count_of}
use Rattle.rb_slot.specs.Engines.{Seated}
use Rattle.rb_node.proofs.Acting.{few-nodes}
use Rattle.rb_node.proofs.node.Node.new.Goals as goal

pub invariant_of-result : goal.invariant_of-result
invariant_of-result g c =
    let me = side_of g.K.Kind.CODE in
    let shape : IsShape c.args.plan.now.sizes = subst IsShape (ap (λ (v : Seated). v.sizes) c.new-engine.ensures) c.bounds.ensures.shape in
    let few : count_of me c.args.plan.now.sizes ≤ 16 = few-nodes me c.args.plan.now.sizes shape in
    let there : c.args.index < count_of me c.args.plan.now.sizes = c.requires in
    record {
      most = omega arith;
      index = subst (λ (v : Seated). v.index < 16) (sym c.new-engine.ensures) (omega arith);
      frame = subst (λ (v : Seated). v.state.frame ≤ 0) (sym c.new-engine.ensures) (omega arith);
      epoch = subst (λ (v : Seated). v.state.epoch ≤ 0) (sym c.new-engine.ensures) (omega arith);
      stamps = c.new.ensures.stamps (2 ^ 32);
      ahead = c.look_ahead.ensures;
    }
