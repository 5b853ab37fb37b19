use Rattle.std.proofs.Common.{◌≡◌, ◌<◌, ◌^◌, ap, arith}
use Rattle.rb_slot.specs.Engines.{Seated}
use Rattle.rb_listen.proofs.Steps.{none-known}
use Rattle.rb_listen.proofs.follower.Follower.new.Goals as goal

pub invariant_of-result : goal.invariant_of-result
invariant_of-result c =
    let epoch : c.passive-engine.result.state.epoch ≡ c.args.epoch = ap (λ (v : Seated). v.state.epoch) c.passive-engine.ensures in
    let frame : c.passive-engine.result.state.frame ≡ c.args.frame = ap (λ (v : Seated). v.state.frame) c.passive-engine.ensures in
    let few : c.args.frame < 65536 = c.requires.frame in
    let soon : c.args.epoch < 2 ^ 31 = c.requires.epoch in
    record {
      most = omega arith;
      index = ap (λ (v : Seated). v.index) c.passive-engine.ensures;
      epoch = omega arith;
      frame = omega arith;
      known = none-known c.passive-engine.result c.args.epoch c.passive-engine.result.state.k2 (ap (λ (v : Seated). v.state.k2) c.passive-engine.ensures);
      stamps = c.new.ensures.stamps (2 ^ 32);
      ahead = c.look_ahead-ahead.ensures;
    }

pub look_ahead-ahead-requires-clause-epoch : goal.look_ahead-ahead-requires-clause-epoch
look_ahead-ahead-requires-clause-epoch c =
    let epoch : c.passive-engine.result.state.epoch ≡ c.args.epoch = ap (λ (v : Seated). v.state.epoch) c.passive-engine.ensures in
    omega arith
