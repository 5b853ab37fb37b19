use Rattle.std.proofs.Common.{arith, sym, ◌∙◌}
use Rattle.rb_listen.proofs.Passing.{found, none-found}
use Rattle.rb_listen.proofs.passes.pass_of.Goals as goal

pub returns-then-begins_pass : goal.returns-then-begins_pass
returns-then-begins_pass c =
    c.frame_in.ensures
    ∙ found c.args.plan.now.sizes c.args.plan.now.plan c.args.newest.now c.loop-j.j c.newest_of-call.result
    (let all = c.told-newest in omega arith) c.loop-j.invariant c.newest_of-call.ensures (sym c.begins_pass.ensures ∙ c.if-begins_pass.true)

pub returns : goal.returns
returns c = none-found c.args.plan.now.sizes c.args.plan.now.plan c.args.newest.now c.loop-j.j (let all = c.told-newest in omega arith) c.loop-j.invariant
