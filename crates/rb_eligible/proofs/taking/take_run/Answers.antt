use Rattle.std.proofs.{Common.{◌≡◌, true, false, ◌&&◌, ◌==◌, not, refl, ◌∙◌, ap, arith}, Math.ListN.length-set}
use Rattle.rb_base.specs.Nodes.{has, size}
use Rattle.rb_base.proofs.{Plain.eq_self, Sets.has-is, SetSizes.size_less}
use Rattle.rb_eligible.specs.Inboxes.{sole_at}
use Rattle.rb_eligible.proofs.Runs.{run_fewer, run_next, run_none}
use Rattle.rb_eligible.proofs.taking.take_run.Goals as goal

pub loop-source-init : goal.loop-source-init
loop-source-init g c =
    let kept = c.args.inbox.now in
    let left = c.args.left in
    let k = c.args.first in
    let after = c.remove.new.self in
    let v = c.args.value in
    let below = c.put.ensures.small in
    let taken = c.args.taken.now in
    rw c.put.ensures.taken (record {
      all = length-set taken k v ∙ c.requires.all;
      passed =
          has-is after k (λ i. has left i && not (i == k)) c.remove.ensures below ∙ ap (λ b. has left k && not b) (eq_self k)
          ∙ elim (has left k) as (λ b. (b && false) ≡ false) [ true ↦ refl | false ↦ refl ];
      run = run_next kept left left after k (sole_at kept.soles k) v taken taken below c.requires.all c.requires.inside c.remove.ensures refl refl (run_none kept left (sole_at kept.soles k) v taken);
    })

pub loop-source-smaller : goal.loop-source-smaller
loop-source-smaller g c =
    let fewer = size_less c.loop-source.rest c.in-Some.source c.put-in-Some.ensures.small c.in-Some.ensures.first in
    omega (arith, fewer, ap size c.remove-in-Some.ensures)

pub loop-source-preserved : goal.loop-source-preserved
loop-source-preserved g c =
    let kept = c.args.inbox.now in
    let k = c.in-Some.source in
    let rest = c.loop-source.rest in
    let after = c.remove-in-Some.new.self in
    let v = c.args.value in
    let below = c.put-in-Some.ensures.small in
    let taken = c.loop-source.taken in
    let inv = c.loop-source.invariant in
    rw c.put-in-Some.ensures.taken (record {
      all = length-set taken k v ∙ inv.all;
      passed =
          has-is after c.args.first (λ i. has rest i && not (i == k)) c.remove-in-Some.ensures c.put.ensures.small
          ∙ ap (λ b. b && not (c.args.first == k)) inv.passed;
      run = run_next kept c.args.left rest after k (sole_at kept.soles c.args.first) v c.args.taken.now taken below inv.all c.in-Some.ensures.first c.remove-in-Some.ensures
          (rw (c.sole_at-sole.ensures.value, c.sole_at.ensures.value) at c.if-sole-low.false) (rw (c.sole_at-sole.ensures.value, c.sole_at.ensures.value) at c.if-sole-tail.false) inv.run;
    })

pub returns-then-sole-low-clause-run : goal.returns-then-sole-low-clause-run
returns-then-sole-low-clause-run g c = c.loop-source.invariant.run

pub returns-then-sole-low-clause-fewer : goal.returns-then-sole-low-clause-fewer
returns-then-sole-low-clause-fewer g c =
    let inv = c.loop-source.invariant in
    run_fewer c.args.left c.loop-source.rest c.args.first c.put.ensures.small c.requires.inside inv.passed inv.run.within

pub returns-then-sole-low-clause-all : goal.returns-then-sole-low-clause-all
returns-then-sole-low-clause-all g c = c.loop-source.invariant.all

pub returns-clause-run : goal.returns-clause-run
returns-clause-run g c = c.loop-source.invariant.run

pub returns-clause-fewer : goal.returns-clause-fewer
returns-clause-fewer g c =
    let inv = c.loop-source.invariant in
    run_fewer c.args.left c.loop-source.rest c.args.first c.put.ensures.small c.requires.inside inv.passed inv.run.within

pub returns-clause-all : goal.returns-clause-all
returns-clause-all g c = c.loop-source.invariant.all
