-- Pass after pass, until one gives no slot.
use Rattle.std.proofs.Common.{◌≡◌, ◌∙◌, sym, ap, arith}
use Rattle.rb_rules.specs.Owners.{owners_in_pass}
use Rattle.rb_rules.proofs.Passes.{enough_passes}
use Rattle.rb_schedule.proofs.Passes.{granted, granted_none, granted_more, granted_all, granted_fits}
use Rattle.rb_schedule.proofs.owners_of.Goals as goal

pub loop-pass-init : goal.loop-pass-init
loop-pass-init c = c.none-owners.ensures ∙ granted_none c.args.shape.now.data_slots (owners_in_pass c.args.shape.now c.args.trusted c.args.requests.now)

pub add_pass-requires : goal.add_pass-requires
add_pass-requires c = granted_fits c.args.shape.now.data_slots _ c.loop-pass.pass c.loop-pass.owners c.loop-pass.invariant

pub returns-then-count-before-clause-owners : goal.returns-then-count-before-clause-owners
returns-then-count-before-clause-owners c =
    granted_all c.args.shape.now c.args.trusted c.args.requests.now c.loop-pass.pass c.loop-pass.owners c.add_pass.new.owners
    (omega arith) c.loop-pass.invariant c.add_pass.ensures (omega arith)

pub returns-then-count-before-clause-passes : goal.returns-then-count-before-clause-passes
returns-then-count-before-clause-passes c = λ passes enough.
    returns-then-count-before-clause-owners c ∙ sym (enough_passes c.args.shape.now c.args.trusted c.args.requests.now passes enough)

pub loop-pass-preserved : goal.loop-pass-preserved
loop-pass-preserved c =
    c.add_pass.ensures ∙ granted_more c.args.shape.now.data_slots (owners_in_pass c.args.shape.now c.args.trusted c.args.requests.now) c.loop-pass.pass c.loop-pass.owners c.loop-pass.invariant

pub returns-clause-owners : goal.returns-clause-owners
returns-clause-owners c =
    c.loop-pass.invariant
    ∙ ap (granted c.args.shape.now.data_slots (owners_in_pass c.args.shape.now c.args.trusted c.args.requests.now)) (let e : c.loop-pass.pass ≡ c.args.shape.now.data_slots = omega arith in e)

pub returns-clause-passes : goal.returns-clause-passes
returns-clause-passes c = λ passes enough.
    returns-clause-owners c ∙ sym (enough_passes c.args.shape.now c.args.trusted c.args.requests.now passes enough)
