use Rattle.std.proofs.Common.{◌≡◌, ◌&&◌, sym, ◌∙◌, ap, arith}
use Rattle.rb_base.specs.Nodes.{has}
use Rattle.rb_base.proofs.Sets.{has_none, is_set_of}
use Rattle.rb_rules.specs.Sense.{is_one}
use Rattle.rb_eligible.specs.Inboxes.{sense_in}
use Rattle.rb_eligible.proofs.taking.ones_barred.Goals as goal

pub returns-then-is_empty : goal.returns-then-is_empty
returns-then-is_empty g c = λ received shown.
    let none : c.args.barred ≡ 0 = c.is_empty.ensures.0 c.if-is_empty.true in
    none
    ∙ is_set_of 0 (λ j. has c.args.barred j && is_one (sense_in c.args.expect.now received j)) (omega arith)
    (λ j h. has_none j ∙ sym (ap (λ s. has s j && is_one (sense_in c.args.expect.now received j)) none ∙ ap (λ b. b && is_one (sense_in c.args.expect.now received j)) (has_none j)))
