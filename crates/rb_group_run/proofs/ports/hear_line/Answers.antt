use Rattle.std.proofs.Common.{get_or, refl, ◌++◌, set, sym, subst, arith}
use Rattle.rb_group.specs.{Keeping.KeptGroup, Portions.line_told}
use Rattle.rb_group_run.specs.Holding.{HoldPortions, HoldsPortion}
use Rattle.rb_group_run.proofs.Held.{line_heard, no_port, portion_at}
use Rattle.rb_group_run.proofs.ports.hear_line.Goals as goal

pub returns-then-receiver-lt16 : goal.returns-then-receiver-lt16
returns-then-receiver-lt16 c = λ members told hold.
    let groups = c.args.groups.now in
    let line = c.args.line.now in
    let before : KeptGroup = get_or groups c.from-receiver.result c.index-groups-receiver.result in
    let there = portion_at members told groups c.from-receiver.result before c.index-groups-receiver.result (omega arith) refl hold in
    let old = subst (λ k. HoldsPortion members (told k) before) c.from-receiver.ensures there in
    subst (λ k. HoldPortions members (λ i. told i ++ line_told c.args.frame c.args.slot i line) (set groups k c.hear.new.self)) (sym c.from-receiver.ensures)
    (line_heard members c.args.frame c.args.slot line told groups before c.hear.new.self hold old c.hear.ensures.heard c.hear.ensures.members)

pub returns-else-receiver-lt16 : goal.returns-else-receiver-lt16
returns-else-receiver-lt16 c = λ members told hold.
    no_port members c.args.frame c.args.slot c.args.line.now told c.args.groups.now (omega (arith, c.if-receiver-lt16.false, c.from-receiver.ensures)) hold
