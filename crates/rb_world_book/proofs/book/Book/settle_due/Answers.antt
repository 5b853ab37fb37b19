use Rattle.std.proofs.Common.{◌≡◌, false, true, sym, ◌∙◌}
use Rattle.rb_world_book.proofs.{Due.{next-due, quiet-is, settles-one, settles-two}, book.Book.settle_due.Goals.{else-is_quiet-via-then-is_quiet+else-is_due, else-is_quiet-via-else-is_quiet}}
use Rattle.rb_world_book.proofs.book.Book.settle_due.Goals as goal

pub pass-requires-then-is_due : goal.pass-requires-then-is_due
pass-requires-then-is_due c = quiet-is c.pass.new.turn (sym c.is_quiet.ensures ∙ c.if-is_quiet.true)

pub returns-then-is_due-clause-settled : goal.returns-then-is_due-clause-settled
returns-then-is_due-clause-settled c = λ sc w h.
    let due = next-due sc c.args.way c.args.self.now w h c.requires.due in
    let passes = c.pass.ensures.passes sc w h due.going due.bius due.rmus in
    let more = next-due sc c.args.way c.pass.new.self _ passes.holds (sym c.is_due.ensures ∙ c.if-is_due.true) in
    settles-two sc c.args.way c.args.self.now c.pass.new.self _ w c.pass.new.turn _ due passes (sym c.is_quiet.ensures ∙ c.if-is_quiet.true) more
    (c.pass-then-is_due.ensures.passes sc _ passes.holds more.going more.bius more.rmus)

pub returns-else-is_quiet-clause-settled : goal.returns-else-is_quiet-clause-settled
returns-else-is_quiet-clause-settled c = λ sc w h.
    let due = next-due sc c.args.way c.args.self.now w h c.requires.due in
    let passes = c.pass.ensures.passes sc w h due.going due.bius due.rmus in
    settles-one sc c.args.way c.args.self.now c.pass.new.self w c.pass.new.turn due passes
    (λ quiet. elim c.else-is_quiet.branch [
      | else-is_quiet-via-then-is_quiet+else-is_due v ↦ sym v.is_due.ensures ∙ v.if-is_due.false
      | else-is_quiet-via-else-is_quiet v ↦ let no_turn : true ≡ false = sym (c.is_quiet.ensures ∙ quiet) ∙ v.if-is_quiet.false in absurd (cc)
    ])
