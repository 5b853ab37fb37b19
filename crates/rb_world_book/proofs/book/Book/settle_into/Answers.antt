use Rattle.std.proofs.Common.{sym, subst, ◌∙◌}
use Rattle.rb_world_book.specs.{Records.way_of, Settling.Settles}
use Rattle.rb_world_book.proofs.Due.{settles-none}
use Rattle.rb_world_book.proofs.book.Book.settle_into.Goals as goal

pub returns-else-is_due-clause-settled : goal.returns-else-is_due-clause-settled
returns-else-is_due-clause-settled c = λ sc w h.
    subst (λ t. Settles sc (way_of c.args.way) w c.args.self.now t) (sym c.requires.quiet)
    (settles-none sc c.args.way c.args.self.now w h (sym c.is_due.ensures ∙ c.if-is_due.false))
