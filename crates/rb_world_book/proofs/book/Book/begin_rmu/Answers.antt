use Rattle.std.proofs.Common.{◌<◌, refl, subst}
use Rattle.rb_base.specs.{Nodes.Side.{Biu, Rmu}, Sizes.Sizes}
use Rattle.rb_world_book.specs.{Changing.with_begun, Telling.{begun_in, told_at, told_begun_frame}}
use Rattle.rb_world_book.proofs.Noting.{begun-noted, other-kind, with-rmus}
use Rattle.rb_world_book.proofs.book.Book.begin_rmu.Goals as goal

pub returns-clause-noted : goal.returns-clause-noted
returns-clause-noted c = λ sc w h.
    let shape = h.fits.is_shape in
    let inside : c.args.i < sc.sizes.rmus = subst (λ (s : Sizes). c.args.i < s.rmus) h.fits.sizes c.requires in
    let begun = begun_in Rmu (record { frame = c.args.frame; line = c.args.line; port = c.default-port.result }) in
    let holds = begun-noted sc Rmu c.args.self.now.upcoming c.args.self.now.rmus c.begin.new.self c.args.i
    (told_begun_frame (record { frame = c.args.frame; line = c.args.line; port = c.default-port.result }) (told_at c.args.self.now.rmus.told c.args.i)) begun (with_begun begun) w.sites
    c.begin.ensures inside shape.most_rmus h.rmus (λ s. refl) (λ s. refl) (λ s. refl) refl (λ j. refl) refl (λ j. refl) in
    let others = other-kind sc Biu Rmu c.args.self.now.upcoming c.args.self.now.bius c.args.i (with_begun begun) w.sites refl h.bius in
    with-rmus sc c.args.self.now w c.begin.new.self _ h others holds
