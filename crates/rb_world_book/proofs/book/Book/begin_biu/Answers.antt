use Rattle.std.proofs.Common.{◌<◌, refl, subst}
use Rattle.rb_base.specs.{Nodes.Side.{Biu, Rmu}, Sizes.Sizes}
use Rattle.rb_world_book.specs.{Changing.with_begun, Telling.{begun_in, told_at, told_begun_frame}}
use Rattle.rb_world_book.proofs.Noting.{begun-noted, other-kind, with-bius}
use Rattle.rb_world_book.proofs.book.Book.begin_biu.Goals as goal

pub returns-clause-noted : goal.returns-clause-noted
returns-clause-noted c = λ sc w h.
    let shape = h.fits.is_shape in
    let inside : c.args.i < sc.sizes.bius = subst (λ (s : Sizes). c.args.i < s.bius) h.fits.sizes c.requires in
    let begun = begun_in Biu (record { frame = c.args.frame; line = c.args.line; port = c.args.port }) in
    let holds = begun-noted sc Biu c.args.self.now.upcoming c.args.self.now.bius c.begin.new.self c.args.i
    (told_begun_frame (record { frame = c.args.frame; line = c.args.line; port = c.args.port }) (told_at c.args.self.now.bius.told c.args.i)) begun (with_begun begun) w.sites
    c.begin.ensures inside shape.most_bius h.bius (λ s. refl) (λ s. refl) (λ s. refl) refl (λ j. refl) refl (λ j. refl) in
    let others = other-kind sc Rmu Biu c.args.self.now.upcoming c.args.self.now.rmus c.args.i (with_begun begun) w.sites refl h.rmus in
    with-bius sc c.args.self.now w c.begin.new.self _ h holds others
