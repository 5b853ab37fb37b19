use Rattle.std.proofs.Common.{◌≡◌, ℕ, ◌<◌, ◌≤◌, false, ◌==◌, arith, get_or, length, nat_lt, sym, ◌∙◌, ap, subst}
use Rattle.rb_base.specs.{Nodes.{other, set_of}, Sizes.Sizes, declared.values.See.TheVariants.Nothing}
use Rattle.rb_base.proofs.Sets.{eq_other}
use Rattle.rb_rules.specs.Slots.{count_of}
use Rattle.rb_world_book.specs.{Changing.{changed_at, count_for, number_in, row_shown, side_in, with_row}, Holding.Holds}
use Rattle.rb_world_book.proofs.{Closing.{biu-closed, none-out, rmu-closed}, Noting.told-noted}
use Rattle.rb_world_book.proofs.book.Book.close_other.Goals as goal

pub returns-in-Biu-clause-noted : goal.returns-in-Biu-clause-noted
returns-in-Biu-clause-noted c = λ sc w h.
    let i = c.in-Biu.i in
    let closed = c.args.closed.now in
    let stage : (closed.place.stage == 4) ≡ false = eq_other _ _ c.requires.stage in
    let here : i < c.args.self.now.shape.bius = subst (λ n. number_in n < count_for n c.args.self.now.shape) c.in-Biu.is c.requires.node in
    let unseen : (j : ℕ) → c.args.self.now.shape.rmus ≤ j → get_or closed.sees j Nothing ≡ Nothing =
    subst (λ n. (j : ℕ) → count_of (other (side_in n)) c.args.self.now.shape ≤ j → get_or closed.sees j Nothing ≡ Nothing) c.in-Biu.is c.requires.sources in
    let last = none-out c.args.self.now.upcoming closed.place.frame sc.sizes.rmus c.args.self.now.rmus.lasting c.first-counted.result h.fits.is_shape.most_rmus
    (subst (λ n. c.first-counted.result ≡ set_of (λ i. nat_lt i n)) (c.rmu-rmus.ensures.value ∙ ap (λ (s : Sizes). s.rmus) h.fits.sizes) c.first-counted.ensures) in
    let inside : i < sc.sizes.bius = subst (λ (s : Sizes). i < s.bius) h.fits.sizes here in
    let there : i < length c.args.self.now.bius.told = omega (arith, inside, h.fits.is_shape.most_bius, h.bius.all) in
    subst (λ n. Holds sc (record c.args.self.now { bius = c.note.new.self })
    (changed_at n (with_row closed.place.stage (row_shown (number_in n) closed c.args.times.now c.args.trusted.biu c.args.trusted.rmu)) w)) (sym c.in-Biu.is)
    (biu-closed sc c.args.self.now w c.note.new.self i c.first-counted.result closed c.args.times.now c.args.trusted.biu c.args.trusted.rmu
    (told-noted c.args.self.now.bius c.close.new.self c.note.new.self i c.args.self.now.upcoming _ there c.close.ensures c.note.ensures) here unseen stage last h)

pub returns-in-Rmu-clause-noted : goal.returns-in-Rmu-clause-noted
returns-in-Rmu-clause-noted c = λ sc w h.
    let i = c.in-Rmu.i in
    let closed = c.args.closed.now in
    let stage : (closed.place.stage == 4) ≡ false = eq_other _ _ c.requires.stage in
    let here : i < c.args.self.now.shape.rmus = subst (λ n. number_in n < count_for n c.args.self.now.shape) c.in-Rmu.is c.requires.node in
    let unseen : (j : ℕ) → c.args.self.now.shape.bius ≤ j → get_or closed.sees j Nothing ≡ Nothing =
    subst (λ n. (j : ℕ) → count_of (other (side_in n)) c.args.self.now.shape ≤ j → get_or closed.sees j Nothing ≡ Nothing) c.in-Rmu.is c.requires.sources in
    let last = none-out c.args.self.now.upcoming closed.place.frame sc.sizes.bius c.args.self.now.bius.lasting c.first-counted-in-Rmu.result h.fits.is_shape.most_bius
    (subst (λ n. c.first-counted-in-Rmu.result ≡ set_of (λ i. nat_lt i n)) (c.biu-bius.ensures.value ∙ ap (λ (s : Sizes). s.bius) h.fits.sizes) c.first-counted-in-Rmu.ensures) in
    let inside : i < sc.sizes.rmus = subst (λ (s : Sizes). i < s.rmus) h.fits.sizes here in
    let there : i < length c.args.self.now.rmus.told = omega (arith, inside, h.fits.is_shape.most_rmus, h.rmus.all) in
    subst (λ n. Holds sc (record c.args.self.now { rmus = c.note-in-Rmu.new.self })
    (changed_at n (with_row closed.place.stage (row_shown (number_in n) closed c.args.times.now c.args.trusted.biu c.args.trusted.rmu)) w)) (sym c.in-Rmu.is)
    (rmu-closed sc c.args.self.now w c.note-in-Rmu.new.self i c.first-counted-in-Rmu.result closed c.args.times.now c.args.trusted.biu c.args.trusted.rmu
    (told-noted c.args.self.now.rmus c.close-in-Rmu.new.self c.note-in-Rmu.new.self i c.args.self.now.upcoming _ there c.close-in-Rmu.ensures c.note-in-Rmu.ensures) here unseen stage last h)
