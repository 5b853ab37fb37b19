use Rattle.std.proofs.Common.{◌≡◌, ℕ, ◌<◌, ◌≤◌, false, ◌==◌, get_or, sym, subst}
use Rattle.rb_base.specs.{Nodes.other, Nodes.Side.{Biu, Rmu}, declared.values.See.TheVariants.Nothing}
use Rattle.rb_base.proofs.Sets.{eq_other}
use Rattle.rb_rules.specs.Slots.{count_of}
use Rattle.rb_world_book.specs.{Changing.{changed_at, count_for, number_in, row_shown, side_in, with_row}, Holding.Holds}
use Rattle.rb_world_book.proofs.Closing.{biu-closed, others-last, rmu-closed}
use Rattle.rb_world_book.proofs.book.Book.close_upcoming.Goals as goal

pub returns-in-Biu-clause-noted : goal.returns-in-Biu-clause-noted
returns-in-Biu-clause-noted c = λ sc w h.
    let i = c.in-Biu.i in
    let closed = c.args.closed.now in
    let stage : (closed.place.stage == 4) ≡ false = eq_other _ _ c.requires.stage in
    let here : i < c.args.self.now.shape.bius = subst (λ n. number_in n < count_for n c.args.self.now.shape) c.in-Biu.is c.requires.node in
    let unseen : (j : ℕ) → c.args.self.now.shape.rmus ≤ j → get_or closed.sees j Nothing ≡ Nothing =
    subst (λ n. (j : ℕ) → count_of (other (side_in n)) c.args.self.now.shape ≤ j → get_or closed.sees j Nothing ≡ Nothing) c.in-Biu.is c.requires.sources in
    let last = others-last sc Rmu c.args.self.now.upcoming closed.place c.args.self.now.rmus w.sites c.requires.upcoming h.fits.is_shape.most_rmus h.rmus in
    subst (λ n. Holds sc (record c.args.self.now { bius = c.close_upcoming.new.self })
    (changed_at n (with_row closed.place.stage (row_shown (number_in n) closed c.args.times.now c.args.trusted.biu c.args.trusted.rmu)) w)) (sym c.in-Biu.is)
    (biu-closed sc c.args.self.now w c.close_upcoming.new.self i c.args.self.now.rmus.counted closed c.args.times.now c.args.trusted.biu c.args.trusted.rmu (c.close_upcoming.ensures c.args.self.now.upcoming c.requires.upcoming) here unseen stage last h)

pub returns-in-Rmu-clause-noted : goal.returns-in-Rmu-clause-noted
returns-in-Rmu-clause-noted c = λ sc w h.
    let i = c.in-Rmu.i in
    let closed = c.args.closed.now in
    let stage : (closed.place.stage == 4) ≡ false = eq_other _ _ c.requires.stage in
    let here : i < c.args.self.now.shape.rmus = subst (λ n. number_in n < count_for n c.args.self.now.shape) c.in-Rmu.is c.requires.node in
    let unseen : (j : ℕ) → c.args.self.now.shape.bius ≤ j → get_or closed.sees j Nothing ≡ Nothing =
    subst (λ n. (j : ℕ) → count_of (other (side_in n)) c.args.self.now.shape ≤ j → get_or closed.sees j Nothing ≡ Nothing) c.in-Rmu.is c.requires.sources in
    let last = others-last sc Biu c.args.self.now.upcoming closed.place c.args.self.now.bius w.sites c.requires.upcoming h.fits.is_shape.most_bius h.bius in
    subst (λ n. Holds sc (record c.args.self.now { rmus = c.close_upcoming-in-Rmu.new.self })
    (changed_at n (with_row closed.place.stage (row_shown (number_in n) closed c.args.times.now c.args.trusted.biu c.args.trusted.rmu)) w)) (sym c.in-Rmu.is)
    (rmu-closed sc c.args.self.now w c.close_upcoming-in-Rmu.new.self i c.args.self.now.bius.counted closed c.args.times.now c.args.trusted.biu c.args.trusted.rmu (c.close_upcoming-in-Rmu.ensures c.args.self.now.upcoming c.requires.upcoming) here unseen stage last h)
