-- How many records a run has.
use Rattle.std.proofs.{Common.{ℕ, zero, suc, ◌+◌, ◌^◌, ◌<◌, ◌≤◌, ◌==◌, inl, inr, nat_lt, Bool, true, false, Option, Some, None, List, [], ◌∷◌, length, refl, ap, ◌∙◌, arith, length-append}, lemmas.Nat.mul-le}
use Rattle.rb_rules.specs.{declared.plan.Window.Window, Book.{Book, Each, Record, Row, fresh_book}, Goodness.Scenario, Lawful.IsLawful, Ports.HandIn, Rounds.{Moment, Result, after_window, begin_frame, book_after, first_moment, moment, next_frame, records_of, results_of, step, steps_of, windows_in}}
use Rattle.rb_rules.proofs.Books.{records-are, stepped}
use Rattle.rb_laws_events.proofs.WorldBooks.{AtMostOneMore, end-more, frame-more, stage-more}

at-most-one : (xs ys : List Record) → AtMostOneMore xs ys → length ys ≤ length xs + 1
at-most-one xs ys (inl same) = let e = ap length same in omega (arith, e)
at-most-one xs ys (inr one) = let e = ap length one.1 ∙ length-append xs (one.0 ∷ []) in omega (arith, e)

window-more : (sc : Scenario) (frame : ℕ) (w : Option Window) (rows : Each (Option Row)) (b : Book) → AtMostOneMore b.given (book_after sc frame w rows b).given
window-more sc frame None rows b = inl refl
window-more sc frame (Some w) rows b = stage-more sc _ rows b

after-more : (sc : Scenario) (m : Moment) (results : Each Result) → AtMostOneMore m.book.given (after_window sc m results).book.given
unfolding after_window
after-more sc m results = window-more sc m.frame _ _ m.book

next-more : (sc : Scenario) (hands : List HandIn) (m : Moment) → AtMostOneMore m.book.given (next_frame sc hands m).book.given
unfolding begin_frame
next-more sc hands m = frame-more sc (m.frame + 1) _ m.book

stepped-more : (sc : Scenario) (hands : List HandIn) (m : Moment) (over in_frame : Bool) → AtMostOneMore m.book.given (stepped sc hands m over in_frame).book.given
stepped-more sc hands m true in_frame = end-more m.book
stepped-more sc hands m false true = after-more sc m (results_of sc m)
stepped-more sc hands m false false = next-more sc hands m

step-more : (sc : Scenario) (hands : List HandIn) (m : Moment) → AtMostOneMore m.book.given (step sc hands m).book.given
unfolding step
step-more sc hands m = stepped-more sc hands m (m.frame == sc.frames) (nat_lt m.window (windows_in sc.sizes))

first-more : (sc : Scenario) (hands : List HandIn) → AtMostOneMore [] (first_moment sc hands).book.given
unfolding begin_frame
first-more sc hands = frame-more sc 0 _ fresh_book

given-few : (sc : Scenario) (hands : List HandIn) (n : ℕ) → length (moment sc hands n).book.given ≤ n + 1
given-few sc hands zero = at-most-one [] (first_moment sc hands).book.given (first-more sc hands)
given-few sc hands (suc n) =
    let before = given-few sc hands n in
    let now = at-most-one (moment sc hands n).book.given (moment sc hands (suc n)).book.given (step-more sc hands (moment sc hands n)) in
    omega (arith, before, now)

-- a run of a lawful scenario has few records
pub few-records : (sc : Scenario) (hands : List HandIn) → IsLawful sc → length (records_of sc hands) < 2 ^ 31
few-records sc hands lawful =
    let is = ap length (records-are sc hands) in
    let few = given-few sc hands (steps_of sc) in
    let windows : windows_in sc.sizes + 1 ≤ 400 =
    let b = lawful.sizes.most_bius in let r = lawful.sizes.most_rmus in let s = lawful.sizes.most_slots in omega (arith, b, r, s) in
    let product = mul-le sc.frames (windows_in sc.sizes + 1) 4096 400 lawful.frames.1 windows in
    omega (arith, is, few, product)
