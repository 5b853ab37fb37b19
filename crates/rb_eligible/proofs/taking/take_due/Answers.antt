use Rattle.std.proofs.Common.{◌≡◌, ◌<◌, ◌*◌, ◌&&◌, not, arith}
use Rattle.rb_base.specs.{Nodes.{has, size}, declared.values.Heard.TheVariants.Word}
use Rattle.rb_base.proofs.Sets.{has-is, set_of-lt}
use Rattle.rb_eligible.specs.Inboxes.{sole_at}
use Rattle.rb_eligible.proofs.Runs.{partial_ones, partial_values, partial_vote, word_begun, word_of_all}
use Rattle.rb_eligible.proofs.taking.take_due.Goals as goal

pub returns-then-is_empty-clause-ones : goal.returns-then-is_empty-clause-ones
returns-then-is_empty-clause-ones g c =
    let none : c.take_run-rest.result ≡ 0 = c.is_empty.ensures.0 c.if-is_empty.true in
    partial_ones _ _ _ _ _ _ _ _ none
    (word_of_all _ _ _ _ _ _ _ _ c.requires.due c.requires.blank (rw c.sole_at-sole.ensures.value at c.in-Some-word_of.ensures) c.take_run-rest.ensures.run c.requires.fits none)

pub returns-then-is_empty-clause-taken : goal.returns-then-is_empty-clause-taken
returns-then-is_empty-clause-taken g c =
    let none : c.take_run-rest.result ≡ 0 = c.is_empty.ensures.0 c.if-is_empty.true in
    partial_values _ _ _ _ _ _ _ _ none
    (word_of_all _ _ _ _ _ _ _ _ c.requires.due c.requires.blank (rw c.sole_at-sole.ensures.value at c.in-Some-word_of.ensures) c.take_run-rest.ensures.run c.requires.fits none)

pub returns-then-is_empty-clause-alike : goal.returns-then-is_empty-clause-alike
returns-then-is_empty-clause-alike g c = λ always.
    let none : c.take_run-rest.result ≡ 0 = c.is_empty.ensures.0 c.if-is_empty.true in
    let leads : size c.args.due < 2 * size c.args.due = omega (arith, c.take_run-rest.ensures.fewer) in
    partial_vote _ _ _ _ _ _ _ _ none c.take_run-rest.ensures.all leads
    (word_of_all _ _ _ _ _ _ _ _ c.requires.due c.requires.blank (rw c.sole_at-sole.ensures.value at c.in-Some-word_of.ensures) c.take_run-rest.ensures.run c.requires.fits none)

pub take_runs-requires-2-clause-start : goal.take_runs-requires-2-clause-start
take_runs-requires-2-clause-start g c =
    let due = c.args.due in
    let rest = c.take_run-rest.result in
    let run = c.difference-run.result in
    word_begun c.args.inbox.now c.args.expect.now due rest run (Word c.in-Some-word_of.word) (sole_at c.args.inbox.now.soles c.in-Some.first) c.args.taken.now c.take_run-rest.new.taken
    c.requires.due c.requires.blank (rw c.sole_at-sole.ensures.value at c.in-Some-word_of.ensures) c.take_run-rest.ensures.run
    (rw c.difference-run.ensures (set_of-lt (λ j. has due j && not (has rest j)))) (λ j h. has-is run j (λ j. has due j && not (has rest j)) c.difference-run.ensures h)
