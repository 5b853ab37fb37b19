use Rattle.std.proofs.{Common.{get_or, ap, sym, ◌∙◌}, lemmas.Bool.{ltb-true, ltb-false}}
use Rattle.rb_long.specs.{Spelling.spelling_of, Senders.waiting_in, Waiting.without_word}
use Rattle.rb_long.proofs.Words.{goes-on, is-sent, never-none}
use Rattle.rb_long.proofs.sender.LongSender.next_word.Goals as goal

pub returns-then-has_more-clause-rest : goal.returns-then-has_more-clause-rest
returns-then-has_more-clause-rest c =
    let first = c.in-Some.ensures.item.3 in
    let more = ltb-true _ _ (sym c.has_more.ensures ∙ c.if-has_more.true) in
    goes-on c.self.inside.sent c.self.inside.letters.items c.in-Some.letter.now c.in-Some.letter.now (rw c.deref.ensures.0 at first.0) (rw c.deref.ensures.0 at first.1 c.in-Some.letter.now) (rw c.as_slice-2.ensures.value at more)
    ∙ ap without_word c.self.view_is

pub returns-else-has_more-clause-rest : goal.returns-else-has_more-clause-rest
returns-else-has_more-clause-rest c =
    let first = c.in-Some.ensures.item.3 in
    let last = ltb-false _ _ (sym c.has_more.ensures ∙ c.if-has_more.false) in
    ap (waiting_in 0) c.remove.ensures.items
    ∙ is-sent c.self.inside.sent c.self.inside.letters.items c.in-Some.letter.now c.in-Some.letter.now (rw c.deref.ensures.0 at first.0) (rw c.deref.ensures.0 at first.1 c.in-Some.letter.now) (rw c.as_slice-2.ensures.value at last)
    ∙ ap without_word c.self.view_is

pub returns-then-has_more-clause-none : goal.returns-then-has_more-clause-none
returns-then-has_more-clause-none c =
    let first = c.in-Some.ensures.item.3 in
    never-none c.self.inside.sent c.self.inside.letters.items c.in-Some.letter.now c.word_at-word.result c.args.self.now (rw c.deref.ensures.0 at first.0) (rw c.deref.ensures.0 at first.1 c.in-Some.letter.now) c.self.invariant.more
    (c.word_at-word.ensures ∙ ap (λ xs. get_or (spelling_of xs) c.self.inside.sent 0) c.as_slice.ensures.value) c.self.view_is

pub returns-else-has_more-clause-none : goal.returns-else-has_more-clause-none
returns-else-has_more-clause-none c =
    let first = c.in-Some.ensures.item.3 in
    never-none c.self.inside.sent c.self.inside.letters.items c.in-Some.letter.now c.word_at-word.result c.args.self.now (rw c.deref.ensures.0 at first.0) (rw c.deref.ensures.0 at first.1 c.in-Some.letter.now) c.self.invariant.more
    (c.word_at-word.ensures ∙ ap (λ xs. get_or (spelling_of xs) c.self.inside.sent 0) c.as_slice.ensures.value) c.self.view_is
