use Rattle.std.proofs.{Common.{◌≡◌, ◌+◌, slice_set, ap, ◌∙◌, arith}, Math.ListN.length-set, lemmas.List.Edits.fill_by_more}
use Rattle.rb_diag.specs.Votes.{Votes}
use Rattle.rb_listen.specs.Lessons.{vote_on}
use Rattle.rb_listen.proofs.lesson.ballot_of.Goals as goal

pub loop-i-preserved : goal.loop-i-preserved
loop-i-preserved g c =
    let vectors : c.enter.new.ballot.vectors ≡ slice_set c.loop-i.ballot.vectors c.loop-i.i c.vote_on.result = ap (λ (b : Votes). b.vectors) c.enter.ensures in
    let voted : c.vote_on.result ≡ vote_on c.args.records.now c.args.rmus (c.args.first + c.loop-i.i) =
    c.vote_on.ensures ∙ ap (λ i. vote_on c.args.records.now c.args.rmus (c.args.first + i)) c.from.ensures in
    record {
      others = ap (λ (b : Votes). b.others) c.enter.ensures ∙ c.loop-i.invariant.others;
      all = rw vectors (length-set _ _ _ ∙ c.loop-i.invariant.all);
      so_far = rw (vectors, voted) (fill_by_more (λ i. vote_on c.args.records.now c.args.rmus (c.args.first + i)) c.loop-i.ballot.vectors c.loop-i.i _ (omega arith) c.loop-i.invariant.so_far);
    }
