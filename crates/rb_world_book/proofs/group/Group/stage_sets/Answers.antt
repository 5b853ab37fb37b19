use Rattle.std.proofs.Common.{ℕ, Bool, nat_lt, not, ◌&&◌, refl}
use Rattle.rb_base.specs.Nodes.{TakesFirst, has}
use Rattle.rb_world_book.specs.Waiting.{was_taken, was_unlike}
use Rattle.rb_world_book.proofs.Popped.{all_gone, none_gone, one_more}
use Rattle.rb_world_book.proofs.group.Group.stage_sets.Goals as goal

pub loop-source-init : goal.loop-source-init
loop-source-init g c =
    let these : ℕ → Bool = λ j. nat_lt j c.args.count && not (has c.args.self.now.lasting j) in
    record {
      taken = none_gone these c.all_but-left.result c.empty-taken.result (was_taken c.args.receivers c.args.others.now.good c.args.others.now.told) c.all_but-left.ensures c.empty-taken.ensures.value;
      unlike = none_gone these c.all_but-left.result c.empty-unlike.result (was_unlike c.args.eps c.args.receivers c.args.others.now.good c.args.others.now.told) c.all_but-left.ensures
          c.empty-unlike.ensures.value;
    }

pub loop-source-preserved : goal.loop-source-preserved
loop-source-preserved g c =
    let these : ℕ → Bool = λ j. nat_lt j c.args.count && not (has c.args.self.now.lasting j) in
    let takes : TakesFirst c.loop-source.left c.pop_first.new.self c.index-j.result = rw c.index-j.ensures.value c.in-Some.ensures.first in
    record {
      taken = one_more these c.loop-source.left c.pop_first.new.self c.index-j.result c.loop-source.taken c.with_or_without-taken.result
          (was_taken c.args.receivers c.args.others.now.good c.args.others.now.told) c.sights_of-sights.result.heard c.loop-source.invariant.taken takes c.index-j.ensures.range
          c.sights_of-sights.ensures.heard c.with_or_without-taken.ensures;
      unlike = one_more these c.loop-source.left c.pop_first.new.self c.index-j.result c.loop-source.unlike c.with_or_without-unlike.result
          (was_unlike c.args.eps c.args.receivers c.args.others.now.good c.args.others.now.told) c.sights_of-sights.result.unlike c.loop-source.invariant.unlike takes c.index-j.ensures.range
          c.sights_of-sights.ensures.unlike c.with_or_without-unlike.ensures;
    }

pub returns-clause-taken : goal.returns-clause-taken
returns-clause-taken g c =
    all_gone c.args.count (λ j. not (has c.args.self.now.lasting j)) c.loop-source.left c.loop-source.taken
    (was_taken c.args.receivers c.args.others.now.good c.args.others.now.told) c.loop-source.invariant.taken (c.in_default.ensures.empty.0 refl)

pub returns-clause-unlike : goal.returns-clause-unlike
returns-clause-unlike g c =
    all_gone c.args.count (λ j. not (has c.args.self.now.lasting j)) c.loop-source.left c.loop-source.unlike
    (was_unlike c.args.eps c.args.receivers c.args.others.now.good c.args.others.now.told) c.loop-source.invariant.unlike (c.in_default.ensures.empty.0 refl)
