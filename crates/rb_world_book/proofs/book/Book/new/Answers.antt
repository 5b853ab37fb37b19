use Rattle.std.proofs.Common.{◌≡◌, ◌<◌, ◌^◌, sym, ◌∙◌, ap, subst, arith}
use Rattle.rb_base.specs.{Nodes.Side.{Biu, Rmu}, Sizes.{Sizes, IsShape}}
use Rattle.rb_rules.specs.WorldStep.{first_world}
use Rattle.rb_world_book.specs.{declared.milestone.Milestone.TheVariants.{Begin, Stage}, Holding.{HoldsKind, IsComing}, Records.milestone_of}
use Rattle.rb_world_book.proofs.First.{first-kind}
use Rattle.rb_world_book.proofs.book.Book.new.Goals as goal

pub returns-clause-holds : goal.returns-clause-holds
unfolding first_world
returns-clause-holds c = λ sc sizes frames eps onsets.
    let turns = c.turn_to.ensures in
    let shape : IsShape sc.sizes = subst (λ (s : Sizes). IsShape s) sizes c.biu-bius.ensures.shape in
    record {
      fits = record {
        sizes = turns.shape ∙ sizes;
        is_shape = shape;
        frames = turns.frames ∙ frames;
        few_frames = subst (λ n. n < 2 ^ 32) frames c.ranges.frames.fits;
        eps = turns.eps ∙ eps;
        onsets = turns.onsets ∙ onsets;
      };
      upcoming = sym (ap milestone_of turns.upcoming);
      coming = subst (λ m. IsComing sc m) (sym turns.upcoming) (omega arith);
      lines = sym (turns.lines ∙ c.new-3.ensures);
      ended = sym turns.ended;
      judged = λ e place next. let no : Begin 0 ≡ Stage place = sym turns.upcoming ∙ next in absurd (cc);
      bius = subst (λ m. HoldsKind sc Biu m c.turn_to.new.self.bius (first_world sc).sites) (sym turns.upcoming)
          (first-kind sc Biu c.new.result c.turn_to.new.self.bius c.args.shape sizes shape.most_bius c.new.ensures turns.bius (turns.good_bius sc onsets));
      rmus = subst (λ m. HoldsKind sc Rmu m c.turn_to.new.self.rmus (first_world sc).sites) (sym turns.upcoming)
          (first-kind sc Rmu c.new-2.result c.turn_to.new.self.rmus c.args.shape sizes shape.most_rmus c.new-2.ensures turns.rmus (turns.good_rmus sc onsets));
    }
