use Rattle.std.proofs.{Common.{refl, ◌∙◌, ap, arith}, Math.ListN.length-set, lemmas.List.Edits.fill_by_more}
use Rattle.rb_eligible.proofs.Evidence.{taken_all}
use Rattle.rb_rules.specs.{ExactStage.present, Majority.majority_of, Sense.value_in}
use Rattle.rb_listen.specs.Lessons.{recorded_of}
use Rattle.rb_listen.proofs.lesson.vote_on.Goals as goal

pub loop-j-init : goal.loop-j-init
loop-j-init c = record { all = refl; so_far = λ k none. absurd (omega arith) }

pub loop-j-preserved : goal.loop-j-preserved
loop-j-preserved c = record {
  all = length-set _ _ _ ∙ c.loop-j.invariant.all;
  so_far = rw (c.from.ensures, c.recorded_value.ensures)
      (fill_by_more (recorded_of value_in c.args.records.now c.args.rmus c.args.slot) c.loop-j.taken c.loop-j.j _ (omega arith) c.loop-j.invariant.so_far);
}

pub returns : goal.returns
returns c =
    c.majority_taken.ensures
    ∙ ap (λ t. majority_of (present t))
    (taken_all (recorded_of value_in c.args.records.now c.args.rmus c.args.slot) c.loop-j.taken c.loop-j.j (omega arith) c.loop-j.invariant.all c.loop-j.invariant.so_far)
