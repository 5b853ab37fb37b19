use Rattle.std.proofs.Common.{◌≡◌, true, arith, ◌∙◌, sym, subst}
use Rattle.rb_base.specs.{Nodes.has, Nodes.Side.{Biu, Rmu}}
use Rattle.rb_judge.specs.Stages.{KeptJudge, HoldsStages, is_good_now}
use Rattle.rb_judge.proofs.Sides.{eps_stays, kind_notes, kind_stays}
use Rattle.rb_base.specs.declared.node.NodeName.TheVariants as node
use Rattle.rb_judge.proofs.Judge.note.Goals as goal

pub note-requires-clause-source : goal.note-requires-clause-source
note-requires-clause-source c = omega (arith, c.rmu.ensures.shape.most_rmus, c.rmu.ensures.value)

pub note-requires-in-Rmu-clause-source : goal.note-requires-in-Rmu-clause-source
note-requires-in-Rmu-clause-source c = omega (arith, c.biu.ensures.shape.most_bius, c.biu.ensures.value)

pub returns-in-Biu-clause-seen : goal.returns-in-Biu-clause-seen
returns-in-Biu-clause-seen c = λ stages is.
    let shows = subst (λ (k : KeptJudge). HoldsStages k stages) (sym c.self.view_is) is in
    let good : has c.self.inside.bius.good c.in-Biu.i ≡ true =
    subst (λ (k : KeptJudge). is_good_now k (node.Biu c.in-Biu.i) ≡ true) (sym c.self.view_is) (rw c.in-Biu.is at c.requires.good) in
    rw c.in-Biu.is (record {
      eps = shows.eps ∙ eps_stays _ c.args.from c.args.see stages;
      bius = kind_stays Biu c.in-Biu.i c.args.from c.args.see stages _ shows.bius;
      rmus = kind_notes Rmu c.in-Biu.i c.args.from c.self.inside.eps c.self.inside.bius.good c.args.see stages _ _ shows.eps shows.bius.good good c.note.ensures.here c.note.ensures.others c.note.ensures.sets shows.rmus;
    })

pub returns-in-Rmu-clause-seen : goal.returns-in-Rmu-clause-seen
returns-in-Rmu-clause-seen c = λ stages is.
    let shows = subst (λ (k : KeptJudge). HoldsStages k stages) (sym c.self.view_is) is in
    let good : has c.self.inside.rmus.good c.in-Rmu.i ≡ true =
    subst (λ (k : KeptJudge). is_good_now k (node.Rmu c.in-Rmu.i) ≡ true) (sym c.self.view_is) (rw c.in-Rmu.is at c.requires.good) in
    rw c.in-Rmu.is (record {
      eps = shows.eps ∙ eps_stays _ c.args.from c.args.see stages;
      bius = kind_notes Biu c.in-Rmu.i c.args.from c.self.inside.eps c.self.inside.rmus.good c.args.see stages _ _ shows.eps shows.rmus.good good c.note-in-Rmu.ensures.here c.note-in-Rmu.ensures.others c.note-in-Rmu.ensures.sets shows.bius;
      rmus = kind_stays Rmu c.in-Rmu.i c.args.from c.args.see stages _ shows.rmus;
    })
