use Rattle.std.proofs.Common.{◌≡◌, ◌+◌, ◌<◌, ◌^◌, true, List, [], ◌∷◌, ◌++◌, map, refl, sym, ◌∙◌, ap, subst, arith}
use Rattle.rb_base.specs.{Nodes.Side.{Biu, Rmu}, Sizes.{Sizes, sync_slot_of}}
use Rattle.std.specs.{Prelude.{Some, None}, Prelude.{◌==◌, if◌then◌else◌}, List.filter_map}
use Rattle.rb_rules.specs.{Book.line_in, Book.{Book, Record, after_stage, after_verdict, judged_of, slot_records}, Goodness.good_at, Judging.{JudgedStage, verdict_of}}
use Rattle.rb_world_book.specs.{Holding.slot_record, Holding.{HoldsKind, IsComing, IsStageOf, without_lasting}, Records.milestone_of, Waiting.{all_but, waiting_for}}
use Rattle.rb_judge.specs.Stages.{Knows}
use Rattle.rb_world_book.proofs.{Judged.rows_of, Passing.{coming-after, few-slots, lines-after, passes-by, slot-record, stage-then, turns-holds}, Verdict.verdict-is}
use Rattle.rb_world_book.specs.declared.milestone.Milestone.TheVariants as kept
use Rattle.rb_world_book.proofs.book.Book.pass_stage.Goals as goal

pub returns-in-Some-clause-passes : goal.returns-in-Some-clause-passes
returns-in-Some-clause-passes c = λ sc w h ended next none_bius none_rmus.
    let place = c.args.place in
    let going = h.ended ∙ ended in
    let bius = subst (λ m. HoldsKind sc Biu m c.args.self.now.bius w.sites) next h.bius in
    let rmus = subst (λ m. HoldsKind sc Rmu m c.args.self.now.rmus w.sites) next h.rmus in
    let stage : IsStageOf sc place = subst (λ m. IsComing sc m) next h.coming in
    let known = c.judge_stage.ensures sc w.sites w.book.stages h.fits.sizes h.fits.eps bius rmus none_bius none_rmus (h.judged going place next) in
    let verdict : Some c.in-Some.cause ≡ verdict_of (judged_of sc place (rows_of sc place w.sites) ∷ w.book.stages) =
    c.in-Some.ensures _ known
    ∙ verdict-is sc place (rows_of sc place w.sites) w.book.stages stage.slot h.fits.is_shape.most_bius h.fits.is_shape.most_rmus in
    let b : Book = record w.book { given = w.book.given ++ Record.Breach place c.in-Some.cause ∷ []; ended = true } in
    passes-by sc w _ _ b (Record.Breach place c.in-Some.cause ∷ [])
    (stage-then sc w place (Some c.in-Some.cause) (h.upcoming ∙ ap milestone_of next) going verdict)
    (record {
      fits = record { sizes = h.fits.sizes; is_shape = h.fits.is_shape; frames = h.fits.frames; few_frames = h.fits.few_frames; eps = h.fits.eps; onsets = h.fits.onsets };
      upcoming = h.upcoming;
      coming = h.coming;
      lines = h.lines;
      ended = refl;
      judged = λ e. absurd (cc);
      bius = h.bius;
      rmus = h.rmus;
    }) refl refl

pub returns-in-None-clause-passes : goal.returns-in-None-clause-passes
returns-in-None-clause-passes c = λ sc w h ended next none_bius none_rmus.
    let place = c.args.place in
    let going = h.ended ∙ ended in
    let bius = subst (λ m. HoldsKind sc Biu m c.args.self.now.bius w.sites) next h.bius in
    let rmus = subst (λ m. HoldsKind sc Rmu m c.args.self.now.rmus w.sites) next h.rmus in
    let stage : IsStageOf sc place = subst (λ m. IsComing sc m) next h.coming in
    let known = c.judge_stage.ensures sc w.sites w.book.stages h.fits.sizes h.fits.eps bius rmus none_bius none_rmus (h.judged going place next) in
    let all : List JudgedStage = judged_of sc place (rows_of sc place w.sites) ∷ w.book.stages in
    let verdict : None ≡ verdict_of all =
    c.in-None.ensures _ known ∙ verdict-is sc place (rows_of sc place w.sites) w.book.stages stage.slot h.fits.is_shape.most_bius h.fits.is_shape.most_rmus in
    let past = c.pass_judged.ensures in
    let few : place.frame + 1 < 2 ^ 32 = let a : place.frame < sc.frames = stage.frame in let b = h.fits.few_frames in omega arith in
    let slots : place.slot + 1 < 2 ^ 16 = few-slots sc.sizes place.slot h.fits.is_shape stage.slot in
    let then_is : milestone_of c.pass_judged.new.self.upcoming ≡ after_stage sc.sizes place = past.upcoming few slots ∙ ap (λ (s : Sizes). after_stage s place) h.fits.sizes in
    let coming = coming-after sc place c.pass_judged.new.self.upcoming stage then_is in
    let turns-bius = past.bius.turns sc h.fits.sizes bius.good
    (ap (λ (s : Sizes). waiting_for s.bius c.args.self.now.bius.good (kept.Stage place) c.args.self.now.bius.told) h.fits.sizes ∙ sym bius.waiting ∙ none_bius) in
    let turns-rmus = past.rmus.turns sc h.fits.sizes rmus.good
    (ap (λ (s : Sizes). waiting_for s.rmus c.args.self.now.rmus.good (kept.Stage place) c.args.self.now.rmus.told) h.fits.sizes ∙ sym rmus.waiting ∙ none_rmus) in
    let b : Book = after_verdict sc.sizes place (rows_of sc place w.sites) all w.book None in
    passes-by sc w _ _ b (slot_records sc.sizes place w.book.lines)
    (stage-then sc w place None (h.upcoming ∙ ap milestone_of next) going verdict)
    (record {
      fits = record {
        sizes = past.shape ∙ h.fits.sizes;
        is_shape = h.fits.is_shape;
        frames = past.frames ∙ h.fits.frames;
        few_frames = h.fits.few_frames;
        eps = past.eps ∙ h.fits.eps;
        onsets = past.onsets ∙ h.fits.onsets;
      };
      upcoming = sym then_is;
      coming = coming.0;
      lines = ap (λ l. if place.stage == 2 then filter_map line_in (rows_of sc place w.sites).bius else l) h.lines
          ∙ lines-after sc place c.args.self.now.bius w.sites _ _ c.args.self.now.shape.bius (ap (λ (s : Sizes). s.bius) h.fits.sizes) h.fits.is_shape.most_bius bius past.lines;
      ended = sym (past.ended ∙ ended);
      judged = λ e p is. subst (λ k. Knows k (map (without_lasting sc p.frame) all)) (sym past.judge)
          (subst (λ f. Knows c.judge_stage.new.judge (map (without_lasting sc f) all)) (sym (coming.1 p is)) known);
      bius = turns-holds sc Biu _ _ c.args.self.now.bius _ c.args.self.now.shape w.sites h.fits.sizes bius turns-bius
          (past.bius.good sc h.fits.sizes h.fits.onsets stage.slot bius.good (bius.lasting place refl))
          (λ p is. turns-bius.lasting ∙ bius.lasting place refl ∙ ap (λ f. good_at sc Biu f (sync_slot_of sc.sizes)) (sym (coming.1 p is)))
          (λ p is. turns-bius.counted ∙ bius.counted place refl ∙ ap (all_but sc.sizes.bius) (sym turns-bius.lasting));
      rmus = turns-holds sc Rmu _ _ c.args.self.now.rmus _ c.args.self.now.shape w.sites h.fits.sizes rmus turns-rmus
          (past.rmus.good sc h.fits.sizes h.fits.onsets stage.slot rmus.good (rmus.lasting place refl))
          (λ p is. turns-rmus.lasting ∙ rmus.lasting place refl ∙ ap (λ f. good_at sc Rmu f (sync_slot_of sc.sizes)) (sym (coming.1 p is)))
          (λ p is. turns-rmus.counted ∙ rmus.counted place refl ∙ ap (all_but sc.sizes.rmus) (sym turns-rmus.lasting));
    }) refl (past.record_is
    ∙ ap (λ (s : Sizes). slot_record s place c.args.self.now.lines.items) h.fits.sizes ∙ ap (slot_record sc.sizes place) (sym h.lines)
    ∙ slot-record sc.sizes place w.book.lines)
