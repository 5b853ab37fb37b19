use Rattle.std.proofs.Common.{◌≡◌, ◌≤◌, [], refl, sym, ◌∙◌, ap, subst}
use Rattle.rb_base.specs.{Nodes.Side.{Biu, Rmu}, Sizes.{Sizes, sync_slot_of}}
use Rattle.rb_rules.specs.{Book.{frame_records, in_order}, ExactStage.present, Goodness.good_at, WorldStep.{begun_for, told_by_good}}
use Rattle.rb_judge.proofs.Noting.{shows_knows}
use Rattle.rb_judge.specs.Stages.{Knows}
use Rattle.rb_world_book.specs.{Holding.{HoldsKind, IsComing}, Waiting.all_but, Records.milestone_of, Settling.after_begin}
use Rattle.rb_world_book.proofs.Passing.{coming-begun, frame-book, frame-record, passes-by, turns-holds}
use Rattle.rb_world_book.specs.declared.milestone.Milestone.TheVariants as kept
use Rattle.rb_world_book.proofs.book.Book.pass_begin.Goals as goal

pub returns-clause-passes : goal.returns-clause-passes
returns-clause-passes c = λ sc w h ended next.
    let frame = c.args.frame in
    let going = h.ended ∙ ended in
    let bius = subst (λ m. HoldsKind sc Biu m c.args.self.now.bius w.sites) next h.bius in
    let rmus = subst (λ m. HoldsKind sc Rmu m c.args.self.now.rmus w.sites) next h.rmus in
    let within : frame ≤ sc.frames = subst (λ m. IsComing sc m) next h.coming in
    let turns = c.turn_to.ensures in
    let then_is : milestone_of c.turn_to.new.self.upcoming ≡ after_begin frame sc.frames =
    ap milestone_of turns.upcoming ∙ c.after_begin.ensures ∙ ap (after_begin frame) h.fits.frames in
    let coming = coming-begun sc frame c.turn_to.new.self.upcoming within then_is in
    let sync : c.sync_slot-sync_slot.result ≡ sync_slot_of sc.sizes = c.sync_slot-sync_slot.ensures.value ∙ ap (λ (s : Sizes). sync_slot_of s) h.fits.sizes in
    passes-by sc w _ _ _ (frame_records frame (present (in_order (told_by_good sc frame 0 (λ s. begun_for frame s.begun) w.sites))))
    (frame-book sc w frame (h.upcoming ∙ ap milestone_of next) going)
    (record {
      fits = record {
        sizes = turns.shape ∙ h.fits.sizes;
        is_shape = h.fits.is_shape;
        frames = turns.frames ∙ h.fits.frames;
        few_frames = h.fits.few_frames;
        eps = turns.eps ∙ h.fits.eps;
        onsets = turns.onsets ∙ h.fits.onsets;
      };
      upcoming = sym then_is;
      coming = coming.0;
      lines = sym (turns.lines ∙ c.new-self.ensures);
      ended = sym (turns.ended ∙ ended);
      judged = λ e p is. subst (λ k. Knows k []) (sym turns.judge) (shows_knows _ [] c.frame.ensures.begun);
      bius = subst (λ m. HoldsKind sc Biu m c.turn_to.new.self.bius w.sites) (sym turns.upcoming) (turns-holds sc Biu (kept.Begin frame) c.after_begin.result (record c.args.self.now.bius { lasting = c.good_biu-self.result; counted = c.all_but-self.result }) _ c.args.self.now.shape w.sites h.fits.sizes
          (record { all = bius.all; saw = bius.saw; rows = bius.rows; sights = bius.sights; begins = bius.begins; within = bius.within; good = bius.good; waiting = bius.waiting; lasting = λ p e. absurd (cc); counted = λ p e. absurd (cc) })
          turns.bius (turns.good_bius sc h.fits.onsets)
          (λ p is. turns.bius.lasting ∙ c.good_biu-self.ensures sc h.fits.onsets ∙ ap (good_at sc Biu frame) sync ∙ ap (λ f. good_at sc Biu f (sync_slot_of sc.sizes)) (sym (coming.1 p (turns.upcoming ∙ is))))
          (λ p is. turns.bius.counted ∙ c.all_but-self.ensures ∙ ap (λ n. all_but n c.good_biu-self.result) (c.biu.ensures.value ∙ ap (λ (s : Sizes). s.bius) h.fits.sizes) ∙ ap (all_but sc.sizes.bius) (sym turns.bius.lasting)));
      rmus = subst (λ m. HoldsKind sc Rmu m c.turn_to.new.self.rmus w.sites) (sym turns.upcoming) (turns-holds sc Rmu (kept.Begin frame) c.after_begin.result (record c.args.self.now.rmus { lasting = c.good_rmu-self.result; counted = c.all_but-self-2.result }) _ c.args.self.now.shape w.sites h.fits.sizes
          (record { all = rmus.all; saw = rmus.saw; rows = rmus.rows; sights = rmus.sights; begins = rmus.begins; within = rmus.within; good = rmus.good; waiting = rmus.waiting; lasting = λ p e. absurd (cc); counted = λ p e. absurd (cc) })
          turns.rmus (turns.good_rmus sc h.fits.onsets)
          (λ p is. turns.rmus.lasting ∙ c.good_rmu-self.ensures sc h.fits.onsets ∙ ap (good_at sc Rmu frame) sync ∙ ap (λ f. good_at sc Rmu f (sync_slot_of sc.sizes)) (sym (coming.1 p (turns.upcoming ∙ is))))
          (λ p is. turns.rmus.counted ∙ c.all_but-self-2.ensures ∙ ap (λ n. all_but n c.good_rmu-self.result) (c.rmu.ensures.value ∙ ap (λ (s : Sizes). s.rmus) h.fits.sizes) ∙ ap (all_but sc.sizes.rmus) (sym turns.rmus.lasting)));
    }) refl (c.frame_turn-given.ensures ∙ frame-record sc frame c.args.self.now.bius c.args.self.now.rmus w.sites c.args.self.now.shape h.fits.sizes h.fits.is_shape bius rmus)
