use Rattle.std.proofs.Common.{◌≡◌, false, refl, sym, ◌∙◌, subst, rules, arith}
use Rattle.std.specs.Io.KnownBytes.{Appends}
use Rattle.rb_base.proofs.Plain.{on_err}
use Rattle.rb_outside.specs.Bytes.{AppendsPart}
use Rattle.rb_report.specs.Report.{end_text}
use Rattle.rb_rules_bridge.specs.declared.bank.Bank.TheVariants.{Left, Right}
use Rattle.rb_bridge.specs.{Sides.IsUp, Crossing.AreReady}
use Rattle.rb_bridge.proofs.{Crossed.{both-given, broken-crossing, end-crossing, ended-crossing, first-written, never-plain, next-crossing, now-crosses, part-crossing, restated, run_with}, Opened.opened-before, SidesPassed.is-up}
use Rattle.rb_bridge.proofs.crossing.cross.Goals as goal

pub loop-frame-init : goal.loop-frame-init
loop-frame-init g c = record {
  crossing = λ x both plain. record {
    ready = record {
      left = opened-before x.b Left both _ _ c.args.left.now x.opened.left;
      right = opened-before x.b Right both _ _ c.args.right.now x.opened.right;
    };
    text = λ sure. first-written x.b _;
  };
  later = omega arith;
  left_stays = refl;
  right_stays = refl;
}

pub cross_frame-requires : goal.cross_frame-requires
cross_frame-requires g c =
    let r = c.requires in
    let i = c.loop-frame.invariant in
    let frames = r.frames_are in
    record {
      run = record {
        b = r.b;
        both = false;
        left_told = g.D.Drive.told c.args.left_drive.now;
        right_told = g.D.Drive.told c.args.right_drive.now;
        bridge = r.bridge;
        within = omega (arith, frames);
        plain = never-plain _ _;
        ready = restated (λ lp rp. AreReady (run_with r.b false lp (g.D.Drive.told c.args.left_drive.now) (g.D.Drive.told c.loop-frame.left_drive) rp (g.D.Drive.told c.args.right_drive.now)
            (g.D.Drive.told c.loop-frame.right_drive)) c.loop-frame.frame c.loop-frame.left c.loop-frame.right) _ _ _ _ (sym i.left_stays) (sym i.right_stays) (i.crossing r false (never-plain _ _)).ready;
      };
      pairs_are = r.pairs_are;
    }

pub returns-in_err-goes_on-clause-written : goal.returns-in_err-goes_on-clause-written
returns-in_err-goes_on-clause-written g c = λ x.
    let i = c.loop-frame.invariant in
    let frames = x.frames_are in
    record {
      all = search rules;
      part = λ both plain.
          let is = i.crossing x both plain in
          on_err _ (part-crossing _ c.loop-frame.frame _ _ _ (now-crosses x.b _ c.loop-frame.frame both _ _ _ _ _ _ _ _ _ _ c.loop-frame.left c.loop-frame.right _ _ _ _
          x.bridge x.pairs_are (omega (arith, frames)) i.left_stays i.right_stays is.ready plain c.in_err-goes_on.ensures.crosses).part is.text (omega (arith, frames)));
    }

pub returns-then-not-goes_on-clause-written : goal.returns-then-not-goes_on-clause-written
returns-then-not-goes_on-clause-written g c = λ x.
    let i = c.loop-frame.invariant in
    let frames = x.frames_are in
    record {
      all = λ both plain.
          let is = i.crossing x both plain in
          broken-crossing _ c.loop-frame.frame _ _ _ _ _ (now-crosses x.b _ c.loop-frame.frame both _ _ _ _ _ _ _ _ _ _ c.loop-frame.left c.loop-frame.right _ _ _ _
          x.bridge x.pairs_are (omega (arith, frames)) i.left_stays i.right_stays is.ready plain c.in_ok-goes_on.ensures.crosses).all is.text (omega (arith, frames)) c.if-not-goes_on.true;
      part = search rules;
    }

pub loop-frame-preserved : goal.loop-frame-preserved
loop-frame-preserved g c = record {
  crossing = λ x both plain.
      let i = c.loop-frame.invariant in
      let frames = x.frames_are in
      let is = i.crossing x both plain in
      next-crossing _ c.loop-frame.frame _ _ _ _ _ _ (now-crosses x.b _ c.loop-frame.frame both _ _ _ _ _ _ _ _ _ _ c.loop-frame.left c.loop-frame.right _ _ _ _
      x.bridge x.pairs_are (omega (arith, frames)) i.left_stays i.right_stays is.ready plain c.in_ok-goes_on.ensures.crosses).all is.text (omega (arith, frames)) c.if-not-goes_on.false;
  later = search rules;
  left_stays = c.in_ok-goes_on.ensures.left_stays ∙ c.loop-frame.invariant.left_stays;
  right_stays = c.in_ok-goes_on.ensures.right_stays ∙ c.loop-frame.invariant.right_stays;
}

pub finish-requires : goal.finish-requires
finish-requires g c =
    let i = c.loop-frame.invariant in
    subst (λ p. IsUp p (g.D.Drive.told c.loop-frame.left_drive) c.loop-frame.left) (sym i.left_stays)
    (is-up c.requires.b Left c.loop-frame.frame false _ _ _ c.loop-frame.left (i.crossing c.requires false (never-plain _ _)).ready.left)

pub finish-requires-2 : goal.finish-requires-2
finish-requires-2 g c =
    let i = c.loop-frame.invariant in
    subst (λ p. IsUp p (g.D.Drive.told c.loop-frame.right_drive) c.loop-frame.right) (sym i.right_stays)
    (is-up c.requires.b Right c.loop-frame.frame false _ _ _ c.loop-frame.right (i.crossing c.requires false (never-plain _ _)).ready.right)

pub returns-in_err-write_end-clause-written : goal.returns-in_err-write_end-clause-written
returns-in_err-write_end-clause-written g c = λ x.
    let i = c.loop-frame.invariant in
    let frames = x.frames_are in
    let all : c.loop-frame.frame ≡ c.args.frames = omega arith in
    record {
      all = search rules;
      part = λ both plain.
          let is = i.crossing x both plain in
          on_err _ (end-crossing _ c.loop-frame.frame _ _ _
          (both-given x.b c.loop-frame.frame both _ _ _ _ _ _ _ _ _ _ c.loop-frame.left c.loop-frame.right (omega (arith, frames, all)) i.left_stays i.right_stays is.ready c.finish.ensures c.finish-2.ensures)
          is.text (omega (arith, frames, all)) (subst (λ n. AppendsPart (g.K.Sink.held c.loop-frame.output) (g.K.Sink.held c.write_end.new.output) (end_text n)) (sym all) c.in_err-write_end.ensures.part));
    }

pub returns-clause-written : goal.returns-clause-written
returns-clause-written g c = λ x.
    let i = c.loop-frame.invariant in
    let frames = x.frames_are in
    let all : c.loop-frame.frame ≡ c.args.frames = omega arith in
    record {
      all = λ both plain.
          let is = i.crossing x both plain in
          ended-crossing _ c.loop-frame.frame _ _ _
          (both-given x.b c.loop-frame.frame both _ _ _ _ _ _ _ _ _ _ c.loop-frame.left c.loop-frame.right (omega (arith, frames, all)) i.left_stays i.right_stays is.ready c.finish.ensures c.finish-2.ensures)
          is.text (omega (arith, frames, all)) (subst (λ n. Appends (g.K.Sink.held c.loop-frame.output) (g.K.Sink.held c.write_end.new.output) (end_text n)) (sym all) c.in_ok-write_end.ensures.all);
      part = search rules;
    }
