use Rattle.std.proofs.{Common.{subst, rules}, lemmas.Result.{on_err_weaker, on_ok_weaker}}
use Rattle.std.specs.Io.KnownBytes.{Appends}
use Rattle.rb_base.proofs.Plain.{on_err}
use Rattle.rb_outside.specs.Bytes.{AppendsPart}
use Rattle.rb_outside.proofs.Known.{appends_join, part_join, part_widens}
use Rattle.rb_rules_bridge.specs.{declared.bank.Bank.TheVariants.{Left, Right}, Texts.receivers_text}
use Rattle.rb_bridge.proofs.Found.{finds-own}
use Rattle.rb_bridge.proofs.telling.write_both.Goals as goal

pub returns-in_err-write_side-clause-writes : goal.returns-in_err-write_side-clause-writes
returns-in_err-write_side-clause-writes g c = λ b frame is. record {
  all = search rules;
  part = on_err _ (part_widens _ _ (receivers_text b frame Left) (receivers_text b frame Right)
      (subst (λ f. AppendsPart (g.K.Sink.held c.args.output.now) (g.K.Sink.held c.write_side.new.output) (receivers_text b f Left)) is.left.frame_is
      (c.in_err-write_side.ensures.writes b (finds-own b Left frame c.args.left.now is.left)).part));
  cause = search rules;
}

pub returns-clause-writes : goal.returns-clause-writes
returns-clause-writes g c = λ b frame is.
    let left = subst (λ f. Appends (g.K.Sink.held c.args.output.now) (g.K.Sink.held c.write_side.new.output) (receivers_text b f Left)) is.left.frame_is
    (c.in_ok-write_side.ensures.writes b (finds-own b Left frame c.args.left.now is.left)).all in
    let right = c.write_side-2.ensures.writes b (finds-own b Right frame c.args.right.now is.right) in
    record {
      all = on_ok_weaker c.write_side-2.result
          (λ a. appends_join _ _ _ (receivers_text b frame Left) (receivers_text b frame Right) left
          (subst (λ f. Appends (g.K.Sink.held c.write_side.new.output) (g.K.Sink.held c.write_side-2.new.output) (receivers_text b f Right)) is.right.frame_is a)) right.all;
      part = on_err_weaker c.write_side-2.result
          (λ a. part_join _ _ _ (receivers_text b frame Left) (receivers_text b frame Right) left
          (subst (λ f. AppendsPart (g.K.Sink.held c.write_side.new.output) (g.K.Sink.held c.write_side-2.new.output) (receivers_text b f Right)) is.right.frame_is a)) right.part;
      cause = search rules;
    }
