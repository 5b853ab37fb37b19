use Rattle.std.proofs.Common.{◌≡◌, ap, ◌∙◌, subst, rules, arith}
use Rattle.std.specs.{Io.KnownBytes.Appends, List.flat_map}
use Rattle.rb_base.specs.{Counting.numbers, Sizes.Sizes}
use Rattle.rb_base.proofs.Plain.{on_err}
use Rattle.rb_group_run.proofs.TurnsWritten.{lines_more, lines_part}
use Rattle.rb_bridge.specs.{Receivers.{most_found, receiver_by}, Refusals.bank_of}
use Rattle.rb_bridge.proofs.receivers.write_receivers.Goals as goal

pub loop-port-preserved : goal.loop-port-preserved
loop-port-preserved g c = record {
  written = λ sc members told is hold.
      lines_more (receiver_by sc c.args.ports.now.frame (bank_of c.args.right) (most_found members told)) c.loop-port.port _ _ _
      (c.loop-port.invariant.written sc members told is hold) (c.in_ok-write_port.ensures.writes sc members told is hold).all;
  later = search rules;
}

pub returns-in_err-write_port-clause-writes : goal.returns-in_err-write_port-clause-writes
returns-in_err-write_port-clause-writes g c = λ sc members told is hold. record {
  all = search rules;
  part =
      let bius : c.biu-port-end.result ≡ sc.sizes.bius = c.biu-port-end.ensures.value ∙ ap (λ (s : Sizes). s.bius) is.sizes_are in
      on_err _ (lines_part (receiver_by sc c.args.ports.now.frame (bank_of c.args.right) (most_found members told)) c.loop-port.port sc.sizes.bius _ _ _ (omega (arith, bius))
      (c.loop-port.invariant.written sc members told is hold) (c.in_err-write_port.ensures.writes sc members told is hold).part);
  cause = search rules;
}

pub returns-clause-writes : goal.returns-clause-writes
returns-clause-writes g c = λ sc members told is hold. record {
  all =
      let bius : c.biu-port-end.result ≡ sc.sizes.bius = c.biu-port-end.ensures.value ∙ ap (λ (s : Sizes). s.bius) is.sizes_are in
      let all : c.loop-port.port ≡ sc.sizes.bius = omega (arith, bius) in
      subst (λ n. Appends (g.K.Sink.held c.args.output.now) (g.K.Sink.held c.loop-port.output) (flat_map (receiver_by sc c.args.ports.now.frame (bank_of c.args.right) (most_found members told)) (numbers n))) all
      (c.loop-port.invariant.written sc members told is hold);
  part = search rules;
  cause = search rules;
}
