use Rattle.std.proofs.Common.{subst}
use Rattle.std.specs.{Io.KnownBytes.Appends, List.flat_map}
use Rattle.rb_outside.specs.Bytes.{AppendsPart}
use Rattle.rb_rules.specs.Goodness.{Scenario}
use Rattle.rb_gen.specs.Text.{lines_of}
use Rattle.rb_top.specs.Texts.{generated_text}
use Rattle.rb_top.proofs.generating.generate.Goals as goal

pub returns-in-Ok-write_generated-clause-done : goal.returns-in-Ok-write_generated-clause-done
unfolding generated_text
returns-in-Ok-write_generated-clause-done g c h =
    let P : Scenario → Type 0 = λ sc. Appends (g.K.Sink.held c.args.output.now) (g.K.Sink.held c.write_generated.new.output) (flat_map (λ text. text) (lines_of sc)) in
    subst P c.in-Ok.ensures.scenario c.in-Ok-write_generated.ensures.all

pub returns-clause-part : goal.returns-clause-part
unfolding generated_text
returns-clause-part g c h =
    let P : Scenario → Type 0 = λ sc. AppendsPart (g.K.Sink.held c.args.output.now) (g.K.Sink.held c.write_generated.new.output) (flat_map (λ text. text) (lines_of sc)) in
    subst P c.in-Ok.ensures.scenario c.in-Err-write_generated.ensures.part
