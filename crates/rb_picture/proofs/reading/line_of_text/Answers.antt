use Rattle.std.proofs.{Common.{◌∙◌, sym, subst}, lemmas.Str.IsUtf8-from_ascii}
use Rattle.std.specs.Str.{IsAscii}
use Rattle.rb_picture.proofs.Parts.{body_ascii}
use Rattle.rb_picture.proofs.reading.line_of_text.Goals as goal

pub returns-in-Ok : goal.returns-in-Ok
returns-in-Ok c l fits is = c.line_in.ensures l fits (c.in-Ok.ensures.cases.0 ∙ is)

pub returns-in-Err : goal.returns-in-Err
returns-in-Err c l fits is =
    absurd (c.in-Err.ensures.cases.0 (IsUtf8-from_ascii c.args.bytes.now (subst (λ b. IsAscii b) (sym is) (body_ascii l fits))))
