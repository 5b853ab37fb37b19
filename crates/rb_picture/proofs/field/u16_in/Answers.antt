use Rattle.std.proofs.{Common.{◌∙◌, ap, arith}, lemmas.Fmt.parse-decimal}
use Rattle.std.specs.Result.{result_ok}
use Rattle.rb_picture.proofs.field.u16_in.Goals as goal

pub returns : goal.returns
returns c n small is =
    c.ok.ensures.value ∙ ap (λ r. result_ok r) (parse-decimal 16 n c.args.text.now c.parse.result small (omega (arith, small)) is c.parse.ensures.value.0)
