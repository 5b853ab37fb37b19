use Rattle.std.proofs.{Common.{◌∙◌, ap}, lemmas.Fmt.parse-decimal}
use Rattle.std.specs.Result.{result_ok}
use Rattle.rb_picture.proofs.field.u64_in.Goals as goal

pub returns : goal.returns
returns c n small is =
    c.ok.ensures.value ∙ ap (λ r. result_ok r) (parse-decimal 64 n c.args.text.now c.parse.result small small is c.parse.ensures.value.0)
