use Rattle.std.proofs.{Common.{◌≡◌, ◌∙◌, sym, ap, true, Ok}, lemmas.Bool.false≢true, lemmas.Fmt.parse-decimal, lemmas.Slice.Eq.bytes_eq-Decides}
use Rattle.std.specs.{Fmt.decimal, Str.bytes_eq}
use Rattle.rb_top.proofs.form.number_in.Goals as goal

pub returns-in-Err-clause-none : goal.returns-in-Err-clause-none
returns-in-Err-clause-none c n small is =
    let parsed : c.parse.result ≡ Ok n = parse-decimal 64 n c.args.text.now c.parse.result small small is c.parse.ensures.value.0 in
    let found = c.in-Err.is in
    cc

pub returns-else-eq-clause-none : goal.returns-else-eq-clause-none
returns-else-eq-clause-none c n small is =
    let parsed : c.parse.result ≡ Ok n = parse-decimal 64 n c.args.text.now c.parse.result small small is c.parse.ensures.value.0 in
    let found = c.in-Ok.is in
    let same : c.in-Ok.number ≡ n = cc in
    let equal : c.format.result.now ≡ c.args.text.now = c.format.ensures.text ∙ ap decimal same ∙ sym is in
    let yes : bytes_eq c.format.result.now c.args.text.now ≡ true = (bytes_eq-Decides c.format.result.now c.args.text.now).1 equal in
    false≢true (sym c.if-eq.false ∙ c.eq.ensures ∙ yes)
