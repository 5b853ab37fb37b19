use Rattle.std.proofs.{Common.{◌≡◌, ◌∙◌, codes, refl, sym, arith}, lemmas.Slice.Eq.bytes_eq-Decides}
use Rattle.rb_base.specs.declared.values.Heard.TheVariants.{Word, Fault}
use Rattle.rb_picture.proofs.Spaces.{no_number}
use Rattle.rb_picture.proofs.field.heard_in.Goals as goal

pub returns-then-eq : goal.returns-then-eq
returns-then-eq c (Word word) fits is =
    let text : c.args.text.now ≡ codes "none" = (bytes_eq-Decides c.args.text.now (codes "none")).0 (sym c.eq.ensures ∙ c.if-eq.true) in
    absurd (no_number word (omega (arith, fits)) (sym is ∙ text))
returns-then-eq c Fault fits is = refl
