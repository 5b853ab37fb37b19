use Rattle.std.proofs.{Common.{◌∙◌, sym, refl, ap}, lemmas.Bool.false≢true}
use Rattle.hex.specs.Hex.{decode_of, encode_lower}
use Rattle.rb_top.proofs.Spelled.{letter_is, none_read, one_read}
use Rattle.rb_top.proofs.form.letter_in.Goals as goal

pub is_spelled-requires : goal.is_spelled-requires
is_spelled-requires c = c.as_slice.ensures.fits

pub returns-in-None-clause-none : goal.returns-in-None-clause-none
returns-in-None-clause-none c letter is e = none_read c.args.text.now letter c.in-None.ensures is e

pub returns-then-is_spelled-clause-some : goal.returns-then-is_spelled-clause-some
returns-then-is_spelled-clause-some c = (
  letter_is c.args.text.now c.in-Some.letter.items (decode_of c.args.text.now) refl c.in-Some.ensures,
  c.is_spelled.ensures.0 c.if-is_spelled.true ∙ ap encode_lower c.as_slice.ensures.value,
)

pub returns-else-is_spelled-clause-none : goal.returns-else-is_spelled-clause-none
returns-else-is_spelled-clause-none c letter is e =
    let same = one_read c.args.text.now c.in-Some.letter.items letter c.in-Some.ensures is e in
    false≢true (sym c.if-is_spelled.false ∙ c.is_spelled.ensures.1 (e ∙ ap encode_lower (sym same ∙ sym c.as_slice.ensures.value)))
