use Rattle.std.proofs.Common.{◌<◌, get_or, subst, take, drop, ◌∙◌, ap}
use Rattle.std.specs.Int.{from_le_bytes, w32, w64}
use Rattle.rb_frame.proofs.Keeping.{kept, kept_filled}
use Rattle.rb_frame.proofs.spelling.Spelling.of.Goals as goal

pub invariant_of-result : goal.invariant_of-result
invariant_of-result c =
    let is = c.filled-all.ensures.filled in
    kept_filled c.args.bytes.now c.low_of.result c.high_of.result c.tail_of.result c.rest_of.result c.requires.few (λ i. subst (λ all. get_or all i 0 < 256) is (c.filled-all.ensures.small i)) c.high_of.type_inv
    (c.low_of.ensures ∙ ap (λ all. from_le_bytes w64 (take 8 all)) is)
    (c.high_of.ensures ∙ ap (λ all. from_le_bytes w32 (take 4 (drop 8 all))) is)
    c.tail_of.ensures
    (c.rest_of.ensures ∙ ap (drop 12) is)

pub returns : goal.returns
returns c =
    let is = c.filled-all.ensures.filled in
    kept c.args.bytes.now c.low_of.result c.high_of.result c.tail_of.result c.rest_of.result c.requires.few (λ i. subst (λ all. get_or all i 0 < 256) is (c.filled-all.ensures.small i)) c.high_of.type_inv
    (c.low_of.ensures ∙ ap (λ all. from_le_bytes w64 (take 8 all)) is)
    (c.high_of.ensures ∙ ap (λ all. from_le_bytes w32 (take 4 (drop 8 all))) is)
    c.tail_of.ensures
    (c.rest_of.ensures ∙ ap (drop 12) is)
