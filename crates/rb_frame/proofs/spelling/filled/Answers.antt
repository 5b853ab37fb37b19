use Rattle.std.proofs.Common.{◌++◌, ◌<◌, ℕ, drop, get_or, length, replicate, sym, ap, subst, arith}
use Rattle.rb_frame.specs.Spellings.{filled}
use Rattle.rb_frame.proofs.Keeping.{filled_small}
use Rattle.rb_frame.proofs.spelling.filled.Goals as goal

pub returns-clause-filled : goal.returns-clause-filled
unfolding filled
returns-clause-filled c = ap (λ xs. xs ++ drop (length c.args.bytes.now) (replicate 32 0)) c.copy_from_slice.ensures.after

pub returns-clause-small : goal.returns-clause-small
unfolding filled
returns-clause-small c =
    subst (λ xs. (i : ℕ) → get_or (xs ++ drop (length c.args.bytes.now) (replicate 32 0)) i 0 < 256) (sym c.copy_from_slice.ensures.after)
    (filled_small c.args.bytes.now (λ i. omega (arith, c.type_inv.bytes i)))
