-- The copies so far are those of the parts that were gone over.
use Rattle.std.proofs.Common.{◌≡◌, map, string_bytes, take}
use Rattle.robus_c.proofs.spelled.copies_of.Given as goal

abbrev pub invariant-loop-part : goal.invariant-loop-part
invariant-loop-part l = map string_bytes l.copies.items ≡ map (λ part. part.now) (take l.part-index l.parts)
