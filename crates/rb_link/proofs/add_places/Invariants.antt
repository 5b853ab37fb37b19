use Rattle.std.proofs.Common.{◌≡◌, ◌++◌, filter, slice_get, take}
use Rattle.rb_link.specs.Pairs.{is_to}
use Rattle.rb_link.proofs.add_places.Given as goal

abbrev pub invariant-loop-number : goal.invariant-loop-number
invariant-loop-number l = l.places.items ≡ l.initial.places.items ++ filter (λ n. is_to l.to (slice_get l.rules n)) (take l.number-index l.sent)
