-- A mask changes nothing but what a drive that is not plain may change.
use Rattle.std.proofs.Common.{◌≡◌, Bool, true, false, IsTrue, List, [], ◌∷◌, is_some, map, not, refl, ap}
use Rattle.rb_rules.specs.declared.record.SlotLine.{SlotLine}
use Rattle.rb_world_book.specs.{Records.record_of, declared.turn.Turn.Turn}
use Rattle.rb_world.specs.Driving.{bare, given_for, masked, without_value}
use Rattle.rb_world_book.specs.declared.turn.Turn.TheVariants as turn

masked-lines : (ls : List SlotLine) → map without_value (map without_value ls) ≡ map without_value ls
masked-lines [] = refl
masked-lines (l ∷ ls) = ap (λ rest. without_value l ∷ rest) (masked-lines ls)

bare-masked : (t : Turn) → bare (masked t) ≡ bare t
bare-masked turn.Quiet = refl
bare-masked (turn.Frame f) = refl
bare-masked (turn.Slot s) = ap (λ ls. turn.Slot (record s { lines = record { items = ls } })) (masked-lines s.lines.items)
bare-masked turn.Ended = refl
bare-masked (turn.Breach place cause) = refl

pub bare-given : (mask : Bool) (t : Turn) → bare (given_for mask t) ≡ bare t
bare-given true t = bare-masked t
bare-given false t = refl

record-masked : (t : Turn) → is_some (record_of (masked t)) ≡ is_some (record_of t)
record-masked turn.Quiet = refl
record-masked (turn.Frame f) = refl
record-masked (turn.Slot s) = refl
record-masked turn.Ended = refl
record-masked (turn.Breach place cause) = refl

pub record-given : (mask : Bool) (t : Turn) → is_some (record_of (given_for mask t)) ≡ is_some (record_of t)
record-given true t = record-masked t
record-given false t = refl

-- without a mask the turn itself is given
pub given-plain : (mask : Bool) (t : Turn) → IsTrue (not mask) → given_for mask t ≡ t
given-plain true t plain = absurd (cc)
given-plain false t plain = refl
