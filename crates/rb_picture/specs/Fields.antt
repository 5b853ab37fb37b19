-- The fields of a line, and the numbers that a bus has.
use Rattle.std.specs.Prelude.{⊤, ℕ, zero, suc, ◌<◌, ◌^◌, ◌==◌, nat_lt, ◌&&◌, Bool, true, if◌then◌else◌, List, [], ◌∷◌}
use Rattle.rb_base.specs.{declared.node.NodeName.NodeName, declared.node.NodeName.TheVariants.{Biu, Rmu}, declared.values.Heard.Heard, declared.values.Heard.TheVariants.{Word, Fault}}

-- each byte is greater than this one
abbrev pub above : ℕ → List ℕ → Bool
above k [] = true
above k (byte ∷ bytes) = nat_lt k byte && above k bytes

-- what stands before the first space, or all
abbrev pub first_field : List ℕ → List ℕ
first_field [] = []
first_field (byte ∷ bytes) = if byte == 32 then [] else byte ∷ first_field bytes

-- what stands behind the first space, or nothing
abbrev pub later_fields : List ℕ → List ℕ
later_fields [] = []
later_fields (byte ∷ bytes) = if byte == 32 then bytes else later_fields bytes

-- a field by its place, from 0
abbrev pub field_at : ℕ → List ℕ → List ℕ
field_at zero bytes = first_field bytes
field_at (suc n) bytes = field_at n (later_fields bytes)

-- a bus has at most 16 nodes of a kind
abbrev pub NodeFits : NodeName → Type 0
NodeFits (Biu i) = i < 16
NodeFits (Rmu i) = i < 16

-- a word has 32 bits
abbrev pub HeardFits : Heard → Type 0
HeardFits (Word word) = word < 2 ^ 32
HeardFits Fault = ⊤
