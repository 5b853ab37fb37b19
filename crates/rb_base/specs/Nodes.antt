-- The kinds of node, and sets of nodes of one kind. A set is the number whose bit i says whether
-- node i is in it.
use Rattle.std.specs.{Prelude.{ℕ, zero, suc, ◌≡◌, ◌+◌, ◌^◌, ◌<◌, Bool, true, false, ◌==◌, ◌&&◌, not, cond, if◌then◌else◌}, Int.bit_at}
use Rattle.rb_base.specs.Counting.{count_if, numbers}

-- a bus interface unit, or a redundancy management unit
pub data Side : Type 0 where
  Biu : Side
  Rmu : Side

-- the kind at the far end of the links
abbrev pub other : Side → Side
other Biu = Rmu
other Rmu = Biu

-- the kind with this code
abbrev pub side_of : ℕ → Side
side_of code = if code == 0 then Biu else Rmu

-- whether node i is in the set
abbrev pub has : ℕ → ℕ → Bool
has set i = bit_at set i == 1

-- the nodes below n that pass the test
unfoldable pub set_below : ℕ → (ℕ → Bool) → ℕ
set_below zero passes = 0
set_below (suc n) passes = set_below n passes + cond (passes n) (2 ^ n) 0

-- the nodes that pass the test, of the 16 that there may be
unfoldable pub set_of : (ℕ → Bool) → ℕ
set_of passes = set_below 16 passes

-- how many nodes are in the set
unfoldable pub size : ℕ → ℕ
size set = count_if (has set) (numbers 16)

-- the node with the lowest number is taken out of the set
pub record TakesFirst (before after node : ℕ) : Type 0 where
  pub inside : has before node ≡ true
  pub first : (i : ℕ) → i < node → has before i ≡ false
  pub rest : after ≡ set_of (λ i. has before i && not (i == node))
  pub less : after < before
