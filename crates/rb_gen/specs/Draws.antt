-- The generator of numbers: its state, and what a draw makes of it.
use Rattle.std.specs.Prelude.{ℕ, zero, suc, ◌+◌, ◌*◌, ◌/◌, ◌%◌, ◌^◌, List, map}
use Rattle.rb_base.specs.Counting.{numbers}

-- the state after a draw
unfoldable pub next_state : ℕ → ℕ
next_state state = (state * 6364136223846793005 + 1442695040888963407) % 2 ^ 64

-- the number that the draw gives which led to this state: the upper half of its 64 bits
unfoldable pub number_of : ℕ → ℕ
number_of state = state / 2 ^ 32

-- the state after a number of draws. At first it is the seed
unfoldable pub state_after : ℕ → ℕ → ℕ
state_after zero seed = seed
state_after (suc draws) seed = next_state (state_after draws seed)

-- the numbers that the first `draws` draws give, in order
abbrev pub numbers_drawn : ℕ → ℕ → List ℕ
numbers_drawn draws seed = map (λ n. number_of (state_after (suc n) seed)) (numbers draws)
