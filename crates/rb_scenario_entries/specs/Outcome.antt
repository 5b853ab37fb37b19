-- How a part of the reading ends.
use Rattle.std.specs.Prelude.{◌≡◌, ◌⊎◌, Bool, false}
use Rattle.rb_scenario_entries.specs.{declared.refusal.Refusal.Refusal, declared.refusal.Refusal.TheVariants.OutOfMemory}

-- the refusal is out of memory, or it is `why` and the rule is not kept
abbrev pub IsRefusalBy : Refusal → Bool → Refusal → Type 0
IsRefusalBy why kept refusal = (refusal ≡ OutOfMemory) ⊎ ((refusal ≡ why) × (kept ≡ false))
