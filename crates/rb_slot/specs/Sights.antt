-- What a node sees of the sources in a window.
use Rattle.std.specs.Prelude.{ℕ, Bool, true, false, Option, List, map}
use Rattle.rb_base.specs.{declared.values.Heard.Heard, declared.values.See.See}
use Rattle.rb_rules.specs.{ExactStage.see_value, SyncStage.see_time}

-- in the sync slot by the stamps that were taken, below it by the values
abbrev pub sees_in : Bool → List (Option ℕ) → List (Option Heard) → List See
sees_in true stamps values = map see_time stamps
sees_in false stamps values = map see_value values
