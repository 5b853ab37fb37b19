-- How a bridge ends.
use Rattle.std.specs.Prelude.{Option, Some, None}
use Rattle.rb_rules_bridge.specs.{Bridges.Bridge, Texts.{Break, break_of}}
use Rattle.rb_program.specs.{declared.status.Status.Status, declared.status.Status.TheVariants.{Done, Breach}}

-- the status of a bridge with this breach, or with none
abbrev pub status_with : Option Break → Status
status_with None = Done
status_with (Some break) = Breach

abbrev pub end_of : Bridge → Status
end_of b = status_with (break_of b)
