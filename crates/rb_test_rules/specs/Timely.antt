-- A window of the smallest bus in which all good nodes speak and hear in time.
use Rattle.rb_rules.specs.Rounds.{Moment, first_moment}
use Rattle.rb_test_rules.specs.Ordinary.{smallest_bus}
use Rattle.std.specs.Prelude.{[]}

-- the first window of the smallest bus, in which BIU 0 sends its request
abbrev pub first_window : Moment
first_window = first_moment smallest_bus []
