-- The events of a log, one after another.
use Rattle.std.proofs.Common.{◌≡◌, refl, Option, Some, None, option_map, List, [], ◌∷◌, drop}
use Rattle.std.specs.Prelude.{slice_get}
use Rattle.rb_log.specs.{Cursor.shown, declared.cursor.LogEvent.LogEvent}
use Rattle.rb_rules.specs.Core.{CoreEvent}

-- if an event is given, it is the first of the events
pub first-is : (e : CoreEvent) (events rest : List CoreEvent) → Some e ≡ slice_get events 0 → rest ≡ drop 1 events → events ≡ e ∷ rest
first-is e [] rest given left = cc
first-is e (x ∷ xs) rest given left = cc

-- if no event is given, none was left
pub none-left : (o : Option LogEvent) (events : List CoreEvent) → o ≡ None → option_map shown o ≡ slice_get events 0 → events ≡ []
none-left o [] none given = refl
none-left o (x ∷ xs) none given = cc
