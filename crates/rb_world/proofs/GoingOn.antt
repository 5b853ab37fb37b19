-- What a call makes of a world when no event is taken.
use Rattle.std.proofs.Common.{◌≡◌, true, false, refl, sym, ap, subst}
use Rattle.rb_rules.specs.{Goodness.Scenario, WorldStep.{World, go_on, settle}, WorldStep.Choice.GoOn, WorldStep.Way.ByItself}
use Rattle.rb_world_book.specs.{Records.record_of, Settling.Settles, declared.book.Book.Book as KeptBook, declared.turn.Turn.Turn}
use Rattle.rb_laws_events.proofs.GivenAlone.{go-on-is}
use Rattle.rb_world.specs.{declared.last.Last.Last, Turning.Gives, Worlds.{KeptWorld, Stands, last_of}}
use Rattle.rb_world.proofs.Turns.{gives}

-- a run that has ended stays
pub ended-stays : (sc : Scenario) (w : World) → w.book.ended ≡ true → go_on sc w ≡ w
unfolding go_on
ended-stays sc w e = ap (λ b. elim b as (λ _. World) [ true ↦ w | false ↦ settle sc ByItself 2 w ]) e

pub ended-gives : (k : KeptWorld) (w : World) (turn : Turn) → Stands k w → w.book.ended ≡ true → w.turn ≡ record_of turn → Gives k turn (go_on k.bus w)
ended-gives k w turn is ended same = subst (Gives k turn) (sym (ended-stays k.bus w ended)) (record { stands = is; turn_is = same })

pub going-gives : (k : KeptWorld) (w : World) (book : KeptBook) (turn : Turn) (last : Last) → Stands k w → w.book.ended ≡ false → Settles k.bus ByItself w book turn
    → last ≡ last_of (record_of turn) → Gives (record { bus = k.bus; lists = k.lists; nodes = k.nodes; scene = record k.scene { book = book }; seeding = k.seeding; last = last }) turn (go_on k.bus w)
going-gives k w book turn last is going settles kept =
    gives k.bus k.lists ByItself w w (go_on k.bus w) GoOn k.nodes k.scene k.seeding book turn last is.lawful is.listed is.reached refl (go-on-is k.bus w going) is.nodes is.scene settles kept
