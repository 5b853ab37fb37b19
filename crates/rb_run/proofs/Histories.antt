-- A drive on its way through a run.
use Rattle.std.proofs.{Common.{◌≡◌, ◌+◌, ◌<◌, ◌≤◌, Bool, true, false, Option, Some, None, List, [], ◌∷◌, ◌++◌, length, map, refl, sym, ap, ◌∙◌, subst, append_assoc, arith, length-append}, lemmas.List.append-nil}
use Rattle.rb_rules.specs.{Book.Record, Goodness.Scenario, Rounds.records_of, WorldStep.World}
use Rattle.rb_world_book.specs.{Records.record_of, declared.turn.Turn.Turn}
use Rattle.rb_run.specs.{Histories.{GoesThrough, HasDriven, HasDrivenSome, MemDrivesKeepTheRun, gives_kept}, Runs.{HasGivenNothing, end_at}, Seen.{SeenDrive, drive_of}, Turns.turn_of}
use Rattle.rb_run.proofs.UnderWay.{IsUnderWay, begins, ends-last, first-given, goes, goes-on, same-record, turn-is, whole-given}
use Rattle.rb_world.specs.{declared.ties.Ties.TheVariants.First, Driving.{GivesBy, GoesAlike, Keeps, KeptTurns, Tells, given_for}, Nexts.{GoesToNext, is_last}, Numbering.{GoesInRounds, IsNextRecord}, Worlds.{KeptWorld, Stands}}
use Rattle.rb_world.proofs.Numbered.{alike-in-rounds, next-in-rounds}

-- one more call goes through one more record
through-more : {D : Type 0} (gives : D → Turn → Turn → Type 0) (keeps : D → D → Turn → Type 0) (before mid after : D) (records : List Record) (turns : List Turn) (r : Record) (t : Turn)
    → GoesThrough gives keeps before mid records turns → gives mid (turn_of r) t → keeps mid after t
    → GoesThrough gives keeps before after (records ++ r ∷ []) (turns ++ t ∷ [])
through-more gives keeps before mid after [] [] r t same given kept =
    (after, (subst (λ d. gives d (turn_of r) t) same given, (subst (λ d. keeps d after t) same kept, refl)))
through-more gives keeps before mid after [] (u ∷ turns) r t none given kept = absurd none
through-more gives keeps before mid after (s ∷ records) [] r t none given kept = absurd none
through-more gives keeps before mid after (s ∷ records) (u ∷ turns) r t through given kept =
    (through.0, (through.1.0, (through.1.1.0, through-more gives keeps through.0 mid after records turns r t through.1.1.1 given kept)))

-- the drive has gone through what was given of a run so far
pub record IsOnItsWay {D : Type 0} (gives : D → Turn → Turn → Type 0) (keeps : D → D → Turn → Type 0) (sc : Scenario) (drive : SeenDrive)
    (before now : D) (k : KeptWorld) (turns : List Turn) (over : Bool) : Type 0 where
  pub way : IsUnderWay sc drive k turns over
  pub through : GoesThrough gives keeps before now way.world.book.given turns

pub sets-out : {D : Type 0} (gives : D → Turn → Turn → Type 0) (keeps : D → D → Turn → Type 0) (k : KeptWorld) (is_plain : Bool) (told : Option (List Turn)) (d : D) → HasGivenNothing k
    → IsOnItsWay gives keeps k.bus (drive_of is_plain told told) d d k [] false
unfolding begins
sets-out gives keeps k is_plain told d begun = record {
  way = begins k is_plain told begun;
  through = subst (λ records. GoesThrough gives keeps d d records []) (sym begun.given) refl;
}

-- what the next call gives, and what it leaves of the drive
pub moves-on : {D : Type 0} {gives : D → Turn → Turn → Type 0} {keeps : D → D → Turn → Type 0} {sc : Scenario} {is_plain now : Bool} {told mid since : Option (List Turn)} {before d e : D}
    {k after : KeptWorld} {turns : List Turn} {t : Turn} → IsOnItsWay gives keeps sc (drive_of is_plain told mid) before d k turns false
    → now ≡ is_plain → (now ≡ true → (w : World) → Stands k w → GoesToNext First k after t w) → ((w : World) → Stands k w → GoesAlike k after t w)
    → after.bus ≡ k.bus → Tells mid since t → ((w : World) → Stands k w → GivesBy (gives d) k after t w) → keeps d e t
    → IsOnItsWay gives keeps sc (drive_of is_plain told since) before e after (turns ++ t ∷ []) (is_last (record_of t))
unfolding goes
moves-on {D} {gives} {keeps} {sc} {is_plain} {now} {told} {mid} {since} {before} {d} {e} {k} {after} {turns} {t} is stays plain alike bus tells given kept =
    let way = is.way in
    let a : GoesAlike k after t way.world = alike way.world way.stands in
    let r : GoesInRounds k after a.turn way.world = alike-in-rounds k after t way.world way.stands a in
    let one : IsNextRecord k.bus way.world r.next r.given = r.rounds.going way.ended in
    let g : GivesBy (gives d) k after t way.world = given way.world way.stands in
    let p : GoesInRounds k after g.turn way.world = next-in-rounds First k after g.turn way.world way.stands g.goes in
    let same : p.given ≡ r.given =
    same-record (records_of k.bus way.world.hands) (length way.world.book.given) p.given r.given (p.rounds.going way.ended).is_next one.is_next in
    let turn : g.turn ≡ turn_of r.given = turn-is g.turn p.given p.turn_is ∙ ap turn_of same in
    record {
      way = goes sc is_plain now told mid since k after turns t way stays plain alike bus tells;
      through =
          subst (λ records. GoesThrough gives keeps before e records (turns ++ t ∷ [])) (sym one.added)
          (through-more gives keeps before d e way.world.book.given turns r.given t is.through (subst (λ u. gives d u t) turn g.given_by) kept);
    }

-- after a turn that does not end the run the drive is still on its way
pub still-on : {D : Type 0} {gives : D → Turn → Turn → Type 0} {keeps : D → D → Turn → Type 0} {sc drive before now k turns : _} (t : Turn)
    → IsOnItsWay gives keeps sc drive before now k turns (is_last (record_of t)) → end_at (record_of t) ≡ None
    → IsOnItsWay gives keeps sc drive before now k turns false
still-on {D} {gives} {keeps} {sc} {drive} {before} {now} {k} {turns} t is going =
    subst (λ over. IsOnItsWay gives keeps sc drive before now k turns over) (goes-on (record_of t) going) is

-- after a turn that ends the run the drive has gone through all of it
pub is-through : {D : Type 0} {gives : D → Turn → Turn → Type 0} {keeps : D → D → Turn → Type 0} {sc drive before now k turns e : _} (t : Turn)
    → IsOnItsWay gives keeps sc drive before now k turns (is_last (record_of t)) → end_at (record_of t) ≡ Some e
    → IsOnItsWay gives keeps sc drive before now k turns true
is-through {D} {gives} {keeps} {sc} {drive} {before} {now} {k} {turns} {e} t is ends =
    subst (λ over. IsOnItsWay gives keeps sc drive before now k turns over) (ends-last (record_of t) e ends) is

pub has-driven-some : {D : Type 0} {gives : D → Turn → Turn → Type 0} {keeps : D → D → Turn → Type 0} {sc drive before now k turns over : _}
    → IsOnItsWay gives keeps sc drive before now k turns over → HasDrivenSome sc gives keeps before now
has-driven-some {D} {gives} {keeps} {sc} {drive} {before} {now} {k} {turns} {over} is = record {
  records = is.way.world.book.given;
  turns = turns;
  first = first-given sc drive k turns over is.way;
  through = is.through;
}

pub has-driven : {D : Type 0} {gives : D → Turn → Turn → Type 0} {keeps : D → D → Turn → Type 0} {sc drive before now k turns : _}
    → IsOnItsWay gives keeps sc drive before now k turns true → HasDriven sc gives keeps before now
has-driven {D} {gives} {keeps} {sc} {drive} {before} {now} {k} {turns} is = record {
  turns = turns;
  through = subst (λ records. GoesThrough gives keeps before now records turns) (whole-given sc drive k turns is.way) is.through;
}

-- A drive that keeps its turns.

kept-all : (before after : KeptTurns) (records : List Record) (turns : List Turn) → GoesThrough gives_kept Keeps before after records turns
    → length before.turns + length records ≤ before.room
    → (after.turns ≡ before.turns ++ map (λ r. given_for before.mask (turn_of r)) records)
    × ((after.telling ≡ before.telling) × ((after.room ≡ before.room) × (after.mask ≡ before.mask)))
kept-all before after [] [] same room =
    (ap (λ d. d.turns) same ∙ sym (append-nil before.turns), (ap (λ d. d.telling) same, (ap (λ d. d.room) same, ap (λ d. d.mask) same)))
kept-all before after [] (t ∷ turns) none room = absurd none
kept-all before after (r ∷ records) [] none room = absurd none
kept-all before after (r ∷ records) (t ∷ turns) through room =
    let mid : KeptTurns = through.0 in
    let given : t ≡ given_for before.mask (turn_of r) = through.1.0 in
    let keeps : Keeps before mid t = through.1.1.0 in
    let free : length before.turns < before.room = omega (arith, room) in
    let kept : mid.turns ≡ before.turns ++ t ∷ [] = keeps.kept free in
    let long : length mid.turns ≡ length before.turns + 1 = ap length kept ∙ length-append before.turns (t ∷ []) in
    let same_room = keeps.room in
    let rest = kept-all mid after records turns through.1.1.1 (omega (arith, room, long, same_room)) in (
      rest.0
          ∙ ap (λ xs. xs ++ map (λ r. given_for mid.mask (turn_of r)) records) kept
          ∙ ap (λ mask. (before.turns ++ t ∷ []) ++ map (λ r. given_for mask (turn_of r)) records) keeps.mask
          ∙ append_assoc before.turns (t ∷ []) (map (λ r. given_for before.mask (turn_of r)) records)
          ∙ ap (λ x. before.turns ++ x ∷ map (λ r. given_for before.mask (turn_of r)) records) given,
      (rest.1.0 ∙ keeps.telling free, (rest.1.1.0 ∙ keeps.room, rest.1.1.1 ∙ keeps.mask)),
    )

pub mem-drives-keep : MemDrivesKeepTheRun
mem-drives-keep sc before after driven room =
    let all = kept-all before after (records_of sc []) driven.turns driven.through room in
    record { turns = all.0; telling = all.1.0; room = all.1.1.0; mask = all.1.1.1 }
