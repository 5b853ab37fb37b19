-- A run of which some turns have been given.
use Rattle.std.proofs.{Common.{◌≡◌, ℕ, ◌^◌, ◌<◌, Bool, true, false, Option, Some, None, List, [], ◌∷◌, ◌++◌, length, map, refl, sym, ap, ◌∙◌, subst, append_assoc, arith, slice_get, length-append}, lemmas.List.{append-nil, length-map, map-append}}
use Rattle.std.specs.List.{last_or}
use Rattle.rb_base.proofs.Plain.{last_or-append}
use Rattle.rb_rules.specs.{Book.Record, Goodness.Scenario, Lawful.IsLawful, Ports.HandIn, Rounds.records_of, WorldStep.{IsPrefix, World}}
use Rattle.rb_world_book.specs.{Records.record_of, declared.turn.Turn.Turn}
use Rattle.rb_laws_events.proofs.EventsHold.{events-hold}
use Rattle.rb_run.specs.{declared.ending.Ending.Ending, Runs.{EndsWith, HasGivenNothing, end_at}, Seen.{SeenDrive, drive_of}, Turns.{AreAll, AreGiven, TellsAll, turn_of}}
use Rattle.rb_run.proofs.Bounds.{few-records}
use Rattle.rb_world.specs.{declared.ties.Ties.TheVariants.First, Driving.{GoesAlike, Tells, bare}, Nexts.{GoesToNext, is_last}, Numbering.{GoesInRounds, IsNextRecord}, Worlds.{KeptWorld, Stands}}
use Rattle.rb_world.proofs.{LastTurn.{reached-ended, reached-gave}, Numbered.{alike-in-rounds, alike-last, next-in-rounds}}
use Rattle.rb_world_book.specs.declared.turn.Turn.TheVariants as shown

-- `turns` were given, and `over` says whether the run has ended
pub record IsUnderWay (sc : Scenario) (drive : SeenDrive) (k : KeptWorld) (turns : List Turn) (over : Bool) : Type 0 where
  pub world : World
  pub stands : Stands k world
  pub bus : k.bus ≡ sc
  pub hands : world.hands ≡ []
  pub alike : map bare turns ≡ map (λ r. bare (turn_of r)) world.book.given
  pub plain : drive.is_plain ≡ true → turns ≡ map turn_of world.book.given
  pub tells : TellsAll drive.told drive.since turns
  pub ended : world.book.ended ≡ over

-- Turns and records.

pub turn-is : (t : Turn) (r : Record) → record_of t ≡ Some r → t ≡ turn_of r
turn-is shown.Quiet r e = absurd (cc)
turn-is (shown.Frame f) r e = let same : Record.Frame f.frame f.nodes.items f.ports.items ≡ r = cc in ap turn_of same
turn-is (shown.Slot s) r e = let same : Record.Slot s.frame s.slot s.lines.items ≡ r = cc in ap turn_of same
turn-is shown.Ended r e = let same : Record.Ended ≡ r = cc in ap turn_of same
turn-is (shown.Breach place cause) r e = let same : Record.Breach place cause ≡ r = cc in ap turn_of same

pub record-is : (r : Record) → record_of (turn_of r) ≡ Some r
record-is (Record.Frame frame nodes ports) = refl
record-is (Record.Slot frame slot lines) = refl
record-is Record.Ended = refl
record-is (Record.Breach place cause) = refl

pub bare-ends : (t : Turn) → end_at (record_of (bare t)) ≡ end_at (record_of t)
bare-ends shown.Quiet = refl
bare-ends (shown.Frame f) = refl
bare-ends (shown.Slot s) = refl
bare-ends shown.Ended = refl
bare-ends (shown.Breach place cause) = refl

-- turns that are alike end a run alike
pub alike-ends : (t u : Turn) → bare t ≡ bare u → end_at (record_of t) ≡ end_at (record_of u)
alike-ends t u same = sym (bare-ends t) ∙ ap (λ x. end_at (record_of x)) same ∙ bare-ends u

-- a record that ends a run is the last of it
pub ends-last : (o : Option Record) (e : Ending) → end_at o ≡ Some e → is_last o ≡ true
ends-last None e is = absurd (cc)
ends-last (Some (Record.Frame frame nodes ports)) e is = absurd (cc)
ends-last (Some (Record.Slot frame slot lines)) e is = absurd (cc)
ends-last (Some Record.Ended) e is = refl
ends-last (Some (Record.Breach place cause)) e is = refl

pub goes-on : (o : Option Record) → end_at o ≡ None → is_last o ≡ false
goes-on None is = refl
goes-on (Some (Record.Frame frame nodes ports)) is = refl
goes-on (Some (Record.Slot frame slot lines)) is = refl
goes-on (Some Record.Ended) is = absurd (cc)
goes-on (Some (Record.Breach place cause)) is = absurd (cc)

-- Telling.

pub tells-none : (told : Option (List Turn)) → TellsAll told told []
tells-none None = refl
tells-none (Some turns) = sym (append-nil turns)

pub tells-more : (told mid since : Option (List Turn)) (turns : List Turn) (t : Turn) → TellsAll told mid turns → Tells mid since t → TellsAll told since (turns ++ t ∷ [])
tells-more None None since turns t before now = now
tells-more None (Some us) since turns t before now = absurd (cc)
tells-more (Some ts) None None turns t before now = tt
tells-more (Some ts) None (Some vs) turns t before now = absurd (cc)
tells-more (Some ts) (Some us) None turns t before now = tt
tells-more (Some ts) (Some us) (Some vs) turns t before now = now ∙ ap (λ xs. xs ++ t ∷ []) before ∙ append_assoc ts turns (t ∷ [])

-- The start.

pub no-record : (r : Record) (others : List Record) → [] ≡ others ++ r ∷ [] → ⊥
no-record r [] e = absurd (cc)
no-record r (x ∷ others) e = absurd (cc)

pub last-some : (o : Option Record) → is_last o ≡ true → (r : Record) × (o ≡ Some r)
last-some None e = absurd (cc)
last-some (Some r) e = (r, refl)

-- if nothing was given, the run has not ended
pub not-over : (k : KeptWorld) → (begun : HasGivenNothing k) → begun.world.book.ended ≡ false
not-over k begun = by begun.world.book.ended refl
  where
    by : (b : Bool) → begun.world.book.ended ≡ b → begun.world.book.ended ≡ false
    by false e = e
    by true e =
        let some = last-some begun.world.turn (sym (reached-ended k.bus begun.world begun.stands.reached) ∙ e) in
        let gave = reached-gave k.bus begun.world begun.stands.reached some.0 some.1 in
        absurd (no-record some.0 gave.0 (sym begun.given ∙ gave.1))

unfoldable pub begins : (k : KeptWorld) (is_plain : Bool) (told : Option (List Turn)) → HasGivenNothing k → IsUnderWay k.bus (drive_of is_plain told told) k [] false
begins k is_plain told begun = record {
  world = begun.world;
  stands = begun.stands;
  bus = refl;
  hands = begun.hands;
  alike = ap (map (λ r. bare (turn_of r))) (sym begun.given);
  plain = λ _. ap (map turn_of) (sym begun.given);
  tells = tells-none told;
  ended = not-over k begun;
}

-- One turn more.

pub same-record : (xs : List Record) (n : ℕ) (a b : Record) → slice_get xs n ≡ Some a → slice_get xs n ≡ Some b → a ≡ b
same-record xs n a b x y = let both : Some a ≡ Some b = sym x ∙ y in cc

-- what the next call gives
unfoldable pub goes : (sc : Scenario) (is_plain now : Bool) (told mid since : Option (List Turn)) (k after : KeptWorld) (turns : List Turn) (t : Turn) → IsUnderWay sc (drive_of is_plain told mid) k turns false
    → now ≡ is_plain → (now ≡ true → (w : World) → Stands k w → GoesToNext First k after t w) → ((w : World) → Stands k w → GoesAlike k after t w)
    → after.bus ≡ k.bus → Tells mid since t → IsUnderWay sc (drive_of is_plain told since) after (turns ++ t ∷ []) (is_last (record_of t))
goes sc is_plain now told mid since k after turns t is stays plain alike bus tells =
    let a : GoesAlike k after t is.world = alike is.world is.stands in
    let r : GoesInRounds k after a.turn is.world = alike-in-rounds k after t is.world is.stands a in
    let one : IsNextRecord k.bus is.world r.next r.given = r.rounds.going is.ended in
    let same : bare t ≡ bare (turn_of r.given) = a.alike ∙ ap bare (turn-is a.turn r.given r.turn_is) in
    record {
      world = r.next;
      stands = r.stands;
      bus = bus ∙ is.bus;
      hands = r.rounds.hands ∙ is.hands;
      alike =
          map-append bare turns (t ∷ []) ∙ ap (λ xs. xs ++ bare t ∷ []) is.alike
          ∙ ap (λ x. map (λ r. bare (turn_of r)) is.world.book.given ++ x ∷ []) same
          ∙ sym (map-append (λ r. bare (turn_of r)) is.world.book.given (r.given ∷ []))
          ∙ ap (map (λ r. bare (turn_of r))) (sym one.added);
      plain = λ yes.
          let p : GoesInRounds k after t is.world = next-in-rounds First k after t is.world is.stands (plain (stays ∙ yes) is.world is.stands) in
          let this : p.given ≡ r.given =
          same-record (records_of k.bus is.world.hands) (length is.world.book.given) p.given r.given (p.rounds.going is.ended).is_next one.is_next in
          let turn : t ≡ turn_of r.given = turn-is t p.given p.turn_is ∙ ap turn_of this in
          ap (λ xs. xs ++ t ∷ []) (is.plain yes)
          ∙ ap (λ x. map turn_of is.world.book.given ++ x ∷ []) turn
          ∙ sym (map-append turn_of is.world.book.given (r.given ∷ []))
          ∙ ap (map turn_of) (sym one.added);
      tells = tells-more told mid since turns t is.tells tells;
      ended = r.rounds.ended ∙ ap is_last (sym r.turn_is) ∙ sym (alike-last t a.turn a.alike);
    }

-- What is known of it.

pub first-given : (sc : Scenario) (drive : SeenDrive) (k : KeptWorld) (turns : List Turn) (over : Bool) → (is : IsUnderWay sc drive k turns over)
    → IsPrefix is.world.book.given (records_of sc [])
first-given sc drive k turns over is =
    let rounds = events-hold k.bus is.stands.lawful in
    let reached = is.stands.reached in
    let first : IsPrefix is.world.book.given (records_of k.bus is.world.hands) =
    subst (λ (w : World). IsPrefix w.book.given (records_of k.bus w.hands)) (sym reached.is) (rounds.first reached.choices) in
    let none : IsPrefix is.world.book.given (records_of k.bus []) = subst (λ (hands : List HandIn). IsPrefix is.world.book.given (records_of k.bus hands)) is.hands first in
    subst (λ (s : Scenario). IsPrefix is.world.book.given (records_of s [])) is.bus none

pub are-given : (sc : Scenario) (drive : SeenDrive) (k : KeptWorld) (turns : List Turn) (over : Bool) → IsUnderWay sc drive k turns over
    → AreGiven sc drive turns
are-given sc drive k turns over is = record {
  records = is.world.book.given;
  first = first-given sc drive k turns over is;
  alike = is.alike;
  plain = is.plain;
  told = is.tells;
}

many-given : (sc : Scenario) (drive : SeenDrive) (k : KeptWorld) (turns : List Turn) (over : Bool) → (is : IsUnderWay sc drive k turns over)
    → length turns ≡ length is.world.book.given
many-given sc drive k turns over is =
    sym (length-map turns bare) ∙ ap length is.alike ∙ length-map is.world.book.given (λ r. bare (turn_of r))

-- fewer than 2^31 turns were given
pub few-turns : (sc : Scenario) (drive : SeenDrive) (k : KeptWorld) (turns : List Turn) (over : Bool) → IsUnderWay sc drive k turns over
    → length turns < 2 ^ 31
few-turns sc drive k turns over is =
    let many = many-given sc drive k turns over is in
    let first = first-given sc drive k turns over is in
    let all = ap length first.1 ∙ length-append is.world.book.given first.0 in
    let few = few-records sc [] (subst IsLawful is.bus is.stands.lawful) in
    omega (arith, many, all, few)

pub whole-given : (sc : Scenario) (drive : SeenDrive) (k : KeptWorld) (turns : List Turn) → (is : IsUnderWay sc drive k turns true)
    → is.world.book.given ≡ records_of sc []
whole-given sc drive k turns is =
    let reached = is.stands.reached in
    let whole : is.world.book.given ≡ records_of k.bus is.world.hands =
    subst (λ (w : World). w.book.ended ≡ true → w.book.given ≡ records_of k.bus w.hands) (sym reached.is) ((events-hold k.bus is.stands.lawful).whole reached.choices) is.ended in
    whole ∙ ap (records_of k.bus) is.hands ∙ ap (λ (s : Scenario). records_of s []) is.bus

-- at the end of the run all turns were given
pub are-all : (sc : Scenario) (drive : SeenDrive) (k : KeptWorld) (turns : List Turn) → IsUnderWay sc drive k turns true → AreAll sc turns
are-all sc drive k turns is =
    many-given sc drive k turns true is ∙ ap length (whole-given sc drive k turns is)

last-map : {X Y : Type 0} (f : X → Y) (xs : List X) (o : Option X) (p : Option Y) (y : Y) → (o ≡ None → p ≡ None)
    → ((x : X) → o ≡ Some x → p ≡ Some (f x)) → last_or p (map f xs) ≡ Some y → (x : X) × ((last_or o xs ≡ Some x) × (f x ≡ y))
last-map f [] None p y none some e = absurd (let never : None ≡ Some y = sym (none refl) ∙ e in cc)
last-map f [] (Some x) p y none some e = (x, (refl, let both : Some (f x) ≡ Some y = sym (some x refl) ∙ e in cc))
last-map f (x ∷ xs) o p y none some e = last-map f xs (Some x) (Some (f x)) y (λ e. absurd (cc)) (λ z e. let same : x ≡ z = cc in ap (λ v. Some (f v)) same) e

-- if a turn ends the run, the run is over after it
pub finished : (sc : Scenario) (drive : SeenDrive) (k : KeptWorld) (turns : List Turn) (t : Turn) (e : Ending)
    → IsUnderWay sc drive k turns (is_last (record_of t)) → end_at (record_of t) ≡ Some e → IsUnderWay sc drive k turns true
finished sc drive k turns t e is ends = subst (λ over. IsUnderWay sc drive k turns over) (ends-last (record_of t) e ends) is

pub ends-so : (sc : Scenario) (drive : SeenDrive) (k : KeptWorld) (turns : List Turn) (t : Turn) (e : Ending)
    → IsUnderWay sc drive k (turns ++ t ∷ []) (is_last (record_of t)) → end_at (record_of t) ≡ Some e → EndsWith sc e
ends-so sc drive k turns t e going ends =
    let is : IsUnderWay sc drive k (turns ++ t ∷ []) true = finished sc drive k (turns ++ t ∷ []) t e going ends in
    let last : last_or None (map (λ r. bare (turn_of r)) is.world.book.given) ≡ Some (bare t) =
    ap (last_or None) (sym is.alike ∙ map-append bare turns (t ∷ [])) ∙ last_or-append None (map bare turns) (bare t) in
    let r = last-map (λ r. bare (turn_of r)) is.world.book.given None None (bare t) (λ e. refl) (λ x e. absurd (cc)) last in
    ap (λ rs. end_at (last_or None rs)) (sym (whole-given sc drive k (turns ++ t ∷ []) is))
    ∙ ap end_at r.1.0
    ∙ ap end_at (sym (record-is r.0))
    ∙ alike-ends (turn_of r.0) t r.1.1
    ∙ ends
