-- A run to which states are handed, turn by turn.
use Rattle.std.proofs.{Common.{◌≡◌, ℕ, ◌^◌, ◌<◌, Bool, true, false, Option, Some, None, option_and_then, List, [], ◌∷◌, ◌++◌, length, map, refl, sym, ap, ◌∙◌, subst, arith, length-append}, lemmas.List.{length-map, map-append}}
use Rattle.rb_base.proofs.Plain.{last_or-append}
use Rattle.rb_rules.specs.{Book.Record, Goodness.Scenario, Lawful.IsLawful, Ports.HandIn, Rounds.records_of, WorldStep.{IsPrefix, World, frame_in}}
use Rattle.rb_world_book.specs.{Records.record_of, declared.turn.Turn.Turn}
use Rattle.rb_laws_events.proofs.EventsHold.{events-hold}
use Rattle.rb_run.specs.{declared.ending.Ending.Ending, Runs.{HasGivenNothing, end_at}, Turns.turn_of}
use Rattle.rb_run.proofs.{Bounds.few-records, UnderWay.{ends-last, no-record, not-over, same-record, tells-more, tells-none, turn-is}}
use Rattle.rb_world.specs.{declared.ties.Ties.TheVariants.First, Driving.{GoesAlike, Tells, bare}, Nexts.{GoesToNext, is_last}, Numbering.{GoesInRounds, IsNextRecord}, declared.last.Last.Last, Worlds.{KeptWorld, Stands, last_of}}
use Rattle.rb_world.proofs.{LastTurn.reached-gave, Numbered.{alike-in-rounds, alike-last, next-in-rounds}}
use Rattle.rb_bridge.specs.Running.{AreNotLast, IsUnderWay, latest}
use Rattle.rb_bridge.proofs.Handed.{IsHanded}
use Rattle.rb_world_book.specs.declared.turn.Turn.TheVariants as shown
use Rattle.rb_world.specs.declared.last.Last.TheVariants as last

-- The start.

pub begins : (k : KeptWorld) (is_plain : Bool) (told : Option (List Turn)) → HasGivenNothing k → IsUnderWay k.bus [] is_plain told told k [] false
begins k is_plain told begun = record {
  world = begun.world;
  stands = begun.stands;
  bus = refl;
  hands = begun.hands;
  alike = ap (map (λ r. bare (turn_of r))) (sym begun.given);
  plain = λ _. ap (map turn_of) (sym begun.given);
  tells = tells-none told;
  frame = no-frame begun.world.turn refl;
  ended = not-over k begun;
  goes_on = λ e. tt;
}
  where
    no-frame : (o : Option Record) → begun.world.turn ≡ o → frame_in o ≡ None
    no-frame None e = refl
    no-frame (Some r) e =
        let gave = reached-gave k.bus begun.world begun.stands.reached r e in
        absurd (no-record r gave.0 (sym begun.given ∙ gave.1))

-- The frame of the last turn.

abbrev last_frame : Last → Option ℕ
last_frame last.Quiet = None
last_frame (last.Frame frame) = Some frame
last_frame last.Slot = None
last_frame last.Ended = None
last_frame (last.Breach place cause) = None

frame-kept : (o : Option Record) → frame_in o ≡ last_frame (last_of o)
frame-kept None = refl
frame-kept (Some (Record.Frame frame nodes ports)) = refl
frame-kept (Some (Record.Slot frame slot lines)) = refl
frame-kept (Some Record.Ended) = refl
frame-kept (Some (Record.Breach place cause)) = refl

-- what is kept stands for worlds of one last frame
one-frame : (k : KeptWorld) (w x : World) → Stands k w → Stands k x → frame_in w.turn ≡ frame_in x.turn
one-frame k w x a b = frame-kept w.turn ∙ ap last_frame (sym a.last ∙ b.last) ∙ sym (frame-kept x.turn)

bare-frame : (t : Turn) → frame_in (record_of (bare t)) ≡ frame_in (record_of t)
bare-frame shown.Quiet = refl
bare-frame (shown.Frame f) = refl
bare-frame (shown.Slot s) = refl
bare-frame shown.Ended = refl
bare-frame (shown.Breach place cause) = refl

alike-frame : (t u : Turn) → bare t ≡ bare u → frame_in (record_of t) ≡ frame_in (record_of u)
alike-frame t u same = sym (bare-frame t) ∙ ap (λ x. frame_in (record_of x)) same ∙ bare-frame u

pub latest-more : (turns : List Turn) (t : Turn) → latest (turns ++ t ∷ []) ≡ record_of t
latest-more turns t = ap (option_and_then record_of) (last_or-append None turns t)

-- One turn more.

not-last-more : (turns : List Turn) (t : Turn) → AreNotLast turns → is_last (record_of t) ≡ false → AreNotLast (turns ++ t ∷ [])
not-last-more [] t all one = (one, tt)
not-last-more (u ∷ us) t all one = (all.0, not-last-more us t all.1 one)

-- what the next call gives
pub goes : (sc : Scenario) (handed : List HandIn) (is_plain now : Bool) (told mid since : Option (List Turn)) (k after : KeptWorld) (turns : List Turn) (t : Turn) → IsUnderWay sc handed is_plain told mid k turns false
    → now ≡ is_plain → (now ≡ true → (w : World) → Stands k w → GoesToNext First k after t w) → ((w : World) → Stands k w → GoesAlike k after t w)
    → after.bus ≡ k.bus → Tells mid since t → IsUnderWay sc handed is_plain told since after (turns ++ t ∷ []) (is_last (record_of t))
goes sc handed is_plain now told mid since k after turns t is stays plain alike bus tells =
    let a : GoesAlike k after t is.world = alike is.world is.stands in
    let r : GoesInRounds k after a.turn is.world = alike-in-rounds k after t is.world is.stands a in
    let one : IsNextRecord k.bus is.world r.next r.given = r.rounds.going is.ended in
    let same : bare t ≡ bare (turn_of r.given) = a.alike ∙ ap bare (turn-is a.turn r.given r.turn_is) in
    record {
      world = r.next;
      stands = r.stands;
      bus = bus ∙ is.bus;
      hands = r.rounds.hands ∙ is.hands;
      alike =
          map-append bare turns (t ∷ []) ∙ ap (λ xs. xs ++ bare t ∷ []) is.alike
          ∙ ap (λ x. map (λ r. bare (turn_of r)) is.world.book.given ++ x ∷ []) same
          ∙ sym (map-append (λ r. bare (turn_of r)) is.world.book.given (r.given ∷ []))
          ∙ ap (map (λ r. bare (turn_of r))) (sym one.added);
      plain = λ yes.
          let p : GoesInRounds k after t is.world = next-in-rounds First k after t is.world is.stands (plain (stays ∙ yes) is.world is.stands) in
          let this : p.given ≡ r.given =
          same-record (records_of k.bus is.world.hands) (length is.world.book.given) p.given r.given (p.rounds.going is.ended).is_next one.is_next in
          let turn : t ≡ turn_of r.given = turn-is t p.given p.turn_is ∙ ap turn_of this in
          ap (λ xs. xs ++ t ∷ []) (is.plain yes)
          ∙ ap (λ x. map turn_of is.world.book.given ++ x ∷ []) turn
          ∙ sym (map-append turn_of is.world.book.given (r.given ∷ []))
          ∙ ap (map turn_of) (sym one.added);
      tells = tells-more told mid since turns t is.tells tells;
      frame =
          one-frame after r.next a.goes.next r.stands a.goes.gives.stands ∙ ap frame_in a.goes.gives.turn_is
          ∙ alike-frame a.turn t (sym a.alike) ∙ ap frame_in (sym (latest-more turns t));
      ended = r.rounds.ended ∙ ap is_last (sym r.turn_is) ∙ sym (alike-last t a.turn a.alike);
      goes_on = λ e. not-last-more turns t (is.goes_on refl) e;
    }

-- What is known of it.

pub first-given : (sc : Scenario) (handed : List HandIn) (is_plain : Bool) (told since : Option (List Turn)) (k : KeptWorld) (turns : List Turn) (over : Bool) → (is : IsUnderWay sc handed is_plain told since k turns over)
    → IsPrefix is.world.book.given (records_of sc handed)
first-given sc handed is_plain told since k turns over is =
    let rounds = events-hold k.bus is.stands.lawful in
    let reached = is.stands.reached in
    let first : IsPrefix is.world.book.given (records_of k.bus is.world.hands) =
    subst (λ (w : World). IsPrefix w.book.given (records_of k.bus w.hands)) (sym reached.is) (rounds.first reached.choices) in
    let none : IsPrefix is.world.book.given (records_of k.bus handed) = subst (λ (hands : List HandIn). IsPrefix is.world.book.given (records_of k.bus hands)) is.hands first in
    subst (λ (s : Scenario). IsPrefix is.world.book.given (records_of s handed)) is.bus none

many-given : (sc : Scenario) (handed : List HandIn) (is_plain : Bool) (told since : Option (List Turn)) (k : KeptWorld) (turns : List Turn) (over : Bool) → (is : IsUnderWay sc handed is_plain told since k turns over)
    → length turns ≡ length is.world.book.given
many-given sc handed is_plain told since k turns over is =
    sym (length-map turns bare) ∙ ap length is.alike ∙ length-map is.world.book.given (λ r. bare (turn_of r))

-- fewer than 2^31 turns were given
pub few-turns : (sc : Scenario) (handed : List HandIn) (is_plain : Bool) (told since : Option (List Turn)) (k : KeptWorld) (turns : List Turn) (over : Bool) → IsUnderWay sc handed is_plain told since k turns over
    → length turns < 2 ^ 31
few-turns sc handed is_plain told since k turns over is =
    let many = many-given sc handed is_plain told since k turns over is in
    let first = first-given sc handed is_plain told since k turns over is in
    let all = ap length first.1 ∙ length-append is.world.book.given first.0 in
    let few = few-records sc handed (subst IsLawful is.bus is.stands.lawful) in
    omega (arith, many, all, few)

pub whole-given : (sc : Scenario) (handed : List HandIn) (is_plain : Bool) (told since : Option (List Turn)) (k : KeptWorld) (turns : List Turn) → (is : IsUnderWay sc handed is_plain told since k turns true)
    → is.world.book.given ≡ records_of sc handed
whole-given sc handed is_plain told since k turns is =
    let reached = is.stands.reached in
    let whole : is.world.book.given ≡ records_of k.bus is.world.hands =
    subst (λ (w : World). w.book.ended ≡ true → w.book.given ≡ records_of k.bus w.hands) (sym reached.is) ((events-hold k.bus is.stands.lawful).whole reached.choices) is.ended in
    whole ∙ ap (records_of k.bus) is.hands ∙ ap (λ (s : Scenario). records_of s handed) is.bus

-- if a turn ends the run, the run is over after it
pub finished : (sc : Scenario) (handed : List HandIn) (is_plain : Bool) (told since : Option (List Turn)) (k : KeptWorld) (turns : List Turn) (t : Turn) (e : Ending)
    → IsUnderWay sc handed is_plain told since k turns (is_last (record_of t)) → end_at (record_of t) ≡ Some e → IsUnderWay sc handed is_plain told since k turns true
finished sc handed is_plain told since k turns t e is ends = subst (λ over. IsUnderWay sc handed is_plain told since k turns over) (ends-last (record_of t) e ends) is

-- What was handed over.

pub handed-over : (sc : Scenario) (handed more : List HandIn) (is_plain : Bool) (told since : Option (List Turn)) (k after : KeptWorld) (turns : List Turn) (over : Bool) (next : World)
    → (is : IsUnderWay sc handed is_plain told since k turns over) → after.bus ≡ k.bus → Stands after next → IsHanded is.world next more
    → IsUnderWay sc (handed ++ more) is_plain told since after turns over
handed-over sc handed more is_plain told since k after turns over next is bus stands h = record {
  world = next;
  stands = stands;
  bus = bus ∙ is.bus;
  hands = h.hands ∙ ap (λ hs. hs ++ more) is.hands;
  alike = is.alike ∙ ap (λ b. map (λ r. bare (turn_of r)) b.given) (sym h.book);
  plain = λ yes. is.plain yes ∙ ap (λ b. map turn_of b.given) (sym h.book);
  tells = is.tells;
  frame = ap frame_in h.turn ∙ is.frame;
  ended = ap (λ b. b.ended) h.book ∙ is.ended;
  goes_on = is.goes_on;
}
