-- A bus in a host's hands, call by call: the run that it is in before and after each call.
use Rattle.std.proofs.{Common.{◌≡◌, ℕ, All, Bool, true, false, Option, Some, None, is_some, List, [], ◌∷◌, ◌++◌}, Common.{length, get_or, slice_get, refl, sym, ap, ◌∙◌, subst}, lemmas.List.Elements.{All-cons, All-head, All-nil, All-tail}}
use Rattle.rb_base.specs.Nodes.Side.{Biu}
use Rattle.rb_laws_agreement.proofs.TablesHold.{held-delivered}
use Rattle.rb_laws_events.proofs.EventsHold.{events-hold}
use Rattle.rb_laws_groups.specs.Lines.{IsRight}
use Rattle.rb_laws_promise.proofs.Whole.{kept}
use Rattle.rb_laws_promise.specs.Promise.{KeepsThePromise}
use Rattle.rb_rules.specs.{Book.Record, Goodness.{Scenario, is_good}, Entries.IsListed, Lawful.IsLawful, Ports.{HandIn, with_state}, Rounds.records_of, WorldStep.{IsPrefix, World, first_world, frame_in, hand}}
use Rattle.rb_scenario.specs.{Acceptance.{IsAccepted, as_scenario}, declared.scenario.Scenario.Scenario as Accepted}
use Rattle.rb_world.specs.{declared.last.Last.Last, declared.ties.Ties.TheVariants.First, Nexts.{GoesToNext, is_last}, Numbering.{GoesInRounds, IsLastAgain, IsNextRecord}, Worlds.{KeptWorld, Stands, last_of}}
use Rattle.rb_world_book.specs.{Records.record_of, declared.turn.Turn.Turn}
use Rattle.rb_bus.specs.{Access.IsAccessOf, Buses.{Gives, GivesLastAgain, GivesNext, HandsIn, HasRun, KeepsItsPromise}, Buses.{ForItsRun, Opens, Run, records_in}, declared.access.Access.Access, declared.bus.Bus.Bus}
use Rattle.rb_world.specs.declared.last.Last.TheVariants as last

-- Opening.

pub opens : (text : List ℕ) (accepted : Accepted) (world : KeptWorld) (access : Access) → IsAccepted text accepted
    → IsLawful (as_scenario accepted) → IsListed (as_scenario accepted) → Stands world (first_world (as_scenario accepted)) → world.bus ≡ as_scenario accepted
    → IsAccessOf (as_scenario accepted) access → Opens text (record { world = world; access = access; begun = None })
unfolding first_world
opens text accepted world access is lawful listed stands bus of = record {
  accepted = accepted;
  is = is;
  lawful = lawful;
  listed = listed;
  runs = record {
    world = first_world (as_scenario accepted);
    stands = stands;
    bus_is = bus;
    hands_are = refl;
    given_are = refl;
    over_is = refl;
    access_is = of;
    begun_is = refl;
  };
}

-- The frame of the last turn.

abbrev last_frame : Last → Option ℕ
last_frame last.Quiet = None
last_frame (last.Frame frame) = Some frame
last_frame last.Slot = None
last_frame last.Ended = None
last_frame (last.Breach place cause) = None

frame-kept : (o : Option Record) → frame_in o ≡ last_frame (last_of o)
frame-kept None = refl
frame-kept (Some (Record.Frame frame nodes ports)) = refl
frame-kept (Some (Record.Slot frame slot lines)) = refl
frame-kept (Some Record.Ended) = refl
frame-kept (Some (Record.Breach place cause)) = refl

-- all worlds that one kept world stands for have the same last frame
one-frame : (k : KeptWorld) (w x : World) → Stands k w → Stands k x → frame_in w.turn ≡ frame_in x.turn
one-frame k w x a b = frame-kept w.turn ∙ ap last_frame (sym a.last ∙ b.last) ∙ sym (frame-kept x.turn)

-- The next record.

some-record : (o : Option Record) → is_some o ≡ true → (r : Record) × (o ≡ Some r)
some-record None is = absurd (let never : false ≡ true = is in cc)
some-record (Some r) is = (r, refl)

same-record : (o : Option Record) (r s : Record) → o ≡ Some r → o ≡ Some s → r ≡ s
same-record o r s a b = let both : Some r ≡ Some s = sym a ∙ b in cc

-- a call of the world gives turn `t` and the bus afterwards, and `begun` is the frame that the turn
-- begins
record IsCalled (b : Bus) (after : KeptWorld) (t : Turn) (begun : Option ℕ) : Type 0 where
  goes : (w : World) → Stands b.world w → GoesToNext First b.world after t w
  rounds : (w : World) → Stands b.world w → GoesInRounds b.world after t w
  bus : after.bus ≡ b.world.bus
  begins : begun ≡ frame_in (record_of t)

abbrev bus_after : Bus → KeptWorld → Option ℕ → Bus
bus_after b after begun = record { world = after; access = b.access; begun = begun }

-- before the run has ended a call gives the next record
goes-on : (run : Run) (b : Bus) (after : KeptWorld) (t : Turn) (r : Record) (begun : Option ℕ) → HasRun run b
    → IsCalled b after t begun → record_of t ≡ Some r → run.over ≡ false → GivesNext run r (bus_after b after begun)
goes-on run b after t r begun is call turn going =
    let g : GoesToNext First b.world after t is.world = call.goes is.world is.stands in
    let x : GoesInRounds b.world after t is.world = call.rounds is.world is.stands in
    let one : IsNextRecord b.world.bus is.world x.next x.given = x.rounds.going (is.over_is ∙ going) in
    let same : x.given ≡ r = same-record (record_of t) x.given r x.turn_is turn in
    record {
      is_next =
          ap (λ (s : Scenario). slice_get (records_of s run.hands) (length run.given)) (sym is.bus_is)
          ∙ ap (λ (hs : List HandIn). slice_get (records_of b.world.bus hs) (length run.given)) (sym is.hands_are)
          ∙ ap (λ (rs : List Record). slice_get (records_of b.world.bus is.world.hands) (length rs)) (sym is.given_are)
          ∙ one.is_next ∙ ap (λ x. Some x) same;
      runs = record {
        world = x.next;
        stands = x.stands;
        bus_is = call.bus ∙ is.bus_is;
        hands_are = x.rounds.hands ∙ is.hands_are;
        given_are = one.added ∙ ap (λ rs. rs ++ x.given ∷ []) is.given_are ∙ ap (λ x. run.given ++ x ∷ []) same;
        over_is = x.rounds.ended ∙ ap (λ x. is_last (Some x)) same;
        access_is = is.access_is;
        begun_is = call.begins ∙ ap frame_in (sym g.gives.turn_is) ∙ one-frame after g.next x.next g.gives.stands x.stands;
      };
    }

-- once the run has ended a call gives its last record again
gives-again : (run : Run) (b : Bus) (after : KeptWorld) (t : Turn) (r : Record) (begun : Option ℕ) → HasRun run b
    → IsCalled b after t begun → record_of t ≡ Some r → run.over ≡ true → GivesLastAgain run r (bus_after b after begun)
gives-again run b after t r begun is call turn over =
    let g : GoesToNext First b.world after t is.world = call.goes is.world is.stands in
    let x : GoesInRounds b.world after t is.world = call.rounds is.world is.stands in
    let again : IsLastAgain b.world.bus is.world x.next x.given = x.rounds.over (is.over_is ∙ over) in
    let same : x.given ≡ r = same-record (record_of t) x.given r x.turn_is turn in
    let ended : x.next.book.ended ≡ run.over = ap (λ (w : World). w.book.ended) again.stays ∙ is.over_is in
    record {
      others = again.others;
      is =
          sym is.given_are ∙ ap (λ (w : World). w.book.given) (sym again.stays) ∙ x.rounds.all (ended ∙ over) ∙ again.is
          ∙ ap (λ x. again.others ++ x ∷ []) same;
      runs = record {
        world = x.next;
        stands = x.stands;
        bus_is = call.bus ∙ is.bus_is;
        hands_are = x.rounds.hands ∙ is.hands_are;
        given_are = ap (λ (w : World). w.book.given) again.stays ∙ is.given_are;
        over_is = ended;
        access_is = is.access_is;
        begun_is = call.begins ∙ ap frame_in (sym g.gives.turn_is) ∙ one-frame after g.next x.next g.gives.stands x.stands;
      };
    }

pub gives : (b : Bus) (after : KeptWorld) (t : Turn) (begun : Option ℕ)
    → ((w : World) → Stands b.world w → GoesToNext First b.world after t w)
    → ((w : World) → Stands b.world w → GoesInRounds b.world after t w) → is_some (record_of t) ≡ true
    → after.bus ≡ b.world.bus → begun ≡ frame_in (record_of t) → Gives b (bus_after b after begun) t
gives b after t begun goes rounds some bus begins =
    let call : IsCalled b after t begun = record { goes = goes; rounds = rounds; bus = bus; begins = begins } in
    let r : Record = (some-record (record_of t) some).0 in
    let turn : record_of t ≡ Some r = (some-record (record_of t) some).1 in
    record {
      given_now = r;
      turn_is = turn;
      begins = begins ∙ ap frame_in turn;
      gives = λ run is. record {
        next = goes-on run b after t r begun is call turn;
        again = gives-again run b after t r begun is call turn;
      };
    }

-- The promise.

all-first : (P : Record → Type 0) (xs ys : List Record) → All P (xs ++ ys) → All P xs
all-first P [] ys all = All-nil P
all-first P (x ∷ xs) ys all = All-cons P x xs (All-head P x (xs ++ ys) all) (all-first P xs ys (All-tail P x (xs ++ ys) all))

pub promised : (b : Bus) → KeepsItsPromise b
promised b run is =
    let lawful : IsLawful run.scenario = subst IsLawful is.bus_is is.stands.lawful in
    let k : KeepsThePromise run.scenario run.hands = kept run.scenario run.hands lawful in
    record {
      first = first;
      whole = λ e. whole (is.over_is ∙ e);
      slots =
          all-first (IsRight run.scenario run.hands) run.given first.0
          (subst (All (IsRight run.scenario run.hands)) first.1 k.records);
      keeps = k;
      words = held-delivered lawful k.headline.words;
    }
  where
    records-are : records_of b.world.bus is.world.hands ≡ records_in run
    records-are = ap (λ (s : Scenario). records_of s is.world.hands) is.bus_is ∙ ap (records_of run.scenario) is.hands_are

    first : IsPrefix run.given (records_in run)
    first =
        let reached = is.stands.reached in
        let there : IsPrefix is.world.book.given (records_of b.world.bus is.world.hands) =
        subst (λ (w : World). IsPrefix w.book.given (records_of b.world.bus w.hands)) (sym reached.is)
        ((events-hold b.world.bus is.stands.lawful).first reached.choices) in
        subst (λ (rs : List Record). IsPrefix rs (records_in run)) is.given_are
        (subst (IsPrefix is.world.book.given) records-are there)

    whole : is.world.book.ended ≡ true → run.given ≡ records_in run
    whole ended =
        let reached = is.stands.reached in
        let there : is.world.book.given ≡ records_of b.world.bus is.world.hands =
        subst (λ (w : World). w.book.ended ≡ true → w.book.given ≡ records_of b.world.bus w.hands) (sym reached.is)
        ((events-hold b.world.bus is.stands.lawful).whole reached.choices) ended in
        sym is.given_are ∙ there ∙ records-are

-- A word.

abbrev with_hand : World → ℕ → ℕ → ℕ → World
with_hand w biu state frame =
    record w { ports = with_state biu state w.ports; hands = w.hands ++ record { frame = frame; biu = biu; state = state } ∷ [] }

abbrev handed_if : World → ℕ → ℕ → ℕ → Bool → World
handed_if w biu state frame good = elim good [ true ↦ with_hand w biu state frame | false ↦ w ]

hand-is : (sc : Scenario) (w : World) (biu state frame : ℕ) → frame_in w.turn ≡ Some frame → is_good sc Biu biu frame 0 ≡ true
    → hand sc w biu state ≡ with_hand w biu state frame
unfolding hand
hand-is sc w biu state frame at good =
    ap (λ (o : Option ℕ).
    elim o as (λ _. World) [ None ↦ w | Some frame ↦ handed_if w biu state frame (is_good sc Biu biu frame 0) ]) at
    ∙ ap (handed_if w biu state frame) good

pub hands-in : (b : Bus) (after : KeptWorld) (biu word frame : ℕ) → b.begun ≡ Some frame
    → ((w : World) → Stands b.world w → Stands after (hand b.world.bus w biu word)) → after.bus ≡ b.world.bus
    → ((sc : Scenario) → IsAccessOf sc b.access → is_good sc Biu biu frame 0 ≡ true)
    → ((sc : Scenario) → IsAccessOf sc b.access → get_or sc.apps biu 0 ≡ 0)
    → ForItsRun (λ run. HandsIn run biu word b (bus_after b after b.begun)) b
hands-in b after biu word frame now handed bus good table run is =
    let at : frame_in is.world.turn ≡ Some frame = sym is.begun_is ∙ now in
    let here : is_good run.scenario Biu biu frame 0 ≡ true = good run.scenario is.access_is in
    let there : is_good b.world.bus Biu biu frame 0 ≡ true =
    ap (λ (s : Scenario). is_good s Biu biu frame 0) is.bus_is ∙ here in
    let same : hand b.world.bus is.world biu word ≡ with_hand is.world biu word frame =
    hand-is b.world.bus is.world biu word frame at there in
    record {
      frame = frame;
      now = now;
      good = here;
      table = table run.scenario is.access_is;
      again = refl;
      runs = record {
        world = with_hand is.world biu word frame;
        stands = subst (Stands after) same (handed is.world is.stands);
        bus_is = bus ∙ is.bus_is;
        hands_are = ap (λ hs. hs ++ record { frame = frame; biu = biu; state = word } ∷ []) is.hands_are;
        given_are = is.given_are;
        over_is = is.over_is;
        access_is = is.access_is;
        begun_is = is.begun_is;
      };
    }
