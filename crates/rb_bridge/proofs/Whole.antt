-- What a side has given is the first part of its bus's run with all that the bridge carries.
use Rattle.std.proofs.{Common.{◌≡◌, ℕ, ◌+◌, ◌<◌, ◌≤◌, ◌==◌, max, Bool, true, false, if◌then◌else◌, inl, inr, Option, Some, None, List, [], ◌∷◌, ◌++◌, append_assoc, refl, sym, ◌∙◌, ap, subst, arith}, lemmas.Bool.{cases_lt, eqb-true}}
use Rattle.std.specs.Option.{option_to_list}
use Rattle.rb_base.specs.{declared.values.Heard.Heard, declared.values.Place.Place}
use Rattle.rb_rules.specs.{declared.cause.Cause.Cause, Book.Record, Book.Record.{Frame, Slot, Ended, Breach}, Goodness.Scenario, Lawful.IsLawful, Ports.HandIn, Rounds.records_of, WorldStep.{IsPrefix, World, frame_in, hand}, WorldStep.Choice.Hand}
use Rattle.rb_laws_events.proofs.EventsHold.{events-hold}
use Rattle.rb_world_book.specs.{Records.record_of, declared.turn.Turn.Turn}
use Rattle.rb_run.specs.{Turns.records_in, Seen.drive_of}
use Rattle.rb_run.proofs.{Plain.records-back, Texts.records-more}
use Rattle.rb_world.specs.{Nexts.is_last, Worlds.{IsReached, KeptWorld}}
use Rattle.rb_world.proofs.Turns.{reached-more}
use Rattle.rb_group_run.specs.Replies.{frame_of, reached}
use Rattle.rb_group_run.proofs.Held.{reached_more}
use Rattle.rb_rules_bridge.specs.{declared.bank.Bank.Bank, declared.bank.Pair.Pair, Bridges.{Bridge, IsBridge, across, biu_on, bus_on, carried_slot}, Crossings.{hands_of, hands_on, hands_up_to, records_on, value_told, word_of}, Texts.{Break, break_told}}
use Rattle.rb_laws_bridge.specs.Laws.{AreFirstOf, AreUpTo, BeginsOrEnds, ends_run, frame_told}
use Rattle.rb_laws_bridge.proofs.Stayed.{first-crossed}
use Rattle.rb_bridge.specs.{declared.passing.Terms.Terms, Handing.with_words, Passing.is_over, Running.{AreNotLast, IsUnderWay}, declared.side.Side.Side, Sides.{AfterFrame, BeforeFrame, HasStopped, IsInStep, break_by}}
use Rattle.rb_bridge.proofs.{FramesTold.{breaks-late, no-break, one-frame}, UnderWay.{first-given, latest-more, whole-given}, SidesHanded.{AreHanded, are-handed, begins-next, handed-next, reached-there}, SidesPassed.over-some}

-- Records up to a frame.

upto-reached : (frames frame : ℕ) (records : List Record) → reached frames records ≤ frame → AreUpTo frames frame records
upto-reached frames frame records far xs ys x are =
    let le : frame_of frames x ≤ reached frames (xs ++ x ∷ ys) = reached-there frames xs ys x in
    let all : reached frames records ≡ reached frames (xs ++ x ∷ ys) = ap (reached frames) are in
    let its : frame_told frames x ≡ frame_of frames x = one-frame frames x in
    omega (arith, le, all, its, far)

upto-more : (frames frame : ℕ) (records : List Record) (r : Record) → reached frames records ≤ frame → frame_of frames r ≤ frame → AreUpTo frames frame (records ++ r ∷ [])
upto-more frames frame records r far its =
    let is : reached frames (records ++ r ∷ []) ≡ max (reached frames records) (frame_of frames r) = reached_more frames records (Some r) in
    upto-reached frames frame (records ++ r ∷ []) (omega (arith, is, far, its))

-- What a plain drive has given.

given-in : (sc : Scenario) (handed : List HandIn) (is_plain : Bool) (told since : Option (List Turn)) (k : KeptWorld) (turns : List Turn) (over : Bool)
    → (is : IsUnderWay sc handed is_plain told since k turns over) → is_plain ≡ true → is.world.book.given ≡ records_in turns
given-in sc handed is_plain told since k turns over is sure = sym (records-back is.world.book.given) ∙ ap records_in (sym (is.plain sure))

given-more : (sc : Scenario) (handed : List HandIn) (is_plain : Bool) (told since : Option (List Turn)) (k : KeptWorld) (turns : List Turn) (t : Turn) (r : Record) (over : Bool)
    → (is : IsUnderWay sc handed is_plain told since k (turns ++ t ∷ []) over) → is_plain ≡ true → record_of t ≡ Some r → is.world.book.given ≡ records_in turns ++ r ∷ []
given-more sc handed is_plain told since k turns t r over is sure is-r =
    given-in sc handed is_plain told since k (turns ++ t ∷ []) over is sure ∙ records-more turns t ∙ ap (λ o. records_in turns ++ option_to_list o) is-r

-- if the run is over, the turns that were given are all of its records
pub whole-by : (sc : Scenario) (handed : List HandIn) (is_plain : Bool) (told since : Option (List Turn)) (k : KeptWorld) (turns : List Turn) (over : Bool) → over ≡ true
    → (is : IsUnderWay sc handed is_plain told since k turns over) → is.world.book.given ≡ records_of sc handed
whole-by sc handed is_plain told since k turns true e is = whole-given sc handed is_plain told since k turns is
whole-by sc handed is_plain told since k turns false e is = cc

-- A breach of a frame.

record IsBreachOf (frame : ℕ) (r : Record) : Type 0 where
  pub place : Place
  pub cause : Cause
  pub is : r ≡ Breach place cause
  pub here : place.frame ≡ frame

breach-of : (bank : Bank) (frame : ℕ) (r : Record) (k : Break) → break_told bank frame r ≡ Some k → IsBreachOf frame r
breach-of bank frame (Frame f nodes ports) k e = absurd (cc)
breach-of bank frame (Slot f slot lines) k e = absurd (cc)
breach-of bank frame Ended k e = absurd (cc)
breach-of bank frame (Breach place cause) k e = by (place.frame == frame) (record { bank = bank; place = place; cause = cause }) refl e
  where
    by : (t : Bool) (j : Break) → (place.frame == frame) ≡ t → (if t then Some j else None) ≡ Some k → IsBreachOf frame (Breach place cause)
    by true j here e = record { place = place; cause = cause; is = refl; here = eqb-true place.frame frame here }
    by false j here e = absurd (cc)

breach-upto : (sc : Scenario) (handed : List HandIn) (turns : List Turn) (rest : List Record) (frame : ℕ) (r : Record) → AreNotLast turns → IsBreachOf frame r
    → records_of sc handed ≡ records_in turns ++ r ∷ rest → AreUpTo sc.frames frame (records_in turns ++ r ∷ [])
breach-upto sc handed turns rest frame r going breach are =
    let le : reached sc.frames (records_in turns) ≤ breach.place.frame =
    breaks-late sc handed (records_in turns) rest breach.place breach.cause (are ∙ ap (λ r. records_in turns ++ r ∷ rest) breach.is) (λ bank frame. no-break bank frame turns going) in
    let here : breach.place.frame ≡ frame = breach.here in
    let its : frame_of sc.frames r ≡ breach.place.frame = ap (frame_of sc.frames) breach.is in
    upto-more sc.frames frame (records_in turns) r (omega (arith, le, here)) (omega (arith, its, here))

-- `given` is a first part of the run's records, and `handed` makes the run that all hand-ins make
pub record AreWhole (b : Bridge) (bank : Bank) (handed : List HandIn) (given : List Record) : Type 0 where
  pub first : IsPrefix given (records_on b (hands_of b) bank)
  pub all : records_of (bus_on b bank) handed ≡ records_on b (hands_of b) bank

pub breach-crossed : (b : Bridge) (bank : Bank) (frame : ℕ) (handed : List HandIn) (is_plain : Bool) (told since : Option (List Turn)) (k : KeptWorld) (turns : List Turn) (t : Turn) (break : Break)
    → frame ≤ b.left.frames → is_plain ≡ true → handed ≡ hands_on bank (hands_up_to b frame) → (is : IsUnderWay (bus_on b bank) handed is_plain told since k (turns ++ t ∷ []) (is_last (record_of t)))
    → AreNotLast turns → break_by bank frame (record_of t) ≡ Some break → AreWhole b bank handed is.world.book.given
breach-crossed b bank frame handed is_plain told since k turns t break within sure handed_is is going breaks = by (record_of t) refl
  where
    sc : Scenario
    sc = bus_on b bank

    given : List Record
    given = is.world.book.given

    first : IsPrefix given (records_of sc handed)
    first = first-given sc handed is_plain told since k (turns ++ t ∷ []) (is_last (record_of t)) is

    some : (r : Record) → record_of t ≡ Some r → AreWhole b bank handed given
    some r is-r =
        let breach : IsBreachOf frame r = breach-of bank frame r break (ap (break_by bank frame) (sym is-r) ∙ breaks) in
        let are : given ≡ records_in turns ++ r ∷ [] = given-more sc handed is_plain told since k turns t r (is_last (record_of t)) is sure is-r in
        let upto : AreUpTo sc.frames frame (records_in turns ++ r ∷ []) =
        breach-upto sc handed turns first.0 frame r going breach (first.1 ∙ ap (λ l. l ++ first.0) are ∙ append_assoc (records_in turns) (r ∷ []) first.0) in
        let crossed : AreFirstOf given (records_on b (hands_of b) bank) =
        first-crossed b bank within (subst (λ hs. IsPrefix given (records_of sc hs)) handed_is first) (subst (AreUpTo sc.frames frame) (sym are) upto) in
        let last : is_last (record_of t) ≡ true = ap is_last is-r ∙ ap (λ r. is_last (Some r)) breach.is in
        record {
          first = crossed.first;
          all = sym (whole-by sc handed is_plain told since k (turns ++ t ∷ []) (is_last (record_of t)) last is)
              ∙ sym (crossed.whole (records_in turns) r are (ap ends_run breach.is));
        }

    by : (o : Option Record) → record_of t ≡ o → AreWhole b bank handed given
    by (Some r) e = some r e
    by None e = absurd (none (ap (break_by bank frame) (sym e) ∙ breaks))
      where
        none : None ≡ Some break → ⊥
        none e = cc

-- Before a frame.

pub before-crossed : (b : Bridge) (bank : Bank) (frame : ℕ) (both is_plain : Bool) (told since : Option (List Turn)) (s : Side) → frame ≤ b.left.frames → both ≡ true → is_plain ≡ true
    → (is : BeforeFrame b bank frame both (drive_of is_plain told since) s) → IsPrefix is.ready.given.world.book.given (records_on b (hands_of b) bank)
before-crossed b bank frame both is_plain told since s within two sure is =
    elim (cases_lt frame b.left.frames) [
      | inr past ↦
          let all : frame ≡ b.left.frames = omega (arith, within, past) in
          subst (λ n. IsPrefix given (records_on b (hands_up_to b n) bank)) all first
      | inl below ↦ by below (is_last (record_of s.turn)) refl
    ]
  where
    sc : Scenario
    sc = bus_on b bank

    step : IsInStep b bank frame is.handed s
    step = is.plain two

    given : List Record
    given = is.ready.given.world.book.given

    first : IsPrefix given (records_on b (hands_up_to b frame) bank)
    first =
        subst (λ hs. IsPrefix given (records_of sc hs)) step.handed_is
        (first-given sc is.handed is_plain told since s.world is.turns (is_last (record_of s.turn)) is.ready.given)

    broken : (stop : HasStopped sc is.handed is_plain told since s) → is_last (record_of s.turn) ≡ true → (o : Option Break) → break_by bank frame (record_of s.turn) ≡ o
        → (break_by bank frame (record_of s.turn) ≡ None → ⊥) → IsPrefix given (records_on b (hands_of b) bank)
    broken stop last None e breaks = absurd (breaks e)
    broken stop last (Some k) e breaks =
        let whole : AreWhole b bank is.handed stop.passed.given.world.book.given =
        breach-crossed b bank frame is.handed is_plain told since s.world stop.before s.turn k within sure step.handed_is stop.passed.given stop.passed.going e in
        let same : stop.passed.given.world.book.given ≡ given =
        whole-by sc is.handed is_plain told since s.world (stop.before ++ s.turn ∷ []) (is_last (record_of s.turn)) last stop.passed.given
        ∙ sym (whole-by sc is.handed is_plain told since s.world is.turns (is_last (record_of s.turn)) last is.ready.given) in
        subst (λ records. IsPrefix records (records_on b (hands_of b) bank)) same whole.first

    by : frame < b.left.frames → (l : Bool) → is_last (record_of s.turn) ≡ l → IsPrefix given (records_on b (hands_of b) bank)
    by below true last = broken (is.ready.stopped last) last (break_by bank frame (record_of s.turn)) refl (step.breaks last below)
    by below false last =
        let are : given ≡ records_in is.turns = given-in sc is.handed is_plain told since s.world is.turns (is_last (record_of s.turn)) is.ready.given sure in
        let far : frame ≡ reached s.terms.frames (records_in is.turns) = sym (step.begins last) ∙ (is.ready.holds last).ports.frame_is in
        let all : reached s.terms.frames (records_in is.turns) ≡ reached sc.frames (records_in is.turns) =
        ap (λ n. reached n (records_in is.turns)) (ap (λ (t : Terms). t.frames) is.side.terms_are) in
        let upto : AreUpTo sc.frames frame given = subst (AreUpTo sc.frames frame) (sym are) (upto-reached sc.frames frame (records_in is.turns) (omega (arith, far, all))) in
        (first-crossed b bank within first upto).first

-- After a frame.

reached-words : (sc : Scenario) (bank : Bank) (told : ℕ → Option Heard) (pairs : List Pair) (w : World) → IsReached sc w → IsReached sc (with_words sc bank told pairs w)
reached-words sc bank told [] w is = is
reached-words sc bank told (p ∷ ps) w is =
    let word : ℕ = word_of (told (biu_on (across bank) p)) in
    reached-words sc bank told ps (hand sc w (biu_on bank p) word) (reached-more sc w (Hand (biu_on bank p) word) is)

-- what was given by the start of a frame begins the records of the run with what is then handed
-- over
next-first : (b : Bridge) (bank : Bank) (frame : ℕ) (handed : List HandIn) (is_plain : Bool) (told since : Option (List Turn)) (k : KeptWorld) (turns : List Turn) (over : Bool) (r : Record)
    → (is : IsUnderWay (bus_on b bank) handed is_plain told since k turns over) → handed ≡ hands_on bank (hands_up_to b frame) → BeginsOrEnds (bus_on b bank) (frame + 1) r
    → frame_in is.world.turn ≡ frame_in (Some r) → IsPrefix is.world.book.given (records_on b (hands_up_to b (frame + 1)) bank)
next-first b bank frame handed is_plain told since k turns over r is handed_is begins turned =
    subst (λ hs. IsPrefix w.book.given (records_of sc hs)) (h.is.hands ∙ ap (λ hs. hs ++ h.more) is.hands ∙ all)
    (subst (λ book. IsPrefix book.given (records_of sc next.hands)) h.is.book first)
  where
    sc : Scenario
    sc = bus_on b bank

    near : List Record
    near = records_on b (hands_up_to b frame) (across bank)

    carried : ℕ → Option Heard
    carried = value_told frame (carried_slot b (across bank)) near

    w : World
    w = is.world

    next : World
    next = with_words sc bank carried b.pairs w

    h : AreHanded sc bank carried b.pairs w
    h = are-handed sc bank carried b.pairs w

    there : IsReached sc next
    there = reached-words sc bank carried b.pairs w (subst (λ sc. IsReached sc w) is.bus is.stands.reached)

    first : IsPrefix next.book.given (records_of sc next.hands)
    first =
        subst (λ (w : World). IsPrefix w.book.given (records_of sc w.hands)) (sym there.is)
        ((events-hold sc (subst IsLawful is.bus is.stands.lawful)).first there.choices)

    all : handed ++ h.more ≡ hands_on bank (hands_up_to b (frame + 1))
    all = handed-next b bank frame handed h.more near r (λ receiver. refl) handed_is begins (λ f at. h.here f (turned ∙ at)) (λ gone. h.none (turned ∙ gone))

begins-at : (sc : Scenario) (frame : ℕ) (r : Record) → BeginsOrEnds sc frame r → frame_of sc.frames r ≡ frame
begins-at sc frame r (inr d) = sym (one-frame sc.frames r) ∙ d.its
begins-at sc frame r (inl at) = by r at
  where
    by : (r : Record) → frame_in (Some r) ≡ Some frame → frame_of sc.frames r ≡ frame
    by (Frame g nodes ports) at = cc
    by (Slot g slot lines) at = absurd (cc)
    by Ended at = absurd (cc)
    by (Breach place cause) at = absurd (cc)

pub after-crossed : (b : Bridge) (bank : Bank) (frame : ℕ) (both is_plain : Bool) (told since : Option (List Turn)) (s : Side) → IsBridge b → frame < b.left.frames → both ≡ true → is_plain ≡ true
    → (is : AfterFrame b bank frame both (drive_of is_plain told since) s) → IsPrefix is.passed.given.world.book.given (records_on b (hands_of b) bank)
after-crossed b bank frame both is_plain told since s bridge below two sure is = by (break_by bank frame (record_of s.turn)) refl
  where
    sc : Scenario
    sc = bus_on b bank

    given : List Record
    given = is.passed.given.world.book.given

    handed_is : is.handed ≡ hands_on bank (hands_up_to b frame)
    handed_is = (is.plain two).handed_is

    some : (r : Record) × (record_of s.turn ≡ Some r)
    some = over-some s.terms.frames s.passage.ports.frame (record_of s.turn) is.passed.over

    frames : s.terms.frames ≡ sc.frames
    frames = ap (λ (t : Terms). t.frames) is.side.terms_are

    going : break_by bank frame (record_of s.turn) ≡ None → IsPrefix given (records_on b (hands_of b) bank)
    going none =
        let here : s.passage.ports.frame ≡ frame = (is.plain two).through none in
        let far : reached sc.frames (records_in is.before) ≡ frame =
        ap (λ n. reached n (records_in is.before)) (sym frames) ∙ sym is.passed.holds.ports.frame_is ∙ here in
        let begins : BeginsOrEnds sc (frame + 1) some.0 =
        begins-next b bank frame is.handed told since s.world is.before s.turn some.0 bridge below some.1
        (subst (λ p. IsUnderWay sc is.handed p told since s.world (is.before ++ s.turn ∷ []) (is_last (record_of s.turn))) sure is.passed.given) is.passed.going
        (ap (λ n. is_over n frame (record_of s.turn)) (sym frames) ∙ ap (λ f. is_over s.terms.frames f (record_of s.turn)) (sym here) ∙ is.passed.over) far none in
        let its : frame_of sc.frames some.0 ≡ frame + 1 = begins-at sc (frame + 1) some.0 begins in
        let are : given ≡ records_in is.before ++ some.0 ∷ [] =
        given-more sc is.handed is_plain told since s.world is.before s.turn some.0 (is_last (record_of s.turn)) is.passed.given sure some.1 in
        let upto : AreUpTo sc.frames (frame + 1) given =
        subst (AreUpTo sc.frames (frame + 1)) (sym are) (upto-more sc.frames (frame + 1) (records_in is.before) some.0 (omega (arith, far)) (omega (arith, its))) in
        let first : IsPrefix given (records_on b (hands_up_to b (frame + 1)) bank) =
        next-first b bank frame is.handed is_plain told since s.world (is.before ++ s.turn ∷ []) (is_last (record_of s.turn)) some.0 is.passed.given handed_is begins
        (is.passed.given.frame ∙ ap frame_in (latest-more is.before s.turn ∙ some.1)) in
        (first-crossed b bank (omega (arith, below)) first upto).first

    by : (o : Option Break) → break_by bank frame (record_of s.turn) ≡ o → IsPrefix given (records_on b (hands_of b) bank)
    by None e = going e
    by (Some k) e =
        (breach-crossed b bank frame is.handed is_plain told since s.world is.before s.turn k (omega (arith, below)) sure handed_is is.passed.given is.passed.going e).first
