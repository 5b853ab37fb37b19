-- What a side is handed, and with what its next frame begins.
use Rattle.std.proofs.{Common.{◌≡◌, ℕ, suc, ◌+◌, ◌<◌, ◌≤◌, ◌==◌, ◌||◌, nat_lt, max, Bool, true, false, cond, if◌then◌else◌, inl, inr, Option, Some, None, List, [], ◌∷◌, ◌++◌, filter, map, refl, sym, ◌∙◌, ap, subst, arith}, lemmas.Bool.ltb-true, lemmas.Bool.Decides.nat_tests, lemmas.List.append-nil}
use Rattle.rb_base.specs.{Nodes.Side.Biu, declared.values.Heard.Heard, declared.values.Place.Place}
use Rattle.rb_rules.specs.{declared.cause.Cause.Cause, Book.Record, Book.Record.{Frame, Slot, Ended, Breach}, Goodness.{Scenario, is_good}, Ports.HandIn, Rounds.records_of, WorldStep.{World, frame_in}}
use Rattle.rb_world_book.specs.{Records.record_of, declared.turn.Turn.Turn}
use Rattle.rb_group.specs.Portions.{port_deliveries}
use Rattle.rb_run.specs.Turns.{records_in}
use Rattle.rb_world.specs.{Nexts.is_last, Worlds.KeptWorld}
use Rattle.rb_group_run.specs.Replies.{frame_of, reached}
use Rattle.rb_rules_bridge.specs.{declared.bank.Bank.Bank, declared.bank.Bank.TheVariants.{Left, Right}, declared.bank.Pair.Pair, Bridges.{Bridge, IsBridge, across, biu_on, bus_on, carried_slot}, Crossings.{carried_to, hand_in_of, hands_on, hands_up_to, records_on, value_told}, Texts.{Break, break_told}}
use Rattle.rb_laws_bridge.specs.Laws.{AreUpTo, BeginsOrEnds, ends_run, frame_told}
use Rattle.rb_laws_bridge.proofs.Beginnings.{begins-or-ends}
use Rattle.rb_laws_events.proofs.EveryWorld.{hand-none}
use Rattle.rb_bridge.specs.{Handing.with_words, Passing.is_over, Running.{AreNotLast, IsUnderWay}, Sides.break_by}
use Rattle.rb_bridge.proofs.{Carried.carries-over, FramesTold.{breaks-late, no-break, one-frame, records-are-first}, Handed.{IsHanded, handed_for, words-handed}}

-- Whatever the last turn was.

none-handed : (sc : Scenario) (bank : Bank) (told : ℕ → Option Heard) (pairs : List Pair) (w : World) → frame_in w.turn ≡ None → with_words sc bank told pairs w ≡ w
none-handed sc bank told [] w none = refl
none-handed sc bank told (p ∷ ps) w none = ap (with_words sc bank told ps) (hand-none sc w (biu_on bank p) _ none) ∙ none-handed sc bank told ps w none

-- `more` has a hand-in for each pair whose BIU is good if the last turn was the record of a frame,
-- and none if it was not
pub record AreHanded (sc : Scenario) (bank : Bank) (told : ℕ → Option Heard) (pairs : List Pair) (w : World) : Type 0 where
  pub more : List HandIn
  pub is : IsHanded w (with_words sc bank told pairs w) more
  pub here : (frame : ℕ) → frame_in w.turn ≡ Some frame
      → more ≡ map (handed_for bank told frame) (filter (λ pair. is_good sc Biu (biu_on bank pair) frame 0) pairs)
  pub none : frame_in w.turn ≡ None → more ≡ []

pub are-handed : (sc : Scenario) (bank : Bank) (told : ℕ → Option Heard) (pairs : List Pair) (w : World) → AreHanded sc bank told pairs w
are-handed sc bank told pairs w = by (frame_in w.turn) refl
  where
    words : ℕ → List HandIn
    words frame = map (handed_for bank told frame) (filter (λ pair. is_good sc Biu (biu_on bank pair) frame 0) pairs)

    same-frame : (f g : ℕ) → Some f ≡ Some g → f ≡ g
    same-frame f g e = cc

    other-frame : (f : ℕ) → None ≡ Some f → ⊥
    other-frame f e = cc

    by : (o : Option ℕ) → frame_in w.turn ≡ o → AreHanded sc bank told pairs w
    by None e = record {
      more = [];
      is = subst (λ x. IsHanded w x []) (sym (none-handed sc bank told pairs w e)) (record { hands = sym (append-nil w.hands); turn = refl; book = refl });
      here = λ frame at. absurd (other-frame frame (sym e ∙ at));
      none = λ _. refl;
    }
    by (Some f) e = record {
      more = words f;
      is = words-handed sc bank told f pairs w e;
      here = λ frame at. ap words (same-frame f frame (sym e ∙ at));
      none = λ gone. absurd (other-frame f (sym gone ∙ e));
    }

-- With what the next frame begins if the drive is plain.

pub frames-on : (b : Bridge) (bank : Bank) (n : ℕ) → b.left.frames ≡ b.right.frames → n < b.left.frames → n < (bus_on b bank).frames
frames-on b Left n same lt = lt
frames-on b Right n same lt = subst (λ k. n < k) same lt

pub reached-there : (frames : ℕ) (xs ys : List Record) (x : Record) → frame_of frames x ≤ reached frames (xs ++ x ∷ ys)
reached-there frames [] ys x = most (frame_of frames x) (reached frames ys)
  where
    most : (a b : ℕ) → a ≤ max a b
    most a b = omega arith
reached-there frames (z ∷ xs) ys x = later (frame_of frames z) (reached frames (xs ++ x ∷ ys)) (frame_of frames x) (reached-there frames xs ys x)
  where
    later : (a b c : ℕ) → c ≤ b → c ≤ max a b
    later a b c h = omega (arith, h)

-- the turn beyond a frame without a breach is of a later one
is-later : (bank : Bank) (frames frame : ℕ) (r : Record) → is_over frames frame (Some r) ≡ true → break_told bank frame r ≡ None
    → ((place : Place) (cause : Cause) → r ≡ Breach place cause → frame ≤ place.frame) → frame < frames → frame < frame_of frames r
is-later bank frames frame (Frame f nodes ports) over none late below = ltb-true frame f (alone (nat_lt frame f) over)
  where
    alone : (a : Bool) → (a || false) ≡ true → a ≡ true
    alone true e = refl
    alone false e = cc
is-later bank frames frame (Slot f slot lines) over none late below = ltb-true frame f (alone (nat_lt frame f) over)
  where
    alone : (a : Bool) → (a || false) ≡ true → a ≡ true
    alone true e = refl
    alone false e = cc
is-later bank frames frame Ended over none late below = below
is-later bank frames frame (Breach place cause) over none late below =
    less frame place.frame (late place cause refl) (other (place.frame == frame) (record { bank = bank; place = place; cause = cause }) refl none)
  where
    other : (t : Bool) (k : Break) → (place.frame == frame) ≡ t → (if t then Some k else None) ≡ None → (place.frame == frame) ≡ false
    other true k e none = cc
    other false k e none = e

    less : (a b : ℕ) → a ≤ b → (b == a) ≡ false → a < b
    less a b le ne = grind (arith, nat_tests)

pub begins-next : (b : Bridge) (bank : Bank) (frame : ℕ) (handed : List HandIn) (told since : Option (List Turn)) (k : KeptWorld) (turns : List Turn) (t : Turn) (r : Record)
    → IsBridge b → frame < b.left.frames → record_of t ≡ Some r → IsUnderWay (bus_on b bank) handed true told since k (turns ++ t ∷ []) (is_last (record_of t))
    → AreNotLast turns → is_over (bus_on b bank).frames frame (record_of t) ≡ true → reached (bus_on b bank).frames (records_in turns) ≡ frame
    → break_by bank frame (record_of t) ≡ None → BeginsOrEnds (bus_on b bank) (frame + 1) r
begins-next b bank frame handed told since k turns t r bridge below is-r given going over far none =
    begins-or-ends sc (bridge.lawful bank) handed records first.0 r frame first.1 upto later within
  where
    sc : Scenario
    sc = bus_on b bank

    records : List Record
    records = records_in turns

    within : frame < sc.frames
    within = frames-on b bank frame bridge.frames below

    first : (rest : List Record) × (records_of sc handed ≡ records ++ r ∷ rest)
    first = records-are-first sc handed told since k turns t r (is_last (record_of t)) is-r given

    upto : AreUpTo sc.frames frame records
    upto xs ys x are =
        let le : frame_of sc.frames x ≤ reached sc.frames (xs ++ x ∷ ys) = reached-there sc.frames xs ys x in
        let all : reached sc.frames (xs ++ x ∷ ys) ≡ frame = ap (reached sc.frames) (sym are) ∙ far in
        let its : frame_told sc.frames x ≡ frame_of sc.frames x = one-frame sc.frames x in
        omega (arith, le, all, its)

    late : (place : Place) (cause : Cause) → r ≡ Breach place cause → frame ≤ place.frame
    late place cause is =
        let le : reached sc.frames records ≤ place.frame =
        breaks-late sc handed records first.0 place cause (first.1 ∙ ap (λ r. records ++ r ∷ first.0) is) (λ bank frame. no-break bank frame turns going) in
        omega (arith, le, far)

    later : frame < frame_told sc.frames r
    later =
        let is : frame < frame_of sc.frames r =
        is-later bank sc.frames frame r (ap (is_over sc.frames frame) (sym is-r) ∙ over) (ap (break_by bank frame) (sym is-r) ∙ none) late within in
        subst (λ n. frame < n) (sym (one-frame sc.frames r)) is

-- A bus is handed what the bridge carries.

hands-next : (b : Bridge) (bank : Bank) (frame : ℕ)
    → hands_on bank (hands_up_to b (frame + 1)) ≡ hands_on bank (hands_up_to b frame) ++ carried_to b (hands_up_to b frame) bank frame
hands-next b bank frame = ap (λ n. hands_on bank (hands_up_to b n)) (one frame) ∙ by bank
  where
    one : (n : ℕ) → n + 1 ≡ suc n
    one n = omega arith

    by : (bank : Bank) → hands_on bank (hands_up_to b (suc frame)) ≡ hands_on bank (hands_up_to b frame) ++ carried_to b (hands_up_to b frame) bank frame
    by Left = refl
    by Right = refl

filter-none : {X : Type 0} (p : X → Bool) (xs : List X) → ((x : X) → p x ≡ false) → filter p xs ≡ []
filter-none p [] none = refl
filter-none p (x ∷ xs) none = ap (λ b. cond b (x ∷ filter p xs) (filter p xs)) (none x) ∙ filter-none p xs none

pub no-frame : (r : Record) → ends_run r ≡ true → frame_in (Some r) ≡ None
no-frame (Frame f nodes ports) last = absurd (cc)
no-frame (Slot f slot lines) last = refl
no-frame Ended last = refl
no-frame (Breach place cause) last = refl

pub handed-next : (b : Bridge) (bank : Bank) (frame : ℕ) (handed more : List HandIn) (records : List Record) (r : Record)
    → ((receiver : ℕ) → port_deliveries frame receiver records ≡ port_deliveries frame receiver (records_on b (hands_up_to b frame) (across bank)))
    → handed ≡ hands_on bank (hands_up_to b frame) → BeginsOrEnds (bus_on b bank) (frame + 1) r
    → ((f : ℕ) → frame_in (Some r) ≡ Some f
    → more ≡ map (handed_for bank (value_told frame (carried_slot b (across bank)) records) f) (filter (λ pair. is_good (bus_on b bank) Biu (biu_on bank pair) f 0) b.pairs))
    → (frame_in (Some r) ≡ None → more ≡ []) → handed ++ more ≡ hands_on bank (hands_up_to b (frame + 1))
handed-next b bank frame handed more records r told is begins here none =
    ap (λ h. h ++ more) is ∙ ap (λ l. hands_on bank (hands_up_to b frame) ++ l) (carried begins) ∙ sym (hands-next b bank frame)
  where
    carried : BeginsOrEnds (bus_on b bank) (frame + 1) r → more ≡ carried_to b (hands_up_to b frame) bank frame
    carried (inl at) = here (frame + 1) at ∙ carries-over b (hands_up_to b frame) bank frame records told
    carried (inr d) =
        none (no-frame r d.last)
        ∙ sym (ap (map (hand_in_of b (hands_up_to b frame) bank frame))
        (filter-none (λ pair. is_good (bus_on b bank) Biu (biu_on bank pair) (frame + 1) 0) b.pairs (λ pair. d.nobody (biu_on bank pair))))
