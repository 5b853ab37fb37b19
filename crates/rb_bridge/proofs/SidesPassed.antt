-- A side that has gone through a frame.
use Rattle.std.proofs.Common.{◌≡◌, ℕ, ◌<◌, ◌≤◌, ◌||◌, nat_lt, Bool, true, false, Option, Some, None, List, [], ◌∷◌, ◌++◌, refl, sym, ◌∙◌, ap, subst, arith}
use Rattle.rb_rules.specs.{Book.Record, Ports.HandIn, Rounds.records_of}
use Rattle.rb_world_book.specs.{Records.record_of, declared.turn.Turn.Turn}
use Rattle.rb_run.specs.{Turns.records_in, Seen.drive_of}
use Rattle.rb_world.specs.{Nexts.is_last, Worlds.KeptWorld}
use Rattle.rb_group_run.specs.Replies.{frame_of}
use Rattle.rb_rules_bridge.specs.{declared.bank.Bank.Bank, Bridges.{Bridge, bus_on}, Crossings.{hands_of, hands_on, hands_up_to, records_on}, Texts.break_in}
use Rattle.rb_laws_bridge.proofs.Handed.{frames-go-by-the-earlier}
use Rattle.rb_bridge.specs.{declared.passing.Passage.Passage, declared.passing.Terms.Terms, Passing.{HoldsPassage, IsOnItsWay, PassesFrame, is_over}, Running.{AreNotLast, IsUnderWay}, declared.side.Side.Side, Sides.{AfterFrame, BeforeFrame, HasStopped, IsInStep, IsUp, break_by}}
use Rattle.rb_bridge.proofs.FramesTold.{passed-tells}

-- Turns beyond a frame.

pub over-some : (frames frame : ℕ) (o : Option Record) → is_over frames frame o ≡ true → (r : Record) × (o ≡ Some r)
over-some frames frame None e = absurd (cc)
over-some frames frame (Some r) e = (r, refl)

over-last : (frames frame : ℕ) (o : Option Record) → is_last o ≡ true → is_over frames frame o ≡ true
over-last frames frame None e = absurd (cc)
over-last frames frame (Some r) e = ap (λ l. nat_lt frame (frame_of frames r) || l) e ∙ any (nat_lt frame (frame_of frames r))
  where
    any : (a : Bool) → (a || true) ≡ true
    any true = refl
    any false = refl

-- the breach of a frame of the bridge is the one that the turn beyond it tells
told-breach : (b : Bridge) (bank : Bank) (frame : ℕ) (handed : List HandIn) (is_plain : Bool) (told since : Option (List Turn)) (k : KeptWorld) (turns : List Turn) (t : Turn)
    → frame ≤ b.left.frames → is_plain ≡ true → handed ≡ hands_on bank (hands_up_to b frame)
    → IsUnderWay (bus_on b bank) handed is_plain told since k (turns ++ t ∷ []) (is_last (record_of t)) → AreNotLast turns
    → is_over (bus_on b bank).frames frame (record_of t) ≡ true → break_in bank frame (records_on b (hands_of b) bank) ≡ break_by bank frame (record_of t)
told-breach b bank frame handed is_plain told since k turns t within sure is given going over =
    let some = over-some (bus_on b bank).frames frame (record_of t) over in
    (frames-go-by-the-earlier b bank frame within).breach
    ∙ ap (λ h. break_in bank frame (records_of (bus_on b bank) h)) (sym is)
    ∙ (passed-tells (bus_on b bank) handed told since k turns (bus_on b bank).frames frame t some.0 some.1
    (subst (λ p. IsUnderWay (bus_on b bank) handed p told since k (turns ++ t ∷ []) (is_last (record_of t))) sure given) going over refl bank).breach
    ∙ sym (ap (break_by bank frame) some.1)

le-of : (a b : ℕ) → a < b → a ≤ b
le-of a b h = omega (arith, h)

-- The run had ended.

pub stays-through : (b : Bridge) (bank : Bank) (frame : ℕ) (both is_plain : Bool) (told since : Option (List Turn)) (s : Side) → frame < b.left.frames
    → (both ≡ true → is_plain ≡ true) → BeforeFrame b bank frame both (drive_of is_plain told since) s → is_last (record_of s.turn) ≡ true
    → AfterFrame b bank frame both (drive_of is_plain told since) s
stays-through b bank frame both is_plain told since s below plain before last =
    let stop : HasStopped (bus_on b bank) before.handed is_plain told since s = before.ready.stopped last in
    record {
      side = before.side;
      handed = before.handed;
      before = stop.before;
      passed = stop.passed;
      plain = λ sure.
          let step : IsInStep b bank frame before.handed s = before.plain sure in
          record {
            handed_is = step.handed_is;
            breach = told-breach b bank frame before.handed is_plain told since s.world stop.before s.turn (le-of frame b.left.frames below) (plain sure) step.handed_is
                stop.passed.given stop.passed.going (over-last (bus_on b bank).frames frame (record_of s.turn) last);
            through = λ none. absurd (step.breaks last below none);
          };
    }

-- The drive gave its turns.

-- if the last record does not end the run, the side is under way with the turns before the frame
going-on : (b : Bridge) (bank : Bank) (frame : ℕ) (both is_plain : Bool) (told since : Option (List Turn)) (s : Side) → (before : BeforeFrame b bank frame both (drive_of is_plain told since) s)
    → is_last (record_of s.turn) ≡ false → IsUnderWay s.world.bus before.handed is_plain told since s.world before.turns false
going-on b bank frame both is_plain told since s before last =
    subst (λ sc. IsUnderWay sc before.handed is_plain told since s.world before.turns false) (sym before.side.bus_is)
    (subst (λ over. IsUnderWay (bus_on b bank) before.handed is_plain told since s.world before.turns over) last before.ready.given)

-- the drive may be asked for more
pub on-its-way : (b : Bridge) (bank : Bank) (frame : ℕ) (both is_plain : Bool) (told since : Option (List Turn)) (s : Side) → BeforeFrame b bank frame both (drive_of is_plain told since) s
    → is_last (record_of s.turn) ≡ false → IsOnItsWay is_plain since s.world s.terms s.passage
on-its-way b bank frame both is_plain told since s before last = record {
  handed = before.handed;
  told = told;
  turns = before.turns;
  given = going-on b bank frame both is_plain told since s before last;
  holds = before.ready.holds last;
}

pub is-up : (b : Bridge) (bank : Bank) (frame : ℕ) (both is_plain : Bool) (told since : Option (List Turn)) (s : Side) → BeforeFrame b bank frame both (drive_of is_plain told since) s → IsUp is_plain since s
is-up b bank frame both is_plain told since s before = record {
  handed = before.handed;
  told = told;
  turns = before.turns;
  given = subst (λ sc. IsUnderWay sc before.handed is_plain told since s.world before.turns (is_last (record_of s.turn))) (sym before.side.bus_is) before.ready.given;
}

pub goes-through : (b : Bridge) (bank : Bank) (frame : ℕ) (both is_plain : Bool) (told mid since : Option (List Turn)) (s : Side) (world : KeptWorld) (passage : Passage) (t : Turn) → frame < b.left.frames
    → (both ≡ true → is_plain ≡ true) → BeforeFrame b bank frame both (drive_of is_plain told mid) s → is_last (record_of s.turn) ≡ false → world.bus ≡ s.world.bus
    → ((handed : List HandIn) (told : Option (List Turn)) (turns : List Turn) → IsUnderWay s.world.bus handed is_plain told mid s.world turns false
    → HoldsPassage s.terms s.passage.ports.frame (records_in turns) s.passage
    → PassesFrame s.world.bus handed is_plain told since world turns s.terms s.passage.ports.frame passage t)
    → AfterFrame b bank frame both (drive_of is_plain told since) (record s { world = world; passage = passage; turn = t })
goes-through b bank frame both is_plain told mid since s world passage t below plain before last bus passes = record {
  side = record { bus_is = bus ∙ before.side.bus_is; terms_are = before.side.terms_are; scope_is = before.side.scope_is };
  handed = before.handed;
  before = turns;
  passed = record {
    given = p.given;
    going = p.going;
    holds = subst (λ f. HoldsPassage s.terms f (records_in turns) passage) (sym p.holds.frame_is) p.holds;
    over = subst (λ f. is_over s.terms.frames f (record_of t) ≡ true) (sym p.holds.frame_is) p.over;
  };
  plain = λ sure.
      let step : IsInStep b bank frame before.handed s = before.plain sure in
      let here : s.passage.ports.frame ≡ frame = step.begins last in
      record {
        handed_is = step.handed_is;
        breach = told-breach b bank frame before.handed is_plain told since world turns t (le-of frame b.left.frames below) (plain sure) step.handed_is p.given p.going
            (ap (λ n. is_over n frame (record_of t)) (sym frames) ∙ ap (λ f. is_over s.terms.frames f (record_of t)) (sym here) ∙ p.over);
        through = λ none. p.holds.frame_is ∙ here;
      };
}
  where
    p : PassesFrame (bus_on b bank) before.handed is_plain told since world before.turns s.terms s.passage.ports.frame passage t
    p = subst (λ sc. PassesFrame sc before.handed is_plain told since world before.turns s.terms s.passage.ports.frame passage t) before.side.bus_is
        (passes before.handed told before.turns (going-on b bank frame both is_plain told mid s before last) (before.ready.holds last))

    turns : List Turn
    turns = before.turns ++ p.more

    frames : s.terms.frames ≡ (bus_on b bank).frames
    frames = ap (λ (t : Terms). t.frames) before.side.terms_are
