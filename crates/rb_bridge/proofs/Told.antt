-- What a side has told: its turns, what its receivers find, and its breach.
use Rattle.std.proofs.Common.{◌≡◌, ℕ, ◌<◌, ◌≤◌, ◌==◌, Bool, true, false, if◌then◌else◌, Option, Some, None, option_map, List, [], ◌∷◌, ◌++◌, refl, sym, ◌∙◌, ap, subst, arith}
use Rattle.std.specs.Option.{option_or}
use Rattle.rb_rules.specs.{Book.Record, Book.Record.{Frame, Slot, Ended, Breach}, Goodness.Scenario, Ports.HandIn, Rounds.records_of}
use Rattle.rb_world_book.specs.{Records.record_of, declared.turn.Turn.Turn}
use Rattle.rb_group.specs.{Groups.group_value, Portions.port_deliveries, declared.voters.Which.TheVariants.Most}
use Rattle.rb_run.specs.{Turns.records_in, Seen.drive_of}
use Rattle.rb_world.specs.{Nexts.is_last, Worlds.KeptWorld}
use Rattle.rb_group_run.specs.{declared.asked.Asked.Asked, Holding.HoldPortions}
use Rattle.rb_rules_bridge.specs.{declared.bank.Bank.Bank, declared.bank.Bank.TheVariants.{Left, Right}, Bridges.{Bridge, IsBridge, bus_on, members_on}, Crossings.{hands_of, hands_up_to, records_on}, Texts.{Break, break_in}}
use Rattle.rb_laws_bridge.proofs.Handed.{frames-go-by-the-earlier}
use Rattle.rb_bridge.specs.{declared.passing.Terms.Terms, Passing.is_over, Running.IsUnderWay, declared.side.Side.Side, declared.telling.Breach.Breach as Found, Sides.{AfterFrame, AreGivenOf, BeforeFrame, GivesAll, GivesSome, break_by}, Crossing.{ArePlain, BridgeRun, Finds, GivesAllOn, GoThrough, shown}}
use Rattle.rb_bridge.proofs.{FramesTold.passed-tells, UnderWay.{first-given, whole-given}, SidesPassed.over-some, Whole.{after-crossed, before-crossed, breach-crossed}}

-- Turns.

pub given-of : (sc : Scenario) (handed : List HandIn) (is_plain : Bool) (told since : Option (List Turn)) (k : KeptWorld) (turns : List Turn) (over : Bool)
    → (is : IsUnderWay sc handed is_plain told since k turns over) → AreGivenOf sc handed is_plain told since turns is.world.book.given
given-of sc handed is_plain told since k turns over is =
    record { first = first-given sc handed is_plain told since k turns over is; alike = is.alike; plain = is.plain; tells = is.tells }

pub all-given-of : (sc : Scenario) (handed : List HandIn) (is_plain : Bool) (told since : Option (List Turn)) (k : KeptWorld) (turns : List Turn)
    → IsUnderWay sc handed is_plain told since k turns true → AreGivenOf sc handed is_plain told since turns (records_of sc handed)
all-given-of sc handed is_plain told since k turns is =
    subst (λ rs. AreGivenOf sc handed is_plain told since turns rs) (whole-given sc handed is_plain told since k turns is) (given-of sc handed is_plain told since k turns true is)

pub some-before : (b : Bridge) (bank : Bank) (frame : ℕ) (both is_plain : Bool) (told since : Option (List Turn)) (s : Side) → frame ≤ b.left.frames → (both ≡ true → is_plain ≡ true)
    → BeforeFrame b bank frame both (drive_of is_plain told since) s → GivesSome b bank both (drive_of is_plain told since)
some-before b bank frame both is_plain told since s within plain is = record {
  frame = frame;
  handed = is.handed;
  turns = is.turns;
  records = is.ready.given.world.book.given;
  given = given-of (bus_on b bank) is.handed is_plain told since s.world is.turns (is_last (record_of s.turn)) is.ready.given;
  plain = λ sure. (is.plain sure).handed_is;
  crosses = λ sure. before-crossed b bank frame both is_plain told since s within sure (plain sure) is;
}

pub some-after : (b : Bridge) (bank : Bank) (frame : ℕ) (both is_plain : Bool) (told since : Option (List Turn)) (s : Side) → IsBridge b → frame < b.left.frames → (both ≡ true → is_plain ≡ true)
    → AfterFrame b bank frame both (drive_of is_plain told since) s → GivesSome b bank both (drive_of is_plain told since)
some-after b bank frame both is_plain told since s bridge below plain is = record {
  frame = frame;
  handed = is.handed;
  turns = is.before ++ s.turn ∷ [];
  records = is.passed.given.world.book.given;
  given = given-of (bus_on b bank) is.handed is_plain told since s.world (is.before ++ s.turn ∷ []) (is_last (record_of s.turn)) is.passed.given;
  plain = λ sure. (is.plain sure).handed_is;
  crosses = λ sure. after-crossed b bank frame both is_plain told since s bridge below sure (plain sure) is;
}

break-last : (bank : Bank) (frame : ℕ) (o : Option Record) (k : Break) → break_by bank frame o ≡ Some k → is_last o ≡ true
break-last bank frame None k e = absurd (cc)
break-last bank frame (Some (Frame f nodes ports)) k e = absurd (cc)
break-last bank frame (Some (Slot f slot lines)) k e = absurd (cc)
break-last bank frame (Some Ended) k e = absurd (cc)
break-last bank frame (Some (Breach place cause)) k e = refl

-- if the last turn told a breach of the frame, all turns were given
pub all-after : (b : Bridge) (bank : Bank) (frame : ℕ) (both is_plain : Bool) (told since : Option (List Turn)) (s : Side) (k : Break) → frame < b.left.frames → (both ≡ true → is_plain ≡ true)
    → AfterFrame b bank frame both (drive_of is_plain told since) s → break_by bank frame (record_of s.turn) ≡ Some k → GivesAll b bank frame both (drive_of is_plain told since)
all-after b bank frame both is_plain told since s k below plain is breaks = record {
  handed = is.handed;
  turns = is.before ++ s.turn ∷ [];
  given = all-given-of (bus_on b bank) is.handed is_plain told since s.world (is.before ++ s.turn ∷ [])
      (subst (λ over. IsUnderWay (bus_on b bank) is.handed is_plain told since s.world (is.before ++ s.turn ∷ []) over) (break-last bank frame (record_of s.turn) k breaks) is.passed.given);
  plain = λ sure. (is.plain sure).handed_is;
  crosses = λ sure.
      (breach-crossed b bank frame is.handed is_plain told since s.world is.before s.turn k (omega (arith, below)) (plain sure) (is.plain sure).handed_is is.passed.given is.passed.going breaks).all;
}

-- What receivers find.

pub finds : (b : Bridge) (bank : Bank) (frame : ℕ) (both is_plain : Bool) (told since : Option (List Turn)) (s : Side) → frame ≤ b.left.frames → both ≡ true → is_plain ≡ true
    → AfterFrame b bank frame both (drive_of is_plain told since) s → break_by bank frame (record_of s.turn) ≡ None → Finds b bank frame s
finds b bank frame both is_plain told since s within two sure is none = record {
  scope_is = is.side.scope_is;
  frame_is = here;
  told = λ i. port_deliveries s.passage.ports.frame i records;
  holds = subst (λ (a : Asked). HoldPortions a.members (λ i. port_deliveries s.passage.ports.frame i records) s.passage.ports.groups)
      (ap (λ (t : Terms). t.asked) is.side.terms_are) is.passed.holds.ports.groups_hold;
  values = λ i.
      ap (group_value Most (members_on b bank)) (ap (λ f. port_deliveries f i records) here ∙ delivered i)
      ∙ sym ((frames-go-by-the-earlier b bank frame within).values i);
}
  where
    records : List Record
    records = records_in is.before

    here : s.passage.ports.frame ≡ frame
    here = (is.plain two).through none

    some : (r : Record) × (record_of s.turn ≡ Some r)
    some = over-some s.terms.frames s.passage.ports.frame (record_of s.turn) is.passed.over

    delivered : (i : ℕ) → port_deliveries frame i records ≡ port_deliveries frame i (records_on b (hands_up_to b frame) bank)
    delivered i =
        (passed-tells (bus_on b bank) is.handed told since s.world is.before s.terms.frames frame s.turn some.0 some.1
        (subst (λ p. IsUnderWay (bus_on b bank) is.handed p told since s.world (is.before ++ s.turn ∷ []) (is_last (record_of s.turn))) sure is.passed.given)
        is.passed.going (ap (λ f. is_over s.terms.frames f (record_of s.turn)) (sym here) ∙ is.passed.over) (ap (λ (t : Terms). t.frames) is.side.terms_are) bank).deliveries i
        ∙ ap (λ hs. port_deliveries frame i (records_of (bus_on b bank) hs)) (is.plain two).handed_is

-- Breaches.

break-bank : (bank : Bank) (frame : ℕ) (o : Option Record) (k : Break) → break_by bank frame o ≡ Some k → bank ≡ k.bank
break-bank bank frame None k e = absurd (cc)
break-bank bank frame (Some (Frame f nodes ports)) k e = absurd (cc)
break-bank bank frame (Some (Slot f slot lines)) k e = absurd (cc)
break-bank bank frame (Some Ended) k e = absurd (cc)
break-bank bank frame (Some (Breach place cause)) k e = by (place.frame == frame) (record { bank = bank; place = place; cause = cause }) refl e
  where
    by : (t : Bool) (j : Break) → bank ≡ j.bank → (if t then Some j else None) ≡ Some k → bank ≡ k.bank
    by true j its e = its ∙ ap (λ (k : Break). k.bank) (let same : j ≡ k = cc in same)
    by false j its e = cc

none-found : (o : Option Found) → option_map shown o ≡ None → o ≡ None
none-found None e = refl
none-found (Some x) e = cc

-- the left bus tells a breach
pub left-breaks : (x : BridgeRun) (frame : ℕ) (l r : Side) (found : Found) (o : Option Found)
    → IsBridge x.b → frame < x.b.left.frames → ArePlain x.both x.left.is_plain x.right.is_plain → AfterFrame x.b Left frame x.both x.left l → BeforeFrame x.b Right frame x.both x.right r
    → option_map shown o ≡ break_by Left frame (record_of l.turn) → o ≡ Some found → GoThrough x frame l r (Some (shown found))
left-breaks x frame l r found o bridge below plain left right told is_found = record {
  some = record {
    left = some-after x.b Left frame x.both x.left.is_plain x.left.told x.left.since l bridge below plain.left left;
    right = some-before x.b Right frame x.both x.right.is_plain x.right.told x.right.since r (omega (arith, below)) plain.right right;
  };
  through = λ none. absurd (never none);
  broken = λ k is. by k (here ∙ is);
  breach_is = λ sure. ap (λ o. option_or o (break_in Right frame (records_on x.b (hands_of x.b) Right))) ((left.plain sure).breach ∙ here);
}
  where
    never : Some (shown found) ≡ None → ⊥
    never e = cc

    here : break_by Left frame (record_of l.turn) ≡ Some (shown found)
    here = sym told ∙ ap (option_map shown) is_found

    by : (k : Break) → break_by Left frame (record_of l.turn) ≡ Some k → GivesAllOn x frame k.bank
    by k e =
        subst (GivesAllOn x frame) (break-bank Left frame (record_of l.turn) k e)
        (all-after x.b Left frame x.both x.left.is_plain x.left.told x.left.since l k below plain.left left e)

-- both sides have gone through the frame
pub both-through : (x : BridgeRun) (frame : ℕ) (l r : Side) (o p : Option Found)
    → IsBridge x.b → frame < x.b.left.frames → ArePlain x.both x.left.is_plain x.right.is_plain → AfterFrame x.b Left frame x.both x.left l → AfterFrame x.b Right frame x.both x.right r
    → option_map shown o ≡ break_by Left frame (record_of l.turn) → o ≡ None → option_map shown p ≡ break_by Right frame (record_of r.turn)
    → GoThrough x frame l r (option_map shown p)
both-through x frame l r o p bridge below plain left right told none told' = record {
  some = record {
    left = some-after x.b Left frame x.both x.left.is_plain x.left.told x.left.since l bridge below plain.left left;
    right = some-after x.b Right frame x.both x.right.is_plain x.right.told x.right.since r bridge below plain.right right;
  };
  through = λ gone. record { left = left; right = right; unbroken = record { left = here; right = sym told' ∙ gone } };
  broken = λ k is. by k (sym told' ∙ is);
  breach_is = λ sure.
      ap (λ o. option_or o (break_in Right frame (records_on x.b (hands_of x.b) Right))) ((left.plain sure).breach ∙ here)
      ∙ (right.plain sure).breach ∙ sym told';
}
  where
    here : break_by Left frame (record_of l.turn) ≡ None
    here = sym told ∙ ap (option_map shown) none

    by : (k : Break) → break_by Right frame (record_of r.turn) ≡ Some k → GivesAllOn x frame k.bank
    by k e =
        subst (GivesAllOn x frame) (break-bank Right frame (record_of r.turn) k e)
        (all-after x.b Right frame x.both x.right.is_plain x.right.told x.right.since r k below plain.right right e)
