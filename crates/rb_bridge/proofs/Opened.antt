-- A side before its first frame, and one whose drive was asked for all turns.
use Rattle.std.proofs.{Common.{◌≡◌, ℕ, ◌+◌, ◌^◌, ◌<◌, Bool, true, false, Option, List, [], ◌∷◌, ◌++◌, length, append_assoc, length-append, refl, sym, ◌∙◌, ap, subst, arith}, lemmas.List.append-nil}
use Rattle.rb_rules.specs.{Goodness.Scenario, Ports.HandIn, Rounds.records_of, WorldStep.World}
use Rattle.rb_world_book.specs.{Records.record_of, declared.turn.Turn.Turn}
use Rattle.rb_world.specs.{declared.ties.Ties.TheVariants.First, Driving.{GoesAlike, Tells}, Nexts.{GoesToNext, is_last}, Worlds.{KeptWorld, Stands}}
use Rattle.rb_rules_bridge.specs.{declared.bank.Bank.Bank, declared.bank.Bank.TheVariants.{Left, Right}, Bridges.{Bridge, bus_on, members_on, slot_on}, Crossings.{hands_on, hands_up_to}}
use Rattle.rb_run.specs.Seen.{drive_of}
use Rattle.rb_bridge.specs.{Passing.HoldsPassage, Running.IsUnderWay, declared.side.Side.Side, Sides.{BeforeFrame, GivesAll, GivesSome, HasOpened, RunsOut}}
use Rattle.rb_bridge.proofs.{UnderWay.{begins, few-turns, goes}, Told.all-given-of}

-- Before the first frame.

true-false : (a : Bool) → a ≡ false → a ≡ true → ⊥
true-false a gone sure = cc

pub opened-before : (b : Bridge) (bank : Bank) (both is_plain : Bool) (told : Option (List Turn)) (s : Side) → HasOpened (bus_on b bank) (members_on b bank) (slot_on b bank) s
    → BeforeFrame b bank 0 both (drive_of is_plain told told) s
opened-before b bank both is_plain told s is = record {
  side = record { bus_is = is.bus_is; terms_are = is.terms_are; scope_is = is.scope_is };
  handed = [];
  turns = [];
  ready = record {
    given = given;
    holds = λ last. subst (λ f. HoldsPassage s.terms f [] s.passage) (sym is.holds.frame_is) is.holds;
    stopped = λ last. absurd (true-false (is_last (record_of s.turn)) quiet last);
  };
  plain = λ sure. record { handed_is = none bank; begins = λ last. is.holds.frame_is; breaks = λ last. absurd (true-false (is_last (record_of s.turn)) quiet last) };
}
  where
    quiet : is_last (record_of s.turn) ≡ false
    quiet = ap (λ t. is_last (record_of t)) is.quiet

    given : IsUnderWay (bus_on b bank) [] is_plain told told s.world [] (is_last (record_of s.turn))
    given =
        subst (λ over. IsUnderWay (bus_on b bank) [] is_plain told told s.world [] over) (sym quiet)
        (subst (λ sc. IsUnderWay sc [] is_plain told told s.world [] false) is.bus_is (begins s.world is_plain told is.begun))

    none : (bank : Bank) → [] ≡ hands_on bank (hands_up_to b 0)
    none Left = refl
    none Right = refl

-- After the last frame.

-- the run has given `turns` and then `passed` more turns
pub record IsFinishing (sc : Scenario) (handed : List HandIn) (is_plain : Bool) (told since : Option (List Turn)) (s : Side) (turns : List Turn) (passed : ℕ) : Type 0 where
  pub more : List Turn
  pub given : IsUnderWay sc handed is_plain told since s.world (turns ++ more) (is_last (record_of s.turn))
  pub many : length more ≡ passed

pub none-finished : (sc : Scenario) (handed : List HandIn) (is_plain : Bool) (told since : Option (List Turn)) (s : Side) (turns : List Turn)
    → IsUnderWay sc handed is_plain told since s.world turns (is_last (record_of s.turn)) → IsFinishing sc handed is_plain told since s turns 0
none-finished sc handed is_plain told since s turns is = record {
  more = [];
  given = subst (λ ts. IsUnderWay sc handed is_plain told since s.world ts (is_last (record_of s.turn))) (sym (append-nil turns)) is;
  many = refl;
}

pub one-finished : (sc : Scenario) (handed : List HandIn) (is_plain now : Bool) (told mid since : Option (List Turn)) (s : Side) (after : KeptWorld) (turns : List Turn) (t : Turn) (passed : ℕ)
    → IsFinishing sc handed is_plain told mid s turns passed → is_last (record_of s.turn) ≡ false → now ≡ is_plain
    → (now ≡ true → (w : World) → Stands s.world w → GoesToNext First s.world after t w) → ((w : World) → Stands s.world w → GoesAlike s.world after t w)
    → after.bus ≡ s.world.bus → Tells mid since t → IsFinishing sc handed is_plain told since (record s { world = after; turn = t }) turns (passed + 1)
one-finished sc handed is_plain now told mid since s after turns t passed is going stays plain alike bus tells = record {
  more = is.more ++ t ∷ [];
  given = subst (λ ts. IsUnderWay sc handed is_plain told since after ts (is_last (record_of t))) (append_assoc turns is.more (t ∷ []))
      (goes sc handed is_plain now told mid since s.world after (turns ++ is.more) t
      (subst (λ over. IsUnderWay sc handed is_plain told mid s.world (turns ++ is.more) over) going is.given) stays plain alike bus tells);
  many = length-append is.more (t ∷ []) ∙ ap (λ n. n + 1) is.many;
}

pub all-finished : (sc : Scenario) (handed : List HandIn) (is_plain : Bool) (told since : Option (List Turn)) (s : Side) (turns : List Turn) (passed : ℕ)
    → IsFinishing sc handed is_plain told since s turns passed → is_last (record_of s.turn) ≡ true → RunsOut sc handed is_plain told since
all-finished sc handed is_plain told since s turns passed is last = record {
  turns = turns ++ is.more;
  given = all-given-of sc handed is_plain told since s.world (turns ++ is.more)
      (subst (λ over. IsUnderWay sc handed is_plain told since s.world (turns ++ is.more) over) last is.given);
}

-- fewer than 2^31 turns have passed
pub few-finished : (sc : Scenario) (handed : List HandIn) (is_plain : Bool) (told since : Option (List Turn)) (s : Side) (turns : List Turn) (passed : ℕ)
    → IsFinishing sc handed is_plain told since s turns passed → passed < 2 ^ 31
few-finished sc handed is_plain told since s turns passed is =
    let few : length (turns ++ is.more) < 2 ^ 31 = few-turns sc handed is_plain told since s.world (turns ++ is.more) (is_last (record_of s.turn)) is.given in
    let all : length (turns ++ is.more) ≡ length turns + length is.more = length-append turns is.more in
    let many : length is.more ≡ passed = is.many in
    omega (arith, few, all, many)

pub gives-all : (b : Bridge) (bank : Bank) (frame : ℕ) (both is_plain : Bool) (told mid since : Option (List Turn)) (s : Side) → frame ≡ b.left.frames → (is : BeforeFrame b bank frame both (drive_of is_plain told mid) s)
    → RunsOut (bus_on b bank) is.handed is_plain told since → GivesAll b bank frame both (drive_of is_plain told since)
gives-all b bank frame both is_plain told mid since s all is out = record {
  handed = is.handed;
  turns = out.turns;
  given = out.given;
  plain = λ sure. (is.plain sure).handed_is;
  crosses = λ sure. ap (records_of (bus_on b bank)) ((is.plain sure).handed_is ∙ ap (λ n. hands_on bank (hands_up_to b n)) all);
}

pub all-are-some : (b : Bridge) (bank : Bank) (frame : ℕ) (both is_plain : Bool) (told since : Option (List Turn)) → GivesAll b bank frame both (drive_of is_plain told since) → GivesSome b bank both (drive_of is_plain told since)
all-are-some b bank frame both is_plain told since is = record {
  frame = frame;
  handed = is.handed;
  turns = is.turns;
  records = records_of (bus_on b bank) is.handed;
  given = is.given;
  plain = is.plain;
  crosses = λ sure. ([], sym (is.crosses sure) ∙ sym (append-nil (records_of (bus_on b bank) is.handed)));
}
