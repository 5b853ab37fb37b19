-- A side that was handed the words of the other one, and whose next frame has begun.
use Rattle.std.proofs.{Common.{◌≡◌, ℕ, ◌+◌, ◌<◌, ◌==◌, ◌||◌, max, nat_lt, Bool, true, false, if◌then◌else◌, inl, inr, Option, Some, None, List, [], ◌∷◌, ◌++◌, filter, map, refl, sym, ◌∙◌, ap, subst, arith}, lemmas.Bool.ltb-true, lemmas.Bool.Decides.nat_tests}
use Rattle.std.specs.Option.{option_to_list}
use Rattle.rb_base.specs.{Nodes.Side.Biu, declared.values.Heard.Heard}
use Rattle.rb_rules.specs.{Book.Record, Book.Record.{Frame, Slot, Ended, Breach}, Goodness.{Scenario, is_good}, Rounds.records_of, WorldStep.{World, frame_in}}
use Rattle.rb_world_book.specs.{Records.record_of, declared.turn.Turn.Turn}
use Rattle.rb_group.specs.Portions.{port_deliveries}
use Rattle.rb_run.specs.{Turns.records_in, Seen.drive_of}
use Rattle.rb_run.proofs.Texts.{records-more}
use Rattle.rb_world.specs.{Nexts.is_last, Worlds.{KeptWorld, Stands}}
use Rattle.rb_group_run.specs.{declared.ports.Ports.Ports, Holding.HoldsFrame, Replies.{frame_of, frame_or, reached}}
use Rattle.rb_group_run.proofs.Held.{none_further, reached_more}
use Rattle.rb_rules_bridge.specs.{declared.bank.Bank.Bank, declared.bank.Pair.Pair, Bridges.{Bridge, IsBridge, across, biu_on, bus_on, carried_slot}, Crossings.{hands_up_to, records_on, value_in, value_told}, Texts.{Break, break_told}}
use Rattle.rb_laws_bridge.specs.Laws.{BeginsOrEnds, ends_run, frame_told}
use Rattle.rb_bridge.specs.{Holding.HoldValues, declared.passing.Passage.Passage, declared.passing.Terms.Terms, Handing.with_words, Passing.{HoldsPassage, is_over}, Running.IsUnderWay, declared.side.Side.Side, Sides.{AfterFrame, BeforeFrame, IsInStep, TurnsOver, break_by}}
use Rattle.rb_bridge.proofs.{FramesTold.passed-tells, Handed.handed_for, UnderWay.{handed-over, latest-more}, SidesHanded.{AreHanded, are-handed, begins-next, frames-on, handed-next}, SidesPassed.over-some}

-- A frame begins.

beyond : (frames frame : ℕ) (r : Record) → is_over frames frame (Some r) ≡ true → is_last (Some r) ≡ false → frame < frame_of frames r
beyond frames frame r over last = by (nat_lt frame (frame_of frames r)) (is_last (Some r)) refl over last
  where
    by : (a l : Bool) → nat_lt frame (frame_of frames r) ≡ a → (a || l) ≡ true → l ≡ false → frame < frame_of frames r
    by true l e over last = ltb-true frame (frame_of frames r) e
    by false l e over last = cc

pub frame-begins : (terms : Terms) (turns : List Turn) (t : Turn) (before : Passage) (ports : Ports) (empty values : List (Option Heard))
    → ((rs : List Record) → HoldsFrame terms.frames terms.asked rs before.ports → HoldsFrame terms.frames terms.asked (rs ++ option_to_list (record_of t)) ports)
    → HoldValues (λ i. None) empty
    → ((rs : List Record) → HoldValues (value_told ports.frame terms.slot rs) empty → HoldValues (value_told ports.frame terms.slot (rs ++ option_to_list (record_of t))) values)
    → is_last (record_of t) ≡ false → is_over terms.frames before.ports.frame (record_of t) ≡ true → HoldsPassage terms before.ports.frame (records_in turns) before
    → HoldsPassage terms ports.frame (records_in (turns ++ t ∷ [])) (record { ports = ports; values = values })
frame-begins terms turns t before ports empty values advance nothing note going over hold = record {
  frame_is = refl;
  ports = subst (λ rs. HoldsFrame terms.frames terms.asked rs ports) (sym (records-more turns t)) now;
  values = subst (λ rs. HoldValues (value_told ports.frame terms.slot rs) values) (sym (records-more turns t))
      (note rs (record { many = nothing.many; each = λ i small. nothing.each i small ∙ sym (ap (value_in terms.slot) (none_further terms.frames ports.frame i rs later)) }));
}
  where
    rs : List Record
    rs = records_in turns

    now : HoldsFrame terms.frames terms.asked (rs ++ option_to_list (record_of t)) ports
    now = advance rs hold.ports

    some : (r : Record) × (record_of t ≡ Some r)
    some = over-some terms.frames before.ports.frame (record_of t) over

    later : reached terms.frames rs < ports.frame
    later =
        let this : before.ports.frame < frame_of terms.frames some.0 =
        beyond terms.frames before.ports.frame some.0 (ap (is_over terms.frames before.ports.frame) (sym some.1) ∙ over) (ap is_last (sym some.1) ∙ going) in
        let was : before.ports.frame ≡ reached terms.frames rs = hold.ports.frame_is in
        let is : ports.frame ≡ max (reached terms.frames rs) (frame_of terms.frames some.0) =
        now.frame_is ∙ reached_more terms.frames rs (record_of t) ∙ ap (λ o. max (reached terms.frames rs) (frame_or terms.frames (reached terms.frames rs) o)) some.1 in
        omega (arith, this, was, is)

-- The turn with which the next frame begins.

begun-frame : (frames f : ℕ) (r : Record) → frame_in (Some r) ≡ Some f → frame_of frames r ≡ f
begun-frame frames f (Frame g nodes ports) at = cc
begun-frame frames f (Slot g slot lines) at = absurd (cc)
begun-frame frames f Ended at = absurd (cc)
begun-frame frames f (Breach place cause) at = absurd (cc)

begun-goes-on : (f : ℕ) (r : Record) → frame_in (Some r) ≡ Some f → is_last (Some r) ≡ false
begun-goes-on f (Frame g nodes ports) at = refl
begun-goes-on f (Slot g slot lines) at = refl
begun-goes-on f Ended at = absurd (cc)
begun-goes-on f (Breach place cause) at = absurd (cc)

ends-last : (r : Record) → ends_run r ≡ true → is_last (Some r) ≡ true
ends-last (Frame g nodes ports) last = absurd (cc)
ends-last (Slot g slot lines) last = absurd (cc)
ends-last Ended last = refl
ends-last (Breach place cause) last = refl

pub not-both : (a b : Bool) → a ≡ b → b ≡ true → a ≡ false → ⊥
not-both a b e sure gone = cc

-- a run that ends there ends with a breach of that frame
breaks-there : (bank : Bank) (frames f : ℕ) (r : Record) → ends_run r ≡ true → frame_told frames r ≡ f → f < frames → break_told bank f r ≡ None → ⊥
breaks-there bank frames f (Frame g nodes ports) last its below none = cc
breaks-there bank frames f (Slot g slot lines) last its below none = cc
breaks-there bank frames f Ended last its below none = omega (arith, its, below)
breaks-there bank frames f (Breach place cause) last its below none = by (place.frame == f) (record { bank = bank; place = place; cause = cause }) (same place.frame f its) none
  where
    same : (a b : ℕ) → a ≡ b → (a == b) ≡ true
    same a b e = grind (arith, nat_tests)

    by : (t : Bool) (k : Break) → t ≡ true → (if t then Some k else None) ≡ None → ⊥
    by true k e none = cc
    by false k e none = cc

-- The side.

pub exchanged : (b : Bridge) (bank : Bank) (frame : ℕ) (both is_plain is_plain' : Bool) (told since told' since' : Option (List Turn)) (s o : Side) (world : KeptWorld) (passage : Passage)
    → IsBridge b → frame < b.left.frames → (both ≡ true → is_plain ≡ true) → (both ≡ true → is_plain' ≡ true)
    → (both ≡ true → break_by bank frame (record_of s.turn) ≡ None) → (both ≡ true → break_by (across bank) frame (record_of o.turn) ≡ None)
    → AfterFrame b bank frame both (drive_of is_plain told since) s → AfterFrame b (across bank) frame both (drive_of is_plain' told' since') o
    → ((told : ℕ → Option Heard) (w : World) → HoldValues told o.passage.values → Stands s.world w → Stands world (with_words s.world.bus bank told b.pairs w))
    → world.bus ≡ s.world.bus → TurnsOver s.terms s.turn s.passage passage
    → BeforeFrame b bank (frame + 1) both (drive_of is_plain told since) (record s { world = world; passage = passage })
exchanged b bank frame both is_plain is_plain' told since told' since' s o world passage bridge below plain plain' unbroken unbroken' after other hands bus turns = record {
  side = record { bus_is = bus ∙ after.side.bus_is; terms_are = after.side.terms_are; scope_is = after.side.scope_is };
  handed = after.handed ++ h.more;
  turns = after.before ++ s.turn ∷ [];
  ready = record {
    given = given;
    holds = λ last. turns.begins after.before last after.passed.over after.passed.holds;
    stopped = λ last. record {
      before = after.before;
      passed = record {
        given = given;
        going = after.passed.going;
        holds = subst (λ (p : Passage). HoldsPassage s.terms p.ports.frame (records_in after.before) p) (sym (turns.stays last)) after.passed.holds;
        over = subst (λ (p : Passage). is_over s.terms.frames p.ports.frame (record_of s.turn) ≡ true) (sym (turns.stays last)) after.passed.over;
      };
    };
  };
  plain = in-step;
}
  where
    carried : ℕ → Option Heard
    carried = value_told o.passage.ports.frame o.terms.slot (records_in other.before)

    w : World
    w = after.passed.given.world

    h : AreHanded (bus_on b bank) bank carried b.pairs w
    h = are-handed (bus_on b bank) bank carried b.pairs w

    stands : Stands world (with_words (bus_on b bank) bank carried b.pairs w)
    stands =
        subst (λ sc. Stands world (with_words sc bank carried b.pairs w)) after.side.bus_is
        (hands carried w other.passed.holds.values after.passed.given.stands)

    given : IsUnderWay (bus_on b bank) (after.handed ++ h.more) is_plain told since world (after.before ++ s.turn ∷ []) (is_last (record_of s.turn))
    given =
        handed-over (bus_on b bank) after.handed h.more is_plain told since s.world world (after.before ++ s.turn ∷ []) (is_last (record_of s.turn))
        (with_words (bus_on b bank) bank carried b.pairs w) after.passed.given bus stands h.is

    some : (r : Record) × (record_of s.turn ≡ Some r)
    some = over-some s.terms.frames s.passage.ports.frame (record_of s.turn) after.passed.over

    some' : (r : Record) × (record_of o.turn ≡ Some r)
    some' = over-some o.terms.frames o.passage.ports.frame (record_of o.turn) other.passed.over

    frames : s.terms.frames ≡ (bus_on b bank).frames
    frames = ap (λ (t : Terms). t.frames) after.side.terms_are

    frames' : o.terms.frames ≡ (bus_on b (across bank)).frames
    frames' = ap (λ (t : Terms). t.frames) other.side.terms_are

    far : both ≡ true → reached s.terms.frames (records_in after.before) ≡ frame
    far sure = sym after.passed.holds.ports.frame_is ∙ (after.plain sure).through (unbroken sure)

    -- the record that was found begins the next frame or ends the run
    next : both ≡ true → BeginsOrEnds (bus_on b bank) (frame + 1) some.0
    next sure =
        let here : s.passage.ports.frame ≡ frame = (after.plain sure).through (unbroken sure) in
        begins-next b bank frame after.handed told since s.world after.before s.turn some.0 bridge below some.1
        (subst (λ p. IsUnderWay (bus_on b bank) after.handed p told since s.world (after.before ++ s.turn ∷ []) (is_last (record_of s.turn))) (plain sure) after.passed.given)
        after.passed.going
        (ap (λ n. is_over n frame (record_of s.turn)) (sym frames) ∙ ap (λ f. is_over s.terms.frames f (record_of s.turn)) (sym here) ∙ after.passed.over)
        (ap (λ n. reached n (records_in after.before)) (sym frames) ∙ far sure) (unbroken sure)

    -- the records so far tell all that the other side's ports deliver in the frame
    delivered : both ≡ true → (receiver : ℕ) → port_deliveries frame receiver (records_in other.before) ≡ port_deliveries frame receiver (records_on b (hands_up_to b frame) (across bank))
    delivered sure receiver =
        let there : o.passage.ports.frame ≡ frame = (other.plain sure).through (unbroken' sure) in
        (passed-tells (bus_on b (across bank)) other.handed told' since' o.world other.before o.terms.frames frame o.turn some'.0 some'.1
        (subst (λ p. IsUnderWay (bus_on b (across bank)) other.handed p told' since' o.world (other.before ++ o.turn ∷ []) (is_last (record_of o.turn))) (plain' sure) other.passed.given)
        other.passed.going (ap (λ f. is_over o.terms.frames f (record_of o.turn)) (sym there) ∙ other.passed.over) frames' (across bank)).deliveries receiver
        ∙ ap (λ hs. port_deliveries frame receiver (records_of (bus_on b (across bank)) hs)) (other.plain sure).handed_is

    carried-is : both ≡ true → carried ≡ value_told frame (carried_slot b (across bank)) (records_in other.before)
    carried-is sure =
        ap (λ f. value_told f o.terms.slot (records_in other.before)) ((other.plain sure).through (unbroken' sure))
        ∙ ap (λ slot. value_told frame slot (records_in other.before)) (ap (λ (t : Terms). t.slot) other.side.terms_are)

    turned : frame_in w.turn ≡ frame_in (Some some.0)
    turned = after.passed.given.frame ∙ ap frame_in (latest-more after.before s.turn ∙ some.1)

    in-step : both ≡ true → IsInStep b bank (frame + 1) (after.handed ++ h.more) (record s { world = world; passage = passage })
    in-step sure = record {
      handed_is =
          handed-next b bank frame after.handed h.more (records_in other.before) some.0 (delivered sure) (after.plain sure).handed_is (next sure)
          (λ f at. h.here f (turned ∙ at) ∙ ap (λ v. map (handed_for bank v f) (filter (λ pair. is_good (bus_on b bank) Biu (biu_on bank pair) f 0) b.pairs)) (carried-is sure))
          (λ gone. h.none (turned ∙ gone));
      begins = λ last. begins sure last (next sure);
      breaks = λ last lt. breaks last lt (next sure);
    }
      where
        begins : both ≡ true → is_last (record_of s.turn) ≡ false → BeginsOrEnds (bus_on b bank) (frame + 1) some.0 → passage.ports.frame ≡ frame + 1
        begins sure last (inl at) =
            let hold : HoldsPassage s.terms passage.ports.frame (records_in (after.before ++ s.turn ∷ [])) passage = turns.begins after.before last after.passed.over after.passed.holds in
            let is : passage.ports.frame ≡ max (reached s.terms.frames (records_in after.before)) (frame_of s.terms.frames some.0) =
            hold.ports.frame_is ∙ ap (reached s.terms.frames) (records-more after.before s.turn) ∙ reached_more s.terms.frames (records_in after.before) (record_of s.turn)
            ∙ ap (λ o. max (reached s.terms.frames (records_in after.before)) (frame_or s.terms.frames (reached s.terms.frames (records_in after.before)) o)) some.1 in
            let that : frame_of s.terms.frames some.0 ≡ frame + 1 = begun-frame s.terms.frames (frame + 1) some.0 at in
            let was : reached s.terms.frames (records_in after.before) ≡ frame = far sure in
            omega (arith, is, that, was)
        begins sure last (inr d) = absurd (not-both (is_last (record_of s.turn)) (is_last (Some some.0)) (ap is_last some.1) (ends-last some.0 d.last) last)

        breaks : is_last (record_of s.turn) ≡ true → frame + 1 < b.left.frames → BeginsOrEnds (bus_on b bank) (frame + 1) some.0
            → break_by bank (frame + 1) (record_of s.turn) ≡ None → ⊥
        breaks last lt (inl at) none = not-both (is_last (Some some.0)) (is_last (record_of s.turn)) (ap is_last (sym some.1)) last (begun-goes-on (frame + 1) some.0 at)
        breaks last lt (inr d) none =
            breaks-there bank (bus_on b bank).frames (frame + 1) some.0 d.last d.its (frames-on b bank (frame + 1) bridge.frames lt) (ap (break_by bank (frame + 1)) (sym some.1) ∙ none)

-- the words that are handed over are those of the bridge's pairs
pub hands-these : (bank : Bank) (sc : Scenario) (bridges pairs : List Pair) (values : List (Option Heard)) (before after : KeptWorld) → bridges ≡ pairs
    → ((told : ℕ → Option Heard) (w : World) → HoldValues told values → Stands before w → Stands after (with_words sc bank told pairs w))
    → (told : ℕ → Option Heard) (w : World) → HoldValues told values → Stands before w → Stands after (with_words sc bank told bridges w)
hands-these bank sc bridges pairs values before after same hands =
    subst (λ ps. (told : ℕ → Option Heard) (w : World) → HoldValues told values → Stands before w → Stands after (with_words sc bank told ps w)) (sym same) hands

-- The next frame begins, or not.

pub stays-over : (terms : Terms) (t : Turn) (p : Passage) → is_last (record_of t) ≡ true → TurnsOver terms t p p
stays-over terms t p last =
    record { stays = λ _. refl; begins = λ turns going over hold. absurd (not-both (is_last (record_of t)) (is_last (record_of t)) refl last going) }

pub begins-over : (terms : Terms) (t : Turn) (p n : Passage) → is_last (record_of t) ≡ false
    → ((turns : List Turn) → is_last (record_of t) ≡ false → is_over terms.frames p.ports.frame (record_of t) ≡ true → HoldsPassage terms p.ports.frame (records_in turns) p
    → HoldsPassage terms n.ports.frame (records_in (turns ++ t ∷ [])) n) → TurnsOver terms t p n
begins-over terms t p n going begins =
    record { stays = λ last. absurd (not-both (is_last (record_of t)) (is_last (record_of t)) refl last going); begins = begins }
