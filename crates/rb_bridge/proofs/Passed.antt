-- A frame of which some turns have been given.
use Rattle.std.proofs.{Common.{◌≡◌, ℕ, ◌+◌, ◌^◌, ◌<◌, ◌≤◌, ◌||◌, max, nat_lt, Bool, true, false, Option, Some, None, List, [], ◌∷◌, ◌++◌, length, append_assoc, refl, sym, ◌∙◌, ap, subst, arith, length-append}, lemmas.Bool.Decides.nat_tests, lemmas.List.append-nil}
use Rattle.std.specs.Option.{option_to_list}
use Rattle.rb_base.specs.declared.values.Heard.{Heard}
use Rattle.rb_rules.specs.{Book.Record, Goodness.Scenario, Ports.HandIn}
use Rattle.rb_world_book.specs.{Records.record_of, declared.turn.Turn.Turn}
use Rattle.rb_run.specs.Turns.{records_in}
use Rattle.rb_run.proofs.Texts.{records-more}
use Rattle.rb_world.specs.{Nexts.is_last, Worlds.KeptWorld}
use Rattle.rb_group_run.specs.{declared.ports.Ports.Ports, Holding.HoldsFrame, Replies.{frame_of, reached}}
use Rattle.rb_group_run.proofs.Held.{reached_more}
use Rattle.rb_rules_bridge.specs.Crossings.{value_told}
use Rattle.rb_bridge.specs.{Holding.HoldValues, declared.passing.Passage.Passage, declared.passing.Terms.Terms, Passing.{HoldsPassage, PassesFrame, is_over}, Running.IsUnderWay}
use Rattle.rb_bridge.proofs.UnderWay.{few-turns}

-- What is kept.

not-later : (a b : ℕ) (l : Bool) → (nat_lt a b || l) ≡ false → b ≤ a
not-later a b l h = from (nat_lt a b) l refl h
  where
    from : (t l : Bool) → nat_lt a b ≡ t → (t || l) ≡ false → b ≤ a
    from true l e h = cc
    from false l e h = grind (arith, nat_tests)

pub not-last : (frames frame : ℕ) (o : Option Record) → is_over frames frame o ≡ false → is_last o ≡ false
not-last frames frame None h = refl
not-last frames frame (Some r) h = from (nat_lt frame (frame_of frames r)) (is_last (Some r)) h
  where
    from : (t l : Bool) → (t || l) ≡ false → l ≡ false
    from true l h = cc
    from false l h = h

frame-stays : (frames frame : ℕ) (records : List Record) (o : Option Record) → is_over frames frame o ≡ false → reached frames records ≡ frame
    → reached frames (records ++ option_to_list o) ≡ frame
frame-stays frames frame records None h e = reached_more frames records None ∙ let m : max (reached frames records) (reached frames records) ≡ frame = omega (arith, e) in m
frame-stays frames frame records (Some r) h e =
    let le : frame_of frames r ≤ frame = not-later frame (frame_of frames r) (is_last (Some r)) h in
    reached_more frames records (Some r) ∙ let m : max (reached frames records) (frame_of frames r) ≡ frame = omega (arith, e, le) in m

-- if the frame is not over with turn `t`, the passage holds the frame with this turn too
pub kept-more : (terms : Terms) (frame : ℕ) (turns : List Turn) (t : Turn) (before : Passage) (ports : Ports) (values : List (Option Heard)) → is_over terms.frames frame (record_of t) ≡ false
    → HoldsPassage terms frame (records_in turns) before
    → ((rs : List Record) → HoldsFrame terms.frames terms.asked rs before.ports → HoldsFrame terms.frames terms.asked (rs ++ option_to_list (record_of t)) ports)
    → ((rs : List Record) → HoldValues (value_told before.ports.frame terms.slot rs) before.values → HoldValues (value_told before.ports.frame terms.slot (rs ++ option_to_list (record_of t))) values)
    → HoldsPassage terms frame (records_in (turns ++ t ∷ [])) (record { ports = ports; values = values })
kept-more terms frame turns t before ports values within hold advance note =
    let rs : List Record = records_in turns in
    let now : HoldsFrame terms.frames terms.asked (rs ++ option_to_list (record_of t)) ports = advance rs hold.ports in
    let was : reached terms.frames rs ≡ frame = sym hold.ports.frame_is ∙ hold.frame_is in
    record {
      frame_is = now.frame_is ∙ frame-stays terms.frames frame rs (record_of t) within was;
      ports = subst (λ rs. HoldsFrame terms.frames terms.asked rs ports) (sym (records-more turns t)) now;
      values =
          subst (λ rs. HoldValues (value_told frame terms.slot rs) values) (sym (records-more turns t))
          (subst (λ f. HoldValues (value_told f terms.slot (rs ++ option_to_list (record_of t))) values) hold.frame_is
          (note rs (subst (λ f. HoldValues (value_told f terms.slot rs) before.values) (sym hold.frame_is) hold.values)));
    }

-- The run.

-- `passed` more turns were given after `before`, none of them of a later frame, and what is kept is
-- what they tell
pub record IsPassing (sc : Scenario) (handed : List HandIn) (is_plain : Bool) (told since : Option (List Turn)) (k : KeptWorld) (before : List Turn) (terms : Terms) (frame : ℕ) (p : Passage) (passed : ℕ) : Type 0 where
  pub more : List Turn
  pub given : IsUnderWay sc handed is_plain told since k (before ++ more) false
  pub holds : HoldsPassage terms frame (records_in (before ++ more)) p
  pub many : length more ≡ passed

pub none-passed : (sc : Scenario) (handed : List HandIn) (is_plain : Bool) (told since : Option (List Turn)) (k : KeptWorld) (before : List Turn) (terms : Terms) (frame : ℕ) (p : Passage)
    → IsUnderWay sc handed is_plain told since k before false → HoldsPassage terms frame (records_in before) p → IsPassing sc handed is_plain told since k before terms frame p 0
none-passed sc handed is_plain told since k before terms frame p given holds = record {
  more = [];
  given = subst (λ ts. IsUnderWay sc handed is_plain told since k ts false) (sym (append-nil before)) given;
  holds = subst (λ ts. HoldsPassage terms frame (records_in ts) p) (sym (append-nil before)) holds;
  many = refl;
}

-- one more turn makes a passage of `passed` turns one of passed + 1
pub one-passed : (sc : Scenario) (handed : List HandIn) (is_plain : Bool) (told mid since : Option (List Turn)) (k after : KeptWorld) (before : List Turn) (terms : Terms) (frame : ℕ) (p q : Passage) (passed : ℕ) (t : Turn)
    → (is : IsPassing sc handed is_plain told mid k before terms frame p passed)
    → IsUnderWay sc handed is_plain told since after ((before ++ is.more) ++ t ∷ []) (is_last (record_of t)) → is_over terms.frames frame (record_of t) ≡ false
    → HoldsPassage terms frame (records_in ((before ++ is.more) ++ t ∷ [])) q → IsPassing sc handed is_plain told since after before terms frame q (passed + 1)
one-passed sc handed is_plain told mid since k after before terms frame p q passed t is given within holds = record {
  more = is.more ++ t ∷ [];
  given = subst (λ ts. IsUnderWay sc handed is_plain told since after ts false) (append_assoc before is.more (t ∷ []))
      (subst (λ over. IsUnderWay sc handed is_plain told since after ((before ++ is.more) ++ t ∷ []) over) (not-last terms.frames frame (record_of t) within) given);
  holds = subst (λ ts. HoldsPassage terms frame (records_in ts) q) (append_assoc before is.more (t ∷ [])) holds;
  many = length-append is.more (t ∷ []) ∙ ap (λ n. n + 1) is.many;
}

pub all-passed : (sc : Scenario) (handed : List HandIn) (is_plain : Bool) (told mid since : Option (List Turn)) (k after : KeptWorld) (before : List Turn) (terms : Terms) (frame : ℕ) (p : Passage) (passed : ℕ) (t : Turn)
    → (is : IsPassing sc handed is_plain told mid k before terms frame p passed)
    → IsUnderWay sc handed is_plain told since after ((before ++ is.more) ++ t ∷ []) (is_last (record_of t)) → is_over terms.frames frame (record_of t) ≡ true
    → PassesFrame sc handed is_plain told since after before terms frame p t
all-passed sc handed is_plain told mid since k after before terms frame p passed t is given over = record { more = is.more; given = given; going = is.given.goes_on refl; holds = is.holds; over = over }

-- fewer than 2^31 turns have passed
pub few-passed : (sc : Scenario) (handed : List HandIn) (is_plain : Bool) (told since : Option (List Turn)) (k : KeptWorld) (before : List Turn) (terms : Terms) (frame : ℕ) (p : Passage) (passed : ℕ)
    → IsPassing sc handed is_plain told since k before terms frame p passed → passed < 2 ^ 31
few-passed sc handed is_plain told since k before terms frame p passed is =
    let few : length (before ++ is.more) < 2 ^ 31 = few-turns sc handed is_plain told since k (before ++ is.more) false is.given in
    let all : length (before ++ is.more) ≡ length before + length is.more = length-append before is.more in
    let many : length is.more ≡ passed = is.many in
    omega (arith, few, all, many)
