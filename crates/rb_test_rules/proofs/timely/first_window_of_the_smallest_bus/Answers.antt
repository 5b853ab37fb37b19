use Rattle.std.proofs.{Common.{◌≡◌, ℕ, zero, suc, Bool, true, false, ◌&&◌, nat_lt, Some, IfSome, [], ◌∷◌, All, sym, subst, lit≤, arith}, lemmas.Bool.le-ltb, lemmas.List.Elements.{All-cons, All-nil}}
use Rattle.rb_base.specs.{Nodes.{Side, other, set_of, set_below}, Nodes.Side.{Biu, Rmu}}
use Rattle.rb_rules.specs.{Book.with_frame, Clock.stamp_of, Goodness.clock_of, Hearing.{Coming, heard_from, sending, span_of}, Links.delay_of, NodeState.{NodeState, first_state}, Rounds.{IsGoodIn, IsTickOf, begin_frame, heard_at, sending_in, sent_in, window_in}}
use Rattle.rb_test_rules.specs.{Ordinary.smallest_bus, Timely.first_window}
use Rattle.rb_test_rules.proofs.timely.first_window_of_the_smallest_bus.Goals as goal

first_of : (i : ℕ) (b : Bool) → (nat_lt i 1 && b) ≡ true → i ≡ 0
first_of zero b h = omega arith
first_of (suc i) b h =
    let none : nat_lt (suc i) 1 ≡ false = le-ltb (suc i) 1 (omega arith) in
    let so : (false && b) ≡ true = subst (λ (v : Bool). (v && b) ≡ true) none h in
    absurd (cc)

-- a good node is the first of its kind
good_first : (me : Side) (i : ℕ) (st : NodeState) → IsGoodIn smallest_bus first_window me i st → i ≡ 0
good_first Biu i st g = first_of i _ g.1
good_first Rmu i st g = first_of i _ g.1

some_same : {X : Type 0} (a b : X) → Some a ≡ Some b → a ≡ b
some_same a b h = cc

good_is : (P : Side → ℕ → NodeState → Type 0) → P Biu 0 (first_state smallest_bus.sizes Biu) → P Rmu 0 (first_state smallest_bus.sizes Rmu)
    → (me : Side) (i : ℕ) (st : NodeState) → IsGoodIn smallest_bus first_window me i st → P me i st
unfolding begin_frame with_frame
good_is P biu rmu Biu zero st g = subst (P Biu 0) (some_same _ st g.0) biu
good_is P biu rmu Biu (suc i) st g = let none = good_first Biu (suc i) st g in absurd (omega arith)
good_is P biu rmu Rmu zero st g = subst (P Rmu 0) (some_same _ st g.0) rmu
good_is P biu rmu Rmu (suc i) st g = let none = good_first Rmu (suc i) st g in absurd (omega arith)

abbrev IsSentInTime : Side → ℕ → NodeState → Type 0
IsSentInTime me i st =
    let w = window_in smallest_bus first_window me st in
    IfSome (sending_in smallest_bus first_window me i st w) (λ s. IsTickOf (span_of st w) s.tick)

abbrev IsHeardInTime : ℕ → Side → ℕ → NodeState → Type 0
IsHeardInTime j me i st =
    let w = window_in smallest_bus first_window me st in
    All (λ c. IsTickOf (span_of st w) (stamp_of (clock_of smallest_bus me i) c.time))
    (heard_at smallest_bus me i st w (sent_in smallest_bus first_window) j)

sent_by_the_biu : IsSentInTime Biu 0 (first_state smallest_bus.sizes Biu)
unfolding set_of set_below sending begin_frame with_frame
sent_by_the_biu = (lit≤ tt, lit≤ tt)

sent_by_the_rmu : IsSentInTime Rmu 0 (first_state smallest_bus.sizes Rmu)
unfolding set_of set_below sending begin_frame with_frame
sent_by_the_rmu = tt

heard_by_the_biu : IsHeardInTime 0 Biu 0 (first_state smallest_bus.sizes Biu)
unfolding set_of set_below sending begin_frame with_frame sent_in heard_from delay_of
heard_by_the_biu = All-nil _

heard_by_the_rmu : IsHeardInTime 0 Rmu 0 (first_state smallest_bus.sizes Rmu)
unfolding set_of set_below sending begin_frame with_frame sent_in heard_from delay_of
heard_by_the_rmu =
    let st = first_state smallest_bus.sizes Rmu in
    let within : Coming → Type 0 = λ c. IsTickOf (span_of st (window_in smallest_bus first_window Rmu st)) (stamp_of (clock_of smallest_bus Rmu 0) c.time) in
    let request : Coming = record { time = 70000; from = 0; bytes = 1 ∷ 0 ∷ 0 ∷ 0 ∷ 0 ∷ 1 ∷ 0 ∷ 0 ∷ 0 ∷ 1 ∷ 1 ∷ [] } in
    All-cons within request [] (lit≤ tt, lit≤ tt) (All-nil within)

pub returns : goal.returns
returns c = record {
  sent = good_is IsSentInTime sent_by_the_biu sent_by_the_rmu;
  heard = λ me i j st source g from.
      subst (λ (k : ℕ). IsHeardInTime k me i st) (sym (good_first (other me) j source from))
      (good_is (IsHeardInTime 0) heard_by_the_biu heard_by_the_rmu me i st g);
}
