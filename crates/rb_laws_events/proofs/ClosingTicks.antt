-- For the law that events are rounds: the tick with which a node closes a window does what the
-- rounds do with the node in that window.
use Rattle.std.proofs.Common.{◌≡◌, ℕ, ◌&&◌, nat_le, true, false, List, map, sym, ◌∙◌, ap, Option, Some, None}
use Rattle.rb_base.specs.Nodes.{Side}
use Rattle.rb_rules.specs.{declared.plan.Window.Window, Book.Each, Core.of_source, ExactStage.{Outcome, keep_sent}, Goodness.{Scenario, is_good, clock_of}, Hearing.{Coming, Sending, arrival_of, close_window, row_of}, NodeState.NodeState, Rounds.{Moment, Result, word_for_window, heard_at, close_on, go_through}, Sense.Arrival, WorldStep.coming_from}
use Rattle.rb_laws_events.proofs.SameHeard.{AllOf, kept_as, close-is, row-is}

-- a good node's inbox holds what the node hears in the rounds from each source
pub record HoldsHeard (sc : Scenario) (m : Moment) (sent : Each (Option Sending)) (me : Side) (i : ℕ) (st : NodeState) (w : Window) (inbox : List (ℕ × Arrival)) (got : List Coming) : Type 0 where
  pub good : is_good sc me i m.frame w.slot ≡ true
  pub some_tick : nat_le w.first w.last ≡ true
  pub stamped : inbox ≡ map (kept_as (clock_of sc me i)) got
  pub all : (j : ℕ) → AllOf (coming_from got j) (heard_at sc me i st w sent j)

-- the state with which a node closes the window, after it has said what it had to say
abbrev pub spoken : Scenario → Moment → Side → ℕ → NodeState → Window → NodeState
spoken sc m me i st w = keep_sent sc.sizes me i st w.slot w.stage (word_for_window sc m i w)

-- what the core makes of the close
abbrev pub closing_of : Scenario → Moment → Side → ℕ → NodeState → Window → List (ℕ × Arrival) → Outcome
closing_of sc m me i st w inbox = close_window sc.sizes sc.plan me i (spoken sc m me i st w) w (of_source inbox)

-- what the rounds make of the window is what the core makes of its close
pub result-is : {sc m sent me i st w inbox got : _}
    → HoldsHeard sc m sent me i st w inbox got
    → go_through sc m sent me i st w
    ≡ record {
      state = (closing_of sc m me i st w inbox).state;
      row = Some (row_of me i (closing_of sc m me i st w inbox).state (coming_from got) (closing_of sc m me i st w inbox).closed);
    }
unfolding go_through close_on
result-is {sc} {m} {sent} {me} {i} {st} {w} {inbox} {got} h =
    let kept : NodeState = spoken sc m me i st w in
    let heard : ℕ → List Coming = heard_at sc me i st w sent in
    let both : (is_good sc me i m.frame w.slot && nat_le w.first w.last) ≡ true = ap (λ b. b && nat_le w.first w.last) h.good ∙ h.some_tick in
    let same : closing_of sc m me i st w inbox ≡ close_window sc.sizes sc.plan me i kept w (λ j. map (arrival_of (clock_of sc me i)) (heard j)) =
    close-is sc.sizes sc.plan me i kept w (clock_of sc me i) got heard h.stamped h.all in
    ap (λ b. elim b as (λ _. Result) [ true ↦ close_on sc me i kept w heard | false ↦ record { state = st; row = None } ]) both
    ∙ ap (λ (x : Outcome). let r : Result = record { state = x.state; row = Some (row_of me i x.state heard x.closed) } in r) (sym same)
    ∙ ap (λ row. let r : Result = record { state = (closing_of sc m me i st w inbox).state; row = Some row } in r)
    (sym (row-is me i (closing_of sc m me i st w inbox).state got heard (closing_of sc m me i st w inbox).closed h.all))
