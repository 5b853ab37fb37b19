-- A window that begins with a tick begins in time.
use Rattle.std.proofs.{Common.{◌≡◌, ℕ, ◌+◌, ◌-◌, ◌*◌, ◌^◌, ◌≤◌, ◌==◌, Bool, true, false, Some, None, Option, sym, ap, refl, subst, arith, List, [], ◌∷◌, ◌++◌, map}, lemmas.Bool.eqb-true, lemmas.Option.same_Some}
use Rattle.std.specs.{Prelude.{cond, find, unwrap_or}, List.range_with_len}
use Rattle.rb_base.specs.{Nodes.Side, Sizes.{Sizes, sync_slot_of}}
use Rattle.rb_rules.specs.{declared.plan.Plan.Plan, declared.plan.Window.Window, Core.{Core, state_at, window_here}, Goodness.Scenario, Hearing.{Span, span_of, tail_at}, NodeState.NodeState, Plan.f0_of, Windows.{exact_window, holds_offset, sync_windows, window_at, window_of}}
use Rattle.rb_world.specs.Steps.{SpansFit}

-- The window of a tick.

-- a window of a frame is a stage
abbrev IsStage : Window → Type 0
IsStage w = 1 ≤ w.stage

found-there : (test : Window → Bool) (x w : Window) (xs : List Window) (b : Bool) → IsStage x → (find test xs ≡ Some w → IsStage w)
    → cond b (Some x) (find test xs) ≡ Some w → IsStage w
found-there test x w xs true one rest e = subst IsStage (same_Some x w e) one
found-there test x w xs false one rest e = rest e

found-exact : (plan : Plan) (test : Window → Bool) (ns : List ℕ) (rest : List Window) (w : Window) → (find test rest ≡ Some w → IsStage w)
    → find test (map (exact_window plan) ns ++ rest) ≡ Some w → IsStage w
found-exact plan test [] rest w h e = h e
found-exact plan test (n ∷ ns) rest w h e =
    found-there test (exact_window plan n) w (map (exact_window plan) ns ++ rest) (test (exact_window plan n)) (omega arith) (found-exact plan test ns rest w h) e

found-sync : (sizes : Sizes) (plan : Plan) (test : Window → Bool) (w : Window) → find test (sync_windows sizes plan) ≡ Some w → IsStage w
found-sync sizes plan test w =
    let one : Window = window_of (sync_slot_of sizes) 1 (f0_of sizes plan) plan.l in
    let two : Window = window_of (sync_slot_of sizes) 2 (f0_of sizes plan + plan.l) plan.v in
    let three : Window = window_of (sync_slot_of sizes) 3 (f0_of sizes plan + plan.l + plan.v) plan.z in
    found-there test one w (two ∷ three ∷ []) (test one) (omega arith)
    (found-there test two w (three ∷ []) (test two) (omega arith)
    (found-there test three w [] (test three) (omega arith) (λ e. absurd (cc))))

here-stage : (sizes : Sizes) (plan : Plan) (me : Side) (st : NodeState) (k : ℕ) → IsStage (window_here sizes plan me st k)
here-stage sizes plan me st k = by (window_at sizes plan (k - st.epoch)) refl
  where
    by : (o : Option Window) → window_at sizes plan (k - st.epoch) ≡ o → IsStage (unwrap_or o (tail_at sizes plan me st))
    by None e = omega arith
    by (Some w) e =
        found-exact plan (holds_offset (k - st.epoch)) (range_with_len 0 (3 * sync_slot_of sizes)) (sync_windows sizes plan) w (found-sync sizes plan (holds_offset (k - st.epoch)) w) e

if-begins : (b : Bool) (x y : Span) → (elim b as (λ _. Option Span) [ true ↦ Some x | false ↦ None ]) ≡ Some y → (b ≡ true) × (x ≡ y)
if-begins true x y e = (refl, same_Some x y e)
if-begins false x y e = absurd (cc)

-- a window that a node enters with its next tick begins by the last tick that a node may have
pub spans-by : (sc : Scenario) (me : Side) (c : Core) → c.had ≤ 2 ^ 31 → SpansFit sc me c
spans-by sc me c had span e =
    let now : NodeState = state_at sc.sizes sc.plan me c.state c.had in
    let here : Span = span_of now (window_here sc.sizes sc.plan me now c.had) in
    let is = if-begins (here.first == c.had) here span e in
    let begins : here.first ≡ c.had = eqb-true here.first c.had is.0 in
    let first : span.first ≡ here.first = ap (λ (s : Span). s.first) (sym is.1) in
    record {
      stage = subst (λ (s : Span). 1 ≤ s.place.stage) is.1 (here-stage sc.sizes sc.plan me now c.had);
      first = omega (arith, begins, first, had);
    }
