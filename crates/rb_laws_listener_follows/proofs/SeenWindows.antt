-- What a listener that follows has closed: with the last tick of a window this window, and before
-- it nothing.
use Rattle.std.proofs.{Common.{◌≡◌, ◌⊎◌, ℕ, zero, suc, ◌+◌, ◌/◌, ◌%◌, ◌<◌, ◌≤◌, ◌==◌, ◌&&◌, Bool, true, false, Option, Some, None, [], inl, inr, refl, sym, ◌∙◌, ap, arith}, lemmas.Bool.{eq-eqb, eqb-true, false_from_ne_true}}
use Rattle.std.specs.Option.{option_or}
use Rattle.rb_base.specs.{Nodes.Side.Biu, Sizes.Sizes}
use Rattle.rb_base.proofs.Plain.{and_first, and_second}
use Rattle.rb_rules.specs.{declared.closing.Closed.Closed, declared.plan.Plan.Plan, Core.{Act, Core, act_on, epoch_at, is_last, of_source, window_here}, ExactStage.Outcome, Goodness.Scenario, Hearing.close_window, NodeState.NodeState}
use Rattle.rb_laws_listener_learns.specs.{Ears.Ear, Receivers.{closing_at, closing_in, if_window, is_window, seen_by}}
use Rattle.rb_laws_listener_follows.proofs.FollowerRuns.{ClosesWindow, IsWindow, Stands, acts_by, closing, core_in, follows_window, state-in}

-- ---- one tick

-- a tick that is no window's last closes nothing
pub quiet_act : (sizes : Sizes) (plan : Plan) (c : Core) (st : NodeState) → is_last sizes plan Biu st c.had ≡ false → (act_on sizes plan Biu 16 c st None st).closed ≡ None
unfolding act_on
quiet_act sizes plan c st quiet = by (is_last sizes plan Biu st c.had) quiet
  where
    x : Outcome
    x = close_window sizes plan Biu 16 st (window_here sizes plan Biu st c.had) (of_source c.inbox)

    by : (b : Bool) → b ≡ false
        → (elim b as (λ _. Act) [
          | true ↦ record { core = record { state = x.state; had = c.had + 1; inbox = [] }; epoch = epoch_at sizes Biu st c.had; message = None; closed = Some x.closed }
          | false ↦ record { core = record { state = st; had = c.had + 1; inbox = c.inbox }; epoch = epoch_at sizes Biu st c.had; message = None; closed = None }
        ]).closed ≡ None
    by true h = cc
    by false h = refl

-- before the last tick of a window the listener closes nothing
pub closes_nothing : {sc : Scenario} {ear : Ear} {before st : NodeState} {first n : ℕ} → IsWindow sc.sizes sc.plan before st first n → Stands sc ear before first
    → (i : ℕ) → i < n → closing_at sc ear (first + i) ≡ None
closes_nothing {sc} {ear} {before} {st} {first} w s i lt =
    let c : Core = core_in sc.sizes ear before st first i (first + i) in
    ap (closing_in sc) (follows_window w s i refl (omega arith))
    ∙ ap (λ a. a.closed) (acts_by sc.sizes sc.plan c (omega (arith, w.in_time)) (state-in i w refl (omega arith)))
    ∙ quiet_act sc.sizes sc.plan c st (w.quiet (first + i) (omega arith) (omega arith))

-- with the last tick of a window the listener closes it
pub closes_last : {sc ear before st first n : _} → ClosesWindow sc ear before st first n
    → closing_at sc ear (first + n) ≡ Some (closing sc ear st first n).closed
closes_last {sc} c = ap (closing_in sc) c.here ∙ c.closed

-- ---- all ticks so far

-- a window is seen where it is closed first
pub seen_none : (sc : Scenario) (ear : Ear) (frame window k : ℕ) {o : _} → seen_by sc ear frame window k ≡ None → closing_at sc ear k ≡ o → if_window frame window o ≡ None
    → seen_by sc ear frame window (suc k) ≡ None
seen_none sc ear frame window k none is other =
    ap (λ x. option_or x (if_window frame window (closing_at sc ear k))) none ∙ ap (if_window frame window) is ∙ other

seen_some : (sc : Scenario) (ear : Ear) (frame window k : ℕ) {c : _} → seen_by sc ear frame window k ≡ None → closing_at sc ear k ≡ Some c → is_window frame window (Some c) ≡ true
    → seen_by sc ear frame window (suc k) ≡ Some c
seen_some sc ear frame window k {c} none is this =
    ap (λ x. option_or x (if_window frame window (closing_at sc ear k))) none ∙ ap (if_window frame window) is
    ∙ ap (λ b. elim b as (λ _. Option Closed) [ true ↦ Some c | false ↦ None ]) this

pub seen_stays : (sc : Scenario) (ear : Ear) (frame window k : ℕ) {c : _} → seen_by sc ear frame window k ≡ Some c → (d : ℕ) → seen_by sc ear frame window (d + k) ≡ Some c
seen_stays sc ear frame window k is zero = let e : k ≡ 0 + k = omega arith in ap (seen_by sc ear frame window) (sym e) ∙ is
seen_stays sc ear frame window k is (suc d) =
    let e : suc (d + k) ≡ suc d + k = omega arith in
    ap (seen_by sc ear frame window) (sym e)
    ∙ ap (λ x. option_or x (if_window frame window (closing_at sc ear (d + k)))) (seen_stays sc ear frame window k is d)

pub seen_quiet : (sc : Scenario) (ear : Ear) (frame window first : ℕ) → seen_by sc ear frame window first ≡ None → (n : ℕ) → ((i : ℕ) → i < n → closing_at sc ear (first + i) ≡ None)
    → seen_by sc ear frame window (first + n) ≡ None
seen_quiet sc ear frame window first none zero quiet = let e : first ≡ first + 0 = omega arith in ap (seen_by sc ear frame window) (sym e) ∙ none
seen_quiet sc ear frame window first none (suc n) quiet =
    let e : suc (first + n) ≡ first + suc n = omega arith in
    ap (seen_by sc ear frame window) (sym e)
    ∙ seen_none sc ear frame window (first + n) (seen_quiet sc ear frame window first none n (λ i lt. quiet i (omega arith))) (quiet n (omega arith)) refl

-- ---- windows that are still to come

-- window `v` of frame `g` is window `w` of `frame` or a later one
abbrev pub IsFrom : ℕ → ℕ → ℕ → ℕ → Type 0
IsFrom frame w g v = (frame < g) ⊎ ((frame ≡ g) × (w ≤ v))

-- up to tick `k` no window from window `w` of the frame on was closed
abbrev pub NoneSeen : Scenario → Ear → ℕ → ℕ → ℕ → Type 0
NoneSeen sc ear frame w k = (g v : ℕ) → IsFrom frame w g v → seen_by sc ear g v k ≡ None

three_tests : {a b c : _} → a ≡ true → b ≡ true → c ≡ true → (a && b && c) ≡ true
three_tests p q r = rw (p, q, r) refl

-- `c` has the place of window `w` of the frame
abbrev pub IsPlaceOf : Closed → ℕ → ℕ → Type 0
IsPlaceOf c frame w = c.place ≡ record { frame = frame; slot = w / 3; stage = w % 3 + 1 }

is_this : (c : Closed) {frame : ℕ} (w : ℕ) → IsPlaceOf c frame w → is_window frame w (Some c) ≡ true
is_this c {frame} w is =
    three_tests (eq-eqb c.place.frame frame (ap (λ p. p.frame) is))
    (eq-eqb c.place.slot (w / 3) (ap (λ p. p.slot) is)) (eq-eqb c.place.stage (w % 3 + 1) (ap (λ p. p.stage) is))

-- a later window is not window `w` of the frame
is_other : (c : Closed) {frame : ℕ} (w : ℕ) {g v : ℕ} → IsPlaceOf c frame w → IsFrom frame (w + 1) g v → is_window g v (Some c) ≡ false
is_other c {frame} w {g} {v} is later = false_from_ne_true (is_window g v (Some c)) (λ h. differs h later)
  where
    differs : ((c.place.frame == g) && (c.place.slot == v / 3) && (c.place.stage == v % 3 + 1)) ≡ true → IsFrom frame (w + 1) g v → ⊥
    differs h later =
        let front : ((c.place.frame == g) && (c.place.slot == v / 3)) ≡ true = and_first ((c.place.frame == g) && (c.place.slot == v / 3)) (c.place.stage == v % 3 + 1) h in
        let f : c.place.frame ≡ g = eqb-true c.place.frame g (and_first (c.place.frame == g) (c.place.slot == v / 3) front) in
        let s : c.place.slot ≡ v / 3 = eqb-true c.place.slot (v / 3) (and_second (c.place.frame == g) (c.place.slot == v / 3) front) in
        let t : c.place.stage ≡ v % 3 + 1 = eqb-true c.place.stage (v % 3 + 1) (and_second ((c.place.frame == g) && (c.place.slot == v / 3)) (c.place.stage == v % 3 + 1) h) in
        let f2 : c.place.frame ≡ frame = ap (λ p. p.frame) is in
        let s2 : c.place.slot ≡ w / 3 = ap (λ p. p.slot) is in
        let t2 : c.place.stage ≡ w % 3 + 1 = ap (λ p. p.stage) is in
        by later (omega (arith, f, f2)) (omega (arith, s, s2)) (omega (arith, t, t2))
      where
        by : IsFrom frame (w + 1) g v → frame ≡ g → w / 3 ≡ v / 3 → w % 3 ≡ v % 3 → ⊥
        by (inl less) e q r = absurd (omega (arith, less, e))
        by (inr same) e q r = absurd (omega (arith, same.1, q, r))

-- the window is closed with tick `k`, and those after it are still to come
pub record SeesWindow (sc : Scenario) (ear : Ear) (frame w : ℕ) (c : Closed) (k : ℕ) : Type 0 where
  pub here : seen_by sc ear frame w (suc k) ≡ Some c
  pub later : NoneSeen sc ear frame (w + 1) (suc k)

pub sees_window : {sc : Scenario} {ear : Ear} {before st : NodeState} {first n frame w : ℕ} → IsWindow sc.sizes sc.plan before st first n → Stands sc ear before first
    → ClosesWindow sc ear before st first n → NoneSeen sc ear frame w first → IsPlaceOf (closing sc ear st first n).closed frame w
    → SeesWindow sc ear frame w (closing sc ear st first n).closed (first + n)
sees_window {sc} {ear} {st} {first} {n} {frame} {w} window stands closes none place = record {
  here = seen_some sc ear frame w (first + n) (up_to frame w (inr (refl, omega arith))) (closes_last closes) (is_this c w place);
  later = λ g v from.
      seen_none sc ear g v (first + n) (up_to g v (before_too g v from)) (closes_last closes)
      (ap (λ b. elim b as (λ _. Option Closed) [ true ↦ Some c | false ↦ None ]) (is_other c w place from));
}
  where
    c : Closed
    c = (closing sc ear st first n).closed

    up_to : (g v : ℕ) → IsFrom frame w g v → seen_by sc ear g v (first + n) ≡ None
    up_to g v from = seen_quiet sc ear g v first (none g v from) n (closes_nothing window stands)

    before_too : (g v : ℕ) → IsFrom frame (w + 1) g v → IsFrom frame w g v
    before_too g v (inl less) = inl less
    before_too g v (inr same) = inr (same.0, omega (arith, same.1))

-- if no window from window `w` of a frame on was closed, none of the next frame was
pub none_later : (sc : Scenario) (ear : Ear) {frame w : ℕ} (k : ℕ) → NoneSeen sc ear frame w k → NoneSeen sc ear (frame + 1) 0 k
none_later sc ear k none g v (inl less) = none g v (inl (omega (arith, less)))
none_later sc ear k none g v (inr same) = none g v (inl (omega (arith, same.0)))
