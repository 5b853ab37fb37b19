-- For the law that events are rounds: the last tick of a window at its node.
use Rattle.std.proofs.{Common.{◌≡◌, ℕ, suc, ◌+◌, ◌*◌, ◌-◌, ◌^◌, ◌<◌, ◌≤◌, ◌==◌, ◌⊎◌, nat_lt, if◌then◌else◌, Bool, true, false, List, [], ◌++◌, refl, ap, sym, ◌∙◌, subst, arith, inl, inr, Option, Some, None, slice_get, unwrap_or}, lemmas.Bool.{cases_lt, le-leb, true≢false}, lemmas.Bool.Decides.nat_tests}
use Rattle.rb_base.specs.{Nodes.{Side, other}, Sizes.{Sizes, sync_slot_of}}
use Rattle.rb_base.proofs.Plain.{some-from}
use Rattle.rb_rules.specs.{declared.closing.Closed.Closed as Shown, declared.plan.Plan.Plan, declared.plan.Window.Window, Book.{of_kind, Row}, Clock.{Timeline, time_of}, Core.{Core, Act, of_source, pass_to, state_at, window_here}, ExactStage.{Outcome, close_exact, outcome_of}, Goodness.{Scenario, is_good, clock_of}, Hearing.{Coming, Span, close_window, row_of, span_of, window_numbered}, NodeState.NodeState, Ports.{HandIn, PortState}, Rounds.{Moment, Result, go_through, moment, sent_in, window_in, windows_in}, SyncStage.{new_epoch_of, close_sync, sync_outcome_of}, Sense.{Arrival, sense_of}, NodeSteps.expect_of, WorldStep.{Timed, Site, after_act, await, coming_from, pass_and_tick, says_in, stop}}
use Rattle.rb_rules.proofs.{Drift.times_rise_to, WindowNumbers.sync-numbered}
use Rattle.rb_laws_events.specs.{Closing.stages_in, OwnMoments.{StandsWhereNotGood, open_window, ready_state}}
use Rattle.rb_laws_events.proofs.{ClosingTicks.{HoldsHeard, closing_of, result-is, spoken}, CloseOrder.{IsWindowLater, window-later}, Invariant.{ComesInWindow, ComesLater, InTime, NodeStands, ahead_so_far, entry_of, heard_so_far, is_good_at, last_tick, next_stage, word_at}, NodeActs.{ActsClose, HasRoom, HasWord, IsInWindow, acts-close}, NodeCloses.{after-close, all-here, good-span, heard-all, opens-stage, opens-tail, site_closed, span-begins, stage-lists}, NodeEvents.begun_after, NodeGoesOn.{Entered, enters, none-in-tail, tail-close}, NodeMoves.{Closed, NextPlace, after-tail, epoch-known, get-later, inner, last-stage, state_after}, NodeSends.{KeepsTime, sending_at}, NodeTicks.{Like, gone, like-kept, tail-last}, PendingLists.Hears, Receiving.Receives, RoundNodes.{Stands, slot-is, slot_numbered}, SameHeard.{AllOf, Every}, SayLists.{ComesIn, every-to, said_if, say-more, says-come-in, says-now}, StageOrder.last_of, TickWindows.{first_of, here-is}}

-- when a node closes the window of moment `p`, all good sources have sent what they send for it,
-- and none has sent anything for the stage after the next
pub record OthersKeepUp (sc : Scenario) (hands : List HandIn) (sent : Side → ℕ → ℕ → Bool) (me : Side) (i p : ℕ) : Type 0 where
  pub all_sent : (j : ℕ) → is_good_at sc (moment sc hands p) (other me) j ≡ true
      → (sent (other me) j p ≡ true) ⊎ (entry_of sc (moment sc hands p) me i j ≡ [])
  pub none_ahead : (q : ℕ) → q ≡ next_stage sc.sizes (moment sc hands p) p → (j : ℕ)
      → is_good_at sc (moment sc hands (next_stage sc.sizes (moment sc hands q) q)) (other me) j ≡ true
      → sent (other me) j (next_stage sc.sizes (moment sc hands q) q) ≡ false

-- the moments that follow are in time
pub record NextInTime (sc : Scenario) (hands : List HandIn) (p : ℕ) : Type 0 where
  pub tail : (moment sc hands p).window < stages_in sc.sizes
      → InTime sc (moment sc hands (suc p)) (moment sc hands (next_stage sc.sizes (moment sc hands (suc p)) (suc p)))
  pub stage : (q : ℕ) → q ≡ next_stage sc.sizes (moment sc hands p) p → InTime sc (moment sc hands q) (moment sc hands (next_stage sc.sizes (moment sc hands q) q))
  pub later : (moment sc hands p).window + 1 ≡ stages_in sc.sizes → (me : Side) (i j : ℕ) (st : NodeState) → slice_get (of_kind me (moment sc hands (suc p)).nodes) i ≡ Some st
      → is_good_at sc (moment sc hands (suc p)) me i ≡ true
      → is_good_at sc (moment sc hands (next_stage sc.sizes (moment sc hands (suc p)) (suc p))) (other me) j ≡ true
      → ComesLater sc (moment sc hands (suc p)) (moment sc hands (next_stage sc.sizes (moment sc hands (suc p)) (suc p))) me i j st

-- after the close the node stands in its next moment, `q`
pub record GoesOn (sc : Scenario) (hands : List HandIn) (sent : Side → ℕ → ℕ → Bool) (t : ℕ) (me : Side) (i q : ℕ) (s : Site) : Type 0 where
  pub st : NodeState
  pub a : Timed
  pub stands : NodeStands sc hands sent t me i q s st a
  pub silent : gone (sending_at sc.sizes sc.plan me i st (moment sc hands q).window (word_at sc (moment sc hands q) me i st)) a.tick ≡ false
  pub had : s.core.had ≡ st.epoch + first_of sc.sizes sc.plan me st (moment sc hands q).window

pub record Stops (sc : Scenario) (hands : List HandIn) (me : Side) (i q : ℕ) (s : Site) : Type 0 where
  pub not_good : is_good_at sc (moment sc hands q) me i ≡ false
  pub stopped : StandsWhereNotGood sc me i s.core
  pub runs : s.runs ≡ false
  pub ahead : s.ahead ≡ None
  pub coming : s.coming ≡ []

pub record ClosesWindow (sc : Scenario) (hands : List HandIn) (sent : Side → ℕ → ℕ → Bool) (ports : List PortState) (me : Side) (i p : ℕ) (s : Site) (st : NodeState) (a : Timed) (x : Act) : Type 0 where
  pub q : ℕ
  pub place : (q ≡ next_stage sc.sizes (moment sc hands p) p) ⊎ ((q ≡ suc p) × ((moment sc hands q).window ≡ stages_in sc.sizes))
  pub goes : GoesOn sc hands sent a.time me i q (after_act sc ports me i x s) ⊎ Stops sc hands me i q (after_act sc ports me i x s)
  pub runs : is_good_at sc (moment sc hands q) me i ≡ true → (after_act sc ports me i x s).runs ≡ s.runs
  pub row : (after_act sc ports me i x s).row
      ≡ (elim ((window_in sc (moment sc hands p) me st).stage == 4) as (λ _. Option Row) [ true ↦ s.row | false ↦ (go_through sc (moment sc hands p) (sent_in sc (moment sc hands p)) me i st (window_in sc (moment sc hands p) me st)).row ])
  pub begun : (after_act sc ports me i x s).begun ≡ begun_after sc ports me i x.epoch s.begun
  -- what it shows is what the rounds tell of the window
  pub told : (c : Shown) × ((x.closed ≡ Some c)
      × ((go_through sc (moment sc hands p) (sent_in sc (moment sc hands p)) me i st (window_in sc (moment sc hands p) me st)).row ≡ Some (row_of me i x.core.state (coming_from s.got) c)))
  pub act : ActsClose sc me i st (moment sc hands p).window (word_at sc (moment sc hands p) me i st) a.tick (pass_to a.tick s.core) x

-- Lists.

ahead-every : (P : Coming → Type 0) (sc : Scenario) (m : Moment) (me : Side) (i j : ℕ) (sent : ℕ → Bool)
    → (is_good_at sc m (other me) j ≡ true → Every P (entry_of sc m me i j)) → Every P (ahead_so_far sc m me i sent j)
ahead-every P sc m me i j sent all = by (is_good_at sc m (other me) j) (sent j) refl
  where
    by : (b c : Bool) → is_good_at sc m (other me) j ≡ b
        → Every P (elim b as (λ _. List Coming) [ true ↦ elim c as (λ _. List Coming) [ true ↦ entry_of sc m me i j | false ↦ [] ] | false ↦ [] ])
    by true true e = all e
    by true false e = tt
    by false c e = tt

ahead-none : (sc : Scenario) (m : Moment) (me : Side) (i j : ℕ) (sent : ℕ → Bool) → (is_good_at sc m (other me) j ≡ true → sent j ≡ false)
    → ahead_so_far sc m me i sent j ≡ []
ahead-none sc m me i j sent none = by (is_good_at sc m (other me) j) refl
  where
    by : (b : Bool) → is_good_at sc m (other me) j ≡ b
        → (elim b as (λ _. List Coming) [ true ↦ elim (sent j) as (λ _. List Coming) [ true ↦ entry_of sc m me i j | false ↦ [] ] | false ↦ [] ]) ≡ []
    by true e = ap (λ (c : Bool). elim c as (λ _. List Coming) [ true ↦ entry_of sc m me i j | false ↦ [] ]) (none e)
    by false e = refl

ahead-tail : (sc : Scenario) (m : Moment) (me : Side) (i j : ℕ) (sent : ℕ → Bool) → m.window ≡ stages_in sc.sizes → ahead_so_far sc m me i sent j ≡ []
ahead-tail sc m me i j sent w =
    ap (λ l. elim (is_good_at sc m (other me) j) as (λ _. List Coming) [ true ↦ elim (sent j) as (λ _. List Coming) [ true ↦ l | false ↦ [] ] | false ↦ [] ]) (none-in-tail sc m me i j w)
    ∙ by (is_good_at sc m (other me) j) (sent j)
  where
    by : (b c : Bool) → (elim b as (λ _. List Coming) [ true ↦ elim c as (λ _. List Coming) [ true ↦ [] | false ↦ [] ] | false ↦ [] ]) ≡ []
    by true true = refl
    by true false = refl
    by false c = refl

-- The next place.

same-slot : (sizes : Sizes) (n : ℕ) → 3 * sync_slot_of sizes ≤ n → slot_numbered sizes n ≡ slot_numbered sizes (n + 1)
same-slot sizes n h = omega arith

pub good-in-sync : (sc : Scenario) (hands : List HandIn) (me : Side) (i p : ℕ) → (moment sc hands p).window < stages_in sc.sizes
    → 3 * sync_slot_of sc.sizes ≤ (moment sc hands p).window → is_good_at sc (moment sc hands p) me i ≡ true → is_good_at sc (moment sc hands (suc p)) me i ≡ true
good-in-sync sc hands me i p below from good =
    let m : Moment = moment sc hands p in
    let next : IsWindowLater sc m (moment sc hands (suc p)) = window-later sc hands m (omega arith) in
    ap (λ f. is_good sc me i f (slot_numbered sc.sizes (moment sc hands (suc p)).window)) next.frame
    ∙ ap (λ w. is_good sc me i m.frame (slot_numbered sc.sizes w)) next.window
    ∙ ap (is_good sc me i m.frame) (sym (same-slot sc.sizes m.window from)) ∙ good

next-place : {sc : Scenario} {hands : List HandIn} {me : Side} {i p : ℕ} {st : NodeState} → HasRoom sc.plan → KeepsTime sc.sizes sc.plan me st
    → Closed sc hands me i p st
    → ((moment sc hands p).window ≡ stages_in sc.sizes → new_epoch_of sc.plan me (state_after sc (moment sc hands p) me i st) ≡ new_epoch_of sc.plan me st)
    → NextPlace sc hands me i p (st.epoch + last_of sc.sizes sc.plan me st (moment sc hands p).window + 1) (state_after sc (moment sc hands p) me i st)
next-place {sc} {hands} {me} {i} {p} {st} room keeps h same =
    let m : Moment = moment sc hands p in
    let le : m.window ≤ stages_in sc.sizes = h.window in
    elim (cases_lt (m.window + 1) (stages_in sc.sizes)) [
      | inl lt ↦ elim (cases_lt m.window (3 * sync_slot_of sc.sizes)) [
        | inl exact ↦ inner room.ticks h lt (inr (omega arith))
        | inr sync ↦ inner room.ticks h lt (inl (good-in-sync sc hands me i p (omega arith) sync h.good))
      ]
      | inr ge ↦ elim (cases_lt m.window (stages_in sc.sizes)) [
        | inl below ↦ last-stage room.ticks h (omega arith) (good-in-sync sc hands me i p below (omega arith) h.good)
        | inr over ↦
            let is : m.window ≡ stages_in sc.sizes = omega arith in
            let known = some-from (new_epoch_of sc.plan me st) (epoch-known sc.plan me (omega arith) h.knows) in
            let x : ℕ = known.0 in
            let low = keeps.next x known.1 in
            let some : 1 ≤ sc.plan.l = room.ticks.l in
            let last : last_of sc.sizes sc.plan me st m.window ≡ x - st.epoch - 1 =
            ap (last_of sc.sizes sc.plan me st) is ∙ tail-last sc.sizes sc.plan me st ∙ ap (λ o. unwrap_or o 0 - st.epoch - 1) known.1 in
            after-tail room.ticks h is (same is ∙ known.1) (omega (arith, low, some, last))
      ]
    ]

-- The last tick.

in-time-there : {sc hands p : _} (q : ℕ)
    → ((q ≡ next_stage sc.sizes (moment sc hands p) p) ⊎ ((q ≡ suc p) × ((moment sc hands q).window ≡ stages_in sc.sizes)))
    → (moment sc hands p).window ≤ stages_in sc.sizes → NextInTime sc hands p → InTime sc (moment sc hands q) (moment sc hands (next_stage sc.sizes (moment sc hands q) q))
in-time-there q (inl stage) within times = times.stage q stage
in-time-there {sc} {hands} {p} q (inr tail) within times =
    let m : Moment = moment sc hands p in
    let later : IsWindowLater sc m (moment sc hands (suc p)) = window-later sc hands m (omega arith) in
    let at : (moment sc hands (suc p)).window ≡ stages_in sc.sizes = ap (λ q. (moment sc hands q).window) (sym tail.0) ∙ tail.1 in
    let before : m.window + 1 ≡ stages_in sc.sizes = sym later.window ∙ at in
    subst (λ q. InTime sc (moment sc hands q) (moment sc hands (next_stage sc.sizes (moment sc hands q) q))) (sym tail.0) (times.tail (omega arith))

pub closed-stage : (sizes : Sizes) (plan : Plan) (me : Side) (i : ℕ) (st : NodeState) (w : Window) (arrivals : ℕ → List Arrival)
    → (close_window sizes plan me i st w arrivals).closed.place.stage ≡ w.stage
unfolding close_sync sync_outcome_of close_exact outcome_of
closed-stage sizes plan me i st w arrivals = by (w.slot == sync_slot_of sizes)
  where
    by : (b : Bool) → (elim b as (λ _. Outcome) [
      | true ↦ close_sync sizes me st w.stage (st.epoch + w.first) (λ j. sense_of (expect_of sizes plan.version st w.slot w.stage) (arrivals j))
      | false ↦ close_exact sizes me i st w.slot w.stage (λ j. sense_of (expect_of sizes plan.version st w.slot w.stage) (arrivals j))
    ]).closed.place.stage ≡ w.stage
    by true = refl
    by false = refl

next-of-tail : (sizes : Sizes) (m tail : Moment) (p : ℕ) → m.window + 1 ≡ stages_in sizes → tail.window ≡ stages_in sizes
    → next_stage sizes tail (suc p) ≡ next_stage sizes m p
next-of-tail sizes m tail p e f =
    let a : nat_lt (m.window + 1) (stages_in sizes) ≡ false = lt-not (m.window + 1) (stages_in sizes) (omega arith) in
    let b : nat_lt (tail.window + 1) (stages_in sizes) ≡ false = lt-not (tail.window + 1) (stages_in sizes) (omega arith) in
    let n : suc p + (windows_in sizes + 1 - tail.window) ≡ p + (windows_in sizes + 1 - m.window) = omega arith in
    ap (λ t. suc p + (if t then 1 else windows_in sizes + 1 - tail.window)) b ∙ n ∙ sym (ap (λ t. p + (if t then 1 else windows_in sizes + 1 - m.window)) a)
  where
    lt-not : (a b : ℕ) → b ≤ a → nat_lt a b ≡ false
    lt-not a b h = grind (arith, nat_tests)

-- what is sent to the node for the windows to come
opened-lists : {sc : Scenario} {hands : List HandIn} {sent : Side → ℕ → ℕ → Bool} {me : Side} {i p : ℕ} (q : ℕ) {st : NodeState} (t : ℕ) (got : List Coming) {coming : List Coming} (heard : ℕ → List Coming)
    → st.frame ≡ (moment sc hands q).frame
    → ((q ≡ next_stage sc.sizes (moment sc hands p) p)
    ⊎ ((q ≡ suc p) × ((moment sc hands q).window ≡ stages_in sc.sizes)))
    → (moment sc hands p).window ≤ stages_in sc.sizes → NextInTime sc hands p → OthersKeepUp sc hands sent me i p
    → slice_get (of_kind me (moment sc hands q).nodes) i ≡ Some st → is_good_at sc (moment sc hands q) me i ≡ true → Every (λ c. t < c.time) coming
    → ((j : ℕ) → Hears j t got coming (heard j)
    (ahead_so_far sc (moment sc hands (next_stage sc.sizes (moment sc hands p) p)) me i (λ j. sent (other me) j (next_stage sc.sizes (moment sc hands p) p)) j))
    → (j : ℕ) → Hears j (time_of (clock_of sc me i) (last_tick sc (moment sc hands q) me st)) [] (coming ++ says_in sc me i (span_of st (window_in sc (moment sc hands q) me st)))
    (heard_so_far sc (moment sc hands q) me i (span_of st (window_in sc (moment sc hands q) me st)) (λ j. sent (other me) j q) j)
    (ahead_so_far sc (moment sc hands (next_stage sc.sizes (moment sc hands q) q)) me i (λ j. sent (other me) j (next_stage sc.sizes (moment sc hands q) q)) j)
opened-lists {sc} {hands} {sent} {me} {i} q {st} t got {coming} heard frame (inl stage) within times others there good after hears j =
    let m2 : Moment = moment sc hands q in
    let span : Span = span_of st (window_in sc m2 me st) in
    let u : ℕ = time_of (clock_of sc me i) (last_tick sc m2 me st) in
    let was : Hears j t got coming (heard j) (ahead_so_far sc m2 me i (λ j. sent (other me) j q) j) =
    subst (λ q. Hears j t got coming (heard j) (ahead_so_far sc (moment sc hands q) me i (λ j. sent (other me) j q) j)) (sym stage) (hears j) in
    let in_time : Every (λ c. c.time ≤ u) (ahead_so_far sc m2 me i (λ j. sent (other me) j q) j) =
    ahead-every (λ c. c.time ≤ u) sc m2 me i j (λ j. sent (other me) j q)
    (λ g. every-to (ComesInWindow sc m2 me i st) (λ c. c.time ≤ u) (λ c h. h.1) (entry_of sc m2 me i j) ((times.stage q stage).heard me i j st there good g)) in
    let opened : Hears j u [] coming (ahead_so_far sc m2 me i (λ j. sent (other me) j q) j) [] = opens-stage u after in_time was in
    let lists = stage-lists sc m2 me i j st (λ j. sent (other me) j q) frame in
    let says_times : Every (λ c. c.time ≤ u) (says_in sc me i span) =
    every-to (ComesIn (clock_of sc me i) span) (λ c. c.time ≤ u) (λ c h. h.1) (says_in sc me i span) (says-come-in sc me i span) in
    let more : Hears j u [] (coming ++ says_in sc me i span) (ahead_so_far sc m2 me i (λ j. sent (other me) j q) j ++ said_if sc me i span j) [] =
    say-more (says_in sc me i span)
    (says-now sc me i span j) says_times lists.1 opened in
    subst (λ l. Hears j u [] (coming ++ says_in sc me i span) (heard_so_far sc m2 me i span (λ j. sent (other me) j q) j) l)
    (sym (ahead-none sc (moment sc hands (next_stage sc.sizes m2 q)) me i j (λ j. sent (other me) j (next_stage sc.sizes m2 q)) (others.none_ahead q stage j)))
    (subst (λ l. Hears j u [] (coming ++ says_in sc me i span) l []) lists.0 more)
opened-lists {sc} {hands} {sent} {me} {i} {p} q {st} t got {coming} heard frame (inr tail) within times others there good after hears j =
    let m : Moment = moment sc hands p in
    let m2 : Moment = moment sc hands q in
    let span : Span = span_of st (window_in sc m2 me st) in
    let u : ℕ = time_of (clock_of sc me i) (last_tick sc m2 me st) in
    let later : IsWindowLater sc m (moment sc hands (suc p)) = window-later sc hands m (omega arith) in
    let at : (moment sc hands (suc p)).window ≡ stages_in sc.sizes = ap (λ q. (moment sc hands q).window) (sym tail.0) ∙ tail.1 in
    let before : m.window + 1 ≡ stages_in sc.sizes = sym later.window ∙ at in
    let q_next : next_stage sc.sizes m p ≡ next_stage sc.sizes m2 q =
    sym (next-of-tail sc.sizes m (moment sc hands (suc p)) p before at) ∙ ap (λ q. next_stage sc.sizes (moment sc hands q) q) (sym tail.0) in
    let z : ℕ = next_stage sc.sizes m2 q in
    let was : Hears j t got coming (heard j) (ahead_so_far sc (moment sc hands z) me i (λ j. sent (other me) j z) j) =
    subst (λ z. Hears j t got coming (heard j) (ahead_so_far sc (moment sc hands z) me i (λ j. sent (other me) j z) j)) q_next (hears j) in
    let its : (st : NodeState) → slice_get (of_kind me m2.nodes) i ≡ Some st → is_good_at sc m2 me i ≡ true → is_good_at sc (moment sc hands z) (other me) j ≡ true
    → ComesLater sc m2 (moment sc hands z) me i j st =
    subst (λ q. (st : NodeState) → slice_get (of_kind me (moment sc hands q).nodes) i ≡ Some st → is_good_at sc (moment sc hands q) me i ≡ true
    → is_good_at sc (moment sc hands (next_stage sc.sizes (moment sc hands q) q)) (other me) j ≡ true
    → ComesLater sc (moment sc hands q) (moment sc hands (next_stage sc.sizes (moment sc hands q) q)) me i j st) (sym tail.0)
    (λ st there good source. times.later before me i j st there good source) in
    let late : Every (λ c. u < c.time) (ahead_so_far sc (moment sc hands z) me i (λ j. sent (other me) j z) j) =
    ahead-every (λ c. u < c.time) sc (moment sc hands z) me i j (λ j. sent (other me) j z) (λ g. its st there good g) in
    let opened : Hears j u [] coming [] (ahead_so_far sc (moment sc hands z) me i (λ j. sent (other me) j z) j) = opens-tail u after late was in
    let lists = stage-lists sc m2 me i j st (λ j. sent (other me) j q) frame in
    let none : ahead_so_far sc m2 me i (λ j. sent (other me) j q) j ≡ [] = ahead-tail sc m2 me i j (λ j. sent (other me) j q) tail.1 in
    let all : [] ++ said_if sc me i span j ≡ heard_so_far sc m2 me i span (λ j. sent (other me) j q) j = ap (λ l. l ++ said_if sc me i span j) (sym none) ∙ lists.0 in
    let says_times : Every (λ c. c.time ≤ u) (says_in sc me i span) =
    every-to (ComesIn (clock_of sc me i) span) (λ c. c.time ≤ u) (λ c h. h.1) (says_in sc me i span) (says-come-in sc me i span) in
    subst (λ l. Hears j u [] (coming ++ says_in sc me i span) l (ahead_so_far sc (moment sc hands z) me i (λ j. sent (other me) j z) j)) all
    (say-more (says_in sc me i span)
    (says-now sc me i span j) says_times (inr refl) opened)

pub closes-window : {sc : Scenario} {hands : List HandIn} {sent : Side → ℕ → ℕ → Bool} {now : ℕ} {ports : List PortState} {me : Side} {i p : ℕ} {s : Site} {st : NodeState} {a : Timed}
    → HasRoom sc.plan → Stands sc (moment sc hands p) me st → NextInTime sc hands p → OthersKeepUp sc hands sent me i p
    → HasWord sc ports me i st (moment sc hands p).window (word_at sc (moment sc hands p) me i st)
    → Every (λ c. a.time < c.time) s.coming → a.tick ≡ last_tick sc (moment sc hands p) me st → NodeStands sc hands sent now me i p s st a
    → ClosesWindow sc hands sent ports me i p s st a (pass_and_tick sc ports me i a.tick s.core)
unfolding pass_and_tick
closes-window {sc} {hands} {sent} {now} {ports} {me} {i} {p} {s} {st} {a} room known times others words later last h =
    let m : Moment = moment sc hands p in
    let n : ℕ = m.window in
    let word : ℕ = word_at sc m me i st in
    let clock : Timeline = clock_of sc me i in
    let w : Window = window_in sc m me st in
    let t : ℕ = time_of clock (last_tick sc m me st) in
    let c : Core = pass_to a.tick s.core in
    let heard : ℕ → List Coming = heard_so_far sc m me i (span_of st w) (λ j. sent (other me) j p) in
    let ahead : ℕ → List Coming = ahead_so_far sc (moment sc hands (next_stage sc.sizes m p)) me i (λ j. sent (other me) j (next_stage sc.sizes m p)) in
    let r : Receives sc me i (last_tick sc m me st) heard ahead now s a = h.receives in
    let le : s.core.had ≤ a.tick = r.is_next.later in
    let had : c.had ≡ a.tick = omega arith in
    let small : a.tick < 2 ^ 31 = r.is_next.below in
    let stands : IsInWindow sc.sizes sc.plan me i st n word c.had c.state = subst (λ k. IsInWindow sc.sizes sc.plan me i st n word k s.core.state) (sym had) h.stands in
    let x : Act = pass_and_tick sc ports me i a.tick s.core in
    let acts : ActsClose sc me i st n word a.tick c x =
    subst (λ k. ActsClose sc me i st n word k c x) had (acts-close ports c room stands (omega arith) words (had ∙ last)) in
    let at_time : a.time ≡ time_of clock a.tick = r.at_time in
    let at_last : a.time ≡ t = at_time ∙ ap (time_of clock) last in
    let after : Every (λ c. t < c.time) s.coming = subst (λ u. Every (λ c. u < c.time) s.coming) at_last later in
    let from : st.epoch + first_of sc.sizes sc.plan me st n ≤ a.tick = h.stands.at.from in
    let some : first_of sc.sizes sc.plan me st n ≤ last_of sc.sizes sc.plan me st n = omega arith in
    let holds : HoldsHeard sc m (sent_in sc m) me i st w s.core.inbox s.got = record {
      good = ap (is_good sc me i m.frame) (slot-is sc.sizes sc.plan me st n) ∙ h.good;
      some_tick = le-leb w.first w.last some;
      stamped = r.inbox;
      all = λ j. subst (AllOf (coming_from s.got j)) (heard-all sc m me i j st (λ j. sent (other me) j p) known.frame (others.all_sent j))
          (all-here after (r.hears j));
    } in
    let outcome : Outcome = closing_of sc m me i st w s.core.inbox in
    let result : Result = record { state = outcome.state; row = Some (row_of me i outcome.state (coming_from s.got) outcome.closed) } in
    let is : go_through sc m (sent_in sc m) me i st w ≡ result = result-is holds in
    let end : NodeState = state_after sc m me i st in
    let xstate : x.core.state ≡ end = ap (λ (c : Core). c.state) acts.core ∙ sym (ap (λ (r : Result). r.state) is) in
    let xhad : x.core.had ≡ a.tick + 1 = ap (λ (c : Core). c.had) acts.core in
    let closed : Closed sc hands me i p st = record {
      window = h.stands.window;
      state = h.state;
      good = h.good;
      frame = known.frame;
      knows = known.knows;
      some = some;
      keeps = λ lt good. (times.tail lt).keeps me i end (get-later sc hands p me i (omega arith) h.state) good;
    } in
    let tail_same : n ≡ stages_in sc.sizes → new_epoch_of sc.plan me end ≡ new_epoch_of sc.plan me st =
    λ e.
    let tail : window_numbered sc.sizes sc.plan me st n ≡ _ = ap (window_numbered sc.sizes sc.plan me st) e ∙ sync-numbered sc.sizes sc.plan me st 3 in
    let like : Like sc.sizes sc.plan me i st (spoken sc m me i st w) = like-kept sc.sizes sc.plan me i st w.slot w.stage word in
    ap (λ (r : Result). new_epoch_of sc.plan me r.state) is
    ∙ tail-close sc.sizes sc.plan me i (spoken sc m me i st w) w (of_source s.core.inbox) (ap (λ (w : Window). w.slot) tail) (ap (λ (w : Window). w.stage) tail)
    ∙ like.next in
    let np : NextPlace sc hands me i p (last_tick sc m me st + 1) end = next-place room h.stands.keeps closed tail_same in
    let q : ℕ = np.q in
    let m2 : Moment = moment sc hands q in
    let w2 : Window = window_in sc m2 me np.st in
    let span : Span = span_of np.st w2 in
    let k_is : last_tick sc m me st + 1 ≡ a.tick + 1 = omega arith in
    let first : a.tick + 1 ≡ np.st.epoch + first_of sc.sizes sc.plan me np.st m2.window = sym k_is ∙ np.first in
    let turned : state_at sc.sizes sc.plan me x.core.state x.core.had ≡ np.st =
    ap (λ k. state_at sc.sizes sc.plan me x.core.state k) (xhad ∙ sym k_is) ∙ ap (λ z. state_at sc.sizes sc.plan me z (last_tick sc m me st + 1)) xstate ∙ np.turned in
    let some2 : first_of sc.sizes sc.plan me np.st m2.window ≤ last_of sc.sizes sc.plan me np.st m2.window = np.some in
    let here : window_here sc.sizes sc.plan me np.st x.core.had ≡ w2 =
    here-is me np.st room.ticks np.window (record { from = omega arith; to = omega arith }) in
    let begins = span-begins sc.sizes sc.plan me x.core.state m2.window turned here (xhad ∙ first) in
    let s2 : Site = site_closed sc ports me i x outcome.closed s in
    let site : (b : Bool) → is_good_at sc m2 me i ≡ b
    → after_act sc ports me i x s ≡ (elim b as (λ _. Site) [ true ↦ await sc me i (says_in sc me i span) s2 | false ↦ stop s2 ]) =
    λ b e. after-close sc ports me i x s acts.closed begins (good-span sc m2 me me i np.st np.frame ∙ e) in
    let row_stage : outcome.closed.place.stage ≡ w.stage = closed-stage sc.sizes sc.plan me i (spoken sc m me i st w) w (of_source s.core.inbox) in
    let its_row : Option Row = (go_through sc m (sent_in sc m) me i st w).row in
    let told : Some (row_of me i x.core.state (coming_from s.got) outcome.closed) ≡ its_row =
    ap (λ z. Some (row_of me i z (coming_from s.got) outcome.closed)) (ap (λ (c : Core). c.state) acts.core) ∙ sym (ap (λ (r : Result). r.row) is) in
    let kept_row : s2.row ≡ (elim (w.stage == 4) as (λ _. Option Row) [ true ↦ s.row | false ↦ its_row ]) =
    ap (λ n. elim (n == 4) as (λ _. Option Row) [ true ↦ s.row | false ↦ Some (row_of me i x.core.state (coming_from s.got) outcome.closed) ]) row_stage
    ∙ ap (λ o. elim (w.stage == 4) as (λ _. Option Row) [ true ↦ s.row | false ↦ o ]) told in
    let up : time_of clock a.tick ≤ time_of clock (a.tick + 1) = times_rise_to clock a.tick (a.tick + 1) (omega arith) in
    let goes_on : is_good_at sc m2 me i ≡ true → Entered sc hands sent a.time me i q np.st s2 = λ good.
    let it : InTime sc m2 (moment sc hands (next_stage sc.sizes m2 q)) = in-time-there q np.place h.stands.window times in
    enters room (it.keeps me i np.st np.state good) (it.room me i np.st np.state good)
    (record {
      state = np.state;
      good = good;
      frame = np.frame;
      window = np.window;
      had = xhad;
      turned = ap (state_at sc.sizes sc.plan me x.core.state) (sym xhad) ∙ turned;
      first = first;
      some = some2;
      empty = refl;
      inbox = ap (λ (c : Core). c.inbox) acts.core;
      known = r.known;
      later = every-to (λ c. a.time < c.time) (λ c. a.time ≤ c.time) (λ c lt. omega arith) s.coming later;
      behind = every-to (λ c. a.time < c.time) (λ c. (j : ℕ) → a.tick + 1 ≡ suc j → time_of clock j < c.time)
          (λ c lt j e. let same : j ≡ a.tick = omega arith in subst (λ j. time_of clock j < c.time) (sym same) (omega (arith, lt, at_time))) s.coming later;
      soon = omega (arith, at_time, up);
      before = λ j e. let same : j ≡ a.tick = omega arith in subst (λ j. time_of clock j ≡ a.time) (sym same) (sym at_time);
      at_first = λ e. absurd (omega arith);
      hears = opened-lists q t s.got heard np.frame np.place h.stands.window times others np.state good after r.hears;
    }) in
    let by : (b : Bool) → is_good_at sc m2 me i ≡ b → ClosesWindow sc hands sent ports me i p s st a x =
    λ b. elim b as (λ b. is_good_at sc m2 me i ≡ b → ClosesWindow sc hands sent ports me i p s st a x) [
      | true ↦ λ e.
          let ent : Entered sc hands sent a.time me i q np.st s2 = goes_on e in
          record {
            q = q;
            place = np.place;
            goes = inl (record {
              st = np.st;
              a = ent.a;
              stands = subst (λ z. NodeStands sc hands sent a.time me i q z np.st ent.a) (sym (site true e)) ent.stands;
              silent = ent.silent;
              had = ap (λ (z : Site). z.core.had) (site true e) ∙ xhad ∙ first;
            });
            runs = λ g. ap (λ (z : Site). z.runs) (site true e);
            row = ap (λ (z : Site). z.row) (site true e) ∙ kept_row;
            begun = ap (λ (z : Site). z.begun) (site true e);
            told = (outcome.closed, (acts.closed, sym told));
            act = acts;
          }
      | false ↦ λ e.
          record {
            q = q;
            place = np.place;
            goes = inr (record {
              not_good = e;
              stopped = ap (λ (z : Site). is_good sc me i (ready_state sc me z.core).frame (open_window sc me z.core).slot) (site false e)
                  ∙ ap (λ (y : NodeState). is_good sc me i y.frame (window_here sc.sizes sc.plan me y x.core.had).slot) turned
                  ∙ ap (λ (w : Window). is_good sc me i np.st.frame w.slot) here ∙ good-span sc m2 me me i np.st np.frame ∙ e;
              runs = ap (λ (z : Site). z.runs) (site false e);
              ahead = ap (λ (z : Site). z.ahead) (site false e);
              coming = ap (λ (z : Site). z.coming) (site false e);
            });
            runs = λ g. absurd (true≢false (sym g ∙ e));
            row = ap (λ (z : Site). z.row) (site false e) ∙ kept_row;
            begun = ap (λ (z : Site). z.begun) (site false e);
            told = (outcome.closed, (acts.closed, sym told));
            act = acts;
          }
    ] in
    by (is_good_at sc m2 me i) refl
