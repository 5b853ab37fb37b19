-- For the law that events are rounds: at the last tick of its window a node closes it as the rounds
-- do, and stands in the next moment, or stops.
use Rattle.std.proofs.{Common.{◌≡◌, ℕ, zero, suc, ◌+◌, ◌^◌, ◌<◌, ◌≤◌, ◌==◌, nat_lt, Bool, true, false, List, [], ◌∷◌, ◌++◌, map, refl, ap, sym, ◌∙◌, subst, arith, Option, Some, None, slice_get, option_map, option_to_list, get_or}, lemmas.Bool.Decides.nat_tests}
use Rattle.rb_base.specs.{Nodes.{Side, other}, Nodes.Side.{Biu, Rmu}, Sizes.{Sizes, sync_slot_of}}
use Rattle.rb_rules.specs.{declared.plan.Plan.Plan, declared.plan.Window.Window, Book.{of_kind, map_each}, Clock.{Timeline, time_of}, Core.state_at, ExactStage.{Outcome, close_exact}, Goodness.{Scenario, clock_of}, Hearing.{Coming, Sending, Span, close_window, coming_of, sending, span_of, window_numbered}, NodeState.NodeState, Ports.HandIn, Rounds.{Moment, moment, sending_in, sent_in, window_in, word_for_window}, Sense.{Arrival, sense_of}, declared.sense.Sense.Sense, NodeSteps.expect_of, SyncStage.{new_epoch_of, close_sync, sync_outcome_of}, WorldStep.{Timed, Site, await, says_in}}
use Rattle.rb_rules.proofs.{Drift.times_rise_to, WindowNumbers.{sync-numbered, get-each}}
use Rattle.rb_laws_events.specs.Closing.{stages_in}
use Rattle.rb_laws_events.proofs.{Invariant.{NodeStands, ahead_so_far, entry_of, heard_so_far, is_good_at, last_tick, next_stage, sending_of, word_at}, NodeActs.{HasRoom, IsInWindow}, NodeNext.{NextIn, next-found, next-in}, NodeSends.{KeepsTime, sending_at, sent-in, unsent}, NodeTicks.{by_said, gone, kept_in}, PendingLists.{Hears, each-append}, RoundNodes.slot-is, SameHeard.{Every, kept_as}, SayLists.{ComesIn, every-to, says-come-in}, StageOrder.last_of, TickWindows.{IsTickIn, first_of}, WorldNodes.{Known, known-append, says-known}}

-- The close of a tail leaves the next epoch what it was.

tail-sync : (sizes : Sizes) (plan : Plan) (me : Side) (st : NodeState) (first : ℕ) (sense : ℕ → Sense)
    → new_epoch_of plan me (close_sync sizes me st 4 first sense).state ≡ new_epoch_of plan me st
unfolding close_sync sync_outcome_of
tail-sync sizes plan Biu st first sense = refl
tail-sync sizes plan Rmu st first sense = refl

pub tail-close : (sizes : Sizes) (plan : Plan) (me : Side) (i : ℕ) (st : NodeState) (w : Window) (arrivals : ℕ → List Arrival)
    → w.slot ≡ sync_slot_of sizes → w.stage ≡ 4 → new_epoch_of plan me (close_window sizes plan me i st w arrivals).state ≡ new_epoch_of plan me st
tail-close sizes plan me i st w arrivals slot stage =
    let sense : ℕ → Sense = λ j. sense_of (expect_of sizes plan.version st w.slot w.stage) (arrivals j) in
    ap (λ b. new_epoch_of plan me (elim b as (λ _. Outcome) [
      | true ↦ close_sync sizes me st w.stage (st.epoch + w.first) sense
      | false ↦ close_exact sizes me i st w.slot w.stage sense
    ]).state) (same-is w.slot (sync_slot_of sizes) slot)
    ∙ ap (λ n. new_epoch_of plan me (close_sync sizes me st n (st.epoch + w.first) sense).state) stage
    ∙ tail-sync sizes plan me st (st.epoch + w.first) sense
  where
    same-is : (a b : ℕ) → a ≡ b → (a == b) ≡ true
    same-is a b h = grind (arith, nat_tests)

-- Nothing is sent in a tail.

unsent-of : (sc : Scenario) (m : Moment) (side : Side) (j : ℕ) {o : _} → slice_get (of_kind side m.nodes) j ≡ o → m.window ≡ stages_in sc.sizes
    → sending_of sc m side j ≡ None
unfolding sent_in
unsent-of sc m side j {o} e w =
    let make : Side → ℕ → NodeState → Option Sending = λ me i st. sending_in sc m me i st (window_in sc m me st) in
    let at : slice_get (of_kind side (map_each make m.nodes)) j ≡ option_map (make side j) o = get-each make m.nodes side j ∙ ap (option_map (make side j)) e in
    by o (of_kind side (map_each make m.nodes)) at
  where
    past : {X : Type 0} (xs : List X) (j : ℕ) (d : X) → slice_get xs j ≡ None → get_or xs j d ≡ d
    past [] j d e = refl
    past (x ∷ xs) zero d e = cc
    past (x ∷ xs) (suc j) d e = past xs j d e

    there : {X : Type 0} (xs : List X) (j : ℕ) (x d : X) → slice_get xs j ≡ Some x → get_or xs j d ≡ x
    there [] j x d e = cc
    there (y ∷ ys) zero x d e = cc
    there (y ∷ ys) (suc j) x d e = there ys j x d e

    by : (o : Option NodeState) (xs : List (Option Sending))
        → slice_get xs j ≡ option_map (λ st. sending_in sc m side j st (window_in sc m side st)) o → get_or xs j None ≡ None
    by None xs at = past xs j None at
    by (Some st) xs at =
        let word : ℕ = word_for_window sc m j (window_in sc m side st) in
        there xs j (sending_in sc m side j st (window_in sc m side st)) None at
        ∙ ap (λ n. sending_at sc.sizes sc.plan side j st n word) w
        ∙ ap (λ (w : Window). sending sc.sizes sc.plan side j st w.slot w.stage word) (sync-numbered sc.sizes sc.plan side st 3)
        ∙ unsent sc.sizes sc.plan side j st word

pub none-in-tail : (sc : Scenario) (m : Moment) (me : Side) (i j : ℕ) → m.window ≡ stages_in sc.sizes → entry_of sc m me i j ≡ []
none-in-tail sc m me i j w =
    ap (λ o. option_to_list (option_map (coming_of sc me i j m.frame) o)) (unsent-of sc m (other me) j refl w)

-- The node in the new window.

-- no message of the window has gone out before its first tick
pub none-gone : {sizes plan me : _} (i : ℕ) {st : _} (n word : ℕ) {k : ℕ} → HasRoom plan → KeepsTime sizes plan me st
    → n ≤ stages_in sizes → k ≡ st.epoch + first_of sizes plan me st n → gone (sending_at sizes plan me i st n word) k ≡ false
none-gone {sizes} {plan} {me} i {st} n word {k} room keeps le first = by (sending_at sizes plan me i st n word) refl
  where
    lt-not : (a b : ℕ) → b ≤ a → nat_lt a b ≡ false
    lt-not a b h = grind (arith, nat_tests)

    by : (o : Option Sending) → sending_at sizes plan me i st n word ≡ o → gone o k ≡ false
    by None e = refl
    by (Some s) e =
        let at : IsTickIn sizes plan me st n s.tick = sent-in i n word room.inside keeps le e in
        let from : st.epoch + first_of sizes plan me st n ≤ s.tick = at.from in
        lt-not s.tick k (omega arith)

-- a site that stands at the first tick of a window in which its node is good
pub record Enters (sc : Scenario) (hands : List HandIn) (sent : Side → ℕ → ℕ → Bool) (t : ℕ) (me : Side) (i q k : ℕ) (st : NodeState) (s : Site) : Type 0 where
  pub state : slice_get (of_kind me (moment sc hands q).nodes) i ≡ Some st
  pub good : is_good_at sc (moment sc hands q) me i ≡ true
  pub frame : st.frame ≡ (moment sc hands q).frame
  pub window : (moment sc hands q).window ≤ stages_in sc.sizes
  pub had : s.core.had ≡ k
  pub turned : state_at sc.sizes sc.plan me s.core.state k ≡ st
  pub first : k ≡ st.epoch + first_of sc.sizes sc.plan me st (moment sc hands q).window
  pub some : first_of sc.sizes sc.plan me st (moment sc hands q).window ≤ last_of sc.sizes sc.plan me st (moment sc hands q).window
  pub empty : s.got ≡ []
  pub inbox : s.core.inbox ≡ []
  pub known : Known sc.sizes me s.coming
  pub later : Every (λ c. t ≤ c.time) s.coming
  pub behind : Every (λ c. (j : ℕ) → k ≡ suc j → time_of (clock_of sc me i) j < c.time) s.coming
  pub soon : t ≤ time_of (clock_of sc me i) k
  pub before : (j : ℕ) → k ≡ suc j → time_of (clock_of sc me i) j ≡ t
  pub at_first : k ≡ 0 → t ≡ 0
  -- what pends is what was sent ahead for this window, and for the stage after it
  pub hears : (j : ℕ) → Hears j (time_of (clock_of sc me i) (last_tick sc (moment sc hands q) me st)) [] (s.coming ++ says_in sc me i (span_of st (window_in sc (moment sc hands q) me st)))
      (heard_so_far sc (moment sc hands q) me i (span_of st (window_in sc (moment sc hands q) me st)) (λ j. sent (other me) j q) j)
      (ahead_so_far sc (moment sc hands (next_stage sc.sizes (moment sc hands q) q)) me i (λ j. sent (other me) j (next_stage sc.sizes (moment sc hands q) q)) j)

-- the site of a node that enters window `q`, with its next busy tick
pub record Entered (sc : Scenario) (hands : List HandIn) (sent : Side → ℕ → ℕ → Bool) (t : ℕ) (me : Side) (i q : ℕ) (st : NodeState) (s : Site) : Type 0 where
  pub a : Timed
  pub site : await sc me i (says_in sc me i (span_of st (window_in sc (moment sc hands q) me st))) s
      ≡ record s { ahead = Some a; coming = s.coming ++ says_in sc me i (span_of st (window_in sc (moment sc hands q) me st)) }
  pub stands : NodeStands sc hands sent t me i q (await sc me i (says_in sc me i (span_of st (window_in sc (moment sc hands q) me st))) s) st a
  pub silent : gone (sending_at sc.sizes sc.plan me i st (moment sc hands q).window (word_at sc (moment sc hands q) me i st)) a.tick ≡ false

pub enters : {sc : Scenario} {hands : List HandIn} {sent : Side → ℕ → ℕ → Bool} {t : ℕ} {me : Side} {i q k : ℕ} {st : NodeState} {s : Site} → HasRoom sc.plan → KeepsTime sc.sizes sc.plan me st
    → last_tick sc (moment sc hands q) me st < 2 ^ 31 → Enters sc hands sent t me i q k st s → Entered sc hands sent t me i q st s
enters {sc} {hands} {sent} {t} {me} {i} {q} {k} {st} {s} room keeps below e =
    let m : Moment = moment sc hands q in
    let n : ℕ = m.window in
    let word : ℕ = word_at sc m me i st in
    let span : Span = span_of st (window_in sc m me st) in
    let clock : Timeline = clock_of sc me i in
    let says : List Coming = says_in sc me i span in
    let had : s.core.had ≡ k = e.had in
    let none : gone (sending_at sc.sizes sc.plan me i st n word) k ≡ false = none-gone i n word room keeps e.window e.first in
    let first : k ≡ st.epoch + first_of sc.sizes sc.plan me st n = e.first in
    let some : first_of sc.sizes sc.plan me st n ≤ last_of sc.sizes sc.plan me st n = e.some in
    let at : IsTickIn sc.sizes sc.plan me st n k = record { from = omega arith; to = omega arith } in
    let slot : (window_numbered sc.sizes sc.plan me st n).slot ≤ sync_slot_of sc.sizes =
    subst (λ x. x ≤ sync_slot_of sc.sizes) (sym (slot-is sc.sizes sc.plan me st n)) (omega arith) in
    let stands : IsInWindow sc.sizes sc.plan me i st n word k s.core.state = record {
      window = e.window;
      slot = slot;
      keeps = keeps;
      at = at;
      now = e.turned ∙ sym (ap (λ b. by_said b st (kept_in sc.sizes sc.plan me i st n word)) none);
    } in
    let in_s : IsInWindow sc.sizes sc.plan me i st n word s.core.had s.core.state = subst (λ k. IsInWindow sc.sizes sc.plan me i st n word k s.core.state) (sym had) stands in
    let next = next-found s.core room in_s below in
    let b : ℕ = next.0 in
    let lands : NextIn sc.sizes sc.plan me i st n word s.core.had b s.core.state = next-in room in_s next.1.1 in
    let a : Timed = record { tick = b; time = time_of clock b } in
    let is : await sc me i says s ≡ record s { ahead = Some a; coming = s.coming ++ says } =
    ap (λ o. record s { ahead = option_map (λ k. let y : Timed = record { tick = k; time = time_of clock k } in y) o; coming = s.coming ++ says }) next.1.0 in
    let after : s.core.had ≤ b = next.1.1.later in
    let up : time_of clock k ≤ time_of clock b = times_rise_to clock k b (omega arith) in
    let soon : t ≤ time_of clock k = e.soon in
    let in_span : Every (ComesIn clock span) says = says-come-in sc me i span in
    record {
      a = a;
      site = is;
      stands = subst (λ z. NodeStands sc hands sent t me i q z st a) (sym is) (record {
        state = e.state;
        good = e.good;
        stands = record { window = e.window; slot = slot; keeps = keeps; at = lands.in_window; now = lands.now };
        from = omega arith;
        receives = record {
          hears = λ j. subst (λ got. Hears j (time_of clock (last_tick sc m me st)) got (s.coming ++ says) (heard_so_far sc m me i span (λ j. sent (other me) j q) j)
              (ahead_so_far sc (moment sc hands (next_stage sc.sizes m q)) me i (λ j. sent (other me) j (next_stage sc.sizes m q)) j)) (sym e.empty) (e.hears j);
          known = known-append sc.sizes me s.coming says e.known (says-known sc me i span);
          inbox = e.inbox ∙ sym (ap (map (kept_as clock)) e.empty);
          pends = refl;
          at_time = refl;
          is_next = next.1.1;
          in_window = lands.in_window.to;
          behind = each-append (λ c. (j : ℕ) → s.core.had ≡ suc j → time_of clock j < c.time) s.coming says
              (every-to (λ c. (j : ℕ) → k ≡ suc j → time_of clock j < c.time) (λ c. (j : ℕ) → s.core.had ≡ suc j → time_of clock j < c.time) (λ c f j g. f j (sym had ∙ g)) s.coming e.behind)
              (every-to (ComesIn clock span) (λ c. (j : ℕ) → s.core.had ≡ suc j → time_of clock j < c.time) (λ c f j g. f.0 j (sym first ∙ sym had ∙ g)) says in_span);
          passed = λ j g. let same : time_of clock j ≡ t = e.before j (sym had ∙ g) in omega arith;
          coming_after = each-append (λ c. t ≤ c.time) s.coming says e.later
              (every-to (ComesIn clock span) (λ c. t ≤ c.time) (λ c f. from-first k c t refl (λ j g. f.0 j (sym first ∙ g)) e.before e.at_first) says in_span);
          tick_after = omega arith;
        };
      });
      silent = sym lands.silent ∙ ap (gone (sending_at sc.sizes sc.plan me i st n word)) had ∙ none;
    }
  where
    from-first : (x : ℕ) (c : Coming) (t : ℕ) → x ≡ k → ((j : ℕ) → x ≡ suc j → time_of (clock_of sc me i) j < c.time) → ((j : ℕ) → x ≡ suc j → time_of (clock_of sc me i) j ≡ t)
        → (x ≡ 0 → t ≡ 0) → t ≤ c.time
    from-first zero c t e f before zero_time = let z : t ≡ 0 = zero_time refl in omega arith
    from-first (suc j) c t e f before zero_time = omega (arith, f j refl, before j refl)
