-- For the law that events are rounds if the premise on faults is broken in a sync slot: whatever
-- the verdict on the last stage, each good node begins the next frame after all stages of this one.
use Rattle.std.proofs.{Common.{◌≡◌, ℕ, zero, suc, ◌+◌, ◌*◌, ◌<◌, ◌≤◌, nat_le, cond, Bool, true, false, List, [], ◌∷◌, map, filter_map, refl, ap, sym, ◌∙◌, subst, arith, inl, inr, Option, Some, None, option_map, unwrap_or, lit<}, lemmas.Bool.cases_lt, lemmas.Bool.Decides.nat_tests, lemmas.List.Elements.All-head, lemmas.Option.same_Some}
use Rattle.std.specs.Prelude.{All}
use Rattle.rb_base.specs.{Counting.numbers, Nodes.{Side, other}, Nodes.Side.{Biu, Rmu}, Sizes.sync_slot_of}
use Rattle.rb_rules.specs.{declared.plan.Window.Window, Clock.{IsStamp, Timeline, stamp_of, time_of}, ExactStage.{each_node, present}, Goodness.{Scenario, clock_of, is_good}, Hearing.{Coming, Span, said_by, span_of, window_numbered}, Lawful.IsLawful, Middle.{IsMiddle, middle_of, up_to}, Moments.IsRunning, NodeState.NodeState, Plan.{f0_of, tail_start_of}, Ports.HandIn, Rounds.{IsTickOf, Moment, heard_at, moment, sent_in, window_in, windows_in}, SyncStage.new_epoch_of}
use Rattle.rb_rules.proofs.{Drift.times_rise_to, Middles.middle_so, RoundStates.keeping-stays, WindowNumbers.sync-numbered, Stamps.{Moves, stamp_of-is}}
use Rattle.rb_laws_agreement.proofs.{Goodnesses.slot_last, Invariant.IsGoodNode, NodeWindows.{HasTick, Windows, kept_in, word_at, sync_tick, sync_windows_are}, Settings.after, ExactAgrees.has_ticks}
use Rattle.rb_laws_synchrony.proofs.{CallTicks.{KeepsTicks, all_keep_ticks}, KeptMiddles.{Keeps, keeps}, StageCalls.clock_now, SyncLaws.all_timely, TakenCalls.{IsTaken, taken_from, took}}
use Rattle.rb_laws_events.specs.Closing.{HaveBegunAFrame, stages_in}
use Rattle.rb_laws_events.proofs.{BreachTimes.{KnewThen, knew-then}, FrameTimes.node-in, Invariant.{entry_of, is_good_at}, MomentSteps.good-state, NodeCloses.heard-all, RoundNodes.{Stands, moments-stand}, SameHeard.Every, SayLists.{ComesIn, said-in-window}, TimelyMoments.good-in}

-- Middles.

-- no stamp is up to a number below all
none-up : (m bound : ℕ) → m < bound → (xs : List ℕ) → Every (λ k. bound ≤ k) xs → up_to m xs ≡ 0
none-up m bound lt [] all = refl
none-up m bound lt (x ∷ xs) all =
    let weight : Bool → ℕ = λ b. cond b 1 0 in
    let one : weight (nat_le x m) ≡ 0 = ap weight (not-le x m (omega (arith, lt, all.0))) in
    let others : up_to m xs ≡ 0 = none-up m bound lt xs all.1 in
    omega (arith, one, others)
  where
    not-le : (a b : ℕ) → b < a → nat_le a b ≡ false
    not-le a b h = grind (arith, nat_tests)

-- a middle is at least a bound of all stamps
least-middle : {m : ℕ} (bound : ℕ) {xs : _} → Every (λ k. bound ≤ k) xs → IsMiddle m xs → bound ≤ m
least-middle {m} bound {xs} all is =
    elim (cases_lt m bound) [
      | inr ge ↦ ge
      | inl lt ↦ absurd (omega (arith, none-up m bound lt xs all, is.half_up_to, is.few_below))
    ]

every-present : (P : ℕ → Type 0) (f : ℕ → Option ℕ) → ((j k : ℕ) → f j ≡ Some k → P k) → (ns : List ℕ) → Every P (present (map f ns))
every-present P f all [] = tt
every-present P f all (n ∷ ns) = by (f n) refl (every-present P f all ns)
  where
    by : (o : Option ℕ) → f n ≡ o → Every P (present (map f ns)) → Every P (filter_map (λ (v : Option ℕ). v) (o ∷ map f ns))
    by None e rest = rest
    by (Some k) e rest = (all n k e, rest)

-- the middle that a window keeps is at least a bound of its stamps and of its first tick
pub middle-least : (bound first : ℕ) (f : ℕ → Option ℕ) → ((j k : ℕ) → f j ≡ Some k → bound ≤ k) → bound ≤ first → bound ≤ unwrap_or (middle_of (present (each_node f))) first
middle-least bound first f all le = by (middle_of (present (each_node f))) refl
  where
    by : (o : Option ℕ) → middle_of (present (each_node f)) ≡ o → bound ≤ unwrap_or o first
    by None e = le
    by (Some m) e = least-middle bound (every-present (λ k. bound ≤ k) f all (numbers 16)) (middle_so m (present (each_node f)) e)

-- What is heard in a window.

first-stamp : (clock : Timeline) → Moves clock → (first time : ℕ) → ((m : ℕ) → first ≡ suc m → time_of clock m < time) → first ≤ stamp_of clock time
first-stamp clock moves zero time before = omega arith
first-stamp clock moves (suc m) time before =
    let is : IsStamp clock time (stamp_of clock time) = stamp_of-is clock moves time in
    elim (cases_lt (stamp_of clock time) (suc m)) [
      | inr ge ↦ ge
      | inl lt ↦
          let up : time_of clock (stamp_of clock time) ≤ time_of clock m = times_rise_to clock (stamp_of clock time) m (omega arith) in
          absurd (omega (arith, up, before m refl, is.reached))
    ]

-- all that a good node hears in a window has a stamp from its first tick on
pub heard-from : {sc : _} (hands : List HandIn) → IsLawful sc → (p : ℕ) → IsRunning (moment sc hands p) → (moment sc hands p).window < windows_in sc.sizes → {me i : _} (j : ℕ) {st : _} (c : Coming)
    → IsGoodNode sc (moment sc hands p) me i st → heard_at sc me i st (window_in sc (moment sc hands p) me st) (sent_in sc (moment sc hands p)) j ≡ c ∷ []
    → st.epoch + (window_in sc (moment sc hands p) me st).first ≤ stamp_of (clock_of sc me i) c.time
heard-from {sc} hands lawful p running inside {me} {i} j {st} c h heard =
    let m : Moment = moment sc hands p in
    let w : Window = window_in sc m me st in
    let stood : Stands sc m me st = (moments-stand sc hands p (has_ticks lawful)).stands me i st h.there h.good in
    let moves : Moves (clock_of sc me i) = (clock_now lawful h).moves in
    let by : (b : Bool) → is_good_at sc m (other me) j ≡ b → st.epoch + w.first ≤ stamp_of (clock_of sc me i) c.time =
    λ b. elim b as (λ b. is_good_at sc m (other me) j ≡ b → st.epoch + w.first ≤ stamp_of (clock_of sc me i) c.time) [
      | true ↦ λ e.
          let source = good-state sc hands p (other me) j (has_ticks lawful) e in
          let all = (all_timely sc hands lawful p running inside).heard me i j st source.0 (good-in sc m me i h.there h.good) (good-in sc m (other me) j source.1 e) in
          let tick : IsTickOf (span_of st w) (stamp_of (clock_of sc me i) c.time) =
          All-head (λ (c : Coming). IsTickOf (span_of st w) (stamp_of (clock_of sc me i) c.time)) c [] (subst (All (λ (c : Coming). IsTickOf (span_of st w) (stamp_of (clock_of sc me i) c.time))) heard all) in
          tick.0
      | false ↦ λ e.
          let span : Span = span_of st w in
          let said : said_by sc me i span j ≡ c ∷ [] =
          sym (ap (λ b. elim b as (λ _. List Coming) [ true ↦ entry_of sc m me i j | false ↦ said_by sc me i span j ]) e) ∙ heard-all sc m me i j st (λ j. true) stood.frame (λ g. inl refl) ∙ heard in
          let comes : Every (ComesIn (clock_of sc me i) span) (said_by sc me i span j) = said-in-window sc me i j span in
          let one : Every (ComesIn (clock_of sc me i) span) (c ∷ []) = subst (Every (ComesIn (clock_of sc me i) span)) said comes in
          first-stamp (clock_of sc me i) moves (st.epoch + w.first) c.time (one.0.0)
    ] in
    by (is_good_at sc m (other me) j) refl

-- The last stage.

same-first : (sc : Scenario) (m : Moment) (at : m.window ≡ 3 * sync_slot_of sc.sizes + 2) (me : Side) (st : NodeState)
    → (sync_windows_are sc m 2 (lit< tt) at).first me st ≡ (window_in sc m me st).first
same-first sc m at me st = sym (ap (λ (w : Window). w.first) ((sync_windows_are sc m 2 (lit< tt) at).are me st))

third-first : (sc : Scenario) (m : Moment) → m.window ≡ 3 * sync_slot_of sc.sizes + 2 → (me : Side) (st : NodeState)
    → (window_in sc m me st).first ≡ f0_of sc.sizes sc.plan + sc.plan.l + sc.plan.v
third-first sc m at me st = ap (λ n. (window_numbered sc.sizes sc.plan me st n).first) at ∙ ap (λ (w : Window). w.first) (sync-numbered sc.sizes sc.plan me st 2)

-- the middle that an RMU keeps of the last stage comes in that stage, whatever the verdict
pub rmu-middle : {sc : _} (hands : List HandIn) → IsLawful sc → (p : ℕ) → IsRunning (moment sc hands p) → (moment sc hands p).window ≡ 3 * sync_slot_of sc.sizes + 2 → {i st : _}
    → IsGoodNode sc (moment sc hands p) Rmu i st
    → (k : ℕ) × (((after sc (moment sc hands p) Rmu i st).k3 ≡ Some k) × (st.epoch + (f0_of sc.sizes sc.plan + sc.plan.l + sc.plan.v) ≤ k))
rmu-middle {sc} hands lawful p running at {i} {st} h =
    let m : Moment = moment sc hands p in
    let slot : ℕ = sync_slot_of sc.sizes in
    let ws : Windows sc m slot 3 = sync_windows_are sc m 2 (lit< tt) at in
    let tick : HasTick sc m slot 3 ws = sync_tick sc m 2 (lit< tt) at lawful.plan.l.0 lawful.plan.v.0 lawful.plan.z.0 in
    let good : is_good sc Rmu i m.frame slot ≡ true = ap (is_good sc Rmu i m.frame) (sym (slot_last sc.sizes 2 at)) ∙ h.good in
    let first : ℕ = (kept_in sc m slot 3 Rmu i st).epoch + ws.first Rmu st in
    let epoch : (kept_in sc m slot 3 Rmu i st).epoch ≡ st.epoch = (keeping-stays sc.sizes Rmu i st slot 3 (word_at sc m slot i)).epoch in
    let bound : ℕ = st.epoch + ws.first Rmu st in
    let its : ws.first Rmu st ≡ (window_in sc m Rmu st).first = same-first sc m at Rmu st in
    let kept : Keeps Rmu 3 (unwrap_or (middle_of (present (each_node (took 2 ws Rmu i st)))) first) st (after sc m Rmu i st) = keeps ws Rmu i st good (tick.tick Rmu st) in
    let least : bound ≤ unwrap_or (middle_of (present (each_node (took 2 ws Rmu i st)))) first =
    middle-least bound first (took 2 ws Rmu i st)
    (λ j k e.
    let taken : IsTaken sc m 2 ws Rmu i st j k = taken_from 2 ws Rmu i st j e in
    let heard : heard_at sc Rmu i st (window_in sc m Rmu st) (sent_in sc m) j ≡ taken.message ∷ [] =
    ap (λ w. heard_at sc Rmu i st w (sent_in sc m) j) (ws.are Rmu st) ∙ taken.heard in
    let from : st.epoch + (window_in sc m Rmu st).first ≤ stamp_of (clock_of sc Rmu i) taken.message.time = heard-from hands lawful p running (omega arith) j taken.message h heard in
    let stamp : stamp_of (clock_of sc Rmu i) taken.message.time ≡ k = taken.stamp in
    omega (arith, from, stamp, its))
    (omega (arith, epoch)) in
    (_, (kept.k3, omega (arith, least, its, third-first sc m at Rmu st)))

-- whatever the verdict good nodes begin the next frame after all stages of this one
pub begins-after : {sc : _} (hands : List HandIn) → IsLawful sc → (p : ℕ) → IsRunning (moment sc hands p) → (moment sc hands p).window + 1 ≡ stages_in sc.sizes
    → HaveBegunAFrame sc (moment sc hands p) (moment sc hands (suc (suc (suc p))))
begins-after {sc} hands lawful p running last me i before now good then_good =
    let m : Moment = moment sc hands p in
    let at : m.window ≡ 3 * sync_slot_of sc.sizes + 2 = omega arith in
    let knew : KnewThen sc m me i now.epoch = knew-then hands lawful p last (node-in then_good) in
    let st_is : knew.st ≡ before = same_Some knew.st before (sym knew.node.there ∙ good.0) in
    let epoch : knew.st.epoch ≡ before.epoch = ap (λ s. s.epoch) st_is in
    let least : knew.st.epoch + tail_start_of sc.sizes sc.plan ≤ now.epoch = by me at knew.st now.epoch knew.node knew.known in
    omega (arith, epoch, least)
  where
    back-from : (f : ℕ → ℕ) (o : Option ℕ) (y : ℕ) → option_map f o ≡ Some y → (x : ℕ) × ((o ≡ Some x) × (f x ≡ y))
    back-from f None y e = cc
    back-from f (Some x) y e = let same : f x ≡ y = cc in (x, (refl, same))

    by : (me : Side) → (moment sc hands p).window ≡ 3 * sync_slot_of sc.sizes + 2 → (st : NodeState) (x : ℕ) → IsGoodNode sc (moment sc hands p) me i st
        → new_epoch_of sc.plan me (after sc (moment sc hands p) me i st) ≡ Some x → st.epoch + tail_start_of sc.sizes sc.plan ≤ x
    by Biu at st x h known =
        let m : Moment = moment sc hands p in
        let slot : ℕ = sync_slot_of sc.sizes in
        let ws : Windows sc m slot 3 = sync_windows_are sc m 2 (lit< tt) at in
        let tick : HasTick sc m slot 3 ws = sync_tick sc m 2 (lit< tt) at lawful.plan.l.0 lawful.plan.v.0 lawful.plan.z.0 in
        let good : is_good sc Biu i m.frame slot ≡ true = ap (is_good sc Biu i m.frame) (sym (slot_last sc.sizes 2 at)) ∙ h.good in
        let kept : Keeps Biu 3 _ st (after sc m Biu i st) = keeps ws Biu i st good (tick.tick Biu st) in
        let k2 : (after sc m Biu i st).k2 ≡ st.k2 = kept.k2 in
        let k = back-from (λ k2. k2 + sc.plan.v + sc.plan.z + sc.plan.c) st.k2 x (ap (option_map (λ k2. k2 + sc.plan.v + sc.plan.z + sc.plan.c)) (sym k2) ∙ known) in
        let ticks : KeepsTicks sc st = all_keep_ticks hands lawful p running Biu i st h in
        let b = ticks.third k.0 k.1.0 in
        omega (arith, b.0, k.1.1)
    by Rmu at st x h known =
        let k = rmu-middle hands lawful p running at h in
        let e : k.0 + sc.plan.z ≡ x = same_Some (k.0 + sc.plan.z) x (ap (option_map (λ k3. k3 + sc.plan.z)) (sym k.1.0) ∙ known) in
        omega (arith, e, k.1.1)
