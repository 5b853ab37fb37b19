-- The middle that a listener makes of the calls of RMUs in stage 2 of the sync slot: near that of
-- each good BIU.
use Rattle.std.proofs.{Common.{◌≡◌, ℕ, zero, suc, ◌+◌, ◌*◌, ◌≤◌, ◌<◌, ◌&&◌, not, nat_le, nat_lt, Bool, true, false, List, [], ◌∷◌, map, Option, Some, None, is_some, refl, sym, ◌∙◌, ap, subst, arith, inl, inr}, lemmas.Bool.{lt-ltb, not-true}, lemmas.Bool.Decides.nat_tests, lemmas.List.Elements.{All-cons, All-nil}, lemmas.Option.same_Some}
use Rattle.std.specs.{Prelude.All, List.cons_option}
use Rattle.rb_base.specs.{Counting.{count_if, numbers}, Nodes.{has, set_of, size}, Nodes.Side.{Biu, Rmu}, Sizes.sync_slot_of}
use Rattle.rb_base.proofs.{Counts.count_if-none, Plain.{and_first, and_second, less-same}, Sets.has-set_of, SetSizes.{size_apart, size_first}}
use Rattle.rb_rules.specs.{Book.judged_of, Clock.{Timeline, stamp_of, time_of}, ExactStage.{each_node, present}, Goodness.{Scenario, clock_of, is_good}, Hearing.{Sending, coming_of, sole_time}, Middle.{IsMiddle, middle_of}, NodeState.NodeState, Plan.shortest_of, Rounds.Moment, SyncStage.call_tick_of}
use Rattle.rb_rules.proofs.{Drift.times_rise_to, Middles.{AreNear, IsBetween}, Stamps.{stamp_of-is, stamps_rise}}
use Rattle.rb_laws_agreement.proofs.{Tests.true_or_false, Numbers.{how_many, how_many-is}, Goodnesses.{good_counts, slot_last}, Invariant.{IsGoodNode, Shared, is_good_now, slot_numbered}, Exchanges.far-held, JudgedWindows.rows_of, NodeWindows.{Windows, heard_in}, StageVotes.how_many-count}
use Rattle.rb_laws_synchrony.proofs.{CallSights.{TookAlike, place_of, stages_with}, LaterStages.{calls_near, near-between}, Middles.{BothNear, HasStamp, middle_times_near, middle_within, some_middle}, PlanNumbers.{drift_of, eps_of}, StageMiddles.{CallBetween, HearsMiddle, IsCaller, IsHeardStage, Late, NoneUnlike, both-near, caller, hears_middle, tick_of, ws_of}, StageSteps.{CallNear, near_calls}, SyncSteps.none_before, Synchronous.{Synchronous, near_1, near_2}, TakenCalls.{IsCallTaken, IsTaken, taken_from, takes_call, took}, TimelyWindows.coming_between, Times.{IsStampTime, Steady, lawful_fits, stamp_time, stamp_to, steady}}
use Rattle.rb_laws_listener_near.proofs.Tracking.{outnumbered}

-- ---- what a listener takes

-- `taken` and `time` are what the listener takes from each RMU, and when it came: from a good RMU
-- its call
pub record TakesCalls (sc : Scenario) (m : Moment) (s : Shared) (clock : Timeline) (taken : ℕ → Option ℕ) (time : ℕ → ℕ) : Type 0 where
  pub trusts : (j : ℕ) → is_some (taken j) ≡ true → has (s.trusted Rmu) j ≡ true
  pub stamped : (j k : ℕ) → taken j ≡ Some k → (1 ≤ k) × (stamp_of clock (time j) ≡ k)
  pub calls : (j : ℕ) (source : NodeState) (tick : ℕ) → IsGoodNode sc m Rmu j source → call_tick_of sc.sizes sc.plan source 2 ≡ Some tick
      → (taken j ≡ Some (stamp_of clock (time j))) × IsBetween (time_of (clock_of sc Rmu j) tick + sc.plan.dmin) (time_of (clock_of sc Rmu j) tick + sc.plan.dmax) (time j)

-- the good RMUs are more than half of all
abbrev pub MostGood : Scenario → Moment → Type 0
MostGood sc m = sc.sizes.rmus < 2 * how_many (is_good_now sc m Rmu)

-- if more than half of the numbers below `n` are good, the others among them are fewer
pub others_fewer : (n : ℕ) (good some : ℕ → Bool) → n ≤ 16 → ((j : ℕ) → j < 16 → good j ≡ true → j < n) → ((j : ℕ) → j < 16 → some j ≡ true → j < n) → n < 2 * how_many good
    → count_if (λ j. not (good j) && some j) (numbers 16) < count_if good (numbers 16)
others_fewer n good some few below_good below_some most =
    let others : ℕ → Bool = λ j. not (good j) && some j in
    let all : ℕ = set_of (λ i. nat_lt i n) in
    let total : size all ≡ n = size_first n few in
    let apart : size (set_of others) + size (set_of good) ≤ size all =
    size_apart all (set_of others) (set_of good)
    (λ j below is.
    has-set_of j (λ i. nat_lt i n) below ∙ lt-ltb j n (below_some j below (and_second (not (good j)) (some j) (sym (has-set_of j others below) ∙ is))))
    (λ j below is. has-set_of j (λ i. nat_lt i n) below ∙ lt-ltb j n (below_good j below (sym (has-set_of j good below) ∙ is)))
    (λ j below is. has-set_of j good below ∙ not-true (good j) (and_first (not (good j)) (some j) (sym (has-set_of j others below) ∙ is))) in
    less-same (how_many others) (count_if others (numbers 16)) (how_many good) (count_if good (numbers 16)) (how_many-count others) (how_many-count good)
    (outnumbered (how_many others) (how_many good) n (omega (arith, apart, total, how_many-is others, how_many-is good)) most)

-- ---- the middle is there

pub record FindsMiddle (sc : Scenario) (clock : Timeline) (taken : ℕ → Option ℕ) (low high : ℕ) : Type 0 where
  pub tick : ℕ
  pub found : middle_of (present (each_node taken)) ≡ Some tick
  pub middle : IsMiddle tick (present (each_node taken))
  pub not_early : low + sc.plan.dmin ≤ time_of clock tick
  pub not_late : 1 ≤ tick → time_of clock tick ≤ high + sc.plan.dmax + tick_of sc.plan
  pub in_time : (last : ℕ) → high + sc.plan.dmax ≤ time_of clock last → tick ≤ last

pub finds_middle : {sc hands n m s : _} (c : IsHeardStage sc hands n m s 1 Biu) → MostGood sc m
    → {clock : _} → Steady (shortest_of sc.plan) (drift_of sc.plan) clock → {taken time : _} → TakesCalls sc m s clock taken time
    → {low high : ℕ} → CallBetween sc m Rmu 2 low high → FindsMiddle sc clock taken low high
finds_middle {sc} {m} c most {clock} steady_clock {taken} {time} t {low} {high} calls =
    let good : ℕ → Bool = is_good_now sc m Rmu in
    let first : ℕ = stamp_of clock (low + sc.plan.dmin) in
    let last : ℕ = stamp_of clock (high + sc.plan.dmax) in
    let stamped : (j : ℕ) → good j ≡ true → HasStamp first last (taken j) =
    λ j is.
    let by : IsCaller sc m Rmu 2 j = caller c j (ap (is_good sc Rmu j m.frame) (sym (slot_last sc.sizes 1 c.stage.at)) ∙ is) in
    let called : IsBetween low high (time_of (clock_of sc Rmu j) by.tick) = calls j by.st by.tick by.here by.at in
    let comes = t.calls j by.st by.tick by.here by.at in
    record {
      stamp = stamp_of clock (time j);
      is = comes.0;
      between = record {
        least = stamps_rise clock (low + sc.plan.dmin) (time j) first (stamp_of clock (time j))
            (stamp_of-is clock steady_clock.moves (low + sc.plan.dmin)) (stamp_of-is clock steady_clock.moves (time j)) (omega (arith, called.least, comes.1.least));
        most = stamps_rise clock (time j) (high + sc.plan.dmax) (stamp_of clock (time j)) last
            (stamp_of-is clock steady_clock.moves (time j)) (stamp_of-is clock steady_clock.moves (high + sc.plan.dmax)) (omega (arith, called.most, comes.1.most));
      };
    } in
    let more : count_if (λ j. not (good j) && is_some (taken j)) (numbers 16) < count_if good (numbers 16) =
    others_fewer sc.sizes.rmus good (λ j. is_some (taken j)) c.stage.law.sizes.most_rmus
    (λ j below g. good_counts sc Rmu j m.frame (slot_numbered sc.sizes m.window) g) (λ j below some. c.stage.agree.inside Rmu j (t.trusts j some)) most in
    let some = some_middle taken good (numbers 16) (λ j g. ap is_some (stamped j g).is) more in
    let within : IsBetween first last some.0 = middle_within taken good first last (numbers 16) stamped more some.2 in
    let from : IsStampTime clock (tick_of sc.plan) (low + sc.plan.dmin) first = stamp_time steady_clock (low + sc.plan.dmin) in
    let to : IsStampTime clock (tick_of sc.plan) (high + sc.plan.dmax) last = stamp_time steady_clock (high + sc.plan.dmax) in
    record {
      tick = some.0;
      found = some.1;
      middle = some.2;
      not_early = omega (arith, from.reached, times_rise_to clock first some.0 within.least);
      not_late = λ positive. omega (arith, to.near (omega (arith, within.most)), times_rise_to clock some.0 last within.most);
      in_time = λ k le. omega (arith, within.most, stamp_to clock steady_clock.moves (high + sc.plan.dmax) k le);
    }

-- a middle of stamps past 0 is past 0

one_later : (o : Option ℕ) (rest : List ℕ) → ((k : ℕ) → o ≡ Some k → 1 ≤ k) → All (λ x. nat_le x 0 ≡ false) rest → All (λ x. nat_le x 0 ≡ false) (cons_option o rest)
one_later None rest late all = all
one_later (Some k) rest late all = All-cons (λ x. nat_le x 0 ≡ false) k rest (past k (late k refl)) all
  where
    past : (k : ℕ) → 1 ≤ k → nat_le k 0 ≡ false
    past k h = grind (arith, nat_tests)

all_later : (f : ℕ → Option ℕ) (js : List ℕ) → ((j k : ℕ) → f j ≡ Some k → 1 ≤ k) → All (λ x. nat_le x 0 ≡ false) (present (map f js))
all_later f [] late = All-nil (λ x. nat_le x 0 ≡ false)
all_later f (j ∷ js) late = one_later (f j) (present (map f js)) (late j) (all_later f js late)

pub middle_past : (f : ℕ → Option ℕ) (tick : ℕ) → ((j k : ℕ) → f j ≡ Some k → 1 ≤ k) → IsMiddle tick (present (each_node f)) → 1 ≤ tick
middle_past f zero late is =
    let none : count_if (λ x. nat_le x 0) (present (each_node f)) ≡ 0 = count_if-none (λ x. nat_le x 0) (present (each_node f)) (all_later f (numbers 16) late) in
    absurd (omega (arith, none, is.half_up_to, is.few_below))
middle_past f (suc tick) late is = omega arith

-- ---- it is near

apart : (eps least : ℕ) {most : ℕ} (t : ℕ) {x y : ℕ} → most ≡ least + eps → IsBetween (t + least) (t + most) x → IsBetween (t + least) (t + most) y → AreNear eps x y
apart eps least t e p q = record { above = omega (arith, e, p.most, q.least); under = omega (arith, e, p.least, q.most) }

-- the listener and a good BIU took something at near times from an RMU that is not good, or neither
-- did
abbrev pub TakesAlike : {sc m : _} (s : Shared) → Windows sc m (sync_slot_of sc.sizes) 2 → (ℕ → Option ℕ) → (ℕ → ℕ) → Type 0
TakesAlike {sc} {m} s ws taken time =
    (j : ℕ) → j < 16 → has (s.trusted Rmu) j ≡ true → is_good sc Rmu j m.frame (sync_slot_of sc.sizes) ≡ false → (i : ℕ) (b : NodeState) → IsGoodNode sc m Biu i b
    → TookAlike (eps_of sc.plan) (time j) (sole_time (heard_in ws Biu i b j)) (taken j) (took 1 ws Biu i b j)

-- if no BIU is asymmetric, the RMUs call together
pub near_by_bius : {sc hands n m s low : _} (c : IsHeardStage sc hands n m s 1 Biu) → Synchronous sc m s low → MostGood sc m
    → NoneUnlike sc m s Biu (stages_with sc m 1)
    → {clock : _} → Steady (shortest_of sc.plan) (drift_of sc.plan) clock → {taken time : _} → TakesCalls sc m s clock taken time
    → {l : ℕ} → middle_of (present (each_node taken)) ≡ Some l → 1 ≤ l
    → {i b : _} → IsGoodNode sc m Biu i b → {k : ℕ} → middle_of (present (each_node (took 1 (ws_of c) Biu i b))) ≡ Some k → 1 ≤ k
    → AreNear (near_2 sc.plan) (time_of clock l) (time_of (clock_of sc Biu i) k)
near_by_bius {sc} {m} {s} c sync most none {clock} steady_clock {taken} t {l} is_l past_l {i} {b} here {k} is_k past_k =
    let at : m.window ≡ 3 * sync_slot_of sc.sizes + 1 = c.stage.at in
    let spread : ℕ = near_1 sc.plan + drift_of sc.plan * sc.plan.l in
    let before : NoneUnlike sc m s Biu m.book.stages = none_before sc m s Biu (judged_of sc (place_of sc m 1) (rows_of sc m)) m.book.stages none in
    let close : CallNear sc m Rmu 2 (near_1 sc.plan + drift_of sc.plan * sc.plan.l) =
    calls_near c.stage.law 2 sc.plan.l (λ i st h. let k = sync.first at i st h in (k.tick, k.is)) (λ st. refl) (sync.first_near at before) in
    let calls = near_calls c close in
    let mine : FindsMiddle sc clock taken calls.0 (calls.0 + spread) = finds_middle c most steady_clock t calls.1 in
    let theirs : HearsMiddle sc m 1 (ws_of c) Biu i b calls.0 (calls.0 + spread) = hears_middle c calls.1 here in
    let e : mine.tick ≡ l = same_Some mine.tick l (sym mine.found ∙ is_l) in
    let f : theirs.tick ≡ k = same_Some theirs.tick k (sym theirs.found ∙ is_k) in
    near-between spread (eps_of sc.plan) (tick_of sc.plan) calls.0 sc.plan.dmin refl (lawful_fits c.stage.law).delays
    (subst (λ x. IsBetween (calls.0 + sc.plan.dmin) (calls.0 + spread + sc.plan.dmax + tick_of sc.plan) (time_of clock x)) e
    (record { least = mine.not_early; most = mine.not_late (omega (arith, e, past_l)) }))
    (subst (λ x. IsBetween (calls.0 + sc.plan.dmin) (calls.0 + spread + sc.plan.dmax + tick_of sc.plan) (time_of (clock_of sc Biu i) x)) f
    (record { least = theirs.not_early; most = theirs.not_late (omega (arith, f, past_k)) }))

-- if no RMU is asymmetric, the listener and the BIU take alike
pub near_by_rmus : {sc hands n m s : _} (c : IsHeardStage sc hands n m s 1 Biu)
    → {clock : _} → Steady (shortest_of sc.plan) (drift_of sc.plan) clock → {taken time : _} → TakesCalls sc m s clock taken time
    → TakesAlike s (ws_of c) taken time
    → {l : ℕ} → IsMiddle l (present (each_node taken))
    → {i b : _} → IsGoodNode sc m Biu i b → Late sc m 1 (ws_of c) Biu i b
    → {k : ℕ} → IsMiddle k (present (each_node (took 1 (ws_of c) Biu i b)))
    → AreNear (near_1 sc.plan) (time_of clock l) (time_of (clock_of sc Biu i) k)
near_by_rmus {sc} {m} {s} c {clock} steady_clock {taken} {time} t alike {l} is_l {i} {b} here late {k} is_k =
    middle_times_near (eps_of sc.plan + tick_of sc.plan) taken (took 1 ws Biu i b)
    (record { keeps = λ x y le. times_rise_to clock x y le }) (record { keeps = λ x y le. times_rise_to (clock_of sc Biu i) x y le })
    (λ j below. by_trust j below (has (s.trusted Rmu) j) refl) is_l is_k
  where
    slot : ℕ
    slot = sync_slot_of sc.sizes

    ws : Windows sc m (sync_slot_of sc.sizes) 2
    ws = ws_of c

    IsPaired : Option ℕ → Option ℕ → Type 0
    IsPaired o p = BothNear (eps_of sc.plan + tick_of sc.plan) (time_of clock) (time_of (clock_of sc Biu i)) o p

    steady_b : Steady (shortest_of sc.plan) (drift_of sc.plan) (clock_of sc Biu i)
    steady_b = steady c.stage.law Biu i m.frame (slot_numbered sc.sizes m.window) here.good

    pair : (x y k l : ℕ) → AreNear (eps_of sc.plan) x y → stamp_of clock x ≡ k → stamp_of (clock_of sc Biu i) y ≡ l → 1 ≤ k → 1 ≤ l
        → AreNear (eps_of sc.plan + tick_of sc.plan) (time_of clock k) (time_of (clock_of sc Biu i) l)
    pair x y k l near is_k is_l some_k some_l =
        let at_a : IsStampTime clock (tick_of sc.plan) x k =
        subst (IsStampTime clock (tick_of sc.plan) x) is_k (stamp_time steady_clock x) in
        let at_b : IsStampTime (clock_of sc Biu i) (tick_of sc.plan) y l =
        subst (IsStampTime (clock_of sc Biu i) (tick_of sc.plan) y) is_l (stamp_time steady_b y) in
        both-near (tick_of sc.plan) (time_of clock k) (time_of (clock_of sc Biu i) l) near at_a.reached (at_a.near some_k) at_b.reached (at_b.near some_l)

    paired : (j : ℕ) (o p : Option ℕ) → taken j ≡ o → took 1 ws Biu i b j ≡ p
        → TookAlike (eps_of sc.plan) (time j) (sole_time (heard_in ws Biu i b j)) o p → IsPaired o p
    paired j None None is_o is_p same = tt
    paired j None (Some l) is_o is_p same = absurd same
    paired j (Some k) None is_o is_p same = absurd same
    paired j (Some k) (Some l) is_o is_p same =
        let mine = t.stamped j k is_o in
        let from_b : IsTaken sc m 1 ws Biu i b j l = taken_from 1 ws Biu i b j is_p in
        let near : AreNear (eps_of sc.plan) (time j) from_b.message.time = subst (λ y. AreNear (eps_of sc.plan) (time j) y) (ap sole_time from_b.heard) same in
        pair (time j) from_b.message.time k l near mine.1 from_b.stamp mine.0 (late.late j l is_p)

    at_once : (j : ℕ) → is_good sc Rmu j m.frame slot ≡ true → IsPaired (taken j) (took 1 ws Biu i b j)
    at_once j good =
        let by : IsCaller sc m Rmu 2 j = caller c j good in
        let take_b : IsCallTaken sc m 1 ws Biu i b j by.tick = takes_call c.stage c.listening here by.here by.at in
        let sent : Sending = record { tick = by.tick; message = take_b.message } in
        let at : ℕ = time_of (clock_of sc Rmu j) by.tick in
        let exactly : IsBetween at at at = record { least = omega arith; most = omega arith } in
        let y : ℕ = (coming_of sc Biu i j b.frame sent).time in
        let mine = t.calls j by.st by.tick by.here by.at in
        let near : AreNear (eps_of sc.plan) (time j) y =
        apart (eps_of sc.plan) sc.plan.dmin at (lawful_fits c.stage.law).delays mine.1 (coming_between c.stage.law Biu i j b.frame sent exactly) in
        let both : AreNear (eps_of sc.plan + tick_of sc.plan) (time_of clock (stamp_of clock (time j))) (time_of (clock_of sc Biu i) (stamp_of (clock_of sc Biu i) y)) =
        pair (time j) y (stamp_of clock (time j)) (stamp_of (clock_of sc Biu i) y) near refl refl (t.stamped j (stamp_of clock (time j)) mine.0).0
        (late.late j (stamp_of (clock_of sc Biu i) y) take_b.taken) in
        subst (λ o. IsPaired o (took 1 ws Biu i b j)) (sym mine.0) (subst (λ p. IsPaired (Some (stamp_of clock (time j))) p) (sym take_b.taken) both)

    nothing : (j : ℕ) → has (s.trusted Rmu) j ≡ false → took 1 ws Biu i b j ≡ None
    nothing j untrusted = go (took 1 ws Biu i b j) refl
      where
        go : (o : Option ℕ) → took 1 ws Biu i b j ≡ o → o ≡ None
        go None is = refl
        go (Some k) is =
            let yes_it : has (s.trusted Rmu) j ≡ true =
            ap (λ x. has x j) (sym (far-held (c.stage.agree.nodes Biu i b here))) ∙ (taken_from 1 ws Biu i b j is).trusted in
            absurd (cc)

    nothing_here : (j : ℕ) → has (s.trusted Rmu) j ≡ false → taken j ≡ None
    nothing_here j untrusted = go (taken j) refl
      where
        go : (o : Option ℕ) → taken j ≡ o → o ≡ None
        go None is = refl
        go (Some k) is = let yes_it : has (s.trusted Rmu) j ≡ true = t.trusts j (ap is_some is) in absurd (cc)

    by_trust : (j : ℕ) → j < 16 → (x : Bool) → has (s.trusted Rmu) j ≡ x → IsPaired (taken j) (took 1 ws Biu i b j)
    by_trust j below false is =
        subst (λ o. IsPaired o (took 1 ws Biu i b j)) (sym (nothing_here j is)) (subst (λ p. IsPaired None p) (sym (nothing j is)) tt)
    by_trust j below true is =
        elim (true_or_false (is_good sc Rmu j m.frame slot)) [
          | inl good ↦ at_once j good
          | inr faulty ↦ paired j (taken j) (took 1 ws Biu i b j) refl refl (alike j below is faulty i b here)
        ]
