-- For the law that events are rounds: if all good nodes are in time, each message lands in the
-- window that it is for, and a node that closes a window has been sent all that is sent for it.
use Rattle.std.proofs.{Common.{◌≡◌, ℕ, ◌<◌, ◌≤◌, ◌⊎◌, Bool, true, false, List, [], ◌∷◌, length, refl, ap, sym, ◌∙◌, subst, arith, inl, inr, Option, Some, None, slice_get, option_and_then, option_map, option_to_list}, lemmas.Bool.{cases_lt, lt-ltb, true≢false}, lemmas.Option.{same_Some, slice_get_within}}
use Rattle.rb_base.specs.Nodes.{Side, other}
use Rattle.rb_rules.specs.{Book.{Each, of_kind}, Clock.{Timeline, time_of}, Goodness.{Scenario, clock_of}, Hearing.{Coming, Sending, coming_of}, Lawful.IsLawful, NodeState.NodeState, Ports.HandIn, Rounds.{Moment, moment, windows_in}, Slots.count_of, WorldStep.{Timed, Site}}
use Rattle.rb_rules.proofs.{Drift.times_rise_to, RoundStates.HasTicks, Slots.other_twice}
use Rattle.rb_laws_agreement.proofs.Goodnesses.{good_counts}
use Rattle.rb_laws_events.specs.Closing.{stages_in}
use Rattle.rb_laws_events.proofs.{Invariant.{ComesInWindow, ComesLater, InTime, NodeStands, entry_of, has_sent, is_good_at, is_past, last_tick, next_stage, sending_of}, MomentSteps.{NextIsStage, good-back, good-state, next-is-stage}, NodeClosing.OthersKeepUp, ReceiverHears.comes-after, RoundNodes.{item-at, slot_numbered}, SameHeard.Every, SentChanges.{none-of-tail, past, sent-earlier, sent-here, sent-later}, WorldStands.{IsDown, IsUp, SitesStand, ahead_in, sent_by}, WorldTicks.{AllLand, on_way}}

-- each node has passed the windows before its own moment
pub record HavePassed (sc : Scenario) (hands : List HandIn) (now : ℕ) (at : Side → ℕ → ℕ) : Type 0 where
  pub passed : (me : Side) (i q : ℕ) (st : NodeState) → q < at me i → (moment sc hands q).window < stages_in sc.sizes
      → slice_get (of_kind me (moment sc hands q).nodes) i ≡ Some st → is_good_at sc (moment sc hands q) me i ≡ true
      → time_of (clock_of sc me i) (last_tick sc (moment sc hands q) me st) ≤ now

-- each node that is good in its own moment is in time there
pub record AreInTime (sc : Scenario) (hands : List HandIn) (at : Side → ℕ → ℕ) : Type 0 where
  pub each : (me : Side) (i : ℕ) → is_good_at sc (moment sc hands (at me i)) me i ≡ true
      → InTime sc (moment sc hands (at me i)) (moment sc hands (next_stage sc.sizes (moment sc hands (at me i)) (at me i)))
  -- what a node that stands in the next stage sends there comes later
  pub later : (me : Side) (i j : ℕ) (st : NodeState) → slice_get (of_kind me (moment sc hands (at me i)).nodes) i ≡ Some st → is_good_at sc (moment sc hands (at me i)) me i ≡ true
      → at (other me) j ≡ next_stage sc.sizes (moment sc hands (at me i)) (at me i)
      → is_good_at sc (moment sc hands (next_stage sc.sizes (moment sc hands (at me i)) (at me i))) (other me) j ≡ true
      → ComesLater sc (moment sc hands (at me i)) (moment sc hands (next_stage sc.sizes (moment sc hands (at me i)) (at me i))) me i j st

-- the pending tick of a node that runs comes no later than the last of its window
ends-later : {sc hands sent now me i p s st a : _}
    → NodeStands sc hands sent now me i p s st a → now ≤ time_of (clock_of sc me i) (last_tick sc (moment sc hands p) me st)
ends-later {sc} {hands} {now} {me} {i} {p} {st} {a} h =
    let at_time : a.time ≡ time_of (clock_of sc me i) a.tick = h.receives.at_time in
    let le : a.tick ≤ last_tick sc (moment sc hands p) me st = h.receives.in_window in
    let up : time_of (clock_of sc me i) a.tick ≤ time_of (clock_of sc me i) (last_tick sc (moment sc hands p) me st) =
    times_rise_to (clock_of sc me i) a.tick (last_tick sc (moment sc hands p) me st) le in
    let after : now ≤ a.time = h.receives.tick_after in
    omega (arith, at_time, up, after)

some-none : {s : Sending} → None ≡ Some s → ⊥
some-none e = cc

entry-is : (sc : Scenario) (m : Moment) (me : Side) (i : ℕ) {frame k : ℕ} (j : ℕ) {x : _} → sending_of sc m me i ≡ Some x → x.tick ≡ k → frame ≡ m.frame
    → entry_of sc m (other me) j i ≡ on_way sc me i frame k x.message j ∷ []
entry-is sc m me i {k} j {x} is tick in_frame =
    let x_is : x ≡ record { tick = k; message = x.message } = ap (λ t. let y : Sending = record { tick = t; message = x.message } in y) tick in
    ap (λ y. option_to_list (option_map (coming_of sc (other me) j i m.frame) (sending_of sc m y i))) (other_twice me)
    ∙ ap (λ o. option_to_list (option_map (coming_of sc (other me) j i m.frame) o)) is
    ∙ ap (λ y. coming_of sc (other me) j i m.frame y ∷ []) x_is
    ∙ ap (λ f. coming_of sc (other me) j i f (record { tick = k; message = x.message }) ∷ []) (sym in_frame)

-- Messages land.

pub all-land : {sc : Scenario} {hands : List HandIn} {now : ℕ} {at : Side → ℕ → ℕ} (sites : Each Site) (me : Side) (i : ℕ) {frame : ℕ} (k : ℕ) {t : ℕ}
    → IsLawful sc → HasTicks sc.plan → now ≤ t → t ≡ time_of (clock_of sc me i) k → i < count_of me sc.sizes
    → is_good_at sc (moment sc hands (at me i)) me i ≡ true → frame ≡ (moment sc hands (at me i)).frame
    → ((moment sc hands (at me i)).window ≤ windows_in sc.sizes)
    → HavePassed sc hands now at → AreInTime sc hands at → ((side : Side) → length (of_kind side sites) ≡ count_of side sc.sizes)
    → AllLand sc hands at sites me i frame k t
unfolding AllLand
all-land {sc} {hands} {now} {at} sites me i {frame} k {t} lawful ticks later time counted good in_frame bound passed times counts j z there x is tick st c stands =
    let p : ℕ = at (other me) j in
    let q : ℕ = at me i in
    let mp : Moment = moment sc hands p in
    let mq : Moment = moment sc hands q in
    let e : Coming = on_way sc me i frame k x.message j in
    let clock : Timeline = clock_of sc (other me) j in
    let entry : entry_of sc mq (other me) j i ≡ e ∷ [] = entry-is sc mq me i j is tick in_frame in
    let after : t < e.time =
    subst (λ u. u < e.time) (ap (λ y. time_of (clock_of sc y i) k) (other_twice me) ∙ sym time)
    (comes-after lawful (other me) j i frame (record { tick = k; message = x.message })) in
    let within : j < length (of_kind (other me) sites) = slice_get_within (of_kind (other me) sites) j z there in
    let long : length (of_kind (other me) sites) ≡ count_of (other me) sc.sizes = counts (other me) in
    let here : InTime sc mp (moment sc hands (next_stage sc.sizes mp p)) = times.each (other me) j stands.good in
    let source : InTime sc mq (moment sc hands (next_stage sc.sizes mq q)) = times.each me i good in
    let twice : is_good_at sc mq (other (other me)) i ≡ true = ap (λ y. is_good_at sc mq y i) (other_twice me) ∙ good in
    let next : NextIsStage sc hands p = next-is-stage sc hands p stands.stands.window in
    let stage : mq.window < stages_in sc.sizes = elim (cases_lt mq.window (stages_in sc.sizes)) [
      | inl lt ↦ lt
      | inr ge ↦ absurd (some-none (sym (none-of-tail sc mq me i ge bound) ∙ is))
    ] in
    elim (cases_lt q p) [
      | inl before ↦
          let was_good : is_good_at sc mq (other me) j ≡ true = good-back sc hands q p (other me) j (omega arith) stands.good in
          let was = good-state sc hands q (other me) j ticks was_good in
          let all : Every (ComesInWindow sc mq (other me) j was.0) (e ∷ []) =
          subst (Every (ComesInWindow sc mq (other me) j was.0)) entry (source.heard (other me) j i was.0 was.1 was_good twice) in
          let in_time : e.time ≤ time_of clock (last_tick sc mq (other me) was.0) = all.0.1 in
          let gone : time_of clock (last_tick sc mq (other me) was.0) ≤ now = passed.passed (other me) j q was.0 before stage was.1 was_good in
          absurd (omega arith)
      | inr ge ↦ elim (cases_lt p q) [
        | inr le ↦
            let same : q ≡ p = omega arith in
            let all : Every (ComesInWindow sc mp (other me) j st) (e ∷ []) =
            subst (Every (ComesInWindow sc mp (other me) j st)) (ap (λ q. entry_of sc (moment sc hands q) (other me) j i) (sym same) ∙ entry)
            (here.heard (other me) j i st stands.state stands.good (ap (λ q. is_good_at sc (moment sc hands q) (other (other me)) i) (sym same) ∙ twice)) in
            inl (same, all.0.1)
        | inl ahead ↦ elim (cases_lt q (next_stage sc.sizes mp p)) [
          | inl between ↦
              let tail = next.between q ahead between in
              absurd (omega (arith, tail.0, stage))
          | inr from ↦ elim (cases_lt (next_stage sc.sizes mp p) q) [
            | inr le ↦
                let same : q ≡ next_stage sc.sizes mp p = omega arith in
                let all : Every (λ c. time_of clock (last_tick sc mp (other me) st) < c.time) (e ∷ []) =
                subst (Every (λ c. time_of clock (last_tick sc mp (other me) st) < c.time)) (ap (λ q. entry_of sc (moment sc hands q) (other me) j i) (sym same) ∙ entry)
                (times.later (other me) j i st stands.state stands.good (ap (λ y. at y i) (other_twice me) ∙ same)
                (ap (λ q. is_good_at sc (moment sc hands q) (other (other me)) i) (sym same) ∙ twice)) in
                inr (same, all.0)
            | inl beyond ↦
                let y : ℕ = next_stage sc.sizes mp p in
                let was_good : is_good_at sc (moment sc hands y) me i ≡ true = good-back sc hands y q me i (omega arith) good in
                let was = good-state sc hands y me i ticks was_good in
                let gone : time_of (clock_of sc me i) (last_tick sc (moment sc hands y) me was.0) ≤ now = passed.passed me i y was.0 beyond next.window was.1 was_good in
                let order : time_of clock (last_tick sc mp (other me) st) < time_of (clock_of sc me i) (last_tick sc (moment sc hands y) me was.0) =
                here.order (other me) me j i st was.0 stands.state stands.good was.1 was_good in
                let end : t ≤ time_of clock (last_tick sc mp (other me) st) = ends-later stands in
                absurd (omega arith)
          ]
        ]
      ]
    ]

-- The others keep up.

-- a source that is good in the closing node's window has sent what it sends in that window
source-sent : {sc : Scenario} {hands : List HandIn} {t : ℕ} {at : Side → ℕ → ℕ} (sites : Each Site) (me : Side) (i j : ℕ) {st : NodeState} {z : Site}
    → IsLawful sc → HasTicks sc.plan → slice_get (of_kind me (moment sc hands (at me i)).nodes) i ≡ Some st → is_good_at sc (moment sc hands (at me i)) me i ≡ true
    → t ≡ time_of (clock_of sc me i) (last_tick sc (moment sc hands (at me i)) me st) → (moment sc hands (at me i)).window ≤ stages_in sc.sizes
    → HavePassed sc hands t at → AreInTime sc hands at → i < count_of me sc.sizes → j < count_of (other me) sc.sizes
    → is_good_at sc (moment sc hands (at me i)) (other me) j ≡ true → slice_get (of_kind (other me) sites) j ≡ Some z
    → ((z.runs ≡ true) × IsUp sc hands (sent_by sc hands at sites) t (other me) j (at (other me) j) z)
    ⊎ ((z.runs ≡ false) × IsDown sc hands (other me) j (at (other me) j) z)
    → {x : Sending} → sending_of sc (moment sc hands (at me i)) (other me) j ≡ Some x → sent_by sc hands at sites (other me) j (at me i) ≡ true
source-sent {sc} {hands} {t} {at} sites me i j {st} {z} lawful ticks there good time within passed times counted counted_j good_j site node {x} is =
    let p : ℕ = at me i in
    let q : ℕ = at (other me) j in
    let m : Moment = moment sc hands p in
    let mq : Moment = moment sc hands q in
    let clock : Timeline = clock_of sc (other me) j in
    let here : InTime sc m (moment sc hands (next_stage sc.sizes m p)) = times.each me i good in
    let pend : ahead_in (of_kind (other me) sites) j ≡ z.ahead = ap (option_and_then (λ (s : Site). s.ahead)) site in
    let stage : m.window < stages_in sc.sizes = elim (cases_lt m.window (stages_in sc.sizes)) [
      | inl lt ↦ lt
      | inr ge ↦ absurd (some-none (sym (none-of-tail sc m (other me) j ge (omega arith)) ∙ is))
    ] in
    elim (cases_lt p q) [
      | inl past ↦ sent-earlier (sending_of sc m (other me) j) q p (ahead_in (of_kind (other me) sites) j) is past
      | inr not_past ↦ elim node [
        | inr off ↦
            let good_q : is_good_at sc mq (other me) j ≡ true = good-back sc hands q p (other me) j not_past good_j in
            absurd (true≢false (sym good_q ∙ off.1.not_good))
        | inl on ↦
            let up : IsUp sc hands (sent_by sc hands at sites) t (other me) j q z = on.1 in
            let source : InTime sc mq (moment sc hands (next_stage sc.sizes mq q)) = times.each (other me) j up.stands.good in
            let a : Timed = up.a in
            let at_time : a.time ≡ time_of clock a.tick = up.stands.receives.at_time in
            let after : t ≤ a.time = up.stands.receives.tick_after in
            elim (cases_lt q p) [
              | inr le ↦
                  let same : q ≡ p = omega arith in
                  let e : Coming = coming_of sc me i j m.frame x in
                  let entry : entry_of sc m me i j ≡ e ∷ [] = ap (λ o. option_to_list (option_map (coming_of sc me i j m.frame) o)) is in
                  let all : Every (ComesInWindow sc m me i st) (e ∷ []) = subst (Every (ComesInWindow sc m me i st)) entry (here.heard me i j st there good good_j) in
                  let in_time : e.time ≤ time_of (clock_of sc me i) (last_tick sc m me st) = all.0.1 in
                  let sent : time_of clock x.tick < e.time = comes-after lawful me i j m.frame x in
                  let before : x.tick < a.tick = elim (cases_lt x.tick a.tick) [
                    | inl lt ↦ lt
                    | inr ge ↦
                        let rise : time_of clock a.tick ≤ time_of clock x.tick = times_rise_to clock a.tick x.tick ge in
                        absurd (omega arith)
                  ] in
                  ap (λ r. has_sent (sending_of sc m (other me) j) r (ahead_in (of_kind (other me) sites) j) p) same
                  ∙ sent-here (sending_of sc m (other me) j) p (ahead_in (of_kind (other me) sites) j)
                  ∙ ap (λ o. past o (ahead_in (of_kind (other me) sites) j)) is
                  ∙ ap (is_past x.tick) (pend ∙ up.stands.receives.pends) ∙ lt-ltb x.tick a.tick before
              | inl behind ↦
                  let next : NextIsStage sc hands q = next-is-stage sc hands q up.stands.stands.window in
                  let y : ℕ = next_stage sc.sizes mq q in
                  let end : t ≤ time_of clock (last_tick sc mq (other me) up.st) = ends-later up.stands in
                  elim (cases_lt p y) [
                    | inl between ↦ let tail = next.between p behind between in absurd (omega (arith, tail.0, stage))
                    | inr from ↦
                        let was_good : is_good_at sc (moment sc hands y) me i ≡ true = good-back sc hands y p me i from good in
                        let was = good-state sc hands y me i ticks was_good in
                        let order : time_of clock (last_tick sc mq (other me) up.st) < time_of (clock_of sc me i) (last_tick sc (moment sc hands y) me was.0) =
                        source.order (other me) me j i up.st was.0 up.stands.state up.stands.good was.1 was_good in
                        elim (cases_lt y p) [
                          | inl lt ↦
                              let gone : time_of (clock_of sc me i) (last_tick sc (moment sc hands y) me was.0) ≤ t = passed.passed me i y was.0 lt next.window was.1 was_good in
                              absurd (omega arith)
                          | inr ge ↦
                              let same : y ≡ p = omega arith in
                              let st_is : was.0 ≡ st =
                              same_Some was.0 st (sym was.1 ∙ ap (λ y. slice_get (of_kind me (moment sc hands y).nodes) i) same ∙ there) in
                              let last : time_of (clock_of sc me i) (last_tick sc (moment sc hands y) me was.0) ≡ t =
                              ap (λ y. time_of (clock_of sc me i) (last_tick sc (moment sc hands y) me was.0)) same
                              ∙ ap (λ z. time_of (clock_of sc me i) (last_tick sc m me z)) st_is ∙ sym time in
                              absurd (omega arith)
                        ]
                  ]
            ]
      ]
    ]

node-of : {sc hands now at sites : _} → SitesStand sc hands now at sites → (me : Side) (i : ℕ) {z : _}
    → slice_get (of_kind me sites) i ≡ Some z
    → ((z.runs ≡ true) × IsUp sc hands (sent_by sc hands at sites) now me i (at me i) z) ⊎ ((z.runs ≡ false) × IsDown sc hands me i (at me i) z)
node-of {sc} {hands} {now} {at} {sites} h me i {z} there = by z.runs refl
  where
    by : (b : Bool) → z.runs ≡ b → ((z.runs ≡ true) × IsUp sc hands (sent_by sc hands at sites) now me i (at me i) z) ⊎ ((z.runs ≡ false) × IsDown sc hands me i (at me i) z)
    by true e = inl (e, h.up me i z there e)
    by false e = inr (e, h.down me i z there e)

-- when a node closes its window at time `t`, the other nodes keep up
pub keep-up : {sc : Scenario} {hands : List HandIn} {t : ℕ} {at : Side → ℕ → ℕ} {sites : Each Site} (me : Side) (i : ℕ) {st : NodeState}
    → IsLawful sc → HasTicks sc.plan → slice_get (of_kind me (moment sc hands (at me i)).nodes) i ≡ Some st → is_good_at sc (moment sc hands (at me i)) me i ≡ true
    → t ≡ time_of (clock_of sc me i) (last_tick sc (moment sc hands (at me i)) me st) → (moment sc hands (at me i)).window ≤ stages_in sc.sizes
    → HavePassed sc hands t at → AreInTime sc hands at → i < count_of me sc.sizes → SitesStand sc hands t at sites
    → OthersKeepUp sc hands (sent_by sc hands at sites) me i (at me i)
keep-up {sc} {hands} {t} {at} {sites} me i {st} lawful ticks there good time within passed times counted h =
    let p : ℕ = at me i in
    let m : Moment = moment sc hands p in
    let here : InTime sc m (moment sc hands (next_stage sc.sizes m p)) = times.each me i good in
    let next : NextIsStage sc hands p = next-is-stage sc hands p within in
    record {
      all_sent = λ j good_j.
          let counted_j : j < count_of (other me) sc.sizes = good_counts sc (other me) j m.frame (slot_numbered sc.sizes m.window) good_j in
          let long : length (of_kind (other me) sites) ≡ count_of (other me) sc.sizes = h.counts (other me) in
          let site = item-at (of_kind (other me) sites) j (omega arith) in
          let go : (o : Option Sending) → sending_of sc m (other me) j ≡ o → (sent_by sc hands at sites (other me) j p ≡ true) ⊎ (entry_of sc m me i j ≡ []) =
          λ o. elim o as (λ o. sending_of sc m (other me) j ≡ o → (sent_by sc hands at sites (other me) j p ≡ true) ⊎ (entry_of sc m me i j ≡ [])) [
            | None ↦ λ e. inr (ap (λ o. option_to_list (option_map (coming_of sc me i j m.frame) o)) e)
            | Some x ↦ λ e.
                inl (source-sent sites me i j lawful ticks there good time within passed times counted counted_j good_j site.1
                (node-of h (other me) j site.1) e)
          ] in
          go (sending_of sc m (other me) j) refl;
      none_ahead = λ q e j good_y.
          let y : ℕ = next_stage sc.sizes (moment sc hands q) q in
          let stage : (moment sc hands q).window < stages_in sc.sizes = subst (λ q. (moment sc hands q).window < stages_in sc.sizes) (sym e) next.window in
          let after : NextIsStage sc hands q = next-is-stage sc hands q (omega arith) in
          let later : q < y = after.later in
          elim (cases_lt (at (other me) j) y) [
            | inl lt ↦ sent-later (sending_of sc (moment sc hands y) (other me) j) (at (other me) j) y (ahead_in (of_kind (other me) sites) j) lt
            | inr ge ↦
                let good_q : is_good_at sc (moment sc hands q) (other me) j ≡ true = good-back sc hands q y (other me) j (omega arith) good_y in
                let was = good-state sc hands q (other me) j ticks good_q in
                let gone : time_of (clock_of sc (other me) j) (last_tick sc (moment sc hands q) (other me) was.0) ≤ t =
                passed.passed (other me) j q was.0 (omega arith) stage was.1 good_q in
                let order : time_of (clock_of sc me i) (last_tick sc m me st) < time_of (clock_of sc (other me) j) (last_tick sc (moment sc hands q) (other me) was.0) =
                subst (λ q. (yours : NodeState) → slice_get (of_kind (other me) (moment sc hands q).nodes) j ≡ Some yours → is_good_at sc (moment sc hands q) (other me) j ≡ true
                → time_of (clock_of sc me i) (last_tick sc m me st) < time_of (clock_of sc (other me) j) (last_tick sc (moment sc hands q) (other me) yours)) (sym e)
                (λ yours f g. here.order me (other me) i j st yours there good f g) was.0 was.1 good_q in
                absurd (omega arith)
          ];
    }
