-- For the law that events are rounds if the premise on faults is broken in a sync slot: the nodes
-- of a world in which the run breaks off at moment p. Each node that is good there waits for its
-- last tick of the window, or has told its row of it. What happens at a node keeps this.
use Rattle.std.proofs.Common.{◌≡◌, ℕ, ◌+◌, ◌++◌, ◌⊎◌, ◌-◌, ◌^◌, ◌<◌, ◌≤◌, ◌==◌, Bool, true, false, List, [], refl, ap, sym, ◌∙◌, subst, arith, Option, Some, None, slice_get, option_map}
use Rattle.rb_base.specs.{Nodes.Side, Sizes.sync_slot_of}
use Rattle.rb_rules.specs.{declared.closing.Closed.Closed as Shown, declared.record.Epoch.Epoch, declared.role.Role.TheVariants.Sync, declared.plan.Window.Window, Book.{Each, Row, of_kind}, Clock.{stamp_of, time_of}, Core.{Act, Core, next_tick, of_source, pass_to}, Goodness.{Scenario, clock_of, is_good}, Hearing.{Coming, Span, row_of}, NodeState.NodeState, Ports.{HandIn, PortState}, Rounds.{Moment, go_through, moment, sent_in, window_in}, Slots.listens, WorldStep.{Site, Timed, after_act, after_arrival, await, coming_from, enter, pass_and_tick, proceed, says_in, span_from, stop, with_close, with_epoch}}
use Rattle.rb_rules.proofs.{QuietTicks.arrive-same, RoundStates.HasTicks, Stamps.Moves}
use Rattle.rb_laws_synchrony.proofs.Times.{stamp_to}
use Rattle.rb_laws_events.specs.Closing.{stages_in}
use Rattle.rb_laws_events.proofs.{ClosingTicks.{closing_of, spoken}, Invariant.{NodeStands, is_good_at, last_tick, word_at}, LastCloses.ShowsRounds, NodeActs.IsInWindow, NodeClosing.closed-stage, NodeSends.KeepsTime, NodeTicks.{like-itself, like-keeps}, SameHeard.Every, PastTicks.{IsPast, TellsNone, past-arrival, past-kept, past-tick}, StageOrder.last_of, Takes.busy-later, TickWindows.first_of}

-- a node that listens in the window waits for its last tick
pub record WaitsHearing (sc : Scenario) (hands : List HandIn) (sent : Side → ℕ → ℕ → Bool) (now : ℕ) (me : Side) (i p : ℕ) (s : Site) : Type 0 where
  pub st : NodeState
  pub a : Timed
  pub stands : NodeStands sc hands sent now me i p s st a
  pub hears : listens me Sync (window_in sc (moment sc hands p) me st).stage ≡ true
  pub last : a.tick ≡ last_tick sc (moment sc hands p) me st

pub record WaitsDeaf (sc : Scenario) (hands : List HandIn) (me : Side) (i p : ℕ) (s : Site) : Type 0 where
  pub st : NodeState
  pub a : Timed
  pub state : slice_get (of_kind me (moment sc hands p).nodes) i ≡ Some st
  pub good : is_good_at sc (moment sc hands p) me i ≡ true
  pub slot : (window_in sc (moment sc hands p) me st).slot ≡ sync_slot_of sc.sizes
  pub deaf : listens me Sync (window_in sc (moment sc hands p) me st).stage ≡ false
  pub stands : IsInWindow sc.sizes sc.plan me i st (moment sc hands p).window (word_at sc (moment sc hands p) me i st) a.tick s.core.state
  pub from : st.epoch + first_of sc.sizes sc.plan me st (moment sc hands p).window ≤ s.core.had
  pub had : s.core.had ≤ a.tick
  pub small : a.tick < 2 ^ 31
  pub pends : s.ahead ≡ Some a
  pub at_time : a.time ≡ time_of (clock_of sc me i) a.tick
  pub last : a.tick ≡ last_tick sc (moment sc hands p) me st

-- a node that listens; besides what comes to it in the rounds of the stage and of the window after
-- it, some messages may come after its last tick
pub record WaitsAhead (sc : Scenario) (hands : List HandIn) (sent : Side → ℕ → ℕ → Bool) (me : Side) (i p : ℕ) (s : Site) : Type 0 where
  pub now : ℕ
  pub mine : List Coming
  pub more : List Coming
  pub is : s.coming ≡ mine ++ more
  pub waits : WaitsHearing sc hands sent now me i p (record s { coming = mine })
  pub later : Every (λ c. waits.a.time < c.time) more

-- how a node goes on that has told its row: a relation of its state in the rounds, of its core, and
-- of its next tick
abbrev pub Course : Type 1
Course = List HandIn → ℕ → Side → ℕ → NodeState → Core → Option Timed → Type 0

-- a node that has told its row of the window, and goes on by the course `C`
pub record HasTold (sc : Scenario) (hands : List HandIn) (C : Course) (me : Side) (i p : ℕ) (s : Site) : Type 0 where
  pub st : NodeState
  pub state : slice_get (of_kind me (moment sc hands p).nodes) i ≡ Some st
  pub good : is_good_at sc (moment sc hands p) me i ≡ true
  pub row : Row
  pub told : s.row ≡ Some row
  pub is : (go_through sc (moment sc hands p) (sent_in sc (moment sc hands p)) me i st (window_in sc (moment sc hands p) me st)).row ≡ Some row
  pub course : C hands p me i st s.core s.ahead

-- a node that has told its row goes on if its row stays
unfoldable pub told-on : {sc hands : _} (C : Course) {me i p s : _} (z : Site) → (h : HasTold sc hands C me i p s) → z.row ≡ s.row → C hands p me i h.st z.core z.ahead
    → HasTold sc hands C me i p z
told-on C z h row course = record { st = h.st; state = h.state; good = h.good; row = h.row; told = row ∙ h.told; is = h.is; course = course }

-- a node at which nothing happens any more
pub record HasStopped (s : Site) : Type 0 where
  pub runs : s.runs ≡ false
  pub ahead : s.ahead ≡ None
  pub coming : s.coming ≡ []

-- a node of a world in which the run breaks off at moment p
abbrev pub SiteBreaks : Scenario → List HandIn → Course → (Side → ℕ → ℕ → Bool) → ℕ → Side → ℕ → Site → Type 0
SiteBreaks sc hands C sent p side j s = HasStopped s ⊎ (WaitsAhead sc hands sent side j p s ⊎ (WaitsDeaf sc hands side j p s ⊎ HasTold sc hands C side j p s))

-- `SiteBreaks` holds for each node
abbrev pub NodesBreak : Scenario → Course → List HandIn → ℕ → (Side → ℕ → ℕ → Bool) → Each Site → Type 0
NodesBreak sc C hands p sent sites = (side : Side) (j : ℕ) (z : Site) → slice_get (of_kind side sites) j ≡ Some z → SiteBreaks sc hands C sent p side j z

-- an arrival keeps the course
abbrev pub ArrivalsKeep : Scenario → Course → Type 0
ArrivalsKeep sc C = (hands : List HandIn) (me : Side) (i p n : ℕ) (c : Coming) (s : Site) (st : NodeState) → Moves (clock_of sc me i) → C hands p me i st s.core s.ahead
    → ((a : Timed) → s.ahead ≡ Some a → c.time ≤ a.time) → C hands p me i st (after_arrival sc me i n c s).core (after_arrival sc me i n c s).ahead

-- the course after the first and the second stage: the node is past the window, and stays in the
-- frame
pub record InFrame (sc : Scenario) (hands : List HandIn) (p : ℕ) (me : Side) (i : ℕ) (st : NodeState) (core : Core) (o : Option Timed) : Type 0 where
  pub past : IsPast sc.sizes sc.plan me st.frame st.epoch ((moment sc hands p).window + 1) core.state core.had
  pub keeps : listens me Sync (window_in sc (moment sc hands p) me st).stage ≡ false → KeepsTime sc.sizes sc.plan me core.state
  pub ahead : (a : Timed) → o ≡ Some a → (core.had ≤ a.tick) × (a.time ≡ time_of (clock_of sc me i) a.tick)

abbrev pub HasClosed : Scenario → List HandIn → Side → ℕ → ℕ → Site → Type 0
HasClosed sc hands me i p s = HasTold sc hands (InFrame sc) me i p s

-- Arrivals.

arrival-had : (sc : Scenario) (me : Side) (i n : ℕ) (c : Coming) (s : Site) (a : Timed) → Moves (clock_of sc me i) → c.time ≤ a.time → a.time ≡ time_of (clock_of sc me i) a.tick → s.core.had ≤ a.tick
    → ((after_arrival sc me i n c s).core.state ≡ s.core.state) × (((after_arrival sc me i n c s).core.had ≤ a.tick) × (s.core.had ≤ (after_arrival sc me i n c s).core.had))
unfolding after_arrival
arrival-had sc me i n c s a moves before at_time had =
    let stamp : ℕ = stamp_of (clock_of sc me i) c.time in
    let in_time : stamp ≤ a.tick = stamp_to (clock_of sc me i) moves c.time a.tick (omega (arith, before, at_time)) in
    let passed : Core = pass_to stamp s.core in
    let same = arrive-same sc.sizes me passed c.from c.bytes in
    let most : passed.had ≤ a.tick = omega (arith, in_time, had) in
    let least : s.core.had ≤ passed.had = omega arith in
    (same.0, (omega (arith, same.1, most), omega (arith, same.1, least)))

pub deaf-arrives : {sc hands me i p : _} (n : ℕ) (c : Coming) {s : _} → Moves (clock_of sc me i) → (h : WaitsDeaf sc hands me i p s) → c.time ≤ h.a.time
    → WaitsDeaf sc hands me i p (after_arrival sc me i n c s)
unfolding after_arrival
deaf-arrives {sc} {hands} {me} {i} {p} n c {s} moves h before =
    let m : Moment = moment sc hands p in
    let kept = arrival-had sc me i n c s h.a moves before h.at_time h.had in
    record {
      st = h.st;
      a = h.a;
      state = h.state;
      good = h.good;
      slot = h.slot;
      deaf = h.deaf;
      stands = subst (IsInWindow sc.sizes sc.plan me i h.st m.window (word_at sc m me i h.st) h.a.tick) (sym kept.0) h.stands;
      from = let from = h.from in omega (arith, from, kept.1.1);
      had = kept.1.0;
      small = h.small;
      pends = h.pends;
      at_time = h.at_time;
      last = h.last;
    }

pub closed-arrives : {sc : _} (hands : List HandIn) (me : Side) (i p n : ℕ) (c : Coming) (s : Site) (st : NodeState) → Moves (clock_of sc me i) → InFrame sc hands p me i st s.core s.ahead
    → ((a : Timed) → s.ahead ≡ Some a → c.time ≤ a.time) → InFrame sc hands p me i st (after_arrival sc me i n c s).core (after_arrival sc me i n c s).ahead
unfolding after_arrival
closed-arrives {sc} hands me i p n c s st moves h before =
    let m : Moment = moment sc hands p in
    let passed : Core = pass_to (stamp_of (clock_of sc me i) c.time) s.core in
    let more : s.core.had ≤ passed.had = omega arith in
    let later : IsPast sc.sizes sc.plan me st.frame st.epoch (m.window + 1) passed.state passed.had =
    past-kept passed.had (like-itself sc.sizes sc.plan me i s.core.state) refl more h.past in
    record {
      keeps = λ deaf. subst (KeepsTime sc.sizes sc.plan me) (sym (arrive-same sc.sizes me passed c.from c.bytes).0) (h.keeps deaf);
      past = past-arrival passed c.from c.bytes later;
      ahead = λ a e.
          let was = h.ahead a e in
          ((arrival-had sc me i n c s a moves (before a e) was.1 was.0).1.0, was.1);
    }

-- Ticks.

-- `a` is the node's next tick
pub record PendsNext (sc : Scenario) (me : Side) (i : ℕ) (core : Core) (a : Timed) : Type 0 where
  pub next : next_tick sc.sizes sc.plan me i core ≡ Some a.tick
  pub later : core.had ≤ a.tick
  pub at_time : a.time ≡ time_of (clock_of sc me i) a.tick

-- what comes after a tick leaves what the node has told of stages, and its core
pub record Proceeds (sc : Scenario) (me : Side) (i : ℕ) (row : Option Row) (core : Core) (z : Site) : Type 0 where
  pub row_is : z.row ≡ row
  pub core_is : z.core ≡ core
  pub ahead : (a : Timed) → z.ahead ≡ Some a → PendsNext sc me i core a

awaits : (sc : Scenario) (me : Side) (i : ℕ) (more : List Coming) (s : Site) → Proceeds sc me i s.row s.core (await sc me i more s)
awaits sc me i more s = record {
  row_is = refl;
  core_is = refl;
  ahead = by (next_tick sc.sizes sc.plan me i s.core) refl;
}
  where
    by : (o : Option ℕ) → next_tick sc.sizes sc.plan me i s.core ≡ o → (a : Timed)
        → option_map (λ k. let t : Timed = record { tick = k; time = time_of (clock_of sc me i) k } in t) o ≡ Some a → PendsNext sc me i s.core a
    by None is a e = cc
    by (Some k) is a e =
        let same : (let t : Timed = record { tick = k; time = time_of (clock_of sc me i) k } in t) ≡ a = cc in
        subst (λ (a : Timed). PendsNext sc me i s.core a) same
        (record { next = is; later = busy-later sc.sizes sc.plan me i s.core.state (2 ^ 31 - s.core.had) s.core.had is; at_time = refl })

none-pends : (sc : Scenario) (me : Side) (i : ℕ) (s : Site) → Proceeds sc me i s.row s.core (stop s)
none-pends sc me i s = record { row_is = refl; core_is = refl; ahead = λ a e. absurd (cc) }

enters : (sc : Scenario) (me : Side) (i : ℕ) (o : Option Span) (s : Site) → Proceeds sc me i s.row s.core (enter sc me i o s)
enters sc me i None s = awaits sc me i [] s
enters sc me i (Some span) s = by (is_good sc me i span.place.frame span.place.slot)
  where
    by : (b : Bool) → Proceeds sc me i s.row s.core (elim b as (λ _. Site) [ true ↦ await sc me i (says_in sc me i span) s | false ↦ stop s ])
    by true = awaits sc me i (says_in sc me i span) s
    by false = none-pends sc me i s

pub acted : (sc : Scenario) (ports : List PortState) (me : Side) (i : ℕ) (x : Act) (s : Site)
    → Proceeds sc me i (with_close me i x.core.state x.closed (record s { core = x.core })).row x.core (after_act sc ports me i x s)
unfolding after_act proceed
acted sc ports me i x s =
    let s1 : Site = record s { core = x.core } in
    let s2 : Site = with_close me i x.core.state x.closed s1 in
    let s3 : Site = with_epoch sc ports me i x.epoch s2 in
    let row : s3.row ≡ s2.row = of-epoch x.epoch s2 in
    let core : s3.core ≡ x.core = epoch-core x.epoch s2 ∙ close-core x.closed s1 in
    let go : Proceeds sc me i s3.row s3.core (enter sc me i (span_from sc.sizes sc.plan me s3.core.state s3.core.had) s3) = enters sc me i (span_from sc.sizes sc.plan me s3.core.state s3.core.had) s3 in
    subst (λ c. Proceeds sc me i s2.row c (enter sc me i (span_from sc.sizes sc.plan me s3.core.state s3.core.had) s3)) core
    (subst (λ r. Proceeds sc me i r s3.core (enter sc me i (span_from sc.sizes sc.plan me s3.core.state s3.core.had) s3)) row go)
  where
    of-epoch : (e : Option Epoch) (s : Site) → (with_epoch sc ports me i e s).row ≡ s.row
    of-epoch None s = refl
    of-epoch (Some e) s = refl

    epoch-core : (e : Option Epoch) (s : Site) → (with_epoch sc ports me i e s).core ≡ s.core
    epoch-core None s = refl
    epoch-core (Some e) s = refl

    close-core : (c : Option Shown) (s : Site) → (with_close me i x.core.state c s).core ≡ s.core
    close-core None s = refl
    close-core (Some c) s = refl

-- a node that has told its row tells nothing at a tick before the last of the next window
pub closed-ticks : {sc : Scenario} {hands : List HandIn} (ports : List PortState) {me : Side} {i p : ℕ} (k : ℕ) {s : Site} → HasTicks sc.plan → (moment sc hands p).window + 1 ≤ stages_in sc.sizes
    → (h : HasClosed sc hands me i p s) → s.core.had ≤ k → k < s.core.state.epoch + last_of sc.sizes sc.plan me s.core.state ((moment sc hands p).window + 1)
    → HasClosed sc hands me i p (after_act sc ports me i (pass_and_tick sc ports me i k s.core) s)
unfolding pass_and_tick
closed-ticks {sc} {hands} ports {me} {i} {p} k {s} ticks le h had before =
    let n : ℕ = (moment sc hands p).window + 1 in
    let c : Core = pass_to k s.core in
    let c_had : c.had ≡ k = omega arith in
    let x : Act = pass_and_tick sc ports me i k s.core in
    let later : IsPast sc.sizes sc.plan me h.st.frame h.st.epoch n c.state c.had =
    past-kept c.had (like-itself sc.sizes sc.plan me i s.core.state) refl (omega arith) h.course.past in
    let none : TellsNone sc.sizes sc.plan me i h.st.frame h.st.epoch n s.core.state x = past-tick i c _ ticks le later (omega arith) in
    let z : Site = after_act sc ports me i x s in
    let go : Proceeds sc me i (with_close me i x.core.state x.closed (record s { core = x.core })).row x.core z = acted sc ports me i x s in
    let row : z.row ≡ s.row = go.row_is ∙ ap (λ c. (with_close me i x.core.state c (record s { core = x.core })).row) none.closed in
    told-on (InFrame sc) z h row (record {
      past = subst (λ (c : Core). IsPast sc.sizes sc.plan me h.st.frame h.st.epoch n c.state c.had) (sym go.core_is) none.past;
      keeps = λ deaf. subst (λ (c : Core). KeepsTime sc.sizes sc.plan me c.state) (sym go.core_is) (like-keeps none.like (h.course.keeps deaf));
      ahead = λ a e. let was = go.ahead a e in (subst (λ (c : Core). c.had ≤ a.tick) (sym go.core_is) was.later, was.at_time);
    })

-- a node that closes the window with what the rounds tell of it has told its row
pub closes-told : {sc : _} (hands : List HandIn) (ports : List PortState) {me i : _} (p : ℕ) {k s st x : _}
    → slice_get (of_kind me (moment sc hands p).nodes) i ≡ Some st → is_good_at sc (moment sc hands p) me i ≡ true → ShowsRounds sc (moment sc hands p) me i st s k x → ((window_in sc (moment sc hands p) me st).stage == 4) ≡ false
    → IsPast sc.sizes sc.plan me st.frame st.epoch ((moment sc hands p).window + 1) x.core.state x.core.had
    → (listens me Sync (window_in sc (moment sc hands p) me st).stage ≡ false → KeepsTime sc.sizes sc.plan me x.core.state)
    → HasClosed sc hands me i p (after_act sc ports me i x s)
closes-told {sc} hands ports {me} {i} p {s} {st} {x} there good h stage past keeps =
    let m : Moment = moment sc hands p in
    let w : Window = window_in sc m me st in
    let z : Site = after_act sc ports me i x s in
    let row : Row = row_of me i x.core.state (coming_from s.got) h.shown in
    let go : Proceeds sc me i (with_close me i x.core.state x.closed (record s { core = x.core })).row x.core z = acted sc ports me i x s in
    let same : h.shown ≡ (closing_of sc m me i st w s.core.inbox).closed = some-same h.shown _ (sym h.closed ∙ h.act.closed) in
    let its : h.shown.place.stage ≡ w.stage = ap (λ (c : Shown). c.place.stage) same ∙ closed-stage sc.sizes sc.plan me i (spoken sc m me i st w) w (of_source s.core.inbox) in
    let no_tail : (h.shown.place.stage == 4) ≡ false = ap (λ n. n == 4) its ∙ stage in
    let told : z.row ≡ Some row =
    go.row_is ∙ ap (λ c. (with_close me i x.core.state c (record s { core = x.core })).row) h.closed
    ∙ ap (λ b. elim b as (λ _. Option Row) [ true ↦ s.row | false ↦ Some row ]) no_tail in
    record {
      st = st;
      state = there;
      good = good;
      row = row;
      told = told;
      is = h.row;
      course = record {
        past = subst (λ (c : Core). IsPast sc.sizes sc.plan me st.frame st.epoch (m.window + 1) c.state c.had) (sym go.core_is) past;
        keeps = λ deaf. subst (λ (c : Core). KeepsTime sc.sizes sc.plan me c.state) (sym go.core_is) (keeps deaf);
        ahead = λ a e. let was = go.ahead a e in (subst (λ (c : Core). c.had ≤ a.tick) (sym go.core_is) was.later, was.at_time);
      };
    }
  where
    some-same : (a b : Shown) → Some a ≡ Some b → a ≡ b
    some-same a b e = cc
