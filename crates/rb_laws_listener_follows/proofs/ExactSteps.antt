-- A listener goes through a window below the sync slot: it closes it as the good BIUs do, and
-- stands before the next.
use Rattle.std.proofs.Common.{◌≡◌, ℕ, suc, ◌+◌, ◌-◌, ◌*◌, ◌^◌, ◌<◌, ◌≤◌, ◌==◌, Bool, true, false, List, Option, Some, None, refl, sym, ◌∙◌, ap, subst, arith}
use Rattle.rb_base.specs.{Nodes.Side.Biu, Sizes.{Sizes, sync_slot_of}, declared.values.See.See}
use Rattle.rb_base.proofs.Plain.{less-differs}
use Rattle.rb_rules.specs.{declared.plan.Plan.Plan, declared.plan.Window.Window, declared.sense.Sense.Sense, Core.{Core, of_source, state_at, window_here}, ExactStage.{Outcome, close_exact, outcome_of, votes_in}, Goodness.Scenario, Hearing.close_window, Judging.JudgedStage, NodeState.NodeState, NodeSteps.close, Ports.HandIn, Rounds.moment, Slots.role_of, SyncStage.{close_sync, new_epoch_of}}
use Rattle.rb_rules.proofs.RoundStates.{close-stays}
use Rattle.rb_laws_agreement.proofs.{ExactAgrees.has_ticks, Invariant.Shared, NextMoments.next, NodeWindows.{Windows, exact_windows}, Settings.{Setting, stages_with}}
use Rattle.rb_laws_synchrony.proofs.StageCalls.{IsAt, exact_at}
use Rattle.rb_laws_events.proofs.{StageOrder.{last-same, last_of}, TickWindows.{first-same, first_of}}
use Rattle.rb_listen.specs.Following.{follow}
use Rattle.rb_laws_listener_learns.specs.Ears.{Ear, listening_at}
use Rattle.rb_laws_listener_near.specs.Judged.{verdict_with}
use Rattle.rb_laws_listener_near.proofs.{Tracking.{MostStay, Tracks, held}, VotesAlike.SawTaken, WindowSteps.{IsWatched, closed_by, tracks_after}}
use Rattle.rb_laws_listener_follows.proofs.{FollowerRuns.{ClosesWindow, IsWindow, Stands, closes_window, closing, collected, state_before}, FollowerWindows.{closes_there, is_window}, HeardExact.Beside, SensesExact.{sense_heard, senses_exact}}
use Rattle.rb_listen.specs.Listening as now

-- the listener stands before the window of moment n, with whose first tick it comes to this state
pub record Abides (sc : Scenario) (hands : List HandIn) (ear : Ear) (n epoch low : ℕ) (s : Shared) (before st : NodeState) : Type 0 where
  pub beside : Beside sc hands ear n epoch low s
  pub stands : Stands sc ear before (epoch + (moment sc hands n).window * sc.plan.l)
  pub turns : state_at sc.sizes sc.plan Biu before (epoch + (moment sc hands n).window * sc.plan.l) ≡ st
  pub epoch_is : st.epoch ≡ epoch
  pub unknown : new_epoch_of sc.plan Biu st ≡ None
  pub tracks : Tracks sc (moment sc hands n) st

-- what the listener senses in a stage below the sync slot
abbrev pub sense_at : Scenario → List HandIn → Ear → ℕ → ℕ → NodeState → ℕ → ℕ → ℕ → Sense
sense_at sc hands ear n epoch st slot q = sense_heard sc ear epoch (moment sc hands n).window st slot (q + 1)

abbrev pub outcome_at : Scenario → List HandIn → Ear → ℕ → ℕ → NodeState → ℕ → ℕ → Outcome
outcome_at sc hands ear n epoch st slot q = closed_by sc slot (q + 1) ((moment sc hands n).window * sc.plan.l) st (sense_at sc hands ear n epoch st slot q)

-- the premise holds with the listener in this window
pub record IsPremise (sc : Scenario) (hands : List HandIn) (ear : Ear) (n epoch : ℕ) (st : NodeState) (slot q : ℕ) (seen : ℕ → JudgedStage → Option (ℕ → See)) : Type 0 where
  pub most : MostStay sc (moment sc hands n)
  pub none : verdict_with seen (stages_with sc (moment sc hands n) slot (q + 1)) ≡ None
  pub saw : votes_in Biu (role_of sc.sizes slot) (q + 1) ≡ true → SawTaken sc (moment sc hands n) slot (q + 1) st (sense_at sc hands ear n epoch st slot q) seen

-- ---- its ticks

before-sync : {sc hands n s slot q : _} → Setting sc hands n (moment sc hands n) s slot q → (moment sc hands n).window < 3 * sync_slot_of sc.sizes
before-sync {sc} {hands} {n} {slot} {q} c =
    let at : (moment sc hands n).window ≡ 3 * slot + q = c.at in let below : slot < sync_slot_of sc.sizes = c.below in let small : q < 3 = c.small in omega arith

record Ticks (sc : Scenario) (st : NodeState) (w : ℕ) : Type 0 where
  pub first : first_of sc.sizes sc.plan Biu st w ≡ w * sc.plan.l
  pub last : last_of sc.sizes sc.plan Biu st w ≡ w * sc.plan.l + sc.plan.l - 1
  pub some : first_of sc.sizes sc.plan Biu st w ≤ last_of sc.sizes sc.plan Biu st w
  pub many : last_of sc.sizes sc.plan Biu st w - first_of sc.sizes sc.plan Biu st w ≡ sc.plan.l - 1

ticks_are : (sc : Scenario) (st : NodeState) (w : ℕ) → w < 3 * sync_slot_of sc.sizes → 1 ≤ sc.plan.l → Ticks sc st w
ticks_are sc st w below some =
    let a : first_of sc.sizes sc.plan Biu st w ≡ w * sc.plan.l = first-same sc.sizes sc.plan Biu st w (omega (arith, below)) in
    let b : last_of sc.sizes sc.plan Biu st w ≡ w * sc.plan.l + sc.plan.l - 1 = last-same sc.sizes sc.plan Biu st w (omega (arith, below)) in
    record { first = a; last = b; some = omega (arith, a, b, some); many = omega (arith, a, b, some) }

pub window_at : {sc hands ear n epoch low s before st : _} → Abides sc hands ear n epoch low s before st
    → (moment sc hands n).window < 3 * sync_slot_of sc.sizes → epoch + (moment sc hands n).window * sc.plan.l + sc.plan.l ≤ ear.ticks
    → IsWindow sc.sizes sc.plan before st (epoch + (moment sc hands n).window * sc.plan.l) (sc.plan.l - 1)
window_at {sc} {hands} {n} {epoch} {before} {st} a below in_time =
    let w : ℕ = (moment sc hands n).window in
    let t : Ticks sc st w = ticks_are sc st w below a.beside.law.plan.l.0 in
    let first : st.epoch + first_of sc.sizes sc.plan Biu st w ≡ epoch + w * sc.plan.l = omega (arith, a.epoch_is, t.first) in
    let end : st.epoch + last_of sc.sizes sc.plan Biu st w < 2 ^ 31 = omega (arith, a.epoch_is, t.last, in_time, a.beside.is.ticks, a.beside.law.plan.l.0) in
    let is : IsWindow sc.sizes sc.plan before st (st.epoch + first_of sc.sizes sc.plan Biu st w) (last_of sc.sizes sc.plan Biu st w - first_of sc.sizes sc.plan Biu st w) =
    is_window sc.sizes before w (has_ticks a.beside.law) (omega (arith, below)) t.some
    (ap (state_at sc.sizes sc.plan Biu before) first ∙ a.turns) (λ x known. let both : None ≡ Some x = sym a.unknown ∙ known in cc) end in
    subst (λ f. IsWindow sc.sizes sc.plan before st f (sc.plan.l - 1)) first
    (subst (λ k. IsWindow sc.sizes sc.plan before st (st.epoch + first_of sc.sizes sc.plan Biu st w) k) t.many is)

-- ---- its close

pub closing_is : {sc hands : _} (ear : Ear) {n epoch s : _} (st : NodeState) {slot q : ℕ} → (c : Setting sc hands n (moment sc hands n) s slot q) → st.epoch ≡ epoch
    → closing sc ear st (epoch + (moment sc hands n).window * sc.plan.l) (sc.plan.l - 1) ≡ outcome_at sc hands ear n epoch st slot q
closing_is {sc} {hands} ear {n} {epoch} st {slot} {q} c epoch_is =
    ap (λ x. close_window sc.sizes sc.plan Biu 16 st x (of_source (collected sc.sizes ear.heard first (sc.plan.l - 1 + 1)))) here
    ∙ ap (λ k. close_window sc.sizes sc.plan Biu 16 st own (of_source (collected sc.sizes ear.heard first k))) (let e : sc.plan.l - 1 + 1 ≡ sc.plan.l = omega (arith, some) in e)
    ∙ ap (λ f. close sc.sizes Biu 16 st slot (q + 1) f (sense_at sc hands ear n epoch st slot q)) (at.first_is Biu st)
  where
    w : ℕ
    w = (moment sc hands n).window

    first : ℕ
    first = epoch + (moment sc hands n).window * sc.plan.l

    below : (moment sc hands n).window < 3 * sync_slot_of sc.sizes
    below = before-sync c

    some : 1 ≤ sc.plan.l
    some = c.law.plan.l.0

    ws : Windows sc (moment sc hands n) slot (q + 1)
    ws = exact_windows sc (moment sc hands n) slot q c.below c.small c.at

    at : IsAt sc (moment sc hands n) slot (q + 1) (exact_windows sc (moment sc hands n) slot q c.below c.small c.at) ((moment sc hands n).window * sc.plan.l) sc.plan.l
    at = exact_at q ws c.below c.small c.at

    own : Window
    own = record { slot = slot; stage = q + 1; first = ws.first Biu st; last = ws.last Biu st }

    t : Ticks sc st (moment sc hands n).window
    t = ticks_are sc st w below some

    same : st.epoch + first_of sc.sizes sc.plan Biu st (moment sc hands n).window
        + (last_of sc.sizes sc.plan Biu st (moment sc hands n).window - first_of sc.sizes sc.plan Biu st (moment sc hands n).window)
        ≡ epoch + (moment sc hands n).window * sc.plan.l + (sc.plan.l - 1)
    same = omega (arith, t.first, t.many, epoch_is)

    here : window_here sc.sizes sc.plan Biu st (epoch + (moment sc hands n).window * sc.plan.l + (sc.plan.l - 1)) ≡ own
    here =
        ap (window_here sc.sizes sc.plan Biu st) (sym same) ∙ closes_there sc.sizes st w (has_ticks c.law) (omega (arith, below)) t.some ∙ ws.are Biu st

-- a stage below the sync slot keeps no middle
pub exact_keeps : (sizes : Sizes) (plan : Plan) (st : NodeState) (slot stage : ℕ) (sense : ℕ → Sense) → new_epoch_of plan Biu (close_exact sizes Biu 16 st slot stage sense).state ≡ new_epoch_of plan Biu st
unfolding close_exact outcome_of
exact_keeps sizes plan st slot stage sense = refl

keeps_middle : (sizes : Sizes) (plan : Plan) (st : NodeState) (slot stage first : ℕ) (sense : ℕ → Sense) → slot < sync_slot_of sizes
    → new_epoch_of plan Biu (close sizes Biu 16 st slot stage first sense).state ≡ new_epoch_of plan Biu st
keeps_middle sizes plan st slot stage first sense below =
    ap (λ x. new_epoch_of plan Biu x.state) (go (slot == sync_slot_of sizes) (less-differs slot (sync_slot_of sizes) below)) ∙ exact_keeps sizes plan st slot stage sense
  where
    go : (b : Bool) → b ≡ false
        → (elim b as (λ _. Outcome) [ true ↦ close_sync sizes Biu st stage (st.epoch + first) sense | false ↦ close_exact sizes Biu 16 st slot stage sense ])
        ≡ close_exact sizes Biu 16 st slot stage sense
    go true h = cc
    go false h = refl

-- ---- the step

-- with the last tick of the window the listener closes it, keeps up with the bus, and stands before
-- the tick after it
pub record GoesThrough (sc : Scenario) (hands : List HandIn) (ear : Ear) (n epoch : ℕ) (before st : NodeState) (slot q : ℕ) : Type 0 where
  pub core : Core
  pub here : listening_at sc ear (epoch + (moment sc hands n).window * sc.plan.l + (sc.plan.l - 1)) ≡ now.Following core
  pub state : core.state ≡ state_before before st (sc.plan.l - 1)
  pub closed : (follow sc.sizes sc.plan core).closed ≡ Some (outcome_at sc hands ear n epoch st slot q).closed
  pub stands : Stands sc ear (outcome_at sc hands ear n epoch st slot q).state (suc (epoch + (moment sc hands n).window * sc.plan.l + (sc.plan.l - 1)))
  pub tracks : Tracks sc (next sc (moment sc hands n)) (outcome_at sc hands ear n epoch st slot q).state
  pub epoch_is : (outcome_at sc hands ear n epoch st slot q).state.epoch ≡ epoch
  pub unknown : new_epoch_of sc.plan Biu (outcome_at sc hands ear n epoch st slot q).state ≡ None

-- `IsWatched` holds in the window
pub watched : {sc hands ear n epoch low s slot q before st : _} → Abides sc hands ear n epoch low s before st
    → (c : Setting sc hands n (moment sc hands n) s slot q) → {seen : _} → IsPremise sc hands ear n epoch st slot q seen
    → epoch + (moment sc hands n).window * sc.plan.l + sc.plan.l ≤ ear.ticks
    → IsWatched sc (moment sc hands n) slot q st (sense_at sc hands ear n epoch st slot q) seen
watched {st} a c p in_time = record {
  most = p.most;
  tracks = a.tracks;
  senses = senses_exact a.beside c st (held c a.tracks).frame in_time;
  none = p.none;
  saw = p.saw;
}

pub goes_through : {sc hands ear n epoch low s slot q before st : _} → Abides sc hands ear n epoch low s before st
    → (c : Setting sc hands n (moment sc hands n) s slot q) → {seen : _} → IsPremise sc hands ear n epoch st slot q seen
    → epoch + (moment sc hands n).window * sc.plan.l + sc.plan.l ≤ ear.ticks
    → GoesThrough sc hands ear n epoch before st slot q
goes_through {sc} {hands} {ear} {n} {epoch} {slot} {q} {before} {st} a c p in_time =
    let first : ℕ = epoch + (moment sc hands n).window * sc.plan.l in
    let below : (moment sc hands n).window < 3 * sync_slot_of sc.sizes = before-sync c in
    let x : ClosesWindow sc ear before st first (sc.plan.l - 1) = closes_window (window_at a below in_time) a.stands in
    let is : closing sc ear st first (sc.plan.l - 1) ≡ outcome_at sc hands ear n epoch st slot q = closing_is ear st c a.epoch_is in
    record {
      core = x.core;
      here = x.here;
      state = x.state;
      closed = x.closed ∙ ap (λ o. Some o.closed) is;
      stands = subst (λ o. Stands sc ear o.state (suc (first + (sc.plan.l - 1)))) is x.stands;
      tracks = tracks_after ((moment sc hands n).window * sc.plan.l) c
          (watched a c p in_time);
      epoch_is = (close-stays sc.sizes Biu 16 st slot (q + 1) ((moment sc hands n).window * sc.plan.l) (sense_at sc hands ear n epoch st slot q)).epoch ∙ a.epoch_is;
      unknown = keeps_middle sc.sizes sc.plan st slot (q + 1) ((moment sc hands n).window * sc.plan.l) (sense_at sc hands ear n epoch st slot q) c.below ∙ a.unknown;
    }
