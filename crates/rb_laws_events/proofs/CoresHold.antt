-- For the law that cores are those of the rounds: it holds in every world before the breaking
-- stage.
use Rattle.std.proofs.{Common.{◌≡◌, ℕ, suc, ◌+◌, ◌*◌, ◌-◌, ◌%◌, ◌<◌, ◌==◌, nat_lt, Bool, true, false, refl, ap, sym, ◌∙◌, subst, arith, inl, inr, List, [], ◌∷◌, ◌++◌, Option, Some, None, slice_get, is_some, if◌then◌else◌}, lemmas.Bool.{cases_lt, eqb-true, lt-ltb}}
use Rattle.rb_base.specs.{Nodes.Side.Biu, Sizes.sync_slot_of, declared.values.Place.Place}
use Rattle.rb_base.proofs.Plain.{true-false}
use Rattle.rb_rules.specs.{declared.cause.Cause.Cause, declared.plan.Window.Window, Book.{Begun, Book, Each, Row, after_verdict, frame_records, judged_of, with_end, with_frame, with_stage}, Book.Milestone.{Begin, End, Stage}, Book.Record.Ended, Goodness.Scenario, Hearing.port_at, Judging.{JudgedStage, verdict_of}, Lawful.IsLawful, Ports.HandIn, Rounds.{Moment, after_window, begin_frame, book_after, moment, step, windows_in}, Windows.windows_of_frame, WorldStep.{Site, World}}
use Rattle.rb_rules.proofs.Books.{moments-on, stepped}
use Rattle.rb_laws_agreement.proofs.{Places.running_earlier, ExactAgrees.has_ticks}
use Rattle.rb_laws_events.specs.{Closing.stages_in, OwnMoments.{CoresAreThoseOfTheRounds, HoldsTheRounds, HoldsTheState, IsBeforeTheBreak, RunningNode}}
use Rattle.rb_laws_events.proofs.{Behind.settled-next, BreakNodes.BreaksAt, CoreStates.{IsThere, StandsIn, is-there}, EventsHold.{any, nodes_at}, EveryWorld.{AnyWorld, InRun}, MomentBooks.{number-of, place_at}, OneTake.StandsInRounds, RoundNodes.slot_numbered, SettlingFrames.{IsOfMoment, RunsIn, runs-in}, WorldStands.{IsDown, IsUp, sent_by}}

-- Worlds in the run.

-- a node that runs stands in its own moment
up-in : {sc w : _} → IsLawful sc → (h : StandsInRounds sc w) → {me : _} (node : RunningNode w me)
    → IsThere sc w.hands me node.index (h.at me node.index) node.site.core
up-in {sc} {w} lawful h {me} node =
    let i : ℕ = node.index in
    let s : Site = node.site in
    let up : IsUp sc w.hands (sent_by sc w.hands h.at w.sites) h.now me i (h.at me i) s = h.stands.sites.up me i s node.there node.runs in
    let stands : StandsIn sc w.hands me i (h.at me i) s.core up.st up.a.tick = record {
      state = up.stands.state;
      good = up.stands.good;
      stands = up.stands.stands;
      from = up.stands.from;
      later = up.stands.receives.is_next.later;
    } in
    is-there (has_ticks lawful) stands

pub run-holds : {sc w : _} → IsLawful sc → StandsInRounds sc w → HoldsTheRounds sc w
run-holds {sc} {w} lawful h = record {
  cores = λ me node.
      let there : IsThere sc w.hands me node.index (h.at me node.index) node.site.core = up-in lawful h node in
      subst (λ (m : Moment). HoldsTheState sc m me node.index node.site.core) (sym there.moment_is) there.holds;
  ports = λ node.
      let there : IsThere sc w.hands Biu node.index (h.at Biu node.index) node.site.core = up-in lawful h node in
      h.stands.ports node.index node.site node.there node.runs ∙ ap (λ (m : Moment). port_at sc m.ports node.index) (sym there.moment_is);
  pending = λ me i s there runs.
      let up : IsUp sc w.hands (sent_by sc w.hands h.at w.sites) h.now me i (h.at me i) s = h.stands.sites.up me i s there runs in
      ap is_some up.stands.receives.pends;
  stopped = λ me i s there off.
      let down : IsDown sc w.hands me i (h.at me i) s = h.stands.sites.down me i s there off in
      down.stopped;
}

-- Worlds before the breaking stage.

-- a stage with which the run ends stays the first that is not settled

verdict-stays : (sc : Scenario) (place : Place) (rows : Each (Option Row)) (stages : List JudgedStage) (b : Book) (v : Option Cause)
    → (after_verdict sc.sizes place rows stages b v).ended ≡ true → (after_verdict sc.sizes place rows stages b v).upcoming ≡ b.upcoming
verdict-stays sc place rows stages b None h = true-false (sym h)
verdict-stays sc place rows stages b (Some cause) h = refl

stage-stays : (sc : Scenario) (place : Place) (rows : Each (Option Row)) (b : Book) → (with_stage sc place rows b).ended ≡ true → (with_stage sc place rows b).upcoming ≡ b.upcoming
unfolding with_stage
stage-stays sc place rows b = by b.ended
  where
    stages : List JudgedStage
    stages = judged_of sc place rows ∷ b.stages

    by : (e : Bool) → (elim e as (λ _. Book) [ true ↦ b | false ↦ after_verdict sc.sizes place rows stages b (verdict_of stages) ]).ended ≡ true
        → (elim e as (λ _. Book) [ true ↦ b | false ↦ after_verdict sc.sizes place rows stages b (verdict_of stages) ]).upcoming ≡ b.upcoming
    by true h = refl
    by false h = verdict-stays sc place rows stages b (verdict_of stages) h

window-stays : (sc : Scenario) (frame : ℕ) (o : Option Window) (rows : Each (Option Row)) (b : Book) → (book_after sc frame o rows b).ended ≡ true → (book_after sc frame o rows b).upcoming ≡ b.upcoming
window-stays sc frame None rows b h = refl
window-stays sc frame (Some w) rows b h = stage-stays sc (record { frame = frame; slot = w.slot; stage = w.stage }) rows b h

frame-stays : (sc : Scenario) (frame : ℕ) (begun : List Begun) (b : Book) → (with_frame sc frame begun b).ended ≡ true → (with_frame sc frame begun b).upcoming ≡ b.upcoming
unfolding with_frame
frame-stays sc frame begun b = by b.ended
  where
    next : Book
    next = record {
      upcoming = if frame == sc.frames then End else Stage (record { frame = frame; slot = 0; stage = 1 });
      stages = [];
      lines = [];
      given = b.given ++ frame_records frame begun;
      ended = false;
    }

    by : (e : Bool) → (elim e as (λ _. Book) [ true ↦ b | false ↦ next ]).ended ≡ true → (elim e as (λ _. Book) [ true ↦ b | false ↦ next ]).upcoming ≡ b.upcoming
    by true h = refl
    by false h = true-false (sym h)

end-stays : (b : Book) → (with_end b).upcoming ≡ b.upcoming
end-stays b = by b.ended
  where
    by : (e : Bool) → (elim e as (λ _. Book) [ true ↦ b | false ↦ record b { given = b.given ++ Ended ∷ []; ended = true } ]).upcoming ≡ b.upcoming
    by true = refl
    by false = refl

stepped-stays : (sc : Scenario) (hands : List HandIn) (m : Moment) (over in_frame : Bool) → (stepped sc hands m over in_frame).book.ended ≡ true
    → (stepped sc hands m over in_frame).book.upcoming ≡ m.book.upcoming
unfolding after_window begin_frame
stepped-stays sc hands m true in_frame h = end-stays m.book
stepped-stays sc hands m false true h = window-stays sc m.frame (slice_get (windows_of_frame sc.sizes sc.plan) m.window) _ m.book h
stepped-stays sc hands m false false h = frame-stays sc (m.frame + 1) _ m.book h

step-stays : (sc : Scenario) (hands : List HandIn) (m : Moment) → (step sc hands m).book.ended ≡ true → (step sc hands m).book.upcoming ≡ m.book.upcoming
unfolding step
step-stays sc hands m h = stepped-stays sc hands m (m.frame == sc.frames) (nat_lt m.window (windows_in sc.sizes)) h

-- if the run breaks off with the window of moment `b`, the book waits for that stage
breaks-there : {sc hands : _} → IsLawful sc → {b q : ℕ} → BreaksAt sc hands b q → (moment sc hands b).book.upcoming ≡ Stage (place_at sc.sizes (moment sc hands b))
breaks-there {sc} {hands} lawful {b} {q} off =
    let small = off.small in
    let window = off.window in
    let stage : m.window < stages_in sc.sizes = omega (arith, small, window) in
    let runs : RunsIn sc m = runs-in sc hands b off.running in
    settled-next sc hands b off.running
    ∙ ap (λ t. if t then (if m.frame == sc.frames then End else Stage (place_at sc.sizes m)) else Begin (m.frame + 1)) (lt-ltb m.window (stages_in sc.sizes) stage)
    ∙ ap (λ t. if t then End else Stage (place_at sc.sizes m))
    (differs (m.frame == sc.frames) (λ e. let first : m.window ≡ 0 = runs.at_first (eqb-true m.frame sc.frames e) in sync-late first window))
  where
    m : Moment
    m = moment sc hands b

    sync-late : m.window ≡ 0 → m.window ≡ 3 * sync_slot_of sc.sizes + q → ⊥
    sync-late first window = let some = lawful.sizes.some_biu in absurd (omega (arith, first, window, some))

    differs : (t : Bool) → (t ≡ true → ⊥) → t ≡ false
    differs true h = absurd (h refl)
    differs false h = refl

-- a world that waits for the breaking stage is not before that stage
not-before : {P : Type 0} {sc : Scenario} (w : World) {b q : ℕ} → BreaksAt sc w.hands b q → w.book.upcoming ≡ Stage (place_at sc.sizes (moment sc w.hands b)) → IsBeforeTheBreak sc w → P
not-before {sc} w {b} off waits before =
    let m : Moment = moment sc w.hands b in
    let small = off.small in
    let window = off.window in
    let slot : slot_numbered sc.sizes m.window ≡ sync_slot_of sc.sizes = omega (arith, small, window) in
    let running = before (place_at sc.sizes m) waits slot in
    let number = number-of sc w.hands b in
    let is : m.frame * (windows_in sc.sizes + 1) + 3 * slot_numbered sc.sizes m.window + (m.window % 3 + 1 + 1) - 1 ≡ suc b =
    ap (λ slot. m.frame * (windows_in sc.sizes + 1) + 3 * slot + (m.window % 3 + 1 + 1) - 1) slot
    ∙ omega (arith, number.0, small, window) in
    true-false (sym off.ends ∙ sym (ap (λ n. (moment sc w.hands n).book.ended) is) ∙ running)

-- once the run has broken off the book stays as it was at the break
over-waits : {sc hands : _} → IsLawful sc → {b q book : _} → BreaksAt sc hands b q → IsOfMoment sc hands book → book.ended ≡ true → book.upcoming ≡ Stage (place_at sc.sizes (moment sc hands b))
over-waits lawful {b} off (inl fresh) ended = true-false (sym ended ∙ ap (λ (b : Book). b.ended) fresh)
over-waits {sc} {hands} lawful {b} off (inr of) ended =
    let g : ℕ = of.0 in
    elim (cases_lt b g) [
      | inr ge ↦ true-false (sym ended ∙ ap (λ (b : Book). b.ended) of.1 ∙ running_earlier sc hands g b ge off.running)
      | inl lt ↦
          let k : ℕ = g - suc b in
          let e : suc b + k ≡ g = omega (arith, lt) in
          let same : (moment sc hands (suc b + k)).book ≡ (moment sc hands (suc b)).book = (moments-on sc hands (suc b) k).over off.ends in
          ap (λ (b : Book). b.upcoming) (of.1 ∙ ap (λ n. (moment sc hands n).book) (sym e) ∙ same)
          ∙ step-stays sc hands (moment sc hands b) off.ends ∙ breaks-there lawful off
    ]

-- a world before the breaking stage is in the run
pub before-run : {sc : _} → IsLawful sc → {w : _} → AnyWorld sc (nodes_at sc) w → IsBeforeTheBreak sc w → InRun sc w
before-run lawful (inl run) before = run
before-run lawful {w} (inr (inl off)) before =
    let k = off.stands in not-before w k.off (ap (λ (b : Book). b.upcoming) k.is ∙ breaks-there lawful k.off) before
before-run lawful {w} (inr (inr over)) before = not-before w over.off (over-waits lawful over.off over.of over.ended) before

pub cores-hold : CoresAreThoseOfTheRounds
cores-hold sc lawful choices before = run-holds lawful (before-run lawful (any lawful choices) before).stands
