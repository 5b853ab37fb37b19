-- The law of record and replay: the node at the start of the run, at its end, and the text that
-- comes of both.
use Rattle.std.proofs.{Common.{◌≡◌, ℕ, zero, suc, ◌+◌, ◌*◌, ◌-◌, ◌%◌, ◌<◌, ◌≤◌, ◌==◌, ◌&&◌, ◌||◌, ◌⊎◌, not, nat_lt, Bool, true, false, List, [], ◌∷◌, ◌++◌, length, refl, ap, sym, ◌∙◌, subst, arith, inl, inr, Option, Some, None, is_some, slice_get, option_map, if◌then◌else◌}, lemmas.Bool.{cases_lt, eqb-true, lt-ltb}, lemmas.Bool.Decides.nat_tests, lemmas.List.append-nil, lemmas.Option.same_Some}
use Rattle.std.specs.Prelude.{flat_map}
use Rattle.rb_base.specs.{Nodes.Side, Sizes.sync_slot_of, declared.node.NodeName.NodeName, declared.values.Place.Place}
use Rattle.rb_rules.specs.{declared.cause.Cause.Cause, Judging.verdict_of, Book.{frame_records, judged_of}, Book.{Begun, Book, Each, Milestone, Record, Row, after_stage, after_verdict, map_each, of_kind, with_frame, with_stage}, Book.Milestone.{Begin, End, Stage}, Book.Record.Ended, Core.{Core, epoch_at, first_core}, Goodness.{Scenario, is_good}, Hearing.epoch_of, Lawful.{IsLawful, kind_of}, NodeState.NodeState, Rounds.{begin_frame, moment, records_of, windows_in}, Slots.count_of, WorldStep.{Due, Site, Timed, Way, World, book_with, begun_for, comes_so, due_of, first_world, fresh_site, go_on, happens, is_complete, proceed, record_since, settle, settle_next, take, take_if_due}, WorldStep.Way.{ByAnEvent, ByItself}}
use Rattle.rb_base.proofs.Plain.{and_second, true-false}
use Rattle.rb_rules.proofs.{Books.{GoesOn, moments-on, records-are}, WindowNumbers.{get-each, get-made}}
use Rattle.rb_log.specs.Writing.{given}
use Rattle.rb_report.specs.Report.{end_text}
use Rattle.rb_laws_events.specs.Closing.{stages_in}
use Rattle.rb_laws_events.proofs.{Behind.runs-there, FirstInRounds.first-in-rounds, FirstWorld.at_begin, Invariant.is_good_at, MomentBooks.{SettlesNext, next_of, settles-next}, NodeActs.HasRoom, OneEvent.WorldInRounds, OneTake.StandsInRounds, RoundNodes.{item-at, slot_numbered}, Settling.each-at, SettlingFrames.IsOfMoment, TickRooms.has-room, TickWindows.first_of, ToldInOrder.NodeTold, ToldSoFar.{PendsFirst, first-pends, proceed-core}, WorldBooks.happens-book, WorldNodes.next-sites, WorldStands.{IsUp, sent_by}}
use Rattle.rb_laws_agreement.proofs.Goodnesses.{good_counts}
use Rattle.rb_laws_logs.specs.{Given.{first_run, first_step, index_of, site_of, step_with}, Laws.{EndsWithoutBreach, IsGoodThroughout, ReplayIsTheReport, lines_after, report_of_node}, Replays.{epoch_lines, frames_in, frames_with, replay_text}}
use Rattle.rb_laws_logs.proofs.{Gathered.if_there, NoBreach.{IsLastBegin, goes-on, last-begin, last-book, last_moment, number-below, steps-are}, NodeLines.{lines-append, told_up_to}, NodeRun.{IsDone, NodeAt, StepSites, Underway, acts_so_far, step-sites}, NodeRun.StepSites.{Still, Taken}, NodeSites.{rises, Rises}, NodeSteps.{Here, here, node-step}, Positions.{StandsAt, stands-at}, RoundLines.{AreTold, are-told, good-moment, none-waits}, TickText.{Turns, now-begins, turns-now}, Worlds.{no-hands, worlds-in-run}}

-- At first.

first-core : (sc : Scenario) (me : Side) (i : ℕ) {s : _} → i < count_of me sc.sizes → slice_get (of_kind me (first_world sc).sites) i ≡ Some s → s.core ≡ first_core sc.sizes me
unfolding first_world
first-core sc me i {s} within there =
    let make : Side → ℕ → Site = λ me i. proceed sc me i (fresh_site sc.sizes me) in
    let same : make me i ≡ s = same_Some (make me i) s (sym (get-made sc.sizes make me i within) ∙ there) in
    ap (λ (z : Site). z.core) (sym same) ∙ proceed-core sc me i (fresh_site sc.sizes me)

moment-zero : (sc : Scenario) → (moment sc [] 0).frame ≡ 0
unfolding begin_frame
moment-zero sc = refl

node-first : {sc name : _} → IsLawful sc → EndsWithoutBreach sc → IsGoodThroughout sc name → NodeAt sc name 0
node-first {sc} {name} lawful none good =
    let me : Side = kind_of name in
    let i : ℕ = index_of name in
    let w : World = first_world sc in
    let room : HasRoom sc.plan = has-room lawful in
    let empty : w.hands ≡ [] = no-hands sc 0 in
    let world : WorldInRounds sc 0 at_begin w = first-in-rounds lawful room in
    let now_good : is_good_at sc (moment sc [] 0) me i ≡ true = good-moment sc name 0 good (goes-on sc none 0 (omega arith)) in
    let within : i < count_of me sc.sizes = good_counts sc me i (moment sc [] 0).frame (slot_numbered sc.sizes (moment sc [] 0).window) now_good in
    let many : length (of_kind me w.sites) ≡ count_of me sc.sizes = world.sites.counts me in
    let site = item-at (of_kind me w.sites) i (omega (arith, within, many)) in
    let s : Site = site.0 in
    let its_good : is_good_at sc (moment sc w.hands (at_begin me i)) me i ≡ true = subst (λ hs. is_good_at sc (moment sc hs (at_begin me i)) me i ≡ true) (sym empty) now_good in
    let runs : s.runs ≡ true = runs-there world.sites me i site.1 its_good in
    let up : IsUp sc [] (sent_by sc [] at_begin w.sites) 0 me i 0 s =
    subst (λ hs. IsUp sc hs (sent_by sc hs at_begin w.sites) 0 me i 0 s) empty (world.sites.up me i s site.1 runs) in
    let sent : Side → ℕ → ℕ → Bool = sent_by sc [] at_begin w.sites in
    let core : s.core ≡ first_core sc.sizes me = first-core sc me i within site.1 in
    let had : s.core.had ≡ 0 = ap (λ (c : Core). c.had) core in
    let from : up.st.epoch + first_of sc.sizes sc.plan me up.st (moment sc [] 0).window ≤ s.core.had = up.stands.from in
    let pends : PendsFirst sc [] me i 0 s = first-pends up.stands (omega (arith, had, from)) in
    let stands : StandsAt sc me i 0 s.core up.st up.a = stands-at room.ticks up.stands in
    let a_is : pends.a ≡ up.a = same_Some pends.a up.a (sym pends.ahead ∙ up.stands.receives.pends) in
    let st_is : pends.st ≡ up.st = same_Some pends.st up.st (sym pends.state ∙ stands.state) in
    let first : up.st.epoch ≡ up.a.tick = sym (ap (λ (z : NodeState). z.epoch) st_is) ∙ sym pends.first ∙ ap (λ (a : Timed). a.tick) a_is in
    let begins : epoch_at sc.sizes me up.st up.a.tick ≡ Some (epoch_of sc.sizes me up.st) = now-begins sc.sizes me up.st first in
    let zero_frame : up.st.frame ≡ 0 = stands.frame ∙ moment-zero sc in
    let frame : s.core.state.frame ≡ 0 = ap (λ (c : Core). c.state.frame) core in
    let some : 1 ≤ sc.frames = lawful.frames.0 in
    record {
      s = s;
      there = site.1;
      how = inl (record {
        p = 0;
        st = up.st;
        a = up.a;
        stands = stands;
        ahead = up.stands.receives.pends;
        lines = [];
        frames = 0;
        makes = record { core = sym core; lines_are = refl; frames_are = refl };
        told = ap (epoch_lines name) begins ∙ sym (ap (if_there (λ st. epoch_lines name (Some (epoch_of sc.sizes me st)))) stands.state);
        count = ap (λ o. 0 + frames_with o) begins ∙ ap (λ f. 0 + (if nat_lt 0 f then 1 else 0)) zero_frame ∙ sym (moment-zero sc);
        before = omega (arith, frame, some);
      });
    }

-- `NodeAt` holds in each world of the run
pub nodes-at : {sc name : _} → IsLawful sc → EndsWithoutBreach sc → IsGoodThroughout sc name → (n : ℕ) → NodeAt sc name n
nodes-at lawful none good zero = node-first lawful none good
nodes-at lawful none good (suc n) = node-step lawful none good (nodes-at lawful none good n)

-- At the end.

stage-end : (place : Place) → Stage place ≡ End → ⊥
stage-end place e = cc

begin-end : (frame : ℕ) → Begin frame ≡ End → ⊥
begin-end frame e = cc

-- the end comes next only after the start of the frame after the last
after-stage-not : (sc : Scenario) (place : Place) → after_stage sc.sizes place ≡ End → ⊥
after-stage-not sc place = by (nat_lt place.stage 3) (place.slot == sync_slot_of sc.sizes)
  where
    by : (a b : Bool) → (if a then Stage (record place { stage = place.stage + 1 }) else (if b then Begin (place.frame + 1) else Stage (record { frame = place.frame; slot = place.slot + 1; stage = 1 }))) ≡ End → ⊥
    by true b e = cc
    by false true e = cc
    by false false e = cc

stage-not : (sc : Scenario) (place : Place) (rows : Each (Option Row)) (b : Book) → b.upcoming ≡ Stage place → (with_stage sc place rows b).upcoming ≡ End → ⊥
unfolding with_stage
stage-not sc place rows b up = by b.ended (verdict_of (judged_of sc place rows ∷ b.stages))
  where
    by : (e : Bool) (v : Option Cause) → (elim e as (λ _. Book) [ true ↦ b | false ↦ after_verdict sc.sizes place rows (judged_of sc place rows ∷ b.stages) b v ]).upcoming ≡ End → ⊥
    by true v h = stage-end place (sym up ∙ h)
    by false (Some cause) h = stage-end place (sym up ∙ h)
    by false None h = after-stage-not sc place h

frame-end : (sc : Scenario) (frame : ℕ) (begun : List Begun) (b : Book) → b.upcoming ≡ Begin frame → (with_frame sc frame begun b).upcoming ≡ End → frame ≡ sc.frames
unfolding with_frame
frame-end sc frame begun b up = by b.ended (frame == sc.frames) refl
  where
    by : (e t : Bool) → (frame == sc.frames) ≡ t → (elim e as (λ _. Book) [
      | true ↦ b
      | false ↦ record {
        upcoming = if t then End else Stage (record { frame = frame; slot = 0; stage = 1 });
        stages = [];
        lines = [];
        given = b.given ++ frame_records frame begun;
        ended = false;
      }
    ]).upcoming ≡ End → frame ≡ sc.frames
    by true t is h = absurd (begin-end frame (sym up ∙ h))
    by false true is h = eqb-true frame sc.frames is
    by false false is h = absurd (stage-end _ h)

-- the end comes next before, or all have told of the start of the frame after the last
abbrev EndsNext : Scenario → World → Type 0
EndsNext sc w = (w.book.upcoming ≡ End) ⊎ (is_complete sc w.sites (Begin sc.frames) ≡ true)

next-end : (sc : Scenario) (way : Way) (w : World) → (settle_next sc way w).book.upcoming ≡ End → EndsNext sc w
next-end sc way w = by (comes_so sc way w.book.upcoming && is_complete sc w.sites w.book.upcoming) refl
  where
    settled : (m : Milestone) → w.book.upcoming ≡ m → is_complete sc w.sites m ≡ true → (book_with sc w.sites w.book m).upcoming ≡ End → EndsNext sc w
    settled (Begin frame) up complete h =
        let last : frame ≡ sc.frames = frame-end sc frame _ w.book up h in
        inr (subst (λ f. is_complete sc w.sites (Begin f) ≡ true) last complete)
    settled (Stage place) up complete h = absurd (stage-not sc place _ w.book up h)
    settled End up complete h = inl up

    by : (b : Bool) → (comes_so sc way w.book.upcoming && is_complete sc w.sites w.book.upcoming) ≡ b
        → (elim b as (λ _. World) [ true ↦ record w { book = book_with sc w.sites w.book w.book.upcoming } | false ↦ w ]).book.upcoming ≡ End → EndsNext sc w
    by true e h = settled w.book.upcoming refl (and_second (comes_so sc way w.book.upcoming) (is_complete sc w.sites w.book.upcoming) e) h
    by false e h = inl h

settle-end : (sc : Scenario) (way : Way) (n : ℕ) (w : World) → (settle sc way n w).book.upcoming ≡ End → EndsNext sc w
settle-end sc way zero w h = inl h
settle-end sc way (suc n) w h = by (settle-end sc way n (settle_next sc way w)) (record_since w (settle_next sc way w)) h
  where
    next : World
    next = settle_next sc way w

    before : EndsNext sc next → EndsNext sc w
    before (inl up) = next-end sc way w up
    before (inr complete) = inr (subst (λ sites. is_complete sc sites (Begin sc.frames) ≡ true) (next-sites sc way w) complete)

    by : ((settle sc way n next).book.upcoming ≡ End → EndsNext sc next) → (o : Option Record)
        → (elim o as (λ _. World) [ None ↦ settle sc way n next | Some r ↦ record next { turn = Some r } ]).book.upcoming ≡ End → EndsNext sc w
    by rest None h = before (rest h)
    by rest (Some r) h = next-end sc way w h

-- `EndsNext` holds if the end comes next after a step without an event
go-on-end : (sc : Scenario) (w : World) → (go_on sc w).book.upcoming ≡ End → EndsNext sc w
unfolding go_on
go-on-end sc w = by w.book.ended
  where
    by : (b : Bool) → (elim b as (λ _. World) [ true ↦ w | false ↦ settle sc ByItself 2 w ]).book.upcoming ≡ End → EndsNext sc w
    by true h = inl h
    by false h = settle-end sc ByItself 2 w h

take-end : (sc : Scenario) (w : World) {d : _} → slice_get (due_of sc w) 0 ≡ Some d → (take sc w 0).book.upcoming ≡ End → EndsNext sc (happens sc w d)
unfolding take
take-end sc w {d} first h = settle-end sc ByAnEvent 2 (happens sc w d) (ap (λ o. (take_if_due sc w o).book.upcoming) (sym first) ∙ h)

-- in a world where all good nodes have told of that start the node is in the frame
told-in : {sc name n : _} → IsLawful sc → EndsWithoutBreach sc → IsGoodThroughout sc name → (node : NodeAt sc name n)
    → is_complete sc (first_run sc n).sites (Begin sc.frames) ≡ true → sc.frames ≤ node.s.core.state.frame
told-in {sc} {name} {n} lawful none good node complete = by node.how
  where
    me : Side
    me = kind_of name

    i : ℕ
    i = index_of name

    w : World
    w = first_run sc n

    s : Site
    s = node.s

    h : StandsInRounds sc w
    h = (worlds-in-run lawful none n).stands

    has : Side → ℕ → Site → Bool
    has me i s = not (is_good sc me i sc.frames 0) || is_some (begun_for sc.frames s.begun)

    told : has me i s ≡ true
    told = each-at (map_each has w.sites) me i complete (get-each has w.sites me i ∙ ap (option_map (has me i)) node.there)

    begun : is_some (begun_for sc.frames s.begun) ≡ true
    begun = ap (λ b. not b || is_some (begun_for sc.frames s.begun)) (sym good) ∙ told

    found : (o : Option Begun) → s.begun ≡ o → is_some (begun_for sc.frames o) ≡ true → (b : Begun) × ((s.begun ≡ Some b) × (b.frame ≡ sc.frames))
    found None e h = cc
    found (Some b) e h = (b, (e, at (b.frame == sc.frames) refl h))
      where
        at : (t : Bool) → (b.frame == sc.frames) ≡ t → is_some (elim t as (λ _. Option Begun) [ true ↦ Some b | false ↦ None ]) ≡ true → b.frame ≡ sc.frames
        at true f g = eqb-true b.frame sc.frames f
        at false f g = cc

    its : (b : Begun) × ((s.begun ≡ Some b) × (b.frame ≡ sc.frames))
    its = found s.begun refl begun

    by : Underway sc name n s ⊎ IsDone sc name n s → sc.frames ≤ s.core.state.frame
    by (inr over) = over.after
    by (inl u) =
        let room : HasRoom sc.plan = has-room lawful in
        let place : Here sc name w h s u.p u.st u.a = here name h room.ticks (no-hands sc n) node.there u.stands u.ahead in
        let tells : NodeTold sc [] me i u.p s = subst (λ q. NodeTold sc [] me i q s) place.is (subst (λ hs. NodeTold sc hs me i (h.at me i) s) (no-hands sc n) (h.stands.told me i s node.there)) in
        let early : its.0.frame * (windows_in sc.sizes + 1) ≤ u.p = tells.begun its.0 its.1.0 in
        let same : its.0.frame * (windows_in sc.sizes + 1) ≡ last_moment sc = ap (λ f. f * (windows_in sc.sizes + 1)) its.1.1 in
        let from : sc.frames ≤ (moment sc [] u.p).frame = elim (cases_lt (moment sc [] u.p).frame sc.frames) [
          | inl lt ↦ let below : u.p < last_moment sc = number-below sc u.p lt in absurd (omega (arith, early, same, below))
          | inr ge ↦ ge
        ] in
        let turns : Turns sc u.p sc.frames u.st u.a = turns-now sc.frames room.ticks u.stands u.before from in
        let past : u.st.epoch < u.a.tick = tells.fresh its.0 u.a u.st its.1.0 (its.1.1 ∙ sym turns.in_frame) turns.window u.ahead u.stands.state in
        let now : u.st.epoch ≡ u.a.tick = turns.first in
        absurd (omega (arith, past, now))

some-none : {X : Type 0} {x : X} → Some x ≡ None → ⊥
some-none e = cc

-- the node is in the frame after the last, as it must be when the end comes next
abbrev IsIn : Scenario → NodeName → World → Type 0
IsIn sc name w = (s : Site) → site_of name w ≡ Some s → sc.frames ≤ s.core.state.frame

step-ends : {sc : _} (name : NodeName) → IsLawful sc → EndsWithoutBreach sc → IsGoodThroughout sc name → {n : ℕ} → ((first_run sc n).book.upcoming ≡ End → IsIn sc name (first_run sc n))
    → {ds : _} → due_of sc (first_run sc n) ≡ ds → (step_with sc (first_run sc n) ds).book.upcoming ≡ End → StepSites sc n → IsIn sc name (first_run sc (suc n))
step-ends {sc} name lawful none good {n} before {ds} e h step = by ds e h step
  where
    w : World
    w = first_run sc n

    complete_then : is_complete sc (first_run sc (suc n)).sites (Begin sc.frames) ≡ true → IsIn sc name (first_run sc (suc n))
    complete_then complete s there =
        let next : NodeAt sc name (suc n) = nodes-at lawful none good (suc n) in
        let same : next.s ≡ s = same_Some next.s s (sym next.there ∙ there) in
        subst (λ (s : Site). sc.frames ≤ s.core.state.frame) same (told-in lawful none good next complete)

    by : (ds : List Due) → due_of sc w ≡ ds → (step_with sc w ds).book.upcoming ≡ End → StepSites sc n → IsIn sc name (first_run sc (suc n))
    by [] e h (Still nothing same) = elim (go-on-end sc w h) [
      | inl up ↦ λ s there. before up s (ap (λ sites. slice_get (of_kind (kind_of name) sites) (index_of name)) (sym same) ∙ there)
      | inr complete ↦ complete_then (subst (λ sites. is_complete sc sites (Begin sc.frames) ≡ true) (sym same) complete)
    ]
    by [] e h (Taken d first is) = absurd (some-none (sym first ∙ ap (λ ds. slice_get ds 0) e))
    by (x ∷ ds) e h (Still nothing same) = absurd (some-none (sym (ap (λ ds. slice_get ds 0) e) ∙ nothing))
    by (x ∷ ds) e h (Taken d first is) = elim (take-end sc w first h) [
      | inr complete ↦ complete_then (subst (λ sites. is_complete sc sites (Begin sc.frames) ≡ true) (sym is) complete)
      | inl up ↦ λ s there.
          let node : NodeAt sc name n = nodes-at lawful none good n in
          let was : sc.frames ≤ node.s.core.state.frame = before (sym (ap (λ (b : Book). b.upcoming) (happens-book sc w d)) ∙ up) node.s node.there in
          let risen : Rises sc w d (kind_of name) (index_of name) node.s = rises sc w d (kind_of name) (index_of name) node.there in
          let same : risen.z ≡ s = same_Some risen.z s (sym risen.there ∙ ap (λ sites. slice_get (of_kind (kind_of name) sites) (index_of name)) (sym is) ∙ there) in
          let more : node.s.core.state.frame ≤ risen.z.core.state.frame = risen.frame in
          subst (λ (s : Site). sc.frames ≤ s.core.state.frame) same (omega (arith, was, more))
    ]

ends-after : {sc : _} (name : NodeName) → IsLawful sc → EndsWithoutBreach sc → IsGoodThroughout sc name → (n : ℕ) → (first_run sc n).book.upcoming ≡ End → IsIn sc name (first_run sc n)
unfolding first_world first_step
ends-after name lawful none good zero h = absurd (begin-end 0 h)
ends-after {sc} name lawful none good (suc n) h =
    step-ends name lawful none good (ends-after name lawful none good n) refl h (step-sites sc n)

-- a run that has ended waits for the end
settles-at : (sc : Scenario) (p : ℕ) → (moment sc [] p).book.ended ≡ false → (moment sc [] p).book.upcoming ≡ next_of sc (moment sc [] p).frame (moment sc [] p).window
unfolding SettlesNext
settles-at sc p = settles-next sc [] p

end-next : (sc : Scenario) → EndsWithoutBreach sc → (moment sc [] (suc (last_moment sc))).book.upcoming ≡ End
end-next sc none =
    let p : ℕ = last_moment sc in
    let begin : IsLastBegin sc p = last-begin sc in
    ap (λ (b : Book). b.upcoming) (last-book sc none) ∙ settles-at sc p (goes-on sc none p (omega arith))
    ∙ ap (λ f. next_of sc f (moment sc [] p).window) begin.frame ∙ ap (next_of sc sc.frames) begin.window
    ∙ ap (λ b. if b then (if sc.frames == sc.frames then End else Stage (record { frame = sc.frames; slot = slot_numbered sc.sizes 0; stage = 0 % 3 + 1 })) else Begin (sc.frames + 1)) (lt-ltb 0 (stages_in sc.sizes) (omega arith))
    ∙ ap (λ b. if b then End else Stage (record { frame = sc.frames; slot = slot_numbered sc.sizes 0; stage = 0 % 3 + 1 })) (same-is sc.frames)
  where
    same-is : (a : ℕ) → (a == a) ≡ true
    same-is a = grind (arith, nat_tests)

ended-next : (sc : Scenario) → EndsWithoutBreach sc → {b : _} → IsOfMoment sc [] b → b.ended ≡ true → b.upcoming ≡ End
ended-next sc none {b} (inl fresh) h = true-false (sym h ∙ ap (λ (b : Book). b.ended) fresh)
ended-next sc none {b} (inr at) h =
    let g : ℕ = at.0 in
    let p : ℕ = suc (last_moment sc) in
    elim (cases_lt (last_moment sc) g) [
      | inr le ↦ true-false (sym h ∙ ap (λ (b : Book). b.ended) at.1 ∙ goes-on sc none g le)
      | inl past ↦
          let k : p + (g - p) ≡ g = omega (arith, past) in
          let on : GoesOn (moment sc [] p).book (moment sc [] (p + (g - p))).book = moments-on sc [] p (g - p) in
          let same : (moment sc [] (p + (g - p))).book ≡ (moment sc [] p).book = on.over (ap (λ (b : Book). b.ended) (last-book sc none)) in
          ap (λ (b : Book). b.upcoming) (at.1 ∙ sym (ap (λ n. (moment sc [] n).book) k) ∙ same) ∙ end-next sc none
    ]

-- the node is done at the end
pub done-at : {sc name : _} → IsLawful sc → EndsWithoutBreach sc → IsGoodThroughout sc name → (n : ℕ) → (first_run sc n).book.ended ≡ true → (s : Site) × IsDone sc name n s
done-at {sc} {name} lawful none good n ended =
    let node : NodeAt sc name n = nodes-at lawful none good n in
    let w : World = first_run sc n in
    let of : IsOfMoment sc [] w.book = subst (λ hs. IsOfMoment sc hs w.book) (no-hands sc n) (worlds-in-run lawful none n).stands.stands.book in
    let after : sc.frames ≤ node.s.core.state.frame = ends-after name lawful none good n (ended-next sc none of ended) node.s node.there in
    (node.s, elim node.how [ inl u ↦ (let before : node.s.core.state.frame < sc.frames = u.before in absurd (omega (arith, before, after))) | inr over ↦ over ])

-- The text.

report-text : {sc : _} (name : NodeName) → IsLawful sc → EndsWithoutBreach sc → IsGoodThroughout sc name
    → report_of_node name (records_of sc []) ≡ told_up_to sc name (last_moment sc) ++ end_text sc.frames
report-text {sc} name lawful none good =
    let p : ℕ = last_moment sc in
    let given : List Record = (moment sc [] p).book.given in
    let begin : IsLastBegin sc p = last-begin sc in
    let told : AreTold sc name p = are-told (has-room lawful).ticks good p (goes-on sc none p (omega arith)) in
    let records : records_of sc [] ≡ given ++ Ended ∷ [] =
    records-are sc [] ∙ ap (λ n. (moment sc [] n).book.given) (steps-are sc) ∙ ap (λ (b : Book). b.given) (last-book sc none) in
    ap (report_of_node name) records ∙ lines-append name 0 given (Ended ∷ [])
    ∙ ap (λ n. lines_after name 0 given ++ (end_text n ++ [])) (told.newest ∙ begin.frame)
    ∙ ap (λ l. lines_after name 0 given ++ l) (append-nil (end_text sc.frames))
    ∙ ap (λ l. l ++ end_text sc.frames) (sym (append-nil (lines_after name 0 given)) ∙ ap (λ l. lines_after name 0 given ++ l) (sym (none-waits sc name (moment sc [] p) begin.window)) ∙ told.lines)

pub replay-is-the-report : ReplayIsTheReport
unfolding replay_text
replay-is-the-report sc lawful none name good events are =
    let done = done-at lawful none good are.steps are.over in
    ap (λ events. replay_text sc.sizes sc.plan name (flat_map given events)) are.all
    ∙ ap (λ l. l ++ end_text (frames_in (acts_so_far sc name are.steps))) done.1.told
    ∙ ap (λ n. told_up_to sc name (last_moment sc) ++ end_text n) done.1.count
    ∙ sym (report-text name lawful none good)
