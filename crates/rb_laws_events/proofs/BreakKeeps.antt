-- For the law that events are rounds: the nodes of a world in which the run breaks off in a sync
-- slot keep what is asked of them, if each that has told its row goes on by a course of the stage.
use Rattle.std.proofs.{Common.{◌≡◌, ℕ, ◌<◌, ◌≤◌, ◌⊎◌, Bool, true, List, [], ap, sym, ◌∙◌, subst, arith, inl, inr, Option, Some, None}, lemmas.Option.same_Some}
use Rattle.rb_base.specs.{Nodes.{Side, other}}
use Rattle.rb_base.proofs.Plain.{none_and_some, true-false}
use Rattle.rb_rules.specs.{declared.message.Message.Message, Clock.time_of, Core.Act, Goodness.{Scenario, clock_of}, Hearing.{coming_of}, Lawful.IsLawful, Ports.{HandIn, PortState}, Rounds.{Moment, moment, window_in}, Slots.{same_side}, WorldStep.{Site, Timed, after_act, after_arrival, pass_and_tick}}
use Rattle.rb_laws_events.specs.Closing.{stages_in}
use Rattle.rb_laws_events.proofs.{BreakBegins.break-begins, BreakEnters.TickBreaks, BreakMessages.{act-same, every-left, message-comes, site-comes, told-same}, BreakNodes.{BreaksAt, KeepsNodes, TellsStage, WaitsLast}, BreakSites.{ArrivalsKeep, Course, HasStopped, HasTold, NodesBreak, SiteBreaks, WaitsAhead, WaitsDeaf, WaitsHearing}, FewQuiet.{deaf-quiet, hearing-quiet}, Invariant.{entry_of, is_good_at, word_at}, MomentBooks.place_at, NodeActs.{HasRoom, HasWord}, RoundNodes.moments-stand, SameHeard.Every, TailTicks.none-some, Telling.{place-is, row-place}, ToldInOrder.one-changes}

-- how nodes go on by the course `C` if the run breaks off with stage q: a node tells its row with
-- its last tick of the stage; what one that has told it says comes to those that wait after their
-- last tick
pub record TellsOn (sc : Scenario) (q : ℕ) (C : Course) : Type 0 where
  pub ahead : (hands : List HandIn) (b : ℕ) (me : Side) (i : ℕ) (s : Site) (a : Timed) → HasTold sc hands C me i b s → s.ahead ≡ Some a → (s.core.had ≤ a.tick) × (a.time ≡ time_of (clock_of sc me i) a.tick)
  pub arrives : ArrivalsKeep sc C
  pub hears : (hands : List HandIn) (b : ℕ) → BreaksAt sc hands b q → (sent : Side → ℕ → ℕ → Bool) (now : ℕ) (ports : List PortState) (me : Side) (i : ℕ) (s : Site) → (h : WaitsHearing sc hands sent now me i b s)
      → h.st.frame ≡ (moment sc hands b).frame
      → ((j : ℕ) → is_good_at sc (moment sc hands b) (other me) j ≡ true → (sent (other me) j b ≡ true) ⊎ (entry_of sc (moment sc hands b) me i j ≡ []))
      → HasWord sc ports me i h.st (moment sc hands b).window (word_at sc (moment sc hands b) me i h.st) → Every (λ c. h.a.time < c.time) s.coming
      → HasTold sc hands C me i b (after_act sc ports me i (pass_and_tick sc ports me i h.a.tick s.core) s)
  pub deaf : (hands : List HandIn) (b : ℕ) → BreaksAt sc hands b q → (ports : List PortState) (me : Side) (i : ℕ) (s : Site) → (h : WaitsDeaf sc hands me i b s)
      → HasWord sc ports me i h.st (moment sc hands b).window (word_at sc (moment sc hands b) me i h.st)
      → HasTold sc hands C me i b (after_act sc ports me i (pass_and_tick sc ports me i h.a.tick s.core) s)
  pub ticks : (hands : List HandIn) (b : ℕ) → BreaksAt sc hands b q → (sent : Side → ℕ → ℕ → Bool) (ports : List PortState) (me : Side) (i : ℕ) (s : Site) (a : Timed) → TickBreaks sc hands sent ports b me i s a
      → HasTold sc hands C me i b s → HasTold sc hands C me i b (after_act sc ports me i (pass_and_tick sc ports me i a.tick s.core) s)
  pub late : (hands : List HandIn) (b : ℕ) → BreaksAt sc hands b q → (sent : Side → ℕ → ℕ → Bool) (ports : List PortState) (me : Side) (i : ℕ) (s : Site) (a : Timed) → TickBreaks sc hands sent ports b me i s a
      → HasTold sc hands C me i b s → (frame : ℕ) (side : Side) (n : ℕ) (z : Site) (w : WaitsAhead sc hands sent side n b z) → same_side side (other me) ≡ true
      → (msg : Message) → (pass_and_tick sc ports me i a.tick s.core).message ≡ Some msg → w.waits.a.time < (coming_of sc side n i frame (record { tick = a.tick; message = msg })).time

-- A due tick.

-- after its due tick a node has told its row of the stage
pub site-ticks : {sc q : _} (C : Course) → TellsOn sc q C → {hands b : _} → BreaksAt sc hands b q → {sent ports me i s a : _}
    → TickBreaks sc hands sent ports b me i s a → SiteBreaks sc hands C sent b me i s → HasTold sc hands C me i b (after_act sc ports me i (pass_and_tick sc ports me i a.tick s.core) s)
site-ticks C its off {s} {a} t (inl stopped) = none_and_some a s.ahead stopped.ahead t.pend
site-ticks {sc} C its {hands} {b} off {sent} {ports} {me} {i} {s} {a} t (inr (inl h)) =
    let same : h.waits.a ≡ a = same_Some h.waits.a a (sym h.waits.stands.receives.pends ∙ t.pend) in
    let base : Site = record s { coming = h.mine } in
    let later : Every (λ c. h.waits.a.time < c.time) s.coming = subst (λ (b : Timed). Every (λ c. b.time < c.time) s.coming) (sym same) t.later in
    subst (λ (y : Timed). HasTold sc hands C me i b (after_act sc ports me i (pass_and_tick sc ports me i y.tick s.core) s)) same
    (told-same C
    (act-same sc ports me i (pass_and_tick sc ports me i h.waits.a.tick s.core) s h.mine)
    (its.hears hands b off sent h.now ports me i base h.waits (t.frame h.waits.st h.waits.stands.state h.waits.stands.good) t.all_sent (t.words h.waits.st h.waits.stands.state)
    (every-left (λ c. h.waits.a.time < c.time) h.mine h.more (subst (Every (λ c. h.waits.a.time < c.time)) h.is later))))
site-ticks {sc} C its {hands} {b} off {ports} {me} {i} {s} {a} t (inr (inr (inl h))) =
    let same : h.a ≡ a = same_Some h.a a (sym h.pends ∙ t.pend) in
    subst (λ (y : Timed). HasTold sc hands C me i b (after_act sc ports me i (pass_and_tick sc ports me i y.tick s.core) s)) same (its.deaf hands b off ports me i s h (t.words h.st h.state))
site-ticks C its {hands} {b} off {sent} {ports} {me} {i} {s} {a} t (inr (inr (inr h))) = its.ticks hands b off sent ports me i s a t h

-- what a node says with its due tick comes to those that wait after their last tick
ticks-late : {sc q : _} (C : Course) → TellsOn sc q C → IsLawful sc → HasRoom sc.plan → {hands b : _} → BreaksAt sc hands b q → {sent ports : _}
    → {me i s a : _} → TickBreaks sc hands sent ports b me i s a → SiteBreaks sc hands C sent b me i s
    → (frame : ℕ) {side n z : _} (w : WaitsAhead sc hands sent side n b z) → same_side side (other me) ≡ true
    → {msg : _} → (pass_and_tick sc ports me i a.tick s.core).message ≡ Some msg → w.waits.a.time < (coming_of sc side n i frame (record { tick = a.tick; message = msg })).time
ticks-late C its lawful room off {s} {a} t (inl stopped) frame w kind e = none_and_some a s.ahead stopped.ahead t.pend
ticks-late {sc} {q} C its lawful room off {ports} {me} {i} {s} {a} t (inr (inl h)) frame w kind e =
    none-some (pass_and_tick sc ports me i a.tick s.core).message (hearing-quiet lawful room q off.running off.small off.window t h) e
ticks-late {sc} {q} C its lawful room off {ports} {me} {i} {s} {a} t (inr (inr (inl h))) frame w kind e =
    none-some (pass_and_tick sc ports me i a.tick s.core).message (deaf-quiet lawful room q off.running off.small off.window t h) e
ticks-late C its lawful room {hands} {b} off {sent} {ports} {me} {i} {s} {a} t (inr (inr (inr h))) frame {side} {n} {z} w kind {msg} e = its.late hands b off sent ports me i s a t h frame side n z w kind msg e

-- What is told.

-- a node that has told its row has told the row of the stage in the rounds
tells : {sc : Scenario} {q : ℕ} (C : Course) → HasRoom sc.plan → {hands : List HandIn} {b : ℕ} → BreaksAt sc hands b q → {me : Side} {i : ℕ} {s : Site} → HasTold sc hands C me i b s → TellsStage sc hands b me i s
tells {sc} {q} C room {hands} {b} off {me} {i} h =
    let m : Moment = moment sc hands b in
    let stage : m.window < stages_in sc.sizes = (let at = off.window in let small = off.small in omega (arith, at, small)) in
    let frame : h.st.frame ≡ m.frame = ((moments-stand sc hands b room.ticks).stands me i h.st h.state h.good).frame in
    let place : h.row.place ≡ place_at sc.sizes m = row-place sc m me i h.st (window_in sc m me h.st) h.is ∙ place-is sc m me h.st stage frame in
    record { row = h.row; is = h.told; place = place; rounds = record { q = b; st = h.st; stage = stage; state = h.state; place = place; is = h.is } }

site-waits : {sc : Scenario} {q : ℕ} (C : Course) → HasRoom sc.plan → {hands : List HandIn} {b : ℕ} → BreaksAt sc hands b q → {sent : Side → ℕ → ℕ → Bool} {me : Side} {i : ℕ} {s : Site} → s.runs ≡ true
    → SiteBreaks sc hands C sent b me i s → WaitsLast sc hands b me i s ⊎ TellsStage sc hands b me i s
site-waits C room off runs (inl stopped) = true-false (sym runs ∙ stopped.runs)
site-waits {sc} C room off {me} {i} runs (inr (inl h)) = inl (record {
  st = h.waits.st;
  a = h.waits.a;
  pends = h.waits.stands.receives.pends;
  state = h.waits.stands.state;
  time = h.waits.stands.receives.at_time ∙ ap (time_of (clock_of sc me i)) h.waits.last;
})
site-waits {sc} C room off {me} {i} runs (inr (inr (inl h))) =
    inl (record { st = h.st; a = h.a; pends = h.pends; state = h.state; time = h.at_time ∙ ap (time_of (clock_of sc me i)) h.last })
site-waits C room off runs (inr (inr (inr h))) = inr (tells C room off h)

-- What pends.

site-goes : {sc : _} (C : Course) {hands sent b me i s : _} → SiteBreaks sc hands C sent b me i s
    → HasStopped s ⊎ (is_good_at sc (moment sc hands b) me i ≡ true)
site-goes C (inl stopped) = inl stopped
site-goes C (inr (inl h)) = inr h.waits.stands.good
site-goes C (inr (inr (inl h))) = inr h.good
site-goes C (inr (inr (inr h))) = inr h.good

abbrev IsAhead : Scenario → Side → ℕ → Site → Timed → Type 0
IsAhead sc me i s a = (s.core.had ≤ a.tick) × (a.time ≡ time_of (clock_of sc me i) a.tick)

site-ahead : {sc q : _} (C : Course) → TellsOn sc q C → {hands sent b me i s : _} → SiteBreaks sc hands C sent b me i s
    → (a : Timed) → s.ahead ≡ Some a → IsAhead sc me i s a
site-ahead C its {s} (inl stopped) a e = none_and_some a s.ahead stopped.ahead e
site-ahead {sc} C its {me} {i} {s} (inr (inl h)) a e =
    subst (IsAhead sc me i s) (same_Some h.waits.a a (sym h.waits.stands.receives.pends ∙ e)) (h.waits.stands.receives.is_next.later, h.waits.stands.receives.at_time)
site-ahead {sc} C its {me} {i} {s} (inr (inr (inl h))) a e = subst (IsAhead sc me i s) (same_Some h.a a (sym h.pends ∙ e)) (h.had, h.at_time)
site-ahead C its {hands} {b} {me} {i} {s} (inr (inr (inr h))) a e = its.ahead hands b me i s a h e

pub break-keeps : {sc q : _} (C : Course) → IsLawful sc → HasRoom sc.plan → TellsOn sc q C → KeepsNodes sc q (NodesBreak sc C)
break-keeps {sc} {q} C lawful room its = record {
  begins = λ hands b off now at sites t first. break-begins C lawful room q off.running off.small off.window first;
  waits = λ hands b off sent sites h me i s there runs good. site-waits C room off runs (h me i s there);
  told = λ hands b off sent ports sites h me i s a t there.
      tells C room off (site-ticks C its off t (h me i s there));
  tick = λ hands b off sent ports sites h me i frame s a t there.
      let x : Act = pass_and_tick sc ports me i a.tick s.core in
      let here : SiteBreaks sc hands C sent b me i s = h me i s there in
      one-changes (λ side j r z. SiteBreaks sc hands C sent b side j z) sc (λ side j. 0) sites me i frame a.tick 0 x.message (after_act sc ports me i x)
      (λ side j r z was. message-comes C me i frame a.tick x.message (λ w kind msg e. ticks-late C its lawful room off t here frame w kind e) was)
      there (inr (inr (inr (site-ticks C its off t here))))
      (λ side j z other e. h side j z e);
  arrival = λ hands b off sent sites h me i n c s moves there stands due first.
      let none : Option Message = None in
      one-changes (λ side j r z. SiteBreaks sc hands C sent b side j z) sc (λ side j. 0) sites me i 0 0 0 none (after_arrival sc me i n c)
      (λ side j r z was. was) there (site-comes C its.arrives moves stands due (h me i s there)) (λ side j z other e. h side j z e);
  goes = λ hands b off sent sites h me i s there. site-goes C (h me i s there);
  ahead = λ hands b off sent sites h me i s there. site-ahead C its (h me i s there);
}
