-- For the law that cores follow the rounds: ports in a run that breaks off. The port of a BIU stays
-- that of the rounds before the breaking stage until the BIU has had its last tick of the stage.
use Rattle.std.proofs.{Common.{◌≡◌, ℕ, ◌+◌, ◌<◌, ◌≤◌, ◌==◌, ◌⊎◌, Bool, true, false, refl, ap, sym, ◌∙◌, subst, arith, inl, inr, List, Option, Some, None, slice_get, option_and_then}, lemmas.Bool.cases_lt, lemmas.Bool.Decides.nat_tests, lemmas.Option.same_Some}
use Rattle.rb_base.specs.{Nodes.Side, Nodes.Side.{Biu, Rmu}, Sizes.sync_slot_of}
use Rattle.rb_rules.specs.{declared.closing.Closed.Closed, declared.message.Message.Message, declared.plan.Window.Window, Book.{Each, Row, of_kind}, Clock.{Timeline, stamp_of, time_of}, Core.{Act, Core, pass_to, said_at, state_at, state_kept, window_here}, Goodness.{Scenario, clock_of}, Hearing.{Coming, port_at}, Lawful.IsLawful, NodeState.NodeState, Ports.{HandIn, PortState}, Rounds.{Moment, moment}, WorldStep.{Pending, Site, Timed, World, after_act, after_arrival, at_node, pass_and_tick, wants_in, with_act, with_delivery, with_message, with_pending, word_of}, WorldStep.Pending.{Arrival, Tick}}
use Rattle.rb_rules.proofs.{Drift.times_rise_strictly, QuietTicks.arrive-same, Stamps.Moves}
use Rattle.rb_laws_agreement.proofs.FrameTimes.{good-clock}
use Rattle.rb_laws_events.specs.Closing.{stages_in}
use Rattle.rb_laws_events.proofs.{ActCases.{act-by, tick-by}, BreakNodes.{BreaksAt, FirstOf, KeepsNodes, TellsStage, WaitsLast}, BreakRooms.{acted-had, has-later}, BreakRuns.{NodesOff, reached-core}, DueEvents.IsReady, Invariant.{is_good_at, last_tick}, OneEvent.moves-of, PortMoments.port-kept, PortsInRounds.rmu-none, RoundNodes.slot_numbered, Telling.reached-tells, ToldInOrder.{number_at, number-is, one-changes}, ToldSoFar.arrival-keeps, UpToThere.breaks-later, WorldStands.is_node, WorldTicks.reached}

-- What is kept of a port.

-- the port of BIU i is still that of moment b, and the BIU has told of no stage but earlier ones
pub record PortWaits (sc : Scenario) (hands : List HandIn) (b : ℕ) (ports : List PortState) (i : ℕ) (s : Site) : Type 0 where
  pub port : port_at sc ports i ≡ port_at sc (moment sc hands b).ports i
  pub untold : (row : Row) → s.row ≡ Some row → number_at sc.sizes row.place < b

-- BIU i has had its last tick of the moment's window
abbrev pub HasHadLast : Scenario → List HandIn → ℕ → ℕ → Site → Type 0
HasHadLast sc hands b i s =
    (st : NodeState) → slice_get (of_kind Biu (moment sc hands b).nodes) i ≡ Some st → last_tick sc (moment sc hands b) Biu st < s.core.had

abbrev pub PortAt : Scenario → List HandIn → ℕ → List PortState → ℕ → Site → Type 0
PortAt sc hands b ports i s = PortWaits sc hands b ports i s ⊎ HasHadLast sc hands b i s

-- `PortAt` holds for each BIU that is good in moment `b`
abbrev pub PortsOff : Scenario → List HandIn → ℕ → List PortState → Each Site → Type 0
PortsOff sc hands b ports sites =
    (i : ℕ) (s : Site) → slice_get (of_kind Biu sites) i ≡ Some s → is_good_at sc (moment sc hands b) Biu i ≡ true → PortAt sc hands b ports i s

-- `PortsOff` holds wherever the run breaks off
abbrev pub PortsBreak : Scenario → World → Type 0
PortsBreak sc w = (b q : ℕ) → BreaksAt sc w.hands b q → PortsOff sc w.hands b w.ports w.sites

-- the run breaks off once
pub breaks-once : {sc hands b q c r : _} → BreaksAt sc hands b q → BreaksAt sc hands c r → b ≡ c
breaks-once {b} {c} off other =
    let le : c ≤ b = breaks-later c off other.running in
    let ge : b ≤ c = breaks-later b other off.running in
    omega (arith, le, ge)

pub ports-break : {sc b q : _} (w : World) → BreaksAt sc w.hands b q → PortsOff sc w.hands b w.ports w.sites → PortsBreak sc w
ports-break {sc} w off ports c r other = subst (λ n. PortsOff sc w.hands n w.ports w.sites) (breaks-once off other) ports

-- What stays.

-- what holds at a site holds at one with the same row and port and no fewer ticks
port-stays : {sc : Scenario} {hands : List HandIn} {b : ℕ} {ports : List PortState} (more : List PortState) {i : ℕ} {s : Site} (z : Site) → port_at sc more i ≡ port_at sc ports i → z.row ≡ s.row
    → s.core.had ≤ z.core.had → PortAt sc hands b ports i s → PortAt sc hands b more i z
port-stays more z port row had (inl waits) = inl (record { port = port ∙ waits.port; untold = λ r e. waits.untold r (sym row ∙ e) })
port-stays more z port row had (inr last) = inr (λ st there. let h = last st there in omega (arith, h, had))

same-had : {a b : ℕ} → a ≡ b → b ≤ a
same-had e = omega (arith, e)

-- if one node changes and a message is on its way, the other ports stay
changes-ports : {sc hands b ports : _} (more : List PortState) (sites : Each Site) (me : Side) (i frame k : ℕ) (m : Option Message) (change : Site → Site) {s : _}
    → slice_get (of_kind me sites) i ≡ Some s
    → ((j : ℕ) → is_node me i Biu j ≡ false → port_at sc more j ≡ port_at sc ports j)
    → (me ≡ Biu → is_good_at sc (moment sc hands b) Biu i ≡ true → PortAt sc hands b more i (change s))
    → PortsOff sc hands b ports sites → PortsOff sc hands b more (with_message sc me i frame k m (at_node me i change sites))
changes-ports {sc} {hands} {b} more sites me i frame k m change there same own h j z at good =
    one-changes (λ side j r z. side ≡ Biu → is_good_at sc (moment sc hands b) Biu j ≡ true → PortAt sc hands b more j z) sc (λ side j. 0) sites me i frame k 0 m change
    (λ side j r z was is good.
    port-stays more (reached sc me i frame k m side j z) refl (reached-tells sc me i frame k m side j z).0
    (same-had (ap (λ (c : Core). c.had) (reached-core sc me i frame k m side j z))) (was is good))
    there own others Biu j z at refl good
  where
    others : (side : Side) (j : ℕ) (z : Site) → is_node me i side j ≡ false → slice_get (of_kind side sites) j ≡ Some z → side ≡ Biu → is_good_at sc (moment sc hands b) Biu j ≡ true
        → PortAt sc hands b more j z
    others Biu j z other e is good = port-stays more z (same j other) refl (omega arith) (h j z e good)
    others Rmu j z other e is good = absurd (cc)

-- A tick.

-- an RMU delivers nothing at a close
rmu-ticks : (sc : Scenario) (ports : List PortState) (i k : ℕ) (c : Core) → option_and_then (λ (c : Closed). c.delivered) (pass_and_tick sc ports Rmu i k c).closed ≡ None
unfolding pass_and_tick
rmu-ticks sc ports i k c =
    let ready : Core = pass_to k c in
    let word : ℕ = word_of sc ports i (wants_in sc Rmu i ready) in
    let st : NodeState = state_at sc.sizes sc.plan Rmu ready.state ready.had in
    let m : Option Message = said_at sc.sizes sc.plan Rmu i st word ready.had in
    let kept : NodeState = state_kept sc.sizes Rmu i st word m in
    let w : Window = window_here sc.sizes sc.plan Rmu st ready.had in
    let Gives : Act → Type 0 = λ x. option_and_then (λ (c : Closed). c.delivered) x.closed ≡ None in
    tick-by Gives sc.sizes sc.plan Rmu i ready word (λ _. refl)
    (λ _. act-by Gives sc.sizes sc.plan Rmu i ready st m kept (λ _. rmu-none sc i kept w.slot w.stage (kept.epoch + w.first) _ (w.slot == sync_slot_of sc.sizes)) (λ _. refl))

-- a tick leaves the ports of all other nodes
others-stay : (sc : Scenario) (ports : List PortState) (me : Side) (i k : ℕ) (c : Core) (j : ℕ) → is_node me i Biu j ≡ false
    → port_at sc (with_delivery sc i (option_and_then (λ (c : Closed). c.delivered) (pass_and_tick sc ports me i k c).closed) ports) j ≡ port_at sc ports j
others-stay sc ports Biu i k c j other = port-kept sc i j (option_and_then (λ (c : Closed). c.delivered) (pass_and_tick sc ports Biu i k c).closed) ports (λ e. itself j i e other)
  where
    itself : (a b : ℕ) → a ≡ b → (a == b) ≡ false → ⊥
    itself a b e h = grind (arith, nat_tests)
others-stay sc ports Rmu i k c j other = ap (λ d. port_at sc (with_delivery sc i d ports) j) (rmu-ticks sc ports i k c)

-- the next tick of a BIU is the last of the stage, or comes after it
last-or-later : {sc : _} (N : ℕ → List HandIn → ℕ → (Side → ℕ → ℕ → Bool) → Each Site → Type 0) {hands b q sent ports sites : _}
    → {i s a : _} → IsLawful sc → KeepsNodes sc q (N q) → BreaksAt sc hands b q → NodesOff sc N hands b q sent sites → slice_get (of_kind Biu sites) i ≡ Some s → s.ahead ≡ Some a
    → is_good_at sc (moment sc hands b) Biu i ≡ true → PortAt sc hands b ports i s
    → {st : _} → slice_get (of_kind Biu (moment sc hands b).nodes) i ≡ Some st → last_tick sc (moment sc hands b) Biu st ≤ a.tick
last-or-later {sc} N {hands} {b} {sent} {ports} {sites} {i} {s} {a} lawful keeps off h there pend good port {st} state = of-port port
  where
    m : Moment
    m = moment sc hands b

    clock : Timeline
    clock = clock_of sc Biu i

    moves : Moves clock
    moves = moves-of lawful Biu i (good-clock lawful Biu i m.frame (slot_numbered sc.sizes m.window) good)

    ahead : (s.core.had ≤ a.tick) × (a.time ≡ time_of clock a.tick)
    ahead = keeps.ahead hands b off sent sites h.nodes Biu i s there a pend

    stage : m.window < stages_in sc.sizes
    stage = let small = off.small in let window = off.window in omega (arith, small, window)

    of-tells : PortWaits sc hands b ports i s → TellsStage sc hands b Biu i s → last_tick sc m Biu st ≤ a.tick
    of-tells waits tells =
        let less : number_at sc.sizes tells.row.place < b = waits.untold tells.row tells.is in
        let same : number_at sc.sizes tells.row.place ≡ b = ap (number_at sc.sizes) tells.place ∙ number-is sc hands b stage in
        absurd (omega (arith, less, same))

    of-waits : PortWaits sc hands b ports i s → WaitsLast sc hands b Biu i s → last_tick sc m Biu st ≤ a.tick
    of-waits waits last =
        let timed : last.a ≡ a = same_Some last.a a (sym last.pends ∙ pend) in
        let node : last.st ≡ st = same_Some last.st st (sym last.state ∙ state) in
        let time : a.time ≡ time_of clock (last_tick sc m Biu st) =
        ap (λ (a : Timed). a.time) (sym timed) ∙ last.time ∙ ap (λ (st : NodeState). time_of clock (last_tick sc m Biu st)) node in
        elim (cases_lt a.tick (last_tick sc m Biu st)) [
          | inr ge ↦ ge
          | inl lt ↦
              let up : time_of clock a.tick < time_of clock (last_tick sc m Biu st) = times_rise_strictly clock moves a.tick (last_tick sc m Biu st) lt in
              absurd (omega (arith, up, time, ahead.1))
        ]

    of-port : PortAt sc hands b ports i s → last_tick sc m Biu st ≤ a.tick
    of-port (inr had) = let past = had st state in omega (arith, past, ahead.0)
    of-port (inl waits) = elim (h.live Biu i s there good) [
      | inr tells ↦ of-tells waits tells
      | inl runs ↦ elim (keeps.waits hands b off sent sites h.nodes Biu i s there runs good) [ inl last ↦ of-waits waits last | inr tells ↦ of-tells waits tells ]
    ]

own-last : {sc : _} (N : ℕ → List HandIn → ℕ → (Side → ℕ → ℕ → Bool) → Each Site → Type 0) {hands b q sent ports sites : _}
    → (me : Side) (i : ℕ) {s a : _} → IsLawful sc → KeepsNodes sc q (N q) → BreaksAt sc hands b q → NodesOff sc N hands b q sent sites → slice_get (of_kind me sites) i ≡ Some s → s.ahead ≡ Some a
    → FirstOf sc hands b a.time → PortsOff sc hands b ports sites → me ≡ Biu → is_good_at sc (moment sc hands b) Biu i ≡ true
    → HasHadLast sc hands b i (after_act sc ports me i (pass_and_tick sc ports me i a.tick s.core) s)
own-last N Rmu i lawful keeps off h there pend first old is good = absurd (cc)
own-last {sc} N {hands} {b} {sent} {ports} {sites} Biu i {s} {a} lawful keeps off h there pend first old is good = λ st state.
    let ahead = keeps.ahead hands b off sent sites h.nodes Biu i s there a pend in
    let clock : Timeline = clock_of sc Biu i in
    let soon : a.time ≤ time_of (clock_of sc first.you first.j) (last_tick sc (moment sc hands b) first.you first.yours) = first.first in
    let at_tick : FirstOf sc hands b (time_of clock a.tick) = record {
      you = first.you;
      j = first.j;
      yours = first.yours;
      there = first.there;
      good = first.good;
      first = omega (arith, soon, ahead.1);
    } in
    let le : last_tick sc (moment sc hands b) Biu st ≤ a.tick = last-or-later N lawful keeps off h there pend good (old i s there good) state in
    let counted : (after_act sc ports Biu i (pass_and_tick sc ports Biu i a.tick s.core) s).core.had ≡ a.tick + 1 =
    acted-had ports a.tick s (has-later lawful off at_tick Biu i good) ahead.0 in
    omega (arith, le, counted)

-- Events.

pub arrival-had : (sc : Scenario) (me : Side) (i n : ℕ) (c : Coming) (s : Site) → s.core.had ≤ (after_arrival sc me i n c s).core.had
unfolding after_arrival
arrival-had sc me i n c s =
    let same = arrive-same sc.sizes me (pass_to (stamp_of (clock_of sc me i) c.time) s.core) c.from c.bytes in
    omega (arith, same.1)

-- an event leaves the ports as they are in a run that breaks off
pub ports-off : {sc : _} (N : ℕ → List HandIn → ℕ → (Side → ℕ → ℕ → Bool) → Each Site → Type 0) {b q sent : _} (w : World) (me : Side) (i : ℕ) {t s : _} (p : Pending)
    → IsLawful sc → KeepsNodes sc q (N q) → BreaksAt sc w.hands b q → NodesOff sc N w.hands b q sent w.sites → slice_get (of_kind me w.sites) i ≡ Some s
    → IsReady t s p → FirstOf sc w.hands b t → PortsOff sc w.hands b w.ports w.sites
    → PortsOff sc w.hands b (with_pending sc w me i s p).ports (with_pending sc w me i s p).sites
unfolding with_act
ports-off {sc} N {b} w me i {t} {s} (Tick k) lawful keeps off h there ready first old =
    let a : Timed = ready.0 in
    let time : a.time ≡ t = ready.1.1.1.0 in
    let x : Act = pass_and_tick sc w.ports me i a.tick s.core in
    let more : List PortState = with_delivery sc i (option_and_then (λ (c : Closed). c.delivered) x.closed) w.ports in
    let soon : FirstOf sc w.hands b a.time = subst (FirstOf sc w.hands b) (sym time) first in
    let after : PortsOff sc w.hands b (with_act sc w me i a.tick x).ports (with_act sc w me i a.tick x).sites =
    changes-ports more w.sites me i x.core.state.frame a.tick x.message (after_act sc w.ports me i x) there
    (others-stay sc w.ports me i a.tick s.core)
    (λ is good. inr (own-last N me i lawful keeps off h there ready.1.0 soon old is good)) old in
    subst (λ k. PortsOff sc w.hands b (with_act sc w me i k (pass_and_tick sc w.ports me i k s.core)).ports (with_act sc w me i k (pass_and_tick sc w.ports me i k s.core)).sites) ready.1.1.0 after
ports-off {sc} N w me i {s} (Arrival n c) lawful keeps off h there ready first old =
    let none : Option Message = None in
    changes-ports w.ports w.sites me i 0 0 none (after_arrival sc me i n c) there (λ j other. refl)
    (λ is good.
    port-stays w.ports (after_arrival sc me i n c s) refl (arrival-keeps sc me i n c s).0 (arrival-had sc me i n c s)
    (old i s (subst (λ side. slice_get (of_kind side w.sites) i ≡ Some s) is there) good)) old
