-- For the law of record and replay: one step of the run keeps what is known of a node that is good
-- throughout.
use Rattle.std.proofs.{Common.{◌≡◌, ℕ, suc, ◌+◌, ◌-◌, ◌<◌, ◌≤◌, ◌&&◌, ◌⊎◌, Bool, true, false, List, [], ◌∷◌, ◌++◌, append_assoc, refl, ap, sym, ◌∙◌, subst, arith, inl, inr, Option, Some, None, slice_get, option_and_then, if◌then◌else◌}, lemmas.Bool.cases_lt, lemmas.List.append-nil, lemmas.Option.same_Some}
use Rattle.rb_base.specs.{Nodes.Side, declared.event.Event.Event, declared.node.NodeName.NodeName}
use Rattle.rb_rules.specs.{declared.closing.Closed.Closed, declared.record.Epoch.Epoch, Book.of_kind, Clock.stamp_of, Core.{Act, Core, arrive, epoch_at, first_core, pass_to}, Goodness.{Scenario, clock_of}, Hearing.Coming, Lawful.{IsLawful, kind_of}, NodeState.NodeState, Ports.HandIn, Rounds.moment, WorldStep.{Due, Pending, Site, Timed, World, after_act, after_arrival, due_of, event_of, happens, pass_and_tick, times_of, with_act}, WorldStep.Pending.{Tick, Arrival}}
use Rattle.rb_rules.proofs.{QuietTicks.arrive-same, RoundStates.HasTicks}
use Rattle.rb_log.specs.Writing.{given}
use Rattle.rb_laws_events.proofs.{DueEvents.{IsDue, IsReady}, Invariant.{NodeStands, last_tick}, MomentBooks.one-number, NodeActs.HasRoom, NodeClosing.ClosesWindow, NodeEvents.{StaysOpen, all-after, stands-arrival, tick-after}, OneEvent.{all-pend, happens-is, moves-of, up-there}, OneTake.StandsInRounds, RoundNodes.slot_numbered, SameHeard.Every, TickRooms.has-room, WorldEvents.AfterTick as Happened, WorldStands.{AllPend, IsUp, is_node, node-is, node-itself, sent_by}, Behind.pend-of}
use Rattle.rb_laws_agreement.proofs.FrameTimes.{good-clock}
use Rattle.rb_laws_logs.specs.{Given.{first_run, given_next, index_of, site_of}, Laws.{EndsWithoutBreach, IsGoodThroughout}, Replays.{act_lines, delivery_lines, epoch_lines, frames_with}}
use Rattle.rb_laws_logs.proofs.{CoreEvents.{Makes, makes-arrival, makes-both, makes-passed}, NoBreach.{IsLastBegin, last-begin, last_moment}, NodeLines.told_up_to, NodeRun.{IsDone, NodeAt, StepSites, Underway, after-end, before-end, done-same, given-by, given-none, given_so_far, more-made, step-sites, tick-made, underway-same}, NodeRun.StepSites.{Still, Taken}, NodeSites.{Elsewhere, Rises, act-core, elsewhere, own-arrival, own-tick, rises}, Positions.{StandsAt, one-place, stands-at}, TickText.{AfterTick, Turns, after-close, after-open, first-not-last, turns-now}, Worlds.{MayTake, first-due, may-take, no-hands, tick-done, worlds-in-run}}
use Rattle.rb_rules.specs.Core as core

-- Where the node stands.

-- the world has the node in moment `p`
pub record Here (sc : Scenario) (name : NodeName) (w : World) (h : StandsInRounds sc w) (s : Site) (p : ℕ) (st : NodeState) (a : Timed) : Type 0 where
  pub is : h.at (kind_of name) (index_of name) ≡ p
  pub sent : Side → ℕ → ℕ → Bool
  pub stands : NodeStands sc [] sent h.now (kind_of name) (index_of name) p s st a

pub here : {sc : _} (name : NodeName) {w : _} (h : StandsInRounds sc w) {s p st a : _} → HasTicks sc.plan → w.hands ≡ [] → site_of name w ≡ Some s
    → StandsAt sc (kind_of name) (index_of name) p s.core st a → s.ahead ≡ Some a → Here sc name w h s p st a
here {sc} name {w} h {s} {p} {st} {a} ticks empty there at ahead =
    let me : Side = kind_of name in
    let i : ℕ = index_of name in
    let up : IsUp sc [] (sent_by sc [] h.at w.sites) h.now me i (h.at me i) s =
    subst (λ hs. IsUp sc hs (sent_by sc hs h.at w.sites) h.now me i (h.at me i) s) empty (up-there w me i h.stands.sites there ahead) in
    let sent : Side → ℕ → ℕ → Bool = sent_by sc [] h.at w.sites in
    let a_is : up.a ≡ a = same_Some up.a a (sym up.stands.receives.pends ∙ ahead) in
    let p_is : h.at me i ≡ p = one-place ticks (stands-at ticks up.stands) at refl a_is in
    let moved : NodeStands sc [] sent h.now me i p s up.st a = subst (λ q. NodeStands sc [] sent h.now me i q s up.st a) p_is (subst (NodeStands sc [] sent h.now me i (h.at me i) s up.st) a_is up.stands) in
    let st_is : up.st ≡ st = same_Some up.st st (sym moved.state ∙ at.state) in
    record { is = p_is; sent = sent; stands = subst (λ z. NodeStands sc [] sent h.now me i p s z a) st_is moved }

-- the tick leaves the window open, or closes it as its last one
record Ticked (sc : Scenario) (hands : List HandIn) (w : World) (me : Side) (i p : ℕ) (s : Site) (a : Timed) (x : Act) : Type 0 where
  sent : Side → ℕ → ℕ → Bool
  st : NodeState
  there : slice_get (of_kind me (moment sc hands p).nodes) i ≡ Some st
  node : StaysOpen sc hands sent a.time w.ports me i p s st a.tick x ⊎ (ClosesWindow sc hands sent w.ports me i p s st a x × (a.tick ≡ last_tick sc (moment sc hands p) me st))

ticked : (sc : Scenario) (w : World) (at : Side → ℕ → ℕ) (me : Side) (i : ℕ) (s : Site) (a : Timed) (x : Act) → Happened sc w.hands at w.sites w.ports me i s a x
    → Ticked sc w.hands w me i (at me i) s a x
ticked sc w at me i s a x h = record {
  sent = sent_by sc w.hands at w.sites;
  st = h.st;
  there = h.there;
  node = elim h.node [ inl stays ↦ inl stays.1 | inr closes ↦ inr (closes.1.0, closes.1.1.1) ];
}

-- A tick of its own.

-- with the lines of the tick behind `lines` the node has told all up to moment `q`
record ToldBy (sc : Scenario) (name : NodeName) (lines : List ℕ) (frames q : ℕ) (begins : Option Epoch) (x : Act) : Type 0 where
  told : (lines ++ act_lines name x) ++ epoch_lines name begins ≡ told_up_to sc name q
  count : frames + frames_with x.epoch + frames_with begins ≡ (moment sc [] q).frame

after-told : {sc name n s z x : _} (u : Underway sc name n s) (after : AfterTick sc name u.p u.st u.a x z)
    → ToldBy sc name u.lines u.frames after.q (epoch_at sc.sizes (kind_of name) after.then_st after.b.tick) x
after-told {sc} {name} {x} u after =
    let begun : List ℕ = epoch_lines name (epoch_at sc.sizes (kind_of name) u.st u.a.tick) in
    let more : List ℕ = delivery_lines name (option_and_then (λ (c : Closed). c.delivered) x.closed) in
    let later : List ℕ = epoch_lines name (epoch_at sc.sizes (kind_of name) after.then_st after.b.tick) in
    let k : ℕ = frames_with (epoch_at sc.sizes (kind_of name) after.then_st after.b.tick) in
    record {
      told = ap (λ o. (u.lines ++ (epoch_lines name o ++ more)) ++ later) after.epoch
          ∙ append_assoc u.lines (begun ++ more) later ∙ ap (λ l. u.lines ++ l) (append_assoc begun more later) ∙ sym (append_assoc u.lines begun (more ++ later))
          ∙ ap (λ l. l ++ (more ++ later)) u.told ∙ after.told;
      count = ap (λ o. u.frames + frames_with o + k) after.epoch ∙ ap (λ m. m + k) u.count ∙ after.count;
    }

-- a node in a frame of the scenario is still under way after the tick
still-underway : {sc name n s z x : _} (e : Event) (u : Underway sc name n s) → AfterTick sc name u.p u.st u.a x z → z.core ≡ x.core
    → given_next sc name (first_run sc n) ≡ e ∷ [] → Makes sc.sizes sc.plan name (kind_of name) (index_of name) s.core (given e) x.core (act_lines name x) (frames_with x.epoch)
    → (moment sc [] u.p).frame < sc.frames → Underway sc name (suc n) z
still-underway {sc} {name} {n} {s} {z} {x} e u after core_is is makes inside =
    let by : ToldBy sc name u.lines u.frames after.q (epoch_at sc.sizes (kind_of name) after.then_st after.b.tick) x = after-told u after in
    let frame : z.core.state.frame ≡ (moment sc [] u.p).frame = after.frame in
    record {
      p = after.q;
      st = after.then_st;
      a = after.b;
      stands = after.stands;
      ahead = after.ahead;
      lines = u.lines ++ act_lines name x;
      frames = u.frames + frames_with x.epoch;
      makes = more-made sc n e is u.makes
          (subst (λ c. Makes sc.sizes sc.plan name (kind_of name) (index_of name) s.core (given e) c (act_lines name x) (frames_with x.epoch)) (sym core_is) makes);
      told = by.told;
      count = by.count;
      before = omega (arith, frame, inside);
    }

now-done : {sc name n s z x : _} (e : Event) (u : Underway sc name n s) → HasTicks sc.plan → (after : AfterTick sc name u.p u.st u.a x z) → after.q ≡ u.p
    → epoch_at sc.sizes (kind_of name) after.then_st after.b.tick ≡ None → given_next sc name (first_run sc n) ≡ e ∷ []
    → Makes sc.sizes sc.plan name (kind_of name) (index_of name) s.core (given e) x.core (act_lines name x) (frames_with x.epoch)
    → sc.frames ≤ (moment sc [] u.p).frame → IsDone sc name (suc n) z
now-done {sc} {name} {n} {z} {x} e u ticks after stays none is makes over =
    let by : ToldBy sc name u.lines u.frames after.q (epoch_at sc.sizes (kind_of name) after.then_st after.b.tick) x = after-told u after in
    let turns : Turns sc u.p sc.frames u.st u.a = turns-now sc.frames ticks u.stands u.before over in
    let last : IsLastBegin sc (last_moment sc) = last-begin sc in
    let place : u.p ≡ last_moment sc = one-number sc [] u.p (last_moment sc) (turns.in_frame ∙ sym last.frame) (turns.window ∙ sym last.window) in
    let made = more-made sc n e is u.makes makes in
    let lines : List ℕ = u.lines ++ act_lines name x in
    let count : u.frames + frames_with x.epoch ≡ sc.frames =
    plus-none (u.frames + frames_with x.epoch) ∙ sym (ap (λ o. u.frames + frames_with x.epoch + frames_with o) none) ∙ by.count ∙ ap (λ q. (moment sc [] q).frame) stays ∙ turns.in_frame in
    let frame : z.core.state.frame ≡ (moment sc [] u.p).frame = after.frame in
    record {
      told = made.lines_are ∙ sym (append-nil lines) ∙ sym (ap (λ o. lines ++ epoch_lines name o) none) ∙ by.told ∙ ap (told_up_to sc name) (stays ∙ place);
      count = made.frames_are ∙ count;
      after = omega (arith, frame, over);
    }
  where
    plus-none : (n : ℕ) → n ≡ n + 0
    plus-none n = omega arith

own-tick-step : {sc name n : _} (k : ℕ) {s : _} → IsLawful sc → EndsWithoutBreach sc → IsGoodThroughout sc name → site_of name (first_run sc n) ≡ Some s → Underway sc name n s
    → slice_get (due_of sc (first_run sc n)) 0 ≡ Some (record { side = kind_of name; node = index_of name; pending = Tick k })
    → (first_run sc (suc n)).sites ≡ (happens sc (first_run sc n) (record { side = kind_of name; node = index_of name; pending = Tick k })).sites
    → NodeAt sc name (suc n)
own-tick-step {sc} {name} {n} k {s} lawful none good there u first sites = record { s = z; there = z_there; how = by at_place }
  where
    me : Side
    me = kind_of name

    i : ℕ
    i = index_of name

    w : World
    w = first_run sc n

    d : Due
    d = record { side = me; node = i; pending = Tick k }

    h : StandsInRounds sc w
    h = (worlds-in-run lawful none n).stands

    empty : w.hands ≡ []
    empty = no-hands sc n

    room : HasRoom sc.plan
    room = has-room lawful

    due : IsDue w d
    due = first-due sc n first

    may : MayTake sc w h d
    may = may-take h lawful none empty first due

    ready : IsReady due.t s (Tick k)
    ready = subst (λ s. IsReady due.t s (Tick k)) (same_Some due.s s (sym due.there ∙ there)) due.ready

    a_is : ready.0 ≡ u.a
    a_is = same_Some ready.0 u.a (sym ready.1.0 ∙ u.ahead)

    tick : u.a.tick ≡ k
    tick = ap (λ (a : Timed). a.tick) (sym a_is) ∙ ready.1.1.0

    time : u.a.time ≡ due.t
    time = ap (λ (a : Timed). a.time) (sym a_is) ∙ ready.1.1.1.0

    x : Act
    x = pass_and_tick sc w.ports me i u.a.tick s.core

    z : Site
    z = after_act sc w.ports me i x s

    happened : Happened sc w.hands h.at w.sites w.ports me i s u.a x
    happened = tick-done h lawful may.may may.early there u.ahead tick time ready.1.1.1.1 (all-pend w due.t due.first)

    place : Here sc name w h s u.p u.st u.a
    place = here name h room.ticks empty there u.stands u.ahead

    at_place : Ticked sc [] w me i u.p s u.a x
    at_place = subst (λ q. Ticked sc [] w me i q s u.a x) place.is (subst (λ hs. Ticked sc hs w me i (h.at me i) s u.a x) empty (ticked sc w h.at me i s u.a x happened))

    z_there : site_of name (first_run sc (suc n)) ≡ Some z
    z_there =
        ap (λ sites. slice_get (of_kind me sites) i) (sites ∙ ap (λ (w : World). w.sites) (happens-is sc w d there))
        ∙ subst (λ k. slice_get (of_kind me (with_act sc w me i k (pass_and_tick sc w.ports me i k s.core)).sites) i ≡ Some z) tick (own-tick sc w me i u.a.tick x there)

    e : Event
    e = event_of sc w.ports me i s.core (Tick u.a.tick)

    is : given_next sc name w ≡ e ∷ []
    is =
        given-by sc name w first there (node-itself me i) (before-end sc name w there u.before)
        ∙ ap (λ k. event_of sc w.ports me i s.core (Tick k) ∷ []) (sym tick)

    makes : Makes sc.sizes sc.plan name me i s.core (given e) x.core (act_lines name x) (frames_with x.epoch)
    makes = tick-made name w s u.stands

    st_is : (t : Ticked sc [] w me i u.p s u.a x) → t.st ≡ u.st
    st_is t = same_Some t.st u.st (sym t.there ∙ u.stands.state)

    by : (t : Ticked sc [] w me i u.p s u.a x) → Underway sc name (suc n) z ⊎ IsDone sc name (suc n) z
    by t = how t.node
      where
        how : StaysOpen sc [] t.sent u.a.time w.ports me i u.p s t.st u.a.tick x ⊎ (ClosesWindow sc [] t.sent w.ports me i u.p s t.st u.a x × (u.a.tick ≡ last_tick sc (moment sc [] u.p) me t.st))
            → Underway sc name (suc n) z ⊎ IsDone sc name (suc n) z
        how (inl stays) =
            let open_still = after-open name room.ticks u.stands (subst (λ st. StaysOpen sc [] t.sent u.a.time w.ports me i u.p s st u.a.tick x) (st_is t) stays) in
            elim (cases_lt (moment sc [] u.p).frame sc.frames) [
              | inl inside ↦ inl (still-underway e u open_still.0 (act-core sc w.ports me i x s) is makes inside)
              | inr over ↦ inr (now-done e u room.ticks open_still.0 open_still.1.0 open_still.1.1 is makes over)
            ]
        how (inr closes) =
            let closing : ClosesWindow sc [] t.sent w.ports me i u.p s u.st u.a x = subst (λ st. ClosesWindow sc [] t.sent w.ports me i u.p s st u.a x) (st_is t) closes.0 in
            let last : u.a.tick ≡ last_tick sc (moment sc [] u.p) me u.st = closes.1 ∙ ap (last_tick sc (moment sc [] u.p) me) (st_is t) in
            elim (cases_lt (moment sc [] u.p).frame sc.frames) [
              | inl inside ↦ inl (still-underway e u (after-close room.ticks good inside u.stands closing) (act-core sc w.ports me i x s) is makes inside)
              | inr over ↦
                  let turns : Turns sc u.p sc.frames u.st u.a = turns-now sc.frames room.ticks u.stands u.before over in
                  absurd (first-not-last me u.p u.st u.a lawful turns.window turns.first last)
            ]

-- What comes to it.

arrival-core : (sc : Scenario) (me : Side) (i place : ℕ) (c : Coming) (s : Site)
    → ((after_arrival sc me i place c s).core ≡ arrive sc.sizes me (pass_to (stamp_of (clock_of sc me i) c.time) s.core) c.from c.bytes) × ((after_arrival sc me i place c s).ahead ≡ s.ahead)
unfolding after_arrival
arrival-core sc me i place c s = (refl, refl)

-- after an arrival the node stands where it stood
pub arrival-stands : {sc name n : _} (place : ℕ) (c : Coming) {s : _} → IsLawful sc → EndsWithoutBreach sc → site_of name (first_run sc n) ≡ Some s → (u : Underway sc name n s)
    → slice_get (due_of sc (first_run sc n)) 0 ≡ Some (record { side = kind_of name; node = index_of name; pending = Arrival place c })
    → StandsAt sc (kind_of name) (index_of name) u.p (after_arrival sc (kind_of name) (index_of name) place c s).core u.st u.a
arrival-stands {sc} {name} {n} place c {s} lawful none there u first =
    let me : Side = kind_of name in
    let i : ℕ = index_of name in
    let w : World = first_run sc n in
    let d : Due = record { side = me; node = i; pending = Arrival place c } in
    let h : StandsInRounds sc w = (worlds-in-run lawful none n).stands in
    let room : HasRoom sc.plan = has-room lawful in
    let due : IsDue w d = first-due sc n first in
    let ready : IsReady due.t s (Arrival place c) = subst (λ s. IsReady due.t s (Arrival place c)) (same_Some due.s s (sym due.there ∙ there)) due.ready in
    let pend : AllPend c.time w.sites = subst (λ t. AllPend t w.sites) (sym ready.1) (all-pend w due.t due.first) in
    let own : Every (λ u. c.time ≤ u) (times_of s) = pend-of c.time w.sites pend me i s there in
    let at : Here sc name w h s u.p u.st u.a = here name h room.ticks (no-hands sc n) there u.stands u.ahead in
    let z : Site = after_arrival sc me i place c s in
    let stands : NodeStands sc [] at.sent c.time me i u.p z u.st u.a =
    stands-arrival
    (moves-of lawful me i (good-clock lawful me i (moment sc [] u.p).frame (slot_numbered sc.sizes (moment sc [] u.p).window) u.stands.good))
    (record { at = ready.0; least = all-after c.time s.ahead s.coming own; before_tick = tick-after c.time s.ahead s.coming u.ahead own }) at.stands in
    stands-at room.ticks stands

-- an arrival passes the quiet ticks before it
pub arrival-had : (sc : Scenario) (me : Side) (i place : ℕ) (c : Coming) (s : Site) → (after_arrival sc me i place c s).core.had ≡ (pass_to (stamp_of (clock_of sc me i) c.time) s.core).had
arrival-had sc me i place c s =
    ap (λ (c : Core). c.had) (arrival-core sc me i place c s).0 ∙ (arrive-same sc.sizes me (pass_to (stamp_of (clock_of sc me i) c.time) s.core) c.from c.bytes).1

own-arrival-step : {sc name n : _} (place : ℕ) (c : Coming) {s : _} → IsLawful sc → EndsWithoutBreach sc → site_of name (first_run sc n) ≡ Some s → Underway sc name n s
    → slice_get (due_of sc (first_run sc n)) 0 ≡ Some (record { side = kind_of name; node = index_of name; pending = Arrival place c })
    → (first_run sc (suc n)).sites ≡ (happens sc (first_run sc n) (record { side = kind_of name; node = index_of name; pending = Arrival place c })).sites
    → NodeAt sc name (suc n)
own-arrival-step {sc} {name} {n} place c {s} lawful none there u first sites =
    let me : Side = kind_of name in
    let i : ℕ = index_of name in
    let w : World = first_run sc n in
    let d : Due = record { side = me; node = i; pending = Arrival place c } in
    let z : Site = after_arrival sc me i place c s in
    let now : StandsAt sc me i u.p z.core u.st u.a = arrival-stands place c lawful none there u first in
    let stamp : ℕ = stamp_of (clock_of sc me i) c.time in
    let passed : Core = pass_to stamp s.core in
    let parts = arrival-core sc me i place c s in
    let core_is : z.core ≡ arrive sc.sizes me passed c.from c.bytes = parts.0 in
    let same = arrive-same sc.sizes me passed c.from c.bytes in
    let had : z.core.had ≡ passed.had = arrival-had sc me i place c s in
    let state : z.core.state ≡ s.core.state = ap (λ (c : Core). c.state) core_is ∙ same.0 in
    let later : z.core.had ≤ u.a.tick = now.next.later in
    let e : Event = event_of sc w.ports me i s.core (Arrival place c) in
    let is : given_next sc name w ≡ e ∷ [] = given-by sc name w first there (node-itself me i) (before-end sc name w there u.before) in
    let made : Makes sc.sizes sc.plan name me i s.core (given e) (arrive sc.sizes me passed c.from c.bytes) ([] ++ []) (0 + 0) =
    makes-both
    (makes-passed name stamp s.core u.stands.next (omega (arith, had, later))) (makes-arrival sc.sizes sc.plan name me i c.from c.bytes passed) in
    let all : Makes sc.sizes sc.plan name me i (first_core sc.sizes me) (given_so_far sc name (suc n)) z.core (u.lines ++ []) (u.frames + 0) =
    more-made sc n e is u.makes
    (subst (λ c. Makes sc.sizes sc.plan name me i s.core (given e) c [] 0) (sym core_is) made) in
    let frame : z.core.state.frame ≡ s.core.state.frame = ap (λ (z : NodeState). z.frame) state in
    let before : s.core.state.frame < sc.frames = u.before in
    record {
      s = z;
      there = ap (λ sites. slice_get (of_kind me sites) i) (sites ∙ ap (λ (w : World). w.sites) (happens-is sc w d there)) ∙ own-arrival w me i (after_arrival sc me i place c) there;
      how = inl (record {
        p = u.p;
        st = u.st;
        a = u.a;
        stands = now;
        ahead = parts.1 ∙ u.ahead;
        lines = u.lines ++ [];
        frames = u.frames + 0;
        makes = all;
        told = ap (λ l. l ++ epoch_lines name (epoch_at sc.sizes me u.st u.a.tick)) (append-nil u.lines) ∙ u.told;
        count = ap (λ k. k + frames_with (epoch_at sc.sizes me u.st u.a.tick)) (plus-none u.frames) ∙ u.count;
        before = omega (arith, frame, before);
      });
    }
  where
    plus-none : (n : ℕ) → n + 0 ≡ n
    plus-none n = omega arith

-- Any step.

own-step : {sc name n : _} (p : Pending) {s : _} → IsLawful sc → EndsWithoutBreach sc → IsGoodThroughout sc name → site_of name (first_run sc n) ≡ Some s → Underway sc name n s
    → slice_get (due_of sc (first_run sc n)) 0 ≡ Some (record { side = kind_of name; node = index_of name; pending = p })
    → (first_run sc (suc n)).sites ≡ (happens sc (first_run sc n) (record { side = kind_of name; node = index_of name; pending = p })).sites
    → NodeAt sc name (suc n)
own-step (Tick k) lawful none good there u first sites = own-tick-step k lawful none good there u first sites
own-step (Arrival place c) lawful none good there u first sites = own-arrival-step place c lawful none there u first sites

and-none : {X : Type 0} (a : Bool) (x y : X) → (if a && false then x else y) ≡ y
and-none true x y = refl
and-none false x y = refl

pub node-step : {sc name n : _} → IsLawful sc → EndsWithoutBreach sc → IsGoodThroughout sc name → NodeAt sc name n → NodeAt sc name (suc n)
node-step {sc} {name} {n} lawful none good node = by (step-sites sc n)
  where
    me : Side
    me = kind_of name

    i : ℕ
    i = index_of name

    w : World
    w = first_run sc n

    s : Site
    s = node.s

    -- if nothing is due, the node stays as it is
    still : slice_get (due_of sc w) 0 ≡ None → (first_run sc (suc n)).sites ≡ w.sites → NodeAt sc name (suc n)
    still nothing same =
        let silent : given_next sc name w ≡ [] = given-none sc name w nothing in
        record {
          s = s;
          there = ap (λ sites. slice_get (of_kind me sites) i) same ∙ node.there;
          how = elim node.how [
            | inl u ↦ inl (underway-same silent (record { core = refl; ahead = refl }) u)
            | inr d ↦ inr (done-same s silent (omega arith) d)
          ];
        }

    -- an event is not given to a node that is done
    when-done : (d : Due) → slice_get (due_of sc w) 0 ≡ Some d → (first_run sc (suc n)).sites ≡ (happens sc w d).sites → IsDone sc name n s → NodeAt sc name (suc n)
    when-done d first is over =
        let due : IsDue w d = first-due sc n first in
        let silent : given_next sc name w ≡ [] =
        given-by sc name w first due.there refl (after-end sc name w node.there over.after)
        ∙ and-none (is_node me i d.side d.node) (event_of sc w.ports d.side d.node due.s.core d.pending ∷ []) [] in
        let up : Rises sc w d me i s = rises sc w d me i node.there in
        record {
          s = up.z;
          there = ap (λ sites. slice_get (of_kind me sites) i) is ∙ up.there;
          how = inr (done-same up.z silent up.frame over);
        }

    underway : (d : Due) → slice_get (due_of sc w) 0 ≡ Some d → (first_run sc (suc n)).sites ≡ (happens sc w d).sites → Underway sc name n s → (b : Bool) → is_node me i d.side d.node ≡ b → NodeAt sc name (suc n)
    underway d first is u true own =
        let its = node-is me d.side i d.node own in
        let d_is : d ≡ record { side = me; node = i; pending = d.pending } =
        ap (λ y. let x : Due = record { side = y; node = d.node; pending = d.pending } in x) its.0 ∙ ap (λ j. let x : Due = record { side = me; node = j; pending = d.pending } in x) its.1 in
        own-step d.pending lawful none good node.there u (first ∙ ap Some d_is) (is ∙ ap (λ d. (happens sc w d).sites) d_is)
    underway d first is u false own =
        let due : IsDue w d = first-due sc n first in
        let silent : given_next sc name w ≡ [] = given-by sc name w first due.there own (before-end sc name w node.there u.before) in
        let apart : Elsewhere sc w d me i s = elsewhere sc w d me i node.there own in
        record {
          s = apart.z;
          there = ap (λ sites. slice_get (of_kind me sites) i) is ∙ apart.there;
          how = inl (underway-same silent apart.unmoved u);
        }

    by : StepSites sc n → NodeAt sc name (suc n)
    by (Still nothing same) = still nothing same
    by (Taken d first is) = elim node.how [
      | inl u ↦ underway d first is u (is_node me i d.side d.node) refl
      | inr over ↦ when-done d first is over
    ]
