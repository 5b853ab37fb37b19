-- For the law that events are rounds: what holds in every world in which all nodes stand in the
-- rounds, and one event in it.
use Rattle.std.proofs.{Common.{◌≡◌, ℕ, ◌<◌, ◌≤◌, Bool, true, false, List, [], ◌∷◌, ◌++◌, flat_map, length, length-set, option_and_then, refl, ap, sym, ◌∙◌, subst, arith, inl, inr, Option, Some, None, slice_get}, lemmas.Option.{none-some, same_Some}}
use Rattle.std.specs.Prelude.{⊤}
use Rattle.rb_base.specs.{Nodes.Side, Nodes.Side.{Biu, Rmu}, declared.values.Delivery.Delivery}
use Rattle.rb_rules.specs.{declared.closing.Closed.Closed, Book.{Begun, Row, in_order, of_kind}, Core.Act, Goodness.{Scenario, clock_of}, Hearing.{Coming, port_at, port_line}, Lawful.IsLawful, Plan.{longest_of, shortest_of}, Ports.{HandIn, PortState, delivered_to}, Rounds.moment, Clock.time_of, NodeState.NodeState, WorldStep.{Due, Pending, Site, Timed, World, after_act, after_arrival, at_node, happens, pass_and_tick, times_of, with_act, with_delivery, with_pending}, WorldStep.Pending.{Tick, Arrival}}
use Rattle.rb_laws_events.specs.Closing.{stages_in}
use Rattle.rb_laws_events.proofs.{Behind.pend-of, Pace.{Bound, IsWithin}, ToldSoFar.{AllHaveTold, all-have-told, so-far-after, so-far-arrival}, UpToThere.{UpTo, next-le, next-up-to}, CloseOrder.shortest-some, Completing.EventAt, SettledOnce.Settled, DueEvents.{IsReady, every-at, every-back, every-front, every-unflat}, EventNodes.{arrival-at, arrival-site, handed-arrival, ports-arrival, tick-at}, NodeActs.HasRoom, Invariant.{last_tick, next_stage}, NodeEvents.{all-after, tick-after}, PendingLists.StandsAt, PortMoments.has-word, PortsInRounds.{AllHanded, PortsStand, handed-after, line-at-begin, ports-after}, Receiving.every-stands, RoundNodes.slot_numbered, SameHeard.Every, Settling.{RowOfRounds, RowsOfRounds}, SettlingFrames.{BegunInRounds, BegunOfRounds, IsOfMoment, TellRounds, ports_before}, Telling.{begun-then, closed-row, still-tell}, Timing.{AreInTime, HavePassed}, ToldInOrder.{AllTold, one-changes}, WorldEvents.{AfterTick, passed-on, tick-event}, WorldStands.{AllPend, IsDown, IsUp, SitesStand, arrival-keeps-world, sent_by}, WorldTicks.moved}
use Rattle.rb_rules.proofs.{Drift.HasLengths, Stamps.Moves}
use Rattle.rb_laws_agreement.proofs.FrameTimes.{good-clock}

-- the world stands in the rounds: each node in its moment, what they have told is what they tell
-- there, the book is a moment's, the ports of the nodes that run are those of the rounds, and what
-- comes next waits for a node
pub record WorldInRounds (sc : Scenario) (now : ℕ) (at : Side → ℕ → ℕ) (w : World) : Type 0 where
  pub sites : SitesStand sc w.hands now at w.sites
  pub passed : HavePassed sc w.hands now at
  pub tell : TellRounds sc w.hands w.sites
  pub told : AllTold sc w.hands at w.sites
  pub book : IsOfMoment sc w.hands w.book
  pub many : length w.ports ≡ sc.sizes.bius
  pub ports : PortsStand sc w.hands at w.sites w.ports
  pub handed : AllHanded sc w.sites w.hands
  pub settled : Settled sc at w
  pub so_far : AllHaveTold sc w.hands at w.sites
  pub bound : Bound sc at w.sites w.book

-- all that pends comes no earlier than a due event
pub all-pend : (w : World) (t : ℕ) → Every (λ u. t ≤ u) (flat_map times_of (in_order w.sites)) → AllPend t w.sites
unfolding AllPend
all-pend w t all = at
  where
    nodes : Every (λ s. Every (λ u. t ≤ u) (times_of s)) (w.sites.bius ++ w.sites.rmus)
    nodes = every-unflat (λ u. t ≤ u) times_of (in_order w.sites) all

    at : (me : Side) (i : ℕ) (s : Site) → slice_get (of_kind me w.sites) i ≡ Some s → Every (λ u. t ≤ u) (times_of s)
    at Biu i s e = every-at (λ s. Every (λ u. t ≤ u) (times_of s)) w.sites.bius i e (every-front (λ s. Every (λ u. t ≤ u) (times_of s)) w.sites.bius w.sites.rmus (every-unflat (λ u. t ≤ u) times_of (in_order w.sites) all))
    at Rmu i s e = every-at (λ s. Every (λ u. t ≤ u) (times_of s)) w.sites.rmus i e (every-back (λ s. Every (λ u. t ≤ u) (times_of s)) w.sites.bius w.sites.rmus (every-unflat (λ u. t ≤ u) times_of (in_order w.sites) all))

pub none-stands : (n : ℕ) (c : Coming) (cs : List Coming) → cs ≡ [] → StandsAt n c cs → ⊥
none-stands n c [] e s = s
none-stands n c (x ∷ xs) e s = cc

-- the clock of a good node moves
pub moves-of : {sc : _} → IsLawful sc → (me : Side) (i : ℕ) → HasLengths (shortest_of sc.plan) (longest_of sc.plan) (clock_of sc me i) → Moves (clock_of sc me i)
moves-of {sc} lawful me i lengths tick = let low = (lengths tick).0 in let some : 1 ≤ shortest_of sc.plan = shortest-some lawful in omega arith

tell-rows : {sc hands sites : _} → TellRounds sc hands sites → (me : Side) (i : ℕ) {s : _} → slice_get (of_kind me sites) i ≡ Some s
    → ((row : Row) → s.row ≡ Some row → RowOfRounds sc hands me i row) × ((b : Begun) → s.begun ≡ Some b → BegunInRounds sc hands me i b)
unfolding RowsOfRounds BegunOfRounds
tell-rows h me i {s} there = (λ row e. h.rows me i s row there e, λ b e. h.begun me i s b there e)

-- the nodes and the ports after an event; none is beyond moment n
pub record AfterEvent (sc : Scenario) (at : Side → ℕ → ℕ) (w : World) (n now : ℕ) (x : World) : Type 0 where
  pub now_at : Side → ℕ → ℕ
  pub sites : SitesStand sc w.hands now now_at x.sites
  pub passed : HavePassed sc w.hands now now_at
  pub tell : TellRounds sc w.hands x.sites
  pub event : EventAt sc w.hands at now_at w.sites x.sites
  pub many : length x.ports ≡ sc.sizes.bius
  pub ports : PortsStand sc w.hands now_at x.sites x.ports
  pub handed : AllHanded sc x.sites w.hands
  pub hands : x.hands ≡ w.hands
  pub so_far : AllHaveTold sc w.hands now_at x.sites
  pub bound : (side : Side) (j : ℕ) (z : Site) → slice_get (of_kind side x.sites) j ≡ Some z → now_at side j ≤ n

length-delivery : (sc : Scenario) (i : ℕ) (d : Option Delivery) (ports : List PortState) → length (with_delivery sc i d ports) ≡ length ports
length-delivery sc i None ports = refl
length-delivery sc i (Some d) ports = length-set ports i (delivered_to (port_at sc ports i) d.value)

-- an event may happen: all nodes are in time up to moment n, and none is beyond it
pub record MayHappen (sc : Scenario) (at : Side → ℕ → ℕ) (w : World) (n : ℕ) : Type 0 where
  pub stage : (moment sc w.hands n).window < stages_in sc.sizes
  pub bound : (me : Side) (i : ℕ) (s : Site) → slice_get (of_kind me w.sites) i ≡ Some s → at me i ≤ n
  pub within : (p : ℕ) → p ≤ n → IsWithin sc.sizes w.book.upcoming p
  pub up_to : UpTo sc w.hands n

abbrev pub ClosesEarlier : Scenario → List HandIn → (Side → ℕ → ℕ) → ℕ → Side → ℕ → Pending → Type 0
ClosesEarlier sc hands at n me i (Tick k) =
    (st : NodeState) → slice_get (of_kind me (moment sc hands (at me i)).nodes) i ≡ Some st → k ≡ last_tick sc (moment sc hands (at me i)) me st → at me i < n
ClosesEarlier sc hands at n me i (Arrival place c) = ⊤

-- a tick that happens leaves the world in the rounds
tick-happens : {sc : Scenario} {now : ℕ} {at : Side → ℕ → ℕ} {w : World} {n : ℕ} {me : Side} {i k t : ℕ} {s : Site} {a : Timed} → IsLawful sc → HasRoom sc.plan
    → AreInTime sc w.hands at → WorldInRounds sc now at w → MayHappen sc at w n → ClosesEarlier sc w.hands at n me i (Tick k) → slice_get (of_kind me w.sites) i ≡ Some s → s.ahead ≡ Some a → a.tick ≡ k → a.time ≡ t
    → Every (λ c. t < c.time) s.coming → AllPend t w.sites → AfterEvent sc at w n t (with_act sc w me i k (pass_and_tick sc w.ports me i k s.core))
unfolding with_act
tick-happens {sc} {now} {at} {w} {n} {me} {i} {k} {t} {s} {a} lawful room times h may early there pend tick time alone first =
    let hands : List HandIn = w.hands in
    let x : Act = pass_and_tick sc w.ports me i a.tick s.core in
    let runs : s.runs ≡ true = is-up s.runs refl in
    let up : IsUp sc hands (sent_by sc hands at w.sites) now me i (at me i) s = h.sites.up me i s there runs in
    let same : up.a ≡ a = same_Some up.a a (sym up.stands.receives.pends ∙ pend) in
    let later : now ≤ a.time = subst (λ (b : Timed). now ≤ b.time) same up.stands.receives.tick_after in
    let at_time : a.time ≡ time_of (clock_of sc me i) a.tick = subst (λ (b : Timed). b.time ≡ time_of (clock_of sc me i) b.tick) same up.stands.receives.at_time in
    let closes_early : (st : NodeState) → slice_get (of_kind me (moment sc hands (at me i)).nodes) i ≡ Some st → a.tick ≡ last_tick sc (moment sc hands (at me i)) me st → at me i < n =
    λ st e last. early st e (sym tick ∙ last) in
    let port : me ≡ Biu → port_at sc w.ports i ≡ port_at sc (moment sc hands (at me i)).ports i =
    λ e. h.ports i s (ap (λ y. slice_get (of_kind y w.sites) i) (sym e) ∙ there) runs ∙ ap (λ y. port_at sc (moment sc hands (at y i)).ports i) (sym e) in
    let after : AfterTick sc hands at w.sites w.ports me i s a x =
    tick-event lawful room times h.passed h.sites (record {
      there = there;
      runs = runs;
      pend = pend;
      alone = subst (λ t. Every (λ c. t < c.time) s.coming) (sym time) alone;
      first = subst (λ t. AllPend t w.sites) (sym time) first;
      later = later;
      word = λ st e. has-word sc w.ports (moment sc hands (at me i)) me i st port;
      next = λ st e last. next-up-to (at me i) may.up_to may.stage (closes_early st e last) up.stands.stands.window;
    }) in
    let before = tell-rows h.tell me i there in
    let line : (moment sc hands (at me i)).window ≡ 0 → after.st.epoch ≡ a.tick → port_line me i (port_at sc w.ports i) ≡ port_line me i (port_at sc (ports_before sc hands (at me i)) i) =
    line-at-begin w.ports me i h.handed h.told h.ports there runs pend after.there after.good in
    let rows : (row : Row) → (after_act sc w.ports me i x s).row ≡ Some row → RowOfRounds sc hands me i row = λ row e. elim after.node [
      | inl stays ↦ before.0 row (sym (ap (λ (z : Site). z.row) stays.1.site) ∙ e)
      | inr closes ↦ closed-row sc hands me i (at me i) s after.stands.window after.there after.frame before.0 (sym closes.1.0.row ∙ e)
    ] in
    let begun : (b : Begun) → (after_act sc w.ports me i x s).begun ≡ Some b → BegunInRounds sc hands me i b = λ b e. elim after.node [
      | inl stays ↦
          begun-then sc hands w.ports i (at me i) x s.begun room after.there after.frame after.stands.window after.stands.keeps after.stands.at stays.1.act.epoch
          line before.1 (sym (ap (λ (z : Site). z.begun) stays.1.site) ∙ e)
      | inr closes ↦
          begun-then sc hands w.ports i (at me i) x s.begun room after.there after.frame after.stands.window after.stands.keeps after.stands.at closes.1.0.act.epoch
          line before.1 (sym closes.1.0.begun ∙ e)
    ] in
    let frame : ℕ = x.core.state.frame in
    let moves : after.r ≤ n = elim after.node [
      | inl stays ↦ let le : at me i ≤ n = may.bound me i s there in omega (arith, le, stays.0)
      | inr closes ↦
          let before : at me i < n = closes_early after.st after.there closes.1.1.1 in
          elim closes.1.0.place [
            | inl stage ↦
                let le : next_stage sc.sizes (moment sc hands (at me i)) (at me i) ≤ n = next-le sc hands (at me i) n after.stands.window may.stage before in
                omega (arith, le, stage, closes.1.1.0)
            | inr tail ↦ omega (arith, before, tail.0, closes.1.1.0)
          ]
    ] in
    let done : AfterEvent sc at w n a.time (with_act sc w me i a.tick x) = record {
      now_at = moved me i after.r at;
      sites = after.sites_stand;
      passed = after.passed;
      tell = still-tell me i frame a.tick x.message (after_act sc w.ports me i x) there rows begun h.tell;
      event = tick-at lawful room times h.passed h.sites h.told there runs pend after;
      many = length-delivery sc i (option_and_then (λ (c : Closed). c.delivered) x.closed) w.ports ∙ h.many;
      ports = ports-after frame a.tick x.message room.ticks h.many h.handed h.told there runs after h.ports;
      handed = handed-after frame a.tick x.message h.told there after hands h.handed;
      hands = refl;
      so_far = all-have-told frame a.tick x.message (after_act sc w.ports me i x) there
          (so-far-after pend after (h.so_far me i s there)) h.so_far;
      bound = one-changes (λ side j q z. q ≤ n) sc at w.sites me i frame a.tick after.r x.message (after_act sc w.ports me i x) (λ side j q z le. le) there moves
          (λ side j z other e. may.bound side j z e);
    } in
    subst (λ k. AfterEvent sc at w n t (with_act sc w me i k (pass_and_tick sc w.ports me i k s.core))) tick
    (subst (λ t. AfterEvent sc at w n t (with_act sc w me i a.tick (pass_and_tick sc w.ports me i a.tick s.core))) time done)
  where
    is-up : (b : Bool) → s.runs ≡ b → s.runs ≡ true
    is-up true e = e
    is-up false e = let down : IsDown sc w.hands me i (at me i) s = h.sites.down me i s there e in absurd (none-some a (sym down.ahead ∙ pend))

-- an arrival changes nothing of what the nodes have told
arrival-told : {sc hands sites : _} (me : Side) (i n : ℕ) (c : Coming) {s : _} → slice_get (of_kind me sites) i ≡ Some s
    → TellRounds sc hands sites → TellRounds sc hands (at_node me i (after_arrival sc me i n c) sites)
unfolding after_arrival
arrival-told {sc} me i n c there h =
    let before = tell-rows h me i there in
    still-tell me i 0 0 None (after_arrival sc me i n c) there before.0 before.1 h

arrival-happens : {sc : Scenario} {now : ℕ} {at : Side → ℕ → ℕ} {w : World} {most : ℕ} (me : Side) (i n : ℕ) {t : ℕ} (c : Coming) {s : Site} → IsLawful sc → HasRoom sc.plan
    → AreInTime sc w.hands at → WorldInRounds sc now at w → MayHappen sc at w most → slice_get (of_kind me w.sites) i ≡ Some s → StandsAt n c s.coming → c.time ≡ t → AllPend t w.sites
    → AfterEvent sc at w most t (record w { sites = at_node me i (after_arrival sc me i n c) w.sites })
arrival-happens {sc} {now} {at} {w} {most} me i n {t} c {s} lawful room times h may there stands time first =
    let hands : List HandIn = w.hands in
    let runs : s.runs ≡ true = is-up s.runs refl in
    let up : IsUp sc hands (sent_by sc hands at w.sites) now me i (at me i) s = h.sites.up me i s there runs in
    let later : now ≤ c.time = every-stands (λ c. now ≤ c.time) n s.coming stands up.stands.receives.coming_after in
    let pend : AllPend c.time w.sites = subst (λ t. AllPend t w.sites) (sym time) first in
    let own : Every (λ u. c.time ≤ u) (times_of s) = pend-of c.time w.sites pend me i s there in
    let lengths : HasLengths (shortest_of sc.plan) (longest_of sc.plan) (clock_of sc me i) =
    good-clock lawful me i (moment sc hands (at me i)).frame (slot_numbered sc.sizes (moment sc hands (at me i)).window) up.stands.good in
    let done : AfterEvent sc at w most c.time (record w { sites = at_node me i (after_arrival sc me i n c) w.sites }) = record {
      now_at = at;
      sites = arrival-keeps-world me i n c (moves-of lawful me i lengths) there runs later pend
          (λ a e. record { at = stands; least = all-after c.time s.ahead s.coming own; before_tick = tick-after c.time s.ahead s.coming e own }) h.sites;
      passed = passed-on c.time later h.passed;
      tell = arrival-told me i n c there h.tell;
      event = arrival-at me i n c room times h.passed h.sites h.told there runs;
      many = h.many;
      ports = ports-arrival sc hands at w.sites w.ports me i n c h.ports;
      handed = handed-arrival sc w.sites me i n c hands h.handed;
      hands = refl;
      so_far = so-far-arrival me i n c h.so_far;
      bound = λ side j z e. let old = arrival-site sc w.sites me i n c side j e in may.bound side j old.0 old.1.0;
    } in
    subst (λ t. AfterEvent sc at w most t (record w { sites = at_node me i (after_arrival sc me i n c) w.sites })) time done
  where
    is-up : (b : Bool) → s.runs ≡ b → s.runs ≡ true
    is-up true e = e
    is-up false e = let down : IsDown sc w.hands me i (at me i) s = h.sites.down me i s there e in absurd (none-stands n c s.coming down.coming stands)

-- a node with a pending tick runs
pub up-there : {sc now at : _} (w : World) (me : Side) (i : ℕ) {s a : _} → SitesStand sc w.hands now at w.sites
    → slice_get (of_kind me w.sites) i ≡ Some s → s.ahead ≡ Some a → IsUp sc w.hands (sent_by sc w.hands at w.sites) now me i (at me i) s
up-there {sc} {now} {at} w me i {s} {a} h there pend = by s.runs refl
  where
    by : (b : Bool) → s.runs ≡ b → IsUp sc w.hands (sent_by sc w.hands at w.sites) now me i (at me i) s
    by true e = h.up me i s there e
    by false e = let down : IsDown sc w.hands me i (at me i) s = h.down me i s there e in absurd (none-some a (sym down.ahead ∙ pend))

pub happens-is : (sc : Scenario) (w : World) (d : Due) {s : _} → slice_get (of_kind d.side w.sites) d.node ≡ Some s → happens sc w d ≡ with_pending sc w d.side d.node s d.pending
unfolding happens
happens-is sc w d {s} there = ap (λ o. elim o as (λ _. World) [ None ↦ w | Some s ↦ with_pending sc w d.side d.node s d.pending ]) there

pub pending-happens : {sc : Scenario} {now : ℕ} {at : Side → ℕ → ℕ} {w : World} {most : ℕ} (me : Side) (i : ℕ) {t : ℕ} {s : Site} (p : Pending) → IsLawful sc → HasRoom sc.plan
    → AreInTime sc w.hands at → WorldInRounds sc now at w → MayHappen sc at w most → ClosesEarlier sc w.hands at most me i p
    → slice_get (of_kind me w.sites) i ≡ Some s → IsReady t s p → AllPend t w.sites → AfterEvent sc at w most t (with_pending sc w me i s p)
pending-happens me i (Tick k) lawful room times h may early there ready first =
    tick-happens lawful room times h may early there ready.1.0 ready.1.1.0 ready.1.1.1.0 ready.1.1.1.1 first
pending-happens me i (Arrival n c) lawful room times h may early there ready first =
    arrival-happens me i n c lawful room times h may there ready.0 ready.1 first
