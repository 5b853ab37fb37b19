-- For the law that events are rounds: one due event keeps the whole invariant, as long as the nodes
-- are in time where they stand and where the node of the event stands next.
use Rattle.std.proofs.{Common.{◌≡◌, ℕ, zero, suc, ◌<◌, ◌≤◌, ◌&&◌, not, Bool, true, false, List, length, refl, ap, sym, ◌∙◌, subst, arith, Option, Some, None, slice_get}, lemmas.Option.same_Some}
use Rattle.rb_base.specs.Nodes.{Side, other}
use Rattle.rb_rules.specs.{Book.{Book, Record, of_kind}, Goodness.{Scenario, clock_of, is_good}, Lawful.IsLawful, Ports.HandIn, Rounds.moment, Clock.time_of, Slots.count_of, WorldStep.{Due, Pending, Site, Timed, Way, World, due_of, happens, is_complete, needs_no_event, record_since, settle, settle_next, take, take_if_due, with_act, with_pending}, WorldStep.Pending.{Tick, Arrival}, WorldStep.Way.ByAnEvent}
use Rattle.rb_laws_events.specs.Closing.{stages_in}
use Rattle.rb_laws_events.proofs.{Behind.{WaitsAt, closes-before, runs-there, waits-at}, Pace.{Bound, IsWithin, Paced, event-paced}, ToldSoFar.AllHaveTold, UpToThere.UpTo, Completing.event-settled, SettledOnce.{Settled, next-eta}, DueEvents.{IsDue, IsReady}, NodeActs.HasRoom, Invariant.is_good_at, MomentSteps.{NextIsStage, next-is-stage}, PortsInRounds.{AllHanded, PortsStand}, RoundNodes.{item-at, slot_numbered}, SettlingFrames.{IsOfMoment, TellRounds, all-settled, next-hands}, Timing.{AreInTime, HavePassed}, ToldInOrder.AllTold, Waiting.is_due, WorldBooks.happens-book, WorldNodes.settle-sites, WorldStands.{AllPend, IsUp, SitesStand, sent_by}, OneEvent.{AfterEvent, ClosesEarlier, MayHappen, WorldInRounds, all-pend, happens-is, pending-happens, up-there}}
use Rattle.rb_laws_agreement.proofs.Goodnesses.{good_counts}

pub settle-hands : (sc : Scenario) (way : Way) (n : ℕ) (w : World) → (settle sc way n w).hands ≡ w.hands
settle-hands sc way zero w = refl
settle-hands sc way (suc n) w = by (record_since w (settle_next sc way w)) (settle-hands sc way n (settle_next sc way w) ∙ next-hands sc way w)
  where
    by : (r : Option Record) → (settle sc way n (settle_next sc way w)).hands ≡ w.hands
        → (elim r as (λ _. World) [ None ↦ settle sc way n (settle_next sc way w) | Some r ↦ record (settle_next sc way w) { turn = Some r } ]).hands ≡ w.hands
    by None rest = rest
    by (Some r) rest = next-hands sc way w

happens-hands : (sc : Scenario) (w : World) (d : Due) → (happens sc w d).hands ≡ w.hands
unfolding happens with_act
happens-hands sc w d = by (slice_get (of_kind d.side w.sites) d.node)
  where
    pending : (s : Site) (p : Pending) → (with_pending sc w d.side d.node s p).hands ≡ w.hands
    pending s (Tick k) = refl
    pending s (Arrival place c) = refl

    by : (o : Option Site) → (elim o as (λ _. World) [ None ↦ w | Some s ↦ with_pending sc w d.side d.node s d.pending ]).hands ≡ w.hands
    by None = refl
    by (Some s) = pending s d.pending

pub take-hands : (sc : Scenario) (w : World) (i : ℕ) → (take sc w i).hands ≡ w.hands
unfolding take
take-hands sc w i = by (slice_get (due_of sc w) i)
  where
    by : (o : Option Due) → (take_if_due sc w o).hands ≡ w.hands
    by None = refl
    by (Some d) = settle-hands sc ByAnEvent 2 (happens sc w d) ∙ happens-hands sc w d

-- a world that stands in the rounds, in some moments, at some time
pub record StandsInRounds (sc : Scenario) (w : World) : Type 0 where
  pub now : ℕ
  pub at : Side → ℕ → ℕ
  pub stands : WorldInRounds sc now at w

pub settle-ports : (sc : Scenario) (way : Way) (n : ℕ) (w : World) → (settle sc way n w).ports ≡ w.ports
settle-ports sc way zero w = refl
settle-ports sc way (suc n) w = by (record_since w (settle_next sc way w)) (settle-ports sc way n (settle_next sc way w) ∙ next-ports)
  where
    next-ports : (settle_next sc way w).ports ≡ w.ports
    next-ports = ap (λ (w : World). w.ports) (next-eta sc way w)

    by : (r : Option Record) → (settle sc way n (settle_next sc way w)).ports ≡ w.ports
        → (elim r as (λ _. World) [ None ↦ settle sc way n (settle_next sc way w) | Some r ↦ record (settle_next sc way w) { turn = Some r } ]).ports ≡ w.ports
    by None rest = rest
    by (Some r) rest = next-ports

-- what is settled changes the book and the turn alone
pub settled-stands : {sc : Scenario} {now : ℕ} {at : Side → ℕ → ℕ} (x : World) {y : World} {hands : List HandIn} → y.sites ≡ x.sites → y.hands ≡ hands → y.ports ≡ x.ports
    → SitesStand sc hands now at x.sites → HavePassed sc hands now at → TellRounds sc hands x.sites → AllTold sc hands at x.sites → IsOfMoment sc hands y.book
    → length x.ports ≡ sc.sizes.bius → PortsStand sc hands at x.sites x.ports → AllHanded sc x.sites hands → Settled sc at y → AllHaveTold sc hands at x.sites → Bound sc at x.sites y.book
    → WorldInRounds sc now at y
settled-stands {sc} {now} {at} x {y} {hands} same_sites same_hands same_ports sites passed tell told book many ports handed settled so_far bound = record {
  sites = subst (λ hs. SitesStand sc hs now at y.sites) (sym same_hands) (subst (SitesStand sc hands now at) (sym same_sites) sites);
  passed = subst (λ hs. HavePassed sc hs now at) (sym same_hands) passed;
  tell = subst (λ hs. TellRounds sc hs y.sites) (sym same_hands) (subst (TellRounds sc hands) (sym same_sites) tell);
  told = subst (λ hs. AllTold sc hs at y.sites) (sym same_hands) (subst (AllTold sc hands at) (sym same_sites) told);
  book = subst (λ hs. IsOfMoment sc hs y.book) (sym same_hands) book;
  many = ap length same_ports ∙ many;
  ports = subst (λ hs. PortsStand sc hs at y.sites y.ports) (sym same_hands)
      (subst (λ sites. PortsStand sc hands at sites y.ports) (sym same_sites) (subst (PortsStand sc hands at x.sites) (sym same_ports) ports));
  handed = subst (λ hs. AllHanded sc y.sites hs) (sym same_hands) (subst (λ sites. AllHanded sc sites hands) (sym same_sites) handed);
  settled = settled;
  so_far = subst (λ hs. AllHaveTold sc hs at y.sites) (sym same_hands) (subst (AllHaveTold sc hands at) (sym same_sites) so_far);
  bound = subst (λ sites. Bound sc at sites y.book) (sym same_sites) bound;
}

pub is-paced : {sc now at w : _} → WorldInRounds sc now at w → Paced sc at w.sites w.book
is-paced {sc} {w} h = record {
  bound = h.bound;
  waits = λ going needs. not-complete (needs_no_event sc w.book.upcoming) (is_complete sc w.sites w.book.upcoming) needs (h.settled.waits going);
}
  where
    not-complete : (a b : Bool) → a ≡ false → (not a && b) ≡ false → b ≡ false
    not-complete true b e h = cc
    not-complete false b e h = h

-- what waits in a world if the next record needs an event
pub world-waits : {sc now at w : _} → WorldInRounds sc now at w → w.book.ended ≡ false → needs_no_event sc w.book.upcoming ≡ false
    → (n : ℕ) × WaitsAt sc w.hands at w.sites w.book n
world-waits h going needs =
    waits-at h.sites h.so_far (is-paced h) going needs h.book

-- the nodes are in time where they stand
pub are-in-time : {sc now at w n : _} → WorldInRounds sc now at w → MayHappen sc at w n
    → AreInTime sc w.hands at
are-in-time {sc} {now} {at} {w} {n} h may =
    let hands : List HandIn = w.hands in
    let site : (me : Side) (i frame slot : ℕ) → is_good sc me i frame slot ≡ true → (s : Site) × (slice_get (of_kind me w.sites) i ≡ Some s) =
    λ me i frame slot good.
    let counted : i < count_of me sc.sizes = good_counts sc me i frame slot good in
    let long : length (of_kind me w.sites) ≡ count_of me sc.sizes = h.sites.counts me in
    item-at (of_kind me w.sites) i (omega arith) in
    let within : (me : Side) (i : ℕ) → is_good_at sc (moment sc hands (at me i)) me i ≡ true → (at me i ≤ n) × ((moment sc hands (at me i)).window ≤ stages_in sc.sizes) =
    λ me i good.
    let s = site me i (moment sc hands (at me i)).frame (slot_numbered sc.sizes (moment sc hands (at me i)).window) good in
    let up : IsUp sc hands (sent_by sc hands at w.sites) now me i (at me i) s.0 = h.sites.up me i s.0 s.1 (runs-there h.sites me i s.1 good) in
    (may.bound me i s.0 s.1, up.stands.stands.window) in
    record {
      each = λ me i good. let in_it = within me i good in may.up_to.times (at me i) in_it.0 in_it.1;
      later = λ me i j st there good is source.
          let in_it = within me i good in
          let next : NextIsStage sc hands (at me i) = next-is-stage sc hands (at me i) in_it.1 in
          let z = site (other me) j _ _ source in
          let le : at (other me) j ≤ n = may.bound (other me) j z.0 z.1 in
          may.up_to.later (at me i) (omega (arith, le, is, next.later)) in_it.1 me i j st there good source;
    }

-- a world that stands in the rounds, no node being beyond moment n
pub record StandsUpTo (sc : Scenario) (hands : List HandIn) (n : ℕ) (w : World) : Type 0 where
  pub stands : StandsInRounds sc w
  pub hands_are : w.hands ≡ hands
  pub bound : (me : Side) (i : ℕ) (s : Site) → slice_get (of_kind me w.sites) i ≡ Some s → stands.at me i ≤ n

-- if the next record needs an event, no event closes the window of the moment at which the book
-- waits
pub closes-earlier : {sc now at w n d : _} → IsLawful sc → WorldInRounds sc now at w → WaitsAt sc w.hands at w.sites w.book n
    → UpTo sc w.hands n → (due : IsDue w d) → ClosesEarlier sc w.hands at n d.side d.node d.pending
closes-earlier {sc} {now} {at} {w} {n} {d} lawful h waits up_to due = by d.pending due.ready
  where
    by : (p : Pending) → IsReady due.t due.s p → ClosesEarlier sc w.hands at n d.side d.node p
    by (Arrival place c) ready = tt
    by (Tick k) ready = λ st e last.
        let me : Side = d.side in
        let i : ℕ = d.node in
        let s : Site = due.s in
        let a : Timed = ready.0 in
        let up : IsUp sc w.hands (sent_by sc w.hands at w.sites) now me i (at me i) s = up-there w me i h.sites due.there ready.1.0 in
        let same : up.a ≡ a = same_Some up.a a (sym up.stands.receives.pends ∙ ready.1.0) in
        let later : now ≤ a.time = subst (λ (b : Timed). now ≤ b.time) same up.stands.receives.tick_after in
        let at_time : a.time ≡ time_of (clock_of sc me i) a.tick = subst (λ (b : Timed). b.time ≡ time_of (clock_of sc me i) b.tick) same up.stands.receives.at_time in
        closes-before lawful later h.sites h.passed (subst (λ t. AllPend t w.sites) (sym ready.1.1.1.0) (all-pend w due.t due.first)) waits.stage waits.behind
        (λ q lt within. up_to.times q (omega arith) within) up_to.well refl
        (record { st = st; state = e; good = up.stands.good; time = at_time ∙ ap (time_of (clock_of sc me i)) (ready.1.1.0 ∙ last) }) (waits.bound me i s due.there)

-- a due event that is taken keeps the world in the rounds, and leaves the book one of the rounds
pub take-keeps : {sc now at w d : _} → IsLawful sc → HasRoom sc.plan → WorldInRounds sc now at w
    → {n : ℕ} → MayHappen sc at w n → w.book.ended ≡ false → (due : IsDue w d) → ClosesEarlier sc w.hands at n d.side d.node d.pending
    → StandsUpTo sc w.hands n (take_if_due sc w (Some d))
take-keeps {sc} {now} {at} {w} {d} lawful room h {n} may going due early =
    let x : World = happens sc w d in
    let y : World = settle sc ByAnEvent 2 x in
    let times : AreInTime sc w.hands at = are-in-time h may in
    let event : AfterEvent sc at w n due.t (with_pending sc w d.side d.node due.s d.pending) =
    pending-happens d.side d.node d.pending lawful room times h may early due.there due.ready (all-pend w due.t due.first) in
    let after : AfterEvent sc at w n due.t x = subst (AfterEvent sc at w n due.t) (sym (happens-is sc w d due.there)) event in
    let same_book : x.book ≡ w.book = happens-book sc w d in
    let is : IsOfMoment sc w.hands x.book = subst (IsOfMoment sc w.hands) (sym same_book) h.book in
    let waits : is_due sc w.sites x.book.upcoming ≡ false = ap (λ (b : Book). is_due sc w.sites b.upcoming) same_book ∙ h.settled.waits going in
    let within : Bound sc after.now_at x.sites x.book =
    λ going me i s there. subst (λ (b : Book). IsWithin sc.sizes b.upcoming (after.now_at me i)) (sym same_book) (may.within (after.now_at me i) (after.bound me i s there)) in
    let paced : Paced sc after.now_at x.sites y.book = event-paced x lawful.sizes refl after.sites.counts after.event.told within in
    let same_sites : y.sites ≡ x.sites = settle-sites sc ByAnEvent 2 x in
    let same_hands : y.hands ≡ w.hands = settle-hands sc ByAnEvent 2 x ∙ after.hands in
    record {
      stands = record {
        now = due.t;
        at = after.now_at;
        stands = settled-stands x same_sites same_hands (settle-ports sc ByAnEvent 2 x)
            after.sites after.passed after.tell after.event.told (all-settled ByAnEvent 2 x room.ticks after.hands refl after.tell is) after.many after.ports after.handed
            (event-settled x after.event (ap (λ (b : Book). b.ended) same_book ∙ going) is waits) after.so_far paced.bound;
      };
      hands_are = same_hands;
      bound = λ me i s there. after.bound me i s (ap (λ sites. slice_get (of_kind me sites) i) (sym same_sites) ∙ there);
    }
