-- For the law that events are rounds: what a tick and an arrival are to all that the nodes have
-- told.
use Rattle.std.proofs.{Common.{◌≡◌, ℕ, ◌+◌, ◌-◌, ◌*◌, ◌<◌, ◌≤◌, ◌&&◌, ◌⊎◌, Bool, true, false, List, refl, ap, sym, ◌∙◌, subst, arith, inl, inr, Option, Some, None, slice_get, option_map}, Math.Path.fun_ext}
use Rattle.rb_base.specs.{Nodes.Side, Nodes.Side.Biu}
use Rattle.rb_base.proofs.Plain.{option_map-back}
use Rattle.rb_rules.specs.{declared.message.Message.Message, Book.{Begun, Each, of_kind}, Core.Act, Goodness.Scenario, Hearing.Coming, Lawful.IsLawful, Ports.{HandIn, PortState}, Rounds.{Moment, moment, windows_in}, WorldStep.{Site, Timed, after_act, after_arrival, at_node, with_message}}
use Rattle.rb_rules.proofs.WindowNumbers.{length-each}
use Rattle.rb_laws_events.proofs.{Completing.EventAt, DueEvents.every-weaker, Invariant.next_stage, MomentBooks.number-of, MomentSteps.{NextIsStage, next-is-stage}, NodeActs.HasRoom, PortsInRounds.{AllHanded, PortsStand, begun-is}, StageOrder.{last-same, last_of}, Telling.first-window, Timing.{AreInTime, HavePassed}, ToldInOrder.{AllTold, NodeTold, all-told, near, number_at, one-changes, row-of-window, told-after}, ToldSoFar.arrival-keeps, Waiting.HasBegun, WorldEvents.AfterTick, WorldStands.{SitesStand, get-at, is_node, node-is, node-itself}, WorldTicks.{after_tick, get-after, kind-other, moved, reached, reached-not}}

-- after an event its node has the changed site
now-there : (sc : Scenario) (sites : Each Site) (me : Side) (i frame k : ℕ) (m : Option Message) (change : Site → Site) {s : _} → slice_get (of_kind me sites) i ≡ Some s
    → slice_get (of_kind me (with_message sc me i frame k m (at_node me i change sites))) i ≡ Some (change s)
now-there sc sites me i frame k m change {s} there =
    get-after sc me i frame k m change sites me i ∙ ap (option_map (after_tick sc me i frame k m change me i)) there
    ∙ ap (λ b. Some (reached sc me i frame k m me i (elim b as (λ _. Site) [ true ↦ change s | false ↦ s ]))) (node-itself me i)
    ∙ ap Some (reached-not sc me i frame k m me i (change s) (ap (λ x. x && (change s).runs) (kind-other me)))

-- A tick.

row-then : {sc hands at sites ports me i s a x row : _}
    → AfterTick sc hands at sites ports me i s a x → (after_act sc ports me i x s).row ≡ Some row → (s.row ≡ Some row) ⊎ (number_at sc.sizes row.place ≡ at me i)
row-then {sc} {hands} {at} {me} {i} {s} after e =
    elim after.node [
      | inl stays ↦ inl (sym (ap (λ (z : Site). z.row) stays.1.site) ∙ e)
      | inr closes ↦ row-of-window sc hands me i (at me i) after.st s after.stands.window after.frame (sym closes.1.0.row ∙ e)
    ]

begun-at-first : {sc : Scenario} {hands : List HandIn} {at : Side → ℕ → ℕ} {sites : Each Site} {ports : List PortState} {me : Side} {i : ℕ} {s : Site} {a : Timed} {x : Act} {b : Begun}
    → HasRoom sc.plan → 1 ≤ sc.plan.h → (after : AfterTick sc hands at sites ports me i s a x) → (after_act sc ports me i x s).begun ≡ Some b
    → (s.begun ≡ Some b) ⊎ ((b.frame * (windows_in sc.sizes + 1) ≡ at me i) × (moved me i after.r at me i ≡ at me i))
begun-at-first {sc} {hands} {at} {me} {i} {b} room some after e =
    let p : ℕ = at me i in
    let m : Moment = moment sc hands p in
    elim ((begun-is after).1 b e) [
      | inr old ↦ inl old
      | inl new ↦
          let first : m.window ≡ 0 = first-window m.window room.ticks after.stands.window after.stands.at new.1 in
          let number = number-of sc hands p in
          let f : b.frame * (windows_in sc.sizes + 1) ≡ m.frame * (windows_in sc.sizes + 1) = ap (λ f. f * (windows_in sc.sizes + 1)) new.0 in
          let moved_is : moved me i after.r at me i ≡ after.r = ap (λ b. elim b as (λ _. ℕ) [ true ↦ after.r | false ↦ at me i ]) (node-itself me i) in
          let stays : after.r ≡ p = elim after.node [
            | inl stays ↦ stays.0
            | inr closes ↦
                let last : last_of sc.sizes sc.plan me after.st m.window ≡ m.window * sc.plan.l + sc.plan.l - 1 = last-same sc.sizes sc.plan me after.st m.window (omega (arith, first)) in
                let zero_l : m.window * sc.plan.l ≡ 0 * sc.plan.l = ap (λ w. w * sc.plan.l) first in
                let long : sc.plan.h < sc.plan.l = room.inside.in_l in
                absurd (omega (arith, closes.1.1.1, new.1, last, zero_l, long, some))
          ] in
          inr (omega (arith, f, number.0, first), moved_is ∙ stays)
    ]

pub tick-at : {sc hands now at sites ports me i s a x : _}
    → IsLawful sc → HasRoom sc.plan → AreInTime sc hands at → HavePassed sc hands now at → SitesStand sc hands now at sites → AllTold sc hands at sites
    → slice_get (of_kind me sites) i ≡ Some s → s.runs ≡ true → s.ahead ≡ Some a → (after : AfterTick sc hands at sites ports me i s a x)
    → EventAt sc hands at (moved me i after.r at) sites (with_message sc me i x.core.state.frame a.tick x.message (at_node me i (after_act sc ports me i x) sites))
tick-at {sc} {hands} {now} {at} {sites} {ports} {me} {i} {s} {a} {x} lawful room times passed stand told there runs pend after =
    let p : ℕ = at me i in
    let m : Moment = moment sc hands p in
    let next : NextIsStage sc hands p = next-is-stage sc hands p after.stands.window in
    let later : p < next_stage sc.sizes m p = next.later in
    let change : Site → Site = after_act sc ports me i x in
    let frame : ℕ = x.core.state.frame in
    let P : Side → ℕ → ℕ → Site → Type 0 = λ side j q z. q ≤ next_stage sc.sizes m p in
    let own : after.r ≤ next_stage sc.sizes m p = elim after.node [
      | inl stays ↦ omega (arith, stays.0, later)
      | inr closes ↦ elim closes.1.0.place [ inl stage ↦ omega (arith, stage, closes.1.1.0) | inr tail ↦ omega (arith, tail.0, closes.1.1.0, later) ]
    ] in
    record {
      me = me;
      i = i;
      s = s;
      change = change;
      frame = frame;
      tick = a.tick;
      message = x.message;
      there = there;
      now_there = now-there sc sites me i frame a.tick x.message change there;
      is = refl;
      row = λ row e. row-then after e;
      begun = λ b e. begun-at-first room lawful.plan.h.0 after e;
      near = one-changes P sc at sites me i frame a.tick after.r x.message change (λ side j q z h. h) there own
          (λ side j z other e. near sc hands now at sites room.ticks times passed stand me i s there runs side j z (told side j z e));
      told = all-told frame a.tick x.message change there (told-after pend after (told me i s there)) told;
      counts = after.sites_stand.counts;
    }

-- An arrival.

pub moved-same : (me : Side) (i : ℕ) (at : Side → ℕ → ℕ) → moved me i (at me i) at ≡ at
moved-same me i at = fun_ext (λ side. fun_ext (λ j. by side j (is_node me i side j) refl))
  where
    by : (side : Side) (j : ℕ) (b : Bool) → is_node me i side j ≡ b → (elim b as (λ _. ℕ) [ true ↦ at me i | false ↦ at side j ]) ≡ at side j
    by side j true e = let is = node-is me side i j e in sym (ap (λ y. at y j) is.0 ∙ ap (at me) is.1)
    by side j false e = refl

told-arrival : {sc hands me i p : _} (n : ℕ) (c : Coming) {s : _} → NodeTold sc hands me i p s → NodeTold sc hands me i p (after_arrival sc me i n c s)
told-arrival {sc} {me} {i} n c {s} h =
    let same = arrival-keeps sc me i n c s in
    record {
      row = λ row e. h.row row (sym same.0 ∙ e);
      begun = λ b e. h.begun b (sym same.1.0 ∙ e);
      fresh = λ b a st e frame first ahead state. h.fresh b a st (sym same.1.0 ∙ e) frame first (sym same.1.1.0 ∙ ahead) state;
      was_good = h.was_good;
    }

pub arrival-at : {sc : Scenario} {hands : List HandIn} {now : ℕ} {at : Side → ℕ → ℕ} {sites : Each Site} (me : Side) (i n : ℕ) (c : Coming) {s : Site}
    → HasRoom sc.plan → AreInTime sc hands at → HavePassed sc hands now at → SitesStand sc hands now at sites → AllTold sc hands at sites
    → slice_get (of_kind me sites) i ≡ Some s → s.runs ≡ true → EventAt sc hands at at sites (at_node me i (after_arrival sc me i n c) sites)
arrival-at {sc} {hands} {now} {at} {sites} me i n c {s} room times passed stand told there runs =
    let p : ℕ = at me i in
    let m : Moment = moment sc hands p in
    let change : Site → Site = after_arrival sc me i n c in
    let P : Side → ℕ → ℕ → Site → Type 0 = λ side j q z. q ≤ next_stage sc.sizes m p in
    let all : (side : Side) (j : ℕ) (z : Site) → slice_get (of_kind side sites) j ≡ Some z → at side j ≤ next_stage sc.sizes m p =
    λ side j z e. near sc hands now at sites room.ticks times passed stand me i s there runs side j z (told side j z e) in
    let same = arrival-keeps sc me i n c s in
    record {
      me = me;
      i = i;
      s = s;
      change = change;
      frame = 0;
      tick = 0;
      message = None;
      there = there;
      now_there = now-there sc sites me i 0 0 None change there;
      is = refl;
      row = λ row e. inl (sym same.0 ∙ e);
      begun = λ b e. inl (sym same.1.0 ∙ e);
      near = subst (λ at2. (side : Side) (j : ℕ) (z : Site) → slice_get (of_kind side (at_node me i change sites)) j ≡ Some z → at2 side j ≤ next_stage sc.sizes m p) (moved-same me i at)
          (one-changes P sc at sites me i 0 0 p None change (λ side j q z h. h) there (all me i s there) (λ side j z other e. all side j z e));
      told = subst (λ at2. AllTold sc hands at2 (at_node me i change sites)) (moved-same me i at)
          (all-told 0 0 None change there (told-arrival n c (told me i s there)) told);
      counts = λ side. length-each (λ side n s. elim (is_node me i side n) as (λ _. Site) [ true ↦ change s | false ↦ s ]) sites side ∙ stand.counts side;
    }

-- an arrival changes neither whether a node runs nor what it has begun
pub arrival-site : (sc : Scenario) (sites : Each Site) (me : Side) (i n : ℕ) (c : Coming) (side : Side) (j : ℕ) {z : _}
    → slice_get (of_kind side (at_node me i (after_arrival sc me i n c) sites)) j ≡ Some z
    → (old : Site) × ((slice_get (of_kind side sites) j ≡ Some old) × ((z.runs ≡ old.runs) × (z.begun ≡ old.begun)))
arrival-site sc sites me i n c side j {z} e =
    let change : Site → Site = after_arrival sc me i n c in
    let was = option_map-back (λ s. elim (is_node me i side j) as (λ _. Site) [ true ↦ change s | false ↦ s ]) (slice_get (of_kind side sites) j) z (sym (get-at me side i j change sites) ∙ e) in
    (was.0, (was.1.0, by was.0 z (is_node me i side j) was.1.1))
  where
    by : (old z : Site) (b : Bool) → (elim b as (λ _. Site) [ true ↦ after_arrival sc me i n c old | false ↦ old ]) ≡ z → (z.runs ≡ old.runs) × (z.begun ≡ old.begun)
    by old z true e =
        let same = arrival-keeps sc me i n c old in
        (ap (λ (s : Site). s.runs) (sym e) ∙ same.1.1.1, ap (λ (s : Site). s.begun) (sym e) ∙ same.1.0)
    by old z false e = (ap (λ (s : Site). s.runs) (sym e), ap (λ (s : Site). s.begun) (sym e))

-- an arrival changes no ports
pub ports-arrival : (sc : Scenario) (hands : List HandIn) (at : Side → ℕ → ℕ) (sites : Each Site) (ports : List PortState) (me : Side) (i n : ℕ) (c : Coming)
    → PortsStand sc hands at sites ports → PortsStand sc hands at (at_node me i (after_arrival sc me i n c) sites) ports
ports-arrival sc hands at sites ports me i n c stand j z e runs =
    let old = arrival-site sc sites me i n c Biu j e in
    stand j old.0 old.1.0 (sym old.1.1.0 ∙ runs)

pub handed-arrival : (sc : Scenario) (sites : Each Site) (me : Side) (i n : ℕ) (c : Coming) (all : List HandIn)
    → AllHanded sc sites all → AllHanded sc (at_node me i (after_arrival sc me i n c) sites) all
handed-arrival sc sites me i n c all h =
    every-weaker (λ h. HasBegun sc sites h.frame) (λ h. HasBegun sc (at_node me i (after_arrival sc me i n c) sites) h.frame)
    (λ h begun side j z e good.
    let old = arrival-site sc sites me i n c side j e in
    let b = begun side j old.0 old.1.0 good in
    (b.0, (old.1.1.1 ∙ b.1.0, b.1.1))) all h
