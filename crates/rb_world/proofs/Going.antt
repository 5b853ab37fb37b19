-- A node goes on to its next tick, or stops.
use Rattle.std.proofs.{Common.{◌≡◌, ℕ, zero, suc, ◌<◌, ◌≤◌, ◌==◌, ◌&&◌, not, Bool, true, false, Option, Some, None, List, [], ◌∷◌, ◌++◌, length, slice_get, refl, sym, ap, ◌∙◌, subst, arith, inl, inr}, lemmas.Bool.cases_lt, lemmas.Bool.Decides.nat_tests, lemmas.List.append-nil, lemmas.Option.slice_get_within}
use Rattle.std.specs.Prelude.{option_map, slice_set, unwrap_or}
use Rattle.rb_base.specs.{Nodes.{Side, has, other}, Nodes.Side.{Biu, Rmu}, Sizes.IsShape, declared.node.NodeName.NodeName}
use Rattle.rb_base.proofs.Sets.{has-set_of, has_above, set_of-lt}
use Rattle.rb_rules.specs.{Book.{Each, of_kind}, Clock.time_of, Core.{Core, next_tick}, Goodness.{Scenario, clock_of}, Hearing.{Coming, Span}, Lawful.kind_of, Links.name_of, Slots.count_of, WorldStep.{Site, Timed, World, at_node, await, says_in, stop}}
use Rattle.rb_queue.specs.Waiting.{HasLane, Held, empty_lane, lane_of, with_lane, with_tick, without_events}
use Rattle.rb_world_agenda.specs.Holding.{HoldsSite, HoldsSites}
use Rattle.rb_world_agenda.proofs.Changes.{holds-at, holds-nothing, holds-tick}
use Rattle.rb_world_book.specs.Holding.{Holds}
use Rattle.rb_port.specs.Keeping.{KeptPort}
use Rattle.rb_node.specs.Cores.{next_of}
use Rattle.rb_world.specs.{Sites.KeptSite, declared.scene.Scene.Scene, Buses.HaveRooms, Steps.{IsCoreAt, awaited, moved, stopped, without}, Worlds.{HoldsPorts, Surrounds, running_of}}
use Rattle.rb_laws_events.proofs.WorldStands.{is_node, node-is, not-other}
use Rattle.rb_world_traffic.specs.Arriving.{AreRunning, number_of}
use Rattle.rb_world.proofs.{Around.{Pends, book-kept}, Lanes.rooms-with, Sites.{at-same, at-twice, at_one, counts-one, holds-site, running-one, was-there}}
use Rattle.rb_base.specs.declared.node.NodeName.TheVariants as node

-- A node stops.

pub few-nodes : (sc : Scenario) (me : Side) → IsShape sc.sizes → count_of me sc.sizes ≤ 16
few-nodes sc Biu shape = shape.most_bius
few-nodes sc Rmu shape = shape.most_rmus

not-itself : (me : Side) (i n : ℕ) → is_node me i me n ≡ false → (n == i) ≡ false
not-itself Biu i n h = h
not-itself Rmu i n h = h

-- if a node stops, the running nodes of its kind are the others
running-without : (running : ℕ) (sites : Each Site) (me : Side) (i : ℕ) → length (of_kind me sites) ≤ 16 → AreRunning me running sites
    → AreRunning me (without running i) (at_node me i stop sites)
running-without running sites me i few runs n z e =
    let was = was-there me i stop sites me n z e in
    let lt = slice_get_within (of_kind me sites) n was.site was.there in
    let low : n < 16 = omega (arith, lt, few) in
    has-set_of n (λ k. not (k == i) && has running k) low ∙ by was.site was.there was.is (is_node me i me n) refl
  where
    by : (s : Site) → slice_get (of_kind me sites) n ≡ Some s → at_one me i stop me n s ≡ z → (b : Bool) → is_node me i me n ≡ b
        → (not (n == i) && has running n) ≡ z.runs
    by s there is true h =
        let same : (n == i) ≡ true = (let its = node-is me me i n h in grind (arith, nat_tests, its.1)) in
        let stopped : stop s ≡ z = sym (ap (λ b. elim b as (λ _. Site) [ true ↦ stop s | false ↦ s ]) h) ∙ is in
        ap (λ b. not b && has running n) same ∙ ap (λ (s : Site). s.runs) stopped
    by s there is false h =
        let apart : (n == i) ≡ false = not-itself me i n h in
        let kept : s ≡ z = sym (ap (λ b. elim b as (λ _. Site) [ true ↦ stop s | false ↦ s ]) h) ∙ is in
        ap (λ b. not b && has running n) apart ∙ runs n s there ∙ ap (λ (s : Site). s.runs) kept

-- if a node stops, the running nodes of the other kind stay the same
running-other : (side me : Side) (running : ℕ) (sites : Each Site) (i : ℕ) → ((n : ℕ) → is_node me i side n ≡ false) → AreRunning side running sites
    → AreRunning side running (at_node me i stop sites)
running-other side me running sites i apart runs n z e =
    let was = was-there me i stop sites side n z e in
    let kept : was.site ≡ z = sym (ap (λ b. elim b as (λ _. Site) [ true ↦ stop was.site | false ↦ was.site ]) (apart n)) ∙ was.is in
    runs n was.site was.there ∙ ap (λ (s : Site). s.runs) kept

-- `after` is the scene after node `i` has stopped
pub record Stops (me : Side) (i : ℕ) (before after : Scene) : Type 0 where
  pub lanes : after.agenda ≡ with_lane (name_of me i) (without_events (lane_of before.agenda (name_of me i))) before.agenda
  pub book : after.book ≡ before.book
  pub ports : after.ports.items ≡ before.ports.items
  pub own : running_of me after ≡ without (running_of me before) i
  pub others : running_of (other me) after ≡ running_of (other me) before

pub stop-around : (sc : Scenario) (before after : Scene) (w : World) (me : Side) (i : ℕ) → HasLane before.agenda (name_of me i) → Stops me i before after
    → Surrounds sc before w → Surrounds sc after (moved me i stop w)
stop-around sc before after w me i there stops is =
    let lane : Held = without_events (lane_of before.agenda (name_of me i)) in
    let few : length (of_kind me w.sites) ≤ 16 = subst (λ n. n ≤ 16) (sym (is.counts me)) (few-nodes sc me is.lanes.shape) in
    record {
      counts = λ side. counts-one me side i stop w.sites ∙ is.counts side;
      lanes = subst (λ ls. HoldsSites sc.sizes ls (at_node me i stop w.sites)) (sym stops.lanes)
          (holds-at sc.sizes before.agenda w.sites me i lane stop is.lanes there
          (λ s at h. holds-nothing sc.sizes me (lane_of before.agenda (name_of me i)) (stop s) refl refl));
      rooms = subst (HaveRooms sc) (sym stops.lanes) (rooms-with sc before.agenda (name_of me i) lane is.rooms there refl);
      book = subst (λ l. Holds sc l (moved me i stop w)) (sym stops.book) (book-kept sc before.book w me i stop (λ s. refl) (λ s. refl) is.book);
      ports = subst (λ (ps : List KeptPort). HoldsPorts sc ps w.ports) (sym stops.ports) is.ports;
      running = runs me stops.own stops.others few;
      within = inside me stops.own stops.others;
    }
  where
    second : (a b : Bool) → (a && b) ≡ true → b ≡ true
    second true b h = h
    second false b h = cc

    less : (me : Side) (r n : ℕ) → ((n : ℕ) → has r n ≡ true → n < count_of me sc.sizes) → has (without r i) n ≡ true → n < count_of me sc.sizes
    less me r n all h = elim (cases_lt n 16) [
      | inl lt ↦ all n (second (not (n == i)) (has r n) (sym (has-set_of n (λ k. not (k == i) && has r k) lt) ∙ h))
      | inr ge ↦ absurd (let never : false ≡ true = sym (has_above (without r i) n (set_of-lt (λ k. not (k == i) && has r k)) ge) ∙ h in cc)
    ]

    inside : (me : Side) → running_of me after ≡ without (running_of me before) i → running_of (other me) after ≡ running_of (other me) before
        → (side : Side) (n : ℕ) → has (running_of side after) n ≡ true → n < count_of side sc.sizes
    inside Biu e o Biu n h = less Biu before.running_biu n (is.within Biu) (subst (λ r. has r n ≡ true) e h)
    inside Biu e o Rmu n h = is.within Rmu n (subst (λ r. has r n ≡ true) o h)
    inside Rmu e o Biu n h = is.within Biu n (subst (λ r. has r n ≡ true) o h)
    inside Rmu e o Rmu n h = less Rmu before.running_rmu n (is.within Rmu) (subst (λ r. has r n ≡ true) e h)

    own : (me side : Side) → running_of me after ≡ without (running_of me before) i → length (of_kind me w.sites) ≤ 16 → side ≡ me
        → AreRunning side (running_of side after) (at_node me i stop w.sites)
    own me side e few same =
        subst (λ k. AreRunning k (running_of k after) (at_node me i stop w.sites)) (sym same)
        (subst (λ r. AreRunning me r (at_node me i stop w.sites)) (sym e) (running-without (running_of me before) w.sites me i few (is.running me)))

    far : (me : Side) → running_of (other me) after ≡ running_of (other me) before → AreRunning (other me) (running_of (other me) after) (at_node me i stop w.sites)
    far me e =
        subst (λ r. AreRunning (other me) r (at_node me i stop w.sites)) (sym e)
        (running-other (other me) me (running_of (other me) before) w.sites i (λ n. not-other me i n) (is.running (other me)))

    runs : (me : Side) → running_of me after ≡ without (running_of me before) i → running_of (other me) after ≡ running_of (other me) before
        → length (of_kind me w.sites) ≤ 16 → (side : Side) → AreRunning side (running_of side after) (at_node me i stop w.sites)
    runs Biu e o few Biu = own Biu Biu e few refl
    runs Biu e o few Rmu = far Biu o
    runs Rmu e o few Biu = far Rmu o
    runs Rmu e o few Rmu = own Rmu Rmu e few refl

-- What is pending at the node changes.

-- `after` is the scene with the new lane of node `i`
pub record Lanes (me : Side) (i : ℕ) (new : Held) (before after : Scene) : Type 0 where
  pub lanes : after.agenda ≡ with_lane (name_of me i) new before.agenda
  pub room : new.room ≡ (lane_of before.agenda (name_of me i)).room
  pub book : after.book ≡ before.book
  pub ports : after.ports.items ≡ before.ports.items
  pub biu : after.running_biu ≡ before.running_biu
  pub rmu : after.running_rmu ≡ before.running_rmu

pub lane-around : (sc : Scenario) (before after : Scene) (w : World) (me : Side) (i : ℕ) (new : Held) (change : Site → Site) → HasLane before.agenda (name_of me i)
    → Lanes me i new before after → Pends change
    → ((s : Site) → slice_get (of_kind me w.sites) i ≡ Some s → HoldsSite sc.sizes me (lane_of before.agenda (name_of me i)) s → HoldsSite sc.sizes me new (change s))
    → Surrounds sc before w → Surrounds sc after (moved me i change w)
lane-around sc before after w me i new change there lanes pends step is = record {
  counts = λ side. counts-one me side i change w.sites ∙ is.counts side;
  lanes = subst (λ ls. HoldsSites sc.sizes ls (at_node me i change w.sites)) (sym lanes.lanes)
      (holds-at sc.sizes before.agenda w.sites me i new change is.lanes there step);
  rooms = subst (HaveRooms sc) (sym lanes.lanes) (rooms-with sc before.agenda (name_of me i) new is.rooms there lanes.room);
  book = subst (λ l. Holds sc l (moved me i change w)) (sym lanes.book) (book-kept sc before.book w me i change pends.row pends.begun is.book);
  ports = subst (λ (ps : List KeptPort). HoldsPorts sc ps w.ports) (sym lanes.ports) is.ports;
  running = runs;
  within = inside;
}
  where
    inside : (side : Side) (n : ℕ) → has (running_of side after) n ≡ true → n < count_of side sc.sizes
    inside Biu n h = is.within Biu n (subst (λ r. has r n ≡ true) lanes.biu h)
    inside Rmu n h = is.within Rmu n (subst (λ r. has r n ≡ true) lanes.rmu h)

    runs : (side : Side) → AreRunning side (running_of side after) (at_node me i change w.sites)
    runs Biu = subst (λ r. AreRunning Biu r (at_node me i change w.sites)) (sym lanes.biu) (running-one Biu before.running_biu w.sites me i change pends.runs (is.running Biu))
    runs Rmu = subst (λ r. AreRunning Rmu r (at_node me i change w.sites)) (sym lanes.rmu) (running-one Rmu before.running_rmu w.sites me i change pends.runs (is.running Rmu))

-- to await the next tick changes only what is pending
await-pends : (sc : Scenario) (me : Side) (i : ℕ) (more : List Coming) → Pends (await sc me i more)
await-pends sc me i more = record { row = λ s. refl; begun = λ s. refl; runs = λ s. refl }

pub await-some : (sc : Scenario) (before after : Scene) (w : World) (me : Side) (i k : ℕ) (time : ℕ) → HasLane before.agenda (name_of me i)
    → Lanes me i (with_tick time (lane_of before.agenda (name_of me i))) before after → time ≡ time_of (clock_of sc me i) k
    → ((s : Site) → slice_get (of_kind me w.sites) i ≡ Some s → next_tick sc.sizes sc.plan me i s.core ≡ Some k)
    → ((s : Site) → slice_get (of_kind me w.sites) i ≡ Some s → s.ahead ≡ None)
    → Surrounds sc before w → Surrounds sc after (moved me i (await sc me i []) w)
await-some sc before after w me i k time there lanes time_is next ahead is =
    let lane : Held = lane_of before.agenda (name_of me i) in
    let a : Timed = record { tick = k; time = time_of (clock_of sc me i) k } in
    lane-around sc before after w me i (with_tick time lane) (await sc me i []) there lanes (await-pends sc me i [])
    (λ s at holds.
    holds-site sc.sizes me (with_tick time lane) (record s { ahead = Some a }) (await sc me i [] s) (append-nil s.coming)
    (ap (option_map (λ k. record { tick = k; time = time_of (clock_of sc me i) k })) (next s at))
    (subst (λ t. HoldsSite sc.sizes me (with_tick t lane) (record s { ahead = Some a })) (sym time_is) (holds-tick sc.sizes me lane s a holds))) is

set-own : (ls : List Held) (i : ℕ) → slice_set ls i (unwrap_or (slice_get ls i) (empty_lane 0)) ≡ ls
set-own [] i = refl
set-own (l ∷ ls) zero = refl
set-own (l ∷ ls) (suc i) = ap (λ xs. l ∷ xs) (set-own ls i)

pub lane-own : (lanes : Each Held) (me : Side) (i : ℕ) → with_lane (name_of me i) (lane_of lanes (name_of me i)) lanes ≡ lanes
lane-own lanes Biu i = ap (λ (ls : List Held). record lanes { bius = ls }) (set-own lanes.bius i)
lane-own lanes Rmu i = ap (λ (ls : List Held). record lanes { rmus = ls }) (set-own lanes.rmus i)

pub await-none : (sc : Scenario) (scene : Scene) (w : World) (me : Side) (i : ℕ) → HasLane scene.agenda (name_of me i)
    → ((s : Site) → slice_get (of_kind me w.sites) i ≡ Some s → next_tick sc.sizes sc.plan me i s.core ≡ None)
    → ((s : Site) → slice_get (of_kind me w.sites) i ≡ Some s → s.ahead ≡ None)
    → Surrounds sc scene w → Surrounds sc scene (moved me i (await sc me i []) w)
await-none sc scene w me i there next ahead is =
    let lane : Held = lane_of scene.agenda (name_of me i) in
    lane-around sc scene scene w me i lane (await sc me i []) there
    (record { lanes = sym (lane-own scene.agenda me i); room = refl; book = refl; ports = refl; biu = refl; rmu = refl }) (await-pends sc me i [])
    (λ s at holds.
    holds-site sc.sizes me lane s (await sc me i [] s) (append-nil s.coming)
    (ap (option_map (λ k. record { tick = k; time = time_of (clock_of sc me i) k })) (next s at) ∙ sym (ahead s at)) holds) is

-- what is said to a node in a window comes to the node, and its next tick is pending
pub says-then : (sc : Scenario) (me : Side) (i : ℕ) (span : Span) (sites : Each Site)
    → at_node me i (await sc me i []) (at_node me i (λ s. record s { coming = s.coming ++ says_in sc me i span }) sites) ≡ at_node me i (await sc me i (says_in sc me i span)) sites
says-then sc me i span sites =
    at-twice me i (await sc me i []) (λ s. record s { coming = s.coming ++ says_in sc me i span }) sites
    ∙ at-same me i (λ s. await sc me i [] (record s { coming = s.coming ++ says_in sc me i span })) (await sc me i (says_in sc me i span)) sites
    (λ s there. ap (λ (cs : List Coming). record (await sc me i [] s) { coming = cs }) (append-nil (s.coming ++ says_in sc me i span)))

-- By the node's name.

pub name-is : (node : NodeName) → name_of (kind_of node) (number_of node) ≡ node
name-is (node.Biu i) = refl
name-is (node.Rmu i) = refl

-- the node awaits its next tick once it is pending, if there is one
pub awaits-next : (sc : Scenario) (scene : Scene) (w : World) (name : NodeName) (me : Side) (c : Core) (site : KeptSite) → kind_of name ≡ me → HasLane scene.agenda name
    → IsCoreAt sc me name site c w → Surrounds sc scene w
    → Surrounds sc (awaited sc name (next_of me site.node c) scene) (moved (kind_of name) (number_of name) (await sc me (number_of name) []) w)
awaits-next sc scene w name me c site kind there at is =
    subst (λ k. Surrounds sc (awaited sc name (next_of me site.node c) scene) (moved (kind_of name) (number_of name) (await sc k (number_of name) []) w)) kind
    (by (next_of me site.node c) next)
  where
    lane : HasLane scene.agenda (name_of (kind_of name) (number_of name))
    lane = subst (HasLane scene.agenda) (sym (name-is name)) there

    next : next_tick sc.sizes sc.plan (kind_of name) (number_of name) c ≡ next_of me site.node c
    next =
        subst (λ m. next_tick sc.sizes sc.plan m (number_of name) c ≡ next_of me site.node c) (sym kind)
        (sym (ap (λ z. next_tick z site.node.seat.plan me site.node.seat.index c) at.sizes ∙ ap (λ z. next_tick sc.sizes z me site.node.seat.index c) at.plan
        ∙ ap (λ n. next_tick sc.sizes sc.plan me n c) at.number))

    core : (s : Site) → slice_get (of_kind (kind_of name) w.sites) (number_of name) ≡ Some s → c ≡ s.core
    core s e = sym (at.there s (subst (λ k. slice_get (of_kind k w.sites) (number_of name) ≡ Some s) kind e))

    none : (s : Site) → slice_get (of_kind (kind_of name) w.sites) (number_of name) ≡ Some s → s.ahead ≡ None
    none s e = at.none_ahead s (subst (λ k. slice_get (of_kind k w.sites) (number_of name) ≡ Some s) kind e)

    by : (o : Option ℕ) → next_tick sc.sizes sc.plan (kind_of name) (number_of name) c ≡ o
        → Surrounds sc (awaited sc name o scene) (moved (kind_of name) (number_of name) (await sc (kind_of name) (number_of name) []) w)
    by None e =
        await-none sc scene w (kind_of name) (number_of name) lane (λ s h. subst (λ d. next_tick sc.sizes sc.plan (kind_of name) (number_of name) d ≡ None) (core s h) e) none is
    by (Some k) e =
        await-some sc scene (awaited sc name (Some k) scene) w (kind_of name) (number_of name) k (time_of (clock_of sc (kind_of name) (number_of name)) k) lane
        (record {
          lanes = subst (λ n. (awaited sc name (Some k) scene).agenda ≡ with_lane n (with_tick (time_of (clock_of sc (kind_of name) (number_of name)) k) (lane_of scene.agenda n)) scene.agenda)
              (sym (name-is name)) refl;
          room = refl;
          book = refl;
          ports = refl;
          biu = refl;
          rmu = refl;
        }) refl (λ s h. subst (λ d. next_tick sc.sizes sc.plan (kind_of name) (number_of name) d ≡ Some k) (core s h) e) none is

-- the node stops
pub stops : (sc : Scenario) (scene : Scene) (w : World) (name : NodeName) → HasLane scene.agenda name → Surrounds sc scene w
    → Surrounds sc (stopped name scene) (moved (kind_of name) (number_of name) stop w)
stops sc scene w (node.Biu i) there is =
    stop-around sc scene (stopped (node.Biu i) scene) w Biu i there (record { lanes = refl; book = refl; ports = refl; own = refl; others = refl }) is
stops sc scene w (node.Rmu i) there is =
    stop-around sc scene (stopped (node.Rmu i) scene) w Rmu i there (record { lanes = refl; book = refl; ports = refl; own = refl; others = refl }) is
