-- A tick of a node, put together from its parts.
use Rattle.std.proofs.{Common.{◌≡◌, ℕ, ◌==◌, Bool, true, false, Some, None, Option, List, [], slice_get, refl, sym, ap, ◌∙◌, subst, if◌then◌else◌}, lemmas.Option.same_Some}
use Rattle.std.specs.Prelude.{option_and_then}
use Rattle.rb_base.specs.{Nodes.Side, declared.node.NodeName.NodeName}
use Rattle.rb_rules.specs.{declared.closing.Closed.Closed, declared.record.Epoch.Epoch, Book.{Each, Row, of_kind}, Core.{Act, Core, next_tick, pass_to, wants}, Goodness.Scenario, Hearing.row_of, Lawful.kind_of, Links.name_of, Ports.PortState, WorldStep.{Site, World, after_act, at_node, coming_from, proceed, wants_in, with_act, with_close, with_delivery, with_epoch, with_message}}
use Rattle.rb_world_book.specs.Changing.{with_row}
use Rattle.rb_node.specs.{Acts.IsAct, Cores.next_of, Wants.{want_for, want_then}, declared.act.Step.Step}
use Rattle.rb_world.specs.{Sites.{KeptSite, after_tick, number_of}, declared.scene.Scene.Scene, Steps.{closed_if, moved}, Worlds.Surrounds}
use Rattle.rb_world_traffic.specs.Arriving.{number_of as number_in}
use Rattle.rb_world_traffic.proofs.Says.{number-of}
use Rattle.rb_world.proofs.{Alike.{SameShown, alike}, Lanes.kind-named, Sites.at-twice}

-- What is wanted.

next-kept : (sc : Scenario) (me : Side) (i : ℕ) (site : KeptSite) (c : Core) → site.node.seat.sizes ≡ sc.sizes → site.node.seat.plan ≡ sc.plan → number_of site ≡ i
    → next_of me site.node c ≡ next_tick sc.sizes sc.plan me i c
next-kept sc me i site c sizes plan number =
    ap (λ z. next_tick z site.node.seat.plan me site.node.seat.index c) sizes ∙ ap (λ z. next_tick sc.sizes z me site.node.seat.index c) plan
    ∙ ap (λ n. next_tick sc.sizes sc.plan me n c) number

pub want-is : (sc : Scenario) (me : Side) (i k : ℕ) (site : KeptSite) (c : Core) → site.node.seat.sizes ≡ sc.sizes → site.node.seat.plan ≡ sc.plan → number_of site ≡ i
    → next_tick sc.sizes sc.plan me i c ≡ Some k → want_then me site.node c (next_of me site.node c) ≡ want_for sc.sizes (wants_in sc me i (pass_to k c))
want-is sc me i k site c sizes plan number next =
    ap (want_then me site.node c) (next-kept sc me i site c sizes plan number ∙ next)
    ∙ ap (λ z. want_for z (wants z site.node.seat.plan me site.node.seat.index (pass_to k c))) sizes
    ∙ ap (λ z. want_for sc.sizes (wants sc.sizes z me site.node.seat.index (pass_to k c))) plan
    ∙ ap (λ n. want_for sc.sizes (wants sc.sizes sc.plan me n (pass_to k c))) number

-- What surrounds the node when it has told what it has to tell.

-- what a node tells by what is kept of it is what it tells by the definitions
after_tick-alike : (sc : Scenario) (ports : List PortState) (me : Side) (i : ℕ) (x : Act) (c : Closed) (row : Row) (s : Site) → x.closed ≡ Some c
    → ((c.place.stage == 4) ≡ false → row_of me i x.core.state (coming_from s.got) c ≡ row) → SameShown (after_tick sc ports me i x s) (with_row c.place.stage row (with_epoch sc ports me i x.epoch s))
after_tick-alike sc ports me i x c row s closed is =
    subst (λ o. SameShown (with_epoch sc ports me i x.epoch (with_close me i x.core.state o (record s { core = x.core }))) (with_row c.place.stage row (with_epoch sc ports me i x.epoch s))) (sym closed)
    (by x.epoch (c.place.stage == 4) is)
  where
    by : (e : Option Epoch) (b : Bool) → (b ≡ false → row_of me i x.core.state (coming_from s.got) c ≡ row) → SameShown
        (with_epoch sc ports me i e (record (record s { core = x.core }) {
          got = [];
          row = elim b as (λ _. Option Row) [ true ↦ s.row | false ↦ Some (row_of me i x.core.state (coming_from s.got) c) ];
        }))
        (elim b as (λ _. Site) [ true ↦ with_epoch sc ports me i e s | false ↦ record (with_epoch sc ports me i e s) { row = Some row } ])
    by None true is = record { coming = refl; ahead = refl; runs = refl; row = refl; begun = refl }
    by None false is = record { coming = refl; ahead = refl; runs = refl; row = ap (λ r. Some r) (is refl); begun = refl }
    by (Some e) true is = record { coming = refl; ahead = refl; runs = refl; row = refl; begun = refl }
    by (Some e) false is = record { coming = refl; ahead = refl; runs = refl; row = ap (λ r. Some r) (is refl); begun = refl }

begun-alike : (sc : Scenario) (ports : List PortState) (me : Side) (i : ℕ) (x : Act) (s : Site) → x.closed ≡ None
    → SameShown (after_tick sc ports me i x s) (with_epoch sc ports me i x.epoch s)
begun-alike sc ports me i x s closed =
    subst (λ o. SameShown (with_epoch sc ports me i x.epoch (with_close me i x.core.state o (record s { core = x.core }))) (with_epoch sc ports me i x.epoch s)) (sym closed) (by x.epoch)
  where
    by : (e : Option Epoch) → SameShown (with_epoch sc ports me i e (record s { core = x.core })) (with_epoch sc ports me i e s)
    by None = record { coming = refl; ahead = refl; runs = refl; row = refl; begun = refl }
    by (Some e) = record { coming = refl; ahead = refl; runs = refl; row = refl; begun = refl }

-- the world once the node has told, before it goes on
abbrev pub told_in : Scenario → World → Side → ℕ → Act → World
told_in sc w me i x =
    record (moved me i (after_tick sc w.ports me i x) w) { ports = with_delivery sc i (option_and_then (λ (c : Closed). c.delivered) x.closed) w.ports }

told-by : (sc : Scenario) (me : Side) (i : ℕ) (scene : Scene) (w : World) (s : Site) (x : Act) (o : Option Closed) (row : Row) → slice_get (of_kind me w.sites) i ≡ Some s → x.closed ≡ o
    → ((c : Closed) → o ≡ Some c → (c.place.stage == 4) ≡ false → row_of me i x.core.state (coming_from s.got) c ≡ row)
    → Surrounds sc scene (closed_if sc (name_of me i) o row (moved me i (with_epoch sc w.ports me i x.epoch) w)) → Surrounds sc scene (told_in sc w me i x)
told-by sc me i scene w s x None row there closed is h =
    subst (λ o. Surrounds sc scene (record (moved me i (after_tick sc w.ports me i x) w) { ports = with_delivery sc i (option_and_then (λ (c : Closed). c.delivered) o) w.ports })) (sym closed)
    (alike sc scene w me i (with_epoch sc w.ports me i x.epoch) (after_tick sc w.ports me i x) (λ z e. begun-alike sc w.ports me i x z closed) h)
told-by sc me i scene w s x (Some c) row there closed is h =
    let f : Site → Site = λ z. with_row c.place.stage row (with_epoch sc w.ports me i x.epoch z) in
    let at : World = record w { ports = with_delivery sc i c.delivered w.ports } in
    let named : Surrounds sc scene (record (moved me i (with_row c.place.stage row) (moved me i (with_epoch sc w.ports me i x.epoch) w)) { ports = with_delivery sc i c.delivered w.ports }) =
    subst (λ n. Surrounds sc scene (record (moved me i (with_row c.place.stage row) (moved me i (with_epoch sc w.ports me i x.epoch) w)) { ports = with_delivery sc n c.delivered w.ports })) (number-of me i)
    (subst (λ n. Surrounds sc scene (record (moved me n (with_row c.place.stage row) (moved me i (with_epoch sc w.ports me i x.epoch) w)) { ports = with_delivery sc (number_in (name_of me i)) c.delivered w.ports })) (number-of me i)
    (subst (λ k. Surrounds sc scene (record (moved k (number_in (name_of me i)) (with_row c.place.stage row) (moved me i (with_epoch sc w.ports me i x.epoch) w)) { ports = with_delivery sc (number_in (name_of me i)) c.delivered w.ports })) (kind-named me i) h)) in
    let once : Surrounds sc scene (moved me i f at) =
    subst (λ (sites : Each Site). Surrounds sc scene (record at { sites = sites })) (at-twice me i (with_row c.place.stage row) (with_epoch sc w.ports me i x.epoch) w.sites) named in
    subst (λ o. Surrounds sc scene (record (moved me i (after_tick sc w.ports me i x) w) { ports = with_delivery sc i (option_and_then (λ (c : Closed). c.delivered) o) w.ports })) (sym closed)
    (alike sc scene at me i f (after_tick sc w.ports me i x)
    (λ z e.
    let same : s ≡ z = same_Some s z (sym there ∙ e) in
    after_tick-alike sc w.ports me i x c row z closed (subst (λ (y : Site). (c.place.stage == 4) ≡ false → row_of me i x.core.state (coming_from y.got) c ≡ row) same (is c refl))) once)

-- The node's own name being this, and by what the step says.
pub told-around : (sc : Scenario) (me : Side) (i : ℕ) (name : NodeName) (scene : Scene) (w : World) (s : Site) (x : Act) (step : Step) (shown : Closed) (row : Row)
    → name ≡ name_of me i → slice_get (of_kind me w.sites) i ≡ Some s → IsAct shown step x
    → (step.closed ≡ true → (shown.place.stage == 4) ≡ false → row_of me i x.core.state (coming_from s.got) shown ≡ row)
    → Surrounds sc scene (closed_if sc name (if step.closed then Some shown else None) row (moved (kind_of name) (number_in name) (with_epoch sc w.ports (kind_of name) (number_in name) step.epoch) w))
    → Surrounds sc scene (told_in sc w me i x)
told-around sc me i name scene w s x step shown row named there act is h =
    told-by sc me i scene w s x (if step.closed then Some shown else None) row there (sym act.closed) (rows step.closed is) named_so
  where
    rows : (b : Bool) → (b ≡ true → (shown.place.stage == 4) ≡ false → row_of me i x.core.state (coming_from s.got) shown ≡ row) → (c : Closed) → (if b then Some shown else None) ≡ Some c
        → (c.place.stage == 4) ≡ false → row_of me i x.core.state (coming_from s.got) c ≡ row
    rows true is c e = subst (λ (c : Closed). (c.place.stage == 4) ≡ false → row_of me i x.core.state (coming_from s.got) c ≡ row) (same_Some shown c e) (is refl)
    rows false is c e = cc

    T : NodeName → Side → ℕ → Type 0
    T n k j = Surrounds sc scene (closed_if sc n (if step.closed then Some shown else None) row (moved k j (with_epoch sc w.ports k j step.epoch) w))

    by_name : Surrounds sc scene (closed_if sc (name_of me i) (if step.closed then Some shown else None) row (moved me i (with_epoch sc w.ports me i step.epoch) w))
    by_name = subst (λ j. T (name_of me i) me j) (number-of me i) (subst (λ k. T (name_of me i) k (number_in (name_of me i))) (kind-named me i) (subst (λ n. T n (kind_of n) (number_in n)) named h))

    named_so : Surrounds sc scene (closed_if sc (name_of me i) (if step.closed then Some shown else None) row (moved me i (with_epoch sc w.ports me i x.epoch) w))
    named_so = subst (λ o. Surrounds sc scene (closed_if sc (name_of me i) (if step.closed then Some shown else None) row (moved me i (with_epoch sc w.ports me i o) w))) act.epoch by_name

-- The whole.

-- the parts of a tick make the world after it
pub act-is : (sc : Scenario) (w : World) (me : Side) (i k : ℕ) (x : Act)
    → record (moved me i (proceed sc me i) (told_in sc w me i x)) {
      sites = with_message sc me i x.core.state.frame k x.message (at_node me i (proceed sc me i) (at_node me i (after_tick sc w.ports me i x) w.sites));
    }
    ≡ with_act sc w me i k x
unfolding with_act after_act
act-is sc w me i k x =
    ap (λ (sites : Each Site). record w { sites = with_message sc me i x.core.state.frame k x.message sites; ports = with_delivery sc i (option_and_then (λ (c : Closed). c.delivered) x.closed) w.ports })
    (at-twice me i (proceed sc me i) (after_tick sc w.ports me i x) w.sites)

pub next-is : (sc : Scenario) (me : Side) (i k : ℕ) (site : KeptSite) (c : Core) → site.node.seat.sizes ≡ sc.sizes → site.node.seat.plan ≡ sc.plan → number_of site ≡ i
    → next_tick sc.sizes sc.plan me i c ≡ Some k → next_of me site.node c ≡ Some k
next-is sc me i k site c sizes plan number next = next-kept sc me i site c sizes plan number ∙ next
