-- A node enters a window, or not.
use Rattle.std.proofs.{Common.{◌≡◌, ℕ, ◌<◌, true, false, Option, Some, None, List, [], ◌++◌, slice_get, refl, sym, ap, ◌∙◌, subst}, lemmas.Option.same_Some}
use Rattle.std.specs.Prelude.{option_map}
use Rattle.rb_base.specs.{Nodes.{Side, other}, Nodes.Side.{Biu, Rmu}, declared.node.NodeName.NodeName}
use Rattle.rb_rules.specs.{Book.{Each, of_kind}, Core.Core, Goodness.{Scenario, is_good}, Hearing.{Coming, Span}, Lawful.{is_node_good, kind_of}, Links.name_of, NodeState.NodeState, Slots.count_of, WorldStep.{Site, World, at_node, await, says_in, span_from, stop}}
use Rattle.rb_node.specs.Cores.{IsCore, next_of}
use Rattle.rb_base.specs.declared.node.NodeName.TheVariants as node
use Rattle.rb_queue.specs.Waiting.{HasLane, Held, lane_of, with_lane}
use Rattle.rb_world_agenda.specs.Holding.{HoldsSites}
use Rattle.rb_laws_events.proofs.{WorldStands.{get-at, is_node, node-itself}}
use Rattle.rb_world.specs.{Sites.KeptSite, declared.scene.Scene.Scene, Buses.HaveRooms, Calm.is_calm, Steps.{IsAt, IsCoreAt, OthersStay, Proceeds, awaited, moved, stopped}, Worlds.Surrounds}
use Rattle.rb_world_traffic.specs.{Arriving.number_of, Saying.{hears, with_arrivals}}
use Rattle.rb_world_traffic.proofs.Says.{good-of, number-of}
use Rattle.rb_world.proofs.{Around.{Pends, pends-more}, Going.{awaits-next, name-is, says-then, stops}, Lanes.{has-lane, kind-named, node-named, rooms-with}, Calmness.calm-awaits, Onward.{goes-in, goes-on, goes-out, others-stay, proceeds-on, proceeds-out}}

-- a new lane of a named node leaves the lanes of the other kind as they are
pub others-named : (name : NodeName) (lane : Held) (lanes : Each Held) → of_kind (other (kind_of name)) (with_lane name lane lanes) ≡ of_kind (other (kind_of name)) lanes
others-named name lane lanes = subst (λ n. of_kind (other (kind_of name)) (with_lane n lane lanes) ≡ of_kind (other (kind_of name)) lanes) (name-is name) (others-stay (kind_of name) (number_of name) lane lanes)

-- What is said comes to the node.

hears-pends : (sc : Scenario) (name : NodeName) (span : Span) → Pends (hears sc name span)
hears-pends sc name span = record { row = λ s. refl; begun = λ s. refl; runs = λ s. refl }

pub says-around : (sc : Scenario) (scene : Scene) (lanes : Each Held) (w : World) (name : NodeName) (span : Span) (more : List Coming) → HasLane scene.agenda name
    → lanes ≡ with_lane name (with_arrivals more (lane_of scene.agenda name)) scene.agenda → HoldsSites sc.sizes lanes (at_node (kind_of name) (number_of name) (hears sc name span) w.sites)
    → Surrounds sc scene w → Surrounds sc (record scene { agenda = lanes }) (moved (kind_of name) (number_of name) (hears sc name span) w)
says-around sc scene lanes w name span more there after holds is =
    pends-more sc scene lanes w (kind_of name) (number_of name) (hears sc name span) (hears-pends sc name span) is holds
    (subst (HaveRooms sc) (sym after) (rooms-with sc scene.agenda name (with_arrivals more (lane_of scene.agenda name)) is.rooms there refl))

-- after a change of a node its site is the changed one
pub changed-there : (me : Side) (i : ℕ) (change : Site → Site) (w : World) (s : Site) → slice_get (of_kind me w.sites) i ≡ Some s
    → slice_get (of_kind me (moved me i change w).sites) i ≡ Some (change s)
changed-there me i change w s there =
    get-at me me i i change w.sites ∙ ap (option_map (λ z. elim (is_node me i me i) as (λ _. Site) [ true ↦ change z | false ↦ z ])) there
    ∙ ap (λ b. Some (elim b as (λ _. Site) [ true ↦ change s | false ↦ s ])) (node-itself me i)

-- `IsCoreAt` holds for the core of a node by its name
pub core-at : (sc : Scenario) (me : Side) (i : ℕ) (site : KeptSite) (scene : Scene) (w : World) (s : Site) → IsAt sc me i site scene w s → IsCoreAt sc me (name_of me i) site s.core w
core-at sc me i site scene w s at = record {
  number = at.number ∙ sym (number-of me i);
  sizes = at.stands.sizes;
  plan = at.stands.plan;
  core = at.stands.core;
  there = λ z e. ap (λ (s : Site). s.core) (sym (one z e));
  none_ahead = λ z e. subst (λ (s : Site). s.ahead ≡ None) (one z e) at.none_ahead;
}
  where
    one : (z : Site) → slice_get (of_kind me w.sites) (number_of (name_of me i)) ≡ Some z → s ≡ z
    one z e = same_Some s z (sym at.there ∙ subst (λ n. slice_get (of_kind me w.sites) n ≡ Some z) (number-of me i) e)

pub core-then : (sc : Scenario) (me : Side) (i : ℕ) (site : KeptSite) (scene : Scene) (w : World) (s : Site) (span : Span) → IsAt sc me i site scene w s
    → IsCoreAt sc me (name_of me i) site s.core (moved me i (λ z. record z { coming = z.coming ++ says_in sc me i span }) w)
core-then sc me i site scene w s span at = record {
  number = at.number ∙ sym (number-of me i);
  sizes = at.stands.sizes;
  plan = at.stands.plan;
  core = at.stands.core;
  there = λ z e. ap (λ (s : Site). s.core) (sym (one z e));
  none_ahead = λ z e. subst (λ (s : Site). s.ahead ≡ None) (one z e) at.none_ahead;
}
  where
    one : (z : Site) → slice_get (of_kind me (moved me i (λ z. record z { coming = z.coming ++ says_in sc me i span }) w).sites) (number_of (name_of me i)) ≡ Some z
        → record s { coming = s.coming ++ says_in sc me i span } ≡ z
    one z e =
        same_Some (record s { coming = s.coming ++ says_in sc me i span }) z
        (sym (changed-there me i (λ z. record z { coming = z.coming ++ says_in sc me i span }) w s at.there)
        ∙ subst (λ n. slice_get (of_kind me (moved me i (λ z. record z { coming = z.coming ++ says_in sc me i span }) w).sites) n ≡ Some z) (number-of me i) e)

-- a change of a node by its name is the one by its kind and number
pub named-moved : (me : Side) (i : ℕ) (change : Site → Site) (w : World) → moved (kind_of (name_of me i)) (number_of (name_of me i)) change w ≡ moved me i change w
named-moved Biu i change w = refl
named-moved Rmu i change w = refl

pub hears-named : (sc : Scenario) (me : Side) (i : ℕ) (span : Span) (w : World)
    → moved (kind_of (name_of me i)) (number_of (name_of me i)) (hears sc (name_of me i) span) w ≡ moved me i (λ z. record z { coming = z.coming ++ says_in sc me i span }) w
hears-named sc Biu i span w = refl
hears-named sc Rmu i span w = refl

pub await-named : (sc : Scenario) (me : Side) (i : ℕ) (w : World)
    → moved (kind_of (name_of me i)) (number_of (name_of me i)) (await sc me (number_of (name_of me i)) []) w ≡ moved me i (await sc me i []) w
await-named sc Biu i w = refl
await-named sc Rmu i w = refl

-- The node has gone on.

-- the next tick of the node is pending
abbrev pub AwaitsTick : Scenario → Side → NodeName → KeptSite → Scene → Scene → Type 0
AwaitsTick sc me name site before after = (c : Core) → IsCore site.node c → after ≡ awaited sc name (next_of me site.node c) before

-- a world in which the node has such a core awaits its next tick too
awaits-tick : (sc : Scenario) (me : Side) (i : ℕ) (site : KeptSite) (before after : Scene) (w : World) (c : Core) → i < count_of me sc.sizes → AwaitsTick sc me (name_of me i) site before after
    → IsCoreAt sc me (name_of me i) site c w → Surrounds sc before w → Surrounds sc after (moved me i (await sc me i []) w)
awaits-tick sc me i site before after w c within does at is =
    subst (Surrounds sc after) (await-named sc me i w)
    (subst (λ m. Surrounds sc m (moved (kind_of (name_of me i)) (number_of (name_of me i)) (await sc me (number_of (name_of me i)) []) w)) (sym (does c at.core))
    (awaits-next sc before w (name_of me i) me c site (kind-named me i) (has-lane sc before w (name_of me i) is (node-named sc me i within)) at is))

-- the lanes of the other kind stay as they are
others-await : (sc : Scenario) (me : Side) (i : ℕ) (site : KeptSite) (before after : Scene) (c : Core) → IsCore site.node c → AwaitsTick sc me (name_of me i) site before after → OthersStay me before after
others-await sc me i site before after c core does =
    subst (λ k. OthersStay k before after) (kind-named me i) (subst (OthersStay (kind_of (name_of me i)) before) (sym (does c core)) (by (next_of me site.node c)))
  where
    by : (o : Option ℕ) → OthersStay (kind_of (name_of me i)) before (awaited sc (name_of me i) o before)
    by None = refl
    by (Some k) = others-named (name_of me i) _ before.agenda

pub after-none : (sc : Scenario) (me : Side) (i : ℕ) (name : NodeName) (site : KeptSite) (before after : Scene) (w : World) (s : Site) → name ≡ name_of me i
    → IsAt sc me i site before w s → span_from sc.sizes sc.plan me s.core.state s.core.had ≡ None → AwaitsTick sc me name site before after
    → Proceeds sc me i site before after w s
after-none sc me i name site before after w s named at none awaits =
    let does : AwaitsTick sc me (name_of me i) site before after = subst (λ n. AwaitsTick sc me n site before after) named awaits in
    proceeds-on sc me i site before after w s [] at (goes-on sc me i s none)
    (awaits-tick sc me i site before after w s.core at.within does (core-at sc me i site before w s at) at.surrounds)
    (others-await sc me i site before after s.core at.stands.core does)

pub after-some : (sc : Scenario) (me : Side) (i : ℕ) (name : NodeName) (site : KeptSite) (before : Scene) (lanes : Each Held) (after : Scene) (w : World) (s : Site) (span : Span)
    → name ≡ name_of me i → IsAt sc me i site before w s → span_from sc.sizes sc.plan me s.core.state s.core.had ≡ Some span
    → is_node_good sc name span.place.frame span.place.slot ≡ true
    → Surrounds sc (record before { agenda = lanes }) (moved (kind_of name) (number_of name) (hears sc name span) w)
    → OthersStay (kind_of name) before (record before { agenda = lanes }) → AwaitsTick sc me name site (record before { agenda = lanes }) after
    → Proceeds sc me i site before after w s
after-some sc me i name site before lanes after w s span named at enters good said said_others awaits =
    let mid : Scene = record before { agenda = lanes } in
    let more : List Coming = says_in sc me i span in
    let says : Site → Site = λ z. record z { coming = z.coming ++ says_in sc me i span } in
    let does : AwaitsTick sc me (name_of me i) site mid after = subst (λ n. AwaitsTick sc me n site mid after) named awaits in
    let heard : Surrounds sc mid (moved me i says w) =
    subst (Surrounds sc mid) (ap (λ n. moved (kind_of n) (number_of n) (hears sc n span) w) named ∙ hears-named sc me i span w) said in
    let kind : kind_of name ≡ me = ap kind_of named ∙ kind-named me i in
    let here : is_good sc me i span.place.frame span.place.slot ≡ true =
    sym (good-of sc me i span.place.frame span.place.slot) ∙ ap (λ n. is_node_good sc n span.place.frame span.place.slot) (sym named) ∙ good in
    proceeds-on sc me i site before after w s more at (goes-in sc me i span s enters here)
    (subst (Surrounds sc after) (ap (λ (sites : Each Site). record w { sites = sites }) (says-then sc me i span w.sites))
    (awaits-tick sc me i site mid after (moved me i says w) s.core at.within does (core-then sc me i site before w s span at) heard))
    (others-await sc me i site mid after s.core at.stands.core does ∙ subst (λ k. OthersStay k before mid) kind said_others)

others-stopped : (name : NodeName) (scene : Scene) → OthersStay (kind_of name) scene (stopped name scene)
others-stopped (node.Biu i) scene = refl
others-stopped (node.Rmu i) scene = refl

pub after-stop : (sc : Scenario) (me : Side) (i : ℕ) (name : NodeName) (site gone : KeptSite) (before after : Scene) (w : World) (s : Site) (span : Span) → name ≡ name_of me i
    → IsAt sc me i site before w s → span_from sc.sizes sc.plan me s.core.state s.core.had ≡ Some span → is_node_good sc name span.place.frame span.place.slot ≡ false
    → gone ≡ record site { runs = false } → after ≡ stopped name before → Proceeds sc me i gone before after w s
after-stop sc me i name site gone before after w s span named at enters bad is_gone stops_so =
    let here : is_good sc me i span.place.frame span.place.slot ≡ false =
    sym (good-of sc me i span.place.frame span.place.slot) ∙ ap (λ n. is_node_good sc n span.place.frame span.place.slot) (sym named) ∙ bad in
    subst (λ k. Proceeds sc me i k before after w s) (sym is_gone)
    (proceeds-out sc me i site before after w s at (goes-out sc me i span s enters here)
    (subst (Surrounds sc after) (named-moved me i stop w) (subst (λ m. Surrounds sc m (moved (kind_of (name_of me i)) (number_of (name_of me i)) stop w)) (sym is)
    (stops sc before w (name_of me i) (has-lane sc before w (name_of me i) at.surrounds (node-named sc me i at.within)) at.surrounds)))
    (subst (λ k. OthersStay k before after) (kind-named me i) (subst (OthersStay (kind_of (name_of me i)) before) (sym is) (others-stopped (name_of me i) before))))
  where
    is : after ≡ stopped (name_of me i) before
    is = stops_so ∙ ap (λ n. stopped n before) named

pub after-calm : (sc : Scenario) (me : Side) (i : ℕ) (name : NodeName) (site : KeptSite) (before after : Scene) (w : World) (s : Site) (frame : ℕ) → name ≡ name_of me i
    → IsAt sc me i site before w s → frame ≡ site.node.seat.state.frame → frame < 4294967296 → is_calm sc (kind_of name) (number_of name) frame ≡ true
    → AwaitsTick sc me name site before after → Proceeds sc me i site before after w s
after-calm sc me i name site before after w s frame named at is small calm awaits =
    let does : AwaitsTick sc me (name_of me i) site before after = subst (λ n. AwaitsTick sc me n site before after) named awaits in
    let kind : kind_of name ≡ me = ap kind_of named ∙ kind-named me i in
    let number : number_of name ≡ i = ap number_of named ∙ number-of me i in
    let same : frame ≡ s.core.state.frame = is ∙ ap (λ (st : NodeState). st.frame) (sym at.stands.core.state) in
    let here : is_calm sc me i s.core.state.frame ≡ true =
    sym (ap (is_calm sc me i) same) ∙ sym (ap (λ k. is_calm sc k (number_of name) frame) kind ∙ ap (λ n. is_calm sc me n frame) number) ∙ calm in
    let few : s.core.state.frame < 4294967296 = subst (λ f. f < 4294967296) same small in
    proceeds-on sc me i site before after w s [] at (calm-awaits sc at.lawful at.listed me i s here at.within few)
    (awaits-tick sc me i site before after w s.core at.within does (core-at sc me i site before w s at) at.surrounds)
    (others-await sc me i site before after s.core at.stands.core does)
