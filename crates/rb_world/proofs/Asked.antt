-- What is asked of a run.
use Rattle.std.proofs.{Common.{◌≡◌, ℕ, ◌<◌, List, Some, length, slice_get, get_or, refl, sym, ap, ◌∙◌, subst, arith}, lemmas.Option.get_or_from_slice_get}
use Rattle.std.specs.Prelude.{option_and_then, option_map}
use Rattle.rb_base.specs.{Nodes.Side, Nodes.Side.{Biu, Rmu}, declared.event.Event.Event, declared.node.NodeName.NodeName}
use Rattle.rb_rules.specs.{Book.of_kind, Lawful.{IsNodeOf, kind_of}, Links.name_of, Slots.count_of, WorldStep.{Due, Site, World, due_of, event_at, event_of}}
use Rattle.rb_world_agenda.specs.{Agenda.IsDue, Holding.due_with}
use Rattle.rb_world_agenda.proofs.Which.{has-item}
use Rattle.rb_world.specs.{Sites.KeptSite, Worlds.{KeptWorld, Stands, due_in}}
use Rattle.rb_world_traffic.specs.Arriving.{number_of}
use Rattle.rb_laws_sweeps.proofs.Telling.{shown-node}
use Rattle.rb_world.proofs.{Idle.due-busy, Turns.due-is-now}

-- the event that is due at a place is of the named node
pub node-at : (k : KeptWorld) (w : World) (i place : ℕ) (name : NodeName) → Stands k w → i < due_in k → IsDue k.bus w k.scene.agenda i name place
    → option_map (λ (e : Event). e.node) (event_at k.bus w i) ≡ Some name
unfolding event_at
node-at k w i place name is below due =
    let d : Due = due_with due.side due.number due.site due.event in
    let found : slice_get (due_of k.bus w) i ≡ Some d = ap (λ (l : List Due). slice_get l i) (due-is-now k.bus w (due-busy k w i is below)) ∙ due.due in
    ap (λ o. option_map (λ (e : Event). e.node) (option_and_then (λ (d : Due). option_map (λ (s : Site). event_of k.bus w.ports d.side d.node s.core d.pending) (slice_get (of_kind d.side w.sites) d.node)) o)) found
    ∙ ap (λ o. option_map (λ (e : Event). e.node) (option_map (λ (s : Site). event_of k.bus w.ports due.side due.number s.core d.pending) o)) due.there
    ∙ ap (λ n. Some n) (shown-node k.bus w.ports due.side due.number due.site.core d.pending ∙ sym due.named)

-- the node that is kept is in the frame of its site
pub frame-at : (k : KeptWorld) (w : World) (me : Side) (i : ℕ) (site : KeptSite) (s : Site) → Stands k w → slice_get (of_kind me k.nodes) i ≡ Some site
    → slice_get (of_kind me w.sites) i ≡ Some s → site.node.seat.state.frame ≡ s.core.state.frame
frame-at k w me i site s is kept there = sym (ap (λ st. st.frame) ((is.nodes me).each i site s kept there).site.core.state)

-- a node of the bus is kept
pub node-within : (k : KeptWorld) (w : World) (name : NodeName) (me : Side) (i : ℕ) → Stands k w → IsNodeOf k.bus.sizes name → name ≡ name_of me i → i < length (of_kind me k.nodes)
node-within k w name me i is node named =
    let within : i < count_of me k.bus.sizes = by me (subst (IsNodeOf k.bus.sizes) named node) in
    let many : length (of_kind me k.nodes) ≡ count_of me k.bus.sizes = (is.nodes me).many in
    omega (arith, within, many)
  where
    by : (me : Side) → IsNodeOf k.bus.sizes (name_of me i) → i < count_of me k.bus.sizes
    by Biu h = h
    by Rmu h = h

pub frame-named : (k : KeptWorld) (w : World) (name : NodeName) (me : Side) (i frame : ℕ) (site : KeptSite) (s : Site) → Stands k w → IsNodeOf k.bus.sizes name → name ≡ name_of me i
    → site ≡ get_or (of_kind me k.nodes) i site → frame ≡ site.node.seat.state.frame → slice_get (of_kind (kind_of name) w.sites) (number_of name) ≡ Some s → frame ≡ s.core.state.frame
frame-named k w name me i frame site s is node named got frame_is there =
    let found = has-item (of_kind me k.nodes) i (node-within k w name me i is node named) in
    let same : found.item ≡ site = sym (got ∙ get_or_from_slice_get (of_kind me k.nodes) i found.item site found.is) in
    frame_is ∙ frame-at k w me i site s is (found.is ∙ ap (λ x. Some x) same)
    (sym (ap (λ (n : NodeName). slice_get (of_kind (kind_of n) w.sites) (number_of n)) named ∙ by me) ∙ there)
  where
    by : (me : Side) → slice_get (of_kind (kind_of (name_of me i)) w.sites) (number_of (name_of me i)) ≡ slice_get (of_kind me w.sites) i
    by Biu = refl
    by Rmu = refl
