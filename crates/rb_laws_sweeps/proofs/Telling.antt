-- What a node is told in takes.
use Rattle.std.proofs.{Common.{◌≡◌, ℕ, zero, suc, ◌==◌, true, List, [], ◌∷◌, ◌++◌, append_assoc, refl, ap, sym, ◌∙◌, arith, Option, Some, option_and_then, option_map, slice_get, if◌then◌else◌}, lemmas.Bool.Decides.nat_tests, lemmas.List.append-nil}
use Rattle.rb_base.specs.{Nodes.Side, Nodes.Side.{Biu, Rmu}, declared.event.Event.Event}
use Rattle.rb_rules.specs.{Book.of_kind, Core.Core, Goodness.Scenario, Links.{name_of, same_node}, Ports.PortState, WorldStep.{Due, Pending, Site, World, due_of, event_at, event_of, take}, WorldStep.Pending.{Arrival, Tick}}
use Rattle.rb_laws_events.proofs.WorldStands.{is_node, node-itself}
use Rattle.rb_laws_sweeps.specs.{AheadOf.{after_takes, told_in}, Told.{Told, if_told, told_next}}

-- Takes in a row.

pub takes-shift : (sc : Scenario) (n : ℕ) (w : World) → after_takes sc (suc n) w ≡ after_takes sc n (take sc w 0)
unfolding after_takes
takes-shift sc zero w = refl
takes-shift sc (suc n) w = ap (λ x. take sc x 0) (takes-shift sc n w)

pub told-shift : (sc : Scenario) (me : Side) (i n : ℕ) (w : World) → told_in sc me i (suc n) w ≡ told_next sc me i w ++ told_in sc me i n (take sc w 0)
unfolding after_takes told_in
told-shift sc me i zero w = sym (append-nil (told_next sc me i w))
told-shift sc me i (suc n) w =
    ap (λ l. l ++ told_next sc me i (after_takes sc (suc n) w)) (told-shift sc me i n w)
    ∙ ap (λ y. (told_next sc me i w ++ told_in sc me i n (take sc w 0)) ++ told_next sc me i y) (takes-shift sc n w)
    ∙ append_assoc (told_next sc me i w) (told_in sc me i n (take sc w 0)) (told_next sc me i (after_takes sc n (take sc w 0)))

-- One take.

pub same-named : (me side : Side) (i j : ℕ) → same_node (name_of me i) (name_of side j) ≡ is_node me i side j
same-named Biu Biu i j = numbers i j
  where
    numbers : (i j : ℕ) → (i == j) ≡ (j == i)
    numbers i j = grind (arith, nat_tests)
same-named Biu Rmu i j = refl
same-named Rmu Biu i j = refl
same-named Rmu Rmu i j = numbers i j
  where
    numbers : (i j : ℕ) → (i == j) ≡ (j == i)
    numbers i j = grind (arith, nat_tests)

pub named-itself : (me : Side) (i : ℕ) → same_node (name_of me i) (name_of me i) ≡ true
named-itself me i = same-named me me i i ∙ node-itself me i

pub shown-node : (sc : Scenario) (ports : List PortState) (me : Side) (i : ℕ) (c : Core) (pending : Pending) → (event_of sc ports me i c pending).node ≡ name_of me i
shown-node sc ports me i c (Tick k) = refl
shown-node sc ports me i c (Arrival place a) = refl

shown : (sc : Scenario) (w : World) {d x : _} → slice_get (due_of sc w) 0 ≡ Some d → slice_get (of_kind d.side w.sites) d.node ≡ Some x
    → event_at sc w 0 ≡ Some (event_of sc w.ports d.side d.node x.core d.pending)
unfolding event_at
shown sc w {d} due there =
    let show : Due → Option Event = λ d. option_map (λ (s : Site). event_of sc w.ports d.side d.node s.core d.pending) (slice_get (of_kind d.side w.sites) d.node) in
    ap (option_and_then show) due ∙ ap (option_map (λ (s : Site). event_of sc w.ports d.side d.node s.core d.pending)) there

-- node `j` is told of the first due event if this happens at it
pub told-one : (sc : Scenario) (w : World) {d x : _} → slice_get (due_of sc w) 0 ≡ Some d → slice_get (of_kind d.side w.sites) d.node ≡ Some x
    → (side : Side) (j : ℕ) {s : _} → slice_get (of_kind side w.sites) j ≡ Some s
    → told_next sc side j w
    ≡ (if same_node (name_of d.side d.node) (name_of side j) then (record { frame = s.core.state.frame; event = event_of sc w.ports d.side d.node x.core d.pending }) ∷ [] else [])
unfolding told_next
told-one sc w {d} {x} due at side j {s} there =
    let e : Event = event_of sc w.ports d.side d.node x.core d.pending in
    ap (λ o. if_told (name_of side j) o (event_at sc w 0)) there
    ∙ ap (if_told (name_of side j) (Some s)) (shown sc w due at)
    ∙ ap (λ n. if same_node n (name_of side j) then told s e ∷ [] else []) (shown-node sc w.ports d.side d.node x.core d.pending)
  where
    told : Site → Event → Told
    told s e = record { frame = s.core.state.frame; event = e }
