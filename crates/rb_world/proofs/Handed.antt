-- What a state that is handed in makes of a world.
use Rattle.std.proofs.{Common.{◌≡◌, ℕ, zero, suc, ◌<◌, ◌&&◌, nat_lt, Bool, true, false, Option, Some, None, List, [], ◌∷◌, ◌++◌, get_or, length, slice_get, slice_set, refl, sym, ap, ◌∙◌, subst}, lemmas.Bool.ltb-true, lemmas.Option.same_Some}
use Rattle.rb_base.specs.{Nodes.{Side, has}, Nodes.Side.{Biu, Rmu}}
use Rattle.rb_base.proofs.Plain.{none_not_some}
use Rattle.rb_rules.specs.{Book.{Record, of_kind}, Goodness.{Scenario, is_before, is_good, onsets_of}, Ports.{PortState, with_state}, Slots.count_of, WorldStep.{World, frame_in, hand}, WorldStep.Choice.Hand}
use Rattle.rb_port.specs.Keeping.{HoldsPort, KeptPort}
use Rattle.rb_world_traffic.specs.Arriving.{AreRunning}
use Rattle.rb_world_agenda.specs.Holding.{HoldsSites}
use Rattle.rb_world_book.specs.{Holding.Holds, declared.book.Book.Book as KeptBook}
use Rattle.rb_laws_agreement.proofs.PortLists.{with-state-long}
use Rattle.rb_world.specs.{Buses.HaveRooms, declared.scene.Scene.Scene, Worlds.{AreNodes, HoldsPorts, IsReached, KeptWorld, Stands, Surrounds, last_of, running_of}}
use Rattle.rb_world.proofs.Turns.{reached-more}
use Rattle.rb_world.specs.declared.last.Last.TheVariants as last

-- Ports.

abbrev HoldAll : List KeptPort → List PortState → Type 0
HoldAll kept ports = (i : ℕ) (k : KeptPort) (port : PortState) → slice_get kept i ≡ Some k → slice_get ports i ≡ Some port → HoldsPort k port

set-held : (biu state : ℕ) (kept : List KeptPort) (ports : List PortState) (new : KeptPort) → HoldAll kept ports
    → ((k : KeptPort) (port : PortState) → slice_get kept biu ≡ Some k → HoldsPort k port → HoldsPort new (record port { state = state }))
    → HoldAll (slice_set kept biu new) (with_state biu state ports)
set-held biu state [] ports new all one i k port here there = none_not_some k here
set-held zero state (k0 ∷ ks) [] new all one i k port here there = none_not_some port there
set-held (suc b) state (k0 ∷ ks) [] new all one i k port here there = none_not_some port there
set-held zero state (k0 ∷ ks) (p0 ∷ ps) new all one zero k port here there =
    subst (λ x. HoldsPort x port) (same_Some new k here) (subst (HoldsPort new) (same_Some (record p0 { state = state }) port there) (one k0 p0 refl (all 0 k0 p0 refl refl)))
set-held zero state (k0 ∷ ks) (p0 ∷ ps) new all one (suc i) k port here there = all (suc i) k port here there
set-held (suc b) state (k0 ∷ ks) (p0 ∷ ps) new all one zero k port here there = all 0 k port here there
set-held (suc b) state (k0 ∷ ks) (p0 ∷ ps) new all one (suc i) k port here there =
    set-held b state ks ps new (λ j. all (suc j)) one i k port here there

set-length : (kept : List KeptPort) (i : ℕ) (new : KeptPort) → length (slice_set kept i new) ≡ length kept
set-length [] i new = refl
set-length (k ∷ ks) zero new = refl
set-length (k ∷ ks) (suc i) new = ap suc (set-length ks i new)

pub ports-handed : (sc : Scenario) (biu state : ℕ) (kept : List KeptPort) (ports : List PortState) (new : KeptPort) → HoldsPorts sc kept ports
    → ((k : KeptPort) (port : PortState) → slice_get kept biu ≡ Some k → HoldsPort k port → HoldsPort new (record port { state = state }))
    → HoldsPorts sc (slice_set kept biu new) (with_state biu state ports)
ports-handed sc biu state kept ports new is one = record {
  many = set-length kept biu new ∙ is.many;
  all = with-state-long biu state ports ∙ is.all;
  each = set-held biu state kept ports new is.each one;
}

-- The last turn.

frame-kept : (r : Option Record) (frame : ℕ) → last_of r ≡ last.Frame frame → frame_in r ≡ Some frame
frame-kept None frame e = absurd (cc)
frame-kept (Some (Record.Frame f nodes ports)) frame e = cc
frame-kept (Some (Record.Slot f slot lines)) frame e = absurd (cc)
frame-kept (Some Record.Ended) frame e = absurd (cc)
frame-kept (Some (Record.Breach place cause)) frame e = absurd (cc)

no-frame : (r : Option Record) → ((frame : ℕ) → last_of r ≡ last.Frame frame → ⊥) → frame_in r ≡ None
no-frame None other = refl
no-frame (Some (Record.Frame f nodes ports)) other = absurd (other f refl)
no-frame (Some (Record.Slot f slot lines)) other = refl
no-frame (Some Record.Ended) other = refl
no-frame (Some (Record.Breach place cause)) other = refl

-- Hand-ins.

abbrev with_hand : World → ℕ → ℕ → ℕ → World
with_hand w biu state frame =
    record w { ports = with_state biu state w.ports; hands = w.hands ++ record { frame = frame; biu = biu; state = state } ∷ [] }

abbrev handed_if : World → ℕ → ℕ → ℕ → Bool → World
handed_if w biu state frame good = elim good [ true ↦ with_hand w biu state frame | false ↦ w ]

hand-is : (sc : Scenario) (w : World) (biu state : ℕ) (o : Option ℕ) → frame_in w.turn ≡ o
    → hand sc w biu state ≡ (elim o as (λ _. World) [ None ↦ w | Some frame ↦ handed_if w biu state frame (is_good sc Biu biu frame 0) ])
unfolding hand
hand-is sc w biu state o e = ap (λ (o : Option ℕ). elim o as (λ _. World) [ None ↦ w | Some frame ↦ handed_if w biu state frame (is_good sc Biu biu frame 0) ]) e

-- a hand-in elsewhere than at the start of a frame changes nothing
pub hand-elsewhere : (k : KeptWorld) (w : World) (biu state : ℕ) → Stands k w → ((frame : ℕ) → k.last ≡ last.Frame frame → ⊥) → Stands k (hand k.bus w biu state)
hand-elsewhere k w biu state is other =
    subst (Stands k) (sym (hand-is k.bus w biu state None (no-frame w.turn (λ f e. other f (is.last ∙ e))))) is

pub hand-at-other : (k : KeptWorld) (w : World) (biu state frame : ℕ) → Stands k w → k.last ≡ last.Frame frame → is_good k.bus Biu biu frame 0 ≡ false
    → Stands k (hand k.bus w biu state)
hand-at-other k w biu state frame is at bad =
    subst (Stands k) (sym (hand-is k.bus w biu state (Some frame) (frame-kept w.turn frame (sym is.last ∙ at)) ∙ ap (handed_if w biu state frame) bad)) is

handed-stands : (k : KeptWorld) (scene : Scene) (w x : World) → Stands k w → IsReached k.bus x → x.sites ≡ w.sites → x.book ≡ w.book → x.turn ≡ w.turn
    → Surrounds k.bus scene x → Stands (record k { scene = scene }) x
handed-stands k scene w x is reached sites book turn around = record {
  lawful = is.lawful;
  listed = is.listed;
  reached = reached;
  nodes = λ me. subst (λ all. AreNodes k.bus me (of_kind me k.nodes) (of_kind me all)) (sym sites) (is.nodes me);
  scene = around;
  last = is.last ∙ ap last_of (sym turn);
}

pub hand-at-good : (k : KeptWorld) (scene : Scene) (w : World) (biu state frame : ℕ) → Stands k w → k.last ≡ last.Frame frame → is_good k.bus Biu biu frame 0 ≡ true
    → Surrounds k.bus scene (with_hand w biu state frame) → Stands (record k { scene = scene }) (hand k.bus w biu state)
hand-at-good k scene w biu state frame is at good around =
    let same : hand k.bus w biu state ≡ with_hand w biu state frame =
    hand-is k.bus w biu state (Some frame) (frame-kept w.turn frame (sym is.last ∙ at)) ∙ ap (handed_if w biu state frame) good in
    let reached : IsReached k.bus (with_hand w biu state frame) = subst (IsReached k.bus) same (reached-more k.bus w (Hand biu state) is.reached) in
    subst (Stands (record k { scene = scene })) (sym same) (handed-stands k scene w (with_hand w biu state frame) is reached refl refl refl around)

-- a good BIU is one of the bus
pub good-within : (sc : Scenario) (biu frame slot : ℕ) → is_good sc Biu biu frame slot ≡ true → biu < sc.sizes.bius
good-within sc biu frame slot good = by (nat_lt biu sc.sizes.bius) refl (is_before (get_or (onsets_of Biu sc) biu None) frame slot) good
  where
    by : (b : Bool) → nat_lt biu sc.sizes.bius ≡ b → (c : Bool) → (b && c) ≡ true → biu < sc.sizes.bius
    by true e c both = ltb-true biu sc.sizes.bius e
    by false e c both = absurd (cc)

-- the book that is kept still holds after a hand-in
book-holds : (sc : Scenario) (l : KeptBook) (w : World) (biu state frame : ℕ) → Holds sc l w → Holds sc l (with_hand w biu state frame)
book-holds sc l w biu state frame is = record {
  fits = is.fits;
  upcoming = is.upcoming;
  coming = is.coming;
  lines = is.lines;
  ended = is.ended;
  judged = is.judged;
  bius = is.bius;
  rmus = is.rmus;
}

pub surrounds-handed : (sc : Scenario) (old new : Scene) (w : World) (biu state frame : ℕ) → Surrounds sc old w → new.agenda ≡ old.agenda → new.book ≡ old.book
    → new.running_biu ≡ old.running_biu → new.running_rmu ≡ old.running_rmu → HoldsPorts sc new.ports.items (with_state biu state w.ports)
    → Surrounds sc new (with_hand w biu state frame)
surrounds-handed sc old new w biu state frame is agenda book bius rmus ports = record {
  counts = is.counts;
  within = inside;
  lanes = subst (λ a. HoldsSites sc.sizes a w.sites) (sym agenda) is.lanes;
  rooms = subst (HaveRooms sc) (sym agenda) is.rooms;
  book = subst (λ l. Holds sc l (with_hand w biu state frame)) (sym book) (book-holds sc old.book w biu state frame is.book);
  ports = ports;
  running = by;
}
  where
    by : (me : Side) → AreRunning me (running_of me new) w.sites
    by Biu = subst (λ r. AreRunning Biu r w.sites) (sym bius) (is.running Biu)
    by Rmu = subst (λ r. AreRunning Rmu r w.sites) (sym rmus) (is.running Rmu)

    inside : (me : Side) (i : ℕ) → has (running_of me new) i ≡ true → i < count_of me sc.sizes
    inside Biu = subst (λ r. (i : ℕ) → has r i ≡ true → i < count_of Biu sc.sizes) (sym bius) (is.within Biu)
    inside Rmu = subst (λ r. (i : ℕ) → has r i ≡ true → i < count_of Rmu sc.sizes) (sym rmus) (is.within Rmu)
