-- For the law that events are rounds: the ports of a world and those of the rounds: the words that
-- they offer, and what is delivered to them.
use Rattle.std.proofs.{Common.{◌≡◌, ℕ, suc, ◌<◌, ◌==◌, ◌≢◌, List, [], length, refl, ap, ◌∙◌, arith, Option, Some, None, slice_get, get_or, option_map, option_and_then}, lemmas.Bool.lt-ltb, lemmas.List.{get_or-set_same, get_or-set_other}, lemmas.Option.get_or_from_slice_get}
use Rattle.rb_base.specs.{Nodes.Side, Nodes.Side.{Biu, Rmu}, declared.values.Delivery.Delivery}
use Rattle.rb_rules.specs.{declared.record.SlotLine.SlotLine, declared.role.Role.Role, declared.role.Role.TheVariants.{Schedule, Data, DiagBiu, DiagRmu, Sync}, Book.{Row, line_in, map_each, of_kind}, ExactStage.says, Goodness.Scenario, Hearing.{Coming, port_at, row_of, word_for}, declared.closing.Closed.Closed, NodeState.NodeState, Ports.{HandIn, PortState, delivered_to, offered_at}, Rounds.{Moment, Result, after_window, go_through, moment, port_after, ports_after, results_of, sent_in, step, window_in, windows_in}, Slots.role_of, WorldStep.with_delivery}
use Rattle.rb_rules.proofs.{Books.stepped, WindowNumbers.get-each}
use Rattle.rb_laws_agreement.proofs.PortLists.{port-after, ports_long}
use Rattle.rb_laws_events.proofs.{Invariant.word_at, NodeActs.HasWord, NodeWords.{from-says, rmu-words}}

-- Words.

word-by-port : (sc : Scenario) (a b : List PortState) (i slot : ℕ) → port_at sc a i ≡ port_at sc b i → (role : Role) → word_for sc a i slot role ≡ word_for sc b i slot role
word-by-port sc a b i slot e (Schedule n) = refl
word-by-port sc a b i slot e (Data n) = ap (λ (p : PortState). offered_at p slot) e
word-by-port sc a b i slot e (DiagBiu n) = refl
word-by-port sc a b i slot e (DiagRmu n) = refl
word-by-port sc a b i slot e Sync = refl

-- a BIU whose port is as in the rounds has the word of the rounds, and an RMU needs none
pub has-word : (sc : Scenario) (ports : List PortState) (m : Moment) (me : Side) (i : ℕ) (st : NodeState)
    → (me ≡ Biu → port_at sc ports i ≡ port_at sc m.ports i) → HasWord sc ports me i st m.window (word_at sc m me i st)
has-word sc ports m Biu i st same =
    let slot : ℕ = (window_in sc m Biu st).slot in
    let stage : ℕ = (window_in sc m Biu st).stage in
    let word : word_for sc ports i slot (role_of sc.sizes slot) ≡ word_for sc m.ports i slot (role_of sc.sizes slot) =
    word-by-port sc ports m.ports i slot (same refl) (role_of sc.sizes slot) in
    from-says sc.sizes Biu i st slot stage (word_for sc ports i slot (role_of sc.sizes slot)) (word_for sc m.ports i slot (role_of sc.sizes slot))
    (ap (says sc.sizes Biu i st slot stage) word)
has-word sc ports m Rmu i st same =
    rmu-words sc.sizes i st (window_in sc m Rmu st).slot (window_in sc m Rmu st).stage
    (word_for sc ports i (window_in sc m Rmu st).slot (role_of sc.sizes (window_in sc m Rmu st).slot)) (word_at sc m Rmu i st)

pub port-given : (sc : Scenario) (i : ℕ) (d : Option Delivery) (ports : List PortState) → i < length ports
    → port_at sc (with_delivery sc i d ports) i
    ≡ port_after (option_map (λ (d : Delivery). let l : SlotLine = record { receiver = i; sender = d.sender; value = d.value } in l) d) (port_at sc ports i)
port-given sc i None ports h = refl
port-given sc i (Some d) ports h =
    get_or-set_same ports i (delivered_to (port_at sc ports i) d.value) (record { app = get_or sc.apps i 0; state = get_or sc.words i 0; faults = [] }) h

pub port-kept : (sc : Scenario) (i j : ℕ) (d : Option Delivery) (ports : List PortState) → j ≢ i → port_at sc (with_delivery sc i d ports) j ≡ port_at sc ports j
port-kept sc i j None ports h = refl
port-kept sc i j (Some d) ports h =
    get_or-set_other ports i j (delivered_to (port_at sc ports i) d.value) (record { app = get_or sc.apps j 0; state = get_or sc.words j 0; faults = [] }) h

-- A window at the port of its BIU.

in-window-ports : (sc : Scenario) (hands : List HandIn) (p : ℕ) → (moment sc hands p).window < windows_in sc.sizes
    → (moment sc hands (suc p)).ports ≡ ports_after (map_each (λ me i (r : Result). r.row) (results_of sc (moment sc hands p))).bius (moment sc hands p).ports
unfolding step after_window
in-window-ports sc hands p inside =
    ap (λ b. (stepped sc hands (moment sc hands p) ((moment sc hands p).frame == sc.frames) b).ports) (lt-ltb (moment sc hands p).window (windows_in sc.sizes) inside)

-- the rounds change a port by what the row of its BIU's window delivers
pub port-after-window : (sc : Scenario) (hands : List HandIn) (p i : ℕ) {st : _} → (moment sc hands p).window < windows_in sc.sizes → i < sc.sizes.bius
    → slice_get (of_kind Biu (moment sc hands p).nodes) i ≡ Some st
    → port_at sc (moment sc hands (suc p)).ports i
    ≡ port_after (line_in (go_through sc (moment sc hands p) (sent_in sc (moment sc hands p)) Biu i st (window_in sc (moment sc hands p) Biu st)).row) (port_at sc (moment sc hands p).ports i)
unfolding results_of
port-after-window sc hands p i {st} inside counted there =
    let m : Moment = moment sc hands p in
    let go : Side → ℕ → NodeState → Result = λ me i st. go_through sc m (sent_in sc m) me i st (window_in sc m me st) in
    let rows : List (Option Row) = (map_each (λ me i (r : Result). r.row) (map_each go m.nodes)).bius in
    let many : length m.ports ≡ sc.sizes.bius = ports_long sc hands p in
    let row : get_or rows i None ≡ (go Biu i st).row =
    get_or_from_slice_get rows i (go Biu i st).row None
    (get-each (λ me i (r : Result). r.row) (map_each go m.nodes) Biu i
    ∙ ap (option_map (λ (r : Result). r.row)) (get-each go m.nodes Biu i ∙ ap (option_map (go Biu i)) there)) in
    ap (λ ports. port_at sc ports i) (in-window-ports sc hands p inside)
    ∙ port-after sc rows m.ports i (omega arith)
    ∙ ap (λ row. port_after (line_in row) (port_at sc m.ports i)) row

pub port-after-close : (sc : Scenario) (i : ℕ) (ports : List PortState) (st : NodeState) (heard : ℕ → List Coming) (c : Closed) → i < length ports
    → port_at sc (with_delivery sc i (option_and_then (λ (c : Closed). c.delivered) (Some c)) ports) i ≡ port_after (line_in (Some (row_of Biu i st heard c))) (port_at sc ports i)
unfolding row_of
port-after-close sc i ports st heard c h = port-given sc i c.delivered ports h
