-- Ports through a window, and as a frame begins.
use Rattle.std.proofs.{Common.{◌≡◌, ℕ, zero, suc, ◌+◌, ◌<◌, ◌==◌, ◌&&◌, nat_lt, Bool, true, false, cond, List, [], ◌∷◌, length, map, filter, Option, None, option_map, get_or, if◌then◌else◌, refl, sym, ◌∙◌, ap, arith}, lemmas.Bool.Decides.nat_tests, lemmas.List.FromFn.{length-map-range_with_len, get_or-map-range_with_len}, lemmas.Option.slice_get-get_or, Common.zero-add}
use Rattle.rb_base.specs.{Counting.numbers, Nodes.Side, Nodes.Side.Biu}
use Rattle.rb_rules.specs.{Book.{Each, Row, line_in}, Goodness.Scenario, Hearing.port_at, Ports.{PortState, HandIn, fresh_port, with_state, hand_over}, Rounds.{Moment, port_after, ports_after, after_window, begin_frame, first_moment, next_frame, step, moment, windows_in}}
use Rattle.rb_rules.proofs.{Books.stepped, WindowNumbers.{get-each, length-each}}
use Rattle.rb_laws_agreement.specs.Histories.{states_for, with_states}
use Rattle.rb_laws_agreement.proofs.Tests.{get-some}

-- Through a window.

-- the ports as something of each BIU
abbrev as_each : List PortState → Each PortState
as_each ports = record { bius = ports; rmus = [] }

abbrev make_after : List (Option Row) → Side → ℕ → PortState → PortState
make_after rows me i port = port_after (line_in (get_or rows i None)) port

pub ports-long : (rows : List (Option Row)) (ports : List PortState) → length (ports_after rows ports) ≡ length ports
ports-long rows ports = length-each (make_after rows) (as_each ports) Biu

-- a row of a BIU acts on its port by the line in it
pub port-after : (sc : Scenario) (rows : List (Option Row)) (ports : List PortState) (i : ℕ) → i < length ports
    → port_at sc (ports_after rows ports) i ≡ port_after (line_in (get_or rows i None)) (port_at sc ports i)
port-after sc rows ports i within =
    let fresh : PortState = fresh_port (get_or sc.apps i 0) (get_or sc.words i 0) in
    get-some (ports_after rows ports) i fresh
    (get-each (make_after rows) (as_each ports) Biu i ∙ ap (option_map (make_after rows Biu i)) (slice_get-get_or ports i fresh within))

-- The start of a frame.

pub with-state-long : (k state : ℕ) (ports : List PortState) → length (with_state k state ports) ≡ length ports
with-state-long k state [] = refl
with-state-long zero state (p ∷ ps) = refl
with-state-long (suc k) state (p ∷ ps) = ap suc (with-state-long k state ps)

pub handed-long : (frame : ℕ) (hands : List HandIn) (ports : List PortState) → length (hand_over frame hands ports) ≡ length ports
handed-long frame [] ports = refl
handed-long frame (h ∷ hs) ports =
    handed-long frame hs (if h.frame == frame then with_state h.biu h.state ports else ports) ∙ go (h.frame == frame)
  where
    go : (b : Bool) → length (if b then with_state h.biu h.state ports else ports) ≡ length ports
    go true = with-state-long h.biu h.state ports
    go false = refl

-- a state that is handed in changes the port at its place alone
with-state-at : (k state i : ℕ) (ports : List PortState) (d : PortState) → i < length ports
    → get_or (with_state k state ports) i d ≡ (if k == i then record (get_or ports i d) { state = state } else get_or ports i d)
with-state-at k state i [] d h = absurd (omega arith)
with-state-at zero state zero (p ∷ ps) d h = refl
with-state-at zero state (suc i) (p ∷ ps) d h =
    let no_it : (0 == suc i) ≡ false = grind (arith, nat_tests) in
    ap (λ b. if b then record (get_or ps i d) { state = state } else get_or ps i d) (sym no_it)
with-state-at (suc k) state zero (p ∷ ps) d h =
    let no_it : (suc k == 0) ≡ false = grind (arith, nat_tests) in
    ap (λ b. if b then record p { state = state } else p) (sym no_it)
with-state-at (suc k) state (suc i) (p ∷ ps) d h =
    let same : (suc k == suc i) ≡ (k == i) = grind (arith, nat_tests) in
    with-state-at k state i ps d (omega arith)
    ∙ ap (λ b. if b then record (get_or ps i d) { state = state } else get_or ps i d) (sym same)

-- the ports after one hand-in, which may be another frame's
abbrev after_hand : Bool → HandIn → List PortState → List PortState
after_hand b h ports = if b then with_state h.biu h.state ports else ports

-- the states in `xs` for BIU `i`, with that of `x` if it is among them
abbrev more_states : ℕ → ℕ → Bool → HandIn → List HandIn → List ℕ
more_states i frame b x xs =
    map (λ h. h.state) (cond b (x ∷ filter (λ h. (h.frame == frame) && (h.biu == i)) xs) (filter (λ h. (h.frame == frame) && (h.biu == i)) xs))

-- a port to which a frame's states were handed
pub handed-at : (frame i : ℕ) (hands : List HandIn) (ports : List PortState) (d : PortState) → i < length ports
    → get_or (hand_over frame hands ports) i d ≡ with_states (states_for i frame hands) (get_or ports i d)
handed-at frame i [] ports d h = refl
handed-at frame i (x ∷ xs) ports d h = go (x.frame == frame) (λ ps. handed-at frame i xs ps d)
  where
    taken : (b : Bool) → (x.biu == i) ≡ b
        → with_states (states_for i frame xs) (if b then record (get_or ports i d) { state = x.state } else get_or ports i d)
        ≡ with_states (more_states i frame b x xs) (get_or ports i d)
    taken true e = refl
    taken false e = refl

    go : (b : Bool) → ((ps : List PortState) → i < length ps → get_or (hand_over frame xs ps) i d ≡ with_states (states_for i frame xs) (get_or ps i d))
        → get_or (hand_over frame xs (after_hand b x ports)) i d ≡ with_states (more_states i frame (b && (x.biu == i)) x xs) (get_or ports i d)
    go false rest = rest ports h
    go true rest =
        let long : length (with_state x.biu x.state ports) ≡ length ports = with-state-long x.biu x.state ports in
        rest (with_state x.biu x.state ports) (omega arith)
        ∙ ap (with_states (states_for i frame xs)) (with-state-at x.biu x.state i ports d h)
        ∙ taken (x.biu == i) refl

-- There is a port for each BIU.

pub stepped-long : (sc : Scenario) (hands : List HandIn) (m : Moment) (over in_frame : Bool) → length (stepped sc hands m over in_frame).ports ≡ length m.ports
unfolding after_window begin_frame
stepped-long sc hands m over true = ports-long _ m.ports
stepped-long sc hands m over false = handed-long (m.frame + 1) hands m.ports

step-long : (sc : Scenario) (hands : List HandIn) (m : Moment) → length (step sc hands m).ports ≡ length m.ports
unfolding step
step-long sc hands m = stepped-long sc hands m (m.frame == sc.frames) (nat_lt m.window (windows_in sc.sizes))

first-long : (sc : Scenario) (hands : List HandIn) → length (first_moment sc hands).ports ≡ sc.sizes.bius
unfolding begin_frame
first-long sc hands =
    handed-long 0 hands (map (port_at sc []) (numbers sc.sizes.bius)) ∙ length-map-range_with_len (port_at sc []) 0 sc.sizes.bius

pub ports_long : (sc : Scenario) (hands : List HandIn) (n : ℕ) → length (moment sc hands n).ports ≡ sc.sizes.bius
ports_long sc hands zero = first-long sc hands
ports_long sc hands (suc n) = step-long sc hands (moment sc hands n) ∙ ports_long sc hands n

-- The ports of a moment.

-- the port with which a run begins
pub first-port : (sc : Scenario) (hands : List HandIn) (i : ℕ) → i < sc.sizes.bius
    → port_at sc (first_moment sc hands).ports i ≡ with_states (states_for i 0 hands) (fresh_port (get_or sc.apps i 0) (get_or sc.words i 0))
unfolding begin_frame
first-port sc hands i h =
    let fresh : PortState = fresh_port (get_or sc.apps i 0) (get_or sc.words i 0) in
    let long : length (map (port_at sc []) (numbers sc.sizes.bius)) ≡ sc.sizes.bius = length-map-range_with_len (port_at sc []) 0 sc.sizes.bius in
    handed-at 0 i hands (map (port_at sc []) (numbers sc.sizes.bius)) fresh (omega arith)
    ∙ ap (with_states (states_for i 0 hands)) (get_or-map-range_with_len (port_at sc []) 0 sc.sizes.bius i i fresh h (zero-add i))

-- the port with which a frame begins
pub turned-port : (sc : Scenario) (hands : List HandIn) (m : Moment) (i : ℕ) → i < length m.ports
    → port_at sc (next_frame sc hands m).ports i ≡ with_states (states_for i (m.frame + 1) hands) (port_at sc m.ports i)
unfolding begin_frame
turned-port sc hands m i h = handed-at (m.frame + 1) i hands m.ports (fresh_port (get_or sc.apps i 0) (get_or sc.words i 0)) h
