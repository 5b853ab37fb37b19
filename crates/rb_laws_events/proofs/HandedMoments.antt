-- For the law that events are rounds: what is handed in at a frame's start changes the ports of
-- that moment, and up to the first data slot nothing else.
use Rattle.std.proofs.{Common.{◌≡◌, ℕ, zero, suc, ◌+◌, ◌-◌, ◌*◌, ◌<◌, ◌≤◌, ◌==◌, ◌&&◌, nat_le, nat_lt, Bool, true, false, List, [], ◌∷◌, ◌++◌, refl, ap, sym, ◌∙◌, subst, arith, inl, inr, Option, None, if◌then◌else◌}, Math.Path.fun_ext, lemmas.Bool.{cases_lt, lt-ltb, le-ltb}, lemmas.Bool.Decides.nat_tests, lemmas.Nat.mul-le}
use Rattle.rb_base.specs.Nodes.{Side}
use Rattle.rb_rules.specs.{declared.plan.Window.Window, Book.{Each, map_each}, ExactStage.keep_sent, Goodness.{Scenario, is_good}, Hearing.{Sending, sending, word_for}, NodeState.NodeState, Ports.{HandIn, PortState, hand_over, with_state}, Rounds.{Moment, Result, after_window, begin_frame, close_on, go_through, heard_at, moment, results_of, sending_in, sent_in, step, window_in, windows_in, word_for_window}, Slots.role_of}
use Rattle.rb_rules.proofs.{Books.stepped, HandIns.moments-more, Slots.schedule_role}
use Rattle.rb_laws_events.proofs.{CloseOrder.{IsFrameLater, IsWindowLater, frame-later, window-later}, MomentBooks.number-of, PortsKept.ports-turned, RoundNodes.{slot-is, slot_numbered}}

-- In a schedule slot ports play no part.

word-alike : (sc : Scenario) (a b : List PortState) (i slot : ℕ) → slot < sc.sizes.bius → word_for sc a i slot (role_of sc.sizes slot) ≡ word_for sc b i slot (role_of sc.sizes slot)
word-alike sc a b i slot early =
    ap (word_for sc a i slot) (schedule_role sc.sizes slot early) ∙ sym (ap (word_for sc b i slot) (schedule_role sc.sizes slot early))

-- a moment that differs from another in its ports alone, which play no part in its window
pub record Alike (sc : Scenario) (m x : Moment) : Type 0 where
  pub is : x ≡ record m { ports = x.ports }
  pub word : (i : ℕ) (w : Window) → w.slot ≡ slot_numbered sc.sizes m.window → word_for_window sc x i w ≡ word_for_window sc m i w

pub alike-sent : {sc m x : _} → Alike sc m x → sent_in sc x ≡ sent_in sc m
unfolding sent_in
alike-sent {sc} {m} {x} a =
    let make : Side → ℕ → NodeState → Option Sending = λ me i st. sending_in sc x me i st (window_in sc m me st) in
    let same : make ≡ (λ me i st. sending_in sc m me i st (window_in sc m me st)) =
    fun_ext (λ me. fun_ext (λ i. fun_ext (λ st.
    let w : Window = window_in sc m me st in
    ap (sending sc.sizes sc.plan me i st w.slot w.stage) (a.word i w (slot-is sc.sizes sc.plan me st m.window))))) in
    ap (λ (y : Moment). map_each (λ me i st. sending_in sc x me i st (window_in sc y me st)) y.nodes) a.is ∙ ap (λ f. map_each f m.nodes) same

pub alike-through : {sc m x : _} → Alike sc m x → (me : Side) (i : ℕ) (st : NodeState)
    → go_through sc x (sent_in sc x) me i st (window_in sc x me st) ≡ go_through sc m (sent_in sc m) me i st (window_in sc m me st)
unfolding go_through
alike-through {sc} {m} {x} a me i st =
    let w : Window = window_in sc m me st in
    let through : ℕ → ℕ → Window → Each (Option Sending) → Result = λ frame word w sent. elim (is_good sc me i frame w.slot && nat_le w.first w.last) as (λ _. Result) [
      | true ↦ close_on sc me i (keep_sent sc.sizes me i st w.slot w.stage word) w (heard_at sc me i st w sent)
      | false ↦ record { state = st; row = None }
    ] in
    ap (λ (y : Moment). through y.frame (word_for_window sc x i (window_in sc y me st)) (window_in sc y me st) (sent_in sc x)) a.is
    ∙ ap (λ word. through m.frame word w (sent_in sc x)) (a.word i w (slot-is sc.sizes sc.plan me st m.window))
    ∙ ap (through m.frame (word_for_window sc m i w) w) (alike-sent a)

alike-results : {sc m x : _} → Alike sc m x → results_of sc x ≡ results_of sc m
unfolding results_of
alike-results {sc} {m} {x} a =
    let go : Moment → Side → ℕ → NodeState → Result = λ y me i st. go_through sc y (sent_in sc y) me i st (window_in sc y me st) in
    let same : go x ≡ go m = fun_ext (λ me. fun_ext (λ i. fun_ext (λ st. alike-through a me i st))) in
    ap (λ (y : Moment). map_each (go x) y.nodes) a.is ∙ ap (λ f. map_each f m.nodes) same

-- Moments.

-- a moment is before the start of a frame, or after it
pub before-frame : (sc : Scenario) (hands : List HandIn) (n frame : ℕ) → n < frame * (windows_in sc.sizes + 1) → (moment sc hands n).frame < frame
before-frame sc hands n frame lt =
    let m : Moment = moment sc hands n in
    let number = number-of sc hands n in
    elim (cases_lt m.frame frame) [
      | inl less ↦ less
      | inr ge ↦
          let up : frame * (windows_in sc.sizes + 1) ≤ m.frame * (windows_in sc.sizes + 1) = mul-le frame (windows_in sc.sizes + 1) m.frame (windows_in sc.sizes + 1) ge (omega arith) in
          absurd (omega (arith, number.0, up, lt))
    ]

-- the number of a moment fixes its frame and its window
pub place-of : (sc : Scenario) (hands : List HandIn) (n frame window : ℕ) → n ≡ frame * (windows_in sc.sizes + 1) + window → window ≤ windows_in sc.sizes
    → ((moment sc hands n).frame ≡ frame) × ((moment sc hands n).window ≡ window)
place-of sc hands n frame window is within =
    let m : Moment = moment sc hands n in
    let number = number-of sc hands n in
    let w : ℕ = windows_in sc.sizes + 1 in
    let same : m.frame ≡ frame = elim (cases_lt m.frame frame) [
      | inl less ↦
          let up : (m.frame + 1) * w ≤ frame * w = mul-le (m.frame + 1) w frame w (omega arith) (omega arith) in
          let more : (m.frame + 1) * w ≡ m.frame * w + w = one-more m.frame w in
          absurd (omega (arith, number.0, number.1, is, up, more))
      | inr ge ↦ elim (cases_lt frame m.frame) [
        | inl more ↦
            let up : (frame + 1) * w ≤ m.frame * w = mul-le (frame + 1) w m.frame w (omega arith) (omega arith) in
            let less : (frame + 1) * w ≡ frame * w + w = one-more frame w in
            absurd (omega (arith, number.0, is, within, up, less))
        | inr le ↦ omega (arith, ge, le)
      ]
    ] in
    let f : m.frame * w ≡ frame * w = ap (λ f. f * w) same in
    (same, omega (arith, number.0, is, f))
  where
    one-more : (a n : ℕ) → (a + 1) * n ≡ a * n + n
    one-more a n = omega arith

stepped-window : (sc : Scenario) (hands : List HandIn) (h : HandIn) (m x : Moment) (over in_frame : Bool) → Alike sc m x → in_frame ≡ true
    → stepped sc (hands ++ h ∷ []) x over in_frame ≡ record (stepped sc hands m over in_frame) { ports = (stepped sc (hands ++ h ∷ []) x over in_frame).ports }
unfolding after_window
stepped-window sc hands h m x over false a e = cc
stepped-window sc hands h m x true true a e = rest a.is (alike-results a)
  where
    rest : x ≡ record m { ports = x.ports } → results_of sc x ≡ results_of sc m
        → stepped sc (hands ++ h ∷ []) x true true ≡ record (stepped sc hands m true true) { ports = (stepped sc (hands ++ h ∷ []) x true true).ports }
    rest is results =
        ap (λ (y : Moment). record (stepped sc hands y true true) { nodes = (after_window sc x (results_of sc x)).nodes; ports = (stepped sc (hands ++ h ∷ []) x true true).ports }) is
        ∙ ap (λ r. record (stepped sc hands m true true) { nodes = (after_window sc x r).nodes; ports = (stepped sc (hands ++ h ∷ []) x true true).ports }) results
stepped-window sc hands h m x false true a e = rest a.is (alike-results a)
  where
    rest : x ≡ record m { ports = x.ports } → results_of sc x ≡ results_of sc m
        → stepped sc (hands ++ h ∷ []) x false true ≡ record (stepped sc hands m false true) { ports = (stepped sc (hands ++ h ∷ []) x false true).ports }
    rest is results =
        ap (λ r. record (after_window sc x r) { ports = (stepped sc (hands ++ h ∷ []) x false true).ports }) results
        ∙ ap (λ (y : Moment). record (after_window sc y (results_of sc m)) { ports = (stepped sc (hands ++ h ∷ []) x false true).ports }) is

same-alike : (sc : Scenario) {m x : _} → x ≡ m → Alike sc m x
same-alike sc {m} e = subst (Alike sc m) (sym e) (record { is = refl; word = λ i w slot. refl })

early-slot : (sc : Scenario) (hands : List HandIn) (n frame : ℕ) → frame * (windows_in sc.sizes + 1) ≤ n → n < frame * (windows_in sc.sizes + 1) + 3 * sc.sizes.bius
    → slot_numbered sc.sizes (moment sc hands n).window < sc.sizes.bius
early-slot sc hands n frame later before =
    let b : ℕ = frame * (windows_in sc.sizes + 1) in
    let w : (moment sc hands n).window ≡ n - b = (place-of sc hands n frame (n - b) (omega (arith, later)) (omega (arith, later, before))).1 in
    omega (arith, w, later, before)

alike-from : (sc : Scenario) (hands : List HandIn) (h : HandIn) (n : ℕ) → n < h.frame * (windows_in sc.sizes + 1) + 3 * sc.sizes.bius
    → moment sc (hands ++ h ∷ []) n ≡ record (moment sc hands n) { ports = (moment sc (hands ++ h ∷ []) n).ports }
    → Alike sc (moment sc hands n) (moment sc (hands ++ h ∷ []) n)
alike-from sc hands h n before is =
    elim (cases_lt n (h.frame * (windows_in sc.sizes + 1))) [
      | inl earlier ↦ same-alike sc (moments-more sc hands h n (before-frame sc hands n h.frame earlier))
      | inr later ↦
          let early : slot_numbered sc.sizes (moment sc hands n).window < sc.sizes.bius = early-slot sc hands n h.frame later before in
          record {
            is = is;
            word = λ i w slot. word-alike sc (moment sc (hands ++ h ∷ []) n).ports (moment sc hands n).ports i w.slot (omega (arith, slot, early));
          }
    ]

stepped-frame : (sc : Scenario) (hands : List HandIn) (h : HandIn) (m x : Moment) (over in_frame : Bool) → x ≡ m → in_frame ≡ false
    → stepped sc (hands ++ h ∷ []) x over in_frame ≡ record (stepped sc hands m over in_frame) { ports = (stepped sc (hands ++ h ∷ []) x over in_frame).ports }
unfolding begin_frame
stepped-frame sc hands h m x over true same e = cc
stepped-frame sc hands h m x over false same e =
    subst (λ x. stepped sc (hands ++ h ∷ []) x over false ≡ record (stepped sc hands m over false) { ports = (stepped sc (hands ++ h ∷ []) x over false).ports }) (sym same) refl

handed-is : (sc : Scenario) (hands : List HandIn) (h : HandIn) (n : ℕ) → n < h.frame * (windows_in sc.sizes + 1) + 3 * sc.sizes.bius
    → moment sc (hands ++ h ∷ []) n ≡ record (moment sc hands n) { ports = (moment sc (hands ++ h ∷ []) n).ports }
unfolding begin_frame step
handed-is sc hands h zero before = refl
handed-is sc hands h (suc n) before =
    let more : List HandIn = hands ++ h ∷ [] in
    let m : Moment = moment sc hands n in
    let x : Moment = moment sc more n in
    let b : ℕ = h.frame * (windows_in sc.sizes + 1) in
    let over : Bool = m.frame == sc.frames in
    let in_frame : Bool = nat_lt m.window (windows_in sc.sizes) in
    let is : x ≡ record m { ports = x.ports } = handed-is sc hands h n (omega (arith, before)) in
    let tests : stepped sc more x (x.frame == sc.frames) (nat_lt x.window (windows_in sc.sizes)) ≡ stepped sc more x over in_frame =
    ap (λ (y : Moment). stepped sc more x (y.frame == sc.frames) (nat_lt y.window (windows_in sc.sizes))) is in
    let then_is : stepped sc more x over in_frame ≡ record (stepped sc hands m over in_frame) { ports = (stepped sc more x over in_frame).ports } =
    elim (cases_lt m.window (windows_in sc.sizes)) [
      | inl lt ↦ stepped-window sc hands h m x over in_frame (alike-from sc hands h n (omega (arith, before)) is) (lt-ltb m.window (windows_in sc.sizes) lt)
      | inr ge ↦
          let earlier : n < b = elim (cases_lt n b) [
            | inl lt ↦ lt
            | inr later ↦
                let w : m.window ≡ n - b = (place-of sc hands n h.frame (n - b) (omega (arith, later)) (omega (arith, later, before))).1 in
                absurd (omega (arith, w, later, before, ge))
          ] in
          stepped-frame sc hands h m x over in_frame (moments-more sc hands h n (before-frame sc hands n h.frame earlier)) (le-ltb m.window (windows_in sc.sizes) ge)
    ] in
    subst (λ y. y ≡ record (stepped sc hands m over in_frame) { ports = y.ports }) (sym tests) then_is

-- one more hand-in leaves the moments before its frame's data slots as they are
pub handed-alike : (sc : Scenario) (hands : List HandIn) (h : HandIn) (n : ℕ) → n < h.frame * (windows_in sc.sizes + 1) + 3 * sc.sizes.bius
    → Alike sc (moment sc hands n) (moment sc (hands ++ h ∷ []) n)
handed-alike sc hands h n before = alike-from sc hands h n before (handed-is sc hands h n before)

-- Ports.

-- the last hand-in comes last
over-more : {frame : ℕ} (hands : List HandIn) (h : HandIn) (ports : List PortState) → h.frame ≡ frame
    → hand_over frame (hands ++ h ∷ []) ports ≡ with_state h.biu h.state (hand_over frame hands ports)
over-more {frame} [] h ports e = ap (λ b. if b then with_state h.biu h.state ports else ports) (same-is h.frame frame e)
  where
    same-is : (a b : ℕ) → a ≡ b → (a == b) ≡ true
    same-is a b h = grind (arith, nat_tests)
over-more {frame} (x ∷ xs) h ports e = over-more xs h (if x.frame == frame then with_state x.biu x.state ports else ports) e

-- the ports with which its frame begins
pub handed-ports : (sc : Scenario) (hands : List HandIn) (h : HandIn) (n : ℕ) → n ≡ h.frame * (windows_in sc.sizes + 1)
    → (moment sc (hands ++ h ∷ []) n).ports ≡ with_state h.biu h.state (moment sc hands n).ports
unfolding begin_frame
handed-ports sc hands h zero is = over-more hands h _ (zero-frame h.frame (windows_in sc.sizes + 1) (omega arith) is)
  where
    zero-frame : (a n : ℕ) → 1 ≤ n → 0 ≡ a * n → a ≡ 0
    zero-frame zero n some e = refl
    zero-frame (suc a) n some e = let m : suc a * n ≡ n + a * n = omega arith in absurd (omega (arith, m, some, e))
handed-ports sc hands h (suc e) is =
    let more : List HandIn = hands ++ h ∷ [] in
    let place = place-of sc hands (suc e) h.frame 0 (omega (arith, is)) (omega arith) in
    let before : (moment sc hands e).frame < h.frame = before-frame sc hands e h.frame (omega (arith, is)) in
    let same : moment sc more e ≡ moment sc hands e = moments-more sc hands h e before in
    let last : windows_in sc.sizes ≤ (moment sc hands e).window = elim (cases_lt (moment sc hands e).window (windows_in sc.sizes)) [
      | inr ge ↦ ge
      | inl lt ↦
          let next : IsWindowLater sc (moment sc hands e) (moment sc hands (suc e)) = window-later sc hands (moment sc hands e) lt in
          absurd (omega (arith, next.window, place.1))
    ] in
    let next : IsFrameLater sc hands (moment sc hands e) (moment sc hands (suc e)) = frame-later sc hands (moment sc hands e) last in
    let frame : h.frame ≡ (moment sc hands e).frame + 1 = sym place.0 ∙ next.frame in
    ports-turned sc more e (subst (λ (m : Moment). windows_in sc.sizes ≤ m.window) (sym same) last)
    ∙ ap (λ (m : Moment). hand_over (m.frame + 1) more m.ports) same
    ∙ over-more hands h (moment sc hands e).ports frame
    ∙ ap (with_state h.biu h.state) (sym (ports-turned sc hands e last))
