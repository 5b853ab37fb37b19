-- A hand-in changes no moment before its frame, and no record of its frame's start.
use Rattle.std.proofs.Common.{◌≡◌, ℕ, zero, suc, ◌+◌, ◌<◌, ◌≤◌, ◌==◌, nat_lt, Bool, true, false, List, [], ◌∷◌, ◌++◌, refl, ◌∙◌, ap, arith, if◌then◌else◌}
use Rattle.rb_base.proofs.Plain.{more-differs}
use Rattle.rb_rules.specs.{Book.{Each, Book, with_end}, Goodness.Scenario, NodeState.NodeState, Ports.{PortState, HandIn, with_state, hand_over}, Rounds.{Moment, after_window, begin_frame, next_frame, step, moment, windows_in}}
use Rattle.rb_rules.proofs.Books.{stepped}

handed-more : (frame : ℕ) (hands : List HandIn) (h : HandIn) (ports : List PortState) → (h.frame == frame) ≡ false
    → hand_over frame (hands ++ h ∷ []) ports ≡ hand_over frame hands ports
handed-more frame [] h ports e = ap (λ b. if b then with_state h.biu h.state ports else ports) e
handed-more frame (x ∷ xs) h ports e = handed-more frame xs h (if x.frame == frame then with_state x.biu x.state ports else ports) e

begin-more : (sc : Scenario) (hands : List HandIn) (h : HandIn) (frame : ℕ) (nodes : Each NodeState) (ports : List PortState) (b : Book)
    → (h.frame == frame) ≡ false → begin_frame sc (hands ++ h ∷ []) frame nodes ports b ≡ begin_frame sc hands frame nodes ports b
unfolding begin_frame
begin-more sc hands h frame nodes ports b e =
    ap (λ ps. record (begin_frame sc hands frame nodes ports b) { ports = ps }) (handed-more frame hands h ports e)

stepped-rise : (sc : Scenario) (hands : List HandIn) (m : Moment) (over in_frame : Bool) → m.frame ≤ (stepped sc hands m over in_frame).frame
unfolding after_window begin_frame
stepped-rise sc hands m over true = omega arith
stepped-rise sc hands m over false = omega arith

-- no step goes back to an earlier frame
pub step-rise : (sc : Scenario) (hands : List HandIn) (m : Moment) → m.frame ≤ (step sc hands m).frame
unfolding step
step-rise sc hands m = stepped-rise sc hands m (m.frame == sc.frames) (nat_lt m.window (windows_in sc.sizes))

stepped-more : (sc : Scenario) (hands : List HandIn) (h : HandIn) (m : Moment) (over in_frame : Bool) → (stepped sc hands m over in_frame).frame < h.frame
    → stepped sc (hands ++ h ∷ []) m over in_frame ≡ stepped sc hands m over in_frame
unfolding begin_frame
stepped-more sc hands h m true true lt = refl
stepped-more sc hands h m false true lt = refl
stepped-more sc hands h m true false lt =
    let below : m.frame + 1 < h.frame = lt in
    ap (λ (next : Moment). let x : Moment = record next { book = with_end m.book } in x)
    (begin-more sc hands h (m.frame + 1) _ m.ports m.book (more-differs h.frame (m.frame + 1) below))
stepped-more sc hands h m false false lt =
    let below : m.frame + 1 < h.frame = lt in
    begin-more sc hands h (m.frame + 1) _ m.ports m.book (more-differs h.frame (m.frame + 1) below)

step-more : (sc : Scenario) (hands : List HandIn) (h : HandIn) (m : Moment) → (step sc hands m).frame < h.frame
    → step sc (hands ++ h ∷ []) m ≡ step sc hands m
unfolding step
step-more sc hands h m lt = stepped-more sc hands h m (m.frame == sc.frames) (nat_lt m.window (windows_in sc.sizes)) lt

-- a hand-in leaves the moments before its frame as they were
pub moments-more : (sc : Scenario) (hands : List HandIn) (h : HandIn) (n : ℕ) → (moment sc hands n).frame < h.frame
    → moment sc (hands ++ h ∷ []) n ≡ moment sc hands n
unfolding begin_frame
moments-more sc hands h zero lt = begin-more sc hands h 0 _ _ _ (more-differs h.frame 0 lt)
moments-more sc hands h (suc n) lt =
    let rise : (moment sc hands n).frame ≤ (step sc hands (moment sc hands n)).frame = step-rise sc hands (moment sc hands n) in
    let before : moment sc (hands ++ h ∷ []) n ≡ moment sc hands n = moments-more sc hands h n (omega arith) in
    ap (step sc (hands ++ h ∷ [])) before ∙ step-more sc hands h (moment sc hands n) lt

-- a hand-in for the frame that begins changes the ports alone, so the book is the same
pub begin-book : (sc : Scenario) (hands : List HandIn) (h : HandIn) (m : Moment) → (next_frame sc (hands ++ h ∷ []) m).book ≡ (next_frame sc hands m).book
unfolding begin_frame
begin-book sc hands h m = refl

pub begin-nodes : (sc : Scenario) (hands : List HandIn) (h : HandIn) (m : Moment) → (next_frame sc (hands ++ h ∷ []) m).nodes ≡ (next_frame sc hands m).nodes
unfolding begin_frame
begin-nodes sc hands h m = refl
