-- For the law that events are rounds: a state that is handed in while all nodes are before the data
-- slots of the frame keeps the world in the rounds.
use Rattle.std.proofs.{Common.{◌≡◌, ◌≢◌, ℕ, zero, suc, ◌+◌, ◌-◌, ◌*◌, ◌<◌, ◌≤◌, Bool, true, false, List, [], ◌∷◌, ◌++◌, length, refl, ap, sym, ◌∙◌, subst, arith, inl, inr, Option, Some, slice_get, get_or, option_map, option_to_list, if◌then◌else◌}, Math.Path.fun_ext, lemmas.Bool.{cases_lt, lt-ltb, le-ltb}, lemmas.Nat.mul-le}
use Rattle.rb_base.specs.Nodes.{Side, other}
use Rattle.rb_rules.specs.{Book.{Each, of_kind}, Clock.time_of, ExactStage.at_source, Goodness.{Scenario, is_good, clock_of}, Hearing.{Coming, Sending, begun_of, coming_of, epoch_of, port_at, said_by, span_of}, NodeState.NodeState, Ports.{HandIn, PortState, with_state}, Rounds.{Moment, Result, moment, sent_in, window_in, windows_in, word_for_window}, Slots.count_of, WorldStep.{Site, Timed}}
use Rattle.rb_rules.proofs.{HandIns.moments-more, RoundStates.HasTicks}
use Rattle.rb_laws_agreement.proofs.{Goodnesses.good_counts, PortLists.ports_long}
use Rattle.rb_laws_events.specs.Closing.{stages_in}
use Rattle.rb_laws_events.proofs.{HandedMoments.{Alike, alike-sent, alike-through, before-frame, handed-alike, handed-ports, place-of}, Invariant.{NodeStands, ahead_so_far, has_sent, heard_so_far, is_good_at, last_tick, next_stage, word_at}, MomentBooks.{number-of, place_at}, NodeActs.IsInWindow, PortsKept.still-early, Receiving.Receives, RoundNodes.{item-at, slot-is, slot_numbered}, Settling.{RowOfRounds, RowsOfRounds}, SettlingFrames.{BegunInRounds, BegunOfRounds, TellRounds, ports_before}, TickWindows.first_of, Timing.HavePassed, ToldInOrder.{AllTold, NodeTold, number-is, number_at}, WorldStands.{IsDown, IsUp, SitesStand, ahead_in, sent_by}}

-- no node is beyond the second window of the frame
pub record AreEarly (sc : Scenario) (at : Side → ℕ → ℕ) (sites : Each Site) (frame : ℕ) : Type 0 where
  pub some_biu : 1 ≤ sc.sizes.bius
  pub early : (me : Side) (i : ℕ) (s : Site) → slice_get (of_kind me sites) i ≡ Some s → at me i ≤ frame * (windows_in sc.sizes + 1) + 1

-- Nodes.

-- a node's lists in a moment that is like another
receives-alike : {sc me i now s : _} (st : NodeState) {a m x z y : _} (f g : ℕ → Bool) → Alike sc m x → Alike sc z y
    → Receives sc me i (last_tick sc m me st) (heard_so_far sc m me i (span_of st (window_in sc m me st)) f) (ahead_so_far sc z me i g) now s a
    → Receives sc me i (last_tick sc x me st) (heard_so_far sc x me i (span_of st (window_in sc x me st)) f) (ahead_so_far sc y me i g) now s a
receives-alike {sc} {me} {i} {now} {s} st {a} {m} {x} {z} {y} f g mx zy h =
    let come : Moment → Each (Option Sending) → ℕ → List Coming = λ m sent j. option_to_list (option_map (coming_of sc me i j m.frame) (at_source (of_kind (other me) sent) j)) in
    let heard : Moment → Each (Option Sending) → ℕ → List Coming = λ m sent j.
    elim (is_good_at sc m (other me) j) [ true ↦ elim (f j) [ true ↦ come m sent j | false ↦ [] ] | false ↦ said_by sc me i (span_of st (window_in sc m me st)) j ] in
    let ahead : Moment → Each (Option Sending) → ℕ → List Coming = λ m sent j.
    elim (is_good_at sc m (other me) j) [ true ↦ elim (g j) [ true ↦ come m sent j | false ↦ [] ] | false ↦ [] ] in
    let one : Receives sc me i (last_tick sc m me st) (heard m (sent_in sc x)) (ahead z (sent_in sc z)) now s a =
    subst (λ sent. Receives sc me i (last_tick sc m me st) (heard m sent) (ahead z (sent_in sc z)) now s a) (sym (alike-sent mx)) h in
    let two : Receives sc me i (last_tick sc m me st) (heard m (sent_in sc x)) (ahead z (sent_in sc y)) now s a =
    subst (λ sent. Receives sc me i (last_tick sc m me st) (heard m (sent_in sc x)) (ahead z sent) now s a) (sym (alike-sent zy)) one in
    subst (λ (n : Moment). Receives sc me i (last_tick sc n me st) (heard n (sent_in sc x)) (ahead y (sent_in sc y)) now s a) (sym mx.is)
    (subst (λ (n : Moment). Receives sc me i (last_tick sc m me st) (heard m (sent_in sc x)) (ahead n (sent_in sc y)) now s a) (sym zy.is) two)

-- the stage after one of these windows comes before the data slots, too
next-early : (sc : Scenario) (hands : List HandIn) (p frame : ℕ) → 1 ≤ sc.sizes.bius → (moment sc hands p).window ≤ stages_in sc.sizes → p ≤ frame * (windows_in sc.sizes + 1) + 1
    → next_stage sc.sizes (moment sc hands p) p ≤ frame * (windows_in sc.sizes + 1) + 2
next-early sc hands p frame some within early =
    let m : Moment = moment sc hands p in
    let b : ℕ = frame * (windows_in sc.sizes + 1) in
    elim (cases_lt (m.window + 1) (stages_in sc.sizes)) [
      | inl inner ↦
          let is : next_stage sc.sizes m p ≡ p + 1 = ap (λ b. p + (if b then 1 else windows_in sc.sizes + 1 - m.window)) (lt-ltb (m.window + 1) (stages_in sc.sizes) inner) in
          omega (arith, is, early)
      | inr outer ↦
          let is : next_stage sc.sizes m p ≡ p + (windows_in sc.sizes + 1 - m.window) =
          ap (λ b. p + (if b then 1 else windows_in sc.sizes + 1 - m.window)) (le-ltb (m.window + 1) (stages_in sc.sizes) outer) in
          elim (cases_lt p b) [
            | inl before ↦
                let less : m.frame < frame = before-frame sc hands p frame before in
                let number = number-of sc hands p in
                let up : (m.frame + 1) * (windows_in sc.sizes + 1) ≤ b = mul-le (m.frame + 1) (windows_in sc.sizes + 1) frame (windows_in sc.sizes + 1) (omega (arith, less)) (omega arith) in
                let more : (m.frame + 1) * (windows_in sc.sizes + 1) ≡ m.frame * (windows_in sc.sizes + 1) + (windows_in sc.sizes + 1) = one-more m.frame (windows_in sc.sizes + 1) in
                omega (arith, is, number.0, number.1, up, more)
            | inr from ↦
                let w : m.window ≡ p - b = (place-of sc hands p frame (p - b) (omega (arith, from)) (omega (arith, from, early))).1 in
                absurd (omega (arith, w, from, early, outer, some))
          ]
    ]
  where
    one-more : (a n : ℕ) → (a + 1) * n ≡ a * n + n
    one-more a n = omega arith

sent-alike : {sc : _} (hands : List HandIn) (h : HandIn) (at : Side → ℕ → ℕ) (sites : Each Site) (q : ℕ) → Alike sc (moment sc hands q) (moment sc (hands ++ h ∷ []) q)
    → (me : Side) (j : ℕ) → sent_by sc hands at sites me j q ≡ sent_by sc (hands ++ h ∷ []) at sites me j q
sent-alike hands h at sites q a me j =
    ap (λ sent. has_sent (at_source (of_kind me sent) j) (at me j) (ahead_in (of_kind me sites) j) q) (sym (alike-sent a))

node-handed : {sc : Scenario} {hands : List HandIn} (h : HandIn) {now : ℕ} (at : Side → ℕ → ℕ) (sites : Each Site) {me : Side} {i p : ℕ} {s : Site} {st : NodeState} {a : Timed}
    → 1 ≤ sc.sizes.bius → p ≤ h.frame * (windows_in sc.sizes + 1) + 1 → NodeStands sc hands (sent_by sc hands at sites) now me i p s st a
    → NodeStands sc (hands ++ h ∷ []) (sent_by sc (hands ++ h ∷ []) at sites) now me i p s st a
node-handed {sc} {hands} h {now} at sites {me} {i} {p} {s} {st} {a} some early n =
    let more : List HandIn = hands ++ h ∷ [] in
    let m : Moment = moment sc hands p in
    let x : Moment = moment sc more p in
    let q : ℕ = next_stage sc.sizes m p in
    let here : Alike sc m x = handed-alike sc hands h p (omega (arith, early, some)) in
    let soon : q ≤ h.frame * (windows_in sc.sizes + 1) + 2 = next-early sc hands p h.frame some n.stands.window early in
    let there : Alike sc (moment sc hands q) (moment sc more q) = handed-alike sc hands h q (omega (arith, soon, some)) in
    let f : (λ j. sent_by sc hands at sites (other me) j p) ≡ (λ j. sent_by sc more at sites (other me) j p) = fun_ext (λ j. sent-alike hands h at sites p here (other me) j) in
    let g : (λ j. sent_by sc hands at sites (other me) j q) ≡ (λ j. sent_by sc more at sites (other me) j q) = fun_ext (λ j. sent-alike hands h at sites q there (other me) j) in
    let word : word_at sc x me i st ≡ word_at sc m me i st =
    ap (λ (y : Moment). word_for_there y) here.is ∙ here.word i (window_in sc m me st) (slot-is sc.sizes sc.plan me st m.window) in
    let next : next_stage sc.sizes x p ≡ q = ap (λ (y : Moment). next_stage sc.sizes y p) here.is in
    let lists : Receives sc me i (last_tick sc x me st) (heard_so_far sc x me i (span_of st (window_in sc x me st)) (λ j. sent_by sc more at sites (other me) j p))
    (ahead_so_far sc (moment sc more q) me i (λ j. sent_by sc more at sites (other me) j q)) now s a =
    receives-alike st (λ j. sent_by sc more at sites (other me) j p) (λ j. sent_by sc more at sites (other me) j q) here there
    (subst (λ g. Receives sc me i (last_tick sc m me st) (heard_so_far sc m me i (span_of st (window_in sc m me st)) (λ j. sent_by sc more at sites (other me) j p))
    (ahead_so_far sc (moment sc hands q) me i g) now s a) g
    (subst (λ f. Receives sc me i (last_tick sc m me st) (heard_so_far sc m me i (span_of st (window_in sc m me st)) f)
    (ahead_so_far sc (moment sc hands q) me i (λ j. sent_by sc hands at sites (other me) j q)) now s a) f n.receives)) in
    record {
      state = subst (λ (y : Moment). slice_get (of_kind me y.nodes) i ≡ Some st) (sym here.is) n.state;
      good = subst (λ (y : Moment). is_good_at sc y me i ≡ true) (sym here.is) n.good;
      stands = subst (λ (y : Moment). IsInWindow sc.sizes sc.plan me i st y.window (word_at sc x me i st) a.tick s.core.state) (sym here.is)
          (subst (λ word. IsInWindow sc.sizes sc.plan me i st m.window word a.tick s.core.state) (sym word) n.stands);
      from = subst (λ (y : Moment). st.epoch + first_of sc.sizes sc.plan me st y.window ≤ s.core.had) (sym here.is) n.from;
      receives = subst (λ q. Receives sc me i (last_tick sc x me st) (heard_so_far sc x me i (span_of st (window_in sc x me st)) (λ j. sent_by sc more at sites (other me) j p))
          (ahead_so_far sc (moment sc more q) me i (λ j. sent_by sc more at sites (other me) j q)) now s a) (sym next) lists;
    }
  where
    word_for_there : Moment → ℕ
    word_for_there y = word_for_window sc (moment sc (hands ++ h ∷ []) p) i (window_in sc y me st)

pub sites-handed : {sc hands : _} (h : HandIn) {now at sites : _} → AreEarly sc at sites h.frame
    → SitesStand sc hands now at sites → SitesStand sc (hands ++ h ∷ []) now at sites
sites-handed {sc} {hands} h {now} {at} {sites} early stand = record {
  up = λ me i s there runs.
      let up : IsUp sc hands (sent_by sc hands at sites) now me i (at me i) s = stand.up me i s there runs in
      record { st = up.st; a = up.a; stands = node-handed h at sites early.some_biu (early.early me i s there) up.stands };
  down = λ me i s there stopped.
      let down : IsDown sc hands me i (at me i) s = stand.down me i s there stopped in
      let le : at me i ≤ h.frame * (windows_in sc.sizes + 1) + 1 = early.early me i s there in
      let alike : Alike sc (moment sc hands (at me i)) (moment sc (hands ++ h ∷ []) (at me i)) = handed-alike sc hands h (at me i) (omega (arith, le, early.some_biu)) in
      record { not_good = subst (λ (y : Moment). is_good_at sc y me i ≡ false) (sym alike.is) down.not_good; stopped = down.stopped; ahead = down.ahead; coming = down.coming };
  counts = stand.counts;
}

-- Windows passed.

-- a node that is good in a moment is one of the world's
pub site-of : (sc : Scenario) (sites : Each Site) → ((me : Side) → length (of_kind me sites) ≡ count_of me sc.sizes) → (me : Side) (i frame slot : ℕ) → is_good sc me i frame slot ≡ true
    → (s : Site) × (slice_get (of_kind me sites) i ≡ Some s)
site-of sc sites counts me i frame slot good =
    let counted : i < count_of me sc.sizes = good_counts sc me i frame slot good in
    let long : length (of_kind me sites) ≡ count_of me sc.sizes = counts me in
    item-at (of_kind me sites) i (omega arith)

pub passed-handed : {sc hands : _} (h : HandIn) {now at sites : _} → AreEarly sc at sites h.frame
    → ((me : Side) → length (of_kind me sites) ≡ count_of me sc.sizes) → HavePassed sc hands now at → HavePassed sc (hands ++ h ∷ []) now at
passed-handed {sc} {hands} h {now} {at} {sites} early counts passed = record {
  passed = λ me i q st before.
      let x : Moment = moment sc (hands ++ h ∷ []) q in
      λ stage there good.
      let site = site-of sc sites counts me i x.frame (slot_numbered sc.sizes x.window) good in
      let le : at me i ≤ h.frame * (windows_in sc.sizes + 1) + 1 = early.early me i site.0 site.1 in
      let alike : Alike sc (moment sc hands q) x = handed-alike sc hands h q (omega (arith, le, before, early.some_biu)) in
      subst (λ (y : Moment). y.window < stages_in sc.sizes → slice_get (of_kind me y.nodes) i ≡ Some st → is_good_at sc y me i ≡ true
      → time_of (clock_of sc me i) (last_tick sc y me st) ≤ now) (sym alike.is) (passed.passed me i q st before) stage there good;
}

-- What is told.

ports-same : (sc : Scenario) (hands : List HandIn) (h : HandIn) (q : ℕ) → q ≤ h.frame * (windows_in sc.sizes + 1) → ports_before sc (hands ++ h ∷ []) q ≡ ports_before sc hands q
unfolding ports_before
ports-same sc hands h zero le = refl
ports-same sc hands h (suc e) le = ap (λ (m : Moment). m.ports) (moments-more sc hands h e (before-frame sc hands e h.frame (omega (arith, le))))

pub tell-handed : {sc hands : _} (h : HandIn) {at sites : _} → AreEarly sc at sites h.frame → AllTold sc hands at sites
    → TellRounds sc hands sites → TellRounds sc (hands ++ h ∷ []) sites
unfolding RowsOfRounds BegunOfRounds
tell-handed {sc} {hands} h {at} early told tell = record {
  rows = λ me i s row there is.
      let r : RowOfRounds sc hands me i row = tell.rows me i s row there is in
      let before : number_at sc.sizes row.place < at me i = (told me i s there).row row is in
      let number : number_at sc.sizes row.place ≡ r.q = ap (number_at sc.sizes) r.place ∙ number-is sc hands r.q r.stage in
      let le : at me i ≤ h.frame * (windows_in sc.sizes + 1) + 1 = early.early me i s there in
      let alike : Alike sc (moment sc hands r.q) (moment sc (hands ++ h ∷ []) r.q) = handed-alike sc hands h r.q (omega (arith, before, number, le, early.some_biu)) in
      record {
        q = r.q;
        st = r.st;
        stage = subst (λ (y : Moment). y.window < stages_in sc.sizes) (sym alike.is) r.stage;
        state = subst (λ (y : Moment). slice_get (of_kind me y.nodes) i ≡ Some r.st) (sym alike.is) r.state;
        place = subst (λ (y : Moment). row.place ≡ place_at sc.sizes y) (sym alike.is) r.place;
        is = ap (λ (z : Result). z.row) (alike-through alike me i r.st) ∙ r.is;
      };
  begun = λ me i s b there is.
      let r : BegunInRounds sc hands me i b = tell.begun me i s b there is in
      let before : b.frame * (windows_in sc.sizes + 1) ≤ at me i = (told me i s there).begun b is in
      let le : at me i ≤ h.frame * (windows_in sc.sizes + 1) + 1 = early.early me i s there in
      let number = number-of sc hands r.q in
      let f : b.frame * (windows_in sc.sizes + 1) ≡ (moment sc hands r.q).frame * (windows_in sc.sizes + 1) = ap (λ f. f * (windows_in sc.sizes + 1)) r.frame in
      let frame : b.frame ≤ h.frame = not-after b.frame h.frame (windows_in sc.sizes + 1) (omega arith) (omega (arith, before, le)) in
      let up : b.frame * (windows_in sc.sizes + 1) ≤ h.frame * (windows_in sc.sizes + 1) = mul-le b.frame (windows_in sc.sizes + 1) h.frame (windows_in sc.sizes + 1) frame (omega arith) in
      let at_first : r.q ≤ h.frame * (windows_in sc.sizes + 1) = omega (arith, number.0, f, up, r.first) in
      let alike : Alike sc (moment sc hands r.q) (moment sc (hands ++ h ∷ []) r.q) = handed-alike sc hands h r.q (omega (arith, at_first, early.some_biu)) in
      record {
        q = r.q;
        st = r.st;
        first = subst (λ (y : Moment). y.window ≡ 0) (sym alike.is) r.first;
        state = subst (λ (y : Moment). slice_get (of_kind me y.nodes) i ≡ Some r.st) (sym alike.is) r.state;
        frame = subst (λ (y : Moment). b.frame ≡ y.frame) (sym alike.is) r.frame;
        is = r.is ∙ ap (λ ports. begun_of sc ports me i (epoch_of sc.sizes me r.st)) (sym (ports-same sc hands h r.q at_first));
      };
  counts = tell.counts;
}
  where
    one-more : (a n : ℕ) → (a + 1) * n ≡ a * n + n
    one-more a n = omega arith

    not-after : (a b n : ℕ) → 2 ≤ n → a * n ≤ b * n + 1 → a ≤ b
    not-after a b n some le = elim (cases_lt b a) [
      | inr ge ↦ ge
      | inl lt ↦
          let up : (b + 1) * n ≤ a * n = mul-le (b + 1) n a n (omega (arith, lt)) (omega arith) in
          let more : (b + 1) * n ≡ b * n + n = one-more b n in
          absurd (omega (arith, up, more, le, some))
    ]

pub told-handed : {sc hands : _} (h : HandIn) {at sites : _} → AreEarly sc at sites h.frame
    → AllTold sc hands at sites → AllTold sc (hands ++ h ∷ []) at sites
told-handed {sc} {hands} h {at} early told me i s there =
    let le : at me i ≤ h.frame * (windows_in sc.sizes + 1) + 1 = early.early me i s there in
    let n : NodeTold sc hands me i (at me i) s = told me i s there in
    let alike : (q : ℕ) → q ≤ at me i → Alike sc (moment sc hands q) (moment sc (hands ++ h ∷ []) q) = λ q before. handed-alike sc hands h q (omega (arith, le, before, early.some_biu)) in
    record {
      row = n.row;
      begun = n.begun;
      fresh = λ b a st is.
          subst (λ (y : Moment). b.frame ≡ y.frame → y.window ≡ 0 → s.ahead ≡ Some a → slice_get (of_kind me y.nodes) i ≡ Some st → st.epoch < a.tick)
          (sym (alike (at me i) (omega arith)).is) (n.fresh b a st is);
      was_good = λ q before. subst (λ (y : Moment). is_good_at sc y me i ≡ true) (sym (alike q (omega (arith, before))).is) (n.was_good q before);
    }

-- Ports.

state-same : (fresh : PortState) (i state j : ℕ) (ps qs : List PortState) → length ps ≡ length qs → get_or ps j fresh ≡ get_or qs j fresh
    → get_or (with_state i state ps) j fresh ≡ get_or (with_state i state qs) j fresh
state-same fresh i state j [] [] long e = e
state-same fresh i state j [] (q ∷ qs) long e = cc
state-same fresh i state j (p ∷ ps) [] long e = cc
state-same fresh zero state zero (p ∷ ps) (q ∷ qs) long e = ap (λ (p : PortState). let x : PortState = record p { state = state } in x) e
state-same fresh zero state (suc j) (p ∷ ps) (q ∷ qs) long e = e
state-same fresh (suc i) state zero (p ∷ ps) (q ∷ qs) long e = e
state-same fresh (suc i) state (suc j) (p ∷ ps) (q ∷ qs) long e = state-same fresh i state j ps qs (omega (arith, long)) e

state-other : (fresh : PortState) (i state j : ℕ) (ps : List PortState) → i ≢ j → get_or (with_state i state ps) j fresh ≡ get_or ps j fresh
state-other fresh i state j [] differ = refl
state-other fresh zero state zero (p ∷ ps) differ = absurd (differ refl)
state-other fresh zero state (suc j) (p ∷ ps) differ = refl
state-other fresh (suc i) state zero (p ∷ ps) differ = refl
state-other fresh (suc i) state (suc j) (p ∷ ps) differ = state-other fresh i state j ps (λ e. differ (ap suc e))

-- the port of BIU j, which stands in moment p, after a hand-in
pub port-handed : (sc : Scenario) (hands : List HandIn) (h : HandIn) (ports : List PortState) (j p : ℕ) → HasTicks sc.plan → j < sc.sizes.bius → length ports ≡ sc.sizes.bius
    → p ≤ h.frame * (windows_in sc.sizes + 1) + 1 → (p < h.frame * (windows_in sc.sizes + 1) → h.biu ≢ j) → port_at sc ports j ≡ port_at sc (moment sc hands p).ports j
    → port_at sc (with_state h.biu h.state ports) j ≡ port_at sc (moment sc (hands ++ h ∷ []) p).ports j
port-handed sc hands h ports j p ticks counted many early other same =
    let more : List HandIn = hands ++ h ∷ [] in
    let b : ℕ = h.frame * (windows_in sc.sizes + 1) in
    let fresh : PortState = record { app = get_or sc.apps j 0; state = get_or sc.words j 0; faults = [] } in
    let at_begin : (q : ℕ) → q ≡ b → port_at sc (with_state h.biu h.state (moment sc hands q).ports) j ≡ port_at sc (moment sc more q).ports j =
    λ q e. ap (λ ports. port_at sc ports j) (sym (handed-ports sc hands h q e)) in
    let count : (q : ℕ) → length ports ≡ length (moment sc hands q).ports = λ q. many ∙ sym (ports_long sc hands q) in
    elim (cases_lt p b) [
      | inl before ↦
          state-other fresh h.biu h.state j ports (other before) ∙ same
          ∙ sym (ap (λ (m : Moment). port_at sc m.ports j) (moments-more sc hands h p (before-frame sc hands p h.frame before)))
      | inr from ↦ elim (cases_lt b p) [
        | inr at_first ↦
            let e : p ≡ b = omega (arith, from, at_first) in
            state-same fresh h.biu h.state j ports (moment sc hands p).ports (count p) same ∙ at_begin p e
        | inl after ↦
            let e : suc b ≡ p = omega (arith, after, early) in
            let place : (hands : List HandIn) → (moment sc hands b).window ≡ 0 = λ hands. (place-of sc hands b h.frame 0 (omega arith) (omega arith)).1 in
            let w : (hands : List HandIn) → (moment sc hands b).window < 3 * sc.sizes.bius = λ hands. let z : (moment sc hands b).window ≡ 0 = place hands in omega (arith, z, counted) in
            let before : port_at sc ports j ≡ port_at sc (moment sc hands b).ports j =
            same ∙ ap (λ q. port_at sc (moment sc hands q).ports j) (sym e) ∙ still-early sc hands b j ticks counted (w hands) in
            state-same fresh h.biu h.state j ports (moment sc hands b).ports (count b) before ∙ at_begin b refl
            ∙ sym (still-early sc more b j ticks counted (w more)) ∙ ap (λ q. port_at sc (moment sc more q).ports j) e
      ]
    ]
