-- For the law that events are rounds: if each node has told what it tells in the rounds, the start
-- of a frame that the world settles is settled as in the rounds, and so whatever is settled makes
-- the book one of the rounds'.
use Rattle.std.proofs.{Common.{◌≡◌, ℕ, zero, suc, ◌+◌, ◌<◌, ◌≤◌, ◌==◌, ◌&&◌, ◌||◌, ◌⊎◌, not, nat_lt, Bool, true, false, List, [], ◌∷◌, length, map, refl, ap, sym, ◌∙◌, subst, arith, inl, inr, Option, Some, None, is_some, slice_get, option_map, if◌then◌else◌}, lemmas.Bool.{and_parts, cases_lt, eqb-true, le-ltb, lt-ltb}, lemmas.Option.{same_Some, slice_get_past, slice_get_within}}
use Rattle.rb_base.specs.{Counting.numbers, Nodes.Side}
use Rattle.rb_base.proofs.Plain.{less-from_differs, true-false}
use Rattle.rb_rules.specs.{Book.{Begun, Book, Each, Milestone, Record, fresh_book, in_order, map_each, of_kind, with_frame}, Book.Milestone.{Begin, Stage, End}, ExactStage.present, Goodness.{Scenario, is_good}, Hearing.{begun_of, epoch_of, port_at}, NodeState.NodeState, Ports.{HandIn, PortState}, Rounds.{Moment, after_window, begin_frame, begun_if_good, Result, book_after, moment, next_frame, results_of, step, windows_in}, Slots.count_of, WorldStep.{Site, Way, World, begun_for, book_with, comes_so, is_complete, record_since, settle, settle_next, told_by_good}}
use Rattle.rb_rules.proofs.{Books.{GoesOn, moments-on, stepped}, RoundStates.HasTicks, WindowNumbers.get-each}
use Rattle.rb_laws_agreement.proofs.Agreement.{ended-end}
use Rattle.rb_laws_events.specs.Closing.{stages_in}
use Rattle.rb_laws_events.proofs.{CloseOrder.{IsFrameLater, IsWindowLater, frame-later, window-later}, MomentBooks.{SettlesNext, next_of, no-window, number-of, one-number, place_at, settles-next}, RoundNodes.{AllStand, item-at, moments-stand}, Settling.{RowsOfRounds, each-at, end-settled, or-told, same-each, stage-settled}, WorldBooks.settle-on, WorldNodes.next-sites}

-- the ports before what is handed in at a frame's start
unfoldable pub ports_before : Scenario → List HandIn → ℕ → List PortState
ports_before sc hands zero = map (port_at sc []) (numbers sc.sizes.bius)
ports_before sc hands (suc e) = (moment sc hands e).ports

-- what a node has told last of a frame's start is what it tells in the rounds
pub record BegunInRounds (sc : Scenario) (hands : List HandIn) (me : Side) (i : ℕ) (b : Begun) : Type 0 where
  pub q : ℕ
  pub st : NodeState
  pub first : (moment sc hands q).window ≡ 0
  pub state : slice_get (of_kind me (moment sc hands q).nodes) i ≡ Some st
  pub frame : b.frame ≡ (moment sc hands q).frame
  pub is : b ≡ begun_of sc (ports_before sc hands q) me i (epoch_of sc.sizes me st)

unfoldable pub BegunOfRounds : Scenario → List HandIn → Each Site → Type 0
BegunOfRounds sc hands sites =
    (me : Side) (i : ℕ) (s : Site) (b : Begun) → slice_get (of_kind me sites) i ≡ Some s → s.begun ≡ Some b → BegunInRounds sc hands me i b

told-begun : (sc : Scenario) (hands : List HandIn) (g : ℕ) (me : Side) (i : ℕ) {st : _} (o : Option Begun) → (moment sc hands g).window ≡ 0
    → slice_get (of_kind me (moment sc hands g).nodes) i ≡ Some st → ((b : Begun) → o ≡ Some b → BegunInRounds sc hands me i b)
    → is_some (begun_for (moment sc hands g).frame o) ≡ true
    → begun_for (moment sc hands g).frame o ≡ Some (begun_of sc (ports_before sc hands g) me i (epoch_of sc.sizes me st))
told-begun sc hands g me i None first there rounds h = cc
told-begun sc hands g me i {st} (Some b) first there rounds h = by (b.frame == (moment sc hands g).frame) refl h
  where
    by : (t : Bool) → (b.frame == (moment sc hands g).frame) ≡ t → is_some (elim t as (λ _. Option Begun) [ true ↦ Some b | false ↦ None ]) ≡ true
        → (elim t as (λ _. Option Begun) [ true ↦ Some b | false ↦ None ]) ≡ Some (begun_of sc (ports_before sc hands g) me i (epoch_of sc.sizes me st))
    by false e h = cc
    by true e h =
        let r : BegunInRounds sc hands me i b = rounds b refl in
        let same : r.q ≡ g = one-number sc hands r.q g (sym r.frame ∙ eqb-true b.frame (moment sc hands g).frame e) (r.first ∙ sym first) in
        let state : slice_get (of_kind me (moment sc hands g).nodes) i ≡ Some r.st = subst (λ q. slice_get (of_kind me (moment sc hands q).nodes) i ≡ Some r.st) same r.state in
        let st_is : r.st ≡ st = same_Some r.st st (sym state ∙ there) in
        ap Some (r.is ∙ ap (λ q. begun_of sc (ports_before sc hands q) me i (epoch_of sc.sizes me r.st)) same
        ∙ ap (λ z. begun_of sc (ports_before sc hands g) me i (epoch_of sc.sizes me z)) st_is)

past-of : {X : Type 0} (xs : List X) (i : ℕ) → slice_get xs i ≡ None → length xs ≤ i
past-of [] i e = omega arith
past-of (x ∷ xs) zero e = cc
past-of (x ∷ xs) (suc i) e = let more : length xs ≤ i = past-of xs i e in omega arith

pick : {P : Type 0} {X : Type 0} (xs : List X) (i : ℕ) (o : Option X) → slice_get xs i ≡ o → ((x : X) → slice_get xs i ≡ Some x → P) → (slice_get xs i ≡ None → P) → P
pick xs i None e some none = none e
pick xs i (Some x) e some none = some x e

begun-are : (sc : Scenario) (hands : List HandIn) (g : ℕ) (sites : Each Site) → HasTicks sc.plan → (moment sc hands g).window ≡ 0
    → ((me : Side) → length (of_kind me sites) ≡ count_of me sc.sizes) → BegunOfRounds sc hands sites
    → is_complete sc sites (Begin (moment sc hands g).frame) ≡ true
    → told_by_good sc (moment sc hands g).frame 0 (λ s. begun_for (moment sc hands g).frame s.begun) sites
    ≡ map_each (begun_if_good sc (moment sc hands g).frame (ports_before sc hands g)) (moment sc hands g).nodes
unfolding BegunOfRounds
begun-are sc hands g sites ticks first counts rounds complete =
    let m : Moment = moment sc hands g in
    let f : ℕ = m.frame in
    let ports : List PortState = ports_before sc hands g in
    let tells : Side → ℕ → Site → Option Begun = λ me i s. elim (is_good sc me i f 0) as (λ _. Option Begun) [ true ↦ begun_for f s.begun | false ↦ None ] in
    let make : Side → ℕ → NodeState → Option Begun = begun_if_good sc f ports in
    let has : Side → ℕ → Site → Bool = λ me i s. not (is_good sc me i f 0) || is_some (begun_for f s.begun) in
    let stand : AllStand sc m = moments-stand sc hands g ticks in
    let one : (me : Side) (i : ℕ) (s : Site) → slice_get (of_kind me sites) i ≡ Some s
    → option_map (tells me i) (slice_get (of_kind me sites) i) ≡ option_map (make me i) (slice_get (of_kind me m.nodes) i) =
    λ me i s there.
    let within : i < length (of_kind me sites) = slice_get_within (of_kind me sites) i s there in
    let long : length (of_kind me sites) ≡ count_of me sc.sizes = counts me in
    let nodes : length (of_kind me m.nodes) ≡ count_of me sc.sizes = stand.counts me in
    let state = item-at (of_kind me m.nodes) i (omega arith) in
    let told : has me i s ≡ true = each-at (map_each has sites) me i complete (get-each has sites me i ∙ ap (option_map (has me i)) there) in
    let some : Begun = begun_of sc ports me i (epoch_of sc.sizes me state.0) in
    let by : (b : Bool) → is_good sc me i f 0 ≡ b → tells me i s ≡ make me i state.0 =
    λ b. elim b as (λ b. is_good sc me i f 0 ≡ b → tells me i s ≡ make me i state.0) [
      | true ↦ λ e.
          ap (λ b. elim b as (λ _. Option Begun) [ true ↦ begun_for f s.begun | false ↦ None ]) e
          ∙ told-begun sc hands g me i s.begun first state.1 (λ b h. rounds me i s b there h) (or-told (is_good sc me i f 0) (is_some (begun_for f s.begun)) told e)
          ∙ sym (ap (λ b. elim b as (λ _. Option Begun) [ true ↦ Some some | false ↦ None ]) e)
      | false ↦ λ e.
          ap (λ b. elim b as (λ _. Option Begun) [ true ↦ begun_for f s.begun | false ↦ None ]) e
          ∙ sym (ap (λ b. elim b as (λ _. Option Begun) [ true ↦ Some some | false ↦ None ]) e)
    ] in
    ap (option_map (tells me i)) there ∙ ap Some (by (is_good sc me i f 0) refl) ∙ sym (ap (option_map (make me i)) state.1) in
    let none : (me : Side) (i : ℕ) → slice_get (of_kind me sites) i ≡ None
    → option_map (tells me i) (slice_get (of_kind me sites) i) ≡ option_map (make me i) (slice_get (of_kind me m.nodes) i) =
    λ me i e.
    let gone : length (of_kind me sites) ≤ i = past-of (of_kind me sites) i e in
    let long : length (of_kind me sites) ≡ count_of me sc.sizes = counts me in
    let nodes : length (of_kind me m.nodes) ≡ count_of me sc.sizes = stand.counts me in
    ap (option_map (tells me i)) e ∙ sym (ap (option_map (make me i)) (slice_get_past (of_kind me m.nodes) i (omega arith))) in
    same-each (map_each tells sites) (map_each make m.nodes)
    (λ me i.
    get-each tells sites me i ∙ pick (of_kind me sites) i (slice_get (of_kind me sites) i) refl (λ s e. one me i s e) (λ e. none me i e)
    ∙ sym (get-each make m.nodes me i))

-- the start of a frame that is complete is settled as in the rounds
pub frame-settled : (sc : Scenario) (hands : List HandIn) (e : ℕ) (sites : Each Site) → HasTicks sc.plan → windows_in sc.sizes ≤ (moment sc hands e).window
    → ((moment sc hands e).frame == sc.frames) ≡ false
    → ((me : Side) → length (of_kind me sites) ≡ count_of me sc.sizes) → BegunOfRounds sc hands sites
    → is_complete sc sites (Begin ((moment sc hands e).frame + 1)) ≡ true
    → book_with sc sites (moment sc hands e).book (Begin ((moment sc hands e).frame + 1)) ≡ (moment sc hands (suc e)).book
unfolding step begin_frame ports_before
frame-settled sc hands e sites ticks over not_last counts rounds complete =
    let m : Moment = moment sc hands e in
    let next : IsFrameLater sc hands m (moment sc hands (suc e)) = frame-later sc hands m over in
    let frame : (moment sc hands (suc e)).frame ≡ m.frame + 1 = next.frame in
    let outside : nat_lt m.window (windows_in sc.sizes) ≡ false = le-ltb m.window (windows_in sc.sizes) over in
    let told : told_by_good sc (m.frame + 1) 0 (λ s. begun_for (m.frame + 1) s.begun) sites
    ≡ map_each (begun_if_good sc (m.frame + 1) m.ports) (next_frame sc hands m).nodes =
    subst (λ f. is_complete sc sites (Begin f) ≡ true → told_by_good sc f 0 (λ s. begun_for f s.begun) sites ≡ map_each (begun_if_good sc f m.ports) (moment sc hands (suc e)).nodes) frame
    (begun-are sc hands (suc e) sites ticks next.window counts rounds) complete
    ∙ ap (map_each (begun_if_good sc (m.frame + 1) m.ports)) next.nodes in
    ap (λ b. with_frame sc (m.frame + 1) (present (in_order b)) m.book) told
    ∙ sym (ap (λ b. (stepped sc hands m false b).book) outside)
    ∙ sym (ap (λ b. (stepped sc hands m b (nat_lt m.window (windows_in sc.sizes))).book) not_last)

first-settled : (sc : Scenario) (hands : List HandIn) (sites : Each Site) → HasTicks sc.plan → ((me : Side) → length (of_kind me sites) ≡ count_of me sc.sizes)
    → BegunOfRounds sc hands sites → is_complete sc sites (Begin 0) ≡ true → book_with sc sites fresh_book (Begin 0) ≡ (moment sc hands 0).book
unfolding begin_frame ports_before
first-settled sc hands sites ticks counts rounds complete =
    ap (λ b. with_frame sc 0 (present (in_order b)) fresh_book) (begun-are sc hands 0 sites ticks refl counts rounds complete)

-- Where the run is.

-- a run that has not ended is in one of its frames, or at the start of the one after the last
pub record RunsIn (sc : Scenario) (m : Moment) : Type 0 where
  pub bound : m.frame ≤ sc.frames
  pub at_first : m.frame ≡ sc.frames → m.window ≡ 0

still-running : (sc : Scenario) (hands : List HandIn) (p : ℕ) → (moment sc hands (suc p)).book.ended ≡ false → (moment sc hands p).book.ended ≡ false
still-running sc hands p h = by (moment sc hands p).book.ended refl
  where
    by : (b : Bool) → (moment sc hands p).book.ended ≡ b → b ≡ false
    by true e =
        let k : p + 1 ≡ suc p = omega arith in
        let on : GoesOn (moment sc hands p).book (moment sc hands (p + 1)).book = moments-on sc hands p 1 in
        let same : (moment sc hands (p + 1)).book ≡ (moment sc hands p).book = on.over e in
        sym e ∙ sym (ap (λ (b : Book). b.ended) same) ∙ ap (λ n. (moment sc hands n).book.ended) k ∙ h
    by false e = refl

ended-at : (sc : Scenario) (hands : List HandIn) (p : ℕ) → ((moment sc hands p).frame == sc.frames) ≡ true → (moment sc hands (suc p)).book.ended ≡ true
unfolding step
ended-at sc hands p e =
    ap (λ b. (stepped sc hands (moment sc hands p) b (nat_lt (moment sc hands p).window (windows_in sc.sizes))).book.ended) e ∙ ended-end (moment sc hands p).book

pub runs-in : (sc : Scenario) (hands : List HandIn) (p : ℕ) → (moment sc hands p).book.ended ≡ false → RunsIn sc (moment sc hands p)
unfolding begin_frame
runs-in sc hands zero h = record { bound = omega arith; at_first = λ e. refl }
runs-in sc hands (suc p) h =
    let m : Moment = moment sc hands p in
    let before : RunsIn sc m = runs-in sc hands p (still-running sc hands p h) in
    let by : (b : Bool) → (m.frame == sc.frames) ≡ b → RunsIn sc (moment sc hands (suc p)) =
    λ b. elim b as (λ b. (m.frame == sc.frames) ≡ b → RunsIn sc (moment sc hands (suc p))) [
      | true ↦ λ e. true-false (sym (ended-at sc hands p e) ∙ h)
      | false ↦ λ e.
          let less : m.frame < sc.frames = less-from_differs m.frame sc.frames e before.bound in
          elim (cases_lt m.window (windows_in sc.sizes)) [
            | inl lt ↦
                let next : IsWindowLater sc m (moment sc hands (suc p)) = window-later sc hands m lt in
                let f : (moment sc hands (suc p)).frame ≡ m.frame = next.frame in
                record { bound = omega arith; at_first = λ g. absurd (omega arith) }
            | inr ge ↦
                let next : IsFrameLater sc hands m (moment sc hands (suc p)) = frame-later sc hands m ge in
                let f : (moment sc hands (suc p)).frame ≡ m.frame + 1 = next.frame in
                record { bound = omega arith; at_first = λ g. next.window }
          ]
    ] in
    by (m.frame == sc.frames) refl

-- The book.

-- the book is fresh, or that of a moment
abbrev pub IsOfMoment : Scenario → List HandIn → Book → Type 0
IsOfMoment sc hands b = (b ≡ fresh_book) ⊎ ((g : ℕ) × (b ≡ (moment sc hands g).book))

-- all that the nodes have told is what they tell in the rounds
pub record TellRounds (sc : Scenario) (hands : List HandIn) (sites : Each Site) : Type 0 where
  pub rows : RowsOfRounds sc hands sites
  pub begun : BegunOfRounds sc hands sites
  pub counts : (me : Side) → length (of_kind me sites) ≡ count_of me sc.sizes

tail-book : (sc : Scenario) (hands : List HandIn) (g : ℕ) → (moment sc hands g).window ≡ stages_in sc.sizes → ((moment sc hands g).frame == sc.frames) ≡ false
    → (moment sc hands (suc g)).book ≡ (moment sc hands g).book
unfolding step after_window
tail-book sc hands g w not_last =
    let m : Moment = moment sc hands g in
    let inside : nat_lt m.window (windows_in sc.sizes) ≡ true = lt-ltb m.window (windows_in sc.sizes) (omega arith) in
    ap (λ b. (stepped sc hands m b (nat_lt m.window (windows_in sc.sizes))).book) not_last
    ∙ ap (λ b. (stepped sc hands m false b).book) inside
    ∙ ap (λ o. book_after sc m.frame o (map_each (λ me i (r : Result). r.row) (results_of sc m)) m.book) (no-window sc.sizes sc.plan m.window (omega arith))

-- the next milestone of a moment's book, once it is complete, is settled as in the rounds
milestone-settled : {sc : Scenario} {hands : List HandIn} (g : ℕ) {sites : Each Site} → HasTicks sc.plan → (moment sc hands g).book.ended ≡ false → TellRounds sc hands sites
    → is_complete sc sites (next_of sc (moment sc hands g).frame (moment sc hands g).window) ≡ true
    → (z : ℕ) × (book_with sc sites (moment sc hands g).book (next_of sc (moment sc hands g).frame (moment sc hands g).window) ≡ (moment sc hands z).book)
milestone-settled {sc} {hands} g {sites} ticks going tell complete =
    let m : Moment = moment sc hands g in
    let runs : RunsIn sc m = runs-in sc hands g going in
    let number = number-of sc hands g in
    elim (cases_lt m.window (stages_in sc.sizes)) [
      | inl stage ↦
          let inner : Milestone = if m.frame == sc.frames then End else Stage (place_at sc.sizes m) in
          let is : next_of sc m.frame m.window ≡ inner = ap (λ b. if b then inner else Begin (m.frame + 1)) (lt-ltb m.window (stages_in sc.sizes) stage) in
          let by : (b : Bool) → (m.frame == sc.frames) ≡ b → (z : ℕ) × (book_with sc sites m.book (next_of sc m.frame m.window) ≡ (moment sc hands z).book) =
          λ b. elim b as (λ b. (m.frame == sc.frames) ≡ b → (z : ℕ) × (book_with sc sites m.book (next_of sc m.frame m.window) ≡ (moment sc hands z).book)) [
            | true ↦ λ e.
                let end : next_of sc m.frame m.window ≡ End = is ∙ ap (λ b. if b then End else Stage (place_at sc.sizes m)) e in
                (suc g, ap (book_with sc sites m.book) end ∙ end-settled sc hands g sites e)
            | false ↦ λ e.
                let at : next_of sc m.frame m.window ≡ Stage (place_at sc.sizes m) = is ∙ ap (λ b. if b then End else Stage (place_at sc.sizes m)) e in (
                  suc g,
                  ap (book_with sc sites m.book) at
                      ∙ stage-settled sc hands g sites ticks stage e tell.counts tell.rows (sym (ap (is_complete sc sites) at) ∙ complete),
                )
          ] in
          by (m.frame == sc.frames) refl
      | inr over ↦
          let is : next_of sc m.frame m.window ≡ Begin (m.frame + 1) =
          ap (λ b. if b then (if m.frame == sc.frames then End else Stage (place_at sc.sizes m)) else Begin (m.frame + 1)) (le-ltb m.window (stages_in sc.sizes) over) in
          let not_last : (m.frame == sc.frames) ≡ false =
          before-last m.frame sc.frames runs.bound (λ e. let z : m.window ≡ 0 = runs.at_first e in omega arith) in
          let all : is_complete sc sites (Begin (m.frame + 1)) ≡ true = sym (ap (is_complete sc sites) is) ∙ complete in
          elim (cases_lt m.window (windows_in sc.sizes)) [
            | inr at_end ↦
                (suc g, ap (book_with sc sites m.book) is ∙ frame-settled sc hands g sites ticks at_end not_last tell.counts tell.begun all)
            | inl in_tail ↦
                let w : m.window ≡ stages_in sc.sizes = omega arith in
                let next : IsWindowLater sc m (moment sc hands (suc g)) = window-later sc hands m in_tail in
                let book : (moment sc hands (suc g)).book ≡ m.book = tail-book sc hands g w not_last in
                let f : (moment sc hands (suc g)).frame ≡ m.frame = next.frame in
                let w2 : (moment sc hands (suc g)).window ≡ m.window + 1 = next.window in (
                  suc (suc g),
                  ap (book_with sc sites m.book) is ∙ ap (λ b. book_with sc sites b (Begin (m.frame + 1))) (sym book)
                      ∙ ap (λ f. book_with sc sites (moment sc hands (suc g)).book (Begin (f + 1))) (sym f)
                      ∙ frame-settled sc hands (suc g) sites ticks (omega arith) (ap (λ f. f == sc.frames) f ∙ not_last) tell.counts tell.begun
                      (ap (λ f. is_complete sc sites (Begin (f + 1))) f ∙ all),
                )
          ]
    ]
  where
    before-last : (a b : ℕ) → a ≤ b → (a ≡ b → ⊥) → (a == b) ≡ false
    before-last a b le never = by (a == b) refl
      where
        by : (t : Bool) → (a == b) ≡ t → (a == b) ≡ false
        by true e = absurd (never (eqb-true a b e))
        by false e = e

-- whatever is settled next, the book is one of the rounds'
pub next-settled : {sc : Scenario} (way : Way) (w : World) → HasTicks sc.plan → w.book.ended ≡ false → TellRounds sc w.hands w.sites → IsOfMoment sc w.hands w.book
    → IsOfMoment sc w.hands (settle_next sc way w).book
unfolding SettlesNext
next-settled {sc} way w ticks going tell is = by (comes_so sc way w.book.upcoming && is_complete sc w.sites w.book.upcoming) refl
  where
    settled : is_complete sc w.sites w.book.upcoming ≡ true → IsOfMoment sc w.hands w.book → IsOfMoment sc w.hands (book_with sc w.sites w.book w.book.upcoming)
    settled complete (inl fresh) =
        let up : w.book.upcoming ≡ Begin 0 = ap (λ (b : Book). b.upcoming) fresh in
        inr (
          0,
          ap (book_with sc w.sites w.book) up ∙ ap (λ b. book_with sc w.sites b (Begin 0)) fresh
              ∙ first-settled sc w.hands w.sites ticks tell.counts tell.begun (sym (ap (is_complete sc w.sites) up) ∙ complete),
        )
    settled complete (inr at) =
        let g : ℕ = at.0 in
        let runs : (moment sc w.hands g).book.ended ≡ false = sym (ap (λ (b : Book). b.ended) at.1) ∙ going in
        let up : w.book.upcoming ≡ next_of sc (moment sc w.hands g).frame (moment sc w.hands g).window =
        ap (λ (b : Book). b.upcoming) at.1 ∙ settles-next sc w.hands g runs in
        let z = milestone-settled g ticks runs tell (sym (ap (is_complete sc w.sites) up) ∙ complete) in
        inr (z.0, ap (book_with sc w.sites w.book) up ∙ ap (λ b. book_with sc w.sites b (next_of sc (moment sc w.hands g).frame (moment sc w.hands g).window)) at.1 ∙ z.1)

    by : (b : Bool) → (comes_so sc way w.book.upcoming && is_complete sc w.sites w.book.upcoming) ≡ b
        → IsOfMoment sc w.hands (elim b as (λ _. World) [ true ↦ record w { book = book_with sc w.sites w.book w.book.upcoming } | false ↦ w ]).book
    by true e = settled (and_parts (comes_so sc way w.book.upcoming) (is_complete sc w.sites w.book.upcoming) e).1 is
    by false e = is

pub next-hands : (sc : Scenario) (way : Way) (w : World) → (settle_next sc way w).hands ≡ w.hands
next-hands sc way w = by (comes_so sc way w.book.upcoming && is_complete sc w.sites w.book.upcoming)
  where
    by : (b : Bool) → (elim b as (λ _. World) [ true ↦ record w { book = book_with sc w.sites w.book w.book.upcoming } | false ↦ w ]).hands ≡ w.hands
    by true = refl
    by false = refl

-- whatever is settled, the book is one of a moment
pub all-settled : {sc : Scenario} (way : Way) (n : ℕ) (w : World) {hands : List HandIn} {sites : Each Site} → HasTicks sc.plan → w.hands ≡ hands → w.sites ≡ sites
    → TellRounds sc hands sites → IsOfMoment sc hands w.book → IsOfMoment sc hands (settle sc way n w).book
all-settled way zero w ticks hands_are sites_are tell is = is
all-settled {sc} way (suc n) w {hands} ticks hands_are sites_are tell is =
    let next : World = settle_next sc way w in
    let by : (b : Bool) → w.book.ended ≡ b → IsOfMoment sc hands (settle sc way (suc n) w).book =
    λ b. elim b as (λ b. w.book.ended ≡ b → IsOfMoment sc hands (settle sc way (suc n) w).book) [
      | true ↦ λ e.
          let on : GoesOn w.book (settle sc way (suc n) w).book = settle-on sc way (suc n) w in
          subst (IsOfMoment sc hands) (sym (on.over e)) is
      | false ↦ λ e.
          let tell_w : TellRounds sc w.hands w.sites =
          subst (λ h. TellRounds sc h w.sites) (sym hands_are) (subst (TellRounds sc hands) (sym sites_are) tell) in
          let one : IsOfMoment sc hands next.book =
          subst (λ h. IsOfMoment sc h next.book) hands_are (next-settled way w ticks e tell_w (subst (λ h. IsOfMoment sc h w.book) (sym hands_are) is)) in
          let rest : IsOfMoment sc hands (settle sc way n next).book =
          all-settled way n next ticks (next-hands sc way w ∙ hands_are) (next-sites sc way w ∙ sites_are) tell one in
          pick_one (record_since w next) one rest
    ] in
    by w.book.ended refl
  where
    pick_one : (r : Option Record) → IsOfMoment sc hands (settle_next sc way w).book → IsOfMoment sc hands (settle sc way n (settle_next sc way w)).book
        → IsOfMoment sc hands (elim r as (λ _. World) [ None ↦ settle sc way n (settle_next sc way w) | Some r ↦ record (settle_next sc way w) { turn = Some r } ]).book
    pick_one None one rest = rest
    pick_one (Some r) one rest = one
