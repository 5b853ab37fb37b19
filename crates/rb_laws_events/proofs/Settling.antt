-- For the law that events are rounds: if each node has told what it tells in the rounds, a stage
-- that the world settles is settled as in the rounds.
use Rattle.std.proofs.{Common.{◌≡◌, ℕ, zero, suc, ◌+◌, ◌%◌, ◌<◌, ◌≤◌, ◌==◌, ◌&&◌, ◌||◌, not, nat_le, nat_lt, Bool, true, false, List, [], ◌∷◌, ◌++◌, length, refl, ap, sym, ◌∙◌, subst, arith, Option, Some, None, is_some, slice_get, option_map}, lemmas.Bool.{and_parts, eqb-true, lt-ltb}, lemmas.Option.{same_Some, slice_get_past, slice_get_within}}
use Rattle.std.specs.List.{list_all}
use Rattle.rb_base.specs.{Nodes.Side, Nodes.Side.{Biu, Rmu}, declared.values.Place.Place}
use Rattle.rb_rules.specs.{declared.plan.Window.Window, Book.{Each, Row, in_order, map_each, of_kind, with_stage}, Book.Milestone.{Stage, End}, ExactStage.keep_sent, Goodness.{Scenario, is_good}, NodeState.NodeState, Ports.HandIn, Rounds.{Moment, Result, after_window, book_after, close_on, go_through, heard_at, moment, results_of, sent_in, step, window_in, windows_in, word_for_window}, Slots.count_of, WorldStep.{Site, book_with, is_complete, row_for, same_place, told_by_good}}
use Rattle.rb_rules.proofs.{Books.stepped, RoundStates.HasTicks, WindowNumbers.get-each}
use Rattle.rb_laws_events.specs.Closing.{stages_in}
use Rattle.rb_laws_events.proofs.{Invariant.is_good_at, MomentBooks.{one-number, one-place, place_at, stage-window}, RoundNodes.{AllStand, item-at, moments-stand, slot-is, slot_numbered}}

-- Lists.

pub same-list : {X : Type 0} (xs ys : List X) → ((i : ℕ) → slice_get xs i ≡ slice_get ys i) → xs ≡ ys
same-list [] [] same = refl
same-list [] (y ∷ ys) same = let e : None ≡ Some y = same 0 in cc
same-list (x ∷ xs) [] same = let e : Some x ≡ None = same 0 in cc
same-list (x ∷ xs) (y ∷ ys) same =
    let head : Some x ≡ Some y = same 0 in
    let first : x ≡ y = cc in
    ap (λ z. z ∷ xs) first ∙ ap (λ l. y ∷ l) (same-list xs ys (λ i. same (suc i)))

pub same-each : {X : Type 0} (a b : Each X) → ((me : Side) (i : ℕ) → slice_get (of_kind me a) i ≡ slice_get (of_kind me b) i) → a ≡ b
same-each {X = X} a b same =
    ap (λ xs. let z : Each X = record { bius = xs; rmus = a.rmus } in z) (same-list a.bius b.bius (same Biu))
    ∙ ap (λ xs. let z : Each X = record { bius = b.bius; rmus = xs } in z) (same-list a.rmus b.rmus (same Rmu))

all-front : (xs ys : List Bool) → list_all (λ b. b) (xs ++ ys) ≡ true → list_all (λ b. b) xs ≡ true
all-front [] ys h = refl
all-front (x ∷ xs) ys h =
    let parts = and_parts x (list_all (λ b. b) (xs ++ ys)) h in
    ap (λ a. a && list_all (λ b. b) xs) parts.0 ∙ all-front xs ys parts.1

all-back : (xs ys : List Bool) → list_all (λ b. b) (xs ++ ys) ≡ true → list_all (λ b. b) ys ≡ true
all-back [] ys h = h
all-back (x ∷ xs) ys h = all-back xs ys (and_parts x (list_all (λ b. b) (xs ++ ys)) h).1

all-at : (xs : List Bool) (i : ℕ) {b : _} → list_all (λ b. b) xs ≡ true → slice_get xs i ≡ Some b → b ≡ true
all-at [] i h e = cc
all-at (x ∷ xs) zero {b} h e =
    let same : x ≡ b = cc in
    sym same ∙ (and_parts x (list_all (λ b. b) xs) h).0
all-at (x ∷ xs) (suc i) {b} h e = all-at xs i (and_parts x (list_all (λ b. b) xs) h).1 e

pub each-at : (a : Each Bool) (me : Side) (i : ℕ) {b : _} → list_all (λ b. b) (in_order a) ≡ true → slice_get (of_kind me a) i ≡ Some b → b ≡ true
each-at a Biu i h e = all-at a.bius i (all-front a.bius a.rmus h) e
each-at a Rmu i h e = all-at a.rmus i (all-back a.bius a.rmus h) e

-- Rows.

-- each row that a node has told last is that of one of its windows in the rounds
pub record RowOfRounds (sc : Scenario) (hands : List HandIn) (me : Side) (i : ℕ) (row : Row) : Type 0 where
  pub q : ℕ
  pub st : NodeState
  pub stage : (moment sc hands q).window < stages_in sc.sizes
  pub state : slice_get (of_kind me (moment sc hands q).nodes) i ≡ Some st
  pub place : row.place ≡ place_at sc.sizes (moment sc hands q)
  pub is : (go_through sc (moment sc hands q) (sent_in sc (moment sc hands q)) me i st (window_in sc (moment sc hands q) me st)).row ≡ Some row

unfoldable pub RowsOfRounds : Scenario → List HandIn → Each Site → Type 0
RowsOfRounds sc hands sites =
    (me : Side) (i : ℕ) (s : Site) (row : Row) → slice_get (of_kind me sites) i ≡ Some s → s.row ≡ Some row → RowOfRounds sc hands me i row

not-good-row : (sc : Scenario) (m : Moment) (me : Side) (i : ℕ) (st : NodeState) → is_good_at sc m me i ≡ false
    → (go_through sc m (sent_in sc m) me i st (window_in sc m me st)).row ≡ None
unfolding go_through
not-good-row sc m me i st bad =
    let w : Window = window_in sc m me st in
    let test : is_good sc me i m.frame w.slot ≡ false = ap (is_good sc me i m.frame) (slot-is sc.sizes sc.plan me st m.window) ∙ bad in
    ap (λ b. (elim (b && nat_le w.first w.last) as (λ _. Result) [
      | true ↦ close_on sc me i (keep_sent sc.sizes me i st w.slot w.stage (word_for_window sc m i w)) w (heard_at sc me i st w (sent_in sc m))
      | false ↦ record { state = st; row = None }
    ]).row) test

-- what a good node has told of the stage is its row in the rounds
told-row : (sc : Scenario) (hands : List HandIn) (g : ℕ) (me : Side) (i : ℕ) {st : _} (o : Option Row) → (moment sc hands g).window < stages_in sc.sizes
    → slice_get (of_kind me (moment sc hands g).nodes) i ≡ Some st → ((row : Row) → o ≡ Some row → RowOfRounds sc hands me i row)
    → is_some (row_for (place_at sc.sizes (moment sc hands g)) o) ≡ true
    → row_for (place_at sc.sizes (moment sc hands g)) o ≡ (go_through sc (moment sc hands g) (sent_in sc (moment sc hands g)) me i st (window_in sc (moment sc hands g) me st)).row
told-row sc hands g me i None stage there rounds h = cc
told-row sc hands g me i {st} (Some row) stage there rounds h = by (same_place row.place (place_at sc.sizes (moment sc hands g))) refl h
  where
    by : (b : Bool) → same_place row.place (place_at sc.sizes (moment sc hands g)) ≡ b → is_some (elim b as (λ _. Option Row) [ true ↦ Some row | false ↦ None ]) ≡ true
        → (elim b as (λ _. Option Row) [ true ↦ Some row | false ↦ None ])
        ≡ (go_through sc (moment sc hands g) (sent_in sc (moment sc hands g)) me i st (window_in sc (moment sc hands g) me st)).row
    by false e h = cc
    by true e h =
        let r : RowOfRounds sc hands me i row = rounds row refl in
        let mq : Moment = moment sc hands r.q in
        let mg : Moment = moment sc hands g in
        let a = and_parts ((row.place.frame == mg.frame) && (row.place.slot == slot_numbered sc.sizes mg.window)) (row.place.stage == mg.window % 3 + 1) e in
        let b = and_parts (row.place.frame == mg.frame) (row.place.slot == slot_numbered sc.sizes mg.window) a.0 in
        let frame : mq.frame ≡ mg.frame = sym (ap (λ (p : Place). p.frame) r.place) ∙ eqb-true row.place.frame mg.frame b.0 in
        let slot : slot_numbered sc.sizes mq.window ≡ slot_numbered sc.sizes mg.window =
        sym (ap (λ (p : Place). p.slot) r.place) ∙ eqb-true row.place.slot (slot_numbered sc.sizes mg.window) b.1 in
        let stage_is : mq.window % 3 + 1 ≡ mg.window % 3 + 1 = sym (ap (λ (p : Place). p.stage) r.place) ∙ eqb-true row.place.stage (mg.window % 3 + 1) a.1 in
        let window : mq.window ≡ mg.window = one-place sc.sizes mq mg r.stage stage slot stage_is in
        let same : r.q ≡ g = one-number sc hands r.q g frame window in
        let state : slice_get (of_kind me mg.nodes) i ≡ Some r.st = subst (λ q. slice_get (of_kind me (moment sc hands q).nodes) i ≡ Some r.st) same r.state in
        let st_is : r.st ≡ st = same_Some r.st st (sym state ∙ there) in
        let is : (go_through sc mg (sent_in sc mg) me i r.st (window_in sc mg me r.st)).row ≡ Some row =
        subst (λ q. (go_through sc (moment sc hands q) (sent_in sc (moment sc hands q)) me i r.st (window_in sc (moment sc hands q) me r.st)).row ≡ Some row) same r.is in
        sym (subst (λ z. (go_through sc mg (sent_in sc mg) me i z (window_in sc mg me z)).row ≡ Some row) st_is is)

pub or-told : (good told : Bool) → (not good || told) ≡ true → good ≡ true → told ≡ true
or-told true told h e = h
or-told false told h e = cc

-- if a stage is complete, the rows that the nodes have told are those of the rounds
rows-are : (sc : Scenario) (hands : List HandIn) (g : ℕ) (sites : Each Site) → HasTicks sc.plan → (moment sc hands g).window < stages_in sc.sizes
    → ((me : Side) → length (of_kind me sites) ≡ count_of me sc.sizes) → RowsOfRounds sc hands sites
    → is_complete sc sites (Stage (place_at sc.sizes (moment sc hands g))) ≡ true
    → told_by_good sc (moment sc hands g).frame (slot_numbered sc.sizes (moment sc hands g).window) (λ s. row_for (place_at sc.sizes (moment sc hands g)) s.row) sites
    ≡ map_each (λ me i (r : Result). r.row) (results_of sc (moment sc hands g))
unfolding results_of RowsOfRounds
rows-are sc hands g sites ticks stage counts rounds complete =
    let m : Moment = moment sc hands g in
    let place : Place = place_at sc.sizes m in
    let slot : ℕ = slot_numbered sc.sizes m.window in
    let tells : Side → ℕ → Site → Option Row = λ me i s. elim (is_good sc me i m.frame slot) as (λ _. Option Row) [ true ↦ row_for place s.row | false ↦ None ] in
    let go : Side → ℕ → NodeState → Result = λ me i st. go_through sc m (sent_in sc m) me i st (window_in sc m me st) in
    let has : Side → ℕ → Site → Bool = λ me i s. not (is_good sc me i m.frame slot) || is_some (row_for place s.row) in
    let stand : AllStand sc m = moments-stand sc hands g ticks in
    let one : (me : Side) (i : ℕ) (s : Site) → slice_get (of_kind me sites) i ≡ Some s
    → option_map (tells me i) (slice_get (of_kind me sites) i) ≡ option_map (λ (r : Result). r.row) (option_map (go me i) (slice_get (of_kind me m.nodes) i)) =
    λ me i s there.
    let within : i < length (of_kind me sites) = slice_get_within (of_kind me sites) i s there in
    let long : length (of_kind me sites) ≡ count_of me sc.sizes = counts me in
    let nodes : length (of_kind me m.nodes) ≡ count_of me sc.sizes = stand.counts me in
    let state = item-at (of_kind me m.nodes) i (omega arith) in
    let told : has me i s ≡ true =
    each-at (map_each has sites) me i complete (get-each has sites me i ∙ ap (option_map (has me i)) there) in
    let by : (b : Bool) → is_good sc me i m.frame slot ≡ b → tells me i s ≡ (go me i state.0).row =
    λ b. elim b as (λ b. is_good sc me i m.frame slot ≡ b → tells me i s ≡ (go me i state.0).row) [
      | true ↦ λ e.
          ap (λ b. elim b as (λ _. Option Row) [ true ↦ row_for place s.row | false ↦ None ]) e
          ∙ told-row sc hands g me i s.row stage state.1 (λ row f. rounds me i s row there f) (or-told (is_good sc me i m.frame slot) (is_some (row_for place s.row)) told e)
      | false ↦ λ e.
          ap (λ b. elim b as (λ _. Option Row) [ true ↦ row_for place s.row | false ↦ None ]) e
          ∙ sym (not-good-row sc m me i state.0 e)
    ] in
    ap (option_map (tells me i)) there ∙ ap Some (by (is_good sc me i m.frame slot) refl)
    ∙ sym (ap (λ o. option_map (λ (r : Result). r.row) (option_map (go me i) o)) state.1) in
    let none : (me : Side) (i : ℕ) → slice_get (of_kind me sites) i ≡ None
    → option_map (tells me i) (slice_get (of_kind me sites) i) ≡ option_map (λ (r : Result). r.row) (option_map (go me i) (slice_get (of_kind me m.nodes) i)) =
    λ me i e.
    let gone : length (of_kind me sites) ≤ i = past-of (of_kind me sites) i e in
    let long : length (of_kind me sites) ≡ count_of me sc.sizes = counts me in
    let nodes : length (of_kind me m.nodes) ≡ count_of me sc.sizes = stand.counts me in
    ap (option_map (tells me i)) e ∙ sym (ap (λ o. option_map (λ (r : Result). r.row) (option_map (go me i) o)) (slice_get_past (of_kind me m.nodes) i (omega arith))) in
    same-each (map_each tells sites) (map_each (λ me i (r : Result). r.row) (map_each go m.nodes))
    (λ me i.
    get-each tells sites me i
    ∙ pick me i (slice_get (of_kind me sites) i) refl (λ s e. one me i s e) (λ e. none me i e)
    ∙ sym (get-each (λ me i (r : Result). r.row) (map_each go m.nodes) me i ∙ ap (option_map (λ (r : Result). r.row)) (get-each go m.nodes me i)))
  where
    past-of : {X : Type 0} (xs : List X) (i : ℕ) → slice_get xs i ≡ None → length xs ≤ i
    past-of [] i e = omega arith
    past-of (x ∷ xs) zero e = cc
    past-of (x ∷ xs) (suc i) e = let more : length xs ≤ i = past-of xs i e in omega arith

    pick : {P : Type 0} (me : Side) (i : ℕ) (o : Option Site) → slice_get (of_kind me sites) i ≡ o
        → ((s : Site) → slice_get (of_kind me sites) i ≡ Some s → P) → (slice_get (of_kind me sites) i ≡ None → P) → P
    pick me i None e some none = none e
    pick me i (Some s) e some none = some s e

-- The book.

-- a stage that is complete is settled as in the rounds
pub stage-settled : (sc : Scenario) (hands : List HandIn) (g : ℕ) (sites : Each Site) → HasTicks sc.plan → (moment sc hands g).window < stages_in sc.sizes
    → ((moment sc hands g).frame == sc.frames) ≡ false
    → ((me : Side) → length (of_kind me sites) ≡ count_of me sc.sizes) → RowsOfRounds sc hands sites
    → is_complete sc sites (Stage (place_at sc.sizes (moment sc hands g))) ≡ true
    → book_with sc sites (moment sc hands g).book (Stage (place_at sc.sizes (moment sc hands g))) ≡ (moment sc hands (suc g)).book
unfolding step after_window
stage-settled sc hands g sites ticks stage not_last counts rounds complete =
    let m : Moment = moment sc hands g in
    let place : Place = place_at sc.sizes m in
    let w = stage-window sc.sizes sc.plan m.window stage in
    let rows : Each (Option Row) = map_each (λ me i (r : Result). r.row) (results_of sc m) in
    let inside : nat_lt m.window (windows_in sc.sizes) ≡ true = lt-ltb m.window (windows_in sc.sizes) (omega arith) in
    ap (λ rows. with_stage sc place rows m.book) (rows-are sc hands g sites ticks stage counts rounds complete)
    ∙ sym (ap (λ s. with_stage sc (record { frame = m.frame; slot = s; stage = w.0.stage }) rows m.book) w.1.1.0
    ∙ ap (λ s. with_stage sc (record { frame = m.frame; slot = slot_numbered sc.sizes m.window; stage = s }) rows m.book) w.1.1.1)
    ∙ sym (ap (λ o. book_after sc m.frame o rows m.book) w.1.0)
    ∙ sym (ap (λ b. (stepped sc hands m false b).book) inside)
    ∙ sym (ap (λ b. (stepped sc hands m b (nat_lt m.window (windows_in sc.sizes))).book) not_last)

pub end-settled : (sc : Scenario) (hands : List HandIn) (g : ℕ) (sites : Each Site) → ((moment sc hands g).frame == sc.frames) ≡ true
    → book_with sc sites (moment sc hands g).book End ≡ (moment sc hands (suc g)).book
unfolding step
end-settled sc hands g sites last =
    let m : Moment = moment sc hands g in
    sym (ap (λ b. (stepped sc hands m b (nat_lt m.window (windows_in sc.sizes))).book) last)
