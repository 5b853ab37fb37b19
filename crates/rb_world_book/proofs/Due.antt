-- When a milestone is settled.
use Rattle.std.proofs.{Common.{◌≡◌, ℕ, zero, suc, ◌+◌, ◌<◌, ◌≤◌, ◌==◌, ◌&&◌, ◌||◌, not, nat_lt, Bool, true, false, List, [], ◌∷◌, ◌++◌, length, take, Option, Some, None, refl, sym, ◌∙◌, ap, subst, arith, if◌then◌else◌}, lemmas.Bool.lt-ltb, lemmas.Bool.Decides.nat_tests, lemmas.List.{length-take, get_or-take}}
use Rattle.std.specs.{Prelude.{is_some, is_none, option_map}, List.list_all}
use Rattle.rb_base.specs.{Nodes.{Side, has, set_of}, Nodes.Side.{Biu, Rmu}, declared.values.Place.Place, declared.values.See.See}
use Rattle.rb_base.proofs.{Sets.{has-set_of, has_none, is_set_of}, Plain.same_bool}
use Rattle.rb_rules.specs.{Book.{Begun, Book, Each, Record, Row, map_each, map_from, of_kind, with_frame, with_stage}, Book.Milestone as Mile, Goodness.{Scenario, good_at, is_good}, Slots.count_of, WorldStep.{Site, Way, World, begun_for, book_with, comes_so, is_complete, needs_no_event, record_since, row_for, same_place, settle, settle_next}}
use Rattle.rb_rules.proofs.Books.{record-same}
use Rattle.rb_world_book.specs.{declared.group.Group.Group, declared.book.Book.Book as KeptBook, declared.milestone.Milestone.Milestone, declared.milestone.Milestone.TheVariants.{Begin, Stage, End}, declared.milestone.Way.Way as KeptWay, declared.told.Begin.Begin as LatestBegin, declared.told.Told.Told, declared.turn.Turn.Turn, Holding.{Holds, HoldsKind, Passes, passed}, Records.{milestone_of, record_of, way_of}, Settling.{Settles, comes_when, is_due, is_free}, Telling.{begun_in, begun_told, has_told, latest_seeing, no_told, row_seeing, see_of, told_at}, Waiting.waiting_for}
use Rattle.rb_world_book.proofs.Rows.{from-from, from-map, from-same, good-is}
use Rattle.rb_world_book.specs.declared.milestone.Way.TheVariants as way
use Rattle.rb_world_book.specs.declared.turn.Turn.TheVariants as turn

-- All of a list.

all-both : (xs ys : List Bool) → list_all (λ b. b) (xs ++ ys) ≡ (list_all (λ b. b) xs && list_all (λ b. b) ys)
all-both [] ys = refl
all-both (true ∷ xs) ys = all-both xs ys
all-both (false ∷ xs) ys = refl

all-are : (k : ℕ) (f : ℕ → Told → Bool) (xs : List Told) → ((i : ℕ) → i < length xs → f (k + i) (told_at xs i) ≡ true) → list_all (λ b. b) (map_from k f xs) ≡ true
all-are k f [] each = refl
all-are k f (x ∷ xs) each =
    let here : f k x ≡ true = let e : k ≡ k + 0 = omega arith in ap (λ n. f n x) e ∙ each 0 (omega arith) in
    ap (λ b. b && list_all (λ b. b) (map_from (k + 1) f xs)) here
    ∙ all-are (k + 1) f xs (λ i h. let e : k + 1 + i ≡ k + suc i = omega arith in ap (λ n. f n (told_at xs i)) e ∙ each (suc i) (omega arith))

each-is : (k : ℕ) (f : ℕ → Told → Bool) (xs : List Told) (i : ℕ) → list_all (λ b. b) (map_from k f xs) ≡ true → i < length xs → f (k + i) (told_at xs i) ≡ true
each-is k f [] i all h = absurd (omega arith)
each-is k f (x ∷ xs) zero all h = let e : k + 0 ≡ k = omega arith in ap (λ n. f n x) e ∙ front (f k x) _ all
  where
    front : (a b : Bool) → (a && b) ≡ true → a ≡ true
    front true b e = refl
    front false b e = absurd (cc)
each-is k f (x ∷ xs) (suc i) all h =
    let e : k + suc i ≡ k + 1 + i = omega arith in
    ap (λ n. f n (told_at xs i)) e ∙ each-is (k + 1) f xs i (rest (f k x) _ all) (omega arith)
  where
    rest : (a b : Bool) → (a && b) ≡ true → b ≡ true
    rest true b e = e
    rest false b e = absurd (cc)

-- nobody is awaited if and only if all good ones have told
all-told : (n good : ℕ) (m : Milestone) (told : List Told) → n ≤ 16 → length told ≡ 16
    → list_all (λ b. b) (map_from 0 (λ i t. not (has good i) || has_told m t) (take n told)) ≡ (waiting_for n good m told == 0)
unfolding waiting_for
all-told n good m told most len =
    same_bool _ _
    (λ all. is_zero (set_of p) (sym (is_set_of 0 p (omega arith) (λ i h. has_none i ∙ sym (none all i (nat_lt i n) refl)))))
    (λ e. all-are 0 (λ i t. not (has good i) || has_told m t) (take n told) (λ i h. told_all (zero_is (set_of p) e) i (omega (arith, h, length-take n told))))
  where
    p : ℕ → Bool
    p i = nat_lt i n && (has good i && not (has_told m (told_at told i)))

    is_zero : (s : ℕ) → s ≡ 0 → (s == 0) ≡ true
    is_zero s e = grind (arith, nat_tests)

    zero_is : (s : ℕ) → (s == 0) ≡ true → s ≡ 0
    zero_is s e = grind (arith, nat_tests)

    flip : (a b : Bool) → (not a || b) ≡ true → (a && not b) ≡ false
    flip true true e = refl
    flip true false e = absurd (cc)
    flip false b e = refl

    flop : (a b : Bool) → (a && not b) ≡ false → (not a || b) ≡ true
    flop true true e = refl
    flop true false e = absurd (cc)
    flop false b e = refl

    none : list_all (λ b. b) (map_from 0 (λ i t. not (has good i) || has_told m t) (take n told)) ≡ true → (i : ℕ) (b : Bool) → nat_lt i n ≡ b
        → (nat_lt i n && (has good i && not (has_told m (told_at told i)))) ≡ false
    none all i false e = ap (λ b. b && (has good i && not (has_told m (told_at told i)))) e
    none all i true e =
        let h : i < n = grind (arith, nat_tests) in
        let inside : i < length (take n told) = omega (arith, length-take n told) in
        let start : 0 + i ≡ i = omega arith in
        ap (λ b. b && (has good i && not (has_told m (told_at told i)))) e
        ∙ flip (has good i) (has_told m (told_at told i))
        (sym (ap (λ k. not (has good k) || has_told m (told_at (take n told) i)) start ∙ ap (λ t. not (has good i) || has_told m t) (get_or-take n told i no_told h))
        ∙ each-is 0 (λ i t. not (has good i) || has_told m t) (take n told) i all inside)

    told_all : set_of p ≡ 0 → (i : ℕ) → i < n → (not (has good (0 + i)) || has_told m (told_at (take n told) i)) ≡ true
    told_all e i h =
        let start : 0 + i ≡ i = omega arith in
        let out : p i ≡ false = sym (has-set_of i p (omega arith)) ∙ ap (λ s. has s i) e ∙ has_none i in
        ap (λ k. not (has good k) || has_told m (told_at (take n told) i)) start ∙ ap (λ t. not (has good i) || has_told m t) (get_or-take n told i no_told h)
        ∙ flop (has good i) (has_told m (told_at told i)) (sym (ap (λ b. b && (has good i && not (has_told m (told_at told i)))) (lt-ltb i n h)) ∙ out)

-- What a kind has told.

tells_row : (sc : Scenario) (kind : Side) (place : Place) (sites : Each Site)
    → of_kind kind (map_each (λ me i s. not (is_good sc me i place.frame place.slot) || is_some (row_for place s.row)) sites)
    ≡ map_from 0 (λ i s. not (is_good sc kind i place.frame place.slot) || is_some (row_for place s.row)) (of_kind kind sites)
tells_row sc Biu place sites = refl
tells_row sc Rmu place sites = refl

tells_begin : (sc : Scenario) (kind : Side) (frame : ℕ) (sites : Each Site)
    → of_kind kind (map_each (λ me i s. not (is_good sc me i frame 0) || is_some (begun_for frame s.begun)) sites)
    ≡ map_from 0 (λ i s. not (is_good sc kind i frame 0) || is_some (begun_for frame s.begun)) (of_kind kind sites)
tells_begin sc Biu frame sites = refl
tells_begin sc Rmu frame sites = refl

some_begun : (kind : Side) (frame : ℕ) (o : Option LatestBegin) → is_some (begun_for frame (option_map (begun_in kind) o)) ≡ is_some (begun_for frame (option_map (begun_in Biu) o))
some_begun kind frame None = refl
some_begun kind frame (Some b) = by (b.frame == frame)
  where
    by : (same : Bool) → is_some (elim same as (λ _. Option Begun) [ true ↦ Some (begun_in kind b) | false ↦ None ]) ≡ is_some (elim same as (λ _. Option Begun) [ true ↦ Some (begun_in Biu b) | false ↦ None ])
    by true = refl
    by false = refl

-- what was seen does not matter to whether a row is there
told-seeing : (place : Place) (saw : ℕ → See) (t : Told) → is_some (row_for place (row_seeing saw t)) ≡ has_told (Stage place) t
told-seeing place saw t = by t.has_closed
  where
    there : (b : Bool) → is_some (elim b as (λ _. Option Row) [ true ↦ Some (latest_seeing saw t) | false ↦ None ])
        ≡ is_some (elim b as (λ _. Option Row) [ true ↦ Some (latest_seeing (see_of t) t) | false ↦ None ])
    there true = refl
    there false = refl

    by : (c : Bool) → is_some (row_for place (if c then Some (latest_seeing saw t) else None)) ≡ is_some (row_for place (if c then Some (latest_seeing (see_of t) t) else None))
    by true = there (same_place t.place place)
    by false = refl

kind-stage : {K : Type 0} (sc : Scenario) (kind : Side) (place : Place) (g : Group K) (sites : Each Site) → count_of kind sc.sizes ≤ 16 → HoldsKind sc kind (Stage place) g sites
    → list_all (λ b. b) (of_kind kind (map_each (λ me i s. not (is_good sc me i place.frame place.slot) || is_some (row_for place s.row)) sites)) ≡ (g.waiting == 0)
kind-stage sc kind place g sites most holds =
    let f : ℕ → Option Row → Bool = λ i r. not (is_good sc kind i place.frame place.slot) || is_some (row_for place r) in
    ap (list_all (λ b. b)) (tells_row sc kind place sites ∙ sym (from-map 0 f (λ s. s.row) (of_kind kind sites)) ∙ ap (map_from 0 f) holds.rows
    ∙ from-from 0 f (λ i t. row_seeing (holds.saw i) t) (take (count_of kind sc.sizes) g.told)
    ∙ from-same 0 _ (λ i t. not (has g.good i) || has_told (Stage place) t) (take (count_of kind sc.sizes) g.told)
    (λ i t. ap (λ b. not (is_good sc kind i place.frame place.slot) || b) (told-seeing place (holds.saw i) t)
    ∙ ap (λ b. not b || has_told (Stage place) t) (sym (ap (λ s. has s i) holds.good ∙ good-is sc kind place.frame place.slot i most))))
    ∙ all-told (count_of kind sc.sizes) g.good (Stage place) g.told most holds.all ∙ ap (λ s. s == 0) (sym holds.waiting)

kind-begin : {K : Type 0} (sc : Scenario) (kind : Side) (frame : ℕ) (g : Group K) (sites : Each Site) → count_of kind sc.sizes ≤ 16 → HoldsKind sc kind (Begin frame) g sites
    → list_all (λ b. b) (of_kind kind (map_each (λ me i s. not (is_good sc me i frame 0) || is_some (begun_for frame s.begun)) sites)) ≡ (g.waiting == 0)
kind-begin sc kind frame g sites most holds =
    let f : ℕ → Option Begun → Bool = λ i b. not (is_good sc kind i frame 0) || is_some (begun_for frame b) in
    ap (list_all (λ b. b)) (tells_begin sc kind frame sites ∙ sym (from-map 0 f (λ s. s.begun) (of_kind kind sites)) ∙ ap (map_from 0 f) holds.begins
    ∙ from-map 0 f (begun_told kind) (take (count_of kind sc.sizes) g.told)
    ∙ from-same 0 _ (λ i t. not (has g.good i) || has_told (Begin frame) t) (take (count_of kind sc.sizes) g.told)
    (λ i t. ap (λ b. not b || is_some (begun_for frame (begun_told kind t))) (sym (ap (λ s. has s i) holds.good ∙ good-is sc kind frame 0 i most))
    ∙ ap (λ b. not (has g.good i) || b) (some_begun kind frame t.begun)))
    ∙ all-told (count_of kind sc.sizes) g.good (Begin frame) g.told most holds.all ∙ ap (λ s. s == 0) (sym holds.waiting)

kind-end : {K : Type 0} (sc : Scenario) (kind : Side) (g : Group K) (sites : Each Site) → HoldsKind sc kind End g sites → g.waiting ≡ 0
unfolding waiting_for
kind-end sc kind g sites holds =
    holds.waiting ∙ ap (λ s. set_of (λ i. nat_lt i (count_of kind sc.sizes) && (has s i && not false))) holds.good
    ∙ sym (is_set_of 0 _ (omega arith) (λ i h. has_none i ∙ sym (out (nat_lt i (count_of kind sc.sizes)) (has 0 i) (has_none i))))
  where
    out : (a b : Bool) → b ≡ false → (a && (b && true)) ≡ false
    out true true e = absurd (cc)
    out true false e = refl
    out false b e = refl

-- all good nodes have told of the next milestone
pub complete-is : (sc : Scenario) (l : KeptBook) (w : World) → Holds sc l w
    → is_complete sc w.sites w.book.upcoming ≡ ((l.bius.waiting == 0) && (l.rmus.waiting == 0))
complete-is sc l w h = ap (is_complete sc w.sites) h.upcoming ∙ by l.upcoming h.bius h.rmus
  where
    by : (m : Milestone) → HoldsKind sc Biu m l.bius w.sites → HoldsKind sc Rmu m l.rmus w.sites
        → is_complete sc w.sites (milestone_of m) ≡ ((l.bius.waiting == 0) && (l.rmus.waiting == 0))
    by (Begin frame) biu rmu =
        let told : Each Bool = map_each (λ me i s. not (is_good sc me i frame 0) || is_some (begun_for frame s.begun)) w.sites in
        all-both told.bius told.rmus ∙ ap (λ b. b && list_all (λ b. b) told.rmus) (kind-begin sc Biu frame l.bius w.sites h.fits.is_shape.most_bius biu)
        ∙ ap (λ b. (l.bius.waiting == 0) && b) (kind-begin sc Rmu frame l.rmus w.sites h.fits.is_shape.most_rmus rmu)
    by (Stage place) biu rmu =
        let told : Each Bool = map_each (λ me i s. not (is_good sc me i place.frame place.slot) || is_some (row_for place s.row)) w.sites in
        all-both told.bius told.rmus ∙ ap (λ b. b && list_all (λ b. b) told.rmus) (kind-stage sc Biu place l.bius w.sites h.fits.is_shape.most_bius biu)
        ∙ ap (λ b. (l.bius.waiting == 0) && b) (kind-stage sc Rmu place l.rmus w.sites h.fits.is_shape.most_rmus rmu)
    by End biu rmu =
        sym (ap (λ s. (s == 0) && (l.rmus.waiting == 0)) (kind-end sc Biu l.bius w.sites biu) ∙ ap (λ s. (0 == 0) && (s == 0)) (kind-end sc Rmu l.rmus w.sites rmu))

-- the next milestone needs no event
pub free-is : (sc : Scenario) (l : KeptBook) (w : World) → Holds sc l w → needs_no_event sc w.book.upcoming ≡ is_free l
free-is sc l w h = ap (needs_no_event sc) h.upcoming ∙ by l.upcoming h.bius h.rmus
  where
    by : (m : Milestone) → HoldsKind sc Biu m l.bius w.sites → HoldsKind sc Rmu m l.rmus w.sites → needs_no_event sc (milestone_of m) ≡ is_free l
    by (Begin frame) biu rmu = sym (ap (λ s. (s == 0) && (l.rmus.good == 0)) biu.good ∙ ap (λ s. (good_at sc Biu frame 0 == 0) && (s == 0)) rmu.good)
    by (Stage place) biu rmu =
        sym (ap (λ s. (s == 0) && (l.rmus.good == 0)) biu.good ∙ ap (λ s. (good_at sc Biu place.frame place.slot == 0) && (s == 0)) rmu.good)
    by End biu rmu = sym (ap (λ s. (s == 0) && (l.rmus.good == 0)) biu.good ∙ ap (λ s. (0 == 0) && (s == 0)) rmu.good)

pub comes-is : (sc : Scenario) (l : KeptBook) (w : World) (k : KeptWay) → Holds sc l w → comes_so sc (way_of k) w.book.upcoming ≡ comes_when (is_free l) k
comes-is sc l w way.ByAnEvent h = ap not (free-is sc l w h)
comes-is sc l w way.ByItself h = free-is sc l w h

-- One step.

abbrev step_if : Scenario → World → Bool → World
step_if sc w b = elim b [ true ↦ passed sc w | false ↦ w ]

-- a book that has ended stays
ended-book : (sc : Scenario) (sites : Each Site) (b : Book) (m : Mile) → b.ended ≡ true → book_with sc sites b m ≡ b
unfolding with_stage with_frame
ended-book sc sites b (Mile.Begin frame) e = rw e refl
ended-book sc sites b (Mile.Stage place) e = rw e refl
ended-book sc sites b Mile.End e = rw e refl

ended-same : (sc : Scenario) (w : World) → w.book.ended ≡ true → passed sc w ≡ w
ended-same sc w e = ap (λ (b : Book). let v : World = record w { book = b } in v) (ended-book sc w.sites w.book w.book.upcoming e)

-- a milestone is due: the run goes on, nobody is awaited, and the next step passes the milestone
pub record IsDue (sc : Scenario) (k : KeptWay) (l : KeptBook) (w : World) : Type 0 where
  pub going : l.ended ≡ false
  pub bius : l.bius.waiting ≡ 0
  pub rmus : l.rmus.waiting ≡ 0
  pub next : settle_next sc (way_of k) w ≡ passed sc w

pub next-due : (sc : Scenario) (k : KeptWay) (l : KeptBook) (w : World) → Holds sc l w → is_due k l ≡ true → IsDue sc k l w
next-due sc k l w h e = by (l.bius.waiting == 0) (l.rmus.waiting == 0) (comes_when (is_free l) k) l.ended refl refl refl refl e
  where
    zero_is : (s : ℕ) → (s == 0) ≡ true → s ≡ 0
    zero_is s e = grind (arith, nat_tests)

    by : (a b c d : Bool) → (l.bius.waiting == 0) ≡ a → (l.rmus.waiting == 0) ≡ b → comes_when (is_free l) k ≡ c → l.ended ≡ d → (a && (b && (c && not d))) ≡ true → IsDue sc k l w
    by true true true false ea eb ec ed e = record {
      going = ed;
      bius = zero_is l.bius.waiting ea;
      rmus = zero_is l.rmus.waiting eb;
      next = ap (step_if sc w) (ap (λ b. b && is_complete sc w.sites w.book.upcoming) (comes-is sc l w k h ∙ ec) ∙ complete-is sc l w h ∙ ap (λ b. b && (l.rmus.waiting == 0)) ea ∙ eb);
    }
    by true true true true ea eb ec ed e = absurd (cc)
    by true true false d ea eb ec ed e = absurd (cc)
    by true false c d ea eb ec ed e = absurd (cc)
    by false b c d ea eb ec ed e = absurd (cc)

pub next-not : (sc : Scenario) (k : KeptWay) (l : KeptBook) (w : World) → Holds sc l w → is_due k l ≡ false → settle_next sc (way_of k) w ≡ w
next-not sc k l w h e =
    ap (step_if sc w) (ap (λ b. b && is_complete sc w.sites w.book.upcoming) (comes-is sc l w k h) ∙ ap (λ b. comes_when (is_free l) k && b) (complete-is sc l w h))
    ∙ by (l.bius.waiting == 0) (l.rmus.waiting == 0) (comes_when (is_free l) k) l.ended refl e
  where
    by : (a b c d : Bool) → l.ended ≡ d → (a && (b && (c && not d))) ≡ false → step_if sc w (c && (a && b)) ≡ w
    by a b false d ed e = refl
    by false b true d ed e = refl
    by true false true d ed e = refl
    by true true true false ed e = absurd (cc)
    by true true true true ed e = ended-same sc w (h.ended ∙ ed)

-- Two steps.

abbrev rest_of : Scenario → Way → ℕ → World → Option Record → World
rest_of sc way n next r = elim r [ None ↦ settle sc way n next | Some r ↦ record next { turn = Some r } ]

pub settle-more : (sc : Scenario) (way : Way) (n : ℕ) (w next : World) (r : Option Record) → settle_next sc way w ≡ next → record_since w next ≡ r
    → settle sc way (suc n) w ≡ rest_of sc way n next r
settle-more sc way n w next r is record_is = ap (λ x. rest_of sc way n x (record_since w x)) is ∙ ap (rest_of sc way n next) record_is

settle-not : (sc : Scenario) (way : Way) (n : ℕ) (w : World) → settle_next sc way w ≡ w → settle sc way (suc n) w ≡ settle sc way n w
settle-not sc way n w is = settle-more sc way n w w None is (record-same w)

settle-one : (sc : Scenario) (way : Way) (w next : World) (r : Option Record) → settle_next sc way w ≡ next → record_since w next ≡ r → settle sc way 1 w ≡ record next { turn = r }
settle-one sc way w next None is e = settle-more sc way 0 w next None is e
settle-one sc way w next (Some r) is e = settle-more sc way 0 w next (Some r) is e

pub with-turn : (sc : Scenario) (l : KeptBook) (w : World) (t : Option Record) → Holds sc l w → Holds sc l (record w { turn = t })
with-turn sc l w t h = record {
  fits = h.fits;
  upcoming = h.upcoming;
  coming = h.coming;
  lines = h.lines;
  ended = h.ended;
  judged = h.judged;
  bius = record { all = h.bius.all; saw = h.bius.saw; rows = h.bius.rows; sights = h.bius.sights; begins = h.bius.begins; within = h.bius.within; good = h.bius.good; waiting = h.bius.waiting; lasting = h.bius.lasting; counted = h.bius.counted };
  rmus = record { all = h.rmus.all; saw = h.rmus.saw; rows = h.rmus.rows; sights = h.rmus.sights; begins = h.rmus.begins; within = h.rmus.within; good = h.rmus.good; waiting = h.rmus.waiting; lasting = h.rmus.lasting; counted = h.rmus.counted };
}

settles-at : (sc : Scenario) (way : Way) (w next : World) (l : KeptBook) (t : Turn) (r : Option Record) → settle sc way 2 w ≡ record next { turn = r } → r ≡ record_of t
    → Holds sc l next → Settles sc way w l t
settles-at sc way w next l t r is same h = record {
  holds = subst (λ x. Holds sc l x) (sym is) (with-turn sc l next r h);
  turn_is = ap (λ (x : World). x.turn) is ∙ same;
}

-- if nothing is due, nothing is settled
pub settles-none : (sc : Scenario) (k : KeptWay) (l : KeptBook) (w : World) → Holds sc l w → is_due k l ≡ false → Settles sc (way_of k) w l turn.Quiet
settles-none sc k l w h e =
    let not_due = next-not sc k l w h e in
    settles-at sc (way_of k) w w l turn.Quiet None (settle-not sc (way_of k) 1 w not_due ∙ settle-not sc (way_of k) 0 w not_due) refl h

-- one milestone is settled, and it gives a record, or no other is due
pub settles-one : (sc : Scenario) (k : KeptWay) (l after : KeptBook) (w : World) (t : Turn) → IsDue sc k l w → Passes sc w after t
    → (is_none (record_of t) ≡ true → is_due k after ≡ false) → Settles sc (way_of k) w after t
settles-one sc k l after w t due passes more = by (record_of t) refl
  where
    by : (r : Option Record) → record_of t ≡ r → Settles sc (way_of k) w after t
    by (Some r) e =
        settles-at sc (way_of k) w (passed sc w) after t (Some r) (settle-more sc (way_of k) 1 w (passed sc w) (Some r) due.next (sym passes.record_is ∙ e)) (sym e) passes.holds
    by None e =
        settles-at sc (way_of k) w (passed sc w) after t None
        (settle-more sc (way_of k) 1 w (passed sc w) None due.next (sym passes.record_is ∙ e)
        ∙ settle-not sc (way_of k) 0 (passed sc w) (next-not sc k after (passed sc w) passes.holds (more (ap is_none e)))) (sym e) passes.holds

-- a milestone that gives none is settled, and the next
pub settles-two : (sc : Scenario) (k : KeptWay) (l between after : KeptBook) (w : World) (t u : Turn) → IsDue sc k l w → Passes sc w between t
    → is_none (record_of t) ≡ true → IsDue sc k between (passed sc w) → Passes sc (passed sc w) after u → Settles sc (way_of k) w after u
settles-two sc k l between after w t u due passes quiet more second =
    settles-at sc (way_of k) w (passed sc (passed sc w)) after u (record_of u)
    (settle-more sc (way_of k) 1 w (passed sc w) None due.next (sym passes.record_is ∙ none (record_of t) quiet)
    ∙ settle-one sc (way_of k) (passed sc w) (passed sc (passed sc w)) (record_of u) more.next (sym second.record_is)) refl second.holds
  where
    none : (r : Option Record) → is_none r ≡ true → r ≡ None
    none None e = refl
    none (Some r) e = absurd (cc)

-- a turn without a record is Quiet
pub quiet-is : (t : Turn) → is_none (record_of t) ≡ true → t ≡ turn.Quiet
quiet-is turn.Quiet e = refl
quiet-is (turn.Frame f) e = absurd (cc)
quiet-is (turn.Slot s) e = absurd (cc)
quiet-is turn.Ended e = absurd (cc)
quiet-is (turn.Breach place cause) e = absurd (cc)
