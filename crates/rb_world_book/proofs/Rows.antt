-- What the good nodes of a world told, and what is found among what is kept.
use Rattle.std.proofs.{Common.{◌≡◌, ℕ, ◌+◌, ◌≤◌, ◌==◌, ◌&&◌, nat_lt, if◌then◌else◌, Bool, true, false, List, [], ◌∷◌, map, take, get_or, Option, Some, None, refl, sym, ◌∙◌, ap, arith}, lemmas.Bool.le-ltb, lemmas.Bool.Decides.nat_tests}
use Rattle.std.specs.{Prelude.{option_map, option_and_then}, List.{cons_option, filter_map}}
use Rattle.rb_base.specs.{Nodes.{Side, has, set_of}, Nodes.Side.{Biu, Rmu}, declared.values.Place.Place, declared.values.See.See}
use Rattle.rb_base.proofs.Sets.{has-set_of, has_above, set_of-lt}
use Rattle.rb_rules.specs.{declared.record.NodeLine.NodeLine, declared.record.PortLine.PortLine, Book.{Begun, Each, Row, line_in, map_from, of_kind}, ExactStage.present, Goodness.{Scenario, good_at, is_before, is_good, onsets_of}, Slots.count_of, WorldStep.{Site, begun_for, row_for, same_place, told_by_good}}
use Rattle.rb_world_book.specs.{declared.group.Group.Group, declared.milestone.Milestone.Milestone, declared.told.Begin.Begin as LatestBegin, declared.told.Told.Told, Holding.HoldsKind, Telling.{begun_in, begun_told, latest_seeing, row_seeing, row_told, see_of}, Waiting.{begun_at, found_of, line_of, node_line_of, port_line_of, row_saw}}

-- Lists.

pub from-map : {X Y Z : Type 0} (k : ℕ) (f : ℕ → Y → Z) (h : X → Y) (xs : List X) → map_from k f (map h xs) ≡ map_from k (λ i x. f i (h x)) xs
from-map k f h [] = refl
from-map k f h (x ∷ xs) = ap (λ l. f k (h x) ∷ l) (from-map (k + 1) f h xs)

pub from-same : {X Y : Type 0} (k : ℕ) (f g : ℕ → X → Y) (xs : List X) → ((i : ℕ) (x : X) → f i x ≡ g i x) → map_from k f xs ≡ map_from k g xs
from-same k f g [] same = refl
from-same k f g (x ∷ xs) same = ap (λ y. y ∷ map_from (k + 1) f xs) (same k x) ∙ ap (λ l. g k x ∷ l) (from-same (k + 1) f g xs same)

pub from-from : {X Y Z : Type 0} (k : ℕ) (f : ℕ → Y → Z) (h : ℕ → X → Y) (xs : List X) → map_from k f (map_from k h xs) ≡ map_from k (λ i x. f i (h i x)) xs
from-from k f h [] = refl
from-from k f h (x ∷ xs) = ap (λ l. f k (h k x) ∷ l) (from-from (k + 1) f h xs)

-- What is made of the items that are there.

one-map : {Y Z : Type 0} (g : Y → Z) (o : Option Y) (l : List Y) (m : List Z) → map g l ≡ m → map g (cons_option o l) ≡ cons_option (option_map g o) m
one-map g None l m e = e
one-map g (Some y) l m e = ap (λ z. g y ∷ z) e

pub present-map : {X Y Z : Type 0} (k : ℕ) (g : Y → Z) (f : ℕ → X → Option Y) (xs : List X)
    → map g (present (map_from k f xs)) ≡ present (map_from k (λ i x. option_map g (f i x)) xs)
present-map k g f [] = refl
present-map k g f (x ∷ xs) = one-map g (f k x) _ _ (present-map (k + 1) g f xs)

one-then : {Y Z : Type 0} (g : Y → Option Z) (o : Option Y) (l : List Y) (m : List Z) → filter_map g l ≡ m → filter_map g (cons_option o l) ≡ cons_option (option_and_then g o) m
one-then g None l m e = e
one-then g (Some y) l m e = ap (cons_option (g y)) e

pub present-then : {X Y Z : Type 0} (k : ℕ) (g : Y → Option Z) (f : ℕ → X → Option Y) (xs : List X)
    → filter_map g (present (map_from k f xs)) ≡ present (map_from k (λ i x. option_and_then g (f i x)) xs)
present-then k g f [] = refl
present-then k g f (x ∷ xs) = one-then g (f k x) _ _ (present-then (k + 1) g f xs)

pub present-of : {X Y Z : Type 0} (k : ℕ) (g : Y → Option Z) (f : ℕ → X → Y) (xs : List X) → filter_map g (map_from k f xs) ≡ present (map_from k (λ i x. g (f i x)) xs)
present-of k g f [] = refl
present-of k g f (x ∷ xs) = ap (cons_option (g (f k x))) (present-of (k + 1) g f xs)

-- Who is good.

pub good-is : (sc : Scenario) (kind : Side) (frame slot i : ℕ) → count_of kind sc.sizes ≤ 16 → has (good_at sc kind frame slot) i ≡ is_good sc kind i frame slot
good-is sc kind frame slot i most = by (nat_lt i 16) refl
  where
    p : ℕ → Bool
    p i = is_good sc kind i frame slot

    by : (b : Bool) → nat_lt i 16 ≡ b → has (set_of p) i ≡ p i
    by true e = has-set_of i p (grind (arith, nat_tests))
    by false e =
        has_above (set_of p) i (set_of-lt p) (grind (arith, nat_tests))
        ∙ sym (ap (λ b. b && is_before (get_or (onsets_of kind sc) i None) frame slot) (le-ltb i (count_of kind sc.sizes) (let h : 16 ≤ i = grind (arith, nat_tests) in omega arith)))

-- Rows and begins.

told_kind : {X : Type 0} (sc : Scenario) (kind : Side) (frame slot : ℕ) (tells : Site → Option X) (sites : Each Site)
    → of_kind kind (told_by_good sc frame slot tells sites) ≡ map_from 0 (λ i s. elim (is_good sc kind i frame slot) [ true ↦ tells s | false ↦ None ]) (of_kind kind sites)
told_kind sc Biu frame slot tells sites = refl
told_kind sc Rmu frame slot tells sites = refl

pub rows-kept : {K : Type 0} (sc : Scenario) (kind : Side) (m : Milestone) (place : Place) (g : Group K) (sites : Each Site) → count_of kind sc.sizes ≤ 16
    → (holds : HoldsKind sc kind m g sites) → g.good ≡ good_at sc kind place.frame place.slot
    → of_kind kind (told_by_good sc place.frame place.slot (λ s. row_for place s.row) sites) ≡ map_from 0 (row_saw holds.saw g.good place) (take (count_of kind sc.sizes) g.told)
rows-kept sc kind m place g sites most holds good =
    let f : ℕ → Option Row → Option Row = λ i r. elim (is_good sc kind i place.frame place.slot) [ true ↦ row_for place r | false ↦ None ] in
    told_kind sc kind place.frame place.slot (λ s. row_for place s.row) sites
    ∙ sym (from-map 0 f (λ s. s.row) (of_kind kind sites)) ∙ ap (map_from 0 f) holds.rows ∙ from-from 0 f (λ i t. row_seeing (holds.saw i) t) (take (count_of kind sc.sizes) g.told)
    ∙ from-same 0 _ _ (take (count_of kind sc.sizes) g.told)
    (λ i t. ap (λ b. let o : Option Row = elim b [ true ↦ row_for place (row_seeing (holds.saw i) t) | false ↦ None ] in o) (sym (ap (λ s. has s i) good ∙ good-is sc kind place.frame place.slot i most)))

pub begins-kept : {K : Type 0} (sc : Scenario) (kind : Side) (m : Milestone) (frame : ℕ) (g : Group K) (sites : Each Site) → count_of kind sc.sizes ≤ 16
    → HoldsKind sc kind m g sites → g.good ≡ good_at sc kind frame 0
    → of_kind kind (told_by_good sc frame 0 (λ s. begun_for frame s.begun) sites) ≡ map_from 0 (begun_at kind g.good frame) (take (count_of kind sc.sizes) g.told)
begins-kept sc kind m frame g sites most holds good =
    let f : ℕ → Option Begun → Option Begun = λ i b. elim (is_good sc kind i frame 0) [ true ↦ begun_for frame b | false ↦ None ] in
    let at : Bool → Told → Option Begun = λ b t. elim b [ true ↦ begun_for frame (begun_told kind t) | false ↦ None ] in
    told_kind sc kind frame 0 (λ s. begun_for frame s.begun) sites
    ∙ sym (from-map 0 f (λ s. s.begun) (of_kind kind sites)) ∙ ap (map_from 0 f) holds.begins ∙ from-map 0 f (begun_told kind) (take (count_of kind sc.sizes) g.told)
    ∙ from-same 0 _ _ (take (count_of kind sc.sizes) g.told)
    (λ i t. ap (λ b. at b t) (sym (ap (λ s. has s i) good ∙ good-is sc kind frame 0 i most)))

-- Lines.

one_line : (kind : Side) (frame : ℕ) (b : Bool) (o : Option LatestBegin)
    → option_map (λ x. x.line) (elim b as (λ _. Option Begun) [ true ↦ begun_for frame (option_map (begun_in kind) o) | false ↦ None ])
    ≡ elim b as (λ _. Option NodeLine) [ true ↦ option_map (λ x. x.line) (begun_for frame (option_map (begun_in Biu) o)) | false ↦ None ]
one_line kind frame false o = refl
one_line kind frame true None = refl
one_line kind frame true (Some b) = by (b.frame == frame)
  where
    by : (same : Bool) → option_map (λ x. x.line) (elim same as (λ _. Option Begun) [ true ↦ Some (begun_in kind b) | false ↦ None ])
        ≡ option_map (λ x. x.line) (elim same as (λ _. Option Begun) [ true ↦ Some (begun_in Biu b) | false ↦ None ])
    by true = refl
    by false = refl

pub node-lines : {K : Type 0} (kind : Side) (frame n : ℕ) (g : Group K)
    → map (λ x. x.line) (present (map_from 0 (begun_at kind g.good frame) (take n g.told))) ≡ found_of (λ i t. node_line_of frame (has g.good i) t) n g.told
unfolding found_of
node-lines kind frame n g =
    present-map 0 (λ x. x.line) (begun_at kind g.good frame) (take n g.told)
    ∙ ap present (from-same 0 _ _ (take n g.told) (λ i t. one_line kind frame (has g.good i) t.begun))

one_port : (frame : ℕ) (b : Bool) (o : Option LatestBegin)
    → option_and_then (λ x. x.port) (elim b as (λ _. Option Begun) [ true ↦ begun_for frame (option_map (begun_in Biu) o) | false ↦ None ])
    ≡ elim b as (λ _. Option PortLine) [ true ↦ option_and_then (λ x. x.port) (begun_for frame (option_map (begun_in Biu) o)) | false ↦ None ]
one_port frame false o = refl
one_port frame true o = refl

pub port-lines : {K : Type 0} (frame n : ℕ) (g : Group K)
    → filter_map (λ x. x.port) (present (map_from 0 (begun_at Biu g.good frame) (take n g.told))) ≡ found_of (λ i t. port_line_of frame (has g.good i) t) n g.told
unfolding found_of
port-lines frame n g =
    present-then 0 (λ x. x.port) (begun_at Biu g.good frame) (take n g.told)
    ∙ ap present (from-same 0 _ _ (take n g.told) (λ i t. one_port frame (has g.good i) t.begun))

-- RMUs have no ports
no_port : (frame : ℕ) (b : Bool) (o : Option LatestBegin)
    → option_and_then (λ x. x.port) (elim b as (λ _. Option Begun) [ true ↦ begun_for frame (option_map (begun_in Rmu) o) | false ↦ None ]) ≡ None
no_port frame false o = refl
no_port frame true None = refl
no_port frame true (Some b) = by (b.frame == frame)
  where
    by : (same : Bool) → option_and_then (λ x. x.port) (elim same as (λ _. Option Begun) [ true ↦ Some (begun_in Rmu b) | false ↦ None ]) ≡ None
    by true = refl
    by false = refl

present-none : {X Y : Type 0} (k : ℕ) (xs : List X) → present (map_from k (λ i x. let o : Option Y = None in o) xs) ≡ []
present-none k [] = refl
present-none k (x ∷ xs) = present-none (k + 1) xs

pub no-ports : {K : Type 0} (frame n : ℕ) (g : Group K) → filter_map (λ x. x.port) (present (map_from 0 (begun_at Rmu g.good frame) (take n g.told))) ≡ []
no-ports frame n g =
    present-then 0 (λ x. x.port) (begun_at Rmu g.good frame) (take n g.told)
    ∙ ap present (from-same 0 _ _ (take n g.told) (λ i t. no_port frame (has g.good i) t.begun)) ∙ present-none 0 (take n g.told)

-- what a row has besides sights does not depend on what was seen
pub seeing-same : {Y : Type 0} (h : Row → Y) (place : Place) (s u : ℕ → See) (t : Told) → h (latest_seeing s t) ≡ h (latest_seeing u t)
    → option_map h (row_for place (row_seeing s t)) ≡ option_map h (row_for place (row_seeing u t))
seeing-same {Y = Y} h place s u t same = by t.has_closed
  where
    there : (b : Bool) → option_map h (elim b as (λ _. Option Row) [ true ↦ Some (latest_seeing s t) | false ↦ None ])
        ≡ option_map h (elim b as (λ _. Option Row) [ true ↦ Some (latest_seeing u t) | false ↦ None ])
    there true = ap Some same
    there false = refl

    by : (c : Bool) → option_map h (row_for place (if c then Some (latest_seeing s t) else None)) ≡ option_map h (row_for place (if c then Some (latest_seeing u t) else None))
    by true = there (same_place t.place place)
    by false = refl

join : {X Y : Type 0} (g : X → Option Y) (o : Option X) → option_and_then g o ≡ option_and_then (λ v. v) (option_map g o)
join g None = refl
join g (Some x) = refl

one_delivery : (place : Place) (b : Bool) (saw : ℕ → See) (t : Told)
    → line_in (elim b as (λ _. Option Row) [ true ↦ row_for place (row_seeing saw t) | false ↦ None ]) ≡ line_of place b t
one_delivery place true saw t =
    join (λ (r : Row). r.line) (row_for place (row_seeing saw t))
    ∙ ap (option_and_then (λ v. v)) (seeing-same (λ (r : Row). r.line) place saw (see_of t) t refl)
    ∙ sym (join (λ (r : Row). r.line) (row_for place (row_told t)))
one_delivery place false saw t = refl

pub slot-lines : {K : Type 0} (saw : ℕ → ℕ → See) (place : Place) (n : ℕ) (g : Group K)
    → filter_map line_in (map_from 0 (row_saw saw g.good place) (take n g.told)) ≡ found_of (λ i t. line_of place (has g.good i) t) n g.told
unfolding found_of
slot-lines saw place n g =
    present-of 0 line_in (row_saw saw g.good place) (take n g.told)
    ∙ ap present (from-same 0 _ _ (take n g.told) (λ i t. one_delivery place (has g.good i) (saw i) t))
