-- What is settled depends on nothing but what the nodes have told. So a change of nodes that leaves
-- this may come before or after it.
use Rattle.std.proofs.Common.{◌≡◌, ℕ, zero, suc, ◌+◌, ◌&&◌, ◌||◌, not, Bool, true, false, List, [], ◌∷◌, refl, ap, ◌∙◌, Option, Some, None, is_some}
use Rattle.std.specs.List.{list_all}
use Rattle.rb_base.specs.{Nodes.Side, Nodes.Side.{Biu, Rmu}}
use Rattle.rb_rules.specs.{Book.{Begun, Book, Each, Milestone, Record, Row, in_order, map_each, map_from, with_frame, with_stage}, Book.Milestone.{Begin, End, Stage}, ExactStage.present, Goodness.{Scenario, is_good}, WorldStep.{Site, Way, World, all_have_told, begun_for, book_with, comes_so, is_complete, record_since, row_for, settle, settle_next, told_by_good}}
use Rattle.rb_laws_events.proofs.{EachAlike.each-is, WorldBooks.settle_rest}

-- Each node.

from-fuse : {X Y Z : Type 0} (f : ℕ → Y → Z) (g : ℕ → X → Y) (h : ℕ → X → Z) (i : ℕ) (xs : List X) → ((n : ℕ) (x : X) → f n (g n x) ≡ h n x)
    → map_from i f (map_from i g xs) ≡ map_from i h xs
from-fuse f g h i [] same = refl
from-fuse f g h i (x ∷ xs) same = ap (λ y. y ∷ map_from (i + 1) f (map_from (i + 1) g xs)) (same i x) ∙ ap (λ l. h i x ∷ l) (from-fuse f g h (i + 1) xs same)

-- two things made of each node one after the other are one
pub each-fuse : {X Y Z : Type 0} (f : Side → ℕ → Y → Z) (g : Side → ℕ → X → Y) (h : Side → ℕ → X → Z) (xs : Each X)
    → ((side : Side) (n : ℕ) (x : X) → f side n (g side n x) ≡ h side n x) → map_each f (map_each g xs) ≡ map_each h xs
each-fuse f g h xs same =
    each-is (map_each f (map_each g xs)) (map_each h xs) (from-fuse (f Biu) (g Biu) (h Biu) 0 xs.bius (same Biu)) (from-fuse (f Rmu) (g Rmu) (h Rmu) 0 xs.rmus (same Rmu))

-- What is told.

-- the change leaves what the nodes have told
pub record KeepsTold (g : Side → ℕ → Site → Site) : Type 0 where
  pub row : (side : Side) (j : ℕ) (s : Site) → (g side j s).row ≡ s.row
  pub begun : (side : Side) (j : ℕ) (s : Site) → (g side j s).begun ≡ s.begun

all-told : {X : Type 0} (sc : Scenario) (frame slot : ℕ) (tells : Site → Option X) (g : Side → ℕ → Site → Site) (sites : Each Site)
    → ((side : Side) (j : ℕ) (s : Site) → tells (g side j s) ≡ tells s) → all_have_told sc frame slot tells (map_each g sites) ≡ all_have_told sc frame slot tells sites
all-told sc frame slot tells g sites same =
    let has : Side → ℕ → Site → Bool = λ me i s. not (is_good sc me i frame slot) || is_some (tells s) in
    ap (λ told. list_all (λ b. b) (in_order told))
    (each-fuse has g has sites (λ side j s. ap (λ o. not (is_good sc side j frame slot) || is_some o) (same side j s)))

told-good : (X : Type 0) (sc : Scenario) (frame slot : ℕ) (tells : Site → Option X) (g : Side → ℕ → Site → Site) (sites : Each Site)
    → ((side : Side) (j : ℕ) (s : Site) → tells (g side j s) ≡ tells s) → told_by_good sc frame slot tells (map_each g sites) ≡ told_by_good sc frame slot tells sites
told-good X sc frame slot tells g sites same =
    let told : Side → ℕ → Site → Option X = λ me i s. elim (is_good sc me i frame slot) as (λ _. Option X) [ true ↦ tells s | false ↦ None ] in
    each-fuse told g told sites (λ side j s. ap (λ o. elim (is_good sc side j frame slot) as (λ _. Option X) [ true ↦ o | false ↦ None ]) (same side j s))

pub complete-same : (sc : Scenario) {g : _} (sites : Each Site) (m : Milestone) → KeepsTold g → is_complete sc (map_each g sites) m ≡ is_complete sc sites m
complete-same sc {g} sites (Begin frame) keeps = all-told sc frame 0 (λ s. begun_for frame s.begun) g sites (λ side j s. ap (begun_for frame) (keeps.begun side j s))
complete-same sc {g} sites (Stage place) keeps = all-told sc place.frame place.slot (λ s. row_for place s.row) g sites (λ side j s. ap (row_for place) (keeps.row side j s))
complete-same sc sites End keeps = refl

book-same : (sc : Scenario) {g : _} (sites : Each Site) (b : Book) (m : Milestone) → KeepsTold g → book_with sc (map_each g sites) b m ≡ book_with sc sites b m
book-same sc {g} sites b (Begin frame) keeps =
    ap (λ told. with_frame sc frame (present (in_order told)) b)
    (told-good Begun sc frame 0 (λ s. begun_for frame s.begun) g sites (λ side j s. ap (begun_for frame) (keeps.begun side j s)))
book-same sc {g} sites b (Stage place) keeps =
    ap (λ rows. with_stage sc place rows b) (told-good Row sc place.frame place.slot (λ s. row_for place s.row) g sites (λ side j s. ap (row_for place) (keeps.row side j s)))
book-same sc sites b End keeps = refl

-- Worlds.

-- the world after a change of each node
abbrev pub changed : (Side → ℕ → Site → Site) → World → World
changed g w = record w { sites = map_each g w.sites }

next-changed : (sc : Scenario) (way : Way) {g : _} (w : World) → KeepsTold g → settle_next sc way (changed g w) ≡ changed g (settle_next sc way w)
next-changed sc way {g} w keeps =
    ap (λ c. elim (comes_so sc way w.book.upcoming && c) as (λ _. World) [
      | true ↦ record (changed g w) { book = book_with sc (map_each g w.sites) w.book w.book.upcoming }
      | false ↦ changed g w
    ]) (complete-same sc w.sites w.book.upcoming keeps)
    ∙ by (comes_so sc way w.book.upcoming && is_complete sc w.sites w.book.upcoming)
  where
    by : (b : Bool) → (elim b as (λ _. World) [ true ↦ record (changed g w) { book = book_with sc (map_each g w.sites) w.book w.book.upcoming } | false ↦ changed g w ])
        ≡ changed g (elim b as (λ _. World) [ true ↦ record w { book = book_with sc w.sites w.book w.book.upcoming } | false ↦ w ])
    by true = ap (λ b. record (changed g w) { book = b }) (book-same sc w.sites w.book w.book.upcoming keeps)
    by false = refl

pub settle-changed : (sc : Scenario) (way : Way) (n : ℕ) {g : _} (w : World) → KeepsTold g → settle sc way n (changed g w) ≡ changed g (settle sc way n w)
settle-changed sc way zero w keeps = refl
settle-changed sc way (suc n) {g} w keeps =
    ap (λ next. settle_rest sc way n next (record_since (changed g w) next)) (next-changed sc way w keeps)
    ∙ by (record_since w (settle_next sc way w)) (settle-changed sc way n (settle_next sc way w) keeps)
  where
    by : (o : Option Record) → settle sc way n (changed g (settle_next sc way w)) ≡ changed g (settle sc way n (settle_next sc way w))
        → settle_rest sc way n (changed g (settle_next sc way w)) o ≡ changed g (settle_rest sc way n (settle_next sc way w) o)
    by None rest = rest
    by (Some r) rest = refl

-- What is settled does not depend on the turn, either.

next-turn : (sc : Scenario) (way : Way) (w : World) (t : Option Record) → settle_next sc way (record w { turn = t }) ≡ record (settle_next sc way w) { turn = t }
next-turn sc way w t = by (comes_so sc way w.book.upcoming && is_complete sc w.sites w.book.upcoming)
  where
    by : (b : Bool) → (elim b as (λ _. World) [ true ↦ record w { book = book_with sc w.sites w.book w.book.upcoming; turn = t } | false ↦ record w { turn = t } ])
        ≡ record (elim b as (λ _. World) [ true ↦ record w { book = book_with sc w.sites w.book w.book.upcoming } | false ↦ w ]) { turn = t }
    by true = refl
    by false = refl

pub settle-turn : (sc : Scenario) (way : Way) (n : ℕ) (w : World) (t : Option Record) → settle sc way n (record w { turn = t }) ≡ settle sc way n w
settle-turn sc way zero w t = refl
settle-turn sc way (suc n) w t =
    ap (λ next. settle_rest sc way n next (record_since (record w { turn = t }) next)) (next-turn sc way w t)
    ∙ by (record_since w (settle_next sc way w)) (settle-turn sc way n (settle_next sc way w) t)
  where
    by : (o : Option Record) → settle sc way n (record (settle_next sc way w) { turn = t }) ≡ settle sc way n (settle_next sc way w)
        → settle_rest sc way n (record (settle_next sc way w) { turn = t }) o ≡ settle_rest sc way n (settle_next sc way w) o
    by None rest = rest
    by (Some r) rest = refl
