-- At first no node has told anything.
use Rattle.std.proofs.{Common.{◌≡◌, ℕ, zero, suc, ◌+◌, ◌≤◌, Bool, true, false, ◌∷◌, length, map, take, get_or, replicate, Option, Some, None, refl, sym, ◌∙◌, ap, arith}, lemmas.List.length-replicate}
use Rattle.std.specs.List.{range_with_len}
use Rattle.rb_base.specs.{Counting.numbers, Nodes.Side, Nodes.Side.{Biu, Rmu}, Sizes.Sizes, declared.values.See.TheVariants.Nothing}
use Rattle.rb_rules.specs.{Book.{Begun, Row, map_from, of_kind}, Goodness.{Scenario, is_good}, Hearing.Span, Slots.count_of, WorldStep.{Site, await, enter, first_world, fresh_site, proceed, says_in, span_from, stop}}
use Rattle.rb_world_book.specs.{declared.group.Group.Group, declared.milestone.Milestone.TheVariants.Begin, declared.told.Told.Told, Holding.{HoldsKind, TurnsKind, good_for}, Telling.{begun_told, fresh_told, row_seeing, see_of, told_at}, Waiting.waiting_for}

-- what a site shows that stays while the node waits for its next tick
abbrev Shown : Type 0
Shown = Option Row × Option Begun

abbrev shown : Site → Shown
shown s = (s.row, s.begun)

enters-same : (sc : Scenario) (me : Side) (i : ℕ) (o : Option Span) (s : Site) → shown (enter sc me i o s) ≡ shown s
enters-same sc me i None s = refl
enters-same sc me i (Some span) s = by (is_good sc me i span.place.frame span.place.slot)
  where
    by : (b : Bool) → shown (elim b as (λ _. Site) [ true ↦ await sc me i (says_in sc me i span) s | false ↦ stop s ]) ≡ shown s
    by true = refl
    by false = refl

fresh-shown : (sc : Scenario) (me : Side) (i : ℕ) → shown (proceed sc me i (fresh_site sc.sizes me)) ≡ (None, None)
unfolding proceed
fresh-shown sc me i = enters-same sc me i (span_from sc.sizes sc.plan me (fresh_site sc.sizes me).core.state (fresh_site sc.sizes me).core.had) (fresh_site sc.sizes me)

all-alike : {X Y : Type 0} (h : X → Y) (make : ℕ → X) (v : Y) (a n : ℕ) → ((i : ℕ) → h (make i) ≡ v) → map h (map make (range_with_len a n)) ≡ replicate n v
all-alike h make v a zero same = refl
all-alike h make v a (suc n) same = ap (λ y. y ∷ map h (map make (range_with_len (a + 1) n))) (same a) ∙ ap (λ l. v ∷ l) (all-alike h make v (a + 1) n same)

from-alike : {Y : Type 0} (f : ℕ → Told → Y) (v : Y) (k n m : ℕ) (t : Told) → n ≤ m → ((i : ℕ) → f i t ≡ v) → map_from k f (take n (replicate m t)) ≡ replicate n v
from-alike f v k zero m t h same = refl
from-alike f v k (suc n) zero t h same = absurd (omega arith)
from-alike f v k (suc n) (suc m) t h same = ap (λ y. y ∷ map_from (k + 1) f (take n (replicate m t))) (same k) ∙ ap (λ l. v ∷ l) (from-alike f v (k + 1) n m t (omega arith) same)

told-alike : {Y : Type 0} (f : Told → Y) (n m : ℕ) (t : Told) → n ≤ m → map f (take n (replicate m t)) ≡ replicate n (f t)
told-alike f zero m t h = refl
told-alike f (suc n) zero t h = absurd (omega arith)
told-alike f (suc n) (suc m) t h = ap (λ l. f t ∷ l) (told-alike f n m t (omega arith))

nothing-at : (n j : ℕ) → get_or (replicate n Nothing) j Nothing ≡ Nothing
nothing-at zero j = refl
nothing-at (suc n) zero = refl
nothing-at (suc n) (suc j) = nothing-at n j

fresh-sees : (n i j : ℕ) → get_or (told_at (replicate n fresh_told) i).sees j Nothing ≡ Nothing
fresh-sees zero i j = refl
fresh-sees (suc n) zero j = nothing-at 16 j
fresh-sees (suc n) (suc i) j = fresh-sees n i j

first-kind-list : (sc : Scenario) (kind : Side) → of_kind kind (first_world sc).sites ≡ map (λ i. proceed sc kind i (fresh_site sc.sizes kind)) (numbers (count_of kind sc.sizes))
unfolding first_world
first-kind-list sc Biu = refl
first-kind-list sc Rmu = refl

pub first-kind : {K : Type 0} (sc : Scenario) (kind : Side) (g h : Group K) (sizes : Sizes) → sizes ≡ sc.sizes → count_of kind sc.sizes ≤ 16 → g.told ≡ replicate 16 fresh_told
    → TurnsKind kind sizes g h (Begin 0) → h.good ≡ good_for sc kind (Begin 0) → HoldsKind sc kind (Begin 0) h (first_world sc).sites
first-kind sc kind g h sizes same most told turns good =
    let now : h.told ≡ replicate 16 fresh_told = turns.told ∙ told in
    let n : ℕ = count_of kind sc.sizes in
    record {
      all = ap length now ∙ length-replicate 16 fresh_told;
      saw = λ i j. see_of (told_at h.told i) j;
      rows = ap (map (λ s. s.row)) (first-kind-list sc kind)
          ∙ all-alike (λ s. s.row) (λ i. proceed sc kind i (fresh_site sc.sizes kind)) None 0 n (λ i. ap (λ (x : Shown). x.0) (fresh-shown sc kind i))
          ∙ sym (ap (λ l. map_from 0 (λ i t. row_seeing (see_of (told_at h.told i)) t) (take n l)) now
          ∙ from-alike (λ i t. row_seeing (see_of (told_at h.told i)) t) None 0 n 16 fresh_told most (λ i. refl));
      sights = λ i j e. refl;
      begins = ap (map (λ s. s.begun)) (first-kind-list sc kind)
          ∙ all-alike (λ s. s.begun) (λ i. proceed sc kind i (fresh_site sc.sizes kind)) None 0 n (λ i. ap (λ (x : Shown). x.1) (fresh-shown sc kind i))
          ∙ sym (ap (λ l. map (begun_told kind) (take n l)) now ∙ told-alike (begun_told kind) n 16 fresh_told most);
      within = λ i j past. ap (λ l. get_or (told_at l i).sees j Nothing) now ∙ fresh-sees 16 i j;
      good = good;
      waiting = turns.waiting ∙ ap (λ (s : Sizes). waiting_for (count_of kind s) h.good (Begin 0) g.told) same ∙ ap (waiting_for n h.good (Begin 0)) (sym turns.told);
      lasting = λ place e. absurd (cc);
      counted = λ place e. absurd (cc);
    }
