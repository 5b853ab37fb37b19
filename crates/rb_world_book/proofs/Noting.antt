-- A node tells something more: its site in the world, and what is kept.
use Rattle.std.proofs.{Common.{◌≡◌, ◌≢◌, ℕ, zero, suc, ◌+◌, ◌<◌, ◌≤◌, ◌==◌, ◌&&◌, not, nat_lt, Bool, true, false, List, [], ◌∷◌, length, map, take, get_or, set, Some, refl, sym, ◌∙◌, ap, subst, arith, if◌then◌else◌, get_or-set_same, get_or-set_other}, lemmas.Bool.lt-ltb, lemmas.Bool.Decides.nat_tests, lemmas.List.{get_or_past, get_or-take, length-set, length-take, map-set}, Math.Seq.{map-set_same, take-set-lt}}
use Rattle.std.specs.Prelude.{Option, option_map, slice_index}
use Rattle.rb_base.specs.{Nodes.{Side, has, other, set_of}, Nodes.Side.{Biu, Rmu}, declared.values.See.TheVariants.Nothing, declared.kind.Biu.Biu as BiuKind, declared.kind.Rmu.Rmu as RmuKind, Sizes.sync_slot_of, declared.values.Place.Place, declared.values.See.See}
use Rattle.rb_base.proofs.{Sets.{eq_other, has-is, same_set_of}, Plain.eq_self}
use Rattle.rb_judge.specs.Stages.{Knows}
use Rattle.rb_world_book.specs.{declared.book.Book.Book as KeptBook, Holding.{Holds, without_lasting}, declared.group.Group.Group, declared.milestone.Milestone.Milestone, declared.told.Told.Told, Grouping.IsNoted, Holding.{OthersLast, HoldsKind}, Telling.{begun_in, begun_told, has_told, kept_of, no_told, row_seeing, see_of, timed_in, told_at, told_closed}, Waiting.{all_but, waiting_for}}
use Rattle.rb_rules.specs.{Book.{Begun, Book, Each, Row, map_from, of_kind}, Goodness.{Scenario, is_good}, Slots.{count_of, same_side}, WorldStep.{Site, World, at_node}, declared.closing.Closed.Closed, declared.record.SlotLine.SlotLine, Hearing.judged_see}
use Rattle.rb_world_book.proofs.{Kept.{kept-at, length-kept}, Rows.good-is}
use Rattle.rb_rules.proofs.Slots.{same_side_self}

-- Lists of sites.

never : {X : Type 0} (k i : ℕ) (change : X → X) (xs : List X) → i < k → map_from k (λ n s. elim (n == i) [ true ↦ change s | false ↦ s ]) xs ≡ xs
never k i change [] h = refl
never {X = X} k i change (x ∷ xs) h =
    ap (λ b. let y : X = elim b [ true ↦ change x | false ↦ x ] in y ∷ map_from (k + 1) (λ n s. elim (n == i) as (λ _. X) [ true ↦ change s | false ↦ s ]) xs) (eq_other k i (omega arith))
    ∙ ap (λ l. x ∷ l) (never (k + 1) i change xs (omega arith))

-- if one site changes, so does what it shows
pub one-changes : {X Y : Type 0} (h : X → Y) (k i j : ℕ) (change : X → X) (v : Y) (xs : List X) → i ≡ k + j → ((s : X) → h (change s) ≡ v)
    → map h (map_from k (λ n s. elim (n == i) [ true ↦ change s | false ↦ s ]) xs) ≡ set (map h xs) j v
one-changes h k i zero change v [] same shows = refl
one-changes h k i (suc j) change v [] same shows = refl
one-changes {X = X} {Y = Y} h k i zero change v (x ∷ xs) same shows =
    let here : (k == i) ≡ true = let e : k ≡ i = omega arith in ap (λ n. n == i) e ∙ eq_self i in
    ap (λ b. let y : X = elim b [ true ↦ change x | false ↦ x ] in h y ∷ map h (map_from (k + 1) (λ n s. elim (n == i) as (λ _. X) [ true ↦ change s | false ↦ s ]) xs)) here
    ∙ ap (λ l. h (change x) ∷ map h l) (never (k + 1) i change xs (omega arith)) ∙ ap (λ y. y ∷ map h xs) (shows x)
one-changes {X = X} {Y = Y} h k i (suc j) change v (x ∷ xs) same shows =
    ap (λ b. let y : X = elim b [ true ↦ change x | false ↦ x ] in h y ∷ map h (map_from (k + 1) (λ n s. elim (n == i) as (λ _. X) [ true ↦ change s | false ↦ s ]) xs)) (eq_other k i (omega arith))
    ∙ ap (λ l. h x ∷ l) (one-changes h (k + 1) i j change v xs (omega arith) shows)

-- a change that leaves what a site shows leaves what all sites show
pub none-changes : {X Y : Type 0} (h : X → Y) (k : ℕ) (b : ℕ → Bool) (change : X → X) (xs : List X) → ((s : X) → h (change s) ≡ h s)
    → map h (map_from k (λ n s. elim (b n) [ true ↦ change s | false ↦ s ]) xs) ≡ map h xs
none-changes h k b change [] same = refl
none-changes {X = X} {Y = Y} h k b change (x ∷ xs) same = ap (λ y. y ∷ map h (map_from (k + 1) (λ n s. elim (b n) as (λ _. X) [ true ↦ change s | false ↦ s ]) xs)) (by (b k)) ∙ ap (λ l. h x ∷ l) (none-changes h (k + 1) b change xs same)
  where
    by : (c : Bool) → h (elim c as (λ _. X) [ true ↦ change x | false ↦ x ]) ≡ h x
    by true = same x
    by false = refl

pub at-kind : (kind me : Side) (i : ℕ) (change : Site → Site) (sites : Each Site)
    → of_kind kind (at_node me i change sites) ≡ map_from 0 (λ n s. elim (same_side kind me && (n == i)) [ true ↦ change s | false ↦ s ]) (of_kind kind sites)
at-kind Biu me i change sites = refl
at-kind Rmu me i change sites = refl

-- a change that leaves what a site shows leaves what the nodes of a kind show
pub shows-same : {Y : Type 0} (h : Site → Y) (kind me : Side) (i : ℕ) (change : Site → Site) (sites : Each Site) → ((s : Site) → h (change s) ≡ h s)
    → map h (of_kind kind (at_node me i change sites)) ≡ map h (of_kind kind sites)
shows-same h kind me i change sites same = ap (map h) (at-kind kind me i change sites) ∙ none-changes h 0 (λ n. same_side kind me && (n == i)) change (of_kind kind sites) same

pub shows-changed : {Y : Type 0} (h : Site → Y) (kind : Side) (i : ℕ) (change : Site → Site) (v : Y) (sites : Each Site) → ((s : Site) → h (change s) ≡ v)
    → map h (of_kind kind (at_node kind i change sites)) ≡ set (map h (of_kind kind sites)) i v
shows-changed h kind i change v sites shows =
    ap (map h) (at-kind kind kind i change sites ∙ ap (λ b. map_from 0 (λ n s. elim (b && (n == i)) as (λ _. Site) [ true ↦ change s | false ↦ s ]) (of_kind kind sites)) (same_side_self kind))
    ∙ one-changes h 0 i i change v (of_kind kind sites) (let e : i ≡ 0 + i = omega arith in e) shows

-- a change at a node leaves the nodes of the other kind as they are
apart : (kind me : Side) (i : ℕ) (change : Site → Site) (sites : Each Site) → same_side kind me ≡ false → of_kind kind (at_node me i change sites) ≡ of_kind kind sites
apart Biu Biu i change sites e = absurd (cc)
apart Biu Rmu i change sites e = all-same 0 (of_kind Biu sites)
  where
    all-same : (k : ℕ) (xs : List Site) → map_from k (λ n s. s) xs ≡ xs
    all-same k [] = refl
    all-same k (x ∷ xs) = ap (λ l. x ∷ l) (all-same (k + 1) xs)
apart Rmu Rmu i change sites e = absurd (cc)
apart Rmu Biu i change sites e = all-same 0 (of_kind Rmu sites)
  where
    all-same : (k : ℕ) (xs : List Site) → map_from k (λ n s. s) xs ≡ xs
    all-same k [] = refl
    all-same k (x ∷ xs) = ap (λ l. x ∷ l) (all-same (k + 1) xs)

pub other-kind : {K : Type 0} (sc : Scenario) (kind me : Side) (m : Milestone) (g : Group K) (i : ℕ) (change : Site → Site) (sites : Each Site) → same_side kind me ≡ false
    → HoldsKind sc kind m g sites → HoldsKind sc kind m g (at_node me i change sites)
other-kind sc kind me m g i change sites e holds = record {
  all = holds.all;
  saw = holds.saw;
  rows = ap (map (λ s. s.row)) (apart kind me i change sites e) ∙ holds.rows;
  sights = holds.sights;
  begins = ap (map (λ s. s.begun)) (apart kind me i change sites e) ∙ holds.begins;
  within = holds.within;
  good = holds.good;
  waiting = holds.waiting;
  lasting = holds.lasting;
  counted = holds.counted;
}

-- What is kept.

told-then : (told : List Told) (node i : ℕ) (t : Told) → node < length told → told_at (set told node t) i ≡ (if i == node then t else told_at told i)
told-then told node i t h = by (i == node) refl
  where
    by : (b : Bool) → (i == node) ≡ b → told_at (set told node t) i ≡ (if b then t else told_at told i)
    by true e = let same : i ≡ node = grind (arith, nat_tests) in ap (told_at (set told node t)) same ∙ get_or-set_same told node t no_told h
    by false e = let differs : i ≢ node = grind (arith, nat_tests) in get_or-set_other told node i t no_told differs

told-list : {Y : Type 0} (f : Told → Y) (n i : ℕ) (told : List Told) (t : Told) → i < n → map f (take n (set told i t)) ≡ set (map f (take n told)) i (f t)
told-list f n i told t h = ap (map f) (take-set-lt n told i t h) ∙ map-set f (take n told) i t

-- to set an item sets what is made of it
from-set : {Y : Type 0} (f : ℕ → Told → Y) (k i j : ℕ) (told : List Told) (t : Told) → i ≡ k + j → map_from k f (set told j t) ≡ set (map_from k f told) j (f i t)
from-set f k i zero [] t same = refl
from-set f k i (suc j) [] t same = refl
from-set f k i zero (x ∷ xs) t same = let e : k ≡ i = omega arith in ap (λ n. f n t ∷ map_from (k + 1) f xs) e
from-set f k i (suc j) (x ∷ xs) t same = ap (λ l. f k x ∷ l) (from-set f (k + 1) i j xs t (omega arith))

-- two ways that differ at one number alone give the same list once that item is set
from-other : {Y : Type 0} (f g : ℕ → Told → Y) (k i j : ℕ) (v : Y) (told : List Told) → i ≡ k + j → ((n : ℕ) (x : Told) → (n == i) ≡ false → f n x ≡ g n x)
    → set (map_from k f told) j v ≡ set (map_from k g told) j v
from-other f g k i j v [] same alike = refl
from-other f g k i zero v (x ∷ xs) same alike = ap (λ l. v ∷ l) (past (k + 1) xs (omega arith))
  where
    past : (m : ℕ) (xs : List Told) → i < m → map_from m f xs ≡ map_from m g xs
    past m [] h = refl
    past m (x ∷ xs) h = ap (λ y. y ∷ map_from (m + 1) f xs) (alike m x (eq_other m i (omega arith))) ∙ ap (λ l. g m x ∷ l) (past (m + 1) xs (omega arith))
from-other f g k i (suc j) v (x ∷ xs) same alike =
    ap (λ y. y ∷ set (map_from (k + 1) f xs) j v) (alike k x (eq_other k i (omega arith))) ∙ ap (λ l. g k x ∷ l) (from-other f g (k + 1) i j v xs (omega arith) alike)

-- a node that shows the same as before changes nothing in the list
from-same_set : {Y : Type 0} (f : ℕ → Told → Y) (k i j : ℕ) (told : List Told) (t : Told) → i ≡ k + j → j < length told → f i t ≡ f i (told_at told j)
    → set (map_from k f told) j (f i t) ≡ map_from k f told
from-same_set f k i j [] t same h e = absurd (omega arith)
from-same_set f k i zero (x ∷ xs) t same h e = let n : i ≡ k = omega arith in ap (λ y. y ∷ map_from (k + 1) f xs) (e ∙ ap (λ n. f n x) n)
from-same_set f k i (suc j) (x ∷ xs) t same h e = ap (λ l. f k x ∷ l) (from-same_set f (k + 1) i j xs t (omega arith) (omega arith) e)

told-same : {Y : Type 0} (f : Told → Y) (n i : ℕ) (told : List Told) (t : Told) → i < n → f t ≡ f (told_at told i) → map f (take n (set told i t)) ≡ map f (take n told)
told-same f n i told t h same =
    ap (map f) (take-set-lt n told i t h) ∙ map-set_same f (take n told) i t no_told (same ∙ ap f (sym (get_or-take n told i no_told h)))

still-waits : (count good waiting node : ℕ) (m : Milestone) (told : List Told) (t : Told) → node < count → node < length told → waiting ≡ waiting_for count good m told
    → set_of (λ i. if i == node then has good node && not (has_told m t) else has waiting i) ≡ waiting_for count good m (set told node t)
unfolding waiting_for
still-waits count good waiting node m told t within there is = same_set_of _ _ (λ i h. by i h (i == node) refl)
  where
    waits : List Told → ℕ → Bool
    waits l i = nat_lt i count && (has good i && not (has_told m (told_at l i)))

    by : (i : ℕ) → i < 16 → (b : Bool) → (i == node) ≡ b → (if b then has good node && not (has_told m t) else has waiting i) ≡ waits (set told node t) i
    by i h true e =
        let same : i ≡ node = grind (arith, nat_tests) in
        let now : told_at (set told node t) i ≡ t = told-then told node i t there ∙ ap (λ b. if b then t else told_at told i) e in
        sym (ap (λ x. nat_lt i count && (has good i && not (has_told m x))) now ∙ ap (λ b. b && (has good i && not (has_told m t))) (lt-ltb i count (omega arith))
        ∙ ap (λ k. has good k && not (has_told m t)) same)
    by i h false e =
        let now : told_at (set told node t) i ≡ told_at told i = told-then told node i t there ∙ ap (λ b. if b then t else told_at told i) e in
        has-is waiting i (waits told) is h ∙ sym (ap (λ x. nat_lt i count && (has good i && not (has_told m x))) now)

noted : {K : Type 0} (sc : Scenario) (kind : Side) (m : Milestone) (g h : Group K) (node : ℕ) (t : Told) (sites after : Each Site) (saw : ℕ → ℕ → See) → IsNoted g h node m t
    → node < count_of kind sc.sizes → count_of kind sc.sizes ≤ 16 → HoldsKind sc kind m g sites
    → map (λ s. s.row) (of_kind kind after) ≡ map_from 0 (λ i t. row_seeing (saw i) t) (take (count_of kind sc.sizes) (set g.told node t))
    → ((i j : ℕ) → is_good sc (other kind) j (if i == node then t else told_at g.told i).place.frame (sync_slot_of sc.sizes) ≡ false
    → saw i j ≡ see_of (if i == node then t else told_at g.told i) j)
    → map (λ s. s.begun) (of_kind kind after) ≡ map (begun_told kind) (take (count_of kind sc.sizes) (set g.told node t))
    → ((j : ℕ) → count_of (other kind) sc.sizes ≤ j → get_or t.sees j Nothing ≡ Nothing) → HoldsKind sc kind m h after
noted sc kind m g h node t sites after saw is inside most holds rows sights begins nobody =
    let all = holds.all in
    let there : node < length g.told = omega arith in
    record {
      all = ap length is.told ∙ length-set g.told node t ∙ all;
      saw = saw;
      rows = rows ∙ ap (λ l. map_from 0 (λ i t. row_seeing (saw i) t) (take (count_of kind sc.sizes) l)) (sym is.told);
      sights = λ i j. subst (λ (x : Told). is_good sc (other kind) j x.place.frame (sync_slot_of sc.sizes) ≡ false → saw i j ≡ see_of x j)
          (sym (ap (λ l. told_at l i) is.told ∙ told-then g.told node i t there)) (sights i j);
      begins = begins ∙ ap (λ l. map (begun_told kind) (take (count_of kind sc.sizes) l)) (sym is.told);
      within = λ i j past. ap (λ l. get_or (told_at l i).sees j Nothing) is.told ∙ ap (λ (x : Told). get_or x.sees j Nothing) (told-then g.told node i t there) ∙ unseen i j past (i == node);
      good = is.good ∙ holds.good;
      waiting = is.waiting ∙ still-waits (count_of kind sc.sizes) g.good g.waiting node m g.told t inside there holds.waiting
          ∙ ap (λ s. waiting_for (count_of kind sc.sizes) s m (set g.told node t)) (sym is.good) ∙ ap (waiting_for (count_of kind sc.sizes) h.good m) (sym is.told);
      lasting = λ place e. is.lasting ∙ holds.lasting place e;
      counted = λ place e. is.counted ∙ holds.counted place e ∙ ap (all_but (count_of kind sc.sizes)) (sym is.lasting);
    }
  where
    unseen : (i j : ℕ) → count_of (other kind) sc.sizes ≤ j → (b : Bool) → get_or (if b then t else told_at g.told i).sees j Nothing ≡ Nothing
    unseen i j past true = nobody j past
    unseen i j past false = holds.within i j past

-- a group notes what a node has told, and whether the node is still awaited
pub told-noted : {K : Type 0} (before told after : Group K) (node : ℕ) (m : Milestone) (t : Told) → node < length before.told → told ≡ record before { told = set before.told node t }
    → after ≡ record told { waiting = set_of (λ i. if i == node then has told.good node && not (has_told m (told_at told.told node)) else has told.waiting i) }
    → IsNoted before after node m t
told-noted before told after node m t there told_is after_is =
    subst (λ g. IsNoted before g node m t) (sym after_is)
    (subst (λ g. IsNoted before (record g { waiting = set_of (λ i. if i == node then has g.good node && not (has_told m (told_at g.told node)) else has g.waiting i) }) node m t) (sym told_is)
    (record {
      told = refl;
      good = refl;
      lasting = refl;
      counted = refl;
      waiting = ap (λ x. set_of (λ i. if i == node then has before.good node && not (has_told m x) else has before.waiting i)) (get_or-set_same before.told node t no_told there);
    }))

-- a node closes a stage
pub row-noted : {K : Type 0} (sc : Scenario) (kind : Side) (m : Milestone) (g h : Group K) (node : ℕ) (t : Told) (row : Row) (saw : ℕ → See) (change : Site → Site) (sites : Each Site)
    → IsNoted g h node m t → node < count_of kind sc.sizes → count_of kind sc.sizes ≤ 16 → HoldsKind sc kind m g sites
    → ((s : Site) → (change s).row ≡ Some row) → ((s : Site) → (change s).begun ≡ s.begun) → row_seeing saw t ≡ Some row
    → ((j : ℕ) → is_good sc (other kind) j t.place.frame (sync_slot_of sc.sizes) ≡ false → saw j ≡ see_of t j) → t.begun ≡ (told_at g.told node).begun
    → ((j : ℕ) → count_of (other kind) sc.sizes ≤ j → get_or t.sees j Nothing ≡ Nothing) → HoldsKind sc kind m h (at_node kind node change sites)
row-noted sc kind m g h node t row saw change sites is inside most holds rows begins told sights begun nobody =
    let n : ℕ = count_of kind sc.sizes in
    let now : ℕ → Told → Option Row = λ i t. row_seeing (if i == node then saw else holds.saw i) t in
    let start : node ≡ 0 + node = omega arith in
    noted sc kind m g h node t sites (at_node kind node change sites) (λ i. if i == node then saw else holds.saw i) is inside most holds
    (shows-changed (λ s. s.row) kind node change (Some row) sites rows ∙ ap (λ l. set l node (Some row)) holds.rows
    ∙ sym (from-other now (λ i t. row_seeing (holds.saw i) t) 0 node node (Some row) (take n g.told) start (λ i x e. ap (λ b. row_seeing (if b then saw else holds.saw i) x) e))
    ∙ ap (set (map_from 0 now (take n g.told)) node) (sym (ap (λ b. row_seeing (if b then saw else holds.saw node) t) (eq_self node) ∙ told))
    ∙ sym (ap (map_from 0 now) (take-set-lt n g.told node t inside) ∙ from-set now 0 node node (take n g.told) t start))
    (λ i j. one i j (i == node))
    (shows-same (λ s. s.begun) kind kind node change sites begins ∙ holds.begins
    ∙ sym (told-same (begun_told kind) (count_of kind sc.sizes) node g.told t inside (ap (option_map (begun_in kind)) begun))) nobody
  where
    one : (i j : ℕ) (b : Bool) → is_good sc (other kind) j (if b then t else told_at g.told i).place.frame (sync_slot_of sc.sizes) ≡ false
        → (if b then saw else holds.saw i) j ≡ see_of (if b then t else told_at g.told i) j
    one i j true = sights j
    one i j false = holds.sights i j

-- a node begins a frame
pub begun-noted : {K : Type 0} (sc : Scenario) (kind : Side) (m : Milestone) (g h : Group K) (node : ℕ) (t : Told) (b : Begun) (change : Site → Site) (sites : Each Site)
    → IsNoted g h node m t → node < count_of kind sc.sizes → count_of kind sc.sizes ≤ 16 → HoldsKind sc kind m g sites
    → ((s : Site) → (change s).row ≡ s.row) → ((s : Site) → (change s).begun ≡ Some b)
    → ((saw : ℕ → See) → row_seeing saw t ≡ row_seeing saw (told_at g.told node)) → t.place ≡ (told_at g.told node).place
    → ((j : ℕ) → see_of t j ≡ see_of (told_at g.told node) j) → begun_told kind t ≡ Some b
    → ((j : ℕ) → get_or t.sees j Nothing ≡ get_or (told_at g.told node).sees j Nothing) → HoldsKind sc kind m h (at_node kind node change sites)
begun-noted sc kind m g h node t b change sites is inside most holds rows begins row place see told sees =
    let n : ℕ = count_of kind sc.sizes in
    let now : ℕ → Told → Option Row = λ i t. row_seeing (holds.saw i) t in
    let start : node ≡ 0 + node = omega arith in
    let all = holds.all in
    let long : node < length (take n g.told) = omega (arith, length-take n g.told) in
    noted sc kind m g h node t sites (at_node kind node change sites) holds.saw is inside most holds
    (shows-same (λ s. s.row) kind kind node change sites rows ∙ holds.rows
    ∙ sym (ap (map_from 0 now) (take-set-lt n g.told node t inside) ∙ from-set now 0 node node (take n g.told) t start
    ∙ from-same_set now 0 node node (take n g.told) t start long
    (row (holds.saw node) ∙ ap (row_seeing (holds.saw node)) (sym (get_or-take n g.told node no_told inside)))))
    (λ i j. one i j (i == node) refl)
    (shows-changed (λ s. s.begun) kind node change (Some b) sites begins ∙ ap (λ l. set l node (Some b)) holds.begins
    ∙ ap (set (map (begun_told kind) (take (count_of kind sc.sizes) g.told)) node) (sym told) ∙ sym (told-list (begun_told kind) (count_of kind sc.sizes) node g.told t inside))
    (λ j past. sees j ∙ holds.within node j past)
  where
    one : (i j : ℕ) (b : Bool) → (i == node) ≡ b → is_good sc (other kind) j (if b then t else told_at g.told i).place.frame (sync_slot_of sc.sizes) ≡ false
        → holds.saw i j ≡ see_of (if b then t else told_at g.told i) j
    one i j true e bad =
        let same : i ≡ node = grind (arith, nat_tests) in
        ap (λ n. holds.saw n j) same ∙ holds.sights node j (ap (λ (p : Place). is_good sc (other kind) j p.frame (sync_slot_of sc.sizes)) (sym place) ∙ bad) ∙ sym (see j)
    one i j false e bad = holds.sights i j bad

-- what a node has told of sources that are not there, after a close
pub none-seen : (counted : ℕ) (c : Closed) (times : List ℕ) (biu rmu : ℕ) (line : Option SlotLine) (t : Told) (n : ℕ)
    → ((j : ℕ) → n ≤ j → get_or c.sees j Nothing ≡ Nothing) → ((j : ℕ) → n ≤ j → get_or t.sees j Nothing ≡ Nothing)
    → (j : ℕ) → n ≤ j → get_or (told_closed counted c times biu rmu line t).sees j Nothing ≡ Nothing
none-seen counted c times biu rmu line t n nobody none j past = by (nat_lt j 16) refl
  where
    either : (b : Bool) → (if b then timed_in c.sees times j else get_or t.sees j Nothing) ≡ Nothing
    either true = ap (judged_see (slice_index times j)) (nobody j past)
    either false = none j past

    by : (b : Bool) → nat_lt j 16 ≡ b → get_or (kept_of counted Nothing (timed_in c.sees times) t.sees) j Nothing ≡ Nothing
    by true e = kept-at counted Nothing (timed_in c.sees times) t.sees j (grind (arith, nat_tests)) ∙ either (has counted j)
    by false e =
        let long : length (kept_of counted Nothing (timed_in c.sees times) t.sees) ≡ 16 = length-kept counted Nothing (timed_in c.sees times) t.sees in
        let most : length (kept_of counted Nothing (timed_in c.sees times) t.sees) ≤ j = grind (arith, nat_tests) in
        get_or_past (kept_of counted Nothing (timed_in c.sees times) t.sees) j Nothing most

-- a close keeps what was seen of sources that are not good to the end of its frame
pub sees-kept : {K : Type 0} (counted : ℕ) (sc : Scenario) (source : Side) (m : Milestone) (o : Group K) (sites : Each Site) (c : Closed) (times : List ℕ) (biu rmu : ℕ) (line : Option SlotLine) (t : Told)
    → count_of source sc.sizes ≤ 16 → HoldsKind sc source m o sites → OthersLast m c.place.frame (count_of source sc.sizes) o.lasting counted
    → ((j : ℕ) → count_of source sc.sizes ≤ j → get_or c.sees j Nothing ≡ Nothing) → ((j : ℕ) → count_of source sc.sizes ≤ j → get_or t.sees j Nothing ≡ Nothing)
    → (j : ℕ) → is_good sc source j c.place.frame (sync_slot_of sc.sizes) ≡ false
    → judged_see (slice_index times j) (get_or c.sees j Nothing) ≡ see_of (told_closed counted c times biu rmu line t) j
sees-kept counted sc source m o sites c times biu rmu line t most holds last nobody none j bad = by (nat_lt j (count_of source sc.sizes)) refl (has counted j) refl
  where
    by : (b : Bool) → nat_lt j (count_of source sc.sizes) ≡ b → (k : Bool) → has counted j ≡ k
        → judged_see (slice_index times j) (get_or c.sees j Nothing) ≡ see_of (told_closed counted c times biu rmu line t) j
    by true e true there =
        let small : j < 16 = grind (arith, nat_tests) in
        sym (kept-at counted Nothing (timed_in c.sees times) t.sees j small ∙ ap (λ b. if b then timed_in c.sees times j else get_or t.sees j Nothing) there)
    by true e false out =
        let lasts = last j e out in
        let good : is_good sc source j c.place.frame (sync_slot_of sc.sizes) ≡ true =
        ap (λ f. is_good sc source j f (sync_slot_of sc.sizes)) (sym lasts.of_frame)
        ∙ sym (ap (λ s. has s j) (holds.lasting lasts.place lasts.upcoming) ∙ good-is sc source lasts.place.frame (sync_slot_of sc.sizes) j most) ∙ lasts.member in
        absurd (cc)
    by false e k is =
        let past : count_of source sc.sizes ≤ j = grind (arith, nat_tests) in
        ap (judged_see (slice_index times j)) (nobody j past)
        ∙ sym (none-seen counted c times biu rmu line t (count_of source sc.sizes) nobody none j past)

-- The world.

pub with-bius : (sc : Scenario) (l : KeptBook) (w : World) (h : Group BiuKind) (sites : Each Site) → Holds sc l w → HoldsKind sc Biu l.upcoming h sites → HoldsKind sc Rmu l.upcoming l.rmus sites
    → Holds sc (record l { bius = h }) (record w { sites = sites })
with-bius sc l w h sites is bius rmus = record {
  fits = record { sizes = is.fits.sizes; is_shape = is.fits.is_shape; frames = is.fits.frames; few_frames = is.fits.few_frames; eps = is.fits.eps; onsets = is.fits.onsets };
  upcoming = is.upcoming;
  coming = is.coming;
  lines = is.lines;
  ended = is.ended;
  judged = is.judged;
  bius = bius;
  rmus = rmus;
}

pub with-rmus : (sc : Scenario) (l : KeptBook) (w : World) (h : Group RmuKind) (sites : Each Site) → Holds sc l w → HoldsKind sc Biu l.upcoming l.bius sites → HoldsKind sc Rmu l.upcoming h sites
    → Holds sc (record l { rmus = h }) (record w { sites = sites })
with-rmus sc l w h sites is bius rmus = record {
  fits = record { sizes = is.fits.sizes; is_shape = is.fits.is_shape; frames = is.fits.frames; few_frames = is.fits.few_frames; eps = is.fits.eps; onsets = is.fits.onsets };
  upcoming = is.upcoming;
  coming = is.coming;
  lines = is.lines;
  ended = is.ended;
  judged = is.judged;
  bius = bius;
  rmus = rmus;
}

-- A node tells nothing of the tail: its site shows the same. That holds of all else that changes
-- neither rows nor starts.
pub same-shown : (sc : Scenario) (l : KeptBook) (w : World) (v : World) → Holds sc l w → v.book ≡ w.book
    → ((kind : Side) → map (λ s. s.row) (of_kind kind v.sites) ≡ map (λ s. s.row) (of_kind kind w.sites))
    → ((kind : Side) → map (λ s. s.begun) (of_kind kind v.sites) ≡ map (λ s. s.begun) (of_kind kind w.sites)) → Holds sc l v
same-shown sc l w v is book rows begins = record {
  fits = is.fits;
  upcoming = ap (λ (b : Book). b.upcoming) book ∙ is.upcoming;
  coming = is.coming;
  lines = ap (λ (b : Book). b.lines) book ∙ is.lines;
  ended = ap (λ (b : Book). b.ended) book ∙ is.ended;
  judged = λ e place next. subst (λ (b : Book). Knows l.judge (map (without_lasting sc place.frame) b.stages)) (sym book) (is.judged (sym (ap (λ (b : Book). b.ended) book) ∙ e) place next);
  bius = record {
    all = is.bius.all;
    saw = is.bius.saw;
    rows = rows Biu ∙ is.bius.rows;
    sights = is.bius.sights;
    begins = begins Biu ∙ is.bius.begins;
    within = is.bius.within;
    good = is.bius.good;
    waiting = is.bius.waiting;
    lasting = is.bius.lasting;
    counted = is.bius.counted;
  };
  rmus = record {
    all = is.rmus.all;
    saw = is.rmus.saw;
    rows = rows Rmu ∙ is.rmus.rows;
    sights = is.rmus.sights;
    begins = begins Rmu ∙ is.rmus.begins;
    within = is.rmus.within;
    good = is.rmus.good;
    waiting = is.rmus.waiting;
    lasting = is.rmus.lasting;
    counted = is.rmus.counted;
  };
}
