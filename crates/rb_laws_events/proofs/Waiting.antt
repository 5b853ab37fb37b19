-- For the law that events are rounds: after each event what comes by an event next still waits for
-- a node. So the node of the event that completes a milestone stands at that milestone, and no
-- other is far ahead.
use Rattle.std.proofs.{Common.{◌≡◌, ℕ, suc, ◌+◌, ◌*◌, ◌<◌, ◌≤◌, ◌==◌, ◌&&◌, ◌||◌, not, Bool, true, false, List, [], ◌∷◌, ◌++◌, length, refl, ap, sym, ◌∙◌, arith, Option, Some, None, is_some, slice_get, option_map, if◌then◌else◌, lit≤}, lemmas.Bool.and_parts, lemmas.Bool.Decides.nat_tests, lemmas.Option.same_Some}
use Rattle.std.specs.List.{list_all}
use Rattle.rb_base.specs.{Nodes.Side, Nodes.Side.{Biu, Rmu}, declared.values.Place.Place}
use Rattle.rb_base.proofs.{Plain.option_map-back, Sets.{has_none, is_set_of, same_set_of}}
use Rattle.rb_rules.specs.{declared.message.Message.Message, Book.{Begun, Each, Milestone, Row, map_each, of_kind}, Book.Milestone.{Stage, End}, Goodness.{Scenario, good_at, is_good}, Ports.HandIn, Rounds.windows_in, Slots.count_of, WorldStep.{Site, World, all_have_told, at_node, begun_for, comes_so, is_complete, nobody_good, row_for, same_place, with_message}, WorldStep.Way.ByAnEvent}
use Rattle.rb_rules.proofs.WindowNumbers.{get-each}
use Rattle.rb_laws_agreement.proofs.Goodnesses.{good_counts}
use Rattle.rb_laws_events.proofs.{RoundNodes.item-at, Settling.each-at, ToldInOrder.{AllTold, number_at}, WorldStands.{is_node, node-is, node-itself}, WorldTicks.{after_tick, get-after, reached}}

-- What waits.

-- a milestone that comes by an event is complete
abbrev pub is_due : Scenario → Each Site → Milestone → Bool
is_due sc sites m = comes_so sc ByAnEvent m && is_complete sc sites m

-- what is settled next comes without an event, or is not complete
abbrev pub Waits : Scenario → World → Type 0
Waits sc w = w.book.ended ≡ false → is_due sc w.sites w.book.upcoming ≡ false

-- all nodes that are good at the start of the frame have begun it
abbrev pub HasBegun : Scenario → Each Site → ℕ → Type 0
HasBegun sc sites frame =
    (me : Side) (i : ℕ) (s : Site) → slice_get (of_kind me sites) i ≡ Some s → is_good sc me i frame 0 ≡ true → (b : Begun) × ((s.begun ≡ Some b) × (frame ≤ b.frame))

-- what is known while a frame's record is the turn
pub record AfterRecord (sc : Scenario) (at : Side → ℕ → ℕ) (w : World) (frame : ℕ) : Type 0 where
  pub begun : HasBegun sc w.sites frame
  pub near : (me : Side) (i : ℕ) (s : Site) → slice_get (of_kind me w.sites) i ≡ Some s → at me i ≤ frame * (windows_in sc.sizes + 1) + 1
  pub going : w.book.ended ≡ false
  pub next : w.book.upcoming ≡ (if frame == sc.frames then End else Stage (record { frame = frame; slot = 0; stage = 1 }))

-- Who has told.

list-all : (xs : List Bool) → ((i : ℕ) (b : Bool) → slice_get xs i ≡ Some b → b ≡ true) → list_all (λ b. b) xs ≡ true
list-all [] all = refl
list-all (x ∷ xs) all = ap (λ b. b && list_all (λ b. b) xs) (all 0 x refl) ∙ list-all xs (λ i b e. all (suc i) b e)

list-both : (xs ys : List Bool) → list_all (λ b. b) xs ≡ true → list_all (λ b. b) ys ≡ true → list_all (λ b. b) (xs ++ ys) ≡ true
list-both [] ys a b = b
list-both (x ∷ xs) ys a b =
    let parts = and_parts x (list_all (λ b. b) xs) a in
    ap (λ b. b && list_all (λ b. b) (xs ++ ys)) parts.0 ∙ list-both xs ys parts.1 b

-- whether a node has told, or need not
abbrev has_told : {X : Type 0} → Scenario → ℕ → ℕ → (Site → Option X) → Side → ℕ → Site → Bool
has_told sc frame slot tells me i s = not (is_good sc me i frame slot) || is_some (tells s)

pub told-all : {X : Type 0} (sc : Scenario) (frame slot : ℕ) (tells : Site → Option X) (sites : Each Site)
    → ((me : Side) (i : ℕ) (s : Site) → slice_get (of_kind me sites) i ≡ Some s → has_told sc frame slot tells me i s ≡ true) → all_have_told sc frame slot tells sites ≡ true
told-all sc frame slot tells sites all =
    let has : Side → ℕ → Site → Bool = has_told sc frame slot tells in
    let each : Each Bool = map_each has sites in
    let one : (me : Side) (i : ℕ) (b : Bool) → slice_get (of_kind me each) i ≡ Some b → b ≡ true = λ me i b e.
    let was = option_map-back (has me i) (slice_get (of_kind me sites) i) b (sym (get-each has sites me i) ∙ e) in
    sym was.1.1 ∙ all me i was.0 was.1.0 in
    list-both each.bius each.rmus (list-all each.bius (one Biu)) (list-all each.rmus (one Rmu))

told-each : {X : Type 0} (sc : Scenario) (frame slot : ℕ) (tells : Site → Option X) (sites : Each Site) → all_have_told sc frame slot tells sites ≡ true
    → (me : Side) (i : ℕ) {s : _} → slice_get (of_kind me sites) i ≡ Some s → has_told sc frame slot tells me i s ≡ true
told-each sc frame slot tells sites complete me i there =
    let has : Side → ℕ → Site → Bool = has_told sc frame slot tells in
    each-at (map_each has sites) me i complete (get-each has sites me i ∙ ap (option_map (has me i)) there)

pub good-told : {X : Type 0} (sc : Scenario) (frame slot : ℕ) (tells : Site → Option X) (sites : Each Site) → all_have_told sc frame slot tells sites ≡ true
    → (me : Side) (i : ℕ) {s : _} → slice_get (of_kind me sites) i ≡ Some s → is_good sc me i frame slot ≡ true → is_some (tells s) ≡ true
good-told sc frame slot tells sites complete me i {s} there good =
    or-told (is_good sc me i frame slot) (is_some (tells s)) good (told-each sc frame slot tells sites complete me i there)
  where
    or-told : (good told : Bool) → good ≡ true → (not good || told) ≡ true → told ≡ true
    or-told true told g h = h
    or-told false told g h = cc

-- if a good node has not told, what is asked for is not complete
pub untold : {X : Type 0} (sc : Scenario) (frame slot : ℕ) (tells : Site → Option X) (sites : Each Site) (me : Side) (i : ℕ) {s : _} → slice_get (of_kind me sites) i ≡ Some s
    → is_good sc me i frame slot ≡ true → is_some (tells s) ≡ false → all_have_told sc frame slot tells sites ≡ false
untold sc frame slot tells sites me i {s} there good none = by (all_have_told sc frame slot tells sites) refl
  where
    by : (b : Bool) → all_have_told sc frame slot tells sites ≡ b → all_have_told sc frame slot tells sites ≡ false
    by true e = let some : is_some (tells s) ≡ true = good-told sc frame slot tells sites e me i there good in absurd (true-false (sym some ∙ none))
      where
        true-false : true ≡ false → ⊥
        true-false e = cc
    by false e = e

pub no-good : (sc : Scenario) (side : Side) (frame slot : ℕ) → ((i : ℕ) → is_good sc side i frame slot ≡ false) → good_at sc side frame slot ≡ 0
no-good sc side frame slot none =
    same_set_of (λ i. is_good sc side i frame slot) (λ i. false) (λ i h. none i) ∙ sym (is_set_of 0 (λ i. false) (lit≤ tt) (λ i h. has_none i))

-- if no good node has told, what is asked for is not complete, or no node is good
pub none-told : {X : Type 0} (sc : Scenario) (frame slot : ℕ) (tells : Site → Option X) (sites : Each Site) → ((me : Side) → length (of_kind me sites) ≡ count_of me sc.sizes)
    → ((me : Side) (i : ℕ) (s : Site) → slice_get (of_kind me sites) i ≡ Some s → is_good sc me i frame slot ≡ true → is_some (tells s) ≡ false)
    → (not (nobody_good sc frame slot) && all_have_told sc frame slot tells sites) ≡ false
none-told sc frame slot tells sites counts none = by (all_have_told sc frame slot tells sites) refl
  where
    true-false : {P : Type 0} → true ≡ false → P
    true-false e = absurd (cc)

    and-false : (b : Bool) → (b && false) ≡ false
    and-false true = refl
    and-false false = refl

    by : (b : Bool) → all_have_told sc frame slot tells sites ≡ b → (not (nobody_good sc frame slot) && b) ≡ false
    by false e = and-false (not (nobody_good sc frame slot))
    by true e =
        let not_good : (me : Side) (i : ℕ) → is_good sc me i frame slot ≡ false = λ me i.
        let go : (b : Bool) → is_good sc me i frame slot ≡ b → is_good sc me i frame slot ≡ false =
        λ b. elim b as (λ b. is_good sc me i frame slot ≡ b → is_good sc me i frame slot ≡ false) [
          | false ↦ λ f. f
          | true ↦ λ f.
              let counted : i < count_of me sc.sizes = good_counts sc me i frame slot f in
              let long : length (of_kind me sites) ≡ count_of me sc.sizes = counts me in
              let site = item-at (of_kind me sites) i (omega arith) in
              true-false (sym (good-told sc frame slot tells sites e me i site.1 f) ∙ none me i site.0 site.1 f)
        ] in
        go (is_good sc me i frame slot) refl in
        ap (λ n. not ((n == 0) && (good_at sc Rmu frame slot == 0)) && true) (no-good sc Biu frame slot (not_good Biu))
        ∙ ap (λ n. not (n == 0) && true) (no-good sc Rmu frame slot (not_good Rmu))

-- The node of an event.

-- a milestone that the change of one node completes was not told by that node before, and is now
pub record Completes {X : Type 0} (sc : Scenario) (frame slot : ℕ) (tells : Site → Option X) (me : Side) (i : ℕ) (s z : Site) : Type 0 where
  pub good : is_good sc me i frame slot ≡ true
  pub before : is_some (tells s) ≡ false
  pub after : is_some (tells z) ≡ true

pub completes : {X : Type 0} (sc : Scenario) (frame slot : ℕ) (tells : Site → Option X) (sites : Each Site) (me : Side) (i frame_sent k : ℕ) (m : Option Message) (change : Site → Site) {s : _}
    → ((side : Side) (j : ℕ) (z : Site) → tells (reached sc me i frame_sent k m side j z) ≡ tells z)
    → slice_get (of_kind me sites) i ≡ Some s
    → all_have_told sc frame slot tells sites ≡ false → all_have_told sc frame slot tells (with_message sc me i frame_sent k m (at_node me i change sites)) ≡ true
    → Completes sc frame slot tells me i s (change s)
completes {X = X} sc frame slot tells sites me i frame_sent k m change {s} same there old new = by (has_told sc frame slot tells me i s) refl
  where
    sites2 : Each Site
    sites2 = with_message sc me i frame_sent k m (at_node me i change sites)

    get2 : (side : Side) (j : ℕ) (z : Site) → slice_get (of_kind side sites) j ≡ Some z → slice_get (of_kind side sites2) j ≡ Some (after_tick sc me i frame_sent k m change side j z)
    get2 side j z e = get-after sc me i frame_sent k m change sites side j ∙ ap (option_map (after_tick sc me i frame_sent k m change side j)) e

    told2 : (side : Side) (j : ℕ) (z : Site) → slice_get (of_kind side sites) j ≡ Some z
        → (not (is_good sc side j frame slot) || is_some (tells (elim (is_node me i side j) as (λ _. Site) [ true ↦ change z | false ↦ z ]))) ≡ true
    told2 side j z e =
        ap (λ o. not (is_good sc side j frame slot) || is_some o) (sym (same side j (elim (is_node me i side j) as (λ _. Site) [ true ↦ change z | false ↦ z ])))
        ∙ told-each sc frame slot tells sites2 new side j (get2 side j z e)

    parts : (good told told_now : Bool) → (not good || told) ≡ false → (not good || told_now) ≡ true → (good ≡ true) × ((told ≡ false) × (told_now ≡ true))
    parts true told told_now a b = (refl, (a, b))
    parts false told told_now a b = cc

    by : (b : Bool) → has_told sc frame slot tells me i s ≡ b → Completes sc frame slot tells me i s (change s)
    by true e =
        let all : (side : Side) (j : ℕ) (z : Site) → slice_get (of_kind side sites) j ≡ Some z → has_told sc frame slot tells side j z ≡ true = λ side j z at.
        let go : (d : Bool) → is_node me i side j ≡ d
        → (not (is_good sc side j frame slot) || is_some (tells (elim d as (λ _. Site) [ true ↦ change z | false ↦ z ]))) ≡ true → has_told sc frame slot tells side j z ≡ true =
        λ d. elim d as (λ d. is_node me i side j ≡ d
        → (not (is_good sc side j frame slot) || is_some (tells (elim d as (λ _. Site) [ true ↦ change z | false ↦ z ]))) ≡ true → has_told sc frame slot tells side j z ≡ true) [
          | false ↦ λ f h. h
          | true ↦ λ f h.
              let is = node-is me side i j f in
              let here : slice_get (of_kind me sites) i ≡ Some z = sym (ap (λ y. slice_get (of_kind y sites) j) is.0 ∙ ap (slice_get (of_kind me sites)) is.1) ∙ at in
              let s_is : s ≡ z = same_Some s z (sym there ∙ here) in
              ap (λ y. has_told sc frame slot tells y j z) is.0 ∙ ap (λ n. has_told sc frame slot tells me n z) is.1 ∙ sym (ap (has_told sc frame slot tells me i) s_is) ∙ e
        ] in
        go (is_node me i side j) refl (told2 side j z at) in
        absurd (true-false (sym (told-all sc frame slot tells sites all) ∙ old))
      where
        true-false : true ≡ false → ⊥
        true-false e = cc
    by false e =
        let now : (not (is_good sc me i frame slot) || is_some (tells (change s))) ≡ true =
        sym (ap (λ d. not (is_good sc me i frame slot) || is_some (tells (elim d as (λ _. Site) [ true ↦ change s | false ↦ s ]))) (node-itself me i)) ∙ told2 me i s there in
        let p = parts (is_good sc me i frame slot) (is_some (tells s)) (is_some (tells (change s))) e now in
        record { good = p.0; before = p.1.0; after = p.1.1 }

-- Places.

pub place-same : (a b : Place) → same_place a b ≡ true → a ≡ b
place-same a b e =
    let p = and_parts ((a.frame == b.frame) && (a.slot == b.slot)) (a.stage == b.stage) e in
    let q = and_parts (a.frame == b.frame) (a.slot == b.slot) p.0 in
    ap (λ f. let x : Place = record { frame = f; slot = a.slot; stage = a.stage } in x) (same-number a.frame b.frame q.0)
    ∙ ap (λ s. let x : Place = record { frame = b.frame; slot = s; stage = a.stage } in x) (same-number a.slot b.slot q.1)
    ∙ ap (λ s. let x : Place = record { frame = b.frame; slot = b.slot; stage = s } in x) (same-number a.stage b.stage p.1)
  where
    same-number : (a b : ℕ) → (a == b) ≡ true → a ≡ b
    same-number a b h = grind (arith, nat_tests)

pub row-there : (place : Place) (o : Option Row) → is_some (row_for place o) ≡ true → (row : Row) × ((o ≡ Some row) × (row.place ≡ place))
row-there place None h = cc
row-there place (Some row) h = by (same_place row.place place) refl h
  where
    by : (b : Bool) → same_place row.place place ≡ b → is_some (elim b as (λ _. Option Row) [ true ↦ Some row | false ↦ None ]) ≡ true
        → (r : Row) × ((Some row ≡ Some r) × (r.place ≡ place))
    by true e h = (row, (refl, place-same row.place place e))
    by false e h = cc

pub begun-there : (frame : ℕ) (o : Option Begun) → is_some (begun_for frame o) ≡ true → (b : Begun) × ((o ≡ Some b) × (b.frame ≡ frame))
begun-there frame None h = cc
begun-there frame (Some b) h = by (b.frame == frame) refl h
  where
    same-number : (a b : ℕ) → (a == b) ≡ true → a ≡ b
    same-number a b h = grind (arith, nat_tests)

    by : (t : Bool) → (b.frame == frame) ≡ t → is_some (elim t as (λ _. Option Begun) [ true ↦ Some b | false ↦ None ]) ≡ true
        → (r : Begun) × ((Some b ≡ Some r) × (r.frame ≡ frame))
    by true e h = (b, (refl, same-number b.frame frame e))
    by false e h = cc

-- if all nodes are at a stage or before it, the stage is not complete
pub stage-waits : {sc : Scenario} {hands : List HandIn} {at : Side → ℕ → ℕ} {sites : Each Site} (place : Place) → ((me : Side) → length (of_kind me sites) ≡ count_of me sc.sizes)
    → AllTold sc hands at sites → ((me : Side) (i : ℕ) (s : Site) → slice_get (of_kind me sites) i ≡ Some s → at me i ≤ number_at sc.sizes place)
    → is_due sc sites (Stage place) ≡ false
stage-waits {sc} {at} {sites} place counts told bound =
    none-told sc place.frame place.slot (λ s. row_for place s.row) sites counts (λ me i s there good. by me i s there (is_some (row_for place s.row)) refl)
  where
    by : (me : Side) (i : ℕ) (s : Site) → slice_get (of_kind me sites) i ≡ Some s → (b : Bool) → is_some (row_for place s.row) ≡ b → is_some (row_for place s.row) ≡ false
    by me i s there false e = e
    by me i s there true e =
        let row = row-there place s.row e in
        let lt : number_at sc.sizes row.0.place < at me i = (told me i s there).row row.0 row.1.0 in
        let le : at me i ≤ number_at sc.sizes place = bound me i s there in
        let same : number_at sc.sizes row.0.place ≡ number_at sc.sizes place = ap (number_at sc.sizes) row.1.1 in
        absurd (omega (arith, lt, le, same))
