-- A node closes a stage: what is kept of it stands for the world in which it has told of it.
use Rattle.std.proofs.{Common.{◌≡◌, ℕ, ◌<◌, ◌≤◌, ◌==◌, ◌&&◌, not, nat_lt, Bool, true, false, List, get_or, refl, sym, ◌∙◌, ap, subst, arith}, lemmas.Bool.ltb-true, lemmas.Bool.Decides.nat_tests}
use Rattle.std.specs.Prelude.{Some, slice_index}
use Rattle.rb_base.specs.{Nodes.{Side, has, set_of}, Nodes.Side.{Biu, Rmu}, Sizes.Sizes, declared.kind.Biu.Biu as BiuKind, declared.kind.Rmu.Rmu as RmuKind, declared.values.Place.Place, declared.values.See.See, declared.values.See.TheVariants.Nothing}
use Rattle.rb_base.proofs.Sets.{has-is}
use Rattle.rb_rules.specs.{declared.closing.Closed.Closed, Book.{Each, Row}, Goodness.Scenario, Hearing.judged_see, Slots.count_of, WorldStep.{Site, World}}
use Rattle.rb_world_book.specs.{declared.group.Group.Group, declared.book.Book.Book as KeptBook, declared.milestone.Milestone.Milestone, declared.milestone.Milestone.TheVariants.{Begin, Stage, End}, Changing.{changed_at, line_from, row_shown, with_row}, Grouping.IsNoted, Holding.{Holds, HoldsKind, Lasts, OthersLast}, Telling.{is_at, told_at, told_closed}}
use Rattle.rb_world_book.proofs.{Counted.first_counted, Noting.{none-seen, other-kind, row-noted, sees-kept, with-bius, with-rmus}}
use Rattle.rb_base.specs.declared.node.NodeName.TheVariants as node

-- The sources of which a node counts what was seen.

-- a node that lasts does so in the frame of the upcoming stage
last-there : (m : Milestone) (place : Place) (lasting j : ℕ) → is_at m place ≡ true → has lasting j ≡ true → Lasts m place.frame lasting j
last-there (Begin f) place lasting j here member = absurd (cc)
last-there End place lasting j here member = absurd (cc)
last-there (Stage stage) place lasting j here member = record {
  place = stage;
  upcoming = refl;
  of_frame = same-frame place.frame stage.frame (place.slot == stage.slot) (place.stage == stage.stage) here;
  member = member;
}
  where
    same-frame : (a b : ℕ) (q r : Bool) → ((a == b) && q && r) ≡ true → b ≡ a
    same-frame a b q r e = equal (front (a == b) q r e)
      where
        front : (x y z : Bool) → (x && y && z) ≡ true → x ≡ true
        front true y z e = refl
        front false true true e = absurd (cc)
        front false true false e = absurd (cc)
        front false false z e = absurd (cc)

        equal : (a == b) ≡ true → b ≡ a
        equal e = grind (arith, nat_tests)

-- `OthersLast` holds in the upcoming stage
pub others-last : {K : Type 0} (sc : Scenario) (kind : Side) (m : Milestone) (place : Place) (g : Group K) (sites : Each Site) → is_at m place ≡ true → count_of kind sc.sizes ≤ 16
    → HoldsKind sc kind m g sites → OthersLast m place.frame (count_of kind sc.sizes) g.lasting g.counted
others-last sc kind (Begin f) place g sites here most holds = absurd (cc)
others-last sc kind End place g sites here most holds = absurd (cc)
others-last sc kind (Stage stage) place g sites here most holds = λ j e out.
    let below : j < count_of kind sc.sizes = ltb-true j (count_of kind sc.sizes) e in
    last-there (Stage stage) place g.lasting j here
    (by (nat_lt j (count_of kind sc.sizes)) (has g.lasting j) e
    (sym (has-is g.counted j (λ j. nat_lt j (count_of kind sc.sizes) && not (has g.lasting j)) (holds.counted stage refl) (omega arith)) ∙ out))
  where
    by : (a b : Bool) → a ≡ true → (a && not b) ≡ false → b ≡ true
    by true true ha o = refl
    by true false ha o = absurd (cc)
    by false b ha o = absurd (cc)

-- `OthersLast` holds if all nodes are counted
pub none-out : (m : Milestone) (frame count lasting all : ℕ) → count ≤ 16 → all ≡ set_of (λ i. nat_lt i count) → OthersLast m frame count lasting all
none-out m frame count lasting all few is = λ j e out.
    let no : true ≡ false = sym (first_counted count all few is j e) ∙ out in
    absurd (cc)

-- The node has told of the stage.

stage-told : (stage : ℕ) (row : Row) (s : Site) → (stage == 4) ≡ false → with_row stage row s ≡ record s { row = Some row }
stage-told stage row s e = ap (λ b. elim b as (λ _. Site) [ true ↦ s | false ↦ record s { row = Some row } ]) e

pub biu-closed : (sc : Scenario) (l : KeptBook) (w : World) (h : Group BiuKind) (i counted : ℕ) (closed : Closed) (times : List ℕ) (biu rmu : ℕ)
    → IsNoted l.bius h i l.upcoming (told_closed counted closed times biu rmu (line_from i closed.delivered) (told_at l.bius.told i))
    → i < l.shape.bius → ((j : ℕ) → l.shape.rmus ≤ j → get_or closed.sees j Nothing ≡ Nothing) → (closed.place.stage == 4) ≡ false
    → OthersLast l.upcoming closed.place.frame sc.sizes.rmus l.rmus.lasting counted → Holds sc l w
    → Holds sc (record l { bius = h }) (changed_at (node.Biu i) (with_row closed.place.stage (row_shown i closed times biu rmu)) w)
biu-closed sc l w h i counted closed times biu rmu noted here unseen stage last is =
    let shape = is.fits.is_shape in
    let told = told_at l.bius.told i in
    let row : Row = row_shown i closed times biu rmu in
    let inside : i < sc.sizes.bius = subst (λ (s : Sizes). i < s.bius) is.fits.sizes here in
    let nobody : (j : ℕ) → sc.sizes.rmus ≤ j → get_or closed.sees j Nothing ≡ Nothing =
    subst (λ (s : Sizes). (j : ℕ) → s.rmus ≤ j → get_or closed.sees j Nothing ≡ Nothing) is.fits.sizes unseen in
    let none : (j : ℕ) → sc.sizes.rmus ≤ j → get_or told.sees j Nothing ≡ Nothing = λ j. is.bius.within i j in
    let saw : ℕ → See = λ j. judged_see (slice_index times j) (get_or closed.sees j Nothing) in
    let holds = row-noted sc Biu l.upcoming l.bius h i
    (told_closed counted closed times biu rmu (line_from i closed.delivered) told) row saw (with_row closed.place.stage row) w.sites
    noted inside shape.most_bius is.bius
    (λ s. ap (λ (x : Site). x.row) (stage-told closed.place.stage row s stage)) (λ s. ap (λ (x : Site). x.begun) (stage-told closed.place.stage row s stage))
    refl
    (sees-kept counted sc Rmu l.upcoming l.rmus w.sites closed times biu rmu (line_from i closed.delivered) told shape.most_rmus is.rmus last nobody none)
    refl (none-seen counted closed times biu rmu (line_from i closed.delivered) told sc.sizes.rmus nobody none) in
    let others = other-kind sc Rmu Biu l.upcoming l.rmus i (with_row closed.place.stage row) w.sites refl is.rmus in
    with-bius sc l w h _ is holds others

pub rmu-closed : (sc : Scenario) (l : KeptBook) (w : World) (h : Group RmuKind) (i counted : ℕ) (closed : Closed) (times : List ℕ) (biu rmu : ℕ)
    → IsNoted l.rmus h i l.upcoming (told_closed counted closed times biu rmu (line_from i closed.delivered) (told_at l.rmus.told i))
    → i < l.shape.rmus → ((j : ℕ) → l.shape.bius ≤ j → get_or closed.sees j Nothing ≡ Nothing) → (closed.place.stage == 4) ≡ false
    → OthersLast l.upcoming closed.place.frame sc.sizes.bius l.bius.lasting counted → Holds sc l w
    → Holds sc (record l { rmus = h }) (changed_at (node.Rmu i) (with_row closed.place.stage (row_shown i closed times biu rmu)) w)
rmu-closed sc l w h i counted closed times biu rmu noted here unseen stage last is =
    let shape = is.fits.is_shape in
    let told = told_at l.rmus.told i in
    let row : Row = row_shown i closed times biu rmu in
    let inside : i < sc.sizes.rmus = subst (λ (s : Sizes). i < s.rmus) is.fits.sizes here in
    let nobody : (j : ℕ) → sc.sizes.bius ≤ j → get_or closed.sees j Nothing ≡ Nothing =
    subst (λ (s : Sizes). (j : ℕ) → s.bius ≤ j → get_or closed.sees j Nothing ≡ Nothing) is.fits.sizes unseen in
    let none : (j : ℕ) → sc.sizes.bius ≤ j → get_or told.sees j Nothing ≡ Nothing = λ j. is.rmus.within i j in
    let saw : ℕ → See = λ j. judged_see (slice_index times j) (get_or closed.sees j Nothing) in
    let holds = row-noted sc Rmu l.upcoming l.rmus h i
    (told_closed counted closed times biu rmu (line_from i closed.delivered) told) row saw (with_row closed.place.stage row) w.sites
    noted inside shape.most_rmus is.rmus
    (λ s. ap (λ (x : Site). x.row) (stage-told closed.place.stage row s stage)) (λ s. ap (λ (x : Site). x.begun) (stage-told closed.place.stage row s stage))
    refl
    (sees-kept counted sc Biu l.upcoming l.bius w.sites closed times biu rmu (line_from i closed.delivered) told shape.most_bius is.bius last nobody none)
    refl (none-seen counted closed times biu rmu (line_from i closed.delivered) told sc.sizes.bius nobody none) in
    let others = other-kind sc Biu Rmu l.upcoming l.bius i (with_row closed.place.stage row) w.sites refl is.bius in
    with-rmus sc l w h _ is others holds
