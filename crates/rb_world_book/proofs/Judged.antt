-- The judge is told a stage.
use Rattle.std.proofs.{Common.{◌≡◌, ℕ, ◌-◌, ◌<◌, ◌≤◌, ◌+◌, ◌==◌, ◌&&◌, not, nat_lt, Bool, true, false, List, [], ◌∷◌, ◌++◌, take, Option, Some, None, arith, refl, sym, ◌∙◌, ap, subst}, lemmas.Bool.Decides.nat_tests, lemmas.List.append-nil, lemmas.List.Elements.filter_map-append}
use Rattle.std.specs.{Prelude.option_map, List.cons_option}
use Rattle.rb_base.specs.{Nodes.{Side, has, other, set_of}, Nodes.Side.{Biu, Rmu}, Sizes.sync_slot_of, declared.values.Place.Place, declared.values.See.See}
use Rattle.rb_base.proofs.Sets.{has-is}
use Rattle.rb_rules.specs.{Book.{Each, Row, in_order, judged_of, map_from, of_kind, trusted_by}, ExactStage.present, Goodness.{Scenario, good_at, is_good}, Judging.{are_alike, is_something, was_taken as taken_in, was_unlike as unlike_in}, Slots.count_of, WorldStep.{Site, row_for, same_place, told_by_good}}
use Rattle.rb_rules.proofs.Slots.{other_twice}
use Rattle.rb_judge.specs.{Kinds.AreSetsOf, Sights.some_node, declared.stage_sets.StageSets.StageSets}
use Rattle.rb_world_book.specs.{declared.group.Group.Group, declared.told.Told.Told, declared.milestone.Milestone.TheVariants.Stage, Holding.{HoldsKind, without_lasting}, Settling.rows_found, Telling.{has_told, row_seeing, see_of, told_at}, Waiting.{found_of, row_at, row_if, row_saw, was_taken, was_unlike}}
use Rattle.rb_world_book.proofs.{Rows.{good-is, rows-kept, seeing-same}, Sources.{HaveSeen, both_kept, has-told, judged_sight, kept, told-there}}

-- what the good nodes of a world told of a stage
abbrev pub rows_of : Scenario → Place → Each Site → Each (Option Row)
rows_of sc place sites = told_by_good sc place.frame place.slot (λ s. row_for place s.row) sites

abbrev took : ℕ → Bool → List (Option Row) → ℕ → Bool
took good lasts rows j = some_node (λ i. has good i && is_something (judged_sight lasts rows j i))

abbrev saw_unlike : ℕ → ℕ → Bool → List (Option Row) → ℕ → Bool
saw_unlike eps good lasts rows j =
    some_node (λ a. has good a && some_node (λ b. has good b && not (are_alike eps (judged_sight lasts rows j a) (judged_sight lasts rows j b))))

taken-form : (sc : Scenario) (place : Place) (rows : Each (Option Row)) (kind : Side) (j : ℕ)
    → taken_in kind j (without_lasting sc place.frame (judged_of sc place rows))
    ≡ took (good_at sc (other kind) place.frame place.slot) (is_good sc (other (other kind)) j place.frame (sync_slot_of sc.sizes)) (of_kind (other kind) rows) j
unfolding some_node
taken-form sc place rows kind j = refl

unlike-form : (sc : Scenario) (place : Place) (rows : Each (Option Row)) (kind : Side) (j : ℕ)
    → unlike_in kind j (without_lasting sc place.frame (judged_of sc place rows))
    ≡ saw_unlike (sc.plan.dmax - sc.plan.dmin) (good_at sc (other kind) place.frame place.slot) (is_good sc (other (other kind)) j place.frame (sync_slot_of sc.sizes)) (of_kind (other kind) rows) j
unfolding some_node
unlike-form sc place rows kind j = refl

-- if nobody is awaited, what is kept of the receivers is what they saw
have-seen : {R : Type 0} (sc : Scenario) (place : Place) (kind : Side) (o : Group R) (sites : Each Site) (j : ℕ) → count_of (other kind) sc.sizes ≤ 16
    → (holds : HoldsKind sc (other kind) (Stage place) o sites) → o.waiting ≡ 0
    → HaveSeen holds.saw (is_good sc kind j place.frame (sync_slot_of sc.sizes)) place (count_of kind sc.sizes) (count_of (other kind) sc.sizes) o.good o.told j
have-seen sc place kind o sites j most holds none =
    let there : (i : ℕ) → i < 16 → has o.good i ≡ true → nat_lt i (count_of (other kind) sc.sizes) ≡ true =
    λ i h e. front _ _ (sym (ap (λ s. has s i) holds.good ∙ good-is sc (other kind) place.frame place.slot i most) ∙ e) in
    let told_it : (i : ℕ) → i < 16 → has o.good i ≡ true → has_told (Stage place) (told_at o.told i) ≡ true =
    λ i h e. has-told (count_of (other kind) sc.sizes) o.good place o.told i (sym holds.waiting ∙ none) h (there i h e) e in
    record {
      there = there;
      told_it = told_it;
      nobody = λ i past. holds.within i j (subst (λ k. count_of k sc.sizes ≤ j) (sym (other_twice kind)) past);
      sights = λ i h e bad. holds.sights i j
          (ap (λ f. is_good sc (other (other kind)) j f (sync_slot_of sc.sizes)) (same-frame (told_at o.told i).place place (told-there place (told_at o.told i) (told_it i h e)))
          ∙ ap (λ k. is_good sc k j place.frame (sync_slot_of sc.sizes)) (other_twice kind) ∙ bad);
    }
  where
    front : (a b : Bool) → (a && b) ≡ true → a ≡ true
    front true b e = refl
    front false b e = absurd (cc)

    same-frame : (a b : Place) → same_place a b ≡ true → a.frame ≡ b.frame
    same-frame a b e = let f : (a.frame == b.frame) ≡ true = front _ _ (front _ _ e) in grind (arith, nat_tests)

pub sets-are : {S R : Type 0} (sc : Scenario) (place : Place) (kind : Side) (g : Group S) (o : Group R) (sites : Each Site) (sets : StageSets S)
    → count_of kind sc.sizes ≤ 16 → count_of (other kind) sc.sizes ≤ 16
    → HoldsKind sc kind (Stage place) g sites → HoldsKind sc (other kind) (Stage place) o sites → o.waiting ≡ 0
    → sets.good ≡ g.good → sets.trusted ≡ trusted_by kind (present (in_order (rows_of sc place sites)))
    → sets.taken ≡ set_of (λ j. nat_lt j (count_of kind sc.sizes) && (not (has g.lasting j) && was_taken (count_of (other kind) sc.sizes) o.good o.told j))
    → sets.unlike ≡ set_of (λ j. nat_lt j (count_of kind sc.sizes)
    && (not (has g.lasting j) && was_unlike (sc.plan.dmax - sc.plan.dmin) (count_of (other kind) sc.sizes) o.good o.told j))
    → AreSetsOf kind sets (without_lasting sc place.frame (judged_of sc place (rows_of sc place sites)))
unfolding both_kept
sets-are sc place kind g o sites sets most most_others holds holds_others none good trusted taken unlike =
    let rows : Each (Option Row) = rows_of sc place sites in
    let lasts : ℕ → Bool = λ j. is_good sc kind j place.frame (sync_slot_of sc.sizes) in
    let lasting : (j : ℕ) → has g.lasting j ≡ lasts j =
    λ j. ap (λ s. has s j) (holds.lasting place refl) ∙ good-is sc kind place.frame (sync_slot_of sc.sizes) j most in
    let lasts_is : (j : ℕ) → is_good sc (other (other kind)) j place.frame (sync_slot_of sc.sizes) ≡ lasts j =
    λ j. ap (λ k. is_good sc k j place.frame (sync_slot_of sc.sizes)) (other_twice kind) in
    let rows_is = rows-kept sc (other kind) (Stage place) place o sites most_others holds_others holds_others.good in
    let eps : ℕ = sc.plan.dmax - sc.plan.dmin in
    let others : ℕ = count_of (other kind) sc.sizes in
    let goods : o.good ≡ good_at sc (other kind) place.frame place.slot = holds_others.good in
    record {
      good = good ∙ holds.good;
      trusted = trusted;
      taken = λ j h.
          let both = kept holds_others.saw place (count_of kind sc.sizes) others o.good o.told (lasts j) eps j h (have-seen sc place kind o sites j most_others holds_others none) in
          has-is sets.taken j _ taken h ∙ ap (λ b. nat_lt j (count_of kind sc.sizes) && (not b && was_taken others o.good o.told j)) (lasting j)
          ∙ sym both.0 ∙ ap (λ r. took o.good (lasts j) r j) (sym rows_is) ∙ ap (λ s. took s (lasts j) (of_kind (other kind) rows) j) goods
          ∙ ap (λ b. took (good_at sc (other kind) place.frame place.slot) b (of_kind (other kind) rows) j) (sym (lasts_is j)) ∙ sym (taken-form sc place rows kind j);
      unlike = λ j h.
          let both = kept holds_others.saw place (count_of kind sc.sizes) others o.good o.told (lasts j) eps j h (have-seen sc place kind o sites j most_others holds_others none) in
          has-is sets.unlike j _ unlike h ∙ ap (λ b. nat_lt j (count_of kind sc.sizes) && (not b && was_unlike eps others o.good o.told j)) (lasting j)
          ∙ sym both.1 ∙ ap (λ r. saw_unlike eps o.good (lasts j) r j) (sym rows_is) ∙ ap (λ s. saw_unlike eps s (lasts j) (of_kind (other kind) rows) j) goods
          ∙ ap (λ b. saw_unlike eps (good_at sc (other kind) place.frame place.slot) b (of_kind (other kind) rows) j) (sym (lasts_is j)) ∙ sym (unlike-form sc place rows kind j);
    }

-- The trusted nodes are those of the rows that are found, whatever was seen.

abbrev fields : Row → ℕ × ℕ
fields r = (r.biu, r.rmu)

trusts : (kind : Side) (a b : Option Row) (l m : List Row) → option_map fields a ≡ option_map fields b → trusted_by kind l ≡ trusted_by kind m
    → trusted_by kind (cons_option a l) ≡ trusted_by kind (cons_option b m)
trusts kind None None l m e same = same
trusts kind None (Some b) l m e same = absurd (cc)
trusts kind (Some a) None l m e same = absurd (cc)
trusts Biu (Some a) (Some b) l m e same = let f : fields a ≡ fields b = cc in ap (λ (x : ℕ × ℕ). x.0) f
trusts Rmu (Some a) (Some b) l m e same = let f : fields a ≡ fields b = cc in ap (λ (x : ℕ × ℕ). x.1) f

trusted-same : (kind : Side) (saw : ℕ → ℕ → See) (good k : ℕ) (place : Place) (told : List Told) (l m : List Row) → trusted_by kind l ≡ trusted_by kind m
    → trusted_by kind (present (map_from k (row_saw saw good place) told) ++ l) ≡ trusted_by kind (present (map_from k (row_at good place) told) ++ m)
trusted-same kind saw good k place [] l m same = same
trusted-same kind saw good k place (t ∷ told) l m same = by _ _ (one (has good k)) (trusted-same kind saw good (k + 1) place told l m same)
  where
    one : (b : Bool) → option_map fields (elim b as (λ _. Option Row) [ true ↦ row_for place (row_seeing (saw k) t) | false ↦ None ]) ≡ option_map fields (row_if place b t)
    one true = seeing-same fields place (saw k) (see_of t) t refl
    one false = refl

    by : (a b : Option Row) → option_map fields a ≡ option_map fields b
        → trusted_by kind (present (map_from (k + 1) (row_saw saw good place) told) ++ l) ≡ trusted_by kind (present (map_from (k + 1) (row_at good place) told) ++ m)
        → trusted_by kind (cons_option a (present (map_from (k + 1) (row_saw saw good place) told)) ++ l)
        ≡ trusted_by kind (cons_option b (present (map_from (k + 1) (row_at good place) told)) ++ m)
    by None None e rest = rest
    by None (Some b) e rest = absurd (cc)
    by (Some a) None e rest = absurd (cc)
    by (Some a) (Some b) e rest = trusts kind (Some a) (Some b) (present (map_from (k + 1) (row_saw saw good place) told) ++ l) (present (map_from (k + 1) (row_at good place) told) ++ m) e rest

pub rows-found : {B R : Type 0} (sc : Scenario) (place : Place) (bius : Group B) (rmus : Group R) (sites : Each Site) (kind : Side) → sc.sizes.bius ≤ 16 → sc.sizes.rmus ≤ 16
    → HoldsKind sc Biu (Stage place) bius sites → HoldsKind sc Rmu (Stage place) rmus sites
    → trusted_by kind (rows_found sc.sizes place bius rmus) ≡ trusted_by kind (present (in_order (rows_of sc place sites)))
unfolding found_of
rows-found sc place bius rmus sites kind most most_rmus biu rmu =
    let first = rows-kept sc Biu (Stage place) place bius sites most biu biu.good in
    let second = rows-kept sc Rmu (Stage place) place rmus sites most_rmus rmu rmu.good in
    sym (ap (trusted_by kind) (filter_map-append (λ v. v) (rows_of sc place sites).bius (rows_of sc place sites).rmus ∙ ap (λ l. present l ++ present (rows_of sc place sites).rmus) first
    ∙ ap (λ l. present (map_from 0 (row_saw biu.saw bius.good place) (take sc.sizes.bius bius.told)) ++ present l) second)
    ∙ trusted-same kind biu.saw bius.good 0 place (take sc.sizes.bius bius.told) _ _
    (last kind rmu.saw rmus.good 0 (take sc.sizes.rmus rmus.told)))
  where
    last : (kind : Side) (saw : ℕ → ℕ → See) (good k : ℕ) (told : List Told)
        → trusted_by kind (present (map_from k (row_saw saw good place) told)) ≡ trusted_by kind (present (map_from k (row_at good place) told))
    last kind saw good k told =
        let none : List Row = [] in
        ap (trusted_by kind) (sym (append-nil (present (map_from k (row_saw saw good place) told)))) ∙ trusted-same kind saw good k place told none none refl
        ∙ ap (trusted_by kind) (append-nil (present (map_from k (row_at good place) told)))
