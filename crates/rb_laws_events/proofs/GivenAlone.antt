-- A record that needs no event is given by the call that asks for it.
use Rattle.std.proofs.{Common.{◌≡◌, ℕ, suc, ◌+◌, ◌==◌, ◌&&◌, ◌||◌, not, nat_lt, Bool, true, false, List, [], ◌∷◌, ◌++◌, length, refl, ap, sym, ◌∙◌, arith, inl, inr, Option, Some, None, is_some, lit≤, slice_get, if◌then◌else◌}, lemmas.Bool.le-ltb}
use Rattle.rb_base.specs.{Nodes.{has, size}, Nodes.Side.{Biu, Rmu}, Sizes.IsShape, declared.values.Place.Place}
use Rattle.rb_base.proofs.{SetSizes.size_none, Sets.{has_none, is_set_of, same_set_of}}
use Rattle.rb_rules.specs.{declared.cause.Cause.TheVariants.{FewGoodBiu, FewGoodRmu, TwoSided}, Book.{Book, Each, Milestone, Record, Row, after_verdict, judged_of, with_stage}, Book.Milestone.{Begin, Stage, End}, Book.Record.{Breach, Ended}, Goodness.{Scenario, good_at}, Judging.{ClassSets, JudgedStage, are_few_good, cause_of, classes_of, some_asymmetric, trusted_now, verdict_of}, WorldStep.{Site, World, all_have_told, begun_for, comes_so, go_on, is_complete, needs_no_event, nobody_good, record_since, row_for, settle, settle_next}, WorldStep.Way.ByItself}
use Rattle.rb_laws_events.proofs.{Alone.nobody-each, Completing.next_world, SettledOnce.{FrameGiven, frame-given}, Waiting.{no-good, told-all}, WorldBooks.{go-on-turn, last-one, settle_rest}}

-- if nobody is good, all that is asked for has been told
pub none-asked : {X : Type 0} (sc : Scenario) (frame slot : ℕ) (tells : Site → Option X) (sites : Each Site) → IsShape sc.sizes → nobody_good sc frame slot ≡ true
    → all_have_told sc frame slot tells sites ≡ true
none-asked sc frame slot tells sites shape h =
    told-all sc frame slot tells sites (λ me i s there. ap (λ b. not b || is_some (tells s)) (nobody-each sc frame slot shape h me i))

pub complete-alone : (sc : Scenario) (sites : Each Site) (m : Milestone) → IsShape sc.sizes → needs_no_event sc m ≡ true → is_complete sc sites m ≡ true
complete-alone sc sites (Begin frame) shape h = none-asked sc frame 0 (λ s. begun_for frame s.begun) sites shape h
complete-alone sc sites (Stage place) shape h = none-asked sc place.frame place.slot (λ s. row_for place s.row) sites shape h
complete-alone sc sites End shape h = refl

pub next-alone : (sc : Scenario) (w : World) → IsShape sc.sizes → needs_no_event sc w.book.upcoming ≡ true → settle_next sc ByItself w ≡ next_world sc w w.book.upcoming
next-alone sc w shape h =
    ap (λ b. elim b as (λ _. World) [ true ↦ next_world sc w w.book.upcoming | false ↦ w ])
    (ap (λ b. b && is_complete sc w.sites w.book.upcoming) (comes w.book.upcoming h) ∙ complete-alone sc w.sites w.book.upcoming shape h)
  where
    comes : (m : Milestone) → needs_no_event sc m ≡ true → comes_so sc ByItself m ≡ true
    comes (Begin frame) h = h
    comes (Stage place) h = h
    comes End h = refl

-- A stage in which nobody is good is a breach.

pub no-classes : (stages : List JudgedStage) (s : JudgedStage) → s.good Biu ≡ 0 → (classes_of Biu (s ∷ stages)).good ≡ 0
unfolding classes_of
no-classes stages s h =
    same_set_of (λ j. has (trusted_now Biu (s ∷ stages)) j && has (s.good Biu) j) (λ j. false)
    (λ j lt. ap (λ g. has (trusted_now Biu (s ∷ stages)) j && has g j) h ∙ ap (λ b. has (trusted_now Biu (s ∷ stages)) j && b) (has_none j) ∙ and-none (has (trusted_now Biu (s ∷ stages)) j))
    ∙ sym (is_set_of 0 (λ j. false) (lit≤ tt) (λ j lt. has_none j))
  where
    and-none : (a : Bool) → (a && false) ≡ false
    and-none true = refl
    and-none false = refl

pub few-cause : (a b : ClassSets) → are_few_good a ≡ true → cause_of a b ≡ Some FewGoodBiu
few-cause a b few =
    ap (λ t. if t then Some FewGoodBiu else (if are_few_good b then Some FewGoodRmu else (if some_asymmetric a && some_asymmetric b then Some TwoSided else None))) few

pub breach-alone : (stages : List JudgedStage) (s : JudgedStage) → s.good Biu ≡ 0 → verdict_of (s ∷ stages) ≡ Some FewGoodBiu
unfolding verdict_of
breach-alone stages s h =
    let c : ClassSets = classes_of Biu (s ∷ stages) in
    let none : size c.good ≡ 0 = ap size (no-classes stages s h) ∙ size_none in
    let few : are_few_good c ≡ true =
    ap (λ n. not (nat_lt (size c.symmetric + size c.asymmetric) n)) none ∙ ap not (le-ltb (size c.symmetric + size c.asymmetric) 0 (omega arith)) in
    few-cause c (classes_of Rmu (s ∷ stages)) few

-- A milestone that gives a record by itself: the end, or a stage.

stage-gives : (sc : Scenario) (place : Place) (rows : Each (Option Row)) (b : Book) → b.ended ≡ false → good_at sc Biu place.frame place.slot ≡ 0
    → slice_get (with_stage sc place rows b).given (length b.given) ≡ Some (Breach place FewGoodBiu)
unfolding with_stage
stage-gives sc place rows b going none =
    let stages : List JudgedStage = judged_of sc place rows ∷ b.stages in
    ap (λ e. slice_get (elim e as (λ _. Book) [ true ↦ b | false ↦ after_verdict sc.sizes place rows stages b (verdict_of stages) ]).given (length b.given)) going
    ∙ ap (λ v. slice_get (after_verdict sc.sizes place rows stages b v).given (length b.given)) (breach-alone b.stages (judged_of sc place rows) none)
    ∙ last-one b.given (Breach place FewGoodBiu) refl

end-gives : (sc : Scenario) (w : World) → w.book.ended ≡ false → record_since w (next_world sc w End) ≡ Some Ended
end-gives sc w going =
    ap (λ e. slice_get (elim e as (λ _. Book) [ true ↦ w.book | false ↦ record w.book { given = w.book.given ++ Ended ∷ []; ended = true } ]).given (length w.book.given)) going
    ∙ last-one w.book.given Ended refl

settle-gives : (sc : Scenario) (n : ℕ) (w : World) {y r : _} → settle_next sc ByItself w ≡ y → record_since w y ≡ Some r → (settle sc ByItself (suc n) w).turn ≡ Some r
settle-gives sc n w {y} next gives =
    ap (λ next. (settle_rest sc ByItself n next (record_since w next)).turn) next ∙ ap (λ o. (settle_rest sc ByItself n y o).turn) gives

end-turn : (sc : Scenario) (n : ℕ) (w : World) → IsShape sc.sizes → w.book.ended ≡ false → w.book.upcoming ≡ End → (r : Record) × ((settle sc ByItself (suc n) w).turn ≡ Some r)
end-turn sc n w shape going up =
    let next : settle_next sc ByItself w ≡ next_world sc w End = next-alone sc w shape (ap (needs_no_event sc) up) ∙ ap (next_world sc w) up in
    (Ended, settle-gives sc n w next (end-gives sc w going))

stage-turn : (sc : Scenario) (n : ℕ) (w : World) (place : Place) → IsShape sc.sizes → w.book.ended ≡ false → w.book.upcoming ≡ Stage place → nobody_good sc place.frame place.slot ≡ true
    → (r : Record) × ((settle sc ByItself (suc n) w).turn ≡ Some r)
stage-turn sc n w place shape going up nobody =
    let next : settle_next sc ByItself w ≡ next_world sc w (Stage place) = next-alone sc w shape (ap (needs_no_event sc) up ∙ nobody) ∙ ap (next_world sc w) up in
    let none : good_at sc Biu place.frame place.slot ≡ 0 = no-good sc Biu place.frame place.slot (nobody-each sc place.frame place.slot shape nobody Biu) in
    (Breach place FewGoodBiu, settle-gives sc n w next (stage-gives sc place _ w.book going none))

-- if nobody is good at the start of a frame, which has no record, the milestone after it gives one
begin-turn : (sc : Scenario) (n : ℕ) (w : World) (frame : ℕ) → IsShape sc.sizes → w.book.ended ≡ false → w.book.upcoming ≡ Begin frame → nobody_good sc frame 0 ≡ true
    → (r : Record) × ((settle sc ByItself (suc (suc n)) w).turn ≡ Some r)
begin-turn sc n w frame shape going up nobody =
    let y : World = next_world sc w (Begin frame) in
    let next : settle_next sc ByItself w ≡ y = next-alone sc w shape (ap (needs_no_event sc) up ∙ nobody) ∙ ap (next_world sc w) up in
    let given : FrameGiven sc frame _ w.book y.book = frame-given sc frame _ w.book going in
    let later : (r : Record) × ((settle sc ByItself (suc n) y).turn ≡ Some r) = by y given.going given.next (frame == sc.frames) refl in
    after y next (record_since w y) refl later
  where
    by : (y : World) → y.book.ended ≡ false → y.book.upcoming ≡ (if frame == sc.frames then End else Stage (record { frame = frame; slot = 0; stage = 1 }))
        → (b : Bool) → (frame == sc.frames) ≡ b → (r : Record) × ((settle sc ByItself (suc n) y).turn ≡ Some r)
    by y on next true e = end-turn sc n y shape on (next ∙ ap (λ b. if b then End else Stage (record { frame = frame; slot = 0; stage = 1 })) e)
    by y on next false e =
        stage-turn sc n y (record { frame = frame; slot = 0; stage = 1 }) shape on
        (next ∙ ap (λ b. if b then End else Stage (record { frame = frame; slot = 0; stage = 1 })) e) nobody

    after : (y : World) → settle_next sc ByItself w ≡ y → (o : Option Record) → record_since w y ≡ o → (r : Record) × ((settle sc ByItself (suc n) y).turn ≡ Some r)
        → (r : Record) × ((settle sc ByItself (suc (suc n)) w).turn ≡ Some r)
    after y next (Some r) e later = (r, settle-gives sc (suc n) w next e)
    after y next None e later = (
      later.0,
      ap (λ next. (settle_rest sc ByItself (suc n) next (record_since w next)).turn) next ∙ ap (λ o. (settle_rest sc ByItself (suc n) y o).turn) e ∙ later.1,
    )

turn-alone : (sc : Scenario) (w : World) → IsShape sc.sizes → w.book.ended ≡ false → needs_no_event sc w.book.upcoming ≡ true → (r : Record) × ((settle sc ByItself 2 w).turn ≡ Some r)
turn-alone sc w shape going h = by w.book.upcoming refl h
  where
    by : (m : Milestone) → w.book.upcoming ≡ m → needs_no_event sc m ≡ true → (r : Record) × ((settle sc ByItself 2 w).turn ≡ Some r)
    by (Begin frame) up h = begin-turn sc 0 w frame shape going up h
    by (Stage place) up h = stage-turn sc 1 w place shape going up h
    by End up h = end-turn sc 1 w shape going up

pub go-on-is : (sc : Scenario) (w : World) → w.book.ended ≡ false → go_on sc w ≡ settle sc ByItself 2 w
unfolding go_on
go-on-is sc w going = ap (λ b. elim b as (λ _. World) [ true ↦ w | false ↦ settle sc ByItself 2 w ]) going

pub given-alone : (sc : Scenario) → IsShape sc.sizes → (w : World) → w.book.ended ≡ false → needs_no_event sc w.book.upcoming ≡ true
    → (r : Record) × (((go_on sc w).turn ≡ Some r) × ((go_on sc w).book.given ≡ w.book.given ++ r ∷ []))
given-alone sc shape w going h =
    let turn = turn-alone sc w shape going h in
    elim (go-on-turn sc w going) [
      | inl none ↦ absurd (none-some turn.0 (sym none.1 ∙ ap (λ (x : World). x.turn) (go-on-is sc w going) ∙ turn.1))
      | inr one ↦ (one.0, (one.1.1, one.1.0))
    ]
  where
    none-some : (r : Record) → None ≡ Some r → ⊥
    none-some r e = cc
