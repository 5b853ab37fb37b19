-- What is given without an event ends the run.
use Rattle.std.proofs.{Common.{◌≡◌, ℕ, suc, ◌+◌, ◌==◌, Bool, true, false, List, [], ◌∷◌, ◌++◌, refl, ap, ◌∙◌, Option, Some, None, if◌then◌else◌}, lemmas.List.append-nil}
use Rattle.rb_base.specs.{Nodes.Side, Nodes.Side.{Biu, Rmu}, Sizes.IsShape, declared.values.Place.Place}
use Rattle.rb_rules.specs.{Book.{Begun, Book, Each, Milestone, Record, Row, after_verdict, frame_records, in_order, judged_of, map_from, with_stage}, Book.Milestone.{Begin, Stage, End}, ExactStage.present, Goodness.{Scenario, good_at, is_good}, Judging.{JudgedStage, verdict_of}, WorldStep.{Site, World, begun_for, go_on, needs_no_event, nobody_good, record_since, settle, settle_next, told_by_good}, WorldStep.Way.ByItself}
use Rattle.rb_laws_events.proofs.{Alone.nobody-each, Completing.next_world, GivenAlone.{breach-alone, go-on-is, next-alone}, SettledOnce.{FrameGiven, ended-still, frame-given, settle-still}, Waiting.no-good, WorldBooks.{none-past, settle_rest}}

-- A stage in which nobody is good is a breach.

stage-over : (sc : Scenario) (place : Place) (rows : Each (Option Row)) (b : Book) → b.ended ≡ false → good_at sc Biu place.frame place.slot ≡ 0 → (with_stage sc place rows b).ended ≡ true
unfolding with_stage
stage-over sc place rows b going none =
    let stages : List JudgedStage = judged_of sc place rows ∷ b.stages in
    ap (λ e. (elim e as (λ _. Book) [ true ↦ b | false ↦ after_verdict sc.sizes place rows stages b (verdict_of stages) ]).ended) going
    ∙ ap (λ v. (after_verdict sc.sizes place rows stages b v).ended) (breach-alone b.stages (judged_of sc place rows) none)

-- The start of a frame at which nobody is good gives no record.

none-there : {X : Type 0} (sc : Scenario) (frame slot : ℕ) (tells : Site → Option X) (me : Side) (k : ℕ) (xs : List Site) → ((i : ℕ) → is_good sc me i frame slot ≡ false)
    → present (map_from k (λ i s. elim (is_good sc me i frame slot) as (λ _. Option X) [ true ↦ tells s | false ↦ None ]) xs) ≡ []
none-there sc frame slot tells me k [] none = refl
none-there {X} sc frame slot tells me k (x ∷ xs) none =
    ap (λ b. present ((elim b as (λ _. Option X) [ true ↦ tells x | false ↦ None ]) ∷ map_from (k + 1) (λ i s. elim (is_good sc me i frame slot) as (λ _. Option X) [ true ↦ tells s | false ↦ None ]) xs)) (none k)
    ∙ none-there sc frame slot tells me (k + 1) xs none

present-join : {X : Type 0} (xs ys : List (Option X)) → present xs ≡ [] → present ys ≡ [] → present (xs ++ ys) ≡ []
present-join [] ys a b = b
present-join (None ∷ xs) ys a b = present-join xs ys a b
present-join (Some x ∷ xs) ys a b = absurd (cc)

none-begun : (sc : Scenario) (frame : ℕ) (sites : Each Site) → IsShape sc.sizes → nobody_good sc frame 0 ≡ true
    → present (in_order (told_by_good sc frame 0 (λ s. begun_for frame s.begun) sites)) ≡ []
none-begun sc frame sites shape h =
    let none = nobody-each sc frame 0 shape h in
    present-join (told_by_good sc frame 0 (λ s. begun_for frame s.begun) sites).bius (told_by_good sc frame 0 (λ s. begun_for frame s.begun) sites).rmus
    (none-there sc frame 0 (λ s. begun_for frame s.begun) Biu 0 sites.bius (none Biu)) (none-there sc frame 0 (λ s. begun_for frame s.begun) Rmu 0 sites.rmus (none Rmu))

-- The end of a run.

end-over : (sc : Scenario) (w : World) → w.book.ended ≡ false → (next_world sc w End).book.ended ≡ true
end-over sc w going = ap (λ e. (elim e as (λ _. Book) [ true ↦ w.book | false ↦ record w.book { given = w.book.given ++ Record.Ended ∷ []; ended = true } ]).ended) going

rest-over : (sc : Scenario) (n : ℕ) (y : World) (o : Option Record) → y.book.ended ≡ true → (settle_rest sc ByItself n y o).book.ended ≡ true
rest-over sc n y None e = ap (λ (x : World). x.book.ended) (settle-still sc ByItself n (ended-still sc ByItself y e)) ∙ e
rest-over sc n y (Some r) e = e

settle-over : (sc : Scenario) (n : ℕ) (w y : World) → settle_next sc ByItself w ≡ y → y.book.ended ≡ true → (settle sc ByItself (suc n) w).book.ended ≡ true
settle-over sc n w y next over =
    ap (λ next. (settle_rest sc ByItself n next (record_since w next)).book.ended) next ∙ rest-over sc n y (record_since w y) over

end-settles : (sc : Scenario) (n : ℕ) (w : World) → IsShape sc.sizes → w.book.ended ≡ false → w.book.upcoming ≡ End → (settle sc ByItself (suc n) w).book.ended ≡ true
end-settles sc n w shape going up =
    settle-over sc n w (next_world sc w End) (next-alone sc w shape (ap (needs_no_event sc) up) ∙ ap (next_world sc w) up) (end-over sc w going)

stage-settles : (sc : Scenario) (n : ℕ) (w : World) (place : Place) → IsShape sc.sizes → w.book.ended ≡ false → w.book.upcoming ≡ Stage place → nobody_good sc place.frame place.slot ≡ true
    → (settle sc ByItself (suc n) w).book.ended ≡ true
stage-settles sc n w place shape going up nobody =
    let none : good_at sc Biu place.frame place.slot ≡ 0 = no-good sc Biu place.frame place.slot (nobody-each sc place.frame place.slot shape nobody Biu) in
    settle-over sc n w (next_world sc w (Stage place)) (next-alone sc w shape (ap (needs_no_event sc) up ∙ nobody) ∙ ap (next_world sc w) up)
    (stage-over sc place _ w.book going none)

begin-settles : (sc : Scenario) (n : ℕ) (w : World) (frame : ℕ) → IsShape sc.sizes → w.book.ended ≡ false → w.book.upcoming ≡ Begin frame → nobody_good sc frame 0 ≡ true
    → (settle sc ByItself (suc (suc n)) w).book.ended ≡ true
begin-settles sc n w frame shape going up nobody =
    let y : World = next_world sc w (Begin frame) in
    let next : settle_next sc ByItself w ≡ y = next-alone sc w shape (ap (needs_no_event sc) up ∙ nobody) ∙ ap (next_world sc w) up in
    let begun : List Begun = present (in_order (told_by_good sc frame 0 (λ s. begun_for frame s.begun) w.sites)) in
    let given : FrameGiven sc frame begun w.book y.book = frame-given sc frame begun w.book going in
    let none : record_since w y ≡ None =
    none-past w.book.given (given.given ∙ ap (λ bs. w.book.given ++ frame_records frame bs) (none-begun sc frame w.sites shape nobody) ∙ append-nil w.book.given) in
    ap (λ next. (settle_rest sc ByItself (suc n) next (record_since w next)).book.ended) next ∙ ap (λ o. (settle_rest sc ByItself (suc n) y o).book.ended) none
    ∙ by y given.going given.next (frame == sc.frames) refl
  where
    by : (y : World) → y.book.ended ≡ false → y.book.upcoming ≡ (if frame == sc.frames then End else Stage (record { frame = frame; slot = 0; stage = 1 }))
        → (b : Bool) → (frame == sc.frames) ≡ b → (settle sc ByItself (suc n) y).book.ended ≡ true
    by y on next true e = end-settles sc n y shape on (next ∙ ap (λ b. if b then End else Stage (record { frame = frame; slot = 0; stage = 1 })) e)
    by y on next false e =
        stage-settles sc n y (record { frame = frame; slot = 0; stage = 1 }) shape on
        (next ∙ ap (λ b. if b then End else Stage (record { frame = frame; slot = 0; stage = 1 })) e) nobody

pub alone-ends : (sc : Scenario) (w : World) → IsShape sc.sizes → w.book.ended ≡ false → needs_no_event sc w.book.upcoming ≡ true → (go_on sc w).book.ended ≡ true
alone-ends sc w shape going h = ap (λ (x : World). x.book.ended) (go-on-is sc w going) ∙ by w.book.upcoming refl h
  where
    by : (m : Milestone) → w.book.upcoming ≡ m → needs_no_event sc m ≡ true → (settle sc ByItself 2 w).book.ended ≡ true
    by (Begin frame) up h = begin-settles sc 0 w frame shape going up h
    by (Stage place) up h = stage-settles sc 1 w place shape going up h
    by End up h = end-settles sc 1 w shape going up
