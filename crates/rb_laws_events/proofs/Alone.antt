-- For the law that events are rounds: if no node is good any more, what is settled by itself leaves
-- nothing that waits for an event.
use Rattle.std.proofs.{Common.{◌≡◌, ℕ, zero, suc, ◌+◌, ◌*◌, ◌<◌, ◌≤◌, ◌==◌, ◌&&◌, ◌⊎◌, not, nat_lt, Bool, true, false, List, [], ◌∷◌, ◌++◌, length, refl, ap, sym, ◌∙◌, subst, arith, inl, inr, Option, Some, None, slice_get, if◌then◌else◌}, lemmas.Bool.{and_parts, cases_lt, eqb-true}}
use Rattle.rb_base.specs.{Nodes.{Side, has}, Nodes.Side.{Biu, Rmu}, Sizes.{IsShape, sync_slot_of}, declared.values.Place.Place}
use Rattle.rb_base.proofs.{Plain.true-false, Sets.{has-set_of, has_none}}
use Rattle.rb_rules.specs.{Book.{Book, Each, Milestone, Record, after_stage, of_kind}, Book.Milestone.{Begin, Stage, End}, Book.Record.Ended, Goodness.{Scenario, good_at, is_good}, Ports.HandIn, Rounds.{moment, windows_in}, Slots.count_of, WorldStep.{Site, World, book_with, comes_so, frame_in, is_complete, needs_no_event, nobody_good, record_since, settle, settle_next}, WorldStep.Way.ByItself}
use Rattle.rb_laws_agreement.proofs.{Goodnesses.{good_before, good_counts, good_earlier}, Agreement.ended-end}
use Rattle.rb_laws_events.proofs.{Completing.next_world, SettledOnce.{FrameGiven, Settled, frame-given, frame-record, none-turn, ended-still, settle-still, stage-silent, still-settled}, HandedMoments.place-of, Invariant.is_good_at, MomentBooks.stage-book-next, RoundNodes.slot_numbered, ToldInOrder.AllTold, Waiting.{AfterRecord, Waits, is_due, no-good}, WorldBooks.{last-one, settle_rest}}

-- Nobody is good.

pub nobody-each : (sc : Scenario) (frame slot : ℕ) → IsShape sc.sizes → nobody_good sc frame slot ≡ true → (me : Side) (i : ℕ) → is_good sc me i frame slot ≡ false
nobody-each sc frame slot shape h me i = by me (is_good sc me i frame slot) refl
  where
    none : (me : Side) → i < 16 → good_at sc me frame slot ≡ 0 → is_good sc me i frame slot ≡ false
    none me small e = sym (has-set_of i (λ i. is_good sc me i frame slot) small) ∙ ap (λ s. has s i) e ∙ has_none i

    by : (me : Side) (b : Bool) → is_good sc me i frame slot ≡ b → is_good sc me i frame slot ≡ false
    by me false e = e
    by Biu true e =
        let counted : i < count_of Biu sc.sizes = good_counts sc Biu i frame slot e in
        let most : sc.sizes.bius ≤ 16 = shape.most_bius in
        none Biu (omega arith) (eqb-true (good_at sc Biu frame slot) 0 (and_parts (good_at sc Biu frame slot == 0) (good_at sc Rmu frame slot == 0) h).0)
    by Rmu true e =
        let counted : i < count_of Rmu sc.sizes = good_counts sc Rmu i frame slot e in
        let most : sc.sizes.rmus ≤ 16 = shape.most_rmus in
        none Rmu (omega arith) (eqb-true (good_at sc Rmu frame slot) 0 (and_parts (good_at sc Biu frame slot == 0) (good_at sc Rmu frame slot == 0) h).1)

nobody-of : (sc : Scenario) (frame slot : ℕ) → ((me : Side) (i : ℕ) → is_good sc me i frame slot ≡ false) → nobody_good sc frame slot ≡ true
nobody-of sc frame slot none =
    ap (λ n. (n == 0) && (good_at sc Rmu frame slot == 0)) (no-good sc Biu frame slot (none Biu)) ∙ ap (λ n. n == 0) (no-good sc Rmu frame slot (none Rmu))

nobody-later : (sc : Scenario) (f s f2 s2 : ℕ) → IsShape sc.sizes → nobody_good sc f s ≡ true → (f < f2) ⊎ ((f ≡ f2) × (s ≤ s2)) → nobody_good sc f2 s2 ≡ true
nobody-later sc f s f2 s2 shape h later = nobody-of sc f2 s2 (λ me i. by me i (is_good sc me i f2 s2) refl later)
  where
    by : (me : Side) (i : ℕ) (b : Bool) → is_good sc me i f2 s2 ≡ b → (f < f2) ⊎ ((f ≡ f2) × (s ≤ s2)) → is_good sc me i f2 s2 ≡ false
    by me i false e later = e
    by me i true e (inl lt) = true-false (sym (good_before sc me i f f2 s s2 lt e) ∙ nobody-each sc f s shape h me i)
    by me i true e (inr same) =
        true-false (sym (good_earlier sc me i f s s2 same.1 (ap (λ f. is_good sc me i f s2) same.0 ∙ e)) ∙ nobody-each sc f s shape h me i)

-- Settling.

-- the book has ended, or what comes next needs no event
abbrev pub IsAlone : Scenario → Book → Type 0
IsAlone sc b = (b.ended ≡ true) ⊎ (needs_no_event sc b.upcoming ≡ true)

alone-waits : (sc : Scenario) (w : World) → IsAlone sc w.book → Waits sc w
alone-waits sc w (inl over) going = true-false (sym over ∙ going)
alone-waits sc w (inr alone) going = by w.book.upcoming alone
  where
    by : (m : Milestone) → needs_no_event sc m ≡ true → is_due sc w.sites m ≡ false
    by (Begin frame) h = ap (λ b. not b && is_complete sc w.sites (Begin frame)) h
    by (Stage place) h = ap (λ b. not b && is_complete sc w.sites (Stage place)) h
    by End h = refl

after-alone : (sc : Scenario) (place : Place) → IsShape sc.sizes → nobody_good sc place.frame place.slot ≡ true → needs_no_event sc (after_stage sc.sizes place) ≡ true
after-alone sc place shape h = by (nat_lt place.stage 3) (place.slot == sync_slot_of sc.sizes)
  where
    by : (a b : Bool) → needs_no_event sc (
        if a then Stage (record place { stage = place.stage + 1 })
        else (if b then Begin (place.frame + 1) else Stage (record { frame = place.frame; slot = place.slot + 1; stage = 1 }))
        ) ≡ true
    by true b = h
    by false true = nobody-later sc place.frame place.slot (place.frame + 1) 0 shape h (inl (omega arith))
    by false false = nobody-later sc place.frame place.slot place.frame (place.slot + 1) shape h (inr (refl, omega arith))

-- a milestone that is settled by itself leaves the book alone
settled-alone : (sc : Scenario) (sites : Each Site) (b : Book) (m : Milestone) → IsShape sc.sizes → b.ended ≡ false → needs_no_event sc m ≡ true → IsAlone sc (book_with sc sites b m)
settled-alone sc sites b (Begin frame) shape going h =
    let given : FrameGiven sc frame _ b (book_with sc sites b (Begin frame)) = frame-given sc frame _ b going in
    inr (ap (needs_no_event sc) given.next ∙ by (frame == sc.frames))
  where
    by : (t : Bool) → needs_no_event sc (if t then End else Stage (record { frame = frame; slot = 0; stage = 1 })) ≡ true
    by true = refl
    by false = h
settled-alone sc sites b (Stage place) shape going h = by (book_with sc sites b (Stage place)).ended refl
  where
    by : (t : Bool) → (book_with sc sites b (Stage place)).ended ≡ t → IsAlone sc (book_with sc sites b (Stage place))
    by true e = inl e
    by false e = inr (ap (needs_no_event sc) (stage-book-next sc place _ b e) ∙ after-alone sc place shape h)
settled-alone sc sites b End shape going h = inl (ended-end b)

-- no node is beyond the start of a frame at which nobody is good
near-alone : {sc : Scenario} {hands : List HandIn} {at : Side → ℕ → ℕ} {sites : Each Site} (frame : ℕ) → IsShape sc.sizes → nobody_good sc frame 0 ≡ true → AllTold sc hands at sites
    → (me : Side) (i : ℕ) (s : Site) → slice_get (of_kind me sites) i ≡ Some s → at me i ≤ frame * (windows_in sc.sizes + 1) + 1
near-alone {sc} {hands} {at} frame shape h told me i s there =
    let b : ℕ = frame * (windows_in sc.sizes + 1) in
    elim (cases_lt b (at me i)) [
      | inr le ↦ omega (arith, le)
      | inl lt ↦
          let place = place-of sc hands b frame 0 (omega arith) (omega arith) in
          let good : is_good_at sc (moment sc hands b) me i ≡ true = (told me i s there).was_good b lt in
          let slot : slot_numbered sc.sizes (moment sc hands b).window ≡ 0 = omega (arith, place.1) in
          let here : is_good sc me i frame 0 ≡ true =
          ap (λ f. is_good sc me i f 0) (sym place.0) ∙ ap (is_good sc me i (moment sc hands b).frame) (sym slot) ∙ good in
          true-false (sym here ∙ nobody-each sc frame 0 shape h me i)
    ]

-- the record of what is settled by itself
turn-alone : {sc : Scenario} {hands : List HandIn} {at : Side → ℕ → ℕ} (w : World) (m : Milestone) {frame : ℕ} → IsShape sc.sizes → w.book.ended ≡ false → needs_no_event sc m ≡ true
    → AllTold sc hands at w.sites → frame_in (record_since w (next_world sc w m)) ≡ Some frame → AfterRecord sc at (next_world sc w m) frame
turn-alone {sc} {at} w (Begin its) {frame} shape going h told e =
    let given : FrameGiven sc its _ w.book (next_world sc w (Begin its)).book = frame-given sc its _ w.book going in
    let same : frame ≡ its = frame-record its _ w.book.given (sym (ap (λ given. frame_in (slice_get given (length w.book.given))) given.given) ∙ e) in
    subst (AfterRecord sc at (next_world sc w (Begin its))) (sym same) (record {
      begun = λ me i s there good. true-false (sym good ∙ nobody-each sc its 0 shape h me i);
      near = near-alone its shape h told;
      going = given.going;
      next = given.next;
    })
turn-alone {sc} w (Stage place) shape going h told e = none-turn (sym (stage-silent sc place _ w.book) ∙ e)
turn-alone w End shape going h told e =
    none-turn (sym (ap frame_in (ap (λ b. slice_get (elim b as (λ _. Book) [ true ↦ w.book | false ↦ record w.book { given = w.book.given ++ Ended ∷ []; ended = true } ]).given (length w.book.given)) going
    ∙ last-one w.book.given Ended refl)) ∙ e)

alone-settled : {sc : Scenario} {hands : List HandIn} {at : Side → ℕ → ℕ} (n : ℕ) (w : World) → IsShape sc.sizes → AllTold sc hands at w.sites → IsAlone sc w.book → Settled sc at (settle sc ByItself n w)
alone-settled {sc} {at} zero w shape told alone = still-settled at w (alone-waits sc w alone)
alone-settled {sc} {at} (suc n) w shape told alone = by (λ a. alone-settled n (next_world sc w w.book.upcoming) shape told a) w.book.ended refl alone
  where
    y : World
    y = next_world sc w w.book.upcoming

    after : (IsAlone sc y.book → Settled sc at (settle sc ByItself n y)) → (o : Option Record) → record_since w y ≡ o → w.book.ended ≡ false → needs_no_event sc w.book.upcoming ≡ true → Settled sc at (settle_rest sc ByItself n y o)
    after rest None e going h = rest (settled-alone sc w.sites w.book w.book.upcoming shape going h)
    after rest (Some r) e going h = record {
      waits = alone-waits sc y (settled-alone sc w.sites w.book w.book.upcoming shape going h);
      turn = λ frame f.
          let a : AfterRecord sc at y frame = turn-alone w w.book.upcoming shape going h told (ap frame_in e ∙ f) in
          record { begun = a.begun; near = a.near; going = a.going; next = a.next };
    }

    test : (IsAlone sc y.book → Settled sc at (settle sc ByItself n y)) → (b : Bool) → (comes_so sc ByItself w.book.upcoming && is_complete sc w.sites w.book.upcoming) ≡ b → w.book.ended ≡ false → needs_no_event sc w.book.upcoming ≡ true
        → Settled sc at (settle sc ByItself (suc n) w)
    test rest false e going h =
        let still : settle_next sc ByItself w ≡ w = ap (λ b. elim b as (λ _. World) [ true ↦ y | false ↦ w ]) e in
        subst (Settled sc at) (sym (settle-still sc ByItself (suc n) still)) (still-settled at w (alone-waits sc w (inr h)))
    test rest true e going h =
        let next : settle_next sc ByItself w ≡ y = ap (λ b. elim b as (λ _. World) [ true ↦ y | false ↦ w ]) e in
        subst (Settled sc at) (sym (ap (λ next. settle_rest sc ByItself n next (record_since w next)) next)) (after rest (record_since w y) refl going h)

    by : (IsAlone sc y.book → Settled sc at (settle sc ByItself n y)) → (b : Bool) → w.book.ended ≡ b → IsAlone sc w.book → Settled sc at (settle sc ByItself (suc n) w)
    by rest true e alone = subst (Settled sc at) (sym (settle-still sc ByItself (suc n) (ended-still sc ByItself w e))) (still-settled at w (alone-waits sc w (inl e)))
    by rest false e (inl over) = true-false (sym over ∙ e)
    by rest false e (inr h) = test rest (comes_so sc ByItself w.book.upcoming && is_complete sc w.sites w.book.upcoming) refl e h

-- what is given without an event
pub go-on-settled : {sc : Scenario} {hands : List HandIn} {at : Side → ℕ → ℕ} (n : ℕ) (w : World) → IsShape sc.sizes → AllTold sc hands at w.sites → Waits sc w
    → Settled sc at (settle sc ByItself n w)
go-on-settled {sc} {at} n w shape told waits = by (needs_no_event sc w.book.upcoming) refl
  where
    of : (m : Milestone) → needs_no_event sc m ≡ false → comes_so sc ByItself m ≡ false
    of (Begin frame) h = h
    of (Stage place) h = h
    of End h = h

    by : (b : Bool) → needs_no_event sc w.book.upcoming ≡ b → Settled sc at (settle sc ByItself n w)
    by true e = alone-settled n w shape told (inr e)
    by false e =
        let still : settle_next sc ByItself w ≡ w =
        ap (λ b. elim (b && is_complete sc w.sites w.book.upcoming) as (λ _. World) [ true ↦ next_world sc w w.book.upcoming | false ↦ w ]) (of w.book.upcoming e) in
        subst (Settled sc at) (sym (settle-still sc ByItself n still)) (still-settled at w waits)
