-- A frame begins with its record. If no BIU is good at its start, the run ends there.
use Rattle.std.proofs.{Common.{◌≡◌, ℕ, zero, suc, ◌+◌, ◌-◌, ◌*◌, ◌<◌, ◌≤◌, ◌==◌, nat_lt, Bool, true, false, inl, inr, Option, Some, None, List, [], ◌∷◌, ◌++◌, append_assoc, length, slice_get, option_map, refl, sym, ◌∙◌, ap, subst, arith}, Math.Nat.add-sub_of_le, lemmas.Bool.{cases_lt, le-ltb, lt-ltb}, lemmas.Bool.Decides.nat_tests, lemmas.List.append-nil}
use Rattle.rb_base.specs.{Nodes.Side.{Biu, Rmu}, Sizes.sync_slot_of, declared.values.Place.Place, Nodes.Side}
use Rattle.rb_rules.specs.{declared.cause.Cause.TheVariants.FewGoodBiu, Book.{Begun, Book, Each, Record, Row, after_verdict, in_order, judged_of, map_each, map_from, of_kind, with_end, with_frame, with_stage}, Book.Record.{Breach, Ended}, ExactStage.present, Goodness.{Scenario, good_at, is_good}, Hearing.{begun_of, epoch_of}, Judging.{JudgedStage, verdict_of}, NodeState.NodeState, NodeSteps.turn_if_known, Ports.HandIn, Rounds.{Moment, begin_frame, begun_if_good, moment, step, steps_of, windows_in}, Slots.count_of, WorldStep.frame_in}
use Rattle.rb_rules.proofs.{Books.{GoesOn, moments-on, records-are, stepped}, WindowNumbers.get-each}
use Rattle.rb_laws_events.proofs.{CloseOrder.{frame-later, IsFrameLater}, GivenAlone.breach-alone, HandedMoments.{before-frame, place-of}, RoundNodes.{AllStand, item-at, moments-stand}, SettledOnce.{FrameGiven, frame-given}, Waiting.no-good}
use Rattle.rb_laws_agreement.proofs.{JudgedWindows.rows_of, NextMoments.book_exact, Goodnesses.good_counts, ExactAgrees.has_ticks}
use Rattle.rb_laws_bridge.specs.Laws.{BeginsOrEnds, FramesBeginInOrder, ends_run, frame_told}
use Rattle.rb_laws_bridge.proofs.Ordered.{IsGivenAt, given-at, split-last}

-- A stage without a good BIU is a breach.

stage-gives : (sc : Scenario) (place : Place) (rows : Each (Option Row)) (b : Book) → b.ended ≡ false → good_at sc Biu place.frame place.slot ≡ 0
    → (with_stage sc place rows b).given ≡ b.given ++ Breach place FewGoodBiu ∷ []
unfolding with_stage
stage-gives sc place rows b going none =
    let stages : List JudgedStage = judged_of sc place rows ∷ b.stages in
    ap (λ e. (elim e as (λ _. Book) [ true ↦ b | false ↦ after_verdict sc.sizes place rows stages b (verdict_of stages) ]).given) going
    ∙ ap (λ v. (after_verdict sc.sizes place rows stages b v).given) (breach-alone b.stages (judged_of sc place rows) none)

end-gives : (b : Book) → b.ended ≡ false → (with_end b).given ≡ b.given ++ Ended ∷ []
end-gives b going = ap (λ e. (elim e as (λ _. Book) [ true ↦ b | false ↦ record b { given = b.given ++ Ended ∷ []; ended = true } ]).given) going

-- The start of a frame.

-- what is told of the start of the next frame by the nodes that start it
abbrev begun_next : Scenario → Moment → List Begun
begun_next sc m =
    present (in_order (map_each (begun_if_good sc (m.frame + 1) m.ports) (map_each (λ me i st. turn_if_known sc.sizes sc.plan me st) m.nodes)))

frame-book : (sc : Scenario) (hands : List HandIn) (m : Moment) → windows_in sc.sizes ≤ m.window → (m.frame == sc.frames) ≡ false
    → (step sc hands m).book ≡ with_frame sc (m.frame + 1) (begun_next sc m) m.book
unfolding step begin_frame
frame-book sc hands m over not_last =
    ap (λ b. (stepped sc hands m b (nat_lt m.window (windows_in sc.sizes))).book) not_last
    ∙ ap (λ b. (stepped sc hands m false b).book) (le-ltb m.window (windows_in sc.sizes) over)

none-present : {X : Type 0} (xs ys : List (Option X)) (i : ℕ) (x : X) → present (xs ++ ys) ≡ [] → slice_get xs i ≡ Some (Some x) → ⊥
none-present [] ys i x e at = cc
none-present (None ∷ xs) ys zero x e at = cc
none-present (None ∷ xs) ys (suc i) x e at = none-present xs ys i x e at
none-present (Some y ∷ xs) ys i x e at = cc

-- if no BIU tells of the next frame, no BIU is good at its start
nobody-begins : {sc m : _} → AllStand sc m → begun_next sc m ≡ [] → (i : ℕ) → is_good sc Biu i (m.frame + 1) 0 ≡ false
nobody-begins {sc} {m} stand none i = by (is_good sc Biu i (m.frame + 1) 0) refl
  where
    turned : Side → ℕ → NodeState → NodeState
    turned me i st = turn_if_known sc.sizes sc.plan me st

    make : Side → ℕ → NodeState → Option Begun
    make = begun_if_good sc (m.frame + 1) m.ports

    by : (b : Bool) → is_good sc Biu i (m.frame + 1) 0 ≡ b → is_good sc Biu i (m.frame + 1) 0 ≡ false
    by false e = e
    by true e =
        let counted : i < count_of Biu sc.sizes = good_counts sc Biu i (m.frame + 1) 0 e in
        let many : length m.nodes.bius ≡ count_of Biu sc.sizes = stand.counts Biu in
        let node = item-at m.nodes.bius i (omega (arith, counted, many)) in
        let st : NodeState = turned Biu i node.0 in
        let at : slice_get (map_from 0 (make Biu) (map_from 0 (turned Biu) m.nodes.bius)) i ≡ Some (make Biu i st) =
        get-each make (map_each turned m.nodes) Biu i ∙ ap (option_map (make Biu i)) (get-each turned m.nodes Biu i ∙ ap (option_map (turned Biu i)) node.1) in
        let some : make Biu i st ≡ Some (begun_of sc m.ports Biu i (epoch_of sc.sizes Biu st)) =
        ap (λ b. elim b as (λ _. Option Begun) [ true ↦ Some (begun_of sc m.ports Biu i (epoch_of sc.sizes Biu st)) | false ↦ None ]) e in
        absurd (none-present (map_from 0 (make Biu) (map_from 0 (turned Biu) m.nodes.bius)) (of_kind Rmu (map_each make (map_each turned m.nodes))) i _ none (at ∙ ap Some some))

-- A step of an empty frame.

-- a list with one record more, with which the run ends
record AddsLast (sc : Scenario) (frame : ℕ) (before after : List Record) : Type 0 where
  pub last : Record
  pub added : after ≡ before ++ last ∷ []
  pub its : frame_told sc.frames last ≡ frame
  pub ends : ends_run last ≡ true

empty-gives : (sc : Scenario) (hands : List HandIn) (m : Moment) (over : Bool) → (m.frame == sc.frames) ≡ over → m.window ≡ 0 → m.book.ended ≡ false
    → good_at sc Biu m.frame 0 ≡ 0 → 0 < sync_slot_of sc.sizes → AddsLast sc m.frame m.book.given (step sc hands m).book.given
unfolding step
empty-gives sc hands m true e first going none some =
    let same : m.frame ≡ sc.frames = grind (arith, nat_tests) in
    record {
      last = Ended;
      added = ap (λ b. (stepped sc hands m b (nat_lt m.window (windows_in sc.sizes))).book.given) e ∙ end-gives m.book going;
      its = sym same;
      ends = refl;
    }
empty-gives sc hands m false e first going none some =
    let inside : nat_lt m.window (windows_in sc.sizes) ≡ true = lt-ltb m.window (windows_in sc.sizes) (omega (arith, first)) in
    record {
      last = Breach (record { frame = m.frame; slot = 0; stage = 1 }) FewGoodBiu;
      added =
          ap (λ b. (stepped sc hands m b (nat_lt m.window (windows_in sc.sizes))).book.given) e
          ∙ ap (λ b. (stepped sc hands m false b).book.given) inside
          ∙ ap (λ (b : Book). b.given) (book_exact sc m 0 0 some (omega arith) (omega (arith, first)))
          ∙ stage-gives sc (record { frame = m.frame; slot = 0; stage = 1 }) (rows_of sc m) m.book going none;
      its = refl;
      ends = refl;
    }

-- The first record of a later frame.

pub begins-or-ends : FramesBeginInOrder
begins-or-ends sc lawful hands records rest r frame are upto later below = by m.book.ended refl
  where
    w : ℕ
    w = windows_in sc.sizes

    -- the last moment of the frame
    e : ℕ
    e = frame * (w + 1) + w

    m : Moment
    m = moment sc hands e

    x : Moment
    x = moment sc hands (suc e)

    one-more : (a n : ℕ) → (a + 1) * n ≡ a * n + n
    one-more a n = omega arith

    past : (frame + 1) * (w + 1) ≡ suc e
    past = let more : (frame + 1) * (w + 1) ≡ frame * (w + 1) + (w + 1) = one-more frame (w + 1) in omega (arith, more)

    place : (m.frame ≡ frame) × (m.window ≡ w)
    place = place-of sc hands e frame w refl (omega arith)

    g : IsGivenAt sc hands records r (steps_of sc)
    g = given-at sc hands records rest r (steps_of sc) (sym (records-are sc hands) ∙ are)

    too-early : (at : ℕ) → at ≤ e → frame_told sc.frames r ≤ (moment sc hands at).frame → ⊥
    too-early at le told =
        let before : (moment sc hands at).frame < frame + 1 = before-frame sc hands at (frame + 1) (omega (arith, le, past)) in
        omega (arith, before, told, later)

    late : suc e ≤ g.at
    late = elim (cases_lt e g.at) [ inl lt ↦ omega (arith, lt) | inr le ↦ absurd (too-early g.at le g.frame) ]

    not-early : (tail : List Record) → m.book.given ≡ records ++ r ∷ tail → ⊥
    not-early tail is = let h : IsGivenAt sc hands records r e = given-at sc hands records tail r e is in too-early h.at h.early h.frame

    on : (n : ℕ) → n ≤ g.at → GoesOn (moment sc hands n).book (moment sc hands g.at).book
    on n le = let k : n + (g.at - n) ≡ g.at = add-sub_of_le le in subst (λ k. GoesOn (moment sc hands n).book (moment sc hands k).book) k (moments-on sc hands n (g.at - n))

    first-is : (xs more : List Record) (y : Record) → records ++ r ∷ [] ≡ xs ++ y ∷ more → frame < frame_told sc.frames y → y ≡ r
    first-is xs more y is after = elim (split-last xs y more records r is) [
      | inl last ↦ last.1
      | inr inside ↦ let early : frame_told sc.frames y ≤ frame = upto xs inside.0 y inside.1 in absurd (omega (arith, early, after))
    ]

    -- if a moment's last record is of a later frame, and no moment is after `g`, it is `r`
    reached-by : (n : ℕ) → n ≤ g.at → (xs : List Record) (y : Record) → (moment sc hands n).book.given ≡ xs ++ y ∷ [] → frame < frame_told sc.frames y → y ≡ r
    reached-by n le xs y is after =
        let more = (on n le).more in
        first-is xs more.0 y (sym g.given ∙ more.1 ∙ ap (λ l. l ++ more.0) is ∙ append_assoc xs (y ∷ []) more.0) after

    not-last : (m.frame == sc.frames) ≡ false
    not-last = let at : m.frame ≡ frame = place.0 in grind (arith, nat_tests)

    begins : IsFrameLater sc hands m x
    begins = frame-later sc hands m (let at : m.window ≡ w = place.1 in omega (arith, at))

    book : x.book ≡ with_frame sc (m.frame + 1) (begun_next sc m) m.book
    book = frame-book sc hands m (let at : m.window ≡ w = place.1 in omega (arith, at)) not-last

    next : x.frame ≡ frame + 1
    next = begins.frame ∙ ap (λ f. f + 1) place.0

    empty : (given : FrameGiven sc (m.frame + 1) [] m.book x.book) → begun_next sc m ≡ [] → BeginsOrEnds sc (frame + 1) r
    empty given none =
        let nobody : (i : ℕ) → is_good sc Biu i (m.frame + 1) 0 ≡ false = nobody-begins (moments-stand sc hands e (has_ticks lawful)) none in
        let here : (i : ℕ) → is_good sc Biu i (frame + 1) 0 ≡ false = subst (λ f. (i : ℕ) → is_good sc Biu i (f + 1) 0 ≡ false) place.0 nobody in
        let there : (i : ℕ) → is_good sc Biu i x.frame 0 ≡ false = subst (λ f. (i : ℕ) → is_good sc Biu i f 0 ≡ false) (sym next) here in
        elim (cases_lt (suc e) g.at) [
          | inr le ↦ absurd (not-early [] (sym (given.given ∙ append-nil m.book.given) ∙ ap (λ n. (moment sc hands n).book.given) (same (suc e) g.at late le) ∙ g.given))
          | inl lt ↦
              let adds : AddsLast sc x.frame x.book.given (moment sc hands (suc (suc e))).book.given =
              empty-gives sc hands x (x.frame == sc.frames) refl begins.window given.going (no-good sc Biu x.frame 0 there) (let least : 1 ≤ sc.sizes.bius = lawful.sizes.some_biu in omega (arith, least)) in
              let its : frame_told sc.frames adds.last ≡ x.frame = adds.its in
              let last : adds.last ≡ r = reached-by (suc (suc e)) lt x.book.given adds.last adds.added (omega (arith, next, its)) in
              inr (record { nobody = here; last = ap ends_run (sym last) ∙ adds.ends; its = ap (frame_told sc.frames) (sym last) ∙ its ∙ next })
        ]
      where
        same : (a b : ℕ) → a ≤ b → b ≤ a → a ≡ b
        same a b p q = omega (arith, p, q)

    begun : (bs : List Begun) → begun_next sc m ≡ bs → m.book.ended ≡ false → BeginsOrEnds sc (frame + 1) r
    begun [] none going =
        empty (subst (λ bs. FrameGiven sc (m.frame + 1) bs m.book x.book) none (subst (FrameGiven sc (m.frame + 1) (begun_next sc m) m.book) (sym book) (frame-given sc (m.frame + 1) (begun_next sc m) m.book going))) none
    begun (b ∷ bs) some going =
        let given : FrameGiven sc (m.frame + 1) (b ∷ bs) m.book x.book =
        subst (λ bs. FrameGiven sc (m.frame + 1) bs m.book x.book) some (subst (FrameGiven sc (m.frame + 1) (begun_next sc m) m.book) (sym book) (frame-given sc (m.frame + 1) (begun_next sc m) m.book going)) in
        let at : m.frame ≡ frame = place.0 in
        let is : _ ≡ r = reached-by (suc e) late m.book.given _ given.given (omega (arith, at)) in
        inl (ap (λ r. frame_in (Some r)) (sym is) ∙ ap (λ f. Some (f + 1)) place.0)

    by : (b : Bool) → m.book.ended ≡ b → BeginsOrEnds sc (frame + 1) r
    by true over =
        let le : e ≤ g.at = (let l : suc e ≤ g.at = late in omega (arith, l)) in
        absurd (not-early [] (ap (λ (b : Book). b.given) (sym ((on e le).over over)) ∙ g.given))
    by false going = begun (begun_next sc m) refl going
