-- Records come in the order of frames: once one of a later frame is given, all is told of a frame.
use Rattle.std.proofs.{Common.{◌≡◌, ℕ, zero, suc, ◌+◌, ◌-◌, ◌*◌, ◌/◌, ◌%◌, ◌<◌, ◌≤◌, ◌==◌, ◌&&◌, ◌⊎◌, nat_lt, Bool, true, false, inl, inr, Option, Some, None, List, [], ◌∷◌, ◌++◌, if◌then◌else◌, refl, sym, ◌∙◌, ap, subst, arith}, Math.Nat.add-sub_of_le, lemmas.Bool.{cases_lt, eqb-true, ltb-true}, lemmas.List.append-nil}
use Rattle.rb_base.specs.{Sizes.sync_slot_of, declared.values.Place.Place}
use Rattle.rb_rules.specs.{declared.cause.Cause.Cause, Book.{Begun, Book, Each, Record, Row, after_verdict, frame_records, fresh_book, judged_of, with_end, with_frame, with_stage}, Book.Milestone.{End, Stage}, Book.Record.{Breach, Ended, Slot}, Goodness.Scenario, Judging.{JudgedStage, verdict_of}, Ports.HandIn, Rounds.{Moment, begin_frame, moment, step, steps_of, windows_in}}
use Rattle.rb_rules.proofs.Books.{records-are, stepped}
use Rattle.rb_laws_events.proofs.HandedMoments.{before-frame}
use Rattle.rb_laws_agreement.proofs.{JudgedWindows.rows_of, NextMoments.{next, book_exact}, SlotRuns.next-frame, SyncAgrees.{book_sync, book_tail}}
use Rattle.rb_group.specs.Portions.{port_deliveries}
use Rattle.rb_rules_bridge.specs.Texts.{break_in}
use Rattle.rb_laws_bridge.specs.Laws.{FramesAreToldInOrder, ends_run, frame_told}
use Rattle.rb_laws_bridge.proofs.{Breaks.{break-after, broken_in}, Later.{past_frame, told-after}}

-- What a step adds.

-- the second book has one more record, `r`, of a frame that is at most `frame`, and after each
-- earlier one of the run
record HasOneMore (sc : Scenario) (frame : ℕ) (a b : Book) (r : Record) : Type 0 where
  pub given : b.given ≡ a.given ++ r ∷ []
  pub upper : frame_told sc.frames r ≤ frame
  pub lower : (f : ℕ) → f < frame → f < sc.frames → f < frame_told sc.frames r
  pub ends : ends_run r ≡ true → b.ended ≡ true

-- the second book has the same records, or one more
abbrev AddsOne : Scenario → ℕ → Book → Book → Type 0
AddsOne sc frame a b = (b.given ≡ a.given) ⊎ ((r : Record) × HasOneMore sc frame a b r)

goes-on : false ≡ true → (e : Bool) → e ≡ true
goes-on never e = absurd (cc)

stage-adds : (sc : Scenario) (place : Place) (rows : Each (Option Row)) (b : Book) → AddsOne sc place.frame b (with_stage sc place rows b)
unfolding with_stage
stage-adds sc place rows b = by b.ended (verdict_of stages)
  where
    stages : List JudgedStage
    stages = judged_of sc place rows ∷ b.stages

    slots : (c : Bool) (x : Book) → x.given ≡ b.given ++ (if c then Slot place.frame place.slot b.lines ∷ [] else []) → AddsOne sc place.frame b x
    slots true x e = inr (Slot place.frame place.slot b.lines, record { given = e; upper = omega arith; lower = λ f lt small. lt; ends = λ last. goes-on last x.ended })
    slots false x e = inl (e ∙ append-nil b.given)

    by : (e : Bool) (v : Option Cause) → AddsOne sc place.frame b (elim e as (λ _. Book) [ true ↦ b | false ↦ after_verdict sc.sizes place rows stages b v ])
    by true v = inl refl
    by false None = slots ((place.stage == 3) && nat_lt place.slot (sync_slot_of sc.sizes)) _ refl
    by false (Some cause) = inr (Breach place cause, record { given = refl; upper = omega arith; lower = λ f lt small. lt; ends = λ last. refl })

frame-adds : (sc : Scenario) (begins : ℕ) (begun : List Begun) (b : Book) → AddsOne sc begins b (with_frame sc begins begun b)
unfolding with_frame
frame-adds sc begins begun b = by b.ended
  where
    nodes : (xs : List Begun) (y : Book) → y.given ≡ b.given ++ frame_records begins xs → AddsOne sc begins b y
    nodes [] y e = inl (e ∙ append-nil b.given)
    nodes (x ∷ xs) y e = inr (_, record { given = e; upper = omega arith; lower = λ f lt small. lt; ends = λ last. goes-on last y.ended })

    by : (e : Bool) → AddsOne sc begins b (elim e as (λ _. Book) [
      | true ↦ b
      | false ↦ record {
        upcoming = if begins == sc.frames then End else Stage (record { frame = begins; slot = 0; stage = 1 });
        stages = [];
        lines = [];
        given = b.given ++ frame_records begins begun;
        ended = false;
      }
    ])
    by true = inl refl
    by false = nodes begun _ refl

end-adds : (sc : Scenario) (b : Book) (frame : ℕ) → sc.frames ≤ frame → AddsOne sc frame b (with_end b)
end-adds sc b frame late = by b.ended
  where
    by : (e : Bool) → AddsOne sc frame b (elim e as (λ _. Book) [ true ↦ b | false ↦ record b { given = b.given ++ Ended ∷ []; ended = true } ])
    by true = inl refl
    by false = inr (Ended, record { given = refl; upper = late; lower = λ f lt small. small; ends = λ last. refl })

window-adds : (sc : Scenario) (m : Moment) → m.window < windows_in sc.sizes → AddsOne sc m.frame m.book (next sc m).book
window-adds sc m inside =
    elim (cases_lt m.window (3 * sync_slot_of sc.sizes)) [
      | inl exact ↦
          let slot : ℕ = m.window / 3 in
          let q : ℕ = m.window % 3 in
          subst (AddsOne sc m.frame m.book) (sym (book_exact sc m slot q (omega arith) (omega arith) (omega arith)))
          (stage-adds sc (record { frame = m.frame; slot = slot; stage = q + 1 }) (rows_of sc m) m.book)
      | inr late ↦ elim (cases_lt m.window (3 * sync_slot_of sc.sizes + 3)) [
        | inl stage ↦
            let q : ℕ = m.window - 3 * sync_slot_of sc.sizes in
            subst (AddsOne sc m.frame m.book) (sym (book_sync sc m q (omega arith) (omega arith)))
            (stage-adds sc (record { frame = m.frame; slot = sync_slot_of sc.sizes; stage = q + 1 }) (rows_of sc m) m.book)
        | inr tail ↦ subst (AddsOne sc m.frame m.book) (sym (book_tail sc m (omega arith))) (inl refl)
      ]
    ]

stepped-adds : (sc : Scenario) (hands : List HandIn) (m : Moment) (over in_frame : Bool) → (m.frame == sc.frames) ≡ over → nat_lt m.window (windows_in sc.sizes) ≡ in_frame
    → AddsOne sc (stepped sc hands m over in_frame).frame m.book (stepped sc hands m over in_frame).book
unfolding begin_frame
stepped-adds sc hands m true true e f =
    end-adds sc m.book (next sc m).frame (let same : m.frame ≡ sc.frames = eqb-true m.frame sc.frames e in let is : (next sc m).frame ≡ m.frame = next-frame sc m in omega (arith, same, is))
stepped-adds sc hands m true false e f = end-adds sc m.book (m.frame + 1) (let same : m.frame ≡ sc.frames = eqb-true m.frame sc.frames e in omega (arith, same))
stepped-adds sc hands m false true e f =
    subst (λ frame. AddsOne sc frame m.book (next sc m).book) (sym (next-frame sc m)) (window-adds sc m (ltb-true m.window (windows_in sc.sizes) f))
stepped-adds sc hands m false false e f = frame-adds sc (m.frame + 1) _ m.book

step-adds : (sc : Scenario) (hands : List HandIn) (m : Moment) → AddsOne sc (step sc hands m).frame m.book (step sc hands m).book
unfolding step
step-adds sc hands m = stepped-adds sc hands m (m.frame == sc.frames) (nat_lt m.window (windows_in sc.sizes)) refl refl

first-adds : (sc : Scenario) (hands : List HandIn) → AddsOne sc (moment sc hands 0).frame fresh_book (moment sc hands 0).book
unfolding begin_frame
first-adds sc hands = frame-adds sc 0 _ fresh_book

-- The moment of a record.

-- in a list that ends with `s`, item `r` is the last one or comes before it
pub split-last : {X : Type 0} (xs : List X) (r : X) (rest given : List X) (s : X) → given ++ s ∷ [] ≡ xs ++ r ∷ rest
    → ((rest ≡ []) × (r ≡ s)) ⊎ ((more : List X) × (given ≡ xs ++ r ∷ more))
split-last [] r rest [] s e = inl (let t : rest ≡ [] = cc in t, let h : r ≡ s = cc in h)
split-last [] r rest (g ∷ gs) s e = inr (gs, let h : g ≡ r = cc in ap (λ x. x ∷ gs) h)
split-last {X} (x ∷ xs) r rest [] s e = absurd (none xs (let t : [] ≡ xs ++ r ∷ rest = cc in t))
  where
    none : (ys : List X) → [] ≡ ys ++ r ∷ rest → ⊥
    none [] e = cc
    none (y ∷ ys) e = cc
split-last {X} (x ∷ xs) r rest (g ∷ gs) s e =
    elim (split-last xs r rest gs s (let t : gs ++ s ∷ [] ≡ xs ++ r ∷ rest = cc in t)) [
      | inl last ↦ inl last
      | inr more ↦ inr (more.0, let h : g ≡ x = cc in ap (λ y. y ∷ gs) h ∙ ap (λ ys. x ∷ ys) more.1)
    ]

-- moment `at` is the one with which the last of these records, `r`, was given
pub record IsGivenAt (sc : Scenario) (hands : List HandIn) (records : List Record) (r : Record) (n : ℕ) : Type 0 where
  pub at : ℕ
  pub early : at ≤ n
  pub given : (moment sc hands at).book.given ≡ records ++ r ∷ []
  pub frame : frame_told sc.frames r ≤ (moment sc hands at).frame
  pub lower : (f : ℕ) → f < (moment sc hands at).frame → f < sc.frames → f < frame_told sc.frames r
  pub ends : ends_run r ≡ true → (moment sc hands at).book.ended ≡ true

added-at : {sc : _} (hands : List HandIn) (records rest : List Record) {a : _} (r : Record) {s : _} (n at : ℕ) → at ≤ n
    → HasOneMore sc (moment sc hands at).frame a (moment sc hands at).book s → (moment sc hands at).book.given ≡ records ++ r ∷ rest
    → ((more : List Record) → a.given ≡ records ++ r ∷ more → IsGivenAt sc hands records r n) → IsGivenAt sc hands records r n
added-at {sc} hands records rest {a} r {s} n at early one are earlier =
    elim (split-last records r rest a.given s (sym one.given ∙ are)) [
      | inl last ↦
          let this : HasOneMore sc (moment sc hands at).frame a (moment sc hands at).book r = subst (HasOneMore sc (moment sc hands at).frame a (moment sc hands at).book) (sym last.1) one in
          record { at = at; early = early; given = are ∙ ap (λ l. records ++ r ∷ l) last.0; frame = this.upper; lower = this.lower; ends = this.ends }
      | inr more ↦ earlier more.0 more.1
    ]

given-later : {sc hands records r n : _} → IsGivenAt sc hands records r n → IsGivenAt sc hands records r (suc n)
given-later {n} is = record { at = is.at; early = up is.at n is.early; given = is.given; frame = is.frame; lower = is.lower; ends = is.ends }
  where
    up : (a n : ℕ) → a ≤ n → a ≤ suc n
    up a n h = omega (arith, h)

pub given-at : (sc : Scenario) (hands : List HandIn) (records rest : List Record) (r : Record) (n : ℕ) → (moment sc hands n).book.given ≡ records ++ r ∷ rest
    → IsGivenAt sc hands records r n
given-at sc hands records rest r zero are =
    elim (first-adds sc hands) [
      | inl none ↦ absurd (empty records rest (sym none ∙ are))
      | inr one ↦ added-at hands records rest r 0 0 (omega arith) one.1 are (λ more e. absurd (empty records more e))
    ]
  where
    empty : (ys zs : List Record) → [] ≡ ys ++ r ∷ zs → ⊥
    empty [] zs e = cc
    empty (y ∷ ys) zs e = cc
given-at sc hands records rest r (suc n) are =
    elim (step-adds sc hands (moment sc hands n)) [
      | inl same ↦ given-later (given-at sc hands records rest r n (sym same ∙ are))
      | inr one ↦
          added-at hands records rest r (suc n) (suc n) (omega arith) one.1 are
          (λ more e. given-later (given-at sc hands records more r n e))
    ]

-- All records are told in order.

pub told-in-order : FramesAreToldInOrder
told-in-order sc hands records rest r frame are later =
    let n : ℕ = steps_of sc in
    let g : IsGivenAt sc hands records r n = given-at sc hands records rest r n (sym (records-are sc hands) ∙ are) in
    let past : past_frame sc frame ≤ g.at + 1 = reached g.at g.frame in
    let is : g.at + (n - g.at) ≡ n = add-sub_of_le g.early in
    record {
      deliveries = λ receiver.
          ap (port_deliveries frame receiver) (sym g.given) ∙ sym (told-after sc hands frame receiver g.at (n - g.at) past)
          ∙ ap (λ k. port_deliveries frame receiver (moment sc hands k).book.given) is ∙ ap (port_deliveries frame receiver) (sym (records-are sc hands));
      breach = λ bank.
          ap (break_in bank frame) (sym g.given) ∙ sym (break-after sc hands bank frame g.at (n - g.at) past)
          ∙ ap (λ k. broken_in bank frame (moment sc hands k).book) is ∙ ap (break_in bank frame) (sym (records-are sc hands));
    }
  where
    reached : (at : ℕ) → frame_told sc.frames r ≤ (moment sc hands at).frame → past_frame sc frame ≤ at + 1
    reached at le =
        elim (cases_lt at (past_frame sc frame)) [
          | inr ge ↦ omega (arith, ge)
          | inl early ↦
              let before : (moment sc hands at).frame < frame + 1 = before-frame sc hands at (frame + 1) early in
              absurd (omega (arith, before, le, later))
        ]
