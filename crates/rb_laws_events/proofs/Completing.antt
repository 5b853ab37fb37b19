-- For the law that events are rounds: what an event completes is settled, and what comes next by an
-- event waits again. While the record of a frame's start is the turn, all nodes that are good there
-- have begun the frame, and none is beyond its second window.
use Rattle.std.proofs.{Common.{◌≡◌, ℕ, suc, ◌+◌, ◌-◌, ◌*◌, ◌%◌, ◌<◌, ◌≤◌, ◌==◌, ◌&&◌, ◌⊎◌, nat_lt, Bool, true, false, List, length, refl, ap, sym, ◌∙◌, subst, arith, inl, inr, Option, Some, None, is_some, slice_get, if◌then◌else◌}, lemmas.Bool.{and_parts, cases_lt, le-ltb, lt-ltb}, lemmas.Bool.Decides.nat_tests}
use Rattle.rb_base.specs.{Nodes.Side, declared.values.Place.Place}
use Rattle.rb_base.proofs.Plain.{true-false}
use Rattle.rb_rules.specs.{declared.message.Message.Message, Book.{Begun, Book, Each, Milestone, Row, after_stage, of_kind}, Book.Milestone.{Begin, Stage, End}, Goodness.{Scenario, is_good}, Ports.HandIn, Rounds.{Moment, moment, windows_in}, Slots.count_of, WorldStep.{Site, World, at_node, begun_for, book_with, comes_so, frame_in, is_complete, record_since, row_for, settle, settle_next, with_message}, WorldStep.Way.ByAnEvent}
use Rattle.rb_laws_events.specs.Closing.{stages_in}
use Rattle.rb_laws_events.proofs.{HandedMoments.place-of, Invariant.next_stage, MomentBooks.{next_of, number-of, place_at, settles-next, stage-book-next, stage-next, SettlesNext}, RoundNodes.slot_numbered, SettledOnce.{FrameGiven, Settled, after-frame, frame-given, none-turn, rest-still, settle-still, stage-silent, still-settled, sync-silent, waits-still}, SettlingFrames.IsOfMoment, Telling.reached-tells, ToldInOrder.{AllTold, number-is, number_at}, Waiting.{AfterRecord, Completes, Waits, begun-there, completes, is_due, row-there, stage-waits, untold}, WorldBooks.settle_rest}

-- The event.

-- an event at node i of a kind: if all nodes stand then, and what that node tells that it did not
-- tell before
pub record EventAt (sc : Scenario) (hands : List HandIn) (at now_at : Side → ℕ → ℕ) (sites now_sites : Each Site) : Type 0 where
  pub me : Side
  pub i : ℕ
  pub s : Site
  pub change : Site → Site
  pub frame : ℕ
  pub tick : ℕ
  pub message : Option Message
  pub there : slice_get (of_kind me sites) i ≡ Some s
  pub now_there : slice_get (of_kind me now_sites) i ≡ Some (change s)
  pub is : now_sites ≡ with_message sc me i frame tick message (at_node me i change sites)
  pub row : (row : Row) → (change s).row ≡ Some row → (s.row ≡ Some row) ⊎ (number_at sc.sizes row.place ≡ at me i)
  pub begun : (b : Begun) → (change s).begun ≡ Some b → (s.begun ≡ Some b) ⊎ ((b.frame * (windows_in sc.sizes + 1) ≡ at me i) × (now_at me i ≡ at me i))
  pub near : (side : Side) (j : ℕ) (z : Site) → slice_get (of_kind side now_sites) j ≡ Some z → now_at side j ≤ next_stage sc.sizes (moment sc hands (at me i)) (at me i)
  pub told : AllTold sc hands now_at now_sites
  pub counts : (side : Side) → length (of_kind side now_sites) ≡ count_of side sc.sizes

complete-of : (sc : Scenario) (sites : Each Site) (m : Milestone) → is_due sc sites m ≡ true → is_complete sc sites m ≡ true
complete-of sc sites m h = (and_parts (comes_so sc ByAnEvent m) (is_complete sc sites m) h).1

not-complete : (a b c : Bool) → (a && b) ≡ false → (a && c) ≡ true → b ≡ false
not-complete true b c h k = h
not-complete false b c h k = cc

-- a stage that an event completes is the one in which the event's node stood
stage-completed : {sc hands at now_at sites now_sites : _} (place : Place) → (event : EventAt sc hands at now_at sites now_sites)
    → is_due sc sites (Stage place) ≡ false → is_due sc now_sites (Stage place) ≡ true → number_at sc.sizes place ≡ at event.me event.i
stage-completed {sc} {sites} {now_sites} place event old new =
    let tells : Site → Option Row = λ s. row_for place s.row in
    let now : is_complete sc now_sites (Stage place) ≡ true = complete-of sc now_sites (Stage place) new in
    let c : Completes sc place.frame place.slot tells event.me event.i event.s (event.change event.s) =
    completes sc place.frame place.slot tells sites event.me event.i event.frame event.tick event.message event.change
    (λ side j z. ap (row_for place) (reached-tells sc event.me event.i event.frame event.tick event.message side j z).0) event.there
    (not-complete (comes_so sc ByAnEvent (Stage place)) (is_complete sc sites (Stage place)) (is_complete sc now_sites (Stage place)) old new)
    (sym (ap (λ sites. is_complete sc sites (Stage place)) event.is) ∙ now) in
    let row = row-there place (event.change event.s).row c.after in
    elim (event.row row.0 row.1.0) [
      | inl same ↦ true-false (sym c.after ∙ ap (λ o. is_some (row_for place o)) (row.1.0 ∙ sym same) ∙ c.before)
      | inr number ↦ sym (ap (number_at sc.sizes) row.1.1) ∙ number
    ]

-- a start of a frame that an event completes is the one at which the event's node stands
record BeginCompleted (sc : Scenario) (at now_at : Side → ℕ → ℕ) (me : Side) (i frame : ℕ) : Type 0 where
  good : is_good sc me i frame 0 ≡ true
  stood : at me i ≡ frame * (windows_in sc.sizes + 1)
  stays : now_at me i ≡ at me i

begin-completed : {sc hands at now_at sites now_sites : _} (frame : ℕ) → (event : EventAt sc hands at now_at sites now_sites)
    → is_due sc sites (Begin frame) ≡ false → is_due sc now_sites (Begin frame) ≡ true → BeginCompleted sc at now_at event.me event.i frame
begin-completed {sc} {sites} {now_sites} frame event old new =
    let tells : Site → Option Begun = λ s. begun_for frame s.begun in
    let now : is_complete sc now_sites (Begin frame) ≡ true = complete-of sc now_sites (Begin frame) new in
    let c : Completes sc frame 0 tells event.me event.i event.s (event.change event.s) =
    completes sc frame 0 tells sites event.me event.i event.frame event.tick event.message event.change
    (λ side j z. ap (begun_for frame) (reached-tells sc event.me event.i event.frame event.tick event.message side j z).1) event.there
    (not-complete (comes_so sc ByAnEvent (Begin frame)) (is_complete sc sites (Begin frame)) (is_complete sc now_sites (Begin frame)) old new)
    (sym (ap (λ sites. is_complete sc sites (Begin frame)) event.is) ∙ now) in
    let begun = begun-there frame (event.change event.s).begun c.after in
    elim (event.begun begun.0 begun.1.0) [
      | inl same ↦ true-false (sym c.after ∙ ap (λ o. is_some (begun_for frame o)) (begun.1.0 ∙ sym same) ∙ c.before)
      | inr number ↦ record { good = c.good; stood = sym number.0 ∙ ap (λ f. f * (windows_in sc.sizes + 1)) begun.1.1; stays = number.1 }
    ]

-- Milestones.

-- a stage that is settled next is that of a moment before the last frame's end
record IsStageOf (sc : Scenario) (hands : List HandIn) (place : Place) : Type 0 where
  g : ℕ
  stage : (moment sc hands g).window < stages_in sc.sizes
  place_is : place ≡ place_at sc.sizes (moment sc hands g)
  not_last : ((moment sc hands g).frame == sc.frames) ≡ false

stage-of : {sc hands b : _} (place : Place) → IsOfMoment sc hands b → b.ended ≡ false → b.upcoming ≡ Stage place → IsStageOf sc hands place
unfolding SettlesNext
stage-of {b} place (inl fresh) going up = absurd (other (sym (ap (λ (b : Book). b.upcoming) fresh) ∙ up))
  where
    other : Begin 0 ≡ Stage place → ⊥
    other e = cc
stage-of {sc} {hands} {b} place (inr at) going up =
    let m : Moment = moment sc hands at.0 in
    let next : Stage place ≡ next_of sc m.frame m.window =
    sym up ∙ ap (λ (b : Book). b.upcoming) at.1 ∙ settles-next sc hands at.0 (sym (ap (λ (b : Book). b.ended) at.1) ∙ going) in
    by (nat_lt m.window (stages_in sc.sizes)) (m.frame == sc.frames) refl refl next
  where
    less : (a b : ℕ) → nat_lt a b ≡ true → a < b
    less a b h = grind (arith, nat_tests)

    by : (p q : Bool) → nat_lt (moment sc hands at.0).window (stages_in sc.sizes) ≡ p → ((moment sc hands at.0).frame == sc.frames) ≡ q
        → Stage place ≡ (if p then (if q then End else Stage (place_at sc.sizes (moment sc hands at.0))) else Begin ((moment sc hands at.0).frame + 1)) → IsStageOf sc hands place
    by true true f h e = cc
    by true false f h e = record { g = at.0; stage = less (moment sc hands at.0).window (stages_in sc.sizes) f; place_is = cc; not_last = h }
    by false q f h e = cc

-- if a moment's stage is not the last of the frame, the next stage is the next moment
next-stage-is : (sc : Scenario) (hands : List HandIn) (g : ℕ) → (moment sc hands g).window + 1 < stages_in sc.sizes → next_stage sc.sizes (moment sc hands g) g ≡ g + 1
next-stage-is sc hands g inner =
    ap (λ b. g + (if b then 1 else windows_in sc.sizes + 1 - (moment sc hands g).window)) (lt-ltb ((moment sc hands g).window + 1) (stages_in sc.sizes) inner)

next-frame-is : (sc : Scenario) (hands : List HandIn) (g : ℕ) → (moment sc hands g).window + 1 ≡ stages_in sc.sizes
    → next_stage sc.sizes (moment sc hands g) g ≡ ((moment sc hands g).frame + 1) * (windows_in sc.sizes + 1)
next-frame-is sc hands g outer =
    let m : Moment = moment sc hands g in
    let is : next_stage sc.sizes m g ≡ g + (windows_in sc.sizes + 1 - m.window) =
    ap (λ b. g + (if b then 1 else windows_in sc.sizes + 1 - m.window)) (le-ltb (m.window + 1) (stages_in sc.sizes) (omega (arith, outer))) in
    let number = number-of sc hands g in
    let more : (m.frame + 1) * (windows_in sc.sizes + 1) ≡ m.frame * (windows_in sc.sizes + 1) + (windows_in sc.sizes + 1) = one-more m.frame (windows_in sc.sizes + 1) in
    omega (arith, is, number.0, number.1, more)
  where
    one-more : (a n : ℕ) → (a + 1) * n ≡ a * n + n
    one-more a n = omega arith

-- after a frame's start its first stage waits for a node that has only begun
first-waits : (sc : Scenario) (hands : List HandIn) (at : Side → ℕ → ℕ) (sites : Each Site) {m : _} (frame : ℕ)
    → m ≡ (if frame == sc.frames then End else Stage (record { frame = frame; slot = 0; stage = 1 }))
    → is_due sc sites (Stage (record { frame = frame; slot = 0; stage = 1 })) ≡ false → is_due sc sites m ≡ false
first-waits sc hands at sites frame is first = ap (is_due sc sites) is ∙ by (frame == sc.frames)
  where
    by : (b : Bool) → is_due sc sites (if b then End else Stage (record { frame = frame; slot = 0; stage = 1 })) ≡ false
    by true = refl
    by false = first

-- The whole step.

abbrev pub next_world : Scenario → World → Milestone → World
next_world sc x m = record x { book = book_with sc x.sites x.book m }

next-is : (sc : Scenario) (x : World) {m : _} → x.book.upcoming ≡ m → is_due sc x.sites m ≡ true → settle_next sc ByAnEvent x ≡ next_world sc x m
next-is sc x {m} up due =
    ap (λ m. elim (is_due sc x.sites m) as (λ _. World) [ true ↦ next_world sc x m | false ↦ x ]) up
    ∙ ap (λ b. elim b as (λ _. World) [ true ↦ next_world sc x m | false ↦ x ]) due

settle-is : (sc : Scenario) (n : ℕ) (x : World) {y : _} → settle_next sc ByAnEvent x ≡ y → settle sc ByAnEvent (suc n) x ≡ settle_rest sc ByAnEvent n y (record_since x y)
settle-is sc n x e = ap (λ next. settle_rest sc ByAnEvent n next (record_since x next)) e

-- if what comes after the first milestone waits, only that milestone is settled
one-settled : {sc : _} (at : Side → ℕ → ℕ) (n : ℕ) (x : World) {y : _} → settle_next sc ByAnEvent x ≡ y → Waits sc y
    → ((frame : ℕ) → frame_in (record_since x y) ≡ Some frame → AfterRecord sc at y frame) → Settled sc at (settle sc ByAnEvent (suc n) x)
one-settled {sc} at n x {y} e waits turn =
    let is : settle sc ByAnEvent (suc n) x ≡ record y { turn = record_since x y } =
    settle-is sc n x e ∙ rest-still sc ByAnEvent n (record_since x y) (waits-still sc waits) in
    subst (Settled sc at) (sym is) (record {
      waits = waits;
      turn = λ frame e.
          let a : AfterRecord sc at y frame = turn frame e in
          record { begun = a.begun; near = a.near; going = a.going; next = a.next };
    })

begin-settled : (sc : Scenario) (hands : List HandIn) (at : Side → ℕ → ℕ) (n : ℕ) (x : World) (frame : ℕ) → x.book.ended ≡ false → x.book.upcoming ≡ Begin frame
    → is_due sc x.sites (Begin frame) ≡ true → is_due sc x.sites (Stage (record { frame = frame; slot = 0; stage = 1 })) ≡ false
    → ((me : Side) (i : ℕ) (s : Site) → slice_get (of_kind me x.sites) i ≡ Some s → at me i ≤ frame * (windows_in sc.sizes + 1) + 1)
    → Settled sc at (settle sc ByAnEvent (suc n) x)
begin-settled sc hands at n x frame going up due first near =
    let y : World = next_world sc x (Begin frame) in
    let given : FrameGiven sc frame _ x.book y.book = frame-given sc frame _ x.book going in
    one-settled at n x (next-is sc x up due) (λ e. first-waits sc hands at x.sites frame given.next first)
    (λ its e. after-frame sc hands at y frame _ x.book going refl (complete-of sc x.sites (Begin frame) due) near e)

stage-settled-next : {sc hands at now_at sites : _} (x : World) (place : Place) → EventAt sc hands at now_at sites x.sites
    → x.book.ended ≡ false → IsOfMoment sc hands x.book → x.book.upcoming ≡ Stage place → is_due sc sites (Stage place) ≡ false → is_due sc x.sites (Stage place) ≡ true
    → Settled sc now_at (settle sc ByAnEvent 2 x)
stage-settled-next {sc} {hands} {at} {now_at} x place event going is up old due =
    let y : World = next_world sc x (Stage place) in
    let stage : IsStageOf sc hands place = stage-of place is going up in
    let g : ℕ = stage.g in
    let m : Moment = moment sc hands g in
    let stood : g ≡ at event.me event.i =
    sym (number-is sc hands g stage.stage) ∙ sym (ap (number_at sc.sizes) stage.place_is) ∙ stage-completed place event old due in
    let near : (me : Side) (i : ℕ) (s : Site) → slice_get (of_kind me x.sites) i ≡ Some s → now_at me i ≤ next_stage sc.sizes m g =
    λ me i s there. subst (λ p. now_at me i ≤ next_stage sc.sizes (moment sc hands p) p) (sym stood) (event.near me i s there) in
    let silent : (frame : ℕ) → frame_in (record_since x y) ≡ Some frame → AfterRecord sc now_at y frame =
    λ frame e. none-turn (sym (stage-silent sc place _ x.book) ∙ e) in
    let next : settle_next sc ByAnEvent x ≡ y = next-is sc x up due in
    let by : (b : Bool) → y.book.ended ≡ b → Settled sc now_at (settle sc ByAnEvent 2 x) =
    λ b. elim b as (λ b. y.book.ended ≡ b → Settled sc now_at (settle sc ByAnEvent 2 x)) [
      | true ↦ λ e. one-settled now_at 1 x next (λ on. true-false (sym e ∙ on)) silent
      | false ↦ λ e.
          let upcoming : y.book.upcoming ≡ next_of sc m.frame (m.window + 1) =
          stage-book-next sc place _ x.book e ∙ ap (after_stage sc.sizes) stage.place_is ∙ stage-next sc m.frame m.window stage.stage stage.not_last in
          elim (cases_lt (m.window + 1) (stages_in sc.sizes)) [
            | inl inner ↦
                let place2 : Place = record { frame = m.frame; slot = slot_numbered sc.sizes (m.window + 1); stage = (m.window + 1) % 3 + 1 } in
                let up2 : y.book.upcoming ≡ Stage place2 =
                upcoming ∙ ap (λ b. if b then (if m.frame == sc.frames then End else Stage place2) else Begin (m.frame + 1)) (lt-ltb (m.window + 1) (stages_in sc.sizes) inner)
                ∙ ap (λ b. if b then End else Stage place2) stage.not_last in
                let window : 3 * slot_numbered sc.sizes (m.window + 1) + ((m.window + 1) % 3 + 1) - 1 ≡ m.window + 1 = omega (arith, inner) in
                let number = number-of sc hands g in
                let number2 : number_at sc.sizes place2 ≡ g + 1 =
                ap (λ w. m.frame * (windows_in sc.sizes + 1) + w) window ∙ omega (arith, number.0) in
                let later : next_stage sc.sizes m g ≡ g + 1 = next-stage-is sc hands g inner in
                one-settled now_at 1 x next
                (λ on. ap (is_due sc x.sites) up2 ∙ stage-waits place2 event.counts event.told
                (λ me i s there. let le : now_at me i ≤ next_stage sc.sizes m g = near me i s there in omega (arith, le, later, number2))) silent
            | inr outer ↦
                let at_end : m.window + 1 ≡ stages_in sc.sizes = let lt : m.window < stages_in sc.sizes = stage.stage in omega (arith, outer, lt) in
                let frame : ℕ = m.frame + 1 in
                let up2 : y.book.upcoming ≡ Begin frame =
                upcoming ∙ ap (λ b. if b then (if m.frame == sc.frames then End else Stage (record { frame = m.frame; slot = slot_numbered sc.sizes (m.window + 1); stage = (m.window + 1) % 3 + 1 })) else Begin (m.frame + 1))
                (le-ltb (m.window + 1) (stages_in sc.sizes) outer) in
                let later : next_stage sc.sizes m g ≡ frame * (windows_in sc.sizes + 1) = next-frame-is sc hands g at_end in
                let begin_by : (b : Bool) → is_due sc x.sites (Begin frame) ≡ b → Settled sc now_at (settle sc ByAnEvent 2 x) =
                λ b. elim b as (λ b. is_due sc x.sites (Begin frame) ≡ b → Settled sc now_at (settle sc ByAnEvent 2 x)) [
                  | false ↦ λ f. one-settled now_at 1 x next (λ on. ap (is_due sc x.sites) up2 ∙ f) silent
                  | true ↦ λ f.
                      let slot : place.slot ≡ slot_numbered sc.sizes m.window = ap (λ (p : Place). p.slot) stage.place_is in
                      let none : record_since x y ≡ None = sync-silent sc place _ x.book (omega (arith, slot, at_end)) e in
                      let then_is : settle sc ByAnEvent 2 x ≡ settle sc ByAnEvent 1 y = settle-is sc 1 x next ∙ ap (settle_rest sc ByAnEvent 1 y) none in
                      subst (Settled sc now_at) (sym then_is)
                      (begin-settled sc hands now_at 0 y frame e up2 f
                      (stage-waits (record { frame = frame; slot = 0; stage = 1 }) event.counts event.told
                      (λ me i s there. let le : now_at me i ≤ next_stage sc.sizes m g = near me i s there in omega (arith, le, later)))
                      (λ me i s there. let le : now_at me i ≤ next_stage sc.sizes m g = near me i s there in omega (arith, le, later)))
                ] in
                begin_by (is_due sc x.sites (Begin frame)) refl
          ]
    ] in
    by y.book.ended refl

begin-settled-next : {sc hands at now_at sites : _} (x : World) (frame : ℕ)
    → EventAt sc hands at now_at sites x.sites → x.book.ended ≡ false → x.book.upcoming ≡ Begin frame → is_due sc sites (Begin frame) ≡ false → is_due sc x.sites (Begin frame) ≡ true
    → Settled sc now_at (settle sc ByAnEvent 2 x)
begin-settled-next {sc} {hands} {at} {now_at} x frame event going up old due =
    let place : Place = record { frame = frame; slot = 0; stage = 1 } in
    let p : ℕ = at event.me event.i in
    let b : ℕ = frame * (windows_in sc.sizes + 1) in
    let c : BeginCompleted sc at now_at event.me event.i frame = begin-completed frame event old due in
    let window : (moment sc hands p).window ≡ 0 = (place-of sc hands p frame 0 (omega (arith, c.stood)) (omega arith)).1 in
    let later : next_stage sc.sizes (moment sc hands p) p ≡ p + 1 = next-stage-is sc hands p (omega (arith, window)) in
    let z : Site = event.change event.s in
    let untold_by : (t : Bool) → is_some (row_for place z.row) ≡ t → is_some (row_for place z.row) ≡ false =
    λ t. elim t as (λ t. is_some (row_for place z.row) ≡ t → is_some (row_for place z.row) ≡ false) [
      | false ↦ λ e. e
      | true ↦ λ e.
          let row = row-there place z.row e in
          let lt : number_at sc.sizes row.0.place < now_at event.me event.i = (event.told event.me event.i z event.now_there).row row.0 row.1.0 in
          let same : number_at sc.sizes row.0.place ≡ b + (3 * 0 + 1 - 1) = ap (number_at sc.sizes) row.1.1 in
          absurd (omega (arith, lt, same, c.stood, c.stays))
    ] in
    let none : is_complete sc x.sites (Stage place) ≡ false =
    untold sc frame 0 (λ s. row_for place s.row) x.sites event.me event.i event.now_there c.good (untold_by (is_some (row_for place z.row)) refl) in
    begin-settled sc hands now_at 1 x frame going up due (ap (λ t. comes_so sc ByAnEvent (Stage place) && t) none ∙ and-none (comes_so sc ByAnEvent (Stage place)))
    (λ me i s there. let le : now_at me i ≤ next_stage sc.sizes (moment sc hands p) p = event.near me i s there in omega (arith, le, later, c.stood))
  where
    and-none : (a : Bool) → (a && false) ≡ false
    and-none true = refl
    and-none false = refl

-- what an event completes is settled
pub event-settled : {sc hands at now_at sites : _} (x : World) → EventAt sc hands at now_at sites x.sites
    → x.book.ended ≡ false → IsOfMoment sc hands x.book → is_due sc sites x.book.upcoming ≡ false → Settled sc now_at (settle sc ByAnEvent 2 x)
event-settled {sc} {now_at} {sites} x event going is old = by (is_due sc x.sites x.book.upcoming) refl
  where
    of : (m : Milestone) → x.book.upcoming ≡ m → is_due sc sites m ≡ false → is_due sc x.sites m ≡ true → Settled sc now_at (settle sc ByAnEvent 2 x)
    of (Begin frame) up old due = begin-settled-next x frame event going up old due
    of (Stage place) up old due = stage-settled-next x place event going is up old due
    of End up old due = cc

    by : (b : Bool) → is_due sc x.sites x.book.upcoming ≡ b → Settled sc now_at (settle sc ByAnEvent 2 x)
    by false e =
        let waits : Waits sc x = λ on. e in
        subst (Settled sc now_at) (sym (settle-still sc ByAnEvent 2 (waits-still sc waits))) (still-settled now_at x waits)
    by true e = of x.book.upcoming refl old e
