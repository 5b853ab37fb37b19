-- A milestone is settled: the book of the world, and what is kept.
use Rattle.std.proofs.{Common.{◌≡◌, ℕ, ◌+◌, ◌^◌, ◌<◌, ◌≤◌, ◌==◌, ◌&&◌, nat_lt, Bool, true, false, List, [], ◌∷◌, ◌++◌, length, map, take, get_or, Option, Some, None, refl, sym, ◌∙◌, ap, subst, arith, slice_get, if◌then◌else◌}, lemmas.Bool.Decides.nat_tests, lemmas.List.{append-nil, map-append}, lemmas.List.Elements.filter_map-append}
use Rattle.std.specs.List.{filter_map}
use Rattle.rb_base.specs.{Nodes.{Side, has, other}, Nodes.Side.{Biu, Rmu}, Sizes.{Sizes, IsShape, sync_slot_of}, declared.values.Place.Place, declared.values.See.TheVariants.Nothing}
use Rattle.rb_rules.specs.{declared.cause.Cause.Cause, declared.record.SlotLine.SlotLine, Book.{Begun, Book, Each, Record, after_stage, after_verdict, frame_records, in_order, judged_of, line_in, map_from, slot_records, with_frame, with_stage}, Book.Milestone.{Begin, Stage, End}, ExactStage.present, Goodness.{Scenario, good_at, is_good}, Judging.{JudgedStage, verdict_of}, Slots.count_of, WorldStep.{Site, World, begun_for, book_with, told_by_good}}
use Rattle.rb_world_book.specs.{declared.group.Group.Group, declared.book.Book.Book as KeptBook, declared.milestone.Milestone.Milestone as Kept, declared.turn.Turn.Turn, Holding.{Holds, HoldsKind, IsComing, IsStageOf, Passes, TurnsKind, frame_record, good_for, slot_record}, Records.{milestone_of, record_of}, Settling.after_begin, Waiting.{all_but, begun_at, found_of, line_of, node_line_of, port_line_of, waiting_for}, Telling.{begun_told, row_seeing, see_of, told_at}}
use Rattle.rb_base.proofs.Plain.{slice_get-back}
use Rattle.rb_world_book.proofs.{Judged.rows_of, Rows.{begins-kept, no-ports, node-lines, port-lines, rows-kept, slot-lines}}
use Rattle.rb_world_book.specs.declared.milestone.Milestone.TheVariants as kept

-- The record that comes.

since-is : (xs ys : List Record) → slice_get (xs ++ ys) (length xs) ≡ slice_get ys 0
since-is xs ys = let e : length xs ≡ length xs + 0 = omega arith in ap (slice_get (xs ++ ys)) e ∙ slice_get-back xs ys 0

-- `Passes` holds if what is kept stands for the world with this book
pub passes-by : (sc : Scenario) (w : World) (after : KeptBook) (turn : Turn) (b : Book) (records : List Record)
    → book_with sc w.sites w.book w.book.upcoming ≡ b → Holds sc after (record w { book = b }) → b.given ≡ w.book.given ++ records
    → record_of turn ≡ slice_get records 0 → Passes sc w after turn
passes-by sc w after turn b records is holds given record_is = record {
  holds = subst (λ (b : Book). Holds sc after (record w { book = b })) (sym is) holds;
  record_is = record_is ∙ sym (ap (λ (b : Book). slice_get b.given (length w.book.given)) is ∙ ap (λ l. slice_get l (length w.book.given)) given ∙ since-is w.book.given records);
}

-- Stages.

pub stage-book : (sc : Scenario) (w : World) (place : Place) → w.book.upcoming ≡ Stage place → w.book.ended ≡ false
    → book_with sc w.sites w.book w.book.upcoming
    ≡ after_verdict sc.sizes place (rows_of sc place w.sites) (judged_of sc place (rows_of sc place w.sites) ∷ w.book.stages) w.book
    (verdict_of (judged_of sc place (rows_of sc place w.sites) ∷ w.book.stages))
unfolding with_stage
stage-book sc w place next going =
    let stages : List JudgedStage = judged_of sc place (rows_of sc place w.sites) ∷ w.book.stages in
    ap (book_with sc w.sites w.book) next
    ∙ ap (λ b. elim b as (λ _. Book) [ true ↦ w.book | false ↦ after_verdict sc.sizes place (rows_of sc place w.sites) stages w.book (verdict_of stages) ]) going

pub stage-then : (sc : Scenario) (w : World) (place : Place) (v : Option Cause) → w.book.upcoming ≡ Stage place → w.book.ended ≡ false
    → v ≡ verdict_of (judged_of sc place (rows_of sc place w.sites) ∷ w.book.stages)
    → book_with sc w.sites w.book w.book.upcoming
    ≡ after_verdict sc.sizes place (rows_of sc place w.sites) (judged_of sc place (rows_of sc place w.sites) ∷ w.book.stages) w.book v
stage-then sc w place v next going verdict =
    stage-book sc w place next going
    ∙ ap (after_verdict sc.sizes place (rows_of sc place w.sites) (judged_of sc place (rows_of sc place w.sites) ∷ w.book.stages) w.book) (sym verdict)

pub slot-record : (sizes : Sizes) (place : Place) (lines : List SlotLine) → slot_record sizes place lines ≡ slice_get (slot_records sizes place lines) 0
slot-record sizes place lines = by ((place.stage == 3) && nat_lt place.slot (sync_slot_of sizes))
  where
    by : (b : Bool) → (if b then Some (Record.Slot place.frame place.slot lines) else None) ≡ slice_get (if b then Record.Slot place.frame place.slot lines ∷ [] else []) 0
    by true = refl
    by false = refl

-- the milestone after a stage is to come
coming-when : (sc : Scenario) (place : Place) (more last : Bool) → (place.slot == sync_slot_of sc.sizes) ≡ last → IsStageOf sc place → (m : Kept)
    → milestone_of m ≡ (if more then Stage (record place { stage = place.stage + 1 })
    else (if last then Begin (place.frame + 1) else Stage (record { frame = place.frame; slot = place.slot + 1; stage = 1 })))
    → IsComing sc m × ((p : Place) → m ≡ kept.Stage p → p.frame ≡ place.frame)
coming-when sc place true last e is (kept.Begin f) same = absurd (cc)
coming-when sc place true last e is kept.End same = absurd (cc)
coming-when sc place true last e is (kept.Stage p) same =
    let p_is : p ≡ record place { stage = place.stage + 1 } = cc in (
      record { frame = subst (λ (q : Place). q.frame < sc.frames) (sym p_is) is.frame; slot = subst (λ (q : Place). q.slot ≤ sync_slot_of sc.sizes) (sym p_is) is.slot },
      λ q h. let q_is : q ≡ p = cc in ap (λ (x : Place). x.frame) q_is ∙ ap (λ (x : Place). x.frame) p_is,
    )
coming-when sc place false true e is (kept.Stage p) same = absurd (cc)
coming-when sc place false true e is kept.End same = absurd (cc)
coming-when sc place false true e is (kept.Begin f) same =
    let f_is : f ≡ place.frame + 1 = cc in
    (let h : place.frame < sc.frames = is.frame in omega arith, λ q h. absurd (cc))
coming-when sc place false false e is (kept.Begin f) same = absurd (cc)
coming-when sc place false false e is kept.End same = absurd (cc)
coming-when sc place false false e is (kept.Stage p) same =
    let p_is : p ≡ record { frame = place.frame; slot = place.slot + 1; stage = 1 } = cc in
    let h : place.slot ≤ sync_slot_of sc.sizes = is.slot in
    let below : place.slot + 1 ≤ sync_slot_of sc.sizes = less place.slot (sync_slot_of sc.sizes) h e in (
      record { frame = subst (λ (q : Place). q.frame < sc.frames) (sym p_is) is.frame; slot = subst (λ (q : Place). q.slot ≤ sync_slot_of sc.sizes) (sym p_is) below },
      λ q h. let q_is : q ≡ p = cc in ap (λ (x : Place). x.frame) q_is ∙ ap (λ (x : Place). x.frame) p_is,
    )
  where
    less : (a b : ℕ) → a ≤ b → (a == b) ≡ false → a + 1 ≤ b
    less a b h e = grind (arith, nat_tests)

pub coming-after : (sc : Scenario) (place : Place) (m : Kept) → IsStageOf sc place → milestone_of m ≡ after_stage sc.sizes place
    → IsComing sc m × ((p : Place) → m ≡ kept.Stage p → p.frame ≡ place.frame)
coming-after sc place m is same = coming-when sc place (nat_lt place.stage 3) (place.slot == sync_slot_of sc.sizes) refl is m same

pub few-slots : (sizes : Sizes) (slot : ℕ) → IsShape sizes → slot ≤ sync_slot_of sizes → slot + 1 < 2 ^ 16
few-slots sizes slot is h =
    let a = is.most_bius in
    let b = is.most_rmus in
    let c = is.most_slots in
    omega arith

-- what is kept of a kind holds when another milestone becomes the upcoming one
pub turns-holds : {K : Type 0} (sc : Scenario) (kind : Side) (before now : Kept) (g h : Group K) (sizes : Sizes) (sites : Each Site) → sizes ≡ sc.sizes
    → HoldsKind sc kind before g sites → TurnsKind kind sizes g h now → h.good ≡ good_for sc kind now
    → ((place : Place) → now ≡ kept.Stage place → h.lasting ≡ good_at sc kind place.frame (sync_slot_of sc.sizes))
    → ((place : Place) → now ≡ kept.Stage place → h.counted ≡ all_but (count_of kind sc.sizes) h.lasting) → HoldsKind sc kind now h sites
turns-holds sc kind before now g h sizes sites same holds turns good lasting counted = record {
  all = ap length turns.told ∙ holds.all;
  saw = holds.saw;
  rows = holds.rows ∙ ap (λ l. map_from 0 (λ i t. row_seeing (holds.saw i) t) (take (count_of kind sc.sizes) l)) (sym turns.told);
  sights = λ i j. subst (λ l. is_good sc (other kind) j (told_at l i).place.frame (sync_slot_of sc.sizes) ≡ false → holds.saw i j ≡ see_of (told_at l i) j) (sym turns.told) (holds.sights i j);
  begins = holds.begins ∙ ap (λ l. map (begun_told kind) (take (count_of kind sc.sizes) l)) (sym turns.told);
  within = λ i j past. ap (λ l. get_or (told_at l i).sees j Nothing) turns.told ∙ holds.within i j past;
  good = good;
  waiting = turns.waiting ∙ ap (λ (s : Sizes). waiting_for (count_of kind s) h.good now g.told) same ∙ ap (waiting_for (count_of kind sc.sizes) h.good now) (sym turns.told);
  lasting = lasting;
  counted = counted;
}

-- after stage 2 the lines are those that the nodes told, and after another stage those before
pub lines-after : {K : Type 0} (sc : Scenario) (place : Place) (g : Group K) (sites : Each Site) (before now : List SlotLine) (n : ℕ) → n ≡ sc.sizes.bius → sc.sizes.bius ≤ 16
    → HoldsKind sc Biu (kept.Stage place) g sites
    → now ≡ (if place.stage == 2 then found_of (λ i t. line_of place (has g.good i) t) n g.told else before)
    → (if place.stage == 2 then filter_map line_in (rows_of sc place sites).bius else before) ≡ now
lines-after sc place g sites before now n same most holds is =
    let told = ap (filter_map line_in) (rows-kept sc Biu (kept.Stage place) place g sites most holds holds.good)
    ∙ slot-lines holds.saw place sc.sizes.bius g ∙ ap (λ k. found_of (λ i t. line_of place (has g.good i) t) k g.told) (sym same) in
    ap (λ l. if place.stage == 2 then l else before) told ∙ sym is

-- Frames.

pub frame-book : (sc : Scenario) (w : World) (frame : ℕ) → w.book.upcoming ≡ Begin frame → w.book.ended ≡ false
    → book_with sc w.sites w.book w.book.upcoming ≡ record {
      upcoming = if frame == sc.frames then End else Stage (record { frame = frame; slot = 0; stage = 1 });
      stages = [];
      lines = [];
      given = w.book.given ++ frame_records frame (present (in_order (told_by_good sc frame 0 (λ s. begun_for frame s.begun) w.sites)));
      ended = false;
    }
unfolding with_frame
frame-book sc w frame next going =
    let x : Book = record {
      upcoming = if frame == sc.frames then End else Stage (record { frame = frame; slot = 0; stage = 1 });
      stages = [];
      lines = [];
      given = w.book.given ++ frame_records frame (present (in_order (told_by_good sc frame 0 (λ s. begun_for frame s.begun) w.sites)));
      ended = false;
    } in
    ap (book_with sc w.sites w.book) next ∙ ap (λ b. elim b as (λ _. Book) [ true ↦ w.book | false ↦ x ]) going

first-frame : (frame : ℕ) (begun : List Begun) → frame_record frame (map (λ x. x.line) begun) (filter_map (λ x. x.port) begun) ≡ slice_get (frame_records frame begun) 0
first-frame frame [] = refl
first-frame frame (b ∷ bs) = refl

pub frame-record : {B R : Type 0} (sc : Scenario) (frame : ℕ) (bius : Group B) (rmus : Group R) (sites : Each Site) (sizes : Sizes) → sizes ≡ sc.sizes → IsShape sc.sizes
    → HoldsKind sc Biu (kept.Begin frame) bius sites → HoldsKind sc Rmu (kept.Begin frame) rmus sites
    → frame_record frame (found_of (λ i t. node_line_of frame (has bius.good i) t) sizes.bius bius.told ++ found_of (λ i t. node_line_of frame (has rmus.good i) t) sizes.rmus rmus.told)
    (found_of (λ i t. port_line_of frame (has bius.good i) t) sizes.bius bius.told)
    ≡ slice_get (frame_records frame (present (in_order (told_by_good sc frame 0 (λ s. begun_for frame s.begun) sites)))) 0
frame-record sc frame bius rmus sites sizes same shape biu rmu =
    let told : Each (Option Begun) = told_by_good sc frame 0 (λ s. begun_for frame s.begun) sites in
    let bs : List Begun = present (map_from 0 (begun_at Biu bius.good frame) (take sc.sizes.bius bius.told)) in
    let rs : List Begun = present (map_from 0 (begun_at Rmu rmus.good frame) (take sc.sizes.rmus rmus.told)) in
    let all : present (in_order told) ≡ bs ++ rs =
    filter_map-append (λ v. v) told.bius told.rmus
    ∙ ap (λ l. present l ++ present told.rmus) (begins-kept sc Biu (kept.Begin frame) frame bius sites shape.most_bius biu biu.good)
    ∙ ap (λ l. bs ++ present l) (begins-kept sc Rmu (kept.Begin frame) frame rmus sites shape.most_rmus rmu rmu.good) in
    let lines : map (λ x. x.line) (bs ++ rs)
    ≡ found_of (λ i t. node_line_of frame (has bius.good i) t) sc.sizes.bius bius.told ++ found_of (λ i t. node_line_of frame (has rmus.good i) t) sc.sizes.rmus rmus.told =
    map-append (λ x. x.line) bs rs ∙ ap (λ l. l ++ map (λ x. x.line) rs) (node-lines Biu frame sc.sizes.bius bius)
    ∙ ap (λ l. found_of (λ i t. node_line_of frame (has bius.good i) t) sc.sizes.bius bius.told ++ l) (node-lines Rmu frame sc.sizes.rmus rmus) in
    let ports : filter_map (λ x. x.port) (bs ++ rs) ≡ found_of (λ i t. port_line_of frame (has bius.good i) t) sc.sizes.bius bius.told =
    filter_map-append (λ x. x.port) bs rs ∙ ap (λ l. filter_map (λ x. x.port) bs ++ l) (no-ports frame sc.sizes.rmus rmus)
    ∙ append-nil (filter_map (λ x. x.port) bs) ∙ port-lines frame sc.sizes.bius bius in
    ap (λ (s : Sizes). frame_record frame (found_of (λ i t. node_line_of frame (has bius.good i) t) s.bius bius.told ++ found_of (λ i t. node_line_of frame (has rmus.good i) t) s.rmus rmus.told)
    (found_of (λ i t. port_line_of frame (has bius.good i) t) s.bius bius.told)) same
    ∙ ap (λ l. frame_record frame l (found_of (λ i t. port_line_of frame (has bius.good i) t) sc.sizes.bius bius.told)) (sym lines)
    ∙ ap (frame_record frame (map (λ x. x.line) (bs ++ rs))) (sym ports)
    ∙ first-frame frame (bs ++ rs) ∙ ap (λ l. slice_get (frame_records frame l) 0) (sym all)

-- the milestone after the start of a frame is to come
pub coming-begun : (sc : Scenario) (frame : ℕ) (m : Kept) → frame ≤ sc.frames → milestone_of m ≡ after_begin frame sc.frames
    → IsComing sc m × ((p : Place) → m ≡ kept.Stage p → p.frame ≡ frame)
coming-begun sc frame m h same = by (frame == sc.frames) refl m same
  where
    less : (a b : ℕ) → a ≤ b → (a == b) ≡ false → a < b
    less a b h e = grind (arith, nat_tests)

    by : (last : Bool) → (frame == sc.frames) ≡ last → (m : Kept) → milestone_of m ≡ (if last then End else Stage (record { frame = frame; slot = 0; stage = 1 }))
        → IsComing sc m × ((p : Place) → m ≡ kept.Stage p → p.frame ≡ frame)
    by true e (kept.Begin f) s = absurd (cc)
    by true e (kept.Stage p) s = absurd (cc)
    by true e kept.End s = (tt, λ p q. absurd (cc))
    by false e (kept.Begin f) s = absurd (cc)
    by false e kept.End s = absurd (cc)
    by false e (kept.Stage p) s =
        let p_is : p ≡ record { frame = frame; slot = 0; stage = 1 } = cc in (
          record { frame = subst (λ (q : Place). q.frame < sc.frames) (sym p_is) (less frame sc.frames h e); slot = subst (λ (q : Place). q.slot ≤ sync_slot_of sc.sizes) (sym p_is) (omega arith) },
          λ q h. let q_is : q ≡ p = cc in ap (λ (x : Place). x.frame) q_is ∙ ap (λ (x : Place). x.frame) p_is,
        )
