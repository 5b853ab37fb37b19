-- For the law of record and replay: what a node tells in each moment of the rounds, as lines, and
-- the lines of the records that those moments give.
use Rattle.std.proofs.{Common.{◌≡◌, ℕ, zero, suc, ◌==◌, ◌&&◌, nat_lt, not, Bool, true, false, List, [], ◌∷◌, ◌++◌, append_assoc, refl, ap, sym, ◌∙◌, arith, Option, Some, None, slice_get, if◌then◌else◌}, lemmas.Grind.flat_map-append, lemmas.List.append-nil}
use Rattle.std.specs.Prelude.{flat_map, filter_map, map}
use Rattle.rb_base.specs.{Nodes.Side, Sizes.sync_slot_of, Nodes.Side.{Biu as biu, Rmu as rmu}, declared.node.NodeName.NodeName, declared.node.NodeName.TheVariants.{Biu, Rmu}}
use Rattle.rb_base.proofs.Plain.{eq_self}
use Rattle.rb_rules.specs.{declared.record.SlotLine.SlotLine, Book.{Begun, Each, Record, Row, frame_records, in_order, line_in, map_each, map_from, of_kind}, Book.Record.{Frame, Slot, Ended, Breach}, ExactStage.present, Goodness.{Scenario, is_good}, Hearing.{begun_of, epoch_of}, Lawful.kind_of, Links.{name_of, same_node}, NodeState.NodeState, Ports.PortState, Rounds.{Moment, Result, begun_if_good, go_through, moment, results_of, sent_in, window_in, windows_in}}
use Rattle.rb_report.specs.Report.{delivery_text, epoch_text, convicted_text, breach_text, end_text}
use Rattle.rb_laws_events.proofs.{RoundNodes.slot_numbered, WorldStands.is_node}
use Rattle.rb_laws_logs.specs.{Given.index_of, Laws.{convicted_by, delivered_by, first_tick_of, lines_after}, Replays.epoch_lines}
use Rattle.rb_laws_logs.proofs.{Delivered.line-by, Gathered.{filtered, gather, gather-made, gather-none, gather-one, if_there, mapped, present-append}}

-- What a node tells.

-- a line that a node tells of a slot
abbrev pub line_text : ℕ → ℕ → Option SlotLine → List ℕ
line_text frame slot = if_there (λ l. delivery_text frame slot l.receiver l.sender l.value)

-- the row of a node in a moment's window
abbrev pub row_in : Scenario → Moment → Side → ℕ → NodeState → Option Row
row_in sc m me i st = (go_through sc m (sent_in sc m) me i st (window_in sc m me st)).row

-- the state of the node in a moment
abbrev pub state_of : NodeName → Moment → Option NodeState
state_of name m = slice_get (of_kind (kind_of name) m.nodes) (index_of name)

-- what the node tells of a moment's window
abbrev pub window_text : Scenario → NodeName → Moment → List ℕ
window_text sc name m =
    if_there (λ st. line_text m.frame (slot_numbered sc.sizes m.window) (line_in (row_in sc m (kind_of name) (index_of name) st))) (state_of name m)

abbrev pub block_text : Scenario → NodeName → Moment → List ℕ
block_text sc name m = if_there (λ st. epoch_lines name (Some (epoch_of sc.sizes (kind_of name) st))) (state_of name m)

-- what the node tells between two moments in a row
abbrev pub step_text : Scenario → NodeName → Moment → Moment → List ℕ
step_text sc name m next = if nat_lt m.window (windows_in sc.sizes) then window_text sc name m else block_text sc name next

-- all that the node tells up to the start of a moment's window
abbrev pub told_up_to : Scenario → NodeName → ℕ → List ℕ
told_up_to sc name zero = block_text sc name (moment sc [] 0)
told_up_to sc name (suc p) = told_up_to sc name p ++ step_text sc name (moment sc [] p) (moment sc [] (suc p))

-- Records.

-- the frame of the newest block of the records
abbrev pub newest_after : ℕ → List Record → ℕ
newest_after newest [] = newest
newest_after newest (Frame frame nodes ports ∷ records) = newest_after frame records
newest_after newest (Slot frame slot lines ∷ records) = newest_after newest records
newest_after newest (Ended ∷ records) = newest_after newest records
newest_after newest (Breach place cause ∷ records) = newest_after newest records

pub lines-append : (name : NodeName) (newest : ℕ) (xs ys : List Record)
    → lines_after name newest (xs ++ ys) ≡ lines_after name newest xs ++ lines_after name (newest_after newest xs) ys
lines-append name newest [] ys = refl
lines-append name newest (Frame frame nodes ports ∷ xs) ys =
    ap (λ l. flat_map (first_tick_of name frame) nodes ++ flat_map (convicted_by name frame) nodes ++ l) (lines-append name frame xs ys)
    ∙ sym (append_assoc (flat_map (first_tick_of name frame) nodes ++ flat_map (convicted_by name frame) nodes) (lines_after name frame xs) (lines_after name (newest_after frame xs) ys))
lines-append name newest (Slot frame slot lines ∷ xs) ys =
    ap (λ l. flat_map (delivered_by name frame slot) lines ++ l) (lines-append name newest xs ys)
    ∙ sym (append_assoc (flat_map (delivered_by name frame slot) lines) (lines_after name newest xs) (lines_after name (newest_after newest xs) ys))
lines-append name newest (Ended ∷ xs) ys =
    ap (λ l. end_text newest ++ l) (lines-append name newest xs ys)
    ∙ sym (append_assoc (end_text newest) (lines_after name newest xs) (lines_after name (newest_after newest xs) ys))
lines-append name newest (Breach place cause ∷ xs) ys =
    ap (λ l. breach_text place cause ++ l) (lines-append name newest xs ys)
    ∙ sym (append_assoc (breach_text place cause) (lines_after name newest xs) (lines_after name (newest_after newest xs) ys))

pub newest-append : (newest : ℕ) (xs ys : List Record) → newest_after newest (xs ++ ys) ≡ newest_after (newest_after newest xs) ys
newest-append newest [] ys = refl
newest-append newest (Frame frame nodes ports ∷ xs) ys = newest-append frame xs ys
newest-append newest (Slot frame slot lines ∷ xs) ys = newest-append newest xs ys
newest-append newest (Ended ∷ xs) ys = newest-append newest xs ys
newest-append newest (Breach place cause ∷ xs) ys = newest-append newest xs ys

-- A slot.

-- the lines of the node among those that all tell of a slot
pub slot-lines : (sc : Scenario) (m : Moment) (name : NodeName) {st : _} → state_of name m ≡ Some st
    → flat_map (delivered_by name m.frame (slot_numbered sc.sizes m.window)) (filter_map line_in (map_each (λ (me : Side) (i : ℕ) (r : Result). r.row) (results_of sc m)).bius)
    ≡ window_text sc name m
unfolding results_of
slot-lines sc m name {st} there =
    filtered (delivered_by name m.frame slot) line_in (λ (i : ℕ) (r : Result). r.row) 0 made
    ∙ gather-made 0 (λ (k : ℕ) (r : Result). if_there (delivered_by name m.frame slot) (line_in r.row)) make m.nodes.bius
    ∙ by name there ∙ sym (ap (if_there (tells name)) there)
  where
    slot : ℕ
    slot = slot_numbered sc.sizes m.window

    make : ℕ → NodeState → Result
    make k st = go_through sc m (sent_in sc m) biu k st (window_in sc m biu st)

    made : List Result
    made = map_from 0 make m.nodes.bius

    tells : NodeName → NodeState → List ℕ
    tells name st = line_text m.frame slot (line_in (row_in sc m (kind_of name) (index_of name) st))

    by : (name : NodeName) → state_of name m ≡ Some st
        → gather 0 (λ k x. if_there (delivered_by name m.frame slot) (line_in (make k x).row)) m.nodes.bius ≡ tells name st
    by (Biu i) there =
        gather-one 0 i (λ k x. if_there (delivered_by (Biu i) m.frame slot) (line_in (make k x).row)) m.nodes.bius there (omega arith)
        (λ k y other. line-by (λ o. if_there (delivered_by (Biu i) m.frame slot) o ≡ []) sc m (sent_in sc m) biu k y (window_in sc m biu y) refl
        (λ d is second exact. ap (λ b. if b then delivery_text m.frame slot k d.sender d.value else []) other))
        ∙ line-by (λ o. if_there (delivered_by (Biu i) m.frame slot) o ≡ line_text m.frame slot o) sc m (sent_in sc m) biu i st (window_in sc m biu st) refl
        (λ d is second exact. ap (λ b. if b then delivery_text m.frame slot i d.sender d.value else []) (eq_self i))
    by (Rmu i) there =
        gather-none 0 (λ k x. if_there (delivered_by (Rmu i) m.frame slot) (line_in (make k x).row)) m.nodes.bius
        (λ k y le. line-by (λ o. if_there (delivered_by (Rmu i) m.frame slot) o ≡ []) sc m (sent_in sc m) biu k y (window_in sc m biu y) refl (λ d is second exact. refl))
        ∙ sym (line-by (λ o. line_text m.frame slot o ≡ []) sc m (sent_in sc m) rmu i st (window_in sc m rmu st) refl (λ d is second exact. absurd (cc)))

-- in a window that is no second stage below the sync slot a node tells nothing
pub silent-window : (sc : Scenario) (m : Moment) (name : NodeName) {st : _} → state_of name m ≡ Some st
    → ((window_in sc m (kind_of name) st).stage == 2) && not ((window_in sc m (kind_of name) st).slot == sync_slot_of sc.sizes) ≡ false → window_text sc name m ≡ []
silent-window sc m name {st} there silent =
    ap (if_there (λ st. line_text m.frame (slot_numbered sc.sizes m.window) (line_in (row_in sc m (kind_of name) (index_of name) st)))) there
    ∙ line-by (λ o. line_text m.frame (slot_numbered sc.sizes m.window) o ≡ []) sc m (sent_in sc m) (kind_of name) (index_of name) st (window_in sc m (kind_of name) st) refl
    (λ d is second exact. absurd (both ((window_in sc m (kind_of name) st).stage == 2) ((window_in sc m (kind_of name) st).slot == sync_slot_of sc.sizes) second exact silent))
  where
    both : (a b : Bool) → a ≡ true → b ≡ false → (a && not b) ≡ false → ⊥
    both true false e f h = cc
    both false b e f h = cc
    both true true e f h = cc

-- A frame.

-- the part of the named node is taken of all that is told of the start of a frame
pub of-one : (sc : Scenario) (frame : ℕ) (ports : List PortState) (nodes : Each NodeState) (name : NodeName) {st : _} (take : Begun → List ℕ)
    → slice_get (of_kind (kind_of name) nodes) (index_of name) ≡ Some st → is_good sc (kind_of name) (index_of name) frame 0 ≡ true
    → ((side : Side) (k : ℕ) (z : NodeState) → is_node (kind_of name) (index_of name) side k ≡ false → take (begun_of sc ports side k (epoch_of sc.sizes side z)) ≡ [])
    → flat_map take (present (in_order (map_each (begun_if_good sc frame ports) nodes))) ≡ take (begun_of sc ports (kind_of name) (index_of name) (epoch_of sc.sizes (kind_of name) st))
of-one sc frame ports nodes name {st} take there good others =
    ap (flat_map take) (present-append (map_from 0 (begun_if_good sc frame ports biu) nodes.bius) (map_from 0 (begun_if_good sc frame ports rmu) nodes.rmus))
    ∙ flat_map-append take (present (map_from 0 (begun_if_good sc frame ports biu) nodes.bius)) (present (map_from 0 (begun_if_good sc frame ports rmu) nodes.rmus))
    ∙ ap (λ l. l ++ flat_map take (present (map_from 0 (begun_if_good sc frame ports rmu) nodes.rmus))) (filtered take (λ v. v) (begun_if_good sc frame ports biu) 0 nodes.bius)
    ∙ ap (λ l. gather 0 (gives biu) nodes.bius ++ l) (filtered take (λ v. v) (begun_if_good sc frame ports rmu) 0 nodes.rmus)
    ∙ by name there good others
  where
    gives : Side → ℕ → NodeState → List ℕ
    gives side k z = if_there take (begun_if_good sc frame ports side k z)

    silent : (side : Side) (k : ℕ) (z : NodeState) → take (begun_of sc ports side k (epoch_of sc.sizes side z)) ≡ [] → gives side k z ≡ []
    silent side k z none = at (is_good sc side k frame 0)
      where
        at : (b : Bool) → if_there take (elim b as (λ _. Option Begun) [ true ↦ Some (begun_of sc ports side k (epoch_of sc.sizes side z)) | false ↦ None ]) ≡ []
        at true = none
        at false = refl

    tells : (side : Side) (k : ℕ) (z : NodeState) → is_good sc side k frame 0 ≡ true → gives side k z ≡ take (begun_of sc ports side k (epoch_of sc.sizes side z))
    tells side k z good = ap (λ b. if_there take (elim b as (λ _. Option Begun) [ true ↦ Some (begun_of sc ports side k (epoch_of sc.sizes side z)) | false ↦ None ])) good

    by : (name : NodeName) → slice_get (of_kind (kind_of name) nodes) (index_of name) ≡ Some st → is_good sc (kind_of name) (index_of name) frame 0 ≡ true
        → ((side : Side) (k : ℕ) (z : NodeState) → is_node (kind_of name) (index_of name) side k ≡ false → take (begun_of sc ports side k (epoch_of sc.sizes side z)) ≡ [])
        → gather 0 (gives biu) nodes.bius ++ gather 0 (gives rmu) nodes.rmus ≡ take (begun_of sc ports (kind_of name) (index_of name) (epoch_of sc.sizes (kind_of name) st))
    by (Biu i) there good others =
        ap (λ l. gather 0 (gives biu) nodes.bius ++ l) (gather-none 0 (gives rmu) nodes.rmus (λ k z le. silent rmu k z (others rmu k z refl)))
        ∙ append-nil (gather 0 (gives biu) nodes.bius)
        ∙ gather-one 0 i (gives biu) nodes.bius there (omega arith) (λ k z other. silent biu k z (others biu k z other)) ∙ tells biu i st good
    by (Rmu i) there good others =
        ap (λ l. l ++ gather 0 (gives rmu) nodes.rmus) (gather-none 0 (gives biu) nodes.bius (λ k z le. silent biu k z (others biu k z refl)))
        ∙ gather-one 0 i (gives rmu) nodes.rmus there (omega arith) (λ k z other. silent rmu k z (others rmu k z other)) ∙ tells rmu i st good

-- a name is that of a node if and only if the node has its kind and number
pub named : (name : NodeName) (side : Side) (k : ℕ) → same_node (name_of side k) name ≡ is_node (kind_of name) (index_of name) side k
named (Biu i) biu k = refl
named (Biu i) rmu k = refl
named (Rmu i) biu k = refl
named (Rmu i) rmu k = refl

named-itself : (name : NodeName) → same_node (name_of (kind_of name) (index_of name)) name ≡ true
named-itself (Biu i) = eq_self i
named-itself (Rmu i) = eq_self i

-- the record of a frame has the lines of the node, and its block is the newest
pub record FrameLines (sc : Scenario) (name : NodeName) (frame newest : ℕ) (st : NodeState) (records : List Record) : Type 0 where
  pub lines : lines_after name newest records ≡ epoch_lines name (Some (epoch_of sc.sizes (kind_of name) st))
  pub newest_is : newest_after newest records ≡ frame

pub frame-lines : (sc : Scenario) {frame : ℕ} (newest : ℕ) (ports : List PortState) (nodes : Each NodeState) (name : NodeName) {st : _}
    → slice_get (of_kind (kind_of name) nodes) (index_of name) ≡ Some st → is_good sc (kind_of name) (index_of name) frame 0 ≡ true → st.frame ≡ frame
    → FrameLines sc name frame newest st (frame_records frame (present (in_order (map_each (begun_if_good sc frame ports) nodes))))
frame-lines sc {frame} newest ports nodes name {st} there good in_frame =
    by bs
    (of-one sc frame ports nodes name marks there good (λ side k z other. ap (λ b. if b then 0 ∷ [] else []) (named name side k ∙ other)) ∙ ap (λ b. if b then 0 ∷ [] else []) (named-itself name))
    (of-one sc frame ports nodes name (λ b. first_tick_of name frame b.line) there good
    (λ side k z other. ap (λ b. if b then epoch_text frame name z.epoch None else []) (named name side k ∙ other))
    ∙ ap (λ b. if b then epoch_text frame name st.epoch None else []) (named-itself name))
    (of-one sc frame ports nodes name (λ b. convicted_by name frame b.line) there good
    (λ side k z other. ap (λ b. if b then convicted_text frame name (epoch_of sc.sizes side z).biu (epoch_of sc.sizes side z).rmu else []) (named name side k ∙ other))
    ∙ ap (λ b. if b then convicted_text frame name (epoch_of sc.sizes (kind_of name) st).biu (epoch_of sc.sizes (kind_of name) st).rmu else []) (named-itself name))
  where
    bs : List Begun
    bs = present (in_order (map_each (begun_if_good sc frame ports) nodes))

    marks : Begun → List ℕ
    marks b = if same_node b.line.node name then 0 ∷ [] else []

    by : (bs : List Begun) → flat_map marks bs ≡ 0 ∷ []
        → flat_map (λ (b : Begun). first_tick_of name frame b.line) bs ≡ epoch_text frame name st.epoch None
        → flat_map (λ (b : Begun). convicted_by name frame b.line) bs ≡ convicted_text frame name (epoch_of sc.sizes (kind_of name) st).biu (epoch_of sc.sizes (kind_of name) st).rmu
        → FrameLines sc name frame newest st (frame_records frame bs)
    by [] some first convicted = cc
    by (b ∷ bs) some first convicted = record {
      lines = append-nil _
          ∙ ap (λ l. l ++ flat_map (convicted_by name frame) (map (λ (x : Begun). x.line) (b ∷ bs))) (mapped (first_tick_of name frame) (λ (x : Begun). x.line) (b ∷ bs) ∙ first)
          ∙ ap (λ l. epoch_text frame name st.epoch None ++ l) (mapped (convicted_by name frame) (λ (x : Begun). x.line) (b ∷ bs) ∙ convicted)
          ∙ ap (λ f. epoch_text f name st.epoch None ++ convicted_text f name (epoch_of sc.sizes (kind_of name) st).biu (epoch_of sc.sizes (kind_of name) st).rmu) (sym in_frame);
      newest_is = refl;
    }
