-- What the groups hold of their ports, with more told.
use Rattle.std.proofs.{Common.{◌≡◌, ◌≢◌, ℕ, ◌+◌, ◌<◌, ◌≤◌, ◌==◌, max, Bool, true, false, if◌then◌else◌, Option, Some, None, List, [], ◌∷◌, ◌++◌, length, take, get_or, slice_get, set, refl, sym, ◌∙◌, ap, subst, arith, append_assoc}, lemmas.Bool.eqb-true, lemmas.Grind.flat_map-append, lemmas.Option.{get_or_from_slice_get, slice_get-get_or, slice_get_within}, lemmas.List.{append-nil, get_or-set_other, get_or-set_same, take_more}, Math.ListN.length-set}
use Rattle.std.specs.Option.{option_to_list}
use Rattle.rb_base.proofs.{Sets.eq_other, Plain.eq_self}
use Rattle.rb_base.specs.declared.values.Delivery.{Delivery}
use Rattle.rb_rules.specs.{Book.Record, Book.Record.{Frame, Slot, Ended, Breach}, declared.record.SlotLine.SlotLine}
use Rattle.rb_group.specs.{Keeping.{HasHeard, KeptGroup}, Portions.{deliveries_in, delivery_of, line_told, port_deliveries, told_of}}
use Rattle.rb_group_run.specs.{Holding.{HoldPortions, HoldsPortion}, Replies.{frame_of, frame_or, reached, told_in}}

set-here : {X : Type 0} (xs : List X) (i : ℕ) (y z : X) → slice_get (set xs i y) i ≡ Some z → y ≡ z
set-here xs i y z is =
    let below : i < length (set xs i y) = slice_get_within (set xs i y) i z is in
    sym (get_or-set_same xs i y z (omega (arith, below, length-set xs i y))) ∙ get_or_from_slice_get (set xs i y) i z z is

set-there : {X : Type 0} (xs : List X) (i n : ℕ) (y z : X) → n ≢ i → slice_get (set xs i y) n ≡ Some z → slice_get xs n ≡ Some z
set-there xs i n y z apart is =
    let below : n < length (set xs i y) = slice_get_within (set xs i y) n z is in
    slice_get-get_or xs n z (omega (arith, below, length-set xs i y)) ∙ ap Some (sym (get_or-set_other xs i n y z apart) ∙ get_or_from_slice_get (set xs i y) n z z is)

pub told_same : (members : ℕ) (told also : ℕ → List Delivery) (groups : List KeptGroup) → ((i : ℕ) → told i ≡ also i) → HoldPortions members told groups → HoldPortions members also groups
told_same members told also groups same hold = record {
  many = hold.many;
  each = λ i g there. subst (λ ds. HoldsPortion members ds g) (same i) (hold.each i g there);
}

-- each group holds the portion of its port
pub portion_at : (members : ℕ) (told : ℕ → List Delivery) (groups : List KeptGroup) (i : ℕ) (g d : KeptGroup) → i < 16 → g ≡ get_or groups i d
    → HoldPortions members told groups → HoldsPortion members (told i) g
portion_at members told groups i g d below is hold = hold.each i g (slice_get-get_or groups i d (omega (arith, below, hold.many)) ∙ ap Some (sym is))

-- groups that hold their portions still hold them if no port is told any more
pub nothing_more : (members : ℕ) (told : ℕ → List Delivery) (groups : List KeptGroup) → HoldPortions members told groups → HoldPortions members (λ i. told i ++ []) groups
nothing_more members told groups hold = told_same members told (λ i. told i ++ []) groups (λ i. sym (append-nil (told i))) hold

elsewhere : (frame slot i : ℕ) (line : SlotLine) → (line.receiver == i) ≡ false → line_told frame slot i line ≡ []
elsewhere frame slot i line e = ap (λ b. if b then delivery_of frame slot line ∷ [] else []) e

here : (frame slot i : ℕ) (line : SlotLine) → (line.receiver == i) ≡ true → line_told frame slot i line ≡ delivery_of frame slot line ∷ []
here frame slot i line e = ap (λ b. if b then delivery_of frame slot line ∷ [] else []) e

-- a line of a port that there is not
pub no_port : (members frame slot : ℕ) (line : SlotLine) (told : ℕ → List Delivery) (groups : List KeptGroup) → 16 ≤ line.receiver → HoldPortions members told groups
    → HoldPortions members (λ i. told i ++ line_told frame slot i line) groups
no_port members frame slot line told groups past hold = record { many = hold.many; each = λ i g there. by i g there (line.receiver == i) refl }
  where
    by : (i : ℕ) (g : KeptGroup) → slice_get groups i ≡ Some g → (b : Bool) → (line.receiver == i) ≡ b → HoldsPortion members (told i ++ line_told frame slot i line) g
    by i g there false e = subst (λ ds. HoldsPortion members ds g) (sym (ap (λ ds. told i ++ ds) (elsewhere frame slot i line e) ∙ append-nil (told i))) (hold.each i g there)
    by i g there true e =
        let is = eqb-true line.receiver i e in
        let below = slice_get_within groups i g there in
        let many = hold.many in
        absurd (omega (arith, is, below, many, past))

-- the group of a port hears the line of that port
pub line_heard : (members frame slot : ℕ) (line : SlotLine) (told : ℕ → List Delivery) (groups : List KeptGroup) (before after : KeptGroup)
    → HoldPortions members told groups → HoldsPortion members (told line.receiver) before
    → ((ds : List Delivery) → HasHeard before ds → HasHeard after (ds ++ delivery_of frame slot line ∷ [])) → after.members ≡ before.members
    → HoldPortions members (λ i. told i ++ line_told frame slot i line) (set groups line.receiver after)
line_heard members frame slot line told groups before after hold old heard stay = record {
  many = length-set groups line.receiver after ∙ hold.many;
  each = λ i g is. by i g is (line.receiver == i) refl;
}
  where
    by : (i : ℕ) (g : KeptGroup) → slice_get (set groups line.receiver after) i ≡ Some g → (b : Bool) → (line.receiver == i) ≡ b
        → HoldsPortion members (told i ++ line_told frame slot i line) g
    by i g is false e =
        let apart : i ≢ line.receiver = λ same. absurd (let f : (line.receiver == line.receiver) ≡ false = subst (λ k. (line.receiver == k) ≡ false) same e in let t = eq_self line.receiver in cc) in
        subst (λ ds. HoldsPortion members ds g) (sym (ap (λ ds. told i ++ ds) (elsewhere frame slot i line e) ∙ append-nil (told i)))
        (hold.each i g (set-there groups line.receiver i after g apart is))
    by i g is true e =
        let at : line.receiver ≡ i = eqb-true line.receiver i e in
        let this : after ≡ g = set-here groups line.receiver after g (ap (slice_get (set groups line.receiver after)) at ∙ is) in
        let was : HoldsPortion members (told i) before = subst (λ k. HoldsPortion members (told k) before) at old in
        subst (λ ds. HoldsPortion members (told i ++ ds) g) (sym (here frame slot i line e))
        (subst (λ (k : KeptGroup). HoldsPortion members (told i ++ delivery_of frame slot line ∷ []) k) this
        (record { members_are = stay ∙ was.members_are; heard = heard (told i) was.heard }))

-- the groups hear the lines of a slot one after another
pub lines_heard : (members frame slot k : ℕ) (lines : List SlotLine) (d : SlotLine) (told : ℕ → List Delivery) (groups : List KeptGroup) → k < length lines
    → HoldPortions members (λ i. (told i ++ deliveries_in frame slot i (take k lines)) ++ line_told frame slot i (get_or lines k d)) groups
    → HoldPortions members (λ i. told i ++ deliveries_in frame slot i (take (k + 1) lines)) groups
lines_heard members frame slot k lines d told groups below hold =
    told_same members _ (λ i. told i ++ deliveries_in frame slot i (take (k + 1) lines)) groups (λ i.
    append_assoc (told i) (deliveries_in frame slot i (take k lines)) (line_told frame slot i (get_or lines k d))
    ∙ ap (λ ds. told i ++ ds) (
    ap (λ ds. deliveries_in frame slot i (take k lines) ++ ds) (sym (append-nil (line_told frame slot i (get_or lines k d))))
    ∙ sym (flat_map-append (line_told frame slot i) (take k lines) (get_or lines k d ∷ []))
    ∙ ap (deliveries_in frame slot i) (sym (take_more lines k d below)))) hold

-- Frames.

-- records do not tell of frames that they have not reached
pub none_further : (frames frame i : ℕ) (records : List Record) → reached frames records < frame → port_deliveries frame i records ≡ []
none_further frames frame i [] less = refl
none_further frames frame i (Frame f nodes ports ∷ rs) less = none_further frames frame i rs (omega arith)
none_further frames frame i (Slot f slot lines ∷ rs) less =
    let other : (f == frame) ≡ false = eq_other f frame (λ same. absurd (omega (arith, less, same))) in
    ap (λ b. (if b then deliveries_in frame slot i lines else []) ++ port_deliveries frame i rs) other ∙ none_further frames frame i rs (omega arith)
none_further frames frame i (Ended ∷ rs) less = none_further frames frame i rs (omega arith)
none_further frames frame i (Breach place cause ∷ rs) less = none_further frames frame i rs (omega arith)

-- what records tell, and one more
pub portion_more : (frame i : ℕ) (records : List Record) (o : Option Record) → port_deliveries frame i (records ++ option_to_list o) ≡ port_deliveries frame i records ++ told_in frame i o
portion_more frame i records None = ap (port_deliveries frame i) (append-nil records) ∙ sym (append-nil (port_deliveries frame i records))
portion_more frame i records (Some r) =
    flat_map-append (told_of frame i) records (r ∷ []) ∙ ap (λ ds. port_deliveries frame i records ++ ds) (append-nil (told_of frame i r))

max_more : (newest : ℕ) (frames : ℕ) (o : Option Record) (x : ℕ) → max x (max newest (frame_or frames newest o)) ≡ max (max x newest) (frame_or frames (max x newest) o)
max_more newest frames None x = omega arith
max_more newest frames (Some r) x = omega arith

pub reached_more : (frames : ℕ) (records : List Record) (o : Option Record) → reached frames (records ++ option_to_list o) ≡ max (reached frames records) (frame_or frames (reached frames records) o)
reached_more frames [] None = refl
reached_more frames [] (Some r) = omega arith
reached_more frames (x ∷ rs) o = ap (max (frame_of frames x)) (reached_more frames rs o) ∙ max_more (reached frames rs) frames o (frame_of frames x)

-- A slot.

-- the record of a slot of the frame tells a port what the lines deliver to it
pub slot_told : (frame i f slot : ℕ) (lines : List SlotLine) → f ≡ frame → deliveries_in f slot i lines ≡ told_of frame i (Slot f slot lines)
slot_told frame i f slot lines same =
    ap (λ k. deliveries_in k slot i lines) same
    ∙ sym (ap (λ b. if b then deliveries_in frame slot i lines else []) (ap (λ k. k == frame) same ∙ eq_self frame))

pub slot_untold : (frame i f slot : ℕ) (lines : List SlotLine) → f ≢ frame → told_of frame i (Slot f slot lines) ≡ []
slot_untold frame i f slot lines other = ap (λ b. if b then deliveries_in frame slot i lines else []) (eq_other f frame other)

-- a record that tells no port anything leaves the groups as they are
pub untold : (members frame : ℕ) (told : ℕ → List Delivery) (o : Option Record) (groups : List KeptGroup) → ((i : ℕ) → told_in frame i o ≡ []) → HoldPortions members told groups
    → HoldPortions members (λ i. told i ++ told_in frame i o) groups
untold members frame told o groups none hold =
    told_same members told (λ i. told i ++ told_in frame i o) groups (λ i. sym (ap (λ ds. told i ++ ds) (none i) ∙ append-nil (told i))) hold
