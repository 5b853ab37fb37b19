-- What is kept, with more told.
use Rattle.std.proofs.{Common.{◌≡◌, ℕ, ◌+◌, ◌<◌, ◌==◌, ◌&&◌, Bool, true, false, if◌then◌else◌, Option, Some, None, List, [], ◌∷◌, ◌++◌, take, length, get_or, refl, sym, ◌∙◌, ap}, lemmas.Grind.flat_map-append, lemmas.List.{append-nil, take_more}}
use Rattle.std.specs.Option.{option_or, option_to_list}
use Rattle.rb_base.specs.{declared.values.Delivery.Delivery, declared.values.Heard.Heard}
use Rattle.rb_base.proofs.Plain.{eq_self, option_or-if, option_or-none}
use Rattle.rb_rules.specs.{declared.record.SlotLine.SlotLine, Book.Record, Book.Record.{Frame, Slot, Ended, Breach}}
use Rattle.rb_group.specs.Portions.{deliveries_in, line_told, port_deliveries, told_of}
use Rattle.rb_rules_bridge.specs.Crossings.{value_in, value_told}
use Rattle.rb_laws_bridge.proofs.Told.{value_in-append}
use Rattle.rb_bridge.specs.Holding.{HoldValues, value_by, value_with}

pub hold-same : (told also : ℕ → Option Heard) (kept : List (Option Heard)) → ((i : ℕ) → told i ≡ also i) → HoldValues told kept → HoldValues also kept
hold-same told also kept same hold = record { many = hold.many; each = λ i h. hold.each i h ∙ same i }

or-joined : {X : Type 0} (a b c : Option X) → option_or (option_or a b) c ≡ option_or a (option_or b c)
or-joined None b c = refl
or-joined (Some x) b c = refl

pub nothing-more : (told : ℕ → Option Heard) (kept : List (Option Heard)) → HoldValues told kept → HoldValues (λ i. option_or (told i) None) kept
nothing-more told kept hold = hold-same told (λ i. option_or (told i) None) kept (λ i. sym (option_or-none (told i))) hold

value_by-append : (xs ys : List SlotLine) (i : ℕ) → value_by (xs ++ ys) i ≡ option_or (value_by xs i) (value_by ys i)
value_by-append [] ys i = refl
value_by-append (x ∷ xs) ys i =
    ap (λ o. if x.receiver == i then Some x.value else o) (value_by-append xs ys i) ∙ option_or-if (x.receiver == i) x.value (value_by xs i) (value_by ys i)

-- values with the first `k` lines and then line `k` are the values with the first k + 1 lines
pub lines-more : (told : ℕ → Option Heard) (k : ℕ) (lines : List SlotLine) (d : SlotLine) (kept : List (Option Heard)) → k < length lines
    → HoldValues (λ i. option_or (option_or (told i) (value_by (take k lines) i)) (value_by (get_or lines k d ∷ []) i)) kept
    → HoldValues (λ i. option_or (told i) (value_by (take (k + 1) lines) i)) kept
lines-more told k lines d kept below hold =
    hold-same _ (λ i. option_or (told i) (value_by (take (k + 1) lines) i)) kept (λ i.
    or-joined (told i) (value_by (take k lines) i) (value_by (get_or lines k d ∷ []) i)
    ∙ ap (option_or (told i)) (sym (value_by-append (take k lines) (get_or lines k d ∷ []) i) ∙ ap (λ l. value_by l i) (sym (take_more lines k d below)))) hold

-- Records.

-- the lines of slot `s` deliver their value in that slot and in no other
in-lines : (frame s slot i : ℕ) (lines : List SlotLine) → value_in slot (deliveries_in frame s i lines) ≡ (if s == slot then value_by lines i else None)
in-lines frame s slot i [] = none (s == slot)
  where
    nobody : Option Heard
    nobody = None

    none : (b : Bool) → nobody ≡ (if b then nobody else nobody)
    none true = refl
    none false = refl
in-lines frame s slot i (l ∷ ls) =
    value_in-append slot (line_told frame s i l) (deliveries_in frame s i ls) ∙ by (l.receiver == i) (s == slot) refl (in-lines frame s slot i ls)
  where
    this : Delivery
    this = record { frame = frame; slot = s; sender = l.sender; value = l.value }

    by : (b c : Bool) → (s == slot) ≡ c → value_in slot (deliveries_in frame s i ls) ≡ (if c then value_by ls i else None)
        → option_or (value_in slot (if b then this ∷ [] else [])) (value_in slot (deliveries_in frame s i ls))
        ≡ (if c then (if b then Some l.value else value_by ls i) else None)
    by true true e h = ap (λ c. option_or (if c then Some l.value else None) (value_in slot (deliveries_in frame s i ls))) e
    by true false e h = ap (λ c. option_or (if c then Some l.value else None) (value_in slot (deliveries_in frame s i ls))) e ∙ h
    by false c e h = h

with-record : (frame slot i : ℕ) (r : Record) → value_in slot (told_of frame i r) ≡ value_with frame slot (Some r) i
with-record frame slot i (Frame f nodes ports) = refl
with-record frame slot i (Slot f s lines) = by (f == frame)
  where
    by : (b : Bool) → value_in slot (if b then deliveries_in frame s i lines else []) ≡ (if b && (s == slot) then value_by lines i else None)
    by true = in-lines frame s slot i lines
    by false = refl
with-record frame slot i Ended = refl
with-record frame slot i (Breach place cause) = refl

pub value-more : (frame slot i : ℕ) (records : List Record) (o : Option Record)
    → option_or (value_told frame slot records i) (value_with frame slot o i) ≡ value_told frame slot (records ++ option_to_list o) i
value-more frame slot i records None = option_or-none (value_told frame slot records i) ∙ ap (λ rs. value_told frame slot rs i) (sym (append-nil records))
value-more frame slot i records (Some r) =
    ap (option_or (value_told frame slot records i)) (sym (with-record frame slot i r) ∙ ap (value_in slot) (sym (append-nil (told_of frame i r))))
    ∙ sym (value_in-append slot (port_deliveries frame i records) (told_of frame i r ++ []))
    ∙ ap (value_in slot) (sym (flat_map-append (told_of frame i) records (r ∷ [])))

-- what the lines of this slot say is what its record does
pub here-told : (frame slot f s i : ℕ) (lines : List SlotLine) → f ≡ frame → s ≡ slot → value_by lines i ≡ value_with frame slot (Some (Slot f s lines)) i
here-told frame slot f s i lines same_frame same_slot =
    sym (ap (λ b. if b && (s == slot) then value_by lines i else None) (ap (λ f. f == frame) same_frame ∙ eq_self frame)
    ∙ ap (λ b. if b then value_by lines i else None) (ap (λ s. s == slot) same_slot ∙ eq_self slot))
