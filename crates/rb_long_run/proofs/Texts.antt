-- The text of one record more.
use Rattle.std.proofs.{Common.{◌≡◌, ℕ, List, [], ◌∷◌, ◌++◌, Option, Some, None, refl, sym, ap, ◌∙◌, append_assoc, subst}, lemmas.List.append-nil}
use Rattle.std.specs.Option.{option_to_list}
use Rattle.rb_rules.specs.{declared.record.SlotLine.SlotLine, Book.Record, Book.Record.{Frame, Slot, Ended, Breach}}
use Rattle.rb_long_run.specs.{Hearing.{Hears, Open}, Reports.{letters_after, letters_report, slot_text}, Texts.{open_with, turn_text}}
use Rattle.rb_long_run.proofs.Histories.{hears-all, slot-same}
use Rattle.rb_long.specs.Delivered.{deliveries_in, lines_in}
use Rattle.rb_report.specs.Report.{breach_text, end_text}
use Rattle.rb_run.specs.Reports.{newest_after}

-- the lines of a record, if there is one
abbrev lines-of : Option Record → List SlotLine
lines-of None = []
lines-of (Some r) = lines_in r

-- the text of two parts of the records is that of the first, and then that of the second
text-of-parts : (n : ℕ) (past : List SlotLine) (xs ys : List Record)
    → letters_after n past (xs ++ ys) ≡ letters_after n past xs ++ letters_after (newest_after n xs) (past ++ deliveries_in xs) ys
text-of-parts n past [] ys = ap (λ lines. letters_after n lines ys) (sym (append-nil past))
text-of-parts n past (Frame frame nodes ports ∷ xs) ys = text-of-parts frame past xs ys
text-of-parts n past (Slot frame slot lines ∷ xs) ys =
    ap (λ t. slot_text frame slot past lines ++ t) (text-of-parts n (past ++ lines) xs ys)
    ∙ sym (append_assoc (slot_text frame slot past lines) _ _)
    ∙ ap (λ all. (slot_text frame slot past lines ++ letters_after n (past ++ lines) xs) ++ letters_after (newest_after n xs) all ys) (append_assoc past lines (deliveries_in xs))
text-of-parts n past (Ended ∷ xs) ys = ap (λ t. end_text n ++ t) (text-of-parts n past xs ys) ∙ sym (append_assoc (end_text n) _ _)
text-of-parts n past (Breach place cause ∷ xs) ys = ap (λ t. breach_text place cause ++ t) (text-of-parts n past xs ys) ∙ sym (append_assoc (breach_text place cause) _ _)

-- a turn says what its record says after the deliveries `past`
turn-same : (n : ℕ) (all : Open) (past : List SlotLine) (o : Option Record) → Hears all past → turn_text n all o ≡ letters_after n past (option_to_list o)
turn-same n all past None is = refl
turn-same n all past (Some (Frame frame nodes ports)) is = refl
turn-same n all past (Some (Slot frame slot lines)) is = slot-same frame slot all past lines is ∙ sym (append-nil (slot_text frame slot past lines))
turn-same n all past (Some Ended) is = sym (append-nil (end_text n))
turn-same n all past (Some (Breach place cause)) is = sym (append-nil (breach_text place cause))

-- the text of some records and one more
pub text-more : (records : List Record) (o : Option Record) (all : Open) → Hears all (deliveries_in records)
    → letters_report (records ++ option_to_list o) ≡ letters_report records ++ turn_text (newest_after 0 records) all o
text-more records o all is =
    text-of-parts 0 [] records (option_to_list o)
    ∙ ap (λ x. letters_report records ++ x) (sym (turn-same (newest_after 0 records) all (deliveries_in records) o is))

deliveries-with : (rs : List Record) (o : Option Record) → deliveries_in (rs ++ option_to_list o) ≡ deliveries_in rs ++ lines-of o
deliveries-with [] None = refl
deliveries-with [] (Some r) = append-nil (lines_in r)
deliveries-with (r ∷ rs) o = ap (λ xs. lines_in r ++ xs) (deliveries-with rs o) ∙ sym (append_assoc (lines_in r) (deliveries_in rs) (lines-of o))

with-turn : (all : Open) (past : List SlotLine) (o : Option Record) → Hears all past → Hears (open_with all o) (past ++ lines-of o)
with-turn all past None is = subst (λ xs. Hears all xs) (sym (append-nil past)) is
with-turn all past (Some (Frame frame nodes ports)) is = subst (λ xs. Hears all xs) (sym (append-nil past)) is
with-turn all past (Some (Slot frame slot lines)) is = hears-all all past lines is
with-turn all past (Some Ended) is = subst (λ xs. Hears all xs) (sym (append-nil past)) is
with-turn all past (Some (Breach place cause)) is = subst (λ xs. Hears all xs) (sym (append-nil past)) is

pub hears-more : (records : List Record) (o : Option Record) (all : Open) → Hears all (deliveries_in records) → Hears (open_with all o) (deliveries_in (records ++ option_to_list o))
hears-more records o all is = subst (λ xs. Hears (open_with all o) xs) (sym (deliveries-with records o)) (with-turn all (deliveries_in records) o is)
