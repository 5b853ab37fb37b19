-- The text of one record more.
use Rattle.std.proofs.{Common.{◌≡◌, ℕ, List, [], ◌∷◌, ◌++◌, Option, Some, None, refl, sym, ap, ◌∙◌, append_assoc, Result, Ok, Err, OnErr}, lemmas.List.append-nil, lemmas.List.Elements.filter_map-append}
use Rattle.std.specs.{List.cons_option, Option.option_to_list, Io.KnownBytes.Appends}
use Rattle.rb_rules.specs.{Book.Record, Book.Record.{Frame, Slot, Ended, Breach}}
use Rattle.rb_world_book.specs.{Records.record_of, declared.turn.Turn.Turn}
use Rattle.rb_outside.specs.Bytes.{AppendsPart}
use Rattle.rb_outside.proofs.Known.{part_join}
use Rattle.rb_report.specs.{Report.{breach_text, end_text}, Texts.{block_text, deliveries_text, text_after}}
use Rattle.rb_run.specs.{Reports.{newest_after, newest_with, turn_text}, Turns.records_in}

one-item : {X : Type 0} (o : Option X) → cons_option o [] ≡ option_to_list o
one-item None = refl
one-item (Some x) = refl

pub records-more : (turns : List Turn) (t : Turn) → records_in (turns ++ t ∷ []) ≡ records_in turns ++ option_to_list (record_of t)
records-more turns t = filter_map-append record_of turns (t ∷ []) ∙ ap (λ rs. records_in turns ++ rs) (one-item (record_of t))

-- the text of some records and one more
pub text-with : (n : ℕ) (rs : List Record) (o : Option Record) → text_after n (rs ++ option_to_list o) ≡ text_after n rs ++ turn_text (newest_after n rs) o
text-with n [] None = refl
text-with n [] (Some (Frame frame nodes ports)) = append-nil (block_text frame nodes ports)
text-with n [] (Some (Slot frame slot lines)) = append-nil (deliveries_text frame slot lines)
text-with n [] (Some Ended) = append-nil (end_text n)
text-with n [] (Some (Breach place cause)) = append-nil (breach_text place cause)
text-with n (Frame frame nodes ports ∷ rs) o = ap (λ t. block_text frame nodes ports ++ t) (text-with frame rs o) ∙ sym (append_assoc (block_text frame nodes ports) _ _)
text-with n (Slot frame slot lines ∷ rs) o = ap (λ t. deliveries_text frame slot lines ++ t) (text-with n rs o) ∙ sym (append_assoc (deliveries_text frame slot lines) _ _)
text-with n (Ended ∷ rs) o = ap (λ t. end_text n ++ t) (text-with n rs o) ∙ sym (append_assoc (end_text n) _ _)
text-with n (Breach place cause ∷ rs) o = ap (λ t. breach_text place cause ++ t) (text-with n rs o) ∙ sym (append_assoc (breach_text place cause) _ _)

-- after one more record the newest block is that of this record, if it has one
pub newest-with : (n : ℕ) (rs : List Record) (o : Option Record) → newest_after n (rs ++ option_to_list o) ≡ newest_with (newest_after n rs) o
newest-with n [] None = refl
newest-with n [] (Some r) = refl
newest-with n (r ∷ rs) o = newest-with (newest_with n (Some r)) rs o

-- if the last of two parts was not written whole, both together were written in part
pub part-last : {T E : Type 0} (r : Result T E) (a b c : Option (List ℕ)) (xs ys : List ℕ) → Appends a b xs → OnErr r (AppendsPart b c ys) → OnErr r (AppendsPart a c (xs ++ ys))
part-last (Ok x) a b c xs ys before now = tt
part-last (Err e) a b c xs ys before now = part_join a b c xs ys before now
