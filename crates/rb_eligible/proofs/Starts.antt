-- A word that is meant for a window, by the numbers that its bytes are kept as.
use Rattle.std.proofs.{Common.{◌≡◌, ℕ, ◌+◌, ◌*◌, ◌/◌, ◌%◌, ◌≤◌, nat_le, Bool, true, false, if◌then◌else◌, Some, refl, sym, ◌∙◌, ap}, lemmas.Bool.le-leb}
use Rattle.rb_base.proofs.Plain.{eq_self}
use Rattle.rb_rules.specs.{declared.message.Message.Message, declared.message.Tag.TheVariants.Word, declared.sense.Expect.Expect, declared.sense.Sense.TheVariants.{Bad, One}, Sense.{is_one, sense_of_one, suits, value_in}, Spelling.{has_form, message_in, message_with, tag_in}}
use Rattle.rb_frame.specs.Spellings.{spelled}
use Rattle.rb_eligible.specs.Readings.{Says, StartsAsWord}
use Rattle.rb_eligible.proofs.Forms.{message_from}
use Rattle.rb_base.specs.declared.values.Heard.TheVariants as heard

message_is : (frame slot stage value : ℕ) → nat_le 1 stage ≡ true → nat_le stage 3 ≡ true
    → message_with (Some Word) frame slot stage value ≡ Some (record { tag = Word; frame = frame; slot = slot; stage = stage; value = value })
message_is frame slot stage value some most = rw (some, most) refl

suits_is : (e : Expect) (value : ℕ) → e.sync ≡ false → suits e (record { tag = Word; frame = e.frame; slot = e.slot; stage = e.stage; value = value }) ≡ true
suits_is e value sync = rw (eq_self e.frame, eq_self e.slot, eq_self e.stage, sync) refl

-- bytes that start as a word and have the form of a message say that word
pub says_word : (e : Expect) (low high len word : ℕ) → len ≤ 12 → StartsAsWord e low → has_form e.version (spelled low high len) ≡ true
    → word ≡ low / 281474976710656 % 256 * 16777216 + low / 72057594037927936 % 256 * 65536 + high % 256 * 256 + high / 256 % 256
    → Says e (spelled low high len) true (Some (heard.Word word))
says_word e low high len word short starts form is =
    let m : Message = record { tag = Word; frame = e.frame; slot = e.slot; stage = e.stage; value = word } in
    let tag : tag_in (low % 256) ≡ Some Word = ap tag_in starts.tag in
    let message : message_in e.version (spelled low high len) ≡ Some m =
    message_from e.version low high len short form
    ∙ (λ i. message_with (tag i) (starts.frame i) (starts.slot i) (starts.stage i) (sym is i))
    ∙ message_is e.frame e.slot e.stage word (le-leb 1 e.stage starts.some_stage) (le-leb e.stage 3 starts.most_stages) in
    let suited : suits e m ≡ true = suits_is e word starts.no_sync in
    record {
      one_is = sym (ap (λ x. is_one (sense_of_one e 0 x)) message ∙ ap (λ (b : Bool). is_one (if b then One 0 m else Bad)) suited);
      value_is = sym (ap (λ x. value_in (sense_of_one e 0 x)) message ∙ ap (λ (b : Bool). value_in (if b then One 0 m else Bad)) suited);
    }
