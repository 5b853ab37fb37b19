-- The letters that deliveries of a slot give one after another.
use Rattle.std.proofs.{Common.{◌≡◌, ℕ, ◌+◌, ◌<◌, Option, List, [], ◌∷◌, ◌++◌, length, take, drop, get_or, refl, sym, ap, ◌∙◌, subst, append_assoc}, lemmas.List.{append-nil, take_more, take-append-drop}}
use Rattle.std.specs.Io.KnownBytes.{Appends}
use Rattle.rb_rules.specs.declared.record.SlotLine.{SlotLine}
use Rattle.rb_outside.specs.Bytes.{AppendsPart}
use Rattle.rb_outside.proofs.Known.{appends_join, part_join, part_widens}
use Rattle.rb_long_run.specs.{Hearing.{Open, letter_of, lines_text, with_line, with_lines}, Reports.given_text}

-- the text of two parts of the lines is that of the one, and then that of the other
pub text-split : (frame slot : ℕ) (all : Open) (xs ys : List SlotLine) → lines_text frame slot all (xs ++ ys) ≡ lines_text frame slot all xs ++ lines_text frame slot (with_lines all xs) ys
text-split frame slot all [] ys = refl
text-split frame slot all (x ∷ xs) ys =
    ap (λ t. given_text frame slot x (letter_of all x) ++ t) (text-split frame slot (with_line all x) xs ys)
    ∙ sym (append_assoc (given_text frame slot x (letter_of all x)) _ _)

pub open-split : (all : Open) (xs ys : List SlotLine) → with_lines all (xs ++ ys) ≡ with_lines (with_lines all xs) ys
open-split all [] ys = refl
open-split all (x ∷ xs) ys = open-split (with_line all x) xs ys

text-one : (frame slot : ℕ) (all now : Open) (lines : List SlotLine) (i : ℕ) (d : SlotLine) → i < length lines → now ≡ with_lines all (take i lines)
    → lines_text frame slot all (take (i + 1) lines) ≡ lines_text frame slot all (take i lines) ++ given_text frame slot (get_or lines i d) (letter_of now (get_or lines i d))
text-one frame slot all now lines i d below is =
    ap (lines_text frame slot all) (take_more lines i d below)
    ∙ text-split frame slot all (take i lines) (get_or lines i d ∷ [])
    ∙ ap (λ t. lines_text frame slot all (take i lines) ++ t) (append-nil (given_text frame slot (get_or lines i d) (letter_of (with_lines all (take i lines)) (get_or lines i d))))
    ∙ ap (λ (o : Open). lines_text frame slot all (take i lines) ++ given_text frame slot (get_or lines i d) (letter_of o (get_or lines i d))) (sym is)

-- with the letter of one more line the text of the lines up to it is written
pub heard-more : (frame slot : ℕ) (all now : Open) (lines : List SlotLine) (i : ℕ) (d : SlotLine) (given : Option (List ℕ)) (old mid new : Option (List ℕ)) → i < length lines
    → now ≡ with_lines all (take i lines) → given ≡ letter_of now (get_or lines i d) → Appends old mid (lines_text frame slot all (take i lines))
    → Appends mid new (given_text frame slot (get_or lines i d) given) → Appends old new (lines_text frame slot all (take (i + 1) lines))
heard-more frame slot all now lines i d given old mid new below is gives before after =
    subst (λ t. Appends old new t) (sym (text-one frame slot all now lines i d below is))
    (appends_join old mid new _ _ before (subst (λ (g : Option (List ℕ)). Appends mid new (given_text frame slot (get_or lines i d) g)) gives after))

pub heard-part : (frame slot : ℕ) (all now : Open) (lines : List SlotLine) (i : ℕ) (d : SlotLine) (given : Option (List ℕ)) (old mid new : Option (List ℕ)) → i < length lines
    → now ≡ with_lines all (take i lines) → given ≡ letter_of now (get_or lines i d) → Appends old mid (lines_text frame slot all (take i lines))
    → AppendsPart mid new (given_text frame slot (get_or lines i d) given) → AppendsPart old new (lines_text frame slot all lines)
heard-part frame slot all now lines i d given old mid new below is gives before after =
    let some : AppendsPart old new (lines_text frame slot all (take (i + 1) lines)) =
    subst (λ t. AppendsPart old new t) (sym (text-one frame slot all now lines i d below is))
    (part_join old mid new _ _ before (subst (λ (g : Option (List ℕ)). AppendsPart mid new (given_text frame slot (get_or lines i d) g)) gives after)) in
    let whole : lines_text frame slot all (take (i + 1) lines) ++ lines_text frame slot (with_lines all (take (i + 1) lines)) (drop (i + 1) lines) ≡ lines_text frame slot all lines =
    sym (text-split frame slot all (take (i + 1) lines) (drop (i + 1) lines)) ∙ ap (lines_text frame slot all) (take-append-drop (i + 1) lines) in
    subst (λ t. AppendsPart old new t) whole (part_widens old new _ _ some)

pub open-more : (all now next : Open) (lines : List SlotLine) (i : ℕ) (d : SlotLine) → i < length lines → now ≡ with_lines all (take i lines) → next ≡ with_line now (get_or lines i d)
    → next ≡ with_lines all (take (i + 1) lines)
open-more all now next lines i d below is after =
    after
    ∙ ap (λ (o : Open). with_line o (get_or lines i d)) is
    ∙ sym (ap (with_lines all) (take_more lines i d below) ∙ open-split all (take i lines) (get_or lines i d ∷ []))
