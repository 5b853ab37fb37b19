-- What a reader makes of the words of letters.
use Rattle.std.proofs.{Common.{◌≡◌, ℕ, zero, suc, ◌+◌, ◌-◌, ◌*◌, ◌/◌, ◌%◌, ◌^◌, ◌<◌, ◌≤◌, ◌==◌, nat_le, nat_lt, not, All, Bool, true, false, cond, Option, Some, None, List, [], ◌∷◌, ◌++◌, drop, take, length, map, get_or, append_assoc, refl, sym, ap, ◌∙◌, subst, arith}, lemmas.Bool.{and_from, and_right, le-leb, le-ltb, lt-ltb}, lemmas.Bool.Decides.nat_tests, lemmas.List.{append-nil, length-append, map-append}, lemmas.List.Elements.{All-head, All-tail}}
use Rattle.std.specs.{List.{list_all, range_with_len}, Option.option_to_list}
use Rattle.rb_base.specs.{declared.values.Heard.Heard, declared.values.Heard.TheVariants.Word}
use Rattle.rb_long.specs.{Reading.{OpenLetter, Read, given_with, is_zero, keeps, open_after, with_bytes, with_last, with_part, with_value, with_word}, Spelling.{bytes_in, first_word, is_first, is_length, is_part, part_at, part_word, parts_in, parts_of, spelling_of}}
use Rattle.rb_laws_letters.specs.{Laws.{IsRead, LettersAreRead, WordsGiveTheirLetters}, Sent.{IsLetter, heard_words, without_zeros, words_of}}

-- Words one after another.

pub given-append : (o : Option OpenLetter) (xs ys : List Heard) → given_with o (xs ++ ys) ≡ given_with o xs ++ given_with (open_after o xs) ys
given-append o [] ys = refl
given-append o (x ∷ xs) ys =
    ap (λ l. option_to_list (with_value x o).given ++ l) (given-append (with_value x o).after xs ys)
    ∙ sym (append_assoc (option_to_list (with_value x o).given) (given_with (with_value x o).after xs) (given_with (open_after (with_value x o).after xs) ys))

pub open-append : (o : Option OpenLetter) (xs ys : List Heard) → open_after o (xs ++ ys) ≡ open_after (open_after o xs) ys
open-append o [] ys = refl
open-append o (x ∷ xs) ys = open-append (with_value x o).after xs ys

-- Zeros.

pub given-no-zeros : (o : Option OpenLetter) (words : List ℕ) → given_with o (heard_words words) ≡ given_with o (heard_words (without_zeros words))
given-no-zeros o [] = refl
given-no-zeros o (w ∷ ws) = by (w == 0) refl (λ p. given-no-zeros p ws)
  where
    by : (b : Bool) → (w == 0) ≡ b → ((p : Option OpenLetter) → given_with p (heard_words ws) ≡ given_with p (heard_words (without_zeros ws)))
        → given_with o (heard_words (w ∷ ws)) ≡ given_with o (heard_words (cond (not b) (w ∷ without_zeros ws) (without_zeros ws)))
    by true e rest =
        ap (λ (r : Read). option_to_list r.given ++ given_with r.after (heard_words ws))
        (ap (λ (b : Bool). elim b as (λ _. Read) [
          | true ↦ keeps o
          | false ↦ elim (is_first w) as (λ _. Read) [
            | true ↦ keeps (Some (record { wanted = w - 2 ^ 24; bytes = [] }))
            | false ↦ elim (is_part w) as (λ _. Read) [ true ↦ with_part (bytes_in w) o | false ↦ keeps None ]
          ]
        ]) e)
        ∙ rest o
    by false e rest = ap (λ l. option_to_list (with_word w o).given ++ l) (rest (with_word w o).after)

-- The parts of a letter.

shifted : (f g : ℕ → ℕ) (n i j : ℕ) → ((k : ℕ) → f (i + k) ≡ g (j + k)) → map f (range_with_len i n) ≡ map g (range_with_len j n)
shifted f g zero i j same = refl
shifted f g (suc n) i j same =
    let i0 : i ≡ i + 0 = omega arith in
    let j0 : j + 0 ≡ j = omega arith in
    ap (λ x. x ∷ map f (range_with_len (i + 1) n)) (ap f i0 ∙ same 0 ∙ ap g j0)
    ∙ ap (λ l. g j ∷ l) (shifted f g n (i + 1) (j + 1) (λ k.
    let ik : i + 1 + k ≡ i + suc k = omega arith in
    let jk : j + suc k ≡ j + 1 + k = omega arith in
    ap f ik ∙ same (suc k) ∙ ap g jk))

part-after : (a b c : ℕ) (rest : List ℕ) (k : ℕ) → part_at (a ∷ b ∷ c ∷ rest) (1 + k) ≡ part_at rest (0 + k)
part-after a b c rest k =
    let one : 3 * (1 + k) ≡ suc (suc (suc (3 * (0 + k)))) = omega arith in
    let two : 3 * (1 + k) + 1 ≡ suc (suc (suc (3 * (0 + k) + 1))) = omega arith in
    let three : 3 * (1 + k) + 2 ≡ suc (suc (suc (3 * (0 + k) + 2))) = omega arith in
    let all : List ℕ = a ∷ b ∷ c ∷ rest in
    ap (λ n. part_word (get_or all n 0) (get_or all (3 * (1 + k) + 1) 0) (get_or all (3 * (1 + k) + 2) 0)) one
    ∙ ap (λ n. part_word (get_or rest (3 * (0 + k)) 0) (get_or all n 0) (get_or all (3 * (1 + k) + 2) 0)) two
    ∙ ap (λ n. part_word (get_or rest (3 * (0 + k)) 0) (get_or rest (3 * (0 + k) + 1) 0) (get_or all n 0)) three

pub parts-more : (a b c : ℕ) (rest : List ℕ) → parts_of (a ∷ b ∷ c ∷ rest) ≡ part_word a b c ∷ parts_of rest
parts-more a b c rest =
    let many : parts_in (length (a ∷ b ∷ c ∷ rest)) ≡ suc (parts_in (length rest)) = omega arith in
    let start : 0 + 1 ≡ 1 = omega arith in
    ap (λ n. map (part_at (a ∷ b ∷ c ∷ rest)) (range_with_len 0 n)) many
    ∙ ap (λ l. part_word a b c ∷ l) (shifted (part_at (a ∷ b ∷ c ∷ rest)) (part_at rest) (parts_in (length rest)) 1 0 (part-after a b c rest))

-- A word of three bytes.

record IsPartWord (a b c word : ℕ) : Type 0 where
  some : (word == 0) ≡ false
  no_first : is_first word ≡ false
  part : is_part word ≡ true
  one : word / 65536 % 256 ≡ a
  two : word / 256 % 256 ≡ b
  three : word % 256 ≡ c

differs : (w : ℕ) → 0 < w → (w == 0) ≡ false
differs w h = grind (arith, nat_tests)

part-word-is : (a b c : ℕ) → a < 256 → b < 256 → c < 256 → IsPartWord a b c (part_word a b c)
part-word-is a b c ha hb hc = record {
  some = differs (part_word a b c) (omega arith);
  no_first = and_right (nat_lt (2 ^ 24) (part_word a b c)) (nat_lt (part_word a b c) (2 ^ 24 + 256)) (le-ltb (part_word a b c) (2 ^ 24 + 256) (omega arith));
  part = and_from (nat_le (2 ^ 25) (part_word a b c)) (nat_lt (part_word a b c) (2 ^ 25 + 2 ^ 24)) (le-leb (2 ^ 25) (part_word a b c) (omega arith)) (lt-ltb (part_word a b c) (2 ^ 25 + 2 ^ 24) (omega (arith, ha, hb, hc)));
  one = omega (arith, ha, hb, hc);
  two = omega (arith, ha, hb, hc);
  three = omega (arith, ha, hb, hc);
}

-- what a reader makes of a word, by what the word is
abbrev read_as : ℕ → Option OpenLetter → Bool → Bool → Bool → Read
read_as w o none first part =
    elim none as (λ _. Read) [
      | true ↦ keeps o
      | false ↦ elim first as (λ _. Read) [
        | true ↦ keeps (Some (record { wanted = w - 2 ^ 24; bytes = [] }))
        | false ↦ elim part as (λ _. Read) [ true ↦ with_part (bytes_in w) o | false ↦ keeps None ]
      ]
    ]

read-part : (a b c wanted : ℕ) (bytes : List ℕ) → a < 256 → b < 256 → c < 256
    → with_word (part_word a b c) (Some (record { wanted = wanted; bytes = bytes })) ≡ with_bytes wanted (bytes ++ a ∷ b ∷ c ∷ [])
read-part a b c wanted bytes ha hb hc = by (part_word a b c) (part-word-is a b c ha hb hc)
  where
    o : Option OpenLetter
    o = Some (record { wanted = wanted; bytes = bytes })

    by : (w : ℕ) → IsPartWord a b c w → with_word w o ≡ with_bytes wanted (bytes ++ a ∷ b ∷ c ∷ [])
    by w is =
        ap (λ x. read_as w o x (is_first w) (is_part w)) is.some
        ∙ ap (λ x. read_as w o false x (is_part w)) is.no_first
        ∙ ap (λ x. read_as w o false false x) is.part
        ∙ ap (λ x. with_bytes wanted (bytes ++ x ∷ w / 256 % 256 ∷ w % 256 ∷ [])) is.one
        ∙ ap (λ x. with_bytes wanted (bytes ++ a ∷ x ∷ w % 256 ∷ [])) is.two
        ∙ ap (λ x. with_bytes wanted (bytes ++ a ∷ b ∷ x ∷ [])) is.three

read-first : (n : ℕ) (o : Option OpenLetter) → is_length n ≡ true → with_word (first_word n) o ≡ keeps (Some (record { wanted = n; bytes = [] }))
read-first n o some =
    let low : 1 ≤ n = grind (arith, nat_tests) in
    let high : n ≤ 255 = grind (arith, nat_tests) in
    let w : ℕ = first_word n in
    let length_is : w - 2 ^ 24 ≡ n = omega arith in
    ap (λ x. read_as w o x (is_first w) (is_part w)) (differs w (omega arith))
    ∙ ap (λ x. read_as w o false x (is_part w))
    (and_from (nat_lt (2 ^ 24) w) (nat_lt w (2 ^ 24 + 256)) (lt-ltb (2 ^ 24) w (omega arith)) (lt-ltb w (2 ^ 24 + 256) (omega arith)))
    ∙ ap (λ x. keeps (Some (record { wanted = x; bytes = [] }))) length_is

-- Bytes.

take-first : (xs ys : List ℕ) → take (length xs) (xs ++ ys) ≡ xs
take-first [] ys = refl
take-first (x ∷ xs) ys = ap (λ l. x ∷ l) (take-first xs ys)

drop-first : (xs ys : List ℕ) → drop (length xs) (xs ++ ys) ≡ ys
drop-first [] ys = refl
drop-first (x ∷ xs) ys = drop-first xs ys

more : {n : ℕ} (wanted : ℕ) (bytes : List ℕ) → length bytes ≡ n → n < wanted → with_bytes wanted bytes ≡ keeps (Some (record { wanted = wanted; bytes = bytes }))
more wanted bytes e lt =
    ap (λ b. elim b as (λ _. Read) [ true ↦ keeps (Some (record { wanted = wanted; bytes = bytes })) | false ↦ with_last wanted bytes ])
    (lt-ltb (length bytes) wanted (omega (arith, e, lt)))

-- the last bytes of a letter, filled with zeros, end it
last : {wanted : ℕ} (letter zeros : List ℕ) {bytes : _} → bytes ≡ letter ++ zeros → length letter ≡ wanted → list_all is_zero zeros ≡ true
    → with_bytes wanted bytes ≡ record { after = None; given = Some letter }
last {wanted} letter zeros {bytes} is long all =
    let many = length-append letter zeros in
    let all_long : length bytes ≡ length (letter ++ zeros) = ap length is in
    let dropped : drop wanted bytes ≡ zeros = ap (λ n. drop n bytes) (sym long) ∙ ap (drop (length letter)) is ∙ drop-first letter zeros in
    let taken : take wanted bytes ≡ letter = ap (λ n. take n bytes) (sym long) ∙ ap (take (length letter)) is ∙ take-first letter zeros in
    ap (λ b. elim b as (λ _. Read) [ true ↦ keeps (Some (record { wanted = wanted; bytes = bytes })) | false ↦ with_last wanted bytes ])
    (le-ltb (length bytes) wanted (omega (arith, many, all_long, long)))
    ∙ ap (λ l. elim (list_all is_zero l) as (λ _. Read) [ true ↦ record { after = None; given = Some (take wanted bytes) } | false ↦ keeps None ]) dropped
    ∙ ap (λ b. elim b as (λ _. Read) [ true ↦ record { after = None; given = Some (take wanted bytes) } | false ↦ keeps None ]) all
    ∙ ap (λ l. record { after = None; given = Some l }) taken

-- from the open letter `o` these values give `letter`, and leave no letter open
record Gives (o : Option OpenLetter) (values : List Heard) (letter : List ℕ) : Type 0 where
  given : given_with o values ≡ letter ∷ []
  after : open_after o values ≡ None

abbrev opened : ℕ → List ℕ → Option OpenLetter
opened wanted bytes = Some (record { wanted = wanted; bytes = bytes })

gives-last : (wanted : ℕ) (done letter : List ℕ) (a b c : ℕ) → a < 256 → b < 256 → c < 256
    → with_bytes wanted (done ++ a ∷ b ∷ c ∷ []) ≡ record { after = None; given = Some letter }
    → Gives (opened wanted done) (Word (part_word a b c) ∷ []) letter
gives-last wanted done letter a b c ha hb hc e =
    let read = read-part a b c wanted done ha hb hc ∙ e in
    record { given = ap (λ (r : Read). option_to_list r.given ++ []) read; after = ap (λ (r : Read). r.after) read }

gives-more : (wanted : ℕ) (done : List ℕ) {letter : _} (a b c : ℕ) {values : _} → a < 256 → b < 256 → c < 256
    → with_bytes wanted (done ++ a ∷ b ∷ c ∷ []) ≡ keeps (opened wanted (done ++ a ∷ b ∷ c ∷ []))
    → Gives (opened wanted (done ++ a ∷ b ∷ c ∷ [])) values letter
    → Gives (opened wanted done) (Word (part_word a b c) ∷ values) letter
gives-more wanted done a b c {values} ha hb hc e rest =
    let read = read-part a b c wanted done ha hb hc ∙ e in record {
      given = ap (λ (r : Read). option_to_list r.given ++ given_with r.after values) read ∙ rest.given;
      after = ap (λ (r : Read). open_after r.after values) read ∙ rest.after;
    }

gives-same : {o values others letter : _} → values ≡ others → Gives o others letter → Gives o values letter
gives-same {o} {letter} e h = subst (λ vs. Gives o vs letter) (sym e) h

-- the parts of what is left of a letter complete the letter
reads-parts : {wanted : ℕ} (done rest : List ℕ) → length done + length rest ≡ wanted → 1 ≤ length rest → All (λ b. b < 256) rest
    → Gives (opened wanted done) (heard_words (parts_of rest)) (done ++ rest)
reads-parts done [] long some small = absurd (omega (arith, some))
reads-parts {wanted} done (a ∷ []) long some small =
    let many = length-append done (a ∷ []) in
    gives-last wanted done (done ++ a ∷ []) a 0 0 (All-head (λ x. x < 256) a [] small) (omega arith) (omega arith)
    (last (done ++ a ∷ []) (0 ∷ 0 ∷ []) (sym (append_assoc done (a ∷ []) (0 ∷ 0 ∷ []))) (omega (arith, many, long)) refl)
reads-parts {wanted} done (a ∷ b ∷ []) long some small =
    let many = length-append done (a ∷ b ∷ []) in
    let tail = All-tail (λ x. x < 256) a (b ∷ []) small in
    gives-last wanted done (done ++ a ∷ b ∷ []) a b 0 (All-head (λ x. x < 256) a (b ∷ []) small) (All-head (λ x. x < 256) b [] tail) (omega arith)
    (last (done ++ a ∷ b ∷ []) (0 ∷ []) (sym (append_assoc done (a ∷ b ∷ []) (0 ∷ []))) (omega (arith, many, long)) refl)
reads-parts {wanted} done (a ∷ b ∷ c ∷ []) long some small =
    let many = length-append done (a ∷ b ∷ c ∷ []) in
    let tail = All-tail (λ x. x < 256) a (b ∷ c ∷ []) small in
    gives-last wanted done (done ++ a ∷ b ∷ c ∷ []) a b c (All-head (λ x. x < 256) a (b ∷ c ∷ []) small) (All-head (λ x. x < 256) b (c ∷ []) tail) (All-head (λ x. x < 256) c [] (All-tail (λ x. x < 256) b (c ∷ []) tail))
    (last (done ++ a ∷ b ∷ c ∷ []) [] (sym (append-nil (done ++ a ∷ b ∷ c ∷ []))) (omega (arith, many, long)) refl)
reads-parts {wanted} done (a ∷ b ∷ c ∷ d ∷ rest) long some small =
    let now : List ℕ = done ++ a ∷ b ∷ c ∷ [] in
    let many : length now ≡ length done + 3 = length-append done (a ∷ b ∷ c ∷ []) in
    let t1 = All-tail (λ x. x < 256) a (b ∷ c ∷ d ∷ rest) small in
    let t2 = All-tail (λ x. x < 256) b (c ∷ d ∷ rest) t1 in
    let t3 = All-tail (λ x. x < 256) c (d ∷ rest) t2 in
    let further : Gives (opened wanted now) (heard_words (parts_of (d ∷ rest))) (now ++ d ∷ rest) =
    reads-parts now (d ∷ rest) (omega (arith, many, long)) (omega arith) t3 in
    let whole : now ++ d ∷ rest ≡ done ++ a ∷ b ∷ c ∷ d ∷ rest = append_assoc done (a ∷ b ∷ c ∷ []) (d ∷ rest) in
    gives-same
    (ap heard_words (parts-more a b c (d ∷ rest)))
    (gives-more wanted done a b c
    (All-head (λ x. x < 256) a (b ∷ c ∷ d ∷ rest) small) (All-head (λ x. x < 256) b (c ∷ d ∷ rest) t1) (All-head (λ x. x < 256) c (d ∷ rest) t2)
    (more wanted now many (omega (arith, long)))
    (subst (λ l. Gives (opened wanted now) (heard_words (parts_of (d ∷ rest))) l) whole further))

-- A letter.

pub letters-read : LettersAreRead
letters-read letter is =
    let some : 1 ≤ length letter = low (length letter) is.length in
    let parts = reads-parts [] letter (omega arith) some is.bytes in
    let read = read-first (length letter) None is.length in record {
      given = ap (λ (r : Read). option_to_list r.given ++ given_with r.after (heard_words (parts_of letter))) read ∙ parts.given;
      after = ap (λ (r : Read). open_after r.after (heard_words (parts_of letter))) read ∙ parts.after;
    }
  where
    low : (n : ℕ) → is_length n ≡ true → 1 ≤ n
    low n h = grind (arith, nat_tests)

-- Letters.

pub heard-append : (xs ys : List ℕ) → heard_words (xs ++ ys) ≡ heard_words xs ++ heard_words ys
heard-append xs ys = map-append (λ w. Word w) xs ys

pub reads-all : (letters : List (List ℕ)) → All IsLetter letters → (given_with None (heard_words (words_of letters)) ≡ letters)
reads-all [] all = refl
reads-all (x ∷ xs) all =
    let read : IsRead x = letters-read x (All-head IsLetter x xs all) in
    ap (given_with None) (heard-append (spelling_of x) (words_of xs))
    ∙ given-append None (heard_words (spelling_of x)) (heard_words (words_of xs))
    ∙ ap (λ l. l ++ given_with (open_after None (heard_words (spelling_of x))) (heard_words (words_of xs))) read.given
    ∙ ap (λ o. x ∷ given_with o (heard_words (words_of xs))) read.after
    ∙ ap (λ l. x ∷ l) (reads-all xs (All-tail IsLetter x xs all))

pub words-give : WordsGiveTheirLetters
words-give letters words all part =
    let some : List ℕ = without_zeros words in
    record {
      first = (
        given_with (open_after None (heard_words some)) (heard_words part.0),
        sym (reads-all letters all) ∙ ap (λ l. given_with None (heard_words l)) part.1 ∙ ap (given_with None) (heard-append some part.0)
            ∙ given-append None (heard_words some) (heard_words part.0)
            ∙ ap (λ l. l ++ given_with (open_after None (heard_words some)) (heard_words part.0)) (sym (given-no-zeros None words)),
      );
      all = λ e. given-no-zeros None words ∙ ap (λ l. given_with None (heard_words l)) e ∙ reads-all letters all;
    }
