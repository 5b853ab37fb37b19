-- A sender that gives the words of one letter.
use Rattle.std.proofs.{Common.{◌≡◌, ℕ, ◌+◌, ◌<◌, ◌≤◌, ◌⊎◌, inl, inr, nat_lt, List, [], ◌∷◌, drop, length, get_or, cond, Option, sym, ap, ◌∙◌, subst, arith}, lemmas.Bool.{cases_lt, le-leb, le-ltb, lt-leb, lt-ltb}, lemmas.List.{drop-drop, get_or-drop, length-drop}}
use Rattle.std.specs.Io.KnownBytes.{Appends}
use Rattle.rb_outside.specs.Bytes.{AppendsPart}
use Rattle.rb_report.specs.Report.{word_text}
use Rattle.rb_long.specs.{Spelling.{parts_in, spelling_of}, Waiting.{next_word_of, without_word}}
use Rattle.rb_long.proofs.Words.{words-in}

-- the words after the first `n`, as the only letter that waits, if there are any
abbrev pub left_of : ℕ → List ℕ → List (List ℕ)
left_of n words = cond (nat_lt n (length words)) (drop n words ∷ []) []

here : (n : ℕ) (words : List ℕ) → n < length words → left_of n words ≡ drop n words ∷ []
here n words below = ap (λ b. cond b (drop n words ∷ []) []) (lt-ltb n (length words) below)

pub word-is : (n : ℕ) (words : List ℕ) (waiting : List (List ℕ)) (word : ℕ) → n < length words → waiting ≡ left_of n words → word ≡ next_word_of waiting → word ≡ get_or words n 0
word-is n words waiting word below is gives =
    gives ∙ ap next_word_of (is ∙ here n words below) ∙ get_or-drop n words 0 0 ∙ ap (λ m. get_or words m 0) (omega arith)

gone : (n : ℕ) (words : List ℕ) → n < length words → (n + 1 < length words) ⊎ (length words ≤ n + 1) → without_word (drop n words ∷ []) ≡ left_of (n + 1) words
gone n words below (inl more) =
    let left = length-drop n words in
    ap (λ b. cond b [] (drop 1 (drop n words) ∷ [])) (lt-leb (length (drop n words)) 1 (omega (arith, left, more)))
    ∙ ap (λ ws. ws ∷ []) (drop-drop 1 n words)
    ∙ sym (here (n + 1) words more)
gone n words below (inr last) =
    let left = length-drop n words in
    ap (λ b. cond b [] (drop 1 (drop n words) ∷ [])) (le-leb (length (drop n words)) 1 (omega (arith, left, last)))
    ∙ sym (ap (λ b. cond b (drop (n + 1) words ∷ []) []) (le-ltb (n + 1) (length words) last))

pub word-gone : (n : ℕ) (words : List ℕ) (waiting after : List (List ℕ)) → n < length words → waiting ≡ left_of n words → after ≡ without_word waiting → after ≡ left_of (n + 1) words
word-gone n words waiting after below is goes =
    goes ∙ ap without_word (is ∙ here n words below) ∙ gone n words below (cases_lt (n + 1) (length words))

-- a line that shows a word is the text of that word
pub line-shows : (old new : Option (List ℕ)) (bytes : List ℕ) (shown word : ℕ) → bytes ≡ word_text shown → shown ≡ word → Appends old new bytes → Appends old new (word_text word)
line-shows old new bytes shown word is same written = subst (λ t. Appends old new t) (is ∙ ap word_text same) written

pub part-shows : (old new : Option (List ℕ)) (bytes : List ℕ) (shown word : ℕ) → bytes ≡ word_text shown → shown ≡ word → AppendsPart old new bytes → AppendsPart old new (word_text word)
part-shows old new bytes shown word is same written = subst (λ t. AppendsPart old new t) (is ∙ ap word_text same) written

pub below-all : (letter : List ℕ) (n end : ℕ) → end ≡ parts_in (length letter) → n < end + 1 → n < length (spelling_of letter)
below-all letter n end is below = let many = words-in letter in omega (arith, many, is, below)

pub past-all : (letter : List ℕ) (n end : ℕ) → end ≡ parts_in (length letter) → end + 1 ≤ n → length (spelling_of letter) ≤ n
past-all letter n end is past = let many = words-in letter in omega (arith, many, is, past)
