-- The words of the letters that wait.
use Rattle.std.proofs.{Common.{◌≡◌, ◌↔◌, ℕ, zero, suc, ◌+◌, ◌<◌, ◌≤◌, nat_le, true, false, List, [], ◌∷◌, drop, length, map, get_or, remove, refl, sym, ap, ◌∙◌, subst, arith, cond}, lemmas.Bool.{le-leb, lt-leb}, lemmas.List.{drop-drop, get_or-drop, length-drop}, lemmas.List.FromFn.{get_or-map-range_with_len, length-map-range_with_len}}
use Rattle.arrayvec.specs.ArrayVec.{ArrayVec}
use Rattle.rb_long.specs.{Spelling.{part_at, parts_in, spelling_of}, Senders.{HasMore, spelling_in, waiting_in}, Waiting.{next_word_of, without_word}}

-- the words after the first are the parts
pub part-is : (letter : List ℕ) (k n : ℕ) → n ≡ k + 1 → n ≤ parts_in (length letter) → get_or (spelling_of letter) n 0 ≡ part_at letter k
part-is letter k n is some =
    ap (λ m. get_or (spelling_of letter) m 0) (let e : n ≡ suc k = omega (arith, is) in e)
    ∙ get_or-map-range_with_len (part_at letter) 0 (parts_in (length letter)) k k 0 (omega (arith, is, some)) (omega arith)

-- no word of a letter is 0
pub some-word : (letter : List ℕ) (n : ℕ) → n ≤ parts_in (length letter) → 0 < get_or (spelling_of letter) n 0
some-word letter zero some = omega arith
some-word letter (suc k) some = let e = part-is letter k (suc k) (omega arith) some in omega (arith, e)

pub words-in : (letter : List ℕ) → length (spelling_of letter) ≡ parts_in (length letter) + 1
words-in letter = let e = length-map-range_with_len (part_at letter) 0 (parts_in (length letter)) in omega (arith, e)

-- the next word is the first letter's
pub next-is : (sent : ℕ) (letters : List (ArrayVec ℕ)) (letter d : ArrayVec ℕ) → 0 < length letters → letter ≡ get_or letters 0 d
    → next_word_of (waiting_in sent letters) ≡ get_or (spelling_of letter.items) sent 0
next-is sent [] letter d some is = absurd (omega (arith, some))
next-is sent (l ∷ ls) letter d some is =
    get_or-drop sent (spelling_in l) 0 0
    ∙ ap (λ n. get_or (spelling_in l) n 0) (omega arith)
    ∙ ap (λ (x : ArrayVec ℕ). get_or (spelling_in x) sent 0) (sym is)

-- if the letter has more words, it waits without the word that was sent
pub goes-on : (sent : ℕ) (letters : List (ArrayVec ℕ)) (letter d : ArrayVec ℕ) → 0 < length letters → letter ≡ get_or letters 0 d
    → sent < parts_in (length letter.items) → waiting_in (sent + 1) letters ≡ without_word (waiting_in sent letters)
goes-on sent [] letter d some is more = absurd (omega (arith, some))
goes-on sent (l ∷ ls) letter d some is more =
    let words = words-in l.items in
    let left = length-drop sent (spelling_in l) in
    let many : nat_le (length (drop sent (spelling_in l))) 1 ≡ false =
    let same = ap (λ (x : ArrayVec ℕ). parts_in (length x.items)) is in lt-leb _ _ (omega (arith, words, left, more, same)) in
    ap (λ ws. ws ∷ map spelling_in ls) (sym (drop-drop 1 sent (spelling_in l)))
    ∙ sym (ap (λ b. cond b (map spelling_in ls) (drop 1 (drop sent (spelling_in l)) ∷ map spelling_in ls)) many)

all-words : (letters : List (ArrayVec ℕ)) → waiting_in 0 letters ≡ map spelling_in letters
all-words [] = refl
all-words (l ∷ ls) = refl

pub is-sent : (sent : ℕ) (letters : List (ArrayVec ℕ)) (letter d : ArrayVec ℕ) → 0 < length letters → letter ≡ get_or letters 0 d
    → parts_in (length letter.items) ≤ sent → waiting_in 0 (remove letters 0) ≡ without_word (waiting_in sent letters)
is-sent sent [] letter d some is last = absurd (omega (arith, some))
is-sent sent (l ∷ ls) letter d some is last =
    let words = words-in l.items in
    let left = length-drop sent (spelling_in l) in
    let few : nat_le (length (drop sent (spelling_in l))) 1 ≡ true =
    let same = ap (λ (x : ArrayVec ℕ). parts_in (length x.items)) is in le-leb _ _ (omega (arith, words, left, last, same)) in
    all-words ls
    ∙ sym (ap (λ b. cond b (map spelling_in ls) (drop 1 (drop sent (spelling_in l)) ∷ map spelling_in ls)) few)

has-words : (sent : ℕ) (letters : List (ArrayVec ℕ)) → 0 < length letters → waiting_in sent letters ≡ [] → ⊥
has-words sent [] some e = absurd (omega (arith, some))
has-words sent (l ∷ ls) some e = absurd (cc)

more-in : (sent : ℕ) (letters : List (ArrayVec ℕ)) (letter d : ArrayVec ℕ) → 0 < length letters → letter ≡ get_or letters 0 d → HasMore sent letters
    → sent ≤ parts_in (length letter.items)
more-in sent [] letter d some is more = absurd (omega (arith, some))
more-in sent (l ∷ ls) letter d some is more = subst (λ (x : ArrayVec ℕ). sent ≤ parts_in (length x.items)) (sym is) more

-- the word is 0 if and only if no letter waits
pub never-none : (sent : ℕ) (letters : List (ArrayVec ℕ)) (letter : ArrayVec ℕ) (word : ℕ) (waiting : List (List ℕ)) → 0 < length letters → letter ≡ get_or letters 0 letter
    → HasMore sent letters → word ≡ get_or (spelling_of letter.items) sent 0 → waiting_in sent letters ≡ waiting → (word ≡ 0) ↔ (waiting ≡ [])
never-none sent letters letter word waiting some is more word_is shown = (
  λ zero. let above = some-word letter.items sent (more-in sent letters letter letter some is more) in absurd (omega (arith, zero, above, word_is)),
  λ none. absurd (has-words sent letters some (shown ∙ none)),
)
