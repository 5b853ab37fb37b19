-- What a sender gives of the letters that it has taken.
use Rattle.std.proofs.{Common.{◌≡◌, ℕ, zero, suc, ◌+◌, ◌<◌, ◌≤◌, ◌==◌, nat_le, nat_lt, not, All, Bool, true, false, cond, Option, Some, None, List, [], ◌∷◌, ◌++◌, length, map, append_assoc, if◌then◌else◌, refl, sym, ap, ◌∙◌, subst, arith}, lemmas.Bool.lt-leb, lemmas.Bool.Decides.nat_tests, lemmas.List.append-nil, lemmas.List.Elements.{All-append, All-cons, All-head, All-nil, All-tail}}
use Rattle.std.specs.List.{flat_map, range_with_len}
use Rattle.rb_long.specs.{Spelling.{first_word, is_length, part_at, parts_in, parts_of, spelling_of}, Waiting.{next_word_of, refusal_of, with_letter, without_word}, declared.refusal.LongRefusal.LongRefusal, declared.refusal.LongRefusal.TheVariants.{Length, Full}}
use Rattle.rb_laws_letters.specs.{Laws.{SendersSendTheirLetters, SendsItsLetters}, Sent.{Call, Sent, after_call, after_calls, nothing_sent, with_push, without_zeros, words_of}, Sent.Call.{Push, Next}}

-- Lists.

flat-last : (f : List ℕ → List ℕ) (xs : List (List ℕ)) (y : List ℕ) → flat_map f (xs ++ y ∷ []) ≡ flat_map f xs ++ f y
flat-last f [] y = append-nil (f y)
flat-last f (x ∷ xs) y = ap (λ l. f x ++ l) (flat-last f xs y) ∙ sym (append_assoc (f x) (flat_map f xs) (f y))

zeros-last : (xs : List ℕ) (w : ℕ) → without_zeros (xs ++ w ∷ []) ≡ without_zeros xs ++ cond (not (w == 0)) (w ∷ []) []
zeros-last [] w = refl
zeros-last (x ∷ xs) w = by (not (x == 0)) (zeros-last xs w)
  where
    by : (b : Bool) → without_zeros (xs ++ w ∷ []) ≡ without_zeros xs ++ cond (not (w == 0)) (w ∷ []) []
        → cond b (x ∷ without_zeros (xs ++ w ∷ [])) (without_zeros (xs ++ w ∷ [])) ≡ cond b (x ∷ without_zeros xs) (without_zeros xs) ++ cond (not (w == 0)) (w ∷ []) []
    by true e = ap (λ l. x ∷ l) e
    by false e = e

-- What waits.

-- all the words that wait
abbrev all_waiting : List (List ℕ) → List ℕ
all_waiting waiting = flat_map (λ (ws : List ℕ). ws) waiting

-- a letter that waits has a word left, and none of its words is 0
record IsWaiting (words : List ℕ) : Type 0 where
  some : 1 ≤ length words
  above : All (λ w. 0 < w) words

parts-above : (letter : List ℕ) (n from : ℕ) → All (λ w. 0 < w) (map (part_at letter) (range_with_len from n))
parts-above letter zero from = All-nil (λ w. 0 < w)
parts-above letter (suc n) from =
    All-cons (λ w. 0 < w) (part_at letter from) (map (part_at letter) (range_with_len (from + 1) n)) (omega arith) (parts-above letter n (from + 1))

spelling-waits : (letter : List ℕ) → IsWaiting (spelling_of letter)
spelling-waits letter = record {
  some = omega arith;
  above = All-cons (λ w. 0 < w) (first_word (length letter)) (parts_of letter) (omega arith) (parts-above letter (parts_in (length letter)) 0);
}

abbrev HasLength : List ℕ → Type 0
HasLength letter = is_length (length letter) ≡ true

-- the words of all letters taken are the words given, without zeros, and then those that wait
record Keeps (waiting taken : List (List ℕ)) (words : List ℕ) : Type 0 where
  whole : words_of taken ≡ without_zeros words ++ all_waiting waiting
  waits : All IsWaiting waiting
  lengths : All HasLength taken

-- A call.

not-refused : (waiting : List (List ℕ)) (letter : List ℕ) → refusal_of waiting letter ≡ None → HasLength letter
not-refused waiting letter e = by (is_length (length letter)) refl e
  where
    by : (b : Bool) → is_length (length letter) ≡ b → (if b then (if nat_lt (length waiting) 8 then None else Some Full) else Some Length) ≡ None
        → is_length (length letter) ≡ true
    by true f h = f
    by false f h = absurd (cc)

pushed : {waiting taken words : _} (letter : List ℕ) → HasLength letter → Keeps waiting taken words
    → Keeps (with_letter waiting letter) (taken ++ letter ∷ []) words
pushed {waiting} {taken} {words} letter long h = record {
  whole = flat-last spelling_of taken letter
      ∙ ap (λ l. l ++ spelling_of letter) h.whole
      ∙ append_assoc (without_zeros words) (all_waiting waiting) (spelling_of letter)
      ∙ ap (λ l. without_zeros words ++ l) (sym (flat-last (λ (ws : List ℕ). ws) waiting (spelling_of letter)));
  waits = All-append IsWaiting waiting (spelling_of letter ∷ []) h.waits (All-cons IsWaiting (spelling_of letter) [] (spelling-waits letter) (All-nil IsWaiting));
  lengths = All-append HasLength taken (letter ∷ []) h.lengths (All-cons HasLength letter [] long (All-nil HasLength));
}

word-last : (words : List ℕ) (w : ℕ) (rest : List ℕ) → 0 < w → without_zeros (words ++ w ∷ []) ++ rest ≡ without_zeros words ++ w ∷ rest
word-last words w rest above =
    ap (λ l. l ++ rest) (zeros-last words w ∙ ap (λ b. without_zeros words ++ cond (not b) (w ∷ []) []) (differs w above))
    ∙ append_assoc (without_zeros words) (w ∷ []) rest
  where
    differs : (n : ℕ) → 0 < n → (n == 0) ≡ false
    differs n h = grind (arith, nat_tests)

asked : (waiting : List (List ℕ)) {taken words : _} → Keeps waiting taken words → Keeps (without_word waiting) taken (words ++ next_word_of waiting ∷ [])
asked [] {words} h = record {
  whole = h.whole ∙ ap (λ l. l ++ []) (sym (zeros-last words 0 ∙ append-nil (without_zeros words)));
  waits = h.waits;
  lengths = h.lengths;
}
asked ([] ∷ rest) h =
    let it : IsWaiting [] = All-head IsWaiting [] rest h.waits in absurd (omega (arith, it.some))
asked ((w ∷ []) ∷ rest) {words} h =
    let it : IsWaiting (w ∷ []) = All-head IsWaiting (w ∷ []) rest h.waits in
    record {
      whole = h.whole ∙ sym (word-last words w (all_waiting rest) (All-head (λ x. 0 < x) w [] it.above));
      waits = All-tail IsWaiting (w ∷ []) rest h.waits;
      lengths = h.lengths;
    }
asked ((w ∷ v ∷ vs) ∷ rest) {taken} {words} h =
    let it : IsWaiting (w ∷ v ∷ vs) = All-head IsWaiting (w ∷ v ∷ vs) rest h.waits in
    let left : IsWaiting (v ∷ vs) = record { some = omega arith; above = All-tail (λ x. 0 < x) w (v ∷ vs) it.above } in
    let many : nat_le (length (w ∷ v ∷ vs)) 1 ≡ false = lt-leb _ _ (omega arith) in
    subst (λ (b : Bool). Keeps (if b then rest else (v ∷ vs) ∷ rest) taken (words ++ w ∷ [])) (sym many)
    (record {
      whole = h.whole ∙ sym (word-last words w (all_waiting ((v ∷ vs) ∷ rest)) (All-head (λ x. 0 < x) w (v ∷ vs) it.above));
      waits = All-cons IsWaiting (v ∷ vs) rest left (All-tail IsWaiting (w ∷ v ∷ vs) rest h.waits);
      lengths = h.lengths;
    })

abbrev KeepsIn : Sent → Type 0
KeepsIn s = Keeps s.waiting s.taken s.words

push-keeps : (letter : List ℕ) {s : Sent} (o : Option LongRefusal) → refusal_of s.waiting letter ≡ o → KeepsIn s → KeepsIn (with_push letter o s)
push-keeps letter {s} None e h = pushed letter (not-refused s.waiting letter e) h
push-keeps letter (Some refusal) e h = h

call-keeps : (call : Call) {s : _} → KeepsIn s → KeepsIn (after_call call s)
call-keeps (Push letter) {s} h = push-keeps letter (refusal_of s.waiting letter) refl h
call-keeps Next {s} h = asked s.waiting h

calls-keep : (calls : List Call) {s : _} → KeepsIn s → KeepsIn (after_calls calls s)
calls-keep [] h = h
calls-keep (call ∷ calls) h = calls-keep calls (call-keeps call h)

pub senders-send : SendersSendTheirLetters
senders-send calls = from (after_calls calls nothing_sent) (calls-keep calls (record { whole = refl; waits = All-nil IsWaiting; lengths = All-nil HasLength }))
  where
    from : (s : Sent) → KeepsIn s → SendsItsLetters s
    from s h = record {
      first = (all_waiting s.waiting, h.whole);
      all = λ e. sym (h.whole ∙ ap (λ l. without_zeros s.words ++ all_waiting l) e ∙ append-nil (without_zeros s.words));
      lengths = h.lengths;
    }
