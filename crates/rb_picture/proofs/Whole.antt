-- what is left of a report behind the lines that were read
use Rattle.std.proofs.{Common.{◌≡◌, ◌≢◌, ◌∙◌, ℕ, ◌+◌, ◌<◌, ◌≤◌, nat_lt, Bool, true, false, List, [], ◌∷◌, ◌++◌, Option, Some, None, Result, Ok, Err, length, take, drop, codes, sym, ap, subst, append_assoc, length-append, length-drop, arith}, Math.Seq.{drop-append_seam, take-append_seam}, lemmas.Bool.{and_parts, false≢true, ltb-true}, lemmas.List.{drop-drop, drop_all}}
use Rattle.rb_picture.specs.{declared.line.Line.Line, declared.reading.Fault.Fault, Fields.above, Lines.{AllFit, FindsEach, Fits, IsNoReport, IsReport, ascend, end_of, last_place, line_body, line_place, line_text, text_of_lines}}
use Rattle.rb_picture.proofs.Parts.{body_above, body_is, text_some}

-- the bytes from a place on are the text of the lines `left`, each in its place, and the last one
-- ends the run
pub record GoesOn (bytes : List ℕ) (at newest : ℕ) (left : List Line) : Type 0 where
  pub spelled : drop at bytes ≡ text_of_lines left
  pub in_order : ascend newest left ≡ true
  pub ended : end_of newest left ≡ last_place
  pub fits : AllFit left

abbrev pub GoesOnAs : List ℕ → ℕ → ℕ → Type 0
GoesOnAs bytes at newest = (lines : List Line) → AllFit lines → IsReport bytes lines → (left : List Line) × GoesOn bytes at newest left

pub begins : (bytes : List ℕ) → GoesOnAs bytes 0 0
begins bytes lines fits is = (lines, record { spelled = is.spelled; in_order = is.in_order; ended = is.ended; fits = fits })

abbrev pub Found : Type 0
Found = Result (Line × ℕ) Fault

abbrev line_of : Line → Found → Line
line_of d (Ok pair) = pair.0
line_of d (Err fault) = d

abbrev bytes_of : ℕ → Found → ℕ
bytes_of d (Ok pair) = pair.1
bytes_of d (Err fault) = d

abbrev was_found : Found → Bool
was_found (Ok pair) = true
was_found (Err fault) = false

-- a line that was found is the first of those that are left
turn : (bytes : List ℕ) (at newest n : ℕ) (x : Line) (left : List Line) → drop at bytes ≢ [] → FindsEach (drop at bytes) newest (Ok (x, n))
    → GoesOn bytes at newest left → (more : List Line) × GoesOn bytes (at + n) (line_place x) more
turn bytes at newest n x [] some finds goes = absurd (some goes.spelled)
turn bytes at newest n x (l ∷ ls) some finds goes =
    let two = and_parts (nat_lt newest (line_place l)) (ascend (line_place l) ls) goes.in_order in
    let less = ltb-true newest (line_place l) two.0 in
    let x_is : x ≡ l = ap (line_of x) (finds l (text_of_lines ls) goes.fits.0 goes.spelled less) in
    let n_is : n ≡ length (line_text l) = ap (bytes_of n) (finds l (text_of_lines ls) goes.fits.0 goes.spelled less) in (
      ls,
      record {
        spelled =
            sym (drop-drop n at bytes) ∙ ap (λ k. drop k (drop at bytes)) n_is ∙ ap (λ b. drop (length (line_text l)) b) goes.spelled
            ∙ drop-append_seam (line_text l) (text_of_lines ls);
        in_order = subst (λ y. ascend (line_place y) ls ≡ true) (sym x_is) two.1;
        ended = subst (λ y. end_of (line_place y) ls ≡ last_place) (sym x_is) goes.ended;
        fits = goes.fits.1;
      },
    )

pub left_some : (bytes : List ℕ) (at : ℕ) → at < length bytes → drop at bytes ≢ []
left_some bytes at less none = absurd (omega (arith, less, length-drop at bytes, ap length none))

pub goes_on : (bytes : List ℕ) (at newest place n : ℕ) (x : Line) → drop at bytes ≢ [] → FindsEach (drop at bytes) newest (Ok (x, n))
    → GoesOnAs bytes at newest → place ≡ line_place x → GoesOnAs bytes (at + n) place
goes_on bytes at newest place n x some finds before place_is lines fits is =
    let left = before lines fits is in
    subst (λ p. (more : List Line) × GoesOn bytes (at + n) p more) (sym place_is) (turn bytes at newest n x left.0 some finds left.1)

-- if no line was found, there is none
stops : (bytes : List ℕ) (at newest : ℕ) (cause : Fault) (left : List Line) → drop at bytes ≢ [] → FindsEach (drop at bytes) newest (Err cause) → GoesOn bytes at newest left → ⊥
stops bytes at newest cause [] some finds goes = some goes.spelled
stops bytes at newest cause (l ∷ ls) some finds goes =
    let two = and_parts (nat_lt newest (line_place l)) (ascend (line_place l) ls) goes.in_order in
    false≢true (ap was_found (finds l (text_of_lines ls) goes.fits.0 goes.spelled (ltb-true newest (line_place l) two.0)))

pub no_report_here : (bytes : List ℕ) (at newest : ℕ) (cause : Fault) → drop at bytes ≢ [] → FindsEach (drop at bytes) newest (Err cause) → GoesOnAs bytes at newest → IsNoReport bytes
no_report_here bytes at newest cause some finds before lines fits is =
    let left = before lines fits is in
    stops bytes at newest cause left.0 some finds left.1

-- if nothing is left, the last line has ended the run
ended_so : (bytes : List ℕ) (at newest : ℕ) (left : List Line) → drop at bytes ≡ [] → GoesOn bytes at newest left → newest ≡ last_place
ended_so bytes at newest [] none goes = goes.ended
ended_so bytes at newest (l ∷ ls) none goes =
    absurd (omega (arith, text_some l, length-append (line_text l) (text_of_lines ls), ap length (sym goes.spelled ∙ none)))

pub no_report_without_end : (bytes : List ℕ) (at newest : ℕ) → length bytes ≤ at → newest ≢ last_place → GoesOnAs bytes at newest → IsNoReport bytes
no_report_without_end bytes at newest end other before lines fits is =
    let left = before lines fits is in
    other (ended_so bytes at newest left.0 (drop_all at bytes end) left.1)

-- the length that a search for the first line feed gives
abbrev pub IsFirstFeed : List ℕ → Option ℕ → Type 0
IsFirstFeed bytes r = (xs tail : List ℕ) → above 31 xs ≡ true → bytes ≡ xs ++ 10 ∷ tail → r ≡ Some (length xs + 1)

feed_of : (bytes : List ℕ) (r : Option ℕ) (l : Line) (tail : List ℕ) → IsFirstFeed bytes r → Fits l → bytes ≡ line_text l ++ tail → r ≡ Some (length (line_body l) + 1)
feed_of bytes r l tail first fits is =
    first (line_body l) tail (body_above l fits) (is ∙ ap (λ t. t ++ tail) (body_is l) ∙ append_assoc (line_body l) (codes "\n") tail)

abbrev pub or_number : ℕ → Option ℕ → ℕ
or_number d None = d
or_number d (Some n) = n

abbrev pub or_line : Line → Option Line → Line
or_line d None = d
or_line d (Some l) = l

abbrev pub a_line : Option Line → Bool
a_line None = false
a_line (Some l) = true

abbrev pub a_number : Option ℕ → Bool
a_number None = false
a_number (Some n) = true

pub no_feed : (bytes : List ℕ) (r : Option ℕ) → IsFirstFeed bytes r → r ≡ None → (l : Line) (tail : List ℕ) → Fits l → bytes ≡ line_text l ++ tail → ⊥
no_feed bytes r first none l tail fits is = false≢true (ap a_number (sym none ∙ feed_of bytes r l tail first fits is))

pub its_length : (bytes : List ℕ) (r : Option ℕ) (n : ℕ) → IsFirstFeed bytes r → r ≡ Some n → (l : Line) (tail : List ℕ) → Fits l → bytes ≡ line_text l ++ tail → n ≡ length (line_text l)
its_length bytes r n first some l tail fits is =
    let same : n ≡ length (line_body l) + 1 = ap (or_number n) (sym some ∙ feed_of bytes r l tail first fits is) in
    omega (arith, same, ap length (body_is l), length-append (line_body l) (codes "\n"))

pub its_text : (bytes : List ℕ) (n : ℕ) (l : Line) (tail : List ℕ) → n ≡ length (line_text l) → bytes ≡ line_text l ++ tail → take n bytes ≡ line_text l
its_text bytes n l tail n_is is = ap (λ k. take k bytes) n_is ∙ ap (λ b. take (length (line_text l)) b) is ∙ take-append_seam (line_text l) tail

pub not_spelled : (r : Option Line) (l : Line) → r ≡ None → r ≡ Some l → ⊥
not_spelled r l none some = false≢true (ap a_line (sym none ∙ some))

pub its_line : (r : Option Line) (x l : Line) → r ≡ Some x → r ≡ Some l → x ≡ l
its_line r x l one two = ap (or_line x) (sym one ∙ two)

abbrev pub found : Line → ℕ → Found
found x n = Ok (x, n)

pub found_is : (x l : Line) (n m : ℕ) → x ≡ l → n ≡ m → found x n ≡ found l m
found_is x l n m x_is n_is = ap (λ y. found y n) x_is ∙ ap (λ k. found l k) n_is

pub ruleset whole_steps = (begins, no_report_here, no_report_without_end, left_some)
