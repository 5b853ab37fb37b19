-- A field that was written is read.
use Rattle.std.proofs.{Common.{◌≡◌, ℕ, ◌+◌, ◌*◌, ◌-◌, ◌^◌, ◌<◌, ◌≤◌, true, nat_le, List, ◌∷◌, ◌++◌, length, drop, refl, sym, ap, ◌∙◌, arith}, lemmas.Bool.Decides.nat_tests, lemmas.List.{drop-drop, length-append, length-drop}, Math.Seq.drop-append_seam}
use Rattle.std.specs.Prelude.{Ok}
use Rattle.byteorder.specs.{Endian.big_bytes, Numbers.{big_number-reads_back, length-bytes_high_first}}
use Rattle.rb_log.specs.Fields.{field, number_at}

field_is : (bytes : List ℕ) (place size n low high : ℕ) → place + size ≤ length bytes → number_at bytes place size ≡ n → low ≤ n → n ≤ high
    → field bytes place size low high ≡ Ok n
unfolding field
field_is bytes place size n low high fits is low_enough high_enough =
    let whole : nat_le (place + size) (length bytes) ≡ true = grind (arith, nat_tests) in
    let above : nat_le low n ≡ true = grind (arith, nat_tests) in
    let below : nat_le n high ≡ true = grind (arith, nat_tests) in
    rw (is, whole, above, below) refl

pub reads : (bytes rest : List ℕ) (place size n low high : ℕ) → drop place bytes ≡ big_bytes size n ++ rest → 1 ≤ size → n < 256 ^ size
    → low ≤ n → n ≤ high → field bytes place size low high ≡ Ok n
unfolding number_at
reads bytes rest place size n low high is some fits low_enough high_enough =
    let all : length bytes - place ≡ size + length rest =
    sym (length-drop place bytes) ∙ ap length is ∙ length-append (big_bytes size n) rest
    ∙ ap (λ (k : ℕ). k + length rest) (length-bytes_high_first size n) in
    let read : number_at bytes place size ≡ n = rw is (big_number-reads_back size n rest fits) in
    field_is bytes place size n low high (omega arith) read low_enough high_enough

pub reads_byte : (bytes rest : List ℕ) (place n low high : ℕ) → drop place bytes ≡ n ∷ rest → low ≤ n → n ≤ high
    → field bytes place 1 low high ≡ Ok n
unfolding number_at
reads_byte bytes rest place n low high is low_enough high_enough =
    let all : length bytes - place ≡ length rest + 1 = sym (length-drop place bytes) ∙ ap length is ∙ omega arith in
    let one : n * 1 + 0 ≡ n = omega arith in
    let read : number_at bytes place 1 ≡ n = rw is one in
    field_is bytes place 1 n low high (omega arith) read low_enough high_enough

-- what is behind `xs` in the bytes is `ys`
pub further : (bytes xs ys : List ℕ) (place : ℕ) → drop place bytes ≡ xs ++ ys → drop (place + length xs) bytes ≡ ys
further bytes xs ys place is = sym (drop-drop (length xs) place bytes) ∙ ap (λ (l : List ℕ). drop (length xs) l) is ∙ drop-append_seam xs ys
