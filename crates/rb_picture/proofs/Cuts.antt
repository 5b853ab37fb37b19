-- what is cut off a text
use Rattle.std.proofs.{Common.{◌≡◌, ◌≢◌, ◌∙◌, ℕ, ◌+◌, ◌<◌, List, [], ◌∷◌, ◌++◌, Option, Some, None, MatchOption, Bor, length, get_or, drop, sym, ap, subst, arith}, lemmas.Str.Pattern.{IsSplitOnceResult, split_parts, strip_prefix_char}}
use Rattle.std.specs.Str.Pattern.{FindsCharPrefix}
use Rattle.rb_picture.specs.Fields.{first_field, later_fields}
use Rattle.rb_picture.proofs.Spaces.{all_by_index, first_by_index, later_by_index, none_by_index}

abbrev Parts : List ℕ → Bor (List ℕ) × Bor (List ℕ) → Type 0
Parts bs x = (x.0.now ≡ first_field bs) × (x.1.now ≡ later_fields bs)

some_go : (bs : List ℕ) (r : Option (Bor (List ℕ) × Bor (List ℕ)))
    → MatchOption r ((i : ℕ) → i < length bs → get_or bs i 0 ≢ 32) (λ x. (bs ≡ x.0.now ++ (32 ∷ x.1.now)) × ((i : ℕ) → i < length x.0.now → get_or x.0.now i 0 ≢ 32))
    → (x : Bor (List ℕ) × Bor (List ℕ)) → r ≡ Some x → Parts bs x
some_go bs None m x is = cc
some_go bs (Some y) m x is =
    let same : y ≡ x = cc in
    subst (λ z. Parts bs z) same
    (sym (ap first_field m.0 ∙ first_by_index y.0.now y.1.now m.1), sym (ap later_fields m.0 ∙ later_by_index y.0.now y.1.now m.1))

none_go : (bs : List ℕ) (r : Option (Bor (List ℕ) × Bor (List ℕ)))
    → MatchOption r ((i : ℕ) → i < length bs → get_or bs i 0 ≢ 32) (λ x. (bs ≡ x.0.now ++ (32 ∷ x.1.now)) × ((i : ℕ) → i < length x.0.now → get_or x.0.now i 0 ≢ 32))
    → r ≡ None → (bs ≡ first_field bs) × ([] ≡ later_fields bs)
none_go bs None m is = (sym (all_by_index bs m), sym (none_by_index bs m))
none_go bs (Some y) m is = cc

pub cut_some : (bs : List ℕ) (r : Option (Bor (List ℕ) × Bor (List ℕ))) (x : Bor (List ℕ) × Bor (List ℕ)) → IsSplitOnceResult 32 bs r → r ≡ Some x → Parts bs x
cut_some bs r x split is = some_go bs r (split_parts 32 bs r split (omega arith)) x is

pub cut_none : (bs : List ℕ) (r : Option (Bor (List ℕ) × Bor (List ℕ))) → IsSplitOnceResult 32 bs r → r ≡ None → (bs ≡ first_field bs) × ([] ≡ later_fields bs)
cut_none bs r split is = none_go bs r (split_parts 32 bs r split (omega arith)) is

abbrev Strips : ℕ → List ℕ → Option (Bor (List ℕ)) → Type 0
Strips c bs r = MatchOption r (FindsCharPrefix c bs None) (λ x. (n : ℕ) × FindsCharPrefix c bs (Some n) × (x.now ≡ drop n bs) × (length x.now + n ≡ length bs))

strip_go : (c : ℕ) (bs : List ℕ) (r : Option (Bor (List ℕ))) → MatchOption r ((rest : List ℕ) → bs ≢ c ∷ rest) (λ x. bs ≡ c ∷ x.now) → (x : Bor (List ℕ)) → r ≡ Some x → bs ≡ c ∷ x.now
strip_go c bs None m x is = cc
strip_go c bs (Some y) m x is =
    let same : y ≡ x = cc in
    subst (λ z. bs ≡ c ∷ z.now) same m

keep_go : (c : ℕ) (bs : List ℕ) (r : Option (Bor (List ℕ))) → MatchOption r ((rest : List ℕ) → bs ≢ c ∷ rest) (λ x. bs ≡ c ∷ x.now) → r ≡ None → (rest : List ℕ) → bs ≢ c ∷ rest
keep_go c bs None m is = m
keep_go c bs (Some y) m is = cc

pub strip_some : (c : ℕ) (bs : List ℕ) (r : Option (Bor (List ℕ))) (x : Bor (List ℕ)) → Strips c bs r → c < 128 → r ≡ Some x → bs ≡ c ∷ x.now
strip_some c bs r x strips low is = strip_go c bs r (strip_prefix_char c bs r strips low) x is

pub strip_none : (c : ℕ) (bs : List ℕ) (r : Option (Bor (List ℕ))) → Strips c bs r → c < 128 → r ≡ None → (rest : List ℕ) → bs ≢ c ∷ rest
strip_none c bs r strips low is = keep_go c bs r (strip_prefix_char c bs r strips low) is
