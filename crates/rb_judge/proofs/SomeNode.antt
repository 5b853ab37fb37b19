-- Whether some node passes.
use Rattle.std.proofs.{Common.{◌≡◌, ℕ, zero, suc, ◌+◌, ◌<◌, Bool, true, false, not, ◌||◌, refl, sym, ◌∙◌, ap, zero-add, arith}, lemmas.List.Folds.list_any_at, lemmas.List.FromFn.{get_or-range_with_len, length-range_with_len}}
use Rattle.std.specs.List.{list_any, range_with_len}
use Rattle.rb_base.proofs.Plain.{same_bool}
use Rattle.rb_judge.specs.Sights.{some_node}

pub or_order : (a b : Bool) → (a || b) ≡ (b || a)
or_order true true = refl
or_order true false = refl
or_order false true = refl
or_order false false = refl

pub not_twice : (a : Bool) → a ≡ not (not a)
not_twice true = refl
not_twice false = refl

-- a node that passes
pub record IsFound (passes : ℕ → Bool) (n : ℕ) : Type 0 where
  pub node : ℕ
  pub below : node < n
  pub passing : passes node ≡ true

found_from : (p : ℕ → Bool) (a n : ℕ) → list_any p (range_with_len a n) ≡ true → IsFound p (a + n)
found_from p a zero h = absurd (cc)
found_from p a (suc n) h =
    let later : list_any p (range_with_len (a + 1) n) ≡ true → IsFound p (a + suc n) =
    λ h. let f = found_from p (a + 1) n h in record { node = f.node; below = let b = f.below in omega arith; passing = f.passing } in
    let go : (b : Bool) → p a ≡ b → (b || list_any p (range_with_len (a + 1) n)) ≡ true → IsFound p (a + suc n) =
    λ b. elim b as (λ b. p a ≡ b → (b || list_any p (range_with_len (a + 1) n)) ≡ true → IsFound p (a + suc n)) [
      | true ↦ λ e h. record { node = a; below = omega arith; passing = e }
      | false ↦ λ e h. later h
    ] in
    go (p a) refl h

some_at : (p : ℕ → Bool) (n i : ℕ) → i < n → p i ≡ true → list_any p (range_with_len 0 n) ≡ true
some_at p n i h e =
    list_any_at p (range_with_len 0 n) i 0 (omega (arith, length-range_with_len 0 n)) (ap p (get_or-range_with_len 0 n i 0 h ∙ zero-add i) ∙ e)

pub some_is : (p : ℕ → Bool) (i : ℕ) → i < 16 → p i ≡ true → some_node p ≡ true
unfolding some_node
some_is p i h e = some_at p 16 i h e

pub some_found : (p : ℕ → Bool) → some_node p ≡ true → IsFound p 16
unfolding some_node
some_found p h = found_from p 0 16 h

pub some_none : (p : ℕ → Bool) → ((i : ℕ) → i < 16 → p i ≡ false) → some_node p ≡ false
some_none p none =
    same_bool (some_node p) false
    (λ h. let f = some_found p h in let e : p f.node ≡ false = none f.node f.below in let t = f.passing in absurd (cc))
    (λ h. absurd (cc))

pub some_fails : (p : ℕ → Bool) (i : ℕ) → some_node p ≡ false → i < 16 → p i ≡ false
some_fails p i none h =
    let go : (b : Bool) → p i ≡ b → p i ≡ false =
    λ b. elim b as (λ b. p i ≡ b → p i ≡ false) [ true ↦ λ e. let t : some_node p ≡ true = some_is p i h e in absurd (cc) | false ↦ λ e. e ] in
    go (p i) refl

pub some_same : (p q : ℕ → Bool) → ((i : ℕ) → i < 16 → p i ≡ q i) → some_node p ≡ some_node q
some_same p q same =
    same_bool _ _
    (λ h. let f = some_found p h in some_is q f.node f.below (sym (same f.node f.below) ∙ f.passing))
    (λ h. let f = some_found q h in some_is p f.node f.below (same f.node f.below ∙ f.passing))
