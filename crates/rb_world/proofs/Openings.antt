-- What there is before any node begins.
use Rattle.std.proofs.{Common.{◌≡◌, ℕ, zero, suc, ◌+◌, ◌<◌, ◌⊎◌, Some, List, [], ◌∷◌, ◌++◌, length, map, slice_get, refl, sym, ap, ◌∙◌, subst, arith, inl, inr, length-append}, lemmas.Option.{same_Some, slice_get_within}, lemmas.Option.slice_get-map, lemmas.List.FromFn.length-map-range_with_len}
use Rattle.std.specs.Prelude.{get_or, option_map}
use Rattle.rb_base.specs.{Counting.numbers, Nodes.Side}
use Rattle.rb_base.proofs.Plain.{none_not_some}
use Rattle.rb_rules.specs.{Goodness.Scenario, Hearing.port_at, Ports.fresh_port, Slots.count_of}
use Rattle.rb_rules.proofs.WindowNumbers.{get-number}
use Rattle.rb_port.specs.Keeping.{HoldsPort, KeptPort}
use Rattle.rb_world.specs.{Sites.KeptSite, Openings.{AreFresh, IsFresh}, Worlds.HoldsPorts}

-- an item of a list with one more was there, or is the new one
pushed : {X : Type 0} (xs : List X) (y : X) (i : ℕ) (x : X) → slice_get (xs ++ y ∷ []) i ≡ Some x → (slice_get xs i ≡ Some x) ⊎ ((i ≡ length xs) × (x ≡ y))
pushed [] y zero x e = inr (refl, same_Some x y (sym e))
pushed [] y (suc i) x e = none_not_some x e
pushed (z ∷ zs) y zero x e = inl e
pushed (z ∷ zs) y (suc i) x e = elim (pushed zs y i x e) [ inl was ↦ inl was | inr is ↦ inr (ap suc is.0, is.1) ]

long : {X : Type 0} (xs : List X) (y : X) (n : ℕ) → length xs ≡ n → length (xs ++ y ∷ []) ≡ n + 1
long xs y n e = length-append xs (y ∷ []) ∙ ap (λ k. k + 1) e

-- Ports.

-- the first `n` ports are kept
pub record HoldEach (sc : Scenario) (n : ℕ) (kept : List KeptPort) : Type 0 where
  pub many : length kept ≡ n
  pub each : (i : ℕ) (k : KeptPort) → slice_get kept i ≡ Some k → HoldsPort k (port_at sc [] i)

pub no-ports-yet : (sc : Scenario) (kept : List KeptPort) → kept ≡ [] → HoldEach sc 0 kept
no-ports-yet sc kept none = subst (HoldEach sc 0) (sym none) (record { many = refl; each = λ i k e. none_not_some k e })

pub one-port : (sc : Scenario) (n app word : ℕ) (kept more : List KeptPort) (k : KeptPort) → more ≡ kept ++ k ∷ [] → app ≡ get_or sc.apps n 0 → word ≡ get_or sc.words n 0
    → HoldsPort k (fresh_port app word) → HoldEach sc n kept → HoldEach sc (n + 1) more
one-port sc n app word kept more k is apps words holds so_far = subst (HoldEach sc (n + 1)) (sym is) (record {
  many = long kept k n so_far.many;
  each = λ i z e. elim (pushed kept k i z e) [
    | inl was ↦ so_far.each i z was
    | inr same ↦ subst (λ (z : KeptPort). HoldsPort z (port_at sc [] i)) (sym same.1) (subst (λ j. HoldsPort k (port_at sc [] j)) (sym (same.0 ∙ so_far.many)) own)
  ];
})
  where
    own : HoldsPort k (port_at sc [] n)
    own = subst (λ w. HoldsPort k (fresh_port (get_or sc.apps n 0) w)) words (subst (λ a. HoldsPort k (fresh_port a word)) apps holds)

pub all-ports : (sc : Scenario) (n : ℕ) (kept : List KeptPort) → n ≡ sc.sizes.bius → HoldEach sc n kept → HoldsPorts sc kept (map (port_at sc []) (numbers sc.sizes.bius))
all-ports sc n kept count is = record {
  many = is.many ∙ count;
  all = length-map-range_with_len (port_at sc []) 0 sc.sizes.bius;
  each = λ i k port here there.
      let many = is.many in
      let within : i < sc.sizes.bius = let lt = slice_get_within kept i k here in omega (arith, lt, many, count) in
      let made : slice_get (map (port_at sc []) (numbers sc.sizes.bius)) i ≡ Some (port_at sc [] i) =
      slice_get-map (port_at sc []) (numbers sc.sizes.bius) i ∙ ap (option_map (port_at sc [])) (get-number sc.sizes.bius i within) in
      subst (HoldsPort k) (same_Some (port_at sc [] i) port (sym made ∙ there)) (is.each i k here);
}

-- Sites.

pub record FirstFresh (sc : Scenario) (me : Side) (n : ℕ) (kept : List KeptSite) : Type 0 where
  pub many : length kept ≡ n
  pub each : (i : ℕ) (k : KeptSite) → slice_get kept i ≡ Some k → IsFresh sc me i k

pub no-sites-yet : (sc : Scenario) (me : Side) (kept : List KeptSite) → kept ≡ [] → FirstFresh sc me 0 kept
no-sites-yet sc me kept none = subst (FirstFresh sc me 0) (sym none) (record { many = refl; each = λ i k e. none_not_some k e })

pub one-site : (sc : Scenario) (me : Side) (n : ℕ) (kept more : List KeptSite) (k : KeptSite) → more ≡ kept ++ k ∷ [] → IsFresh sc me n k → FirstFresh sc me n kept
    → FirstFresh sc me (n + 1) more
one-site sc me n kept more k is fresh so_far = subst (FirstFresh sc me (n + 1)) (sym is) (record {
  many = long kept k n so_far.many;
  each = λ i z e. elim (pushed kept k i z e) [
    | inl was ↦ so_far.each i z was
    | inr same ↦ subst (IsFresh sc me i) (sym same.1) (subst (λ j. IsFresh sc me j k) (sym (same.0 ∙ so_far.many)) fresh)
  ];
})

pub all-sites : (sc : Scenario) (me : Side) (n : ℕ) (kept : List KeptSite) → n ≡ count_of me sc.sizes → FirstFresh sc me n kept → AreFresh sc me kept
all-sites sc me n kept count is = record { many = is.many ∙ count; each = is.each }
