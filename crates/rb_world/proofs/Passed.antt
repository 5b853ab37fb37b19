-- The next tick that is not quiet, when ticks pass up to it.
use Rattle.std.proofs.{Common.{◌≡◌, ℕ, zero, suc, ◌+◌, ◌-◌, ◌<◌, ◌≤◌, ◌^◌, Bool, true, false, Some, None, Option, refl, sym, ap, ◌∙◌, arith, inl, inr}, lemmas.Bool.{cases_lt, true≢false}}
use Rattle.rb_base.specs.{Nodes.Side, Sizes.Sizes}
use Rattle.rb_rules.specs.{Core.{Core, busy_among, is_busy, next_tick, pass_to}, Goodness.Scenario, NodeState.NodeState, declared.plan.Plan.Plan}
use Rattle.rb_rules.proofs.QuietTicks.{IsNext, next-is, passed-next}

-- the search finds the first that is not quiet
finds : (sizes : Sizes) (plan : Plan) (me : Side) (i : ℕ) (st : NodeState) (others had k : ℕ) → k < had + others → IsNext sizes plan me i st had k
    → busy_among sizes plan me i st others had ≡ Some k
finds sizes plan me i st zero had k room next = absurd (let later = next.later in omega (arith, later, room))
finds sizes plan me i st (suc others) had k room next = by (λ later. finds sizes plan me i st others (suc had) k (omega (arith, room)) later) (is_busy sizes plan me i st had) refl
  where
    by : (IsNext sizes plan me i st (suc had) k → busy_among sizes plan me i st others (suc had) ≡ Some k) → (b : Bool) → is_busy sizes plan me i st had ≡ b → (elim b as (λ _. Option ℕ) [ true ↦ Some had | false ↦ busy_among sizes plan me i st others (suc had) ]) ≡ Some k
    by rest true e = elim (cases_lt had k) [
      | inl lt ↦ absurd (true≢false (sym e ∙ next.quiet_before had (omega arith) lt))
      | inr ge ↦ let later = next.later in let same : had ≡ k = omega (arith, later, ge) in ap (λ m. Some m) same
    ]
    by rest false e = elim (cases_lt had k) [
      | inl lt ↦ rest (record { later = omega (arith, lt); below = next.below; quiet_before = λ m lo hi. next.quiet_before m (omega (arith, lo)) hi; busy = next.busy })
      | inr ge ↦
          let later = next.later in
          let same : k ≡ had = omega (arith, later, ge) in
          absurd (true≢false (sym next.busy ∙ ap (is_busy sizes plan me i st) same ∙ e))
    ]

-- ticks that pass up to the next busy one leave it the next
passed-tick : (sc : Scenario) (me : Side) (i k stamp : ℕ) (c : Core) → next_tick sc.sizes sc.plan me i c ≡ Some k → stamp ≤ k
    → next_tick sc.sizes sc.plan me i (pass_to stamp c) ≡ Some k
passed-tick sc me i k stamp c e le = elim (cases_lt (2 ^ 31) c.had) [
  | inl gt ↦
      let none : 2 ^ 31 - c.had ≡ 0 = omega (arith, gt) in
      absurd (let never : ◌≡◌ {A = Option ℕ} None (Some k) = sym (ap (λ n. busy_among sc.sizes sc.plan me i c.state n c.had) none) ∙ e in cc)
  | inr small ↦
      let next : IsNext sc.sizes sc.plan me i c.state c.had k = next-is sc.sizes sc.plan me i c k small e in
      let later = next.later in
      let below = next.below in
      let lo : c.had ≤ (pass_to stamp c).had = omega arith in
      let hi : (pass_to stamp c).had ≤ k = omega (arith, later, le) in
      finds sc.sizes sc.plan me i c.state (2 ^ 31 - (pass_to stamp c).had) (pass_to stamp c).had k (omega (arith, hi, below))
      (passed-next sc.sizes sc.plan me i c.state c.had k (pass_to stamp c).had next lo hi)
]

-- if the search finds no busy tick, it finds none from a later tick on
none-later : (sizes : Sizes) (plan : Plan) (me : Side) (i : ℕ) (st : NodeState) (n all others had m : ℕ) → all ≡ n + others → m ≡ had + n
    → busy_among sizes plan me i st all had ≡ None → busy_among sizes plan me i st others m ≡ None
none-later sizes plan me i st zero all others had m many at e =
    let same : all ≡ others = omega (arith, many) in
    let here : m ≡ had = omega (arith, at) in
    ap (busy_among sizes plan me i st others) here ∙ ap (λ n. busy_among sizes plan me i st n had) (sym same) ∙ e
none-later sizes plan me i st (suc n) zero others had m many at e = absurd (omega (arith, many))
none-later sizes plan me i st (suc n) (suc all) others had m many at e =
    by (λ rest. none-later sizes plan me i st n all others (suc had) m (omega (arith, many)) (omega (arith, at)) rest) (is_busy sizes plan me i st had) e
  where
    by : (busy_among sizes plan me i st all (suc had) ≡ None → busy_among sizes plan me i st others m ≡ None) → (b : Bool)
        → (elim b as (λ _. Option ℕ) [ true ↦ Some had | false ↦ busy_among sizes plan me i st all (suc had) ]) ≡ None → busy_among sizes plan me i st others m ≡ None
    by rest true e = absurd (let never : ◌≡◌ {A = Option ℕ} (Some had) None = e in cc)
    by rest false e = rest e

passed-none : (sc : Scenario) (me : Side) (i stamp : ℕ) (c : Core) → next_tick sc.sizes sc.plan me i c ≡ None → next_tick sc.sizes sc.plan me i (pass_to stamp c) ≡ None
passed-none sc me i stamp c e =
    let m : ℕ = (pass_to stamp c).had in
    let lo : c.had ≤ m = omega arith in
    elim (cases_lt (2 ^ 31) m) [
      | inl gt ↦ let none : 2 ^ 31 - m ≡ 0 = omega (arith, gt) in ap (λ n. busy_among sc.sizes sc.plan me i c.state n m) none
      | inr le ↦ none-later sc.sizes sc.plan me i c.state (m - c.had) (2 ^ 31 - c.had) (2 ^ 31 - m) c.had m (omega (arith, lo, le)) (omega (arith, lo)) e
    ]

pub passed-same : (sc : Scenario) (me : Side) (i stamp : ℕ) (c : Core) → ((k : ℕ) → next_tick sc.sizes sc.plan me i c ≡ Some k → stamp ≤ k)
    → next_tick sc.sizes sc.plan me i (pass_to stamp c) ≡ next_tick sc.sizes sc.plan me i c
passed-same sc me i stamp c le = by (next_tick sc.sizes sc.plan me i c) refl
  where
    by : (o : Option ℕ) → next_tick sc.sizes sc.plan me i c ≡ o → next_tick sc.sizes sc.plan me i (pass_to stamp c) ≡ next_tick sc.sizes sc.plan me i c
    by None e = passed-none sc me i stamp c e ∙ sym e
    by (Some k) e = passed-tick sc me i k stamp c e (le k e) ∙ sym e
