-- The least of some times.
use Rattle.std.proofs.{Common.{◌≡◌, ℕ, zero, suc, ◌<◌, ◌≤◌, Option, Some, None, ◌⊎◌, inl, inr, refl, sym, ◌∙◌, ap, arith}, lemmas.Bool.cases_lt, lemmas.Option.same_Some}
use Rattle.rb_base.specs.{Nodes.Side, Nodes.Side.{Biu, Rmu}}

-- The times of numbers.

-- `at` is the least time of the numbers below `n`, and `i` has it
record HasLeast (time : ℕ → Option ℕ) (n : ℕ) : Type 0 where
  pub i : ℕ
  pub at : ℕ
  pub is : time i ≡ Some at
  pub least : (j t : ℕ) → j < n → time j ≡ Some t → at ≤ t

-- no number below n has a time
HasNone : (ℕ → Option ℕ) → ℕ → Type 0
HasNone time n = (j t : ℕ) → j < n → time j ≡ Some t → ⊥

-- no number below n has an earlier time, nor has n
with-next : (time : ℕ → Option ℕ) (n at : ℕ) → ((j t : ℕ) → j < n → time j ≡ Some t → at ≤ t) → ((t : ℕ) → time n ≡ Some t → at ≤ t)
    → (j t : ℕ) → j < suc n → time j ≡ Some t → at ≤ t
with-next time n at before here j t lt is =
    elim (cases_lt j n) [ inl below ↦ before j t below is | inr late ↦ (let same : n ≡ j = omega arith in here t (ap time same ∙ is)) ]

one-time : {o x : _} → o ≡ Some x → (t : ℕ) → o ≡ Some t → x ≤ t
one-time {x} e t is = let same : x ≡ t = same_Some x t (sym e ∙ is) in omega arith

no-time : {o : _} → o ≡ None → {t : ℕ} → o ≡ Some t → ⊥
no-time e {t} is = let both : None ≡ Some t = sym e ∙ is in cc

least-in : (time : ℕ → Option ℕ) (n : ℕ) → HasLeast time n ⊎ HasNone time n
unfolding HasNone
least-in time zero = inr (λ j t lt is. absurd (omega (arith, lt)))
least-in time (suc n) = go (least-in time n) (time n) refl
  where
    go : HasLeast time n ⊎ HasNone time n → (o : Option ℕ) → time n ≡ o → HasLeast time (suc n) ⊎ HasNone time (suc n)
    go (inl l) None e =
        inl (record { i = l.i; at = l.at; is = l.is; least = with-next time n l.at l.least (λ t is. absurd (no-time e is)) })
    go (inl l) (Some x) e =
        elim (cases_lt x l.at) [
          | inl less ↦
              inl (record { i = n; at = x; is = e; least = with-next time n x (λ j t lt is. omega (arith, less, l.least j t lt is)) (one-time e) })
          | inr more ↦
              inl (record { i = l.i; at = l.at; is = l.is; least = with-next time n l.at l.least (λ t is. omega (arith, more, one-time e t is)) })
        ]
    go (inr none) None e =
        inr (λ j t lt is. elim (cases_lt j n) [
          | inl below ↦ none j t below is
          | inr late ↦ (let same : n ≡ j = omega arith in no-time e (ap time same ∙ is))
        ])
    go (inr none) (Some x) e =
        inl (record { i = n; at = x; is = e; least = with-next time n x (λ j t lt is. absurd (none j t lt is)) (one-time e) })

-- The times of nodes.

-- `at` is the least time of the nodes of both kinds, and node `i` of kind `me` has it
pub record IsFirstOf (time : Side → ℕ → Option ℕ) (n : ℕ) : Type 0 where
  pub me : Side
  pub i : ℕ
  pub at : ℕ
  pub is : time me i ≡ Some at
  pub least : (you : Side) (j t : ℕ) → j < n → time you j ≡ Some t → at ≤ t

-- no node has a time
abbrev pub HaveNone : (Side → ℕ → Option ℕ) → ℕ → Type 0
HaveNone time n = (you : Side) (j t : ℕ) → j < n → time you j ≡ Some t → ⊥

first-of : (time : Side → ℕ → Option ℕ) {n : ℕ} → HasLeast (time Biu) n ⊎ HasNone (time Biu) n → HasLeast (time Rmu) n ⊎ HasNone (time Rmu) n → IsFirstOf time n ⊎ HaveNone time n
unfolding HasNone
first-of time {n} (inl b) (inl r) =
    elim (cases_lt b.at r.at) [
      | inl less ↦ inl (record {
        me = Biu;
        i = b.i;
        at = b.at;
        is = b.is;
        least = λ you. elim you as (λ you. (j t : ℕ) → j < n → time you j ≡ Some t → b.at ≤ t) [ Biu ↦ b.least | Rmu ↦ λ j t lt is. omega (arith, less, r.least j t lt is) ];
      })
      | inr more ↦ inl (record {
        me = Rmu;
        i = r.i;
        at = r.at;
        is = r.is;
        least = λ you. elim you as (λ you. (j t : ℕ) → j < n → time you j ≡ Some t → r.at ≤ t) [ Biu ↦ λ j t lt is. omega (arith, more, b.least j t lt is) | Rmu ↦ r.least ];
      })
    ]
first-of time {n} (inl b) (inr none) = inl (record {
  me = Biu;
  i = b.i;
  at = b.at;
  is = b.is;
  least = λ you. elim you as (λ you. (j t : ℕ) → j < n → time you j ≡ Some t → b.at ≤ t) [ Biu ↦ b.least | Rmu ↦ λ j t lt is. absurd (none j t lt is) ];
})
first-of time {n} (inr none) (inl r) = inl (record {
  me = Rmu;
  i = r.i;
  at = r.at;
  is = r.is;
  least = λ you. elim you as (λ you. (j t : ℕ) → j < n → time you j ≡ Some t → r.at ≤ t) [ Biu ↦ λ j t lt is. absurd (none j t lt is) | Rmu ↦ r.least ];
})
first-of time {n} (inr nob) (inr nor) = inr (λ you. elim you as (λ you. (j t : ℕ) → j < n → time you j ≡ Some t → ⊥) [ Biu ↦ nob | Rmu ↦ nor ])

pub first_of : (time : Side → ℕ → Option ℕ) (n : ℕ) → IsFirstOf time n ⊎ HaveNone time n
first_of time n = first-of time (least-in (time Biu) n) (least-in (time Rmu) n)
