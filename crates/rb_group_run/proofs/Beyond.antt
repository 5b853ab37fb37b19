-- Members that are no BIUs of the bus.
use Rattle.std.proofs.{Common.{◌≡◌, ℕ, ◌<◌, ◌^◌, Bool, true, false, not, ◌&&◌, nat_lt, inl, inr, refl, sym, ◌∙◌, ap, arith}, lemmas.Bool.{cases_lt, le-ltb, lt-ltb}}
use Rattle.rb_base.specs.{Nodes.{has, set_of}, Sizes.Sizes}
use Rattle.rb_base.proofs.Sets.{has-is, has-set_of, has_above, has_none, same_set, set_of-lt}
use Rattle.rb_group_run.specs.Members.{AreMembers}

-- node i is in the mask, and its number is `bius` or more
abbrev beyond : ℕ → ℕ → ℕ → Bool
beyond mask bius i = has mask i && not (has bius i)

at : (mask bius all i : ℕ) → bius ≡ set_of (λ j. nat_lt j all) → i < 16 → beyond mask bius i ≡ (has mask i && not (nat_lt i all))
at mask bius all i is below = ap (λ b. has mask i && not b) (has-is bius i (λ j. nat_lt j all) is below)

within : (m l : Bool) → (m && not l) ≡ false → m ≡ true → l ≡ true
within true true e t = refl
within true false e t = absurd (cc)
within false l e t = absurd (cc)

-- if no member is beyond the bus, all members are BIUs of the bus
pub none_beyond : (sizes : Sizes) (mask bius left : ℕ) → mask < 2 ^ 16 → bius ≡ set_of (λ j. nat_lt j sizes.bius) → left ≡ set_of (beyond mask bius) → left ≡ 0 → AreMembers sizes mask
none_beyond sizes mask bius left small is left_is zero_is i member =
    elim (cases_lt i 16) [
      | inl below ↦
          let out : (has mask i && not (nat_lt i sizes.bius)) ≡ false =
          sym (at mask bius sizes.bius i is below) ∙ sym (has-is left i (beyond mask bius) left_is below) ∙ ap (λ s. has s i) zero_is ∙ has_none i in
          inside (within (has mask i) (nat_lt i sizes.bius) out member)
      | inr past ↦ absurd (let e = has_above mask i small past in cc)
    ]
  where
    inside : nat_lt i sizes.bius ≡ true → i < sizes.bius
    inside e = elim (cases_lt i sizes.bius) [ inl less ↦ less | inr past ↦ absurd (let f = le-ltb i sizes.bius past in cc) ]

no_member_out : (m l : Bool) → (m ≡ true → l ≡ true) → (m && not l) ≡ false
no_member_out true true h = refl
no_member_out true false h = absurd (let e = h refl in cc)
no_member_out false l h = refl

-- if all members are BIUs of the bus, no member is beyond it
pub all_members : (sizes : Sizes) (mask bius left : ℕ) → bius ≡ set_of (λ j. nat_lt j sizes.bius) → left ≡ set_of (beyond mask bius) → AreMembers sizes mask → left ≡ 0
all_members sizes mask bius left is left_is members =
    left_is ∙ same_set (set_of (beyond mask bius)) 0 (set_of-lt (beyond mask bius)) (omega arith) (λ i below.
    has-set_of i (beyond mask bius) below ∙ at mask bius sizes.bius i is below
    ∙ no_member_out (has mask i) (nat_lt i sizes.bius) (λ m. lt-ltb i sizes.bius (members i m)) ∙ sym (has_none i))
