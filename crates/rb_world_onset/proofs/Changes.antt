-- The next slot at which other nodes are good.
use Rattle.std.proofs.{Common.{◌≡◌, ◌⊎◌, inl, inr, ℕ, ◌+◌, ◌<◌, ◌&&◌, nat_lt, Bool, true, false, Option, Some, None, IfSome, List, get_or, refl, sym, ap, ◌∙◌, subst, arith}, lemmas.Bool.{cases_lt, le-ltb}, lemmas.Bool.Decides.nat_tests}
use Rattle.rb_base.specs.{Nodes.Side, Nodes.Side.{Biu, Rmu}}
use Rattle.rb_rules.specs.Goodness.{Scenario, is_before, is_good}
use Rattle.rb_world_onset.specs.{Faults.{Faults, IsNextChange, Stops, earlier_after, faults_of, is_good_among}, Search.{IsNextAmong, IsOnsetAmong}}

-- Places in order.
before_before : (a b c d f s : ℕ) → is_before (Some (c, d)) a b ≡ true → is_before (Some (a, b)) f s ≡ true → is_before (Some (c, d)) f s ≡ true
before_before a b c d f s ab fs = grind (arith, nat_tests)

-- what comes after a later place comes after an earlier one
before_down : (a b c d f s : ℕ) → is_before (Some (c, d)) f s ≡ false → is_before (Some (a, b)) f s ≡ true → is_before (Some (a, b)) c d ≡ true
before_down a b c d f s from fs = grind (arith, nat_tests)

not_after : (a b c d f s : ℕ) → is_before (Some (c, d)) a b ≡ false → is_before (Some (c, d)) f s ≡ true → is_before (Some (a, b)) f s ≡ true
not_after a b c d f s out fs = grind (arith, nat_tests)

not_before_itself : (a b : ℕ) → is_before (Some (a, b)) a b ≡ false
not_before_itself a b = grind (arith, nat_tests)

before_any : (o : Option (ℕ × ℕ)) (a b f s : ℕ) → is_before o a b ≡ true → is_before (Some (a, b)) f s ≡ true → is_before o f s ≡ true
before_any None a b f s ab fs = refl
before_any (Some c) a b f s ab fs = before_before a b c.0 c.1 f s ab fs

down_any : (o : Option (ℕ × ℕ)) (c d f s : ℕ) → is_before (Some (c, d)) f s ≡ false → is_before o f s ≡ true → is_before o c d ≡ true
down_any None c d f s from fs = refl
down_any (Some a) c d f s from fs = before_down a.0 a.1 c d f s from fs

-- One node more is looked at.

-- among the first 0 nodes the next change is the one that was found before
pub next_none : (onsets : List (Option (ℕ × ℕ))) (frame slot : ℕ) (first : Option (ℕ × ℕ)) → IsNextAmong 0 onsets frame slot first first
next_none onsets frame slot first = record { sooner = λ f s h. h; later = λ h. h; steady = λ i f s h from fs. absurd (omega arith); origin = inl refl }

more_origin : {P Q R : Type 0} → P ⊎ Q → (Q → R) → P ⊎ R
more_origin (inl p) more = inl p
more_origin (inr q) more = inr (more q)

-- the onsets below k + 1 are steady if those below `k` and that of `k` are
steady_more : (onsets : List (Option (ℕ × ℕ))) (frame slot k f s : ℕ) (o : Option (ℕ × ℕ)) → o ≡ get_or onsets k None
    → ((i : ℕ) → i < k → is_before (get_or onsets i None) f s ≡ is_before (get_or onsets i None) frame slot) → is_before o f s ≡ is_before o frame slot
    → (i : ℕ) → i < k + 1 → is_before (get_or onsets i None) f s ≡ is_before (get_or onsets i None) frame slot
steady_more onsets frame slot k f s o is below here i h =
    elim (cases_lt i k) [
      | inl less ↦ below i less
      | inr more ↦
          let same : i ≡ k = omega arith in
          let at : get_or onsets i None ≡ o = ap (λ i. get_or onsets i None) same ∙ sym is in
          ap (λ o. is_before o f s) at ∙ here ∙ sym (ap (λ o. is_before o frame slot) at)
    ]

-- a node that is steady up to the known change leaves that change the next
passed_over : (onsets : List (Option (ℕ × ℕ))) (frame slot k : ℕ) (first next o : Option (ℕ × ℕ)) → IsNextAmong k onsets frame slot first next → o ≡ get_or onsets k None
    → ((f s : ℕ) → is_before (Some (frame, slot)) f s ≡ false → is_before next f s ≡ true → is_before o f s ≡ is_before o frame slot)
    → IsNextAmong (k + 1) onsets frame slot first next
passed_over onsets frame slot k first next o so_far is here = record {
  sooner = so_far.sooner;
  later = so_far.later;
  steady = λ i f s h from fs. steady_more onsets frame slot k f s o is (λ i h. so_far.steady i f s h from fs) (here f s from fs) i h;
  origin = more_origin so_far.origin (λ q. record { node = q.node; within = let w : q.node < k = q.within in omega arith; good = q.good; is = q.is });
}

-- an onset that comes before the known change is the next change
taken : (onsets : List (Option (ℕ × ℕ))) (frame slot k : ℕ) (first next : Option (ℕ × ℕ)) (at : ℕ × ℕ) → IsNextAmong k onsets frame slot first next
    → Some at ≡ get_or onsets k None → is_before (Some at) frame slot ≡ true → is_before next at.0 at.1 ≡ true
    → IsNextAmong (k + 1) onsets frame slot first (Some at)
taken onsets frame slot k first next at so_far is after nearer = record {
  sooner = λ f s fs. so_far.sooner f s (before_any next at.0 at.1 f s nearer fs);
  later = λ h. after;
  steady = λ i f s h from fs.
      steady_more onsets frame slot k f s (Some at) is (λ i h. so_far.steady i f s h from (before_any next at.0 at.1 f s nearer fs)) (fs ∙ sym after) i h;
  origin = inr (record { node = k; within = omega arith; good = ap (λ o. is_before o frame slot) (sym is) ∙ after; is = is });
}

-- an onset that does not come after the place does not come after a later place either
past : (o : Option (ℕ × ℕ)) (frame slot f s : ℕ) → is_before (Some (frame, slot)) f s ≡ false → is_before o frame slot ≡ false → is_before o f s ≡ is_before o frame slot
past o frame slot f s from not_after =
    let go : (b : Bool) → is_before o f s ≡ b → is_before o f s ≡ is_before o frame slot =
    λ b. elim b as (λ b. is_before o f s ≡ b → is_before o f s ≡ is_before o frame slot) [
      | true ↦ λ e. let no : true ≡ false = sym (down_any o frame slot f s from e) ∙ not_after in absurd cc
      | false ↦ λ e. e ∙ sym not_after
    ] in
    go (is_before o f s) refl

not_nearer : (next : Option (ℕ × ℕ)) (a b f s : ℕ) → is_before next a b ≡ false → is_before next f s ≡ true → is_before (Some (a, b)) f s ≡ true
not_nearer None a b f s out fs = let e : true ≡ false = out in absurd cc
not_nearer (Some c) a b f s out fs = not_after a b c.0 c.1 f s out fs

pub next_more : (onsets : List (Option (ℕ × ℕ))) (frame slot k : ℕ) (first next o : Option (ℕ × ℕ)) → IsNextAmong k onsets frame slot first next
    → o ≡ get_or onsets k None → IsNextAmong (k + 1) onsets frame slot first (earlier_after frame slot next o)
next_more onsets frame slot k first next None so_far is = passed_over onsets frame slot k first next None so_far is (λ f s from fs. refl)
next_more onsets frame slot k first next (Some at) so_far is =
    go (is_before (Some at) frame slot) (is_before next at.0 at.1) refl refl
  where
    go : (a b : Bool) → is_before (Some at) frame slot ≡ a → is_before next at.0 at.1 ≡ b
        → IsNextAmong (k + 1) onsets frame slot first (elim (a && b) [ true ↦ Some at | false ↦ next ])
    go true true ea eb = taken onsets frame slot k first next at so_far is ea eb
    go true false ea eb = passed_over onsets frame slot k first next (Some at) so_far is (λ f s from fs. not_nearer next at.0 at.1 f s eb fs ∙ sym ea)
    go false b ea eb = passed_over onsets frame slot k first next (Some at) so_far is (λ f s from fs. past (Some at) frame slot f s from ea)

-- Both kinds.

-- a node past the last is good nowhere
among_steady : (count : ℕ) (onsets : List (Option (ℕ × ℕ))) (frame slot f s i : ℕ)
    → (i < count → is_before (get_or onsets i None) f s ≡ is_before (get_or onsets i None) frame slot)
    → is_good_among count onsets f s i ≡ is_good_among count onsets frame slot i
among_steady count onsets frame slot f s i same =
    elim (cases_lt i count) [
      | inl less ↦ ap (λ b. nat_lt i count && b) (same less)
      | inr more ↦ ap (λ b. b && is_before (get_or onsets i None) f s) (le-ltb i count more) ∙ sym (ap (λ b. b && is_before (get_or onsets i None) frame slot) (le-ltb i count more))
    ]

lt_true_and : (i count : ℕ) (b v : Bool) → i < count → b ≡ v → (nat_lt i count && b) ≡ v
lt_true_and i count b v h e = let yes_lt : nat_lt i count ≡ true = grind (arith, nat_tests) in rw yes_lt e

stops_biu : (sc : Scenario) (frame slot : ℕ) (next : Option (ℕ × ℕ)) → IsOnsetAmong sc.sizes.bius sc.biu_onsets frame slot next → IfSome next (Stops sc frame slot)
stops_biu sc frame slot None q = tt
stops_biu sc frame slot (Some c) q = record {
  side = Biu;
  node = q.node;
  good = lt_true_and q.node sc.sizes.bius _ true q.within q.good;
  not_there = lt_true_and q.node sc.sizes.bius _ false q.within (ap (λ o. is_before o c.0 c.1) (sym q.is) ∙ not_before_itself c.0 c.1);
}

stops_rmu : (sc : Scenario) (frame slot : ℕ) (next : Option (ℕ × ℕ)) → IsOnsetAmong sc.sizes.rmus sc.rmu_onsets frame slot next → IfSome next (Stops sc frame slot)
stops_rmu sc frame slot None q = tt
stops_rmu sc frame slot (Some c) q = record {
  side = Rmu;
  node = q.node;
  good = lt_true_and q.node sc.sizes.rmus _ true q.within q.good;
  not_there = lt_true_and q.node sc.sizes.rmus _ false q.within (ap (λ o. is_before o c.0 c.1) (sym q.is) ∙ not_before_itself c.0 c.1);
}

-- the earliest onset of both kinds after the place is the next change
next_of : (sc : Scenario) (frame slot : ℕ) (change next : Option (ℕ × ℕ)) → IsNextAmong sc.sizes.bius sc.biu_onsets frame slot None change
    → IsNextAmong sc.sizes.rmus sc.rmu_onsets frame slot change next → IsNextChange sc frame slot next
next_of sc frame slot change next bius rmus = record {
  later = rmus.later (bius.later refl);
  steady = λ side i f s from fs. kind side i f s from fs;
  stops = found rmus.origin bius.origin;
}
  where
    kind : (side : Side) (i f s : ℕ) → is_before (Some (frame, slot)) f s ≡ false → is_before next f s ≡ true → is_good sc side i f s ≡ is_good sc side i frame slot
    kind Biu i f s from fs = among_steady sc.sizes.bius sc.biu_onsets frame slot f s i (λ h. bius.steady i f s h from (rmus.sooner f s fs))
    kind Rmu i f s from fs = among_steady sc.sizes.rmus sc.rmu_onsets frame slot f s i (λ h. rmus.steady i f s h from fs)

    found : (next ≡ change) ⊎ IsOnsetAmong sc.sizes.rmus sc.rmu_onsets frame slot next → (change ≡ None) ⊎ IsOnsetAmong sc.sizes.bius sc.biu_onsets frame slot change
        → IfSome next (Stops sc frame slot)
    found (inr q) b = stops_rmu sc frame slot next q
    found (inl same) (inr q) = subst (λ o. IfSome o (Stops sc frame slot)) (sym same) (stops_biu sc frame slot change q)
    found (inl same) (inl none) = subst (λ o. IfSome o (Stops sc frame slot)) (sym (same ∙ none)) tt

pub next_change : (faults : Faults) (frame slot : ℕ) (change next : Option (ℕ × ℕ)) → IsNextAmong faults.sizes.bius faults.biu_onsets frame slot None change
    → IsNextAmong faults.sizes.rmus faults.rmu_onsets frame slot change next → (sc : Scenario) → faults ≡ faults_of sc → IsNextChange sc frame slot next
next_change faults frame slot change next bius rmus sc is =
    next_of sc frame slot change next
    (subst (λ x. IsNextAmong x.sizes.bius x.biu_onsets frame slot None change) is bius)
    (subst (λ x. IsNextAmong x.sizes.rmus x.rmu_onsets frame slot change next) is rmus)
