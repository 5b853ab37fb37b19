-- An RMU is good in the whole run if and only if it is good in each slot to which the run comes.
use Rattle.std.proofs.{Common.{◌≡◌, ℕ, ◌==◌, ◌&&◌, ◌||◌, not, nat_lt, Bool, true, false, Option, Some, None, get_or, refl, sym, ◌∙◌, ap, arith}, lemmas.Bool.{and_from, lt-ltb}, lemmas.Bool.Decides.nat_tests}
use Rattle.rb_base.specs.Nodes.Side.{Rmu}
use Rattle.rb_base.proofs.Plain.{and_second}
use Rattle.rb_rules.specs.{Goodness.{is_before, is_good}, Moments.before_slot}
use Rattle.rb_laws_listener_learns.specs.{Ears.comes_to, Laws.AlwaysGoodIsGoodInEachSlot, Onsets.IsGoodThroughout}
use Rattle.rb_laws_listener_learns.proofs.Fresh.{always-good-in, onset-in}

never-before : (f s : ℕ) → (nat_lt f f || ((f == f) && nat_lt s s)) ≡ true → ⊥
never-before f s h = let both : true ≡ false = grind (arith, nat_tests) in cc

pub each-slot : AlwaysGoodIsGoodInEachSlot
each-slot sc hands law j counted = (
  λ good frame slot le running. always-good-in hands law j frame slot running good,
  λ throughout.
      and_from (nat_lt j sc.sizes.rmus) (not (comes_to sc hands (get_or sc.rmu_onsets j None))) (lt-ltb j sc.sizes.rmus counted) (by throughout (get_or sc.rmu_onsets j None) refl),
)
  where
    at : IsGoodThroughout sc hands j → (onset : ℕ × ℕ) → get_or sc.rmu_onsets j None ≡ Some onset → (b : Bool) → (before_slot sc hands onset.0 onset.1).book.ended ≡ b → not (not b) ≡ true
    at throughout onset is true e = refl
    at throughout onset is false e =
        let good : is_good sc Rmu j onset.0 onset.1 ≡ true = throughout onset.0 onset.1 (onset-in law j onset.0 onset.1 counted is) e in
        let before : is_before (Some onset) onset.0 onset.1 ≡ true =
        ap (λ o. is_before o onset.0 onset.1) (sym is) ∙ and_second (nat_lt j sc.sizes.rmus) (is_before (get_or sc.rmu_onsets j None) onset.0 onset.1) good in
        absurd (never-before onset.0 onset.1 before)

    by : IsGoodThroughout sc hands j → (o : Option (ℕ × ℕ)) → get_or sc.rmu_onsets j None ≡ o → not (comes_to sc hands o) ≡ true
    by throughout None is = refl
    by throughout (Some onset) is = at throughout onset is (before_slot sc hands onset.0 onset.1).book.ended refl
