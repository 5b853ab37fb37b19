-- A listener that has decided waits for its first frame.
use Rattle.std.proofs.{Common.{◌≡◌, ℕ, zero, suc, ◌+◌, ◌-◌, ◌<◌, ◌≤◌, ◌==◌, nat_lt, true, false, Option, Some, List, [], ◌∷◌, refl, ◌∙◌, ap, subst, arith}, lemmas.Bool.lt-ltb}
use Rattle.rb_base.proofs.Plain.{eq_self, more-differs}
use Rattle.rb_rules.specs.{Goodness.Scenario, Hearing.Coming, Lawful.IsLawful, Ports.HandIn}
use Rattle.rb_listen.specs.{Lessons.first_of, Listening.{Heeding, Listening, decided, first_core, followed, hear, heed, if_after, is_deciding, is_over, later, search_on, untold, wait_on}, declared.lesson.First.First, declared.search.Search.Search}
use Rattle.rb_laws_listener_learns.specs.{Deciding.DecidesBy, Ears.{Ear, HearsTheRun, IsEar, hears, listening_at}, Waiting.WaitsFor}
use Rattle.rb_laws_listener_learns.proofs.{Latest.not-yet, Learning.{IsFresh, fresh-at}, Walks.{HoldsAt, HoldsIn}}
use Rattle.rb_listen.specs.Listening as now

-- what a waiting listener hears changes nothing
hears-nothing : (sc : Scenario) (cs : List Coming) (had : ℕ) (first : First) → hears sc cs (now.Waiting had first) ≡ now.Waiting had first
unfolding hear
hears-nothing sc [] had first = refl
hears-nothing sc (c ∷ cs) had first = hears-nothing sc cs had first

decided-is : (s : Search) {o : Option First} {first : First} → o ≡ Some first → nat_lt s.had first.epoch ≡ true → decided s o ≡ now.Waiting (s.had + 1) first
decided-is s {first} is ahead = ap (decided s) is ∙ ap (if_after s first) ahead

on-deciding : (sc : Scenario) (s : Search) {first : _} → is_over s.had ≡ false → is_deciding s ≡ true → first_of sc.sizes sc.plan s.lesson ≡ Some first → nat_lt s.had first.epoch ≡ true
    → (heed sc.sizes sc.plan (now.Searching s)).listening ≡ now.Waiting (s.had + 1) first
unfolding heed search_on
on-deciding sc s over deciding is ahead =
    ap (λ b. (elim b as (λ _. Heeding) [ true ↦ untold (now.Searching s) | false ↦ untold (search_on sc.sizes sc.plan s) ]).listening) over
    ∙ ap (λ b. elim b as (λ _. Listening) [ true ↦ decided s (first_of sc.sizes sc.plan s.lesson) | false ↦ now.Searching (later s) ]) deciding
    ∙ decided-is s is ahead

on-waiting : (sc : Scenario) (had : ℕ) (first : First) {begins : _} → is_over had ≡ false → (first.epoch == had) ≡ begins → heed sc.sizes sc.plan (now.Waiting had first) ≡ wait_on sc.sizes sc.plan had first begins
unfolding heed
on-waiting sc had first over is =
    ap (λ b. elim b as (λ _. Heeding) [ true ↦ untold (now.Waiting had first) | false ↦ wait_on sc.sizes sc.plan had first (first.epoch == had) ]) over
    ∙ ap (wait_on sc.sizes sc.plan had first) is

pub waits-for : (sc : Scenario) (hands : List HandIn) → IsLawful sc → (ear : Ear) → IsEar sc ear → HearsTheRun sc hands ear → (learned tick : ℕ) (s : Search) → DecidesBy sc hands ear learned tick s
    → (first : First) → first_of sc.sizes sc.plan s.lesson ≡ Some first → tick < first.epoch → WaitsFor sc ear tick first
waits-for sc hands law ear is run learned tick s decides first found ahead = record {
  waits = λ k after le in_time. let e : (k - suc tick) + suc tick ≡ k = omega (arith, after) in
      subst (λ t. listening_at sc ear t ≡ now.Waiting t first) e (waits (k - suc tick) (omega (arith, e, le)) (omega (arith, e, in_time)));
  begins = λ in_time. let e : (first.epoch - suc tick) + suc tick ≡ first.epoch = omega (arith, ahead) in
      ap (heed sc.sizes sc.plan) (subst (λ t. listening_at sc ear t ≡ now.Waiting t first) e (waits (first.epoch - suc tick) (omega (arith, e)) (omega (arith, e, in_time))))
      ∙ on-waiting sc first.epoch first (not-yet is in_time refl) (eq_self first.epoch);
}
  where
    at : HoldsAt ear (IsFresh sc hands ear) tick (listening_at sc ear tick)
    at = fresh-at law is run tick decides.in_time

    here : IsFresh sc hands ear tick at.n s
    here = subst (HoldsIn (IsFresh sc hands ear tick at.n)) decides.searching at.holds

    had : s.had ≡ tick
    had = here.well.had

    next : (heed sc.sizes sc.plan (listening_at sc ear tick)).listening ≡ now.Waiting (suc tick) first
    next =
        ap (λ x. (heed sc.sizes sc.plan x).listening) decides.searching
        ∙ on-deciding sc s (not-yet is decides.in_time had) decides.deciding found (lt-ltb s.had first.epoch (omega (arith, had, ahead)))
        ∙ ap (λ t. now.Waiting (t + 1) first) had ∙ (let e : tick + 1 ≡ suc tick = omega arith in ap (λ t. now.Waiting t first) e)

    waits : (d : ℕ) → d + suc tick ≤ first.epoch → d + suc tick < ear.ticks → listening_at sc ear (d + suc tick) ≡ now.Waiting (d + suc tick) first
    waits zero le in_time =
        let e : suc tick ≡ 0 + suc tick = omega arith in
        subst (λ t. listening_at sc ear t ≡ now.Waiting t first) e (ap (hears sc (ear.heard (suc tick))) next ∙ hears-nothing sc (ear.heard (suc tick)) (suc tick) first)
    waits (suc d) le in_time =
        let e : suc (d + suc tick) ≡ suc d + suc tick = omega arith in
        let f : d + suc tick + 1 ≡ suc (d + suc tick) = omega arith in
        let before : listening_at sc ear (d + suc tick) ≡ now.Waiting (d + suc tick) first = waits d (omega (arith, le)) (omega (arith, in_time)) in
        let step : (heed sc.sizes sc.plan (listening_at sc ear (d + suc tick))).listening ≡ now.Waiting (suc (d + suc tick)) first =
        ap (λ x. (heed sc.sizes sc.plan x).listening) before
        ∙ ap (λ x. x.listening) (on-waiting sc (d + suc tick) first (not-yet is (omega (arith, in_time)) refl) (more-differs first.epoch (d + suc tick) (omega (arith, le))))
        ∙ ap (λ t. now.Waiting t first) f in
        subst (λ t. listening_at sc ear t ≡ now.Waiting t first) e
        (ap (hears sc (ear.heard (suc (d + suc tick)))) step ∙ hears-nothing sc (ear.heard (suc (d + suc tick))) (suc (d + suc tick)) first)
