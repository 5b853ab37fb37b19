-- What is kept of a site stands for each that has heard the like of it, and an arrival that is
-- taken in leaves the next tick.
use Rattle.std.proofs.Common.{◌≡◌, ℕ, ◌<◌, ◌∙◌, Bool, true, false, List, [], ◌∷◌, length, sym, ap, subst, arith, inr}
use Rattle.rb_base.specs.Nodes.{Side, has}
use Rattle.rb_rules.specs.{Core.{next_tick, of_source}, Goodness.Scenario, Sense.Arrival, WorldStep.Site}
use Rattle.rb_eligible.specs.{Inboxes.{IsKept, KeptArrivals, arrivals_of, sole_at}, declared.reading.Sole.Sole}
use Rattle.rb_node.specs.{Cores.{passing_end, received_of}, Ends.EndsExactWindow}
use Rattle.rb_node.proofs.Cores.{arrivals-are}
use Rattle.rb_world.specs.{Sites.{AreAlike, IsHeardAlike, KeptSite, Stands, number_of}, Sites.AreAlike.{Nothing, Single, Several}}

-- What an inbox keeps of one source.

one-alone : (xs : List Arrival) (x : Arrival) → xs ≡ x ∷ [] → 1 < length xs → ⊥
one-alone xs x e many = let one : length xs ≡ 1 = ap length e in omega (arith, one, many)

none-alone : (xs : List Arrival) → xs ≡ [] → 1 < length xs → ⊥
none-alone xs e many = let none : length xs ≡ 0 = ap length e in omega (arith, none, many)

several-kept : (came spoilt : Bool) (sole : Sole) (xs ys : List Arrival) → 1 < length xs → 1 < length ys → IsKept came spoilt sole xs
    → IsKept came spoilt sole ys
several-kept false false sole xs ys m n kept = absurd (none-alone xs kept m)
several-kept false true sole xs ys m n kept = kept
several-kept true false sole xs ys m n kept = absurd (one-alone xs _ kept.1 m)
several-kept true true sole xs ys m n kept = inr n

same-arrival : (x y : Arrival) → y.bytes ≡ x.bytes → y.stamp ≡ x.stamp → x ≡ y
same-arrival x y bytes stamp = λ i. record { stamp = sym stamp i; bytes = sym bytes i }

alike-kept : (came spoilt : Bool) (sole : Sole) (xs ys : List Arrival) → AreAlike xs ys → IsKept came spoilt sole xs → IsKept came spoilt sole ys
alike-kept came spoilt sole xs ys (Nothing e f) kept = subst (IsKept came spoilt sole) (e ∙ sym f) kept
alike-kept came spoilt sole xs ys (Single x y e f bytes stamp) kept =
    subst (IsKept came spoilt sole) (e ∙ ap (λ z. z ∷ []) (same-arrival x y bytes stamp) ∙ sym f) kept
alike-kept came spoilt sole xs ys (Several m n) kept = several-kept came spoilt sole xs ys m n kept

-- What is kept of a site.

pub heard-alike : (sc : Scenario) (me : Side) (k : KeptSite) (s t : Site) → Stands sc me k s → IsHeardAlike s t → Stands sc me k t
heard-alike sc me k s t is alike = record {
  sizes = is.sizes;
  plan = is.plan;
  core = record { state = alike.state ∙ is.core.state; had = alike.had ∙ is.core.had; inbox = inbox };
  runs = is.runs ∙ sym alike.runs;
  together = alike.together;
  times = λ j h c sole. is.times j h c (alike.got j h c sole);
}
  where
    kept : ℕ → List Arrival → Type 0
    kept j = IsKept (has k.node.inbox.came j) (has k.node.inbox.spoilt j) (sole_at k.node.inbox.soles j)

    inbox : (j : ℕ) → j < 16 → kept j (arrivals_of j (received_of t.core.inbox))
    inbox j h =
        subst (kept j) (sym (arrivals-are j t.core.inbox))
        (alike-kept (has k.node.inbox.came j) (has k.node.inbox.spoilt j) (sole_at k.node.inbox.soles j) (of_source s.core.inbox j) (of_source t.core.inbox j)
        (alike.inbox j h) (subst (kept j) (arrivals-are j s.core.inbox) (is.core.inbox j h)))

-- An arrival that is taken in.

-- what is kept has the same number, runs as before, and lets ticks pass as far
pub record StaysOn (me : Side) (before after : KeptSite) : Type 0 where
  pub number : number_of after ≡ number_of before
  pub runs : after.runs ≡ before.runs
  pub passing : passing_end me after.node ≡ passing_end me before.node

pub takes-on : (me : Side) (before after : KeptSite) (inbox : KeptArrivals) (times : List ℕ)
    → after ≡ record before { node = record before.node { inbox = inbox }; times = times } → StaysOn me before after
takes-on me before after inbox times e = record {
  number = ap number_of e;
  runs = ap (λ (k : KeptSite). k.runs) e;
  passing = ap (λ (k : KeptSite). passing_end me k.node) e;
}

-- the site after the arrival is in the same state and has the same next tick
pub record GoesOn (sc : Scenario) (me : Side) (i : ℕ) (before after : Site) : Type 0 where
  pub state : after.core.state ≡ before.core.state
  pub had : after.core.had ≡ before.core.had
  pub runs : after.runs ≡ before.runs
  pub next : next_tick sc.sizes sc.plan me i after.core ≡ next_tick sc.sizes sc.plan me i before.core
  pub ends : (k : ℕ) → EndsExactWindow sc.sizes sc.plan me before.core.state k → EndsExactWindow sc.sizes sc.plan me after.core.state k
