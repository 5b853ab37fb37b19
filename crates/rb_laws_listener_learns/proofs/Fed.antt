-- Events one after another are what a listener hears tick by tick.
use Rattle.std.proofs.Common.{◌≡◌, ℕ, zero, suc, List, [], ◌∷◌, ◌++◌, refl, ◌∙◌, ap}
use Rattle.rb_rules.specs.{Core.CoreEvent, Goodness.Scenario, Hearing.Coming}
use Rattle.rb_listen.specs.Listening.{Listening, first_search, hear, heed, told_of}
use Rattle.rb_laws_listener_learns.specs.{Ears.{Ear, hears, listening_at, told_at}, Feeding.{arrivals_of, events_from, told_from}}
use Rattle.rb_listen.specs.Listening as now

-- arrivals tell nothing
hears-first : (sc : Scenario) (cs : List Coming) (rest : List CoreEvent) (l : Listening)
    → told_of sc.sizes sc.plan l (arrivals_of cs ++ rest) ≡ told_of sc.sizes sc.plan (hears sc cs l) rest
hears-first sc [] rest l = refl
hears-first sc (c ∷ cs) rest l = hears-first sc cs rest (hear sc.sizes sc.plan c.from c.bytes l)

-- a listener that is fed the events from tick `k` on tells what the run's listener tells from there
-- on
fed : (sc : Scenario) (ear : Ear) (word : ℕ → ℕ) (n k : ℕ) (l : Listening) → hears sc (ear.heard k) l ≡ listening_at sc ear k
    → told_of sc.sizes sc.plan l (events_from ear word k n) ≡ told_from sc ear k n
fed sc ear word zero k l at = refl
fed sc ear word (suc n) k l at =
    hears-first sc (ear.heard k) (CoreEvent.Tick (word k) ∷ events_from ear word (suc k) n) l
    ∙ ap (λ x. told_of sc.sizes sc.plan x (CoreEvent.Tick (word k) ∷ events_from ear word (suc k) n)) at
    ∙ ap (λ x. told_at sc ear k ∷ x) (fed sc ear word n (suc k) (heed sc.sizes sc.plan (listening_at sc ear k)).listening refl)

pub fed-events : (sc : Scenario) (ear : Ear) (word : ℕ → ℕ) (n : ℕ)
    → told_of sc.sizes sc.plan (now.Searching first_search) (events_from ear word 0 n) ≡ told_from sc ear 0 n
fed-events sc ear word n = fed sc ear word n 0 (now.Searching first_search) refl
