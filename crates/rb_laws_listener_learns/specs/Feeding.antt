-- What a listener hears beside a run, as events one after another.
use Rattle.std.specs.Prelude.{ℕ, zero, suc, List, [], ◌∷◌, ◌++◌}
use Rattle.rb_rules.specs.{Core.CoreEvent, Core.CoreEvent.{Arrive, Tick}, Goodness.Scenario, Hearing.Coming}
use Rattle.rb_listen.specs.declared.heed.Heed.{Heed}
use Rattle.rb_laws_listener_learns.specs.Ears.{Ear, told_at}

-- each message that comes, as an arrival
abbrev pub arrivals_of : List Coming → List CoreEvent
arrivals_of [] = []
arrivals_of (c ∷ cs) = Arrive c.from c.bytes ∷ arrivals_of cs

-- the events of n ticks from tick k on: before each tick what comes with its stamp. The word of a
-- tick may be any
abbrev pub events_from : Ear → (ℕ → ℕ) → ℕ → ℕ → List CoreEvent
events_from ear word k zero = []
events_from ear word k (suc n) = arrivals_of (ear.heard k) ++ Tick (word k) ∷ events_from ear word (suc k) n

-- what a listener tells at n ticks from tick k on
abbrev pub told_from : Scenario → Ear → ℕ → ℕ → List Heed
told_from sc ear k zero = []
told_from sc ear k (suc n) = told_at sc ear k ∷ told_from sc ear (suc k) n
