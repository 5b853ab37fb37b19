-- What is dropped in front of a tick.
use Rattle.std.proofs.{Common.{◌≡◌, ℕ, zero, suc, ◌-◌, ◌≤◌, refl, ap, ◌∙◌, arith, List, [], ◌∷◌, ◌++◌}, Math.ListN.replicate}
use Rattle.rb_rules.specs.{Core.CoreEvent, Core.CoreEvent.{Tick, Arrive}}
use Rattle.rb_replay.specs.Overhearing.{from_tick}

-- ticks are counted
pub drops-ticks : (n ticks : ℕ) (events : List CoreEvent) → ticks ≤ n → from_tick n (replicate ticks (Tick 0) ++ events) ≡ from_tick (n - ticks) events
unfolding from_tick
drops-ticks n zero events h = let e : n ≡ n - 0 = omega arith in ap (λ k. from_tick k events) e
drops-ticks zero (suc ticks) events h = absurd (omega arith)
drops-ticks (suc n) (suc ticks) events h =
    let e : n - ticks ≡ suc n - suc ticks = omega arith in
    drops-ticks n ticks events (omega arith) ∙ ap (λ k. from_tick k events) e

pub drops-tick : (n word : ℕ) (events : List CoreEvent) → 1 ≤ n → from_tick n (Tick word ∷ events) ≡ from_tick (n - 1) events
unfolding from_tick
drops-tick zero word events h = absurd (omega arith)
drops-tick (suc n) word events h = let e : n ≡ suc n - 1 = omega arith in ap (λ k. from_tick k events) e

pub finds-tick : (word : ℕ) (events : List CoreEvent) → from_tick 0 (Tick word ∷ events) ≡ Tick word ∷ events
unfolding from_tick
finds-tick word events = refl

-- arrivals are dropped
pub drops-arrival : (n from : ℕ) (bytes : List ℕ) (events : List CoreEvent) → from_tick n (Arrive from bytes ∷ events) ≡ from_tick n events
unfolding from_tick
drops-arrival n from bytes events = refl

pub none-found : (n : ℕ) → from_tick n [] ≡ []
unfolding from_tick
none-found n = refl

-- to pass quiet ticks is to drop them
pub passes-over : (skip left passed : ℕ) (start events mid : List CoreEvent) → from_tick skip start ≡ from_tick left events
    → events ≡ replicate passed (Tick 0) ++ mid → passed ≤ left → from_tick skip start ≡ from_tick (left - passed) mid
passes-over skip left passed start events mid known is most = known ∙ ap (from_tick left) is ∙ drops-ticks left passed mid most

-- once no tick is left to be dropped, the tick is found
pub finds : (skip left word : ℕ) (start mid rest : List CoreEvent) (e : CoreEvent) → from_tick skip start ≡ from_tick left mid → left ≡ 0
    → mid ≡ e ∷ rest → e ≡ Tick word → from_tick skip start ≡ Tick word ∷ rest
finds skip left word start mid rest e known none is tick =
    known ∙ ap (λ k. from_tick k mid) none ∙ ap (from_tick 0) (is ∙ ap (λ x. x ∷ rest) tick) ∙ finds-tick word rest

-- a tick before the one to go to is passed
pub goes-past : (skip left word : ℕ) (start mid rest : List CoreEvent) (e : CoreEvent) → from_tick skip start ≡ from_tick left mid → 1 ≤ left
    → mid ≡ e ∷ rest → e ≡ Tick word → from_tick skip start ≡ from_tick (left - 1) rest
goes-past skip left word start mid rest e known some is tick =
    known ∙ ap (from_tick left) (is ∙ ap (λ x. x ∷ rest) tick) ∙ drops-tick left word rest some

pub leaves-out : (skip left from : ℕ) (bytes : List ℕ) (start mid rest : List CoreEvent) (e : CoreEvent) → from_tick skip start ≡ from_tick left mid
    → mid ≡ e ∷ rest → e ≡ Arrive from bytes → from_tick skip start ≡ from_tick left rest
leaves-out skip left from bytes start mid rest e known is arrival =
    known ∙ ap (from_tick left) (is ∙ ap (λ x. x ∷ rest) arrival) ∙ drops-arrival left from bytes rest

pub is-over : (skip left : ℕ) (start mid : List CoreEvent) → from_tick skip start ≡ from_tick left mid → mid ≡ [] → from_tick skip start ≡ []
is-over skip left start mid known none = known ∙ ap (from_tick left) none ∙ none-found left
