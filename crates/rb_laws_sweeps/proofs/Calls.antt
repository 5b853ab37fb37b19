-- What a call does besides takes.
use Rattle.std.proofs.Common.{◌≡◌, ◌≤◌, Bool, true, false, List, [], ◌∷◌, ap, ◌∙◌, refl, arith}
use Rattle.rb_rules.specs.{Hearing.Coming, WorldStep.{World, go_on, settle}, WorldStep.Way.ByItself}
use Rattle.rb_laws_events.proofs.{SameHeard.Every, EachAlike.each-alike}
use Rattle.rb_laws_sweeps.specs.{AheadOf.ahead_of, Laws.{GoOnPassesASweep, NobodyIsAhead}, Sweeping.swept}
use Rattle.rb_laws_sweeps.proofs.{EachNode.each-itself, GoesOn.swept-told, Settles.settle-changed, Sweeps.sweep-stays}

pub at-any-time : (cs : List Coming) → Every (λ c. 0 ≤ c.time) cs
at-any-time [] = tt
at-any-time (c ∷ cs) = (omega arith, at-any-time cs)

pub nobody-is-ahead : NobodyIsAhead
nobody-is-ahead sc w =
    ap (λ sites. record w { sites = sites })
    (each-alike (λ side j s. swept sc side j 0 s) (λ side j s. s) w.sites (λ side j s there. sweep-stays sc side j 0 s (at-any-time s.coming)) ∙ each-itself w.sites)

pub go-on-passes : GoOnPassesASweep
unfolding go_on
go-on-passes sc until w = by w.book.ended
  where
    by : (b : Bool) → (elim b as (λ _. World) [ true ↦ ahead_of sc until w | false ↦ settle sc ByItself 2 (ahead_of sc until w) ])
        ≡ ahead_of sc until (elim b as (λ _. World) [ true ↦ w | false ↦ settle sc ByItself 2 w ])
    by true = refl
    by false = settle-changed sc ByItself 2 w (swept-told sc until)
