-- What is sent, and what is said in a window, comes later than the tick before.
use Rattle.std.proofs.Common.{◌≡◌, ℕ, ◌+◌, ◌<◌, ◌≤◌, ◌&&◌, Bool, true, false, [], ◌∷◌, ◌++◌, length, refl, ap, sym, ◌∙◌, arith}
use Rattle.rb_base.specs.{Nodes.{Side, other}, declared.values.Place.Place}
use Rattle.rb_rules.specs.{Clock.time_of, Goodness.{Scenario, clock_of, clock_place}, Hearing.{Coming, Sending, Span, coming_of}, Lawful.IsLawful, Links.{delay_of, name_of}, Plan.{longest_of, shortest_of}, Slots.{count_of, same_side}, WorldStep.{Site, says_in, sent_to}}
use Rattle.rb_rules.proofs.{Drift.{HasLengths, has_lengths}, Slots.{other_twice, place-within, same_side-is}, Stamps.Moves}
use Rattle.rb_laws_events.proofs.{CloseOrder.shortest-some, DueEvents.every-weaker, ReceiverHears.way-least, SameHeard.Every, SayLists.{ComesIn, says-come-in}}
use Rattle.rb_laws_sweeps.specs.{Laws.{SweepsFrom, WhatIsSentComesLaterInLawful, with_more}, Sweeping.swept}
use Rattle.rb_laws_sweeps.proofs.Sweeps.{every-all, push-passes, sweeps-keep}

-- A message.

-- a message arrives later than it was sent
pub message-later : {sc : _} → IsLawful sc → (me side : Side) (j i frame : ℕ) (x : Sending) → same_side side (other me) ≡ true
    → time_of (clock_of sc me j) x.tick + 1 ≤ (coming_of sc side i j frame x).time
message-later {sc} lawful me side j i frame x kind =
    let place : Place = record { frame = frame; slot = x.message.slot; stage = x.message.stage } in
    let twice : other side ≡ me = ap other (same_side-is side (other me) kind) ∙ other_twice me in
    let time : time_of (clock_of sc (other side) j) x.tick ≡ time_of (clock_of sc me j) x.tick = ap (λ side. time_of (clock_of sc side j) x.tick) twice in
    let low : sc.plan.dmin ≤ delay_of sc.delays (name_of (other side) j) (name_of side i) place = way-least lawful (name_of (other side) j) (name_of side i) place in
    let some : 1 ≤ sc.plan.dmin = lawful.plan.dmin.0 in
    omega (arith, time, low, some)

-- the site with the message on its way to it, if `b` holds
abbrev pub sent_where : Scenario → Side → ℕ → ℕ → Sending → Side → ℕ → Site → Bool → Site
sent_where sc me j frame x side i s b = elim b as (λ _. Site) [ true ↦ record s { coming = s.coming ++ coming_of sc side i j frame x ∷ [] } | false ↦ s ]

pub sent-passes : {sc : _} → IsLawful sc → (me side : Side) (j i frame until : ℕ) (x : Sending) (s : Site) → until ≤ time_of (clock_of sc me j) x.tick + 1
    → swept sc side i until (sent_to sc me j frame x side i s) ≡ sent_to sc me j frame x side i (swept sc side i until s)
sent-passes {sc} lawful me side j i frame until x s le = by (same_side side (other me)) s.runs refl refl ∙ ap (λ r. sent_where sc me j frame x side i z (same_side side (other me) && r)) (sym runs)
  where
    z : Site
    z = swept sc side i until s

    from : SweepsFrom sc side i until s z
    from = sweeps-keep sc side i until s

    runs : z.runs ≡ s.runs
    runs = ap (λ (s : Site). s.runs) from.is

    ahead : z.ahead ≡ s.ahead
    ahead = ap (λ (s : Site). s.ahead) from.is

    by : (kind r : Bool) → same_side side (other me) ≡ kind → s.runs ≡ r
        → swept sc side i until (sent_where sc me j frame x side i s (same_side side (other me) && s.runs)) ≡ sent_where sc me j frame x side i z (same_side side (other me) && s.runs)
    by true true e f =
        let c : Coming = coming_of sc side i j frame x in
        let later : until ≤ c.time = let low = message-later lawful me side j i frame x e in omega (arith, le, low) in
        let pass : (same_side side (other me) && s.runs) ≡ true = ap (λ k. k && s.runs) e ∙ f in
        ap (λ b. swept sc side i until (sent_where sc me j frame x side i s b)) pass
        ∙ push-passes sc side i until s.ahead (c ∷ []) s (later, tt)
        ∙ ap (λ a. with_more a (c ∷ []) z) (sym ahead)
        ∙ ap (sent_where sc me j frame x side i z) (sym pass)
    by true false e f =
        let none : (same_side side (other me) && s.runs) ≡ false = ap (λ k. k && s.runs) e ∙ f in
        ap (λ b. swept sc side i until (sent_where sc me j frame x side i s b)) none ∙ ap (sent_where sc me j frame x side i z) (sym none)
    by false r e f =
        let none : (same_side side (other me) && s.runs) ≡ false = ap (λ k. k && s.runs) e in
        ap (λ b. swept sc side i until (sent_where sc me j frame x side i s b)) none ∙ ap (sent_where sc me j frame x side i z) (sym none)

-- What is said.

pub node-clock : {sc : _} → IsLawful sc → (me : Side) (i : ℕ) → i < count_of me sc.sizes → HasLengths (shortest_of sc.plan) (longest_of sc.plan) (clock_of sc me i)
node-clock {sc} lawful me i counted =
    has_lengths (shortest_of sc.plan) (longest_of sc.plan) (clock_of sc me i)
    (lawful.clocks (clock_place sc.sizes me i) (record { start = 0; segments = [] }) (place-within sc.sizes me i (length sc.clocks) lawful.one_clock_each counted))

pub node-moves : {sc : _} → IsLawful sc → (me : Side) (i : ℕ) → i < count_of me sc.sizes → Moves (clock_of sc me i)
node-moves {sc} lawful me i counted tick =
    let low = (node-clock lawful me i counted tick).0 in
    let some : 1 ≤ shortest_of sc.plan = shortest-some lawful in
    omega (arith, low, some)

pub says-later : (sc : Scenario) (me : Side) (i k : ℕ) (span : Span) → span.first ≡ k + 1
    → Every (λ c. time_of (clock_of sc me i) k + 1 ≤ c.time) (says_in sc me i span)
says-later sc me i k span first =
    every-weaker (ComesIn (clock_of sc me i) span) (λ c. time_of (clock_of sc me i) k + 1 ≤ c.time)
    (λ c comes. let later = comes.0 k (omega (arith, first)) in omega (arith, later)) (says_in sc me i span) (says-come-in sc me i span)

pub sent-later : WhatIsSentComesLaterInLawful
sent-later sc lawful = record {
  message = sent-passes lawful;
  said = λ me i k span counted first.
      every-all (λ c. time_of (clock_of sc me i) k + 1 ≤ c.time) (says_in sc me i span) (says-later sc me i k span first);
}
