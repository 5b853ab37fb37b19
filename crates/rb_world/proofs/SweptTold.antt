-- A node is swept, and each arrival is told before it is taken.
use Rattle.std.proofs.{Common.{◌≡◌, ℕ, ◌+◌, ◌<◌, ◌≤◌, ◌⊎◌, None, List, [], ◌∷◌, ◌++◌, append_assoc, refl, sym, ap, ◌∙◌, subst, arith, inl, inr}, lemmas.Bool.cases_lt, lemmas.List.append-nil, lemmas.Option.same_Some}
use Rattle.rb_base.specs.{Nodes.{Side, other}, declared.node.NodeName.NodeName}
use Rattle.rb_rules.specs.{Book.Each, Goodness.Scenario, Hearing.Coming, Links.name_of, Slots.count_of, WorldStep.{Site, after_arrival, at_node}, WorldStep.Pending.Arrival}
use Rattle.rb_laws_events.proofs.{SameHeard.Every, DueEvents.every-weaker}
use Rattle.rb_queue.specs.{Waiting.{HasLane, Held, IsFirstBefore, IsReadyBefore, event_with, lane_of, tick_time_of, with_lane, without_place, without_ready}, Waiting.Ready.{Comes, Ticks}}
use Rattle.rb_world_agenda.specs.{Agenda.key_of, Holding.HoldsSites}
use Rattle.rb_world.specs.{Sites.{KeptSite, Stands as StandsFor, number_of}, Observing.WasTold, Steps.CanHear, Trailing.{MaySweep, NoneBefore, Sweeps, TakesArrival, TakesTick, cleared, tick_from}, Worlds.IsNode}
use Rattle.rb_laws_sweeps.specs.{Sweeping.swept, Told.{Told, heard, telling}}
use Rattle.rb_laws_sweeps.proofs.{Hearing.{hears-first, hears-none}, Sweeps.all-every}
use Rattle.rb_world.proofs.{Observed.was-more, OneTaken.{ComesFirst, comes-first, first-dropped, none-first, takes-arrival, takes-tick, tick-first, tick-is, ticks-first}, Sites.{at-same, at-twice}, Swept.{SweepsOn, comes-in-time, may-come, sweep-begins, sweep-goes}, Taken.{lanes-taken, nothing-next, rooms-taken}}

-- One arrival.

-- the first arrival of the lane may come to the node
pub hears-next : (sc : Scenario) (me : Side) (i until place : ℕ) (site : KeptSite) (lanes : Each Held) (sites : Each Site) (s : Site) (name : NodeName) → (on : SweepsOn sc me i until site lanes sites s)
    → name ≡ name_of me i → HasLane lanes name → until ≤ 18446744073709551615 → (ready : IsReadyBefore until (lane_of lanes name) place) → number_of site ≡ i
    → CanHear sc me (number_of site) name place site lanes ready.coming
hears-next sc me i until place site lanes sites s name on named lane most ready number =
    let c : Coming = ready.coming in
    let first : ComesFirst me i until lanes name c.time (event_with name (Comes place c)) = comes-first me i until lanes name place c named lane most ready ready.stands in
    let left : Each Held = with_lane name (without_ready 0 (lane_of lanes name)) lanes in
    let takes : TakesArrival sc.sizes me i until left (at_node me i (λ _. on.now) sites) on.now c =
    takes-arrival sc me i until site lanes left sites s name c.time (event_with name (Comes place c)) c on first refl refl in
    subst (λ n. CanHear sc me n name place site lanes c) (sym number) (record {
      within = on.may.within;
      lane = lane;
      stands = ready.stands;
      in_time = comes-in-time sc me i until takes.place site on.now c (may-come sc me i until site lanes left sites s c on takes);
      sender = subst (λ z. c.from < count_of (other me) z) (sym on.may.node.site.sizes) takes.sender;
    })

-- The sweep, as far as it has come: these have been told.
pub record SweepsTold (S : Type 0) (step : S → Told → S → Type 0) (a b : S) (sc : Scenario) (me : Side) (i until : ℕ) (site : KeptSite) (lanes : Each Held) (sites : Each Site) (s : Site) : Type 0 where
  pub on : SweepsOn sc me i until site lanes sites s
  pub told : List Told
  pub was : WasTold S step a told b
  pub all : heard sc me i until s ≡ told ++ heard sc me i until on.now

pub told-begins : (S : Type 0) (step : S → Told → S → Type 0) (a : S) (sc : Scenario) (me : Side) (i until : ℕ) (site : KeptSite) (lanes : Each Held) (sites : Each Site) (s : Site)
    → MaySweep sc me i until site lanes sites s → SweepsTold S step a a sc me i until site lanes sites s
unfolding sweep-begins
told-begins S step a sc me i until site lanes sites s may = record { on = sweep-begins sc me i until site lanes sites s may; told = []; was = refl; all = refl }

-- what is kept of the node stands for it after each arrival that it hears
pub record Hears (sc : Scenario) (me : Side) (name : NodeName) (place : ℕ) (site after : KeptSite) (lanes new : Each Held) (c : Coming) : Type 0 where
  pub lane : new ≡ with_lane name (without_place place (lane_of lanes name)) lanes
  pub stands : (at : ℕ) (s : Site) → StandsFor sc me site s → StandsFor sc me after (after_arrival sc me (number_of site) at c s)
  pub number : number_of after ≡ number_of site

pub told-goes : (S : Type 0) (step : S → Told → S → Type 0) (a b b2 : S) (sc : Scenario) (me : Side) (i until place : ℕ) (site after : KeptSite) (lanes new : Each Held) (sites : Each Site) (s : Site) (name : NodeName)
    → (it : SweepsTold S step a b sc me i until site lanes sites s) → name ≡ name_of me i → HasLane lanes name → until ≤ 18446744073709551615
    → (ready : IsReadyBefore until (lane_of lanes name) place) → number_of site ≡ i → Hears sc me name place site after lanes new ready.coming
    → ((at : ℕ) → step b (telling sc [] me (number_of site) it.on.now (Arrival at ready.coming)) b2) → SweepsTold S step a b2 sc me i until after new sites s
unfolding sweep-goes
told-goes S step a b b2 sc me i until place site after lanes new sites s name it named lane most ready number hears did =
    let c : Coming = ready.coming in
    let on : SweepsOn sc me i until site lanes sites s = it.on in
    let first : ComesFirst me i until lanes name c.time (event_with name (Comes place c)) = comes-first me i until lanes name place c named lane most ready ready.stands in
    let dropped : new ≡ with_lane name (without_ready 0 (lane_of lanes name)) lanes = first-dropped until lanes new name place ready hears.lane in
    let takes : TakesArrival sc.sizes me i until new (at_node me i (λ _. on.now) sites) on.now c =
    takes-arrival sc me i until site lanes new sites s name c.time (event_with name (Comes place c)) c on first dropped refl in
    let so : StandsFor sc me after (after_arrival sc me i takes.place c on.now) =
    subst (λ n. StandsFor sc me after (after_arrival sc me n takes.place c on.now)) number (hears.stands takes.place on.now on.may.node.site) in
    let t : Told = telling sc [] me i on.now (Arrival takes.place c) in
    record {
      on = sweep-goes sc me i until site after lanes new sites s c on takes
          (lanes-taken lanes new name (without_ready 0 (lane_of lanes name)) dropped (name_of me i) on.may.lane)
          (rooms-taken sc lanes new name 0 lane dropped on.may.rooms) (hears.number ∙ number) so;
      told = it.told ++ t ∷ [];
      was = was-more S step a b b2 it.told t it.was (subst (λ n. step b (telling sc [] me n on.now (Arrival takes.place c)) b2) number (did takes.place));
      all = it.all ∙ ap (λ l. it.told ++ l) (hears-first sc me i until on.now (record { place = takes.place; coming = c }) takes.is takes.before)
          ∙ sym (append_assoc it.told (t ∷ []) (heard sc me i until (after_arrival sc me i takes.place c on.now)));
    }

-- The end.

-- no arrival is left that comes before the time
none-left : (sc : Scenario) (me : Side) (i until : ℕ) (site : KeptSite) (lanes : Each Held) (sites : Each Site) (s : Site) (name : NodeName) → (on : SweepsOn sc me i until site lanes sites s)
    → name ≡ name_of me i → HasLane lanes name → until ≤ 18446744073709551615 → IsFirstBefore until (lane_of lanes name) None → Every (λ c. until ≤ c.time) on.now.coming
none-left sc me i until site lanes sites s name on named has_lane most later = by (cases_lt (tick_time_of lane) until)
  where
    lane : Held
    lane = lane_of lanes name

    by : (tick_time_of lane < until) ⊎ (until ≤ tick_time_of lane) → Every (λ c. until ≤ c.time) on.now.coming
    by (inl before) =
        let both = tick-first lane until (tick_time_of lane) later (tick-is lane until most before) before in
        let first : ComesFirst me i until lanes name (tick_time_of lane) (event_with name Ticks) =
        ticks-first me i until lanes name (tick_time_of lane) named has_lane most both.0 before both.1 in
        let left : Each Held = with_lane name (without_ready 0 lane) lanes in
        let takes : TakesTick sc.sizes me i until left (at_node me i (λ _. on.now) sites) on.now =
        takes-tick sc me i until site lanes left sites s name (tick_time_of lane) (event_with name Ticks) on first refl refl in
        let reach = on.may.reachable.before takes.tick takes.pends in
        every-weaker (λ c. takes.tick.time + 1 ≤ c.time) (λ c. until ≤ c.time) (λ c le. omega (arith, le, reach)) on.now.coming (all-every (λ c. takes.tick.time + 1 ≤ c.time) on.now.coming takes.later)
    by (inr no_sooner) =
        let late : until ≤ key_of (lane_of lanes (name_of me i)) = subst (λ n. until ≤ key_of (lane_of lanes n)) named (none-first lane until most later no_sooner) in
        let none : NoneBefore until on.now = nothing-next sc.sizes lanes (at_node me i (λ _. on.now) sites) me i on.now until on.may.holds on.may.there late in
        all-every (λ c. until ≤ c.time) on.now.coming none.coming

-- at the end of the sweep all has been told
pub told-ends : (S : Type 0) (step : S → Told → S → Type 0) (a b : S) (sc : Scenario) (me : Side) (i until : ℕ) (site : KeptSite) (lanes : Each Held) (sites : Each Site) (s : Site) (name : NodeName)
    → SweepsTold S step a b sc me i until site lanes sites s → name ≡ name_of me i → HasLane lanes name → until ≤ 18446744073709551615 → IsFirstBefore until (lane_of lanes name) None
    → WasTold S step a (heard sc me i until s) b
told-ends S step a b sc me i until site lanes sites s name it named has_lane most later =
    subst (λ l. WasTold S step a l b)
    (sym (it.all ∙ ap (λ l. it.told ++ l) (hears-none sc me i until it.on.now (none-left sc me i until site lanes sites s name it.on named has_lane most later)) ∙ append-nil it.told)) it.was

pub sweep-rest : (sc : Scenario) (me : Side) (i until : ℕ) (site new : KeptSite) (lanes after : Each Held) (sites : Each Site) (s : Site) → (on : SweepsOn sc me i until site lanes sites s)
    → Sweeps sc me i until new after (at_node me i (λ _. on.now) sites) on.now → Sweeps sc me i until new after sites s
sweep-rest sc me i until site new lanes after sites s on is = record {
  node = subst (IsNode sc me i new) on.same is.node;
  holds = subst (HoldsSites sc.sizes after)
      (at-twice me i (cleared sc me i until) (λ _. on.now) sites
      ∙ at-same me i (λ _. cleared sc me i until on.now) (cleared sc me i until) sites
      (λ x at.
      let same : s ≡ x = same_Some s x (sym on.there ∙ at) in
      subst (λ x. cleared sc me i until on.now ≡ cleared sc me i until x) same
      (ap (λ (y : Site). record y { ahead = tick_from until on.now.ahead }) on.same ∙ ap (λ o. record (swept sc me i until s) { ahead = tick_from until o }) on.ahead)))
      is.holds;
  lane = is.lane;
  rooms = is.rooms;
}
