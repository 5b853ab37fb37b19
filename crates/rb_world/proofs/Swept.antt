-- A node is swept, one arrival after another.
use Rattle.std.proofs.{Common.{◌≡◌, ℕ, ◌+◌, ◌^◌, ◌<◌, ◌≤◌, Bool, true, false, Some, None, Option, List, [], ◌∷◌, slice_get, refl, sym, ap, ◌∙◌, subst, arith}, lemmas.Bool.{le-ltb, lt-ltb}, lemmas.List.Elements.{All-append, All-cons, All-nil}, lemmas.Option.same_Some}
use Rattle.std.specs.Prelude.{option_map, unwrap_or}
use Rattle.rb_base.specs.{Nodes.{Side, other}, Nodes.Side.{Biu, Rmu}, declared.node.NodeName.NodeName}
use Rattle.rb_rules.specs.{Book.{Each, of_kind}, Clock.{ComesBy, stamp_of, time_of}, Core.{Core, arrive, next_tick, pass_to}, Entries.IsListed, Goodness.{Scenario, clock_of}, Hearing.Coming, Lawful.{IsLawful, kind_of}, Links.name_of, Slots.count_of, WorldStep.{Site, Timed, after_arrival, at_node, first_world}, WorldStep.Pending.{Tick, Arrival}}
use Rattle.rb_rules.proofs.QuietTicks.{arrive-next}
use Rattle.rb_laws_synchrony.proofs.Times.{stamp_to}
use Rattle.rb_laws_events.proofs.SameHeard.{Every}
use Rattle.rb_queue.specs.Waiting.{HasLane, Held}
use Rattle.rb_world_agenda.specs.Holding.{HoldsSites, without_waiting}
use Rattle.rb_node.specs.Cores.{passing_end}
use Rattle.rb_world.proofs.{Standing.passing-next, Entering.changed-there, Sites.{at-id, at-same, at-twice, holds-one}, Passed.passed-same}
use Rattle.rb_world.specs.{Sites.{KeptSite, Stands as StandsFor, number_of}, Buses.HaveRooms, Worlds.IsNode, Trailing.{IsReachable, MaySweep, NoneBefore, Sweeps, TakesArrival, TakesTick, cleared, tick_from}}
use Rattle.rb_laws_sweeps.specs.Sweeping.{Placed, first_of, swept}
use Rattle.rb_laws_sweeps.proofs.{SentLater.node-moves, Sweeps.{all-every, sweep-stays, sweep-takes}}
use Rattle.rb_world_traffic.specs.Arriving.{number_of as number_in}

-- One arrival.

-- the first arrival at a node that runs
pub record MayCome (sc : Scenario) (me : Side) (i until place : ℕ) (site : KeptSite) (s : Site) (c : Coming) : Type 0 where
  pub lawful : IsLawful sc
  pub listed : IsListed sc
  pub within : i < count_of me sc.sizes
  pub node : IsNode sc me i site s
  pub is : first_of s.coming ≡ Some (record { place = place; coming = c })
  pub before : c.time < until
  pub sender : c.from < count_of (other me) sc.sizes
  pub reachable : IsReachable sc me i until s

empty-first : (cs : List Coming) (p : Placed) → cs ≡ [] → first_of cs ≡ Some p → ⊥
unfolding first_of
empty-first [] p e f = let never : ◌≡◌ {A = Option Placed} None (Some p) = f in cc
empty-first (c ∷ cs) p e f = cc

pub comes-running : (sc : Scenario) (me : Side) (i until place : ℕ) (site : KeptSite) (s : Site) (c : Coming) → MayCome sc me i until place site s c → s.runs ≡ true
comes-running sc me i until place site s c h = by s.runs refl
  where
    by : (b : Bool) → s.runs ≡ b → s.runs ≡ true
    by true e = e
    by false e = absurd (empty-first s.coming (record { place = place; coming = c }) (h.node.awaits.nothing e) h.is)

-- an arrival that may come comes no later than the next tick
pub comes-before : (sc : Scenario) (me : Side) (i until place : ℕ) (site : KeptSite) (s : Site) (c : Coming) → MayCome sc me i until place site s c
    → (k : ℕ) → next_tick sc.sizes sc.plan me i s.core ≡ Some k → c.time ≤ time_of (clock_of sc me i) k
comes-before sc me i until place site s c h k next =
    let a : Timed = record { tick = k; time = time_of (clock_of sc me i) k } in
    let pends : s.ahead ≡ Some a = h.node.awaits.running (comes-running sc me i until place site s c h)
    ∙ ap (λ o. option_map (λ k. let t : Timed = record { tick = k; time = time_of (clock_of sc me i) k } in t) o) next in
    let before = h.before in
    let reach = h.reachable.before a pends in
    omega (arith, before, reach)

pub comes-in-time : (sc : Scenario) (me : Side) (i until place : ℕ) (site : KeptSite) (s : Site) (c : Coming) → MayCome sc me i until place site s c
    → ComesBy (passing_end me site.node) (clock_of sc me i) c.time
comes-in-time sc me i until place site s c h = by (next_tick sc.sizes sc.plan me i s.core) refl
  where
    end-is : (o : Option ℕ) → next_tick sc.sizes sc.plan me i s.core ≡ o → passing_end me site.node ≡ unwrap_or o (2 ^ 31)
    end-is o e =
        passing-next sc me site s h.node.site ∙ ap (λ n. unwrap_or (next_tick sc.sizes sc.plan me n s.core) (2 ^ 31)) h.node.number ∙ ap (λ o. unwrap_or o (2 ^ 31)) e

    by : (o : Option ℕ) → next_tick sc.sizes sc.plan me i s.core ≡ o → ComesBy (passing_end me site.node) (clock_of sc me i) c.time
    by None e =
        let end : passing_end me site.node ≡ 2 ^ 31 = end-is _ e in
        let has = h.reachable.has_tick (comes-running sc me i until place site s c h) in
        let small = has.1.0 in
        let late = has.1.1 in
        let before = h.before in
        record { tick = has.0; in_time = omega (arith, end, small); come = omega (arith, late, before) }
    by (Some k) e =
        let end : passing_end me site.node ≡ k = end-is _ e in
        record { tick = k; in_time = omega (arith, end); come = comes-before sc me i until place site s c h k e }

-- after an arrival the node that is kept is the node of the world
pub come-node : (sc : Scenario) (me : Side) (i until place : ℕ) (site new : KeptSite) (s : Site) (c : Coming) → MayCome sc me i until place site s c → number_of new ≡ i
    → StandsFor sc me new (after_arrival sc me i place c s) → IsNode sc me i new (after_arrival sc me i place c s)
unfolding after_arrival
come-node sc me i until place site new s c h number stands =
    let runs : s.runs ≡ true = comes-running sc me i until place site s c h in
    let stamp : ℕ = stamp_of (clock_of sc me i) c.time in
    let passed : Core = pass_to stamp s.core in
    let next : next_tick sc.sizes sc.plan me i (arrive sc.sizes me passed c.from c.bytes) ≡ next_tick sc.sizes sc.plan me i s.core =
    arrive-next sc.sizes sc.plan me i passed c.from c.bytes
    ∙ passed-same sc me i stamp s.core (λ k e. stamp_to (clock_of sc me i) (node-moves h.lawful me i h.within) c.time k (comes-before sc me i until place site s c h k e)) in
    record {
      number = number;
      site = stands;
      awaits = record {
        running = λ e. h.node.awaits.running e ∙ ap (λ o. option_map (λ k. let t : Timed = record { tick = k; time = time_of (clock_of sc me i) k } in t) o) (sym next);
        tick_of_none = h.node.awaits.tick_of_none;
        nothing = λ e. absurd (let never : true ≡ false = sym runs ∙ e in cc);
      };
      senders = All-append (λ (c : Coming). c.from < count_of (other me) sc.sizes) s.got (c ∷ []) h.node.senders
          (All-cons (λ (c : Coming). c.from < count_of (other me) sc.sizes) c [] h.sender (All-nil (λ (c : Coming). c.from < count_of (other me) sc.sizes)));
    }

-- The sweep, as far as it has come: the node is this now.
pub record SweepsOn (sc : Scenario) (me : Side) (i until : ℕ) (site : KeptSite) (lanes : Each Held) (sites : Each Site) (s : Site) : Type 0 where
  pub now : Site
  pub there : slice_get (of_kind me sites) i ≡ Some s
  pub same : swept sc me i until now ≡ swept sc me i until s
  pub ahead : now.ahead ≡ s.ahead
  pub may : MaySweep sc me i until site lanes (at_node me i (λ _. now) sites) now

pub at-itself : (me : Side) (i : ℕ) (sites : Each Site) (s : Site) → slice_get (of_kind me sites) i ≡ Some s → at_node me i (λ _. s) sites ≡ sites
at-itself me i sites s there = at-same me i (λ _. s) (λ z. z) sites (λ z at. same_Some s z (sym there ∙ at)) ∙ at-id me i sites

unfoldable pub sweep-begins : (sc : Scenario) (me : Side) (i until : ℕ) (site : KeptSite) (lanes : Each Held) (sites : Each Site) (s : Site) → MaySweep sc me i until site lanes sites s
    → SweepsOn sc me i until site lanes sites s
sweep-begins sc me i until site lanes sites s may = record {
  now = s;
  there = may.there;
  same = refl;
  ahead = refl;
  may = subst (λ x. MaySweep sc me i until site lanes x s) (sym (at-itself me i sites s may.there)) may;
}

pub there-now : (sc : Scenario) (me : Side) (i : ℕ) (sites : Each Site) (s z : Site) → slice_get (of_kind me sites) i ≡ Some s → slice_get (of_kind me (at_node me i (λ _. z) sites)) i ≡ Some z
there-now sc me i sites s z there = changed-there me i (λ _. z) (record (first_world sc) { sites = sites }) s there

-- the arrival that is taken may come to the node
pub may-come : (sc : Scenario) (me : Side) (i until : ℕ) (site : KeptSite) (lanes new : Each Held) (sites : Each Site) (s : Site) (c : Coming) → (on : SweepsOn sc me i until site lanes sites s)
    → (takes : TakesArrival sc.sizes me i until new (at_node me i (λ _. on.now) sites) on.now c) → MayCome sc me i until takes.place site on.now c
may-come sc me i until site lanes new sites s c on takes = record {
  lawful = on.may.lawful;
  listed = on.may.listed;
  within = on.may.within;
  node = on.may.node;
  is = takes.is;
  before = takes.before;
  sender = takes.sender;
  reachable = on.may.reachable;
}

-- after an arrival the lanes hold the sites: only what comes and what has come are other than
-- before
pub come-lanes : (sc : Scenario) (me : Side) (i place : ℕ) (c : Coming) (z : Site) (lanes : Each Held) (sites : Each Site)
    → HoldsSites sc.sizes lanes (at_node me i (without_waiting (Arrival place c)) (at_node me i (λ _. z) sites)) → HoldsSites sc.sizes lanes (at_node me i (λ _. after_arrival sc me i place c z) sites)
unfolding after_arrival
come-lanes sc me i place c z lanes sites holds =
    let y : Site = after_arrival sc me i place c z in
    let change : Site → Site = λ x. record x { core = y.core; got = y.got } in
    let before : HoldsSites sc.sizes lanes (at_node me i (λ _. without_waiting (Arrival place c) z) sites) =
    subst (HoldsSites sc.sizes lanes) (at-twice me i (without_waiting (Arrival place c)) (λ _. z) sites) holds in
    subst (HoldsSites sc.sizes lanes) (at-twice me i change (λ _. without_waiting (Arrival place c) z) sites)
    (holds-one sc.sizes lanes (at_node me i (λ _. without_waiting (Arrival place c) z) sites) me i change (λ x. refl) (λ x. refl) before)

pub come-same : (sc : Scenario) (me : Side) (i place : ℕ) (c : Coming) (z : Site) → ((after_arrival sc me i place c z).ahead ≡ z.ahead) × ((after_arrival sc me i place c z).runs ≡ z.runs)
unfolding after_arrival
come-same sc me i place c z = (refl, refl)

-- the sweep goes on after one more arrival
unfoldable pub sweep-goes : (sc : Scenario) (me : Side) (i until : ℕ) (site after : KeptSite) (lanes new : Each Held) (sites : Each Site) (s : Site) (c : Coming)
    → (on : SweepsOn sc me i until site lanes sites s) → (takes : TakesArrival sc.sizes me i until new (at_node me i (λ _. on.now) sites) on.now c)
    → HasLane new (name_of me i) → HaveRooms sc new → number_of after ≡ i → StandsFor sc me after (after_arrival sc me i takes.place c on.now)
    → SweepsOn sc me i until after new sites s
sweep-goes sc me i until site after lanes new sites s c on takes lane rooms number stands =
    let z : Site = on.now in
    let y : Site = after_arrival sc me i takes.place c z in
    let keeps = come-same sc me i takes.place c z in
    record {
      now = y;
      there = on.there;
      same = sym (sweep-takes sc me i until z (record { place = takes.place; coming = c }) takes.is takes.before) ∙ on.same;
      ahead = keeps.0 ∙ on.ahead;
      may = record {
        lawful = on.may.lawful;
        listed = on.may.listed;
        within = on.may.within;
        there = there-now sc me i sites s y on.there;
        node = come-node sc me i until takes.place site after z c (may-come sc me i until site lanes new sites s c on takes) number stands;
        holds = come-lanes sc me i takes.place c z new sites takes.holds;
        lane = lane;
        rooms = rooms;
        reachable = record {
          has_tick = λ runs. on.may.reachable.has_tick (sym keeps.1 ∙ runs);
          before = λ a e. on.may.reachable.before a (sym keeps.0 ∙ e);
        };
      };
    }

-- The end.

pub kept-tick : (until : ℕ) (o : Option Timed) → ((a : Timed) → o ≡ Some a → until ≤ a.time) → tick_from until o ≡ o
kept-tick until None late = refl
kept-tick until (Some a) late = ap (λ b. elim b as (λ _. Option Timed) [ true ↦ None | false ↦ Some a ]) (le-ltb a.time until (late a refl))

gone-tick : (until : ℕ) (o : Option Timed) (a : Timed) → o ≡ Some a → a.time < until → tick_from until o ≡ None
gone-tick until o a e before = ap (tick_from until) e ∙ ap (λ b. elim b as (λ _. Option Timed) [ true ↦ None | false ↦ Some a ]) (lt-ltb a.time until before)

-- at the end of the sweep the sites are cleared
at-end : (sc : Scenario) (me : Side) (i until : ℕ) (sites : Each Site) (s z : Site) (o : Option Timed) → slice_get (of_kind me sites) i ≡ Some s
    → swept sc me i until s ≡ z → tick_from until s.ahead ≡ o → at_node me i (λ _. record z { ahead = o }) sites ≡ at_node me i (cleared sc me i until) sites
at-end sc me i until sites s z o there is tick =
    at-same me i (λ _. record z { ahead = o }) (cleared sc me i until) sites
    (λ x at.
    let same : s ≡ x = same_Some s x (sym there ∙ at) in
    subst (λ x. record z { ahead = o } ≡ cleared sc me i until x) same
    (sym (ap (λ (y : Site). record y { ahead = tick_from until s.ahead }) is ∙ ap (λ (t : Option Timed). record z { ahead = t }) tick)))

-- the sweep ends if nothing is pending before the time
pub sweep-ends : (sc : Scenario) (me : Side) (i until : ℕ) (site : KeptSite) (lanes new : Each Held) (sites : Each Site) (s : Site) → (on : SweepsOn sc me i until site lanes sites s)
    → new ≡ lanes → NoneBefore until on.now → Sweeps sc me i until site new sites s
sweep-ends sc me i until site lanes new sites s on same none =
    let z : Site = on.now in
    let stays : swept sc me i until z ≡ z = sweep-stays sc me i until z (all-every (λ c. until ≤ c.time) z.coming none.coming) in
    let is : swept sc me i until s ≡ z = sym on.same ∙ stays in
    let tick : tick_from until s.ahead ≡ z.ahead = ap (tick_from until) (sym on.ahead) ∙ kept-tick until z.ahead none.tick in
    subst (λ ls. Sweeps sc me i until site ls sites s) (sym same) (record {
      node = subst (IsNode sc me i site) (sym is) on.may.node;
      holds = subst (HoldsSites sc.sizes lanes) (at-end sc me i until sites s z z.ahead on.there is tick) on.may.holds;
      lane = on.may.lane;
      rooms = on.may.rooms;
    })

-- the sweep ends if the tick was taken
pub sweep-ticks : (sc : Scenario) (me : Side) (i until : ℕ) (site : KeptSite) (lanes new : Each Held) (sites : Each Site) (s : Site) → (on : SweepsOn sc me i until site lanes sites s)
    → TakesTick sc.sizes me i until new (at_node me i (λ _. on.now) sites) on.now → HasLane new (name_of me i) → HaveRooms sc new → Sweeps sc me i until site new sites s
sweep-ticks sc me i until site lanes new sites s on takes lane rooms =
    let z : Site = on.now in
    let a : Timed = takes.tick in
    let reach = on.may.reachable.before a takes.pends in
    let stays : swept sc me i until z ≡ z = sweep-stays sc me i until z (later-so a.time reach z.coming (all-every (λ c. a.time + 1 ≤ c.time) z.coming takes.later)) in
    let is : swept sc me i until s ≡ z = sym on.same ∙ stays in
    let tick : tick_from until s.ahead ≡ None = gone-tick until s.ahead a (sym on.ahead ∙ takes.pends) takes.before in
    record {
      node = subst (IsNode sc me i site) (sym is) on.may.node;
      holds = subst (HoldsSites sc.sizes new)
          (at-twice me i (without_waiting (Tick a.tick)) (λ _. z) sites ∙ at-end sc me i until sites s z None on.there is tick) takes.holds;
      lane = lane;
      rooms = rooms;
    }
  where
    later-so : (t : ℕ) → until ≤ t + 1 → (cs : List Coming) → Every (λ (c : Coming). t + 1 ≤ c.time) cs → Every (λ (c : Coming). until ≤ c.time) cs
    later-so t le [] all = tt
    later-so t le (c ∷ cs) all = let here = all.0 in (omega (arith, le, here), later-so t le cs all.1)

-- The clock of a node, by its name.
pub clock-named : (sc : Scenario) (me : Side) (i : ℕ) (name : NodeName) → name ≡ name_of me i → clock_of sc (kind_of name) (number_in name) ≡ clock_of sc me i
clock-named sc me i name e = ap (λ n. clock_of sc (kind_of n) (number_in n)) e ∙ by me
  where
    by : (me : Side) → clock_of sc (kind_of (name_of me i)) (number_in (name_of me i)) ≡ clock_of sc me i
    by Biu = refl
    by Rmu = refl

pub none-some : (c : Coming) → None ≡ Some c → ⊥
none-some c e = cc
