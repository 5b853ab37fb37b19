-- All nodes are swept, one after another.
use Rattle.std.proofs.{Common.{◌≡◌, ℕ, zero, suc, ◌+◌, ◌<◌, ◌≤◌, ◌==◌, Bool, true, false, Some, None, Option, List, length, slice_get, refl, sym, ap, ◌∙◌, subst, arith, inl, inr}, lemmas.Bool.cases_lt, lemmas.Bool.Decides.nat_tests, lemmas.List.length-set, lemmas.Option.{same_Some, slice_get_past, slice_get_within}}
use Rattle.std.specs.Prelude.{option_map, slice_set, unwrap_or}
use Rattle.rb_base.specs.{Nodes.{Side, has, other}, Nodes.Side.{Biu, Rmu}, declared.node.NodeName.NodeName}
use Rattle.rb_base.proofs.Plain.{option_map-back}
use Rattle.rb_rules.specs.{Lawful.kind_of, Book.{Each, of_kind}, Goodness.Scenario, Links.name_of, Slots.count_of, WorldStep.{Site, Timed, World, at_node}}
use Rattle.rb_rules.proofs.WindowNumbers.{get-each, length-each}
use Rattle.rb_queue.specs.Waiting.{HasLane, Held}
use Rattle.rb_world_agenda.specs.Holding.{HoldsSites}
use Rattle.rb_world_agenda.proofs.Which.{has-item}
use Rattle.rb_world_book.proofs.Noting.{same-shown}
use Rattle.rb_laws_events.proofs.WorldStands.{get-at, is_node, node-itself, not-other}
use Rattle.rb_world.specs.{Sites.{KeptSite, number_of}, declared.scene.Scene.Scene, Buses.HaveRooms, Worlds.{AreNodes, IsNode, Surrounds, running_of}, Trailing.{HasCaughtUp, HaveCaughtUp, MayCatchUp, MaySweep, Sweeps, Trails, cleared, swept_first}}
use Rattle.rb_laws_sweeps.specs.{AheadOf.{ahead_of, each_swept, until_tick}, Sweeping.swept}
use Rattle.rb_laws_sweeps.proofs.{Calls.nobody-is-ahead, GoesOn.sweep_to, Sweeps.sweeps-keep}
use Rattle.rb_world_traffic.specs.Arriving.{AreRunning, number_of as number_in}
use Rattle.rb_world_traffic.proofs.Says.{number-of}
use Rattle.rb_world.proofs.{Lanes.{has-lane, kind-named, node-named}, Sites.{at-same, shows-each}, Told.{set-here, set-there}, FirstStands.{kept-none, same-lists}, Swept.kept-tick}

-- The first of them are swept, and the others are as before.

apart : (me : Side) (n i : ℕ) → (n ≡ i → ⊥) → is_node me n me i ≡ false
apart Biu n i not = not-same n i not
  where
    not-same : (n i : ℕ) → (n ≡ i → ⊥) → (i == n) ≡ false
    not-same n i not = by (i == n) refl
      where
        by : (b : Bool) → (i == n) ≡ b → b ≡ false
        by true e = absurd (not (grind (arith, nat_tests, e)))
        by false e = refl
apart Rmu n i not = not-same n i not
  where
    not-same : (n i : ℕ) → (n ≡ i → ⊥) → (i == n) ≡ false
    not-same n i not = by (i == n) refl
      where
        by : (b : Bool) → (i == n) ≡ b → b ≡ false
        by true e = absurd (not (grind (arith, nat_tests, e)))
        by false e = refl

first-rest : (sc : Scenario) (until : Side → ℕ → ℕ) (me : Side) (n i : ℕ) (sites : Each Site) → n ≤ i
    → slice_get (of_kind me (swept_first sc until me n sites)) i ≡ slice_get (of_kind me sites) i
unfolding swept_first
first-rest sc until me zero i sites le = refl
first-rest sc until me (suc n) i sites le =
    get-at me me n i (swept sc me n (until me n)) (swept_first sc until me n sites)
    ∙ ap (λ (b : Bool). option_map (λ s. elim b as (λ _. Site) [ true ↦ swept sc me n (until me n) s | false ↦ s ]) (slice_get (of_kind me (swept_first sc until me n sites)) i))
    (apart me n i (λ same. omega (arith, le, same)))
    ∙ kept-none (slice_get (of_kind me (swept_first sc until me n sites)) i) ∙ first-rest sc until me n i sites (omega (arith, le))

first-there : (sc : Scenario) (until : Side → ℕ → ℕ) (me : Side) (n i : ℕ) (sites : Each Site) → i < n
    → slice_get (of_kind me (swept_first sc until me n sites)) i ≡ option_map (swept sc me i (until me i)) (slice_get (of_kind me sites) i)
unfolding swept_first
first-there sc until me zero i sites below = absurd (omega (arith, below))
first-there sc until me (suc n) i sites below = elim (cases_lt i n) [
  | inl lt ↦ get-at me me n i (swept sc me n (until me n)) (swept_first sc until me n sites)
      ∙ ap (λ (b : Bool). option_map (λ s. elim b as (λ _. Site) [ true ↦ swept sc me n (until me n) s | false ↦ s ]) (slice_get (of_kind me (swept_first sc until me n sites)) i))
      (apart me n i (λ same. omega (arith, lt, same)))
      ∙ kept-none (slice_get (of_kind me (swept_first sc until me n sites)) i) ∙ first-there sc until me n i sites lt
  | inr ge ↦
      let same : n ≡ i = omega (arith, below, ge) in
      subst (λ i. slice_get (of_kind me (at_node me n (swept sc me n (until me n)) (swept_first sc until me n sites))) i ≡ option_map (swept sc me i (until me i)) (slice_get (of_kind me sites) i)) same
      (get-at me me n n (swept sc me n (until me n)) (swept_first sc until me n sites)
      ∙ ap (λ (b : Bool). option_map (λ s. elim b as (λ _. Site) [ true ↦ swept sc me n (until me n) s | false ↦ s ]) (slice_get (of_kind me (swept_first sc until me n sites)) n)) (node-itself me n)
      ∙ ap (option_map (swept sc me n (until me n))) (first-rest sc until me n n sites (omega arith)))
]

pub first-other : (sc : Scenario) (until : Side → ℕ → ℕ) (me : Side) (n i : ℕ) (sites : Each Site)
    → slice_get (of_kind (other me) (swept_first sc until me n sites)) i ≡ slice_get (of_kind (other me) sites) i
unfolding swept_first
first-other sc until me zero i sites = refl
first-other sc until me (suc n) i sites =
    get-at me (other me) n i (swept sc me n (until me n)) (swept_first sc until me n sites)
    ∙ ap (λ (b : Bool). option_map (λ s. elim b as (λ _. Site) [ true ↦ swept sc me n (until me n) s | false ↦ s ]) (slice_get (of_kind (other me) (swept_first sc until me n sites)) i)) (not-other me n i)
    ∙ kept-none (slice_get (of_kind (other me) (swept_first sc until me n sites)) i) ∙ first-other sc until me n i sites

-- the sweep of `n` nodes sweeps all nodes of their kind
first-all : (sc : Scenario) (until : Side → ℕ → ℕ) (me : Side) (n : ℕ) (sites : Each Site) → length (of_kind me sites) ≡ n
    → of_kind me (swept_first sc until me n sites) ≡ of_kind me (each_swept sc until sites)
first-all sc until me n sites many = same-lists (of_kind me (swept_first sc until me n sites)) (of_kind me (each_swept sc until sites)) at
  where
    at : (i : ℕ) → slice_get (of_kind me (swept_first sc until me n sites)) i ≡ slice_get (of_kind me (each_swept sc until sites)) i
    at i = elim (cases_lt i n) [
      | inl lt ↦ first-there sc until me n i sites lt ∙ sym (get-each (sweep_to sc until) sites me i)
      | inr ge ↦
          let past : slice_get (of_kind me sites) i ≡ None = slice_get_past (of_kind me sites) i (omega (arith, ge, many)) in
          first-rest sc until me n i sites ge ∙ past ∙ ap (option_map (sweep_to sc until me i)) (sym past) ∙ sym (get-each (sweep_to sc until) sites me i)
    ]

-- to sweep nodes of a kind leaves the nodes of the other kind
first-far : (sc : Scenario) (until : Side → ℕ → ℕ) (me : Side) (n : ℕ) (sites : Each Site) → of_kind (other me) (swept_first sc until me n sites) ≡ of_kind (other me) sites
first-far sc until me n sites = same-lists (of_kind (other me) (swept_first sc until me n sites)) (of_kind (other me) sites) (λ i. first-other sc until me n i sites)

each-same : (xs ys : Each Site) → xs.bius ≡ ys.bius → xs.rmus ≡ ys.rmus → xs ≡ ys
each-same xs ys e f = ap (λ l. record xs { bius = l }) e ∙ ap (λ l. record ys { rmus = l }) f

-- the sweep of the BIUs and then of the RMUs sweeps all nodes
pub both-swept : (sc : Scenario) (until : Side → ℕ → ℕ) (n m : ℕ) (sites : Each Site) → length sites.bius ≡ n → length sites.rmus ≡ m
    → swept_first sc until Rmu m (swept_first sc until Biu n sites) ≡ each_swept sc until sites
both-swept sc until n m sites bius rmus =
    let one : Each Site = swept_first sc until Biu n sites in
    let far : one.rmus ≡ sites.rmus = first-far sc until Biu n sites in
    each-same (swept_first sc until Rmu m one) (each_swept sc until sites)
    (first-far sc until Rmu m one ∙ first-all sc until Biu n sites bius)
    (first-all sc until Rmu m one (ap length far ∙ rmus) ∙ ap (λ (ss : List Site). (each_swept sc until (record { bius = one.bius; rmus = ss })).rmus) far)

-- Step by step.

pub catch-begins : (sc : Scenario) (until : Side → ℕ → ℕ) (me : Side) (kept : List KeptSite) (lanes : Each Held) (sites : Each Site) → MayCatchUp sc until me kept lanes sites
    → HaveCaughtUp sc until me 0 kept lanes sites
unfolding swept_first
catch-begins sc until me kept lanes sites may = record {
  many = may.nodes.many;
  lanes_are = may.lanes_are;
  swept_are = λ i k s below here there. absurd (omega (arith, below));
  rest = λ i k s le here there. may.nodes.each i k s here there;
  holds = may.holds;
  rooms = may.rooms;
}

-- node `n` is the next to be swept
pub record NextOf (sc : Scenario) (until : Side → ℕ → ℕ) (me : Side) (n : ℕ) (kept : List KeptSite) (lanes : Each Held) (sites : Each Site) : Type 0 where
  pub within : n < count_of me sc.sizes
  pub site : KeptSite
  pub here : slice_get kept n ≡ Some site
  pub s : Site
  pub there : slice_get (of_kind me sites) n ≡ Some s
  pub may : MaySweep sc me n (until me n) site lanes (swept_first sc until me n sites) s

pub next-of : (sc : Scenario) (until : Side → ℕ → ℕ) (me : Side) (n : ℕ) (first : List KeptSite) (begun : Each Held) (kept : List KeptSite) (lanes : Each Held) (sites : Each Site)
    → MayCatchUp sc until me first begun sites → HaveCaughtUp sc until me n kept lanes sites → n < length kept → NextOf sc until me n kept lanes sites
next-of sc until me n first begun kept lanes sites may is inside =
    let many = is.many in
    let counts = may.counts in
    let k = has-item kept n inside in
    let s = has-item (of_kind me sites) n (omega (arith, inside, many, counts)) in
    let behind = may.behind n s.item s.is in
    record {
      within = omega (arith, inside, many);
      site = k.item;
      here = k.is;
      s = s.item;
      there = s.is;
      may = record {
        lawful = may.lawful;
        listed = may.listed;
        within = omega (arith, inside, many);
        there = first-rest sc until me n n sites (omega arith) ∙ s.is;
        node = is.rest n k.item s.item (omega arith) k.is s.is;
        holds = is.holds;
        lane = is.lanes_are me n (omega (arith, inside, many));
        rooms = is.rooms;
        reachable = record { has_tick = behind.has_tick; before = λ a e. let le = behind.before a e in omega (arith, le) };
      };
    }

-- if its tick does not come before the time, a node is swept by its arrivals alone
cleared-swept : (sc : Scenario) (me : Side) (i until : ℕ) (s : Site) → ((a : Timed) → s.ahead ≡ Some a → until ≤ a.time) → cleared sc me i until s ≡ swept sc me i until s
cleared-swept sc me i until s late =
    let keeps = sweeps-keep sc me i until s in
    let ahead : (swept sc me i until s).ahead ≡ s.ahead = ap (λ (z : Site). z.ahead) keeps.is in
    ap (λ (o : Option Timed). record (swept sc me i until s) { ahead = o }) (kept-tick until s.ahead late ∙ sym ahead)

pub catch-goes : (sc : Scenario) (until : Side → ℕ → ℕ) (me : Side) (n : ℕ) (first : List KeptSite) (begun : Each Held) (kept : List KeptSite) (lanes new : Each Held) (site : KeptSite) (sites : Each Site)
    → MayCatchUp sc until me first begun sites → HaveCaughtUp sc until me n kept lanes sites → (next : NextOf sc until me n kept lanes sites)
    → Sweeps sc me n (until me n) site new (swept_first sc until me n sites) next.s → ((side : Side) (i : ℕ) → i < count_of side sc.sizes → HasLane new (name_of side i))
    → HaveCaughtUp sc until me (n + 1) (slice_set kept n site) new sites
unfolding swept_first
catch-goes sc until me n first begun kept lanes new site sites may is next sweeps lanes_are = record {
  many = length-set kept n site ∙ is.many;
  lanes_are = lanes_are;
  swept_are = λ i k s below here there. by-node i k s below here there (i == n) refl;
  rest = λ i k s le here there.
      let not : (i == n) ≡ false = (let lt : n < i = omega (arith, le) in grind (arith, nat_tests)) in
      is.rest i k s (omega (arith, le)) (sym (set-there kept n i site not) ∙ here) there;
  holds = subst (HoldsSites sc.sizes new) sites_are sweeps.holds;
  rooms = sweeps.rooms;
}
  where
    sites_are : at_node me n (cleared sc me n (until me n)) (swept_first sc until me n sites) ≡ swept_first sc until me (n + 1) sites
    sites_are =
        at-same me n (cleared sc me n (until me n)) (swept sc me n (until me n)) (swept_first sc until me n sites)
        (λ s there. cleared-swept sc me n (until me n) s ((may.behind n s (sym (first-rest sc until me n n sites (omega arith)) ∙ there)).before))
        ∙ (let one : suc n ≡ n + 1 = omega arith in ap (λ m. swept_first sc until me m sites) one)

    by-node : (i : ℕ) (k : KeptSite) (s : Site) → i < n + 1 → slice_get (slice_set kept n site) i ≡ Some k → slice_get (of_kind me sites) i ≡ Some s → (b : Bool) → (i == n) ≡ b
        → IsNode sc me i k (swept sc me i (until me i) s)
    by-node i k s below here there true e =
        let same : i ≡ n = grind (arith, nat_tests, e) in
        let new_is : site ≡ k = set-here kept n site k (subst (λ m. slice_get (slice_set kept n site) m ≡ Some k) same here) in
        let old : next.s ≡ s = same_Some next.s s (sym next.there ∙ ap (slice_get (of_kind me sites)) (sym same) ∙ there) in
        subst (λ m. IsNode sc me m k (swept sc me m (until me m) s)) (sym same)
        (subst (λ k. IsNode sc me n k (swept sc me n (until me n) s)) new_is (subst (λ s. IsNode sc me n site (swept sc me n (until me n) s)) old sweeps.node))
    by-node i k s below here there false e =
        let not : i ≡ n → ⊥ = λ same. (let yes : (i == n) ≡ true = (let z : i ≡ n = same in grind (arith, nat_tests)) in let never : true ≡ false = sym yes ∙ e in cc) in
        is.swept_are i k s (lower i below not) (sym (set-there kept n i site e) ∙ here) there
      where
        lower : (i : ℕ) → i < n + 1 → (i ≡ n → ⊥) → i < n
        lower i below not = elim (cases_lt i n) [ inl lt ↦ lt | inr ge ↦ absurd (not (omega (arith, below, ge))) ]

-- when all nodes of a kind have been swept, the kept ones are those of the world
pub catch-ends : (sc : Scenario) (until : Side → ℕ → ℕ) (me : Side) (n : ℕ) (kept : List KeptSite) (lanes : Each Held) (sites : Each Site) → n ≡ count_of me sc.sizes
    → HaveCaughtUp sc until me n kept lanes sites → AreNodes sc me kept (of_kind me (swept_first sc until me n sites))
catch-ends sc until me n kept lanes sites all is = record {
  many = is.many;
  each = λ i k z here there.
      let inside = slice_get_within kept i k here in
      let many = is.many in
      let below : i < n = omega (arith, inside, many, all) in
      let was = option_map-back (swept sc me i (until me i)) (slice_get (of_kind me sites) i) z (sym (first-there sc until me n i sites below) ∙ there) in
      subst (IsNode sc me i k) was.1.1 (is.swept_are i k was.0 below here was.1.0);
}

-- The run's world.

pub around-ahead : (sc : Scenario) (kept : Each KeptSite) (scene : Scene) (until : Side → ℕ → ℕ) (w v : World) (lanes : Each Held) → Trails sc kept scene until w v
    → HoldsSites sc.sizes lanes (each_swept sc until v.sites) → HaveRooms sc lanes → Surrounds sc (record scene { agenda = lanes }) w
around-ahead sc kept scene until w v lanes h holds rooms =
    subst (Surrounds sc (record scene { agenda = lanes })) (sym h.ahead) (record {
      counts = λ side. length-each (sweep_to sc until) v.sites side ∙ h.surrounds.counts side;
      lanes = holds;
      rooms = rooms;
      book = same-shown sc scene.book v (ahead_of sc until v) h.surrounds.book refl
          (shows-each (λ s. s.row) (sweep_to sc until) v.sites (λ side n s. ap (λ (z : Site). z.row) (sweeps-keep sc side n (until side n) s).is))
          (shows-each (λ s. s.begun) (sweep_to sc until) v.sites (λ side n s. ap (λ (z : Site). z.begun) (sweeps-keep sc side n (until side n) s).is));
      ports = h.surrounds.ports;
      running = running;
      within = within;
    })
  where
    within : (side : Side) (n : ℕ) → has (running_of side (record scene { agenda = lanes })) n ≡ true → n < count_of side sc.sizes
    within Biu = h.surrounds.within Biu
    within Rmu = h.surrounds.within Rmu

    runs : (side : Side) (r : ℕ) → AreRunning side r v.sites → AreRunning side r (each_swept sc until v.sites)
    runs side r are n z e =
        let was = option_map-back (sweep_to sc until side n) (slice_get (of_kind side v.sites) n) z (sym (get-each (sweep_to sc until) v.sites side n) ∙ e) in
        are n was.0 was.1.0 ∙ sym (ap (λ (s : Site). s.runs) (sweeps-keep sc side n (until side n) was.0).is) ∙ ap (λ (s : Site). s.runs) was.1.1

    running : (side : Side) → AreRunning side (running_of side (record scene { agenda = lanes })) (ahead_of sc until v).sites
    running Biu = runs Biu scene.running_biu (h.surrounds.running Biu)
    running Rmu = runs Rmu scene.running_rmu (h.surrounds.running Rmu)

-- Calls.

-- the next node may be swept, by its name
pub record CatchMay (sc : Scenario) (from : NodeName) (time : ℕ) (me : Side) (n u : ℕ) (kept : List KeptSite) (lanes : Each Held) (sites : Each Site) (site : KeptSite) : Type 0 where
  pub next : NextOf sc (until_tick (kind_of from) (number_in from) time) me n kept lanes sites
  pub number : number_of site ≡ n
  pub until_is : u ≡ until_tick (kind_of from) (number_in from) time me n
  pub may : MaySweep sc me (number_of site) u site lanes (swept_first sc (until_tick (kind_of from) (number_in from) time) me n sites) next.s

pub catch-may : (sc : Scenario) (from : NodeName) (time : ℕ) (me : Side) (n u : ℕ) (first : List KeptSite) (begun : Each Held) (kept : List KeptSite) (lanes : Each Held) (sites : Each Site)
    (site : KeptSite) (name : NodeName) → MayCatchUp sc (until_tick (kind_of from) (number_in from) time) me first begun sites
    → HaveCaughtUp sc (until_tick (kind_of from) (number_in from) time) me n kept lanes sites → n < length kept → slice_get kept n ≡ Some site → name ≡ name_of me (number_of site)
    → u ≡ until_tick (kind_of from) (number_in from) time (kind_of name) (number_in name) → CatchMay sc from time me n u kept lanes sites site
catch-may sc from time me n u first begun kept lanes sites site name may is inside there named until =
    let all : Side → ℕ → ℕ = until_tick (kind_of from) (number_in from) time in
    let next : NextOf sc all me n kept lanes sites = next-of sc all me n first begun kept lanes sites may is inside in
    let same : next.site ≡ site = some-kept next.site site (sym next.here ∙ there) in
    let number : number_of site ≡ n = sym (ap number_of same) ∙ next.may.node.number in
    let name_is : name ≡ name_of me n = named ∙ ap (name_of me) number in
    let until_is : u ≡ all me n = until ∙ ap (λ m. all (kind_of m) (number_in m)) name_is ∙ ap (λ k. all k (number_in (name_of me n))) (kind-named me n) ∙ ap (all me) (number-of me n) in
    record {
      next = next;
      number = number;
      until_is = until_is;
      may = subst (λ i. MaySweep sc me i u site lanes (swept_first sc all me n sites) next.s) (sym number)
          (subst (λ t. MaySweep sc me n t site lanes (swept_first sc all me n sites) next.s) (sym until_is)
          (subst (λ k. MaySweep sc me n (all me n) k lanes (swept_first sc all me n sites) next.s) same next.may));
    }
  where
    some-kept : (a b : KeptSite) → Some a ≡ Some b → a ≡ b
    some-kept a b e = ap (λ o. unwrap_or o a) e

pub catch-then : (sc : Scenario) (from : NodeName) (time : ℕ) (me : Side) (n u : ℕ) (first : List KeptSite) (begun : Each Held) (kept : List KeptSite) (lanes new : Each Held) (sites : Each Site)
    (site after : KeptSite) → MayCatchUp sc (until_tick (kind_of from) (number_in from) time) me first begun sites
    → HaveCaughtUp sc (until_tick (kind_of from) (number_in from) time) me n kept lanes sites → (h : CatchMay sc from time me n u kept lanes sites site)
    → Sweeps sc me (number_of site) u after new (swept_first sc (until_tick (kind_of from) (number_in from) time) me n sites) h.next.s
    → ((other : NodeName) → HasLane lanes other → HasLane new other)
    → HaveCaughtUp sc (until_tick (kind_of from) (number_in from) time) me (n + 1) (slice_set kept n after) new sites
catch-then sc from time me n u first begun kept lanes new sites site after may is h sweeps lanes_stay =
    let all : Side → ℕ → ℕ = until_tick (kind_of from) (number_in from) time in
    catch-goes sc all me n first begun kept lanes new after sites may is h.next
    (subst (λ t. Sweeps sc me n t after new (swept_first sc all me n sites) h.next.s) h.until_is
    (subst (λ i. Sweeps sc me i u after new (swept_first sc all me n sites) h.next.s) h.number sweeps))
    (λ side i below. lanes_stay (name_of side i) (is.lanes_are side i below))

-- All of them.

pub may-all : (sc : Scenario) (kept : Each KeptSite) (scene : Scene) (until : Side → ℕ → ℕ) (w v : World) (me : Side) → Trails sc kept scene until w v
    → MayCatchUp sc until me (of_kind me kept) scene.agenda v.sites
may-all sc kept scene until w v me h = record {
  lawful = h.lawful;
  listed = h.listed;
  counts = h.surrounds.counts me;
  lanes_are = λ side i below. has-lane sc scene v (name_of side i) h.surrounds (node-named sc side i below);
  nodes = h.nodes me;
  holds = h.surrounds.lanes;
  rooms = h.surrounds.rooms;
  behind = h.behind me;
}

-- the RMUs may be swept after the BIUs
pub may-others : (sc : Scenario) (kept : Each KeptSite) (scene : Scene) (until : Side → ℕ → ℕ) (w v : World) (n : ℕ) (bius : List KeptSite) (lanes : Each Held) → Trails sc kept scene until w v
    → HaveCaughtUp sc until Biu n bius lanes v.sites → MayCatchUp sc until Rmu kept.rmus lanes (swept_first sc until Biu n v.sites)
may-others sc kept scene until w v n bius lanes h is =
    let far : of_kind Rmu (swept_first sc until Biu n v.sites) ≡ of_kind Rmu v.sites = first-far sc until Biu n v.sites in
    record {
      lawful = h.lawful;
      listed = h.listed;
      counts = ap length far ∙ h.surrounds.counts Rmu;
      lanes_are = is.lanes_are;
      nodes = subst (AreNodes sc Rmu kept.rmus) (sym far) (h.nodes Rmu);
      holds = is.holds;
      rooms = is.rooms;
      behind = λ j s there. h.behind Rmu j s (sym (first-other sc until Biu n j v.sites) ∙ there);
    }

pub all-caught : (sc : Scenario) (kept : Each KeptSite) (scene : Scene) (until : Side → ℕ → ℕ) (w v : World) (bius rmus : List KeptSite) (between lanes : Each Held) → Trails sc kept scene until w v
    → HaveCaughtUp sc until Biu (count_of Biu sc.sizes) bius between v.sites
    → HaveCaughtUp sc until Rmu (count_of Rmu sc.sizes) rmus lanes (swept_first sc until Biu (count_of Biu sc.sizes) v.sites)
    → HasCaughtUp sc (record { bius = bius; rmus = rmus }) (record scene { agenda = lanes }) w
all-caught sc kept scene until w v bius rmus between lanes h one two =
    let whole = both-swept sc until (count_of Biu sc.sizes) (count_of Rmu sc.sizes) v.sites (h.surrounds.counts Biu) (h.surrounds.counts Rmu) in
    let first : Each Site = swept_first sc until Biu (count_of Biu sc.sizes) v.sites in
    let sites : w.sites ≡ each_swept sc until v.sites = ap (λ (x : World). x.sites) h.ahead in
    let bius_are : AreNodes sc Biu bius (of_kind Biu first) = catch-ends sc until Biu (count_of Biu sc.sizes) bius between v.sites refl one in
    let rmus_are : AreNodes sc Rmu rmus (of_kind Rmu (swept_first sc until Rmu (count_of Rmu sc.sizes) first)) = catch-ends sc until Rmu (count_of Rmu sc.sizes) rmus lanes first refl two in
    let stay : of_kind Biu (swept_first sc until Rmu (count_of Rmu sc.sizes) first) ≡ of_kind Biu first = first-far sc until Rmu (count_of Rmu sc.sizes) first in
    record {
      nodes = nodes
          (subst (λ (x : Each Site). AreNodes sc Biu bius (of_kind Biu x)) (whole ∙ sym sites) (subst (AreNodes sc Biu bius) (sym stay) bius_are))
          (subst (λ (x : Each Site). AreNodes sc Rmu rmus (of_kind Rmu x)) (whole ∙ sym sites) rmus_are);
      surrounds = around-ahead sc kept scene until w v lanes h (subst (HoldsSites sc.sizes lanes) whole two.holds) two.rooms;
    }
  where
    nodes : AreNodes sc Biu bius (of_kind Biu w.sites) → AreNodes sc Rmu rmus (of_kind Rmu w.sites)
        → (me : Side) → AreNodes sc me (of_kind me (let x : Each KeptSite = record { bius = bius; rmus = rmus } in x)) (of_kind me w.sites)
    nodes a b Biu = a
    nodes a b Rmu = b

-- if there was no tick, there is nothing to catch up with
pub none-caught : (sc : Scenario) (kept : Each KeptSite) (scene : Scene) (w v : World) → Trails sc kept scene (λ side j. 0) w v → HasCaughtUp sc kept scene w
none-caught sc kept scene w v h =
    let same : v ≡ w = sym (h.ahead ∙ nobody-is-ahead sc v) in
    record {
      nodes = λ me. subst (λ (x : World). AreNodes sc me (of_kind me kept) (of_kind me x.sites)) same (h.nodes me);
      surrounds = subst (Surrounds sc scene) same h.surrounds;
    }
