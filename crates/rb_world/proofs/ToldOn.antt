-- What an observer is told when a run goes from tick to tick.
use Rattle.std.proofs.{Common.{◌≡◌, ℕ, zero, suc, ◌+◌, ◌≤◌, ◌||◌, Bool, true, false, List, [], ◌∷◌, ◌++◌, append_assoc, refl, sym, ap, ◌∙◌, subst, arith, Option, Some, None, flat_map, is_some, option_and_then, option_map, slice_get, if◌then◌else◌}, lemmas.Bool.Decides.nat_tests, lemmas.List.append-nil}
use Rattle.rb_base.specs.{Nodes.Side, Nodes.Side.{Biu, Rmu}, declared.node.NodeName.NodeName}
use Rattle.rb_rules.specs.{Book.{Each, in_order, of_kind}, Goodness.Scenario, Lawful.{IsNodeOf, kind_of}, Links.{name_of, same_node}, WorldStep.{Due, Site, Timed, World, due_at, due_of, event_at, event_of, go_on, least, needs_no_event, times_of}, WorldStep.Pending.Tick, WorldStep.Way.ByItself}
use Rattle.rb_world_agenda.proofs.Which.{has-item}
use Rattle.rb_world_book.specs.{Records.record_of, Settling.Settles, declared.book.Book.Book as KeptBook, declared.turn.Turn.Turn}
use Rattle.rb_laws_events.proofs.{WorldNodes.settle-sites, GivenAlone.go-on-is}
use Rattle.rb_world.specs.{Sites.{KeptSite, number_of as number_at}, declared.scene.Scene.Scene, declared.last.Last.Last, declared.ties.Seeding.Seeding, declared.ties.Ties.TheVariants.First, Nexts.{Standing, after_steps}, Observing.{AlongTold, ComesTold, RunsTold, TellsToNext, ToldToRecord, WasTold, alone_at, alone_for, left_at, left_for, told_by, told_to}, Showing.MayShowTick, Steps.MayTick, Trailing.{GoesToTick, HasCaughtUp, MayRun, bare, until_from}, Worlds.{KeptWorld, Stands, Surrounds, last_of}}
use Rattle.rb_laws_sweeps.specs.{AheadOf.{TellsAhead, after_takes, ahead_of, tick_alone, told_in, until_tick}, Told.{Told, heard, if_told, told_alone, told_next, telling}, Sweeping.swept}
use Rattle.rb_laws_sweeps.proofs.{Calls.at-any-time, Hearing.hears-none, Telling.named-itself}
use Rattle.rb_world_traffic.specs.Arriving.{number_of}
use Rattle.rb_world.proofs.{Along.{along-begins, comes-by-itself, comes-by-tick, comes-next, comes-quiet, steps-on, takes-on}, Observed.was-both, Running.{along-first, comes-to, run-ended, run-to, until-named}, NextRecord.goes-on, Going.name-is}
use Rattle.rb_base.specs.declared.node.NodeName.TheVariants as node

-- Names.

pub same-name : (me : Side) (i : ℕ) (name : NodeName) → same_node (name_of me i) name ≡ true → name ≡ name_of me i
same-name Biu i (node.Biu j) e = let same : i ≡ j = grind (arith, nat_tests, e) in ap node.Biu (sym same)
same-name Biu i (node.Rmu j) e = cc
same-name Rmu i (node.Biu j) e = cc
same-name Rmu i (node.Rmu j) e = let same : i ≡ j = grind (arith, nat_tests, e) in ap node.Rmu (sym same)

-- A tick.

pub tick-shown : (sc : Scenario) (me : Side) (i k : ℕ) (site : KeptSite) (scene : Scene) (x : World) (s : Site) (name : NodeName) → MayTick sc me i k site scene x s → name ≡ name_of me i
    → MayShowTick sc me (number_at site) k site scene.ports.items name x.ports s
tick-shown sc me i k site scene x s name may named =
    subst (λ n. MayShowTick sc me n k site scene.ports.items name x.ports s) (sym may.at.number) (record {
      at = record { within = may.at.within; named = named; number = may.at.number; stands = may.at.stands };
      next = may.next;
      holds = may.at.surrounds.ports;
    })

-- the node is told of the arrivals up to the tick, and then of the tick
pub alone-told : (sc : Scenario) (v : World) (me : Side) (i : ℕ) (a : Timed) (s : Site) (from name : NodeName) → from ≡ name_of me i → slice_get (of_kind me v.sites) i ≡ Some s
    → (if same_node from name then heard sc me i (a.time + 1) s else []) ++ (if same_node from name then telling sc v.ports me i (bare sc me i a s) (Tick a.tick) ∷ [] else [])
    ≡ alone_for sc v me i a name
alone-told sc v me i a s from name named there =
    subst (λ from. (if same_node from name then heard sc me i (a.time + 1) s else []) ++ (if same_node from name then telling sc v.ports me i (bare sc me i a s) (Tick a.tick) ∷ [] else [])
    ≡ alone_for sc v me i a name) (sym named) (by (same_node (name_of me i) name) refl)
  where
    t : Told
    t = telling sc v.ports me i (bare sc me i a s) (Tick a.tick)

    own : (me : Side) → slice_get (of_kind me v.sites) i ≡ Some s → alone_for sc v me i a (name_of me i) ≡ told_alone sc v me i a me i s
    own Biu there = ap (alone_at sc v Biu i a Biu i) there
    own Rmu there = ap (alone_at sc v Rmu i a Rmu i) there

    other : (o : Option Site) → same_node (name_of me i) name ≡ false → alone_at sc v me i a (kind_of name) (number_of name) o ≡ []
    other None e = refl
    other (Some z) e =
        ap (λ b. if b then heard sc (kind_of name) (number_of name) (a.time + 1) z ++ telling sc v.ports (kind_of name) (number_of name) (swept sc (kind_of name) (number_of name) (a.time + 1) z) (Tick a.tick) ∷ [] else [])
        (ap (same_node (name_of me i)) (name-is name) ∙ e)

    by : (b : Bool) → same_node (name_of me i) name ≡ b → (if b then heard sc me i (a.time + 1) s else []) ++ (if b then t ∷ [] else []) ≡ alone_for sc v me i a name
    by false e = sym (other (slice_get (of_kind (kind_of name) v.sites) (number_of name)) e)
    by true e =
        ap (λ b. if b then heard sc me i (a.time + 1) s ++ t ∷ [] else []) (sym (named-itself me i)) ∙ sym (own me there)
        ∙ ap (alone_for sc v me i a) (sym (same-name me i name e))

pub alone-moved : (S : Type 0) (step : S → Told → S → Type 0) (old new : S) (sc : Scenario) (v : World) (me side : Side) (i j : ℕ) (a : Timed) (name : NodeName) → (me ≡ side) × (i ≡ j)
    → WasTold S step old (alone_for sc v side j a name) new → WasTold S step old (alone_for sc v me i a name) new
alone-moved S step old new sc v me side i j a name same was =
    subst (λ k. WasTold S step old (alone_for sc v k i a name) new) (sym same.0) (subst (λ n. WasTold S step old (alone_for sc v side n a name) new) (sym same.1) was)

-- Nodes.

-- a node of the bus is in the world
pub node-there : (sc : Scenario) (scene : Scene) (v : World) (name : NodeName) → Surrounds sc scene v → IsNodeOf sc.sizes name
    → (s : Site) × (slice_get (of_kind (kind_of name) v.sites) (number_of name) ≡ Some s)
node-there sc scene v (node.Biu i) is of_bus = let many = is.counts Biu in let item = has-item v.sites.bius i (omega (arith, of_bus, many)) in (item.item, item.is)
node-there sc scene v (node.Rmu i) is of_bus = let many = is.counts Rmu in let item = has-item v.sites.rmus i (omega (arith, of_bus, many)) in (item.item, item.is)

-- Steps.

-- if nothing is due, nothing is told
pub told-none : (sc : Scenario) (side : Side) (j : ℕ) (w : World) → (w.book.ended || needs_no_event sc w.book.upcoming) ≡ true → told_next sc side j w ≡ []
unfolding told_next event_at due_of
told-none sc side j w idle =
    ap (λ b. if_told (name_of side j) (slice_get (of_kind side w.sites) j)
    (option_and_then (λ (d : Due). option_map (λ (s : Site). event_of sc w.ports d.side d.node s.core d.pending) (slice_get (of_kind d.side w.sites) d.node))
    (slice_get (elim b as (λ _. List Due) [ true ↦ [] | false ↦ due_at sc w (least (flat_map times_of (in_order w.sites))) ]) 0))) idle
    ∙ by (slice_get (of_kind side w.sites) j)
  where
    by : (o : Option Site) → if_told (name_of side j) o None ≡ []
    by None = refl
    by (Some s) = refl

-- what takes in a row tell is told one after another
told-takes : (sc : Scenario) (side : Side) (j n d k : ℕ) (s0 : Standing) (now : World)
    → ((m : ℕ) → m ≤ k → after_steps sc First (m + n) s0 ≡ record { world = after_takes sc m now; draws = d })
    → (m : ℕ) → m ≤ suc k → told_by sc side j (m + n) s0 ≡ told_by sc side j n s0 ++ told_in sc side j m now
unfolding told_in
told-takes sc side j n d k s0 now is zero le = let same : 0 + n ≡ n = omega arith in ap (λ i. told_by sc side j i s0) same ∙ sym (append-nil (told_by sc side j n s0))
told-takes sc side j n d k s0 now is (suc m) le =
    let same : suc m + n ≡ suc (m + n) = omega arith in
    ap (λ i. told_by sc side j i s0) same
    ∙ ap (λ l. l ++ told_next sc side j (after_steps sc First (m + n) s0).world) (told-takes sc side j n d k s0 now is m (omega (arith, le)))
    ∙ ap (λ (s : Standing). (told_by sc side j n s0 ++ told_in sc side j m now) ++ told_next sc side j s.world) (is m (omega (arith, le)))
    ∙ append_assoc (told_by sc side j n s0) (told_in sc side j m now) (told_next sc side j (after_takes sc m now))

-- before the first event nothing is told
pub told-first : (S : Type 0) (step : S → Told → S → Type 0) (name : NodeName) (a : S) (sc : Scenario) (kept : Each KeptSite) (scene : Scene) (w : World) (d : ℕ) → MayRun sc kept scene w → IsNodeOf sc.sizes name
    → AlongTold S step name a a sc kept scene (until_from None) 0 w d
unfolding along-first along-begins
told-first S step name a sc kept scene w d may of_bus =
    let there = node-there sc scene w name may.trails.surrounds of_bus in
    record {
      on = along-first sc kept scene w d may;
      held = [];
      was = refl;
      all = sym (ap (left_at sc (λ side j. 0) (kind_of name) (number_of name)) there.1 ∙ hears-none sc (kind_of name) (number_of name) 0 there.0 (at-any-time there.0.coming));
    }

-- what needs no event is settled, and nothing is told
pub told-by-itself : (S : Type 0) (step : S → Told → S → Type 0) (name : NodeName) (a b : S) (sc : Scenario) (kept : Each KeptSite) (scene : Scene) (until : Side → ℕ → ℕ) (n : ℕ) (w0 : World) (d : ℕ) (book : KeptBook) (turn : Turn)
    → (it : AlongTold S step name a b sc kept scene until n w0 d) → needs_no_event sc it.on.back.book.upcoming ≡ true → Settles sc ByItself it.on.back book turn
    → ComesTold S step name a b sc kept (record scene { book = book }) until n w0 d turn
unfolding comes-by-itself
told-by-itself S step name a b sc kept scene until n w0 d book turn it free settles =
    let on = it.on in
    let w : World = on.now in
    let v : World = on.back in
    let s0 : Standing = record { world = w0; draws = d } in
    let idle : (w.book.ended || needs_no_event sc w.book.upcoming) ≡ true =
    ap (λ (x : World). x.book.ended || needs_no_event sc x.book.upcoming) on.trails.ahead ∙ ap (λ b. b || needs_no_event sc v.book.upcoming) on.going ∙ free in
    let sites : (go_on sc v).sites ≡ v.sites = ap (λ (x : World). x.sites) (go-on-is sc v on.going) ∙ settle-sites sc ByItself 2 v in
    record {
      on = comes-by-itself sc kept scene until n w0 d book turn on free settles;
      held = it.held;
      was = it.was;
      all = ap (λ (s : Standing). told_to sc name on.steps s0 ++ told_next sc (kind_of name) (number_of name) s.world) on.is
          ∙ ap (λ l. told_to sc name on.steps s0 ++ l) (told-none sc (kind_of name) (number_of name) w idle)
          ∙ append-nil (told_to sc name on.steps s0) ∙ it.all
          ∙ ap (λ (x : Each Site). it.held ++ left_for sc until x name) (sym sites);
    }

-- `ComesTold` holds for a tick once the node was told of it
told-to-tick : (S : Type 0) (step : S → Told → S → Type 0) (name : NodeName) (a b c : S) (sc : Scenario) (kept new : Each KeptSite) (scene after : Scene) (until : Side → ℕ → ℕ) (n : ℕ) (w0 : World) (d : ℕ) (at : NodeName) (time : ℕ) (turn : Turn)
    → (it : AlongTold S step name a b sc kept scene until n w0 d) → (to : GoesToTick sc new after until it.on.back at time turn) → IsNodeOf sc.sizes name
    → WasTold S step b (alone_for sc it.on.back to.me to.i to.a name) c → ComesTold S step name a c sc new after (until_tick to.me to.i to.a.time) n w0 d turn
unfolding comes-by-tick
told-to-tick S step name a b c sc kept new scene after until n w0 d at time turn it to of_bus did =
    let on = it.on in
    let w : World = on.now in
    let v : World = on.back in
    let s0 : Standing = record { world = w0; draws = d } in
    let k : ℕ = to.goes.leads.takes in
    let side : Side = kind_of name in
    let j : ℕ = number_of name in
    let next : Side → ℕ → ℕ = until_tick to.me to.i to.a.time in
    let there = node-there sc scene v name on.trails.surrounds of_bus in
    let s : Site = there.0 in
    let tells : TellsAhead sc until v to.me to.i to.a (suc k) side j s = to.goes.tells side j s there.1 in
    let some : (m : ℕ) → m ≤ k → after_steps sc First (m + on.steps) s0 ≡ record { world = after_takes sc m (ahead_of sc until v); draws = d } =
    λ m le. steps-on sc m on.steps s0 ∙ ap (after_steps sc First m) (on.is ∙ ap (λ (x : World). let y : Standing = record { world = x; draws = d } in y) on.trails.ahead)
    ∙ takes-on sc m (ahead_of sc until v) d (λ i lt. to.goes.leads.arrivals i (omega (arith, lt, le))) in
    let more : suc k + on.steps ≡ suc (k + on.steps) = omega arith in
    let told : List Told = told_in sc side j (suc k) (ahead_of sc until v) in
    let alone : List Told = alone_for sc v to.me to.i to.a name in
    record {
      on = comes-by-tick sc kept new scene after until n w0 d at time turn on to;
      held = it.held ++ alone;
      was = was-both S step a b c it.held alone it.was did;
      all = ap (λ i. told_by sc side j i s0) (sym more)
          ∙ told-takes sc side j on.steps d k s0 (ahead_of sc until v) some (suc k) (omega arith)
          ∙ ap (λ l. l ++ told) it.all
          ∙ ap (λ o. (it.held ++ left_at sc until side j o) ++ told) there.1
          ∙ append_assoc it.held (heard sc side j (until side j) s) told
          ∙ ap (λ l. it.held ++ l) tells.told
          ∙ ap (λ o. it.held ++ (alone_at sc v to.me to.i to.a side j o ++ heard sc side j (next side j) tells.after)) (sym there.1)
          ∙ ap (λ o. it.held ++ (alone ++ left_at sc next side j o)) (sym tells.there)
          ∙ sym (append_assoc it.held alone (left_for sc next (tick_alone sc to.me to.i to.a v).sites name));
    }

pub told-by-tick : (S : Type 0) (step : S → Told → S → Type 0) (name : NodeName) (a b c : S) (sc : Scenario) (kept new : Each KeptSite) (scene after : Scene) (until : Side → ℕ → ℕ) (n : ℕ) (w0 : World) (d : ℕ) (at : NodeName) (time : ℕ) (turn : Turn)
    → (it : AlongTold S step name a b sc kept scene until n w0 d) → (to : GoesToTick sc new after until it.on.back at time turn) → IsNodeOf sc.sizes name
    → WasTold S step b (alone_for sc it.on.back to.me to.i to.a name) c → ComesTold S step name a c sc new after (until_from (Some (at, time))) n w0 d turn
told-by-tick S step name a b c sc kept new scene after until n w0 d at time turn it to of_bus did =
    subst (λ u. ComesTold S step name a c sc new after u n w0 d turn) (sym (until-named at to.me to.i time to.a.time to.named to.at))
    (told-to-tick S step name a b c sc kept new scene after until n w0 d at time turn it to of_bus did)

-- if no record came, the steps go on
pub told-quiet : (S : Type 0) (step : S → Told → S → Type 0) (name : NodeName) (a b : S) (sc : Scenario) (kept : Each KeptSite) (scene : Scene) (until : Side → ℕ → ℕ) (n : ℕ) (w0 : World) (d : ℕ) (turn : Turn)
    → ComesTold S step name a b sc kept scene until n w0 d turn → record_of turn ≡ None → AlongTold S step name a b sc kept scene until (n + 1) w0 d
unfolding comes-quiet
told-quiet S step name a b sc kept scene until n w0 d turn it none = record { on = comes-quiet sc kept scene until n w0 d turn it.on none; held = it.held; was = it.was; all = it.all }

-- `ToldToRecord` holds once the node was told of what was left
pub told-to-record : (S : Type 0) (step : S → Told → S → Type 0) (name : NodeName) (a b c : S) (sc : Scenario) (kept new : Each KeptSite) (scene after : Scene) (until : Side → ℕ → ℕ) (n : ℕ) (w0 : World) (d : ℕ) (turn : Turn)
    → (it : ComesTold S step name a b sc kept scene until n w0 d turn) → is_some (record_of turn) ≡ true → HasCaughtUp sc new after it.on.now
    → WasTold S step b (left_for sc until it.on.back.sites name) c → ToldToRecord S step name a c sc new after turn w0 d
unfolding comes-to comes-next
told-to-record S step name a b c sc kept new scene after until n w0 d turn it some caught did = record {
  comes = comes-to sc kept new scene after until n w0 d turn it.on some caught;
  told = subst (λ l. WasTold S step a l c) (sym it.all) (was-both S step a b c it.held (left_for sc until it.on.back.sites name) it.was did);
}

-- The whole.

pub told-ended : (S : Type 0) (step : S → Told → S → Type 0) (name : NodeName) (a : S) (k : KeptWorld) (w : World) (turn : Turn) (d : ℕ) → (is : Stands k w) → (ended : w.book.ended ≡ true) → (same : w.turn ≡ record_of turn)
    → RunsTold S step name a a d k k turn w
unfolding run-ended after_steps
told-ended S step name a k w turn d is ended same = record {
  runs = run-ended k w turn d is ended same;
  told = subst (λ l. WasTold S step a l a) (sym (told-none k.bus (kind_of name) (number_of name) w (ap (λ b. b || needs_no_event k.bus w.book.upcoming) ended))) refl;
}

pub told-runs : (S : Type 0) (step : S → Told → S → Type 0) (name : NodeName) (a b : S) (k : KeptWorld) (w : World) (nodes : Each KeptSite) (scene : Scene) (turn : Turn) (last : Last) (d : ℕ) → Stands k w
    → ToldToRecord S step name a b k.bus nodes scene turn w d → last ≡ last_of (record_of turn)
    → RunsTold S step name a b d k (record { bus = k.bus; lists = k.lists; nodes = nodes; scene = scene; seeding = k.seeding; last = last }) turn w
unfolding run-to
told-runs S step name a b k w nodes scene turn last d is it kept = record { runs = run-to k w nodes scene turn last d is it.comes kept; told = it.told }

pub told-next-record : (S : Type 0) (step : S → Told → S → Type 0) (name : NodeName) (a b : S) (begun : Seeding) (before k : KeptWorld) (turn : Turn) (w : World) → begun ≡ before.seeding
    → RunsTold S step name a b begun.draws.state before k turn w → TellsToNext S step name a b before (record k { seeding = begun }) turn w
unfolding goes-on
told-next-record S step name a b begun before k turn w is it = record {
  goes = goes-on First begun begun before k turn w is refl it.runs;
  told = subst (λ (x : Seeding). WasTold S step a (told_to before.bus name (suc it.runs.is.others) (record { world = w; draws = x.draws.state })) b) is it.told;
}
