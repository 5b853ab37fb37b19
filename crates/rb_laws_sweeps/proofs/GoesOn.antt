-- A world that is ahead of another goes on as its ticks alone make the other go on.
use Rattle.std.proofs.{Common.{◌≡◌, ℕ, suc, ◌+◌, ◌<◌, ◌≤◌, ◌⊎◌, ◌&&◌, Bool, true, false, List, [], ◌∷◌, ◌++◌, append_assoc, refl, ap, sym, ◌∙◌, subst, arith, inl, inr, Option, Some, None, option_map, slice_get, if◌then◌else◌}, lemmas.Bool.cases_lt, lemmas.List.append-nil, lemmas.Option.same_Some}
use Rattle.rb_base.specs.Nodes.{Side, other}
use Rattle.rb_base.proofs.Plain.{option_map-back}
use Rattle.rb_rules.specs.{declared.message.Message.Message, Book.{Each, Record, map_each, of_kind}, Clock.time_of, Core.Act, Goodness.{Scenario, clock_of}, Hearing.{Sending, coming_of}, Lawful.IsLawful, Links.{name_of, same_node}, Slots.same_side, WorldStep.{Choice, Due, Site, Timed, World, after_act, at_node, due_of, event_of, happens, pass_and_tick, sent_to, settle, take, take_if_due, with_act, with_message, world_after}, WorldStep.Pending.Tick, WorldStep.Way.ByAnEvent}
use Rattle.rb_rules.proofs.WindowNumbers.{get-each}
use Rattle.rb_laws_events.proofs.{OneEvent.happens-is, WorldNodes.settle-sites, WorldStands.{get-at, is_node, node-is, node-itself}, EachAlike.each-alike}
use Rattle.rb_laws_sweeps.specs.{AheadOf.{GoesOnAhead, IsFirstTick, LeadsToTick, TellsAhead, after_takes, ahead_of, each_swept, is_behind, tick_alone, told_in, until_tick}, Laws.{NeedsEvent, WorldsGoOnAhead}, Sweeping.swept, Told.{heard, told_alone, told_next, telling}}
use Rattle.rb_laws_sweeps.proofs.{AfterTick.{Later, TicksNow, act-later, takes-are, ticks-now}, EachNode.{KeepsAhead, behind-so-on, first-changed, nodes-order, until-behind, until-least, until-most, until-not, until-own}, Hearing.{hearing-composes, hears-none, sent-unheard}, Leads.leads-to-tick, OpenWorlds.{Goes, goes-reached}, SentLater.sent-passes, Settles.{KeepsTold, each-fuse, settle-changed, settle-turn}, Sweeps.{all-every, sweep-stays, sweeps-compose, sweeps-keep}, Telling.{named-itself, same-named, told-one}}

-- Sweeps of all nodes.

-- each node is swept up to a time of its own
abbrev pub sweep_to : Scenario → (Side → ℕ → ℕ) → Side → ℕ → Site → Site
sweep_to sc until side n s = swept sc side n (until side n) s

pub swept-told : (sc : Scenario) (until : Side → ℕ → ℕ) → KeepsTold (sweep_to sc until)
swept-told sc until = record {
  row = λ side j s. ap (λ (s : Site). s.row) (sweeps-keep sc side j (until side j) s).is;
  begun = λ side j s. ap (λ (s : Site). s.begun) (sweeps-keep sc side j (until side j) s).is;
}

pub swept-ahead : (sc : Scenario) (until : Side → ℕ → ℕ) → KeepsAhead (sweep_to sc until)
swept-ahead sc until side j s = ap (λ (s : Site). s.ahead) (sweeps-keep sc side j (until side j) s).is

pub each-compose : (sc : Scenario) (until later : Side → ℕ → ℕ) (sites : Each Site) → ((side : Side) (j : ℕ) → until side j ≤ later side j)
    → each_swept sc later (each_swept sc until sites) ≡ each_swept sc later sites
each-compose sc until later sites le =
    each-fuse (sweep_to sc later) (sweep_to sc until) (sweep_to sc later) sites (λ side j s. sweeps-compose sc side j s (until side j) (later side j) (le side j))

-- A tick of one of them.

message-passes : {sc : _} → IsLawful sc → (until : Side → ℕ → ℕ) (me : Side) (i frame k : ℕ) (m : Option Message) (sites : Each Site)
    → ((side : Side) (n : ℕ) → until side n ≤ time_of (clock_of sc me i) k + 1)
    → with_message sc me i frame k m (each_swept sc until sites) ≡ each_swept sc until (with_message sc me i frame k m sites)
message-passes lawful until me i frame k None sites le = refl
message-passes {sc} lawful until me i frame k (Some m) sites le =
    let sent : Side → ℕ → Site → Site = sent_to sc me i frame (record { tick = k; message = m }) in
    let both : Side → ℕ → Site → Site = λ side n s. sweep_to sc until side n (sent side n s) in
    each-fuse sent (sweep_to sc until) both sites (λ side n s. sym (sent-passes lawful me side i n frame (until side n) (record { tick = k; message = m }) s (le side n)))
    ∙ sym (each-fuse (sweep_to sc until) sent both sites (λ side n s. refl))

-- the site after a change of node `i` of kind `me`
abbrev pub one_changes : (Site → Site) → Side → ℕ → Side → ℕ → Site → Site
one_changes change me i side n s = elim (is_node me i side n) as (λ _. Site) [ true ↦ change s | false ↦ s ]

node-passes : (sc : Scenario) (until : Side → ℕ → ℕ) (me : Side) (i : ℕ) (first next : Site → Site) (sites : Each Site)
    → ((z : Site) → slice_get (of_kind me sites) i ≡ Some z → next (swept sc me i (until me i) z) ≡ swept sc me i (until me i) (next (first z)))
    → at_node me i next (each_swept sc until sites) ≡ each_swept sc until (at_node me i next (at_node me i first sites))
node-passes sc until me i first next sites same =
    let sweep : Side → ℕ → Site → Site = sweep_to sc until in
    let one : Side → ℕ → Site → Site = one_changes first me i in
    let two : Side → ℕ → Site → Site = one_changes next me i in
    each-fuse two sweep (λ side n s. two side n (sweep side n s)) sites (λ side n s. refl)
    ∙ each-alike (λ side n s. two side n (sweep side n s)) (λ side n s. sweep side n (two side n (one side n s))) sites (λ side n s there. by side n s there (is_node me i side n) refl)
    ∙ sym (each-fuse sweep (λ side n s. two side n (one side n s)) (λ side n s. sweep side n (two side n (one side n s))) sites (λ side n s. refl))
    ∙ ap (map_each sweep) (sym (each-fuse two one (λ side n s. two side n (one side n s)) sites (λ side n s. refl)))
  where
    by : (side : Side) (n : ℕ) (s : Site) → slice_get (of_kind side sites) n ≡ Some s → (b : Bool) → is_node me i side n ≡ b
        → (elim b as (λ _. Site) [ true ↦ next (swept sc side n (until side n) s) | false ↦ swept sc side n (until side n) s ])
        ≡ swept sc side n (until side n) (elim b as (λ _. Site) [ true ↦ next (elim b as (λ _. Site) [ true ↦ first s | false ↦ s ]) | false ↦ elim b as (λ _. Site) [ true ↦ first s | false ↦ s ] ])
    by side n s there false e = refl
    by side n s there true e =
        let is = node-is me side i n e in
        let its : slice_get (of_kind me sites) i ≡ Some s = sym (ap (λ k. slice_get (of_kind k sites) n) is.0 ∙ ap (slice_get (of_kind me sites)) is.1) ∙ there in
        subst (λ k. next (swept sc k n (until k n) s) ≡ swept sc k n (until k n) (next (first s))) (sym is.0)
        (subst (λ m. next (swept sc me m (until me m) s) ≡ swept sc me m (until me m) (next (first s))) (sym is.1) (same s its))

-- The pending ticks after it.

sent-ahead : (sc : Scenario) (me : Side) (j frame : ℕ) (x : Sending) (side : Side) (i : ℕ) (s : Site) → (sent_to sc me j frame x side i s).ahead ≡ s.ahead
sent-ahead sc me j frame x side i s = by (same_side side (other me) && s.runs)
  where
    by : (b : Bool) → (elim b as (λ _. Site) [ true ↦ record s { coming = s.coming ++ coming_of sc side i j frame x ∷ [] } | false ↦ s ]).ahead ≡ s.ahead
    by true = refl
    by false = refl

message-back : (sc : Scenario) (me : Side) (i frame k : ℕ) (m : Option Message) (sites : Each Site) (side : Side) (n : ℕ) {y : _}
    → slice_get (of_kind side (with_message sc me i frame k m sites)) n ≡ Some y → (x : Site) × ((slice_get (of_kind side sites) n ≡ Some x) × (y.ahead ≡ x.ahead))
message-back sc me i frame k None sites side n {y} there = (y, (there, refl))
message-back sc me i frame k (Some m) sites side n {y} there =
    let x : Sending = record { tick = k; message = m } in
    let sent : Side → ℕ → Site → Site = sent_to sc me i frame x in
    let was = option_map-back (sent side n) (slice_get (of_kind side sites) n) y (sym (get-each sent sites side n) ∙ there) in
    (was.0, (was.1.0, ap (λ (s : Site). s.ahead) (sym was.1.1) ∙ sent-ahead sc me i frame x side n was.0))

-- a message that goes out with the tick is not heard in a sweep through that tick
message-unheard : {sc : _} → IsLawful sc → (me side : Side) (i j frame k until : ℕ) (m : Option Message) (sites : Each Site) {s : _} → slice_get (of_kind side sites) j ≡ Some s
    → until ≤ time_of (clock_of sc me i) k + 1
    → (y : Site) × ((slice_get (of_kind side (with_message sc me i frame k m sites)) j ≡ Some y) × (heard sc side j until y ≡ heard sc side j until s))
message-unheard lawful me side i j frame k until None sites {s} there le = (s, (there, refl))
message-unheard {sc} lawful me side i j frame k until (Some m) sites {s} there le =
    let x : Sending = record { tick = k; message = m } in
    let sent : Side → ℕ → Site → Site = sent_to sc me i frame x in
    (sent side j s, (get-each sent sites side j ∙ ap (option_map (sent side j)) there, sent-unheard lawful me side i j frame until x s le))

-- each node after the two changes is one of the nodes before them
node-back : (me : Side) (i : ℕ) (first next : Site → Site) (sites : Each Site) (side : Side) (n : ℕ) {y : _}
    → slice_get (of_kind side (at_node me i next (at_node me i first sites))) n ≡ Some y
    → (s : Site) × ((slice_get (of_kind side sites) n ≡ Some s) × (((is_node me i side n ≡ true) × (y ≡ next (first s))) ⊎ ((is_node me i side n ≡ false) × (y ≡ s))))
node-back me i first next sites side n {y} there =
    let was = option_map-back (one_changes next me i side n) (slice_get (of_kind side (at_node me i first sites)) n) y (sym (get-at me side i n next (at_node me i first sites)) ∙ there) in
    let before = option_map-back (one_changes first me i side n) (slice_get (of_kind side sites) n) was.0 (sym (get-at me side i n first sites) ∙ was.1.0) in
    (before.0, (before.1.0, by before.0 (is_node me i side n) refl (ap (one_changes next me i side n) before.1.1 ∙ was.1.1)))
  where
    by : (s : Site) (b : Bool) → is_node me i side n ≡ b
        → (elim b as (λ _. Site) [ true ↦ next (elim b as (λ _. Site) [ true ↦ first s | false ↦ s ]) | false ↦ elim b as (λ _. Site) [ true ↦ first s | false ↦ s ] ]) ≡ y
        → ((is_node me i side n ≡ true) × (y ≡ next (first s))) ⊎ ((is_node me i side n ≡ false) × (y ≡ s))
    by s true e is = inl (e, sym is)
    by s false e is = inr (e, sym is)

-- The step.

-- the later of two ticks, in time or at the same time by its node, sweeps each node at least as far
untils-rise : (me you : Side) (i n t u : ℕ) → (t < u) ⊎ ((t ≡ u) × (is_behind me i you n ≡ true)) → (side : Side) (j : ℕ) → until_tick me i t side j ≤ until_tick you n u side j
untils-rise me you i n t u (inl lt) side j = let most = until-most me side i j t in let least = until-least you side n j u in omega (arith, lt, most, least)
untils-rise me you i n t u (inr same) side j = by (is_behind you n side j) refl
  where
    by : (b : Bool) → is_behind you n side j ≡ b → until_tick me i t side j ≤ until_tick you n u side j
    by true e =
        let mine = until-behind me side i j t (behind-so-on me you side i n j same.1 e) in
        let yours = until-behind you side n j u e in
        let time = same.0 in
        omega (arith, mine, yours, time)
    by false e =
        let most = until-most me side i j t in
        let yours = until-not you side n j u e in
        let time = same.0 in
        omega (arith, most, yours, time)

goes-on : (sc : Scenario) → IsLawful sc → (choices : List Choice) (until : Side → ℕ → ℕ) (w : World) → world_after sc choices ≡ ahead_of sc until w → NeedsEvent sc w
    → (me : Side) (i : ℕ) (a : Timed) → IsFirstTick w me i a → ((side : Side) (j : ℕ) → until side j ≤ until_tick me i a.time side j) → GoesOnAhead sc until w me i a
unfolding after_takes take told_in with_act
goes-on sc lawful choices until w is event me i a first le = record { leads = leads; after = after; choices = cs; reached = reached; later = later; tells = tells }
  where
    ahead : World
    ahead = ahead_of sc until w

    goes : Goes sc ahead
    goes = subst (Goes sc) is (goes-reached lawful choices (subst (NeedsEvent sc) (sym is) (record { going = event.going; needs = event.needs })))

    leads : LeadsToTick sc ahead me i a
    leads = leads-to-tick goes (first-changed (sweep_to sc until) ahead refl (swept-ahead sc until) first)

    next : Side → ℕ → ℕ
    next = until_tick me i a.time

    n : ℕ
    n = leads.takes

    turn : Option Record
    turn = (after_takes sc n ahead).turn

    -- the world at the tick
    there : World
    there = record w { sites = each_swept sc next w.sites; turn = turn }

    there-is : after_takes sc n ahead ≡ there
    there-is = leads.world ∙ ap (λ sites. record w { sites = sites; turn = turn }) (each-compose sc until next w.sites le)

    d : Due
    d = record { side = me; node = i; pending = Tick a.tick }

    -- the node at its tick
    sweep : Site → Site
    sweep = swept sc me i (a.time + 1)

    z : Site
    z = sweep first.node

    own : next me i ≡ a.time + 1
    own = until-own me i a.time

    node-there : slice_get (of_kind me there.sites) i ≡ Some z
    node-there =
        get-each (sweep_to sc next) w.sites me i ∙ ap (option_map (sweep_to sc next me i)) first.there
        ∙ ap (λ u. Some (swept sc me i u first.node)) own

    ticks : TicksNow sc me i a z
    ticks =
        ticks-now lawful choices n (ap (after_takes sc n) is ∙ there-is) me i a z node-there
        (ap (λ (s : Site). s.ahead) (sweeps-keep sc me i (a.time + 1) first.node).is ∙ first.pends)
        (ap (λ y. slice_get (due_of sc y) 0) (sym there-is) ∙ leads.tick)

    x : Act
    x = pass_and_tick sc w.ports me i a.tick z.core

    act : Site → Site
    act = after_act sc w.ports me i x

    acted : Later a.time (act z)
    acted = act-later lawful w.ports ticks (all-every (λ c. a.time + 1 ≤ c.time) z.coming (sweeps-keep sc me i (a.time + 1) first.node).left)

    -- the world behind, in which the node of the tick alone is swept
    alone : World
    alone = record w { sites = at_node me i sweep w.sites }

    node-alone : slice_get (of_kind me alone.sites) i ≡ Some z
    node-alone =
        get-at me me i i sweep w.sites ∙ ap (option_map (one_changes sweep me i me i)) first.there
        ∙ ap (λ b. Some (elim b as (λ _. Site) [ true ↦ sweep first.node | false ↦ first.node ])) (node-itself me i)

    alone-is : happens sc alone d ≡ with_act sc alone me i a.tick x
    alone-is = happens-is sc alone d node-alone

    there-happens : happens sc there d ≡ with_act sc there me i a.tick x
    there-happens = happens-is sc there d node-there

    sites : (with_act sc there me i a.tick x).sites ≡ each_swept sc next (with_act sc alone me i a.tick x).sites
    sites =
        let frame : ℕ = x.core.state.frame in
        let time = ticks.time in
        ap (with_message sc me i frame a.tick x.message)
        (node-passes sc next me i sweep act w.sites
        (λ y here.
        let same : first.node ≡ y = same_Some first.node y (sym first.there ∙ here) in
        subst (λ y. act (swept sc me i (next me i) y) ≡ swept sc me i (next me i) (act (sweep y))) same
        (subst (λ u. act (swept sc me i u first.node) ≡ swept sc me i u (act (sweep first.node))) (sym own) (sym (sweep-stays sc me i (a.time + 1) (act z) acted.coming)))))
        ∙ message-passes lawful next me i frame a.tick x.message (at_node me i act (at_node me i sweep w.sites))
        (λ side j. let most = until-most me side i j a.time in omega (arith, most, time))

    taken : happens sc there d ≡ record (ahead_of sc next (happens sc alone d)) { turn = turn }
    taken =
        there-happens ∙ ap (λ sites. record (with_act sc alone me i a.tick x) { sites = sites; turn = turn }) sites
        ∙ ap (λ (y : World). record (ahead_of sc next y) { turn = turn }) (sym alone-is)

    after : after_takes sc (suc n) ahead ≡ ahead_of sc next (tick_alone sc me i a w)
    after =
        ap (take_if_due sc (after_takes sc n ahead)) leads.tick
        ∙ ap (λ y. settle sc ByAnEvent 2 (happens sc y d)) there-is
        ∙ ap (settle sc ByAnEvent 2) taken
        ∙ settle-turn sc ByAnEvent 2 (ahead_of sc next (happens sc alone d)) turn
        ∙ settle-changed sc ByAnEvent 2 (happens sc alone d) (swept-told sc next)

    cs : List Choice
    cs = (takes-are sc choices (suc n)).0

    reached : world_after sc cs ≡ ahead_of sc next (tick_alone sc me i a w)
    reached = sym (takes-are sc choices (suc n)).1 ∙ ap (after_takes sc (suc n)) is ∙ after

    behind-sites : (tick_alone sc me i a w).sites ≡ (with_act sc alone me i a.tick x).sites
    behind-sites = settle-sites sc ByAnEvent 2 (happens sc alone d) ∙ ap (λ (y : World). y.sites) alone-is

    tells : (side : Side) (j : ℕ) (s : Site) → slice_get (of_kind side w.sites) j ≡ Some s → TellsAhead sc until w me i a (suc n) side j s
    tells side j s here =
        let time = ticks.time in
        let most = until-most me side i j a.time in
        let swept_there : slice_get (of_kind side ahead.sites) j ≡ Some (sweep_to sc until side j s) =
        get-each (sweep_to sc until) w.sites side j ∙ ap (option_map (sweep_to sc until side j)) here in
        let sent = message-unheard lawful me side i j x.core.state.frame a.tick (next side j) x.message (at_node me i act (at_node me i sweep w.sites)) moved-there (omega (arith, most, time)) in
        record {
          after = sent.0;
          there = ap (λ sites. slice_get (of_kind side sites) j) behind-sites ∙ sent.1.0;
          told = ap (λ l. heard sc side j (until side j) s ++ (l ++ told_next sc side j (after_takes sc n ahead))) (leads.told side j (sweep_to sc until side j s) swept_there)
              ∙ sym (append_assoc (heard sc side j (until side j) s) (heard sc side j (next side j) (sweep_to sc until side j s)) (told_next sc side j (after_takes sc n ahead)))
              ∙ ap (λ l. l ++ told_next sc side j (after_takes sc n ahead)) (sym (hearing-composes sc side j s (until side j) (next side j) (le side j)))
              ∙ ap (λ y. heard sc side j (next side j) s ++ told_next sc side j y) there-is
              ∙ by s here (is_node me i side j) refl
              ∙ ap (λ l. told_alone sc w me i a side j s ++ l) (sym sent.1.1);
        }
      where
        moved : Site
        moved = one_changes act me i side j (one_changes sweep me i side j s)

        moved-there : slice_get (of_kind side (at_node me i act (at_node me i sweep w.sites))) j ≡ Some moved
        moved-there =
            get-at me side i j act (at_node me i sweep w.sites)
            ∙ ap (option_map (one_changes act me i side j)) (get-at me side i j sweep w.sites ∙ ap (option_map (one_changes sweep me i side j)) here)

        -- the node of the tick is told of it, and no other node is
        tick-told : (side : Side) (j : ℕ) (s : Site) → slice_get (of_kind side w.sites) j ≡ Some s
            → told_next sc side j there
            ≡ (if same_node (name_of me i) (name_of side j)
            then (record { frame = (swept sc side j (next side j) s).core.state.frame; event = event_of sc w.ports me i z.core (Tick a.tick) }) ∷ []
            else [])
        tick-told side j s here =
            told-one sc there (ap (λ y. slice_get (due_of sc y) 0) (sym there-is) ∙ leads.tick) node-there side j
            (get-each (sweep_to sc next) w.sites side j ∙ ap (option_map (sweep_to sc next side j)) here)

        own-tells : heard sc me i (next me i) first.node ++ told_next sc me i there ≡ told_alone sc w me i a me i first.node ++ heard sc me i (next me i) (act z)
        own-tells =
            ap (λ l. heard sc me i (next me i) first.node ++ l) (tick-told me i first.node first.there)
            ∙ ap (λ u. heard sc me i u first.node ++ (if same_node (name_of me i) (name_of me i) then (record { frame = (swept sc me i u first.node).core.state.frame; event = event_of sc w.ports me i z.core (Tick a.tick) }) ∷ [] else [])) own
            ∙ ap (λ b. heard sc me i (a.time + 1) first.node ++ (if b then telling sc w.ports me i z (Tick a.tick) ∷ [] else [])) (named-itself me i)
            ∙ sym (append-nil (heard sc me i (a.time + 1) first.node ++ telling sc w.ports me i z (Tick a.tick) ∷ []))
            ∙ ap (λ b. (if b then heard sc me i (a.time + 1) first.node ++ telling sc w.ports me i z (Tick a.tick) ∷ [] else []) ++ []) (sym (named-itself me i))
            ∙ ap (λ l. told_alone sc w me i a me i first.node ++ l) (sym (hears-none sc me i (a.time + 1) (act z) acted.coming))
            ∙ ap (λ u. told_alone sc w me i a me i first.node ++ heard sc me i u (act z)) (sym own)

        by : (s : Site) → slice_get (of_kind side w.sites) j ≡ Some s → (b : Bool) → is_node me i side j ≡ b
            → heard sc side j (next side j) s ++ told_next sc side j there
            ≡ told_alone sc w me i a side j s
            ++ heard sc side j (next side j)
            (elim b as (λ _. Site) [ true ↦ act (elim b as (λ _. Site) [ true ↦ sweep s | false ↦ s ]) | false ↦ elim b as (λ _. Site) [ true ↦ sweep s | false ↦ s ] ])
        by s here false e =
            let no : same_node (name_of me i) (name_of side j) ≡ false = same-named me side i j ∙ e in
            ap (λ l. heard sc side j (next side j) s ++ l)
            (tick-told side j s here
            ∙ ap (λ b. if b then (record { frame = (swept sc side j (next side j) s).core.state.frame; event = event_of sc w.ports me i z.core (Tick a.tick) }) ∷ [] else []) no)
            ∙ append-nil (heard sc side j (next side j) s)
            ∙ ap (λ b. (if b then heard sc side j (a.time + 1) s ++ telling sc w.ports side j (swept sc side j (a.time + 1) s) (Tick a.tick) ∷ [] else []) ++ heard sc side j (next side j) s) (sym no)
        by s here true e =
            let is = node-is me side i j e in
            let its : slice_get (of_kind me w.sites) i ≡ Some s = sym (ap (λ k. slice_get (of_kind k w.sites) j) is.0 ∙ ap (slice_get (of_kind me w.sites)) is.1) ∙ here in
            let same : first.node ≡ s = same_Some first.node s (sym first.there ∙ its) in
            subst (λ s. heard sc side j (next side j) s ++ told_next sc side j there ≡ told_alone sc w me i a side j s ++ heard sc side j (next side j) (act (sweep s))) same
            (subst (λ k. heard sc k j (next k j) first.node ++ told_next sc k j there ≡ told_alone sc w me i a k j first.node ++ heard sc k j (next k j) (act z)) (sym is.0)
            (subst (λ m. heard sc me m (next me m) first.node ++ told_next sc me m there ≡ told_alone sc w me i a me m first.node ++ heard sc me m (next me m) (act z)) (sym is.1) own-tells))

    later : (you : Side) (m : ℕ) (b : Timed) → IsFirstTick (tick_alone sc me i a w) you m b → (side : Side) (j : ℕ) → next side j ≤ until_tick you m b.time side j
    later you m b following =
        let frame : ℕ = x.core.state.frame in
        let sent = message-back sc me i frame a.tick x.message (at_node me i act (at_node me i sweep w.sites)) you m
        (ap (λ sites. slice_get (of_kind you sites) m) (sym behind-sites) ∙ following.there) in
        let was = node-back me i sweep act w.sites you m sent.1.0 in
        untils-rise me you i m a.time b.time (by was.0 was.1.0 (sym sent.1.1 ∙ following.pends) was.1.1)
      where
        by : (s : Site) → slice_get (of_kind you w.sites) m ≡ Some s → {y : Site} → y.ahead ≡ Some b
            → ((is_node me i you m ≡ true) × (y ≡ act (sweep s))) ⊎ ((is_node me i you m ≡ false) × (y ≡ s)) → (a.time < b.time) ⊎ ((a.time ≡ b.time) × (is_behind me i you m ≡ true))
        by s here pends (inl its) =
            let at = node-is me you i m its.0 in
            let here_me : slice_get (of_kind me w.sites) i ≡ Some s = sym (ap (λ k. slice_get (of_kind k w.sites) m) at.0 ∙ ap (slice_get (of_kind me w.sites)) at.1) ∙ here in
            let same : s ≡ first.node = same_Some s first.node (sym here_me ∙ first.there) in
            let up : a.time + 1 ≤ b.time = acted.tick b (ap (λ s. (act (sweep s)).ahead) (sym same) ∙ ap (λ (s : Site). s.ahead) (sym its.1) ∙ pends) in
            inl (omega (arith, up))
        by s here pends (inr its) =
            let pends_there : s.ahead ≡ Some b = ap (λ (s : Site). s.ahead) (sym its.1) ∙ pends in
            let low : a.time ≤ b.time = first.least you m s b here pends_there in
            elim (cases_lt a.time b.time) [
              | inl lt ↦ inl lt
              | inr ge ↦ elim (nodes-order me you i m) [
                | inl behind ↦ inr (omega (arith, low, ge), behind)
                | inr others ↦ elim others [
                  | inl before ↦ inl (first.first you m s b here pends_there before)
                  | inr same ↦
                      let node : is_node me i you m ≡ true = ap (λ k. is_node me i k m) (sym same.0) ∙ ap (is_node me i me) (sym same.1) ∙ node-itself me i in
                      absurd (true-false (sym node ∙ its.0))
                ]
              ]
            ]
          where
            true-false : true ≡ false → ⊥
            true-false e = cc

pub worlds-go-on : WorldsGoOnAhead
worlds-go-on = goes-on
