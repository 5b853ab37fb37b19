-- A tick that is due happens.
use Rattle.std.proofs.{Common.{◌≡◌, ℕ, ◌==◌, ◌&&◌, Bool, true, false, Some, None, Option, List, [], ◌∷◌, ◌++◌, slice_get, refl, sym, ap, ◌∙◌, subst, arith}, lemmas.Bool.Decides.nat_tests, lemmas.List.length-set}
use Rattle.std.specs.Prelude.{slice_set, unwrap_or}
use Rattle.rb_base.specs.{Nodes.{Side, other}, Nodes.Side.{Biu, Rmu}}
use Rattle.rb_rules.specs.{declared.closing.Closed.Closed, declared.message.Message.Message, declared.record.Epoch.Epoch, Book.{Each, of_kind}, Core.Act, Goodness.{Scenario, is_good}, Hearing.{Sending, Span, coming_of}, Ports.PortState, Slots.same_side, WorldStep.{Due, Site, World, after_act, at_node, await, enter, happens, pass_and_tick, proceed, says_in, sent_to, span_from, stop, with_act, with_close, with_epoch, with_message}, WorldStep.Pending.Tick}
use Rattle.rb_rules.proofs.WindowNumbers.{get-each}
use Rattle.rb_world_agenda.specs.Holding.{without_waiting}
use Rattle.rb_laws_events.proofs.WorldStands.{is_node, not-other}
use Rattle.rb_world.specs.{Sites.{KeptSite, after_tick}, declared.scene.Scene.Scene, Steps.{Happens, Ticks, moved}, Worlds.{AreNodes, IsNode, Surrounds}}
use Rattle.rb_world.proofs.{Sites.{at-same, at-twice, at_one, from-map, was-there}, Told.{set-here, set-there}}

-- The tick that is ahead is overwritten.

entered-same : (sc : Scenario) (me : Side) (i : ℕ) (o : Option Span) (s : Site) → enter sc me i o (record s { ahead = None }) ≡ enter sc me i o s
entered-same sc me i None s = refl
entered-same sc me i (Some span) s = by (is_good sc me i span.place.frame span.place.slot)
  where
    by : (b : Bool) → ◌≡◌ {A = Site} (elim b as (λ _. Site) [ true ↦ await sc me i (says_in sc me i span) (record s { ahead = None }) | false ↦ stop (record s { ahead = None }) ])
        (elim b as (λ _. Site) [ true ↦ await sc me i (says_in sc me i span) s | false ↦ stop s ])
    by true = refl
    by false = refl

proceed-same : (sc : Scenario) (me : Side) (i : ℕ) (s : Site) → proceed sc me i (record s { ahead = None }) ≡ proceed sc me i s
unfolding proceed
proceed-same sc me i s = entered-same sc me i (span_from sc.sizes sc.plan me s.core.state s.core.had) s

after_tick-same : (sc : Scenario) (ports : List PortState) (me : Side) (i : ℕ) (x : Act) (s : Site) → after_tick sc ports me i x (record s { ahead = None }) ≡ record (after_tick sc ports me i x s) { ahead = None }
after_tick-same sc ports me i x s = by x.epoch x.closed
  where
    by : (e : Option Epoch) (o : Option Closed) → with_epoch sc ports me i e (with_close me i x.core.state o (record (record s { ahead = None }) { core = x.core }))
        ≡ record (with_epoch sc ports me i e (with_close me i x.core.state o (record s { core = x.core }))) { ahead = None }
    by None None = refl
    by None (Some c) = refl
    by (Some e) None = refl
    by (Some e) (Some c) = refl

pub after-act-same : (sc : Scenario) (ports : List PortState) (me : Side) (i : ℕ) (x : Act) (s : Site) → after_act sc ports me i x (record s { ahead = None }) ≡ after_act sc ports me i x s
unfolding after_act
after-act-same sc ports me i x s = ap (proceed sc me i) (after_tick-same sc ports me i x s) ∙ proceed-same sc me i (after_tick sc ports me i x s)

pub act-same : (sc : Scenario) (w : World) (me : Side) (i k : ℕ) (x : Act) → with_act sc (moved me i (without_waiting (Tick k)) w) me i k x ≡ with_act sc w me i k x
unfolding with_act
act-same sc w me i k x =
    ap (λ (sites : Each Site). record (with_act sc w me i k x) { sites = with_message sc me i x.core.state.frame k x.message sites })
    (at-twice me i (after_act sc w.ports me i x) (without_waiting (Tick k)) w.sites
    ∙ at-same me i (λ s. after_act sc w.ports me i x (record s { ahead = None })) (after_act sc w.ports me i x) w.sites (λ s e. after-act-same sc w.ports me i x s))

-- Nodes.

-- a kept node stands for its site when a message is on its way to it
sent-node : (sc : Scenario) (me : Side) (j frame : ℕ) (m : Sending) (side : Side) (n : ℕ) (k : KeptSite) (s : Site) → IsNode sc side n k s
    → IsNode sc side n k (sent_to sc me j frame m side n s)
sent-node sc me j frame m side n k s is = by (same_side side (other me)) s.runs refl
  where
    by : (a b : Bool) → s.runs ≡ b → IsNode sc side n k (elim (a && b) as (λ _. Site) [ true ↦ record s { coming = s.coming ++ coming_of sc side n j frame m ∷ [] } | false ↦ s ])
    by true true e = record {
      number = is.number;
      site = record { sizes = is.site.sizes; plan = is.site.plan; core = is.site.core; runs = is.site.runs; together = is.site.together; times = is.site.times };
      awaits = record { running = is.awaits.running; tick_of_none = is.awaits.tick_of_none; nothing = λ stops. absurd (let never : true ≡ false = sym e ∙ stops in cc) };
      senders = is.senders;
    }
    by true false e = is
    by false b e = is

pub sent-nodes : (sc : Scenario) (me : Side) (j frame k : ℕ) (o : Option Message) (side : Side) (kept : List KeptSite) (sites : Each Site) → AreNodes sc side kept (of_kind side sites)
    → AreNodes sc side kept (of_kind side (with_message sc me j frame k o sites))
sent-nodes sc me j frame k None side kept sites are = are
sent-nodes sc me j frame k (Some m) side kept sites are = record {
  many = are.many;
  each = λ n a z ea ez.
      let f : Side → ℕ → Site → Site = sent_to sc me j frame (record { tick = k; message = m }) in
      let found = from-map (f side n) (slice_get (of_kind side sites) n) z (sym (get-each f sites side n) ∙ ez) in
      subst (IsNode sc side n a) found.2 (sent-node sc me j frame (record { tick = k; message = m }) side n a found.0 (are.each n a found.0 ea found.1));
}

-- the kept nodes of a kind are those of the world after one of them has changed
pub nodes-own : (sc : Scenario) (me : Side) (i : ℕ) (change : Site → Site) (kept : List KeptSite) (sites : Each Site) (new : KeptSite) (s : Site) → slice_get (of_kind me sites) i ≡ Some s
    → IsNode sc me i new (change s) → AreNodes sc me kept (of_kind me sites) → AreNodes sc me (slice_set kept i new) (of_kind me (at_node me i change sites))
nodes-own sc me i change kept sites new s there is are = record {
  many = length-set kept i new ∙ are.many;
  each = λ n a z ea ez. let was = was-there me i change sites me n z ez in by n a z ea was.site was.there was.is (n == i) refl;
}
  where
    some-same : {X : Type 0} (a b : X) → Some a ≡ Some b → a ≡ b
    some-same a b e = ap (λ o. unwrap_or o a) e

    own : (me : Side) (n : ℕ) (b : Bool) → (n == i) ≡ b → is_node me i me n ≡ b
    own Biu n b e = e
    own Rmu n b e = e

    by : (n : ℕ) (a : KeptSite) (z : Site) → slice_get (slice_set kept i new) n ≡ Some a → (y : Site) → slice_get (of_kind me sites) n ≡ Some y → at_one me i change me n y ≡ z
        → (b : Bool) → (n == i) ≡ b → IsNode sc me n a z
    by n a z ea y ey ez true e =
        let same : n ≡ i = grind (arith, nat_tests, e) in
        let here : y ≡ s = some-same y s (sym ey ∙ ap (slice_get (of_kind me sites)) same ∙ there) in
        let new_is : new ≡ a = set-here kept i new a (subst (λ m. slice_get (slice_set kept i new) m ≡ Some a) same ea) in
        let z_is : change s ≡ z = ap change (sym here) ∙ sym (ap (λ b. elim b as (λ _. Site) [ true ↦ change y | false ↦ y ]) (own me n true e)) ∙ ez in
        subst (λ m. IsNode sc me m a z) (sym same) (subst (λ a. IsNode sc me i a z) new_is (subst (IsNode sc me i new) z_is is))
    by n a z ea y ey ez false e =
        let z_is : y ≡ z = sym (ap (λ b. elim b as (λ _. Site) [ true ↦ change y | false ↦ y ]) (own me n false e)) ∙ ez in
        subst (IsNode sc me n a) z_is (are.each n a y (sym (set-there kept i n new e) ∙ ea) ey)

pub nodes-other : (sc : Scenario) (me : Side) (i : ℕ) (change : Site → Site) (kept : List KeptSite) (sites : Each Site) → AreNodes sc (other me) kept (of_kind (other me) sites)
    → AreNodes sc (other me) kept (of_kind (other me) (at_node me i change sites))
nodes-other sc me i change kept sites are = record {
  many = are.many;
  each = λ n a z ea ez.
      let was = was-there me i change sites (other me) n z ez in
      let z_is : was.site ≡ z = sym (ap (λ b. elim b as (λ _. Site) [ true ↦ change was.site | false ↦ was.site ]) (not-other me i n)) ∙ was.is in
      subst (IsNode sc (other me) n a) z_is (are.each n a was.site ea was.there);
}

pub after_tick-nodes : (sc : Scenario) (w : World) (me : Side) (i k : ℕ) (x : Act) (kept others : List KeptSite) (new : KeptSite) (s : Site) → slice_get (of_kind me w.sites) i ≡ Some s
    → IsNode sc me i new (after_act sc w.ports me i x s) → AreNodes sc me kept (of_kind me w.sites) → AreNodes sc (other me) others (of_kind (other me) w.sites)
    → AreNodes sc me (slice_set kept i new) (of_kind me (with_act sc w me i k x).sites) × AreNodes sc (other me) others (of_kind (other me) (with_act sc w me i k x).sites)
unfolding with_act
after_tick-nodes sc w me i k x kept others new s there is own far = (
  sent-nodes sc me i x.core.state.frame k x.message me (slice_set kept i new) (at_node me i (after_act sc w.ports me i x) w.sites)
      (nodes-own sc me i (after_act sc w.ports me i x) kept w.sites new s there is own),
  sent-nodes sc me i x.core.state.frame k x.message (other me) others (at_node me i (after_act sc w.ports me i x) w.sites)
      (nodes-other sc me i (after_act sc w.ports me i x) others w.sites far),
)

-- The event.

pub happens-tick : (sc : Scenario) (w : World) (d : Due) (me : Side) (i k : ℕ) (s : Site) → d ≡ record { side = me; node = i; pending = Tick k } → slice_get (of_kind me w.sites) i ≡ Some s
    → happens sc w d ≡ with_act sc w me i k (pass_and_tick sc w.ports me i k s.core)
unfolding happens
happens-tick sc w d me i k s is there =
    ap (happens sc w) is ∙ ap (λ o. elim o as (λ _. World) [ None ↦ w | Some s ↦ with_act sc w me i k (pass_and_tick sc w.ports me i k s.core) ]) there

-- what is kept stands for the nodes and for what surrounds them
pub record Acts (sc : Scenario) (me : Side) (kept others : List KeptSite) (scene : Scene) (v : World) : Type 0 where
  pub own : AreNodes sc me kept (of_kind me v.sites)
  pub far : AreNodes sc (other me) others (of_kind (other me) v.sites)
  pub surrounds : Surrounds sc scene v

pub tick-acts : (sc : Scenario) (w : World) (d : Due) (me : Side) (i k : ℕ) (s : Site) (kept others : List KeptSite) (new : KeptSite) (scene : Scene)
    → d ≡ record { side = me; node = i; pending = Tick k } → slice_get (of_kind me w.sites) i ≡ Some s
    → AreNodes sc me kept (of_kind me w.sites) → AreNodes sc (other me) others (of_kind (other me) w.sites)
    → Ticks sc me i k new scene (moved me i (without_waiting (Tick k)) w) (record s { ahead = None }) (pass_and_tick sc w.ports me i k s.core)
    → Acts sc me (slice_set kept i new) others scene (happens sc w d)
tick-acts sc w d me i k s kept others new scene is there own far ticks =
    let x : Act = pass_and_tick sc w.ports me i k s.core in
    let node : IsNode sc me i new (after_act sc w.ports me i x s) = subst (IsNode sc me i new) (after-act-same sc w.ports me i x s) ticks.node in
    let both = after_tick-nodes sc w me i k x kept others new s there node own far in
    subst (Acts sc me (slice_set kept i new) others scene) (sym (happens-tick sc w d me i k s is there))
    (record { own = both.0; far = both.1; surrounds = subst (Surrounds sc scene) (act-same sc w me i k x) ticks.surrounds })

pub biu-happens : (sc : Scenario) (w : World) (d : Due) (bius rmus : List KeptSite) (scene : Scene) → Acts sc Biu bius rmus scene (happens sc w d)
    → Happens sc (record { bius = bius; rmus = rmus }) scene w d
biu-happens sc w d bius rmus scene acts = record { nodes = nodes; surrounds = acts.surrounds }
  where
    nodes : (me : Side) → AreNodes sc me (of_kind me (let x : Each KeptSite = record { bius = bius; rmus = rmus } in x)) (of_kind me (happens sc w d).sites)
    nodes Biu = acts.own
    nodes Rmu = acts.far

pub rmu-happens : (sc : Scenario) (w : World) (d : Due) (bius rmus : List KeptSite) (scene : Scene) → Acts sc Rmu rmus bius scene (happens sc w d)
    → Happens sc (record { bius = bius; rmus = rmus }) scene w d
rmu-happens sc w d bius rmus scene acts = record { nodes = nodes; surrounds = acts.surrounds }
  where
    nodes : (me : Side) → AreNodes sc me (of_kind me (let x : Each KeptSite = record { bius = bius; rmus = rmus } in x)) (of_kind me (happens sc w d).sites)
    nodes Biu = acts.far
    nodes Rmu = acts.own
