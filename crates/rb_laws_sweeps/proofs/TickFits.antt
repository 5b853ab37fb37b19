-- What a tick makes pending behind is few, too.
use Rattle.std.proofs.Common.{◌≡◌, suc, ◌+◌, true, false, List, ap, sym, ◌∙◌, subst, Some, option_map, slice_get}
use Rattle.rb_base.specs.Nodes.{other}
use Rattle.rb_rules.specs.{Book.of_kind, Core.Act, WorldStep.{Choice, Due, Site, World, after_act, at_node, happens, pass_and_tick, with_act, world_after}, WorldStep.Pending.Tick, WorldStep.Way.ByAnEvent}
use Rattle.rb_laws_events.proofs.{FewPending.{HaveRoom, message-few, own-few}, OneEvent.happens-is, WorldNodes.settle-sites, WorldStands.{get-at, is_node, node-itself, not-other}}
use Rattle.rb_laws_sweeps.specs.{AheadOf.{GoesOnAhead, after_takes, ahead_of, tick_alone, until_tick}, Room.TicksBehindFit, Sweeping.swept}
use Rattle.rb_laws_sweeps.proofs.{AfterTick.takes-are, BehindFew.behind-few, GoesOn.worlds-go-on, Stopped.stopped-stay-empty}

pub ticks-behind-fit : TicksBehindFit
unfolding with_act
ticks-behind-fit sc lawful listed choices until w is stopped event me i a first le s there = record {
  own = own-few sc me i x.core.state.frame a.tick x.message (after_act sc w.ports me i x) alone.sites fits node-alone;
  message = λ m e j receiver here runs.
      message-few sc me i x.core.state.frame a.tick (after_act sc w.ports me i x) alone.sites fits e j
      (get-at me (other me) i j sweep w.sites ∙ ap (option_map (λ s. elim (is_node me i (other me) j) as (λ _. Site) [ true ↦ sweep s | false ↦ s ])) here
      ∙ ap (λ b. Some (elim b as (λ _. Site) [ true ↦ sweep receiver | false ↦ receiver ])) (not-other me i j)) runs;
}
  where
    goes : GoesOnAhead sc until w me i a
    goes = worlds-go-on sc lawful choices until w is event me i a first le

    sweep : Site → Site
    sweep = swept sc me i (a.time + 1)

    alone : World
    alone = record w { sites = at_node me i sweep w.sites }

    d : Due
    d = record { side = me; node = i; pending = Tick a.tick }

    z : Site
    z = sweep s

    node-alone : slice_get (of_kind me alone.sites) i ≡ Some z
    node-alone =
        get-at me me i i sweep w.sites ∙ ap (option_map (λ s. elim (is_node me i me i) as (λ _. Site) [ true ↦ sweep s | false ↦ s ])) there
        ∙ ap (λ b. Some (elim b as (λ _. Site) [ true ↦ sweep s | false ↦ s ])) (node-itself me i)

    x : Act
    x = pass_and_tick sc w.ports me i a.tick z.core

    sites : (tick_alone sc me i a w).sites ≡ (with_act sc alone me i a.tick x).sites
    sites = settle-sites sc ByAnEvent 2 (happens sc alone d) ∙ ap (λ (y : World). y.sites) (happens-is sc alone d node-alone)

    cs : List Choice
    cs = (takes-are sc choices (suc goes.leads.takes)).0

    then_is : world_after sc cs ≡ ahead_of sc (until_tick me i a.time) (tick_alone sc me i a w)
    then_is = sym (takes-are sc choices (suc goes.leads.takes)).1 ∙ ap (after_takes sc (suc goes.leads.takes)) is ∙ goes.after

    fits : HaveRoom sc (with_act sc alone me i a.tick x).sites
    fits = subst (HaveRoom sc) sites (behind-few sc lawful listed cs (until_tick me i a.time) (tick_alone sc me i a w) then_is ((stopped-stay-empty sc).kept w me i a first stopped))
