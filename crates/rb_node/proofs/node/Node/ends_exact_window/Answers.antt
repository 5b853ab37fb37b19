use Rattle.std.proofs.{Common.{rules, ◌≡◌, ◌+◌, ◌<◌, ◌≤◌, ap, sym, ◌∙◌, subst, arith, not}, lemmas.Bool.{eq-eqb, eqb-true, not-true}}
use Rattle.rb_base.specs.{Nodes.{Side, side_of}, Sizes.sync_slot_of}
use Rattle.rb_rules.specs.Core.{is_tick}
use Rattle.rb_slot.specs.Engines.{Seated}
use Rattle.rb_node.specs.declared.ahead.Ahead.{Ahead}
use Rattle.rb_node.proofs.{Alone.{alone-ends, alone-stays}, Ending.{ShowsEnd, ends-kept, kept-ends, kept-stays, not-below, stays-kept}, node.Node.ends_exact_window.Goals.{then-self-sync_slot, else-self-sync_slot}}
use Rattle.rb_node.proofs.node.Node.ends_exact_window.Goals as goal

pub returns-then-self : goal.returns-then-self
returns-then-self g c =
    let me : Side = side_of g.K.Kind.CODE in
    let a : Ahead = c.self.inside.ahead in
    let v : Seated = c.self.inside.engine in
    record {
      ends = rw (← c.self.view_is) (λ d k is next ends.
          alone-ends me v c.self.inside.had a d k c.self.invariant.ahead c.if-self.true is.state is.had next);
      stays = rw (← c.self.view_is) (λ d k is next ends.
          alone-stays me v c.self.inside.had a d k c.self.invariant.ahead c.if-self.true is.state is.had next);
      otherwise = search rules;
    }

pub returns-then-epoch-self : goal.returns-then-epoch-self
returns-then-epoch-self g c =
    let me : Side = side_of g.K.Kind.CODE in
    let a : Ahead = c.self.inside.ahead in
    let v : Seated = c.self.inside.engine in
    let slots : c.sync_slot.result ≡ sync_slot_of v.sizes = rw (c.shape.ensures, c.plan.ensures) at c.sync_slot.ensures.value in
    record {
      ends = elim c.if-self-sync_slot.branch [
        | then-self-sync_slot w ↦ rw (← c.self.view_is) (λ d k is next here.
            ends-kept me v c.self.inside.had a d k c.self.invariant.ahead is.state is.had next
            (subst (λ n. a.window.slot < n) slots w.if-self-sync_slot.true)
            (ap (λ e. e + a.window.last) (sym w.epoch.ensures) ∙ eqb-true (w.epoch.result + a.window.last) a.busy.tick (sym w.value-is ∙ c.if-epoch-self.true))
            (ap (λ o. is_tick o a.busy.tick) (sym c.new_epoch.ensures) ∙ sym c.is_tick.ensures ∙ not-true c.is_tick.result here))
        | else-self-sync_slot w ↦
            absurd (not-below a.window.slot c.sync_slot.result w.if-self-sync_slot.false (sym w.value-is ∙ c.if-epoch-self.true))
      ];
      stays = rw (← c.self.view_is) (λ d k is next here.
          stays-kept me v c.self.inside.had a d k c.self.invariant.ahead is.state is.had next
          (ap (λ o. is_tick o a.busy.tick) (sym c.new_epoch.ensures) ∙ sym c.is_tick.ensures ∙ not-true c.is_tick.result here));
      otherwise = rw (← c.self.view_is) (λ d k is next stays ends.
          ap not (c.is_tick.ensures ∙ ap (λ o. is_tick o a.busy.tick) c.new_epoch.ensures
          ∙ kept-stays me v c.self.inside.had a d k c.self.invariant.ahead is.state is.had next stays));
    }

pub returns-else-epoch-self : goal.returns-else-epoch-self
returns-else-epoch-self g c =
    let me : Side = side_of g.K.Kind.CODE in
    let a : Ahead = c.self.inside.ahead in
    let v : Seated = c.self.inside.engine in
    let slots : c.sync_slot.result ≡ sync_slot_of v.sizes = rw (c.shape.ensures, c.plan.ensures) at c.sync_slot.ensures.value in
    record {
      ends = search rules;
      stays = search rules;
      otherwise = elim c.if-self-sync_slot.branch [
        | then-self-sync_slot w ↦ rw (← c.self.view_is) (λ d k is next stays ends.
            let shows : ShowsEnd v a = kept-ends me v c.self.inside.had a d k c.self.invariant.ahead is.state is.had next stays ends in
            w.value-is
            ∙ eq-eqb (w.epoch.result + a.window.last) a.busy.tick (ap (λ e. e + a.window.last) w.epoch.ensures ∙ shows.last))
        | else-self-sync_slot w ↦ rw (← c.self.view_is) (λ d k is next stays ends.
            let shows : ShowsEnd v a = kept-ends me v c.self.inside.had a d k c.self.invariant.ahead is.state is.had next stays ends in
            let slot : a.window.slot < sync_slot_of v.sizes = shows.slot in
            let over : c.sync_slot.result ≤ a.window.slot = w.if-self-sync_slot.false in
            absurd (omega (arith, slots, slot, over)))
      ];
    }
