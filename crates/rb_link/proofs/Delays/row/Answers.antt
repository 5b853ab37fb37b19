-- The delays of the sender's pairs are those of the messages to the nodes of the other kind.
use Rattle.std.proofs.Common.{[], ◌∙◌, ◌*◌, ◌+◌, ap, refl, subst, sym}
use Rattle.rb_rules.specs.Links.{delay_after, delay_of}
use Rattle.rb_link.specs.{Pairs.receiver_of, Rows.AreRows}
use Rattle.rb_link.proofs.NodeRows.{none_past_sixteen, there_by_sender}
use Rattle.rb_link.proofs.Delays.row.Goals as goal

pub returns-in-Some : goal.returns-in-Some
unfolding delay_of
returns-in-Some c =
    let delays = c.self.inside in
    let are : AreRows delays.base delays.rules.items c.deref.result.now c.deref-in-Some.result.now =
    subst (λ s. AreRows delays.base delays.rules.items s c.deref-in-Some.result.now) (sym c.deref.ensures.value)
    (subst (λ f. AreRows delays.base delays.rules.items delays.shared.items f) (sym c.deref-in-Some.ensures.value) c.self.invariant.rows_are) in
    record {
      delays = λ i delay at.
          let found = c.row_at.ensures.delays delays.base delays.rules.items are i delay at in
          let nodes = c.in-Some.ensures.is i found.0 in
          rw (← c.self.view_is)
          (found.1
          ∙ ap (λ n. delay_after delays.base delays.rules.items n (receiver_of (16 * c.in-Some.sender + i)) c.args.place) nodes.0
          ∙ ap (λ n. delay_after delays.base delays.rules.items c.args.from n c.args.place) nodes.1);
      there = rw (← c.self.view_is)
          (there_by_sender delays.base delays.rules.items c.args.from c.in-Some.sender c.args.place c.row_at.result.now
          c.in-Some.ensures.is c.in-Some.ensures.there (c.row_at.ensures.there delays.base delays.rules.items are));
    }

pub returns-in-None-clause-there : goal.returns-in-None-clause-there
returns-in-None-clause-there c = none_past_sixteen _ c.args.from c.args.place [] c.in-None.ensures.there refl
