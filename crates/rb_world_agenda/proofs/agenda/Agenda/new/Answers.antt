use Rattle.std.proofs.Common.{arith, ◌+◌, ap, sym, subst, ◌∙◌}
use Rattle.rb_world_agenda.specs.Agenda.{AreTicks}
use Rattle.rb_world_agenda.proofs.{Keeping.few-empty, Ticks.ticks-empty}
use Rattle.rb_world_agenda.proofs.agenda.Agenda.new.Goals as goal

pub invariant_of-result : goal.invariant_of-result
invariant_of-result c =
    let bius = c.from-bius.result in
    let nodes = bius + c.from.result in
    let few = few-empty c.args.shape.now c.in_ok-lanes.lanes c.args.room bius nodes c.biu.ensures.shape c.requires (c.from-bius.ensures ∙ c.biu.ensures.value)
    (ap (λ n. bius + n) (c.from.ensures ∙ c.rmu.ensures.value)) c.in_ok-lanes.ensures in (
      few.0,
      few.1,
      subst (AreTicks c.in_ok-lanes.lanes) (sym c.new-2.ensures.marks) (ticks-empty c.args.shape.now c.in_ok-lanes.lanes c.args.room bius nodes
          (c.from-bius.ensures ∙ c.biu.ensures.value) (ap (λ n. bius + n) (c.from.ensures ∙ c.rmu.ensures.value))
          (let most = c.biu.ensures.shape.most_bius in
          let others = c.biu.ensures.shape.most_rmus in
          omega (arith, most, others, c.from-bius.ensures ∙ c.biu.ensures.value, c.from.ensures ∙ c.rmu.ensures.value))
          c.in_ok-lanes.ensures),
      c.new-2.ensures.fours,
    )
