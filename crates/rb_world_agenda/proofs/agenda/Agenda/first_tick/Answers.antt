use Rattle.std.proofs.Common.{refl, sym, ap, subst, ◌∙◌, arith}
use Rattle.rb_world_agenda.specs.{Agenda.{first_tick_time, tick_times}, Holding.HoldsSites}
use Rattle.rb_world_agenda.proofs.Ticks.{first-is, name-there}
use Rattle.rb_world_agenda.proofs.agenda.Agenda.first_tick.Goals as goal

pub returns-clause-world : goal.returns-clause-world
returns-clause-world c = λ sizes sites holds me i time first.
    let lanes = c.self.inside.lanes in
    let held : HoldsSites sizes lanes sites = subst (λ x. HoldsSites sizes x sites) (sym c.self.view_is) holds in
    let is = first-is sizes lanes sites (tick_times lanes) c.self.inside.bius c.tick_front-front.result held refl c.self.invariant.0.split c.tick_front-front.ensures.front me i time first in
    (c.node_at.ensures ∙ name-there sizes lanes sites c.self.inside.bius c.tick_front-front.result.first held c.self.invariant.0.split me i time first is.1.0, is.1.1)

pub returns-clause-time : goal.returns-clause-time
returns-clause-time c = c.tick_front-front.ensures.front.least_is ∙ ap first_tick_time c.self.view_is

pub node_at-requires-clause-bius : goal.node_at-requires-clause-bius
node_at-requires-clause-bius c =
    let few = c.self.invariant.0.few_bius in
    let split = c.self.invariant.0.split in
    omega (arith, few, split)
