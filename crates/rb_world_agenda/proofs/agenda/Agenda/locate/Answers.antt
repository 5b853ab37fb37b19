use Rattle.std.proofs.Common.{sym, subst}
use Rattle.rb_world_agenda.specs.{Agenda.{IsDue, StandsAt}, Holding.HoldsSites}
use Rattle.rb_world_agenda.proofs.{Keeping.times-of, Which.is-due}
use Rattle.rb_world_agenda.proofs.agenda.Agenda.locate.Goals as goal

pub returns-clause-world : goal.returns-clause-world
returns-clause-world c =
    let lanes = c.self.inside.lanes in
    λ sc w holds.
    subst (λ x. IsDue sc w x c.args.i c.locate.result.0 c.locate.result.1) c.self.view_is
    (is-due sc w lanes c.args.i c.locate.result.0 c.locate.result.1 (subst (λ x. HoldsSites sc.sizes x w.sites) (sym c.self.view_is) holds)
    (times-of lanes c.least_of-time.ensures.times)
    (subst (λ t. StandsAt lanes t c.args.i c.locate.result.0 c.locate.result.1) c.least_of-time.ensures.value c.locate.ensures))
