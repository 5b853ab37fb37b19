use Rattle.std.proofs.Common.{◌≡◌, sym, ap, subst, ◌∙◌}
use Rattle.rb_rules.specs.Book.{in_order}
use Rattle.rb_world_agenda.specs.{Agenda.{due_count, how_many}, Holding.HoldsSites}
use Rattle.rb_world_agenda.proofs.{Dues.many-due, Keeping.times-of}
use Rattle.rb_world_agenda.proofs.agenda.Agenda.due.Goals as goal

pub returns-clause-value : goal.returns-clause-value
returns-clause-value c =
    c.due_count.ensures ∙ ap (λ t. due_count t (in_order c.self.inside.lanes)) c.least_of-time.ensures.value ∙ ap how_many c.self.view_is

pub returns-clause-world : goal.returns-clause-world
returns-clause-world c =
    let lanes = c.self.inside.lanes in
    let many : c.due_count.result ≡ how_many lanes = c.due_count.ensures ∙ ap (λ t. due_count t (in_order lanes)) c.least_of-time.ensures.value in
    λ sc w holds.
    many ∙ sym (many-due sc w lanes (subst (λ x. HoldsSites sc.sizes x w.sites) (sym c.self.view_is) holds) (times-of lanes c.least_of-time.ensures.times))
