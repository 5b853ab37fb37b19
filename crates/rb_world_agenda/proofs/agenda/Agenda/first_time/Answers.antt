use Rattle.std.proofs.Common.{ap, ◌∙◌}
use Rattle.rb_world_agenda.specs.Agenda.{first_time}
use Rattle.rb_world_agenda.proofs.agenda.Agenda.first_time.Goals as goal

pub returns : goal.returns
returns c = record { value = c.least_of.ensures.value ∙ ap first_time c.self.view_is }
