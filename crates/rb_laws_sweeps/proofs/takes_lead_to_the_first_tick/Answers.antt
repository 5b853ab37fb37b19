use Rattle.rb_laws_sweeps.proofs.Leads.{takes-lead}
use Rattle.rb_laws_sweeps.proofs.takes_lead_to_the_first_tick.Goals as goal

pub returns : goal.returns
returns c = takes-lead
