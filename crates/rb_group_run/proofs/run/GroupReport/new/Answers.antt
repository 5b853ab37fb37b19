use Rattle.rb_group_run.proofs.run.GroupReport.new.Goals as goal

pub returns-clause-fresh : goal.returns-clause-fresh
returns-clause-fresh g c = λ sc is. record { scope_is = is; holds = c.first_ports.ensures sc.frames }
