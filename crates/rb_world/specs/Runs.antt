-- What is kept of a run under way.
use Rattle.rb_rules.specs.Book.{Each}
use Rattle.rb_world.specs.{Sites.KeptSite, declared.run.Run.Run}

-- the nodes of a run
abbrev pub nodes_of : Run → Each KeptSite
nodes_of run = record { bius = run.bius.items; rmus = run.rmus.items }
