use Rattle.rb_laws_listener_learns.proofs.Beside.{calm, come, decides, hears-the-run, is-ear, is-lawful, starts}
use Rattle.rb_laws_listener_learns.proofs.a_listener_beside_a_run.Goals as goal

pub returns-clause-lawful : goal.returns-clause-lawful
returns-clause-lawful c = is-lawful

pub returns-clause-ear : goal.returns-clause-ear
returns-clause-ear c = is-ear

pub returns-clause-hears : goal.returns-clause-hears
returns-clause-hears c = hears-the-run

pub returns-clause-starts : goal.returns-clause-starts
returns-clause-starts c = starts

pub returns-clause-come : goal.returns-clause-come
returns-clause-come c = come

pub returns-clause-decides : goal.returns-clause-decides
returns-clause-decides c = decides

pub returns-clause-calm : goal.returns-clause-calm
returns-clause-calm c = calm
