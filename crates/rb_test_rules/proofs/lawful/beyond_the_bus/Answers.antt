use Rattle.std.proofs.Common.{◌≤◌, None, arith}
use Rattle.rb_test_rules.proofs.lawful.beyond_the_bus.Goals as goal

pub returns-clause-no_frame : goal.returns-clause-no_frame
returns-clause-no_frame c = λ l. let e = l.frames.0 in omega arith

pub returns-clause-request_missing : goal.returns-clause-request_missing
returns-clause-request_missing c = λ l. let e : 4 ≤ 3 = l.requests.enough in omega arith

pub returns-clause-great_request : goal.returns-clause-great_request
returns-clause-great_request c = λ l. let e : 65 ≤ 64 = l.requests.each 0 0 (omega arith) in omega arith

pub returns-clause-onset_after_the_run : goal.returns-clause-onset_after_the_run
returns-clause-onset_after_the_run c = λ l. let e = (l.biu_onsets.each 0 None (omega arith)).0 in omega arith
