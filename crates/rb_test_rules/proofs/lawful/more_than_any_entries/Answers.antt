use Rattle.std.proofs.{Common.{◌≡◌, filter, length, replicate, ap, arith}, lemmas.List.length-replicate}
use Rattle.rb_base.specs.Nodes.Side.{Biu}
use Rattle.rb_rules.specs.{Behavior.Span, Entries.{is_said, said_of}, Goodness.{Scenario, clock_of}}
use Rattle.rb_laws_events.proofs.FewThere.{length-mapped, length-passed}
use Rattle.rb_test_rules.specs.Floods.{flooding_rmu, word_of_its_own}
use Rattle.rb_test_rules.proofs.lawful.more_than_any_entries.Goals as goal

-- BIU 0 hears 1,025 messages from RMU 2 in this window, and each would be an entry
pub returns : goal.returns
returns c = λ says listed.
    let sc : Scenario = record flooding_rmu { says = says } in
    let span : Span = record { place = record { frame = 0; slot = 0; stage = 2 }; first = 15; last = 29 } in
    let long : length (replicate 1025 (word_of_its_own 0 span)) ≡ 1025 = length-replicate 1025 (word_of_its_own 0 span) in
    let same = ap length (listed.behavior Biu 0 span 2) in
    let mapped = length-mapped (said_of sc.plan.version (clock_of sc Biu 0) span) (filter (is_said Biu 0 2 span) says) in
    let passed = length-passed (is_said Biu 0 2 span) says in
    let few = listed.few in
    omega (arith, long, same, mapped, passed, few)
