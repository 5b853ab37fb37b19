use Rattle.std.proofs.Common.{◌≡◌, not, drop}
use Rattle.std.specs.List.{list_all}
use Rattle.rb_scenario.specs.Onsets.{is_good_by}
use Rattle.rb_scenario.proofs.rules.are_sayers_faulty.Given as goal

abbrev pub invariant-loop-say : goal.invariant-loop-say
invariant-loop-say l = list_all (λ say. not (is_good_by l.shape l.biu l.rmu say.from say.frames.0 say.slots.0)) (drop l.say-index l.says) ≡ list_all (λ say. not (is_good_by l.shape l.biu l.rmu say.from say.frames.0 say.slots.0)) l.says
