use Rattle.std.proofs.{Common.{◌≡◌, ◌≤◌, ◌+◌, List, ◌∷◌, arith}, lemmas.Bool.false≢true}
use Rattle.rb_rules.specs.{Clock.Timeline, Lawful.IsLawful}
use Rattle.rb_test_rules.specs.{Buses.steady, Ordinary.ordinary_use}
use Rattle.rb_test_rules.proofs.lawful.beyond_the_clocks.Goals as goal

-- the first two clocks of a lawful scenario start near each other
first_two : (a b : Timeline) (rest : List Timeline) → IsLawful (record ordinary_use { clocks = a ∷ b ∷ rest }) → a.start ≤ b.start + 60200
first_two a b rest l = l.starts 0 a (omega arith) 1 a (omega arith)

pub returns-clause-clock_missing : goal.returns-clause-clock_missing
returns-clause-clock_missing c = λ l. let e : 6 ≡ 7 = l.one_clock_each in omega (arith, e)

pub returns-clause-starts_apart : goal.returns-clause-starts_apart
returns-clause-starts_apart c = λ l. let e : 60201 ≤ 60200 = first_two _ _ _ l in omega arith

pub returns-clause-slow_clock : goal.returns-clause-slow_clock
returns-clause-slow_clock c = λ l. false≢true (l.clocks 0 steady (omega arith)).within
