use Rattle.std.proofs.Common.{arith}
use Rattle.rb_scenario_document.proofs.NameLemmas.{named-other, named-spelled}
use Rattle.rb_scenario_document.proofs.names.named.Goals as goal

pub returns-in_default-clause-value : goal.returns-in_default-clause-value
returns-in_default-clause-value c = rw (← c.as_bytes.ensures.value) (named-other c.args.letter c.args.count c.as_bytes.result.now (λ long. absurd (omega arith)))

pub returns-in_default-2-clause-value : goal.returns-in_default-2-clause-value
returns-in_default-2-clause-value c = rw (← c.as_bytes.ensures.value) (named-other c.args.letter c.args.count c.as_bytes.result.now (λ long. c.if-first-letter.false))

pub returns-in-len1-up-clause-value : goal.returns-in-len1-up-clause-value
returns-in-len1-up-clause-value c =
    rw (← c.as_bytes.ensures.value)
    (named-spelled c.args.letter c.args.count c.as_bytes.result.now c.spelled_below.result c.requires (omega arith) c.if-first-letter.true c.spelled_below.ensures.some c.spelled_below.ensures.none)
