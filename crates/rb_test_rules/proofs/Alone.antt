-- A scenario with one entry and a bus with one rule of delay: what they state, if they are lawful.
use Rattle.std.proofs.Common.{arith}
use Rattle.rb_rules.specs.{declared.link.Rule.Rule, declared.say.Say.Say, Entries.IsListed, Lawful.{IsLawful, IsRuleOf, IsSayOf}}
use Rattle.rb_test_rules.specs.Lawful.{ruled_by, saying}

-- the sole entry is one that the lawful scenario may have
pub said : (say : Say) → IsListed (saying say) → IsSayOf (saying say) say
said say l = l.says 0 say (omega arith)

-- the sole rule is one that the lawful scenario may have
pub ruled : (rule : Rule) → IsLawful (ruled_by rule) → IsRuleOf (ruled_by rule) rule
ruled rule lawful = lawful.rules 0 rule (omega arith)
