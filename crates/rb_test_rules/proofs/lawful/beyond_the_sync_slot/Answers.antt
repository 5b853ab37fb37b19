use Rattle.std.proofs.Common.{arith, inl, inr}
use Rattle.rb_rules.specs.{Entries.IsListed, Lawful.IsSayOf, declared.say.Say.Say}
use Rattle.rb_test_rules.specs.Lawful.{saying_from}
use Rattle.rb_test_rules.proofs.lawful.beyond_the_sync_slot.Goals as goal

-- the sole entry is one that the lawful scenario may have
said_from_18 : (say : Say) → IsListed (saying_from 18 say) → IsSayOf (saying_from 18 say) say
said_from_18 say l = l.says 0 say (omega arith)

pub returns-clause-early_in_another_slot : goal.returns-clause-early_in_another_slot
returns-clause-early_in_another_slot c = λ l. elim ((said_from_18 _ l).early_in_sync) [ inl e ↦ omega arith | inr e ↦ let first = e.0 in omega arith ]

pub returns-clause-tail_of_another_slot : goal.returns-clause-tail_of_another_slot
returns-clause-tail_of_another_slot c = λ l. elim ((said_from_18 _ l).tail) [ inl e ↦ omega arith | inr e ↦ let first = e.0 in omega arith ]
