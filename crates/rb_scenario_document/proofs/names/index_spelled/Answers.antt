use Rattle.std.proofs.Common.{arith, inl, inr}
use Rattle.rb_scenario_document.proofs.NameLemmas.{digits_shape, spelled_one, spelled_two}
use Rattle.rb_scenario_document.proofs.names.index_spelled.Goals as goal

pub returns-in-48-to-57-clause-some : goal.returns-in-48-to-57-clause-some
returns-in-48-to-57-clause-some c = (omega arith, spelled_one c.args.digits.now (omega arith) (omega arith) (omega arith))

pub returns-in-49-clause-some : goal.returns-in-49-clause-some
returns-in-49-clause-some c = (omega arith, spelled_two c.args.digits.now (omega arith) (omega arith) (omega arith) (omega arith))

pub returns-in_default-clause-none : goal.returns-in_default-clause-none
returns-in_default-clause-none c = λ i h e. elim (digits_shape c.args.digits.now i h e) [ inl s ↦ omega arith | inr s ↦ omega arith ]

pub returns-in_default-2-clause-none : goal.returns-in_default-2-clause-none
returns-in_default-2-clause-none c = λ i h e. elim (digits_shape c.args.digits.now i h e) [ inl s ↦ omega arith | inr s ↦ omega arith ]

pub returns-in_default-3-clause-none : goal.returns-in_default-3-clause-none
returns-in_default-3-clause-none c = λ i h e. elim (digits_shape c.args.digits.now i h e) [ inl s ↦ omega arith | inr s ↦ omega arith ]

pub returns-in_default-4-clause-none : goal.returns-in_default-4-clause-none
returns-in_default-4-clause-none c = λ i h e. elim (digits_shape c.args.digits.now i h e) [ inl s ↦ omega arith | inr s ↦ omega arith ]

pub returns-in_default-5-clause-none : goal.returns-in_default-5-clause-none
returns-in_default-5-clause-none c = λ i h e. elim (digits_shape c.args.digits.now i h e) [ inl s ↦ omega arith | inr s ↦ omega arith ]

pub returns-in_default-6-clause-none : goal.returns-in_default-6-clause-none
returns-in_default-6-clause-none c = λ i h e. elim (digits_shape c.args.digits.now i h e) [ inl s ↦ omega arith | inr s ↦ omega arith ]

pub returns-in_default-7-clause-none : goal.returns-in_default-7-clause-none
returns-in_default-7-clause-none c = λ i h e. elim (digits_shape c.args.digits.now i h e) [ inl s ↦ omega arith | inr s ↦ omega arith ]
