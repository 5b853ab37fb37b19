-- What is kept of the delays beside the rules.
use Rattle.std.specs.Prelude.{ℕ, List}
use Rattle.rb_rules.specs.declared.link.Rule.{Rule}
use Rattle.rb_link.specs.{Pairs.{AreLatest, IsIndex}, Rows.AreRows, declared.rows.Ranges.Ranges}

-- what is prepared fits the rules
pub record ArePrepared (base : ℕ) (rules latest : List Rule) (starts places : List ℕ) (shared : List Ranges) (flat : List ℕ) : Type 0 where
  pub latest_are : AreLatest base rules latest
  pub index_is : IsIndex rules starts places
  pub rows_are : AreRows base rules shared flat
