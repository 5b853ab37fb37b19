-- What the letters of a run are told from.
use Rattle.std.specs.Prelude.{◌≡◌, List}
use Rattle.rb_rules.specs.Book.{Record}
use Rattle.rb_long.specs.Delivered.{deliveries_in}
use Rattle.rb_long_run.specs.{declared.letters.Letters.Letters, Hearing.Hears}
use Rattle.rb_run.specs.Reports.{newest_after}

-- the newest block and the open letters are those of these records
pub record HasHeard (records : List Record) (letters : Letters) : Type 0 where
  pub block : letters.newest ≡ newest_after 0 records
  pub heard : Hears letters.receivers (deliveries_in records)
