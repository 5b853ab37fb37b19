-- What an arrival is kept as, and what its bytes say.
use Rattle.std.specs.Prelude.{ℕ, ◌≡◌, ◌≤◌, ◌+◌, ◌*◌, ◌/◌, ◌%◌, Bool, false, Option, List}
use Rattle.rb_base.specs.declared.values.Heard.{Heard}
use Rattle.rb_rules.specs.{declared.sense.Expect.Expect, Sense.{is_one, sense_of_one, value_in}, Spelling.message_in}
use Rattle.rb_frame.specs.Spellings.{high_of, len_of, spelled}
use Rattle.rb_eligible.specs.declared.reading.Sole.{Sole}

-- the bytes of a sole arrival
abbrev pub bytes_of : Sole → List ℕ
bytes_of s = spelled s.low (high_of s.tail) (len_of s.tail)

-- whether bytes are one message that is meant for the window, and its value; the stamp plays no
-- part
pub record Says (e : Expect) (bytes : List ℕ) (one : Bool) (value : Option Heard) : Type 0 where
  pub one_is : one ≡ is_one (sense_of_one e 0 (message_in e.version bytes))
  pub value_is : value ≡ value_in (sense_of_one e 0 (message_in e.version bytes))

-- the first eight bytes begin as a word that is meant for the window
pub record StartsAsWord (e : Expect) (low : ℕ) : Type 0 where
  pub tag : low % 256 ≡ 1
  pub frame : low / 256 % 256 * 256 + low / 65536 % 256 ≡ e.frame
  pub slot : low / 16777216 % 256 * 256 + low / 4294967296 % 256 ≡ e.slot
  pub stage : low / 1099511627776 % 256 ≡ e.stage
  pub some_stage : 1 ≤ e.stage
  pub most_stages : e.stage ≤ 3
  pub no_sync : e.sync ≡ false
