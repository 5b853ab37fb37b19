-- The words that ask a program about itself.
use Rattle.std.specs.Prelude.{ℕ, List, codes}
use Rattle.rb_flags.specs.{declared.Flag.Flag, declared.Flag.TheVariants.{Help, ShortHelp, Version}}

-- the word that a flag is
abbrev pub flag_text : Flag → List ℕ
flag_text Help = codes "--help"
flag_text ShortHelp = codes "-h"
flag_text Version = codes "--version"
