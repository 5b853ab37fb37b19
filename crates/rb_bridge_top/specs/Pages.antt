-- What the program says of itself.
use Rattle.std.specs.Prelude.{ℕ, List, codes, ◌++◌}
use Rattle.rb_flags.specs.{declared.Flag.Flag, declared.Flag.TheVariants.{Help, ShortHelp, Version}}

-- how it is used
unfoldable pub help_text : List ℕ
help_text =
    codes "Usage: robus_bridge WORD < INPUT > OUTPUT\n"
    ++ codes "Carries words between two fault-tolerant broadcast buses.\n"
    ++ codes "\n"
    ++ codes "WORD        INPUT   OUTPUT\n"
    ++ codes "run         bridge  the words that cross, in each frame\n"
    ++ codes "--help, -h  none    this page\n"
    ++ codes "--version   none    the program's name and version\n"
    ++ codes "\n"
    ++ codes "Status: 0 done, 1 fault premise breached on a bus, 2 unknown words,\n"
    ++ codes "3 input refused, 4 input too long, 5 reading failed, 6 writing failed,\n"
    ++ codes "7 out of memory, 8 arguments could not be read.\n"
    ++ codes "\n"
    ++ codes "Example: robus_bridge run < examples/bridges/carried_words.toml\n"
    ++ codes "Manual: docs/robus_bridge.md\n"

-- what a flag asks for
abbrev pub page_text : Flag → List ℕ
page_text Help = help_text
page_text ShortHelp = help_text
page_text Version = codes "robus_bridge 1.0\n"
