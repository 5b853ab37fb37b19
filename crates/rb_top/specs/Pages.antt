-- What the program says of itself.
use Rattle.std.specs.Prelude.{ℕ, List, codes, ◌++◌}
use Rattle.rb_flags.specs.{declared.Flag.Flag, declared.Flag.TheVariants.{Help, ShortHelp, Version}}

-- how it is used
unfoldable pub help_text : List ℕ
help_text =
    codes "Usage: robus WORDS < INPUT > OUTPUT\n"
    ++ codes "Runs and checks scenarios of a fault-tolerant broadcast bus.\n"
    ++ codes "\n"
    ++ codes "WORDS                INPUT     OUTPUT\n"
    ++ codes "run                  scenario  the report: frames, convictions, deliveries, end\n"
    ++ codes "check                scenario  both sides of the plan's seven inequalities\n"
    ++ codes "letters              scenario  the letters that BIUs receive whole\n"
    ++ codes "group most|mid MASK  scenario  what the good BIUs find for a group in each frame\n"
    ++ codes "record NODE          scenario  the log of all that the node is given\n"
    ++ codes "replay               log       the lines of the log's node, from its log alone\n"
    ++ codes "listen SKIP          log       the lines of a passive listener that hears the log\n"
    ++ codes "gen SEED FRAMES      none      the scenario generated from the seed\n"
    ++ codes "stress SEED FRAMES   none      four numbers of that scenario's run\n"
    ++ codes "spell HEX            none      the words that spell a letter\n"
    ++ codes "--help, -h           none      this page\n"
    ++ codes "--version            none      the program's name and version\n"
    ++ codes "\n"
    ++ codes "Status: 0 done, 1 fault premise breached, 2 unknown words, 3 input refused,\n"
    ++ codes "4 input too long, 5 reading failed, 6 writing failed, 7 out of memory,\n"
    ++ codes "8 arguments could not be read.\n"
    ++ codes "\n"
    ++ codes "Example: robus run < examples/one_silent_rmu.toml\n"
    ++ codes "Manual: docs/robus.md\n"

-- what a flag asks for
abbrev pub page_text : Flag → List ℕ
page_text Help = help_text
page_text ShortHelp = help_text
page_text Version = codes "robus 1.0\n"
