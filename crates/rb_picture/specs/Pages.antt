-- What the program says of itself.
use Rattle.std.specs.Prelude.{ℕ, List, ◌++◌, codes}
use Rattle.rb_flags.specs.{declared.Flag.Flag, declared.Flag.TheVariants.{Help, ShortHelp, Version}}

-- how it is used
unfoldable pub help_text : List ℕ
help_text =
    codes "Usage: robus_picture [FIRST LAST] < REPORT > PICTURE\n"
    ++ codes "Draws a run of a fault-tolerant broadcast bus from the report of robus run.\n"
    ++ codes "\n"
    ++ codes "words          what is written\n"
    ++ codes "none           all frames in panels; from 13 whole frames on an overview\n"
    ++ codes "FIRST LAST     panels of the frames from one number to the other\n"
    ++ codes "--help, -h     this page; nothing is read\n"
    ++ codes "--version      the name and the version; nothing is read\n"
    ++ codes "\n"
    ++ codes "Input: a report, at most 67108864 bytes. Output: one SVG document.\n"
    ++ codes "Status: 0 done, 2 unknown words, 3 input refused, 4 input too long,\n"
    ++ codes "5 reading failed, 6 writing failed, 7 out of memory,\n"
    ++ codes "8 arguments could not be read.\n"
    ++ codes "\n"
    ++ codes "Example: robus run < examples/late_onset.toml | robus_picture > run.svg\n"
    ++ codes "Manual: docs/robus_picture.md, or man robus_picture\n"

-- what a flag asks for
abbrev pub page_text : Flag → List ℕ
page_text Help = help_text
page_text ShortHelp = help_text
page_text Version = codes "robus_picture 1.0\n"
