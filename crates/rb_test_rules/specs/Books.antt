-- A book that has ended, and what nodes could still tell.
use Rattle.std.specs.Prelude.{[], ◌∷◌, true, None, Option}
use Rattle.rb_rules.specs.{Book.{Begun, Book, Each, Row}, Book.Milestone.End, Book.Record.Ended}
use Rattle.rb_test_rules.specs.{Buses.b, Told.begins}

abbrev pub ended_book : Book
ended_book = record { upcoming = End; stages = []; lines = []; given = Ended ∷ []; ended = true }

-- no node has told of a stage
abbrev pub nothing_told : Each (Option Row)
nothing_told = record { bius = []; rmus = [] }

-- BIU 0 begins frame 0
abbrev pub begun : Begun
begun = record { frame = 0; line = begins 0 0 0 0 (b 0); port = None }
