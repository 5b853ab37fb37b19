-- A bus of a bridge in one frame: what is kept of it, and how far its run is taken.
use Rattle.std.specs.Prelude.{ℕ, ◌≡◌, ◌||◌, nat_lt, Bool, true, false, Option, Some, None, List, [], ◌∷◌, ◌++◌}
use Rattle.rb_rules.specs.{Book.Record, Goodness.Scenario, Ports.HandIn}
use Rattle.rb_world_book.specs.{Records.record_of, declared.turn.Turn.Turn}
use Rattle.rb_run.specs.Turns.{records_in}
use Rattle.rb_world.specs.{Nexts.is_last, Worlds.KeptWorld}
use Rattle.rb_group_run.specs.{Holding.HoldsFrame, Replies.frame_of}
use Rattle.rb_rules_bridge.specs.Crossings.{value_told}
use Rattle.rb_bridge.specs.{Holding.HoldValues, declared.passing.Passage.Passage, declared.passing.Terms.Terms, Running.{AreNotLast, IsUnderWay}}

-- what is kept of a frame is what these records tell of it
pub record HoldsPassage (terms : Terms) (frame : ℕ) (records : List Record) (p : Passage) : Type 0 where
  pub frame_is : p.ports.frame ≡ frame
  pub ports : HoldsFrame terms.frames terms.asked records p.ports
  pub values : HoldValues (value_told frame terms.slot records) p.values

-- a frame is over with this record: it is one of a later frame, or the last of a run
abbrev pub is_over : ℕ → ℕ → Option Record → Bool
is_over frames frame None = false
is_over frames frame (Some r) = nat_lt frame (frame_of frames r) || is_last (Some r)

-- some turns of a run have been given, it goes on, and what is kept of a frame is what they tell
pub record IsOnItsWay (is_plain : Bool) (since : Option (List Turn)) (k : KeptWorld) (terms : Terms) (p : Passage) : Type 0 where
  pub handed : List HandIn
  pub told : Option (List Turn)
  pub turns : List Turn
  pub given : IsUnderWay k.bus handed is_plain told since k turns false
  pub holds : HoldsPassage terms p.ports.frame (records_in turns) p

-- Further turns were given, the last of them being this one, with which the frame is over. What is
-- kept of the frame is what those before it tell
pub record PassesFrame (sc : Scenario) (handed : List HandIn) (is_plain : Bool) (told since : Option (List Turn)) (k : KeptWorld) (before : List Turn) (terms : Terms) (frame : ℕ)
    (p : Passage) (last : Turn) : Type 0 where
  pub more : List Turn
  pub given : IsUnderWay sc handed is_plain told since k ((before ++ more) ++ last ∷ []) (is_last (record_of last))
  pub going : AreNotLast (before ++ more)
  pub holds : HoldsPassage terms frame (records_in (before ++ more)) p
  pub over : is_over terms.frames frame (record_of last) ≡ true
