-- One bus of a bridge, from frame to frame.
use Rattle.std.specs.Prelude.{ℕ, ◌≡◌, ◌+◌, ◌<◌, Bool, true, false, Option, None, Some, List, [], ◌∷◌, ◌++◌, map}
use Rattle.rb_rules.specs.{Book.Record, Goodness.Scenario, Ports.HandIn, Rounds.records_of, WorldStep.IsPrefix}
use Rattle.rb_world_book.specs.{Records.record_of, declared.turn.Turn.Turn}
use Rattle.rb_run.specs.{Runs.HasGivenNothing, Turns.{TellsAll, records_in, turn_of}, Seen.SeenDrive}
use Rattle.rb_world.specs.{Driving.bare, Nexts.is_last}
use Rattle.rb_group.specs.declared.voters.Which.TheVariants.{Most}
use Rattle.rb_group_run.specs.Holding.{IsScopeOf}
use Rattle.rb_bridge.specs.{declared.passing.Passage.Passage, declared.passing.Terms.Terms, Passing.{HoldsPassage, is_over}, Running.{AreNotLast, IsUnderWay}, declared.side.Side.Side}
use Rattle.rb_rules_bridge.specs.{declared.bank.Bank.Bank, declared.bank.Bank.TheVariants.{Left, Right}, Bridges.{Bridge, bus_on, carried_slot, members_on}, Crossings.{hands_of, hands_on, hands_up_to, records_on}, Texts.{Break, break_in, break_told}}
use Rattle.rb_world_book.specs.declared.turn.Turn.TheVariants as shown

-- What a side is.

-- what is asked of a bus: the word that its receivers find for these BIUs, a data slot that is
-- carried over, and all frames
abbrev pub terms_of : Scenario → ℕ → ℕ → Terms
terms_of sc members slot = record {
  asked = record { which = Most; members = members };
  slot = sc.sizes.bius + slot;
  frames = sc.frames;
}

-- the side of a bus before its first frame
pub record HasOpened (sc : Scenario) (members slot : ℕ) (s : Side) : Type 0 where
  pub begun : HasGivenNothing s.world
  pub bus_is : s.world.bus ≡ sc
  pub terms_are : s.terms ≡ terms_of sc members slot
  pub scope_is : IsScopeOf sc s.scope
  pub quiet : s.turn ≡ shown.Quiet
  pub holds : HoldsPassage s.terms 0 [] s.passage

-- what is asked of the bus on a bank
abbrev pub terms_on : Bridge → Bank → Terms
terms_on b bank = record {
  asked = record { which = Most; members = members_on b bank };
  slot = carried_slot b bank;
  frames = (bus_on b bank).frames;
}

-- the side is that of a bank
pub record IsSideOf (b : Bridge) (bank : Bank) (s : Side) : Type 0 where
  pub bus_is : s.world.bus ≡ bus_on b bank
  pub terms_are : s.terms ≡ terms_on b bank
  pub scope_is : IsScopeOf (bus_on b bank) s.scope

-- the breach of a frame that a turn tells
abbrev pub break_by : Bank → ℕ → Option Record → Option Break
break_by bank frame None = None
break_by bank frame (Some r) = break_told bank frame r

-- Between two frames, with any drive.

-- the drive has given the turns `before`, which do not end the run, and then the turn of side s,
-- with which the frame of s is over. What is kept of that frame is all that `before` tells of it
pub record HasPassed (sc : Scenario) (handed : List HandIn) (is_plain : Bool) (told since : Option (List Turn)) (s : Side) (before : List Turn) : Type 0 where
  pub given : IsUnderWay sc handed is_plain told since s.world (before ++ s.turn ∷ []) (is_last (record_of s.turn))
  pub going : AreNotLast before
  pub holds : HoldsPassage s.terms s.passage.ports.frame (records_in before) s.passage
  pub over : is_over s.terms.frames s.passage.ports.frame (record_of s.turn) ≡ true

-- side s has passed its frame after some turns of its drive
pub record HasStopped (sc : Scenario) (handed : List HandIn) (is_plain : Bool) (told since : Option (List Turn)) (s : Side) : Type 0 where
  pub before : List Turn
  pub passed : HasPassed sc handed is_plain told since s before

-- the drive has given `turns`. If the run goes on, what is kept of the frame of side s is all that
-- `turns` tell of it. If the run has ended, s has passed its frame
pub record IsReady (sc : Scenario) (handed : List HandIn) (is_plain : Bool) (told since : Option (List Turn)) (s : Side) (turns : List Turn) : Type 0 where
  pub given : IsUnderWay sc handed is_plain told since s.world turns (is_last (record_of s.turn))
  pub holds : is_last (record_of s.turn) ≡ false → HoldsPassage s.terms s.passage.ports.frame (records_in turns) s.passage
  pub stopped : is_last (record_of s.turn) ≡ true → HasStopped sc handed is_plain told since s

-- some turns were given, with which the run has ended or not
pub record IsUp (is_plain : Bool) (since : Option (List Turn)) (s : Side) : Type 0 where
  pub handed : List HandIn
  pub told : Option (List Turn)
  pub turns : List Turn
  pub given : IsUnderWay s.world.bus handed is_plain told since s.world turns (is_last (record_of s.turn))

-- A bridge whose drives are both plain.

-- The bus on a bank was handed what the bridge carries. It has begun this frame, or has ended with
-- a breach of it
pub record IsInStep (b : Bridge) (bank : Bank) (frame : ℕ) (handed : List HandIn) (s : Side) : Type 0 where
  pub handed_is : handed ≡ hands_on bank (hands_up_to b frame)
  pub begins : is_last (record_of s.turn) ≡ false → s.passage.ports.frame ≡ frame
  pub breaks : is_last (record_of s.turn) ≡ true → frame < b.left.frames → ¬ (break_by bank frame (record_of s.turn) ≡ None)

-- The side was handed what the bridge carries. A breach of this frame is the last turn; if there is
-- none, all of the frame is told
pub record HasTold (b : Bridge) (bank : Bank) (frame : ℕ) (handed : List HandIn) (s : Side) : Type 0 where
  pub handed_is : handed ≡ hands_on bank (hands_up_to b frame)
  pub breach : break_in bank frame (records_on b (hands_of b) bank) ≡ break_by bank frame (record_of s.turn)
  pub through : break_by bank frame (record_of s.turn) ≡ None → s.passage.ports.frame ≡ frame

-- Before a frame and after it. The last field of each speaks of two plain drives.

pub record BeforeFrame (b : Bridge) (bank : Bank) (frame : ℕ) (both : Bool) (d : SeenDrive) (s : Side) : Type 0 where
  pub side : IsSideOf b bank s
  pub handed : List HandIn
  pub turns : List Turn
  pub ready : IsReady (bus_on b bank) handed d.is_plain d.told d.since s turns
  pub plain : both ≡ true → IsInStep b bank frame handed s

pub record AfterFrame (b : Bridge) (bank : Bank) (frame : ℕ) (both : Bool) (d : SeenDrive) (s : Side) : Type 0 where
  pub side : IsSideOf b bank s
  pub handed : List HandIn
  pub before : List Turn
  pub passed : HasPassed (bus_on b bank) handed d.is_plain d.told d.since s before
  pub plain : both ≡ true → HasTold b bank frame handed s

-- no bus tells a breach of the frame
pub record AreUnbroken (frame : ℕ) (l r : Side) : Type 0 where
  pub left : break_by Left frame (record_of l.turn) ≡ None
  pub right : break_by Right frame (record_of r.turn) ≡ None

-- the frame of a turn begins, unless that was the last
pub record TurnsOver (terms : Terms) (t : Turn) (before after : Passage) : Type 0 where
  pub stays : is_last (record_of t) ≡ true → after ≡ before
  pub begins : (turns : List Turn) → is_last (record_of t) ≡ false → is_over terms.frames before.ports.frame (record_of t) ≡ true
      → HoldsPassage terms before.ports.frame (records_in turns) before → HoldsPassage terms after.ports.frame (records_in (turns ++ t ∷ [])) after

-- What was given in all.

-- A drive, plain or not, has given these turns, one for each of these first records of a run to
-- which this was handed in, in order: that record, but for ticks, times, masks, states, losses and
-- values
pub record AreGivenOf (sc : Scenario) (handed : List HandIn) (is_plain : Bool) (told since : Option (List Turn)) (turns : List Turn) (records : List Record) : Type 0 where
  pub first : IsPrefix records (records_of sc handed)
  pub alike : map bare turns ≡ map (λ r. bare (turn_of r)) records
  pub plain : is_plain ≡ true → turns ≡ map turn_of records
  pub tells : TellsAll told since turns

-- all turns of a run were given
pub record RunsOut (sc : Scenario) (handed : List HandIn) (is_plain : Bool) (told since : Option (List Turn)) : Type 0 where
  pub turns : List Turn
  pub given : AreGivenOf sc handed is_plain told since turns (records_of sc handed)

-- The first turns of the run of the bus on a bank were given. If both drives are plain, it was
-- handed what the bridge carries, up to the start of a frame, and they are the first of the run
-- with all that the bridge carries
pub record GivesSome (b : Bridge) (bank : Bank) (both : Bool) (d : SeenDrive) : Type 0 where
  pub frame : ℕ
  pub handed : List HandIn
  pub turns : List Turn
  pub records : List Record
  pub given : AreGivenOf (bus_on b bank) handed d.is_plain d.told d.since turns records
  pub plain : both ≡ true → handed ≡ hands_on bank (hands_up_to b frame)
  pub crosses : both ≡ true → IsPrefix records (records_on b (hands_of b) bank)

-- All turns of the run of the bus on a bank were given, with what it was handed up to the start of
-- this frame. If both drives are plain, that is the run with all that the bridge carries
pub record GivesAll (b : Bridge) (bank : Bank) (frame : ℕ) (both : Bool) (d : SeenDrive) : Type 0 where
  pub handed : List HandIn
  pub turns : List Turn
  pub given : AreGivenOf (bus_on b bank) handed d.is_plain d.told d.since turns (records_of (bus_on b bank) handed)
  pub plain : both ≡ true → handed ≡ hands_on bank (hands_up_to b frame)
  pub crosses : both ≡ true → records_of (bus_on b bank) handed ≡ records_on b (hands_of b) bank
