-- Both buses of a bridge, from frame to frame.
use Rattle.std.specs.{Prelude.{ℕ, ◌≡◌, ◌+◌, ◌<◌, Bool, true, false, Option, Some, None, List, Result, IfOk, OnErr}, Io.KnownBytes.Appends}
use Rattle.rb_base.specs.declared.values.Delivery.{Delivery}
use Rattle.rb_world_book.specs.{Records.record_of, declared.turn.Turn.Turn}
use Rattle.rb_outside.specs.Bytes.{AppendsPart}
use Rattle.rb_run.specs.{declared.ending.Ending.Ending, Seen.{SeenDrive, drive_of}}
use Rattle.rb_world.specs.Nexts.{is_last}
use Rattle.rb_group.specs.{Groups.group_value, declared.voters.Which.TheVariants.Most}
use Rattle.rb_group_run.specs.Holding.{HoldPortions, IsScopeOf}
use Rattle.rb_bridge.specs.{Passing.IsOnItsWay, Refusals.bank_of, declared.side.Side.Side, declared.telling.Breach.Breach, Sides.{AfterFrame, AreUnbroken, BeforeFrame, GivesAll, GivesSome, HasOpened}}
use Rattle.rb_rules_bridge.specs.{declared.bank.Bank.Bank, declared.bank.Bank.TheVariants.{Left, Right}, declared.bank.Pair.Pair, Bridges.{Bridge, IsBridge, bus_on, members_on, slot_on}, Crossings.crossing_value, Texts.{Break, break_at, break_of, bridge_text, frame_text, side_breach_text}}
use Rattle.rb_run.specs.declared.ending.Ending.TheVariants as ending

-- What is said.

-- the breach that a found one shows
abbrev pub shown : Breach → Break
shown x = record { bank = bank_of x.right; place = x.place; cause = x.cause }

-- what is said of a frame: its lines, or its breach
abbrev pub told_text : Bridge → ℕ → Option Break → List ℕ
told_text b frame None = frame_text b frame
told_text b frame (Some break) = side_breach_text break.bank break.place break.cause

-- what is kept of a bus tells what each of its receivers finds in a frame
pub record Finds (b : Bridge) (bank : Bank) (frame : ℕ) (s : Side) : Type 0 where
  pub scope_is : IsScopeOf (bus_on b bank) s.scope
  pub frame_is : s.passage.ports.frame ≡ frame
  pub told : ℕ → List Delivery
  pub holds : HoldPortions (members_on b bank) told s.passage.ports.groups
  pub values : (i : ℕ) → group_value Most (members_on b bank) (told i) ≡ crossing_value b bank frame i

pub record FindBoth (b : Bridge) (frame : ℕ) (l r : Side) : Type 0 where
  pub left : Finds b Left frame l
  pub right : Finds b Right frame r

-- What is seen of the drives.

-- what is seen of both drives
pub record Drives : Type 0 where
  pub left : SeenDrive
  pub right : SeenDrive

-- both drives over a call, by what each was before it and after it
abbrev pub drives_over : {D : Type 0} → (D → Bool) → (D → Option (List Turn)) → D → D → D → D → Drives
drives_over is_plain told l l' r r' = record { left = drive_of (is_plain l) (told l) (told l'); right = drive_of (is_plain r) (told r) (told r') }

-- both drives before a call
abbrev pub drives_now : {D : Type 0} → (D → Bool) → (D → Option (List Turn)) → D → D → Drives
drives_now is_plain told l r = drives_over is_plain told l l r r

-- if `both` is true, both are plain
pub record ArePlain (both lp rp : Bool) : Type 0 where
  pub left : both ≡ true → lp ≡ true
  pub right : both ≡ true → rp ≡ true

-- a run of a bridge, with what is seen of its drives. If `both` is true, both are plain
pub record BridgeRun : Type 0 where
  pub b : Bridge
  pub both : Bool
  pub left : SeenDrive
  pub right : SeenDrive

-- the run of this bridge with these drives
abbrev pub run_of : Bridge → Bool → SeenDrive → SeenDrive → BridgeRun
run_of b both left right = record { b = b; both = both; left = left; right = right }

-- Both sides.

-- both sides go into a frame
pub record AreReady (x : BridgeRun) (frame : ℕ) (l r : Side) : Type 0 where
  pub left : BeforeFrame x.b Left frame x.both x.left l
  pub right : BeforeFrame x.b Right frame x.both x.right r

-- both sides have gone through a frame
pub record AreThrough (x : BridgeRun) (frame : ℕ) (l r : Side) : Type 0 where
  pub left : AfterFrame x.b Left frame x.both x.left l
  pub right : AfterFrame x.b Right frame x.both x.right r
  pub unbroken : AreUnbroken frame l r

-- both sides belong to a bridge with these pairs, and have gone through a frame. With two plain
-- drives, the frame has no breach
pub record HaveCrossed (x : BridgeRun) (pairs : List Pair) (frame : ℕ) (l r : Side) : Type 0 where
  pub bridge : IsBridge x.b
  pub pairs_are : x.b.pairs ≡ pairs
  pub within : frame < x.b.left.frames
  pub plain : ArePlain x.both x.left.is_plain x.right.is_plain
  pub left : AfterFrame x.b Left frame x.both x.left l
  pub right : AfterFrame x.b Right frame x.both x.right r
  pub unbroken : x.both ≡ true → AreUnbroken frame l r

-- the drives of both sides gave the first turns of their runs
pub record GiveSome (x : BridgeRun) : Type 0 where
  pub left : GivesSome x.b Left x.both x.left
  pub right : GivesSome x.b Right x.both x.right

-- the drives of both sides gave all turns of their runs, with what these were handed up to the
-- start of this frame
pub record GiveAll (x : BridgeRun) (frame : ℕ) : Type 0 where
  pub left : GivesAll x.b Left frame x.both x.left
  pub right : GivesAll x.b Right frame x.both x.right

-- the drive of one bank gave all turns of its run
abbrev pub GivesAllOn : BridgeRun → ℕ → Bank → Type 0
GivesAllOn x frame Left = GivesAll x.b Left frame x.both x.left
GivesAllOn x frame Right = GivesAll x.b Right frame x.both x.right

-- A frame.

-- a drive may be asked for the turns of a frame
pub record MayGoOn (d : Drives) (l r : Side) : Type 0 where
  pub left : is_last (record_of l.turn) ≡ false → IsOnItsWay d.left.is_plain d.left.since l.world l.terms l.passage
  pub right : is_last (record_of r.turn) ≡ false → IsOnItsWay d.right.is_plain d.right.since r.world r.terms r.passage

-- a run of a bridge as a call begins: its sides go into this frame, and its drives had told this at
-- first
pub record AtFrame (frame : ℕ) (d : Drives) (l r : Side) : Type 0 where
  pub b : Bridge
  pub both : Bool
  pub left_told : Option (List Turn)
  pub right_told : Option (List Turn)
  pub bridge : IsBridge b
  pub within : frame < b.left.frames
  pub plain : ArePlain both d.left.is_plain d.right.is_plain
  pub ready : AreReady (run_of b both (drive_of d.left.is_plain left_told d.left.told) (drive_of d.right.is_plain right_told d.right.told)) frame l r

-- the run of the bridge as it is when the call ends
abbrev pub run_after : {frame : ℕ} {d : Drives} {l r : Side} → AtFrame frame d l r → BridgeRun
run_after {frame} {d} {l} {r} x = run_of x.b x.both (drive_of d.left.is_plain x.left_told d.left.since) (drive_of d.right.is_plain x.right_told d.right.since)

-- both sides belong to such a run of a bridge with these pairs
pub record MayCross (pairs : List Pair) (frame : ℕ) (d : Drives) (l r : Side) : Type 0 where
  pub run : AtFrame frame d l r
  pub pairs_are : run.b.pairs ≡ pairs

-- without a breach both sides went through a frame; with this breach its bus gave all of its turns.
-- If both drives are plain, the breach, or none, is that of the frame
pub record GoThrough (x : BridgeRun) (frame : ℕ) (l r : Side) (breach : Option Break) : Type 0 where
  pub some : GiveSome x
  pub through : breach ≡ None → AreThrough x frame l r
  pub broken : (k : Break) → breach ≡ Some k → GivesAllOn x frame k.bank
  pub breach_is : x.both ≡ true → break_at x.b frame ≡ breach

-- a frame has a breach, and the bus that broke off gave all of its turns
pub record BreaksOff (x : BridgeRun) (frame : ℕ) : Type 0 where
  pub break : Break
  pub break_is : x.both ≡ true → break_at x.b frame ≡ Some break
  pub all : GivesAllOn x frame break.bank

-- what is said of a frame was written, and both go on, or there is a breach
pub record CrossesAll (x : BridgeRun) (frame : ℕ) (sides : Side × Side) (held after : Option (List ℕ)) (goes_on : Bool) : Type 0 where
  pub some : GiveSome x
  pub text : x.both ≡ true → Appends held after (told_text x.b frame (break_at x.b frame))
  pub ready : goes_on ≡ true → AreReady x (frame + 1) sides.0 sides.1
  pub unbroken : goes_on ≡ true → x.both ≡ true → break_at x.b frame ≡ None
  pub broken : goes_on ≡ false → BreaksOff x frame

-- a first part of what is said of it was written
pub record CrossesPart (x : BridgeRun) (frame : ℕ) (held after : Option (List ℕ)) : Type 0 where
  pub some : GiveSome x
  pub text : x.both ≡ true → AppendsPart held after (told_text x.b frame (break_at x.b frame))

-- a frame was crossed, or a write failed and a first part was written
pub record Crosses {E : Type 0} (x : BridgeRun) (frame : ℕ) (sides : Side × Side) (held after : Option (List ℕ)) (result : Result Bool E) : Type 0 where
  pub all : IfOk result (CrossesAll x frame sides held after)
  pub part : OnErr result (CrossesPart x frame held after)

-- All frames.

-- the sides of a bridge before its first frame
pub record HaveOpened (b : Bridge) (l r : Side) : Type 0 where
  pub left : HasOpened (bus_on b Left) (members_on b Left) (slot_on b Left) l
  pub right : HasOpened (bus_on b Right) (members_on b Right) (slot_on b Right) r

-- the two sides belong to a bridge with these pairs and this number of frames
pub record MayBegin (pairs : List Pair) (frames : ℕ) (l r : Side) : Type 0 where
  pub b : Bridge
  pub bridge : IsBridge b
  pub pairs_are : b.pairs ≡ pairs
  pub frames_are : b.left.frames ≡ frames
  pub opened : HaveOpened b l r

-- The bridge ends so. Without a breach both buses gave all their turns; if both drives are plain,
-- each was handed all that crosses. With a breach its bus gave all its turns; if both drives are
-- plain, the breach is that of the bridge, and the bus was handed what crosses up to the start of
-- some frame
abbrev pub EndsAs : BridgeRun → Ending → Type 0
EndsAs x ending.Ended =
    (x.both ≡ true → break_of x.b ≡ None) × GiveAll x x.b.left.frames
EndsAs x ending.Breach =
    (k : Break) × ((x.both ≡ true → break_of x.b ≡ Some k) × ((frame : ℕ) × GivesAllOn x frame k.bank))

-- all that is said of the bridge was written, if both drives are plain. The drives gave turns of
-- its runs, and the bridge ended so
pub record WritesAll (x : BridgeRun) (held after : Option (List ℕ)) (e : Ending) : Type 0 where
  pub some : GiveSome x
  pub text : x.both ≡ true → Appends held after (bridge_text x.b)
  pub ends : EndsAs x e

-- a first part of what is said of the bridge was written
pub record WritesPart (x : BridgeRun) (held after : Option (List ℕ)) : Type 0 where
  pub some : GiveSome x
  pub text : x.both ≡ true → AppendsPart held after (bridge_text x.b)

-- all that is said of the bridge was written, or a first part of it if a write failed
pub record Writes {E : Type 0} (b : Bridge) (d : Drives) (held after : Option (List ℕ)) (result : Result Ending E) : Type 0 where
  pub all : (both : Bool) → ArePlain both d.left.is_plain d.right.is_plain → IfOk result (WritesAll (run_of b both d.left d.right) held after)
  pub part : (both : Bool) → ArePlain both d.left.is_plain d.right.is_plain → OnErr result (WritesPart (run_of b both d.left d.right) held after)
