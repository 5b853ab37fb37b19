-- What is proved of a bridge: what is handed in comes from the records as they are in the end, and
-- words cross.
use Rattle.std.specs.Prelude.{ℕ, ◌≡◌, ◌⊎◌, ◌+◌, ◌<◌, ◌≤◌, ◌==◌, ◌&&◌, not, All, Bool, true, false, Option, Some, None, is_some, List, [], ◌∷◌, ◌++◌, filter}
use Rattle.rb_base.specs.{Counting.count_if, Nodes.Side.Biu, Sizes.sync_slot_of, declared.values.Heard.TheVariants.Word}
use Rattle.rb_rules.specs.{Book.Record, Book.Record.{Frame, Slot, Ended, Breach}, Goodness.{Scenario, is_good}, Lawful.IsLawful, Moments.IsComplete, Ports.HandIn, Rounds.records_of, WorldStep.{IsPrefix, frame_in}}
use Rattle.rb_laws_agreement.specs.Histories.{delivered_in}
use Rattle.rb_group.specs.{Portions.{port_deliveries, value_at}, declared.voters.Which.TheVariants.Most}
use Rattle.rb_laws_groups.specs.Laws.{IsSchedule, first_slot}
use Rattle.rb_rules_bridge.specs.{declared.bank.Bank.Bank, declared.bank.Pair.Pair, Bridges.{Bridge, IsBridge, across, biu_on, bus_on, carried_slot, members_on}, Crossings.{carried_to, crossing_value, hands_of, hands_on, hands_up_to, records_on, value_told, word_of}, Texts.break_in}

-- What is handed in.

-- what is handed in for later frames changes nothing that a port delivers in a frame, nor a breach
-- in it
pub record TellsTheSame (sc : Scenario) (hands more : List HandIn) (frame : ℕ) : Type 0 where
  pub deliveries : (receiver : ℕ) → port_deliveries frame receiver (records_of sc (hands ++ more)) ≡ port_deliveries frame receiver (records_of sc hands)
  pub breach : (bank : Bank) → break_in bank frame (records_of sc (hands ++ more)) ≡ break_in bank frame (records_of sc hands)

abbrev pub LaterHandInsTellNothing : Type 0
LaterHandInsTellNothing =
    (sc : Scenario) (hands more : List HandIn) (frame : ℕ) → All (λ h. frame < h.frame) more → TellsTheSame sc hands more frame

-- what is said of a frame of a bridge, and what it carries over, depends only on what was handed in
-- up to its start
pub record GoesByTheEarlier (b : Bridge) (bank : Bank) (frame : ℕ) : Type 0 where
  pub values : (receiver : ℕ) → crossing_value b bank frame receiver
      ≡ value_at Most (members_on b bank) (records_on b (hands_up_to b frame) bank) frame receiver
  pub breach : break_in bank frame (records_on b (hands_of b) bank) ≡ break_in bank frame (records_on b (hands_up_to b frame) bank)
  pub carried : carried_to b (hands_of b) bank frame ≡ carried_to b (hands_up_to b frame) bank frame

abbrev pub FramesGoByTheEarlier : Type 0
FramesGoByTheEarlier = (b : Bridge) (bank : Bank) (frame : ℕ) → frame ≤ b.left.frames → GoesByTheEarlier b bank frame

-- what is handed in for a frame is what the frame before it carries over, by the records of both
-- buses with all that is handed in
abbrev pub HandInsAreCarried : Type 0
HandInsAreCarried =
    (b : Bridge) (bank : Bank) (frame : ℕ) → frame < b.left.frames
    → filter (λ h. h.frame == frame + 1) (hands_on bank (hands_of b)) ≡ carried_to b (hands_of b) bank frame

-- the frame of a record. That of the end is the one after all `frames` of the run
abbrev pub frame_told : ℕ → Record → ℕ
frame_told frames (Frame frame nodes ports) = frame
frame_told frames (Slot frame slot lines) = frame
frame_told frames Ended = frames
frame_told frames (Breach place cause) = place.frame

-- `records` tell the deliveries and the breach of a frame as all records of the run tell them
pub record TellAll (sc : Scenario) (hands : List HandIn) (frame : ℕ) (records : List Record) : Type 0 where
  pub deliveries : (receiver : ℕ) → port_deliveries frame receiver records ≡ port_deliveries frame receiver (records_of sc hands)
  pub breach : (bank : Bank) → break_in bank frame records ≡ break_in bank frame (records_of sc hands)

-- once a record of a later frame is given, all is told of a frame
abbrev pub FramesAreToldInOrder : Type 0
FramesAreToldInOrder =
    (sc : Scenario) (hands : List HandIn) (records rest : List Record) (r : Record) (frame : ℕ)
    → records_of sc hands ≡ records ++ r ∷ rest → frame < frame_told sc.frames r → TellAll sc hands frame (records ++ r ∷ [])

-- the record is the last of a run
abbrev pub ends_run : Record → Bool
ends_run (Frame frame nodes ports) = false
ends_run (Slot frame slot lines) = false
ends_run Ended = true
ends_run (Breach place cause) = true

-- no BIU is good at a frame's start, and the run ends with this record of the frame
pub record EndsDeserted (sc : Scenario) (frame : ℕ) (r : Record) : Type 0 where
  pub nobody : (i : ℕ) → is_good sc Biu i frame 0 ≡ false
  pub last : ends_run r ≡ true
  pub its : frame_told sc.frames r ≡ frame

-- the frame begins with this record; or no BIU is good at its start, and the run ends
abbrev pub BeginsOrEnds : Scenario → ℕ → Record → Type 0
BeginsOrEnds sc frame r = (frame_in (Some r) ≡ Some frame) ⊎ EndsDeserted sc frame r

-- each of the records is of this frame, or of an earlier one
abbrev pub AreUpTo : ℕ → ℕ → List Record → Type 0
AreUpTo frames frame records = (before after : List Record) (r : Record) → records ≡ before ++ r ∷ after → frame_told frames r ≤ frame

-- the first record of a later frame is the one with which the next frame begins; or it is the last
-- record, and no BIU is good at the start of the next frame
abbrev pub FramesBeginInOrder : Type 0
FramesBeginInOrder =
    (sc : Scenario) → IsLawful sc → (hands : List HandIn) (records rest : List Record) (r : Record) (frame : ℕ)
    → records_of sc hands ≡ records ++ r ∷ rest → AreUpTo sc.frames frame records → frame < frame_told sc.frames r → frame < sc.frames
    → BeginsOrEnds sc (frame + 1) r

-- `records` are the first records of a run. If the last of them ends a run, they are all
pub record AreFirstOf (records run : List Record) : Type 0 where
  pub first : IsPrefix records run
  pub whole : (before : List Record) (r : Record) → records ≡ before ++ r ∷ [] → ends_run r ≡ true → run ≡ records

-- the first records of a run, up to a frame, stay the first, whatever is handed in for later frames
abbrev pub EarlierRecordsStay : Type 0
EarlierRecordsStay =
    (sc : Scenario) (hands more : List HandIn) (records : List Record) (frame : ℕ) → All (λ h. frame < h.frame) more
    → IsPrefix records (records_of sc hands) → AreUpTo sc.frames frame records → AreFirstOf records (records_of sc (hands ++ more))

-- What a pair carries.

-- in a complete slot, a BIU that is good there delivers what the bus does
abbrev pub GoodBiusTellTheBus : Type 0
GoodBiusTellTheBus =
    (sc : Scenario) (hands : List HandIn) → IsLawful sc → (frame slot : ℕ) → slot < sync_slot_of sc.sizes → IsComplete sc hands frame slot
    → (i : ℕ) → is_good sc Biu i frame slot ≡ true → value_told frame slot (records_of sc hands) i ≡ delivered_in sc hands frame slot

-- a BIU that is not good delivers nothing, so a pair carries 0 from it
abbrev pub OtherBiusTellNothing : Type 0
OtherBiusTellNothing =
    (sc : Scenario) (hands : List HandIn) → IsLawful sc → (frame slot i : ℕ) → is_good sc Biu i frame slot ≡ false
    → value_told frame slot (records_of sc hands) i ≡ None

-- Words cross.

-- no breach of either bus comes up to the end of a frame
abbrev pub AreUnbroken : Bridge → ℕ → Type 0
AreUnbroken b frame = (bank : Bank) → IsComplete (bus_on b bank) (hands_on bank (hands_of b)) frame (sync_slot_of (bus_on b bank).sizes)

-- BIU i is good in the whole frame
abbrev pub is_good_through : Scenario → ℕ → ℕ → Bool
is_good_through sc frame i = is_good sc Biu i frame (sync_slot_of sc.sizes)

-- the pair's BIU on a bank owns a data slot by this schedule
abbrev pub counts_on : Bridge → Bank → (ℕ → Option ℕ) → Pair → Bool
counts_on b bank owner pair = is_some (first_slot (bus_on b bank).sizes owner (biu_on bank pair))

-- the pair counts, its BIU on this bank is good in the whole frame after this one, and its BIU
-- across the bridge is good in this whole frame
abbrev pub is_sound : Bridge → Bank → (ℕ → Option ℕ) → ℕ → Pair → Bool
is_sound b bank owner frame pair =
    counts_on b bank owner pair && (is_good_through (bus_on b bank) (frame + 1) (biu_on bank pair)
    && is_good_through (bus_on b (across bank)) frame (biu_on (across bank) pair))

-- sound pairs outnumber the others that count
unfoldable pub SoundPairsOutnumber : Bridge → Bank → (ℕ → Option ℕ) → ℕ → Type 0
SoundPairsOutnumber b bank owner frame =
    count_if (λ pair. counts_on b bank owner pair && not (is_sound b bank owner frame pair)) b.pairs < count_if (is_sound b bank owner frame) b.pairs

-- the word that the bus on a bank delivered in its carried slot of a frame, or 0 if it delivered
-- none
abbrev pub word_on : Bridge → Bank → ℕ → ℕ
word_on b bank frame = word_of (delivered_in (bus_on b bank) (hands_on bank (hands_of b)) frame (carried_slot b bank))

-- if no breach of either bus comes up to the end of the next frame, and in it the sound pairs
-- outnumber the others that count on a bank, each BIU on this bank that is good in all of that
-- frame finds the word that the bus across the bridge delivered in this frame
abbrev pub WordsCrossOn : Bridge → Type 0
WordsCrossOn b =
    (bank : Bank) (frame : ℕ) → AreUnbroken b (frame + 1)
    → (owner : ℕ → Option ℕ) → IsSchedule (bus_on b bank) (hands_on bank (hands_of b)) (frame + 1) owner
    → SoundPairsOutnumber b bank owner frame
    → (receiver : ℕ) → is_good_through (bus_on b bank) (frame + 1) receiver ≡ true
    → crossing_value b bank (frame + 1) receiver ≡ Word (word_on b (across bank) frame)

abbrev pub WordsCross : Type 0
WordsCross = (b : Bridge) → IsBridge b → WordsCrossOn b
