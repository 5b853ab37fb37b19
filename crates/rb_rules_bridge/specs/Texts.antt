-- What is said of a bridge, frame by frame.
use Rattle.std.specs.{Prelude.{ℕ, zero, suc, ◌+◌, ◌-◌, ◌==◌, if◌then◌else◌, Option, Some, None, List, [], ◌∷◌, ◌++◌, codes}, Fmt.decimal, List.flat_map, Option.option_or}
use Rattle.rb_base.specs.{Counting.numbers, Nodes.Side.Biu, Sizes.Sizes, declared.values.Heard.Heard, declared.values.Place.Place}
use Rattle.rb_rules.specs.{declared.cause.Cause.Cause, Book.Record, Book.Record.{Frame, Slot, Ended, Breach}, Goodness.is_good}
use Rattle.rb_report.specs.Report.{cause_text, end_text, heard_text, line_of, node_text}
use Rattle.rb_rules_bridge.specs.{declared.bank.Bank.Bank, declared.bank.Bank.TheVariants.{Left, Right}, Bridges.{Bridge, bus_on}, Crossings.{crossing_value, hands_of, records_on}}
use Rattle.rb_base.specs.declared.node.NodeName.TheVariants as node

-- Lines.

abbrev pub bank_text : Bank → List ℕ
bank_text Left = codes "left"
bank_text Right = codes "right"

-- x FRAME BANK RECEIVER WORD
abbrev pub cross_text : ℕ → Bank → ℕ → Heard → List ℕ
cross_text frame bank receiver value =
    line_of (codes "x") (decimal frame ∷ bank_text bank ∷ node_text (node.Biu receiver) ∷ heard_text value ∷ [])

-- breach BANK FRAME SLOT STAGE CAUSE
abbrev pub side_breach_text : Bank → Place → Cause → List ℕ
side_breach_text bank place cause =
    line_of (codes "breach") (bank_text bank ∷ decimal place.frame ∷ decimal place.slot ∷ decimal place.stage ∷ cause_text cause ∷ [])

-- Breaches.

-- a breach of the fault premise on one of the buses
pub record Break : Type 0 where
  pub bank : Bank
  pub place : Place
  pub cause : Cause

-- the breach in a frame of the bus on a bank that a record tells, if it does
abbrev pub break_told : Bank → ℕ → Record → Option Break
break_told bank frame (Frame f nodes ports) = None
break_told bank frame (Slot f slot lines) = None
break_told bank frame Ended = None
break_told bank frame (Breach place cause) = if place.frame == frame then Some (record { bank = bank; place = place; cause = cause }) else None

-- the breach that records tell of a frame
abbrev pub break_in : Bank → ℕ → List Record → Option Break
break_in bank frame [] = None
break_in bank frame (r ∷ rs) = option_or (break_told bank frame r) (break_in bank frame rs)

-- the breach in a frame, that of the left bus first
abbrev pub break_at : Bridge → ℕ → Option Break
break_at b frame =
    option_or (break_in Left frame (records_on b (hands_of b) Left)) (break_in Right frame (records_on b (hands_of b) Right))

-- The text.

abbrev pub last_data_slot : Sizes → ℕ
last_data_slot sizes = sizes.bius + sizes.data_slots - 1

-- the line of a BIU, if it is good in the last data slot of the frame
abbrev pub receiver_text : Bridge → ℕ → Bank → ℕ → List ℕ
receiver_text b frame bank i =
    if is_good (bus_on b bank) Biu i frame (last_data_slot (bus_on b bank).sizes) then cross_text frame bank i (crossing_value b bank frame i) else []

-- the lines of a bank, by BIU
abbrev pub receivers_text : Bridge → ℕ → Bank → List ℕ
receivers_text b frame bank = flat_map (receiver_text b frame bank) (numbers (bus_on b bank).sizes.bius)

-- the lines of a frame, the left bank's first. Nothing has crossed in the first frame
abbrev pub frame_text : Bridge → ℕ → List ℕ
frame_text b zero = []
frame_text b (suc frame) = receivers_text b (suc frame) Left ++ receivers_text b (suc frame) Right

-- the text of a frame and of those after it: its lines and theirs, or its breach as the last
abbrev pub text_with : List ℕ → List ℕ → Option Break → List ℕ
text_with lines others None = lines ++ others
text_with lines others (Some break) = side_breach_text break.bank break.place break.cause

-- the text of a number of frames from `frame` on
abbrev pub text_from : Bridge → ℕ → ℕ → List ℕ
text_from b frame zero = end_text frame
text_from b frame (suc frames) = text_with (frame_text b frame) (text_from b (frame + 1) frames) (break_at b frame)

-- all that is said of the bridge
abbrev pub bridge_text : Bridge → List ℕ
bridge_text b = text_from b 0 b.left.frames

-- How it ends.

-- the first breach in a number of frames from `frame` on
abbrev pub break_from : Bridge → ℕ → ℕ → Option Break
break_from b frame zero = None
break_from b frame (suc frames) = option_or (break_at b frame) (break_from b (frame + 1) frames)

-- the breach with which the bridge's text ends, if it does
abbrev pub break_of : Bridge → Option Break
break_of b = break_from b 0 b.left.frames
