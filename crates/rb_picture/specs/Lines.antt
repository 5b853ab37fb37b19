-- A report as a list of lines: how a line is spelled, and which lists of lines are a report.
use Rattle.std.specs.{Prelude.{⊤, ℕ, ◌≡◌, ◌≢◌, ◌+◌, ◌*◌, ◌^◌, ◌<◌, ◌≤◌, nat_lt, ◌&&◌, Bool, true, List, [], ◌∷◌, ◌++◌, length, take, codes, Some, Result, Ok}, Fmt.decimal, List.flat_map}
use Rattle.rb_base.specs.{declared.node.NodeName.NodeName, declared.node.NodeName.TheVariants.{Biu, Rmu}, declared.values.Place.Place}
use Rattle.rb_report.specs.Report.{epoch_text, convicted_text, port_text, delivery_text, end_text, breach_text, cause_text, heard_text, node_text, with_fields}
use Rattle.rb_picture.specs.{declared.line.ConvictedLine.ConvictedLine, declared.line.DeliveryLine.DeliveryLine, declared.line.EpochLine.EpochLine, declared.line.FramePort.FramePort, declared.line.Line.Line, declared.reading.Fault.Fault, declared.reading.Unreadable.Unreadable, declared.reading.Unreadable.TheVariants.{At, OutOfMemory}, Fields.{HeardFits, NodeFits}}
use Rattle.rb_picture.specs.declared.line.Line.TheVariants as line
use Rattle.rb_picture.specs.declared.reading.Fault.TheVariants as fault

-- the text of a line
abbrev pub line_text : Line → List ℕ
line_text (line.Epoch l) = epoch_text l.frame l.node l.tick (Some l.time)
line_text (line.Convicted l) = convicted_text l.frame l.node l.biu l.rmu
line_text (line.Port l) = port_text l.frame l.biu l.state l.losses
line_text (line.Delivery l) = delivery_text l.frame l.slot l.receiver l.sender l.value
line_text (line.End frames) = end_text frames
line_text (line.Breach place cause) = breach_text place cause

-- a line's first word, and its other fields
abbrev pub line_word : Line → List ℕ
line_word (line.Epoch l) = codes "e"
line_word (line.Convicted l) = codes "c"
line_word (line.Port l) = codes "p"
line_word (line.Delivery l) = codes "d"
line_word (line.End frames) = codes "end"
line_word (line.Breach place cause) = codes "breach"

abbrev pub line_parts : Line → List (List ℕ)
line_parts (line.Epoch l) = decimal l.frame ∷ node_text l.node ∷ decimal l.tick ∷ decimal l.time ∷ []
line_parts (line.Convicted l) = decimal l.frame ∷ node_text l.node ∷ decimal l.biu ∷ decimal l.rmu ∷ []
line_parts (line.Port l) = decimal l.frame ∷ node_text (Biu l.biu) ∷ decimal l.state ∷ decimal l.losses ∷ []
line_parts (line.Delivery l) = decimal l.frame ∷ decimal l.slot ∷ node_text (Biu l.receiver) ∷ node_text (Biu l.sender) ∷ heard_text l.value ∷ []
line_parts (line.End frames) = decimal frames ∷ []
line_parts (line.Breach place cause) = decimal place.frame ∷ decimal place.slot ∷ decimal place.stage ∷ cause_text cause ∷ []

-- the line without its line feed
abbrev pub line_body : Line → List ℕ
line_body l = with_fields (line_word l) (line_parts l)

-- the text of lines in order
abbrev pub text_of_lines : List Line → List ℕ
text_of_lines lines = flat_map line_text lines

-- the numbers of a line are such as a bus has
pub record EpochFits (l : EpochLine) : Type 0 where
  pub frame_fits : l.frame < 2 ^ 32
  pub node_fits : NodeFits l.node
  pub tick_fits : l.tick < 2 ^ 64
  pub time_fits : l.time < 2 ^ 64

pub record ConvictedFits (l : ConvictedLine) : Type 0 where
  pub frame_fits : l.frame < 2 ^ 32
  pub node_fits : NodeFits l.node
  pub biu_fits : l.biu < 2 ^ 16
  pub rmu_fits : l.rmu < 2 ^ 16

pub record PortFits (l : FramePort) : Type 0 where
  pub frame_fits : l.frame < 2 ^ 32
  pub biu_fits : l.biu < 16
  pub state_fits : l.state < 2 ^ 64
  pub losses_fit : l.losses < 2 ^ 8

pub record DeliveryFits (l : DeliveryLine) : Type 0 where
  pub frame_fits : l.frame < 2 ^ 32
  pub slot_fits : l.slot < 2 ^ 16
  pub receiver_fits : l.receiver < 16
  pub sender_fits : l.sender < 16
  pub value_fits : HeardFits l.value

pub record PlaceFits (place : Place) : Type 0 where
  pub frame_fits : place.frame < 2 ^ 32
  pub slot_fits : place.slot < 2 ^ 16
  pub stage_fits : place.stage < 2 ^ 8

abbrev pub Fits : Line → Type 0
Fits (line.Epoch l) = EpochFits l
Fits (line.Convicted l) = ConvictedFits l
Fits (line.Port l) = PortFits l
Fits (line.Delivery l) = DeliveryFits l
Fits (line.End frames) = frames < 2 ^ 32
Fits (line.Breach place cause) = PlaceFits place

-- all of these lines are such
abbrev pub AllFit : List Line → Type 0
AllFit [] = ⊤
AllFit (l ∷ lines) = Fits l × AllFit lines

-- a node's place among those of its bus: BIUs before RMUs
abbrev pub node_place : NodeName → ℕ
node_place (Biu i) = i
node_place (Rmu i) = 256 + i

-- a line's place in a report: by frame, then by kind, then by slot, then by node
abbrev pub place_of : ℕ → ℕ → ℕ → ℕ → ℕ
place_of frame kind slot node = ((frame * 4 + kind) * 65536 + slot) * 512 + node + 1

-- the place of the last line: behind all others
abbrev pub last_place : ℕ
last_place = 2 ^ 60

-- the place of a line
abbrev pub line_place : Line → ℕ
line_place (line.Epoch l) = place_of l.frame 0 0 (node_place l.node)
line_place (line.Convicted l) = place_of l.frame 1 0 (node_place l.node)
line_place (line.Port l) = place_of l.frame 2 0 l.biu
line_place (line.Delivery l) = place_of l.frame 3 l.slot l.receiver
line_place (line.End frames) = last_place
line_place (line.Breach place cause) = last_place

-- each line stands behind the one before it, and the first behind this place
abbrev pub ascend : ℕ → List Line → Bool
ascend from [] = true
ascend from (l ∷ lines) = nat_lt from (line_place l) && ascend (line_place l) lines

-- the place of the last of these lines, or `from` if there is none
abbrev pub end_of : ℕ → List Line → ℕ
end_of from [] = from
end_of from (l ∷ lines) = end_of (line_place l) lines

-- the bytes are the text of these lines, each in its place, and the last one tells how the run
-- ended
pub record IsReport (bytes : List ℕ) (lines : List Line) : Type 0 where
  pub spelled : bytes ≡ text_of_lines lines
  pub in_order : ascend 0 lines ≡ true
  pub ended : end_of 0 lines ≡ last_place

-- the bytes begin with the text of line `l`, which has `number` bytes and a place behind `newest`
pub record StandsFirst (bytes : List ℕ) (newest : ℕ) (l : Line) (number : ℕ) : Type 0 where
  pub spelled : take number bytes ≡ line_text l
  pub some_byte : 0 < number
  pub within : number ≤ length bytes
  pub behind : newest < line_place l

-- the bytes begin with a line whose place is not behind this one
pub record BeginsTooEarly (bytes : List ℕ) (newest : ℕ) : Type 0 where
  pub line : Line
  pub tail : List ℕ
  pub spelled : bytes ≡ line_text line ++ tail
  pub too_early : line_place line ≤ newest

-- the bytes begin with the text of no line of a bus
abbrev pub BeginsWithNoLine : List ℕ → Type 0
BeginsWithNoLine bytes = (l : Line) (tail : List ℕ) → Fits l → bytes ≢ line_text l ++ tail

-- if the bytes begin with a line of a bus whose place is behind this one, it is found, with the
-- number of its bytes
abbrev pub FindsEach : List ℕ → ℕ → Result (Line × ℕ) Fault → Type 0
FindsEach bytes newest result = (l : Line) (tail : List ℕ) → Fits l → bytes ≡ line_text l ++ tail → newest < line_place l → result ≡ Ok (l, length (line_text l))

-- the first `number` bytes are the text of these lines, each in its place, and `newest` is the
-- place of the last one
pub record SoFar (bytes : List ℕ) (number : ℕ) (lines : List Line) (newest : ℕ) : Type 0 where
  pub within : number ≤ length bytes
  pub spelled : take number bytes ≡ text_of_lines lines
  pub in_order : ascend 0 lines ≡ true
  pub last : newest ≡ end_of 0 lines

-- what is wrong with what stands behind the lines that end at a place
abbrev pub FailsBehind : ℕ → Fault → List ℕ → Type 0
FailsBehind end fault.NoLine rest = (rest ≢ []) × BeginsWithNoLine rest
FailsBehind end fault.OutOfOrder rest = BeginsTooEarly rest end
FailsBehind end fault.NoEnd rest = (rest ≡ []) × (end ≢ last_place)

-- no lines of a bus are a report that has these bytes
abbrev pub IsNoReport : List ℕ → Type 0
IsNoReport bytes = (lines : List Line) → AllFit lines → ¬ IsReport bytes lines

-- the lines before this one, by number from 1, are in order; with it the bytes cease to be a report
-- for this cause
pub record FailsAt (bytes : List ℕ) (number : ℕ) (cause : Fault) : Type 0 where
  pub lines : List Line
  pub rest : List ℕ
  pub numbered : number ≡ length lines + 1
  pub spelled : bytes ≡ text_of_lines lines ++ rest
  pub in_order : ascend 0 lines ≡ true
  pub fails : FailsBehind (end_of 0 lines) cause rest
  pub no_report : IsNoReport bytes

-- why there is no list of lines
abbrev pub Explains : List ℕ → Unreadable → Type 0
Explains bytes (At number cause) = FailsAt bytes number cause
Explains bytes OutOfMemory = ⊤
