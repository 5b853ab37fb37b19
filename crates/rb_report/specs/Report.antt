-- The lines of a report, as bytes.
use Rattle.std.specs.{Prelude.{ℕ, ℤ, ◌≡◌, ◌≢◌, ◌-◌, ◌/◌, ◌%◌, ◌≤◌, Bool, true, false, List, [], ◌∷◌, ◌++◌, length, slice_index_or, Option, Some, None, is_some, codes, if◌then◌else◌}, Char.digit_char, Fmt.{decimal, signed_decimal}, List.flat_map}
use Rattle.rb_base.specs.{declared.node.NodeName.NodeName, declared.node.NodeName.TheVariants.{Biu, Rmu}, declared.values.Heard.Heard, declared.values.Heard.TheVariants.{Word, Fault}, declared.values.Place.Place}
use Rattle.rb_rules.specs.{declared.cause.Cause.Cause, declared.cause.Cause.TheVariants.{FewGoodBiu, FewGoodRmu, TwoSided}}

-- one field more, after a space
abbrev pub with_field : List ℕ → List ℕ → List ℕ
with_field text field = text ++ (codes " " ++ field)

abbrev pub with_fields : List ℕ → List (List ℕ) → List ℕ
with_fields text [] = text
with_fields text (field ∷ fields) = with_fields (with_field text field) fields

-- a line: its first word, its other fields, each after one space, and a line feed
abbrev pub line_of : List ℕ → List (List ℕ) → List ℕ
line_of word fields = with_fields word fields ++ codes "\n"

-- B or R, and the number
abbrev pub node_text : NodeName → List ℕ
node_text (Biu i) = codes "B" ++ decimal i
node_text (Rmu i) = codes "R" ++ decimal i

-- a word, or none for Fault
abbrev pub heard_text : Heard → List ℕ
heard_text (Word word) = decimal word
heard_text Fault = codes "none"

-- the last field, if there is one
abbrev pub last_field : Option ℕ → List (List ℕ)
last_field None = []
last_field (Some number) = decimal number ∷ []

-- the line e FRAME NODE TICK, and the time if it is known
abbrev pub epoch_text : ℕ → NodeName → ℕ → Option ℕ → List ℕ
epoch_text frame node tick time = line_of (codes "e") (decimal frame ∷ node_text node ∷ decimal tick ∷ last_field time)

-- c FRAME NODE BIUS RMUS
abbrev pub convicted_text : ℕ → NodeName → ℕ → ℕ → List ℕ
convicted_text frame node biu rmu = line_of (codes "c") (decimal frame ∷ node_text node ∷ decimal biu ∷ decimal rmu ∷ [])

-- p FRAME BIU STATE LOSSES
abbrev pub port_text : ℕ → ℕ → ℕ → ℕ → List ℕ
port_text frame biu state losses = line_of (codes "p") (decimal frame ∷ node_text (Biu biu) ∷ decimal state ∷ decimal losses ∷ [])

-- d FRAME SLOT RECEIVER SENDER WORD
abbrev pub delivery_text : ℕ → ℕ → ℕ → ℕ → Heard → List ℕ
delivery_text frame slot receiver sender value =
    line_of (codes "d") (decimal frame ∷ decimal slot ∷ node_text (Biu receiver) ∷ node_text (Biu sender) ∷ heard_text value ∷ [])

-- end FRAMES
abbrev pub end_text : ℕ → List ℕ
end_text frames = line_of (codes "end") (decimal frames ∷ [])

abbrev pub cause_text : Cause → List ℕ
cause_text FewGoodBiu = codes "FewGoodBiu"
cause_text FewGoodRmu = codes "FewGoodRmu"
cause_text TwoSided = codes "TwoSided"

-- breach FRAME SLOT STAGE CAUSE
abbrev pub breach_text : Place → Cause → List ℕ
breach_text place cause =
    line_of (codes "breach") (decimal place.frame ∷ decimal place.slot ∷ decimal place.stage ∷ cause_text cause ∷ [])

-- a rule that an input can break: its name, and whether it is broken at a number
pub record Refusal : Type 0 where
  pub name : List ℕ
  pub has_number : Bool

-- a rule whose name says all
abbrev pub rule : List ℕ → Refusal
rule name = record { name = name; has_number = false }

-- a rule that is broken at a number
abbrev pub rule_with_number : List ℕ → Refusal
rule_with_number name = record { name = name; has_number = true }

-- no rule has the code in this place
abbrev pub no_rule : Refusal
no_rule = rule []

-- the refusals of a scenario, by code from 1
abbrev pub scenario_refusals : List Refusal
scenario_refusals =
    rule (codes "NotToml")
    ∷ rule (codes "MissingKey")
    ∷ rule (codes "UnknownKey")
    ∷ rule (codes "WrongType")
    ∷ rule (codes "OutOfRange")
    ∷ rule_with_number (codes "PlanFails")
    ∷ rule (codes "ClockBounds")
    ∷ rule (codes "DelayBounds")
    ∷ rule (codes "StartApart")
    ∷ rule (codes "SayOfGood")
    ∷ rule (codes "TooMany")
    ∷ rule (codes "NoSuchNode")
    ∷ no_rule
    ∷ rule (codes "NoSuchMember")
    ∷ []

-- the refusals of a log, by code from 1
abbrev pub log_refusals : List Refusal
log_refusals =
    rule (codes "BadMagic")
    ∷ rule_with_number (codes "BadField")
    ∷ rule_with_number (codes "Truncated")
    ∷ rule_with_number (codes "AfterEnd")
    ∷ rule (codes "NotBiu")
    ∷ []

-- the refusals of a log, or of a scenario
abbrev pub refusals : Bool → List Refusal
refusals of_log = if of_log then log_refusals else scenario_refusals

-- the refusal with this code
abbrev pub refusal_of : Bool → ℕ → Refusal
refusal_of of_log code = slice_index_or (refusals of_log) (code - 1) (rule [])

-- a refusal has the code, and a number is given if and only if that refusal has one
pub record IsRefusal (code : ℕ) (detail : Option ℕ) (of_log : Bool) : Type 0 where
  pub least : 1 ≤ code
  pub most : code ≤ length (refusals of_log)
  pub used : code ≢ 13
  pub number : is_some detail ≡ (refusal_of of_log code).has_number

-- the line refused CODE NAME, and the number if there is one
abbrev pub refused_text : ℕ → Option ℕ → Bool → List ℕ
refused_text code detail of_log = line_of (codes "refused") (decimal code ∷ (refusal_of of_log code).name ∷ last_field detail)

-- Cn LEFT RIGHT
abbrev pub side_text : ℕ → ℤ → ℤ → List ℕ
side_text n left right = line_of (codes "C" ++ decimal n) (signed_decimal left ∷ signed_decimal right ∷ [])

-- the summaries of a run, by number from 0
abbrev pub summaries : List (List ℕ)
summaries = codes "frames" ∷ codes "deliveries" ∷ codes "convicted" ∷ codes "spread" ∷ []

-- NAME VALUE
abbrev pub summary_text : ℕ → ℕ → List ℕ
summary_text which value = line_of (slice_index_or summaries which []) (decimal value ∷ [])

-- the two hexadecimal digits of each byte
abbrev pub hex_text : List ℕ → List ℕ
hex_text bytes = flat_map (λ byte. digit_char (byte / 16) ∷ digit_char (byte % 16) ∷ []) bytes

-- m FRAME SLOT RECEIVER SENDER BYTES
abbrev pub letter_text : ℕ → ℕ → ℕ → ℕ → List ℕ → List ℕ
letter_text frame slot receiver sender letter =
    line_of (codes "m") (decimal frame ∷ decimal slot ∷ node_text (Biu receiver) ∷ node_text (Biu sender) ∷ hex_text letter ∷ [])

-- w WORD
abbrev pub word_text : ℕ → List ℕ
word_text word = line_of (codes "w") (decimal word ∷ [])

-- g FRAME RECEIVER WORD
abbrev pub group_text : ℕ → ℕ → Heard → List ℕ
group_text frame receiver value = line_of (codes "g") (decimal frame ∷ node_text (Biu receiver) ∷ heard_text value ∷ [])
