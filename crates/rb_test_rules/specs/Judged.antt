-- Stages of a frame as they are judged: four trusted BIUs, of which two are good, and three RMUs,
-- all good.
use Rattle.std.specs.Prelude.{ℕ, ◌==◌, if◌then◌else◌}
use Rattle.rb_base.specs.{declared.values.Heard.TheVariants.{Word, Fault}, declared.values.See.See, declared.values.See.TheVariants.{Nothing, Value, Time}}
use Rattle.rb_rules.specs.Judging.{JudgedStage, by_kind}

-- each RMU sees this of each BIU, and the BIUs see nothing
abbrev pub stage_with : (ℕ → ℕ → See) → JudgedStage
stage_with sight = record {
  good = by_kind 3 7;
  trusted = by_kind 15 7;
  eps = 10;
  sight = by_kind (λ i j. Nothing) sight;
}

-- all see a word of this BIU, and nothing of the others
abbrev pub word_of : ℕ → JudgedStage
word_of k = stage_with (λ i j. if j == k then Value (Word 1) else Nothing)

-- RMU 0 alone sees it
abbrev pub word_of_for_one : ℕ → JudgedStage
word_of_for_one k = stage_with (λ i j. if j == k then (if i == 0 then Value (Word 1) else Nothing) else Nothing)

abbrev pub silence : JudgedStage
silence = stage_with (λ i j. Nothing)

-- calls of BIU 2 at these times at RMU 0 and at the others
abbrev pub calls_at : ℕ → ℕ → JudgedStage
calls_at first others = stage_with (λ i j. if j == 2 then Time (if i == 0 then first else others) else Nothing)

-- RMU 0 alone sees a call of BIU 2
abbrev pub call_at_one : JudgedStage
call_at_one = stage_with (λ i j. if j == 2 then (if i == 0 then Time 5 else Nothing) else Nothing)

-- all RMUs see a Fault of BIU 2
abbrev pub fault_at_all : JudgedStage
fault_at_all = stage_with (λ i j. if j == 2 then Value Fault else Nothing)
