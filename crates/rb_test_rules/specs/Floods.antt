-- A node that says more than any document lists.
use Rattle.std.specs.Prelude.{ℕ, ◌+◌, ◌*◌, ◌==◌, ◌&&◌, [], ◌∷◌, replicate, Some, None, if◌then◌else◌}
use Rattle.rb_rules.specs.{declared.message.Version.TheVariants.One, Behavior.{Behavior, Said, Span}, Entries.message_at, Goodness.Scenario, Spelling.spelling_of}
use Rattle.rb_test_rules.specs.Ordinary.{ordinary_use}
use Rattle.rb_rules.specs.declared.message.Tag.TheVariants as tag

-- a word at the offset of a window at which a good node sends: another word in each slot and stage,
-- and to each node
abbrev pub word_of_its_own : ℕ → Span → Said
word_of_its_own i span = record {
  time = 10000 * (span.first + 6);
  bytes = spelling_of One (message_at span.place tag.Word (1000 * span.place.slot + 10 * span.place.stage + i));
}

-- in stage 2 of slot 0 BIU 0 is told its word 1,025 times. In every other window, and at every
-- other BIU, the word comes once
abbrev pub flood : Behavior
flood me i span j =
    if (i == 0) && (span.place.slot == 0) && (span.place.stage == 2) then replicate 1025 (word_of_its_own i span)
    else word_of_its_own i span ∷ []

-- RMU 2 does this
abbrev pub flooding_rmu : Scenario
flooding_rmu = record ordinary_use { rmu_onsets = None ∷ None ∷ Some (0, 0) ∷ []; behavior = flood }
