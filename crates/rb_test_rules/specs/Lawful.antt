-- Lies at the edges of what may be said in the sync slot, a rule of delay, and what lies beyond
-- each edge.
use Rattle.std.specs.Prelude.{ℕ, [], ◌∷◌, replicate, Some, None}
use Rattle.rb_rules.specs.{declared.link.Pattern.TheVariants.{One, AllBiu, AllRmu}, declared.link.Rule.Rule, declared.say.Content.TheVariants.{Word, Sync}, declared.say.Say.Say, Goodness.Scenario}
use Rattle.rb_test_rules.specs.{Buses.{b, r, says, listing, raw}, Ordinary.ordinary_use}

-- RMU 1, which is faulty from a slot of frame 0 on, says the entry `say`
abbrev pub saying_from : ℕ → Say → Scenario
saying_from slot say = listing (record ordinary_use { rmu_onsets = None ∷ Some (0, slot) ∷ None ∷ []; says = say ∷ [] })

-- RMU 1, which is faulty from the sync slot of frame 0 on, says the entry `say`
abbrev pub saying : Say → Scenario
saying say = saying_from 19 say

-- a call to all BIUs in the sync slot's stage 2, which has 18 ticks
abbrev pub call : Say
call = says (r 1) AllBiu (0, 0) (19, 19) (2, 2) Sync

-- the calls of the BIUs take as long as a message may
abbrev pub rule_of_calls : Rule
rule_of_calls = record { from = AllBiu; to = AllRmu; frames = (0, 0); slots = (19, 19); stages = (1, 1); delay = 15000 }

-- a bus with this rule of delay alone
abbrev pub ruled_by : Rule → Scenario
ruled_by rule = record ordinary_use { delays = record { base = 10000; rules = rule ∷ [] } }

-- RMU 1 calls as early as it may, and at the last tick, and says 32 bytes at the latest offset in
-- the tail. RMU 2 asks in a schedule slot at the last tick of a window
abbrev pub lies_at_the_edge : Scenario
lies_at_the_edge = listing (record ordinary_use {
  rmu_onsets = None ∷ Some (0, 19) ∷ Some (0, 0) ∷ [];
  says =
      record call { offset = 0; early = 9998 }
      ∷ record call { to = One (b 0); offset = 17 }
      ∷ record call { stages = (4, 4); offset = 38; content = raw (replicate 32 255) }
      ∷ record (says (r 2) AllBiu (0, 0) (0, 3) (2, 2) (Word 4294967295)) { offset = 14 }
      ∷ [];
})
