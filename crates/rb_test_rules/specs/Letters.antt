-- A letter over the bus: BIU 0 offers its two words in two frames, one each.
use Rattle.std.specs.Prelude.{ℕ, List, [], ◌∷◌, replicate, None}
use Rattle.rb_rules.specs.{Book.Record, Goodness.Scenario, Ports.HandIn, Rounds.records_of}
use Rattle.rb_laws_letters.specs.{Sent.{Call, Sent, after_calls, nothing_sent}, Sent.Call.{Next, Push}}
use Rattle.rb_test_rules.specs.{Buses.steady, Ordinary.ordinary_use}

-- one byte makes the words 2^24 + 1 and 2^25 + 65536 * 65
abbrev pub letter : List ℕ
letter = 65 ∷ []

-- two BIUs, of which the first asks for a data slot
abbrev pub one_sender : Scenario
one_sender = record ordinary_use {
  sizes = record { bius = 2; rmus = 1; data_slots = 1 };
  frames = 2;
  requests = 1 ∷ 0 ∷ [];
  words = 16777217 ∷ 0 ∷ [];
  apps = 0 ∷ 0 ∷ [];
  clocks = replicate 3 steady;
  biu_onsets = None ∷ None ∷ [];
  rmu_onsets = None ∷ [];
}

-- the second word
abbrev pub second_word : List HandIn
second_word = record { frame = 1; biu = 0; state = 37814272 } ∷ []

abbrev pub letter_records : List Record
letter_records = records_of one_sender second_word

-- what the calls to a sender of letters make of it
abbrev pub calls : List Call
calls = Push letter ∷ Next ∷ Next ∷ []

abbrev pub letter_sent : Sent
letter_sent = after_calls calls nothing_sent
