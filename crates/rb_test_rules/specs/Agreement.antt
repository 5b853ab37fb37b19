-- What good nodes hold in common if others are silent or lie, and whom they accuse.
use Rattle.std.specs.Prelude.{ℕ, ◌≡◌, false, List, [], ◌∷◌, ◌++◌, map, filter, replicate, get_or, Some, None}
use Rattle.rb_base.specs.{Counting.numbers, Nodes.{Side, has}, Nodes.Side.Biu, declared.values.Heard.Heard}
use Rattle.rb_rules.specs.{declared.cause.Cause.TheVariants.FewGoodBiu, declared.link.Pattern.TheVariants.{AllBiu, AllRmu}, declared.say.Content.TheVariants.Word, Book.{Record, of_kind}, Book.Record.{Ended, Breach}, Goodness.{Scenario, is_good}, Moments.{IsComplete, IsGoodBefore, IsSettled, after_slot}, NodeState.{NodeState, first_state}, NodeSteps.convicted_of, Slots.count_of, Standing.vector_of}
use Rattle.rb_test_rules.specs.{Buses.{b, r, steady, says, listing}, Told.{none, at, all_begin, everybody, all_but, port, usual_ports, silent, usual_words}, Ordinary.ordinary_use, Frames.late_onset, Parts.sizes}

-- RMU 2 is good until it sends a vector that names BIU 0
abbrev pub false_accuser : Scenario
false_accuser = listing (record ordinary_use {
  rmu_onsets = None ∷ None ∷ Some (0, 18) ∷ [];
  says =
      says (r 2) AllBiu (0, 0) (18, 18) (1, 1) (Word 1)
      ∷ [];
})

abbrev pub false_accuser_records : List Record
false_accuser_records =
    all_begin 0 0 0 0 0 everybody usual_ports
    ∷ silent 0 0 4
    ++ usual_words 0 (0 ∷ 1 ∷ 2 ∷ 3 ∷ [])
    ++ silent 0 12 7
    ++ all_begin 1 917 9170000 0 0 (all_but (r 2 ∷ [])) usual_ports
    ∷ Ended
    ∷ []

-- two BIUs and one RMU. BIU 1 says another vote than BIU 0 in stage 3 of BIU 0's schedule slot
abbrev pub other_vote : Scenario
other_vote = listing (record ordinary_use {
  sizes = record { bius = 2; rmus = 1; data_slots = 1 };
  requests = 1 ∷ 1 ∷ [];
  words = 10 ∷ 20 ∷ [];
  apps = 0 ∷ 0 ∷ [];
  clocks = replicate 3 steady;
  biu_onsets = None ∷ Some (0, 0) ∷ [];
  rmu_onsets = None ∷ [];
  says =
      says (b 1) AllRmu (0, 0) (0, 0) (3, 3) (Word 9)
      ∷ [];
})

-- the run ends with the breach in this stage
abbrev pub other_vote_records : List Record
other_vote_records =
    all_begin 0 0 0 0 0 (b 0 ∷ r 0 ∷ []) (port 0 10 0 ∷ [])
    ∷ Breach (at 0 0 3) FewGoodBiu
    ∷ []

-- the nodes of a kind that are good in a slot
abbrev pub good_in : Scenario → ℕ → ℕ → Side → List ℕ
good_in sc frame slot me = filter (λ i. is_good sc me i frame slot) (numbers (count_of me sc.sizes))

abbrev of_states : {X : Type 0} → (NodeState → X) → NodeState → List NodeState → List ℕ → List X
of_states what other states nodes = map (λ i. what (get_or states i other)) nodes

-- something of the state of each good node of a kind after a slot
abbrev pub of_good : {X : Type 0} → (NodeState → X) → Scenario → ℕ → ℕ → Side → List X
of_good what sc frame slot me =
    of_states what (first_state sc.sizes me) (of_kind me (after_slot sc [] frame slot).nodes) (good_in sc frame slot me)

-- the votes of the good nodes of a kind on a slot, after it
abbrev pub votes_on : Scenario → ℕ → ℕ → Side → List Heard
votes_on sc frame slot me = of_good (λ st. get_or st.votes slot none) sc frame slot me

-- the nodes that each good node of a kind accuses after a slot, as its vector names them
abbrev pub accused_by : Scenario → ℕ → ℕ → Side → List ℕ
accused_by sc frame slot me = of_good (λ st. vector_of st.far) sc frame slot me

-- if the slot of the usual bus is complete, good nodes hold one schedule in it
abbrev pub HaveOneSchedule : ℕ → ℕ → Type 0
HaveOneSchedule frame slot =
    IsComplete ordinary_use [] frame slot → (me you : Side) (i j : ℕ) (mine yours : NodeState)
    → IsGoodBefore ordinary_use [] frame slot me i mine → IsGoodBefore ordinary_use [] frame slot you j yours
    → mine.owners ≡ yours.owners

-- no good node holds BIU 2 convicted in the slot, which turns faulty in frame 3 of this run
abbrev pub NobodyConvictsBiu2 : ℕ → ℕ → Type 0
NobodyConvictsBiu2 frame slot =
    IsSettled late_onset [] frame slot → (me : Side) (i : ℕ) (st : NodeState)
    → IsGoodBefore late_onset [] frame slot me i st → has (convicted_of sizes Biu me st) 2 ≡ false
