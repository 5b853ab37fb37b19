-- Single nodes of a bus of four BIUs, three RMUs and eight data slots.
use Rattle.std.specs.Prelude.{ℕ, ◌-◌, ◌==◌, false, List, [], ◌∷◌, get_or, if◌then◌else◌, Option, Some, None}
use Rattle.rb_base.specs.{Nodes.Side.{Biu, Rmu}, Sizes.Sizes, declared.values.Heard.Heard, declared.values.Heard.TheVariants.{Word, Fault}}
use Rattle.rb_rules.specs.{declared.message.Tag.TheVariants.Sync, declared.plan.Plan.Plan, declared.sense.Expect.Expect, declared.sense.Sense.Sense, declared.sense.Sense.TheVariants.{Silent, One}, Conviction.convicted_by, ExactStage.{Outcome, message_of, says, keep_sent, close_exact}, NodeState.{NodeState, first_state}, Sense.Arrival, Standing.{Standing, first_standing, with_evidence, is_unlike, with_mismatch, standing_at_end}, SyncStage.close_sync}
use Rattle.rb_rules.specs.declared.message.Version.TheVariants as version

abbrev pub sizes : Sizes
sizes = record { bius = 4; rmus = 3; data_slots = 8 }

abbrev pub plan : Plan
plan = record {
  u = 10000;
  r = 1;
  dmin = 5000;
  dmax = 15000;
  l = 15;
  h = 6;
  v = 18;
  z = 20;
  c = 1;
  p = 60200;
  version = version.One;
  probation = 0;
}

abbrev pub biu : NodeState
biu = first_state sizes Biu

abbrev pub rmu : NodeState
rmu = first_state sizes Rmu

-- a BIU in a frame whose number has no place in two bytes
abbrev pub in_frame_65537 : NodeState
in_frame_65537 = record biu { frame = 65537 }

-- Arrivals of one source.

-- slot 4, stage 1 of frame 65537, on bus 5
abbrev pub expected : Expect
expected = record { frame = 1; slot = 4; stage = 1; sync = false; version = version.Two 5 }

-- word 10 for that window on a bus, with its check
abbrev pub word_10 : ℕ → ℕ → ℕ → Arrival
word_10 stamp bus check =
    record { stamp = stamp; bytes = 1 ∷ 0 ∷ 1 ∷ 0 ∷ 4 ∷ 1 ∷ 0 ∷ 0 ∷ 0 ∷ 10 ∷ bus ∷ check ∷ [] }

-- Standings.

-- three nodes, of which node 1 is accused directly and node 2 by mismatch
abbrev pub accused : Standing
accused =
    with_mismatch (λ j. is_unlike (Word 4) (if j == 2 then Some (Word 5) else None)) (with_evidence (λ j. j == 1) (first_standing 3))

abbrev pub two_frames_later : Standing → Standing
two_frames_later s = standing_at_end 2 (standing_at_end 2 s)

abbrev pub accused_anew : Standing → Standing
accused_anew s = with_evidence (λ j. j == 1) s

-- Exact stages.

-- what comes of the sources, by number: the value of one message
abbrev pub comes : ℕ → ℕ → List (Option Heard) → ℕ → Sense
comes slot stage [] j = Silent
comes slot stage (v ∷ vs) j =
    if j == 0 then elim v [ None ↦ Silent | Some value ↦ One 9 (message_of biu slot stage value) ] else comes slot stage vs (j - 1)

-- RMU 0 after stage 1 of BIU 0's slot, in which it took the request 2
abbrev pub that_heard : NodeState
that_heard = (close_exact sizes Rmu 0 rmu 0 1 (comes 0 1 (Some (Word 2) ∷ []))).state

-- the state of an RMU that heard nothing in stage 1
abbrev pub that_heard_nothing : NodeState
that_heard_nothing = (close_exact sizes Rmu 0 rmu 0 1 (comes 0 1 [])).state

-- what RMU 0, in this state, relays of BIU 0's request
abbrev pub relayed_by : NodeState → Option Heard
relayed_by st = says sizes Rmu 0 (close_exact sizes Rmu 0 st 0 1 (comes 0 1 (Some (Word 2) ∷ []))).state 0 2 0

-- the relays of the request of BIU 0: two RMUs say 2, the third another value
abbrev pub relays : ℕ → Sense
relays = comes 0 2 (Some (Word 2) ∷ Some (Word 2) ∷ Some (Word 7) ∷ [])

-- the sender, and BIU 3, after stage 2
abbrev pub sender : NodeState
sender = (close_exact sizes Biu 0 (keep_sent sizes Biu 0 biu 0 1 2) 0 2 relays).state

abbrev pub bystander : NodeState
bystander = (close_exact sizes Biu 3 biu 0 2 relays).state

-- RMU 0 after stage 3, in which BIU 2 repeats another value
abbrev pub that_voted : NodeState
that_voted =
    (close_exact sizes Rmu 0 rmu 0 3 (comes 0 3 (Some (Word 2) ∷ Some (Word 2) ∷ Some (Word 3) ∷ Some (Word 2) ∷ []))).state

-- an RMU that has the votes of three requests, after the close of the last stage of slot 3
abbrev pub that_scheduled : NodeState
that_scheduled =
    (close_exact sizes Rmu 0 (record rmu { votes = Word 3 ∷ Word 1 ∷ Word 0 ∷ Fault ∷ [] }) 3 3 (λ j. One 9 (message_of rmu 3 3 (Word 2)))).state

-- data slot 1, whose owner is BIU 1, at BIU 2: one RMU is silent
abbrev pub in_data_slot : Outcome
in_data_slot =
    close_exact sizes Biu 2 (record biu { owners = 0 ∷ 1 ∷ [] }) 5 2 (comes 5 2 (Some (Word 20) ∷ Some (Word 20) ∷ None ∷ []))

-- an idle slot, in which two RMUs speak
abbrev pub in_idle_slot : Outcome
in_idle_slot = close_exact sizes Biu 2 biu 6 2 (comes 6 2 (Some (Word 20) ∷ Some (Word 20) ∷ []))

-- Stages of the sync slot.

-- calls of the first sources with these stamps
abbrev pub called : ℕ → List ℕ → ℕ → Sense
called stage [] j = Silent
called stage (stamp ∷ stamps) j =
    if j == 0 then One stamp (record { tag = Sync; frame = 0; slot = 19; stage = stage; value = 0 }) else called stage stamps (j - 1)

-- an RMU that closes stage 1, and a BIU that does, on calls with these stamps
abbrev pub rmu_after : List ℕ → NodeState
rmu_after stamps = (close_sync sizes Rmu rmu 1 855 (called 1 stamps)).state

abbrev pub biu_after : List ℕ → NodeState
biu_after stamps = (close_sync sizes Biu biu 1 855 (called 1 stamps)).state

-- Convictions.

-- the nodes that the vectors of the senders convict, of three nodes that are all trusted
abbrev pub convicted : ℕ → List Heard → ℕ
convicted senders vectors = convicted_by 3 senders 7 (λ i. get_or vectors i Fault)
