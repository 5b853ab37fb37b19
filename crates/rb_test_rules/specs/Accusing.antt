-- Nodes that accuse, and frames that end with convictions.
use Rattle.std.specs.Prelude.{ℕ, ◌==◌, ◌∷◌, ◌++◌, [], replicate, Some, if◌then◌else◌}
use Rattle.rb_base.specs.{Nodes.Side.{Biu, Rmu}, declared.values.Heard.TheVariants.{Word, Fault}}
use Rattle.rb_rules.specs.{declared.sense.Sense.Sense, declared.sense.Sense.TheVariants.{Silent, Bad}, Conviction.turn, ExactStage.{keep_sent, close_exact}, NodeState.NodeState, Standing.Standing, SyncStage.close_sync}
use Rattle.rb_test_rules.specs.Parts.{sizes, biu, rmu, called, comes, accused}

-- nodes 1 and 2 are accused, and node 1 is convicted
abbrev pub with_a_convict : Standing
with_a_convict = record accused { trusted = 5 }

-- node 0 is accused directly, and `frames` frames have ended since without evidence against it
abbrev pub calm_for : ℕ → Standing
calm_for frames = record accused { direct = 1; fresh = 0; calm = frames ∷ replicate 15 0 }

-- BIU 0 sends the request 2, closes stage 1, and closes stage 2, in which the RMUs relay 7, 8 and 2
abbrev pub after_stage_1 : NodeState
after_stage_1 = (close_exact sizes Biu 0 (keep_sent sizes Biu 0 biu 0 1 2) 0 1 (comes 0 1 [])).state

abbrev pub unlike_relays : ℕ → Sense
unlike_relays = comes 0 2 (Some (Word 7) ∷ Some (Word 8) ∷ Some (Word 2) ∷ [])

abbrev pub sender_of_unlike : NodeState
sender_of_unlike = (close_exact sizes Biu 0 after_stage_1 0 2 unlike_relays).state

-- bytes that spell no message, of source 0 alone
abbrev pub noise : ℕ → Sense
noise j = if j == 0 then Bad else Silent

-- an RMU that closes the tail on it
abbrev pub after_noise_in_the_tail : NodeState
after_noise_in_the_tail = (close_sync sizes Rmu rmu 4 908 noise).state

-- a BIU at the end of a frame in which all four BIUs name RMU 2, and RMUs 1 and 2 name BIU 1
abbrev pub that_has_votes : NodeState
that_has_votes = record biu { votes = replicate 12 Fault ++ Word 4 ∷ Word 4 ∷ Word 4 ∷ Word 4 ∷ Word 0 ∷ Word 2 ∷ Word 2 ∷ [] }

abbrev pub next_frame : NodeState
next_frame = turn sizes 0 Biu 917 that_has_votes

-- the frame after that, in which each of the nodes that are convicted names BIU 0
abbrev pub next_but_one_frame : NodeState
next_but_one_frame =
    turn sizes 0 Biu 1834 (record next_frame { votes = replicate 12 Fault ++ Word 0 ∷ Word 1 ∷ Word 0 ∷ Word 0 ∷ Word 0 ∷ Word 1 ∷ Word 1 ∷ [] })

-- BIU 0 sends the request 2, and RMU 2 relays Fault in its place
abbrev pub sender_of_a_fault : NodeState
sender_of_a_fault =
    (close_exact sizes Biu 0 (keep_sent sizes Biu 0 biu 0 1 2) 0 2 (comes 0 2 (Some (Word 2) ∷ Some (Word 2) ∷ Some Fault ∷ []))).state

-- RMU 0 sends a vector that names nobody, and BIU 1 relays another one
abbrev pub sender_of_a_vector : NodeState
sender_of_a_vector =
    (close_exact sizes Rmu 0 (keep_sent sizes Rmu 0 rmu 16 1 0) 16 2
    (comes 16 2 (Some (Word 0) ∷ Some (Word 5) ∷ Some (Word 0) ∷ Some (Word 0) ∷ []))).state

-- BIU 1 takes the RMUs' votes on that vector, of which RMU 2's is another one
abbrev pub voter_on_a_vector : NodeState
voter_on_a_vector = (close_exact sizes Biu 1 biu 16 3 (comes 16 3 (Some (Word 0) ∷ Some (Word 0) ∷ Some (Word 5) ∷ []))).state

-- RMU 2 does not call in stage 2, and BIU 3 does not in stage 3
abbrev pub without_a_call_of_an_rmu : NodeState
without_a_call_of_an_rmu = (close_sync sizes Biu biu 2 870 (called 2 (878 ∷ 878 ∷ []))).state

abbrev pub without_a_call_of_a_biu : NodeState
without_a_call_of_a_biu = (close_sync sizes Rmu rmu 3 888 (called 3 (897 ∷ 897 ∷ 897 ∷ []))).state
