-- Whom a frame's voted vectors convict, and how the next frame begins.
use Rattle.std.specs.Prelude.{ℕ, ◌+◌, ◌^◌, nat_lt, ◌&&◌, not, Bool, false, get_or}
use Rattle.rb_base.specs.{Counting.{count_if, numbers}, Nodes.{Side, other, has, set_of}, Sizes.Sizes, declared.values.Heard.Heard, declared.values.Heard.TheVariants.{Word, Fault}}
use Rattle.rb_rules.specs.{NodeState.{NodeState, fresh_state, trusted_of}, Slots.{count_of, first_diagnosis_of}, Standing.{standing_at_end, without}}

-- a voted vector is valid if it is a mask of the nodes that there are, `others` of them
abbrev pub is_valid : ℕ → Heard → Bool
is_valid others (Word mask) = nat_lt mask (2 ^ others)
is_valid others Fault = false

-- a vector names node j
abbrev pub names : ℕ → Heard → Bool
names j (Word mask) = has mask j
names j Fault = false

-- how many of the senders' valid vectors name node j; `vector` gives the voted vector of each
-- sender
abbrev pub naming : ℕ → ℕ → (ℕ → Heard) → ℕ → ℕ
naming others senders vector j =
    count_if (λ i. has senders i && is_valid others (vector i) && names j (vector i)) (numbers 16)

-- how many of the senders' valid vectors do not name node j
abbrev pub sparing : ℕ → ℕ → (ℕ → Heard) → ℕ → ℕ
sparing others senders vector j =
    count_if (λ i. has senders i && is_valid others (vector i) && not (names j (vector i))) (numbers 16)

-- the trusted nodes that more of the trusted senders' valid vectors name than spare
unfoldable pub convicted_by : ℕ → ℕ → ℕ → (ℕ → Heard) → ℕ
convicted_by others senders trusted vector =
    set_of (λ j. has trusted j && nat_lt (sparing others senders vector j) (naming others senders vector j))

-- the vote of a node with state `st` on the vector of node i of kind `senders`
abbrev pub voted_vector : Sizes → Side → NodeState → ℕ → Heard
voted_vector sizes senders st i = get_or st.votes (first_diagnosis_of senders sizes + i) Fault

-- the nodes of kind `accused` that a node of kind me convicts at the end of the frame
abbrev pub convicted_at : Sizes → Side → NodeState → Side → ℕ
convicted_at sizes me st accused =
    convicted_by (count_of accused sizes) (trusted_of me (other accused) st) (trusted_of me accused st)
    (voted_vector sizes (other accused) st)

-- at the tick of its next epoch a node convicts, lets accusations lapse and begins the next frame.
-- A conviction is never taken back
unfoldable pub turn : Sizes → ℕ → Side → ℕ → NodeState → NodeState
turn sizes probation me epoch st =
    fresh_state sizes (st.frame + 1) epoch
    (standing_at_end probation (record st.far { trusted = without st.far.trusted (convicted_at sizes me st (other me)) }))
    (without st.near (convicted_at sizes me st me))
