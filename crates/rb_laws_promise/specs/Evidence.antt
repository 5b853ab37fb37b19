-- The direct evidence that each node finds in a run, and whom it accuses by it.
use Rattle.std.specs.Prelude.{ℕ, ◌≡◌, ◌<◌, ◌≤◌, ◌↔◌, Bool, true, false, List, map}
use Rattle.rb_base.specs.Nodes.{Side, has}
use Rattle.rb_rules.specs.{declared.sense.Sense.Sense, Goodness.{Scenario, clock_of}, Hearing.arrival_of, Lawful.IsLawful, NodeState.{NodeState, sender_at}, NodeSteps.expect_of, Ports.HandIn, Probation.{has_lapsed, StandsForNewest}, Rounds.{Moment, IsGoodIn, window_in, windows_in, sent_in, heard_at, moment}, Sense.sense_of, Slots.{expects, role_of}, Standing.{Standing, has_evidence}}

-- In a window.

-- whether a node of kind me, in this state, expects source j in the moment's window
abbrev pub expects_in : Scenario → Moment → Side → NodeState → ℕ → Bool
expects_in sc m me st =
    let w = window_in sc m me st in
    expects me (role_of sc.sizes w.slot) (sender_at sc.sizes me st w.slot) st.far.trusted w.stage

-- what node i of kind me, in this state, has from source j when it closes the moment's window
abbrev pub sense_in : Scenario → Moment → Side → ℕ → NodeState → ℕ → Sense
sense_in sc m me i st j =
    let w = window_in sc m me st in
    sense_of (expect_of sc.sizes sc.plan.version st w.slot w.stage)
    (map (arrival_of (clock_of sc me i)) (heard_at sc me i st w (sent_in sc m) j))

-- good node i of kind me, in this state, closes the moment's window with direct evidence against
-- source j. There is none against a source that it trusts no more
pub record FindsEvidence (sc : Scenario) (m : Moment) (me : Side) (i : ℕ) (st : NodeState) (j : ℕ) : Type 0 where
  pub good : IsGoodIn sc m me i st
  pub in_frame : m.window < windows_in sc.sizes  -- the frame does not end here
  pub closes : (window_in sc m me st).first ≤ (window_in sc m me st).last  -- not an empty tail
  pub evidence : has_evidence st.far (expects_in sc m me st) (sense_in sc m me i st) j ≡ true

-- In a run.

-- direct evidence is a triple: the accuser, which is node i of kind me; the accused, which is node
-- j of the other kind; and the frame. This one is found in one of the first n steps of a run
pub record Evidence (sc : Scenario) (hands : List HandIn) (n : ℕ) (me : Side) (i j frame : ℕ) : Type 0 where
  pub k : ℕ
  pub earlier : k < n
  pub frame_is : (moment sc hands k).frame ≡ frame
  pub st : NodeState
  pub found : FindsEvidence sc (moment sc hands k) me i st j

-- What follows from it.

-- there is evidence, and in this frame it has not lapsed; `IsOf f` says that there is some of frame
-- f. The newest evidence is the last to lapse
pub record HasNotLapsed (probation frame : ℕ) (IsOf : ℕ → Type 0) : Type 0 where
  pub f : ℕ
  pub is_of : IsOf f
  pub lasts : has_lapsed probation f frame ≡ false

-- the standing says in this frame of which frame the newest evidence against node j is
pub record KnowsNewest (s : Standing) (frame j : ℕ) (IsOf : ℕ → Type 0) : Type 0 where
  pub f : ℕ
  pub is_of : IsOf f
  pub newest : (e : ℕ) → IsOf e → e ≤ f
  pub stands : StandsForNewest s frame j f

-- in this frame the standing is what the evidence makes of it; `Against j f` says that there is
-- evidence of frame f against source j. A source is accused directly if and only if evidence
-- against it has not lapsed, and it is in `fresh` if and only if there is evidence of this frame.
-- Evidence of this frame is against trusted sources alone
pub record FollowsEvidence (probation frame : ℕ) (s : Standing) (Against : ℕ → ℕ → Type 0) : Type 0 where
  pub direct : (j : ℕ) → j < 16 → (has s.direct j ≡ true) ↔ HasNotLapsed probation frame (Against j)
  pub fresh : (j : ℕ) → j < 16 → (has s.fresh j ≡ true) ↔ Against j frame
  pub calm : (j : ℕ) → j < 16 → has s.direct j ≡ true → KnowsNewest s frame j (Against j)
  pub trusted : (j : ℕ) → Against j frame → has s.trusted j ≡ true

-- in each moment of the run of a lawful scenario, with any hand-ins, the standing of each good node
-- is what the evidence that it has found makes of it. This holds after a breach too
abbrev pub AccusationsFollowEvidence : Type 0
AccusationsFollowEvidence =
    (sc : Scenario) (hands : List HandIn) → IsLawful sc
    → (n : ℕ) (me : Side) (i : ℕ) (st : NodeState) → IsGoodIn sc (moment sc hands n) me i st
    → FollowsEvidence sc.plan.probation (moment sc hands n).frame st.far (Evidence sc hands n me i)
