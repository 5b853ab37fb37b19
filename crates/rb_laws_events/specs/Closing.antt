-- The order in which good nodes close their windows.
use Rattle.std.specs.Prelude.{ℕ, ◌≡◌, ◌+◌, ◌*◌, ◌<◌, ◌≤◌, List}
use Rattle.rb_base.specs.{Nodes.Side, Sizes.{Sizes, sync_slot_of}}
use Rattle.rb_rules.specs.{Clock.time_of, Goodness.{Scenario, clock_of}, Hearing.span_of, Lawful.IsLawful, NodeState.NodeState, Plan.tail_start_of, Ports.HandIn, Rounds.{Moment, IsGoodIn, moment, window_in}}

-- the stages of a frame: all its windows but the tail
abbrev pub stages_in : Sizes → ℕ
stages_in sizes = 3 * sync_slot_of sizes + 3

-- the time at which node i of kind me closes the window of a moment
abbrev pub closing_time : Scenario → Moment → Side → ℕ → NodeState → ℕ
closing_time sc m me i st = time_of (clock_of sc me i) (span_of st (window_in sc m me st)).last

-- no good node has begun the moment's frame more than p after another
abbrev pub HaveBegunTogether : Scenario → Moment → Type 0
HaveBegunTogether sc m =
    (me you : Side) (i j : ℕ) (mine yours : NodeState) → IsGoodIn sc m me i mine → IsGoodIn sc m you j yours
    → time_of (clock_of sc me i) mine.epoch ≤ time_of (clock_of sc you j) yours.epoch + sc.plan.p

-- between the two moments each node that is good in both has begun a frame, and not before all
-- stages of the one before
abbrev pub HaveBegunAFrame : Scenario → Moment → Moment → Type 0
HaveBegunAFrame sc m later =
    (me : Side) (i : ℕ) (before after : NodeState) → IsGoodIn sc m me i before → IsGoodIn sc later me i after
    → before.epoch + tail_start_of sc.sizes sc.plan ≤ after.epoch

-- each node that is good in a moment's window closes it before any node that is good in the later
-- one's closes that
abbrev pub CloseInOrder : Scenario → Moment → Moment → Type 0
CloseInOrder sc m later =
    (me you : Side) (i j : ℕ) (mine yours : NodeState) → IsGoodIn sc m me i mine → IsGoodIn sc later you j yours
    → closing_time sc m me i mine < closing_time sc later you j yours

-- All good nodes close a stage before any closes the next one of the frame; and the last stage
-- before the first one of the next frame, between which lie the tail and the turn
abbrev pub GoodNodesCloseInOrder : Type 0
GoodNodesCloseInOrder =
    (sc : Scenario) (hands : List HandIn) → IsLawful sc → (n : ℕ) → HaveBegunTogether sc (moment sc hands n)
    → ((moment sc hands n).window + 1 < stages_in sc.sizes → CloseInOrder sc (moment sc hands n) (moment sc hands (n + 1)))
    × ((moment sc hands n).window + 1 ≡ stages_in sc.sizes → HaveBegunAFrame sc (moment sc hands n) (moment sc hands (n + 3))
    → CloseInOrder sc (moment sc hands n) (moment sc hands (n + 3)))
