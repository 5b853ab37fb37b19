-- A listener from its first epoch on is the core of a BIU without a number that says nothing. It
-- goes through windows and frames as any BIU does.
use Rattle.std.specs.Prelude.{ℕ, zero, suc, ◌-◌, ◌^◌, Bool, true, false, Option, Some, None, unwrap_or, List, []}
use Rattle.rb_base.specs.{Nodes.Side.Biu, Sizes.Sizes}
use Rattle.rb_rules.specs.{declared.plan.Plan.Plan, Core.{Act, Core, act_on, arrive, is_spent, state_at}, NodeState.{NodeState, fresh_state}}
use Rattle.rb_slot.specs.Engines.{trusting}
use Rattle.rb_node.specs.{Aheads.wakes as wakes_of, Cores.Running}

-- at first: this frame begins with this tick, which is the next, these nodes are trusted, nobody is
-- accused, and nothing came
abbrev pub core_from : Sizes → ℕ → ℕ → ℕ → ℕ → Core
core_from sizes frame epoch bius rmus =
    record { state = fresh_state sizes frame epoch (trusting rmus) bius; had = epoch; inbox = [] }

-- a tick: it turns, if this is the tick of its next epoch, and then closes the window, if this is
-- the last tick of it. As any node it is spent after 2^31 ticks
unfoldable pub follow : Sizes → Plan → Core → Act
follow sizes plan c =
    let now : NodeState = state_at sizes plan Biu c.state c.had in
    elim (is_spent c) [
      | true ↦ record { core = c; epoch = None; message = None; closed = None }
      | false ↦ act_on sizes plan Biu 16 c now None now
    ]

-- a follower after a number of ticks
abbrev pub follows : Sizes → Plan → ℕ → Core → Core
follows sizes plan zero c = c
follows sizes plan (suc n) c = follows sizes plan n (follow sizes plan c).core

-- Quiet ticks.

-- tick k is not quiet: a frame begins with it, or a window is closed
abbrev pub wakes : Sizes → Plan → NodeState → ℕ → Bool
wakes sizes plan st k = wakes_of sizes plan Biu st k

-- the first such tick among `others` ticks from k on
abbrev pub wake_among : Sizes → Plan → NodeState → ℕ → ℕ → Option ℕ
wake_among sizes plan st zero k = None
wake_among sizes plan st (suc others) k =
    elim (wakes sizes plan st k) [ true ↦ Some k | false ↦ wake_among sizes plan st others (suc k) ]

-- the first tick from the next on that is not quiet
abbrev pub next_wake : Sizes → Plan → Core → Option ℕ
next_wake sizes plan c = wake_among sizes plan c.state (2 ^ 31 - c.had) c.had

-- The steps of a core that follows the bus of the one that is seen.

abbrev pub follow_at : Running → Core → Act
follow_at n c = follow n.seat.sizes n.seat.plan c

abbrev pub follows_at : Running → ℕ → Core → Core
follows_at n count c = follows n.seat.sizes n.seat.plan count c

abbrev pub arrive_at : Running → Core → ℕ → List ℕ → Core
arrive_at n c from bytes = arrive n.seat.sizes Biu c from bytes

abbrev pub next_wake_at : Running → Core → Option ℕ
next_wake_at n c = next_wake n.seat.sizes n.seat.plan c

-- the number up to which ticks may pass: that of the next tick that is not quiet, or of all ticks
-- that a listener can have
abbrev pub passing_end : Running → ℕ
passing_end n = unwrap_or (wake_among n.seat.sizes n.seat.plan n.seat.state (2 ^ 31 - n.had) n.had) (2 ^ 31)
