-- The acts that a tick of the core can be: what holds of each of them holds of the tick.
use Rattle.std.proofs.Common.{◌≡◌, ℕ, ◌+◌, Bool, true, false, [], refl, Option, Some, None}
use Rattle.rb_base.specs.{Nodes.Side, Sizes.Sizes}
use Rattle.rb_rules.specs.{declared.message.Message.Message, declared.plan.Plan.Plan, Core.{Act, Core, act_at, act_on, epoch_at, is_last, is_spent, of_source, said_at, state_at, state_kept, tick, window_here}, ExactStage.Outcome, Hearing.close_window, NodeState.NodeState}

-- what the close of the window gives
abbrev pub outcome_of : Sizes → Plan → Side → ℕ → Core → NodeState → NodeState → Outcome
outcome_of sizes plan me i c st kept = close_window sizes plan me i kept (window_here sizes plan me st c.had) (of_source c.inbox)

-- the act of the last tick of a window, and that of another one
abbrev pub closing_act : Sizes → Plan → Side → ℕ → Core → NodeState → Option Message → NodeState → Act
closing_act sizes plan me i c st m kept = record {
  core = record { state = (outcome_of sizes plan me i c st kept).state; had = c.had + 1; inbox = [] };
  epoch = epoch_at sizes me st c.had;
  message = m;
  closed = Some (outcome_of sizes plan me i c st kept).closed;
}

abbrev pub open_act : Sizes → Side → Core → NodeState → Option Message → NodeState → Act
open_act sizes me c st m kept = record { core = record { state = kept; had = c.had + 1; inbox = c.inbox }; epoch = epoch_at sizes me st c.had; message = m; closed = None }

pub act-by : (P : Act → Type 0) (sizes : Sizes) (plan : Plan) (me : Side) (i : ℕ) (c : Core) (st : NodeState) (m : Option Message) (kept : NodeState)
    → (is_last sizes plan me st c.had ≡ true → P (closing_act sizes plan me i c st m kept)) → (is_last sizes plan me st c.had ≡ false → P (open_act sizes me c st m kept))
    → P (act_on sizes plan me i c st m kept)
unfolding act_on
act-by P sizes plan me i c st m kept closes goes = by (is_last sizes plan me st c.had) refl
  where
    by : (b : Bool) → is_last sizes plan me st c.had ≡ b → P (elim b as (λ _. Act) [ true ↦ closing_act sizes plan me i c st m kept | false ↦ open_act sizes me c st m kept ])
    by true e = closes e
    by false e = goes e

-- what the node says at the tick
abbrev pub said_of : Sizes → Plan → Side → ℕ → Core → ℕ → NodeState → Option Message
said_of sizes plan me i c word st = said_at sizes plan me i st word c.had

-- the act of a core that turns into state `st`
abbrev pub act_of : Sizes → Plan → Side → ℕ → Core → ℕ → NodeState → Act
act_of sizes plan me i c word st = act_on sizes plan me i c st (said_of sizes plan me i c word st) (state_kept sizes me i st word (said_of sizes plan me i c word st))

pub tick-by : (P : Act → Type 0) (sizes : Sizes) (plan : Plan) (me : Side) (i : ℕ) (c : Core) (word : ℕ)
    → (is_spent c ≡ true → P (record { core = c; epoch = None; message = None; closed = None })) → (is_spent c ≡ false → P (act_of sizes plan me i c word (state_at sizes plan me c.state c.had)))
    → P (tick sizes plan me i c word)
unfolding tick act_at
tick-by P sizes plan me i c word spent acts = by (is_spent c) refl
  where
    by : (b : Bool) → is_spent c ≡ b → P (elim b as (λ _. Act) [ true ↦ record { core = c; epoch = None; message = None; closed = None } | false ↦ act_at sizes plan me i c word ])
    by true e = spent e
    by false e = acts e
