-- What a listener that follows tells with a tick.
use Rattle.std.proofs.{Common.{◌≡◌, ℕ, ◌+◌, ◌^◌, ◌<◌, ◌&&◌, not, nat_lt, Bool, true, false, Option, Some, None, [], refl, sym, ◌∙◌, ap}, lemmas.Bool.eq-eqb}
use Rattle.std.specs.Option.{option_and_then}
use Rattle.rb_base.specs.{Nodes.{Side, has, set_of}, Nodes.Side.{Biu, Rmu}, Sizes.Sizes}
use Rattle.rb_rules.specs.{declared.closing.Closed.Closed, declared.plan.Plan.Plan, declared.record.Epoch.Epoch, Core.{Act, Core, act_on, epoch_at, is_last, of_source, state_at, window_here}, ExactStage.Outcome, Goodness.Scenario, Hearing.{close_window, epoch_of}, NodeState.{NodeState, trusted_of}, NodeSteps.convicted_of, Slots.count_of}
use Rattle.rb_laws_agreement.proofs.Exchanges.{trusted-either}
use Rattle.rb_listen.specs.{Following.follow, Listening.{followed, heed}}
use Rattle.rb_laws_listener_learns.specs.Ears.{Ear, listening_at, told_at}
use Rattle.rb_laws_listener_follows.specs.Following.{epoch_with}
use Rattle.rb_laws_listener_follows.proofs.FollowerRuns.{acts_by}
use Rattle.rb_listen.specs.Listening as now

-- an act tells the start of a frame if its tick is the epoch
act-epoch : (sizes : Sizes) (plan : Plan) (c : Core) (st : NodeState) → (act_on sizes plan Biu 16 c st None st).epoch ≡ epoch_at sizes Biu st c.had
unfolding act_on
act-epoch sizes plan c st = by (is_last sizes plan Biu st c.had)
  where
    x : Outcome
    x = close_window sizes plan Biu 16 st (window_here sizes plan Biu st c.had) (of_source c.inbox)

    by : (b : Bool)
        → (elim b as (λ _. Act) [
          | true ↦ record { core = record { state = x.state; had = c.had + 1; inbox = [] }; epoch = epoch_at sizes Biu st c.had; message = None; closed = Some x.closed }
          | false ↦ record { core = record { state = st; had = c.had + 1; inbox = c.inbox }; epoch = epoch_at sizes Biu st c.had; message = None; closed = None }
        ]).epoch ≡ epoch_at sizes Biu st c.had
    by true = refl
    by false = refl

pub tells_epoch : (sc : Scenario) (ear : Ear) (k : ℕ) (c : Core) {st : _} → heed sc.sizes sc.plan (listening_at sc ear k) ≡ followed (follow sc.sizes sc.plan c) → c.had < 2 ^ 31
    → state_at sc.sizes sc.plan Biu c.state c.had ≡ st → (told_at sc ear k).epoch ≡ epoch_at sc.sizes Biu st c.had
tells_epoch sc ear k c {st} is below at =
    ap (λ x. x.heed.epoch) is ∙ ap (λ a. a.epoch) (acts_by sc.sizes sc.plan c below at) ∙ act-epoch sc.sizes sc.plan c st

-- the listener delivers what the window that it closes delivers
pub tells_close : (sc : Scenario) (ear : Ear) (k : ℕ) (core : Core) {x : _} → listening_at sc ear k ≡ now.Following core → (follow sc.sizes sc.plan core).closed ≡ Some x
    → (told_at sc ear k).delivered ≡ x.delivered
unfolding heed
tells_close sc ear k core is closed =
    ap (λ l. (heed sc.sizes sc.plan l).heed.delivered) is ∙ ap (option_and_then (λ (c : Closed). c.delivered)) closed

-- if the listener begins a frame in a state with the trusted nodes of another one, it tells what a
-- node in that state does
pub tells_frame : (sc : Scenario) (ear : Ear) {frame tick : ℕ} (st : NodeState) → (told_at sc ear tick).epoch ≡ epoch_at sc.sizes Biu st tick → st.frame ≡ frame → st.epoch ≡ tick
    → (me : Side) (b : NodeState) → st.near ≡ trusted_of Biu me b → st.far.trusted ≡ trusted_of Rmu me b → (told_at sc ear tick).epoch ≡ Some (epoch_with sc frame tick me b)
tells_frame sc ear {frame} {tick} st told frame_is epoch_is me b near far =
    told
    ∙ ap (λ (t : Bool). elim t as (λ _. Option Epoch) [ true ↦ Some (epoch_of sc.sizes Biu st) | false ↦ None ]) (eq-eqb st.epoch tick epoch_is)
    ∙ ap (λ f. Some (record { frame = f; tick = st.epoch; biu = convicted_of sc.sizes Biu Biu st; rmu = convicted_of sc.sizes Rmu Biu st })) frame_is
    ∙ ap (λ k. Some (record { frame = frame; tick = k; biu = convicted_of sc.sizes Biu Biu st; rmu = convicted_of sc.sizes Rmu Biu st })) epoch_is
    ∙ ap (λ set. Some (record { frame = frame; tick = tick; biu = left Biu set; rmu = convicted_of sc.sizes Rmu Biu st })) (near ∙ sym (trusted-either me Biu b))
    ∙ ap (λ set. Some (record { frame = frame; tick = tick; biu = convicted_of sc.sizes Biu me b; rmu = left Rmu set })) (far ∙ sym (trusted-either me Rmu b))
  where
    left : Side → ℕ → ℕ
    left kind set = set_of (λ j. nat_lt j (count_of kind sc.sizes) && not (has set j))
