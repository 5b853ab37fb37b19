-- What a node tells of itself, by what is kept.
use Rattle.std.specs.Prelude.{ℕ, ◌≡◌, ◌==◌, ◌&&◌, not, true, false, Bool, Option, Some, None, List, option_map, get_or, slice_index, slice_set, if◌then◌else◌}
use Rattle.rb_base.specs.{Nodes.Side, declared.values.See.See, declared.values.See.TheVariants.Nothing}
use Rattle.rb_rules.specs.{declared.closing.Closed.Closed, declared.record.Epoch.Epoch, Book.{Begun, Row}, ExactStage.each_node, Clock.Timeline, Core.{is_tick, next_tick, pass_to, tick}, Goodness.{Scenario, clock_of}, Hearing.{Coming, begun_of, judged_see}, NodeState.{NodeState, trusted_of}, Ports.PortState, SyncStage.new_epoch_of, WorldStep.{Site, after_arrival, pass_and_tick, wants_in, word_of}}
use Rattle.rb_node.specs.{Acts.IsAct, Cores.IsCore, Ends.EndsExactWindow, declared.act.Step.Step}
use Rattle.rb_world.specs.Sites.{KeptSite, Stands, after_tick, number_of, taken_in}

-- what was seen of each source, with the time kept in place of a stamp
abbrev pub sees_at : List ℕ → Closed → List See
sees_at times c = each_node (λ j. judged_see (slice_index times j) (get_or c.sees j Nothing))

-- the row of a stage that node i of kind me closed, by the times kept
abbrev pub row_at : Side → ℕ → NodeState → List ℕ → Closed → Row
row_at me i st times c = record {
  place = c.place;
  sees = sees_at times c;
  biu = trusted_of Side.Biu me st;
  rmu = trusted_of Side.Rmu me st;
  line = option_map (λ d. record { receiver = i; sender = d.sender; value = d.value }) c.delivered;
}

-- what the node has told of the last stage after a tick that closed a window or did not. It tells
-- nothing of the tail, stage 4
abbrev pub row_after : Side → KeptSite → Bool → Option Row → Option Row
row_after me k closed before =
    if closed && not (k.node.shown.place.stage == 4)
    then Some (row_at me (number_of k) k.node.seat.state k.times k.node.shown)
    else before

-- what it has told of the last frame once this one began, if any did
abbrev pub begun_after : Scenario → List PortState → Side → ℕ → Option Epoch → Option Begun → Option Begun
begun_after sc ports me i None before = before
begun_after sc ports me i (Some e) before = Some (begun_of sc ports me i e)

-- tick k, before which the quiet ticks pass, is that of the site: what is kept afterwards stands
-- for the site after it, the step is what the tick gave, and what the site then has told is told by
-- what is kept
pub record IsTicked (sc : Scenario) (ports : List PortState) (me : Side) (before after : KeptSite) (step : Step) (k : ℕ) (s : Site) : Type 0 where
  pub stands : Stands sc me after (after_tick sc ports me (number_of before) (pass_and_tick sc ports me (number_of before) k s.core) s)
  pub core : IsCore after.node (pass_and_tick sc ports me (number_of before) k s.core).core
  pub act : IsAct after.node.shown step (pass_and_tick sc ports me (number_of before) k s.core)
  pub row : (after_tick sc ports me (number_of before) (pass_and_tick sc ports me (number_of before) k s.core) s).row ≡ row_after me after step.closed s.row
  pub begun : (after_tick sc ports me (number_of before) (pass_and_tick sc ports me (number_of before) k s.core) s).begun
      ≡ begun_after sc ports me (number_of before) step.epoch s.begun

-- Next ticks.

-- For each site for which `before` was kept the next tick that is not quiet has been taken, and
-- this step is what it gave
abbrev pub TakesNext : Side → KeptSite → KeptSite → Step → Type 0
TakesNext me before after step = (sc : Scenario) (ports : List PortState) (k : ℕ) (s : Site) → Stands sc me before s
    → next_tick sc.sizes sc.plan me (number_of before) s.core ≡ Some k → IsTicked sc ports me before after step k s

-- tick k has been taken, be it quiet or not, if this is the word that the node wants for it
abbrev pub TakesTickWith : Side → ℕ → ℕ → KeptSite → KeptSite → Step → Type 0
TakesTickWith me k word before after step = (sc : Scenario) (ports : List PortState) (s : Site) → Stands sc me before s
    → word ≡ word_of sc ports (number_of before) (wants_in sc me (number_of before) (pass_to k s.core))
    → IsTicked sc ports me before after step k s

-- the next tick that is not quiet has been taken, and all that it gave is that a window is closed
abbrev pub ClosesNext : Side → KeptSite → KeptSite → Type 0
ClosesNext me before after = TakesNext me before after (record { epoch = None; message = None; closed = true })

-- the next tick that is not quiet ends a window of a slot before the sync slot
abbrev pub EndsNext : Side → KeptSite → Type 0
EndsNext me kept = (sc : Scenario) (s : Site) → Stands sc me kept s
    → (k : ℕ) × ((next_tick sc.sizes sc.plan me (number_of kept) s.core ≡ Some k) × EndsExactWindow sc.sizes sc.plan me s.core.state k)

-- if that is all that happens at it, and so no frame begins and nothing is sent, then P
abbrev pub IfEndsNext : Side → KeptSite → Type 0 → Type 0
IfEndsNext me kept P = (sc : Scenario) (k : ℕ) (s : Site) → Stands sc me kept s
    → next_tick sc.sizes sc.plan me (number_of kept) s.core ≡ Some k
    → is_tick (new_epoch_of sc.plan me s.core.state) k ≡ false → EndsExactWindow sc.sizes sc.plan me s.core.state k
    → (tick sc.sizes sc.plan me (number_of kept) (pass_to k s.core) 0).message ≡ None → P

-- Arrivals.

-- nothing has changed but the inbox, the ticks that the node had, and the time kept for this source
abbrev pub OnlyHears : ℕ → ℕ → KeptSite → KeptSite → Type 0
OnlyHears from time before after =
    after ≡ record before { node = record before.node { had = after.node.had; inbox = after.node.inbox }; times = slice_set before.times from time }

-- message c has come to the node of which `before` was kept, with the stamp that `clock` gives c,
-- and now `after` is kept of the node
abbrev pub HasComeBy : Side → Timeline → Coming → KeptSite → KeptSite → Type 0
HasComeBy me clock c before after = (sc : Scenario) (place : ℕ) (s : Site) → clock ≡ clock_of sc me (number_of before)
    → Stands sc me before s → Stands sc me after (after_arrival sc me (number_of before) place c s)

-- message c has come to the node of which `before` was kept, with the stamp of the node's next
-- tick, and now `after` is kept of the node
abbrev pub HasTakenIn : Side → Coming → KeptSite → KeptSite → Type 0
HasTakenIn me c before after = (sc : Scenario) (s : Site) → Stands sc me before s → Stands sc me after (taken_in sc me c s)
