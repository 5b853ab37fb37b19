-- For the law that events are rounds if the premise on faults is broken in a sync slot: a node that
-- has told its row of the last stage of the sync slot may go through the tail into the next frame.
-- An arrival keeps it on this course.
use Rattle.std.proofs.Common.{◌≡◌, ℕ, ◌+◌, ◌^◌, ◌<◌, ◌≤◌, false, List, sym, subst, arith, Option, Some}
use Rattle.rb_base.specs.Nodes.{Side}
use Rattle.rb_rules.specs.{declared.role.Role.TheVariants.Sync, Clock.{stamp_of, time_of}, Core.{Core, arrive, pass_to}, Goodness.{Scenario, clock_of}, Hearing.Coming, NodeState.NodeState, Plan.tail_start_of, Ports.HandIn, Slots.listens, SyncStage.new_epoch_of, WorldStep.{Site, Timed, after_arrival}}
use Rattle.rb_rules.proofs.{QuietTicks.arrive-same, Stamps.Moves}
use Rattle.rb_laws_synchrony.proofs.Times.{stamp_to}
use Rattle.rb_laws_events.proofs.{BreakSites.HasTold, TailTicks.IsAfter, TurnTicks.after-later}

-- `a` is the next tick of a node that has told its row, and the next frame begins with tick `x`
pub record AwaitsNext (sc : Scenario) (me : Side) (i : ℕ) (st : NodeState) (x : ℕ) (core : Core) (a : Timed) : Type 0 where
  pub had : core.had ≤ a.tick
  pub small : a.tick < 2 ^ 31
  pub at_time : a.time ≡ time_of (clock_of sc me i) a.tick
  pub after : IsAfter sc.sizes sc.plan me st.frame st.epoch x core.state core.had a.tick

-- the course after the last stage: the next frame begins with tick `x`
pub record Beyond (sc : Scenario) (hands : List HandIn) (p : ℕ) (me : Side) (i : ℕ) (st : NodeState) (core : Core) (o : Option Timed) : Type 0 where
  pub x : ℕ
  pub low : st.epoch + tail_start_of sc.sizes sc.plan ≤ x
  pub calls : listens me Sync 3 ≡ false → new_epoch_of sc.plan me st ≡ Some x
  pub ahead : (a : Timed) → o ≡ Some a → AwaitsNext sc me i st x core a

abbrev pub HasToldLast : Scenario → List HandIn → Side → ℕ → ℕ → Site → Type 0
HasToldLast sc hands me i p s = HasTold sc hands (Beyond sc) me i p s

unfoldable pub told-arrives : {sc : _} (hands : List HandIn) (me : Side) (i p n : ℕ) (c : Coming) (s : Site) (st : NodeState) → Moves (clock_of sc me i) → Beyond sc hands p me i st s.core s.ahead
    → ((a : Timed) → s.ahead ≡ Some a → c.time ≤ a.time) → Beyond sc hands p me i st (after_arrival sc me i n c s).core (after_arrival sc me i n c s).ahead
unfolding after_arrival
told-arrives {sc} hands me i p n c s st moves h before =
    let stamp : ℕ = stamp_of (clock_of sc me i) c.time in
    let passed : Core = pass_to stamp s.core in
    let same = arrive-same sc.sizes me passed c.from c.bytes in
    record {
      x = h.x;
      low = h.low;
      calls = h.calls;
      ahead = λ a e.
          let was : AwaitsNext sc me i st h.x s.core a = h.ahead a e in
          let in_time : stamp ≤ a.tick = stamp_to (clock_of sc me i) moves c.time a.tick (let le = before a e in let at = was.at_time in omega (arith, le, at)) in
          let had : s.core.had ≤ a.tick = was.had in
          let most : passed.had ≤ a.tick = omega (arith, in_time, had) in
          let least : s.core.had ≤ passed.had = omega arith in
          record {
            had = omega (arith, same.1, most);
            small = was.small;
            at_time = was.at_time;
            after = subst (λ y. IsAfter sc.sizes sc.plan me st.frame st.epoch h.x y (arrive sc.sizes me passed c.from c.bytes).had a.tick) (sym same.0)
                (after-later (arrive sc.sizes me passed c.from c.bytes).had (omega (arith, same.1, least)) was.after);
          };
    }
