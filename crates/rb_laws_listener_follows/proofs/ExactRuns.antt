-- From window to window below the sync slot a listener stands beside the run.
use Rattle.std.proofs.Common.{◌≡◌, ℕ, suc, ◌+◌, ◌-◌, ◌*◌, ◌<◌, ◌≤◌, false, List, inl, inr, sym, ◌∙◌, ap, subst, arith}
use Rattle.rb_base.specs.{Nodes.Side.Biu, Sizes.sync_slot_of}
use Rattle.rb_rules.specs.{Goodness.Scenario, Moments.IsRunning, NodeState.NodeState, Ports.HandIn, Rounds.{moment, windows_in}}
use Rattle.rb_laws_agreement.proofs.{Agreement.{IsAgreed, agreement, exact-setting, step_is}, Invariant.Shared, NextMoments.next, Settings.Setting, SlotRuns.next-window}
use Rattle.rb_laws_synchrony.proofs.{SyncSteps.near_exact, Synchronous.Synchronous}
use Rattle.rb_laws_events.proofs.TurnTicks.{no-next}
use Rattle.rb_laws_listener_learns.specs.Ears.{Ear}
use Rattle.rb_laws_listener_near.proofs.Tracking.{Tracks}
use Rattle.rb_laws_listener_follows.proofs.{ExactSteps.{Abides, GoesThrough, outcome_at}, FollowerRuns.Stands, HeardExact.Beside}

-- the run goes on over the window of moment `n`
pub record GoesOn (sc : Scenario) (hands : List HandIn) (n : ℕ) : Type 0 where
  pub next_is : next sc (moment sc hands n) ≡ moment sc hands (suc n)
  pub open_on : (next sc (moment sc hands n)).book.ended ≡ false

pub goes_on : (sc : Scenario) (hands : List HandIn) (n : ℕ) → (moment sc hands n).window < windows_in sc.sizes → IsRunning (moment sc hands (suc n)) → GoesOn sc hands n
goes_on sc hands n inside running =
    elim (step_is sc hands (moment sc hands n) running) [
      | inl window ↦ record { next_is = sym window.1; open_on = ap (λ x. x.book.ended) (sym window.1) ∙ running }
      | inr turn ↦ let over : windows_in sc.sizes ≤ (moment sc hands n).window = turn.0 in absurd (omega (arith, over, inside))
    ]

-- if the run goes on over a window below the sync slot, the window is a setting
pub setting_at : {sc hands ear n epoch low s : _} (slot q : ℕ) → Beside sc hands ear n epoch low s → slot < sync_slot_of sc.sizes → q < 3
    → (moment sc hands n).window ≡ 3 * slot + q → IsRunning (moment sc hands (suc n)) → Setting sc hands n (moment sc hands n) s slot q
setting_at {sc} {hands} {n} slot q b below small at running =
    exact-setting slot q b.law b.agree below small at (goes_on sc hands n (omega (arith, at, below, small)) running).open_on

-- the listener stands before the next window
pub record StandsNext (sc : Scenario) (hands : List HandIn) (ear : Ear) (n epoch low : ℕ) (st : NodeState) : Type 0 where
  pub shared : Shared
  pub abides : Abides sc hands ear n epoch low shared st st

pub stands_next : {sc hands ear n epoch low s slot q before st : _} → Abides sc hands ear n epoch low s before st
    → slot < sync_slot_of sc.sizes → q < 3 → (moment sc hands n).window ≡ 3 * slot + q → IsRunning (moment sc hands (suc n)) → GoesThrough sc hands ear n epoch before st slot q
    → StandsNext sc hands ear (suc n) epoch low (outcome_at sc hands ear n epoch st slot q).state
stands_next {sc} {hands} {ear} {n} {epoch} {low} {slot} {q} {st} a below small at running g = record {
  shared = agreed.shared;
  abides = record {
    beside = record {
      law = a.beside.law;
      is = a.beside.is;
      run = a.beside.run;
      running = running;
      agree = agreed.agree;
      near = subst (λ m. Synchronous sc m agreed.shared low) on.next_is
          (near_exact agreed.shared a.beside.agree a.beside.near.begun (omega (arith, at, below, small)));
      began = a.beside.began;
      past = a.beside.past;
    };
    stands = subst (λ k. Stands sc ear (outcome_at sc hands ear n epoch st slot q).state k) tick g.stands;
    turns = no-next sc.sizes sc.plan Biu (outcome_at sc hands ear n epoch st slot q).state (epoch + (moment sc hands (suc n)).window * sc.plan.l) g.unknown;
    epoch_is = g.epoch_is;
    unknown = g.unknown;
    tracks = subst (λ m. Tracks sc m (outcome_at sc hands ear n epoch st slot q).state) on.next_is g.tracks;
  };
}
  where
    on : GoesOn sc hands n
    on = goes_on sc hands n (omega (arith, at, below, small)) running

    agreed : IsAgreed sc hands (suc n)
    agreed = agreement hands a.beside.law (suc n) running

    window : (moment sc hands (suc n)).window ≡ (moment sc hands n).window + 1
    window = ap (λ m. m.window) (sym on.next_is) ∙ next-window sc (moment sc hands n)

    ticks : (moment sc hands (suc n)).window * sc.plan.l ≡ (moment sc hands n).window * sc.plan.l + sc.plan.l
    ticks = let e : ((moment sc hands n).window + 1) * sc.plan.l ≡ (moment sc hands n).window * sc.plan.l + sc.plan.l = omega arith in ap (λ w. w * sc.plan.l) window ∙ e

    tick : suc (epoch + (moment sc hands n).window * sc.plan.l + (sc.plan.l - 1)) ≡ epoch + (moment sc hands (suc n)).window * sc.plan.l
    tick = omega (arith, ticks, a.beside.law.plan.l.0)
