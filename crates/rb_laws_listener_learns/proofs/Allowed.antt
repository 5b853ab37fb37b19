-- What an RMU says from when the slot of its onset begins by a clock beside the bus is what a
-- faulty one may say.
use Rattle.std.proofs.Common.{◌≡◌, ℕ, ◌+◌, ◌-◌, ◌*◌, ◌≤◌, ◌&&◌, true, List, sym, ◌∙◌, ap, subst, arith}
use Rattle.rb_base.specs.{Nodes.{has, set_of}, Nodes.Side.Rmu}
use Rattle.rb_base.proofs.Plain.{and_first}
use Rattle.rb_rules.specs.{Clock.time_of, Goodness.clock_of, Lawful.IsLawful, Moments.{IsRunning, before_slot, time_in_frame}, Plan.shortest_of, Ports.HandIn, Rounds.{moment, windows_in}}
use Rattle.rb_laws_agreement.proofs.{Places.{IsPlaced, placed, running_earlier}, Tests.Passing}
use Rattle.rb_laws_synchrony.proofs.{PlanNumbers.drift_of, StageCalls.clock_now}
use Rattle.rb_listen.specs.Passes.{are_most}
use Rattle.rb_laws_listener_near.specs.Laws.{LieWithin}
use Rattle.rb_laws_listener_near.proofs.FramesNear.{steady_clock}
use Rattle.rb_laws_listener_learns.specs.{Ears.is_always_good, Laws.FaultyRmusMaySpeakByAnyClock}
use Rattle.rb_laws_listener_learns.proofs.{Apart.{AllWereAt, WasAt, all-were-at}, Fresh.always-good-in, Meeting.meet, Seeks.{good-inside, good-rmus, good-set}, TrustedSets.{GoodThere, SomeGood, good-there}}

-- if most RMUs are good in the whole run, some RMU is
pub some-good : {sc : _} (hands : List HandIn) → IsLawful sc → are_most sc.sizes (set_of (is_always_good sc hands)) ≡ true → SomeGood sc hands
unfolding good-set
some-good {sc} hands law most = by (meet sc.sizes (good-set sc hands) (good-set sc hands) law.sizes.most_rmus (good-inside sc hands) (good-inside sc hands) most most)
  where
    by : Passing (λ j. has (good-set sc hands) j && has (good-set sc hands) j) 0 16 → SomeGood sc hands
    by c = record { j = c.at; good = good-rmus sc hands c.at (omega (arith, c.high)) (and_first (has (good-set sc hands) c.at) (has (good-set sc hands) c.at) c.passes) }

pub may-speak : FaultyRmusMaySpeakByAnyClock
may-speak sc hands law most clock frame epoch b slot le running c onset late = record {
  frame = frame;
  slot = slot;
  onset = onset;
  running = running;
  me = Rmu;
  i = g.j;
  state = there.st;
  good = record { good = always-good-in hands law g.j frame slot running g.good; state = there.node.there };
  not_early = omega (arith, late, from, near.after, to, same);
}
  where
    g : SomeGood sc hands
    g = some-good hands law most

    offset : ℕ
    offset = 3 * slot * sc.plan.l

    there : GoodThere sc hands (frame * (windows_in sc.sizes + 1) + 3 * slot + 1 - 1) g.j
    there = good-there hands law (frame * (windows_in sc.sizes + 1) + 3 * slot + 1 - 1) g.j running g.good

    began : IsRunning (before_slot sc hands frame 0)
    began = running_earlier sc hands (frame * (windows_in sc.sizes + 1) + 3 * 0 + 1 - 1) (frame * (windows_in sc.sizes + 1) + 3 * slot + 1 - 1) (omega arith) running

    p : IsPlaced sc hands frame slot 1
    p = placed hands law frame slot 1 le (omega arith) (omega arith) running

    q : IsPlaced sc hands frame 0 1
    q = placed hands law frame 0 1 (omega arith) (omega arith) (omega arith) began

    gap : 3 * slot + (frame * (windows_in sc.sizes + 1) + 3 * 0 + 1 - 1) ≡ frame * (windows_in sc.sizes + 1) + 3 * slot + 1 - 1
    gap = omega arith

    was : WasAt sc hands (frame * (windows_in sc.sizes + 1) + 3 * 0 + 1 - 1) (before_slot sc hands frame slot) Rmu g.j there.st
    was =
        subst (λ t. AllWereAt sc hands (frame * (windows_in sc.sizes + 1) + 3 * 0 + 1 - 1) (moment sc hands t)) gap
        (all-were-at hands law (frame * (windows_in sc.sizes + 1) + 3 * 0 + 1 - 1) (3 * slot) (subst (λ t. IsRunning (moment sc hands t)) (sym gap) running)) Rmu g.j there.st there.node

    near : LieWithin sc.plan.p (time_of clock epoch) (time_in_frame sc Rmu g.j was.st 0)
    near = b.near Rmu g.j was.st (record { good = always-good-in hands law g.j frame 0 began g.good; state = was.was.there })

    -- up to the slot the good RMU's clock is at most this late
    to : time_of (clock_of sc Rmu g.j) (was.st.epoch + 0 + offset) ≤ time_in_frame sc Rmu g.j was.st 0 + offset * (shortest_of sc.plan + drift_of sc.plan)
    to = (clock_now law there.node).not_late (was.st.epoch + 0) offset

    same : time_of (clock_of sc Rmu g.j) (was.st.epoch + 0 + offset) ≡ time_in_frame sc Rmu g.j there.st offset
    same = ap (time_of (clock_of sc Rmu g.j)) (let e : was.st.epoch ≡ there.st.epoch = was.same (q.frame_is ∙ sym p.frame_is) in omega (arith, e))

    from : time_of clock epoch + offset * shortest_of sc.plan ≤ time_of clock (epoch + offset)
    from = (steady_clock law b.keeps).not_early epoch offset
