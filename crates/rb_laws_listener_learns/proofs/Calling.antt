-- A good RMU knows the middle of stage 1, so it calls in stage 2.
use Rattle.std.proofs.{Common.{◌≡◌, ℕ, ◌+◌, ◌==◌, true, List, Some, option_map, slice_get, refl, sym, ◌∙◌, ap, subst, arith}, lemmas.Bool.Decides.nat_tests}
use Rattle.rb_base.specs.{Nodes.Side.Rmu, Sizes.{Sizes, sync_slot_of}}
use Rattle.rb_rules.specs.{declared.plan.Plan.Plan, Book.of_kind, Goodness.{Scenario, is_good}, Hearing.{Sending, sending}, Lawful.IsLawful, NodeState.NodeState, Plan.f0_of, Ports.HandIn, Rounds.{moment, sending_in}, SyncStage.{call_of, call_tick_of}}
use Rattle.rb_laws_agreement.proofs.{Goodnesses.slot_last, Invariant.is_good_now, NodeWindows.{Windows, sync_windows_are, word_at}, Settings.good_state, Tests.Present}
use Rattle.rb_laws_synchrony.proofs.{Synchronous.{KnowsMiddle, from_1, heard_from, heard_to, to_1}, Synchrony.{IsSynchronous, synchrony}}
use Rattle.rb_listen.specs.Passes.{is_call}
use Rattle.rb_laws_listener_learns.specs.{Calling.EachIsHeardToCall, Ears.{Ear, HearsTheRun, SendsIn}}

pub call-sending : (sizes : Sizes) (plan : Plan) (j : ℕ) (st : NodeState) (word : ℕ) {tick : ℕ} → call_tick_of sizes plan st 2 ≡ Some tick
    → sending sizes plan Rmu j st (sync_slot_of sizes) 2 word ≡ Some (record { tick = tick; message = call_of sizes st 2 })
unfolding sending
call-sending sizes plan j st word at =
    let in_sync : (sync_slot_of sizes == sync_slot_of sizes) ≡ true = grind (arith, nat_tests) in rw (in_sync, at) refl

is-a-call : (sizes : Sizes) (st : NodeState) → is_call sizes (call_of sizes st 2) ≡ true
is-a-call sizes st = let in_sync : (sync_slot_of sizes == sync_slot_of sizes) ≡ true = grind (arith, nat_tests) in rw in_sync refl

pub heard-to-call : (sc : Scenario) (hands : List HandIn) → IsLawful sc → (ear : Ear) → HearsTheRun sc hands ear → EachIsHeardToCall sc hands ear
heard-to-call sc hands law ear run n j running at good = record {
  sending = call;
  sent = sent;
  call = is-a-call sc.sizes there.value;
  heard = run.each n j call sent;
}
  where
    synced : IsSynchronous sc hands n
    synced = synchrony hands law n running

    good_now : is_good_now sc (moment sc hands n) Rmu j ≡ true
    good_now = ap (is_good sc Rmu j (moment sc hands n).frame) (slot_last sc.sizes 1 at) ∙ good

    there : Present (slice_get (of_kind Rmu (moment sc hands n).nodes) j)
    there = good_state synced.agree Rmu j good_now

    knows : KnowsMiddle sc Rmu j there.value there.value.k1 (f0_of sc.sizes sc.plan) (f0_of sc.sizes sc.plan + sc.plan.l) (f0_of sc.sizes sc.plan + sc.plan.v)
        (heard_from sc (from_1 sc synced.low)) (heard_to sc (to_1 sc synced.low))
    knows = synced.near.first at j there.value (record { there = there.is; good = good_now })

    call : Sending
    call = record { tick = knows.tick + sc.plan.l; message = call_of sc.sizes there.value 2 }

    ws : Windows sc (moment sc hands n) (sync_slot_of sc.sizes) (1 + 1)
    ws = sync_windows_are sc (moment sc hands n) 1 (omega arith) at

    sends : sending sc.sizes sc.plan Rmu j there.value (sync_slot_of sc.sizes) 2 (word_at sc (moment sc hands n) (sync_slot_of sc.sizes) j) ≡ Some call
    sends =
        call-sending sc.sizes sc.plan j there.value (word_at sc (moment sc hands n) (sync_slot_of sc.sizes) j)
        (ap (option_map (λ k1. k1 + sc.plan.l)) knows.is)

    sent : SendsIn sc hands n j call
    sent = record {
      running = running;
      in_frame = omega (arith, at);
      state = there.value;
      good = (there.is, ap (is_good sc Rmu j (moment sc hands n).frame) (ap (λ w. w.slot) (ws.are Rmu there.value)) ∙ good);
      sends = subst (λ w. sending_in sc (moment sc hands n) Rmu j there.value w ≡ Some call) (sym (ws.are Rmu there.value)) sends;
    }
