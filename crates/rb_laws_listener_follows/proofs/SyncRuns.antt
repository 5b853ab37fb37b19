-- From stage 1 of the sync slot a listener comes to stage 2.
use Rattle.std.proofs.Common.{◌≡◌, suc, ◌+◌, ◌≤◌, true, slice_get, ◌∙◌, ap, subst, arith}
use Rattle.rb_base.specs.{Nodes.has, Nodes.Side.Biu, Sizes.sync_slot_of}
use Rattle.rb_base.proofs.Plain.{and_second}
use Rattle.rb_rules.specs.{Book.of_kind, Goodness.is_good, Moments.IsRunning, Plan.f0_of, Rounds.{Moment, moment}}
use Rattle.rb_laws_agreement.proofs.{Tests.{Passing, Present}, Numbers.one_of_many, Premises.is_sound, Goodnesses.slot_last, Invariant.{Agree, IsGoodNode, is_good_now}, NextMoments.next, NodeWindows.sync_windows_are, Settings.good_state, SyncAgrees.{SyncSetting, agree_sync}}
use Rattle.rb_laws_synchrony.proofs.{SyncSteps.{IsPassedStage, near_first}, Synchronous.Synchronous}
use Rattle.rb_laws_events.proofs.TurnTicks.{no-next}
use Rattle.rb_laws_listener_near.proofs.{SyncTracks.IsLike, Tracking.{Held, Tracks, held-by}}
use Rattle.rb_laws_listener_follows.proofs.{ExactSteps.Abides, FirstCalls.PassesFirst, SecondSteps.StandsSecond}

-- if a stage of the sync slot passes, a listener that keeps up holds what all good nodes do
pub held_like : {sc hands n q s : _} → IsPassedStage sc hands n (moment sc hands n) s q → {st : _} → IsLike sc (moment sc hands n) st → Held sc (moment sc hands n) s st
held_like {sc} {hands} {n} {q} {s} c like =
    let m : Moment = moment sc hands n in
    let one : Passing (is_sound sc Biu m.frame (sync_slot_of sc.sizes) s.trusted) 0 16 = one_of_many (is_sound sc Biu m.frame (sync_slot_of sc.sizes) s.trusted) (omega (arith, c.premise.most Biu)) in
    let good : is_good sc Biu one.at m.frame (sync_slot_of sc.sizes) ≡ true = and_second (has (s.trusted Biu) one.at) (is_good sc Biu one.at m.frame (sync_slot_of sc.sizes)) one.passes in
    let now : is_good_now sc m Biu one.at ≡ true = ap (is_good sc Biu one.at m.frame) (slot_last sc.sizes q c.stage.at) ∙ good in
    let there : Present (slice_get (of_kind Biu m.nodes) one.at) = good_state c.stage.agree Biu one.at now in
    let node : IsGoodNode sc m Biu one.at there.value = record { there = there.is; good = now } in
    held-by (c.stage.agree.nodes Biu one.at there.value node) (like one.at there.value node)

pub held_in_sync : {sc hands n q s : _} → IsPassedStage sc hands n (moment sc hands n) s q → {st : _} → Tracks sc (moment sc hands n) st → Held sc (moment sc hands n) s st
held_in_sync c t = held_like c t.like

pub stands_second : {sc hands ear n epoch low s before st : _} → Abides sc hands ear n epoch low s before st
    → (c : IsPassedStage sc hands n (moment sc hands n) s 0) → SyncSetting sc hands n (moment sc hands n) s 0 (sync_windows_are sc (moment sc hands n) 0 c.stage.small c.stage.at)
    → next sc (moment sc hands n) ≡ moment sc hands (suc n) → IsRunning (moment sc hands (suc n)) → (x : PassesFirst sc hands ear n epoch before st)
    → IsPassedStage sc hands (suc n) (moment sc hands (suc n)) s 1 → epoch + (f0_of sc.sizes sc.plan + sc.plan.l) + sc.plan.v ≤ ear.ticks
    → StandsSecond sc hands ear (suc n) epoch low s x.now
stands_second {sc} {hands} {n} {epoch} {low} {s} a c set next_is running x d in_time =
    let tracks : Tracks sc (moment sc hands (suc n)) x.now = subst (λ m. Tracks sc m x.now) next_is x.tracks in
    record {
      beside = record {
        law = a.beside.law;
        is = a.beside.is;
        run = a.beside.run;
        running = running;
        agree = subst (λ m. Agree sc hands (suc n) m s) next_is (agree_sync set next_is);
        near = subst (λ m. Synchronous sc m s low) next_is (near_first c a.beside.near);
        began = a.beside.began;
        past = a.beside.past;
      };
      passed = d;
      stands = x.stands;
      turns = no-next sc.sizes sc.plan Biu x.now (epoch + (f0_of sc.sizes sc.plan + sc.plan.l)) x.unknown;
      epoch_is = x.epoch_is;
      unknown = x.unknown;
      tracks = tracks;
      held = held_in_sync d tracks;
      in_time = in_time;
    }
