-- If stage 3 of the sync slot passes, good nodes begin the next frame when they know it then.
use Rattle.std.proofs.Common.{◌≡◌, ℕ, suc, ◌+◌, ◌*◌, ap, subst, arith}
use Rattle.rb_base.specs.{Nodes.Side, Sizes.sync_slot_of}
use Rattle.rb_rules.specs.{Clock.time_of, Goodness.clock_of, Lawful.IsLawful, Moments.IsRunning, NodeState.NodeState, Rounds.{Moment, moment, windows_in}}
use Rattle.rb_rules.proofs.Middles.{IsBetween}
use Rattle.rb_laws_agreement.proofs.{Agreement.{IsAgreed, agreement}, Invariant.{Agree, IsGoodNode}}
use Rattle.rb_laws_synchrony.proofs.Synchronous.{KnowsEpoch}
use Rattle.rb_laws_listener_learns.specs.Ears.{Ear}
use Rattle.rb_laws_listener_learns.proofs.SyncStages.{TurnsAt, turns_at}
use Rattle.rb_laws_listener_near.proofs.NextEpochs.{BeginTogether}
use Rattle.rb_laws_listener_follows.proofs.HeardLast.{NextBegins}

-- moment k is the end of stage 3, in which all agree
pub next_begins : {sc hands : _} → IsLawful sc → (ear : Ear) {k s next_epoch : _} → Agree sc hands k (moment sc hands k) s
    → (moment sc hands k).window ≡ 3 * sync_slot_of sc.sizes + 3 → (t : BeginTogether sc (moment sc hands k) ear.clock next_epoch)
    → NextBegins sc hands ear (moment sc hands k).frame next_epoch t.later
next_begins {sc} {hands} law ear {k} agree at t = record {
  good = λ q frame window running me i now node. begun q (is_third q frame window running) running me i now node;
  listener = t.listener;
}
  where
    m : Moment
    m = moment sc hands k

    is_third : (q : ℕ) → (moment sc hands q).frame ≡ (moment sc hands k).frame + 1 → (moment sc hands q).window ≡ 0 → IsRunning (moment sc hands q) → q ≡ suc (suc k)
    is_third q frame window running =
        let other : IsAgreed sc hands q = agreement hands law q running in
        let e : (moment sc hands q).frame * (windows_in sc.sizes + 1) ≡ ((moment sc hands k).frame + 1) * (windows_in sc.sizes + 1) = ap (λ f. f * (windows_in sc.sizes + 1)) frame in
        let f : ((moment sc hands k).frame + 1) * (windows_in sc.sizes + 1) ≡ (moment sc hands k).frame * (windows_in sc.sizes + 1) + (windows_in sc.sizes + 1) = omega arith in
        omega (arith, other.agree.place, agree.place, e, f, window, at)

    begun : (q : ℕ) → q ≡ suc (suc k) → IsRunning (moment sc hands q) → (me : Side) (i : ℕ) (now : NodeState) → IsGoodNode sc (moment sc hands q) me i now
        → IsBetween t.later (t.later + sc.plan.p) (time_of (clock_of sc me i) now.epoch)
    begun q is running me i now node =
        let turned : TurnsAt sc hands k me i now =
        turns_at law agree at (subst (λ x. IsRunning (moment sc hands x)) is running) (subst (λ x. IsGoodNode sc (moment sc hands x) me i now) is node) in
        let knows : KnowsEpoch sc me i turned.st t.later = t.good me i turned.st turned.was in
        subst (λ x. IsBetween t.later (t.later + sc.plan.p) (time_of (clock_of sc me i) x)) (turned.epoch knows.takes.epoch knows.takes.known) knows.between
