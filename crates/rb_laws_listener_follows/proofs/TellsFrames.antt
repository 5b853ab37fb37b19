-- A listener that stands before the first window of a frame tells the frame's start as the good
-- nodes do.
use Rattle.std.proofs.Common.{◌≡◌, ℕ, suc, ◌+◌, ◌-◌, ◌*◌, ◌^◌, ◌<◌, [], ◌++◌, Some, refl, sym, ◌∙◌, ap, subst, arith}
use Rattle.rb_base.specs.Nodes.Side.{Biu, Rmu}
use Rattle.rb_rules.specs.{Core.{Core, epoch_at, state_at}, Moments.{IsGoodBefore, IsRunning}, Rounds.{moment, windows_in}}
use Rattle.rb_laws_agreement.proofs.{Invariant.{Holds, IsGoodNode}, Places.{IsPlaced, good_before_slot, placed}}
use Rattle.rb_laws_listener_learns.specs.Ears.{listening_at, told_at}
use Rattle.rb_laws_listener_learns.proofs.FrameStages.{first_of_frame}
use Rattle.rb_laws_listener_follows.specs.Following.{epoch_with}
use Rattle.rb_laws_listener_follows.proofs.{ExactPasses.StandsAt, FollowerRuns.{Stands, arrivals, hears_all, heeds_core}, Tellings.{tells_epoch, tells_frame}, TurnSets.HoldsSets}
use Rattle.rb_listen.specs.Listening as now

pub tells_at : {sc hands ear : _} (f : ℕ) {epoch low : ℕ} → StandsAt sc hands ear (suc f) 0 epoch low → epoch < ear.ticks
    → {me i b : _} → IsGoodBefore sc hands (suc f) 0 me i b → (told_at sc ear epoch).epoch ≡ Some (epoch_with sc (suc f) epoch me b)
tells_at {sc} {hands} {ear} f {epoch} x in_time {me} {i} {b} good =
    tells_frame sc ear x.st told sets.frame_is x.abides.epoch_is me b (sets.near ∙ sym (holds.trusted Biu)) (sets.far ∙ sym (holds.trusted Rmu))
  where
    n : ℕ
    n = 0 + first_of_frame sc (suc f)

    sets : HoldsSets x.shared (suc f) x.st
    sets = x.sets refl

    here : epoch + (moment sc hands (0 + first_of_frame sc (suc f))).window * sc.plan.l ≡ epoch
    here = let e : (moment sc hands n).window * sc.plan.l ≡ 0 * sc.plan.l = ap (λ w. w * sc.plan.l) x.at.window_is in omega (arith, e)

    first : IsRunning (moment sc hands (suc f * (windows_in sc.sizes + 1) + 3 * 0 + 1 - 1))
    first = subst (λ k. IsRunning (moment sc hands k)) (let e : 0 + first_of_frame sc (suc f) ≡ suc f * (windows_in sc.sizes + 1) + 3 * 0 + 1 - 1 = omega arith in e) x.abides.beside.running

    p : IsPlaced sc hands (suc f) 0 1
    p = placed hands x.abides.beside.law (suc f) 0 1 (omega arith) (omega arith) (omega arith) first

    node : IsGoodNode sc (moment sc hands (0 + first_of_frame sc (suc f))) me i b
    node =
        subst (λ k. IsGoodNode sc (moment sc hands k) me i b) (let e : first_of_frame sc (suc f) ≡ 0 + first_of_frame sc (suc f) = omega arith in e)
        (good_before_slot (omega arith) p good)

    holds : Holds sc (moment sc hands (0 + first_of_frame sc (suc f))) x.shared me b
    holds = x.abides.beside.agree.nodes me i b node

    below : epoch < 2 ^ 31
    below = omega (arith, in_time, x.abides.beside.is.ticks)

    start : Core
    start = record { state = x.before; had = epoch; inbox = [] }

    c : Core
    c = record { state = x.before; had = epoch; inbox = [] ++ arrivals sc.sizes epoch (ear.heard epoch) }

    stands : Stands sc ear x.before epoch
    stands = subst (Stands sc ear x.before) here x.abides.stands

    follows : listening_at sc ear epoch ≡ now.Following (record { state = x.before; had = epoch; inbox = [] ++ arrivals sc.sizes epoch (ear.heard epoch) })
    follows = stands.here ∙ hears_all sc (ear.heard epoch) start below

    turned : state_at sc.sizes sc.plan Biu x.before epoch ≡ x.st
    turned = subst (λ k. state_at sc.sizes sc.plan Biu x.before k ≡ x.st) here x.abides.turns

    told : (told_at sc ear epoch).epoch ≡ epoch_at sc.sizes Biu x.st epoch
    told = tells_epoch sc ear epoch c (heeds_core sc ear epoch c follows) below turned
