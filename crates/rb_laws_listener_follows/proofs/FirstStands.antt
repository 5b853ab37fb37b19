-- After the first window of its first frame a listener stands beside the run as in each later
-- window.
use Rattle.std.proofs.Common.{◌≡◌, ℕ, suc, ◌+◌, ◌/◌, ◌%◌, ◌≤◌, List, Some, None, sym, ◌∙◌, ap, subst, arith}
use Rattle.rb_base.specs.Sizes.{sync_slot_of}
use Rattle.rb_rules.specs.{Goodness.Scenario, Lawful.IsLawful, Moments.IsRunning, Ports.HandIn, Rounds.moment}
use Rattle.rb_laws_agreement.proofs.Settings.{stages_with}
use Rattle.rb_listen.specs.{Lessons.first_of, declared.lesson.First.First}
use Rattle.rb_laws_listener_near.specs.Judged.{verdict_with}
use Rattle.rb_laws_listener_learns.specs.{Deciding.DecidesBy, Ears.{Ear, HearsTheRun, IsEar}, Learned.HasLearned, Receivers.{HoldsTo, IsCalm}}
use Rattle.rb_laws_listener_learns.proofs.{FrameStages.{IsAtWindow, IsStepped, at-window, first_of_frame, stepped}, Waits.waits-for}
use Rattle.rb_laws_listener_follows.specs.InTime.{moment_before}
use Rattle.rb_laws_listener_follows.proofs.{BeforeFirst.none_first, ExactPasses.StandsAt, ExactSteps.Abides, FirstBegins.{FirstBegins, first_state}, FirstWindow.{PassesWindow, outcome_first, passes_window}, SeenPremise.{holds_following, seen_following}}

-- the listener has gone through the first window, and stands before the second
pub record FirstStands (sc : Scenario) (hands : List HandIn) (ear : Ear) (learned : ℕ) (first : First) (b : FirstBegins sc hands ear learned first) : Type 0 where
  pub window : PassesWindow sc hands ear (moment_before sc (learned + 1) 0 1) first.epoch b.low (first_state sc first) (seen_following sc ear (suc learned))
  pub stands : StandsAt sc hands ear (suc learned) 1 first.epoch b.low

pub first_stands : {sc hands : _} → IsLawful sc → {ear : _} → IsEar sc ear → HearsTheRun sc hands ear → {learned tick s : _} → DecidesBy sc hands ear learned tick s
    → IsCalm sc hands ear learned s.lesson.records learned (sync_slot_of sc.sizes) → {first : _} → first_of sc.sizes sc.plan s.lesson ≡ Some first
    → HasLearned sc hands ear learned tick s.lesson.records first → (b : FirstBegins sc hands ear learned first)
    → {last : ℕ} → HoldsTo sc hands ear learned s.lesson.records last → suc (moment_before sc (learned + 1) 0 1) ≤ last → IsRunning (moment sc hands (suc (moment_before sc (learned + 1) 0 1)))
    → first.epoch + sc.plan.l ≤ ear.ticks → FirstStands sc hands ear learned first b
first_stands {sc} {hands} law {ear} is run {learned} {tick} {s} decides calm {first} found l b holds le running in_time = record {
  window = w;
  stands = record {
    shared = w.shared;
    before = (outcome_first sc ear first.epoch (first_state sc first)).state;
    st = (outcome_first sc ear first.epoch (first_state sc first)).state;
    abides = subst (λ k. Abides sc hands ear k first.epoch b.low w.shared (outcome_first sc ear first.epoch (first_state sc first)).state (outcome_first sc ear first.epoch (first_state sc first)).state) place w.abides;
    at = at;
    none = w.none (suc learned) frame (none_first s decides.searching (waits-for sc hands law ear is run learned tick s decides first found l.ahead) (omega (arith, in_time, law.plan.l.0)) (suc learned));
    sets = λ none. absurd (omega (arith, none));
  };
}
  where
    n : ℕ
    n = moment_before sc (learned + 1) 0 1

    next : learned + 1 ≡ suc learned
    next = omega arith

    place : suc (moment_before sc (learned + 1) 0 1) ≡ 1 + first_of_frame sc (suc learned)
    place = ap (λ f. suc (moment_before sc f 0 1)) next ∙ (let e : suc (first_of_frame sc (suc learned)) ≡ 1 + first_of_frame sc (suc learned) = omega arith in e)

    at : IsAtWindow sc hands (suc learned) 1
    at = at-window law calm.complete 1 (omega (arith, law.sizes.some_biu)) (subst (λ k. IsRunning (moment sc hands k)) place running)

    window_is : (moment sc hands (moment_before sc (learned + 1) 0 1)).window ≡ 0
    window_is = b.begins.window

    frame : (first_state sc first).frame ≡ suc learned
    frame = l.frame ∙ next

    step : IsStepped sc hands (moment_before sc (learned + 1) 0 1)
    step = stepped sc hands n (omega (arith, window_is)) running

    stages : stages_with sc (moment sc hands (moment_before sc (learned + 1) 0 1)) 0 1 ≡ (moment sc hands (suc (moment_before sc (learned + 1) 0 1))).book.stages
    stages =
        sym (ap (λ m. m.book.stages) step.is ∙ step.judged.stages
        ∙ ap (λ k. stages_with sc (moment sc hands n) (k / 3) (k % 3 + 1)) window_is)

    judged : verdict_with (seen_following sc ear (suc learned)) (stages_with sc (moment sc hands (moment_before sc (learned + 1) 0 1)) 0 1) ≡ None
    judged =
        ap (verdict_with (seen_following sc ear (suc learned))) stages
        ∙ holds_following sc hands ear s.lesson.records holds (suc n) le (ap (λ k. (moment sc hands k).frame) place ∙ at.frame_is) (omega arith)
        (let v : (moment sc hands (suc n)).window ≡ 1 = ap (λ k. (moment sc hands k).window) place ∙ at.window_is in omega (arith, v))

    w : PassesWindow sc hands ear (moment_before sc (learned + 1) 0 1) first.epoch b.low (first_state sc first) (seen_following sc ear (suc learned))
    w = passes_window b.begins running (seen_following sc ear (suc learned)) judged in_time
