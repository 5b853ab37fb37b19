-- The decision of a listener is one by a frame of the bus, whose calls it heard.
use Rattle.std.proofs.Common.{◌≡◌, ℕ, ◌+◌, ◌-◌, ◌*◌, ◌<◌, ◌≤◌, true, Some, refl, ◌∙◌, ap, subst, arith}
use Rattle.rb_base.specs.Sizes.{sync_slot_of}
use Rattle.rb_base.proofs.Plain.{and_second}
use Rattle.rb_rules.specs.{Core.is_tick, Lawful.IsLawful, Moments.IsRunning, Rounds.{moment, windows_in}}
use Rattle.rb_laws_agreement.proofs.Agreement.{agreement}
use Rattle.rb_listen.specs.{Listening.is_deciding, Passes.reach_of}
use Rattle.rb_laws_listener_learns.specs.{Deciding.DecidesBy, Ears.{IsEar, listening_at}, Seeking.HasCalls}
use Rattle.rb_laws_listener_learns.proofs.{Deciding.{IsAfterCall, IsHeardCall}, LastCalls.IsLastCall, Learning.{IsFresh, ticked}, NewestCalls.up-to}
use Rattle.rb_listen.specs.Listening as now

-- a frame in which a call was heard has calls
has-calls : {sc hands : _} → IsLawful sc → {ear j number at : _} (c : IsHeardCall sc hands ear j number at) → HasCalls sc hands (moment sc hands c.n).frame
has-calls {sc} {hands} law c =
    let place : c.n ≡ (moment sc hands c.n).frame * (windows_in sc.sizes + 1) + 3 * sync_slot_of sc.sizes + 2 - 1 =
    omega (arith, (agreement hands law c.n c.sent.running).agree.place, c.window_is) in
    subst (λ n. IsRunning (moment sc hands n)) place c.sent.running

-- the listener decides by what it learned of the frame of a call that came that much before
pub decision-of : {sc hands : _} → IsLawful sc → {ear k n s : _} → IsFresh sc hands ear k n s → listening_at sc ear k ≡ now.Searching s
    → is_deciding s ≡ true → k < ear.ticks
    → (learned : ℕ) × (DecidesBy sc hands ear learned k s × ((a : IsAfterCall sc hands ear s.lesson.frame k) × ((moment sc hands a.call.n).frame ≡ learned)))
decision-of {sc} {hands} law {ear} {k} {s} h at deciding in_time =
    let at_k : s.lesson.decides ≡ Some k =
    ticked s.lesson.decides s.had (and_second s.learns (is_tick s.lesson.decides s.had) deciding) ∙ ap (λ t. Some t) h.well.had in
    let a : IsAfterCall sc hands ear s.lesson.frame k = h.well.decides k at_k in (
      (moment sc hands a.call.n).frame,
      (
        record { in_time = in_time; searching = at; deciding = deciding; called = has-calls law a.call; lesson = a.call.number_is },
        (a, refl),
      ),
    )

-- a decision soon after the last call of a frame is by no later frame
pub not-too-late : {sc hands : _} → IsLawful sc → {ear : _} → IsEar sc ear → {frame last : ℕ} → IsLastCall sc hands ear frame last → {number k : ℕ}
    → (a : IsAfterCall sc hands ear number k) → k ≤ last + reach_of sc.plan → (moment sc hands a.call.n).frame ≤ frame
not-too-late law is l a soon = up-to law is l a.call (omega (arith, a.late, soon))
