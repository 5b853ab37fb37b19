-- From where a listener stands in a frame it closes each later window of the frame as the bus does.
use Rattle.std.proofs.{Common.{◌≡◌, ℕ, zero, suc, ◌+◌, ◌-◌, ◌*◌, ◌/◌, ◌%◌, ◌<◌, ◌≤◌, List, Some, inl, inr, unwrap_or, slice_get, sym, ◌∙◌, ap, subst, arith}, lemmas.Bool.cases_lt, lemmas.Option.slice_get_within, Math.Nat.mul-le-mul_right}
use Rattle.rb_base.specs.{Nodes.Side.Biu, Sizes.sync_slot_of}
use Rattle.rb_rules.specs.{declared.plan.Window.Window, Goodness.Scenario, Hearing.{tail_at, window_numbered}, Lawful.IsLawful, Moments.{IsComplete, IsRunning}, NodeState.NodeState, Plan.{f0_of, tail_start_of}, Ports.HandIn, Rounds.{moment, windows_in}, StandsFor.{StandsFor, steps_to}, Windows.{exact_window, sync_windows, window_of, windows_of_frame}}
use Rattle.rb_rules.proofs.WindowNumbers.{exact-numbered, sync-numbered}
use Rattle.rb_laws_agreement.proofs.Places.{running_earlier}
use Rattle.rb_laws_events.specs.Closing.{stages_in}
use Rattle.rb_laws_events.proofs.TickWindows.{get-window, how-many}
use Rattle.rb_laws_listener_learns.specs.{Ears.Ear, Receivers.IsCalm}
use Rattle.rb_laws_listener_learns.proofs.FrameStages.{first_of_frame}
use Rattle.rb_laws_listener_follows.specs.Following.{ClosesAt}
use Rattle.rb_laws_listener_follows.proofs.{ClosesExact.IsShared, ClosesSync.{closes_first, closes_second, closes_third, sync_shared}, ClosesThere.closes_there, ExactPasses.{IsHeldTo, StandsAt}, LatePasses.{StandsAtThird, next_epoch_of, to_third}, NextFrames.to_window, SyncPasses.{PassesAtSecond, StandsAtSecond, through_second, to_second}}

-- ---- windows by their number

-- `w` is window `n` of each frame: below the sync slot, or one of its three
record IsNumbered (sc : Scenario) (n : ℕ) (w : Window) : Type 0 where
  pub inside : n < stages_in sc.sizes
  pub is : (st : NodeState) → window_numbered sc.sizes sc.plan Biu st n ≡ w

numbered : (sc : Scenario) (n : ℕ) {w : _} → slice_get (windows_of_frame sc.sizes sc.plan) n ≡ Some w → IsNumbered sc n w
numbered sc n {w} is = record { inside = inside; is = λ st. same_window (window_numbered sc.sizes sc.plan Biu st n) w (sym (get-window sc.sizes sc.plan Biu st n inside) ∙ is) }
  where
    inside : n < stages_in sc.sizes
    inside = omega (arith, slice_get_within (windows_of_frame sc.sizes sc.plan) n w is, how-many sc.sizes sc.plan)

    same_window : (a b : Window) → Some a ≡ Some b → a ≡ b
    same_window a b q = cc

pub exact_is : (sc : Scenario) (st : NodeState) (n : ℕ) {w : _} → slice_get (windows_of_frame sc.sizes sc.plan) n ≡ Some w → n < 3 * sync_slot_of sc.sizes → w ≡ exact_window sc.plan n
exact_is sc st n is below = sym ((numbered sc n is).is st) ∙ exact-numbered sc.sizes sc.plan Biu st n below

-- ---- where it stands

-- the listener stands before window `from` of the frame, if it has ticks so far
pub record StandsFrom (sc : Scenario) (hands : List HandIn) (ear : Ear) (f from epoch low : ℕ) : Type 0 where
  pub law : IsLawful sc
  pub few : from ≤ 1
  pub stands : epoch + from * sc.plan.l ≤ ear.ticks → StandsAt sc hands ear (suc f) from epoch low

stands_later : {sc hands ear learned records f last from epoch low : _} → IsHeldTo sc hands ear learned records f last
    → StandsFrom sc hands ear f from epoch low → (w : ℕ) → from ≤ w → w ≤ 3 * sync_slot_of sc.sizes → w + first_of_frame sc (suc f) ≤ last
    → IsRunning (moment sc hands (w + first_of_frame sc (suc f))) → epoch + w * sc.plan.l ≤ ear.ticks → StandsAt sc hands ear (suc f) w epoch low
stands_later {sc} {hands} {ear} {f} {from} {epoch} {low} h x w after few le running in_time =
    let up : w - from + from ≡ w = omega (arith, after) in
    let ticks : (w - from + from) * sc.plan.l ≡ w * sc.plan.l = ap (λ k. k * sc.plan.l) up in
    let least : from * sc.plan.l ≤ w * sc.plan.l = mul-le-mul_right sc.plan.l after in
    subst (λ k. StandsAt sc hands ear (suc f) k epoch low) up
    (to_window h (x.stands (omega (arith, least, in_time))) (w - from) (omega (arith, up, few))
    (subst (λ k. IsRunning (moment sc hands (k + first_of_frame sc (suc f)))) (sym up) running) (omega (arith, up, le)) (omega (arith, ticks, in_time)))

held_to : {sc hands ear learned records f slot : _} → learned ≤ f → IsComplete sc hands f (sync_slot_of sc.sizes) → IsCalm sc hands ear learned records (suc f) slot
    → IsHeldTo sc hands ear learned records f (suc f * (windows_in sc.sizes + 1) + 3 * slot + 3)
held_to later complete calm = record { holds = calm.holds; later = omega (arith, later); complete = complete }

-- ---- below the sync slot

closes_below : {sc hands : _} (stands : StandsFor sc hands) {ear learned records f from epoch low : _} → learned ≤ f → IsComplete sc hands f (sync_slot_of sc.sizes)
    → StandsFrom sc hands ear f from epoch low → (n : ℕ) → from ≤ n → n < 3 * sync_slot_of sc.sizes → IsCalm sc hands ear learned records (suc f) (n / 3)
    → epoch + (n * sc.plan.l + sc.plan.l - 1) < ear.ticks → ClosesAt sc stands.bus ear (suc f) (n / 3) (n % 3 + 1) (epoch + (n * sc.plan.l + sc.plan.l - 1))
closes_below {sc} {hands} stands {ear} {learned} {records} {f} {epoch} later complete x n after below calm in_time =
    subst (λ k. ClosesAt sc stands.bus ear (suc f) (n / 3) (n % 3 + 1) k) tick
    (closes_there stands h
    (stands_later h x n after (omega (arith, below)) (omega arith) running (omega (arith, in_time))) below calm.complete (omega arith)
    (omega (arith, in_time, x.law.plan.l.0)))
  where
    last : ℕ
    last = suc f * (windows_in sc.sizes + 1) + 3 * (n / 3) + 3

    h : IsHeldTo sc hands ear learned records f (suc f * (windows_in sc.sizes + 1) + 3 * (n / 3) + 3)
    h = held_to later complete calm

    running : IsRunning (moment sc hands (n + first_of_frame sc (suc f)))
    running = running_earlier sc hands (n + first_of_frame sc (suc f)) (suc f * (windows_in sc.sizes + 1) + 3 * (n / 3) + 4 - 1) (omega arith) calm.complete

    tick : epoch + n * sc.plan.l + (sc.plan.l - 1) ≡ epoch + (n * sc.plan.l + sc.plan.l - 1)
    tick = omega (arith, x.law.plan.l.0)

-- ---- in the sync slot

closes_above : {sc hands : _} (stands : StandsFor sc hands) {ear learned records f from epoch low : _} → learned ≤ f → IsComplete sc hands f (sync_slot_of sc.sizes)
    → StandsFrom sc hands ear f from epoch low → IsCalm sc hands ear learned records (suc f) (sync_slot_of sc.sizes) → (r : ℕ) {w : _} → (st : NodeState) → r < 3
    → window_numbered sc.sizes sc.plan Biu st (3 * sync_slot_of sc.sizes + r) ≡ w → epoch + w.last < ear.ticks → ClosesAt sc stands.bus ear (suc f) w.slot w.stage (epoch + w.last)
closes_above {sc} {hands} stands {ear} {learned} {records} {f} {epoch} {low} later complete x calm r {w} st small is in_time = go r small (sym (sync-numbered sc.sizes sc.plan Biu st r) ∙ is)
  where
    f0 : ℕ
    f0 = f0_of sc.sizes sc.plan

    last : ℕ
    last = suc f * (windows_in sc.sizes + 1) + 3 * sync_slot_of sc.sizes + 3

    h : IsHeldTo sc hands ear learned records f (suc f * (windows_in sc.sizes + 1) + 3 * sync_slot_of sc.sizes + 3)
    h = held_to later complete calm

    running : IsRunning (moment sc hands (3 * sync_slot_of sc.sizes + first_of_frame sc (suc f)))
    running =
        running_earlier sc hands (3 * sync_slot_of sc.sizes + first_of_frame sc (suc f)) (suc f * (windows_in sc.sizes + 1) + 3 * sync_slot_of sc.sizes + 4 - 1) (omega arith) calm.complete

    first : epoch + f0_of sc.sizes sc.plan ≤ ear.ticks → StandsAt sc hands ear (suc f) (3 * sync_slot_of sc.sizes) epoch low
    first ticks = stands_later h x (3 * sync_slot_of sc.sizes) (omega (arith, x.few, x.law.sizes.some_biu)) (omega arith) (omega arith) running ticks

    in_first : (u : Window) → window_of (sync_slot_of sc.sizes) 1 (f0_of sc.sizes sc.plan) sc.plan.l ≡ u → epoch + u.last < ear.ticks → ClosesAt sc stands.bus ear (suc f) u.slot u.stage (epoch + u.last)
    in_first u e ticks =
        let lasts : f0_of sc.sizes sc.plan + sc.plan.l - 1 ≡ u.last = ap (λ (y : Window). y.last) e in
        let l : 1 ≤ sc.plan.l = x.law.plan.l.0 in
        let end : epoch + f0_of sc.sizes sc.plan + (sc.plan.l - 1) ≡ epoch + (f0_of sc.sizes sc.plan + sc.plan.l - 1) = omega (arith, l) in
        subst (λ (y : Window). ClosesAt sc stands.bus ear (suc f) y.slot y.stage (epoch + y.last)) e
        (subst (λ k. ClosesAt sc stands.bus ear (suc f) (sync_slot_of sc.sizes) 1 k) end
        (closes_first stands h (first (omega (arith, lasts, ticks, l))) calm.complete (omega (arith, lasts, ticks, l))))

    at_second : (ticks : epoch + (f0_of sc.sizes sc.plan + sc.plan.l) + sc.plan.v ≤ ear.ticks) → StandsAtSecond sc hands ear (suc f) epoch low
    at_second ticks = to_second h (first (omega (arith, ticks))) calm.complete ticks

    shared : (ticks : epoch + (f0_of sc.sizes sc.plan + sc.plan.l) + sc.plan.v ≤ ear.ticks) → IsShared (stands.bus (steps_to sc.sizes (suc f) (sync_slot_of sc.sizes))) sc (at_second ticks).shared
    shared ticks = sync_shared stands h (first (omega (arith, ticks))) calm.complete ticks

    in_second : (u : Window) → window_of (sync_slot_of sc.sizes) 2 (f0_of sc.sizes sc.plan + sc.plan.l) sc.plan.v ≡ u → epoch + u.last < ear.ticks
        → ClosesAt sc stands.bus ear (suc f) u.slot u.stage (epoch + u.last)
    in_second u e ticks =
        let lasts : f0_of sc.sizes sc.plan + sc.plan.l + sc.plan.v - 1 ≡ u.last = ap (λ (y : Window). y.last) e in
        let v : 1 ≤ sc.plan.v = x.law.plan.v.0 in
        let end : epoch + (f0_of sc.sizes sc.plan + sc.plan.l) + (sc.plan.v - 1) ≡ epoch + (f0_of sc.sizes sc.plan + sc.plan.l + sc.plan.v - 1) = omega (arith, v) in
        let enough : epoch + (f0_of sc.sizes sc.plan + sc.plan.l) + sc.plan.v ≤ ear.ticks = omega (arith, lasts, ticks, v) in
        subst (λ (y : Window). ClosesAt sc stands.bus ear (suc f) y.slot y.stage (epoch + y.last)) e
        (subst (λ k. ClosesAt sc stands.bus ear (suc f) (sync_slot_of sc.sizes) 2 k) end
        (closes_second stands h (at_second enough) calm.complete (shared enough)))

    in_third : (u : Window) → window_of (sync_slot_of sc.sizes) 3 (f0_of sc.sizes sc.plan + sc.plan.l + sc.plan.v) sc.plan.z ≡ u → epoch + u.last < ear.ticks
        → ClosesAt sc stands.bus ear (suc f) u.slot u.stage (epoch + u.last)
    in_third u e ticks =
        let lasts : f0_of sc.sizes sc.plan + sc.plan.l + sc.plan.v + sc.plan.z - 1 ≡ u.last = ap (λ (y : Window). y.last) e in
        let z : 1 ≤ sc.plan.z = x.law.plan.z.0 in
        let end : epoch + (f0_of sc.sizes sc.plan + sc.plan.l + sc.plan.v) + (sc.plan.z - 1) ≡ epoch + (f0_of sc.sizes sc.plan + sc.plan.l + sc.plan.v + sc.plan.z - 1) = omega (arith, z) in
        let all : epoch + tail_start_of sc.sizes sc.plan ≤ ear.ticks = omega (arith, lasts, ticks, z) in
        let enough : epoch + (f0_of sc.sizes sc.plan + sc.plan.l) + sc.plan.v ≤ ear.ticks = omega (arith, lasts, ticks, z) in
        let second : StandsAtSecond sc hands ear (suc f) epoch low = at_second enough in
        let p : PassesAtSecond sc hands ear (suc f) epoch low second = through_second h second calm.complete (omega arith) in
        let third : StandsAtThird sc hands ear (suc f) epoch low (next_epoch_of p) second.shared p.through.now =
        to_third h p calm.complete in
        subst (λ (y : Window). ClosesAt sc stands.bus ear (suc f) y.slot y.stage (epoch + y.last)) e
        (subst (λ k. ClosesAt sc stands.bus ear (suc f) (sync_slot_of sc.sizes) 3 k) end
        (closes_third stands h p calm.complete third all (shared enough)))

    go : (r : ℕ) → r < 3 → unwrap_or (slice_get (sync_windows sc.sizes sc.plan) r) (tail_at sc.sizes sc.plan Biu st) ≡ w → ClosesAt sc stands.bus ear (suc f) w.slot w.stage (epoch + w.last)
    go zero lt e = in_first w e in_time
    go (suc zero) lt e = in_second w e in_time
    go (suc (suc zero)) lt e = in_third w e in_time
    go (suc (suc (suc k))) lt e = absurd (omega (arith, lt))

-- ---- each window

pub closes_from : {sc hands : _} (stands : StandsFor sc hands) {ear learned records f from epoch low : _} → learned ≤ f → IsComplete sc hands f (sync_slot_of sc.sizes)
    → StandsFrom sc hands ear f from epoch low → (st : NodeState) (n : ℕ) {w : _} → from ≤ n → slice_get (windows_of_frame sc.sizes sc.plan) n ≡ Some w
    → IsCalm sc hands ear learned records (suc f) w.slot → epoch + w.last < ear.ticks → ClosesAt sc stands.bus ear (suc f) w.slot w.stage (epoch + w.last)
closes_from {sc} {hands} stands {ear} {learned} {records} {f} {epoch} later complete x st n {w} after is calm in_time =
    elim (cases_lt n (3 * sync_slot_of sc.sizes)) [
      | inl less ↦ below less
      | inr more ↦ above (n - 3 * sync_slot_of sc.sizes) (omega (arith, more)) (omega (arith, more, i.inside))
    ]
  where
    i : IsNumbered sc n w
    i = numbered sc n is

    below : n < 3 * sync_slot_of sc.sizes → ClosesAt sc stands.bus ear (suc f) w.slot w.stage (epoch + w.last)
    below less =
        let e : w ≡ exact_window sc.plan n = exact_is sc st n is less in
        let slots : w.slot ≡ n / 3 = ap (λ (y : Window). y.slot) e in
        let lasts : w.last ≡ n * sc.plan.l + sc.plan.l - 1 = ap (λ (y : Window). y.last) e in
        subst (λ (y : Window). ClosesAt sc stands.bus ear (suc f) y.slot y.stage (epoch + y.last)) (sym e)
        (closes_below stands later complete x n after less (subst (λ k. IsCalm sc hands ear learned records (suc f) k) slots calm) (omega (arith, lasts, in_time)))

    above : (r : ℕ) → n ≡ 3 * sync_slot_of sc.sizes + r → r < 3 → ClosesAt sc stands.bus ear (suc f) w.slot w.stage (epoch + w.last)
    above r place small =
        let at : window_numbered sc.sizes sc.plan Biu st (3 * sync_slot_of sc.sizes + r) ≡ w = ap (window_numbered sc.sizes sc.plan Biu st) (sym place) ∙ i.is st in
        closes_above stands later complete x
        (subst (λ k. IsCalm sc hands ear learned records (suc f) k) (in_sync r small at) calm) r st small at in_time
      where
        in_sync : (r : ℕ) → r < 3 → window_numbered sc.sizes sc.plan Biu st (3 * sync_slot_of sc.sizes + r) ≡ w → w.slot ≡ sync_slot_of sc.sizes
        in_sync zero small at = ap (λ (y : Window). y.slot) (sym at ∙ sync-numbered sc.sizes sc.plan Biu st 0)
        in_sync (suc zero) small at = ap (λ (y : Window). y.slot) (sym at ∙ sync-numbered sc.sizes sc.plan Biu st 1)
        in_sync (suc (suc zero)) small at = ap (λ (y : Window). y.slot) (sym at ∙ sync-numbered sc.sizes sc.plan Biu st 2)
        in_sync (suc (suc (suc k))) small at = absurd (omega (arith, small))
