-- A listener that has learned follows the bus from its first frame on.
use Rattle.std.proofs.{Common.{◌≡◌, ℕ, zero, suc, ◌+◌, ◌-◌, ◌*◌, ◌/◌, ◌%◌, ◌<◌, ◌≤◌, List, Some, inl, inr, slice_get, refl, sym, ◌∙◌, ap, subst, arith}, lemmas.Bool.cases_lt, Math.Nat.mul-le-mul_right}
use Rattle.rb_base.specs.Sizes.{sync_slot_of}
use Rattle.rb_rules.specs.{declared.plan.Window.Window, declared.sense.Sense.Sense, Clock.time_of, Goodness.{Scenario, clock_of}, Lawful.IsLawful, Moments.{IsComplete, IsGoodBefore, IsRunning}, Ports.HandIn, Rounds.{moment, windows_in}, StandsFor.StandsFor, Windows.{exact_window, windows_of_frame}}
use Rattle.rb_laws_agreement.proofs.{FrameBegins.frame_turns, Invariant.IsGoodNode, Places.{IsPlaced, good_before_slot, placed, running_earlier}}
use Rattle.rb_listen.specs.{Lessons.first_of, Passes.reach_of, declared.lesson.First.First, declared.search.Search.Search}
use Rattle.rb_laws_listener_near.specs.Laws.{LieWithin}
use Rattle.rb_laws_listener_near.proofs.FramesNear.{within}
use Rattle.rb_laws_listener_learns.specs.{Deciding.{DecidesBy, HasDecided}, Ears.{Ear, HearsTheRun, IsEar}, Learned.HasLearned, Receivers.{HoldsTo, IsCalm}}
use Rattle.rb_laws_listener_learns.proofs.{DecidesSoon.listeners-decide, FrameStages.first_of_frame, Learns.learns, Waits.waits-for}
use Rattle.rb_laws_listener_follows.specs.{Following.{ClosesAt, DecidedListenersFollow, FollowsFrame, IsReachedWell, ListenersFollowTheBus, TellsFrame, TellsLater}, InTime.moment_before}
use Rattle.rb_laws_listener_follows.proofs.{ClosesBegun.closes_begun, ClosesFrame.{closes_from, exact_is}, DeliversOnce.{delivers_later, delivers_once}, EpochsRise.{WaitsFirst, first_once, first_told, none_earlier}, FirstBegins.{FirstBegins, first_begins, first_state}, FirstStands.{FirstStands, first_stands}, FollowedFrames.{IsBegun, IsFollowed, begun_at}, OtherTicks.closes_only, Tellings.tells_frame}

-- What it has learned, and its first frame.
record Learns (sc : Scenario) (hands : List HandIn) (ear : Ear) (learned tick : ℕ) (s : Search) : Type 0 where
  pub law : IsLawful sc
  pub is : IsEar sc ear
  pub run : HearsTheRun sc hands ear
  pub decides : DecidesBy sc hands ear learned tick s
  pub calm : IsCalm sc hands ear learned s.lesson.records learned (sync_slot_of sc.sizes)
  pub first : First
  pub found : first_of sc.sizes sc.plan s.lesson ≡ Some first
  pub learns : HasLearned sc hands ear learned tick s.lesson.records first
  pub begins : FirstBegins sc hands ear learned first
  pub waits : WaitsFirst sc ear tick s first

-- the listener tells the frame after the learned one
first_tells : {sc hands ear learned tick s : _} (l : Learns sc hands ear learned tick s) → TellsFrame sc hands ear (suc learned) l.first.epoch
first_tells {sc} {hands} {ear} {learned} l = record {
  tells = λ me i b good in_time.
      let here : IsGoodBefore sc hands (learned + 1) 0 me i b = subst (λ f. IsGoodBefore sc hands f 0 me i b) next good in
      tells_frame sc ear (first_state sc l.first) (first_told l.waits in_time) (l.learns.frame ∙ sym next) refl me b
      (sym (l.learns.trusted_next.biu me i b here)) (sym (l.learns.trusted_next.rmu me i b here));
  only = λ k e in_time told is. first_once l.waits k in_time told (is ∙ sym (l.learns.frame ∙ sym next));
}
  where
    next : suc learned ≡ learned + 1
    next = omega arith

-- the listener tells nothing of frames up to the learned one
later_tells : {sc hands ear learned tick s : _} (l : Learns sc hands ear learned tick s) → TellsLater sc ear learned
later_tells l = record {
  epochs = λ k e in_time told. let m : l.first.frame ≤ e.frame = none_earlier l.waits k in_time told in omega (arith, m, l.learns.frame);
  deliveries = λ k d in_time told. let m : l.first.frame ≤ d.frame = delivers_later l.waits k in_time told in omega (arith, m, l.learns.frame);
}

-- the listener goes through the first window of its first frame
first_at : {sc hands ear learned tick s : _} (l : Learns sc hands ear learned tick s) → {last : ℕ} → HoldsTo sc hands ear learned s.lesson.records last
    → suc (moment_before sc (learned + 1) 0 1) ≤ last → IsRunning (moment sc hands (suc (moment_before sc (learned + 1) 0 1))) → l.first.epoch + sc.plan.l ≤ ear.ticks
    → FirstStands sc hands ear learned l.first l.begins
first_at l holds le running in_time =
    first_stands l.law l.is l.run l.decides l.calm l.found l.learns l.begins holds le running in_time

first_followed : {sc hands ear learned tick s : _} (l : Learns sc hands ear learned tick s) → {last : ℕ} → HoldsTo sc hands ear learned s.lesson.records last
    → suc (moment_before sc (learned + 1) 0 1) ≤ last → IsRunning (moment sc hands (suc (moment_before sc (learned + 1) 0 1))) → IsFollowed sc hands ear (suc learned)
first_followed {sc} {hands} {learned} l holds le running = record {
  epoch = l.first.epoch;
  low = l.begins.low;
  from = 1;
  few = omega arith;
  begin = λ me i st node. l.begins.begins.beside.near.begun me i st (subst (λ k. IsGoodNode sc (moment sc hands k) me i st) place node);
  listener = l.begins.begins.beside.began;
  epochs = first_tells l;
  stands = λ in_time. (first_at l holds le running (omega (arith, in_time))).stands;
}
  where
    place : 0 + first_of_frame sc (suc learned) ≡ moment_before sc (learned + 1) 0 1
    place = let e : suc learned ≡ learned + 1 = omega arith in (let z : 0 + first_of_frame sc (suc learned) ≡ first_of_frame sc (suc learned) = omega arith in z) ∙ ap (λ f. moment_before sc f 0 1) e

-- a slot of the listener's first frame is complete, and the premise with the listener holds
record InFirst (sc : Scenario) (hands : List HandIn) (ear : Ear) (learned slot : ℕ) (records : List Sense) : Type 0 where
  pub last : ℕ
  pub holds : HoldsTo sc hands ear learned records last
  pub le : suc (moment_before sc (learned + 1) 0 1) ≤ last
  pub running : IsRunning (moment sc hands (suc (moment_before sc (learned + 1) 0 1)))

in_first : {sc hands ear learned slot records : _} → IsCalm sc hands ear learned records (suc learned) slot → InFirst sc hands ear learned slot records
in_first {sc} {hands} {learned} {slot} calm =
    let next : suc learned ≡ learned + 1 = omega arith in
    let rows : (learned + 1) * (windows_in sc.sizes + 1) ≡ suc learned * (windows_in sc.sizes + 1) = ap (λ f. f * (windows_in sc.sizes + 1)) (sym next) in
    record {
      last = suc learned * (windows_in sc.sizes + 1) + 3 * slot + 3;
      holds = calm.holds;
      le = omega (arith, rows);
      running = running_earlier sc hands (suc (moment_before sc (learned + 1) 0 1)) (suc learned * (windows_in sc.sizes + 1) + 3 * slot + 4 - 1) (omega (arith, rows)) calm.complete;
    }

-- the listener closes the windows of its first frame
closes_in_first : {sc hands : _} (stands : StandsFor sc hands) {ear learned tick s : _} (l : Learns sc hands ear learned tick s)
    → (n : ℕ) (w : Window) → slice_get (windows_of_frame sc.sizes sc.plan) n ≡ Some w → IsCalm sc hands ear learned s.lesson.records (suc learned) w.slot → l.first.epoch + w.last < ear.ticks
    → ClosesAt sc stands.bus ear (suc learned) w.slot w.stage (l.first.epoch + w.last)
closes_in_first {sc} {hands} stands {ear} {learned} {s} l zero w is calm in_time =
    let first : InFirst sc hands ear learned w.slot s.lesson.records = in_first calm in
    let e : w ≡ exact_window sc.plan 0 = exact_is sc (first_state sc l.first) 0 is (omega (arith, l.law.sizes.some_biu)) in
    let slots : w.slot ≡ 0 / 3 = ap (λ (y : Window). y.slot) e in
    let stages : w.stage ≡ 0 % 3 + 1 = ap (λ (y : Window). y.stage) e in
    let lasts : w.last ≡ 0 * sc.plan.l + sc.plan.l - 1 = ap (λ (y : Window). y.last) e in
    let slot : 0 ≡ w.slot = omega (arith, slots) in
    let stage : 1 ≡ w.stage = omega (arith, stages) in
    let end : l.first.epoch + (sc.plan.l - 1) ≡ l.first.epoch + w.last = omega (arith, lasts) in
    subst (λ k. ClosesAt sc stands.bus ear (suc learned) w.slot w.stage k) end
    (subst (λ k. ClosesAt sc stands.bus ear (suc learned) w.slot k (l.first.epoch + (sc.plan.l - 1))) stage
    (subst (λ k. ClosesAt sc stands.bus ear (suc learned) k 1 (l.first.epoch + (sc.plan.l - 1))) slot
    (closes_begun l.law stands (first_at l first.holds first.le first.running (omega (arith, lasts, in_time, l.law.plan.l.0)))
    (l.learns.frame ∙ (let next : learned + 1 ≡ suc learned = omega arith in next)) (subst (λ k. IsComplete sc hands (suc learned) k) (sym slot) calm.complete))))
closes_in_first {sc} {hands} stands {ear} {learned} {s} l (suc n) w is calm in_time =
    let first : InFirst sc hands ear learned w.slot s.lesson.records = in_first calm in
    closes_from stands (omega arith) l.calm.complete
    (record { law = l.law; few = omega arith; stands = λ ticks. (first_at l first.holds first.le first.running (omega (arith, ticks))).stands })
    (first_state sc l.first) (suc n) (omega arith) is calm in_time

-- the listener follows its first frame
follows_first : {sc hands : _} (stands : StandsFor sc hands) {ear learned tick s : _} (l : Learns sc hands ear learned tick s)
    → FollowsFrame sc hands stands.bus ear learned s.lesson.records (suc learned) l.first.epoch
follows_first {sc} {hands} stands {learned} l = record {
  near = λ me i st h. l.begins.near.near me i st (subst (λ f. IsGoodBefore sc hands f 0 me i st) next h);
  epochs = first_tells l;
  later = later_tells l;
  deliveries = delivers_once l.waits l.first.epoch (first_tells l).only;
  closes = closes_in_first stands l;
  only = closes_only l.waits l.first.epoch (first_tells l).only;
}
  where
    next : suc learned ≡ learned + 1
    next = omega arith

-- the listener follows each later frame
follows_later : {sc hands : _} (stands : StandsFor sc hands) {ear learned tick s : _} (l : Learns sc hands ear learned tick s) → (d : ℕ)
    → IsReachedWell sc hands ear learned s.lesson.records (suc (suc d + learned)) → (begin : ℕ) × FollowsFrame sc hands stands.bus ear learned s.lesson.records (suc (suc d + learned)) begin
follows_later {sc} {hands} stands {ear} {learned} {s} l d reached = (
  x.epoch,
  record {
    near = λ me i st h.
        let node : IsGoodNode sc (moment sc hands (0 + first_of_frame sc (suc (suc d + learned)))) me i st =
        subst (λ k. IsGoodNode sc (moment sc hands k) me i st) zero_is (good_before_slot (omega arith) p h) in
        let e : st.epoch ≡ st.epoch + 0 = omega arith in
        subst (λ k. LieWithin sc.plan.p (time_of ear.clock x.epoch) (time_of (clock_of sc me i) k)) e
        (within sc.plan.p x.listener (x.begin me i st node));
    epochs = x.epochs;
    later = later_tells l;
    deliveries = delivers_once l.waits x.epoch x.epochs.only;
    closes = λ n w is calm in_time.
        closes_from stands (omega arith) reached.reached (record { law = l.law; few = x.few; stands = x.stands })
        (first_state sc l.first) n (omega (arith, g.whole)) is calm in_time;
    only = closes_only l.waits x.epoch x.epochs.only;
  },
)
  where
    less : suc (learned + 1) * (windows_in sc.sizes + 1) ≤ suc (suc d + learned) * (windows_in sc.sizes + 1)
    less = mul-le-mul_right (windows_in sc.sizes + 1) (omega arith)

    rows : suc (learned + 1) * (windows_in sc.sizes + 1) ≡ (learned + 1) * (windows_in sc.sizes + 1) + (windows_in sc.sizes + 1)
    rows = omega arith

    more : suc (suc d + learned) * (windows_in sc.sizes + 1) ≡ (suc d + learned) * (windows_in sc.sizes + 1) + (windows_in sc.sizes + 1)
    more = omega arith

    running : IsRunning (moment sc hands (suc (moment_before sc (learned + 1) 0 1)))
    running =
        running_earlier sc hands (suc (moment_before sc (learned + 1) 0 1)) ((suc d + learned) * (windows_in sc.sizes + 1) + 3 * sync_slot_of sc.sizes + 4 - 1) (omega (arith, less, rows, more)) reached.reached

    first : IsFollowed sc hands ear (suc learned)
    first = first_followed l reached.holds (omega (arith, less, rows)) running

    g : IsBegun sc hands ear (suc (suc d + learned))
    g = begun_at l.law l.is s.lesson.records l.waits (l.learns.frame ∙ (let e : learned + 1 ≡ suc learned = omega arith in e)) reached.holds first d reached.reached (omega arith)

    x : IsFollowed sc hands ear (suc (suc d + learned))
    x = g.followed

    p : IsPlaced sc hands (suc (suc d + learned)) 0 1
    p = placed hands l.law (suc (suc d + learned)) 0 1 (omega arith) (omega arith) (omega arith) (frame_turns l.law reached.reached).running

    zero_is : first_of_frame sc (suc (suc d + learned)) ≡ 0 + first_of_frame sc (suc (suc d + learned))
    zero_is = omega arith

pub follows_bus : DecidedListenersFollow
follows_bus sc hands law stands ear is run learned tick s decides calm frame later reached =
    let f = learns sc hands law ear is run learned tick s decides calm in
    let l : Learns sc hands ear learned tick s = record {
      law = law;
      is = is;
      run = run;
      decides = decides;
      calm = calm;
      first = f.0;
      found = f.1.0;
      learns = f.1.1;
      begins = first_begins law is run decides calm f.1.0 f.1.1;
      waits = record {
        searching = decides.searching;
        waits = waits-for sc hands law ear is run learned tick s decides f.0 f.1.0 f.1.1.ahead;
        ticks = is.ticks;
        some = omega (arith, law.plan.l.0);
        some_l = law.plan.l.0;
      };
    } in
    elim (cases_lt (suc learned) frame) [
      | inl more ↦
          let e : suc (suc (frame - suc (suc learned)) + learned) ≡ frame = omega (arith, more) in
          subst (λ g. (begin : ℕ) × FollowsFrame sc hands stands.bus ear learned s.lesson.records g begin) e
          (follows_later stands l (frame - suc (suc learned)) (subst (IsReachedWell sc hands ear learned s.lesson.records) (sym e) reached))
      | inr le ↦
          let e : suc learned ≡ frame = omega (arith, le, later) in
          subst (λ g. (begin : ℕ) × FollowsFrame sc hands stands.bus ear learned s.lesson.records g begin) e (l.first.epoch, follows_first stands l)
    ]

-- From what it hears.

-- the learned frame ends before each later one begins
calm_before : {sc hands ear learned : _} (later : ℕ) {records : _} → learned < later → IsReachedWell sc hands ear learned records later
    → IsCalm sc hands ear learned records learned (sync_slot_of sc.sizes)
calm_before zero less reached = absurd (omega (arith, less))
calm_before {sc} {hands} {learned} (suc later) less reached =
    let le : learned * (windows_in sc.sizes + 1) ≤ later * (windows_in sc.sizes + 1) = mul-le-mul_right (windows_in sc.sizes + 1) (omega (arith, less)) in
    let row : suc later * (windows_in sc.sizes + 1) ≡ later * (windows_in sc.sizes + 1) + (windows_in sc.sizes + 1) = omega arith in
    record {
      complete =
          running_earlier sc hands (learned * (windows_in sc.sizes + 1) + 3 * sync_slot_of sc.sizes + 4 - 1) (later * (windows_in sc.sizes + 1) + 3 * sync_slot_of sc.sizes + 4 - 1)
          (omega (arith, le)) reached.reached;
      holds = λ i below. reached.holds i (omega (arith, below, le, row));
    }

pub listeners_follow : ListenersFollowTheBus
listeners_follow sc hands law stands ear is run frame after called last by in_time =
    let d : HasDecided sc hands ear (frame + 1) (last + reach_of sc.plan) = listeners-decide sc hands law ear is run frame after called last by in_time in (
      d,
      λ later less reached.
          follows_bus sc hands law stands ear is run d.learned d.tick d.search d.decides (calm_before later less reached) later less reached,
    )
