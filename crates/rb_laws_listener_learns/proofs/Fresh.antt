-- A search learns soon after calls of good RMUs: what it has recorded it has from soon after some
-- such call on, and it decides `reach_of` ticks after a tick at which not all such calls of the
-- learned frame had come.
use Rattle.std.proofs.{Common.{◌≡◌, ◌⊎◌, ℕ, ◌+◌, ◌-◌, ◌*◌, ◌%◌, ◌<◌, ◌≤◌, ◌==◌, ◌&&◌, ◌||◌, not, nat_lt, Bool, true, false, Option, Some, None, List, length, get_or, slice_set, inl, inr, refl, sym, ◌∙◌, ap, subst, arith}, lemmas.Bool.{and_from, cases_lt, cases_order, eq-eqb, eqb-true, false_from_ne_true, not-false, not-true}, lemmas.Bool.Decides.nat_tests, Math.Nat.mul-le-mul_right}
use Rattle.std.specs.List.{list_any}
use Rattle.rb_base.specs.{Counting.numbers, Nodes.{has, set_of, size}, Nodes.Side.Rmu, Sizes.{IsShape, sync_slot_of}}
use Rattle.rb_base.proofs.{Plain.{and_first, and_second}, Sets.has-set_of, SetSizes.size_within}
use Rattle.rb_rules.specs.{Clock.{IsStamp, stamp_of}, Goodness.{Scenario, is_before, is_good}, Lawful.{IsLawful, IsOnsetOf}, Moments.{IsRunning, before_slot}, Ports.HandIn, Rounds.{moment, windows_in}}
use Rattle.rb_rules.proofs.{Spellings.read_back, Stamps.stamp_of-is, Middles.IsBetween}
use Rattle.rb_laws_agreement.proofs.{Tests.{Passing, passes_at, passing}, Agreement.agreement, Places.running_earlier}
use Rattle.rb_laws_synchrony.proofs.{EpochTicks.within_run, Middles.{HasLeast, least_of}}
use Rattle.rb_listen.specs.{Lessons.frame_after, Passes.{are_most, calling, falls_in, pass_of, reach_of}, declared.passes.Call.Call}
use Rattle.rb_laws_listener_learns.specs.{Calling.IsHeardToCall, Ears.{Ear, HearsTheRun, IsEar, IsHeard, SendsIn, comes_to, coming_to, is_always_good}}
use Rattle.rb_laws_listener_learns.proofs.{Apart.come-apart, Calling.heard-to-call, Deciding.{IsHeardCall, IsWell}, Latest.{IsCallAt, IsLate}, Meeting.meet, Moments.same-frame, PassSets.{AreOfRmus, BeginsAt, FallsIn, FallsThere, all-falls, begins-pass, in-set, more-than, new-or-old, of-rmus, pass-at}, Recorded.IsEarlier, Seeks.{always-counts, good-inside, good-rmus, good-set}, Sendings.in-place, Together.{come-together, steady-ear}}

-- a call of an RMU that is good in the whole run, in a frame of this number, comes with this stamp
pub record IsGoodCall (sc : Scenario) (hands : List HandIn) (ear : Ear) (number at : ℕ) : Type 0 where
  pub j : ℕ
  pub good : is_always_good sc hands j ≡ true
  pub call : IsHeardCall sc hands ear j number at

-- Frames by their numbers.

next-number : (a b most : ℕ) → a ≤ most → b ≤ most → most ≤ 4096 → b % 65536 ≡ (a % 65536 + 1) % 65536 → b ≡ a + 1
next-number a b most le_a le_b small e = omega (arith, e, le_a, le_b, small)

pub frame-of : {sc hands ear j number at : _} → IsHeardCall sc hands ear j number at → ℕ
frame-of {sc} {hands} c = (moment sc hands c.n).frame

within : {sc hands ear j number at : _} (c : IsHeardCall sc hands ear j number at) → (moment sc hands c.n).frame ≤ sc.frames
within {sc} {hands} c = within_run sc hands c.n c.sent.running

pub same-frame-number : {sc hands : _} → IsLawful sc → {ear i j p q a b : _} (c : IsHeardCall sc hands ear i p a) (d : IsHeardCall sc hands ear j q b) → p ≡ q
    → (moment sc hands c.n).frame ≡ (moment sc hands d.n).frame
same-frame-number {sc} {hands} law c d e =
    same-frame (moment sc hands c.n).frame (moment sc hands d.n).frame sc.frames (within c) (within d) law.frames.1
    (sym c.number_is ∙ e ∙ d.number_is)

pub next-frame-number : {sc hands : _} → IsLawful sc → {ear i j p q a b : _} (c : IsHeardCall sc hands ear i p a) (d : IsHeardCall sc hands ear j q b)
    → q ≡ frame_after p → (moment sc hands d.n).frame ≡ (moment sc hands c.n).frame + 1
next-frame-number {sc} {hands} law c d e =
    next-number (moment sc hands c.n).frame (moment sc hands d.n).frame sc.frames (within c) (within d) law.frames.1
    (sym d.number_is ∙ e ∙ ap frame_after c.number_is)

-- Calls in order.

pub calls-apart : {sc hands : _} → IsLawful sc → {ear : _} → IsEar sc ear → {i j p q a b : ℕ} (c : IsHeardCall sc hands ear i p a) (d : IsHeardCall sc hands ear j q b)
    → (moment sc hands c.n).frame < (moment sc hands d.n).frame → a + reach_of sc.plan < b
calls-apart {sc} {hands} law {ear} is {i} {j} {a} {b} c d less =
    come-apart sc hands law ear is c.n d.n i j c.sending d.sending c.window_is d.window_is less c.sent d.sent a b c.some c.stamped d.stamped

-- two calls of one frame are of one moment
pub same-moment : {sc hands : _} → IsLawful sc → {ear i j p q a b : _} (c : IsHeardCall sc hands ear i p a) (d : IsHeardCall sc hands ear j q b)
    → (moment sc hands c.n).frame ≡ (moment sc hands d.n).frame → c.n ≡ d.n
same-moment {sc} {hands} law c d same =
    (agreement hands law c.n c.sent.running).agree.place
    ∙ ap (λ f. f * (windows_in sc.sizes + 1) + (moment sc hands c.n).window) same
    ∙ ap (λ w. (moment sc hands d.n).frame * (windows_in sc.sizes + 1) + w) (c.window_is ∙ sym d.window_is)
    ∙ sym (agreement hands law d.n d.sent.running).agree.place

pub calls-together : {sc hands : _} → IsLawful sc → {ear : _} → IsEar sc ear → {i j p q a b : ℕ} (c : IsHeardCall sc hands ear i p a) (d : IsHeardCall sc hands ear j q b)
    → (moment sc hands c.n).frame ≡ (moment sc hands d.n).frame → b ≤ a + reach_of sc.plan
calls-together {sc} {hands} law {ear} is {i} {j} {a} {b} c d same =
    let one : c.n ≡ d.n = same-moment law c d same in
    come-together sc hands law ear is d.n i j c.sending d.sending d.window_is (subst (λ k. SendsIn sc hands k i c.sending) one c.sent) d.sent a b c.some
    (subst (λ k. IsStamp ear.clock (coming_to sc ear i (moment sc hands k).frame c.sending).time a) one c.stamped) d.stamped

-- Each good RMU calls in each frame.

pub record CallsToo (sc : Scenario) (hands : List HandIn) (ear : Ear) (n j at : ℕ) : Type 0 where
  pub calls : IsHeardToCall sc hands ear n j
  pub stamped : IsStamp ear.clock (coming_to sc ear j (moment sc hands n).frame calls.sending).time at

-- an onset in a slot that does not come later lies earlier in the run
not-later : (size sync f s frame slot : ℕ) → 3 * sync < size → s ≤ sync → (nat_lt frame f || ((frame == f) && nat_lt slot s)) ≡ false → f * size + 3 * s + 1 - 1 ≤ frame * size + 3 * slot + 1 - 1
not-later size sync f s frame slot small le h =
    elim (cases_order f frame) [
      | inl same ↦
          let slots : s ≤ slot = grind (arith, nat_tests) in
          let frames : f * size ≡ frame * size = ap (λ x. x * size) same in omega (arith, slots, frames)
      | inr order ↦ elim order [
        | inl less ↦
            let frames : (f + 1) * size ≤ frame * size = mul-le-mul_right size (omega (arith, less)) in omega (arith, small, le, frames)
        | inr more ↦ absurd (let both : true ≡ false = grind (arith, nat_tests) in cc)
      ]
    ]

-- the onsets of a lawful scenario are of slots that there are
pub onset-in : {sc : _} → IsLawful sc → (j frame slot : ℕ) → j < sc.sizes.rmus → get_or sc.rmu_onsets j None ≡ Some (frame, slot) → slot ≤ sync_slot_of sc.sizes
onset-in {sc} law j frame slot counted is =
    let enough : sc.sizes.rmus ≤ length sc.rmu_onsets = law.rmu_onsets.enough in
    (subst (IsOnsetOf sc) is (law.rmu_onsets.each j None (omega (arith, counted, enough)))).1

-- an RMU that is good in the whole run is so in each slot to which the run comes
pub always-good-in : {sc : _} (hands : List HandIn) → IsLawful sc → (j frame slot : ℕ) → IsRunning (before_slot sc hands frame slot) → is_always_good sc hands j ≡ true
    → is_good sc Rmu j frame slot ≡ true
always-good-in {sc} hands law j frame slot running good =
    and_from (nat_lt j sc.sizes.rmus) (is_before (get_or sc.rmu_onsets j None) frame slot)
    (and_first (nat_lt j sc.sizes.rmus) (not (comes_to sc hands (get_or sc.rmu_onsets j None))) good)
    (by (get_or sc.rmu_onsets j None) refl
    (not-true (comes_to sc hands (get_or sc.rmu_onsets j None)) (and_second (nat_lt j sc.sizes.rmus) (not (comes_to sc hands (get_or sc.rmu_onsets j None))) good)))
  where
    by : (o : Option (ℕ × ℕ)) → get_or sc.rmu_onsets j None ≡ o → comes_to sc hands o ≡ false → is_before o frame slot ≡ true
    by None is never = refl
    by (Some onset) is never = not-false (is_before (Some onset) frame slot) (false_from_ne_true (not (is_before (Some onset) frame slot)) (λ later.
        let began : IsRunning (before_slot sc hands onset.0 onset.1) =
        running_earlier sc hands (onset.0 * (windows_in sc.sizes + 1) + 3 * onset.1 + 1 - 1) (frame * (windows_in sc.sizes + 1) + 3 * slot + 1 - 1)
        (not-later (windows_in sc.sizes + 1) (sync_slot_of sc.sizes) onset.0 onset.1 frame slot (omega arith) (onset-in law j onset.0 onset.1 (always-counts sc hands j good) is) (not-true (is_before (Some onset) frame slot) later)) running in
        let both : true ≡ false = sym (ap not began) ∙ never in cc))

-- an RMU that is good in the whole run is good up to the slot of each moment of the run
pub always-good-at : {sc : _} (hands : List HandIn) → IsLawful sc → (j n slot : ℕ) → IsRunning (moment sc hands n) → 3 * slot ≤ (moment sc hands n).window
    → is_always_good sc hands j ≡ true → is_good sc Rmu j (moment sc hands n).frame slot ≡ true
always-good-at {sc} hands law j n slot running le good =
    always-good-in hands law j (moment sc hands n).frame slot
    (running_earlier sc hands ((moment sc hands n).frame * (windows_in sc.sizes + 1) + 3 * slot + 1 - 1) n (omega (arith, (agreement hands law n running).agree.place, le)) running) good

-- an RMU that is good in the whole run calls in each sync slot to which the run comes
pub call-of : {sc hands : _} → IsLawful sc → {ear : _} → IsEar sc ear → HearsTheRun sc hands ear → (n : ℕ) → IsRunning (moment sc hands n)
    → (moment sc hands n).window ≡ 3 * sync_slot_of sc.sizes + 1 → (j : ℕ) → is_always_good sc hands j ≡ true → (at : ℕ) × CallsToo sc hands ear n j at
call-of {sc} {hands} law {ear} is run n running window_is j good =
    let calls : IsHeardToCall sc hands ear n j =
    heard-to-call sc hands law ear run n j running window_is (always-good-at hands law j n (sync_slot_of sc.sizes) running (omega (arith, window_is)) good) in
    let time : ℕ = (coming_to sc ear j (moment sc hands n).frame calls.sending).time in
    (stamp_of ear.clock time, record { calls = calls; stamped = stamp_of-is ear.clock (steady-ear law is).moves time })

pub call-at : {sc hands : _} → IsLawful sc → {ear : _} → IsEar sc ear → HearsTheRun sc hands ear → {i number a : ℕ} (c : IsHeardCall sc hands ear i number a)
    → (j : ℕ) → is_always_good sc hands j ≡ true → (at : ℕ) × CallsToo sc hands ear c.n j at
call-at law is run c j good = call-of law is run c.n c.sent.running c.window_is j good

-- the call is among what the listener hears with its stamp
pub call-there : {sc hands : _} → IsLawful sc → {ear : _} → {n j at : ℕ} → CallsToo sc hands ear n j at → 1 ≤ at → at < ear.ticks → (i : ℕ) × IsCallAt sc ear at i j
call-there {sc} {hands} law {ear} {n} {j} {at} too some in_time = (
  heard.nth,
  record {
    coming = coming_to sc ear j (moment sc hands n).frame too.calls.sending;
    there = heard.there;
    from = refl;
    message = too.calls.sending.message;
    reads = read_back sc.plan.version too.calls.sending.message (in-place law too.calls.sent).fits;
    call = too.calls.call;
  },
)
  where
    heard : IsHeard ear at (coming_to sc ear j (moment sc hands n).frame too.calls.sending)
    heard = too.calls.heard at some in_time too.stamped

-- a time is the same as a call that comes
abbrev pub as-call : {sc hands ear i number a : _} (c : IsHeardCall sc hands ear i number a) {j at : ℕ} → CallsToo sc hands ear c.n j at → 1 ≤ at
    → IsHeardCall sc hands ear j number at
as-call c too some =
    record { n = c.n; sending = too.calls.sending; sent = too.calls.sent; window_is = c.window_is; number_is = c.number_is; stamped = too.stamped; some = some }

-- The newest calls before a message.

-- each newest call of a good RMU is one that was heard up to tick `k`
pub record AreKnown (sc : Scenario) (hands : List HandIn) (ear : Ear) (k : ℕ) (newest : List (Option Call)) : Type 0 where
  pub inside : AreOfRmus sc.sizes newest
  pub known : (j : ℕ) (c : Call) → is_always_good sc hands j ≡ true → get_or newest j None ≡ Some c → IsHeardCall sc hands ear j c.frame c.at × (c.at ≤ k)

pub well-known : {sc hands ear k n s : _} → IsWell sc hands ear k n s → AreKnown sc hands ear k s.newest
well-known h = record { inside = h.inside; known = h.newest }

-- a pass comes soon after a good call of its frame
pub record IsSoon (sc : Scenario) (hands : List HandIn) (ear : Ear) (number k : ℕ) : Type 0 where
  pub at : ℕ
  pub call : IsGoodCall sc hands ear number at
  pub low : at ≤ k
  pub high : k ≤ at + reach_of sc.plan

pub below-16 : (sc : Scenario) (hands : List HandIn) → IsShape sc.sizes → (j : ℕ) → is_always_good sc hands j ≡ true → j < 16
below-16 sc hands shape j good = omega (arith, always-counts sc hands j good, shape.most_rmus)

in-good-set : (sc : Scenario) (hands : List HandIn) (j : ℕ) → j < 16 → has (good-set sc hands) j ≡ true → is_always_good sc hands j ≡ true
unfolding good-set
in-good-set sc hands j below h = good-rmus sc hands j below h

-- a call of a good RMU falls into the pass
pub record GoodInPass (sc : Scenario) (hands : List HandIn) (newest : List (Option Call)) (frame from : ℕ) : Type 0 where
  pub j : ℕ
  pub good : is_always_good sc hands j ≡ true
  pub there : FallsThere (reach_of sc.plan) frame from (get_or newest j None)

pub good-in-pass : (sc : Scenario) (hands : List HandIn) → IsShape sc.sizes → are_most sc.sizes (set_of (is_always_good sc hands)) ≡ true → {newest frame : _} → AreOfRmus sc.sizes newest
    → (b : BeginsAt sc.sizes sc.plan newest frame) → GoodInPass sc hands newest b.call.frame b.call.at
unfolding good-set
good-in-pass sc hands shape most {newest} inside b =
    by (meet sc.sizes (good-set sc hands) (calling (reach_of sc.plan) b.call.frame b.call.at newest) shape.most_rmus (good-inside sc hands)
    (of-rmus sc.sizes (reach_of sc.plan) b.call.frame b.call.at newest inside) most b.most)
  where
    by : Passing (λ j. has (good-set sc hands) j && has (calling (reach_of sc.plan) b.call.frame b.call.at newest) j) 0 16 → GoodInPass sc hands newest b.call.frame b.call.at
    by c =
        let below : c.at < 16 = omega (arith, c.high) in
        record {
          j = c.at;
          good = in-good-set sc hands c.at below (and_first (has (good-set sc hands) c.at) (has (calling (reach_of sc.plan) b.call.frame b.call.at newest) c.at) c.passes);
          there = in-set (reach_of sc.plan) b.call.frame b.call.at newest c.at below (and_second (has (good-set sc hands) c.at) (has (calling (reach_of sc.plan) b.call.frame b.call.at newest) c.at) c.passes);
        }

-- if a call makes a pass that was not there, `IsSoon` holds for it
pub pass-is-soon : {sc : Scenario} {hands : List HandIn} {ear : Ear} → IsShape sc.sizes → are_most sc.sizes (set_of (is_always_good sc hands)) ≡ true → {k : ℕ} (from : ℕ) {q : ℕ} (call : Call)
    → (newest : List (Option Call)) → from < length newest → call.at ≡ k → AreOfRmus sc.sizes newest → AreKnown sc hands ear k (slice_set newest from (Some call))
    → (pass_of sc.sizes sc.plan newest ≡ Some q → ⊥) → pass_of sc.sizes sc.plan (slice_set newest from (Some call)) ≡ Some q → IsSoon sc hands ear q k
pass-is-soon {sc} {hands} {ear} shape most {k} from {q} call newest within at inside known none is = by (new-or-old newest from call within b)
  where
    b : BeginsAt sc.sizes sc.plan (slice_set newest from (Some call)) q
    b = pass-at sc.sizes sc.plan (slice_set newest from (Some call)) is

    g : GoodInPass sc hands (slice_set newest from (Some call)) b.call.frame b.call.at
    g = good-in-pass sc hands shape most known.inside b

    heard : IsHeardCall sc hands ear g.j g.there.call.frame g.there.call.at × (g.there.call.at ≤ k)
    heard = known.known g.j g.there.call g.good g.there.is

    by : FallsIn (reach_of sc.plan) b.call.frame b.call.at call ⊎ BeginsAt sc.sizes sc.plan newest q → IsSoon sc hands ear q k
    by (inr old) = absurd (none (begins-pass shape.most_rmus inside old))
    by (inl f) = record {
      at = g.there.call.at;
      call = record { j = g.j; good = g.good; call = subst (λ x. IsHeardCall sc hands ear g.j x g.there.call.at) (g.there.falls.frame_is ∙ b.frame_is) heard.0 };
      low = heard.1;
      high = omega (arith, at, f.high, g.there.falls.low);
    }

-- Not all good calls of the frame came before.

abbrev pub is_of : ℕ → Option Call → Bool
is_of q None = false
is_of q (Some c) = c.frame == q

abbrev pub at_of : Option Call → ℕ
at_of None = 0
at_of (Some c) = c.at

abbrev pub is_missing : Scenario → List HandIn → List (Option Call) → ℕ → ℕ → Bool
is_missing sc hands newest q j = is_always_good sc hands j && not (is_of q (get_or newest j None))

-- the newest call of RMU `j` is one of frame `q`
pub record HasCalled (newest : List (Option Call)) (q j : ℕ) : Type 0 where
  pub call : Call
  pub there : get_or newest j None ≡ Some call
  pub frame_is : call.frame ≡ q

called-of : (newest : List (Option Call)) (q j : ℕ) (o : Option Call) → get_or newest j None ≡ o → is_of q o ≡ true → HasCalled newest q j
called-of newest q j None e h = cc
called-of newest q j (Some c) e h = record { call = c; there = e; frame_is = eqb-true c.frame q h }

-- if the call of no good RMU is missing, there is a pass
pub none-missing : {sc hands : _} → IsLawful sc → {ear : _} → IsEar sc ear → are_most sc.sizes (set_of (is_always_good sc hands)) ≡ true → {k : ℕ} (q : ℕ) {newest : _}
    → AreKnown sc hands ear k newest → (i : ℕ) → is_always_good sc hands i ≡ true → ((j : ℕ) → is_always_good sc hands j ≡ true → HasCalled newest q j)
    → pass_of sc.sizes sc.plan newest ≡ Some q
unfolding good-set
none-missing {sc} {hands} law {ear} is most q {newest} known i good called = by least.held
  where
    time : ℕ → ℕ
    time j = at_of (get_or newest j None)

    time-is : (j : ℕ) (h : HasCalled newest q j) → at_of (get_or newest j None) ≡ h.call.at
    time-is j h = ap at_of h.there

    heard : (j : ℕ) → is_always_good sc hands j ≡ true → (h : HasCalled newest q j) → IsHeardCall sc hands ear j q h.call.at
    heard j g h = subst (λ x. IsHeardCall sc hands ear j x h.call.at) h.frame_is (known.known j h.call g h.there).0

    near : (a b : ℕ) → is_always_good sc hands a ≡ true → is_always_good sc hands b ≡ true → at_of (get_or newest a None) ≤ at_of (get_or newest b None) + reach_of sc.plan
    near a b ga gb =
        let x : HasCalled newest q a = called a ga in
        let y : HasCalled newest q b = called b gb in
        let close : x.call.at ≤ y.call.at + reach_of sc.plan =
        calls-together law is (heard b gb y) (heard a ga x)
        (same-frame-number law (heard b gb y) (heard a ga x) refl) in
        omega (arith, close, time-is a x, time-is b y)

    least : HasLeast (is_always_good sc hands) (λ j. at_of (get_or newest j None)) (reach_of sc.plan) 16
    least = least_of (is_always_good sc hands) (λ j. at_of (get_or newest j None)) (reach_of sc.plan) near 16

    begins : (o : ℕ) → is_always_good sc hands o ≡ true → at_of (get_or newest o None) ≡ least.least → BeginsAt sc.sizes sc.plan newest q
    begins o g e =
        let h : HasCalled newest q o = called o g in
        record {
          i = o;
          call = h.call;
          there = h.there;
          most =
              more-than sc.sizes.rmus (size (good-set sc hands)) (size (calling (reach_of sc.plan) h.call.frame h.call.at newest))
              (size_within (good-set sc hands) (calling (reach_of sc.plan) h.call.frame h.call.at newest)
              (λ j below in_it.
              let mine : is_always_good sc hands j ≡ true = in-good-set sc hands j below in_it in
              let c : HasCalled newest q j = called j mine in
              let between : IsBetween least.least (least.least + reach_of sc.plan) (at_of (get_or newest j None)) = least.at j below mine in
              let falls : falls_in (reach_of sc.plan) h.call.frame h.call.at (Some c.call) ≡ true =
              all-falls (record {
                frame_is = c.frame_is ∙ sym h.frame_is;
                low = omega (arith, between.least, time-is j c, time-is o h, e);
                high = omega (arith, between.most, time-is j c, time-is o h, e);
              }) in
              has-set_of j (λ t. falls_in (reach_of sc.plan) h.call.frame h.call.at (get_or newest t None)) below
              ∙ ap (falls_in (reach_of sc.plan) h.call.frame h.call.at) c.there ∙ falls))
              most;
          frame_is = h.frame_is;
        }

    by : ((j : ℕ) → j < 16 → is_always_good sc hands j ≡ false) ⊎ ((j : ℕ) × (is_always_good sc hands j ≡ true) × (at_of (get_or newest j None) ≡ least.least)) → pass_of sc.sizes sc.plan newest ≡ Some q
    by (inl nobody) = let both : true ≡ false = sym good ∙ nobody i (below-16 sc hands law.sizes i good) in absurd (cc)
    by (inr one) = begins-pass law.sizes.most_rmus known.inside (begins one.0 one.1 one.2)

-- a good call of the frame comes at tick `k` or later
pub record IsStillToCome (sc : Scenario) (hands : List HandIn) (ear : Ear) (number k : ℕ) : Type 0 where
  pub at : ℕ
  pub call : IsGoodCall sc hands ear number at
  pub late : k ≤ at

abbrev pub AreLatest : Scenario → Ear → ℕ → ℕ → List (Option Call) → Type 0
AreLatest sc ear k n newest = (j at i : ℕ) → j < sc.sizes.rmus → IsCallAt sc ear at i j → IsEarlier at i k n → IsLate at (get_or newest j None)

pub still-to-come : {sc hands : _} → IsLawful sc → {ear : _} → IsEar sc ear → HearsTheRun sc hands ear → {k n p q newest : _} → k < ear.ticks
    → AreKnown sc hands ear k newest → AreLatest sc ear k n newest → {before : ℕ} → IsGoodCall sc hands ear p before → q ≡ frame_after p → IsSoon sc hands ear q k
    → (pass_of sc.sizes sc.plan newest ≡ Some q → ⊥) → IsStillToCome sc hands ear q k
still-to-come {sc} {hands} law {ear} is run {k} {q} {newest} in_time known latest {before} prior next soon none = by (list_any (is_missing sc hands newest q) (numbers 16)) refl
  where
    later : (moment sc hands prior.call.n).frame < (moment sc hands soon.call.call.n).frame
    later = omega (arith, next-frame-number law prior.call soon.call.call next)

    -- an RMU whose newest call is of another frame has called in this one at this tick or later
    absent : (j at : ℕ) → is_always_good sc hands j ≡ true → is_of q (get_or newest j None) ≡ false → (too : CallsToo sc hands ear soon.call.call.n j at) → 1 ≤ at → at < k → ⊥
    absent j at good other too some early = late (get_or newest j None) refl (latest j at there.0 (always-counts sc hands j good) there.1 (inl early))
      where
        there : (i : ℕ) × IsCallAt sc ear at i j
        there = call-there law too some (omega (arith, early, in_time))

        mine : IsHeardCall sc hands ear j q at
        mine = as-call soon.call.call too some

        late : (o : Option Call) → get_or newest j None ≡ o → IsLate at o → ⊥
        late None e h = h
        late (Some c) e h =
            let known_it : IsHeardCall sc hands ear j c.frame c.at × (c.at ≤ k) = known.known j c good e in
            elim (cases_lt (moment sc hands known_it.0.n).frame (moment sc hands soon.call.call.n).frame) [
              | inl less ↦ omega (arith, h, calls-apart law is known_it.0 mine less)
              | inr ge ↦ elim (cases_lt (moment sc hands soon.call.call.n).frame (moment sc hands known_it.0.n).frame) [
                | inl more ↦ omega (arith, soon.high, known_it.1, calls-apart law is soon.call.call known_it.0 more)
                | inr le ↦
                    let frames : (moment sc hands known_it.0.n).frame ≡ (moment sc hands soon.call.call.n).frame = omega (arith, ge, le) in
                    let of_q : c.frame ≡ q = known_it.0.number_is ∙ ap (λ f. f % 65536) frames ∙ sym soon.call.call.number_is in
                    let is_it : is_of q (Some c) ≡ true = eq-eqb c.frame q of_q in
                    let both : true ≡ false = sym is_it ∙ ap (is_of q) (sym e) ∙ other in cc
              ]
            ]

    comes : (j : ℕ) → is_always_good sc hands j ≡ true → is_of q (get_or newest j None) ≡ false → IsStillToCome sc hands ear q k
    comes j good other =
        let at = call-at law is run soon.call.call j good in
        let after : before + reach_of sc.plan < at.0 =
        come-apart sc hands law ear is prior.call.n soon.call.call.n prior.j j prior.call.sending at.1.calls.sending prior.call.window_is soon.call.call.window_is later prior.call.sent at.1.calls.sent
        before at.0 prior.call.some prior.call.stamped at.1.stamped in
        elim (cases_lt at.0 k) [
          | inl early ↦ absurd (absent j at.0 good other at.1 (omega (arith, after)) early)
          | inr late ↦ record {
            at = at.0;
            call = record { j = j; good = good; call = as-call soon.call.call at.1 (omega (arith, after)) };
            late = late;
          }
        ]

    all : list_any (is_missing sc hands newest q) (numbers 16) ≡ false → (j : ℕ) → is_always_good sc hands j ≡ true → HasCalled newest q j
    all nobody j good =
        let b : is_of q (get_or newest j None) ≡ true =
        not-false (is_of q (get_or newest j None)) (false_from_ne_true (not (is_of q (get_or newest j None))) (λ missing.
        let found : list_any (is_missing sc hands newest q) (numbers 16) ≡ true =
        passes_at (is_missing sc hands newest q) j (below-16 sc hands law.sizes j good) (and_from (is_always_good sc hands j) (not (is_of q (get_or newest j None))) good missing) in
        let both : true ≡ false = sym found ∙ nobody in cc)) in
        called-of newest q j (get_or newest j None) refl b

    by : (b : Bool) → list_any (is_missing sc hands newest q) (numbers 16) ≡ b → IsStillToCome sc hands ear q k
    by true e =
        let one : Passing (is_missing sc hands newest q) 0 16 = passing (is_missing sc hands newest q) 0 16 e in
        comes one.at (and_first (is_always_good sc hands one.at) (not (is_of q (get_or newest one.at None))) one.passes)
        (not-true (is_of q (get_or newest one.at None)) (and_second (is_always_good sc hands one.at) (not (is_of q (get_or newest one.at None))) one.passes))
    by false e = absurd (none (none-missing law is run.most_good q known soon.call.j soon.call.good (all e)))
