-- The last call of a frame to come, of those of the RMUs that are good in the whole run.
use Rattle.std.proofs.{Common.{◌≡◌, ◌⊎◌, ℕ, zero, suc, ◌+◌, ◌-◌, ◌*◌, ◌%◌, ◌<◌, ◌≤◌, Bool, true, false, List, inl, inr, refl, sym, ◌∙◌, ap, subst, arith}, lemmas.Bool.cases_lt}
use Rattle.rb_base.specs.Sizes.{sync_slot_of}
use Rattle.rb_rules.specs.{Clock.IsStamp, Goodness.Scenario, Lawful.IsLawful, Ports.HandIn, Rounds.{moment, windows_in}}
use Rattle.rb_rules.proofs.Stamps.{one_stamp}
use Rattle.rb_laws_agreement.proofs.Places.{IsPlaced, placed}
use Rattle.rb_laws_listener_learns.specs.{Ears.{Ear, HearsTheRun, IsEar, SendsIn, coming_to, is_always_good}, Seeking.HasCalls}
use Rattle.rb_laws_listener_learns.proofs.{Allowed.some-good, Deciding.IsHeardCall, Fresh.{CallsToo, below-16, call-of, same-frame-number, same-moment}, Moments.same-sent, TrustedSets.SomeGood}

-- Of good ones, each with a number, one is the last: it has the greatest number.

pub record HasLast (good : ℕ → Bool) (P : ℕ → ℕ → Type 0) (n : ℕ) : Type 0 where
  pub j : ℕ
  pub at : ℕ
  pub good_is : good j ≡ true
  pub holds : P j at
  pub each : (i : ℕ) → i < n → good i ≡ true → (b : ℕ) × (P i b × (b ≤ at))

-- if each good one below `n` has a number up to `most`, and `n` has, so has each one below `suc n`
up-to-next : (good : ℕ → Bool) (P : ℕ → ℕ → Type 0) (n most : ℕ) → ((i : ℕ) → i < n → good i ≡ true → (b : ℕ) × (P i b × (b ≤ most))) → (good n ≡ true → (b : ℕ) × (P n b × (b ≤ most)))
    → (i : ℕ) → i < suc n → good i ≡ true → (b : ℕ) × (P i b × (b ≤ most))
up-to-next good P n most below here i lt g =
    elim (cases_lt i n) [
      | inl before ↦ below i before g
      | inr ge ↦ let same : n ≡ i = omega (arith, lt, ge) in subst (λ x. good x ≡ true → (b : ℕ) × (P x b × (b ≤ most))) same here g
    ]

-- if `n` is good, and its number no less than those of all below it, it is the last one
new-last : (good : ℕ → Bool) (P : ℕ → ℕ → Type 0) (n at : ℕ) → good n ≡ true → P n at → ((i : ℕ) → i < n → good i ≡ true → (b : ℕ) × (P i b × (b ≤ at))) → HasLast good P (suc n)
new-last good P n at is p below = record { j = n; at = at; good_is = is; holds = p; each = up-to-next good P n at below (λ g. (at, (p, omega arith))) }

-- the last one of those below `n` stays the last one, if `n` has no greater number
same-last : {good : _} (P : ℕ → ℕ → Type 0) {n : ℕ} → (h : HasLast good P n) → (good n ≡ true → (b : ℕ) × (P n b × (b ≤ h.at))) → HasLast good P (suc n)
same-last {good} P {n} h here = record { j = h.j; at = h.at; good_is = h.good_is; holds = h.holds; each = up-to-next good P n h.at h.each here }

pub last-of : (good : ℕ → Bool) (P : ℕ → ℕ → Type 0) → ((j : ℕ) → good j ≡ true → (at : ℕ) × P j at) → (n : ℕ) → ((j : ℕ) → j < n → good j ≡ false) ⊎ HasLast good P n
last-of good P each zero = inl (λ j lt. absurd (omega (arith, lt)))
last-of good P each (suc n) = by (good n) refl (last-of good P each n)
  where
    by : (b : Bool) → good n ≡ b → ((j : ℕ) → j < n → good j ≡ false) ⊎ HasLast good P n → ((j : ℕ) → j < suc n → good j ≡ false) ⊎ HasLast good P (suc n)
    by true is (inl none) = inr (new-last good P n (each n is).0 is (each n is).1 (λ i lt g. let both : true ≡ false = sym g ∙ none i lt in absurd (cc)))
    by true is (inr h) =
        let own : (at : ℕ) × P n at = each n is in
        inr (elim (cases_lt own.0 h.at) [
          | inl less ↦ same-last P h (λ g. (own.0, (own.1, omega (arith, less))))
          | inr late ↦ new-last good P n own.0 is own.1 (λ i lt g. let e : (b : ℕ) × (P i b × (b ≤ h.at)) = h.each i lt g in (e.0, (e.1.0, omega (arith, e.1.1, late))))
        ])
    by false is (inl none) = inl (λ j lt. elim (cases_lt j n) [ inl before ↦ none j before | inr ge ↦ let same : j ≡ n = omega (arith, lt, ge) in ap good same ∙ is ])
    by false is (inr h) = inr (same-last P h (λ g. let both : true ≡ false = sym g ∙ is in absurd (cc)))

-- The last call of a frame.

-- the moment in which the RMUs call in a frame
abbrev pub call_moment : Scenario → ℕ → ℕ
call_moment sc frame = frame * (windows_in sc.sizes + 1) + 3 * sync_slot_of sc.sizes + 2 - 1

pub call-place : {sc : _} (hands : List HandIn) → IsLawful sc → {frame : ℕ} → HasCalls sc hands frame
    → ((moment sc hands (call_moment sc frame)).frame ≡ frame) × ((moment sc hands (call_moment sc frame)).window ≡ 3 * sync_slot_of sc.sizes + 1)
call-place {sc} hands law {frame} called =
    let p : IsPlaced sc hands frame (sync_slot_of sc.sizes) 2 = placed hands law frame (sync_slot_of sc.sizes) 2 (omega arith) (omega arith) (omega arith) called in
    (p.frame_is, omega (arith, p.window_is))

-- the last call of the frame comes with this stamp, and no call of it before the first tick
pub record IsLastCall (sc : Scenario) (hands : List HandIn) (ear : Ear) (frame last : ℕ) : Type 0 where
  pub i : ℕ
  pub good : is_always_good sc hands i ≡ true
  pub call : IsHeardCall sc hands ear i (frame % 65536) last
  pub frame_is : (moment sc hands call.n).frame ≡ frame
  pub each : (j : ℕ) → is_always_good sc hands j ≡ true → (at : ℕ) × (CallsToo sc hands ear call.n j at × ((1 ≤ at) × (at ≤ last)))

pub last-call : {sc hands : _} → IsLawful sc → {ear : _} → IsEar sc ear → HearsTheRun sc hands ear → {frame : ℕ} → HasCalls sc hands frame
    → ((j at : ℕ) → is_always_good sc hands j ≡ true → CallsToo sc hands ear (call_moment sc frame) j at → 1 ≤ at) → (last : ℕ) × IsLastCall sc hands ear frame last
last-call {sc} {hands} law {ear} is run {frame} called some =
    by (last-of (is_always_good sc hands) (λ j at. CallsToo sc hands ear (call_moment sc frame) j at) (call-of law is run (call_moment sc frame) called place.1) 16)
  where
    place : ((moment sc hands (call_moment sc frame)).frame ≡ frame) × ((moment sc hands (call_moment sc frame)).window ≡ 3 * sync_slot_of sc.sizes + 1)
    place = call-place hands law called

    g : SomeGood sc hands
    g = some-good hands law run.most_good

    by : ((j : ℕ) → j < 16 → is_always_good sc hands j ≡ false) ⊎ HasLast (is_always_good sc hands) (λ j at. CallsToo sc hands ear (call_moment sc frame) j at) 16
        → (last : ℕ) × IsLastCall sc hands ear frame last
    by (inl none) = let both : true ≡ false = sym g.good ∙ none g.j (below-16 sc hands law.sizes g.j g.good) in absurd (cc)
    by (inr h) = (
      h.at,
      record {
        i = h.j;
        good = h.good_is;
        call = record {
          n = call_moment sc frame;
          sending = h.holds.calls.sending;
          sent = h.holds.calls.sent;
          window_is = place.1;
          number_is = ap (λ f. f % 65536) (sym place.0);
          stamped = h.holds.stamped;
          some = some h.j h.at h.good_is h.holds;
        };
        frame_is = place.0;
        each = λ j good.
            let e : (b : ℕ) × (CallsToo sc hands ear (call_moment sc frame) j b × (b ≤ h.at)) = h.each j (below-16 sc hands law.sizes j good) good in
            (e.0, (e.1.0, (some j e.0 good e.1.0, e.1.1)));
      },
    )

pub no-later : {sc hands : _} → IsLawful sc → {ear : _} → {frame last : ℕ} → IsLastCall sc hands ear frame last → {j at : ℕ} → is_always_good sc hands j ≡ true
    → IsHeardCall sc hands ear j (frame % 65536) at → at ≤ last
no-later {sc} {hands} law {ear} {last} l {j} {at} good c = omega (arith, e.1.1.1, stamps)
  where
    e : (b : ℕ) × (CallsToo sc hands ear l.call.n j b × ((1 ≤ b) × (b ≤ last)))
    e = l.each j good

    moments : l.call.n ≡ c.n
    moments =
        same-moment law l.call c
        (same-frame-number law l.call c refl)

    sendings : e.1.0.calls.sending ≡ c.sending
    sendings =
        same-sent (subst (λ k. SendsIn sc hands k j e.1.0.calls.sending) moments e.1.0.calls.sent) c.sent

    stamps : e.0 ≡ at
    stamps =
        one_stamp ear.clock (coming_to sc ear j (moment sc hands c.n).frame c.sending).time e.0 at
        (subst (λ x. IsStamp ear.clock (coming_to sc ear j (moment sc hands c.n).frame x).time e.0) sendings
        (subst (λ k. IsStamp ear.clock (coming_to sc ear j (moment sc hands k).frame e.1.0.calls.sending).time e.0) moments e.1.0.stamped))
        c.stamped
