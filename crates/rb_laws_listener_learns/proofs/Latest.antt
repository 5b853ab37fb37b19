-- A search has the newest call of each RMU that came.
use Rattle.std.proofs.{Common.{◌≡◌, ◌⊎◌, ℕ, zero, suc, ◌+◌, ◌^◌, ◌<◌, ◌≤◌, nat_lt, true, false, Option, Some, None, List, [], ◌∷◌, length, get_or, slice_get, slice_set, inl, inr, refl, sym, ◌∙◌, ap, subst, arith}, lemmas.Bool.{cases_lt, lt-ltb}, lemmas.Bool.Decides.nat_tests, lemmas.List.{get_or-set_same, length-set}, lemmas.Option.same_Some}
use Rattle.rb_rules.specs.{declared.message.Message.Message, Goodness.Scenario, Hearing.Coming, Spelling.message_in}
use Rattle.rb_base.specs.Sizes.{IsShape}
use Rattle.rb_listen.specs.{Lessons.frame_after, Listening.{first_search, is_over, later, learning, recorded, searching}, Passes.is_call, declared.passes.Call.Call, declared.search.Search.Search}
use Rattle.rb_laws_listener_learns.specs.Ears.{Ear, IsEar}
use Rattle.rb_laws_listener_learns.proofs.{Recorded.IsEarlier, Searchings.{RecordsOnly, SameCalls, pass-calls, recorded-only, search-by, with_call}, Seeks.set-other, Walks.IsKept}

-- Places among what comes.

-- a place before the next one is earlier than this one, or is this one
pub earlier-split : (at nth k n : ℕ) → IsEarlier at nth k (suc n) → IsEarlier at nth k n ⊎ ((at ≡ k) × (nth ≡ n))
earlier-split at nth k n (inl less) = inl (inl less)
earlier-split at nth k n (inr same) = elim (cases_lt nth n) [ inl less ↦ inl (inr (same.0, less)) | inr more ↦ inr (same.0, omega (arith, same.1, more)) ]

below-end : {X : Type 0} (xs : List X) (i n : ℕ) {x : X} → slice_get xs i ≡ Some x → slice_get xs n ≡ None → i < n
below-end [] i n is none = cc
below-end (y ∷ ys) zero zero is none = cc
below-end (y ∷ ys) zero (suc n) is none = omega arith
below-end (y ∷ ys) (suc i) zero is none = cc
below-end (y ∷ ys) (suc i) (suc n) is none = omega (arith, below-end ys i n is none)

-- once all messages of a stamp have come, a message with that stamp or before is earlier
pub whole-earlier : (ear : Ear) (at nth k n : ℕ) {c : _} → slice_get (ear.heard at) nth ≡ Some c → slice_get (ear.heard k) n ≡ None → at ≤ k → IsEarlier at nth k n
whole-earlier ear at nth k n there whole le =
    elim (cases_lt at k) [
      | inl less ↦ inl less
      | inr ge ↦
          let same : at ≡ k = omega (arith, le, ge) in
          inr (same, below-end (ear.heard k) nth n (ap (λ t. slice_get (ear.heard t) nth) (sym same) ∙ there) whole)
    ]

pub earlier-by : (at nth k : ℕ) → IsEarlier at nth (suc k) 0 → at ≤ k
earlier-by at nth k (inl less) = omega (arith, less)
earlier-by at nth k (inr same) = absurd (omega (arith, same.1))

pub earlier-le : (at nth k n : ℕ) → IsEarlier at nth k n → at ≤ k
earlier-le at nth k n (inl less) = omega (arith, less)
earlier-le at nth k n (inr same) = omega (arith, same.0)

-- Calls.

-- message i of a stamp is a call of RMU j
pub record IsCallAt (sc : Scenario) (ear : Ear) (at i j : ℕ) : Type 0 where
  pub coming : Coming
  pub there : slice_get (ear.heard at) i ≡ Some coming
  pub from : coming.from ≡ j
  pub message : Message
  pub reads : message_in sc.plan.version coming.bytes ≡ Some message
  pub call : is_call sc.sizes message ≡ true

abbrev pub IsLate : ℕ → Option Call → Type 0
IsLate at None = ⊥
IsLate at (Some call) = at ≤ call.at

pub record IsLatest (sc : Scenario) (ear : Ear) (k n : ℕ) (s : Search) : Type 0 where
  pub had : s.had ≡ k
  pub long : length s.newest ≡ 16
  pub latest : (j at i : ℕ) → j < sc.sizes.rmus → IsCallAt sc ear at i j → IsEarlier at i k n → IsLate at (get_or s.newest j None)

pub first-latest : (sc : Scenario) (ear : Ear) → IsLatest sc ear 0 0 first_search
unfolding first_search
first-latest sc ear = record {
  had = refl;
  long = refl;
  latest = λ j at i within call before. absurd (never at i before);
}
  where
    never : (at i : ℕ) → IsEarlier at i 0 0 → ⊥
    never at i (inl less) = omega (arith, less)
    never at i (inr same) = omega (arith, same.1)

same-latest : {sc ear k n a b : _} → SameCalls a b → IsLatest sc ear k n a → IsLatest sc ear k n b
same-latest same h = record {
  had = same.had ∙ h.had;
  long = ap length same.newest ∙ h.long;
  latest = λ j at i within call before. subst (λ x. IsLate at (get_or x j None)) (sym same.newest) (h.latest j at i within call before);
}

pub recorded-latest : {sc ear k n : _} (j : ℕ) (m : Message) {s : _} → IsLatest sc ear k n s → IsLatest sc ear k n (recorded sc.sizes j m s)
recorded-latest {sc} j m {s} h =
    let same : RecordsOnly s (recorded sc.sizes j m s) = recorded-only sc.sizes j m s in
    same-latest (record { had = same.had; newest = same.newest }) h

-- a message that is no call keeps `IsLatest`
no-call : {sc : Scenario} {ear : Ear} {k n : ℕ} {s : Search} → ((j : ℕ) → j < sc.sizes.rmus → IsCallAt sc ear k n j → ⊥) → IsLatest sc ear k n s → IsLatest sc ear k (suc n) s
no-call {sc} {ear} {k} {n} none h = record {
  had = h.had;
  long = h.long;
  latest = λ j at i within call before.
      elim (earlier-split at i k n before) [
        | inl earlier ↦ h.latest j at i within call earlier
        | inr here ↦ absurd (none j within (subst (λ x. IsCallAt sc ear k x j) here.1 (subst (λ x. IsCallAt sc ear x i j) here.0 call)))
      ];
}

-- a call keeps `IsLatest`
pub call-latest : {sc : Scenario} {ear : Ear} {k n : ℕ} (from : ℕ) (m : Message) {s : Search} → IsShape sc.sizes → from < sc.sizes.rmus → ((j : ℕ) → IsCallAt sc ear k n j → j ≡ from) → IsLatest sc ear k n s
    → IsLatest sc ear k (suc n) (with_call sc.sizes from m s)
call-latest {sc} {ear} {k} {n} from m {s} shape within only h = record {
  had = r.had;
  long = length-set (recorded sc.sizes from m s).newest from (Some call) ∙ r.long;
  latest = λ j at i within_j is before. by j at i within_j is before (cases_lt j from) (cases_lt from j);
}
  where
    r : IsLatest sc ear k n (recorded sc.sizes from m s)
    r = recorded-latest from m h

    call : Call
    call = record { frame = m.frame; at = (recorded sc.sizes from m s).had }

    new : (at : ℕ) → at ≤ k → IsLate at (get_or (slice_set (recorded sc.sizes from m s).newest from (Some call)) from None)
    new at le =
        subst (IsLate at) (sym (get_or-set_same (recorded sc.sizes from m s).newest from (Some call) None (omega (arith, within, shape.most_rmus, r.long))))
        (let late : at ≤ (recorded sc.sizes from m s).had = omega (arith, le, r.had) in late)

    other : (j at i : ℕ) → j < sc.sizes.rmus → IsCallAt sc ear at i j → IsEarlier at i k (suc n) → (j ≡ from → ⊥)
        → IsLate at (get_or (slice_set (recorded sc.sizes from m s).newest from (Some call)) j None)
    other j at i within_j is before apart =
        subst (IsLate at) (sym (set-other (recorded sc.sizes from m s).newest from j (Some call) apart))
        (elim (earlier-split at i k n before) [
          | inl earlier ↦ r.latest j at i within_j is earlier
          | inr here ↦ absurd (apart (only j (subst (λ x. IsCallAt sc ear k x j) here.1 (subst (λ x. IsCallAt sc ear x i j) here.0 is))))
        ])

    by : (j at i : ℕ) → j < sc.sizes.rmus → IsCallAt sc ear at i j → IsEarlier at i k (suc n) → (j < from) ⊎ (from ≤ j) → (from < j) ⊎ (j ≤ from)
        → IsLate at (get_or (slice_set (recorded sc.sizes from m s).newest from (Some call)) j None)
    by j at i within_j is before (inl less) c = other j at i within_j is before (λ e. omega (arith, less, e))
    by j at i within_j is before (inr ge) (inl more) = other j at i within_j is before (λ e. omega (arith, more, e))
    by j at i within_j is before (inr ge) (inr le) =
        let same : j ≡ from = omega (arith, ge, le) in
        subst (λ x. IsLate at (get_or (slice_set (recorded sc.sizes from m s).newest from (Some call)) x None)) (sym same) (new at (earlier-le at i k (suc n) before))

pub going : {sc ear : _} → IsEar sc ear → {k had : ℕ} → k < ear.ticks → had ≡ k → nat_lt had (2 ^ 31) ≡ true
going is {had} in_time same = lt-ltb had (2 ^ 31) (omega (arith, in_time, is.ticks, same))

same-coming-at : (ear : Ear) (k n : ℕ) {c d : _} → slice_get (ear.heard k) n ≡ Some c → slice_get (ear.heard k) n ≡ Some d → d ≡ c
same-coming-at ear k n {c} {d} a b = same_Some d c (sym b ∙ a)

heard-latest : {sc : Scenario} {ear : Ear} → IsShape sc.sizes → IsEar sc ear → (k n : ℕ) (c : Coming) → k < ear.ticks → slice_get (ear.heard k) n ≡ Some c → (s : Search) → IsLatest sc ear k n s
    → IsLatest sc ear k (suc n) (searching sc.sizes sc.plan c.from c.bytes s)
heard-latest {sc} {ear} shape is k n c in_time there s h =
    search-by c.bytes (IsLatest sc ear k (suc n)) (going is in_time h.had) (record {
      nothing = λ none. no-call (λ j within call. none (subst (λ x. x < sc.sizes.rmus) (sym (mine j call)) within) call.message (read j call)) h;
      message = λ within m reads other.
          no-call
          (λ j within call. let both : false ≡ true = sym other ∙ ap (is_call sc.sizes) (same_Some m call.message (sym reads ∙ read j call)) ∙ call.call in cc)
          (recorded-latest c.from m h);
      call = λ within m reads calls o pass.
          same-latest (pass-calls sc.plan o (with_call sc.sizes c.from m s))
          (call-latest c.from m shape within (λ j call. sym (mine j call)) h);
    })
  where
    mine : (j : ℕ) → IsCallAt sc ear k n j → c.from ≡ j
    mine j call = ap (λ (x : Coming). x.from) (sym (same-coming-at ear k n there call.there)) ∙ call.from

    read : (j : ℕ) (call : IsCallAt sc ear k n j) → message_in sc.plan.version c.bytes ≡ Some call.message
    read j call = ap (λ (x : Coming). message_in sc.plan.version x.bytes) (sym (same-coming-at ear k n there call.there)) ∙ call.reads

pub next-tick : {sc : Scenario} {ear : Ear} {k n : ℕ} {a : Search} (b : Search) → slice_get (ear.heard k) n ≡ None → b.had ≡ a.had + 1 → b.newest ≡ a.newest → IsLatest sc ear k n a
    → IsLatest sc ear (suc k) 0 b
next-tick {ear} {k} {n} b whole had newest h = record {
  had = omega (arith, had, h.had);
  long = ap length newest ∙ h.long;
  latest = λ j at i within call before.
      subst (λ x. IsLate at (get_or x j None)) (sym newest) (h.latest j at i within call (whole-earlier ear at i k n call.there whole (earlier-by at i k before)));
}

pub not-yet : {sc ear : _} → IsEar sc ear → {k had : ℕ} → k < ear.ticks → had ≡ k → is_over had ≡ false
not-yet is {had} in_time same = let below : had < 2 ^ 31 = omega (arith, in_time, is.ticks, same) in grind (arith, nat_tests, below)

pub kept-latest : {sc : Scenario} {ear : Ear} → IsShape sc.sizes → IsEar sc ear → IsKept sc ear (IsLatest sc ear)
kept-latest {sc} {ear} shape is = record {
  first = first-latest sc ear;
  heard = heard-latest shape is;
  decided = λ k n s in_time whole h deciding. next-tick (learning (frame_after s.lesson.frame) (later s)) whole refl refl h;
  later = λ k n s in_time whole h going. next-tick (later s) whole refl refl h;
  lasts = λ k n s in_time h. not-yet is in_time h.had;
}
