-- What a search has recorded of good RMUs, message by message.
use Rattle.std.proofs.{Common.{◌≡◌, ◌⊎◌, ℕ, zero, suc, ◌+◌, ◌*◌, ◌<◌, ◌==◌, ◌&&◌, nat_le, Bool, true, false, Some, List, [], ◌∷◌, get_or, slice_get, slice_set, replicate, if◌then◌else◌, inl, inr, refl, sym, ◌∙◌, ap, subst, arith}, lemmas.Bool.eqb-true, lemmas.Option.same_Some}
use Rattle.rb_base.specs.Sizes.{sync_slot_of}
use Rattle.rb_rules.specs.{declared.message.Message.Message, declared.sense.Sense.Sense, declared.sense.Sense.TheVariants.{Silent, One, Bad}, Goodness.Scenario, Hearing.Coming, Lawful.IsLawful, Ports.HandIn, Sense.tag_suits, Slots.role_of, Spelling.message_in}
use Rattle.rb_rules.proofs.{Spellings.read_back, Stamps.one_stamp}
use Rattle.rb_listen.specs.{Lessons.{has_place, nothing_recorded, noted, place_of, record_of, stage_recorded, with_message, with_record}, declared.lesson.Lesson.Lesson}
use Rattle.rb_laws_listener_learns.specs.{Ears.{Ear, HearsTheRun, IsEar, IsOfGood, is_always_good}, Records.IsOfPlace}
use Rattle.rb_laws_listener_learns.proofs.{Moments.same-coming, Sendings.in-place}

-- message `nth` of stamp `at` is heard before message `n` of stamp `k`
abbrev pub IsEarlier : ℕ → ℕ → ℕ → ℕ → Type 0
IsEarlier at nth k n = (at < k) ⊎ ((at ≡ k) × (nth < n))

pub record CameBefore (sc : Scenario) (hands : List HandIn) (ear : Ear) (k n j at : ℕ) (m : Message) : Type 0 where
  pub coming : Coming
  pub nth : ℕ
  pub there : slice_get (ear.heard at) nth ≡ Some coming
  pub in_time : at < ear.ticks
  pub from : coming.from ≡ j
  pub good : IsOfGood sc hands ear coming
  pub is : good.sending.message ≡ m
  pub earlier : IsEarlier at nth k n

abbrev pub IsTrueBy : Scenario → List HandIn → Ear → ℕ → ℕ → ℕ → ℕ → ℕ → Sense → Type 0
IsTrueBy sc hands ear k n frame slot j Silent = Unit {0}
IsTrueBy sc hands ear k n frame slot j (One at m) = CameBefore sc hands ear k n j at m × IsOfPlace sc frame slot m
IsTrueBy sc hands ear k n frame slot j Bad = ⊥

abbrev pub AreTrueBy : Scenario → List HandIn → Ear → ℕ → ℕ → Lesson → Type 0
AreTrueBy sc hands ear k n lesson =
    (j : ℕ) → j < 16 → is_always_good sc hands j ≡ true → (slot : ℕ) → IsTrueBy sc hands ear k n lesson.frame slot j (record_of lesson.records slot j)

-- Lists.

silent-there : (n j : ℕ) → get_or (replicate n Silent) j Silent ≡ Silent
silent-there zero j = refl
silent-there (suc n) zero = refl
silent-there (suc n) (suc j) = silent-there n j

pub nothing-there : (slot j : ℕ) → record_of nothing_recorded slot j ≡ Silent
unfolding nothing_recorded
nothing-there slot j = silent-there 1808 (place_of slot j)

pub set-either : (xs : List Sense) (p q : ℕ) (x : Sense)
    → ((q ≡ p) × (get_or (slice_set xs p x) q Silent ≡ x)) ⊎ (get_or (slice_set xs p x) q Silent ≡ get_or xs q Silent)
set-either [] p q x = inr refl
set-either (y ∷ ys) zero zero x = inl (refl, refl)
set-either (y ∷ ys) zero (suc q) x = inr refl
set-either (y ∷ ys) (suc p) zero x = inr refl
set-either (y ∷ ys) (suc p) (suc q) x = elim (set-either ys p q x) [ inl both ↦ inl (ap suc both.0, both.1) | inr same ↦ inr same ]

-- Later, all is as true.

earlier-next : (at nth k n : ℕ) → IsEarlier at nth k n → IsEarlier at nth k (suc n)
earlier-next at nth k n (inl less) = inl less
earlier-next at nth k n (inr same) = inr (same.0, omega (arith, same.1))

earlier-tick : (at nth k n : ℕ) → IsEarlier at nth k n → IsEarlier at nth (suc k) 0
earlier-tick at nth k n (inl less) = inl (omega (arith, less))
earlier-tick at nth k n (inr same) = inl (omega (arith, same.0))

moved : {sc hands ear k n l o j at m : _} → (c : CameBefore sc hands ear k n j at m) → IsEarlier at c.nth l o
    → CameBefore sc hands ear l o j at m
moved c e =
    record { coming = c.coming; nth = c.nth; there = c.there; in_time = c.in_time; from = c.from; good = c.good; is = c.is; earlier = e }

next-true : (sc : Scenario) (hands : List HandIn) (ear : Ear) (k n frame slot j : ℕ) (r : Sense) → IsTrueBy sc hands ear k n frame slot j r → IsTrueBy sc hands ear k (suc n) frame slot j r
next-true sc hands ear k n frame slot j Silent h = tt
next-true sc hands ear k n frame slot j (One at m) h = (moved h.0 (earlier-next at h.0.nth k n h.0.earlier), h.1)
next-true sc hands ear k n frame slot j Bad h = h

tick-true : (sc : Scenario) (hands : List HandIn) (ear : Ear) (k n frame slot j : ℕ) (r : Sense) → IsTrueBy sc hands ear k n frame slot j r → IsTrueBy sc hands ear (suc k) 0 frame slot j r
tick-true sc hands ear k n frame slot j Silent h = tt
tick-true sc hands ear k n frame slot j (One at m) h = (moved h.0 (earlier-tick at h.0.nth k n h.0.earlier), h.1)
tick-true sc hands ear k n frame slot j Bad h = h

pub all-next : (sc : Scenario) (hands : List HandIn) (ear : Ear) (k n : ℕ) (lesson : Lesson) → AreTrueBy sc hands ear k n lesson → AreTrueBy sc hands ear k (suc n) lesson
all-next sc hands ear k n lesson h j below good slot = next-true sc hands ear k n lesson.frame slot j (record_of lesson.records slot j) (h j below good slot)

pub all-tick : (sc : Scenario) (hands : List HandIn) (ear : Ear) (k n : ℕ) (lesson : Lesson) → AreTrueBy sc hands ear k n lesson → AreTrueBy sc hands ear (suc k) 0 lesson
all-tick sc hands ear k n lesson h j below good slot = tick-true sc hands ear k n lesson.frame slot j (record_of lesson.records slot j) (h j below good slot)

-- A lesson that starts has nothing.

pub begun-true : (sc : Scenario) (hands : List HandIn) (ear : Ear) (k n : ℕ) (lesson : Lesson) → lesson.records ≡ nothing_recorded → AreTrueBy sc hands ear k n lesson
begun-true sc hands ear k n lesson none j below good slot =
    subst (IsTrueBy sc hands ear k n lesson.frame slot j) (sym (ap (λ (r : List Sense). record_of r slot j) none ∙ nothing-there slot j)) tt

-- A message more.

-- message `n` of stamp `k` is from a good RMU, and reads as `m`
pub record IsNext (sc : Scenario) (hands : List HandIn) (ear : Ear) (k n j : ℕ) (m : Message) : Type 0 where
  pub coming : Coming
  pub there : slice_get (ear.heard k) n ≡ Some coming
  pub in_time : k < ear.ticks
  pub from : coming.from ≡ j
  pub good : IsOfGood sc hands ear coming
  pub reads : message_in sc.plan.version coming.bytes ≡ Some m

pub reads-sent : {sc hands : _} → IsLawful sc → {ear c : _} (good : IsOfGood sc hands ear c) {m : _}
    → message_in sc.plan.version c.bytes ≡ Some m → good.sending.message ≡ m
reads-sent {sc} law good {m} reads =
    same_Some good.sending.message m
    (sym (read_back sc.plan.version good.sending.message (in-place law good.sent).fits)
    ∙ ap (λ (x : Coming). message_in sc.plan.version x.bytes) (sym good.is) ∙ reads)

pub three : (a b c : Bool) → (a && b && c) ≡ true → (a ≡ true) × (c ≡ true)
three true true c h = (refl, h)
three true false c h = cc
three false b c h = cc

pub placed : (sc : Scenario) (frame : ℕ) (m : Message) → has_place sc.sizes frame m ≡ true → IsOfPlace sc frame m.slot m
placed sc frame m h =
    let parts = three (m.frame == frame) (nat_le m.slot (sync_slot_of sc.sizes)) (m.stage == stage_recorded (role_of sc.sizes m.slot)) h in
    record { frame_is = eqb-true m.frame frame parts.0; slot_is = refl; stage_is = eqb-true m.stage (stage_recorded (role_of sc.sizes m.slot)) parts.1 }

-- a message of a place does not come a second time
no-second : {sc hands : _} → IsLawful sc → {ear : _} → IsEar sc ear → HearsTheRun sc hands ear → {k n frame slot j at old m : _}
    → CameBefore sc hands ear k n j at old → IsOfPlace sc frame slot old → IsNext sc hands ear k n j m → IsOfPlace sc frame slot m → ⊥
no-second law {ear} is run {k} {n} {at} {m} before place next here = by before.earlier
  where
    sent : next.good.sending.message ≡ m
    sent = reads-sent law next.good next.reads

    same : before.coming ≡ next.coming
    same =
        same-coming law before.good next.good (before.from ∙ sym next.from)
        (ap (λ x. x.frame) before.is ∙ place.frame_is ∙ sym here.frame_is ∙ ap (λ x. x.frame) (sym sent))
        (ap (λ x. x.slot) before.is ∙ place.slot_is ∙ sym here.slot_is ∙ ap (λ x. x.slot) (sym sent))
        (ap (λ x. x.stage) before.is ∙ place.stage_is ∙ sym here.stage_is ∙ ap (λ x. x.stage) (sym sent))

    there : slice_get (ear.heard at) before.nth ≡ Some next.coming
    there = before.there ∙ ap (λ c. Some c) same

    stamps : at ≡ k
    stamps =
        one_stamp ear.clock next.coming.time at k (is.stamps at next.coming before.in_time (record { nth = before.nth; there = there }))
        (is.stamps k next.coming next.in_time (record { nth = n; there = next.there }))

    by : IsEarlier at before.nth k n → ⊥
    by (inl less) = absurd (omega (arith, stamps, less))
    by (inr before_it) =
        let at_k : slice_get (ear.heard k) before.nth ≡ Some next.coming = subst (λ t. slice_get (ear.heard t) before.nth ≡ Some next.coming) stamps there in
        let once : before.nth ≡ n = run.once k before.nth n next.coming next.in_time next.good at_k next.there in absurd (omega (arith, once, before_it.1))

came : {sc hands : _} → IsLawful sc → {ear k n j m : _} → IsNext sc hands ear k n j m → CameBefore sc hands ear k (suc n) j k m
came law {n} next = record {
  coming = next.coming;
  nth = n;
  there = next.there;
  in_time = next.in_time;
  from = next.from;
  good = next.good;
  is = reads-sent law next.good next.reads;
  earlier = inr (refl, omega arith);
}

suited : {sc hands : _} → IsLawful sc → {ear k n j m : _} → IsNext sc hands ear k n j m → tag_suits (m.slot == sync_slot_of sc.sizes) m.tag ≡ true
suited {sc} law next =
    subst (λ x. tag_suits (x.slot == sync_slot_of sc.sizes) x.tag ≡ true) (reads-sent law next.good next.reads)
    (in-place law next.good.sent).suits

one-more : {sc hands : _} → IsLawful sc → {ear : _} → IsEar sc ear → HearsTheRun sc hands ear → {k n frame j m : _} → IsNext sc hands ear k n j m
    → IsOfPlace sc frame m.slot m → (old : Sense) → IsTrueBy sc hands ear k n frame m.slot j old
    → IsTrueBy sc hands ear k (suc n) frame m.slot j (with_message (m.slot == sync_slot_of sc.sizes) k m old)
one-more {sc} {hands} law {ear} is run {k} {n} {frame} {j} {m} next here Silent h =
    subst (λ b. IsTrueBy sc hands ear k (suc n) frame m.slot j (if b then One k m else Bad)) (sym (suited law next)) (came law next, here)
one-more law is run next here (One at old) h =
    absurd (no-second law is run h.0 h.1 next here)
one-more law is run next here Bad h = absurd h

pub same-place : (slot j other i : ℕ) → j < 16 → i < 16 → 16 * slot + j ≡ 16 * other + i → (slot ≡ other) × (j ≡ i)
same-place slot j other i a b e = (omega (arith, a, b, e), omega (arith, a, b, e))

recorded-true : {sc hands : _} → IsLawful sc → {ear : _} → IsEar sc ear → HearsTheRun sc hands ear → {k n : ℕ} (j : ℕ) (m : Message) (lesson : Lesson) → j < 16
    → (is_always_good sc hands j ≡ true → IsNext sc hands ear k n j m) → has_place sc.sizes lesson.frame m ≡ true → AreTrueBy sc hands ear k n lesson
    → AreTrueBy sc hands ear k (suc n) (record lesson { records = with_record sc.sizes j k m lesson.records })
recorded-true {sc} {hands} law {ear} is run {k} {n} j m lesson below next place h i below_i good slot =
    elim (set-either lesson.records (place_of m.slot j) (place_of slot i) new) [
      | inl both ↦ here both.1 (same-place slot i m.slot j below_i below both.0).0 (same-place slot i m.slot j below_i below both.0).1
      | inr same ↦
          subst (IsTrueBy sc hands ear k (suc n) lesson.frame slot i) (sym same)
          (next-true sc hands ear k n lesson.frame slot i (record_of lesson.records slot i) (h i below_i good slot))
    ]
  where
    new : Sense
    new = with_message (m.slot == sync_slot_of sc.sizes) k m (record_of lesson.records m.slot j)

    here : get_or (slice_set lesson.records (place_of m.slot j) new) (place_of slot i) Silent ≡ new → slot ≡ m.slot → i ≡ j
        → IsTrueBy sc hands ear k (suc n) lesson.frame slot i (get_or (slice_set lesson.records (place_of m.slot j) new) (place_of slot i) Silent)
    here is_new slots nodes =
        let mine : is_always_good sc hands j ≡ true = subst (λ x. is_always_good sc hands x ≡ true) nodes good in
        let true_one : IsTrueBy sc hands ear k (suc n) lesson.frame m.slot j new =
        one-more law is run (next mine) (placed sc lesson.frame m place) (record_of lesson.records m.slot j) (h j below mine m.slot) in
        subst (IsTrueBy sc hands ear k (suc n) lesson.frame slot i) (sym is_new)
        (subst (λ x. IsTrueBy sc hands ear k (suc n) lesson.frame x i new) (sym slots)
        (subst (λ x. IsTrueBy sc hands ear k (suc n) lesson.frame m.slot x new) (sym nodes) true_one))

pub noted-true : {sc hands : _} → IsLawful sc → {ear : _} → IsEar sc ear → HearsTheRun sc hands ear → {k n : ℕ} (j : ℕ) (m : Message) (lesson : Lesson) → j < 16
    → (is_always_good sc hands j ≡ true → IsNext sc hands ear k n j m) → AreTrueBy sc hands ear k n lesson → AreTrueBy sc hands ear k (suc n) (noted sc.sizes j k m lesson)
noted-true {sc} {hands} law {ear} is run {k} {n} j m lesson below next h = by (has_place sc.sizes lesson.frame m) refl
  where
    by : (b : Bool) → has_place sc.sizes lesson.frame m ≡ b
        → AreTrueBy sc hands ear k (suc n) (if b then record lesson { records = with_record sc.sizes j k m lesson.records } else lesson)
    by true e = recorded-true law is run j m lesson below next e h
    by false e = all-next sc hands ear k n lesson h
