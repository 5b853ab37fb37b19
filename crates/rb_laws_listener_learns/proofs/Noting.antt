-- What a lesson has recorded of each RMU in a slot is what came of it since the lesson began.
use Rattle.std.proofs.{Common.{◌≡◌, ◌⊎◌, ℕ, zero, suc, ◌+◌, ◌*◌, ◌<◌, ◌≤◌, ◌==◌, Bool, true, false, Some, None, List, [], ◌∷◌, length, get_or, slice_get, slice_set, if◌then◌else◌, inl, inr, refl, sym, ◌∙◌, ap, subst, arith}, lemmas.Option.same_Some}
use Rattle.rb_base.specs.Sizes.{IsShape, Sizes, sync_slot_of}
use Rattle.rb_rules.specs.{declared.message.Message.Message, declared.sense.Sense.Sense, declared.sense.Sense.TheVariants.{Silent, One, Bad}, Goodness.Scenario, Hearing.Coming, Sense.tag_suits, Spelling.message_in}
use Rattle.rb_listen.specs.{Lessons.{has_place, noted, nothing_recorded, place_of, record_of, with_message, with_record}, declared.lesson.Lesson.Lesson}
use Rattle.rb_listen.proofs.Passing.{in-a-slot}
use Rattle.rb_laws_listener_learns.specs.Ears.{Ear}
use Rattle.rb_laws_listener_learns.proofs.{Latest.{earlier-by, earlier-split, whole-earlier}, Recorded.{IsEarlier, nothing-there, same-place}}

-- message `i` of stamp `at` is from RMU `j`, and has a place in this slot of the lesson on a frame
pub record IsPlacedAt (sc : Scenario) (ear : Ear) (frame slot j at i : ℕ) (m : Message) : Type 0 where
  pub coming : Coming
  pub there : slice_get (ear.heard at) i ≡ Some coming
  pub from : coming.from ≡ j
  pub reads : message_in sc.plan.version coming.bytes ≡ Some m
  pub place : has_place sc.sizes frame m ≡ true
  pub slot_is : m.slot ≡ slot

-- message `i` of stamp `at` came after stamp `since` and before message `n` of stamp `k`
abbrev pub IsSince : ℕ → ℕ → ℕ → ℕ → ℕ → Type 0
IsSince since at i k n = (since < at) × IsEarlier at i k n

-- `m` is the only message of its place since tick `since`
pub record IsOnly (sc : Scenario) (ear : Ear) (since k n frame slot j at : ℕ) (m : Message) : Type 0 where
  pub i : ℕ
  pub placed : IsPlacedAt sc ear frame slot j at i m
  pub earlier : IsEarlier at i k n
  pub suits : tag_suits (m.slot == sync_slot_of sc.sizes) m.tag ≡ true
  pub only : (b o : ℕ) (x : Message) → IsSince since b o k n → IsPlacedAt sc ear frame slot j b o x → (b ≡ at) × (o ≡ i)

-- message `m` has a tag that does not suit, or another message of its place came before it
abbrev pub IsSpoiltBy : Scenario → Ear → ℕ → ℕ → ℕ → ℕ → ℕ → Message → Type 0
IsSpoiltBy sc ear frame slot j at i m =
    (tag_suits (m.slot == sync_slot_of sc.sizes) m.tag ≡ false)
    ⊎ ((b : ℕ) × ((o : ℕ) × ((x : Message) × (IsPlacedAt sc ear frame slot j b o x × IsEarlier b o at i))))

pub record IsSpoilt (sc : Scenario) (ear : Ear) (k n frame slot j : ℕ) : Type 0 where
  pub at : ℕ
  pub i : ℕ
  pub message : Message
  pub placed : IsPlacedAt sc ear frame slot j at i message
  pub earlier : IsEarlier at i k n
  pub by : IsSpoiltBy sc ear frame slot j at i message

abbrev pub IsNotedBy : Scenario → Ear → ℕ → ℕ → ℕ → ℕ → ℕ → ℕ → Sense → Type 0
IsNotedBy sc ear since k n frame slot j Silent = (at i : ℕ) (m : Message) → IsSince since at i k n → IsPlacedAt sc ear frame slot j at i m → ⊥
IsNotedBy sc ear since k n frame slot j (One at m) = IsOnly sc ear since k n frame slot j at m
IsNotedBy sc ear since k n frame slot j Bad = IsSpoilt sc ear k n frame slot j

abbrev pub AreNotedBy : Scenario → Ear → ℕ → ℕ → ℕ → Lesson → Type 0
AreNotedBy sc ear since k n lesson = (j : ℕ) → j < sc.sizes.rmus → (slot : ℕ) → slot ≤ sync_slot_of sc.sizes → IsNotedBy sc ear since k n lesson.frame slot j (record_of lesson.records slot j)

-- A lesson that starts has nothing.

pub begun-noted : (sc : Scenario) (ear : Ear) (since k n : ℕ) (lesson : Lesson) → lesson.records ≡ nothing_recorded → ((at i : ℕ) → IsEarlier at i k n → at ≤ since)
    → AreNotedBy sc ear since k n lesson
begun-noted sc ear since k n lesson none before j below slot few =
    subst (IsNotedBy sc ear since k n lesson.frame slot j) (sym (ap (λ (r : List Sense). record_of r slot j) none ∙ nothing-there slot j))
    (λ at i m span placed. omega (arith, span.0, before at i span.1))

-- A lesson goes on.

-- what is noted stays right if the places that are earlier now were so before
pub on-noted : {sc ear : _} (since : ℕ) {k n : ℕ} (l o : ℕ) {frame slot j : ℕ} → ((at i : ℕ) → IsEarlier at i k n → IsEarlier at i l o)
    → ((at i : ℕ) (m : Message) → IsPlacedAt sc ear frame slot j at i m → IsEarlier at i l o → IsEarlier at i k n) → (r : Sense) → IsNotedBy sc ear since k n frame slot j r
    → IsNotedBy sc ear since l o frame slot j r
on-noted since l o onward back Silent h = λ at i m span placed. h at i m (span.0, back at i m placed span.1) placed
on-noted since l o onward back (One at m) h = record {
  i = h.i;
  placed = h.placed;
  earlier = onward at h.i h.earlier;
  suits = h.suits;
  only = λ b p x span placed. h.only b p x (span.0, back b p x placed span.1) placed;
}
on-noted since l o onward back Bad h =
    record { at = h.at; i = h.i; message = h.message; placed = h.placed; earlier = onward h.at h.i h.earlier; by = h.by }

step-earlier : {k n : ℕ} (at i : ℕ) → IsEarlier at i k n → IsEarlier at i k (suc n)
step-earlier at i (inl less) = inl less
step-earlier at i (inr same) = inr (same.0, omega (arith, same.1))

tick-earlier : {k n : ℕ} (at i : ℕ) → IsEarlier at i k n → IsEarlier at i (suc k) 0
tick-earlier at i (inl less) = inl (omega (arith, less))
tick-earlier at i (inr same) = inl (omega (arith, same.0))

pub tick-noted : (sc : Scenario) (ear : Ear) (since k n : ℕ) (lesson : Lesson) → slice_get (ear.heard k) n ≡ None → AreNotedBy sc ear since k n lesson
    → AreNotedBy sc ear since (suc k) 0 lesson
tick-noted sc ear since k n lesson whole h j below slot few =
    on-noted since (suc k) 0 tick-earlier
    (λ at i m placed before. whole-earlier ear at i k n placed.there whole (earlier-by at i k before)) (record_of lesson.records slot j) (h j below slot few)

-- a message without a place in the slot keeps `IsNotedBy`
other-noted : {sc ear : _} (since : ℕ) {k n frame slot j : ℕ} → ((m : Message) → IsPlacedAt sc ear frame slot j k n m → ⊥) → (r : Sense)
    → IsNotedBy sc ear since k n frame slot j r → IsNotedBy sc ear since k (suc n) frame slot j r
other-noted {sc} {ear} since {k} {n} {frame} {slot} {j} none =
    on-noted since k (suc n) step-earlier
    (λ at i m placed before. elim (earlier-split at i k n before) [
      | inl earlier ↦ earlier
      | inr here ↦
          absurd (none m (subst (λ x. IsPlacedAt sc ear frame slot j k x m) here.1 (subst (λ x. IsPlacedAt sc ear frame slot j x i m) here.0 placed)))
    ])

pub none-noted : {sc : Scenario} {ear : Ear} (since : ℕ) {k n : ℕ} (lesson : Lesson) → ((slot j : ℕ) (m : Message) → j < sc.sizes.rmus → IsPlacedAt sc ear lesson.frame slot j k n m → ⊥)
    → AreNotedBy sc ear since k n lesson → AreNotedBy sc ear since k (suc n) lesson
none-noted since lesson none h j below slot few =
    other-noted since (λ m placed. none slot j m below placed) (record_of lesson.records slot j) (h j below slot few)

-- A message more.

more-noted : {sc ear : _} (since : ℕ) {k n frame slot j m : _} → IsPlacedAt sc ear frame slot j k n m → (r : Sense) → IsNotedBy sc ear since k n frame slot j r
    → IsNotedBy sc ear since k (suc n) frame slot j (with_message (m.slot == sync_slot_of sc.sizes) k m r)
more-noted {sc} {ear} since {k} {n} {frame} {slot} {j} {m} placed Silent h = by (tag_suits (m.slot == sync_slot_of sc.sizes) m.tag) refl
  where
    by : (b : Bool) → tag_suits (m.slot == sync_slot_of sc.sizes) m.tag ≡ b → IsNotedBy sc ear since k (suc n) frame slot j (if b then One k m else Bad)
    by true e = record {
      i = n;
      placed = placed;
      earlier = inr (refl, omega arith);
      suits = e;
      only = λ b o x span there.
          elim (earlier-split b o k n span.1) [ inl earlier ↦ absurd (h b o x (span.0, earlier) there) | inr here ↦ here ];
    }
    by false e = record { at = k; i = n; message = m; placed = placed; earlier = inr (refl, omega arith); by = inl e }
more-noted since {k} {n} {m} placed (One at old) h =
    record { at = k; i = n; message = m; placed = placed; earlier = inr (refl, omega arith); by = inr (at, (h.i, (old, (h.placed, h.earlier)))) }
more-noted since placed Bad h =
    record { at = h.at; i = h.i; message = h.message; placed = h.placed; earlier = step-earlier h.at h.i h.earlier; by = h.by }

-- after item `p` is set, item `q` is the new one, or another one and as before
set-either-apart : (xs : List Sense) (p q : ℕ) (x : Sense) → p < length xs
    → ((q ≡ p) × (get_or (slice_set xs p x) q Silent ≡ x)) ⊎ ((q ≡ p → ⊥) × (get_or (slice_set xs p x) q Silent ≡ get_or xs q Silent))
set-either-apart [] p q x within = absurd (omega (arith, within))
set-either-apart (y ∷ ys) zero zero x within = inl (refl, refl)
set-either-apart (y ∷ ys) zero (suc q) x within = inr ((λ e. omega (arith, e)), refl)
set-either-apart (y ∷ ys) (suc p) zero x within = inr ((λ e. omega (arith, e)), refl)
set-either-apart (y ∷ ys) (suc p) (suc q) x within =
    elim (set-either-apart ys p q x (omega (arith, within))) [ inl both ↦ inl (ap suc both.0, both.1) | inr same ↦ inr ((λ e. same.0 (omega (arith, e))), same.1) ]

-- the records of the lesson have room for all places
abbrev pub HasRoom : Sizes → Lesson → Type 0
HasRoom sizes lesson = 16 * sync_slot_of sizes + 16 ≤ length lesson.records

recorded-noted : (sc : Scenario) (ear : Ear) (since k n : ℕ) {from m : _} (lesson : Lesson) → IsShape sc.sizes → from < sc.sizes.rmus → has_place sc.sizes lesson.frame m ≡ true → HasRoom sc.sizes lesson
    → {coming : _} → slice_get (ear.heard k) n ≡ Some coming → coming.from ≡ from → message_in sc.plan.version coming.bytes ≡ Some m
    → AreNotedBy sc ear since k n lesson → AreNotedBy sc ear since k (suc n) (record lesson { records = with_record sc.sizes from k m lesson.records })
recorded-noted sc ear since k n {from} {m} lesson shape below place room {coming} there is_from reads h j below_j slot within =
    elim (set-either-apart lesson.records (place_of m.slot from) (place_of slot j) new in_list) [
      | inl both ↦ here both.1 (same-place slot j m.slot from (few j below_j) (few from below) both.0).0 (same-place slot j m.slot from (few j below_j) (few from below) both.0).1
      | inr same ↦
          subst (IsNotedBy sc ear since k (suc n) lesson.frame slot j) (sym same.1)
          (other-noted since (λ x placed. same.0 (elsewhere x placed)) (record_of lesson.records slot j) (h j below_j slot within))
    ]
  where
    few : (i : ℕ) → i < sc.sizes.rmus → i < 16
    few i less = omega (arith, less, shape.most_rmus)

    new : Sense
    new = with_message (m.slot == sync_slot_of sc.sizes) k m (record_of lesson.records m.slot from)

    slots : m.slot ≤ sync_slot_of sc.sizes
    slots = in-a-slot sc.sizes lesson.frame m place

    in_list : place_of m.slot from < length lesson.records
    in_list = omega (arith, slots, few from below, room)

    elsewhere : (x : Message) → IsPlacedAt sc ear lesson.frame slot j k n x → place_of slot j ≡ place_of m.slot from
    elsewhere x placed =
        let same : placed.coming ≡ coming = same_Some placed.coming coming (sym placed.there ∙ there) in
        let nodes : j ≡ from = sym placed.from ∙ ap (λ (c : Coming). c.from) same ∙ is_from in
        let read : x ≡ m = same_Some x m (sym placed.reads ∙ ap (λ (c : Coming). message_in sc.plan.version c.bytes) same ∙ reads) in
        ap (λ t. place_of t j) (sym placed.slot_is ∙ ap (λ (y : Message). y.slot) read) ∙ ap (place_of m.slot) nodes

    here : get_or (slice_set lesson.records (place_of m.slot from) new) (place_of slot j) Silent ≡ new → slot ≡ m.slot → j ≡ from
        → IsNotedBy sc ear since k (suc n) lesson.frame slot j (get_or (slice_set lesson.records (place_of m.slot from) new) (place_of slot j) Silent)
    here is_new same nodes =
        let placed : IsPlacedAt sc ear lesson.frame m.slot from k n m = record { coming = coming; there = there; from = is_from; reads = reads; place = place; slot_is = refl } in
        let noted_one : IsNotedBy sc ear since k (suc n) lesson.frame m.slot from new =
        more-noted since placed (record_of lesson.records m.slot from) (h from below m.slot slots) in
        subst (IsNotedBy sc ear since k (suc n) lesson.frame slot j) (sym is_new)
        (subst (λ x. IsNotedBy sc ear since k (suc n) lesson.frame x j new) (sym same) (subst (λ x. IsNotedBy sc ear since k (suc n) lesson.frame m.slot x new) (sym nodes) noted_one))

pub noted-noted : (sc : Scenario) (ear : Ear) (since k n : ℕ) {from m : _} (lesson : Lesson) → IsShape sc.sizes → from < sc.sizes.rmus → HasRoom sc.sizes lesson
    → {coming : _} → slice_get (ear.heard k) n ≡ Some coming → coming.from ≡ from → message_in sc.plan.version coming.bytes ≡ Some m
    → AreNotedBy sc ear since k n lesson → AreNotedBy sc ear since k (suc n) (noted sc.sizes from k m lesson)
noted-noted sc ear since k n {from} {m} lesson shape below room {coming} there is_from reads h = by (has_place sc.sizes lesson.frame m) refl
  where
    by : (b : Bool) → has_place sc.sizes lesson.frame m ≡ b
        → AreNotedBy sc ear since k (suc n) (if b then record lesson { records = with_record sc.sizes from k m lesson.records } else lesson)
    by true e = recorded-noted sc ear since k n lesson shape below e room there is_from reads h
    by false e =
        none-noted since lesson
        (λ slot j x within placed.
        let same : placed.coming ≡ coming = same_Some placed.coming coming (sym placed.there ∙ there) in
        let read : x ≡ m = same_Some x m (sym placed.reads ∙ ap (λ (c : Coming). message_in sc.plan.version c.bytes) same ∙ reads) in
        let both : true ≡ false = sym placed.place ∙ ap (has_place sc.sizes lesson.frame) read ∙ e in cc) h
