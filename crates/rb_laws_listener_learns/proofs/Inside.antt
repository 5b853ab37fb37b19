-- Nothing is recorded of RMUs that there are not.
use Rattle.std.proofs.{Common.{◌≡◌, ℕ, suc, ◌+◌, ◌^◌, ◌<◌, ◌≤◌, ◌==◌, ◌&&◌, nat_lt, Bool, true, false, Option, Some, None, is_some, if◌then◌else◌, inl, inr, refl, ◌∙◌, arith}, lemmas.Bool.ltb-true}
use Rattle.rb_base.specs.Sizes.{IsShape, Sizes, sync_slot_of}
use Rattle.rb_rules.specs.{declared.message.Message.Message, declared.sense.Sense.TheVariants.Silent, Goodness.Scenario, Hearing.Coming, Spelling.message_in}
use Rattle.rb_listen.specs.{Lessons.{frame_after, has_place, noted, place_of, record_of, with_message, with_record}, Listening.{first_search, if_message, if_pass, later, learning, newest_with, passing, recorded, searching, timed, with_pass}, Listening.with_message as hearing_of, Passes.{is_call, pass_of, reach_of}, declared.lesson.Lesson.Lesson, declared.search.Search.Search}
use Rattle.rb_laws_listener_learns.specs.Ears.{Ear, IsEar}
use Rattle.rb_laws_listener_learns.proofs.{Latest.not-yet, Recorded.{nothing-there, same-place, set-either}, Walks.IsKept}

abbrev pub AreNone : Sizes → Lesson → Type 0
AreNone sizes lesson = (j : ℕ) → sizes.rmus ≤ j → j < 16 → (slot : ℕ) → record_of lesson.records slot j ≡ Silent

pub record IsInside (sc : Scenario) (k n : ℕ) (s : Search) : Type 0 where
  pub had : s.had ≡ k
  pub none : AreNone sc.sizes s.lesson

begun-none : (sizes : Sizes) (frame : ℕ) (s : Search) → AreNone sizes (learning frame s).lesson
begun-none sizes frame s j out below slot = nothing-there slot j

first-inside : (sc : Scenario) → IsInside sc 0 0 first_search
unfolding first_search
first-inside sc = record { had = refl; none = λ j out below slot. nothing-there slot j }

noted-none : (sizes : Sizes) (j at : ℕ) (m : Message) (lesson : Lesson) → j < sizes.rmus → sizes.rmus ≤ 16 → AreNone sizes lesson → AreNone sizes (noted sizes j at m lesson)
noted-none sizes j at m lesson within few h = by (has_place sizes lesson.frame m)
  where
    placed : AreNone sizes (record lesson { records = with_record sizes j at m lesson.records })
    placed i out below slot =
        elim (set-either lesson.records (place_of m.slot j) (place_of slot i) (with_message (m.slot == sync_slot_of sizes) at m (record_of lesson.records m.slot j))) [
          | inl both ↦ absurd (omega (arith, within, few, out, (same-place slot i m.slot j below (omega (arith, within, few)) both.0).1))
          | inr same ↦ same ∙ h i out below slot
        ]

    by : (b : Bool) → AreNone sizes (if b then record lesson { records = with_record sizes j at m lesson.records } else lesson)
    by true = placed
    by false = h

timed-none : (sizes : Sizes) (tick : ℕ) (lesson : Lesson) → AreNone sizes lesson → AreNone sizes (timed tick lesson)
timed-none sizes tick lesson h = by (is_some lesson.decides)
  where
    by : (b : Bool) → AreNone sizes (elim b as (λ _. Lesson) [ true ↦ lesson | false ↦ record lesson { decides = Some tick } ])
    by true = h
    by false = h

pass-inside : {sc k n : _} (frame : ℕ) {s : _} → IsInside sc k n s → IsInside sc k n (with_pass sc.plan frame s)
pass-inside {sc} {k} {n} frame {s} h = by (s.learns && (frame == s.lesson.frame)) (s.learns && (frame_after frame == s.lesson.frame))
  where
    by : (a b : Bool)
        → IsInside sc k n (elim a as (λ _. Search) [
          | true ↦ record s { lesson = timed (s.had + reach_of sc.plan) s.lesson }
          | false ↦ elim b as (λ _. Search) [ true ↦ s | false ↦ learning (frame_after frame) s ]
        ])
    by true b = record { had = h.had; none = timed-none sc.sizes (s.had + reach_of sc.plan) s.lesson h.none }
    by false true = h
    by false false = record { had = h.had; none = begun-none sc.sizes (frame_after frame) s }

may-pass-inside : {sc k n : _} (o : Option ℕ) {s : _} → IsInside sc k n s → IsInside sc k n (if_pass sc.plan o s)
may-pass-inside None h = h
may-pass-inside (Some frame) h = pass-inside frame h

recorded-inside : {sc : Scenario} {k n : ℕ} (j : ℕ) (m : Message) {s : Search} → j < sc.sizes.rmus → sc.sizes.rmus ≤ 16 → IsInside sc k n s → IsInside sc k n (recorded sc.sizes j m s)
recorded-inside {sc} {k} {n} j m {s} within few h = by s.learns
  where
    by : (b : Bool) → IsInside sc k n (elim b as (λ _. Search) [ true ↦ record s { lesson = noted sc.sizes j s.had m s.lesson } | false ↦ s ])
    by true = record { had = h.had; none = noted-none sc.sizes j s.had m s.lesson within few h.none }
    by false = h

message-inside : {sc : Scenario} {k n : ℕ} (j : ℕ) (o : Option Message) {s : Search} → j < sc.sizes.rmus → sc.sizes.rmus ≤ 16 → IsInside sc k n s
    → IsInside sc k n (if_message sc.sizes sc.plan j o s)
unfolding hearing_of
message-inside j None within few h = h
message-inside {sc} {k} {n} j (Some m) {s} within few h = by (is_call sc.sizes m) (recorded-inside j m within few h)
  where
    by : (b : Bool) → IsInside sc k n (recorded sc.sizes j m s)
        → IsInside sc k n (elim b as (λ _. Search) [ true ↦ passing sc.sizes sc.plan (newest_with j m.frame (recorded sc.sizes j m s)) | false ↦ recorded sc.sizes j m s ])
    by true r =
        may-pass-inside (pass_of sc.sizes sc.plan (newest_with j m.frame (recorded sc.sizes j m s)).newest)
        (record { had = r.had; none = r.none })
    by false r = r

heard-inside : {sc : Scenario} → IsShape sc.sizes → {k n : ℕ} (c : Coming) {s : Search} → IsInside sc k n s → IsInside sc k (suc n) (searching sc.sizes sc.plan c.from c.bytes s)
unfolding searching
heard-inside {sc} shape {k} {n} c {s} h = by (nat_lt c.from sc.sizes.rmus) refl (nat_lt s.had (2 ^ 31))
  where
    by : (a : Bool) → nat_lt c.from sc.sizes.rmus ≡ a → (b : Bool)
        → IsInside sc k (suc n) (elim (a && b) as (λ _. Search) [ true ↦ if_message sc.sizes sc.plan c.from (message_in sc.plan.version c.bytes) s | false ↦ s ])
    by true e true =
        let x : IsInside sc k n (if_message sc.sizes sc.plan c.from (message_in sc.plan.version c.bytes) s) =
        message-inside c.from (message_in sc.plan.version c.bytes) (ltb-true c.from sc.sizes.rmus e) shape.most_rmus h in
        record { had = x.had; none = x.none }
    by true e false = record { had = h.had; none = h.none }
    by false e b = record { had = h.had; none = h.none }

pub kept-inside : {sc : Scenario} → IsShape sc.sizes → {ear : Ear} → IsEar sc ear → IsKept sc ear (IsInside sc)
kept-inside {sc} shape is = record {
  first = first-inside sc;
  heard = λ k n c in_time there s h. heard-inside shape c h;
  decided = λ k n s in_time whole h deciding. record { had = omega (arith, h.had); none = begun-none sc.sizes (frame_after s.lesson.frame) (later s) };
  later = λ k n s in_time whole h going. record { had = omega (arith, h.had); none = h.none };
  lasts = λ k n s in_time h. not-yet is in_time h.had;
}
