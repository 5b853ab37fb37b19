-- What a message makes of a search, case by case.
use Rattle.std.proofs.{Common.{◌≡◌, ℕ, ◌+◌, ◌^◌, ◌<◌, ◌==◌, ◌&&◌, nat_lt, Bool, true, false, Option, Some, None, List, if◌then◌else◌, refl, sym, ◌∙◌}, lemmas.Bool.{eqb-true, lt-ltb, ltb-true}}
use Rattle.rb_base.specs.Sizes.{Sizes}
use Rattle.rb_base.proofs.Plain.{and_first, and_second}
use Rattle.rb_rules.specs.{declared.message.Message.Message, declared.plan.Plan.Plan, Spelling.message_in}
use Rattle.rb_listen.specs.{Lessons.{frame_after, has_place, with_record}, Listening.{if_message, if_pass, learning, newest_with, passing, recorded, searching, timed, with_message, with_pass}, Passes.{is_call, pass_of, reach_of}, declared.search.Search.Search}

-- A pass.

pub record PassCases (plan : Plan) (frame : ℕ) (s : Search) (Q : Search → Type 0) : Type 0 where
  pub fixes : s.learns ≡ true → frame ≡ s.lesson.frame → Q (record s { lesson = timed (s.had + reach_of plan) s.lesson })
  pub stays : s.learns ≡ true → frame_after frame ≡ s.lesson.frame → Q s
  pub begins : (s.learns && (frame == s.lesson.frame)) ≡ false → (s.learns && (frame_after frame == s.lesson.frame)) ≡ false → Q (learning (frame_after frame) s)

pub pass-by : (plan : Plan) (frame : ℕ) (s : Search) (Q : Search → Type 0) → PassCases plan frame s Q → Q (with_pass plan frame s)
pass-by plan frame s Q cases = by (s.learns && (frame == s.lesson.frame)) refl (s.learns && (frame_after frame == s.lesson.frame)) refl
  where
    by : (a : Bool) → (s.learns && (frame == s.lesson.frame)) ≡ a → (b : Bool) → (s.learns && (frame_after frame == s.lesson.frame)) ≡ b
        → Q (elim a as (λ _. Search) [
          | true ↦ record s { lesson = timed (s.had + reach_of plan) s.lesson }
          | false ↦ elim b as (λ _. Search) [ true ↦ s | false ↦ learning (frame_after frame) s ]
        ])
    by true e b f = cases.fixes (and_first s.learns (frame == s.lesson.frame) e) (eqb-true frame s.lesson.frame (and_second s.learns (frame == s.lesson.frame) e))
    by false e true f =
        cases.stays (and_first s.learns (frame_after frame == s.lesson.frame) f)
        (eqb-true (frame_after frame) s.lesson.frame (and_second s.learns (frame_after frame == s.lesson.frame) f))
    by false e false f = cases.begins e f

-- What stays.

-- the two searches differ in their records alone
pub record RecordsOnly (a b : Search) : Type 0 where
  pub had : b.had ≡ a.had
  pub newest : b.newest ≡ a.newest
  pub learns : b.learns ≡ a.learns
  pub frame : b.lesson.frame ≡ a.lesson.frame
  pub decides : b.lesson.decides ≡ a.lesson.decides

pub recorded-only : (sizes : Sizes) (j : ℕ) (m : Message) (s : Search) → RecordsOnly s (recorded sizes j m s)
recorded-only sizes j m s = by s.learns refl (has_place sizes s.lesson.frame m)
  where
    noted-only : (b : Bool) → RecordsOnly s (record s { lesson = if b then record s.lesson { records = with_record sizes j s.had m s.lesson.records } else s.lesson })
    noted-only true = record { had = refl; newest = refl; learns = refl; frame = refl; decides = refl }
    noted-only false = record { had = refl; newest = refl; learns = refl; frame = refl; decides = refl }

    by : (a : Bool) → s.learns ≡ a → (b : Bool)
        → RecordsOnly s (elim a as (λ _. Search) [
          | true ↦ record s { lesson = if b then record s.lesson { records = with_record sizes j s.had m s.lesson.records } else s.lesson }
          | false ↦ s
        ])
    by true e b = noted-only b
    by false e b = record { had = refl; newest = refl; learns = refl; frame = refl; decides = refl }

-- a pass changes neither the calls nor the ticks
pub record SameCalls (a b : Search) : Type 0 where
  pub had : b.had ≡ a.had
  pub newest : b.newest ≡ a.newest

pub pass-calls : (plan : Plan) (o : Option ℕ) (s : Search) → SameCalls s (if_pass plan o s)
pass-calls plan None s = record { had = refl; newest = refl }
pass-calls plan (Some frame) s = pass-by plan frame s (SameCalls s) (record {
  fixes = λ learns is. record { had = refl; newest = refl };
  stays = λ learns is. record { had = refl; newest = refl };
  begins = λ a b. record { had = refl; newest = refl };
})

-- A message.

-- the search in which RMU j has called
abbrev pub with_call : Sizes → ℕ → Message → Search → Search
with_call sizes j m s = newest_with j m.frame (recorded sizes j m s)

pub record MessageCases (sizes : Sizes) (plan : Plan) (j : ℕ) (bytes : Option Message) (s : Search) (Q : Search → Type 0) : Type 0 where
  pub nothing : (j < sizes.rmus → (m : Message) → bytes ≡ Some m → ⊥) → Q s
  pub message : j < sizes.rmus → (m : Message) → bytes ≡ Some m → is_call sizes m ≡ false → Q (recorded sizes j m s)
  pub call : j < sizes.rmus → (m : Message) → bytes ≡ Some m → is_call sizes m ≡ true → (o : Option ℕ) → pass_of sizes plan (with_call sizes j m s).newest ≡ o
      → Q (if_pass plan o (with_call sizes j m s))

message-by : {sizes : Sizes} {plan : Plan} {j : ℕ} (o : Option Message) {s : Search} (Q : Search → Type 0) → j < sizes.rmus → MessageCases sizes plan j o s Q → Q (if_message sizes plan j o s)
unfolding with_message
message-by None Q within cases = cases.nothing (λ w m e. let none : None ≡ Some m = e in cc)
message-by {sizes} {plan} {j} (Some m) {s} Q within cases = by (is_call sizes m) refl
  where
    by : (b : Bool) → is_call sizes m ≡ b → Q (elim b as (λ _. Search) [ true ↦ passing sizes plan (newest_with j m.frame (recorded sizes j m s)) | false ↦ recorded sizes j m s ])
    by true e = cases.call within m refl e (pass_of sizes plan (with_call sizes j m s).newest) refl
    by false e = cases.message within m refl e

pub search-by : {sizes : Sizes} {plan : Plan} {j : ℕ} (bytes : List ℕ) {s : Search} (Q : Search → Type 0) → nat_lt s.had (2 ^ 31) ≡ true
    → MessageCases sizes plan j (message_in plan.version bytes) s Q → Q (searching sizes plan j bytes s)
unfolding searching
search-by {sizes} {plan} {j} bytes {s} Q going cases = by (nat_lt j sizes.rmus) refl (nat_lt s.had (2 ^ 31)) going
  where
    by : (a : Bool) → nat_lt j sizes.rmus ≡ a → (b : Bool) → b ≡ true
        → Q (elim (a && b) as (λ _. Search) [ true ↦ if_message sizes plan j (message_in plan.version bytes) s | false ↦ s ])
    by true e true f = message-by (message_in plan.version bytes) Q (ltb-true j sizes.rmus e) cases
    by true e false f = let both : false ≡ true = f in absurd (cc)
    by false e b f = cases.nothing (λ within m is. let both : false ≡ true = sym e ∙ lt-ltb j sizes.rmus within in absurd (cc))
