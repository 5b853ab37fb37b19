-- What a listener has recorded of good RMUs at each tick.
use Rattle.std.proofs.{Common.{◌≡◌, ℕ, suc, ◌+◌, ◌^◌, ◌<◌, ◌==◌, ◌&&◌, nat_lt, Bool, true, false, Option, Some, None, is_some, List, slice_get, inl, inr, refl, sym, subst, arith}, lemmas.Bool.ltb-true, lemmas.Bool.Decides.nat_tests}
use Rattle.rb_rules.specs.{declared.message.Message.Message, declared.sense.Sense.Sense, declared.sense.Sense.TheVariants.{Silent, One, Bad}, Goodness.Scenario, Hearing.Coming, Lawful.IsLawful, Ports.HandIn, Spelling.message_in}
use Rattle.rb_listen.specs.{Lessons.{frame_after, noted, record_of}, Listening.{first_search, if_message, if_pass, is_over, later, learning, newest_with, passing, recorded, searching, timed, with_message, with_pass}, Passes.{is_call, pass_of, reach_of}, declared.lesson.Lesson.Lesson, declared.search.Search.Search}
use Rattle.rb_laws_listener_learns.specs.{Ears.{Ear, HearsTheRun, IsEar, is_always_good, listening_at}, Records.{IsTrueRecord, RecordsAreTrue}}
use Rattle.rb_laws_listener_learns.proofs.{Recorded.{AreTrueBy, IsNext, IsTrueBy, all-next, all-tick, begun-true, noted-true}, Seeks.{always-counts, no-onset}, Walks.{HoldsIn, IsKept, always}}

pub record IsTrue (sc : Scenario) (hands : List HandIn) (ear : Ear) (k n : ℕ) (s : Search) : Type 0 where
  pub had : s.had ≡ k
  pub records : s.learns ≡ true → AreTrueBy sc hands ear k n s.lesson

first-true : (sc : Scenario) (hands : List HandIn) (ear : Ear) → IsTrue sc hands ear 0 0 first_search
unfolding first_search
first-true sc hands ear = record { had = refl; records = λ learns. let e : false ≡ true = learns in cc }

learning-true : (sc : Scenario) (hands : List HandIn) (ear : Ear) {k : ℕ} (n frame : ℕ) (s : Search) → s.had ≡ k → IsTrue sc hands ear k n (learning frame s)
learning-true sc hands ear {k} n frame s had = record { had = had; records = λ learns. begun-true sc hands ear k n (learning frame s).lesson refl }

timed-true : {sc hands ear k n : _} (tick : ℕ) {s : _} → IsTrue sc hands ear k n s → IsTrue sc hands ear k n (record s { lesson = timed tick s.lesson })
timed-true {sc} {hands} {ear} {k} {n} tick {s} h = by (is_some s.lesson.decides)
  where
    by : (b : Bool) → IsTrue sc hands ear k n (record s { lesson = elim b as (λ _. Lesson) [ true ↦ s.lesson | false ↦ record s.lesson { decides = Some tick } ] })
    by true = record { had = h.had; records = h.records }
    by false = record { had = h.had; records = h.records }

pass-true : {sc hands ear k n : _} (frame : ℕ) {s : _} → IsTrue sc hands ear k n s → IsTrue sc hands ear k n (with_pass sc.plan frame s)
pass-true {sc} {hands} {ear} {k} {n} frame {s} h = by (s.learns && (frame == s.lesson.frame)) (s.learns && (frame_after frame == s.lesson.frame))
  where
    by : (a b : Bool)
        → IsTrue sc hands ear k n (elim a as (λ _. Search) [
          | true ↦ record s { lesson = timed (s.had + reach_of sc.plan) s.lesson }
          | false ↦ elim b as (λ _. Search) [ true ↦ s | false ↦ learning (frame_after frame) s ]
        ])
    by true b = timed-true (s.had + reach_of sc.plan) h
    by false true = h
    by false false = learning-true sc hands ear n (frame_after frame) s h.had

may-pass-true : {sc hands ear k n : _} (o : Option ℕ) {s : _} → IsTrue sc hands ear k n s → IsTrue sc hands ear k n (if_pass sc.plan o s)
may-pass-true None h = h
may-pass-true (Some frame) h = pass-true frame h

next-search : {sc hands ear k n s : _} → IsTrue sc hands ear k n s → IsTrue sc hands ear k (suc n) s
next-search {sc} {hands} {ear} {k} {n} {s} h = record { had = h.had; records = λ learns. all-next sc hands ear k n s.lesson (h.records learns) }

recorded-search : {sc hands : _} → IsLawful sc → {ear : _} → IsEar sc ear → HearsTheRun sc hands ear → {k n : ℕ} (j : ℕ) (m : Message) {s : _} → j < 16
    → (is_always_good sc hands j ≡ true → IsNext sc hands ear k n j m) → IsTrue sc hands ear k n s → IsTrue sc hands ear k (suc n) (recorded sc.sizes j m s)
recorded-search {sc} {hands} law {ear} is run {k} {n} j m {s} below next h = by s.learns refl
  where
    by : (b : Bool) → s.learns ≡ b
        → IsTrue sc hands ear k (suc n) (elim b as (λ _. Search) [ true ↦ record s { lesson = noted sc.sizes j s.had m s.lesson } | false ↦ s ])
    by true e = record {
      had = h.had;
      records = λ learns.
          subst (λ t. AreTrueBy sc hands ear k (suc n) (noted sc.sizes j t m s.lesson)) (sym h.had)
          (noted-true law is run j m s.lesson below next (h.records e));
    }
    by false e = next-search h

message-true : {sc hands : _} → IsLawful sc → {ear : _} → IsEar sc ear → HearsTheRun sc hands ear → {k n : ℕ} (j : ℕ) (m : Message) {s : _} → j < 16
    → (is_always_good sc hands j ≡ true → IsNext sc hands ear k n j m) → IsTrue sc hands ear k n s → IsTrue sc hands ear k (suc n) (with_message sc.sizes sc.plan j m s)
unfolding with_message
message-true {sc} {hands} law {ear} is run {k} {n} j m {s} below next h = by (is_call sc.sizes m) (recorded-search law is run j m below next h)
  where
    by : (b : Bool) → IsTrue sc hands ear k (suc n) (recorded sc.sizes j m s)
        → IsTrue sc hands ear k (suc n) (elim b as (λ _. Search) [ true ↦ passing sc.sizes sc.plan (newest_with j m.frame (recorded sc.sizes j m s)) | false ↦ recorded sc.sizes j m s ])
    by true r =
        may-pass-true (pass_of sc.sizes sc.plan (newest_with j m.frame (recorded sc.sizes j m s)).newest)
        (record { had = r.had; records = r.records })
    by false r = r

may-message-true : {sc hands : _} → IsLawful sc → {ear : _} → IsEar sc ear → HearsTheRun sc hands ear → {k n : ℕ} (j : ℕ) (o : Option Message) {s : _} → j < 16
    → ((m : Message) → o ≡ Some m → is_always_good sc hands j ≡ true → IsNext sc hands ear k n j m) → IsTrue sc hands ear k n s
    → IsTrue sc hands ear k (suc n) (if_message sc.sizes sc.plan j o s)
may-message-true law is run j None below next h = next-search h
may-message-true law is run j (Some m) below next h = message-true law is run j m below (next m refl) h

heard-true : {sc hands : _} → IsLawful sc → {ear : _} → IsEar sc ear → HearsTheRun sc hands ear → (k n : ℕ) (c : Coming) → k < ear.ticks
    → slice_get (ear.heard k) n ≡ Some c → (s : Search) → IsTrue sc hands ear k n s → IsTrue sc hands ear k (suc n) (searching sc.sizes sc.plan c.from c.bytes s)
unfolding searching
heard-true {sc} {hands} law {ear} is run k n c in_time there s h = by (nat_lt c.from sc.sizes.rmus) refl (nat_lt s.had (2 ^ 31))
  where
    next : c.from < sc.sizes.rmus → (m : Message) → message_in sc.plan.version c.bytes ≡ Some m → is_always_good sc hands c.from ≡ true → IsNext sc hands ear k n c.from m
    next within m reads good =
        elim (run.only k c in_time (record { nth = n; there = there }) within) [
          | inl of_good ↦ record { coming = c; there = there; in_time = in_time; from = refl; good = of_good; reads = reads }
          | inr faulty ↦ absurd (no-onset good faulty)
        ]

    by : (a : Bool) → nat_lt c.from sc.sizes.rmus ≡ a → (b : Bool)
        → IsTrue sc hands ear k (suc n) (elim (a && b) as (λ _. Search) [ true ↦ if_message sc.sizes sc.plan c.from (message_in sc.plan.version c.bytes) s | false ↦ s ])
    by true e true =
        let within : c.from < sc.sizes.rmus = ltb-true c.from sc.sizes.rmus e in
        may-message-true law is run c.from (message_in sc.plan.version c.bytes) (omega (arith, within, law.sizes.most_rmus)) (next within) h
    by true e false = next-search h
    by false e b = next-search h

kept : {sc hands : _} → IsLawful sc → {ear : _} → IsEar sc ear → HearsTheRun sc hands ear → IsKept sc ear (IsTrue sc hands ear)
kept {sc} {hands} law {ear} is run = record {
  first = first-true sc hands ear;
  heard = heard-true law is run;
  decided = λ k n s in_time whole h deciding. learning-true sc hands ear 0 (frame_after s.lesson.frame) (later s) (omega (arith, h.had));
  later = λ k n s in_time whole h not_deciding. record {
    had = omega (arith, h.had);
    records = λ learns. all-tick sc hands ear k n s.lesson (h.records learns);
  };
  lasts = λ k n s in_time h. not-yet s.had (omega (arith, in_time, is.ticks, h.had));
}
  where
    not-yet : (had : ℕ) → had < 2 ^ 31 → is_over had ≡ false
    not-yet had below = grind (arith, nat_tests, below)

heard-one : (sc : Scenario) (hands : List HandIn) (ear : Ear) (k n frame slot j : ℕ) (r : Sense) → IsTrueBy sc hands ear k n frame slot j r → IsTrueRecord sc hands ear frame slot j r
heard-one sc hands ear k n frame slot j Silent h = tt
heard-one sc hands ear k n frame slot j (One at m) h =
    (record { coming = h.0.coming; heard = record { nth = h.0.nth; there = h.0.there }; from = h.0.from; good = h.0.good; is = h.0.is }, h.1)
heard-one sc hands ear k n frame slot j Bad h = h

pub records-true : (sc : Scenario) (hands : List HandIn) → IsLawful sc → (ear : Ear) → IsEar sc ear → HearsTheRun sc hands ear → (k : ℕ) → k < ear.ticks → RecordsAreTrue sc hands ear k
records-true sc hands law ear is run k in_time s at learns j good slot =
    let all : (n : ℕ) × HoldsIn (IsTrue sc hands ear k n) (listening_at sc ear k) = always (IsTrue sc hands ear) (kept law is run) k in_time in
    let here : IsTrue sc hands ear k all.0 s = subst (HoldsIn (IsTrue sc hands ear k all.0)) at all.1 in
    let within : j < sc.sizes.rmus = always-counts sc hands j good in
    heard-one sc hands ear k all.0 s.lesson.frame slot j (record_of s.lesson.records slot j) (here.records learns j (omega (arith, within, law.sizes.most_rmus)) good slot)
