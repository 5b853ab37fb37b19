-- What holds of a search at first, and stays with each message and each tick, holds of it always.
use Rattle.std.proofs.Common.{◌≡◌, ℕ, zero, suc, ◌+◌, ◌<◌, ◌==◌, nat_lt, Bool, true, false, Option, Some, None, List, [], ◌∷◌, slice_get, refl, ◌∙◌, ap, arith}
use Rattle.rb_rules.specs.{Goodness.Scenario, Hearing.Coming}
use Rattle.rb_listen.specs.{Lessons.{first_of, frame_after}, Listening.{Heeding, Listening, decided, first_search, hear, heed, if_after, is_deciding, is_over, later, learning, search_on, searching, untold, wait_on}, declared.lesson.First.First, declared.search.Search.Search}
use Rattle.rb_laws_listener_learns.specs.Ears.{Ear, hears, listening_at}
use Rattle.rb_listen.specs.Listening as now

-- `P` holds before the first message and is kept by each step, where `P k n` is about the search
-- before message `n` of stamp `k`. At the tick no message of its stamp is left
pub record IsKept (sc : Scenario) (ear : Ear) (P : ℕ → ℕ → Search → Type 0) : Type 0 where
  pub first : P 0 0 first_search
  pub heard : (k n : ℕ) (c : Coming) → k < ear.ticks → slice_get (ear.heard k) n ≡ Some c → (s : Search) → P k n s
      → P k (suc n) (searching sc.sizes sc.plan c.from c.bytes s)
  pub decided : (k n : ℕ) (s : Search) → k < ear.ticks → slice_get (ear.heard k) n ≡ None → P k n s → is_deciding s ≡ true → P (suc k) 0 (learning (frame_after s.lesson.frame) (later s))
  pub later : (k n : ℕ) (s : Search) → k < ear.ticks → slice_get (ear.heard k) n ≡ None → P k n s → is_deciding s ≡ false → P (suc k) 0 (later s)
  pub lasts : (k n : ℕ) (s : Search) → k < ear.ticks → P k n s → is_over s.had ≡ false

-- a listener that searches does so
abbrev pub HoldsIn : (Search → Type 0) → Listening → Type 0
HoldsIn P (now.Searching s) = P s
HoldsIn P (now.Waiting had first) = Unit {0}
HoldsIn P (now.Following c) = Unit {0}

hear-keeps : {sc ear : _} (P : ℕ → ℕ → Search → Type 0) → IsKept sc ear P → (k n : ℕ) {c : _} → k < ear.ticks → slice_get (ear.heard k) n ≡ Some c
    → (l : Listening) → HoldsIn (P k n) l → HoldsIn (P k (suc n)) (hear sc.sizes sc.plan c.from c.bytes l)
unfolding hear
hear-keeps P kept k n {c} in_time there (now.Searching s) h = kept.heard k n c in_time there s h
hear-keeps P kept k n in_time there (now.Waiting had first) h = tt
hear-keeps P kept k n in_time there (now.Following core) h = tt

-- `P` holds at tick `k`, when all messages of its stamp were heard
pub record HoldsAt (ear : Ear) (P : ℕ → ℕ → Search → Type 0) (k : ℕ) (l : Listening) : Type 0 where
  pub n : ℕ
  pub holds : HoldsIn (P k n) l
  pub whole : slice_get (ear.heard k) n ≡ None

hears-keeps : {sc ear : _} (P : ℕ → ℕ → Search → Type 0) → IsKept sc ear P → (k n : ℕ) (cs : List Coming) → k < ear.ticks
    → ((i : ℕ) → slice_get (ear.heard k) (i + n) ≡ slice_get cs i)
    → (l : Listening) → HoldsIn (P k n) l → HoldsAt ear P k (hears sc cs l)
hears-keeps {ear} P kept k n [] in_time are l h = record { n = n; holds = h; whole = let e : n ≡ 0 + n = omega arith in ap (slice_get (ear.heard k)) e ∙ are zero }
hears-keeps {sc} {ear} P kept k n (c ∷ cs) in_time are l h =
    hears-keeps P kept k (suc n) cs in_time (λ i. let e : i + suc n ≡ suc i + n = omega arith in ap (slice_get (ear.heard k)) e ∙ are (suc i))
    (hear sc.sizes sc.plan c.from c.bytes l) (hear-keeps P kept k n in_time (let e : n ≡ 0 + n = omega arith in ap (slice_get (ear.heard k)) e ∙ are zero) l h)

decided-keeps : (P : Search → Type 0) (s : Search) → P (learning (frame_after s.lesson.frame) (later s)) → (o : Option First) → HoldsIn P (decided s o)
decided-keeps P s again None = again
decided-keeps P s again (Some first) = after (nat_lt s.had first.epoch)
  where
    after : (b : Bool) → HoldsIn P (if_after s first b)
    after true = tt
    after false = again

search-keeps : (P : Search → Type 0) (s : Search) (o : Option First) (b : Bool) → is_deciding s ≡ b → (is_deciding s ≡ true → P (learning (frame_after s.lesson.frame) (later s)))
    → (is_deciding s ≡ false → P (later s)) → HoldsIn P (elim b as (λ _. Listening) [ true ↦ decided s o | false ↦ now.Searching (later s) ])
search-keeps P s o true is again on = decided-keeps P s (again is) o
search-keeps P s o false is again on = on is

not-over : (P : Search → Type 0) (s : Search) (l : Listening) (b : Bool) → b ≡ false → HoldsIn P l
    → HoldsIn P (elim b as (λ _. Heeding) [ true ↦ untold (now.Searching s) | false ↦ untold l ]).listening
not-over P s l true e h = cc
not-over P s l false e h = h

waits : (sc : Scenario) (P : Search → Type 0) (had : ℕ) (first : First) (begins over : Bool)
    → HoldsIn P (elim over as (λ _. Heeding) [ true ↦ untold (now.Waiting had first) | false ↦ wait_on sc.sizes sc.plan had first begins ]).listening
waits sc P had first begins true = tt
waits sc P had first true false = tt
waits sc P had first false false = tt

heed-keeps : {sc ear : _} (P : ℕ → ℕ → Search → Type 0) → IsKept sc ear P → (k n : ℕ) → k < ear.ticks → slice_get (ear.heard k) n ≡ None
    → (l : Listening) → HoldsIn (P k n) l → HoldsIn (P (suc k) 0) (heed sc.sizes sc.plan l).listening
unfolding heed search_on
heed-keeps {sc} P kept k n in_time whole (now.Searching s) h =
    not-over (P (suc k) 0) s (search_on sc.sizes sc.plan s) (is_over s.had) (kept.lasts k n s in_time h)
    (search-keeps (P (suc k) 0) s (first_of sc.sizes sc.plan s.lesson) (is_deciding s) refl (kept.decided k n s in_time whole h) (kept.later k n s in_time whole h))
heed-keeps {sc} P kept k n in_time whole (now.Waiting had first) h = waits sc (P (suc k) 0) had first (first.epoch == had) (is_over had)
heed-keeps P kept k n in_time whole (now.Following c) h = tt

pub always-at : {sc ear : _} (P : ℕ → ℕ → Search → Type 0) → IsKept sc ear P → (k : ℕ) → k < ear.ticks → HoldsAt ear P k (listening_at sc ear k)
always-at {ear} P kept zero in_time =
    hears-keeps P kept zero 0 (ear.heard zero) in_time (λ i. let e : i + 0 ≡ i = omega arith in ap (slice_get (ear.heard zero)) e)
    (now.Searching first_search) kept.first
always-at {sc} {ear} P kept (suc k) in_time =
    let before : HoldsAt ear P k (listening_at sc ear k) = always-at P kept k (omega (arith, in_time)) in
    hears-keeps P kept (suc k) 0 (ear.heard (suc k)) in_time (λ i. let e : i + 0 ≡ i = omega arith in ap (slice_get (ear.heard (suc k))) e)
    (heed sc.sizes sc.plan (listening_at sc ear k)).listening
    (heed-keeps P kept k before.n (omega (arith, in_time)) before.whole (listening_at sc ear k) before.holds)

pub always : {sc ear : _} (P : ℕ → ℕ → Search → Type 0) → IsKept sc ear P → (k : ℕ) → k < ear.ticks → (n : ℕ) × HoldsIn (P k n) (listening_at sc ear k)
always {sc} {ear} P kept k in_time = let at : HoldsAt ear P k (listening_at sc ear k) = always-at P kept k in_time in (at.n, at.holds)
