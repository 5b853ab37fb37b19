-- A listener that searches does so at the next tick too, unless it decides. So it either decides
-- before a tick, or searches at it with all that is kept.
use Rattle.std.proofs.Common.{◌≡◌, ◌⊎◌, ℕ, zero, suc, ◌+◌, ◌<◌, Bool, true, false, None, Some, List, [], ◌∷◌, slice_get, inl, inr, refl, sym, ◌∙◌, ap, subst, arith}
use Rattle.rb_rules.specs.{Goodness.Scenario, Hearing.Coming}
use Rattle.rb_listen.specs.{Lessons.first_of, Listening.{Heeding, Listening, decided, first_search, hear, heed, is_deciding, is_over, later, search_on, searching, untold}, declared.search.Search.Search}
use Rattle.rb_laws_listener_learns.specs.Ears.{Ear, hears, listening_at}
use Rattle.rb_listen.specs.Listening as now

-- `P` is kept by each message, and by each tick at which the search does not decide
pub record IsKeptOn (sc : Scenario) (ear : Ear) (P : ℕ → ℕ → Search → Type 0) : Type 0 where
  pub heard : (k n : ℕ) (c : Coming) → k < ear.ticks → slice_get (ear.heard k) n ≡ Some c → (s : Search) → P k n s
      → P k (suc n) (searching sc.sizes sc.plan c.from c.bytes s)
  pub later : (k n : ℕ) (s : Search) → k < ear.ticks → slice_get (ear.heard k) n ≡ None → P k n s → is_deciding s ≡ false → P (suc k) 0 (later s)
  pub lasts : (k n : ℕ) (s : Search) → k < ear.ticks → P k n s → is_over s.had ≡ false

-- the listener searches and has heard all messages of stamp `k`, and `P` holds of its search
pub record SearchesBy (ear : Ear) (P : ℕ → ℕ → Search → Type 0) (k : ℕ) (l : Listening) : Type 0 where
  pub s : Search
  pub is : l ≡ now.Searching s
  pub n : ℕ
  pub holds : P k n s
  pub whole : slice_get (ear.heard k) n ≡ None

abbrev pub SearchesAt : Scenario → Ear → (ℕ → ℕ → Search → Type 0) → ℕ → Type 0
SearchesAt sc ear P k = SearchesBy ear P k (listening_at sc ear k)

-- the listener decides before this tick
pub record DecidesIn (sc : Scenario) (ear : Ear) (P : ℕ → ℕ → Search → Type 0) (end : ℕ) : Type 0 where
  pub tick : ℕ
  pub before : tick < end
  pub at : SearchesAt sc ear P tick
  pub deciding : is_deciding at.s ≡ true

hears-on : {sc ear : _} (P : ℕ → ℕ → Search → Type 0) → IsKeptOn sc ear P → (k n : ℕ) (cs : List Coming) → k < ear.ticks
    → ((i : ℕ) → slice_get (ear.heard k) (i + n) ≡ slice_get cs i) → (s : Search) → P k n s → SearchesBy ear P k (hears sc cs (now.Searching s))
unfolding hear
hears-on {ear} P kept k n [] in_time are s h =
    record { s = s; is = refl; n = n; holds = h; whole = let e : n ≡ 0 + n = omega arith in ap (slice_get (ear.heard k)) e ∙ are zero }
hears-on {sc} {ear} P kept k n (c ∷ cs) in_time are s h =
    hears-on P kept k (suc n) cs in_time (λ i. let e : i + suc n ≡ suc i + n = omega arith in ap (slice_get (ear.heard k)) e ∙ are (suc i))
    (searching sc.sizes sc.plan c.from c.bytes s)
    (kept.heard k n c in_time (let e : n ≡ 0 + n = omega arith in ap (slice_get (ear.heard k)) e ∙ are zero) s h)

all-heard : {sc ear : _} (P : ℕ → ℕ → Search → Type 0) → IsKeptOn sc ear P → (k : ℕ) → k < ear.ticks → (s : Search) → P k 0 s
    → SearchesBy ear P k (hears sc (ear.heard k) (now.Searching s))
all-heard {ear} P kept k in_time s h =
    hears-on P kept k 0 (ear.heard k) in_time (λ i. let e : i + 0 ≡ i = omega arith in ap (slice_get (ear.heard k)) e) s h

goes-on : (sc : Scenario) (s : Search) → is_over s.had ≡ false → is_deciding s ≡ false → (heed sc.sizes sc.plan (now.Searching s)).listening ≡ now.Searching (later s)
unfolding heed search_on
goes-on sc s over deciding =
    ap (λ b. (elim b as (λ _. Heeding) [ true ↦ untold (now.Searching s) | false ↦ untold (search_on sc.sizes sc.plan s) ]).listening) over
    ∙ ap (λ b. elim b as (λ _. Listening) [ true ↦ decided s (first_of sc.sizes sc.plan s.lesson) | false ↦ now.Searching (later s) ]) deciding

-- a listener that does not decide searches at the next tick
next-at : {sc ear : _} (P : ℕ → ℕ → Search → Type 0) → IsKeptOn sc ear P → {k : ℕ} → suc k < ear.ticks → (at : SearchesAt sc ear P k) → is_deciding at.s ≡ false
    → SearchesAt sc ear P (suc k)
next-at {sc} {ear} P kept {k} in_time at on =
    let before : k < ear.ticks = omega (arith, in_time) in
    let step : (heed sc.sizes sc.plan (listening_at sc ear k)).listening ≡ now.Searching (later at.s) =
    ap (λ l. (heed sc.sizes sc.plan l).listening) at.is ∙ goes-on sc at.s (kept.lasts k at.n at.s before at.holds) on in
    subst (λ l. SearchesBy ear P (suc k) (hears sc (ear.heard (suc k)) l)) (sym step)
    (all-heard P kept (suc k) in_time (later at.s) (kept.later k at.n at.s before at.whole at.holds on))

pub at-first : {sc ear : _} (P : ℕ → ℕ → Search → Type 0) → IsKeptOn sc ear P → 0 < ear.ticks → P 0 0 first_search → SearchesAt sc ear P 0
at-first P kept in_time h = all-heard P kept 0 in_time first_search h

pub on-at : {sc ear : _} (P : ℕ → ℕ → Search → Type 0) → IsKeptOn sc ear P → {k : ℕ} (d : ℕ) → d + k < ear.ticks → SearchesAt sc ear P k
    → DecidesIn sc ear P (d + k) ⊎ SearchesAt sc ear P (d + k)
on-at {sc} {ear} P kept {k} zero in_time at = let e : k ≡ 0 + k = omega arith in inr (subst (SearchesAt sc ear P) e at)
on-at {sc} {ear} P kept {k} (suc d) in_time at = by (on-at P kept d (omega (arith, in_time)) at)
  where
    e : suc (d + k) ≡ suc d + k
    e = omega arith

    split : (here : SearchesAt sc ear P (d + k)) (b : Bool) → is_deciding here.s ≡ b → DecidesIn sc ear P (suc d + k) ⊎ SearchesAt sc ear P (suc d + k)
    split here true is = inl (record { tick = d + k; before = omega arith; at = here; deciding = is })
    split here false is = inr (subst (SearchesAt sc ear P) e (next-at P kept (omega (arith, in_time)) here is))

    by : DecidesIn sc ear P (d + k) ⊎ SearchesAt sc ear P (d + k) → DecidesIn sc ear P (suc d + k) ⊎ SearchesAt sc ear P (suc d + k)
    by (inl done) = inl (record { tick = done.tick; before = omega (arith, done.before); at = done.at; deciding = done.deciding })
    by (inr here) = split here (is_deciding here.s) refl
