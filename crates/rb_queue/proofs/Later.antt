-- What is left of a lane when all that comes before a time is dropped.
use Rattle.std.proofs.{Common.{◌≡◌, ℕ, zero, suc, ◌+◌, ◌-◌, ◌<◌, ◌≤◌, nat_le, Bool, true, false, Option, Some, None, slice_get, List, [], ◌∷◌, length, drop, filter, cond, refl, sym, ap, ◌∙◌, subst, arith}, lemmas.Bool.Decides.nat_tests, lemmas.List.length-drop}
use Rattle.rb_rules.specs.Hearing.{Coming}
use Rattle.rb_queue.specs.{Scanning.AreBy, Keeping.IsLane, Queued.IsQueue, Waiting.{Held, without_before}, declared.pending.Pending.Pending}

-- what passes a test is among all
among : (p : Coming → Bool) (xs : List Coming) (k : ℕ) (c : Coming) → slice_get (filter p xs) k ≡ Some c → (j : ℕ) × (slice_get xs j ≡ Some c)
among p [] k c e = absurd (let no : ◌≡◌ {A = Option Coming} None (Some c) = e in cc)
among p (x ∷ xs) k c e = go (λ k e. among p xs k c e) (p x) k e
  where
    Is : ℕ → List Coming → Type 0
    Is k ys = slice_get ys k ≡ Some c

    go : ((k : ℕ) → Is k (filter p xs) → (j : ℕ) × Is j xs) → (b : Bool) (k : ℕ) → Is k (cond b (x ∷ filter p xs) (filter p xs)) → (j : ℕ) × Is j (x ∷ xs)
    go rest false k e = let w = rest k e in (suc w.0, w.1)
    go rest true zero e = (0, e)
    go rest true (suc k) e = let w = rest k e in (suc w.0, w.1)

pub fewer : (p : Coming → Bool) (xs : List Coming) → length (filter p xs) ≤ length xs
fewer p [] = omega arith
fewer p (x ∷ xs) = go (fewer p xs) (p x)
  where
    go : length (filter p xs) ≤ length xs → (b : Bool) → length (cond b (x ∷ filter p xs) (filter p xs)) ≤ suc (length xs)
    go rest false = omega (arith, rest)
    go rest true = omega (arith, rest)

-- what passes the test makes a lane again
pub lane_left : (p : Coming → Bool) (kept new : List Coming) (start room capacity reserved latest : ℕ)
    → IsLane kept start room capacity latest → new ≡ filter p (drop start kept) → reserved ≡ capacity → IsLane new 0 room reserved latest
lane_left p kept new start room capacity reserved latest is left same =
    let fits : length kept - start ≤ room = is.fits in
    let few : length new ≤ length (drop start kept) = subst (λ l. length l ≤ length (drop start kept)) (sym left) (fewer p (drop start kept)) in
    let behind : length (drop start kept) ≡ length kept - start = length-drop start kept in
    let full : room ≤ capacity = is.reserved in
    record {
      begins = omega arith;
      fits = omega (arith, fits, few, behind);
      reserved = omega (arith, full, same);
      by = subst (AreBy latest) (sym left) (λ k c e. let w = among p (drop start kept) k c e in is.by w.0 c w.1);
    }

pub queue_left : (until : ℕ) (lane new : Held) (more : List Pending) (capacity : ℕ) → IsQueue lane more capacity → new ≡ without_before until lane
    → IsQueue new more capacity
queue_left until lane new more capacity is left =
    let few : length (filter (λ c. nat_le until c.time) lane.arrivals) ≤ length lane.arrivals = fewer (λ c. nat_le until c.time) lane.arrivals in
    let fits : length lane.arrivals + length more ≤ lane.room = is.fits in
    subst (λ l. IsQueue l more capacity) (sym left) (record { fits = omega (arith, few, fits); reserved = is.reserved })

-- nothing is left if all arrivals come before the time
pub none_left : (until latest : ℕ) (xs : List Coming) → AreBy latest xs → latest < until → filter (λ c. nat_le until c.time) xs ≡ []
none_left until latest [] by later = refl
none_left until latest (x ∷ xs) by later =
    let due : x.time ≤ latest = by 0 x refl in
    let early : nat_le until x.time ≡ false = grind (arith, nat_tests) in
    ap (λ b. cond b (x ∷ filter (λ c. nat_le until c.time) xs) (filter (λ c. nat_le until c.time) xs)) early
    ∙ none_left until latest xs (λ k c e. by (suc k) c e) later
