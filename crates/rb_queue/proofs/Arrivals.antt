-- The arrivals of a lane when one is pushed or gone.
use Rattle.std.proofs.{Common.{◌≡◌, ℕ, zero, suc, ◌+◌, ◌-◌, ◌<◌, ◌≤◌, Option, Some, slice_get, List, [], ◌∷◌, ◌++◌, length, drop, refl, sym, ap, ◌∙◌, subst, arith, inl, inr}, lemmas.List.{drop_more, length-drop}}
use Rattle.std.specs.Prelude.{max, remove}
use Rattle.rb_rules.specs.Hearing.{Coming}
use Rattle.rb_queue.specs.{Waiting.{Held, without_place}, Scanning.AreBy, Keeping.IsLane}
use Rattle.rb_queue.proofs.First.{is_last}

-- with one more arrival all are due by the later of the two times
pub by_more : (xs : List Coming) (x : Coming) (latest : ℕ) → AreBy latest xs → AreBy (max latest x.time) (xs ++ x ∷ [])
by_more xs x latest by = λ k c e. elim (is_last xs x c k e) [
  | inl old ↦ let early : c.time ≤ latest = by k c old in omega (arith, early)
  | inr new ↦ subst (λ (r : Coming). r.time ≤ max latest x.time) (sym new.1) (omega arith)
]

nothing : Coming
nothing = record { time = 0; from = 0; bytes = [] }

by_later : (xs : List Coming) (n latest : ℕ) → n < length xs → AreBy latest (drop n xs) → AreBy latest (drop (n + 1) xs)
by_later xs n latest h by = λ k c e. by (suc k) c (subst (λ l. slice_get l (suc k) ≡ Some c) (sym (drop_more xs n nothing h)) e)

-- a lane is still one after its start moves on
pub lane_later : (kept : List Coming) (start room capacity latest : ℕ) → IsLane kept start room capacity latest → start + 1 < length kept
    → IsLane kept (start + 1) room capacity latest
lane_later kept start room capacity latest is more =
    let fits : length kept - start ≤ room = is.fits in
    record {
      begins = omega (arith, more);
      fits = omega (arith, fits);
      reserved = is.reserved;
      by = by_later kept start latest (omega (arith, more)) is.by;
    }

front_gone : (kept : List Coming) (start : ℕ) → start < length kept → drop (start + 1) kept ≡ remove (drop start kept) 0
front_gone kept start h = sym (ap (λ l. remove l 0) (drop_more kept start nothing h))

pub lane_front : (kept : List Coming) (start room : ℕ) (tick : Option ℕ) (lane : Held) → start < length kept
    → record { arrivals = drop start kept; tick = tick; room = room } ≡ lane
    → record { arrivals = drop (start + 1) kept; tick = tick; room = room } ≡ without_place 0 lane
lane_front kept start room tick lane h is =
    ap (λ l. record { arrivals = l; tick = tick; room = room }) (front_gone kept start h) ∙ ap (without_place 0) is

drop-remove : {X : Type 0} (xs : List X) (s p : ℕ) → s + p < length xs → drop s (remove xs (s + p)) ≡ remove (drop s xs) p
drop-remove xs zero p h = ap (remove xs) (let e : zero + p ≡ p = omega arith in e)
drop-remove [] (suc s) p h = absurd (omega arith)
drop-remove (x ∷ xs) (suc s) p h =
    let e : suc s + p ≡ suc (s + p) = omega arith in
    ap (λ n. drop (suc s) (remove (x ∷ xs) n)) e ∙ drop-remove xs s p (omega (arith, h))

pub lane_without : (kept new : List Coming) (start place room : ℕ) (tick : Option ℕ) (lane : Held) → place < length (drop start kept)
    → new ≡ remove kept (start + place) → record { arrivals = drop start kept; tick = tick; room = room } ≡ lane
    → record { arrivals = drop start new; tick = tick; room = room } ≡ without_place place lane
lane_without kept new start place room tick lane h gone is =
    ap (λ l. record { arrivals = l; tick = tick; room = room })
    (ap (drop start) gone ∙ drop-remove kept start place (omega (arith, h, length-drop start kept)))
    ∙ ap (without_place place) is

by_left : (xs : List Coming) (p latest : ℕ) → AreBy latest xs → AreBy latest (remove xs p)
by_left [] zero latest by = by
by_left [] (suc p) latest by = by
by_left (x ∷ xs) zero latest by = λ k c e. by (suc k) c e
by_left (x ∷ xs) (suc p) latest by = go (by_left xs p latest (λ k c e. by (suc k) c e))
  where
    go : AreBy latest (remove xs p) → (k : ℕ) (c : Coming) → slice_get (x ∷ remove xs p) k ≡ Some c → c.time ≤ latest
    go rest zero c e = by 0 c e
    go rest (suc k) c e = rest k c e

-- without one of them the arrivals are still due by `latest`
pub by_without : (kept new : List Coming) (start place latest : ℕ) → place < length (drop start kept) → new ≡ remove kept (start + place)
    → AreBy latest (drop start kept) → AreBy latest (drop start new)
by_without kept new start place latest h gone by =
    subst (AreBy latest) (sym (ap (drop start) gone ∙ drop-remove kept start place (omega (arith, h, length-drop start kept)))) (by_left (drop start kept) place latest by)

pub drop-push : {X : Type 0} (xs : List X) (s : ℕ) (x : X) → s ≤ length xs → drop s (xs ++ x ∷ []) ≡ drop s xs ++ x ∷ []
drop-push xs zero x h = refl
drop-push [] (suc s) x h = absurd (omega arith)
drop-push (y ∷ ys) (suc s) x h = drop-push ys s x (omega (arith, h))
