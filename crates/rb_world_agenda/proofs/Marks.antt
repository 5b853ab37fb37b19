-- The marks of ticks, and what is read off the least of them.
use Rattle.std.proofs.{Common.{◌≡◌, ℕ, zero, suc, ◌+◌, ◌-◌, ◌*◌, ◌/◌, ◌%◌, Bool, ◌<◌, ◌≤◌, nat_lt, true, false, if◌then◌else◌, List, [], ◌∷◌, ◌++◌, length, min, get_or, refl, sym, ap, ◌∙◌, subst, arith, inl, inr, length-append}, Math.ListN.replicate, lemmas.Bool.cases_lt, lemmas.Bool.Decides.nat_tests, lemmas.List.{length-replicate, length-set, set-append_left}}
use Rattle.std.specs.Prelude.{slice_set}
use Rattle.rb_world_agenda.specs.{Agenda.{filled, least_key, mark_of, marks_from}, Fronts.IsFront}
use Rattle.rb_world_agenda.proofs.Fronts.{least-above, least-low}

-- Marks.

pub length-marks : (n : ℕ) (ts : List ℕ) → length (marks_from n ts) ≡ length ts
unfolding marks_from
length-marks n [] = refl
length-marks n (t ∷ ts) = ap suc (length-marks (suc n) ts)

marks-set : (n : ℕ) (ts : List ℕ) (p t : ℕ) → marks_from n (slice_set ts p t) ≡ slice_set (marks_from n ts) p (mark_of (n + p) t)
unfolding marks_from
marks-set n [] zero t = refl
marks-set n [] (suc p) t = refl
marks-set n (x ∷ ts) zero t = ap (λ k. mark_of k t ∷ marks_from (suc n) ts) (let e : n ≡ n + zero = omega arith in e)
marks-set n (x ∷ ts) (suc p) t =
    ap (λ l. mark_of n x ∷ l)
    (marks-set (suc n) ts p t ∙ ap (λ k. slice_set (marks_from (suc n) ts) p (mark_of k t)) (let e : suc n + p ≡ n + suc p = omega arith in e))

pub set-mark : (ts : List ℕ) (p t : ℕ) → marks_from 0 (slice_set ts p t) ≡ slice_set (marks_from 0 ts) p (mark_of p t)
set-mark ts p t = marks-set 0 ts p t ∙ ap (λ k. slice_set (marks_from 0 ts) p (mark_of k t)) (let e : 0 + p ≡ p = omega arith in e)

mark-in : (n : ℕ) (ts : List ℕ) (p : ℕ) → p < length ts → get_or (marks_from n ts) p 0 ≡ mark_of (n + p) (get_or ts p 0)
unfolding marks_from
mark-in n [] p h = absurd (omega arith)
mark-in n (x ∷ ts) zero h = ap (λ k. mark_of k x) (let e : n ≡ n + zero = omega arith in e)
mark-in n (x ∷ ts) (suc p) h =
    mark-in (suc n) ts p (omega (arith, h)) ∙ ap (λ k. mark_of k (get_or ts p 0)) (let e : suc n + p ≡ n + suc p = omega arith in e)

pub mark-at : (ts : List ℕ) (p : ℕ) → p < length ts → get_or (marks_from 0 ts) p 0 ≡ mark_of p (get_or ts p 0)
mark-at ts p h = mark-in 0 ts p h ∙ ap (λ k. mark_of k (get_or ts p 0)) (let e : 0 + p ≡ p = omega arith in e)

pub marks-none : (n k : ℕ) → marks_from k (replicate n 18446744073709551615) ≡ replicate n 18446744073709551615
unfolding marks_from
marks-none zero k = refl
marks-none (suc n) k = ap (λ l. 18446744073709551615 ∷ l) (marks-none n (suc k))

pub fill-set : (ms : List ℕ) (p m : ℕ) → p < length ms → filled (slice_set ms p m) ≡ slice_set (filled ms) p m
fill-set ms p m h =
    ap (λ n. slice_set ms p m ++ replicate (32 - n) 18446744073709551615) (length-set ms p m)
    ∙ sym (set-append_left ms (replicate (32 - length ms) 18446744073709551615) p m h)

pub length-filled : (ms : List ℕ) → length ms ≤ 32 → length (filled ms) ≡ 32
length-filled ms few =
    length-append ms (replicate (32 - length ms) 18446744073709551615)
    ∙ omega (arith, few, length-replicate {A = ℕ} (32 - length ms) 18446744073709551615)

none-least : (r : ℕ) → least_key (replicate r 18446744073709551615) ≡ 18446744073709551615
unfolding least_key
none-least zero = refl
none-least (suc r) = omega (arith, none-least r)

least-front : (ms : List ℕ) (r : ℕ) → least_key (ms ++ replicate r 18446744073709551615) ≡ least_key ms
unfolding least_key
least-front [] r = none-least r
least-front (x ∷ ms) r = ap (min x) (least-front ms r)

least-filled : (ms : List ℕ) → least_key (filled ms) ≡ least_key ms
least-filled ms = least-front ms (32 - length ms)

-- The least mark.

least-there : (ks : List ℕ) → least_key ks < 18446744073709551615 → (k : ℕ) × ((k < length ks) × (get_or ks k 0 ≡ least_key ks))
unfolding least_key
least-there [] h = absurd (omega (arith, h))
least-there (x ∷ ks) h = elim (cases_lt x (least_key ks)) [
  | inl less ↦ (0, (omega arith, omega (arith, less)))
  | inr ge ↦
      let rest = least-there ks (omega (arith, h, ge)) in
      let within = rest.1.0 in
      let at = rest.1.1 in
      (suc rest.0, (omega (arith, within), omega (arith, at, ge)))
]

mark-parts : (k t v : ℕ) → mark_of k t ≡ v → v < 18446744073709551615 → (t < 576460752303423488) × (v ≡ t * 32 + k)
mark-parts k t v is some = go (nat_lt t 576460752303423488) refl is
  where
    go : (b : Bool) → nat_lt t 576460752303423488 ≡ b → (if b then t * 32 + k else 18446744073709551615) ≡ v → (t < 576460752303423488) × (v ≡ t * 32 + k)
    go true e is = (grind (arith, nat_tests), sym is)
    go false e is = absurd (omega (arith, is, some))

mark-above : (least first j u : ℕ) → first < 32 → j < 32 → least < 576460752303423488 → least * 32 + first ≤ mark_of j u → (least ≤ u) × (j < first → least < u)
mark-above least first j u a b small le = go (nat_lt u 576460752303423488) refl le
  where
    go : (b : Bool) → nat_lt u 576460752303423488 ≡ b → least * 32 + first ≤ (if b then u * 32 + j else 18446744073709551615) → (least ≤ u) × (j < first → least < u)
    go true e le = (omega (arith, a, b, le), λ h. omega (arith, a, b, le, h))
    go false e le =
        let late : 576460752303423488 ≤ u = grind (arith, nat_tests) in
        (omega (arith, late, small), λ h. omega (arith, late, small))

-- the front is read off the least mark
pub front-marks : (ts : List ℕ) (first least : ℕ) → length ts ≤ 32 → first < 32 → least_key (marks_from 0 ts) ≡ least * 32 + first → least * 32 + first < 18446744073709551615
    → IsFront ts (record { first = first; least = least })
front-marks ts first least few small is some =
    let at = least-there (marks_from 0 ts) (omega (arith, is, some)) in
    let k : ℕ = at.0 in
    let long = length-marks 0 ts in
    let inside = at.1.0 in
    let within : k < length ts = omega (arith, inside, long) in
    let t : ℕ = get_or ts k 0 in
    let parts = mark-parts k t (least * 32 + first) (sym (mark-at ts k within) ∙ at.1.1 ∙ is) some in
    let early = parts.0 in
    let sum = parts.1 in
    let time : t ≡ least = omega (arith, sum, small, within, few) in
    let place : k ≡ first = omega (arith, sum, small, within, few) in
    let there : (first < length ts) × (get_or ts first 0 ≡ least) =
    subst (λ p. (p < length ts) × (get_or ts p 0 ≡ least)) place (within, time) in
    let above : (j : ℕ) → j < length ts → (least ≤ get_or ts j 0) × (j < first → least < get_or ts j 0) =
    λ j h.
    let low = least-low (marks_from 0 ts) j (omega (arith, h, long)) in
    let mark = mark-at ts j h in
    mark-above least first j (get_or ts j 0) small (omega (arith, h, few)) (omega (arith, early, time)) (omega (arith, low, mark, is)) in
    record {
      least_is =
          let low = least-low ts k within in
          let high = least-above ts least (omega (arith, some)) (λ j h. (above j h).0) in
          omega (arith, low, high, time);
      there = λ _. there;
      before = λ j below. let inside = there.0 in (above j (omega (arith, below, inside))).1 below;
    }

pub front-read : (ts ticks : List ℕ) (mark : ℕ) → ticks ≡ filled (marks_from 0 ts) → length ts ≤ 32 → mark ≡ least_key ticks → (mark ≡ 18446744073709551615 → ⊥)
    → mark < 18446744073709551616 → IsFront ts (record { first = mark % 32; least = mark / 32 })
front-read ts ticks mark are few is not fits =
    let parts : mark ≡ mark / 32 * 32 + mark % 32 = omega arith in
    let some : mark / 32 * 32 + mark % 32 < 18446744073709551615 = elim (cases_lt mark 18446744073709551615) [
      | inl less ↦ omega (arith, less, parts)
      | inr ge ↦ absurd (not (omega (arith, ge, fits)))
    ] in
    front-marks ts (mark % 32) (mark / 32) few (omega arith) (sym (least-filled (marks_from 0 ts)) ∙ ap least_key (sym are) ∙ sym is ∙ parts) some
