-- What is heard from nodes that are not good, whatever they do.
use Rattle.std.proofs.{Common.{◌≡◌, ℕ, zero, suc, ◌<◌, ◌≤◌, ◌^◌, ◌&&◌, nat_le, nat_lt, Bool, true, false, cond, List, [], ◌∷◌, map, filter, refl, ap, ◌∙◌, sym, arith}, lemmas.Bool.{and_parts, leb-true, ltb-true}, lemmas.List.Elements.{All-cons, All-nil}}
use Rattle.std.specs.Prelude.{All}
use Rattle.rb_base.specs.Nodes.{Side, other}
use Rattle.rb_rules.specs.{Behavior.{Said, are_bytes, is_after_previous, is_within}, Clock.{Timeline, time_of}, Goodness.{Scenario, clock_of}, Hearing.{Coming, Span, is_heard, said_by}, Slots.count_of}

-- what comes from source j to node i of a kind in a window: bytes of a node of the bus, with the
-- stamp of a tick of the window
pub record IsSaid (sc : Scenario) (me : Side) (i : ℕ) (span : Span) (j : ℕ) (c : Coming) : Type 0 where
  pub from : c.from ≡ j
  pub known : j < count_of (other me) sc.sizes
  pub later : (m : ℕ) → span.first ≡ suc m → time_of (clock_of sc me i) m < c.time
  pub within : c.time ≤ time_of (clock_of sc me i) span.last
  pub bytes : All (λ byte. byte < 2 ^ 8) c.bytes

each-byte : (bytes : List ℕ) → are_bytes bytes ≡ true → All (λ byte. byte < 2 ^ 8) bytes
each-byte [] e = All-nil (λ byte. byte < 2 ^ 8)
each-byte (x ∷ xs) e =
    let parts = and_parts (nat_lt x 256) (are_bytes xs) e in
    All-cons (λ byte. byte < 2 ^ 8) x xs (ltb-true x 256 parts.0) (each-byte xs parts.1)

after-it : (clock : Timeline) (first time : ℕ) → is_after_previous clock first time ≡ true → (m : ℕ) → first ≡ suc m → time_of clock m < time
after-it clock zero time e m is = absurd (omega (arith, is))
after-it clock (suc k) time e m is =
    let same : k ≡ m = omega (arith, is) in
    ltb-true (time_of clock m) time (ap (λ n. nat_lt (time_of clock n) time) (sym same) ∙ e)

heard-so : (sc : Scenario) (me : Side) (i : ℕ) (span : Span) (j : ℕ) (s : Said) → is_heard sc me i span j s ≡ true
    → IsSaid sc me i span j (record { time = s.time; from = j; bytes = s.bytes })
heard-so sc me i span j s e =
    let clock : Timeline = clock_of sc me i in
    let all = and_parts (nat_lt j (count_of (other me) sc.sizes) && is_within clock span s.time) (are_bytes s.bytes) e in
    let both = and_parts (nat_lt j (count_of (other me) sc.sizes)) (is_within clock span s.time) all.0 in
    let times = and_parts (is_after_previous clock span.first s.time) (nat_le s.time (time_of clock span.last)) both.1 in
    record {
      from = refl;
      known = ltb-true j (count_of (other me) sc.sizes) both.0;
      later = after-it clock span.first s.time times.0;
      within = leb-true s.time (time_of clock span.last) times.1;
      bytes = each-byte s.bytes all.1;
    }

-- all that is heard from a node that is not good is so
pub all-said : (sc : Scenario) (me : Side) (i : ℕ) (span : Span) (j : ℕ) → All (IsSaid sc me i span j) (said_by sc me i span j)
all-said sc me i span j = so (sc.behavior me i span j)
  where
    coming : Said → Coming
    coming s = record { time = s.time; from = j; bytes = s.bytes }

    by : (x : Said) (xs : List Said) (b : Bool) → is_heard sc me i span j x ≡ b → All (IsSaid sc me i span j) (map coming (filter (is_heard sc me i span j) xs))
        → All (IsSaid sc me i span j) (map coming (cond b (x ∷ filter (is_heard sc me i span j) xs) (filter (is_heard sc me i span j) xs)))
    by x xs true e rest = All-cons (IsSaid sc me i span j) (coming x) (map coming (filter (is_heard sc me i span j) xs)) (heard-so sc me i span j x e) rest
    by x xs false e rest = rest

    so : (xs : List Said) → All (IsSaid sc me i span j) (map coming (filter (is_heard sc me i span j) xs))
    so [] = All-nil (IsSaid sc me i span j)
    so (x ∷ xs) = by x xs (is_heard sc me i span j x) refl (so xs)
