-- For the law that events are rounds: what has come of a source for the open window, what is
-- pending of it, and what was sent: how an arrival keeps them together.
use Rattle.std.proofs.{Common.{◌≡◌, ℕ, zero, suc, ◌+◌, ◌<◌, ◌≤◌, ◌^◌, ◌==◌, ◌&&◌, not, nat_lt, nat_le, Bool, true, false, List, [], ◌∷◌, ◌++◌, map, filter, remove, length, length-append, refl, sym, ◌∙◌, ap, subst, arith, cond}, lemmas.Bool.Decides.nat_tests, lemmas.List.append-nil}
use Rattle.rb_base.specs.{Nodes.{Side, other}, Sizes.Sizes}
use Rattle.rb_rules.specs.{Clock.{Timeline, stamp_of}, Core.{Core, arrive, is_spent}, Hearing.Coming, Sense.Arrival, Slots.count_of, WorldStep.coming_from}
use Rattle.rb_laws_events.proofs.SameHeard.{IsOneOf, Every, AllOf, kept_as}

-- `c` comes from source `j`: by time `t`, and in `is_later` after it
abbrev pub is_now : ℕ → ℕ → Coming → Bool
is_now j t c = (c.from == j) && nat_le c.time t

abbrev pub is_later : ℕ → ℕ → Coming → Bool
is_later j t c = (c.from == j) && nat_lt t c.time

-- what came from source `j` and what is still pending by time `t` are together what it sent for the
-- open window so far, and what pends for later is what it sent for the next window
pub record Hears (j t : ℕ) (got coming sent next : List Coming) : Type 0 where
  pub came : Every (λ c. IsOneOf c sent) (coming_from got j)
  pub pends : Every (λ c. IsOneOf c sent) (filter (is_now j t) coming)
  pub as_many : length (coming_from got j) + length (filter (is_now j t) coming) ≡ length sent
  pub later : filter (is_later j t) coming ≡ next

-- x is the item at place n
abbrev pub StandsAt : ℕ → Coming → List Coming → Type 0
StandsAt n x [] = ⊥
StandsAt zero x (y ∷ ys) = y ≡ x
StandsAt (suc n) x (y ∷ ys) = StandsAt n x ys

left : (P : Coming → Type 0) (q : Coming → Bool) (n : ℕ) (x : Coming) (xs : List Coming) → StandsAt n x xs → Every P (filter q xs) → Every P (filter q (remove xs n))
left P q n x [] s e = absurd s
left P q zero x (y ∷ ys) s e =
    let go : (b : Bool) → Every P (cond b (y ∷ filter q ys) (filter q ys)) → Every P (filter q ys) = λ b. elim b as (λ b. Every P (cond b (y ∷ filter q ys) (filter q ys)) → Every P (filter q ys)) [ true ↦ λ e. e.1 | false ↦ λ e. e ] in
    go (q y) e
left P q (suc n) x (y ∷ ys) s e =
    let go : (b : Bool) → Every P (cond b (y ∷ filter q ys) (filter q ys)) → Every P (cond b (y ∷ filter q (remove ys n)) (filter q (remove ys n))) =
    λ b. elim b as (λ b. Every P (cond b (y ∷ filter q ys) (filter q ys)) → Every P (cond b (y ∷ filter q (remove ys n)) (filter q (remove ys n)))) [ true ↦ λ e. (e.0, left P q n x ys s e.1) | false ↦ λ e. left P q n x ys s e ] in
    go (q y) e

fewer : (q : Coming → Bool) (n : ℕ) (x : Coming) (xs : List Coming) → StandsAt n x xs → length (filter q (remove xs n)) + cond (q x) 1 0 ≡ length (filter q xs)
fewer q n x [] s = absurd s
fewer q zero x (y ∷ ys) s =
    let go : (b : Bool) → length (filter q ys) + cond b 1 0 ≡ length (cond b (y ∷ filter q ys) (filter q ys)) = λ b. elim b as (λ b. length (filter q ys) + cond b 1 0 ≡ length (cond b (y ∷ filter q ys) (filter q ys))) [ true ↦ omega arith | false ↦ omega arith ] in
    ap (λ z. length (filter q ys) + cond (q z) 1 0) (sym s) ∙ go (q y)
fewer q (suc n) x (y ∷ ys) s =
    let more : length (filter q (remove ys n)) + cond (q x) 1 0 ≡ length (filter q ys) = fewer q n x ys s in
    let go : (b : Bool) → length (cond b (y ∷ filter q (remove ys n)) (filter q (remove ys n))) + cond (q x) 1 0 ≡ length (cond b (y ∷ filter q ys) (filter q ys)) =
    λ b. elim b as (λ b. length (cond b (y ∷ filter q (remove ys n)) (filter q (remove ys n))) + cond (q x) 1 0 ≡ length (cond b (y ∷ filter q ys) (filter q ys))) [ true ↦ omega (arith, more) | false ↦ more ] in
    go (q y)

pub same_others : (q : Coming → Bool) (n : ℕ) {x : _} (xs : List Coming) → StandsAt n x xs → q x ≡ false → filter q (remove xs n) ≡ filter q xs
same_others q n [] s h = absurd s
same_others q zero (y ∷ ys) s h = let e : q y ≡ false = ap q s ∙ h in ap (λ b. cond b (y ∷ filter q ys) (filter q ys)) (sym e)
same_others q (suc n) (y ∷ ys) s h = ap (λ l. cond (q y) (y ∷ l) l) (same_others q n ys s h)

-- what holds for all items that pass holds for item `x`, if it passes
passing : (P : Coming → Type 0) (q : Coming → Bool) (n : ℕ) {x : _} (xs : List Coming) → StandsAt n x xs → q x ≡ true → Every P (filter q xs) → P x
passing P q n [] s h e = absurd s
passing P q zero (y ∷ ys) s h e =
    let t : q y ≡ true = ap q s ∙ h in
    let both : P y × Every P (filter q ys) = subst (λ b. Every P (cond b (y ∷ filter q ys) (filter q ys))) t e in
    subst P s both.0
passing P q (suc n) (y ∷ ys) s h e =
    let go : (b : Bool) → Every P (cond b (y ∷ filter q ys) (filter q ys)) → Every P (filter q ys) = λ b. elim b as (λ b. Every P (cond b (y ∷ filter q ys) (filter q ys)) → Every P (filter q ys)) [ true ↦ λ e. e.1 | false ↦ λ e. e ] in
    passing P q n ys s h (go (q y) e)

-- an item is put at the end
pub filter-last : (q : Coming → Bool) (xs : List Coming) (x : Coming) → filter q (xs ++ x ∷ []) ≡ filter q xs ++ cond (q x) (x ∷ []) []
filter-last q [] x = refl
filter-last q (y ∷ ys) x =
    let more : filter q (ys ++ x ∷ []) ≡ filter q ys ++ cond (q x) (x ∷ []) [] = filter-last q ys x in
    let go : (b : Bool) → cond b (y ∷ filter q (ys ++ x ∷ [])) (filter q (ys ++ x ∷ [])) ≡ cond b (y ∷ filter q ys) (filter q ys) ++ cond (q x) (x ∷ []) [] =
    λ b. elim b as (λ b. cond b (y ∷ filter q (ys ++ x ∷ [])) (filter q (ys ++ x ∷ [])) ≡ cond b (y ∷ filter q ys) (filter q ys) ++ cond (q x) (x ∷ []) []) [ true ↦ ap (λ l. y ∷ l) more | false ↦ more ] in
    go (q y)

pub each-append : (P : Coming → Type 0) (xs ys : List Coming) → Every P xs → Every P ys → Every P (xs ++ ys)
each-append P [] ys a b = b
each-append P (x ∷ xs) ys a b = (a.0, each-append P xs ys a.1 b)

-- an arrival by the window's last tick was pending and has come now. For every source what was sent
-- stays the same
pub arrival-keeps : {j t : ℕ} (n : ℕ) (c : Coming) {got coming sent next : _} → StandsAt n c coming → c.time ≤ t
    → Hears j t got coming sent next → Hears j t (got ++ c ∷ []) (remove coming n) sent next
arrival-keeps {j} {t} n c {got} {coming} {sent} {next} at le h =
    let in_time : nat_le c.time t ≡ true = grind (arith, nat_tests) in
    let not_later : nat_lt t c.time ≡ false = grind (arith, nat_tests) in
    let P : Coming → Type 0 = λ x. IsOneOf x sent in
    let fewer_now = fewer (is_now j t) n c coming at in
    let as_many : length (coming_from got j) + length (filter (is_now j t) coming) ≡ length sent = h.as_many in
    let same_later : filter (is_later j t) (remove coming n) ≡ next =
    (let go : (b : Bool) → (c.from == j) ≡ b → is_later j t c ≡ false = λ b. elim b as (λ b. (c.from == j) ≡ b → is_later j t c ≡ false) [ true ↦ λ e. rw (e, not_later) refl | false ↦ λ e. rw e refl ] in
    same_others (is_later j t) n coming at (go (c.from == j) refl) ∙ h.later) in
    let go : (b : Bool) → (c.from == j) ≡ b → Hears j t (got ++ c ∷ []) (remove coming n) sent next =
    λ b. elim b as (λ b. (c.from == j) ≡ b → Hears j t (got ++ c ∷ []) (remove coming n) sent next) [
      | true ↦ λ e.
          let now : is_now j t c ≡ true = rw (e, in_time) refl in
          let more : coming_from (got ++ c ∷ []) j ≡ coming_from got j ++ c ∷ [] = filter-last (λ x. x.from == j) got c ∙ ap (λ b. coming_from got j ++ cond b (c ∷ []) []) e in
          let its : IsOneOf c sent = passing P (is_now j t) n coming at now h.pends in
          let one : ◌≡◌ {A = ℕ} (cond (is_now j t c) 1 0) 1 = ap (λ b. cond b 1 0) now in
          let long : length (coming_from (got ++ c ∷ []) j) ≡ length (coming_from got j) + 1 = ap length more ∙ length-append (coming_from got j) (c ∷ []) in
          record {
            came = subst (Every P) (sym more) (each-append P (coming_from got j) (c ∷ []) h.came (its, tt));
            pends = left P (is_now j t) n c coming at h.pends;
            as_many = omega (arith, long, fewer_now, one, as_many);
            later = same_later;
          }
      | false ↦ λ e.
          let now : is_now j t c ≡ false = rw e refl in
          let more : coming_from (got ++ c ∷ []) j ≡ coming_from got j = filter-last (λ x. x.from == j) got c ∙ ap (λ b. coming_from got j ++ cond b (c ∷ []) []) e ∙ append-nil (coming_from got j) in
          let same : filter (is_now j t) (remove coming n) ≡ filter (is_now j t) coming = same_others (is_now j t) n coming at now in
          record {
            came = subst (Every P) (sym more) h.came;
            pends = subst (Every P) (sym same) h.pends;
            as_many = ap (λ l. length l + length (filter (is_now j t) (remove coming n))) more ∙ ap (λ l. length (coming_from got j) + length l) same ∙ as_many;
            later = same_later;
          }
    ] in
    go (c.from == j) refl

-- if nothing is pending for the window, all that was sent has come
pub all-came : {j t got coming sent next : _} → filter (is_now j t) coming ≡ [] → Hears j t got coming sent next → AllOf (coming_from got j) sent
all-came {j} {t} {got} {coming} {sent} none h =
    let as_many : length (coming_from got j) + length (filter (is_now j t) coming) ≡ length sent = h.as_many in
    let zero_now : length (filter (is_now j t) coming) ≡ 0 = ap length none in
    record { as_many = omega arith; entries = h.came }

-- if all that is pending comes after time `t`, nothing is pending for the window
pub none-now : (j t : ℕ) (coming : List Coming) → Every (λ c. t < c.time) coming → filter (is_now j t) coming ≡ []
none-now j t [] e = refl
none-now j t (c ∷ cs) e =
    let late : t < c.time = e.0 in
    let no : nat_le c.time t ≡ false = grind (arith, nat_tests) in
    let go : (b : Bool) → (c.from == j) ≡ b → is_now j t c ≡ false = λ b. elim b as (λ b. (c.from == j) ≡ b → is_now j t c ≡ false) [ true ↦ λ e. rw (e, no) refl | false ↦ λ e. rw e refl ] in
    ap (λ b. cond b (c ∷ filter (is_now j t) cs) (filter (is_now j t) cs)) (go (c.from == j) refl) ∙ none-now j t cs e.1

-- the core's inbox takes the arrival with the same stamp if that is the number of its next tick
map-last : (f : Coming → ℕ × Arrival) (xs : List Coming) (x : Coming) → map f (xs ++ x ∷ []) ≡ map f xs ++ f x ∷ []
map-last f [] x = refl
map-last f (y ∷ ys) x = ap (λ l. f y ∷ l) (map-last f ys x)

pub inbox-keeps : (sizes : Sizes) (me : Side) (clock : Timeline) (core : Core) (got : List Coming) (c : Coming)
    → core.inbox ≡ map (kept_as clock) got → core.had ≡ stamp_of clock c.time → core.had < 2 ^ 31 → c.from < count_of (other me) sizes
    → (arrive sizes me core c.from c.bytes).inbox ≡ map (kept_as clock) (got ++ c ∷ [])
unfolding arrive
inbox-keeps sizes me clock core got c is next room known =
    let a : nat_lt c.from (count_of (other me) sizes) ≡ true = grind (arith, nat_tests) in
    let b : is_spent core ≡ false = grind (arith, nat_tests) in
    let ab : (nat_lt c.from (count_of (other me) sizes) && not (is_spent core)) ≡ true = ap (λ x. x && not (is_spent core)) a ∙ ap not b in
    ap (λ b. let x : Core = (elim b [ true ↦ record core { inbox = core.inbox ++ (c.from, record { stamp = core.had; bytes = c.bytes }) ∷ [] } | false ↦ core ]) in x.inbox) ab
    ∙ ap (λ k. core.inbox ++ (c.from, record { stamp = k; bytes = c.bytes }) ∷ []) next
    ∙ ap (λ l. l ++ kept_as clock c ∷ []) is
    ∙ sym (map-last (kept_as clock) got c)
