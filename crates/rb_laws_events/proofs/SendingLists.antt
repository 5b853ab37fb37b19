-- For the law that events are rounds: what was sent and what is pending stay together when a
-- message goes out, and when a window opens.
use Rattle.std.proofs.{Common.{◌≡◌, ℕ, ◌+◌, ◌<◌, ◌≤◌, ◌==◌, nat_lt, nat_le, Bool, true, false, List, [], ◌∷◌, ◌++◌, filter, length, length-append, refl, sym, ◌∙◌, ap, subst, arith, inl, cond}, lemmas.Bool.Decides.nat_tests, lemmas.List.append-nil}
use Rattle.rb_rules.specs.{Hearing.Coming, WorldStep.coming_from}
use Rattle.rb_laws_events.proofs.{SameHeard.{IsOneOf, Every}, PendingLists.{Hears, is_now, is_later, filter-last, each-append}, SayLists.each-itself}

each-none : (P : Coming → Type 0) (xs : List Coming) → Every (λ c. IsOneOf c []) xs → Every P xs
each-none P [] e = tt
each-none P (x ∷ xs) e = absurd e.0

-- source j sends for the open window, for which it had sent nothing
pub say-now : {j t got coming next : _} (e : Coming) → (e.from == j) ≡ true → e.time ≤ t → Hears j t got coming [] next → Hears j t got (coming ++ e ∷ []) (e ∷ []) next
say-now {j} {t} {got} {coming} e its le h =
    let in_time : nat_le e.time t ≡ true = grind (arith, nat_tests) in
    let not_later : nat_lt t e.time ≡ false = grind (arith, nat_tests) in
    let now : is_now j t e ≡ true = rw (its, in_time) refl in
    let later : is_later j t e ≡ false = rw (its, not_later) refl in
    let P : Coming → Type 0 = λ c. IsOneOf c (e ∷ []) in
    let more : filter (is_now j t) (coming ++ e ∷ []) ≡ filter (is_now j t) coming ++ e ∷ [] = filter-last (is_now j t) coming e ∙ ap (λ b. filter (is_now j t) coming ++ cond b (e ∷ []) []) now in
    let long : length (filter (is_now j t) (coming ++ e ∷ [])) ≡ length (filter (is_now j t) coming) + 1 = ap length more ∙ length-append (filter (is_now j t) coming) (e ∷ []) in
    let as_many : length (coming_from got j) + length (filter (is_now j t) coming) ≡ 0 = h.as_many in
    record {
      came = each-none P (coming_from got j) h.came;
      pends = subst (Every P) (sym more) (each-append P (filter (is_now j t) coming) (e ∷ []) (each-none P (filter (is_now j t) coming) h.pends) (inl refl, tt));
      as_many = omega (arith, long, as_many);
      later = filter-last (is_later j t) coming e ∙ ap (λ b. filter (is_later j t) coming ++ cond b (e ∷ []) []) later ∙ append-nil (filter (is_later j t) coming) ∙ h.later;
    }

-- source `j` sends for the window after the open one
pub say-next : {j t got coming sent : _} (e : Coming) → (e.from == j) ≡ true → t < e.time → Hears j t got coming sent [] → Hears j t got (coming ++ e ∷ []) sent (e ∷ [])
say-next {j} {t} {got} {coming} {sent} e its lt h =
    let not_now : nat_le e.time t ≡ false = grind (arith, nat_tests) in
    let is_after : nat_lt t e.time ≡ true = grind (arith, nat_tests) in
    let now : is_now j t e ≡ false = rw (its, not_now) refl in
    let later : is_later j t e ≡ true = rw (its, is_after) refl in
    let P : Coming → Type 0 = λ c. IsOneOf c sent in
    let same : filter (is_now j t) (coming ++ e ∷ []) ≡ filter (is_now j t) coming = filter-last (is_now j t) coming e ∙ ap (λ b. filter (is_now j t) coming ++ cond b (e ∷ []) []) now ∙ append-nil (filter (is_now j t) coming) in
    record {
      came = h.came;
      pends = subst (Every P) (sym same) h.pends;
      as_many = ap (λ l. length (coming_from got j) + length l) same ∙ h.as_many;
      later = filter-last (is_later j t) coming e ∙ ap (λ b. filter (is_later j t) coming ++ cond b (e ∷ []) []) later ∙ ap (λ l. l ++ e ∷ []) h.later;
    }

-- a message from another source changes nothing for source `j`
pub say-other : {j t got coming sent next : _} (e : Coming) → (e.from == j) ≡ false → Hears j t got coming sent next → Hears j t got (coming ++ e ∷ []) sent next
say-other {j} {t} {got} {coming} {sent} e its h =
    let now : is_now j t e ≡ false = rw its refl in
    let later : is_later j t e ≡ false = rw its refl in
    let P : Coming → Type 0 = λ c. IsOneOf c sent in
    let same : filter (is_now j t) (coming ++ e ∷ []) ≡ filter (is_now j t) coming = filter-last (is_now j t) coming e ∙ ap (λ b. filter (is_now j t) coming ++ cond b (e ∷ []) []) now ∙ append-nil (filter (is_now j t) coming) in
    record {
      came = h.came;
      pends = subst (Every P) (sym same) h.pends;
      as_many = ap (λ l. length (coming_from got j) + length l) same ∙ h.as_many;
      later = filter-last (is_later j t) coming e ∙ ap (λ b. filter (is_later j t) coming ++ cond b (e ∷ []) []) later ∙ append-nil (filter (is_later j t) coming) ∙ h.later;
    }

-- `c` comes after time `t`, and if it is from source `j`, it comes by time `u`
abbrev pub OpensFor : ℕ → ℕ → ℕ → Coming → Type 0
OpensFor j t u c = (t < c.time) × ((c.from == j) ≡ true → c.time ≤ u)

now-was-later : (j t u : ℕ) (coming : List Coming) → Every (OpensFor j t u) coming → filter (is_now j u) coming ≡ filter (is_later j t) coming
now-was-later j t u [] e = refl
now-was-later j t u (c ∷ cs) e =
    let after : t < c.time = e.0.0 in
    let lt : nat_lt t c.time ≡ true = grind (arith, nat_tests) in
    let go : (b : Bool) → (c.from == j) ≡ b → is_now j u c ≡ is_later j t c =
    λ b. elim b as (λ b. (c.from == j) ≡ b → is_now j u c ≡ is_later j t c) [
      | true ↦ λ f. let below : c.time ≤ u = e.0.1 f in let le : nat_le c.time u ≡ true = grind (arith, nat_tests) in rw (f, le, lt) refl
      | false ↦ λ f. rw f refl
    ] in
    ap (λ b. cond b (c ∷ filter (is_now j u) cs) (filter (is_now j u) cs)) (go (c.from == j) refl) ∙ ap (λ l. cond (is_later j t c) (c ∷ l) l) (now-was-later j t u cs e.1)

none-later : (j t u : ℕ) (coming : List Coming) → Every (OpensFor j t u) coming → filter (is_later j u) coming ≡ []
none-later j t u [] e = refl
none-later j t u (c ∷ cs) e =
    let go : (b : Bool) → (c.from == j) ≡ b → is_later j u c ≡ false =
    λ b. elim b as (λ b. (c.from == j) ≡ b → is_later j u c ≡ false) [
      | true ↦ λ f. let below : c.time ≤ u = e.0.1 f in let no : nat_lt u c.time ≡ false = grind (arith, nat_tests) in rw (f, no) refl
      | false ↦ λ f. rw f refl
    ] in
    ap (λ b. cond b (c ∷ filter (is_later j u) cs) (filter (is_later j u) cs)) (go (c.from == j) refl) ∙ none-later j t u cs e.1

-- a window opens: what was sent for the window to come is now for the open one
pub opens : {j t : ℕ} (u : ℕ) {got coming sent next : _} → Every (OpensFor j t u) coming → Hears j t got coming sent next → Hears j u [] coming next []
opens {j} {t} u {coming} {next} e h =
    let now : filter (is_now j u) coming ≡ next = now-was-later j t u coming e ∙ h.later in
    record {
      came = tt;
      pends = subst (Every (λ c. IsOneOf c next)) (sym now) (each-itself next next (λ x h. h));
      as_many = let l : length (filter (is_now j u) coming) ≡ length next = ap length now in omega (arith, l);
      later = none-later j t u coming e;
    }
