-- What is kept of some sources.
use Rattle.std.proofs.{Common.{◌≡◌, ◌≢◌, ℕ, ◌+◌, ◌<◌, ◌==◌, ◌&&◌, not, if◌then◌else◌, Bool, true, false, List, length, get_or, set, refl, sym, ap, ◌∙◌, subst, arith, inl, inr}, lemmas.Bool.cases_eq, lemmas.List.{ext_get_or, get_or-set_same, get_or-set_other}, lemmas.List.FromFn.get_or-map-range_with_len}
use Rattle.rb_base.specs.Nodes.{has, set_of}
use Rattle.rb_base.proofs.{Sets.{eq_other, has-is, has_none}, Plain.{and-not_true, eq_self}}
use Rattle.rb_world_book.specs.Telling.{kept_of}

-- the new values of the counted sources that are not left, and else the values before
abbrev pub kept_but : {X : Type 0} → ℕ → ℕ → X → (ℕ → X) → List X → ℕ → X
kept_but counted left d new before j = if has counted j && not (has left j) then new j else get_or before j d

pub kept-first : {X : Type 0} (counted : ℕ) (d : X) (new : ℕ → X) (before : List X) (j : ℕ) → get_or before j d ≡ kept_but counted counted d new before j
kept-first counted d new before j = by (has counted j)
  where
    by : (b : Bool) → get_or before j d ≡ (if b && not b then new j else get_or before j d)
    by true = refl
    by false = refl

is-new : {X : Type 0} (a b : Bool) (x y : X) → a ≡ true → b ≡ false → x ≡ (if a && not b then x else y)
is-new true false x y ha hb = refl
is-new true true x y ha hb = absurd (cc)
is-new false b x y ha hb = absurd (cc)

but-none : (b : Bool) → (b && not false) ≡ b
but-none true = refl
but-none false = refl

pub length-kept : {X : Type 0} (counted : ℕ) (d : X) (new : ℕ → X) (before : List X) → length (kept_of counted d new before) ≡ 16
unfolding kept_of
length-kept counted d new before = refl

-- what is kept of source `j` is the new value if it counts, and else the one before
pub kept-at : {X : Type 0} (counted : ℕ) (d : X) (new : ℕ → X) (before : List X) (j : ℕ) → j < 16 → get_or (kept_of counted d new before) j d ≡ (if has counted j then new j else get_or before j d)
unfolding kept_of
kept-at counted d new before j h = get_or-map-range_with_len (λ j. if has counted j then new j else get_or before j d) 0 16 j j d h (let e : 0 + j ≡ j = omega arith in e)

-- a source that is left was left before
pub left-before : (left left' k j : ℕ) → left' ≡ set_of (λ i. has left i && not (i == k)) → j < 16 → has left' j ≡ true → has left j ≡ true
left-before left left' k j removed h is = front (has left j) (j == k) (sym (has-is left' j (λ i. has left i && not (i == k)) removed h) ∙ is)
  where
    front : (a b : Bool) → (a && not b) ≡ true → a ≡ true
    front true b e = refl
    front false b e = absurd (cc)

-- with one more source its new value is kept
pub kept-next : {X : Type 0} (counted left left' k : ℕ) (d v : X) (new : ℕ → X) (before kept : List X) → k < 16 → length kept ≡ 16 → v ≡ new k → has counted k ≡ true
    → left' ≡ set_of (λ i. has left i && not (i == k))
    → ((j : ℕ) → j < 16 → get_or kept j d ≡ kept_but counted left d new before j)
    → (j : ℕ) → j < 16 → get_or (set kept k v) j d ≡ kept_but counted left' d new before j
kept-next {X} counted left left' k d v new before kept small long is within removed so_far j h =
    elim (cases_eq j k) [
      | inl same ↦ subst Keeps (sym same) (get_or-set_same kept k v d (omega (arith, small, long)) ∙ is ∙ is-new (has counted k) (has left' k) _ _ within gone)
      | inr apart ↦ get_or-set_other kept k j v d apart ∙ so_far j h
          ∙ ap (λ b. if has counted j && not b then new j else get_or before j d) (sym (stays apart))
    ]
  where
    Keeps : ℕ → Type 0
    Keeps i = get_or (set kept k v) i d ≡ kept_but counted left' d new before i

    gone : has left' k ≡ false
    gone = has-is left' k (λ i. has left i && not (i == k)) removed small ∙ ap (λ b. has left k && not b) (eq_self k) ∙ and-not_true (has left k)

    stays : j ≢ k → has left' j ≡ has left j
    stays apart = has-is left' j (λ i. has left i && not (i == k)) removed h ∙ ap (λ b. has left j && not b) (eq_other j k apart) ∙ but-none (has left j)

pub kept-all : {X : Type 0} (counted left : ℕ) (d : X) (new : ℕ → X) (before kept : List X) → length kept ≡ 16 → left ≡ 0
    → ((j : ℕ) → j < 16 → get_or kept j d ≡ kept_but counted left d new before j) → kept ≡ kept_of counted d new before
kept-all counted left d new before kept long none so_far =
    ext_get_or d kept (kept_of counted d new before) (long ∙ sym (length-kept counted d new before)) (λ j h.
    let small : j < 16 = omega (arith, long, h) in
    so_far j small
    ∙ ap (λ b. if has counted j && not b then new j else get_or before j d) (ap (λ s. has s j) none ∙ has_none j)
    ∙ ap (λ b. if b then new j else get_or before j d) (but-none (has counted j)) ∙ sym (kept-at counted d new before j small))
