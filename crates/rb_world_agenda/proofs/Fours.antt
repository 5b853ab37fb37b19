-- The least of 32 marks is read off the least of each four.
use Rattle.std.proofs.{Common.{◌≡◌, ℕ, ◌+◌, ◌*◌, ◌/◌, ◌<◌, ◌≤◌, min, List, length, get_or, inl, inr, sym, ap, ◌∙◌, subst, arith}, Math.Path.ap₂, lemmas.Bool.{cases_eq, cases_lt}, lemmas.List.{length-set, get_or-set_same, get_or-set_other}}
use Rattle.std.specs.Prelude.{slice_set}
use Rattle.rb_world_agenda.specs.{Agenda.least_key, Fours.{AreFours, four_at}}
use Rattle.rb_world_agenda.proofs.Fronts.{least-above, least-low, least-most}

four-same : (xs ys : List ℕ) (i : ℕ) → get_or xs i 0 ≡ get_or ys i 0 → get_or xs (i + 1) 0 ≡ get_or ys (i + 1) 0 → get_or xs (i + 2) 0 ≡ get_or ys (i + 2) 0
    → get_or xs (i + 3) 0 ≡ get_or ys (i + 3) 0 → four_at xs i ≡ four_at ys i
four-same xs ys i a b c d = ap₂ min (ap₂ min a b) (ap₂ min c d)

-- a change of a mark among the four open ones keeps `AreFours`
pub fours-put : (all leasts : List ℕ) (opened at place mark : ℕ) → AreFours all leasts opened at → place / 4 ≡ opened → AreFours (slice_set all place mark) leasts opened at
fours-put all leasts opened at place mark h is = record {
  marks = length-set all place mark ∙ h.marks;
  many = h.many;
  within = h.within;
  none = h.none;
  others = λ j few no.
      h.others j few no
      ∙ sym (four-same (slice_set all place mark) all (j * 4)
      (get_or-set_other all place (j * 4) mark 0 (λ e. no (omega (arith, e, is))))
      (get_or-set_other all place (j * 4 + 1) mark 0 (λ e. no (omega (arith, e, is))))
      (get_or-set_other all place (j * 4 + 2) mark 0 (λ e. no (omega (arith, e, is))))
      (get_or-set_other all place (j * 4 + 3) mark 0 (λ e. no (omega (arith, e, is)))));
  there = h.there;
}

-- the least of the open four is kept, and another four is opened
pub fours-turned : (all leasts after : List ℕ) (opened at own next place : ℕ) → AreFours all leasts opened at → own ≡ four_at all (opened * 4) → next < 8
    → after ≡ slice_set (slice_set leasts opened own) next 18446744073709551615 → (place < 32 → place / 4 ≡ next) → AreFours all after next place
fours-turned all leasts after opened at own next place h is few new there =
    let kept : List ℕ = slice_set leasts opened own in
    let long : length kept ≡ 8 = length-set leasts opened own ∙ h.many in
    subst (λ ls. AreFours all ls next place) (sym new) (record {
      marks = h.marks;
      many = length-set kept next 18446744073709551615 ∙ long;
      within = few;
      none = get_or-set_same kept next 18446744073709551615 0 (omega (arith, few, long));
      others = λ j small no.
          get_or-set_other kept next j 18446744073709551615 0 no
          ∙ (elim (cases_eq j opened) as (λ _. get_or kept j 0 ≡ four_at all (j * 4)) [
            | inl e ↦
                let within = h.within in
                let many = h.many in
                ap (λ k. get_or kept k 0) e ∙ get_or-set_same leasts opened own 0 (omega (arith, within, many)) ∙ is ∙ ap (λ k. four_at all (k * 4)) (sym e)
            | inr n ↦ get_or-set_other leasts opened j own 0 n ∙ h.others j small n
          ]);
      there = there;
    })

four-low : (xs : List ℕ) (i k : ℕ) → i ≤ k → k < i + 4 → four_at xs i ≤ get_or xs k 0
four-low xs i k low high = elim (cases_eq k i) [
  | inl a ↦ subst (λ n. four_at xs i ≤ get_or xs n 0) (sym a) (omega arith)
  | inr a ↦ elim (cases_eq k (i + 1)) [
    | inl b ↦ subst (λ n. four_at xs i ≤ get_or xs n 0) (sym b) (omega arith)
    | inr b ↦ elim (cases_eq k (i + 2)) [
      | inl c ↦ subst (λ n. four_at xs i ≤ get_or xs n 0) (sym c) (omega arith)
      | inr c ↦
          let last : k ≡ i + 3 = elim (cases_eq k (i + 3)) [
            | inl e ↦ e
            | inr d ↦ absurd (d (elim (cases_lt k (i + 2)) [
              | inl less ↦ absurd (elim (cases_lt k (i + 1)) [
                | inl lower ↦ a (omega (arith, lower, low))
                | inr ge ↦ b (omega (arith, less, ge))
              ])
              | inr ge ↦ absurd (elim (cases_lt k (i + 3)) [
                | inl less ↦ c (omega (arith, less, ge))
                | inr more ↦ d (omega (arith, more, high))
              ])
            ]))
          ] in
          subst (λ n. four_at xs i ≤ get_or xs n 0) (sym last) (omega arith)
    ]
  ]
]

-- the least of four keys is at least the least of all
four-high : (all : List ℕ) (i : ℕ) → i + 4 ≤ length all → least_key all ≤ four_at all i
four-high all i h =
    let a = least-low all i (omega (arith, h)) in
    let b = least-low all (i + 1) (omega (arith, h)) in
    let c = least-low all (i + 2) (omega (arith, h)) in
    let d = least-low all (i + 3) (omega (arith, h)) in
    omega (arith, a, b, c, d)

kept-high : (all leasts : List ℕ) (opened at j : ℕ) → AreFours all leasts opened at → j < 8 → least_key all ≤ get_or leasts j 0
kept-high all leasts opened at j h few =
    let marks = h.marks in
    elim (cases_eq j opened) as (λ _. least_key all ≤ get_or leasts j 0) [
      | inl e ↦ subst (λ n. least_key all ≤ n) (sym (ap (λ k. get_or leasts k 0) e ∙ h.none)) (least-most all)
      | inr n ↦ subst (λ n. least_key all ≤ n) (sym (h.others j few n)) (four-high all (j * 4) (omega (arith, few, marks)))
    ]

-- the least of what is kept of all fours and of the open four is at most each mark
below : (all leasts : List ℕ) (opened at own rest : ℕ) → AreFours all leasts opened at → own ≡ four_at all (opened * 4) → own < 18446744073709551616
    → ((j : ℕ) → j < 8 → rest ≤ get_or leasts j 0) → min own rest ≤ least_key all
below all leasts opened at own rest h is fits low =
    let marks = h.marks in
    least-above all (min own rest) (omega (arith, fits)) (λ k inside.
    let j : ℕ = k / 4 in
    let few : j < 8 = omega (arith, inside, marks) in
    let four : four_at all (j * 4) ≤ get_or all k 0 = four-low all (j * 4) k (omega arith) (omega arith) in
    let under : min own rest ≤ four_at all (j * 4) = elim (cases_eq j opened) as (λ _. min own rest ≤ four_at all (j * 4)) [
      | inl e ↦ subst (λ m. min own rest ≤ four_at all (m * 4)) (sym e) (omega (arith, is))
      | inr apart ↦
          let kept = low j few in
          let same = h.others j few apart in
          omega (arith, kept, same)
    ] in
    omega (arith, four, under))

-- the least of both halves is the least of all 32 keys
pub fours-least : (all leasts : List ℕ) (opened at own rest found : ℕ) → AreFours all leasts opened at → own ≡ four_at all (opened * 4) → own < 18446744073709551616
    → rest ≡ min (four_at leasts 0) (four_at leasts 4) → found ≡ min own rest → found ≡ least_key all
fours-least all leasts opened at own rest found h is fits are sum =
    let marks = h.marks in
    let within = h.within in
    let lower : min own rest ≤ least_key all = below all leasts opened at own rest h is fits (λ j few.
    elim (cases_lt j 4) as (λ _. rest ≤ get_or leasts j 0) [
      | inl less ↦ let four = four-low leasts 0 j (omega arith) (omega (arith, less)) in omega (arith, four, are)
      | inr ge ↦ let four = four-low leasts 4 j (omega (arith, ge)) (omega (arith, few)) in omega (arith, four, are)
    ]) in
    let mine : least_key all ≤ own = subst (λ m. least_key all ≤ m) (sym is) (four-high all (opened * 4) (omega (arith, within, marks))) in
    let first : least_key all ≤ four_at leasts 0 = kept-four all leasts opened at 0 h (omega arith) in
    let second : least_key all ≤ four_at leasts 4 = kept-four all leasts opened at 4 h (omega arith) in
    omega (arith, lower, mine, first, second, are, sum)
  where
    kept-four : (all leasts : List ℕ) (opened at i : ℕ) → AreFours all leasts opened at → i + 4 ≤ 8 → least_key all ≤ four_at leasts i
    kept-four all leasts opened at i h few =
        let a = kept-high all leasts opened at i h (omega (arith, few)) in
        let b = kept-high all leasts opened at (i + 1) h (omega (arith, few)) in
        let c = kept-high all leasts opened at (i + 2) h (omega (arith, few)) in
        let d = kept-high all leasts opened at (i + 3) h (omega (arith, few)) in
        omega (arith, a, b, c, d)
