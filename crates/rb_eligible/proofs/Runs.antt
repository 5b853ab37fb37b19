-- Runs of sources that spell alike: what is taken of one, and what is known once it passed.
use Rattle.std.proofs.{Common.{◌≡◌, ℕ, ◌*◌, ◌<◌, ◌≤◌, ◌^◌, ◌⊎◌, Bool, true, false, not, ◌&&◌, ◌||◌, ◌==◌, if◌then◌else◌, Option, Some, None, is_some, unwrap_or, List, length, get_or, replicate, set, lit<, inl, inr, refl, sym, ◌∙◌, ap, subst, arith}, lemmas.Bool.cases_eq, lemmas.List.{get_or-replicate, get_or-set_other, get_or-set_same}}
use Rattle.rb_base.specs.{Nodes.{has, set_of, size}, declared.values.Heard.Heard, declared.values.Heard.TheVariants.Fault}
use Rattle.rb_base.proofs.{Plain.{and-true, and_first, and_second}, Sets.{eq_other, has-is, has_none, is_set_of, set_of-lt}, SetSizes.{size_less, size_within}}
use Rattle.rb_rules.specs.{declared.sense.Expect.Expect, ExactStage.present, Majority.majority_of, Sense.{is_one, value_in}}
use Rattle.rb_frame.specs.Spellings.{high_of, len_of, spelled}
use Rattle.rb_eligible.specs.{declared.reading.Sole.Sole, Inboxes.{KeptArrivals, is_sole, sense_in, sole_at}, Readings.{Says, bytes_of}, Takings.{AreOnesOf, AreValuesOf, IsPartial, IsRun}}
use Rattle.rb_eligible.proofs.{Alike.leading_vote, Scans.within_next, Sensed.{read_one, read_value, says_none}}

not_true : (b : Bool) → (b ≡ true → false ≡ true) → b ≡ false
not_true true none = let e : false ≡ true = none refl in absurd cc
not_true false none = refl

-- before the first source the run has passed none
pub run_none : (kept : KeptArrivals) (left : ℕ) (sole : Sole) (value : Option Heard) (taken : List (Option Heard)) → IsRun kept left left sole value taken taken
run_none kept left sole value taken = record {
  within = λ j h inside. inside;
  same = λ j h inside gone. let e : true ≡ false = sym inside ∙ gone in absurd cc;
  others = λ j h out. refl;
}

not_left : (a e : Bool) → e ≡ false → (a && not e) ≡ false → a ≡ false
not_left true e apart gone = let n : true ≡ false = sym (ap not apart) ∙ gone in absurd cc
not_left false e apart gone = refl

-- the run passes one more source that spells alike
pub run_next : (kept : KeptArrivals) (left rest rest' k : ℕ) (sole : Sole) (value : Option Heard) (before taken : List (Option Heard)) → k < 16 → length taken ≡ 16
    → has rest k ≡ true → rest' ≡ set_of (λ i. has rest i && not (i == k)) → (sole_at kept.soles k).low ≡ sole.low → (sole_at kept.soles k).tail ≡ sole.tail
    → IsRun kept left rest sole value before taken → IsRun kept left rest' sole value before (set taken k value)
run_next kept left rest rest' k sole value before taken below all here rest_is low tail run =
    let removed : (j : ℕ) → j < 16 → has rest' j ≡ (has rest j && not (j == k)) = λ j h. has-is rest' j (λ i. has rest i && not (i == k)) rest_is h in
    record {
      within = within_next (has left) rest rest' k removed run.within;
      same = λ j h inside gone.
          elim (cases_eq j k) [
            | inl at ↦ rw at (get_or-set_same taken k value None (omega (arith, below, all)), low, tail)
            | inr apart ↦
                let was = run.same j h inside (not_left (has rest j) (j == k) (eq_other j k apart) (sym (removed j h) ∙ gone)) in
                (get_or-set_other taken k j value None apart ∙ was.0, was.1, was.2)
          ];
      others = λ j h out.
          get_or-set_other taken k j value None (λ at. (let e : true ≡ false = sym (run.within k below here) ∙ ap (has left) (sym at) ∙ out in absurd cc))
          ∙ run.others j h out;
    }

pub run_fewer : (left rest k : ℕ) → k < 16 → has left k ≡ true → has rest k ≡ false → ((j : ℕ) → j < 16 → has rest j ≡ true → has left j ≡ true) → size rest < size left
run_fewer left rest k below inside gone within =
    let most : size rest ≤ size (set_of (λ i. has left i && not (i == k))) =
    size_within rest (set_of (λ i. has left i && not (i == k))) (λ i h here.
    has-is (set_of (λ i. has left i && not (i == k))) i (λ i. has left i && not (i == k)) refl h
    ∙ rw (within i h here, eq_other i k (λ at. (let e : true ≡ false = sym here ∙ ap (has rest) at ∙ gone in absurd cc))) refl) in
    omega (arith, most, size_less left k below inside)

-- sources that spell alike say the same
says_at : (e : Expect) (s t : Sole) (one : Bool) (value : Option Heard) → t.low ≡ s.low → t.tail ≡ s.tail → Says e (bytes_of s) one value → Says e (bytes_of t) one value
says_at e s t one value low tail says =
    subst (λ (n : ℕ). Says e (spelled n (high_of t.tail) (len_of t.tail)) one value) (sym low)
    (subst (λ (n : ℕ). Says e (spelled s.low (high_of n) (len_of n)) one value) (sym tail) says)

-- before the first source nothing was accepted
pub partial_first : (kept : KeptArrivals) (e : Expect) (due left ones lead : ℕ) (value : Option Heard) (taken : List (Option Heard)) → left ≡ due → ones ≡ 0 → lead ≡ 0
    → taken ≡ replicate 16 None → IsPartial kept e due left ones lead value taken
partial_first kept e due left ones lead value taken left_is ones_is lead_is blank =
    rw (left_is, ones_is, lead_is) (record {
      fits = lit< tt;
      within = λ j h inside. inside;
      one = λ received shown j h. has_none j ∙ sym (none (has due j) (is_one (sense_in e received j)));
      so_far = λ received shown j h out. nothing_at j h ∙ sym (ap (λ b. if b then value_in (sense_in e received j) else None) out);
      blank = λ j h out poor. nothing_at j h;
      held = λ j h inside. (let n : true ≡ false = sym inside ∙ has_none j in absurd cc);
    })
  where
    nothing_at : (j : ℕ) → j < 16 → get_or taken j None ≡ None
    nothing_at j h = ap (λ xs. get_or xs j None) blank ∙ get_or-replicate 16 j None None h

    none : (b q : Bool) → ((b && not b) && q) ≡ false
    none true q = refl
    none false q = refl

nothing : (a b : Bool) → (a || (b && false)) ≡ a
nothing true b = refl
nothing false true = refl
nothing false false = refl

one_at : (l r d q one o : Bool) → (l ≡ true → d ≡ true) → (r ≡ true → l ≡ true) → (l ≡ true → r ≡ false → one ≡ q) → o ≡ ((d && not l) && q)
    → (o || (one && (l && not r))) ≡ ((d && not r) && q)
one_at true true true q one o due within is so_far = nothing o one ∙ so_far
one_at true false true q one o due within is so_far = ap (λ o. o || (one && true)) so_far ∙ and-true one ∙ is refl refl
one_at true r false q one o due within is so_far = let e : false ≡ true = due refl in absurd cc
one_at false true d q one o due within is so_far = let e : false ≡ true = within refl in absurd cc
one_at false false d q one o due within is so_far = nothing o one ∙ so_far

poor_one : (o one : Bool) → (o || (one && true)) ≡ false → one ≡ false
poor_one true one poor = absurd cc
poor_one false true poor = poor
poor_one false false poor = refl

-- a run of the same value joins the leading group
pub with_led : (lead run all j : ℕ) (v value : Option Heard) → all ≡ set_of (λ i. has lead i || has run i) → v ≡ value → is_some v ≡ true → j < 16 → has all j ≡ true
    → ((has lead j ≡ true) × (v ≡ value)) ⊎ ((has run j ≡ true) × ((v ≡ v) × (is_some v ≡ true)))
with_led lead run all j v value is same some h inside = go (has lead j) (has run j) refl refl (sym (has-is all j (λ i. has lead i || has run i) is h) ∙ inside)
  where
    go : (a b : Bool) → has lead j ≡ a → has run j ≡ b → (a || b) ≡ true → ((has lead j ≡ true) × (v ≡ value)) ⊎ ((has run j ≡ true) × ((v ≡ v) × (is_some v ≡ true)))
    go true b here there either = inl (here, same)
    go false true here there either = inr (there, (refl, some))
    go false false here there either = absurd cc

pub some_value : (v : Option Heard) → is_some v ≡ true → (x : Heard) × (v ≡ Some x)
some_value None some = absurd cc
some_value (Some x) some = (x, refl)

-- one more run was passed
pub partial_next : (kept : KeptArrivals) (e : Expect) (due left rest ones ones' lead lead' : ℕ) (one : Bool) (v value value' : Option Heard) (sole : Sole) (taken taken' : List (Option Heard))
    → ((j : ℕ) → j < 16 → has due j ≡ true → is_sole kept j ≡ true) → Says e (bytes_of sole) one v → IsRun kept left rest sole v taken taken' → ones' < 2 ^ 16
    → ((j : ℕ) → j < 16 → has ones' j ≡ (has ones j || (one && (has left j && not (has rest j)))))
    → ((j : ℕ) → j < 16 → has lead' j ≡ true
    → ((has lead j ≡ true) × (value' ≡ value)) ⊎ (((has left j && not (has rest j)) ≡ true) × ((value' ≡ v) × (is_some v ≡ true))))
    → IsPartial kept e due left ones lead value taken → IsPartial kept e due rest ones' lead' value' taken'
partial_next kept e due left rest ones ones' lead lead' one v value value' sole taken taken' soles says run fits more led before = record {
  fits = fits;
  within = λ j h inside. before.within j h (run.within j h inside);
  one = λ received shown j h.
      more j h
      ∙ one_at (has left j) (has rest j) (has due j) (is_one (sense_in e received j)) one (has ones j) (before.within j h) (run.within j h)
      (λ inside gone. read_one e kept received j one v shown h (soles j h (before.within j h inside)) (says_of j h inside gone)) (before.one received shown j h);
  so_far = λ received shown j h gone.
      (let go : (b : Bool) → has left j ≡ b → get_or taken' j None ≡ (if has due j then value_in (sense_in e received j) else None) =
      λ b. elim b as (λ b. has left j ≡ b → get_or taken' j None ≡ (if has due j then value_in (sense_in e received j) else None)) [
        | true ↦ λ inside.
            (run.same j h inside gone).0 ∙ read_value e kept received j one v shown h (soles j h (before.within j h inside)) (says_of j h inside gone)
            ∙ sym (ap (λ b. if b then value_in (sense_in e received j) else None) (before.within j h inside))
        | false ↦ λ out. run.others j h out ∙ before.so_far received shown j h out
      ] in
      go (has left j) refl);
  blank = λ j h gone poor.
      (let go : (b : Bool) → has left j ≡ b → get_or taken' j None ≡ None =
      λ b. elim b as (λ b. has left j ≡ b → get_or taken' j None ≡ None) [
        | true ↦ λ inside.
            (run.same j h inside gone).0
            ∙ says_none e (bytes_of sole) one v says
            (poor_one (has ones j) one (sym (more j h ∙ ap (λ b. has ones j || (one && (b && not (has rest j)))) inside ∙ ap (λ b. has ones j || (one && not b)) gone) ∙ poor))
        | false ↦ λ out.
            run.others j h out
            ∙ before.blank j h out (sym (more j h ∙ ap (λ b. has ones j || (one && (b && not (has rest j)))) out ∙ nothing (has ones j) one) ∙ poor)
      ] in
      go (has left j) refl);
  held = λ j h inside.
      elim (led j h inside) [
        | inl old ↦
            (let was = before.held j h old.0 in
            (not_true (has rest j) (λ here. sym was.0 ∙ run.within j h here), (was.1.0, (run.others j h was.0 ∙ was.1.1.0, old.1 ∙ was.1.1.1))))
        | inr new ↦
            (let x = some_value v new.1.1 in
            let gone : has rest j ≡ false = unless (has rest j) (and_second (has left j) (not (has rest j)) new.0) in
            (gone, (x.0, ((run.same j h (and_first (has left j) (not (has rest j)) new.0) gone).0 ∙ x.1, new.1.0 ∙ x.1))))
      ];
}
  where
    unless : (b : Bool) → not b ≡ true → b ≡ false
    unless true e = absurd cc
    unless false e = refl

    says_of : (j : ℕ) → j < 16 → has left j ≡ true → has rest j ≡ false → Says e (bytes_of (sole_at kept.soles j)) one v
    says_of j h inside gone = let same = run.same j h inside gone in says_at e sole (sole_at kept.soles j) one v same.1 same.2 says

-- the ones are those before, and the run if it is one
pub more_ones : (left rest run ones ones' : ℕ) (one : Bool) → run ≡ set_of (λ j. has left j && not (has rest j)) → ones' ≡ (if one then set_of (λ j. has ones j || has run j) else ones)
    → (j : ℕ) → j < 16 → has ones' j ≡ (has ones j || (one && (has left j && not (has rest j))))
more_ones left rest run ones ones' true run_is is j h =
    has-is ones' j (λ j. has ones j || has run j) is h ∙ ap (λ b. has ones j || b) (has-is run j (λ j. has left j && not (has rest j)) run_is h)
more_ones left rest run ones ones' false run_is is j h = ap (λ t. has t j) is ∙ none (has ones j)
  where
    none : (a : Bool) → a ≡ (a || false)
    none true = refl
    none false = refl

pub more_fit : (ones ones' run : ℕ) (one : Bool) → ones' ≡ (if one then set_of (λ j. has ones j || has run j) else ones) → ones < 2 ^ 16 → ones' < 2 ^ 16
more_fit ones ones' run true is fits = rw is (set_of-lt (λ j. has ones j || has run j))
more_fit ones ones' run false is fits = omega (arith, is, fits)

pub more_led : (left rest run lead lead' : ℕ) (v value value' : Option Heard) → run ≡ set_of (λ j. has left j && not (has rest j))
    → ((j : ℕ) → j < 16 → has lead' j ≡ true → ((has lead j ≡ true) × (value' ≡ value)) ⊎ ((has run j ≡ true) × ((value' ≡ v) × (is_some v ≡ true))))
    → (j : ℕ) → j < 16 → has lead' j ≡ true → ((has lead j ≡ true) × (value' ≡ value)) ⊎ (((has left j && not (has rest j)) ≡ true) × ((value' ≡ v) × (is_some v ≡ true)))
more_led left rest run lead lead' v value value' run_is led j h inside =
    elim (led j h inside) [
      | inl old ↦ inl old
      | inr new ↦ inr (sym (has-is run j (λ j. has left j && not (has rest j)) run_is h) ∙ new.0, new.1)
    ]

gone_all : (left j : ℕ) → left ≡ 0 → has left j ≡ false
gone_all left j none = ap (λ s. has s j) none ∙ has_none j

pub partial_ones : (kept : KeptArrivals) (e : Expect) (due left ones lead : ℕ) (value : Option Heard) (taken : List (Option Heard)) → left ≡ 0
    → IsPartial kept e due left ones lead value taken → AreOnesOf kept e (has due) ones
partial_ones kept e due left ones lead value taken none partial = λ received shown.
    is_set_of ones (λ j. has due j && is_one (sense_in e received j)) partial.fits
    (λ j h. partial.one received shown j h ∙ ap (λ b. (has due j && not b) && is_one (sense_in e received j)) (gone_all left j none)
    ∙ ap (λ b. b && is_one (sense_in e received j)) (and-true (has due j)))

pub partial_values : (kept : KeptArrivals) (e : Expect) (due left ones lead : ℕ) (value : Option Heard) (taken : List (Option Heard)) → left ≡ 0
    → IsPartial kept e due left ones lead value taken → AreValuesOf kept e due taken
partial_values kept e due left ones lead value taken none partial = λ received shown j h. partial.so_far received shown j h (gone_all left j none)

pub partial_vote : (kept : KeptArrivals) (e : Expect) (due left ones lead : ℕ) (value : Option Heard) (taken : List (Option Heard)) → left ≡ 0 → length taken ≡ 16
    → size ones < 2 * size lead → IsPartial kept e due left ones lead value taken → majority_of (present taken) ≡ unwrap_or value Fault
partial_vote kept e due left ones lead value taken none all leads partial =
    leading_vote value ones lead taken all (λ j h inside. (partial.held j h inside).1) (λ j h poor. partial.blank j h (gone_all left j none) poor) leads

-- if the sources begin with a run of one word, that run leads
pub word_begun : (kept : KeptArrivals) (e : Expect) (due rest run : ℕ) (x : Heard) (sole : Sole) (taken taken' : List (Option Heard))
    → ((j : ℕ) → j < 16 → has due j ≡ true → is_sole kept j ≡ true) → taken ≡ replicate 16 None → Says e (bytes_of sole) true (Some x) → IsRun kept due rest sole (Some x) taken taken'
    → run < 2 ^ 16 → ((j : ℕ) → j < 16 → has run j ≡ (has due j && not (has rest j))) → IsPartial kept e due rest run run (Some x) taken'
word_begun kept e due rest run x sole taken taken' soles blank says taking fits is =
    partial_next kept e due due rest 0 run 0 run true (Some x) None (Some x) sole taken taken' soles says taking fits
    (λ j h. is j h ∙ sym (ap (λ b. b || (has due j && not (has rest j))) (has_none j)))
    (λ j h inside. inr (sym (is j h) ∙ inside, (refl, refl)))
    (partial_first kept e due due 0 0 None taken refl refl refl blank)

-- if the run of one word has all sources, they all lead
pub word_of_all : (kept : KeptArrivals) (e : Expect) (due rest : ℕ) (x : Heard) (sole : Sole) (taken taken' : List (Option Heard))
    → ((j : ℕ) → j < 16 → has due j ≡ true → is_sole kept j ≡ true) → taken ≡ replicate 16 None → Says e (bytes_of sole) true (Some x) → IsRun kept due rest sole (Some x) taken taken'
    → due < 2 ^ 16 → rest ≡ 0 → IsPartial kept e due rest due due (Some x) taken'
word_of_all kept e due rest x sole taken taken' soles blank says taking fits none =
    word_begun kept e due rest due x sole taken taken' soles blank says taking fits (λ j h. sym (ap (λ b. has due j && not b) (gone_all rest j none) ∙ and-true (has due j)))
