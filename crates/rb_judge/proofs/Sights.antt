-- One sight more of a source.
use Rattle.std.proofs.{Common.{◌≡◌, ◌≢◌, ℕ, ◌+◌, ◌<◌, ◌^◌, ◌⊎◌, Bool, true, false, not, ◌&&◌, ◌||◌, ◌==◌, nat_le, min, max, if◌then◌else◌, inl, inr, refl, sym, ◌∙◌, ap, subst, arith}, lemmas.Bool.{and_from, and_parts, eqb-true, not-true, not_from_false, or_cases, or_left, or_right}, lemmas.Bool.Decides.nat_tests, Math.Path.fun_ext}
use Rattle.rb_base.specs.{Nodes.{has, set_of}, declared.values.Heard.Heard, declared.values.Heard.TheVariants.{Word, Fault}, declared.values.See.See}
use Rattle.rb_base.proofs.{Plain.{eq_self, or-false, same_bool}, Sets.{eq_other, has-is, same_set}}
use Rattle.rb_rules.specs.{Judging.{are_alike, is_something}, Majority.same_heard}
use Rattle.rb_rules.proofs.Majorities.{same_heard_self}
use Rattle.rb_judge.specs.{declared.seen.KeptSight.KeptSight, declared.seen.KeptSight.TheVariants.{Unlike, Value, Times}, declared.seen.SourceSights.SourceSights, Sights.{IsKept, ShowsSource, clashes, is_unlike, kept_of, kept_with, some_differs, some_node, some_unlike, widened}}
use Rattle.rb_judge.proofs.SomeNode.{some_fails, some_found, some_is, some_none}
use Rattle.rb_base.specs.declared.values.See.TheVariants as see

-- ---- sights are alike in either order, and each is like itself

heard_order : (v w : Heard) → same_heard v w ≡ same_heard w v
heard_order (Word a) (Word b) = grind (arith, nat_tests)
heard_order (Word a) Fault = refl
heard_order Fault (Word b) = refl
heard_order Fault Fault = refl

and_order : (a b : Bool) → (a && b) ≡ (b && a)
and_order true true = refl
and_order true false = refl
and_order false true = refl
and_order false false = refl

alike_order : (eps : ℕ) (x y : See) → are_alike eps x y ≡ are_alike eps y x
alike_order eps see.Nothing see.Nothing = refl
alike_order eps see.Nothing (see.Value w) = refl
alike_order eps see.Nothing (see.Time u) = refl
alike_order eps (see.Value v) see.Nothing = refl
alike_order eps (see.Value v) (see.Value w) = heard_order v w
alike_order eps (see.Value v) (see.Time u) = refl
alike_order eps (see.Time t) see.Nothing = refl
alike_order eps (see.Time t) (see.Value w) = refl
alike_order eps (see.Time t) (see.Time u) = and_order (nat_le t (u + eps)) (nat_le u (t + eps))

alike_self : (eps : ℕ) (x : See) → are_alike eps x x ≡ true
alike_self eps see.Nothing = refl
alike_self eps (see.Value v) = same_heard_self v
alike_self eps (see.Time t) = grind (arith, nat_tests)

something_unlike_nothing : (eps : ℕ) (x y : See) → is_something x ≡ true → is_something y ≡ false → are_alike eps x y ≡ false
something_unlike_nothing eps see.Nothing y hx hy = absurd (cc)
something_unlike_nothing eps (see.Value v) see.Nothing hx hy = refl
something_unlike_nothing eps (see.Value v) (see.Value w) hx hy = absurd (cc)
something_unlike_nothing eps (see.Value v) (see.Time u) hx hy = absurd (cc)
something_unlike_nothing eps (see.Time t) see.Nothing hx hy = refl
something_unlike_nothing eps (see.Time t) (see.Value w) hx hy = absurd (cc)
something_unlike_nothing eps (see.Time t) (see.Time u) hx hy = absurd (cc)

-- ---- two receivers that saw unlike, one that saw unlike a sight

record IsPair (eps nodes : ℕ) (sight : ℕ → See) : Type 0 where
  first : ℕ
  second : ℕ
  first_below : first < 16
  second_below : second < 16
  first_in : has nodes first ≡ true
  second_in : has nodes second ≡ true
  unlike : are_alike eps (sight first) (sight second) ≡ false

pair_is : (eps nodes : ℕ) (sight : ℕ → See) → IsPair eps nodes sight → some_unlike eps nodes sight ≡ true
pair_is eps nodes sight p =
    some_is _ p.first p.first_below
    (and_from _ _ p.first_in (some_is (λ b. has nodes b && not (are_alike eps (sight p.first) (sight b))) p.second p.second_below (and_from _ _ p.second_in (not_from_false _ p.unlike))))

pair_found : (eps nodes : ℕ) (sight : ℕ → See) → some_unlike eps nodes sight ≡ true → IsPair eps nodes sight
pair_found eps nodes sight h =
    let outer = some_found (λ a. has nodes a && some_node (λ b. has nodes b && not (are_alike eps (sight a) (sight b)))) h in
    let a = outer.node in
    let at_a = and_parts (has nodes a) (some_node (λ b. has nodes b && not (are_alike eps (sight a) (sight b)))) outer.passing in
    let inner = some_found (λ b. has nodes b && not (are_alike eps (sight a) (sight b))) at_a.1 in
    let at_b = and_parts (has nodes inner.node) (not (are_alike eps (sight a) (sight inner.node))) inner.passing in
    record { first = a; second = inner.node; first_below = outer.below; second_below = inner.below; first_in = at_a.0; second_in = at_b.0; unlike = not-true _ at_b.1 }

record IsOne (eps nodes : ℕ) (sight : ℕ → See) (x : See) : Type 0 where
  one : ℕ
  below : one < 16
  within : has nodes one ≡ true
  unlike : are_alike eps (sight one) x ≡ false

one_is : (eps nodes : ℕ) (sight : ℕ → See) (x : See) → IsOne eps nodes sight x → some_differs eps nodes sight x ≡ true
one_is eps nodes sight x o = some_is (λ i. has nodes i && not (are_alike eps (sight i) x)) o.one o.below (and_from _ _ o.within (not_from_false _ o.unlike))

one_found : (eps nodes : ℕ) (sight : ℕ → See) (x : See) → some_differs eps nodes sight x ≡ true → IsOne eps nodes sight x
one_found eps nodes sight x h =
    let f = some_found (λ i. has nodes i && not (are_alike eps (sight i) x)) h in
    let at = and_parts (has nodes f.node) (not (are_alike eps (sight f.node) x)) f.passing in
    record { one = f.node; below = f.below; within = at.0; unlike = not-true _ at.1 }

-- ---- receiver r, which saw nothing so far, sees x

-- the receivers that saw something, before and after
record Adds (before after r : ℕ) : Type 0 where
  grown : (k : ℕ) → k < 16 → has after k ≡ (has before k || (k == r))
  fresh : has before r ≡ false
  below : r < 16

abbrev with_x : ℕ → See → (ℕ → See) → ℕ → See
with_x r x sight i = if i == r then x else sight i

at_r : (r : ℕ) (x : See) (sight : ℕ → See) → with_x r x sight r ≡ x
at_r r x sight = ap (λ b. if b then x else sight r) (eq_self r)

at_other : (r : ℕ) (x : See) (sight : ℕ → See) (k : ℕ) → k ≢ r → with_x r x sight k ≡ sight k
at_other r x sight k ne = ap (λ b. if b then x else sight k) (eq_other k r ne)

old_is_other : (before after r : ℕ) → Adds before after r → (k : ℕ) → has before k ≡ true → k ≢ r
old_is_other before after r adds k old same =
    let e : has before k ≡ has before r = ap (has before) same in let f = adds.fresh in absurd (cc)

old_stays : (before after r : ℕ) → Adds before after r → (k : ℕ) → k < 16 → has before k ≡ true → has after k ≡ true
old_stays before after r adds k below old = adds.grown k below ∙ or_left _ _ old

r_joins : (before after r : ℕ) → Adds before after r → has after r ≡ true
r_joins before after r adds = adds.grown r adds.below ∙ or_right _ _ (eq_self r)

-- a receiver in `after` was in `before`, or is `r`
r_or_old : (before after r : ℕ) → Adds before after r → (k : ℕ) → k < 16 → has after k ≡ true → (has before k ≡ true) ⊎ (k ≡ r)
r_or_old before after r adds k below now =
    elim (or_cases (has before k) (k == r) (sym (adds.grown k below) ∙ now)) [ inl old ↦ inl old | inr same ↦ inr (eqb-true k r same) ]

-- a receiver in `before` still sees what it saw
old_sees : (before after r : ℕ) (x : See) (sight : ℕ → See) → Adds before after r → (k : ℕ) → has before k ≡ true → with_x r x sight k ≡ sight k
old_sees before after r x sight adds k old = at_other r x sight k (old_is_other before after r adds k old)

r_sees : (r : ℕ) (x : See) (sight : ℕ → See) (k : ℕ) → k ≡ r → with_x r x sight k ≡ x
r_sees r x sight k same = ap (with_x r x sight) same ∙ at_r r x sight

-- with the sight `x` some sight differs from `y` if one did before, or if `x` is unlike `y`
one_more : (eps before after r : ℕ) (x : See) (sight : ℕ → See) → Adds before after r → (y : See)
    → some_differs eps after (with_x r x sight) y ≡ (some_differs eps before sight y || not (are_alike eps x y))
one_more eps before after r x sight adds y =
    let q : Bool = not (are_alike eps x y) in
    let p : Bool = some_differs eps before sight y in
    same_bool _ _
    (λ h.
    let o = one_found eps after (with_x r x sight) y h in
    elim (r_or_old before after r adds o.one o.below o.within) [
      | inl old ↦
          or_left p q (one_is eps before sight y (record {
            one = o.one;
            below = o.below;
            within = old;
            unlike = ap (λ s. are_alike eps s y) (sym (old_sees before after r x sight adds o.one old)) ∙ o.unlike;
          }))
      | inr same ↦ or_right p q (not_from_false _ (ap (λ s. are_alike eps s y) (sym (r_sees r x sight o.one same)) ∙ o.unlike))
    ])
    (λ h. elim (or_cases p q h) [
      | inl old ↦
          let o = one_found eps before sight y old in
          one_is eps after (with_x r x sight) y (record {
            one = o.one;
            below = o.below;
            within = old_stays before after r adds o.one o.below o.within;
            unlike = ap (λ s. are_alike eps s y) (old_sees before after r x sight adds o.one o.within) ∙ o.unlike;
          })
      | inr new ↦
          one_is eps after (with_x r x sight) y (record {
            one = r;
            below = adds.below;
            within = r_joins before after r adds;
            unlike = ap (λ s. are_alike eps s y) (at_r r x sight) ∙ not-true _ new;
          })
    ])

-- two receivers saw unlike if two did before, or if one saw unlike `x`
pair_more : (eps before after r : ℕ) (x : See) (sight : ℕ → See) → Adds before after r
    → some_unlike eps after (with_x r x sight) ≡ (some_unlike eps before sight || some_differs eps before sight x)
pair_more eps before after r x sight adds =
    let p : Bool = some_unlike eps before sight in
    let q : Bool = some_differs eps before sight x in
    let see : ℕ → See = with_x r x sight in
    same_bool _ _
    (λ h.
    let d = pair_found eps after see h in
    elim (r_or_old before after r adds d.first d.first_below d.first_in) [
      | inl old_a ↦
          let a_sees = old_sees before after r x sight adds d.first old_a in
          elim (r_or_old before after r adds d.second d.second_below d.second_in) [
            | inl old_b ↦
                let b_sees = old_sees before after r x sight adds d.second old_b in
                or_left p q (pair_is eps before sight (record {
                  first = d.first;
                  second = d.second;
                  first_below = d.first_below;
                  second_below = d.second_below;
                  first_in = old_a;
                  second_in = old_b;
                  unlike = ap (λ s. are_alike eps s (sight d.second)) (sym a_sees) ∙ ap (are_alike eps (see d.first)) (sym b_sees) ∙ d.unlike;
                }))
            | inr b_is_r ↦
                or_right p q (one_is eps before sight x (record {
                  one = d.first;
                  below = d.first_below;
                  within = old_a;
                  unlike = ap (λ s. are_alike eps s x) (sym a_sees) ∙ ap (are_alike eps (see d.first)) (sym (r_sees r x sight d.second b_is_r)) ∙ d.unlike;
                }))
          ]
      | inr a_is_r ↦
          let a_sees = r_sees r x sight d.first a_is_r in
          elim (r_or_old before after r adds d.second d.second_below d.second_in) [
            | inl old_b ↦
                let b_sees = old_sees before after r x sight adds d.second old_b in
                or_right p q (one_is eps before sight x (record {
                  one = d.second;
                  below = d.second_below;
                  within = old_b;
                  unlike = alike_order eps (sight d.second) x ∙ ap (λ s. are_alike eps s (sight d.second)) (sym a_sees) ∙ ap (are_alike eps (see d.first)) (sym b_sees) ∙ d.unlike;
                }))
            | inr b_is_r ↦
                let same : are_alike eps x x ≡ false =
                ap (λ s. are_alike eps s x) (sym a_sees) ∙ ap (are_alike eps (see d.first)) (sym (r_sees r x sight d.second b_is_r)) ∙ d.unlike in
                let self = alike_self eps x in
                absurd (cc)
          ]
    ])
    (λ h. elim (or_cases p q h) [
      | inl old ↦
          let d = pair_found eps before sight old in
          pair_is eps after see (record {
            first = d.first;
            second = d.second;
            first_below = d.first_below;
            second_below = d.second_below;
            first_in = old_stays before after r adds d.first d.first_below d.first_in;
            second_in = old_stays before after r adds d.second d.second_below d.second_in;
            unlike = ap (λ s. are_alike eps s (see d.second)) (old_sees before after r x sight adds d.first d.first_in) ∙ ap (are_alike eps (sight d.first)) (old_sees before after r x sight adds d.second d.second_in) ∙ d.unlike;
          })
      | inr new ↦
          let o = one_found eps before sight x new in
          pair_is eps after see (record {
            first = o.one;
            second = r;
            first_below = o.below;
            second_below = adds.below;
            first_in = old_stays before after r adds o.one o.below o.within;
            second_in = r_joins before after r adds;
            unlike = ap (λ s. are_alike eps s (see r)) (old_sees before after r x sight adds o.one o.within) ∙ ap (are_alike eps (sight o.one)) (at_r r x sight) ∙ o.unlike;
          })
    ])

-- ---- what is kept of them

first_clashes : (eps : ℕ) (x y : See) → is_something x ≡ true → is_something y ≡ true → clashes eps (kept_of x) y ≡ not (are_alike eps x y)
first_clashes eps see.Nothing y hx hy = absurd (cc)
first_clashes eps (see.Value v) see.Nothing hx hy = absurd (cc)
first_clashes eps (see.Value v) (see.Value w) hx hy = refl
first_clashes eps (see.Value v) (see.Time u) hx hy = refl
first_clashes eps (see.Time t) see.Nothing hx hy = absurd (cc)
first_clashes eps (see.Time t) (see.Value w) hx hy = refl
first_clashes eps (see.Time t) (see.Time u) hx hy = ap not (and_order (nat_le u (t + eps)) (nat_le t (u + eps)))

first_is_like : (x : See) → is_something x ≡ true → is_unlike (kept_of x) ≡ false
first_is_like see.Nothing hx = absurd (cc)
first_is_like (see.Value v) hx = refl
first_is_like (see.Time t) hx = refl

-- an equal value is unlike the same values
same_values : (v w u : Heard) → not (same_heard v w) ≡ false → not (same_heard v u) ≡ (not (same_heard v u) || not (same_heard w u))
same_values (Word a) (Word b) (Word c) h = grind (arith, nat_tests)
same_values (Word a) (Word b) Fault h = refl
same_values (Word a) Fault u h = absurd (cc)
same_values Fault (Word b) u h = absurd (cc)
same_values Fault Fault (Word c) h = refl
same_values Fault Fault Fault h = refl

wider_times : (eps l g t u : ℕ) → not (nat_le u (min l t + eps) && nat_le (max g t) (u + eps))
    ≡ (not (nat_le u (l + eps) && nat_le g (u + eps)) || not (nat_le t (u + eps) && nat_le u (t + eps)))
wider_times eps l g t u = grind (arith, nat_tests)

wider_clashes : (eps : ℕ) (kept : KeptSight) (x y : See) → is_something x ≡ true → is_something y ≡ true → clashes eps kept x ≡ false
    → clashes eps (widened kept x) y ≡ (clashes eps kept y || not (are_alike eps x y))
wider_clashes eps Unlike x y hx hy h = absurd (cc)
wider_clashes eps (Value v) see.Nothing y hx hy h = absurd (cc)
wider_clashes eps (Value v) (see.Value w) see.Nothing hx hy h = absurd (cc)
wider_clashes eps (Value v) (see.Value w) (see.Value u) hx hy h = same_values v w u h
wider_clashes eps (Value v) (see.Value w) (see.Time u) hx hy h = refl
wider_clashes eps (Value v) (see.Time t) y hx hy h = absurd (cc)
wider_clashes eps (Times l g) see.Nothing y hx hy h = absurd (cc)
wider_clashes eps (Times l g) (see.Value w) y hx hy h = absurd (cc)
wider_clashes eps (Times l g) (see.Time t) see.Nothing hx hy h = absurd (cc)
wider_clashes eps (Times l g) (see.Time t) (see.Value u) hx hy h = refl
wider_clashes eps (Times l g) (see.Time t) (see.Time u) hx hy h = wider_times eps l g t u

wider_is_like : (kept : KeptSight) (x : See) → is_unlike (widened kept x) ≡ is_unlike kept
wider_is_like Unlike x = refl
wider_is_like (Value v) x = refl
wider_is_like (Times l g) see.Nothing = refl
wider_is_like (Times l g) (see.Value w) = refl
wider_is_like (Times l g) (see.Time t) = refl

unlike_clashes : (eps : ℕ) (kept : KeptSight) (x : See) → is_unlike kept ≡ true → clashes eps kept x ≡ true
unlike_clashes eps Unlike x h = refl
unlike_clashes eps (Value v) x h = absurd (cc)
unlike_clashes eps (Times l g) x h = absurd (cc)

-- the first sight of a source is kept
kept_first : (eps before after r : ℕ) (x : See) (sight : ℕ → See) → Adds before after r → is_something x ≡ true
    → some_node (has before) ≡ false → IsKept eps after (with_x r x sight) (kept_of x)
kept_first eps before after r x sight adds something none =
    let no_one : (y : See) → some_differs eps before sight y ≡ false =
    λ y. some_none _ (λ i h. ap (λ b. b && not (are_alike eps (sight i) y)) (some_fails (has before) i none h)) in
    let no_pair : some_unlike eps before sight ≡ false =
    some_none _ (λ i h. ap (λ b. b && some_node (λ b. has before b && not (are_alike eps (sight i) (sight b)))) (some_fails (has before) i none h)) in
    record {
      unlike =
          first_is_like x something
          ∙ sym (pair_more eps before after r x sight adds ∙ ap (λ b. b || some_differs eps before sight x) no_pair ∙ no_one x);
      further = λ like y hy.
          first_clashes eps x y something hy
          ∙ sym (one_more eps before after r x sight adds y ∙ ap (λ b. b || not (are_alike eps x y)) (no_one y));
    }

-- a further sight of a source clashes with the kept one or widens it
kept_next : (eps before after r : ℕ) (x : See) (sight : ℕ → See) (kept : KeptSight) → Adds before after r → is_something x ≡ true
    → IsKept eps before sight kept → IsKept eps after (with_x r x sight) (if clashes eps kept x then Unlike else widened kept x)
kept_next eps before after r x sight kept adds something is =
    let Goal : Bool → Type 0 = λ c. IsKept eps after (with_x r x sight) (if c then Unlike else widened kept x) in
    let more = pair_more eps before after r x sight adds in
    let was_unlike : is_unlike kept ≡ true → some_unlike eps after (with_x r x sight) ≡ true =
    λ h. more ∙ or_left _ _ (sym is.unlike ∙ h) in
    let by_unlike : (u : Bool) → is_unlike kept ≡ u → (c : Bool) → clashes eps kept x ≡ c → Goal c =
    λ u. elim u as (λ u. is_unlike kept ≡ u → (c : Bool) → clashes eps kept x ≡ c → Goal c) [
      | true ↦ λ eu c. elim c as (λ c. clashes eps kept x ≡ c → Goal c) [
        | true ↦ λ ec. record { unlike = sym (was_unlike eu); further = λ like. absurd (cc) }
        | false ↦ λ ec. let e = unlike_clashes eps kept x eu in absurd (cc)
      ]
      | false ↦ λ eu c. elim c as (λ c. clashes eps kept x ≡ c → Goal c) [
        | true ↦ λ ec. record {
          unlike = sym (more ∙ or_right _ _ (sym (is.further eu x something) ∙ ec));
          further = λ like. absurd (cc);
        }
        | false ↦ λ ec. record {
          unlike =
              wider_is_like kept x ∙ eu
              ∙ sym (more ∙ ap (λ b. b || some_differs eps before sight x) (sym is.unlike ∙ eu) ∙ (sym (is.further eu x something) ∙ ec));
          further = λ like y hy.
              wider_clashes eps kept x y something hy ec
              ∙ ap (λ b. b || not (are_alike eps x y)) (is.further eu y hy)
              ∙ sym (one_more eps before after r x sight adds y);
        }
      ]
    ] in
    by_unlike (is_unlike kept) refl (clashes eps kept x) refl

kept_more : (eps before after r : ℕ) (x : See) (sight : ℕ → See) (heard : Bool) (kept : KeptSight) → Adds before after r → is_something x ≡ true
    → heard ≡ some_node (has before) → (heard ≡ true → IsKept eps before sight kept) → IsKept eps after (with_x r x sight) (kept_with eps heard kept x)
kept_more eps before after r x sight true kept adds something some is = kept_next eps before after r x sight kept adds something (is refl)
kept_more eps before after r x sight false kept adds something some is = kept_first eps before after r x sight adds something (sym some)

-- ---- whether two good receivers saw unlike

-- if the receivers that saw something are not all good ones, some good receiver saw nothing
left_out : (good by : ℕ) → good < 2 ^ 16 → by < 2 ^ 16 → ((i : ℕ) → i < 16 → has by i ≡ true → has good i ≡ true) → (by == good) ≡ false
    → some_node (λ i. has good i && not (has by i)) ≡ true
left_out good by fits_good fits_by within apart =
    let q : ℕ → Bool = λ i. has good i && not (has by i) in
    let same_at : (g b : Bool) → (b ≡ true → g ≡ true) → (g && not b) ≡ false → b ≡ g =
    λ g b. elim g as (λ g. (b ≡ true → g ≡ true) → (g && not b) ≡ false → b ≡ g) [
      | true ↦ elim b as (λ b. (b ≡ true → true ≡ true) → (true && not b) ≡ false → b ≡ true) [ true ↦ λ w n. refl | false ↦ λ w n. absurd (cc) ]
      | false ↦ elim b as (λ b. (b ≡ true → false ≡ true) → (false && not b) ≡ false → b ≡ false) [ true ↦ λ w n. absurd (let e = w refl in cc) | false ↦ λ w n. refl ]
    ] in
    let go : (b : Bool) → some_node q ≡ b → some_node q ≡ true =
    λ b. elim b as (λ b. some_node q ≡ b → some_node q ≡ true) [
      | true ↦ λ e. e
      | false ↦ λ e.
          let same : by ≡ good = same_set by good fits_by fits_good (λ i h. same_at (has good i) (has by i) (within i h) (some_fails q i e h)) in
          let yes : (by == good) ≡ true = ap (λ n. n == good) same ∙ eq_self good in
          absurd (cc)
    ] in
    go (some_node q) refl

-- receiver r saw something, and not all good receivers did
some_left_out : (eps good by r : ℕ) (sight : ℕ → See) → good < 2 ^ 16 → by < 2 ^ 16
    → ((i : ℕ) → i < 16 → has by i ≡ is_something (sight i)) → ((i : ℕ) → i < 16 → has by i ≡ true → has good i ≡ true)
    → r < 16 → has by r ≡ true → (by == good) ≡ false → some_unlike eps good sight ≡ true
some_left_out eps good by r sight fits_good fits_by sees within below r_in apart =
    let f = some_found (λ i. has good i && not (has by i)) (left_out good by fits_good fits_by within apart) in
    let at = and_parts (has good f.node) (not (has by f.node)) f.passing in
    pair_is eps good sight (record {
      first = r;
      second = f.node;
      first_below = below;
      second_below = f.below;
      first_in = within r below r_in;
      second_in = at.0;
      unlike = something_unlike_nothing eps (sight r) (sight f.node) (sym (sees r below) ∙ r_in) (sym (sees f.node f.below) ∙ not-true _ at.1);
    })

unlike_is : (eps good by r : ℕ) (sight : ℕ → See) (kept : KeptSight) → good < 2 ^ 16 → by < 2 ^ 16
    → ((i : ℕ) → i < 16 → has by i ≡ is_something (sight i)) → ((i : ℕ) → i < 16 → has by i ≡ true → has good i ≡ true)
    → r < 16 → has by r ≡ true → IsKept eps by sight kept → (not (by == good) || is_unlike kept) ≡ some_unlike eps good sight
unlike_is eps good by r sight kept fits_good fits_by sees within below r_in is =
    let go : (b : Bool) → (by == good) ≡ b → (not b || is_unlike kept) ≡ some_unlike eps good sight =
    λ b. elim b as (λ b. (by == good) ≡ b → (not b || is_unlike kept) ≡ some_unlike eps good sight) [
      | true ↦ λ e. is.unlike ∙ ap (λ n. some_unlike eps n sight) (eqb-true by good e)
      | false ↦ λ e. sym (some_left_out eps good by r sight fits_good fits_by sees within below r_in e)
    ] in
    go (by == good) refl

-- ---- the whole step

pub same_sights : (eps good : ℕ) (sight other : ℕ → See) (seen : SourceSights) → ((i : ℕ) → other i ≡ sight i) → ShowsSource eps good sight seen → ShowsSource eps good other seen
same_sights eps good sight other seen same is = subst (λ (f : ℕ → See). ShowsSource eps good f seen) (sym (fun_ext same)) is

is_nothing : (x : See) → is_something x ≡ false → see.Nothing ≡ x
is_nothing see.Nothing h = refl
is_nothing (see.Value v) h = absurd (cc)
is_nothing (see.Time t) h = absurd (cc)

-- if a receiver saw nothing and nothing was noted for it, what is shown stays right
pub nothing_noted : (eps good r : ℕ) (x : See) (sight : ℕ → See) (seen : SourceSights) → r < 16 → has seen.by r ≡ false → x ≡ see.Nothing
    → ShowsSource eps good sight seen → ShowsSource eps good (λ i. if i == r then x else sight i) seen
nothing_noted eps good r x sight seen below fresh nothing is =
    let here : x ≡ sight r = nothing ∙ is_nothing (sight r) (sym (is.by r below) ∙ fresh) in
    same_sights eps good sight _ seen
    (λ i.
    let go : (b : Bool) → (i == r) ≡ b → (if b then x else sight i) ≡ sight i =
    λ b. elim b as (λ b. (i == r) ≡ b → (if b then x else sight i) ≡ sight i) [ true ↦ λ e. here ∙ ap sight (sym (eqb-true i r e)) | false ↦ λ e. refl ] in
    go (i == r) refl)
    is

-- something is noted
pub something_noted : (eps good r by : ℕ) (x : See) (sight : ℕ → See) (seen : SourceSights) (unlike : Bool) (kept : KeptSight)
    → r < 16 → good < 2 ^ 16 → by < 2 ^ 16 → has good r ≡ true → has seen.by r ≡ false → is_something x ≡ true
    → by ≡ set_of (λ k. has seen.by k || (k == r)) → kept ≡ kept_with eps seen.heard seen.kept x → unlike ≡ (not (by == good) || is_unlike kept)
    → ShowsSource eps good sight seen
    → ShowsSource eps good (λ i. if i == r then x else sight i) (record { by = by; heard = true; unlike = unlike; kept = kept })
something_noted eps good r by x sight seen unlike kept below fits_good fits_by r_good fresh something grown kept_is unlike_is_so is =
    let adds : Adds seen.by by r = record { grown = λ k h. has-is by k _ grown h; fresh = fresh; below = below } in
    let sees : (i : ℕ) → i < 16 → has by i ≡ is_something (with_x r x sight i) =
    λ i h.
    let go : (b : Bool) → (i == r) ≡ b → (has seen.by i || b) ≡ is_something (if b then x else sight i) =
    λ b. elim b as (λ b. (i == r) ≡ b → (has seen.by i || b) ≡ is_something (if b then x else sight i)) [
      | true ↦ λ e. or_right (has seen.by i) true refl ∙ sym something
      | false ↦ λ e. or-false (has seen.by i) ∙ is.by i h
    ] in
    adds.grown i h ∙ go (i == r) refl in
    let within : (i : ℕ) → i < 16 → has by i ≡ true → has good i ≡ true =
    λ i h now. elim (r_or_old seen.by by r adds i h now) [ inl old ↦ is.within i h old | inr same ↦ ap (has good) same ∙ r_good ] in
    let kept_now : IsKept eps by (with_x r x sight) kept =
    let P : KeptSight → Type 0 = λ k. IsKept eps by (with_x r x sight) k in
    subst P (sym kept_is) (kept_more eps seen.by by r x sight seen.heard seen.kept adds something is.heard is.kept) in
    record {
      by = sees;
      within = within;
      heard = sym (some_is (has by) r below (r_joins seen.by by r adds));
      unlike = unlike_is_so ∙ unlike_is eps good by r (with_x r x sight) kept fits_good fits_by sees within below (r_joins seen.by by r adds) kept_now;
      kept = λ h. kept_now;
    }

pub not_nothing : (x : See) → (x ≡ see.Nothing → ⊥) → is_something x ≡ true
not_nothing see.Nothing h = absurd (h refl)
not_nothing (see.Value v) h = refl
not_nothing (see.Time t) h = refl
