-- A pass by the newest calls: if one more call makes a pass that was not there, it is one of the
-- pass.
use Rattle.std.proofs.{Common.{◌≡◌, ◌⊎◌, ℕ, zero, suc, ◌+◌, ◌-◌, ◌*◌, ◌<◌, ◌≤◌, ◌==◌, ◌&&◌, nat_le, nat_lt, Bool, true, false, Option, Some, None, List, [], ◌∷◌, length, get_or, slice_set, inl, inr, refl, sym, ◌∙◌, ap, arith}, lemmas.Bool.{cases_lt, eqb-true, leb-true, lt-ltb, ltb-true}, lemmas.Bool.Decides.nat_tests, lemmas.List.get_or-set_same, lemmas.Option.same_Some}
use Rattle.rb_base.specs.{Nodes.{has, size}, Sizes.Sizes}
use Rattle.rb_base.proofs.{Plain.{and_first, and_second}, Sets.has-set_of, SetSizes.size_within}
use Rattle.rb_rules.specs.declared.plan.Plan.{Plan}
use Rattle.rb_laws_agreement.proofs.Tests.{Passing}
use Rattle.rb_listen.specs.{Passes.{are_most, begins_pass, calling, falls_in, frame_in, pass_among, pass_of, reach_of}, declared.passes.Call.Call}
use Rattle.rb_laws_listener_learns.proofs.{Meeting.{AreRmus, meet}, Seeks.set-other}

-- a pass of `frame` begins with the call of RMU `i`
pub record BeginsAt (sizes : Sizes) (plan : Plan) (newest : List (Option Call)) (frame : ℕ) : Type 0 where
  pub i : ℕ
  pub call : Call
  pub there : get_or newest i None ≡ Some call
  pub most : are_most sizes (calling (reach_of plan) call.frame call.at newest) ≡ true
  pub frame_is : call.frame ≡ frame

-- nothing is known of an RMU that the bus does not have
abbrev pub AreOfRmus : Sizes → List (Option Call) → Type 0
AreOfRmus sizes newest = (j : ℕ) → sizes.rmus ≤ j → get_or newest j None ≡ None

-- A pass is found.

among-at : (sizes : Sizes) (plan : Plan) (newest calls : List (Option Call)) (d : ℕ) → ((i : ℕ) → get_or calls i None ≡ get_or newest (i + d) None) → {frame : ℕ}
    → pass_among sizes plan newest calls ≡ Some frame → BeginsAt sizes plan newest frame
among-at sizes plan newest [] d are h = cc
among-at sizes plan newest (call ∷ others) d are {frame} h =
    by (among-at sizes plan newest others (suc d) (λ i. let e : suc i + d ≡ i + suc d = omega arith in are (suc i) ∙ ap (λ t. get_or newest t None) e))
    (begins_pass sizes plan newest call) refl h
  where
    here : (o : Option Call) → o ≡ get_or newest (zero + d) None → begins_pass sizes plan newest o ≡ true → frame_in o ≡ Some frame → BeginsAt sizes plan newest frame
    here None at b e = cc
    here (Some c) at b e = record { i = zero + d; call = c; there = sym at; most = b; frame_is = cc }

    by : (pass_among sizes plan newest others ≡ Some frame → BeginsAt sizes plan newest frame) → (b : Bool) → begins_pass sizes plan newest call ≡ b
        → (elim b as (λ _. Option ℕ) [ true ↦ frame_in call | false ↦ pass_among sizes plan newest others ]) ≡ Some frame → BeginsAt sizes plan newest frame
    by rest true is e = here call (are zero) is e
    by rest false is e = rest e

pub pass-at : (sizes : Sizes) (plan : Plan) (newest : List (Option Call)) {frame : ℕ} → pass_of sizes plan newest ≡ Some frame → BeginsAt sizes plan newest frame
unfolding pass_of
pass-at sizes plan newest h = among-at sizes plan newest newest 0 (λ i. let e : i ≡ i + 0 = omega arith in ap (λ t. get_or newest t None) e) h

abbrev FindsOne : Sizes → Plan → List (Option Call) → List (Option Call) → Type 0
FindsOne sizes plan newest calls = (frame : ℕ) × (pass_among sizes plan newest calls ≡ Some frame)

among-some : (sizes : Sizes) (plan : Plan) (newest calls : List (Option Call)) (i : ℕ) {call : _} → get_or calls i None ≡ Some call → begins_pass sizes plan newest (Some call) ≡ true
    → FindsOne sizes plan newest calls
among-some sizes plan newest [] i {call} is b = let none : None ≡ Some call = is in cc
among-some sizes plan newest (o ∷ others) zero {call} is b = (
  call.frame,
  ap (λ x. elim (begins_pass sizes plan newest x) as (λ _. Option ℕ) [ true ↦ frame_in x | false ↦ pass_among sizes plan newest others ]) is
      ∙ ap (λ x. elim x as (λ _. Option ℕ) [ true ↦ Some call.frame | false ↦ pass_among sizes plan newest others ]) b,
)
among-some sizes plan newest (o ∷ others) (suc i) is b = front o (begins_pass sizes plan newest o) refl (among-some sizes plan newest others i is b)
  where
    front : (o : Option Call) (c : Bool) → begins_pass sizes plan newest o ≡ c → FindsOne sizes plan newest others
        → (frame : ℕ) × ((elim c as (λ _. Option ℕ) [ true ↦ frame_in o | false ↦ pass_among sizes plan newest others ]) ≡ Some frame)
    front None true e rest = let both : false ≡ true = e in absurd (cc)
    front (Some c) true e rest = (c.frame, refl)
    front o false e rest = rest

-- There is one at most.

pub record FallsIn (reach frame from : ℕ) (c : Call) : Type 0 where
  pub frame_is : c.frame ≡ frame
  pub low : from ≤ c.at
  pub high : c.at ≤ from + reach

pub falls-all : (reach frame from : ℕ) (c : Call) → falls_in reach frame from (Some c) ≡ true → FallsIn reach frame from c
falls-all reach frame from c h =
    let front : ((c.frame == frame) && nat_le from c.at) ≡ true = and_first ((c.frame == frame) && nat_le from c.at) (nat_le (c.at - from) reach) h in
    let near : c.at - from ≤ reach = leb-true (c.at - from) reach (and_second ((c.frame == frame) && nat_le from c.at) (nat_le (c.at - from) reach) h) in
    record {
      frame_is = eqb-true c.frame frame (and_first (c.frame == frame) (nat_le from c.at) front);
      low = leb-true from c.at (and_second (c.frame == frame) (nat_le from c.at) front);
      high = omega (arith, near);
    }

pub all-falls : {reach frame from c : _} → FallsIn reach frame from c → falls_in reach frame from (Some c) ≡ true
all-falls {reach} {frame} {from} {c} h =
    let a : (c.frame == frame) ≡ true = grind (arith, nat_tests, h.frame_is) in
    let b : nat_le from c.at ≡ true = grind (arith, nat_tests, h.low) in
    let far : c.at - from ≤ reach = omega (arith, h.high) in
    let d : nat_le (c.at - from) reach ≡ true = grind (arith, nat_tests, far) in
    rw (a, b, d) refl

pub record FallsThere (reach frame from : ℕ) (o : Option Call) : Type 0 where
  pub call : Call
  pub is : o ≡ Some call
  pub falls : FallsIn reach frame from call

pub falls-there : (reach frame from : ℕ) (o : Option Call) → falls_in reach frame from o ≡ true → FallsThere reach frame from o
falls-there reach frame from None h = cc
falls-there reach frame from (Some c) h = record { call = c; is = refl; falls = falls-all reach frame from c h }

pub in-set : (reach frame from : ℕ) (newest : List (Option Call)) (j : ℕ) → j < 16 → has (calling reach frame from newest) j ≡ true → FallsThere reach frame from (get_or newest j None)
in-set reach frame from newest j below h =
    falls-there reach frame from (get_or newest j None) (sym (has-set_of j (λ i. falls_in reach frame from (get_or newest i None)) below) ∙ h)

pub of-rmus : (sizes : Sizes) (reach frame from : ℕ) (newest : List (Option Call)) → AreOfRmus sizes newest → AreRmus sizes (calling reach frame from newest)
of-rmus sizes reach frame from newest inside j below is =
    elim (cases_lt j sizes.rmus) [
      | inl within ↦ within
      | inr out ↦
          let f : FallsThere reach frame from (get_or newest j None) = in-set reach frame from newest j below is in
          let both : None ≡ Some f.call = sym (inside j out) ∙ f.is in absurd (cc)
    ]

same-pass : {sizes : Sizes} {plan : Plan} {newest : List (Option Call)} {p q : ℕ} → sizes.rmus ≤ 16 → AreOfRmus sizes newest → BeginsAt sizes plan newest p → BeginsAt sizes plan newest q → p ≡ q
same-pass {sizes} {plan} {newest} {p} {q} few inside a b = by (meet sizes in_a in_b few (of-rmus sizes reach a.call.frame a.call.at newest inside) (of-rmus sizes reach b.call.frame b.call.at newest inside) a.most b.most)
  where
    reach : ℕ
    reach = reach_of plan

    in_a : ℕ
    in_a = calling (reach_of plan) a.call.frame a.call.at newest

    in_b : ℕ
    in_b = calling (reach_of plan) b.call.frame b.call.at newest

    by : Passing (λ j. has (calling (reach_of plan) a.call.frame a.call.at newest) j && has (calling (reach_of plan) b.call.frame b.call.at newest) j) 0 16 → p ≡ q
    by c =
        let below : c.at < 16 = omega (arith, c.high) in
        let x : FallsThere (reach_of plan) a.call.frame a.call.at (get_or newest c.at None) =
        in-set (reach_of plan) a.call.frame a.call.at newest c.at below
        (and_first (has (calling (reach_of plan) a.call.frame a.call.at newest) c.at) (has (calling (reach_of plan) b.call.frame b.call.at newest) c.at) c.passes) in
        let y : FallsThere (reach_of plan) b.call.frame b.call.at (get_or newest c.at None) =
        in-set (reach_of plan) b.call.frame b.call.at newest c.at below
        (and_second (has (calling (reach_of plan) a.call.frame a.call.at newest) c.at) (has (calling (reach_of plan) b.call.frame b.call.at newest) c.at) c.passes) in
        let same : x.call ≡ y.call = same_Some x.call y.call (sym x.is ∙ y.is) in
        sym a.frame_is ∙ sym x.falls.frame_is ∙ ap (λ (z : Call). z.frame) same ∙ y.falls.frame_is ∙ b.frame_is

pub begins-pass : {sizes : Sizes} {plan : Plan} {newest : List (Option Call)} {frame : ℕ} → sizes.rmus ≤ 16 → AreOfRmus sizes newest → BeginsAt sizes plan newest frame
    → pass_of sizes plan newest ≡ Some frame
unfolding pass_of
begins-pass {sizes} {plan} {newest} {frame} few inside b =
    let found : FindsOne sizes plan newest newest = among-some sizes plan newest newest b.i b.there b.most in
    let same : found.0 ≡ frame = same-pass few inside (pass-at sizes plan newest found.1) b in
    found.1 ∙ ap (λ f. Some f) same

-- One call more.

pub more-than : (rmus a b : ℕ) → a ≤ b → nat_lt rmus (2 * a) ≡ true → nat_lt rmus (2 * b) ≡ true
more-than rmus a b le h = lt-ltb rmus (2 * b) (omega (arith, le, ltb-true rmus (2 * a) h))

-- a new call is one of the pass, or the pass was there before
pub new-or-old : {sizes plan : _} (newest : List (Option Call)) (j : ℕ) {frame : ℕ} (call : Call) → j < length newest → (b : BeginsAt sizes plan (slice_set newest j (Some call)) frame)
    → FallsIn (reach_of plan) b.call.frame b.call.at call ⊎ BeginsAt sizes plan newest frame
new-or-old {sizes} {plan} newest j {frame} call within b = by (falls_in (reach_of plan) b.call.frame b.call.at (Some call)) refl
  where
    new : get_or (slice_set newest j (Some call)) j None ≡ Some call
    new = get_or-set_same newest j (Some call) None within

    own : FallsIn (reach_of plan) b.call.frame b.call.at b.call
    own = record { frame_is = refl; low = omega arith; high = omega arith }

    apart : (i : ℕ) → falls_in (reach_of plan) b.call.frame b.call.at (Some call) ≡ false → falls_in (reach_of plan) b.call.frame b.call.at (get_or (slice_set newest j (Some call)) i None) ≡ true
        → i ≡ j → ⊥
    apart i out is same =
        let both : true ≡ false =
        sym is ∙ ap (λ t. falls_in (reach_of plan) b.call.frame b.call.at (get_or (slice_set newest j (Some call)) t None)) same
        ∙ ap (falls_in (reach_of plan) b.call.frame b.call.at) new ∙ out in cc

    by : (x : Bool) → falls_in (reach_of plan) b.call.frame b.call.at (Some call) ≡ x → FallsIn (reach_of plan) b.call.frame b.call.at call ⊎ BeginsAt sizes plan newest frame
    by true e = inl (falls-all (reach_of plan) b.call.frame b.call.at call e)
    by false e = inr (record {
      i = b.i;
      call = b.call;
      there =
          sym (set-other newest j b.i (Some call)
          (apart b.i e (ap (falls_in (reach_of plan) b.call.frame b.call.at) b.there ∙ all-falls own)))
          ∙ b.there;
      most =
          more-than sizes.rmus (size (calling (reach_of plan) b.call.frame b.call.at (slice_set newest j (Some call)))) (size (calling (reach_of plan) b.call.frame b.call.at newest))
          (size_within (calling (reach_of plan) b.call.frame b.call.at (slice_set newest j (Some call))) (calling (reach_of plan) b.call.frame b.call.at newest)
          (λ i below is.
          let falls : falls_in (reach_of plan) b.call.frame b.call.at (get_or (slice_set newest j (Some call)) i None) ≡ true =
          sym (has-set_of i (λ t. falls_in (reach_of plan) b.call.frame b.call.at (get_or (slice_set newest j (Some call)) t None)) below) ∙ is in
          has-set_of i (λ t. falls_in (reach_of plan) b.call.frame b.call.at (get_or newest t None)) below
          ∙ ap (falls_in (reach_of plan) b.call.frame b.call.at) (sym (set-other newest j i (Some call) (apart i e falls))) ∙ falls))
          b.most;
      frame_is = b.frame_is;
    })
