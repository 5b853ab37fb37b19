-- A delivery more.
use Rattle.std.proofs.{Common.{◌≡◌, ◌≢◌, ℕ, ◌<◌, ◌^◌, ◌==◌, Bool, true, false, if◌then◌else◌, Option, Some, None, is_some, List, [], ◌∷◌, ◌++◌, length, get_or, set, map, refl, sym, ◌∙◌, ap, subst, arith}, lemmas.Bool.eqb-true, lemmas.List.{get_or-set_same, get_or-set_other}, lemmas.List.FromFn.fill_by_all, Math.ListN.length-set}
use Rattle.rb_base.specs.{Counting.numbers, Nodes.has, declared.values.Delivery.Delivery, declared.values.Heard.Heard}
use Rattle.rb_base.proofs.{Plain.eq_self, Sets.has_above}
use Rattle.rb_rules.specs.ExactStage.{present}
use Rattle.rb_group.specs.{Groups.{first_of, value_of, values_of}, Keeping.{HasHeard, KeptGroup, with_first}}

-- the first answer, or else the other
abbrev pub or_else : {X : Type 0} → Option X → Option X → Option X
or_else None other = other
or_else (Some x) other = Some x

or_else-none : {X : Type 0} (o : Option X) → or_else o None ≡ o
or_else-none None = refl
or_else-none (Some x) = refl

one_before : (b : Bool) (v : Heard) (a other : Option Heard) → (if b then Some v else or_else a other) ≡ or_else (if b then Some v else a) other
one_before true v a other = refl
one_before false v a other = refl

first_more : (i : ℕ) (ds : List Delivery) (d : Delivery) → first_of i (ds ++ d ∷ []) ≡ or_else (first_of i ds) (first_of i (d ∷ []))
first_more i [] d = refl
first_more i (e ∷ ds) d = ap (λ o. if e.sender == i then Some e.value else o) (first_more i ds d) ∙ one_before (e.sender == i) e.value (first_of i ds) (first_of i (d ∷ []))

if_member : (b : Bool) (a other : Option Heard) → (if b then or_else a other else None) ≡ or_else (if b then a else None) (if b then other else None)
if_member true a other = refl
if_member false a other = refl

-- the value of BIU `i` by `ds` and then `d` is that by `ds`, or else that by `d`
pub value_more : (members i : ℕ) (ds : List Delivery) (d : Delivery) → value_of members (ds ++ d ∷ []) i ≡ or_else (value_of members ds i) (value_of members (d ∷ []) i)
value_more members i ds d = ap (λ o. if has members i then o else None) (first_more i ds d) ∙ if_member (has members i) (first_of i ds) (first_of i (d ∷ []))

-- a delivery from another sender gives BIU `i` no value
not_sender : (members i : ℕ) (d : Delivery) → (d.sender == i) ≡ false → value_of members (d ∷ []) i ≡ None
not_sender members i d other = ap (λ b. if has members i then (if b then Some d.value else None) else None) other ∙ either (has members i)
  where
    either : (b : Bool) → (if b then (if false then Some d.value else None) else None) ≡ None
    either true = refl
    either false = refl

unchanged : (members i : ℕ) (ds : List Delivery) (d : Delivery) → value_of members (d ∷ []) i ≡ None → value_of members (ds ++ d ∷ []) i ≡ value_of members ds i
unchanged members i ds d none = value_more members i ds d ∙ ap (or_else (value_of members ds i)) none ∙ or_else-none (value_of members ds i)

or_else-some : {X : Type 0} (o other : Option X) → is_some o ≡ true → or_else o other ≡ o
or_else-some None other e = absurd (cc)
or_else-some (Some x) other e = refl

no_member : (members i : ℕ) (ds : List Delivery) → has members i ≡ false → value_of members ds i ≡ None
no_member members i ds out = ap (λ b. if b then first_of i ds else None) out

-- a delivery whose sender is no member changes nothing in the group
pub hears_no_member : (g : KeptGroup) (ds : List Delivery) (d : Delivery) → HasHeard g ds → has g.members d.sender ≡ false → HasHeard g (ds ++ d ∷ [])
hears_no_member g ds d is out = record { many = is.many; each = λ i h. is.each i h ∙ by i (d.sender == i) refl }
  where
    by : (i : ℕ) (b : Bool) → (d.sender == i) ≡ b → value_of g.members ds i ≡ value_of g.members (ds ++ d ∷ []) i
    by i false e = sym (unchanged g.members i ds d (not_sender g.members i d e))
    by i true e = let at : d.sender ≡ i = eqb-true d.sender i e in sym (unchanged g.members i ds d (no_member g.members i (d ∷ []) (subst (λ k. has g.members k ≡ false) at out)))

pub hears_again : (g : KeptGroup) (ds : List Delivery) (d : Delivery) → HasHeard g ds → d.sender < 16 → is_some (get_or g.kept d.sender None) ≡ true → HasHeard g (ds ++ d ∷ [])
hears_again g ds d is below known = record { many = is.many; each = λ i h. is.each i h ∙ by i h (d.sender == i) refl }
  where
    by : (i : ℕ) → i < 16 → (b : Bool) → (d.sender == i) ≡ b → value_of g.members ds i ≡ value_of g.members (ds ++ d ∷ []) i
    by i h false e = sym (unchanged g.members i ds d (not_sender g.members i d e))
    by i h true e =
        let at : d.sender ≡ i = eqb-true d.sender i e in
        let some : is_some (value_of g.members ds i) ≡ true = ap is_some (sym (is.each i h)) ∙ subst (λ k. is_some (get_or g.kept k None) ≡ true) at known in
        sym (value_more g.members i ds d ∙ or_else-some (value_of g.members ds i) (value_of g.members (d ∷ []) i) some)

-- the first value of a member is kept
pub hears_first : (g : KeptGroup) (ds : List Delivery) (d : Delivery) → HasHeard g ds → d.sender < 16 → has g.members d.sender ≡ true → is_some (get_or g.kept d.sender None) ≡ false
    → HasHeard (record g { kept = set g.kept d.sender (Some d.value) }) (ds ++ d ∷ [])
hears_first g ds d is below member none = record { many = length-set g.kept d.sender (Some d.value) ∙ is.many; each = λ i h. by i h (d.sender == i) refl }
  where
    no_some : (o : Option Heard) → is_some o ≡ false → o ≡ None
    no_some None e = refl
    no_some (Some x) e = absurd (cc)

    this : (i : ℕ) → d.sender ≡ i → has g.members i ≡ true → value_of g.members (d ∷ []) i ≡ Some d.value
    this i at in_it = rw (in_it, sym at) (ap (λ b. if b then Some d.value else None) (eq_self d.sender))

    by : (i : ℕ) → i < 16 → (b : Bool) → (d.sender == i) ≡ b → get_or (set g.kept d.sender (Some d.value)) i None ≡ value_of g.members (ds ++ d ∷ []) i
    by i h false e =
        let apart : i ≢ d.sender = λ same. absurd (let f : (d.sender == d.sender) ≡ false = subst (λ k. (d.sender == k) ≡ false) same e in let t = eq_self d.sender in cc) in
        get_or-set_other g.kept d.sender i (Some d.value) None apart ∙ is.each i h ∙ sym (unchanged g.members i ds d (not_sender g.members i d e))
    by i h true e =
        let at : d.sender ≡ i = eqb-true d.sender i e in
        let before : value_of g.members ds i ≡ None = sym (is.each i h) ∙ subst (λ k. get_or g.kept k None ≡ None) at (no_some (get_or g.kept d.sender None) none) in
        subst (λ k. get_or (set g.kept d.sender (Some d.value)) k None ≡ Some d.value) at
        (get_or-set_same g.kept d.sender (Some d.value) None (omega (arith, is.many, below)))
        ∙ sym (value_more g.members i ds d ∙ ap (λ o. or_else o (value_of g.members (d ∷ []) i)) before ∙ this i at (subst (λ k. has g.members k ≡ true) at member))

-- a delivery is heard
pub hears : (g : KeptGroup) (ds : List Delivery) (d : Delivery) → HasHeard g ds → d.sender < 16 → has g.members d.sender ≡ true
    → HasHeard (record g { kept = with_first g.kept d.sender d.value }) (ds ++ d ∷ [])
hears g ds d is below member = by (is_some (get_or g.kept d.sender None)) refl
  where
    by : (b : Bool) → is_some (get_or g.kept d.sender None) ≡ b
        → HasHeard (record g { kept = if b then g.kept else set g.kept d.sender (Some d.value) }) (ds ++ d ∷ [])
    by true e = hears_again g ds d is below e
    by false e = hears_first g ds d is below member e

-- the values that are kept are those of the members
pub kept_values : (g : KeptGroup) (ds : List Delivery) → HasHeard g ds → present g.kept ≡ values_of g.members ds
unfolding values_of
kept_values g ds is = ap present (fill_by_all (value_of g.members ds) g.kept 16 None is.many is.each)
