-- The last rule that applies gives the delay, whether it is looked for among all rules or among
-- those of a pair of nodes.
use Rattle.std.proofs.{Common.{◌≡◌, ℕ, Bool, true, false, cond, ◌&&◌, if◌then◌else◌, List, [], ◌∷◌, Option, Some, None, reverse, filter, refl, ◌∙◌, ap}, lemmas.List.reverse-append, lemmas.List.Folds.find-append}
use Rattle.std.specs.{List.find, Option.option_or}
use Rattle.rb_base.specs.{declared.node.NodeName.NodeName, declared.values.Place.Place}
use Rattle.rb_rules.specs.{declared.link.Rule.Rule, Links.{applies, covers, delay_after}}
use Rattle.rb_link.specs.Pairs.{delay_or, is_between}

-- the delay of the last rule that passes, or else `base`
abbrev delay_by : (Rule → Bool) → ℕ → List Rule → ℕ
delay_by passes base [] = base
delay_by passes base (r ∷ rs) = delay_by passes (if passes r then r.delay else base) rs

-- a rule in front of others is found if none of these is
in_front : (base : ℕ) (passes : Rule → Bool) (r : Rule) (found : Option Rule)
    → delay_or base (option_or found (find passes (r ∷ []))) ≡ delay_or (if passes r then r.delay else base) found
in_front base passes r (Some rule) = refl
in_front base passes r None =
    elim (passes r) as (λ b. delay_or base (option_or None (cond b (Some r) None)) ≡ delay_or (if b then r.delay else base) None) [ true ↦ refl | false ↦ refl ]

found_last : (passes : Rule → Bool) (base : ℕ) (rules : List Rule) → delay_or base (find passes (reverse rules)) ≡ delay_by passes base rules
found_last passes base [] = refl
found_last passes base (r ∷ rs) =
    ap (λ xs. delay_or base (find passes xs)) (reverse-append (r ∷ []) rs)
    ∙ ap (delay_or base) (find-append passes (reverse rs) (r ∷ []))
    ∙ in_front base passes r (find passes (reverse rs))
    ∙ found_last passes (if passes r then r.delay else base) rs

-- rules that fail the first test can be left out
delay_by-filter : (first second : Rule → Bool) (base : ℕ) (rules : List Rule)
    → delay_by second base (filter first rules) ≡ delay_by (λ r. first r && second r) base rules
delay_by-filter first second base [] = refl
delay_by-filter first second base (r ∷ rs) =
    elim (first r) as (λ b. delay_by second base (cond b (r ∷ filter first rs) (filter first rs)) ≡ delay_by (λ r. first r && second r) (if b && second r then r.delay else base) rs) [
      | true ↦ delay_by-filter first second (if second r then r.delay else base) rs
      | false ↦ delay_by-filter first second base rs
    ]

delay_by-applies : (base : ℕ) (rules : List Rule) (from to : NodeName) (place : Place)
    → delay_by (λ rule. applies rule from to place) base rules ≡ delay_after base rules from to place
delay_by-applies base [] from to place = refl
delay_by-applies base (r ∷ rs) from to place = delay_by-applies (if applies r from to place then r.delay else base) rs from to place

-- the delay is that of the last of all rules that apply
pub last_of_all : (base : ℕ) (rules : List Rule) (from to : NodeName) (place : Place)
    → delay_or base (find (λ rule. applies rule from to place) (reverse rules)) ≡ delay_after base rules from to place
last_of_all base rules from to place =
    found_last (λ rule. applies rule from to place) base rules ∙ delay_by-applies base rules from to place

-- the delay is that of the last of the pair's rules that cover the place
pub last_of_pair : (base : ℕ) (rules : List Rule) (from to : NodeName) (place : Place)
    → delay_or base (find (λ rule. covers rule.frames rule.slots rule.stages place) (reverse (filter (is_between from to) rules))) ≡ delay_after base rules from to place
last_of_pair base rules from to place =
    let here : Rule → Bool = λ rule. covers rule.frames rule.slots rule.stages place in
    found_last here base (filter (is_between from to) rules)
    ∙ delay_by-filter (is_between from to) here base rules
    ∙ delay_by-applies base rules from to place
