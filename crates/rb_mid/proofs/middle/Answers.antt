use Rattle.std.proofs.Common.{◌≡◌, ◌∙◌, refl, sym, ap, arith, []}
use Rattle.rb_rules.specs.Middle.{middle_of}
use Rattle.rb_rules.proofs.Middles.{middle_is, middle_among}
use Rattle.rb_mid.proofs.middle.Goals as goal

pub returns-then-is_found-clause-is : goal.returns-then-is_found-clause-is
returns-then-is_found-clause-is c =
    rw (← c.as_slice-taken.ensures.value) (sym (middle_is _ _ (c.is_found.ensures.middle.0 c.if-is_found.true)))

pub returns-then-is_found-2-clause-is : goal.returns-then-is_found-2-clause-is
returns-then-is_found-2-clause-is c =
    rw (← c.as_slice-taken.ensures.value) (sym (middle_is _ _ (c.is_found-in-loop-stamp.ensures.middle.0 c.if-is_found-2.true)))

pub returns-clause-is : goal.returns-clause-is
returns-clause-is c =
    let taken = c.as_slice-taken.result.now in
    let none : taken ≡ [] = middle_among taken (λ k inside. c.loop-stamp.invariant.others k (omega arith)) in
    ap middle_of (sym none ∙ c.as_slice-taken.ensures.value)

pub returns-clause-none : goal.returns-clause-none
returns-clause-none c =
    let taken = c.as_slice-taken.result.now in
    let none : taken ≡ [] = middle_among taken (λ k inside. c.loop-stamp.invariant.others k (omega arith)) in
    (λ is. sym c.as_slice-taken.ensures.value ∙ none, λ none. refl)
