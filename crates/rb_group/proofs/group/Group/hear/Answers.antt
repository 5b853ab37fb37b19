use Rattle.std.proofs.Common.{◌≡◌, List, [], ◌∷◌, ◌++◌, false, true, sym, ◌∙◌, subst, arith}
use Rattle.rb_base.specs.Nodes.{has}
use Rattle.rb_base.proofs.Sets.{has_above}
use Rattle.rb_group.specs.Keeping.{HasHeard, KeptGroup}
use Rattle.rb_group.proofs.{Heards.{hears, hears_no_member}, group.Group.hear.Goals.{else-delivery-lt16-via-then-delivery-lt16+else-has, else-delivery-lt16-via-else-delivery-lt16}}
use Rattle.rb_group.proofs.group.Group.hear.Goals as goal

pub returns-then-has-clause-heard : goal.returns-then-has-clause-heard
returns-then-has-clause-heard c = λ deliveries is.
    let d = c.args.delivery in
    let g : KeptGroup = record { members = c.self.inside.members; kept = c.self.inside.kept } in
    let member : has g.members d.sender ≡ true = sym c.has.ensures ∙ c.if-has.true in
    subst (λ kept. HasHeard (record { members = g.members; kept = kept }) (deliveries ++ d ∷ [])) (sym c.keep_first.ensures)
    (hears g deliveries d (subst (λ (k : KeptGroup). HasHeard k deliveries) (sym c.self.view_is) is) (omega arith) member)

pub returns-else-delivery-lt16-clause-heard : goal.returns-else-delivery-lt16-clause-heard
returns-else-delivery-lt16-clause-heard c = λ deliveries is.
    let d = c.args.delivery in
    let g : KeptGroup = record { members = c.self.inside.members; kept = c.self.inside.kept } in
    let before : HasHeard g deliveries = subst (λ (k : KeptGroup). HasHeard k deliveries) (sym c.self.view_is) is in
    let out : has g.members d.sender ≡ false =
    elim c.else-delivery-lt16.branch [
      | else-delivery-lt16-via-then-delivery-lt16+else-has w ↦ sym w.has.ensures ∙ w.if-has.false
      | else-delivery-lt16-via-else-delivery-lt16 w ↦ has_above g.members d.sender c.self.invariant (omega (arith, w.if-delivery-lt16.false))
    ] in
    subst (λ (k : KeptGroup). HasHeard k (deliveries ++ d ∷ [])) c.self.view_is (hears_no_member g deliveries d before out)
