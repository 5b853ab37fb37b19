use Rattle.std.proofs.{Common.{◌≡◌, nat_lt, ◌&&◌, not, ap, ◌∙◌}, lemmas.Bool.{eq-eqb, eqb-true}}
use Rattle.rb_base.specs.{Nodes.{has, set_of}, Sizes.Sizes}
use Rattle.rb_group_run.proofs.Beyond.{all_members, none_beyond}
use Rattle.rb_group_run.proofs.asked.has_members.Goals as goal

pub returns : goal.returns
returns c =
    let sizes : Sizes = c.args.shape.now in
    let bius : c.first-bius.result ≡ set_of (λ j. nat_lt j sizes.bius) = c.first-bius.ensures ∙ ap (λ n. set_of (λ j. nat_lt j n)) c.biu.ensures.value in
    let left : c.bits.result ≡ set_of (λ i. has c.args.mask i && not (has c.first-bius.result i)) =
    c.bits.ensures ∙ c.difference.ensures ∙ ap (λ m. set_of (λ i. has m i && not (has c.first-bius.result i))) c.from_bits-members.ensures in (
      λ none. none_beyond sizes c.args.mask c.first-bius.result c.bits.result c.ranges.mask.fits bius left (eqb-true c.bits.result 0 none),
      λ members. eq-eqb c.bits.result 0 (all_members sizes c.args.mask c.first-bius.result c.bits.result bius left members),
    )
