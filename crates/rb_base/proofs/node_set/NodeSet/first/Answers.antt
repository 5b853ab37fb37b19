use Rattle.std.proofs.{Common.{◌≡◌, ◌≤◌, ◌*◌, ◌-◌, ◌%◌, ◌^◌, ◌∙◌, ap, arith}, Math.Pow.pow_mono}
use Rattle.rb_base.proofs.Sets.{first_is}
use Rattle.rb_base.proofs.node_set.NodeSet.first.Goals as goal

pub returns : goal.returns
returns g c =
    let fits : 2 ^ c.args.count ≤ 2 ^ 16 = pow_mono c.requires in
    let whole : 1 * 2 ^ c.args.count % 4294967296 ≡ 2 ^ c.args.count = omega (arith, fits) in
    c.from_bits.ensures ∙ ap (λ n. n - 1) whole ∙ first_is c.args.count c.requires
