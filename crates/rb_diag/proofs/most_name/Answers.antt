-- The senders are counted as a set.
use Rattle.std.proofs.Common.{◌*◌, nat_lt, ap, ◌∙◌}
use Rattle.rb_base.specs.Nodes.{size}
use Rattle.rb_diag.proofs.most_name.Goals as goal

pub returns : goal.returns
returns g c =
    ap (λ n. nat_lt n (2 * c.naming.result)) c.count.ensures.value
    ∙ ap (λ n. nat_lt (size c.args.senders) (2 * n)) c.naming.ensures.value
