-- Each sender whose vector names the node adds one.
use Rattle.std.proofs.Common.{◌≡◌, Bool, ◌&&◌, ℕ, get_or, ap, ◌∙◌, arith}
use Rattle.rb_base.specs.{Counting.{count_if, numbers}, Nodes.has, declared.values.Heard.TheVariants.Fault}
use Rattle.rb_diag.specs.Votes.{against}
use Rattle.rb_rules.specs.Conviction.{names}
use Rattle.rb_diag.proofs.Tallies.{counted, count_next, one_if, one_if-le}
use Rattle.rb_diag.proofs.naming.Goals as goal

pub loop-i-preserved : goal.loop-i-preserved
loop-i-preserved g c =
    let p : ℕ → Bool = λ i. has c.args.senders i && names c.args.j (get_or c.args.vectors.now i Fault) in
    let adds : c.from-naming.result ≡ one_if (p c.loop-i.i) = c.from-naming.ensures ∙ counted c.is_against.result ∙ ap one_if c.is_against.ensures in
    record {
      is = omega (arith, adds, count_next p c.loop-i.i, c.loop-i.invariant.is);
      most = omega (arith, adds, one_if-le (p c.loop-i.i), c.loop-i.invariant.most);
    }

pub returns-clause-value : goal.returns-clause-value
unfolding against
returns-clause-value g c =
    let last : c.loop-i.i ≡ 16 = omega arith in
    c.loop-i.invariant.is
    ∙ ap (λ n. count_if (λ i. has c.args.senders i && names c.args.j (get_or c.args.vectors.now i Fault)) (numbers n)) last
