-- Nobody speaks against a node that no sender names.
use Rattle.std.proofs.Common.{◌≡◌, ℕ, ◌&&◌, bit_and, get_or, sym, ap, ◌∙◌, arith}
use Rattle.rb_base.specs.{Counting.{count_if, numbers}, Nodes.has, declared.values.Heard.Heard, declared.values.Heard.TheVariants.Fault}
use Rattle.rb_diag.specs.Votes.{against, most_against}
use Rattle.rb_rules.specs.Conviction.{names}
use Rattle.rb_diag.proofs.Tallies.{suspects_is, unnamed_next}
use Rattle.rb_diag.proofs.suspects.Goals as goal

pub loop-i-preserved : goal.loop-i-preserved
loop-i-preserved g c = λ j none.
    unnamed_next (λ i. has c.args.senders i && names j (get_or c.args.vectors.now i Fault)) c.loop-i.named c.named_by-named.result c.loop-i.i j
    (c.loop-i.invariant j) (c.named_by-named.ensures j) none

pub returns : goal.returns
unfolding against
returns g c = λ j.
    let vector : ℕ → Heard = λ i. get_or c.args.vectors.now i Fault in
    let last : c.loop-i.i ≡ 16 = omega arith in
    ap (λ t. has t j && most_against c.args.senders vector j) (c.from_bits.ensures ∙ ap (λ t. bit_and t c.loop-i.named) (c.from.ensures ∙ c.bits.ensures))
    ∙ suspects_is c.args.senders c.args.trusted c.loop-i.named vector j
    (λ none. sym (ap (λ n. count_if (λ i. has c.args.senders i && names j (vector i)) (numbers n)) last) ∙ c.loop-i.invariant j none)
