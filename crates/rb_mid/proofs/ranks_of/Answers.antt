use Rattle.std.proofs.Common.{◌≡◌, Bool, true, false, cond, nat_lt, nat_le, get_or, refl, ◌∙◌, arith}
use Rattle.std.specs.Int.{from_bool}
use Rattle.rb_base.proofs.Counts.{once, count_if-take_more}
use Rattle.rb_mid.proofs.ranks_of.Goals as goal

-- a test as a number is what it counts
counted : (b : Bool) → from_bool b ≡ cond b 1 0
counted true = refl
counted false = refl

pub loop-other-preserved : goal.loop-other-preserved
loop-other-preserved c =
    let stamps = c.args.stamps.now in
    let i = c.loop-other.other-index in
    let is_below = nat_lt (get_or stamps i 0) c.args.stamp in
    let is_up_to = nat_le (get_or stamps i 0) c.args.stamp in
    let adds_below : c.from-below.result ≡ cond is_below 1 0 = c.from-below.ensures ∙ counted is_below in
    let adds_up_to : c.from-up_to.result ≡ cond is_up_to 1 0 = c.from-up_to.ensures ∙ counted is_up_to in
    record {
      below_is = omega (arith, adds_below, count_if-take_more (λ x. nat_lt x c.args.stamp) stamps i 0 (omega arith));
      up_to_is = omega (arith, adds_up_to, count_if-take_more (λ x. nat_le x c.args.stamp) stamps i 0 (omega arith));
      below_most = omega (arith, adds_below, once is_below);
      up_to_most = omega (arith, adds_up_to, once is_up_to);
    }
