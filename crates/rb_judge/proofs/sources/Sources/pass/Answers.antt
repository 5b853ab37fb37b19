use Rattle.std.proofs.Common.{refl}
use Rattle.rb_base.proofs.Sets.{has-is}
use Rattle.rb_judge.proofs.sources.Sources.pass.Goals as goal

pub returns : goal.returns
returns g c = record {
  good_is = refl;
  trusted_is = refl;
  unlike_is = λ j h. has-is _ j _ c.union-self.ensures h;
  taken_is = λ j h. has-is _ j _ c.union-self-2.ensures h;
  heard_is = refl;
  unlike_now_is = refl;
}
