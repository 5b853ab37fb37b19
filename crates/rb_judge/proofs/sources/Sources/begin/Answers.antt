use Rattle.std.proofs.Common.{◌∙◌}
use Rattle.rb_judge.proofs.sources.Sources.begin.Goals as goal

pub returns-clause-sets : goal.returns-clause-sets
returns-clause-sets g c =
    let p = c.pass.ensures in
    record {
      good_is = p.good_is;
      trusted_is = p.trusted_is;
      unlike_is = p.unlike_is;
      taken_is = p.taken_is;
      heard_is = p.heard_is ∙ c.empty.ensures.value;
      unlike_now_is = p.unlike_now_is ∙ c.empty-2.ensures.value;
    }
