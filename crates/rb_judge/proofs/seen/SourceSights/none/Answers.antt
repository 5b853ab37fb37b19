use Rattle.std.proofs.Common.{refl}
use Rattle.rb_judge.proofs.Sides.{source_none}
use Rattle.rb_judge.proofs.seen.SourceSights.none.Goals as goal

pub returns : goal.returns
returns c = λ eps good. source_none eps good _ refl refl refl
