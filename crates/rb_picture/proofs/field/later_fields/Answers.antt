use Rattle.rb_picture.proofs.Cuts.{cut_none, cut_some}
use Rattle.rb_picture.proofs.field.later_fields.Goals as goal

pub returns-in-Some : goal.returns-in-Some
returns-in-Some c = (cut_some c.args.text.now c.split_once.result _ c.split_once.ensures.cases c.in-Some.is).1

pub returns-in-None : goal.returns-in-None
returns-in-None c = (cut_none c.args.text.now c.split_once.result c.split_once.ensures.cases c.in-None.is).1
