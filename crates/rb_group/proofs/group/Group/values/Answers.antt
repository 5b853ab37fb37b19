use Rattle.std.proofs.Common.{◌∙◌, ap, sym}
use Rattle.rb_rules.specs.ExactStage.{present}
use Rattle.rb_group.specs.Keeping.{KeptGroup}
use Rattle.rb_group.proofs.Heards.{kept_values}
use Rattle.rb_group.proofs.group.Group.values.Goals as goal

pub returns : goal.returns
returns c = λ deliveries is. c.present.ensures ∙ ap (λ (g : KeptGroup). present g.kept) c.self.view_is ∙ kept_values c.args.self.now deliveries is
