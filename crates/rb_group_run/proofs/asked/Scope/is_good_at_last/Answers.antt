use Rattle.std.proofs.Common.{ap, ◌∙◌}
use Rattle.rb_base.specs.Nodes.Side.{Biu}
use Rattle.rb_rules.specs.Goodness.{is_good}
use Rattle.rb_group_run.specs.Replies.{last_data_slot}
use Rattle.rb_group_run.proofs.asked.Scope.is_good_at_last.Goals as goal

pub returns : goal.returns
returns c = λ sc is.
    c.is_good.ensures sc is.onsets_are ∙ ap (is_good sc Biu c.args.port c.args.frame) (c.last_data_slot-slot.ensures ∙ ap last_data_slot is.sizes_are)
