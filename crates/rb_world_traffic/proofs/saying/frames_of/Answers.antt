use Rattle.std.proofs.Common.{◌∙◌, List, [], ◌∷◌, get_or, ap, sym}
use Rattle.std.specs.List.{fold}
use Rattle.rb_rules.specs.declared.say.Say.{Say}
use Rattle.rb_world_traffic.specs.Saying.{entries_at, later_frame, sooner_frame}
use Rattle.rb_world_traffic.proofs.Says.{fold-more}
use Rattle.rb_world_traffic.proofs.saying.frames_of.Goals as goal

pub loop-number-preserved : goal.loop-number-preserved
loop-number-preserved c =
    let i = c.loop-number.number-index in
    let more = c.with_frames_of.ensures in
    let next : List Say = entries_at c.args.says.now (get_or c.args.places.now i 0 ∷ []) in
    record {
      first = more.first ∙ ap (λ a. fold sooner_frame a next) c.loop-number.invariant.first ∙ sym (fold-more sooner_frame 4294967296 c.args.says.now c.args.places.now i c.loop-number-test.true);
      last = more.last ∙ ap (λ a. fold later_frame a next) c.loop-number.invariant.last ∙ sym (fold-more later_frame 0 c.args.says.now c.args.places.now i c.loop-number-test.true);
    }
