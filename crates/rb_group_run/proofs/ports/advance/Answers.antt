use Rattle.std.proofs.Common.{◌++◌, max, ap, sym, ◌∙◌}
use Rattle.std.specs.Option.{option_to_list}
use Rattle.rb_world_book.specs.Records.{record_of}
use Rattle.rb_group.specs.Portions.{port_deliveries}
use Rattle.rb_group_run.specs.Replies.{frame_or, told_in}
use Rattle.rb_group_run.proofs.Held.{portion_more, reached_more, told_same}
use Rattle.rb_group_run.proofs.ports.advance.Goals as goal

pub returns : goal.returns
returns c = λ records hold.
    let frames = c.args.frames in
    let o = record_of c.args.turn.now in
    let f = c.move_to.new.ports.frame in
    let members = c.args.asked.now.members in
    record {
      frame_is =
          c.move_to.ensures.frame ∙ ap (max c.args.ports.now.frame) c.frame_or-next.ensures
          ∙ ap (λ n. max n (frame_or frames n o)) hold.frame_is ∙ sym (reached_more frames records o);
      groups_hold =
          told_same members (λ i. port_deliveries f i records ++ told_in f i o) (λ i. port_deliveries f i (records ++ option_to_list o)) _ (λ i. sym (portion_more f i records o))
          (c.hear.ensures members _ (c.move_to.ensures.groups frames records hold));
    }
