use Rattle.std.proofs.Common.{◌∙◌, [], ap, arith}
use Rattle.rb_base.specs.{Nodes.has, Nodes.Side.Rmu}
use Rattle.rb_judge.proofs.Noting.{good_shown, noted_shown, shows_knows}
use Rattle.rb_test_parts.proofs.judging.classes_seen.Goals as goal

pub note-requires-clause-good : goal.note-requires-clause-good
note-requires-clause-good c =
    let begun = c.stage.ensures.begun [] (shows_knows _ _ c.new-judge.ensures.begun) in
    good_shown _ _ Rmu 0 begun ∙ ap (λ s. has s 0) c.from_bits-2.ensures

pub note-requires-clause-once : goal.note-requires-clause-once
note-requires-clause-once c =
    let begun = c.stage.ensures.begun [] (shows_knows _ _ c.new-judge.ensures.begun) in
    noted_shown _ _ Rmu 0 3 (omega arith) (omega arith) begun

pub note-requires-2-clause-good : goal.note-requires-2-clause-good
note-requires-2-clause-good c =
    let begun = c.stage.ensures.begun [] (shows_knows _ _ c.new-judge.ensures.begun) in
    good_shown _ _ Rmu 1 (c.note.ensures.seen _ begun) ∙ ap (λ s. has s 1) c.from_bits-2.ensures

pub note-requires-2-clause-once : goal.note-requires-2-clause-once
note-requires-2-clause-once c =
    let begun = c.stage.ensures.begun [] (shows_knows _ _ c.new-judge.ensures.begun) in
    noted_shown _ _ Rmu 1 3 (omega arith) (omega arith) (c.note.ensures.seen _ begun)

pub note-requires-3-clause-good : goal.note-requires-3-clause-good
note-requires-3-clause-good c =
    let begun = c.stage.ensures.begun [] (shows_knows _ _ c.new-judge.ensures.begun) in
    good_shown _ _ Rmu 2 (c.note-2.ensures.seen _ (c.note.ensures.seen _ begun)) ∙ ap (λ s. has s 2) c.from_bits-2.ensures

pub note-requires-3-clause-once : goal.note-requires-3-clause-once
note-requires-3-clause-once c =
    let begun = c.stage.ensures.begun [] (shows_knows _ _ c.new-judge.ensures.begun) in
    noted_shown _ _ Rmu 2 3 (omega arith) (omega arith) (c.note-2.ensures.seen _ (c.note.ensures.seen _ begun))
