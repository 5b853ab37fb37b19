use Rattle.std.proofs.Common.{◌++◌, ap, sym}
use Rattle.rb_world_book.specs.Records.{record_of}
use Rattle.rb_group_run.specs.Replies.{told_in}
use Rattle.rb_group_run.proofs.Held.{told_same, untold}
use Rattle.rb_group_run.proofs.ports.hear.Goals as goal

pub returns-in-Slot : goal.returns-in-Slot
returns-in-Slot c = λ members told hold.
    told_same members _ (λ i. told i ++ told_in c.args.frame i (record_of c.args.turn.now)) c.hear_if_now.new.groups
    (λ i. ap (λ ds. told i ++ ds) (sym (ap (told_in c.args.frame i) (ap record_of c.in-Slot.is)))) (c.hear_if_now.ensures members told hold)

pub returns-in-Quiet : goal.returns-in-Quiet
returns-in-Quiet c = λ members told hold.
    untold members c.args.frame told (record_of c.args.turn.now) c.args.groups.now (λ i. ap (told_in c.args.frame i) (ap record_of c.in-Quiet.is)) hold

pub returns-in-Frame : goal.returns-in-Frame
returns-in-Frame c = λ members told hold.
    untold members c.args.frame told (record_of c.args.turn.now) c.args.groups.now (λ i. ap (told_in c.args.frame i) (ap record_of c.in-Frame.is)) hold

pub returns-in-Ended : goal.returns-in-Ended
returns-in-Ended c = λ members told hold.
    untold members c.args.frame told (record_of c.args.turn.now) c.args.groups.now (λ i. ap (told_in c.args.frame i) (ap record_of c.in-Ended.is)) hold

pub returns-in-Breach : goal.returns-in-Breach
returns-in-Breach c = λ members told hold.
    untold members c.args.frame told (record_of c.args.turn.now) c.args.groups.now (λ i. ap (told_in c.args.frame i) (ap record_of c.in-Breach.is)) hold
