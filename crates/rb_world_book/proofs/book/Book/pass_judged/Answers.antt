use Rattle.std.proofs.Common.{sym, ◌∙◌, ap, subst}
use Rattle.rb_base.specs.Nodes.Side.{Biu, Rmu}
use Rattle.rb_world_book.specs.{Records.milestone_of, Settling.GoesKind}
use Rattle.rb_world_book.proofs.Steady.{goes-on}
use Rattle.rb_world_book.proofs.book.Book.pass_judged.Goals as goal

pub returns-in-Some : goal.returns-in-Some
returns-in-Some c =
    let before = c.args.self.now in
    let place = c.args.place in
    let next = c.in-Some.next in
    let steady = c.in-Some.ensures in
    let stays = c.stay_until.ensures in
    record {
      record_is = c.slot_turn.ensures;
      shape = stays.shape;
      frames = stays.frames;
      eps = stays.eps;
      onsets = stays.onsets;
      judge = stays.judge;
      ended = stays.ended;
      lines = stays.lines ∙ c.keep_lines.ensures;
      upcoming = λ few slots. ap milestone_of stays.upcoming ∙ steady.after slots;
      bius = subst (λ m. GoesKind Biu before.shape before.onsets place before.bius c.stay_until.new.self.bius m) (sym stays.upcoming)
          (goes-on Biu before.shape before.onsets place next before.bius c.stay_until.new.self.bius steady.other steady.bius stays.bius);
      rmus = subst (λ m. GoesKind Rmu before.shape before.onsets place before.rmus c.stay_until.new.self.rmus m) (sym stays.upcoming)
          (goes-on Rmu before.shape before.onsets place next before.rmus c.stay_until.new.self.rmus steady.other steady.rmus stays.rmus);
    }
