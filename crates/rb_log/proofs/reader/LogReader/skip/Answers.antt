-- What is passed is what stood in front.
use Rattle.std.proofs.Common.{◌≡◌, sym, ap, ◌∙◌}
use Rattle.rb_log.specs.{Cursor.events_left, LogText.Log}
use Rattle.rb_log.proofs.QuietTicks.{split_passed}
use Rattle.rb_log.proofs.reader.LogReader.skip.Goals as goal

pub returns-clause-passed : goal.returns-clause-passed
returns-clause-passed c =
    let shown : events_left c.self.inside.cursor ≡ c.args.self.now.events = ap (λ (l : Log). l.events) c.self.view_is in
    sym shown ∙ split_passed c.args.most c.skip.result (events_left c.self.inside.cursor) _ c.skip.ensures.value c.skip.ensures.rest
