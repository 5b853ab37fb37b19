use Rattle.std.proofs.{Common.{Ok, Err, subst, drop, length, arith, ◌≤◌}, lemmas.List.take_rest}
use Rattle.rb_picture.specs.Lines.{FailsBehind, FindsEach, StandsFirst}
use Rattle.rb_picture.proofs.{Orders.{ends_early, fails_here, few_more, grown}, Whole.{goes_on, left_some, no_report_here, no_report_without_end}}
use Rattle.rb_picture.proofs.reading.lines_in.Goals as goal

pub loop-at-preserved : goal.loop-at-preserved
loop-at-preserved c =
    let before = c.loop-at.invariant in
    let first : StandsFirst (drop c.loop-at.at c.args.bytes.now) c.loop-at.newest c.in-Ok.next.0 c.in-Ok.next.1 =
    subst (λ b. StandsFirst b c.loop-at.newest c.in-Ok.next.0 c.in-Ok.next.1) (take_rest c.args.bytes.now c.loop-at.at) c.in-Ok.ensures.line in
    let each : FindsEach (drop c.loop-at.at c.args.bytes.now) c.loop-at.newest (Ok c.in-Ok.next) =
    subst (λ r. FindsEach (drop c.loop-at.at c.args.bytes.now) c.loop-at.newest r) c.in-Ok.is
    (subst (λ b. FindsEach b c.loop-at.newest c.next_line.result) (take_rest c.args.bytes.now c.loop-at.at) c.next_line.ensures.each) in
    record {
      so_far = grown c.args.bytes.now c.loop-at.at c.in-Ok.next.1 c.loop-at.newest c.line_place-newest.result c.loop-at.lines.items c.push.new.self.items c.in-Ok.next.0 before.so_far first c.in-Ok-push.ensures.items c.line_place-newest.ensures;
      few = few_more c.loop-at.at c.in-Ok.next.1 c.loop-at.lines.items c.push.new.self.items c.in-Ok.next.0 before.few first.some_byte c.in-Ok-push.ensures.items;
      goes = goes_on c.args.bytes.now c.loop-at.at c.loop-at.newest c.line_place-newest.result c.in-Ok.next.1 c.in-Ok.next.0 (left_some c.args.bytes.now c.loop-at.at c.loop-at-test.true) each before.goes c.line_place-newest.ensures;
    }

pub returns-in-Err-clause-fault : goal.returns-in-Err-clause-fault
returns-in-Err-clause-fault c =
    let before = c.loop-at.invariant in
    let fails : FailsBehind c.loop-at.newest c.in-Err.fault (drop c.loop-at.at c.args.bytes.now) =
    subst (λ b. FailsBehind c.loop-at.newest c.in-Err.fault b) (take_rest c.args.bytes.now c.loop-at.at) c.in-Err.ensures.fault in
    let each : FindsEach (drop c.loop-at.at c.args.bytes.now) c.loop-at.newest (Err c.in-Err.fault) =
    subst (λ r. FindsEach (drop c.loop-at.at c.args.bytes.now) c.loop-at.newest r) c.in-Err.is
    (subst (λ b. FindsEach b c.loop-at.newest c.next_line.result) (take_rest c.args.bytes.now c.loop-at.at) c.next_line.ensures.each) in
    fails_here c.args.bytes.now c.loop-at.at c.loop-at.newest _ c.loop-at.lines.items c.in-Err.fault before.so_far (omega (arith, c.len.ensures, c.loop-at.lines.ok.0)) fails
    (no_report_here c.args.bytes.now c.loop-at.at c.loop-at.newest c.in-Err.fault (left_some c.args.bytes.now c.loop-at.at c.loop-at-test.true) each before.goes)

pub returns-else-newest-eq-LAST_PLACE-clause-fault : goal.returns-else-newest-eq-LAST_PLACE-clause-fault
returns-else-newest-eq-LAST_PLACE-clause-fault c =
    let before = c.loop-at.invariant in
    let end : length c.args.bytes.now ≤ c.loop-at.at = omega (arith, c.loop-at-test.false) in
    ends_early c.args.bytes.now c.loop-at.at c.loop-at.newest _ c.loop-at.lines.items before.so_far (omega (arith, c.len-else-newest-eq-LAST_PLACE.ensures, c.loop-at.lines.ok.0)) end
    c.if-newest-eq-LAST_PLACE.false (no_report_without_end c.args.bytes.now c.loop-at.at c.loop-at.newest end c.if-newest-eq-LAST_PLACE.false before.goes)
