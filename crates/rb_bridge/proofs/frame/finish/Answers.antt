use Rattle.std.proofs.Common.{refl, sym, ◌∙◌, arith}
use Rattle.rb_bridge.proofs.Opened.{all-finished, few-finished, none-finished, one-finished}
use Rattle.rb_bridge.proofs.frame.finish.Goals as goal

pub loop-passed-init : goal.loop-passed-init
loop-passed-init g c = record {
  finishing = λ sc handed told turns given. none-finished sc handed _ told _ c.args.side.now turns given;
  stays = refl;
}

pub returns-then-is_last : goal.returns-then-is_last
returns-then-is_last g c = λ sc handed told turns given.
    all-finished sc handed _ told _ c.loop-passed.side turns c.loop-passed.passed (c.loop-passed.invariant.finishing sc handed told turns given) (sym c.is_last.ensures ∙ c.if-is_last.true)

pub loop-passed-preserved : goal.loop-passed-preserved
loop-passed-preserved g c = record {
  finishing = λ sc handed told turns given.
      one-finished sc handed (g.D.Drive.is_plain c.args.drive.now) (g.D.Drive.is_plain c.loop-passed.drive) told (g.D.Drive.told c.loop-passed.drive) (g.D.Drive.told c.next-side.new.self) c.loop-passed.side c.next-side.new.world turns c.next-side.result c.loop-passed.passed
      (c.loop-passed.invariant.finishing sc handed told turns given) (sym c.is_last.ensures ∙ c.if-is_last.false) c.loop-passed.invariant.stays
      c.next-side.ensures.plain c.next-side.ensures.alike c.next-side.ensures.bus c.next-side.ensures.told;
  stays = c.next-side.ensures.stays ∙ c.loop-passed.invariant.stays;
}

pub unreachable-requires : goal.unreachable-requires
unreachable-requires g c =
    let r = c.requires in
    let few = few-finished _ _ _ _ _ _ _ _ (c.loop-passed.invariant.finishing _ r.handed r.told r.turns r.given) in
    let past = c.loop-passed-test.false in
    absurd (omega (arith, few, past))
