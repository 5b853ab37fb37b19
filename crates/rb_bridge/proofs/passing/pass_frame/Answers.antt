use Rattle.std.proofs.Common.{◌≡◌, ◌++◌, false, refl, sym, ◌∙◌, ap, arith}
use Rattle.rb_world_book.specs.Records.{record_of}
use Rattle.rb_bridge.specs.Passing.{is_over}
use Rattle.rb_bridge.proofs.{Passed.{all-passed, few-passed, none-passed, one-passed}, UnderWay.goes}
use Rattle.rb_bridge.proofs.passing.pass_frame.Goals as goal

pub loop-passed-init : goal.loop-passed-init
loop-passed-init g c = record {
  passing = λ handed told before given holds. none-passed _ _ _ _ _ _ _ _ _ _ given holds;
  bus = refl;
  stays = refl;
}

pub returns-then-is_over-clause-passes : goal.returns-then-is_over-clause-passes
returns-then-is_over-clause-passes g c = λ handed told before given holds.
    let is = c.loop-passed.invariant.passing handed told before given holds in
    all-passed _ _ _ _ _ _ _ _ _ _ _ _ _ c.next-turn.result is (goes c.args.world.now.bus handed (g.D.Drive.is_plain c.args.drive.now) (g.D.Drive.is_plain c.loop-passed.drive) told (g.D.Drive.told c.loop-passed.drive)
    (g.D.Drive.told c.next-turn.new.self) c.loop-passed.world c.next-turn.new.world (before ++ is.more) c.next-turn.result is.given c.loop-passed.invariant.stays
    c.next-turn.ensures.plain c.next-turn.ensures.alike c.next-turn.ensures.bus c.next-turn.ensures.told)
    (ap (λ f. is_over c.args.terms.now.frames f (record_of c.next-turn.result)) (sym is.holds.frame_is) ∙ sym c.is_over.ensures ∙ c.if-is_over.true)

pub returns-then-is_over-clause-bus : goal.returns-then-is_over-clause-bus
returns-then-is_over-clause-bus g c = c.next-turn.ensures.bus ∙ c.loop-passed.invariant.bus

pub returns-then-is_over-clause-stays : goal.returns-then-is_over-clause-stays
returns-then-is_over-clause-stays g c = c.next-turn.ensures.stays ∙ c.loop-passed.invariant.stays

pub loop-passed-preserved : goal.loop-passed-preserved
loop-passed-preserved g c = record {
  passing = λ handed told before given holds.
      let is = c.loop-passed.invariant.passing handed told before given holds in
      let within : is_over c.args.terms.now.frames c.args.passage.now.ports.frame (record_of c.next-turn.result) ≡ false = ap (λ f. is_over c.args.terms.now.frames f (record_of c.next-turn.result)) (sym is.holds.frame_is) ∙ sym c.is_over.ensures ∙ c.if-is_over.false in
      one-passed _ _ _ _ _ _ _ _ _ _ _ _ c.keep.new.passage _ c.next-turn.result is (goes c.args.world.now.bus handed (g.D.Drive.is_plain c.args.drive.now) (g.D.Drive.is_plain c.loop-passed.drive) told (g.D.Drive.told c.loop-passed.drive)
      (g.D.Drive.told c.next-turn.new.self) c.loop-passed.world c.next-turn.new.world (before ++ is.more) c.next-turn.result is.given c.loop-passed.invariant.stays
      c.next-turn.ensures.plain c.next-turn.ensures.alike c.next-turn.ensures.bus c.next-turn.ensures.told)
      within (c.keep.ensures c.args.passage.now.ports.frame (before ++ is.more) within is.holds);
  bus = c.next-turn.ensures.bus ∙ c.loop-passed.invariant.bus;
  stays = c.next-turn.ensures.stays ∙ c.loop-passed.invariant.stays;
}

pub unreachable-requires : goal.unreachable-requires
unreachable-requires g c =
    let r = c.requires in
    let few = few-passed _ _ _ _ _ _ _ _ _ _ _ (c.loop-passed.invariant.passing r.handed r.told r.turns r.given r.holds) in
    let past = c.loop-passed-test.false in
    absurd (omega (arith, few, past))
