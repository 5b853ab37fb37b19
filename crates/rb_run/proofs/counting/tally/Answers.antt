use Rattle.std.proofs.Common.{◌≡◌, None, Some, [], refl, sym, ◌∙◌, arith}
use Rattle.rb_world_book.specs.Records.{record_of}
use Rattle.rb_run.specs.Runs.{end_at}
use Rattle.rb_run.proofs.{Counted.{all-counted, one-counted}, Histories.{has-driven, is-through, moves-on, sets-out, still-on}, UnderWay.{ends-so, few-turns}}
use Rattle.rb_run.proofs.counting.tally.Goals as goal

pub loop-passed-init : goal.loop-passed-init
loop-passed-init g c = record {
  counted = record {
    turns = [];
    way = sets-out g.D.Drive.gives g.D.Drive.keeps c.args.world.now (g.D.Drive.is_plain c.args.drive.now) (g.D.Drive.told c.args.drive.now) c.args.drive.now c.requires;
    many = refl;
    are = refl;
  };
  few = omega arith;
  bus = refl;
  stays = refl;
}

pub returns-in-Some-clause-totals : goal.returns-in-Some-clause-totals
returns-in-Some-clause-totals g c =
    let is = c.loop-passed.invariant.counted in
    let ends : end_at (record_of c.next-turn.result) ≡ Some c.in-Some.ending = sym c.ending_at.ensures ∙ c.in-Some.is in
    all-counted c.next-turn.result is (is-through c.next-turn.result (moves-on is.way c.loop-passed.invariant.stays c.next-turn.ensures.plain c.next-turn.ensures.alike
    c.next-turn.ensures.bus c.next-turn.ensures.told c.next-turn.ensures.gives c.next-turn.ensures.keeps) ends) c.count-totals.ensures.counted

pub returns-in-Some-clause-ending : goal.returns-in-Some-clause-ending
returns-in-Some-clause-ending g c =
    let is = c.loop-passed.invariant.counted in
    let ends : end_at (record_of c.next-turn.result) ≡ Some c.in-Some.ending = sym c.ending_at.ensures ∙ c.in-Some.is in
    let way = (moves-on is.way c.loop-passed.invariant.stays c.next-turn.ensures.plain c.next-turn.ensures.alike
    c.next-turn.ensures.bus c.next-turn.ensures.told c.next-turn.ensures.gives c.next-turn.ensures.keeps) in
    ends-so _ _ _ is.turns c.next-turn.result c.in-Some.ending way.way ends

pub returns-in-Some-clause-driven : goal.returns-in-Some-clause-driven
returns-in-Some-clause-driven g c =
    let is = c.loop-passed.invariant.counted in
    let ends : end_at (record_of c.next-turn.result) ≡ Some c.in-Some.ending = sym c.ending_at.ensures ∙ c.in-Some.is in
    has-driven (is-through c.next-turn.result (moves-on is.way c.loop-passed.invariant.stays c.next-turn.ensures.plain c.next-turn.ensures.alike
    c.next-turn.ensures.bus c.next-turn.ensures.told c.next-turn.ensures.gives c.next-turn.ensures.keeps) ends)

pub loop-passed-preserved : goal.loop-passed-preserved
loop-passed-preserved g c =
    let is = c.loop-passed.invariant.counted in
    let going : end_at (record_of c.next-turn.result) ≡ None = sym c.ending_at.ensures ∙ c.in_default.is in
    let more = c.count-totals.ensures.few in
    let few = c.loop-passed.invariant.few in
    record {
      counted = one-counted c.next-turn.result is (still-on c.next-turn.result (moves-on is.way c.loop-passed.invariant.stays c.next-turn.ensures.plain c.next-turn.ensures.alike
          c.next-turn.ensures.bus c.next-turn.ensures.told c.next-turn.ensures.gives c.next-turn.ensures.keeps) going) c.count-totals.ensures.counted;
      few = omega (arith, more, few);
      bus = c.next-turn.ensures.bus ∙ c.loop-passed.invariant.bus;
      stays = c.next-turn.ensures.stays ∙ c.loop-passed.invariant.stays;
    }

pub unreachable-requires : goal.unreachable-requires
unreachable-requires g c =
    let is = c.loop-passed.invariant.counted in
    let few = few-turns _ _ _ is.turns _ is.way.way in
    let many = is.many in
    let past = c.loop-passed-test.false in
    absurd (omega (arith, few, many, past))
