use Rattle.std.proofs.Common.{◌≡◌, None, Some, refl, sym, ◌∙◌, rules, arith}
use Rattle.rb_base.proofs.Plain.{on_err}
use Rattle.rb_world_book.specs.Records.{record_of}
use Rattle.rb_run.specs.{Runs.end_at, Turns.records_in}
use Rattle.rb_run.proofs.{Told.{all-told, goes-on-telling, part-told, says-the-same, starts}, Histories.{has-driven, has-driven-some, is-through, moves-on, sets-out, still-on}, UnderWay.{ends-so, few-turns}}
use Rattle.rb_run.proofs.telling.tell_to_end.Goals as goal

pub loop-passed-init : goal.loop-passed-init
loop-passed-init g c = record {
  telling = starts _ (g.T.Teller.has_told c.args.teller.now c.args.world.now.bus) (g.K.Sink.held c.args.output.now)
      (sets-out g.D.Drive.gives g.D.Drive.keeps c.args.world.now (g.D.Drive.is_plain c.args.drive.now) (g.D.Drive.told c.args.drive.now) c.args.drive.now c.requires.begun)
      (g.met.T.Teller.says_nothing c.args.teller.now c.args.world.now.bus) c.requires.fresh;
  same = refl;
  later = omega arith;
  bus = refl;
  stays = refl;
}

pub returns-in_err-tell-clause-written : goal.returns-in_err-tell-clause-written
returns-in_err-tell-clause-written g c =
    let is = c.loop-passed.invariant.telling in
    let way = (moves-on is.way c.loop-passed.invariant.stays c.next-turn.ensures.plain c.next-turn.ensures.alike
    c.next-turn.ensures.bus c.next-turn.ensures.told c.next-turn.ensures.gives c.next-turn.ensures.keeps) in
    let next = says-the-same c.args.world.now.bus (records_in is.turns) c.loop-passed.invariant.same (c.in_err-tell.ensures.written c.args.world.now.bus (records_in is.turns) is.has) in
    record { all = search rules; part = on_err _ (part-told c.next-turn.result is next.more next.adds way next.written.part); cause = search rules }

pub returns-in_err-tell-clause-driven_in_part : goal.returns-in_err-tell-clause-driven_in_part
returns-in_err-tell-clause-driven_in_part g c =
    let is = c.loop-passed.invariant.telling in
    on_err _ (has-driven-some (moves-on is.way c.loop-passed.invariant.stays c.next-turn.ensures.plain c.next-turn.ensures.alike
    c.next-turn.ensures.bus c.next-turn.ensures.told c.next-turn.ensures.gives c.next-turn.ensures.keeps))

pub returns-in-Some-clause-written : goal.returns-in-Some-clause-written
returns-in-Some-clause-written g c =
    let is = c.loop-passed.invariant.telling in
    let ends : end_at (record_of c.next-turn.result) ≡ Some c.in-Some.ending = sym c.ending_at.ensures ∙ c.in-Some.is in
    let way = is-through c.next-turn.result (moves-on is.way c.loop-passed.invariant.stays c.next-turn.ensures.plain c.next-turn.ensures.alike
    c.next-turn.ensures.bus c.next-turn.ensures.told c.next-turn.ensures.gives c.next-turn.ensures.keeps) ends in
    let next = says-the-same c.args.world.now.bus (records_in is.turns) c.loop-passed.invariant.same (c.in_ok-tell.ensures.written c.args.world.now.bus (records_in is.turns) is.has) in
    record { all = all-told c.next-turn.result is next.more next.adds way next.written.all; part = search rules; cause = search rules }

pub returns-in-Some-clause-ending : goal.returns-in-Some-clause-ending
returns-in-Some-clause-ending g c =
    let is = c.loop-passed.invariant.telling in
    let ends : end_at (record_of c.next-turn.result) ≡ Some c.in-Some.ending = sym c.ending_at.ensures ∙ c.in-Some.is in
    let way = (moves-on is.way c.loop-passed.invariant.stays c.next-turn.ensures.plain c.next-turn.ensures.alike
    c.next-turn.ensures.bus c.next-turn.ensures.told c.next-turn.ensures.gives c.next-turn.ensures.keeps) in
    ends-so _ _ _ is.turns c.next-turn.result c.in-Some.ending way.way ends

pub returns-in-Some-clause-driven : goal.returns-in-Some-clause-driven
returns-in-Some-clause-driven g c =
    let is = c.loop-passed.invariant.telling in
    let ends : end_at (record_of c.next-turn.result) ≡ Some c.in-Some.ending = sym c.ending_at.ensures ∙ c.in-Some.is in
    has-driven (is-through c.next-turn.result (moves-on is.way c.loop-passed.invariant.stays c.next-turn.ensures.plain c.next-turn.ensures.alike
    c.next-turn.ensures.bus c.next-turn.ensures.told c.next-turn.ensures.gives c.next-turn.ensures.keeps) ends)

pub loop-passed-preserved : goal.loop-passed-preserved
loop-passed-preserved g c =
    let is = c.loop-passed.invariant.telling in
    let going : end_at (record_of c.next-turn.result) ≡ None = sym c.ending_at.ensures ∙ c.in_default.is in
    let way = still-on c.next-turn.result (moves-on is.way c.loop-passed.invariant.stays c.next-turn.ensures.plain c.next-turn.ensures.alike
    c.next-turn.ensures.bus c.next-turn.ensures.told c.next-turn.ensures.gives c.next-turn.ensures.keeps) going in
    let next = says-the-same c.args.world.now.bus (records_in is.turns) c.loop-passed.invariant.same (c.in_ok-tell.ensures.written c.args.world.now.bus (records_in is.turns) is.has) in
    record {
      telling = goes-on-telling c.next-turn.result is next.more next.adds (g.T.Teller.has_told c.tell.new.self c.args.world.now.bus) way next.written.all
          (c.in_ok-tell.ensures.told c.args.world.now.bus (records_in is.turns) is.has);
      same = c.in_ok-tell.ensures.same ∙ c.loop-passed.invariant.same;
      later = search rules;
      bus = c.next-turn.ensures.bus ∙ c.loop-passed.invariant.bus;
      stays = c.next-turn.ensures.stays ∙ c.loop-passed.invariant.stays;
    }

pub unreachable-requires : goal.unreachable-requires
unreachable-requires g c =
    let is = c.loop-passed.invariant.telling in
    let few = few-turns _ _ _ is.turns _ is.way.way in
    let many = is.many in
    let past = c.loop-passed-test.false in
    absurd (omega (arith, few, many, past))
