use Rattle.std.proofs.Common.{option_map, sym, ap, ◌∙◌, rules}
use Rattle.std.specs.Io.KnownBytes.{Appends}
use Rattle.rb_base.proofs.Plain.{on_err}
use Rattle.rb_outside.specs.Bytes.{AppendsPart}
use Rattle.rb_rules_bridge.specs.declared.bank.Bank.TheVariants.{Left, Right}
use Rattle.rb_bridge.proofs.{Crossed.{breaks-off, crosses-part, goes-on, none-found, pairs-small, some-found, told-all}, SidesPassed.on-its-way}
use Rattle.rb_bridge.specs.Crossing.{run_after, shown}
use Rattle.rb_bridge.proofs.crossing.cross_frame.Goals as goal

pub pass_both-breach-requires : goal.pass_both-breach-requires
pass_both-breach-requires g c =
    let r = c.requires.run in
    record {
      left = λ last. on-its-way r.b Left c.args.frame r.both _ r.left_told _ c.args.left.now r.ready.left last;
      right = λ last. on-its-way r.b Right c.args.frame r.both _ r.right_told _ c.args.right.now r.ready.right last;
    }

pub exchange-requires-clause-left : goal.exchange-requires-clause-left
exchange-requires-clause-left g c = pairs-small c.requires.run.b Left c.args.pairs.now c.requires.run.bridge c.requires.pairs_are

pub exchange-requires-clause-right : goal.exchange-requires-clause-right
exchange-requires-clause-right g c = pairs-small c.requires.run.b Right c.args.pairs.now c.requires.run.bridge c.requires.pairs_are

pub returns-in_err-tell-clause-crosses : goal.returns-in_err-tell-clause-crosses
returns-in_err-tell-clause-crosses g c = λ x.
    let is = c.pass_both-breach.ensures.through x.run in
    record {
      all = search rules;
      part = on_err _ (crosses-part (run_after x.run) c.args.frame c.pass_both-breach.new.left c.pass_both-breach.new.right c.pass_both-breach.result _ _ is
          (told-all (run_after x.run) c.args.frame c.pass_both-breach.new.left c.pass_both-breach.new.right c.pass_both-breach.result
          (AppendsPart (g.K.Sink.held c.args.output.now) (g.K.Sink.held c.tell.new.output)) x.run.within x.run.plain is (λ found. (c.in_err-tell.ensures.writes x.run.b found).part)));
    }

pub returns-then-is_some-clause-crosses : goal.returns-then-is_some-clause-crosses
returns-then-is_some-clause-crosses g c = λ x.
    let is = c.pass_both-breach.ensures.through x.run in
    let found = some-found c.pass_both-breach.result (sym c.is_some.ensures ∙ c.if-is_some.true) in
    record {
      all = breaks-off (run_after x.run) c.args.frame c.pass_both-breach.new.left c.pass_both-breach.new.right c.pass_both-breach.new.left c.pass_both-breach.new.right c.pass_both-breach.result found.0 _ _ is found.1
          (told-all (run_after x.run) c.args.frame c.pass_both-breach.new.left c.pass_both-breach.new.right c.pass_both-breach.result
          (Appends (g.K.Sink.held c.args.output.now) (g.K.Sink.held c.tell.new.output)) x.run.within x.run.plain is (λ found. (c.in_ok-tell.ensures.writes x.run.b found).all));
      part = search rules;
    }

pub returns-clause-crosses : goal.returns-clause-crosses
returns-clause-crosses g c = λ x.
    let is = c.pass_both-breach.ensures.through x.run in
    let none = none-found c.pass_both-breach.result (sym c.is_some.ensures ∙ c.if-is_some.false) in
    let through = is.through (ap (option_map shown) none) in
    record {
      all = goes-on (run_after x.run) c.args.frame c.pass_both-breach.new.left c.pass_both-breach.new.right c.exchange.new.left c.exchange.new.right c.pass_both-breach.result _ _ is none
          (told-all (run_after x.run) c.args.frame c.pass_both-breach.new.left c.pass_both-breach.new.right c.pass_both-breach.result
          (Appends (g.K.Sink.held c.args.output.now) (g.K.Sink.held c.tell.new.output)) x.run.within x.run.plain is (λ found. (c.in_ok-tell.ensures.writes x.run.b found).all))
          (c.exchange.ensures (run_after x.run) c.args.frame
          (record { bridge = x.run.bridge; pairs_are = x.pairs_are; within = x.run.within; plain = x.run.plain; left = through.left; right = through.right; unbroken = λ sure. through.unbroken }));
      part = search rules;
    }
