use Rattle.std.proofs.Common.{rules, []}
use Rattle.rb_base.proofs.Plain.{on_err}
use Rattle.rb_world_book.specs.Records.{record_of}
use Rattle.rb_group_run.specs.{Holding.HasTold, Replies.turn_text}
use Rattle.rb_group_run.proofs.{Scopes.frame_next, Texts.text_with}
use Rattle.rb_group_run.proofs.run.GroupReportTeller.tell.Goals as goal

pub returns-in_err-write_turn-clause-written : goal.returns-in_err-write_turn-clause-written
returns-in_err-write_turn-clause-written g c = λ sc records told.
    let t : HasTold sc records c.args.self.now.query.scope.now c.args.self.now.query.asked.now c.args.self.now.ports = told in
    record {
      more = turn_text sc c.args.self.now.query.asked.now records (record_of c.args.turn.now);
      adds = text_with sc c.args.self.now.query.asked.now [] records (record_of c.args.turn.now);
      written = record { all = search rules; part = on_err _ (c.in_err-write_turn.ensures.writes sc records t.scope_is t.holds).part; cause = search rules };
    }

pub returns-clause-written : goal.returns-clause-written
returns-clause-written g c = λ sc records told.
    let t : HasTold sc records c.args.self.now.query.scope.now c.args.self.now.query.asked.now c.args.self.now.ports = told in
    record {
      more = turn_text sc c.args.self.now.query.asked.now records (record_of c.args.turn.now);
      adds = text_with sc c.args.self.now.query.asked.now [] records (record_of c.args.turn.now);
      written = c.in_ok-write_turn.ensures.writes sc records t.scope_is t.holds;
    }

pub returns-clause-told : goal.returns-clause-told
returns-clause-told g c = λ sc records told.
    let t : HasTold sc records c.args.self.now.query.scope.now c.args.self.now.query.asked.now c.args.self.now.ports = told in
    record {
      scope_is = t.scope_is;
      holds = frame_next sc c.args.self.now.query.scope.now c.args.self.now.query.asked.now records (record_of c.args.turn.now) c.args.self.now.ports c.advance.new.ports t.scope_is t.holds c.advance.ensures;
    }
