use Rattle.rb_eligible.specs.Standings.{standing_of}
use Rattle.rb_eligible.proofs.Agreeing.{due_ones, due_soles, due_taken}
use Rattle.rb_eligible.proofs.taking.take_with_evidence.Goals as goal

pub take_due-taking-requires-clause-due : goal.take_due-taking-requires-clause-due
take_due-taking-requires-clause-due g c = due_soles c.args.inbox.now (standing_of c.args.standing.now) c.args.expected c.due_of-due.result c.due_of-due.ensures.due

pub accuse_by-requires : goal.accuse_by-requires
accuse_by-requires g c =
    due_ones c.args.inbox.now (standing_of c.args.standing.now) c.args.expect.now c.args.expected c.due_of-due.result c.take_due-taking.result.ones c.due_of-due.ensures.due c.take_due-taking.ensures.ones

pub returns-clause-ones : goal.returns-clause-ones
returns-clause-ones g c =
    due_ones c.args.inbox.now (standing_of c.args.standing.now) c.args.expect.now c.args.expected c.due_of-due.result c.take_due-taking.result.ones c.due_of-due.ensures.due c.take_due-taking.ensures.ones

pub returns-clause-taken : goal.returns-clause-taken
returns-clause-taken g c =
    due_taken c.args.inbox.now (standing_of c.args.standing.now) c.args.expect.now c.args.expected c.due_of-due.result c.take_due-taking.new.taken c.due_of-due.ensures.due c.take_due-taking.ensures.all
    c.take_due-taking.ensures.taken
