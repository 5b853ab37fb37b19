use Rattle.std.proofs.Common.{refl, sym, ◌∙◌}
use Rattle.rb_eligible.specs.Inboxes.{sole_at}
use Rattle.rb_eligible.proofs.Runs.{more_fit, more_led, more_ones, partial_next, partial_ones, partial_values, partial_vote}
use Rattle.rb_eligible.proofs.taking.take_runs.Goals as goal

pub loop-first-init : goal.loop-first-init
loop-first-init g c = record { partial = c.requires.start; all = c.requires.all }

pub loop-first-preserved : goal.loop-first-preserved
loop-first-preserved g c =
    let kept = c.args.inbox.now in
    let due = c.args.due in
    let l = c.loop-first in
    let inv = l.invariant in
    let rest = c.take_run-rest.result in
    let run = c.difference-run.result in
    let said = c.said_of-said.result in
    let ones = c.with_ones-ones.result in
    let lead = c.with_run-lead.result in
    let sole = sole_at kept.soles c.in-Some.first in
    let taken' = c.take_run-rest.new.taken in
    let taking = c.take_run-rest.ensures.run in
    let says = rw c.sole_at.ensures.value at c.said_of-said.ensures in
    record {
      partial =
          partial_next kept c.args.expect.now due l.left rest l.ones ones l.lead.sources lead.sources said.one said.value l.lead.value lead.value sole l.taken taken'
          c.requires.due says taking (more_fit l.ones ones run said.one c.with_ones-ones.ensures inv.partial.fits)
          (more_ones l.left rest run l.ones ones said.one c.difference-run.ensures c.with_ones-ones.ensures)
          (more_led l.left rest run l.lead.sources lead.sources said.value l.lead.value lead.value c.difference-run.ensures c.with_run-lead.ensures) inv.partial;
      all = c.take_run-rest.ensures.all;
    }

pub returns-clause-ones : goal.returns-clause-ones
returns-clause-ones g c =
    let l = c.loop-first in
    partial_ones c.args.inbox.now c.args.expect.now c.args.due l.left l.ones l.lead.sources l.lead.value l.taken (c.in_default.ensures.none refl) l.invariant.partial

pub returns-clause-taken : goal.returns-clause-taken
returns-clause-taken g c =
    let l = c.loop-first in
    partial_values c.args.inbox.now c.args.expect.now c.args.due l.left l.ones l.lead.sources l.lead.value l.taken (c.in_default.ensures.none refl) l.invariant.partial

pub returns-clause-alike : goal.returns-clause-alike
returns-clause-alike g c = λ is.
    let l = c.loop-first in
    partial_vote c.args.inbox.now c.args.expect.now c.args.due l.left l.ones l.lead.sources l.lead.value l.taken (c.in_default.ensures.none refl) l.invariant.all
    (c.leads.ensures is) l.invariant.partial
    ∙ sym c.unwrap_or.ensures

pub returns-clause-all : goal.returns-clause-all
returns-clause-all g c = c.loop-first.invariant.all
