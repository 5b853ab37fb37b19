use Rattle.std.proofs.Common.{◌&&◌, ◌∙◌, ap}
use Rattle.rb_base.specs.Nodes.{has}
use Rattle.rb_base.proofs.Sets.{has-is}
use Rattle.rb_rules.specs.{Sense.is_one, Standing.is_eligible}
use Rattle.rb_eligible.specs.{Inboxes.sense_in, Standings.standing_of}
use Rattle.rb_eligible.proofs.{Evidence.{either_one, evidence_is}, Sensed.came_is}
use Rattle.rb_eligible.proofs.taking.accuse_by.Goals as goal

pub returns : goal.returns
returns g c = λ received shown.
    let s = standing_of c.args.standing.now in
    let e = c.args.expect.now in
    let sense = sense_in e received in
    c.accuse_each.ensures.accused
    ∙ evidence_is s c.args.expected c.union-ones.result c.came.result c.evidence-evidence.result sense c.evidence-evidence.ensures
    (λ j h. ap (λ t. has t j) c.came.ensures.value ∙ came_is e c.args.inbox.now received j shown h)
    (λ j h trusted expected.
    either_one s c.args.expected c.intersection-barred.result c.args.ones c.ones_barred.result c.union-ones.result j (λ j. is_one (sense j)) h trusted expected
    c.intersection-barred.ensures c.union-ones.ensures
    (has-is c.args.ones j (λ j. (has c.args.expected j && is_eligible s j) && is_one (sense j)) (c.requires received shown) h)
    (c.ones_barred.ensures received shown))
