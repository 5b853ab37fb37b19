use Rattle.std.proofs.Common.{◌<◌, ◌&&◌, ◌==◌, ◌∙◌, ap}
use Rattle.rb_base.specs.Nodes.{has}
use Rattle.rb_base.proofs.{Plain.eq_self, Sets.has-is}
use Rattle.rb_rules.specs.Standing.{is_eligible}
use Rattle.rb_eligible.specs.Standings.{standing_of}
use Rattle.rb_eligible.proofs.standing.Standing.eligible.Goals as goal

pub returns : goal.returns
returns g c =
    let s = standing_of c.args.self.now in
    let id = c.args.id in
    let below : id < 16 = rw c.index.ensures.value at c.index.ensures.range in
    c.has.ensures ∙ ap (has c.eligible_of.result) c.index.ensures.value
    ∙ has-is c.eligible_of.result id (λ j. has c.only.result j && is_eligible s j) c.eligible_of.ensures below
    ∙ ap (λ b. b && is_eligible s id) (has-is c.only.result id (λ i. i == id) c.only.ensures below ∙ eq_self id)
