use Rattle.std.proofs.Common.{None, ◌∙◌, subst}
use Rattle.rb_world_onset.specs.{Faults.Faults, Search.IsNextAmong}
use Rattle.rb_world_onset.proofs.Changes.{next_change}
use Rattle.rb_world_onset.proofs.Onsets.next_change.Goals as goal

pub returns : goal.returns
returns c =
    let o = c.self.inside in
    let faults : Faults = record { sizes = o.shape; biu_onsets = o.bius; rmu_onsets = o.rmus } in
    let frame = c.args.frame in
    let slot = c.args.slot in
    let change = c.next_among-change.result in
    λ sc is.
    next_change faults frame slot change c.next_among.result
    (subst (λ n. IsNextAmong n o.bius frame slot None change) c.biu.ensures.value c.next_among-change.ensures)
    (subst (λ n. IsNextAmong n o.rmus frame slot change c.next_among.result) c.rmu.ensures.value c.next_among.ensures) sc (c.self.view_is ∙ is)
