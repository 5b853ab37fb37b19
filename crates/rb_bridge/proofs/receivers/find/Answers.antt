use Rattle.std.proofs.Common.{get_or, refl, ◌∙◌, ap, arith}
use Rattle.rb_group.specs.{Groups.{group_value, values_of, voted_by}, declared.voters.Which.TheVariants.Most}
use Rattle.rb_group_run.proofs.Held.{portion_at}
use Rattle.rb_bridge.proofs.receivers.find.Goals as goal

pub returns : goal.returns
returns c = λ members told hold.
    let at = c.from.result in
    let portion = portion_at members told c.args.groups.now at (get_or c.args.groups.now at c.index-groups-from.result) c.index-groups-from.result (omega arith) refl hold in
    c.most_of.ensures
    ∙ ap (voted_by Most) (c.values.ensures (told at) portion.heard ∙ ap (λ m. values_of m (told at)) portion.members_are)
    ∙ ap (λ i. group_value Most members (told i)) c.from.ensures
