use Rattle.std.proofs.{Common.{rules, ap, ◌∙◌, filter, nat_le, Bool}, lemmas.Fn.filter_same}
use Rattle.rb_queue.specs.declared.arrival.Arrival.{Arrival}
use Rattle.rb_queue.proofs.lane.keep_later.Goals as goal

pub returns-clause-left : goal.returns-clause-left
returns-clause-left c =
    let later : Arrival → Bool = λ r. nat_le c.args.until r.time in
    filter_same _ later _ (λ x b f' k. search rules) _ _ c.retain.ensures.filtered ∙ ap (filter later) c.drop_gone.ensures.left
