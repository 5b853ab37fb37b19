use Rattle.std.proofs.Common.{ap, refl, subst, sym, length, [], ◌∷◌, ◌++◌, ◌≡◌, ◌∙◌}
use Rattle.rb_link.specs.Pairs.{IsIndex}
use Rattle.rb_link.proofs.PairIndex.{index_whole, its_places_more, one_start_more, places_below, sent_stays, starts_below}
use Rattle.rb_link.proofs.Index.new.Goals as goal

pub loop-pair-init : goal.loop-pair-init
unfolding places_below starts_below
loop-pair-init c = record {
  starts = c.new-starts.ensures.items;
  places = c.new-places.ensures.items;
  sent = λ more. absurd (more refl);
}

pub loop-pair-preserved : goal.loop-pair-preserved
loop-pair-preserved c =
    let is = c.loop-pair.invariant in
    record {
      starts = c.in_ok-add_start.ensures
          ∙ ap (λ l. c.loop-pair.starts.items ++ length l ∷ []) c.deref.ensures.value
          ∙ one_start_more c.loop-pair.pair c.args.rules.now _ c.loop-pair.places.items is.starts is.places;
      places = c.in_ok-add_places.ensures
          ∙ its_places_more c.loop-pair.pair _ _ _ _ is.places (c.deref-in-loop-pair.ensures.value ∙ c.in_ok-sent.ensures) c.receiver_of.ensures;
      sent = λ more. sent_stays c.loop-pair.pair c.args.rules.now _ c.in_ok-sent.ensures more;
    }

pub returns : goal.returns
returns c =
    let is = c.loop-pair.invariant in
    let starts : c.add_start-2.new.starts.items ≡ c.loop-pair.starts.items ++ length c.loop-pair.places.items ∷ [] =
    c.in_ok-add_start-2.ensures ∙ ap (λ l. c.loop-pair.starts.items ++ length l ∷ []) c.deref-2.ensures.value in
    subst (λ l. IsIndex c.args.rules.now l c.loop-pair.places.items) (sym starts)
    (index_whole c.loop-pair.pair c.args.rules.now _ _ is.starts is.places)
