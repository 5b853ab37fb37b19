-- What is kept beside the rules is made of the latest rules of the pairs.
use Rattle.std.proofs.Common.{◌∙◌, ap, map, subst, sym}
use Rattle.rb_link.specs.{Prepared.ArePrepared, Rows.{AreShared, delay_of_rule}}
use Rattle.rb_link.proofs.NodeRows.{rows_of}
use Rattle.rb_link.proofs.Delays.new.Goals as goal

pub invariant_of-result : goal.invariant_of-result
invariant_of-result c =
    let latest = c.in_ok-latest.latest.items in
    let shared = c.in_ok-shared.shared.items in
    let flat = c.in_ok-flat.flat.items in
    subst (λ rules. ArePrepared c.args.base rules latest c.in_ok-index.index.starts.items c.in_ok-index.index.places.items shared flat)
    (sym c.in_ok-rules.ensures.items)
    (record {
      latest_are = c.in_ok-latest.ensures.latest;
      index_is = c.in_ok-index.ensures;
      rows_are = rows_of c.args.base c.args.rules.now latest shared flat c.in_ok-latest.ensures.latest
          (subst (λ l. AreShared l shared) c.deref.ensures.value c.in_ok-shared.ensures.shared) c.in_ok-latest.ensures.many c.in_ok-shared.ensures.many
          (c.in_ok-flat.ensures ∙ ap (map delay_of_rule) c.deref-2.ensures.value);
    })
