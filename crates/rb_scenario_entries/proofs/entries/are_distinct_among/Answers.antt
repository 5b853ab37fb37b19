use Rattle.std.proofs.Common.{◌≡◌, ◌+◌, ◌&&◌, arith, get_or, drop, sym, ap, ◌∙◌}
use Rattle.toml.specs.View.{items_view}
use Rattle.rb_scenario_document.specs.Walk.{tables_in}
use Rattle.rb_scenario_entries.specs.{Entries.nodes_in, Seen.are_new}
use Rattle.rb_scenario_entries.proofs.Distinct.{are_new-more, new_at_first}
use Rattle.rb_scenario_entries.proofs.entries.are_distinct_among.Goals as goal

pub loop-value-init : goal.loop-value-init
loop-value-init c =
    new_at_first c.empty.result c.empty-2.result (nodes_in c.args.shape.now (tables_in (items_view c.args.values.now.items))) c.empty.ensures.value c.empty-2.ensures.value

pub returns-then-not-note_entry : goal.returns-then-not-note_entry
returns-then-not-note_entry c =
    let sizes = c.args.shape.now in
    let vs = c.args.values.now.items in
    let i = c.loop-value.value-index in
    let v = c.value-item.result in
    let is : v ≡ get_or vs i v = rw c.deref-value-items.ensures.value at c.value-item.is in
    let rest = are_new c.note_entry.new.seen (nodes_in sizes (tables_in (items_view (drop (i + 1) vs)))) in
    sym (ap (λ b. b && rest) c.if-not-note_entry.true)
    ∙ sym (are_new-more sizes c.requires vs i v c.loop-value.seen c.note_entry.new.seen c.note_entry.result (omega arith) is c.note_entry.ensures)
    ∙ c.loop-value.invariant

pub loop-value-preserved : goal.loop-value-preserved
loop-value-preserved c =
    let sizes = c.args.shape.now in
    let vs = c.args.values.now.items in
    let i = c.loop-value.value-index in
    let v = c.value-item.result in
    let is : v ≡ get_or vs i v = rw c.deref-value-items.ensures.value at c.value-item.is in
    let rest = are_new c.note_entry.new.seen (nodes_in sizes (tables_in (items_view (drop (i + 1) vs)))) in
    sym (ap (λ b. b && rest) c.if-not-note_entry.false)
    ∙ sym (are_new-more sizes c.requires vs i v c.loop-value.seen c.note_entry.new.seen c.note_entry.result (omega arith) is c.note_entry.ensures)
    ∙ c.loop-value.invariant
