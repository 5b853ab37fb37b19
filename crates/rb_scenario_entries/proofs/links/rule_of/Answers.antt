use Rattle.std.proofs.Common.{◌≡◌, ℕ, true, codes, sym, subst}
use Rattle.toml.specs.View.{table_view}
use Rattle.rb_scenario_document.specs.Values.{may_have_range}
use Rattle.rb_scenario_entries.proofs.EntryParts.{link_parts}
use Rattle.rb_scenario_entries.proofs.links.rule_of.Goals as goal

pub range_at-frames-requires-clause-stands : goal.range_at-frames-requires-clause-stands
range_at-frames-requires-clause-stands c =
    let e = table_view c.args.entry.now in
    let P = λ (last : ℕ). may_have_range (codes "frames") 0 last e ≡ true in
    subst P (sym c.last_frame.ensures.value) (link_parts c.args.bus.now e c.requires).frames

pub range_at-slots-requires-clause-stands : goal.range_at-slots-requires-clause-stands
range_at-slots-requires-clause-stands c =
    let e = table_view c.args.entry.now in
    let P = λ (last : ℕ). may_have_range (codes "slots") 0 last e ≡ true in
    subst P (sym c.sync_slot.ensures.value) (link_parts c.args.bus.now e c.requires).slots

pub range_at-stages-requires-clause-stands : goal.range_at-stages-requires-clause-stands
range_at-stages-requires-clause-stands c = (link_parts c.args.bus.now (table_view c.args.entry.now) c.requires).stages

pub number_at-requires : goal.number_at-requires
number_at-requires c = (link_parts c.args.bus.now (table_view c.args.entry.now) c.requires).delay
