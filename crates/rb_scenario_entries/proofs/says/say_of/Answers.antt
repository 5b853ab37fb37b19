use Rattle.std.proofs.Common.{◌≡◌, ℕ, true, codes, sym, subst}
use Rattle.toml.specs.View.{table_view}
use Rattle.rb_scenario_document.specs.Values.{has_range, may_have_number}
use Rattle.rb_scenario_entries.proofs.EntryParts.{say_parts}
use Rattle.rb_scenario_entries.proofs.says.say_of.Goals as goal

pub range_there-frames-requires : goal.range_there-frames-requires
range_there-frames-requires c =
    let e = table_view c.args.entry.now in
    let P = λ (last : ℕ). has_range (codes "frames") 0 last e ≡ true in
    subst P (sym c.last_frame.ensures.value) (say_parts c.args.bus.now e c.requires.say).frames

pub range_there-slots-requires : goal.range_there-slots-requires
range_there-slots-requires c =
    let e = table_view c.args.entry.now in
    let P = λ (last : ℕ). has_range (codes "slots") 0 last e ≡ true in
    subst P (sym c.sync_slot.ensures.value) (say_parts c.args.bus.now e c.requires.say).slots

pub range_there-stages-requires : goal.range_there-stages-requires
range_there-stages-requires c = (say_parts c.args.bus.now (table_view c.args.entry.now) c.requires.say).stages

pub number_else-requires-clause-stands : goal.number_else-requires-clause-stands
number_else-requires-clause-stands c = (say_parts c.args.bus.now (table_view c.args.entry.now) c.requires.say).offset

pub number_else-requires-2-clause-stands : goal.number_else-requires-2-clause-stands
number_else-requires-2-clause-stands c =
    let e = table_view c.args.entry.now in
    let P = λ (last : ℕ). may_have_number (codes "early") 0 last e ≡ true in
    subst P (sym c.most_early.ensures.value) (say_parts c.args.bus.now e c.requires.say).early
