use Rattle.std.proofs.Common.{◌≡◌, ℕ, arith, ap, ◌∙◌, subst}
use Rattle.std.specs.List.{list_all}
use Rattle.toml.specs.View.{table_view}
use Rattle.rb_base.specs.{Nodes.side_of, declared.node.NodeName.NodeName}
use Rattle.rb_rules.specs.{Clock.Timeline, Links.name_of}
use Rattle.rb_scenario_entries.specs.{Clocks.{clock_for, kind_clocks}, Outcome.IsRefusalBy, Clocks.keeps_time, declared.refusal.Refusal.TheVariants.ClockBounds}
use Rattle.rb_scenario_entries.proofs.Finding.{all-below_fails, made_more, passing_more, refused_whole}
use Rattle.rb_scenario_entries.proofs.clocks.add_clocks.Goals as goal

pub returns-in-Err-clause-refused : goal.returns-in-Err-clause-refused
returns-in-Err-clause-refused g c =
    let bus = c.args.bus.now in
    let t = table_view c.args.table.now in
    let f : ℕ → Timeline = λ k. clock_for bus t (name_of (side_of g.K.Kind.CODE) k) in
    let i = c.loop-index.index in
    let P : NodeName → Type 0 = λ n. IsRefusalBy ClockBounds (keeps_time bus.plan (clock_for bus t n)) c.in-Err.refusal in
    refused_whole ClockBounds (keeps_time bus.plan (f i)) (list_all (keeps_time bus.plan) (kind_clocks (side_of g.K.Kind.CODE) c.args.count bus t)) c.in-Err.refusal
    (λ fails. all-below_fails (keeps_time bus.plan) f c.args.count i (omega arith) fails)
    (subst P c.name_of.ensures c.in-Err.ensures.refused)

pub loop-index-preserved : goal.loop-index-preserved
loop-index-preserved g c =
    let bus = c.args.bus.now in
    let t = table_view c.args.table.now in
    let f : ℕ → Timeline = λ k. clock_for bus t (name_of (side_of g.K.Kind.CODE) k) in
    let i = c.loop-index.index in
    let is : c.in-Ok.clock ≡ f i = c.in-Ok.ensures.clock ∙ ap (clock_for bus t) c.name_of.ensures in
    record {
      clocks = made_more f i c.args.clocks.now.items c.loop-index.clocks.items c.push_clock.new.clocks.items c.in-Ok.clock c.in_ok-push_clock-in-Ok.ensures c.loop-index.invariant.clocks is;
      kept = passing_more (keeps_time bus.plan) f i c.in-Ok.clock c.loop-index.invariant.kept is c.in-Ok.ensures.kept;
    }
