use Rattle.std.proofs.{Common.{◌≡◌, ◌-◌, ℕ, true, arith, codes, sym, subst}, lemmas.Bool.leb-true}
use Rattle.toml.specs.View.{table_view}
use Rattle.rb_scenario_entries.specs.Bus.{may_plan, planned}
use Rattle.rb_scenario_entries.proofs.BusParts.{plan_parts, unit_parts, window_parts}
use Rattle.rb_scenario_entries.proofs.bus.plan_of.Goals as goal

pub planned-requires-clause-stands : goal.planned-requires-clause-stands
planned-requires-clause-stands c =
    let t = table_view c.args.table.now in
    let P = λ (u : ℕ). may_plan (codes "r") 0 (u - 1) t ≡ true in
    subst P (sym c.planned-u.ensures.value) (unit_parts t (plan_parts t c.requires).units).r

pub planned-requires-2-clause-stands : goal.planned-requires-2-clause-stands
planned-requires-2-clause-stands c = let t = table_view c.args.table.now in (unit_parts t (plan_parts t c.requires).units).dmin

pub planned-requires-3-clause-stands : goal.planned-requires-3-clause-stands
planned-requires-3-clause-stands c = let t = table_view c.args.table.now in (unit_parts t (plan_parts t c.requires).units).dmax

pub planned-requires-4-clause-stands : goal.planned-requires-4-clause-stands
planned-requires-4-clause-stands c = let t = table_view c.args.table.now in (window_parts t (plan_parts t c.requires).windows).l

pub planned-requires-5-clause-stands : goal.planned-requires-5-clause-stands
planned-requires-5-clause-stands c = let t = table_view c.args.table.now in (window_parts t (plan_parts t c.requires).windows).h

pub planned-requires-6-clause-stands : goal.planned-requires-6-clause-stands
planned-requires-6-clause-stands c = let t = table_view c.args.table.now in (window_parts t (plan_parts t c.requires).windows).v

pub planned-requires-7-clause-stands : goal.planned-requires-7-clause-stands
planned-requires-7-clause-stands c = let t = table_view c.args.table.now in (window_parts t (plan_parts t c.requires).windows).z

pub planned-requires-8-clause-stands : goal.planned-requires-8-clause-stands
planned-requires-8-clause-stands c = let t = table_view c.args.table.now in (window_parts t (plan_parts t c.requires).windows).c

pub planned-requires-9-clause-stands : goal.planned-requires-9-clause-stands
planned-requires-9-clause-stands c = let t = table_view c.args.table.now in (window_parts t (plan_parts t c.requires).windows).p

pub version_of-requires : goal.version_of-requires
version_of-requires c = (plan_parts (table_view c.args.table.now) c.requires).version

pub number_else-requires-clause-stands : goal.number_else-requires-clause-stands
number_else-requires-clause-stands c = (plan_parts (table_view c.args.table.now) c.requires).probation

pub returns-clause-plan : goal.returns-clause-plan
returns-clause-plan c =
    let t = table_view c.args.table.now in
    let order = leb-true (planned (codes "dmin") 5000 t) (planned (codes "dmax") 15000 t) (unit_parts t (plan_parts t c.requires).units).order in
    let dmin = c.planned-2.ensures.value in
    let dmax = c.planned-3.ensures.value in
    record {
      u = (c.planned-u.ensures.low, c.planned-u.ensures.high);
      r = let low = c.planned-u.ensures.low in let high = c.planned.ensures.high in omega arith;
      dmin = (c.planned-2.ensures.low, omega arith);
      dmax = c.planned-3.ensures.high;
      l = (c.planned-4.ensures.low, c.planned-4.ensures.high);
      h = (c.planned-5.ensures.low, c.planned-5.ensures.high);
      v = (c.planned-6.ensures.low, c.planned-6.ensures.high);
      z = (c.planned-7.ensures.low, c.planned-7.ensures.high);
      c = c.planned-8.ensures.high;
      p = c.planned-9.ensures.high;
      probation = c.number_else.ensures.high;
    }
