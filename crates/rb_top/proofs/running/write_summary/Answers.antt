use Rattle.std.proofs.{Common.{ℕ, List, rules}, lemmas.Result.{on_err_weaker, on_ok_weaker}}
use Rattle.rb_base.proofs.Plain.{on_err}
use Rattle.rb_report.specs.Report.{summary_text}
use Rattle.rb_outside.proofs.Known.{part_widens}
use Rattle.rb_top.specs.Texts.{summary_of}
use Rattle.rb_top.proofs.Writing.{four_written, part_of_second, part_of_third, part_of_fourth}
use Rattle.rb_top.proofs.running.write_summary.Goals as goal

pub returns-in_err-write_number : goal.returns-in_err-write_number
unfolding summary_of
returns-in_err-write_number g c =
    let w : List ℕ = summary_text 0 c.args.totals.now.frames in
    record { all = search rules; part = on_err _ (part_widens _ _ w _ c.in_err-write_number.ensures.part); cause = search rules }

pub returns-in_err-write_number-2 : goal.returns-in_err-write_number-2
unfolding summary_of
returns-in_err-write_number-2 g c =
    let w : List ℕ = summary_text 0 c.args.totals.now.frames in
    let x : List ℕ = summary_text 1 c.args.totals.now.deliveries in
    record {
      all = search rules;
      part = on_err _ (part_of_second _ _ _ w x _ c.in_ok-write_number.ensures.all c.in_err-write_number-2.ensures.part);
      cause = search rules;
    }

pub returns-in_err-write_number-3 : goal.returns-in_err-write_number-3
unfolding summary_of
returns-in_err-write_number-3 g c =
    let w : List ℕ = summary_text 0 c.args.totals.now.frames in
    let x : List ℕ = summary_text 1 c.args.totals.now.deliveries in
    let y : List ℕ = summary_text 2 c.args.totals.now.convicted in
    record {
      all = search rules;
      part = on_err _ (part_of_third _ _ _ _ w x y _ c.in_ok-write_number.ensures.all c.in_ok-write_number-2.ensures.all c.in_err-write_number-3.ensures.part);
      cause = search rules;
    }

pub returns : goal.returns
unfolding summary_of
returns g c =
    let w : List ℕ = summary_text 0 c.args.totals.now.frames in
    let x : List ℕ = summary_text 1 c.args.totals.now.deliveries in
    let y : List ℕ = summary_text 2 c.args.totals.now.convicted in
    let z : List ℕ = summary_text 3 c.args.totals.now.spread in
    record {
      all = on_ok_weaker _ (four_written _ _ _ _ _ w x y z c.in_ok-write_number.ensures.all c.in_ok-write_number-2.ensures.all c.in_ok-write_number-3.ensures.all)
          c.write_number-4.ensures.all;
      part = on_err_weaker _ (part_of_fourth _ _ _ _ _ w x y z c.in_ok-write_number.ensures.all c.in_ok-write_number-2.ensures.all c.in_ok-write_number-3.ensures.all)
          c.write_number-4.ensures.part;
      cause = search rules;
    }
