-- What `check` writes: the two sides of each of the seven inequalities.
use Rattle.std.specs.{Prelude.{ℕ, ◌+◌, List, [], Option, Some, None}, List.flat_map}
use Rattle.rb_base.specs.{Counting.numbers, Sizes.Sizes}
use Rattle.rb_report.specs.Report.{side_text}
use Rattle.rb_rules.specs.{Plan.{Sides, sides_of}, declared.plan.Plan.Plan}

-- the line of an inequality with these sides
abbrev pub sides_text : ℕ → Option Sides → List ℕ
sides_text n None = []
sides_text n (Some sides) = side_text n sides.left sides.right

-- the line of the inequality that comes after the first `before`
abbrev pub text_after : Sizes → Plan → ℕ → List ℕ
text_after sizes plan before = sides_text (before + 1) (sides_of sizes plan (before + 1))

abbrev pub check_text : Sizes → Plan → List ℕ
check_text sizes plan = flat_map (text_after sizes plan) (numbers 7)
