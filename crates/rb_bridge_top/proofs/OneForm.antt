-- Words ask for one form.
use Rattle.std.proofs.Common.{◌≡◌, ◌⊎◌, ◌∙◌, List, [], String, ap, arith, codes, get_or, inl, inr, sym}
use Rattle.std.specs.declared.alloc.Global.{Global}
use Rattle.rb_flags.specs.declared.Flag.{Flag}
use Rattle.rb_flags.proofs.OneFlag.{no_flag, one_flag}
use Rattle.rb_program.specs.{declared.status.Status.Status, Statuses.RunsNothing}
use Rattle.rb_bridge_top.specs.{declared.form.Form.TheVariants.{Run, Show}, Words.AskFor}

pub no_flag_runs : (words : List (String Global)) (flag : Flag) → AskFor words Run → ¬ AskFor words (Show flag)
no_flag_runs words flag runs shows = no_flag flag (codes "run") (omega arith) (ap (λ words. get_or words 0 []) (sym runs ∙ shows))

pub one_shown : (words : List (String Global)) (a b : Flag) → AskFor words (Show a) → AskFor words (Show b) → a ≡ b
one_shown words a b shows_a shows_b = one_flag a b (ap (λ words. get_or words 0 []) (sym shows_a ∙ shows_b))

-- if the words ask for a run, the drives are idle only with an answer that runs nothing
pub idle_run : (words : List (String Global)) (status : Status) → AskFor words Run → (¬ AskFor words Run) ⊎ RunsNothing status → RunsNothing status
idle_run words status runs (inl other) = absurd (other runs)
idle_run words status runs (inr idle) = idle
