use Rattle.std.proofs.Common.{◌≡◌, ℕ, ◌<◌, ◌≤◌, ◌^◌, None, All, length, take, get_or}
use Rattle.rb_rules.specs.{ExactStage.present, Sense.stamp_in}
use Rattle.rb_listen.specs.Lessons.{recorded_of}
use Rattle.rb_listen.proofs.lesson.middle_in.Given as goal

-- the stamps so far are those of the RMUs before `j`
abbrev pub invariant-loop-j : goal.invariant-loop-j
invariant-loop-j l = record {
  all : length l.taken ≡ 16;
  few : length l.stamps.items ≤ l.j;
  held : l.stamps.items ≡ present (take l.j l.taken);
  so_far : (k : ℕ) → k < l.j → get_or l.taken k None ≡ recorded_of stamp_in l.records l.rmus l.slot k;
  soon : All (λ s. s ≤ 2 ^ 31) l.stamps.items;
}
