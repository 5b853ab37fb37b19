-- The words so far are those of the values so far.
use Rattle.std.proofs.Common.{◌≡◌, ◌≤◌, ◌<◌, ◌^◌, All, length, take}
use Rattle.rb_group.specs.Groups.{words_in}
use Rattle.rb_group.proofs.votes.words_in.Given as goal

abbrev pub invariant-loop-value : goal.invariant-loop-value
invariant-loop-value l = record {
  few : length l.words.items ≤ l.value-index;
  small : All (λ w. w < 2 ^ 32) l.words.items;
  held : l.words.items ≡ words_in (take l.value-index l.values);
}
