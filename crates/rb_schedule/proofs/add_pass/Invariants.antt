use Rattle.std.proofs.Common.{◌≡◌, ◌≤◌, length}
use Rattle.rb_schedule.specs.Asking.{asks}
use Rattle.rb_schedule.proofs.Passes.{given}
use Rattle.rb_schedule.proofs.add_pass.Given as goal

-- the BIUs so far have got their slots of this pass
abbrev pub invariant-loop-index : goal.invariant-loop-index
invariant-loop-index l = record {
  is : l.owners ≡ given l.shape.data_slots l.fn.owners (asks l.fn.trusted l.requests l.pass) l.index;
  fits : length l.owners ≤ l.shape.data_slots;
}
