-- what the last read gave comes after what was given before
use Rattle.std.proofs.Common.{◌<◌, arith, rules, length-append}
use Rattle.rb_outside.specs.Bytes.{Gave}
use Rattle.rb_outside.proofs.Known.{gave_few, gave_more}
use Rattle.rb_outside.proofs.whole.read_all.Goals as goal

pub returns-then-count-limit : goal.returns-then-count-limit
returns-then-count-limit g c =
    let long : Gave (g.S.Source.left c.args.input.now) (g.S.Source.left c.read.new.self) (λ n. c.args.limit < n) =
    gave_more _ _ _ _ _ _ c.reads.invariant.given c.in-Ok.ensures.bytes.0 (grind (arith, length-append)) in
    record {
      whole = search rules;
      within = search rules;
      too_long = λ h. long;
      not_long = search rules;
      later = search rules;
      fault = search rules;
      complete = λ few none. absurd (gave_few _ _ _ long few);
    }

pub returns-in_default-extend_from_slice : goal.returns-in_default-extend_from_slice
returns-in_default-extend_from_slice g c = record {
  whole = search rules;
  within = search rules;
  too_long = search rules;
  not_long = λ h. gave_more _ _ _ _ _ _ c.reads.invariant.given c.in-Ok.ensures.bytes.0 (grind (arith, length-append));
  later = search rules;
  fault = search rules;
  complete = search rules;
}
