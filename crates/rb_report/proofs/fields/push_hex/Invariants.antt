use Rattle.std.proofs.Common.{◌≡◌, ◌+◌, ◌*◌, ◌++◌, take}
use Rattle.arrayvec.specs.ArrayString.{array_string_len}
use Rattle.rb_report.specs.Report.{hex_text}
use Rattle.rb_report.proofs.fields.push_hex.Given as goal

abbrev pub invariant-loop-byte : goal.invariant-loop-byte
invariant-loop-byte l = record {
  so_far : l.line.bytes ≡ l.initial.line.bytes ++ hex_text (take l.byte-index l.bytes);
  len : array_string_len l.line ≡ array_string_len l.initial.line + 2 * l.byte-index;
}
