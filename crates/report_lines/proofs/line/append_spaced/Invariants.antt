use Rattle.std.proofs.Common.{◌≡◌, ◌+◌, ◌*◌, ◌++◌, take, length}
use Rattle.report_defs.specs.Rows.{spaced_bytes}
use Rattle.report_lines.proofs.line.append_spaced.Given as goal

abbrev pub invariant-loop-byte : goal.invariant-loop-byte
invariant-loop-byte l = record {
  bytes : l.line.items ≡ l.fn.line.items ++ spaced_bytes (take l.byte-index l.bytes);
  len : length l.line.items ≡ length l.fn.line.items + 3 * l.byte-index;
}
