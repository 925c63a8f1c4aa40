use Rattle.std.proofs.Common.{◌≡◌, ◌+◌, ◌*◌, ◌-◌, ◌++◌, length}
use Rattle.std.specs.List.{flat_map, range_with_len}
use Rattle.report_defs.specs.Dump.{register_text}
use Rattle.trace_dump.proofs.workspace.append_registers.Given as goal

abbrev pub invariant-loop-number : goal.invariant-loop-number
invariant-loop-number l = record {
  bytes : l.line.items ≡ l.fn.line.items ++ flat_map (register_text l.machine.cpu) (range_with_len l.first (l.number - l.first));
  len : length l.line.items ≡ length l.fn.line.items + 6 * (l.number - l.first);
}
