use Rattle.std.proofs.Common.{◌≡◌, ◌≤◌, ◌+◌, ◌*◌, ◌++◌, length}
use Rattle.std.specs.List.{flat_map, range_with_len}
use Rattle.machine_change_defs.specs.Changes.{register_change}
use Rattle.machine_change_defs.specs.Text.{register_text}
use Rattle.machine_steps.proofs.workspace.append_changed.Given as goal

-- the registers so far are in the line
abbrev pub invariant-loop-number : goal.invariant-loop-number
invariant-loop-number l = record {
  text : l.line ≡ l.fn.line ++ flat_map register_text (flat_map (register_change l.before l.now) (range_with_len 0 l.number));
  size : length l.line ≤ length l.fn.line + 47 * l.number;
}
