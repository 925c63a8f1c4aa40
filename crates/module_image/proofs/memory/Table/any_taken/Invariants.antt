use Rattle.std.proofs.Common.{◌≡◌, ◌+◌, ◌-◌}
use Rattle.asm_defs.specs.Memory.{any_from}
use Rattle.module_image.specs.Tables.{is_taken}
use Rattle.module_image.proofs.memory.Table.any_taken.Given as goal

abbrev pub invariant-loop-place : goal.invariant-loop-place
invariant-loop-place l =
    any_from (is_taken l.self.cells.items) l.place (l.from + l.count - l.place)
    ≡ any_from (is_taken l.self.cells.items) l.from l.count
