use Rattle.std.proofs.Common.{◌≡◌, ◌+◌, ◌≤◌, length}
use Rattle.module_image.specs.Tables.{put_from}
use Rattle.module_image.proofs.memory.Table.put_all.Given as goal

abbrev pub invariant-loop-rest : goal.invariant-loop-rest
invariant-loop-rest l = record {
  within : l.place + length l.rest ≤ 65536;
  so_far : put_from l.self.cells.items l.place l.rest ≡ put_from l.fn.self.cells.items l.from l.contents;
}

abbrev pub decreases-loop-rest : goal.decreases-loop-rest
decreases-loop-rest l = length l.rest
