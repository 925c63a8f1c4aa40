use Rattle.std.proofs.Common.{List, [], drop}
use Rattle.object_defs.specs.Modules.{Reference}
use Rattle.asm_defs.specs.Locations.{Line}
use Rattle.asm_defs.specs.Memory.{AssembledLine}
use Rattle.module_image.specs.ResolvedLines.{AreAllResolved}
use Rattle.asm_core.specs.Building.{AreKnown}
use Rattle.asm_core.proofs.ProgressLaws.{IsSoFar}
use Rattle.asm_core.proofs.lines.AsmLines.resolve_all.Given as goal

-- the lines up to some that wait are assembled
abbrev pub invariant-loop-pending : goal.invariant-loop-pending
invariant-loop-pending l = (unused : List Reference) (order : List Line) (founds : List AssembledLine) → AreKnown l.self.symbols [] order founds l.self.waiting.items
    → AreAllResolved [] founds → IsSoFar unused l.self.symbols order founds (drop l.pending-index l.self.waiting.items) l.fn.output l.output
