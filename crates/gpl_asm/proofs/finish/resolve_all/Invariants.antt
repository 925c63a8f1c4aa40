use Rattle.std.proofs.Common.{◌≡◌, None, length}
use Rattle.std.specs.List.{AllByRecursion}
use Rattle.gpl_asm.specs.Replay.{replay}
use Rattle.gpl_asm.specs.Room.{HasRoom}
use Rattle.gpl_asm.proofs.finish.resolve_all.Given as goal

-- the lines that are left go on to the outcomes of all
abbrev pub invariant-loop-rest : goal.invariant-loop-rest
invariant-loop-rest l =
    (replay l.symbols (record { image = l.image; entry = l.entry }) l.rest
    ≡ replay l.symbols (record { image = l.fn.image; entry = None }) l.waiting) × AllByRecursion (HasRoom l.symbols) l.rest

abbrev pub decreases-loop-rest : goal.decreases-loop-rest
decreases-loop-rest l = length l.rest
