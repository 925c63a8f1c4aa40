use Rattle.std.proofs.Common.{◌≡◌, take, drop}
use Rattle.link_defs.specs.First.{first, first_after}
use Rattle.link_defs.specs.LinkedMemory.{is_defined_again}
use Rattle.link_loader.specs.Holds.{KeepsNames}
use Rattle.link_loader.proofs.names.define.Given as goal

-- the names so far are kept, each once
abbrev pub invariant-loop-def : goal.invariant-loop-def
invariant-loop-def l = record {
  apart : first is_defined_again l.defs ≡ first_after is_defined_again (take l.def-index l.defs) (drop l.def-index l.defs);
  kept : KeepsNames l.names (take l.def-index l.defs);
}
