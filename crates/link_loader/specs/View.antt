-- The linked memory that is kept.
use Rattle.std.specs.FinMap.{from_sorted}
use Rattle.link_defs.specs.LinkedMemory.{LinkedMemory}
use Rattle.link_loader.specs.declared.linked.Linked.{Linked}

-- what the definitions see of it
abbrev pub model_of_linked : Linked → LinkedMemory
model_of_linked linked =
    record { words = from_sorted linked.pairs.items; names = linked.names.items; entry = linked.entry }
