use Rattle.std.proofs.Common.{◌≡◌, ◌++◌, drop}
use Rattle.link_loader.specs.Tables.{pairs_from}
use Rattle.link_loader.proofs.table.Table.pairs.Given as goal

-- all pairs, with those of the addresses that are left
abbrev pub invariant-loop-at : goal.invariant-loop-at
invariant-loop-at l = pairs_from 0 l.self.cells.items ≡ l.pairs.items ++ pairs_from l.at (drop l.at l.self.cells.items)
