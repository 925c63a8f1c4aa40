use Rattle.std.proofs.Common.{◌≡◌, ℕ, ◌<◌, ◌≤◌}
use Rattle.link_loader.specs.Tables.{word_in, replaced}
use Rattle.link_loader.proofs.table.Table.replace.Given as goal

-- words are replaced up to an address, and stand as they were from there on
abbrev pub invariant-loop-at : goal.invariant-loop-at
invariant-loop-at l = record {
  done : (q : ℕ) → q < l.at → word_in l.self.cells.items q ≡ replaced (word_in l.initial.self.cells.items q) (word_in l.others.cells.items q);
  left : (q : ℕ) → l.at ≤ q → word_in l.self.cells.items q ≡ word_in l.initial.self.cells.items q;
}
