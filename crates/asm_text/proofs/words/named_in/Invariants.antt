use Rattle.std.proofs.Common.{◌≡◌, Some, drop}
use Rattle.asm_text.specs.WordKeys.{with_key}
use Rattle.asm_text.proofs.words.named_in.Given as goal

-- none of the rows so far has the number
abbrev pub invariant-loop-row : goal.invariant-loop-row
invariant-loop-row g l = with_key (Some l.key) (drop l.row-index l.table) ≡ with_key (Some l.key) l.table
