use Rattle.std.proofs.Common.{◌≡◌, ◌++◌, drop}
use Rattle.std.specs.List.{concat}
use Rattle.object_tags.specs.Lines.{line_bytes}
use Rattle.object_tags.proofs.write.write_module.Given as goal

-- the whole text, with the lines that are left
abbrev pub invariant-loop-line : goal.invariant-loop-line
invariant-loop-line l = l.text.items ++ concat (line_bytes (drop l.line-index l.line-items)) ≡ concat (line_bytes l.line-items)
