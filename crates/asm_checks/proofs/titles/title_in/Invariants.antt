use Rattle.std.proofs.Common.{◌≡◌, ◌-◌, length}
use Rattle.object_defs.specs.Digits.{padded}
use Rattle.asm_defs.specs.FirstChecks.{title_in}
use Rattle.asm_checks.proofs.titles.title_in.Given as goal

-- the blanks that are missing make the name
abbrev pub invariant-loop-name : goal.invariant-loop-name
invariant-loop-name l = padded 8 l.name.items ≡ title_in l.quoted

abbrev pub decreases-loop-name : goal.decreases-loop-name
decreases-loop-name l = 8 - length l.name.items
