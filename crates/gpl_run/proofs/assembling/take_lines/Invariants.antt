use Rattle.std.proofs.Common.{ℕ, List, ◌++◌, drop, map}
use Rattle.gpl_run.specs.Feeding.{HasLeft}
use Rattle.gpl_run.proofs.assembling.take_lines.Given as goal

-- the lines from here on are left, and what is after them
abbrev pub invariant-loop-line : goal.invariant-loop-line
invariant-loop-line l =
    (rest : List (List ℕ)) → HasLeft (map (λ line. line.now) l.lines ++ rest) l.fn.builder
    → HasLeft (map (λ line. line.now) (drop l.line-index l.lines) ++ rest) l.builder
