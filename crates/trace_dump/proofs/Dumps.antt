-- Parts of a dump.
use Rattle.std.proofs.Common.{◌≡◌, true, [], ◌∷◌, refl}
use Rattle.std.specs.Prelude.{codes}
use Rattle.tms_defs.specs.Operand.{Cpu}
use Rattle.console_defs.specs.Memory.{Memory}
use Rattle.console_defs.specs.Machine.{has_workspace}
use Rattle.report_defs.specs.Dump.{registers_line, workspace_lines}

-- the lines of a workspace that can be shown
pub shown : (cpu : Cpu Memory) → has_workspace cpu.wp ≡ true → workspace_lines cpu ≡ registers_line (codes "R0") cpu 0 ∷ registers_line (codes "R8") cpu 8 ∷ []
unfolding workspace_lines
shown cpu is = rw is refl
