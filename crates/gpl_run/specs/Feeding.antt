-- The interpreter's source, given to the assembler line by line.
use Rattle.std.specs.Prelude.{◌≡◌, ℕ, ◌+◌, ◌<◌, List, ◌++◌, length}
use Rattle.asm_defs.specs.Modules.{module_of_lines, module_of_source}
use Rattle.asm_core.specs.Building.{HasAccepted}
use Rattle.asm_core.specs.declared.lines.AsmLines.{AsmLines}
use Rattle.native_interp.specs.Source.{source}

-- A builder that has taken a front of the source: with the lines that are left, its lines make the source's module.
pub record HasLeft (left : List (List ℕ)) (builder : AsmLines) : Type 0 where
  pub texts : List (List ℕ)
  pub taken : HasAccepted texts builder
  pub makes : module_of_lines (texts ++ left) ≡ module_of_source source
  pub few : length texts + length left < 0x10000
