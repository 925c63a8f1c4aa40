-- The line that the second checks refuse, by the places of the lines.
use Rattle.std.specs.Prelude.{◌≡◌, ℕ, List, Result, Ok, Err}
use Rattle.asm_defs.specs.declared.causes.AsmCause.{AsmCause}
use Rattle.asm_core.specs.declared.error.AsmError.{AsmError}
use Rattle.asm_core.specs.declared.error.AsmError.TheVariants as asm
use Rattle.shelf_defs.specs.Assembly.{place_of}
use Rattle.bench_shelf.specs.declared.place.Place.{Place}
use Rattle.bench_shelf.specs.declared.run.Run.{Run}
use Rattle.bench_shelf.specs.declared.copy_error.CopyCause.TheVariants.{Asm}
use Rattle.bench_shelf.specs.declared.copy_error.CopyError.{CopyError}
use Rattle.bench_shelf.specs.declared.copy_error.CopyError.TheVariants.{Memory}
use Rattle.bench_shelf.specs.declared.listed.RefusedLine.{RefusedLine}
use Rattle.bench_shelf.specs.CopyAnswers.{model_of_place, refused_at}
use Rattle.bench_shelf.specs.Runs.{places_of}

-- a line is refused at its place
pub record AtItsPlace (runs : List Run) (line : ℕ) (cause : AsmCause) (found : RefusedLine) : Type 0 where
  pub at : Place
  pub number : found.number ≡ line
  pub is : found.error ≡ refused_at at (Asm cause)
  pub place : model_of_place at ≡ place_of (places_of runs) found.number

abbrev pub RefusesLine : List Run → AsmError → Result RefusedLine CopyError → Type 0
RefusesLine runs (asm.At line cause) (Ok found) = AtItsPlace runs line cause found
RefusesLine runs (asm.At line cause) (Err error) = ⊥
RefusesLine runs asm.Memory (Ok found) = ⊥
RefusesLine runs asm.Memory (Err error) = error ≡ Memory
