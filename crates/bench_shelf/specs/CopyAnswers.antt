-- What the definitions say of a source with the files that it copies, and the answers to it.
use Rattle.std.specs.Prelude.{◌≡◌, ⊤, ℕ, List, Option, Result, Ok, Err}
use Rattle.shelf_defs.specs.Copied as spec
use Rattle.shelf_defs.specs.Copied.{CopyRefusal}
use Rattle.object_defs.specs.Modules as object
use Rattle.object_tags.specs.Seen.{model_of_module}
use Rattle.object_tags.specs.declared.parts.Module.{Module}
use Rattle.asm_defs.specs.declared.causes.AsmCause.{AsmCause}
use Rattle.asm_checks.specs.Answers.{Causes}
use Rattle.asm_checks.specs.declared.failure.Failure.{Failure}
use Rattle.asm_checks.specs.declared.failure.Failure.TheVariants.{Refused}
use Rattle.asm_checks.specs.declared.failure.Failure.TheVariants as failure
use Rattle.bench_shelf.specs.declared.error.FileError.{FileError}
use Rattle.bench_shelf.specs.declared.error.FileError.TheVariants as unread
use Rattle.bench_shelf.specs.declared.place.Place.{Place}
use Rattle.bench_shelf.specs.declared.copy_error.CopyCause.{CopyCause}
use Rattle.bench_shelf.specs.declared.copy_error.CopyCause.TheVariants.{Asm, BadCopy, TooDeep, TooMany, Missing}
use Rattle.bench_shelf.specs.declared.copy_error.CopyError.{CopyError}
use Rattle.bench_shelf.specs.declared.copy_error.CopyError.TheVariants.{At, TooLarge, Fault, Memory}

abbrev pub model_of_place : Place → spec.Place
model_of_place place = record { file = place.file; line = place.line }

abbrev pub model_of_cause : CopyCause → spec.Cause
model_of_cause (Asm cause) = spec.Asm cause
model_of_cause BadCopy = spec.BadCopy
model_of_cause TooDeep = spec.TooDeep
model_of_cause TooMany = spec.TooMany
model_of_cause (Missing name) = spec.Missing name

-- the place of a line of a file, or of the source itself
abbrev pub place_in : Option (List ℕ) → ℕ → Place
place_in file line = record { file = file; line = line }

-- the error of a line at a place
abbrev pub refused_at : Place → CopyCause → CopyError
refused_at place cause = At place.file place.line cause

-- the error of a line at a place that the builder does not take
abbrev pub failed_at : Place → Failure → CopyError
failed_at place (Refused cause) = refused_at place (Asm cause)
failed_at place failure.Memory = Memory

-- the error of a COPY line at a place whose file was not read
abbrev pub unread_at : Place → FileError → CopyError
unread_at place (unread.Missing name) = refused_at place (Missing name)
unread_at place unread.TooLarge = TooLarge
unread_at place unread.Fault = Fault
unread_at place unread.Memory = Memory

-- a cause of the assembler that does not stand for a lack of memory
abbrev pub IsOwnCause : AsmCause → Type 0
IsOwnCause cause = Causes {B = ⊤} cause (Err cause)

-- no cause of the assembler stands for a lack of memory
abbrev pub IsNoMemory : CopyCause → Type 0
IsNoMemory (Asm cause) = IsOwnCause cause
IsNoMemory cause = ⊤

-- The definitions refuse a source for this cause. Of a shelf that failed and of a lack of memory they say nothing.
abbrev pub CopyRefuses : {B : Type 0} → CopyError → Result B CopyRefusal → Type 0
CopyRefuses (At file line cause) defined =
    IsNoMemory cause × (defined ≡ Err (spec.At (record { file = file; line = line }) (model_of_cause cause)))
CopyRefuses TooLarge defined = defined ≡ Err spec.TooLarge
CopyRefuses other defined = ⊤

-- the module that is defined, or the refusal
abbrev pub GivesCopied : Result Module CopyError → Result object.Module CopyRefusal → Type 0
GivesCopied (Ok found) defined = defined ≡ Ok (model_of_module found)
GivesCopied (Err error) defined = CopyRefuses error defined
