-- What the reader's answers say, in the terms of the definitions.
use Rattle.std.specs.Prelude.{◌≡◌, ⊤, List, map, Result, Ok, Err}
use Rattle.object_defs.specs.declared.causes.TagCause.{TagCause}
use Rattle.object_defs.specs.Modules as defined
use Rattle.source_defs.specs.Refusals.{Refusal}
use Rattle.object_laws.specs.Running as running
use Rattle.object_tags.specs.declared.error.Failure.{Failure}
use Rattle.object_tags.specs.declared.error.Failure.TheVariants as failures
use Rattle.object_tags.specs.declared.error.TagError.{TagError}
use Rattle.object_tags.specs.declared.error.TagError.TheVariants.{At, Memory}
use Rattle.object_tags.specs.declared.parts.Module.{Module}
use Rattle.object_tags.specs.declared.open_module.OpenModule.{OpenModule}
use Rattle.object_tags.specs.Seen.{model_of_module}

-- the module that is open
abbrev pub model_of_open : OpenModule → running.OpenModule
model_of_open m = record { found = model_of_module m.found; load = m.load }

-- the modules that have ended
abbrev pub model_of_modules : List Module → List defined.Module
model_of_modules modules = map model_of_module modules

-- The cause is the one that is defined; if memory ran out, nothing is stated.
abbrev pub Fails : {Y : Type 0} → Failure → Result Y TagCause → Type 0
Fails failures.Memory read = ⊤
Fails (failures.Cause cause) read = read ≡ Err cause

-- a value is the one that is defined
abbrev pub Makes : {X Y : Type 0} → (X → Y) → Result X Failure → Result Y TagCause → Type 0
Makes view (Ok value) read = read ≡ Ok (view value)
Makes view (Err failure) read = Fails failure read

-- what a call leaves is what is defined
abbrev pub Leaves : {T Y : Type 0} → Result T Failure → Y → Result Y TagCause → Type 0
Leaves (Ok _) after read = read ≡ Ok after
Leaves (Err failure) after read = Fails failure read

-- The first bad place is the one that is defined; if memory ran out, nothing is stated.
abbrev pub Refuses : {Y : Type 0} → TagError → Result Y (Refusal TagCause) → Type 0
Refuses (At line cause) read = read ≡ Err (record { line = line; cause = cause })
Refuses Memory read = ⊤

-- The value is the one that is defined, and so is the first bad place.
abbrev pub Gives : {X Y : Type 0} → (X → Y) → Result X TagError → Result Y (Refusal TagCause) → Type 0
Gives view (Ok value) read = read ≡ Ok (view value)
Gives view (Err error) read = Refuses error read
