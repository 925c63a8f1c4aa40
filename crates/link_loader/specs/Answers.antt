-- What the answers of linking say, in the terms of the definitions.
use Rattle.std.specs.Prelude.{◌≡◌, ⊤, Option, None, Result, Ok, Err}
use Rattle.link_defs.specs.Causes.{LinkCause}
use Rattle.link_defs.specs.Causes as causes
use Rattle.link_loader.specs.declared.error.LinkError.{LinkError}
use Rattle.link_loader.specs.declared.error.LinkError.TheVariants.{DuplicateDef, OutOfMemoryRange, Overlap}
use Rattle.link_loader.specs.declared.error.LinkError.TheVariants.{ChainOutside, ChainCycle, Unresolved, NoEntry}
use Rattle.link_loader.specs.declared.error.LinkError.TheVariants.{Memory}

-- The cause is the one that is defined; if memory ran out, nothing is stated.
abbrev pub Refuses : {Y : Type 0} → LinkError → Result Y LinkCause → Type 0
Refuses (DuplicateDef name) defined = defined ≡ Err (causes.DuplicateDef name)
Refuses (OutOfMemoryRange address) defined = defined ≡ Err (causes.OutOfMemoryRange address)
Refuses (Overlap address) defined = defined ≡ Err (causes.Overlap address)
Refuses (ChainOutside address) defined = defined ≡ Err (causes.ChainOutside address)
Refuses (ChainCycle address) defined = defined ≡ Err (causes.ChainCycle address)
Refuses (Unresolved name) defined = defined ≡ Err (causes.Unresolved name)
Refuses NoEntry defined = defined ≡ Err causes.NoEntry
Refuses Memory defined = ⊤

-- The value is the one that is defined, and so is the cause.
abbrev pub Gives : {X Y : Type 0} → (X → Y) → Result X LinkError → Result Y LinkCause → Type 0
Gives view (Ok value) defined = defined ≡ Ok (view value)
Gives view (Err error) defined = Refuses error defined

-- a check finds nothing, or the first that is refused
abbrev pub Checks : {T X : Type 0} → Result T LinkError → Result (Option X) LinkCause → Type 0
Checks (Ok _) defined = defined ≡ Ok None
Checks (Err error) defined = Refuses error defined
