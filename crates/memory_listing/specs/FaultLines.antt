-- The line that says why modules are not linked.
use Rattle.std.specs.Prelude.{◌≡◌, ℕ, List, Option, Some, None, Result, Ok, Err}
use Rattle.arrayvec.specs.ArrayVec.{ArrayVec}
use Rattle.link_defs.specs.Causes as causes
use Rattle.link_loader.specs.declared.error.LinkError.{LinkError}
use Rattle.link_loader.specs.declared.error.LinkError.TheVariants as errors
use Rattle.report_defs.specs.ObjectFaults.{link_line}

-- each cause has its line, and a lack of memory has none
abbrev pub line_of_link_error : LinkError → Option (List ℕ)
line_of_link_error (errors.DuplicateDef name) = Some (link_line (causes.DuplicateDef name))
line_of_link_error (errors.OutOfMemoryRange address) = Some (link_line (causes.OutOfMemoryRange address))
line_of_link_error (errors.Overlap address) = Some (link_line (causes.Overlap address))
line_of_link_error (errors.ChainOutside address) = Some (link_line (causes.ChainOutside address))
line_of_link_error (errors.ChainCycle address) = Some (link_line (causes.ChainCycle address))
line_of_link_error (errors.Unresolved name) = Some (link_line (causes.Unresolved name))
line_of_link_error errors.NoEntry = Some (link_line causes.NoEntry)
line_of_link_error errors.Memory = None

-- the line, if there is one
abbrev pub IsFaultLine : {E : Type 0} → Result (ArrayVec ℕ) E → Option (List ℕ) → Type 0
IsFaultLine (Ok line) reported = reported ≡ Some line.items
IsFaultLine (Err error) reported = reported ≡ None
