-- What a refusal of a line is.
use Rattle.std.specs.Prelude.{◌≡◌, ⊤, ℕ, Result, Err}
use Rattle.source_defs.specs.Refusals.{Refusal}
use Rattle.gpl_source_defs.specs.declared.causes.GplCause.{GplCause}
use Rattle.gpl_lines.specs.Answers.{NoMemory}
use Rattle.gpl_lines.specs.declared.failure.Failure.{Failure}
use Rattle.gpl_lines.specs.declared.failure.Failure.TheVariants as failure
use Rattle.gpl_asm.specs.declared.error.GplError.{GplError}
use Rattle.gpl_asm.specs.declared.error.GplError.TheVariants.{At, Memory}

abbrev pub refusal_at : ℕ → Failure → GplError
refusal_at number (failure.Refused cause) = At number cause
refusal_at number failure.Memory = Memory

-- the definitions refuse a line, for a cause that does not stand for a lack of memory; if memory ran out, nothing is
-- said
abbrev pub RefusesAt : {B : Type 0} → GplError → Result B (Refusal GplCause) → Type 0
RefusesAt Memory defined = ⊤
RefusesAt (At line cause) defined = (defined ≡ Err (record { line = line; cause = cause })) × NoMemory cause
