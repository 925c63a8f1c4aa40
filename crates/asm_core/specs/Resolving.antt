-- What the second pass makes of the lines that wait.
use Rattle.std.specs.Prelude.{◌≡◌, List, ◌∷◌, map, Result, Ok, Err}
use Rattle.source_defs.specs.Orders.{onto}
use Rattle.source_defs.specs.Refusals.{◌>>=◌}
use Rattle.expression_defs.specs.Symbols.{Names, look_up}
use Rattle.object_defs.specs.Modules.{Reference}
use Rattle.object_tags.specs.Seen.{model_of_ref}
use Rattle.asm_defs.specs.declared.causes.AsmCause.{AsmCause}
use Rattle.asm_defs.specs.declared.location.Location.{Location}
use Rattle.asm_defs.specs.Statements.{Statement, parse_line}
use Rattle.asm_defs.specs.SecondChecks.{Outcome, outcome}
use Rattle.asm_defs.specs.Memory.{AssembledLine, bytes_in, references_of}
use Rattle.asm_defs.specs.Modules.{entry}
use Rattle.asm_defs.specs.Growing.{declared_size}
use Rattle.asm_checks.specs.Answers.{Fails}
use Rattle.asm_checks.specs.declared.failure.Failure.{Failure}
use Rattle.module_image.specs.Images.{IsImage}
use Rattle.module_image.specs.ResolvedLines.{AreAllResolved, FillsPlace}
use Rattle.asm_core.specs.declared.second_pass.Output.{Output}
use Rattle.asm_core.specs.declared.pending.Pending.{Pending}

-- the bytes of lines, of which some are done and others come after them; and the last uses in those that are done
pub record HoldsBytes (unused : List Reference) (done others : List AssembledLine) (output : Output) : Type 0 where
  pub image : IsImage unused (onto done others) output.image
  pub references : map model_of_ref output.references.items ≡ references_of unused done

-- and the entry
pub record IsOutput (unused : List Reference) (done others : List AssembledLine) (output : Output) : Type 0 where
  pub bytes : HoldsBytes unused done others output
  pub entry : output.entry ≡ entry done

-- a line is put into the place that was held for it
abbrev pub FillsBytes : List Reference → Location → Outcome → Output → Output → Type 0
FillsBytes unused at found old new =
    (done others : List AssembledLine) (held : AssembledLine) → AreAllResolved (held ∷ done) others
    → FillsPlace held (record { at = at; outcome = found })
    → HoldsBytes unused done (held ∷ others) old → HoldsBytes unused
    (record { at = at; outcome = found } ∷ done) others new

abbrev pub Fills : List Reference → Location → Outcome → Output → Output → Type 0
Fills unused at found old new =
    (done others : List AssembledLine) (held : AssembledLine) → AreAllResolved (held ∷ done) others
    → FillsPlace held (record { at = at; outcome = found })
    → IsOutput unused done (held ∷ others) old → IsOutput unused (record { at = at; outcome = found } ∷ done) others new

-- the outcome of a line that waited
pub record IsResolved (unused : List Reference) (known : Names) (pending : Pending) (old new : Output) : Type 0 where
  pub statement : Statement
  pub found : Outcome
  pub parsed : parse_line pending.text.items ≡ Ok statement
  pub comes : outcome (look_up known) pending.at statement ≡ Ok found
  pub size : bytes_in found ≡ declared_size statement
  pub fills : Fills unused pending.at found old new

-- or why it is refused
abbrev pub pending_outcome : Names → Pending → Result Outcome AsmCause
pending_outcome known pending = do
  statement ← parse_line pending.text.items
  outcome (look_up known) pending.at statement

abbrev pub Resolves : {A : Type 0} → List Reference → Names → Pending → Result A Failure → Output → Output → Type 0
Resolves unused known pending (Ok _) old new = IsResolved unused known pending old new
Resolves unused known pending (Err failure) old new = Fails failure (pending_outcome known pending)
