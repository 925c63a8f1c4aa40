-- The room of the lines that wait.
use Rattle.std.specs.Prelude.{◌≡◌, ◌+◌, ◌≤◌, List, length, Ok}
use Rattle.std.specs.List.{AllByRecursion, AllByRecursion-prop}
use Rattle.std.specs.Coded.{Unit-prop}
use Rattle.std.proofs.Props.{props}
use Rattle.expression_defs.specs.declared.causes.ExprError.TheVariants as expr
use Rattle.expression_defs.specs.Symbols.{Names}
use Rattle.expression_defs.specs.Growing.{Grows}
use Rattle.gpl_source_defs.specs.declared.causes.GplCause.{GplCause}
use Rattle.gpl_source_defs.specs.declared.causes.GplCause.TheVariants.{Expr}
use Rattle.gpl_source_defs.specs.SecondChecks.{Outcome}
use Rattle.gpl_source_defs.specs.Programs.{bytes_in}
use Rattle.gpl_lines.specs.Answers.{NoMemory}
use Rattle.gpl_asm.specs.declared.pending.Pending.{Pending}
use Rattle.gpl_asm.specs.declared.pending.Rest.{Rest}
use Rattle.gpl_asm.specs.declared.pending.Rest.TheVariants.{Resolved, Refused, Unresolved}
use Rattle.gpl_asm.specs.Replay.{answer_by, WaitsFor}

-- the outcome of a line ends before the addresses do
pub record HasRoom (later : Names) (waiting : Pending) : Type 0 where
  pub room : (found : Outcome) → answer_by later waiting.at waiting.rest ≡ Ok found
      → waiting.at.number + length (bytes_in found) ≤ 65536
  pub waits : WaitsFor waiting.rest

-- the outcomes of all lines, whatever names are still to come
abbrev pub AllHaveRoom : Names → List Pending → Type 0
AllHaveRoom known waiting = (later : Names) → Grows known later → AllByRecursion (HasRoom later) waiting

no_memory_prop : (cause : GplCause) → IsProp (NoMemory cause)
no_memory_prop (Expr expr.Memory) = λ one other. absurd one
no_memory_prop _ = Unit-prop

waits_prop : (rest : Rest) → IsProp (WaitsFor rest)
waits_prop (Resolved found) = Unit-prop
waits_prop (Refused cause) = no_memory_prop cause
waits_prop (Unresolved text) = Unit-prop

has_room_prop : (later : Names) (waiting : Pending) → IsProp (HasRoom later waiting)
has_room_prop later waiting = Prim.hlevel (props, waits_prop waiting.rest)

all_prop : (waiting : List Pending) (later : Names) → IsProp (AllByRecursion (HasRoom later) waiting)
all_prop waiting later = AllByRecursion-prop (HasRoom later) (has_room_prop later) waiting

pub all_have_room_prop : (known : Names) (waiting : List Pending) → IsProp (AllHaveRoom known waiting)
all_have_room_prop known waiting = Prim.hlevel (all_prop waiting)
