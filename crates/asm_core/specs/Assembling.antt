-- What the first pass makes of a line, while names are still to come.
use Rattle.std.specs.Prelude.{◌≡◌, ⊤, ℕ, ◌+◌, ◌≤◌, List, [], length, Option, Some, None, Ok, IsTrue, IsFalse}
use Rattle.expression_defs.specs.Symbols.{Names, look_up}
use Rattle.asm_defs.specs.declared.causes.AsmCause.{AsmCause}
use Rattle.asm_defs.specs.declared.content.Content.{Content}
use Rattle.asm_defs.specs.declared.location.Location.{Location}
use Rattle.asm_defs.specs.Statements.{Statement}
use Rattle.asm_defs.specs.SecondChecks.{Outcome, outcome}
use Rattle.asm_defs.specs.Memory.{contents_by, is_placed_in}
use Rattle.asm_defs.specs.Growing.{is_unresolved, is_resolved, declared_size, held_place}
use Rattle.asm_checks.specs.Answers.{Causes}
use Rattle.asm_core.specs.Held.{has_room}
use Rattle.asm_core.specs.declared.pending.Pending.{Pending}
use Rattle.asm_core.specs.declared.first_pass.Emitted.{Emitted}
use Rattle.asm_core.specs.declared.first_pass.Emitted.TheVariants.{Bytes, Refused}
use Rattle.asm_core.specs.declared.first_pass.Assembled.{Assembled}

-- a line has room at its place
pub record HasRoom (at : Location) (text : List ℕ) (statement : Statement) : Type 0 where
  pub room : IsTrue (has_room at text)
  pub fits : at.number + declared_size statement ≤ 65536

-- the bytes of the outcome of a line at a place; those in the part of dummy lines do not count
pub record GivesBytes (at : Location) (outcome : Outcome) (given : List Content) : Type 0 where
  pub bytes : IsTrue (is_placed_in at.part) → given ≡ contents_by at [] outcome
  pub within : at.number + length given ≤ 65536

-- a line by its number, its place and its text
pub record IsPending (count : ℕ) (place : Location) (line : List ℕ) (pending : Pending) : Type 0 where
  pub number : pending.number ≡ count
  pub at : pending.at ≡ place
  pub text : pending.text.items ≡ line

-- it has an outcome that is final
pub record ComesTo (known : Names) (at : Location) (statement : Statement) (given : List Content) : Type 0 where
  pub found : Outcome
  pub comes : outcome (look_up known) at statement ≡ Ok found
  pub is_resolved : IsTrue (is_resolved found)
  pub gives : GivesBytes at found given

-- or it waits, and zeros hold its places
pub record IsHeld (number : ℕ) (at : Location) (text : List ℕ) (statement : Statement) (pending : Pending)
    (given : List Content) : Type 0 where
  pub is : IsPending number at text pending
  pub gives : GivesBytes at (held_place at statement).outcome given

-- or it is refused, whatever names are still to come
pub record IsRefused (known : Names) (at : Location) (statement : Statement) (cause : AsmCause) : Type 0 where
  pub causes : Causes cause (outcome (look_up known) at statement)
  pub closed : IsFalse (is_unresolved cause)

abbrev pub AssemblesBy : Names → ℕ → Location → List ℕ → Statement → Option Pending → Emitted → Type 0
AssemblesBy known number at text statement None (Bytes given) = ComesTo known at statement given.items
AssemblesBy known number at text statement None (Refused cause) = IsRefused known at statement cause
AssemblesBy known number at text statement (Some pending) (Bytes given) = IsHeld number at text statement pending
    given.items
AssemblesBy known number at text statement (Some pending) (Refused cause) = ⊥

abbrev pub Assembles : Names → ℕ → Location → List ℕ → Statement → Assembled → Type 0
Assembles known number at text statement assembled = AssemblesBy known number at text statement assembled.waiting
    assembled.emitted

-- the bytes that a line emits end before its part does
abbrev pub EmittedFits : Location → Emitted → Type 0
EmittedFits at (Bytes given) = at.number + length given.items ≤ 65536
EmittedFits at (Refused cause) = ⊤
