-- What is known of a line while names are still to come.
use Rattle.std.specs.Prelude.{ℕ, ◌*◌, Bool, true, false, length, replicate}
use Rattle.std.specs.List.{list_all}
use Rattle.expression_defs.specs.Expression.{Value, Absolute, Relocatable, External, characters}
use Rattle.expression_defs.specs.Growing as expressions
use Rattle.instruction_defs.specs.Growing as instructions
use Rattle.asm_defs.specs.declared.causes.AsmCause.{AsmCause}
use Rattle.asm_defs.specs.declared.causes.AsmCause.TheVariants.{Text, Expr, Form, DuplicateLabel, BadDirective}
use Rattle.asm_defs.specs.declared.causes.AsmCause.TheVariants.{Overflow, Overlap}
use Rattle.asm_defs.specs.declared.location.Location.{Location}
use Rattle.asm_defs.specs.Statements as parsed
use Rattle.asm_defs.specs.Statements.{Statement}
use Rattle.asm_defs.specs.SecondChecks.{Outcome, Nothing, Words, Bytes, Entry}
use Rattle.asm_defs.specs.Memory.{AssembledLine}

-- a refusal that more names may lift
abbrev pub is_unresolved : AsmCause → Bool
is_unresolved (Expr cause) = expressions.is_unresolved cause
is_unresolved (Form cause) = instructions.is_unresolved cause
is_unresolved (Text cause) = false
is_unresolved DuplicateLabel = false
is_unresolved BadDirective = false
is_unresolved Overflow = false
is_unresolved Overlap = false

-- a word that is no use of a name that others define
abbrev pub is_own : Value → Bool
is_own (Absolute number) = true
is_own (Relocatable number) = true
is_own (External name) = false

-- The outcome of a line that is final: it uses no name that others define, and it is not the entry.
abbrev pub is_resolved : Outcome → Bool
is_resolved Nothing = true
is_resolved (Words words) = list_all is_own words
is_resolved (Bytes bytes) = true
is_resolved (Entry entry) = false

-- how many bytes a line says that it places
abbrev pub declared_size : Statement → ℕ
declared_size (parsed.Instruction size operation field) = size
declared_size (parsed.Data texts) = 2 * length texts
declared_size (parsed.Byte texts) = length texts
declared_size (parsed.Text quoted) = length (characters quoted)
declared_size _ = 0

-- zeros in the places of a line that waits for names
abbrev pub held_place : Location → Statement → AssembledLine
held_place at statement = record { at = at; outcome = Bytes (replicate (declared_size statement) 0) }
