-- What the first checks of the code find, as the definitions have it.
use Rattle.std.specs.Prelude.{◌≡◌, ◌≤◌, ℕ, List, [], Result, IsTrue}
use Rattle.source_defs.specs.Refusals.{◌>>=◌, unless}
use Rattle.source_defs.specs.Fields.{fields}
use Rattle.asm_defs.specs.declared.causes.AsmCause.{AsmCause}
use Rattle.asm_defs.specs.declared.causes.AsmCause.TheVariants.{DuplicateLabel}
use Rattle.asm_defs.specs.Locations.{is_in_part}
use Rattle.asm_defs.specs.FirstChecks as spec
use Rattle.asm_checks.specs.Defined.{model_of_statement, KeepsSkeleton, NamesOnly}
use Rattle.asm_checks.specs.Moves.{model_of_move, MovesLittle}
use Rattle.asm_defs.specs.Statements.{upper_names, as_text, statement_in}
use Rattle.source_defs.specs.Operands.{operand_texts}
use Rattle.asm_checks.specs.declared.statement.Statement.{Statement}
use Rattle.asm_checks.specs.declared.statement.Statement.TheVariants.{Def, Ref}
use Rattle.asm_checks.specs.declared.first_checks.EarlierLines.{EarlierLines}
use Rattle.asm_checks.specs.declared.first_checks.ParsedLine.{ParsedLine}
use Rattle.asm_checks.specs.declared.first_checks.Checked.{Checked}

abbrev pub model_of_earlier_lines : EarlierLines → spec.EarlierLines
model_of_earlier_lines before =
    record {
      names = before.symbols.now;
      location = before.location;
      reached = before.reached;
      defs = before.defs.now;
      refs = before.refs.now;
    }

abbrev pub model_of_parsed : ParsedLine → spec.ParsedLine
model_of_parsed parsed = record { label = parsed.label; statement = model_of_statement parsed.statement }

abbrev pub model_of_checked : Checked → spec.Checked
model_of_checked checked =
    record {
      label = checked.parsed.label;
      statement = model_of_statement checked.parsed.statement;
      move = model_of_move checked.moved;
    }

-- the names that DEF or REF lists
abbrev pub listed_in : Statement → List (List ℕ)
listed_in (Def field) = upper_names (operand_texts field.now)
listed_in (Ref field) = upper_names (operand_texts field.now)
listed_in _ = []

abbrev pub ListsNames : ParsedLine → Type 0
ListsNames parsed = parsed.listed.items ≡ listed_in parsed.statement

-- what the code keeps of what a line says
pub record IsParsed (parsed : ParsedLine) : Type 0 where
  pub skeleton : KeepsSkeleton parsed.statement
  pub names : NamesOnly parsed.statement
  pub little : MovesLittle parsed.statement

-- the locations that were reached lie in their parts
pub record KnowsPlaces (before : EarlierLines) : Type 0 where
  pub location : IsTrue (is_in_part before.location)
  pub reached : before.reached ≤ 65535

-- by what is known of the lines before
module _ (before : spec.EarlierLines) where
  -- what a line says, whose names of REF are new, and whose label may stand for something already
  unfoldable pub parsed_as_new : List ℕ → Result spec.ParsedLine AsmCause
  parsed_as_new text = do
    found ← as_text (fields text)
    statement ← statement_in text found
    unless (spec.is_taken before.names found.label (spec.refs_in statement)) DuplicateLabel
        (record { label = found.label; statement = statement })

  -- and where it leads
  abbrev pub checked_as_new : List ℕ → Result spec.Checked AsmCause
  checked_as_new text = parsed_as_new text >>= spec.moved before
