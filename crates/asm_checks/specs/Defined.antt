-- What the code finds in a line, as the definitions have it.
use Rattle.std.specs.Prelude.{Ok, ⊤, ◌≡◌, IsTrue}
use Rattle.std.specs.Option.{option_map}
use Rattle.source_defs.specs.Operands.{operand_texts}
use Rattle.instruction_defs.specs.FirstChecks.{first_checks, size_of}
use Rattle.asm_forms.specs.Skeletons.{model_of_skeleton, IsOfField}
use Rattle.asm_defs.specs.Statements as spec
use Rattle.asm_checks.specs.declared.statement.InstructionLine.{InstructionLine}
use Rattle.asm_checks.specs.declared.statement.Statement.{Statement}
use Rattle.asm_checks.specs.declared.statement.Statement.TheVariants.{
  Nothing,
  Instruction,
  Aorg,
  Rorg,
  Dorg,
  Bss,
  Bes,
  Even,
  Equ,
  Data,
  Byte,
  Text,
  Def,
  Ref,
  Idt,
  Titl,
  End,
}

abbrev pub model_of_statement : Statement → spec.Statement
model_of_statement Nothing = spec.Nothing
model_of_statement (Instruction line) = spec.Instruction line.size line.operation.now line.field.now
model_of_statement (Aorg text) = spec.Aorg text.now
model_of_statement (Rorg text) = spec.Rorg (option_map (λ found. found.now) text)
model_of_statement (Dorg text) = spec.Dorg text.now
model_of_statement (Bss text) = spec.Bss text.now
model_of_statement (Bes text) = spec.Bes text.now
model_of_statement Even = spec.Even
model_of_statement (Equ text) = spec.Equ text.now
model_of_statement (Data field) = spec.Data (operand_texts field.now)
model_of_statement (Byte field) = spec.Byte (operand_texts field.now)
model_of_statement (Text text) = spec.Text text.now
model_of_statement (Def field) = spec.Def (spec.upper_names (operand_texts field.now))
model_of_statement (Ref field) = spec.Ref (spec.upper_names (operand_texts field.now))
model_of_statement (Idt text) = spec.Idt text.now
model_of_statement (Titl text) = spec.Titl text.now
model_of_statement (End text) = spec.End (option_map (λ found. found.now) text)

-- the operands of DEF and REF are names
abbrev pub NamesOnly : Statement → Type 0
NamesOnly (Def field) = IsTrue (spec.all_names (operand_texts field.now))
NamesOnly (Ref field) = IsTrue (spec.all_names (operand_texts field.now))
NamesOnly _ = ⊤

-- what the code keeps of an instruction is what the first checks leave of its two fields
pub record IsLeftOf (line : InstructionLine) : Type 0 where
  pub checked : first_checks line.operation.now line.field.now ≡ Ok (model_of_skeleton line.field.now line.skeleton)
  pub sized : size_of (model_of_skeleton line.field.now line.skeleton) ≡ line.size
  pub inside : IsOfField line.field.now line.skeleton

-- what the first checks leave of an instruction stands with it
abbrev pub KeepsSkeleton : Statement → Type 0
KeepsSkeleton (Instruction line) = IsLeftOf line
KeepsSkeleton _ = ⊤
