-- What a line says: its operation with as many operands as it takes, in their forms, and with the values that move
-- locations.
use Rattle.std.specs.Prelude.{ℕ, ◌*◌, List, length, Option, Some, None, Result, Ok, Err}
use Rattle.source_defs.specs.declared.text.Span.{Span}
use Rattle.source_defs.specs.Refusals.{◌>>=◌}
use Rattle.source_defs.specs.Lines.{part}
use Rattle.expression_defs.specs.Expression.{Value, characters}
use Rattle.source_defs.specs.Operands.{operand_texts}
use Rattle.source_defs.specs.OperandLists.{one_operand, optional_operand, operand_list}
use Rattle.source_defs.specs.QuotedTexts.{quoted}
use Rattle.gpl_source_defs.specs.declared.causes.GplCause.{GplCause}
use Rattle.gpl_source_defs.specs.declared.causes.GplCause.TheVariants.{UnknownOperation}
use Rattle.gpl_source_defs.specs.declared.directive.Directive.{Directive}
use Rattle.gpl_source_defs.specs.declared.directive.Directive.TheVariants as named
use Rattle.gpl_source_defs.specs.declared.mnemonic.Mnemonic.{Mnemonic}
use Rattle.gpl_source_defs.specs.Directives.{directive}
use Rattle.gpl_source_defs.specs.Mnemonics.{mnemonic}
use Rattle.gpl_source_defs.specs.Values.{number}
use Rattle.gpl_source_defs.specs.Skeletons.{Skeleton, as_operand, skeleton, size_of}

-- What a line says: nothing; an instruction; or a directive with its operands, those that move locations by their
-- numbers.
pub data Statement : Type 0 where
  Nothing : Statement
  Instruction : Skeleton → Statement
  Grom : ℕ → Statement
  Aorg : ℕ → Statement
  Equ : ℕ → Statement
  Bss : ℕ → Statement
  Data : List (List ℕ) → Statement
  Byte : List (List ℕ) → Statement
  Text : List ℕ → Statement
  End : Option (List ℕ) → Statement

-- by what each name stands for, and the address that $ stands for
module _ (look : List ℕ → Option Value) (here : ℕ) where
  abbrev pub number_of_one : List (List ℕ) → Result ℕ GplCause
  number_of_one texts = do
    text ← as_operand (one_operand texts)
    number look here text

  -- a directive with its operands
  abbrev pub directive_statement : Directive → List (List ℕ) → Result Statement GplCause
  directive_statement named.Grom texts = number_of_one texts >>= λ number. Ok (Grom number)
  directive_statement named.Aorg texts = number_of_one texts >>= λ number. Ok (Aorg number)
  directive_statement named.Equ texts = number_of_one texts >>= λ number. Ok (Equ number)
  directive_statement named.Bss texts = number_of_one texts >>= λ number. Ok (Bss number)
  directive_statement named.Data texts = as_operand (operand_list texts) >>= λ texts. Ok (Data texts)
  directive_statement named.Byte texts = as_operand (operand_list texts) >>= λ texts. Ok (Byte texts)
  directive_statement named.Text texts = as_operand (one_operand texts >>= quoted) >>= λ text. Ok (Text text)
  directive_statement named.End texts = as_operand (optional_operand texts) >>= λ text. Ok (End text)

  abbrev pub instruction_statement : Option Mnemonic → List ℕ → Result Statement GplCause
  instruction_statement (Some found) field = skeleton look here found field >>= λ skeleton. Ok (Instruction skeleton)
  instruction_statement None field = Err UnknownOperation

  abbrev pub statement_by : Option Directive → List ℕ → List ℕ → Result Statement GplCause
  statement_by (Some found) operation field = directive_statement found (operand_texts field)
  statement_by None operation field = instruction_statement (mnemonic operation) field

  -- The statement of an operation field and an operand field: the operation, then the number of operands, then their
  -- forms, then the values that move locations.
  abbrev pub operation_statement : List ℕ → List ℕ → Result Statement GplCause
  operation_statement operation field = statement_by (directive operation) operation field

  abbrev pub statement_at : List ℕ → Option Span → Span → Result Statement GplCause
  statement_at line None operands = Ok Nothing
  statement_at line (Some operation) operands = operation_statement (part line operation) (part line operands)

-- How many bytes a line takes. Profile: DATA needs no even place.
-- Editor/Assembler manual, "Initialize Word", "Initialize Byte", "Initialize Text", "Block Starting with Symbol".
abbrev pub declared_size : Statement → ℕ
declared_size (Instruction skeleton) = size_of skeleton
declared_size (Bss size) = size
declared_size (Data texts) = 2 * length texts
declared_size (Byte texts) = length texts
declared_size (Text quoted) = length (characters quoted)
declared_size _ = 0
