-- What a line says: its operation with as many operands as it takes, in their forms.
use Rattle.std.specs.Prelude.{ℕ, Bool, if◌then◌else◌, List, [], ◌∷◌, map, Option, Some, None, Result, Ok, Err}
use Rattle.std.specs.List.{list_all}
use Rattle.source_defs.specs.declared.text.Span.{Span}
use Rattle.source_defs.specs.declared.causes.TextError.{TextError}
use Rattle.source_defs.specs.Refusals.{◌>>=◌}
use Rattle.source_defs.specs.declared.causes.OperandError.{OperandError}
use Rattle.source_defs.specs.declared.causes.OperandError.TheVariants.{Count, Form}
use Rattle.source_defs.specs.Characters.{upper_case}
use Rattle.source_defs.specs.Lines.{part}
use Rattle.source_defs.specs.Names.{is_name}
use Rattle.source_defs.specs.Fields.{Fields, fields}
use Rattle.source_defs.specs.Operands.{operand_texts}
use Rattle.source_defs.specs.OperandLists.{one_operand, optional_operand, operand_list}
use Rattle.source_defs.specs.QuotedTexts.{quoted}
use Rattle.instruction_defs.specs.declared.causes.FormError.{FormError}
use Rattle.instruction_defs.specs.declared.causes.FormError.TheVariants.{OperandCount, BadOperand}
use Rattle.instruction_defs.specs.FirstChecks.{line_size}
use Rattle.asm_defs.specs.declared.causes.AsmCause.{AsmCause}
use Rattle.asm_defs.specs.declared.causes.AsmCause.TheVariants as cause
use Rattle.asm_defs.specs.declared.directive.Directive.{Directive}
use Rattle.asm_defs.specs.declared.directive.Directive.TheVariants as named
use Rattle.asm_defs.specs.Directives.{directive}

-- What a line says: nothing; an instruction of a size, by its operation field and its operand field; or a directive
-- with its operands.
pub data Statement : Type 0 where
  Nothing : Statement
  Instruction : ℕ → List ℕ → List ℕ → Statement
  Aorg : List ℕ → Statement
  Rorg : Option (List ℕ) → Statement
  Dorg : List ℕ → Statement
  Bss : List ℕ → Statement
  Bes : List ℕ → Statement
  Even : Statement
  Equ : List ℕ → Statement
  Data : List (List ℕ) → Statement
  Byte : List (List ℕ) → Statement
  Text : List ℕ → Statement
  Def : List (List ℕ) → Statement
  Ref : List (List ℕ) → Statement
  Idt : List ℕ → Statement
  Titl : List ℕ → Statement
  End : Option (List ℕ) → Statement

-- a refusal by the rule of instruction lines
abbrev pub as_form : {A : Type 0} → Result A FormError → Result A AsmCause
as_form (Ok value) = Ok value
as_form (Err error) = Err (cause.Form error)

abbrev pub all_names : List (List ℕ) → Bool
all_names texts = list_all is_name texts

abbrev pub upper_names : List (List ℕ) → List (List ℕ)
upper_names texts = map (λ text. map upper_case text) texts

-- Profile: an operand of DEF or REF that is no name is refused for its form. Its letters are taken as upper case.
abbrev pub names_in : List (List ℕ) → Result (List (List ℕ)) OperandError
names_in [] = Err Count
names_in (text ∷ texts) = if all_names (text ∷ texts) then Ok (upper_names (text ∷ texts)) else Err Form

-- a refusal of operands, by the rule of instruction lines
abbrev pub as_operands : {A : Type 0} → Result A OperandError → Result A FormError
as_operands (Ok value) = Ok value
as_operands (Err Count) = Err OperandCount
as_operands (Err Form) = Err BadOperand

-- A directive with its operands. Profile: EVEN, PAGE, LIST and UNL ignore what comes after them in the line.
abbrev pub directive_statement : Directive → List (List ℕ) → Result Statement OperandError
directive_statement named.Aorg texts = one_operand texts >>= λ text. Ok (Aorg text)
directive_statement named.Rorg texts = optional_operand texts >>= λ text. Ok (Rorg text)
directive_statement named.Dorg texts = one_operand texts >>= λ text. Ok (Dorg text)
directive_statement named.Bss texts = one_operand texts >>= λ text. Ok (Bss text)
directive_statement named.Bes texts = one_operand texts >>= λ text. Ok (Bes text)
directive_statement named.Even texts = Ok Even
directive_statement named.Equ texts = one_operand texts >>= λ text. Ok (Equ text)
directive_statement named.Data texts = operand_list texts >>= λ texts. Ok (Data texts)
directive_statement named.Byte texts = operand_list texts >>= λ texts. Ok (Byte texts)
directive_statement named.Text texts = one_operand texts >>= λ text. quoted text >>= λ text. Ok (Text text)
directive_statement named.Def texts = names_in texts >>= λ names. Ok (Def names)
directive_statement named.Ref texts = names_in texts >>= λ names. Ok (Ref names)
directive_statement named.Idt texts = one_operand texts >>= λ text. Ok (Idt text)
directive_statement named.Titl texts = one_operand texts >>= λ text. Ok (Titl text)
directive_statement named.Quiet texts = Ok Nothing
directive_statement named.End texts = optional_operand texts >>= λ text. Ok (End text)

abbrev pub instruction_statement : List ℕ → List ℕ → Result Statement FormError
instruction_statement operation field = line_size operation field >>= λ size. Ok (Instruction size operation field)

-- the statement of an operation and its operand field: of a directive, if the operation is one, else of an instruction
abbrev pub statement_by : Option Directive → List ℕ → List ℕ → Result Statement FormError
statement_by (Some found) operation field = as_operands (directive_statement found (operand_texts field))
statement_by None operation field = instruction_statement operation field

-- the statement of an operation field and an operand field: the operation, then the number of operands, then their
-- forms
abbrev pub operation_statement : List ℕ → List ℕ → Result Statement AsmCause
operation_statement operation field = as_form (statement_by (directive operation) operation field)

abbrev pub statement_at : List ℕ → Option Span → Span → Result Statement AsmCause
statement_at line None operands = Ok Nothing
statement_at line (Some operation) operands = operation_statement (part line operation) (part line operands)

-- what a line with its fields says
unfoldable pub statement_in : List ℕ → Fields → Result Statement AsmCause
statement_in line found = statement_at line found.operation found.operands

-- a line that has no fields is refused for the cause that it has none
abbrev pub as_text : {A : Type 0} → Result A TextError → Result A AsmCause
as_text (Ok value) = Ok value
as_text (Err error) = Err (cause.Text error)

-- what a line says
abbrev pub parse_line : List ℕ → Result Statement AsmCause
parse_line line = do
  found ← as_text (fields line)
  statement_in line found
