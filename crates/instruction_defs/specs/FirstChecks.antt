-- The first checks of an instruction line. Profile: the operation is asked first, then the number of its operands, then
-- their forms.
use Rattle.std.specs.Prelude.{ℕ, ◌+◌, ◌*◌, ◌==◌, Bool, ◌||◌, if◌then◌else◌, List, [], ◌∷◌, length, slice_index, Option}
use Rattle.std.specs.Prelude.{Some, None, Result, Ok, Err}
use Rattle.source_defs.specs.Characters.{is_asterisk, is_at_sign}
use Rattle.source_defs.specs.Refusals.{◌>>=◌}
use Rattle.source_defs.specs.Operands.{operand_texts}
use Rattle.tms_defs.specs.declared.instruction.Operation.{Operation}
use Rattle.instruction_defs.specs.declared.causes.FormError.{FormError}
use Rattle.instruction_defs.specs.declared.causes.FormError.TheVariants.{UnknownOperation, OperandCount, BadOperand}
use Rattle.instruction_defs.specs.declared.mnemonic.Mnemonic.{Mnemonic}
use Rattle.instruction_defs.specs.declared.mnemonic.Mnemonic.TheVariants.{Of, Fixed}
use Rattle.instruction_defs.specs.declared.operand_kind.OperandKind.{OperandKind}
use Rattle.instruction_defs.specs.declared.operand_kind.OperandKind.TheVariants.{General, Immediate}
use Rattle.instruction_defs.specs.Operations.{mnemonic}
use Rattle.instruction_defs.specs.Operands.{kinds_of}
use Rattle.instruction_defs.specs.Forms.{Form, Plain, Symbolic, Indexed, form_of}

-- What the first checks leave of a line: a word that has a name of its own, or an operation with the forms of its
-- operands.
pub data Skeleton : Type 0 where
  Word : ℕ → Skeleton
  Instruction : Operation → List Form → Skeleton

-- An expression alone begins with neither * nor @. Profile: an operand that does is refused for its form.
abbrev pub is_mode_sign : ℕ → Bool
is_mode_sign byte = is_asterisk byte || is_at_sign byte

abbrev pub form_without_mode : List ℕ → Result Form FormError
form_without_mode text = if is_mode_sign (slice_index text 0) then Err BadOperand else Ok (Plain text)

abbrev pub form_by : OperandKind → List ℕ → Result Form FormError
form_by General text = Ok (form_of text)
form_by _ text = form_without_mode text

-- Profile: an empty operand is refused for its form.
abbrev pub form_in : OperandKind → List ℕ → Result Form FormError
form_in kind [] = Err BadOperand
form_in kind (byte ∷ bytes) = form_by kind (byte ∷ bytes)

-- the forms of the operands of these kinds, one form a kind, from the left
abbrev pub forms_in : List OperandKind → List (List ℕ) → Result (List Form) FormError
forms_in [] [] = Ok []
forms_in (kind ∷ kinds) (text ∷ texts) = do
  form ← form_in kind text
  forms ← forms_in kinds texts
  Ok (form ∷ forms)
forms_in _ _ = Err OperandCount

abbrev pub operand_forms : List OperandKind → List (List ℕ) → Result (List Form) FormError
operand_forms kinds texts = if length texts == length kinds then forms_in kinds texts else Err OperandCount

-- the forms of the operands of a field
-- Profile: an operation without operands ignores the rest of its line.
abbrev pub forms_of : List OperandKind → List ℕ → Result (List Form) FormError
forms_of [] field = Ok []
forms_of (kind ∷ kinds) field = operand_forms (kind ∷ kinds) (operand_texts field)

abbrev pub skeleton_of : Option Mnemonic → List ℕ → Result Skeleton FormError
skeleton_of None field = Err UnknownOperation
skeleton_of (Some (Fixed word)) field = Ok (Word word)
skeleton_of (Some (Of operation)) field = do
  forms ← forms_of (kinds_of operation) field
  Ok (Instruction operation forms)

-- The first checks, of an operation field and an operand field.
unfoldable pub first_checks : List ℕ → List ℕ → Result Skeleton FormError
first_checks operation field = skeleton_of (mnemonic operation) field

-- how many words follow for an operand
abbrev pub form_words : Form → ℕ
form_words (Symbolic text) = 1
form_words (Indexed text index) = 1
form_words _ = 0

abbrev pub words_after : OperandKind → Form → ℕ
words_after General form = form_words form
words_after Immediate form = 1
words_after _ form = 0

abbrev pub all_words_after : List OperandKind → List Form → ℕ
all_words_after (kind ∷ kinds) (form ∷ forms) = words_after kind form + all_words_after kinds forms
all_words_after _ _ = 0

-- how many bytes the words of a line take
abbrev pub size_of : Skeleton → ℕ
size_of (Word word) = 2
size_of (Instruction operation forms) = 2 * (1 + all_words_after (kinds_of operation) forms)

-- the size of an instruction line, or why the first checks refuse it
abbrev pub line_size : List ℕ → List ℕ → Result ℕ FormError
line_size operation field = first_checks operation field >>= λ skeleton. Ok (size_of skeleton)
