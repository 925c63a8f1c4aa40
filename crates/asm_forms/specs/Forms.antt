-- What the code finds in a line, as the definitions have it.
use Rattle.std.specs.Prelude.{◌≤◌, ◌+◌, ⊤, ℕ, List, [], ◌∷◌, length, take, drop, slice_range, Result, Ok, Err}
use Rattle.instruction_defs.specs.declared.causes.FormError.{FormError}
use Rattle.instruction_defs.specs.declared.causes.FormError.TheVariants.{OperandCount}
use Rattle.source_defs.specs.Refusals.{◌>>=◌}
use Rattle.source_defs.specs.Parentheses.{last_place}
use Rattle.instruction_defs.specs.declared.operand_kind.OperandKind.{OperandKind}
use Rattle.instruction_defs.specs.Forms as spec
use Rattle.instruction_defs.specs.FirstChecks.{form_in}
use Rattle.asm_forms.specs.declared.forms.Form.{Form}
use Rattle.asm_forms.specs.declared.forms.Mode.{Mode}
use Rattle.asm_forms.specs.declared.forms.Mode.TheVariants.{Plain, Indirect, Increment, Symbolic, Indexed}

-- the text after a sign, cut at the parenthesis that opens at a place
abbrev pub indexed_at : ℕ → List ℕ → spec.Form
indexed_at place text = spec.Indexed (take place text) (slice_range text (place + 1) (last_place text))

-- the form of an operand that is written so
abbrev pub form_by : Mode → List ℕ → spec.Form
form_by Plain text = spec.Plain text
form_by Indirect text = spec.Indirect (drop 1 text)
form_by Increment text = spec.Increment (spec.without_last (drop 1 text))
form_by Symbolic text = spec.Symbolic (drop 1 text)
form_by (Indexed place) text = indexed_at place (drop 1 text)

-- an operand of a given length can be written so
abbrev pub HasRoom : Mode → ℕ → Type 0
HasRoom Plain count = ⊤
HasRoom Indirect count = 1 ≤ count
HasRoom Increment count = 2 ≤ count
HasRoom Symbolic count = 1 ≤ count
HasRoom (Indexed place) count = place + 3 ≤ count

-- the text of an operand of a field
abbrev pub operand_in : List ℕ → Form → List ℕ
operand_in field form = slice_range field form.start form.end

abbrev pub model_of_form : List ℕ → Form → spec.Form
model_of_form field form = form_by form.mode (operand_in field form)

-- an operand lies inside a field
pub record LiesIn (field : List ℕ) (form : Form) : Type 0 where
  pub in_order : form.start ≤ form.end
  pub in_field : form.end ≤ length field
  pub room : HasRoom form.mode (length (operand_in field form))

abbrev pub form_answer : List ℕ → Result Form FormError → Result spec.Form FormError
form_answer field (Ok form) = Ok (model_of_form field form)
form_answer field (Err cause) = Err cause

-- how an operand is written, as its form
abbrev pub mode_answer : List ℕ → Result Mode FormError → Result spec.Form FormError
mode_answer text (Ok mode) = Ok (form_by mode text)
mode_answer text (Err cause) = Err cause

-- the one text of a list, or the two, if it has just as many
abbrev pub just_one : List (List ℕ) → Result (List ℕ) FormError
just_one [] = Err OperandCount
just_one (text ∷ []) = Ok text
just_one (first ∷ second ∷ texts) = Err OperandCount

abbrev pub just_two : List (List ℕ) → Result (List ℕ × List ℕ) FormError
just_two [] = Err OperandCount
just_two (first ∷ []) = Err OperandCount
just_two (first ∷ second ∷ []) = Ok (first, second)
just_two (first ∷ second ∷ third ∷ texts) = Err OperandCount

-- the forms of two operands, from the left
abbrev pub both_forms : OperandKind → OperandKind → List ℕ → List ℕ → Result (List spec.Form) FormError
both_forms kind other first second = do
  form ← form_in kind first
  next ← form_in other second
  Ok (form ∷ next ∷ [])
