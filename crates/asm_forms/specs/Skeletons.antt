-- What the first checks of the code leave, as the definitions have it.
use Rattle.std.specs.Prelude.{⊤, ℕ, List, Result, Ok, Err}
use Rattle.instruction_defs.specs.declared.causes.FormError.{FormError}
use Rattle.instruction_defs.specs.Forms.{Form}
use Rattle.instruction_defs.specs.FirstChecks as spec
use Rattle.asm_forms.specs.Forms.{model_of_form, LiesIn}
use Rattle.asm_forms.specs.UpToTwo.{items_of}
use Rattle.asm_forms.specs.declared.forms.Form.{Form as CodeForm}
use Rattle.asm_forms.specs.declared.up_to_two.UpToTwo.{UpToTwo}
use Rattle.asm_forms.specs.declared.up_to_two.UpToTwo.TheVariants.{None, One, Two}
use Rattle.asm_forms.specs.declared.first_checks.Skeleton.{Skeleton}
use Rattle.asm_forms.specs.declared.first_checks.Skeleton.TheVariants.{Word, Instruction}

-- by the operand field of the line
abbrev pub model_of_skeleton : List ℕ → Skeleton → spec.Skeleton
model_of_skeleton field (Word word) = spec.Word word
model_of_skeleton field (Instruction operation forms) =
    spec.Instruction operation (items_of (model_of_form field) forms)

abbrev pub skeleton_answer : List ℕ → Result Skeleton FormError → Result spec.Skeleton FormError
skeleton_answer field (Ok skeleton) = Ok (model_of_skeleton field skeleton)
skeleton_answer field (Err cause) = Err cause

abbrev pub forms_answer : List ℕ → Result (UpToTwo CodeForm) FormError → Result (List Form) FormError
forms_answer field (Ok forms) = Ok (items_of (model_of_form field) forms)
forms_answer field (Err cause) = Err cause

-- operands lie inside a field
abbrev pub AllLieIn : List ℕ → UpToTwo CodeForm → Type 0
AllLieIn field None = ⊤
AllLieIn field (One form) = LiesIn field form
AllLieIn field (Two first second) = LiesIn field first × LiesIn field second

abbrev pub IsOfField : List ℕ → Skeleton → Type 0
IsOfField field (Word word) = ⊤
IsOfField field (Instruction operation forms) = AllLieIn field forms
