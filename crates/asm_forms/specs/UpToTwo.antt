-- Up to two operands as a list.
use Rattle.std.specs.Prelude.{List, [], ◌∷◌}
use Rattle.instruction_defs.specs.declared.operand_kind.OperandKind.{OperandKind}
use Rattle.asm_forms.specs.declared.up_to_two.UpToTwo.{UpToTwo}
use Rattle.asm_forms.specs.declared.up_to_two.UpToTwo.TheVariants.{None, One, Two}

abbrev pub items_of : {A B : Type 0} → (A → B) → UpToTwo A → List B
items_of seen None = []
items_of seen (One item) = seen item ∷ []
items_of seen (Two first second) = seen first ∷ seen second ∷ []

abbrev pub kinds_in : UpToTwo OperandKind → List OperandKind
kinds_in kinds = items_of (λ kind. kind) kinds
