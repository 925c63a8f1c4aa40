-- The operands of each operation, in the order of the operand field, and the words that come after its first.
use Rattle.std.specs.Prelude.{ℕ, ◌+◌, ◌==◌, Bool, true, false, if◌then◌else◌, List, [], ◌∷◌}
use Rattle.tms_defs.specs.declared.instruction.Place.{Place}
use Rattle.tms_defs.specs.declared.instruction.RegOp.{RegOp}
use Rattle.tms_defs.specs.declared.instruction.RegOp.TheVariants.{COC, CZC, XOR, XOP, LDCR, STCR, MPY, DIV}
use Rattle.tms_defs.specs.declared.instruction.JumpOp.{JumpOp}
use Rattle.tms_defs.specs.declared.instruction.JumpOp.TheVariants.{SBO, SBZ, TB}
use Rattle.tms_defs.specs.declared.instruction.ImmOp.{ImmOp}
use Rattle.tms_defs.specs.declared.instruction.ImmOp.TheVariants.{STWP, STST}
use Rattle.tms_defs.specs.declared.instruction.BareOp.{BareOp}
use Rattle.tms_defs.specs.declared.instruction.BareOp.TheVariants.{LWPI, LIMI}
use Rattle.tms_defs.specs.declared.instruction.Operation.{Operation}
use Rattle.tms_defs.specs.declared.instruction.Operation.TheVariants as operation
use Rattle.tms_defs.specs.declared.instruction.Instr.{Instr}
use Rattle.tms_defs.specs.declared.instruction.Instr.TheVariants.{Two, Reg, Shift, One, Jump, Imm, Bare}
use Rattle.instruction_defs.specs.declared.operand_kind.OperandKind.{OperandKind}
use Rattle.instruction_defs.specs.declared.operand_kind.OperandKind.TheVariants.{General, Register, Count, Immediate}
use Rattle.instruction_defs.specs.declared.operand_kind.OperandKind.TheVariants.{Target, Displacement}
use Rattle.base_defs.specs.Counts.{one_if}

-- The operation on a register takes a word that follows.
-- TMS9900 data manual, "Immediate register instructions", "Internal register store instructions".
abbrev pub has_immediate : ImmOp → Bool
has_immediate STWP = false
has_immediate STST = false
has_immediate _ = true

-- The operation without register takes a word that follows.
-- TMS9900 data manual, "Internal register load immediate instructions".
abbrev pub has_value : BareOp → Bool
has_value LWPI = true
has_value LIMI = true
has_value _ = false

-- An operand in mode 2 has a word that follows, its address. TMS9900 data manual, "Addressing modes".
abbrev pub following_words : Place → ℕ
following_words place = if place.mode == 2 then 1 else 0

-- How many words an instruction has: its first, and the words of its operands.
abbrev pub size_in_words : Instr → ℕ
size_in_words (Two op byte dst src) = 1 + following_words src + following_words dst
size_in_words (Reg op number src) = 1 + following_words src
size_in_words (Shift op count number) = 1
size_in_words (One op at) = 1 + following_words at
size_in_words (Jump op disp) = 1
size_in_words (Imm op number) = 1 + one_if (has_immediate op)
size_in_words (Bare op) = 1 + one_if (has_value op)

-- The operands of an operation, in the order of the operand field.
-- Editor/Assembler manual, "Assembly Language Instructions".
abbrev pub reg_kinds : RegOp → List OperandKind
reg_kinds COC = General ∷ Register ∷ []
reg_kinds CZC = General ∷ Register ∷ []
reg_kinds XOR = General ∷ Register ∷ []
reg_kinds XOP = General ∷ Count ∷ []
reg_kinds LDCR = General ∷ Count ∷ []
reg_kinds STCR = General ∷ Count ∷ []
reg_kinds MPY = General ∷ Register ∷ []
reg_kinds DIV = General ∷ Register ∷ []

abbrev pub jump_kinds : JumpOp → List OperandKind
jump_kinds SBO = Displacement ∷ []
jump_kinds SBZ = Displacement ∷ []
jump_kinds TB = Displacement ∷ []
jump_kinds op = Target ∷ []

abbrev pub kinds_of : Operation → List OperandKind
kinds_of (operation.Two op byte) = General ∷ General ∷ []
kinds_of (operation.Reg op) = reg_kinds op
kinds_of (operation.Shift op) = Register ∷ Count ∷ []
kinds_of (operation.One op) = General ∷ []
kinds_of (operation.Jump op) = jump_kinds op
kinds_of (operation.Imm op) = if has_immediate op then Register ∷ Immediate ∷ [] else Register ∷ []
kinds_of (operation.Bare op) = if has_value op then Immediate ∷ [] else []
