-- The instruction table.
use Rattle.std.specs.Prelude.{ℕ, ◌+◌, ◌*◌, ◌/◌, ◌%◌, ◌<◌, ◌==◌, if◌then◌else◌, Bool, true, false}
use Rattle.std.specs.Prelude.{bit_and, codes, List, [], ◌∷◌, ◌++◌, map, Option, Some, None, FitsSigned}
use Rattle.std.specs.Option.{option_map}
use Rattle.std.specs.Int.{w8, cast_signed, cast_unsigned}
use Rattle.tms_defs.specs.declared.instruction.TwoOp.{TwoOp}
use Rattle.tms_defs.specs.declared.instruction.TwoOp.TheVariants.{SZC, S, C, A, MOV, SOC}
use Rattle.tms_defs.specs.declared.instruction.RegOp.{RegOp}
use Rattle.tms_defs.specs.declared.instruction.RegOp.TheVariants.{COC, CZC, XOR, XOP, LDCR, STCR, MPY, DIV}
use Rattle.tms_defs.specs.declared.instruction.ShiftOp.{ShiftOp}
use Rattle.tms_defs.specs.declared.instruction.ShiftOp.TheVariants.{SRA, SRL, SLA, SRC}
use Rattle.tms_defs.specs.declared.instruction.OneOp.{OneOp}
use Rattle.tms_defs.specs.declared.instruction.OneOp.TheVariants.{BLWP, B, X, CLR, NEG, INV, INC, INCT, DEC, DECT}
use Rattle.tms_defs.specs.declared.instruction.OneOp.TheVariants.{BL, SWPB, SETO, ABS}
use Rattle.tms_defs.specs.declared.instruction.JumpOp.{JumpOp}
use Rattle.tms_defs.specs.declared.instruction.JumpOp.TheVariants.{JMP, JLT, JLE, JEQ, JHE, JGT, JNE, JNC, JOC, JNO}
use Rattle.tms_defs.specs.declared.instruction.JumpOp.TheVariants.{JL, JH, JOP, SBO, SBZ, TB}
use Rattle.tms_defs.specs.declared.instruction.ImmOp.{ImmOp}
use Rattle.tms_defs.specs.declared.instruction.ImmOp.TheVariants.{LI, AI, ANDI, ORI, CI, STWP, STST}
use Rattle.tms_defs.specs.declared.instruction.BareOp.{BareOp}
use Rattle.tms_defs.specs.declared.instruction.BareOp.TheVariants.{LWPI, LIMI, IDLE, RSET, RTWP, CKON, CKOF, LREX}
use Rattle.tms_defs.specs.declared.instruction.Operation.{Operation}
use Rattle.tms_defs.specs.declared.instruction.Operation.TheVariants.{Two, Reg, Shift, One, Jump, Imm, Bare}
use Rattle.tms_defs.specs.declared.instruction.Place.{Place}
use Rattle.tms_defs.specs.declared.instruction.Instr.{Instr}
use Rattle.tms_defs.specs.declared.instruction.Instr.TheVariants as instr

-- A row of the table: the code of an operation, which is its word with 0 in every place of an operand, and its name.
-- The codes are those of the TMS9900 data manual, in the sections that each family names, and the names those of the
-- Editor/Assembler manual, "Assembly Language Instructions".
pub record Row : Type 0 where
  pub code : ℕ
  pub name : List ℕ

abbrev pub row : ℕ → List ℕ → Row
row code name = record { code = code; name = name }

-- TMS9900 data manual, "Dual operand instructions with multiple addressing modes for source and destination operand".
abbrev pub two_row : TwoOp → Bool → Row
two_row SZC false = row 0x4000 (codes "SZC")
two_row SZC true = row 0x5000 (codes "SZCB")
two_row S false = row 0x6000 (codes "S")
two_row S true = row 0x7000 (codes "SB")
two_row C false = row 0x8000 (codes "C")
two_row C true = row 0x9000 (codes "CB")
two_row A false = row 0xA000 (codes "A")
two_row A true = row 0xB000 (codes "AB")
two_row MOV false = row 0xC000 (codes "MOV")
two_row MOV true = row 0xD000 (codes "MOVB")
two_row SOC false = row 0xE000 (codes "SOC")
two_row SOC true = row 0xF000 (codes "SOCB")

-- TMS9900 data manual, "Dual operand instructions with multiple addressing modes for the source operand and workspace
-- register addressing for the destination", "Extended operation (XOP) instruction", "CRU multiple-bit instructions".
abbrev pub reg_row : RegOp → Row
reg_row COC = row 0x2000 (codes "COC")
reg_row CZC = row 0x2400 (codes "CZC")
reg_row XOR = row 0x2800 (codes "XOR")
reg_row XOP = row 0x2C00 (codes "XOP")
reg_row LDCR = row 0x3000 (codes "LDCR")
reg_row STCR = row 0x3400 (codes "STCR")
reg_row MPY = row 0x3800 (codes "MPY")
reg_row DIV = row 0x3C00 (codes "DIV")

-- TMS9900 data manual, "Shift instructions".
abbrev pub shift_row : ShiftOp → Row
shift_row SRA = row 0x0800 (codes "SRA")
shift_row SRL = row 0x0900 (codes "SRL")
shift_row SLA = row 0x0A00 (codes "SLA")
shift_row SRC = row 0x0B00 (codes "SRC")

-- TMS9900 data manual, "Single operand instructions".
abbrev pub one_row : OneOp → Row
one_row BLWP = row 0x0400 (codes "BLWP")
one_row B = row 0x0440 (codes "B")
one_row X = row 0x0480 (codes "X")
one_row CLR = row 0x04C0 (codes "CLR")
one_row NEG = row 0x0500 (codes "NEG")
one_row INV = row 0x0540 (codes "INV")
one_row INC = row 0x0580 (codes "INC")
one_row INCT = row 0x05C0 (codes "INCT")
one_row DEC = row 0x0600 (codes "DEC")
one_row DECT = row 0x0640 (codes "DECT")
one_row BL = row 0x0680 (codes "BL")
one_row SWPB = row 0x06C0 (codes "SWPB")
one_row SETO = row 0x0700 (codes "SETO")
one_row ABS = row 0x0740 (codes "ABS")

-- TMS9900 data manual, "Jump instructions", "CRU single-bit instructions".
abbrev pub jump_row : JumpOp → Row
jump_row JMP = row 0x1000 (codes "JMP")
jump_row JLT = row 0x1100 (codes "JLT")
jump_row JLE = row 0x1200 (codes "JLE")
jump_row JEQ = row 0x1300 (codes "JEQ")
jump_row JHE = row 0x1400 (codes "JHE")
jump_row JGT = row 0x1500 (codes "JGT")
jump_row JNE = row 0x1600 (codes "JNE")
jump_row JNC = row 0x1700 (codes "JNC")
jump_row JOC = row 0x1800 (codes "JOC")
jump_row JNO = row 0x1900 (codes "JNO")
jump_row JL = row 0x1A00 (codes "JL")
jump_row JH = row 0x1B00 (codes "JH")
jump_row JOP = row 0x1C00 (codes "JOP")
jump_row SBO = row 0x1D00 (codes "SBO")
jump_row SBZ = row 0x1E00 (codes "SBZ")
jump_row TB = row 0x1F00 (codes "TB")

-- TMS9900 data manual, "Immediate register instructions", "Internal register store instructions".
abbrev pub imm_row : ImmOp → Row
imm_row LI = row 0x0200 (codes "LI")
imm_row AI = row 0x0220 (codes "AI")
imm_row ANDI = row 0x0240 (codes "ANDI")
imm_row ORI = row 0x0260 (codes "ORI")
imm_row CI = row 0x0280 (codes "CI")
imm_row STWP = row 0x02A0 (codes "STWP")
imm_row STST = row 0x02C0 (codes "STST")

-- TMS9900 data manual, "Internal register load immediate instructions", "Return workspace pointer (RTWP)
-- instruction", "External instructions".
abbrev pub bare_row : BareOp → Row
bare_row LWPI = row 0x02E0 (codes "LWPI")
bare_row LIMI = row 0x0300 (codes "LIMI")
bare_row IDLE = row 0x0340 (codes "IDLE")
bare_row RSET = row 0x0360 (codes "RSET")
bare_row RTWP = row 0x0380 (codes "RTWP")
bare_row CKON = row 0x03A0 (codes "CKON")
bare_row CKOF = row 0x03C0 (codes "CKOF")
bare_row LREX = row 0x03E0 (codes "LREX")

abbrev pub row_of : Operation → Row
row_of (Two op byte) = two_row op byte
row_of (Reg op) = reg_row op
row_of (Shift op) = shift_row op
row_of (One op) = one_row op
row_of (Jump op) = jump_row op
row_of (Imm op) = imm_row op
row_of (Bare op) = bare_row op

abbrev pub code_of : Operation → ℕ
code_of operation = (row_of operation).code

abbrev pub name_of : Operation → List ℕ
name_of operation = (row_of operation).name

-- The bits that the code fixes, by form. TMS9900 data manual, "Instructions", the formats.
-- Profile: where a form leaves places of its word unused, as below the register of LI, these are fixed too, as 0.
abbrev pub mask_of : Operation → ℕ
mask_of (Two op byte) = 0xF000
mask_of (Reg op) = 0xFC00
mask_of (Shift op) = 0xFF00
mask_of (One op) = 0xFFC0
mask_of (Jump op) = 0xFF00
mask_of (Imm op) = 0xFFF0
mask_of (Bare op) = 0xFFFF

abbrev pub two_operations : List TwoOp
two_operations = SZC ∷ S ∷ C ∷ A ∷ MOV ∷ SOC ∷ []

abbrev pub reg_operations : List RegOp
reg_operations = COC ∷ CZC ∷ XOR ∷ XOP ∷ LDCR ∷ STCR ∷ MPY ∷ DIV ∷ []

abbrev pub shift_operations : List ShiftOp
shift_operations = SRA ∷ SRL ∷ SLA ∷ SRC ∷ []

abbrev pub one_operations : List OneOp
one_operations = BLWP ∷ B ∷ X ∷ CLR ∷ NEG ∷ INV ∷ INC ∷ INCT ∷ DEC ∷ DECT ∷ BL ∷ SWPB ∷ SETO ∷ ABS ∷ []

abbrev pub jump_operations : List JumpOp
jump_operations =
    JMP ∷ JLT ∷ JLE ∷ JEQ ∷ JHE ∷ JGT ∷ JNE ∷ JNC ∷ JOC ∷ JNO ∷ JL ∷ JH ∷ JOP ∷ SBO ∷ SBZ ∷ TB ∷ []

abbrev pub imm_operations : List ImmOp
imm_operations = LI ∷ AI ∷ ANDI ∷ ORI ∷ CI ∷ STWP ∷ STST ∷ []

abbrev pub bare_operations : List BareOp
bare_operations = LWPI ∷ LIMI ∷ IDLE ∷ RSET ∷ RTWP ∷ CKON ∷ CKOF ∷ LREX ∷ []

-- The rows of the table, by form: those of two operands for words and for bytes.
-- TMS9900 data manual, "Instructions".
abbrev pub operations : List Operation
operations =
    map (λ op. Two op false) two_operations
    ++ (map (λ op. Two op true) two_operations
    ++ (map Reg reg_operations
    ++ (map Shift shift_operations
    ++ (map One one_operations
    ++ (map Jump jump_operations ++ (map Imm imm_operations ++ map Bare bare_operations))))))

-- A word belongs to the row whose mask leaves the row's code.
abbrev pub first_row : List Operation → ℕ → Option Operation
first_row [] word = None
first_row (operation ∷ rest) word =
    if bit_and word (mask_of operation) == code_of operation then Some operation else first_row rest word

abbrev pub operation_at : ℕ → Option Operation
operation_at word = first_row operations word

-- The source is in the low six bits of a word, the destination in the next six: two of mode, four of register.
-- TMS9900 data manual, "Instructions", the formats.
abbrev pub source_at : ℕ → Place
source_at word = record { mode = word / 16 % 4; reg = word % 16 }

abbrev pub destination_at : ℕ → Place
destination_at word = record { mode = word / 1024 % 4; reg = word / 64 % 16 }

abbrev pub source_word : Place → ℕ
source_word place = place.mode * 16 + place.reg

abbrev pub destination_word : Place → ℕ
destination_word place = place.mode * 1024 + place.reg * 64

-- An operation with the operands of a word; a displacement is its low byte, in two's complement.
-- TMS9900 data manual, "Instructions", the formats.
abbrev pub operands_at : Operation → ℕ → Instr
operands_at (Two op byte) word = instr.Two op byte (destination_at word) (source_at word)
operands_at (Reg op) word = instr.Reg op (word / 64 % 16) (source_at word)
operands_at (Shift op) word = instr.Shift op (word / 16 % 16) (word % 16)
operands_at (One op) word = instr.One op (source_at word)
operands_at (Jump op) word = instr.Jump op (cast_signed w8 (word % 256))
operands_at (Imm op) word = instr.Imm op (word % 16)
operands_at (Bare op) word = instr.Bare op

-- The instruction of a word, where it belongs to a row.
abbrev pub instr_at : ℕ → Option Instr
instr_at word = option_map (λ operation. operands_at operation word) (operation_at word)

abbrev pub operation_of : Instr → Operation
operation_of (instr.Two op byte dst src) = Two op byte
operation_of (instr.Reg op d src) = Reg op
operation_of (instr.Shift op count w) = Shift op
operation_of (instr.One op at) = One op
operation_of (instr.Jump op disp) = Jump op
operation_of (instr.Imm op w) = Imm op
operation_of (instr.Bare op) = Bare op

-- The operands have room in their places: modes below 4, and registers, counts and numbers below 16.
abbrev pub IsPlace : Place → Type 0
IsPlace place = (place.mode < 4) × (place.reg < 16)

abbrev pub HasRoom : Instr → Type 0
HasRoom (instr.Two op byte dst src) = IsPlace dst × IsPlace src
HasRoom (instr.Reg op d src) = (d < 16) × IsPlace src
HasRoom (instr.Shift op count w) = (count < 16) × (w < 16)
HasRoom (instr.One op at) = IsPlace at
HasRoom (instr.Jump op disp) = Unit {0}
HasRoom (instr.Imm op w) = w < 16
HasRoom (instr.Bare op) = Unit {0}

-- A displacement is a signed byte, as its type says.
abbrev pub HasSignedByte : Instr → Type 0
HasSignedByte (instr.Jump op disp) = FitsSigned w8 disp
HasSignedByte _ = Unit {0}

-- The operands of an instruction in their places of its word.
abbrev pub operands_word : Instr → ℕ
operands_word (instr.Two op byte dst src) = destination_word dst + source_word src
operands_word (instr.Reg op d src) = d * 64 + source_word src
operands_word (instr.Shift op count w) = count * 16 + w
operands_word (instr.One op at) = source_word at
operands_word (instr.Jump op disp) = cast_unsigned w8 disp
operands_word (instr.Imm op w) = w
operands_word (instr.Bare op) = 0

-- The word of an instruction: the code of its operation, and its operands in their places.
abbrev pub word_of : Instr → ℕ
word_of instr = code_of (operation_of instr) + operands_word instr
